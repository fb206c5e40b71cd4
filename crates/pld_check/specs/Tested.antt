-- Sound programs, told by a test.
use Rattle.std.specs.Prelude.{ℕ, ◌^◌, Bool, true, ◌&&◌, nat_le, nat_lt, List, [], ◌∷◌, length, sum}
use Rattle.pld_ast.specs.Program.{Value, Number, Scalar, Element, Op1, Op2, Action, Skip, Then, Assign, Store, Read, ReadInto, Write, Choose, Repeat, Return, Program}
use Rattle.pld_ast.specs.Nodes.{action_nodes}

-- whether each scalar and array of a value is declared, and each number is a word
abbrev pub knows_value : Program → Value → Bool
knows_value g (Number v) = nat_lt v (2 ^ 32)
knows_value g (Scalar s) = nat_lt s g.scalars
knows_value g (Element t e) = nat_lt t (length g.lengths) && knows_value g e
knows_value g (Op1 o a) = knows_value g a
knows_value g (Op2 o a b) = knows_value g a && knows_value g b

-- whether each scalar, array and port of an action is declared, and each number is a word
abbrev pub knows : Program → Action → Bool
knows g Skip = true
knows g (Then a b) = knows g a && knows g b
knows g (Assign s e) = nat_lt s g.scalars && knows_value g e
knows g (Store t i e) = nat_lt t (length g.lengths) && (knows_value g i && knows_value g e)
knows g (Read s q) = nat_lt s g.scalars && nat_lt q g.ins
knows g (ReadInto t i q) = nat_lt t (length g.lengths) && (knows_value g i && nat_lt q g.ins)
knows g (Write q e) = nat_lt q g.outs && knows_value g e
knows g (Choose e a b) = knows_value g e && (knows g a && knows g b)
knows g (Repeat e a) = knows_value g e && knows g a
knows g Return = true

-- whether each array has a word at least
abbrev pub are_filled : List ℕ → Bool
are_filled [] = true
are_filled (n ∷ lengths) = nat_le 1 n && are_filled lengths

-- whether the names are declared, and there is no more of anything than the language allows
abbrev pub is_sound : Program → Bool
is_sound g =
    (nat_le g.ins 8 && nat_le g.outs 8)
    && ((nat_le g.scalars 64 && nat_le (length g.lengths) 16)
    && ((are_filled g.lengths && nat_le (sum g.lengths) 8192)
    && (nat_le (action_nodes g.body) 1000 && knows g g.body)))
