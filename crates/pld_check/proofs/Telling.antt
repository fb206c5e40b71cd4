-- The test of sound programs tells just these.
use Rattle.std.proofs.Common.{◌≡◌, ℕ, ◌<◌, ◌≤◌, ◌^◌, List, [], ◌∷◌, length, Bool, true, false, refl, sym, arith}
use Rattle.std.proofs.lemmas.Bool.Decides.{nat_tests}
use Rattle.std.specs.Prelude.{◌&&◌, nat_le, nat_lt, sum}
use Rattle.pld_ast.specs.Program.{Value, Number, Scalar, Element, Op1, Op2, Action, Skip, Then, Assign, Store, Read, ReadInto, Write, Choose, Repeat, Return, Program}
use Rattle.pld_ast.specs.Nodes.{action_nodes}
use Rattle.pld_ast.specs.Sound.{IsKnownValue, IsKnown, IsSound}
use Rattle.pld_check.specs.Known.{AreFilled}
use Rattle.pld_check.specs.Tested.{knows_value, knows, are_filled, is_sound}
use Rattle.pld_check.proofs.Parts.{Tells, both_tell, none_filled, filled_on, filled_first, filled_rest}

less_tells : (a b : ℕ) → Tells (nat_lt a b) (a < b)
less_tells a b = (λ h. grind (arith, nat_tests, h), λ h. grind (arith, nat_tests, h))

most_tells : (a b : ℕ) → Tells (nat_le a b) (a ≤ b)
most_tells a b = (λ h. grind (arith, nat_tests, h), λ h. grind (arith, nat_tests, h))

both : {A B : Type 0} (a b : Bool) → Tells a A → Tells b B → Tells (a && b) (A × B)
both a b f g = both_tell a b (a && b) refl f g

three : {A B C : Type 0} (a b c : Bool) → Tells a A → Tells b B → Tells c C → Tells (a && (b && c)) (A × B × C)
three a b c f g h = let all = both a (b && c) f (both b c g h) in (λ k. let r = all.0 k in (r.0, r.1.0, r.1.1), λ k. all.1 (k.0, (k.1, k.2)))

module _ (g : Program) where
  value_tells : (v : Value) → Tells (knows_value g v) (IsKnownValue g v)
  value_tells (Number v) = less_tells v (2 ^ 32)
  value_tells (Scalar s) = less_tells s g.scalars
  value_tells (Element t e) = both _ _ (less_tells t (length g.lengths)) (value_tells e)
  value_tells (Op1 o a) = value_tells a
  value_tells (Op2 o a b) = both _ _ (value_tells a) (value_tells b)

  action_tells : (a : Action) → Tells (knows g a) (IsKnown g a)
  action_tells Skip = (λ h. _, λ h. refl)
  action_tells (Then a b) = both _ _ (action_tells a) (action_tells b)
  action_tells (Assign s e) = both _ _ (less_tells s g.scalars) (value_tells e)
  action_tells (Store t i e) = three _ _ _ (less_tells t (length g.lengths)) (value_tells i) (value_tells e)
  action_tells (Read s q) = both _ _ (less_tells s g.scalars) (less_tells q g.ins)
  action_tells (ReadInto t i q) = three _ _ _ (less_tells t (length g.lengths)) (value_tells i) (less_tells q g.ins)
  action_tells (Write q e) = both _ _ (less_tells q g.outs) (value_tells e)
  action_tells (Choose e a b) = three _ _ _ (value_tells e) (action_tells a) (action_tells b)
  action_tells (Repeat e a) = both _ _ (value_tells e) (action_tells a)
  action_tells Return = (λ h. _, λ h. refl)

filled_tells : (lengths : List ℕ) → Tells (are_filled lengths) (AreFilled lengths)
filled_tells [] = (λ h. none_filled, λ h. refl)
filled_tells (n ∷ lengths) =
    let all = both (nat_le 1 n) (are_filled lengths) (most_tells 1 n) (filled_tells lengths) in
    (λ h. filled_on n lengths (all.0 h).0 (all.0 h).1, λ h. all.1 (filled_first n lengths h, filled_rest n lengths h))

pub sound_tells : (g : Program) → Tells (is_sound g) (IsSound g)
sound_tells g =
    let ports = both (nat_le g.ins 8) (nat_le g.outs 8) (most_tells g.ins 8) (most_tells g.outs 8) in
    let names = both (nat_le g.scalars 64) (nat_le (length g.lengths) 16) (most_tells g.scalars 64) (most_tells (length g.lengths) 16) in
    let words = both (are_filled g.lengths) (nat_le (sum g.lengths) 8192) (filled_tells g.lengths) (most_tells (sum g.lengths) 8192) in
    let body = both (nat_le (action_nodes g.body) 1000) (knows g g.body) (most_tells (action_nodes g.body) 1000) (action_tells g g.body) in
    let all = both _ _ ports (both _ _ names (both _ _ words body)) in (
      λ k. let r = all.0 k in record { ins = r.0.0; outs = r.0.1; scalars = r.1.0.0; arrays = r.1.0.1; some = r.1.1.0.0; words = r.1.1.0.1; nodes = r.1.1.1.0; known = r.1.1.1.1 },
      λ h. all.1 ((h.ins, h.outs), ((h.scalars, h.arrays), ((h.some, h.words), (h.nodes, h.known)))),
    )

-- two tests of one thing
pub same_test : {A : Type 0} (a b : Bool) → Tells a A → Tells b A → a ≡ b
same_test true true f g = refl
same_test true false f g = sym (g.1 (f.0 refl))
same_test false true f g = f.1 (g.0 refl)
same_test false false f g = refl
