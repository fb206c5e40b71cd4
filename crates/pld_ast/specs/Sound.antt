-- A program with known names, within the limits of the language.
use Rattle.std.specs.Prelude.{ℕ, ◌<◌, ◌≤◌, length, sum, slice_index}
use Rattle.pld_base.specs.Words.{IsWord}
use Rattle.pld_ast.specs.Program.{Value, Number, Scalar, Element, Op1, Op2, Action, Skip, Then, Assign, Store, Read, ReadInto, Write, Choose, Repeat, Return, Program}
use Rattle.pld_ast.specs.Nodes.{action_nodes}

-- each scalar and array of a value is declared, and each number is a word
abbrev pub IsKnownValue : Program → Value → Type 0
IsKnownValue g (Number v) = IsWord v
IsKnownValue g (Scalar s) = s < g.scalars
IsKnownValue g (Element t e) = (t < length g.lengths) × IsKnownValue g e
IsKnownValue g (Op1 o a) = IsKnownValue g a
IsKnownValue g (Op2 o a b) = IsKnownValue g a × IsKnownValue g b

-- each scalar, array and port of an action is declared, and each number is a word
abbrev pub IsKnown : Program → Action → Type 0
IsKnown g Skip = Unit {0}
IsKnown g (Then a b) = IsKnown g a × IsKnown g b
IsKnown g (Assign s e) = (s < g.scalars) × IsKnownValue g e
IsKnown g (Store t i e) = (t < length g.lengths) × IsKnownValue g i × IsKnownValue g e
IsKnown g (Read s q) = (s < g.scalars) × (q < g.ins)
IsKnown g (ReadInto t i q) = (t < length g.lengths) × IsKnownValue g i × (q < g.ins)
IsKnown g (Write q e) = (q < g.outs) × IsKnownValue g e
IsKnown g (Choose e a b) = IsKnownValue g e × IsKnown g a × IsKnown g b
IsKnown g (Repeat e a) = IsKnownValue g e × IsKnown g a
IsKnown g Return = Unit {0}

-- names that are declared, and no more of anything than the language allows
pub record IsSound (g : Program) : Type 0 where
  pub ins : g.ins ≤ 8
  pub outs : g.outs ≤ 8
  pub scalars : g.scalars ≤ 64
  pub arrays : length g.lengths ≤ 16
  -- each array has an element
  pub some : (t : ℕ) → t < length g.lengths → 1 ≤ slice_index g.lengths t
  pub words : sum g.lengths ≤ 8192
  pub nodes : action_nodes g.body ≤ 1000
  pub known : IsKnown g g.body
