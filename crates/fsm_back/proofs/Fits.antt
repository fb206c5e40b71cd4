-- A program whose scalars have registers.
use Rattle.std.proofs.Common.{◌<◌, ◌≤◌, arith}
use Rattle.pld_ast.specs.Program.{Value, Number, Scalar, Element, Op1, Op2, Action, Skip, Then, Assign, Store, Read, ReadInto, Write, Choose, Repeat, Return, Program}
use Rattle.pld_ast.specs.Sound.{IsKnownValue, IsKnown}

abbrev pub KnownValue : Value → Type 0
KnownValue (Number v) = Unit {0}
KnownValue (Scalar s) = s < 64
KnownValue (Element u e) = KnownValue e
KnownValue (Op1 o a) = KnownValue a
KnownValue (Op2 o a b) = KnownValue a × KnownValue b

-- each scalar has a register below the temporaries
abbrev pub KnownAction : Action → Type 0
KnownAction Skip = Unit {0}
KnownAction (Then a b) = KnownAction a × KnownAction b
KnownAction (Assign s e) = (s < 64) × KnownValue e
KnownAction (Store u i e) = KnownValue i × KnownValue e
KnownAction (Read s p) = s < 64
KnownAction (ReadInto u i p) = KnownValue i
KnownAction (Write p e) = KnownValue e
KnownAction (Choose e a b) = KnownValue e × KnownAction a × KnownAction b
KnownAction (Repeat e a) = KnownValue e × KnownAction a
KnownAction Return = Unit {0}

pub known_value : (g : Program) (e : Value) → g.scalars ≤ 64 → IsKnownValue g e → KnownValue e
known_value g (Number v) h k = tt
known_value g (Scalar s) h k = omega (arith, h, k)
known_value g (Element u e) h k = known_value g e h k.1
known_value g (Op1 o a) h k = known_value g a h k
known_value g (Op2 o a b) h k = (known_value g a h k.0, known_value g b h k.1)

-- a program with known names and at most 64 scalars
pub known_action : (g : Program) (a : Action) → g.scalars ≤ 64 → IsKnown g a → KnownAction a
known_action g Skip h k = tt
known_action g (Then a b) h k = (known_action g a h k.0, known_action g b h k.1)
known_action g (Assign s e) h k = (omega (arith, h, k.0), known_value g e h k.1)
known_action g (Store u i e) h k = (known_value g i h k.1, known_value g e h k.2)
known_action g (Read s p) h k = omega (arith, h, k.0)
known_action g (ReadInto u i p) h k = known_value g i h k.1
known_action g (Write p e) h k = known_value g e h k.1
known_action g (Choose e a b) h k = (known_value g e h k.0, known_action g a h k.1, known_action g b h k.2)
known_action g (Repeat e a) h k = (known_value g e h k.0, known_action g a h k.1)
known_action g Return h k = tt
