-- What a first wrong name is, and a use that isn't wrong.
use Rattle.std.specs.Prelude.{◌≡◌, false, List, [], ◌∷◌}
use Rattle.pld_base.specs.declared.fault.SourceFault.{SourceFault}
use Rattle.pld_check.specs.Uses.{Mention}
use Rattle.pld_check.specs.Faults.{precedes, place_of}

pub data IsAmong {A : Type 0} (a : A) : List A → Type 0 where
  here : {rest : List A} → IsAmong a (a ∷ rest)
  there : {b : A} {rest : List A} → IsAmong a rest → IsAmong a (b ∷ rest)

-- none of these faults stands before f in the text
abbrev pub NoneBefore : SourceFault → List SourceFault → Type 0
NoneBefore f [] = Unit {0}
NoneBefore f (g ∷ fs) = (precedes (place_of g) (place_of f) ≡ false) × NoneBefore f fs

-- f is one of these faults, and none stands before it
pub record IsFirst (f : SourceFault) (fs : List SourceFault) : Type 0 where
  pub among : IsAmong f fs
  pub first : NoneBefore f fs

-- this use is of a name that is declared no later, as what it is used as
pub record IsDeclared (ds : List Mention) (use' : Mention) : Type 0 where
  pub by : Mention
  pub among : IsAmong by ds
  pub name : by.name ≡ use'.name
  pub role : by.role ≡ use'.role
  pub before : precedes use'.at by.at ≡ false
