-- What stands under each name of an operator.
use Rattle.std.specs.Prelude.{ℕ, Bool, false, not, List, [], ◌∷◌, Option, Some, None, ◌≡◌, if◌then◌else◌}
use Rattle.std.specs.Str.{bytes_eq}
use Rattle.std.specs.Map.{lookup}
use Rattle.pld_base.specs.declared.event.Place.{Place}
use Rattle.pld_check.specs.declared.roles.Role.{Role}
use Rattle.pld_check.specs.declared.scope.Declared.{Declared}
use Rattle.pld_check.specs.Uses.{Mention}
use Rattle.pld_check.specs.Faults.{precedes}

-- of two places the one that stands first in the text
abbrev pub sooner : Option Place → Place → Place
sooner None at = at
sooner (Some p) at = if precedes at p then at else p

-- one more declaration of a name: its first place in the text gives the role, its second one is kept
abbrev pub with_one : Option Declared → Mention → Declared
with_one None d = record { role = d.role; at = d.at; again = None }
with_one (Some f) d =
    if precedes d.at f.at then record { role = d.role; at = d.at; again = Some f.at }
    else record { role = f.role; at = f.at; again = Some (sooner f.again d.at) }

-- what stands under a name after these declarations, where this stood before
abbrev pub declared_from : Option Declared → List ℕ → List Mention → Option Declared
declared_from before name [] = before
declared_from before name (d ∷ ds) = declared_from (if bytes_eq d.name name then Some (with_one before d) else before) name ds

abbrev pub declared_as : List ℕ → List Mention → Option Declared
declared_as name ds = declared_from None name ds

-- each name leads to what stands under it
abbrev pub IsScopeOf : List Mention → List (List ℕ × Declared) → Type 0
IsScopeOf ds es = (name : List ℕ) → lookup (bytes_eq name) es ≡ declared_as name ds

-- it is declared at this place or before
abbrev pub reaches : Option Place → Place → Bool
reaches None at = false
reaches (Some p) at = not (precedes at p)

-- it is declared twice up to this place
abbrev pub is_again : Option Declared → Place → Bool
is_again None at = false
is_again (Some f) at = reaches f.again at

-- as what it is declared up to this place, where it isn't declared twice
abbrev pub role_at : Option Declared → Place → Option Role
role_at None at = None
role_at (Some f) at = if precedes at f.at then None else Some f.role
