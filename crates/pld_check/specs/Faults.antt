-- The first wrong name of an operator, and then the limits that it passes.
use Rattle.std.specs.Prelude.{ℕ, suc, ◌+◌, ◌==◌, Bool, ◌||◌, ◌&&◌, not, nat_le, nat_lt, List, [], ◌∷◌, ◌++◌, filter, slice_get, Option, Some, None, IfNone, ◌≡◌, if◌then◌else◌}
use Rattle.std.specs.List.{filter_map}
use Rattle.std.specs.Str.{bytes_eq}
use Rattle.pld_base.specs.declared.event.Place.{Place}
use Rattle.pld_base.specs.declared.event.Side.{Side}
use Rattle.pld_base.specs.declared.event.Side.TheVariants as side
use Rattle.pld_base.specs.declared.memory.Refused.{Refused}
use Rattle.pld_base.specs.declared.memory.Refused.TheVariants.{Fault, NoMemory}
use Rattle.pld_base.specs.declared.fault.SourceFault.{SourceFault}
use Rattle.pld_base.specs.declared.fault.FaultKind.{FaultKind}
use Rattle.pld_base.specs.declared.fault.FaultKind.TheVariants.{UnknownName, NameTwice, WrongKind, WrongDirection, TooLarge}
use Rattle.pld_base.specs.declared.fault.Limit.{Limit}
use Rattle.pld_base.specs.declared.fault.Limit.TheVariants as limit
use Rattle.pld_ast.specs.declared.tree.Port.{Port}
use Rattle.pld_ast.specs.declared.tree.Array.{Array}
use Rattle.pld_ast.specs.declared.tree.Operator.{Operator}
use Rattle.pld_ast.specs.Nodes.{action_nodes}
use Rattle.pld_ast.specs.Resolve.{is_at, program_of}
use Rattle.pld_check.specs.declared.roles.Role.{Role}
use Rattle.pld_check.specs.declared.roles.Role.TheVariants as role
use Rattle.pld_check.specs.Known.{IsScalar, IsArray, IsPort}
use Rattle.pld_check.specs.Uses.{Mention, declarations, block_uses}

-- p stands before q in the text
abbrev pub precedes : Place → Place → Bool
precedes p q = nat_lt p.line q.line || ((p.line == q.line) && nat_lt p.column q.column)

-- this declaration is of this name, and stands no later than this place
abbrev pub declares : List ℕ → Place → Mention → Bool
declares name at d = bytes_eq d.name name && not (precedes at d.at)

-- what a name is known as at a place
abbrev pub known_as : List Mention → List ℕ → Place → Option Role
known_as [] name at = None
known_as (d ∷ ds) name at = if declares name at d then Some d.role else known_as ds name at

-- the first of the two that is there
abbrev pub or_else : {A : Type 0} → Option A → Option A → Option A
or_else (Some a) other = Some a
or_else None other = other

-- how often a name is declared up to a place
abbrev pub times_declared : List Mention → List ℕ → Place → ℕ
times_declared [] name at = 0
times_declared (d ∷ ds) name at = if declares name at d then suc (times_declared ds name at) else times_declared ds name at

abbrev pub fault_at : FaultKind → Place → SourceFault
fault_at kind at = record { kind = kind; line = at.line; column = at.column }

-- a declaration of a name that is declared twice up to there
abbrev pub twice_at : List Mention → List ℕ → Place → Option SourceFault
twice_at ds name at = if nat_le 2 (times_declared ds name at) then Some (fault_at NameTwice at) else None

abbrev pub twice_in : List Mention → Mention → Option SourceFault
twice_in ds d = twice_at ds d.name d.at

-- what is wrong where a name that is declared as the one is used as the other
abbrev pub misuse : Role → Role → Option FaultKind
misuse role.Input role.Input = None
misuse role.Input role.Output = Some WrongDirection
misuse role.Output role.Input = Some WrongDirection
misuse role.Output role.Output = None
misuse role.Scalar role.Scalar = None
misuse role.Array role.Array = None
misuse _ _ = Some WrongKind

abbrev pub if_wrong : Option FaultKind → Place → Option SourceFault
if_wrong (Some kind) at = Some (fault_at kind at)
if_wrong None at = None

-- what is wrong with a use of a name that is known as this
abbrev pub use_fault : Option Role → Mention → Option SourceFault
use_fault (Some declared) m = if_wrong (misuse declared m.role) m.at
use_fault None m = Some (fault_at UnknownName m.at)

abbrev pub misused_in : List Mention → Mention → Option SourceFault
misused_in ds m = use_fault (known_as ds m.name m.at) m

-- all wrong names, each with its fault
abbrev pub wrong_names : Operator → List SourceFault
wrong_names op = filter_map (twice_in (declarations op)) (declarations op) ++ filter_map (misused_in (declarations op)) (block_uses op.body)

abbrev pub place_of : SourceFault → Place
place_of f = record { line = f.line; column = f.column }

-- of two faults the one that stands first in the text
abbrev pub first_of : SourceFault → SourceFault → SourceFault
first_of f g = if precedes (place_of g) (place_of f) then g else f

abbrev pub earlier : Option SourceFault → Option SourceFault → Option SourceFault
earlier None b = b
earlier (Some f) None = Some f
earlier (Some f) (Some g) = Some (first_of f g)

-- the fault that stands first in the text
abbrev pub least : List SourceFault → Option SourceFault
least [] = None
least (f ∷ fs) = earlier (Some f) (least fs)

-- the first of these declarations that is a second one
abbrev pub first_twice : Operator → List Mention → Option SourceFault
first_twice op ds = least (filter_map (twice_in (declarations op)) ds)

-- the first of these uses that is wrong
abbrev pub first_misused : Operator → List Mention → Option SourceFault
first_misused op ms = least (filter_map (misused_in (declarations op)) ms)

-- the first second declaration, or what is found where that stands before it
abbrev pub told : Operator → Option SourceFault → Option SourceFault
told op found = earlier (first_twice op (declarations op)) found

-- the first wrong use is found, if no second declaration stands before it; where there is none of both, this holds
pub record Walked (op : Operator) (found : Option SourceFault) (ms : List Mention) (Known : Type 0) : Type 0 where
  pub first : told op found ≡ told op (first_misused op ms)
  pub known : IfNone (told op found) Known

-- there is a name of this role
abbrev pub IsRole : Operator → Role → List ℕ → Type 0
IsRole op role.Input name = IsPort op side.In name
IsRole op role.Output name = IsPort op side.Out name
IsRole op role.Scalar name = IsScalar op name
IsRole op role.Array name = IsArray op name

-- a limit that is passed at this place
abbrev pub passed : Limit → Option Place → Option SourceFault
passed l (Some at) = Some (fault_at (TooLarge l) at)
passed l None = None

abbrev pub place_in_text : {A : Type 0} → (A → Place) → Option A → Option Place
place_in_text at (Some a) = Some (at a)
place_in_text at None = None

-- the place of the array with which there are more than 8,192 words, where n come before these
abbrev pub words_passed : ℕ → List Array → Option Place
words_passed n [] = None
words_passed n (a ∷ arrays) = if nat_lt 8192 (n + a.len) then Some a.at else words_passed (n + a.len) arrays

-- the ninth port of a side
abbrev pub ports_passed : Side → List Port → Option Place
ports_passed s ports = place_in_text (λ q. q.at) (slice_get (filter (is_at s) ports) 8)

abbrev pub nodes_passed : Operator → Option Place
nodes_passed op = if nat_lt 1000 (action_nodes (program_of op).body) then Some op.at else None

-- the first limit that is passed, of those on in-ports and out-ports
abbrev pub port_limit_fault : Operator → Option SourceFault
port_limit_fault op = or_else (passed limit.InPorts (ports_passed side.In op.ports)) (passed limit.OutPorts (ports_passed side.Out op.ports))

-- the same, with those on arrays and words of arrays before
abbrev pub array_limit_fault : Operator → Option SourceFault
array_limit_fault op =
    or_else (passed limit.Arrays (place_in_text (λ a. a.at) (slice_get op.arrays 16)))
    (or_else (passed limit.ArrayWords (words_passed 0 op.arrays)) (port_limit_fault op))

-- the first limit that is passed: on nodes, on scalars, and then those
abbrev pub limit_fault : Operator → Option SourceFault
limit_fault op =
    or_else (passed limit.Nodes (nodes_passed op))
    (or_else (passed limit.Scalars (place_in_text (λ s. s.at) (slice_get op.scalars 64))) (array_limit_fault op))

-- the first wrong name, and else the first limit that is passed
abbrev pub check_fault : Operator → Option SourceFault
check_fault op = or_else (least (wrong_names op)) (limit_fault op)

-- a refusal for this fault
abbrev pub Refuses : Refused SourceFault → Option SourceFault → Type 0
Refuses (Fault f) found = found ≡ Some f
Refuses NoMemory found = ⊥
