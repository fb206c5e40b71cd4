-- Edits of a design: what each makes of it, and when it is refused. The tests of an edit are made in order, and
-- the first that fails tells the refusal.
use Rattle.std.specs.Prelude.{◌≡◌, ℕ, ◌+◌, ◌-◌, ◌==◌, ◌^◌, Bool, false, ◌&&◌, not, nat_le, nat_lt, List, [], ◌∷◌, ◌++◌, Option, Some, None, is_none, Result, Ok, Err, IsOk, length, filter, remove, replicate, slice_set, if◌then◌else◌}
use Rattle.std.specs.List.{list_any}
use Rattle.std.specs.Str.{bytes_eq}
use Rattle.pld_base.specs.declared.event.End.{End}
use Rattle.pld_base.specs.declared.event.Side.{Side}
use Rattle.pld_base.specs.declared.event.Side.TheVariants.{In, Out}
use Rattle.pld_base.specs.declared.memory.Refused.{Refused}
use Rattle.pld_base.specs.declared.memory.Refused.TheVariants.{Fault, NoMemory}
use Rattle.net_switch.specs.declared.packet.Pattern.{Pattern}
use Rattle.pld_graph.specs.declared.parts.FromEnd.TheVariants as from_end
use Rattle.pld_graph.specs.declared.parts.ToEnd.TheVariants as to_end
use Rattle.pld_graph.specs.declared.parts.Channel.{Channel}
use Rattle.pld_graph.specs.declared.parts.Cut.{Cut}
use Rattle.pld_graph.specs.declared.parts.Cut.TheVariants as cut
use Rattle.pld_graph.specs.declared.parts.OperatorEntry.{OperatorEntry}
use Rattle.pld_graph.specs.declared.parts.GraphFault.{GraphFault}
use Rattle.pld_graph.specs.declared.parts.GraphFault.TheVariants.{UnknownOperator, UnknownPort, WrongDirection, PortTaken, NameTaken, LeafTaken, LeafRange, NotLinked, TooMany, LevelCount}
use Rattle.pld_graph.specs.Parts.{same_side, is_of, is_lost, is_cut, is_host, passes, stands_at}
use Rattle.pld_graph.specs.Design.{Design, plain, place_of, operator_at, inputs, outputs, is_named, is_linked, has_port}

-- the fault, where this holds
abbrev pub when : Bool → GraphFault → Option GraphFault
when b f = if b then Some f else None

abbrev pub first_fault : List (Option GraphFault) → Option GraphFault
first_fault [] = None
first_fault (None ∷ tests) = first_fault tests
first_fault (Some f ∷ tests) = Some f

-- the design that an edit makes, unless it is refused
abbrev pub unless : Option GraphFault → Design → Result Design GraphFault
unless None d = Ok d
unless (Some f) d = Err f

-- the edit of the operator at a place, if there is one
abbrev pub at_place : Option ℕ → (ℕ → Result Design GraphFault) → Result Design GraphFault
at_place None edit = Err UnknownOperator
at_place (Some k) edit = edit k

abbrev pub with_operator : OperatorEntry → Design → Design
with_operator o d = record d { operators = d.operators ++ o ∷ [] }

abbrev pub with_channel : Channel → Design → Design
with_channel c d = record d { channels = d.channels ++ c ∷ [] }

abbrev pub set_operator : ℕ → OperatorEntry → Design → Design
set_operator k o d = record d { operators = slice_set d.operators k o }

abbrev pub add_refusal : List ℕ → Design → Option GraphFault
add_refusal name d = first_fault (when (is_named name d) NameTaken ∷ when (nat_le 63 (length d.operators)) TooMany ∷ [])

-- an operator, last in the order of declaration
abbrev pub added : List ℕ → ℕ → ℕ → Design → Result Design GraphFault
added name ins outs d = unless (add_refusal name d) (with_operator (record { name = name; ins = ins; outs = outs; pin = None }) d)

-- new counts of ports; place, pin and channels stay
abbrev pub replaced_at : List ℕ → ℕ → ℕ → Design → ℕ → Result Design GraphFault
replaced_at name ins outs d k = unless
    (when (list_any (stands_at (is_lost name ins outs)) d.channels) UnknownPort)
    (set_operator k (record (operator_at d.operators k) { ins = ins; outs = outs }) d)

abbrev pub replaced : List ℕ → ℕ → ℕ → Design → Result Design GraphFault
replaced name ins outs d = at_place (place_of name d) (replaced_at name ins outs d)

-- an operator goes with its pin, its channels, and the inputs and outputs at its ports
abbrev pub removed : List ℕ → Design → Result Design GraphFault
removed name d = at_place (place_of name d) (λ k. Ok (record d {
  operators = remove d.operators k;
  channels = filter (λ c. not (stands_at (is_of name) c)) d.channels;
}))

abbrev pub unknown : End → Design → Option GraphFault
unknown e d = when (is_none (place_of e.op d)) UnknownOperator

abbrev pub misdirected : Side → End → Option GraphFault
misdirected side e = when (not (same_side e.side side)) WrongDirection

abbrev pub lacking : End → Design → Option GraphFault
lacking e d = when (not (has_port d.operators e)) UnknownPort

abbrev pub taken : End → Design → Option GraphFault
taken e d = when (is_linked d.channels e) PortTaken

abbrev pub full : Design → Option GraphFault
full d = when (nat_le 256 (length d.channels)) TooMany

-- each test is made of both ends before the next one
abbrev pub connect_refusal : End → End → Design → Option GraphFault
connect_refusal from to d = first_fault (
    unknown from d ∷ unknown to d ∷
    misdirected Out from ∷ misdirected In to ∷
    lacking from d ∷ lacking to d ∷
    taken from d ∷ taken to d ∷
    full d ∷ [])

-- a channel from an out-port to an in-port
abbrev pub connected : End → End → Design → Result Design GraphFault
connected from to d = unless (connect_refusal from to d) (with_channel (record { from = from_end.Port from; to = to_end.Port to }) d)

-- the tests of a host channel at a port on this side, where a number of such channels stand
abbrev pub host_refusal : List ℕ → Side → End → ℕ → Design → Option GraphFault
host_refusal name side e count d = first_fault (
    when (is_named name d) NameTaken ∷
    unknown e d ∷ misdirected side e ∷ lacking e d ∷ taken e d ∷
    when (nat_le 8 count) TooMany ∷ full d ∷ [])

-- an input, joined to an in-port
abbrev pub with_input : List ℕ → End → Design → Result Design GraphFault
with_input name to d = unless
    (host_refusal name In to (length (inputs d.channels)) d)
    (with_channel (record { from = from_end.Input name; to = to_end.Port to }) d)

-- an output, joined to an out-port
abbrev pub with_output : End → List ℕ → Design → Result Design GraphFault
with_output from name d = unless
    (host_refusal name Out from (length (outputs d.channels)) d)
    (with_channel (record { from = from_end.Port from; to = to_end.Output name }) d)

abbrev pub cut_refusal : Cut → Design → Option GraphFault
cut_refusal (cut.Port e) d = first_fault (unknown e d ∷ misdirected Out e ∷ lacking e d ∷ when (not (is_linked d.channels e)) NotLinked ∷ [])
cut_refusal (cut.Host n) d = when (not (list_any (is_host n) d.channels)) NotLinked

-- a channel goes, with the input or output at its end
abbrev pub disconnected : Cut → Design → Result Design GraphFault
disconnected what d = unless (cut_refusal what d) (record d { channels = filter (λ c. not (is_cut what c)) d.channels })

abbrev pub set_pin : ℕ → Option ℕ → Design → Design
set_pin k pin d = set_operator k (record (operator_at d.operators k) { pin = pin }) d

-- a leaf of an operator in a tree of this depth; leaf 0 is the host's
abbrev pub is_leaf : ℕ → ℕ → Bool
is_leaf depth leaf = nat_lt 0 leaf && nat_lt leaf (2 ^ depth)

-- an operator of another name is pinned to the leaf
abbrev pub is_rival : List ℕ → ℕ → OperatorEntry → Bool
is_rival name leaf o = not (bytes_eq o.name name) && passes (λ l. l == leaf) o.pin

-- an operator shall stand at a leaf
abbrev pub pinned : List ℕ → ℕ → Design → Result Design GraphFault
pinned name leaf d = at_place (place_of name d) (λ k. unless
    (first_fault (when (not (is_leaf d.depth leaf)) LeafRange ∷ when (list_any (is_rival name leaf) d.operators) LeafTaken ∷ []))
    (set_pin k (Some leaf) d))

-- an operator has no pin
abbrev pub unpinned : List ℕ → Design → Result Design GraphFault
unpinned name d = at_place (place_of name d) (λ k. Ok (set_pin k None d))

-- pinned to a leaf that a tree of this depth lacks
abbrev pub is_outside : ℕ → OperatorEntry → Bool
is_outside depth o = passes (λ l. not (nat_lt l (2 ^ depth))) o.pin

-- another depth, and one upward link for each switch
abbrev pub repaged : ℕ → Design → Result Design GraphFault
repaged depth d = unless (when (list_any (is_outside depth) d.operators) LeafRange) (record d { depth = depth; pattern = plain })

-- the pattern of a tree whose levels from 1 up, as many as are told, have two upward links for each switch where it says so
abbrev pub pattern_of : List Bool → Pattern
pattern_of levels = record { two = false ∷ levels ++ replicate (6 - length levels) false }

-- another pattern of links: a tree's levels are all but its topmost
abbrev pub patterned : List Bool → Design → Result Design GraphFault
patterned levels d = unless (when (not (length levels + 1 == d.depth)) LevelCount) (record d { pattern = pattern_of levels })

-- another window of the channels
abbrev pub windowed : ℕ → Design → Design
windowed window d = record d { window = window }

-- the refusal of a test
abbrev pub fault_in : {X : Type 0} → Result X GraphFault → Option GraphFault
fault_in (Ok _) = None
fault_in (Err f) = Some f

-- the answer of an edit: Ok exactly where it isn't refused, and a refused edit leaves the design as it was
abbrev pub Edits : {X : Type 0} → Result X GraphFault → Result Design GraphFault → Design → Design → Type 0
Edits (Ok _) edited old new = edited ≡ Ok new
Edits (Err f) edited old new = (edited ≡ Err f) × (new ≡ old)

-- the same of an edit that may want memory, and then leaves the design as it was too
abbrev pub Tries : {X : Type 0} → Result X (Refused GraphFault) → Result Design GraphFault → Design → Design → Type 0
Tries (Ok _) edited old new = edited ≡ Ok new
Tries (Err (Fault f)) edited old new = (edited ≡ Err f) × (new ≡ old)
Tries (Err NoMemory) edited old new = IsOk edited × (new ≡ old)
