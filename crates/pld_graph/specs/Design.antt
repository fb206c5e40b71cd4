-- A design, and what stands in it.
use Rattle.std.specs.Prelude.{ℕ, ◌+◌, zero, suc, Bool, false, ◌||◌, List, [], ◌∷◌, Option, Some, None, is_some, slice_index_or, replicate, if◌then◌else◌}
use Rattle.std.specs.List.{list_any, filter_map, find}
use Rattle.std.specs.Str.{bytes_eq}
use Rattle.pld_base.specs.declared.event.End.{End}
use Rattle.pld_base.specs.declared.event.Side.{Side}
use Rattle.pld_base.specs.declared.event.Side.TheVariants.{In, Out}
use Rattle.net_switch.specs.declared.packet.Pattern.{Pattern}
use Rattle.pld_graph.specs.declared.parts.Channel.{Channel}
use Rattle.pld_graph.specs.declared.parts.OperatorEntry.{OperatorEntry}
use Rattle.pld_graph.specs.Parts.{same_end, is_below, stands_at, is_host, from_input, to_output, passes}

-- Operators and channels stand in the order of their declaration. An input or an output stands just as long
-- as its channel, so the channels tell which there are, in the order of their declaration too.
pub record Design : Type 0 where
  pub operators : List OperatorEntry
  pub channels : List Channel
  -- of the tree of switches, which has 2 ^ depth leaves
  pub depth : ℕ
  -- which levels of the tree have two upward links for each switch
  pub pattern : Pattern
  -- how many words a channel holds
  pub window : ℕ

-- one upward link for each switch
abbrev pub plain : Pattern
plain = record { two = replicate 7 false }

abbrev pub fresh : ℕ → Design
fresh depth = record { operators = []; channels = []; depth = depth; pattern = plain; window = 16 }

-- the place of the first operator of this name, where places are counted from n
abbrev pub place_from : ℕ → List ℕ → List OperatorEntry → Option ℕ
place_from n name [] = None
place_from n name (o ∷ os) = if bytes_eq o.name name then Some n else place_from (n + 1) name os

abbrev pub place_of : List ℕ → Design → Option ℕ
place_of name d = place_from 0 name d.operators

-- stands for an operator that isn't there
abbrev pub blank : OperatorEntry
blank = record { name = []; ins = 0; outs = 0; pin = None }

abbrev pub operator_at : List OperatorEntry → ℕ → OperatorEntry
operator_at os k = slice_index_or os k blank

abbrev pub pin_at : List OperatorEntry → Option ℕ → Option ℕ
pin_at os None = None
pin_at os (Some k) = (operator_at os k).pin

-- the leaf to which the operator of this name is pinned
abbrev pub pin_in : List ℕ → Design → Option ℕ
pin_in name d = pin_at d.operators (place_of name d)

abbrev pub inputs : List Channel → List (List ℕ)
inputs cs = filter_map (λ c. from_input c.from) cs

abbrev pub outputs : List Channel → List (List ℕ)
outputs cs = filter_map (λ c. to_output c.to) cs

-- the channel comes from the input of this name
abbrev pub comes_from : List ℕ → Channel → Bool
comes_from name c = passes (λ n. bytes_eq n name) (from_input c.from)

-- an input has this name
abbrev pub is_input : List ℕ → List Channel → Bool
is_input name cs = list_any (comes_from name) cs

-- an operator, an input or an output has this name
abbrev pub is_named : List ℕ → Design → Bool
is_named name d = is_some (place_of name d) || list_any (is_host name) d.channels

-- a channel stands at this port
abbrev pub is_linked : List Channel → End → Bool
is_linked cs e = list_any (stands_at (same_end e)) cs

-- the operator has this name
abbrev pub is_called : List ℕ → OperatorEntry → Bool
is_called name o = bytes_eq o.name name

-- the port is one of those that the operator has
abbrev pub owns : End → Option OperatorEntry → Bool
owns e None = false
owns e (Some o) = is_below o.ins o.outs e

-- the port's operator is there, and has the port
abbrev pub has_port : List OperatorEntry → End → Bool
has_port os e = owns e (find (is_called e.op) os)

abbrev pub port : List ℕ → Side → ℕ → End
port name side k = record { op = name; side = side; port = record { 0 = k } }

abbrev pub or_else : {X : Type 0} → Option X → Option X → Option X
or_else None b = b
or_else (Some x) b = Some x

-- of the n ports from k on, on a side of an operator, the first one that is in no channel
abbrev pub open_among : List Channel → List ℕ → Side → ℕ → ℕ → Option End
open_among cs name side k zero = None
open_among cs name side k (suc n) = if is_linked cs (port name side k) then open_among cs name side (k + 1) n else Some (port name side k)

-- an operator's first port that is in no channel, in-ports before out-ports
abbrev pub open_of : List Channel → OperatorEntry → Option End
open_of cs o = or_else (open_among cs o.name In 0 o.ins) (open_among cs o.name Out 0 o.outs)

abbrev pub first_open : List Channel → List OperatorEntry → Option End
first_open cs [] = None
first_open cs (o ∷ os) = or_else (open_of cs o) (first_open cs os)

-- the first port that is in no channel: operator by operator, each with in-ports and then out-ports, ascending
abbrev pub open_port : Design → Option End
open_port d = first_open d.channels d.operators
