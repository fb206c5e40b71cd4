-- Ports and channels of a design.
use Rattle.std.specs.Prelude.{ℕ, ◌==◌, Bool, true, false, ◌&&◌, ◌||◌, not, nat_lt, List, Option, Some, None}
use Rattle.std.specs.Str.{bytes_eq}
use Rattle.pld_base.specs.declared.event.End.{End}
use Rattle.pld_base.specs.declared.event.Side.{Side}
use Rattle.pld_base.specs.declared.event.Side.TheVariants.{In, Out}
use Rattle.pld_graph.specs.declared.parts.FromEnd.{FromEnd}
use Rattle.pld_graph.specs.declared.parts.FromEnd.TheVariants as from_end
use Rattle.pld_graph.specs.declared.parts.ToEnd.{ToEnd}
use Rattle.pld_graph.specs.declared.parts.ToEnd.TheVariants as to_end
use Rattle.pld_graph.specs.declared.parts.Channel.{Channel}
use Rattle.pld_graph.specs.declared.parts.Cut.{Cut}
use Rattle.pld_graph.specs.declared.parts.Cut.TheVariants as cut

abbrev pub same_side : Side → Side → Bool
same_side In In = true
same_side In Out = false
same_side Out In = false
same_side Out Out = true

abbrev pub same_end : End → End → Bool
same_end a b = bytes_eq a.op b.op && same_side a.side b.side && (a.port.0 == b.port.0)

-- how many ports of a side there are, of these counts
abbrev pub on_side : Side → ℕ → ℕ → ℕ
on_side In ins outs = ins
on_side Out ins outs = outs

-- the port is below these counts
abbrev pub is_below : ℕ → ℕ → End → Bool
is_below ins outs e = nat_lt e.port.0 (on_side e.side ins outs)

-- a port of this operator that these counts lack
abbrev pub is_lost : List ℕ → ℕ → ℕ → End → Bool
is_lost name ins outs e = bytes_eq e.op name && not (is_below ins outs e)

abbrev pub is_of : List ℕ → End → Bool
is_of name e = bytes_eq e.op name

-- the port from which a channel comes, if it comes from one
abbrev pub from_port : FromEnd → Option End
from_port (from_end.Port e) = Some e
from_port (from_end.Input n) = None

-- the port to which a channel goes, if it goes to one
abbrev pub to_port : ToEnd → Option End
to_port (to_end.Port e) = Some e
to_port (to_end.Output n) = None

-- the input from which a channel comes, if it comes from one
abbrev pub from_input : FromEnd → Option (List ℕ)
from_input (from_end.Port e) = None
from_input (from_end.Input n) = Some n

-- the output to which a channel goes, if it goes to one
abbrev pub to_output : ToEnd → Option (List ℕ)
to_output (to_end.Port e) = None
to_output (to_end.Output n) = Some n

abbrev pub passes : {X : Type 0} → (X → Bool) → Option X → Bool
passes test None = false
passes test (Some x) = test x

-- an end of the channel is a port that passes the test
abbrev pub stands_at : (End → Bool) → Channel → Bool
stands_at test c = passes test (from_port c.from) || passes test (to_port c.to)

-- the channel comes from the input of this name, or goes to the output of this name
abbrev pub is_host : List ℕ → Channel → Bool
is_host name c = passes (λ n. bytes_eq n name) (from_input c.from) || passes (λ n. bytes_eq n name) (to_output c.to)

-- the channel that is to be disconnected
abbrev pub is_cut : Cut → Channel → Bool
is_cut (cut.Port e) c = stands_at (same_end e) c
is_cut (cut.Host n) c = is_host n c

-- the same producing end
abbrev pub same_from : FromEnd → FromEnd → Bool
same_from (from_end.Port a) f = passes (same_end a) (from_port f)
same_from (from_end.Input a) f = passes (λ n. bytes_eq n a) (from_input f)

-- the same consuming end
abbrev pub same_to : ToEnd → ToEnd → Bool
same_to (to_end.Port a) t = passes (same_end a) (to_port t)
same_to (to_end.Output a) t = passes (λ n. bytes_eq n a) (to_output t)
