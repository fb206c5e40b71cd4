-- The pinned leaves, as the bits of a number; channels, inputs and outputs, counted.
use Rattle.std.specs.Prelude.{◌≡◌, ℕ, ◌^◌, ◌<◌, List, Option, Some, None, length}
use Rattle.std.specs.Int.{bit_at}
use Rattle.std.specs.List.{count_by}
use Rattle.pld_graph.specs.declared.parts.Channel.{Channel}
use Rattle.pld_graph.specs.declared.parts.OperatorEntry.{OperatorEntry}
use Rattle.pld_graph.specs.declared.channels.Tally.{Tally}
use Rattle.pld_graph.specs.Design.{inputs, outputs}
use Rattle.pld_graph.specs.Sound.{is_pinned}

-- The mask has a bit for each leaf to which an operator is pinned; no two are pinned to one.
pub record IsMask (os : List OperatorEntry) (mask : ℕ) : Type 0 where
  pub bits : (l : ℕ) → bit_at mask l ≡ count_by (is_pinned l) os
  pub small : mask < 2 ^ 64

-- so many channels, inputs and outputs stand
pub record AreCounted (cs : List Channel) (t : Tally) : Type 0 where
  pub channels : t.channels ≡ length cs
  pub inputs : t.inputs ≡ length (inputs cs)
  pub outputs : t.outputs ≡ length (outputs cs)

-- how many there are
abbrev pub ones : {X : Type 0} → Option X → ℕ
ones None = 0
ones (Some x) = 1
