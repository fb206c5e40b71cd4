-- What holds of every design that is made by edits.
use Rattle.std.specs.Prelude.{◌≡◌, ℕ, ◌+◌, ◌==◌, ◌≤◌, Bool, true, ◌&&◌, List, Option, Some, None, length}
use Rattle.std.specs.List.{count_by, All}
use Rattle.pld_base.specs.declared.event.End.{End}
use Rattle.pld_base.specs.declared.event.Side.TheVariants.{In, Out}
use Rattle.pld_graph.specs.declared.parts.Channel.{Channel}
use Rattle.pld_graph.specs.declared.parts.OperatorEntry.{OperatorEntry}
use Rattle.pld_graph.specs.Parts.{same_side, same_end, from_port, to_port, passes, stands_at, is_host}
use Rattle.pld_graph.specs.Design.{Design, inputs, outputs, is_called, is_linked, has_port}
use Rattle.pld_graph.specs.Edits.{is_leaf}

abbrev pub every : {X : Type 0} → (X → Bool) → Option X → Bool
every test None = true
every test (Some x) = test x

-- the operator's pin, if it has one, is a leaf of a tree of this depth
abbrev pub is_within : ℕ → OperatorEntry → Bool
is_within depth o = every (is_leaf depth) o.pin

-- the channel leads from an out-port or an input to an in-port or an output
abbrev pub is_directed : Channel → Bool
is_directed c = every (λ e. same_side e.side Out) (from_port c.from) && every (λ e. same_side e.side In) (to_port c.to)

-- the operator is pinned to this leaf
abbrev pub is_pinned : ℕ → OperatorEntry → Bool
is_pinned leaf o = passes (λ l. l == leaf) o.pin

pub record IsSound (d : Design) : Type 0 where
  pub least : 1 ≤ d.depth
  pub most : d.depth ≤ 6
  pub window : (1 ≤ d.window) × (d.window ≤ 64)
  pub operators : length d.operators ≤ 63
  pub channels : length d.channels ≤ 256
  pub inputs : length (inputs d.channels) ≤ 8
  pub outputs : length (outputs d.channels) ≤ 8
  -- operators, inputs and outputs share one set of names
  pub names : (n : List ℕ) → count_by (is_called n) d.operators + count_by (is_host n) d.channels ≤ 1
  -- no two operators are pinned to one leaf
  pub alone : (l : ℕ) → count_by (is_pinned l) d.operators ≤ 1
  -- pins are leaves of the tree
  pub pins : All (λ o. is_within d.depth o ≡ true) d.operators
  -- channels lead from out-ports and inputs to in-ports and outputs
  pub sides : All (λ c. is_directed c ≡ true) d.channels
  -- no port is in two channels
  pub once : (e : End) → count_by (stands_at (same_end e)) d.channels ≤ 1
  -- the ports of a channel are there
  pub ends : (e : End) → is_linked d.channels e ≡ true → has_port d.operators e ≡ true
