-- Rows that are set channel by channel.
use Rattle.std.specs.Prelude.{ℕ, ◌+◌, ◌*◌, nat_lt, if◌then◌else◌, List, Option, Some, slice_set}
use Rattle.net_switch.specs.declared.packet.Row.{Row}

-- the rows once that of a port is set, where the port has a slot; `first` is the side's first slot
abbrev pub with_row : List (Option Row) → ℕ → Row → Row → List (Option Row)
with_row table first at other = if nat_lt at.port.0 8 then slice_set table (16 * at.leaf.0 + first + at.port.0) (Some other) else table

-- the rows once those of a channel's two ends are set
abbrev pub joined : Row → Row → List (Option Row) → List (Option Row)
joined from to table = with_row (with_row table 0 from to) 8 to from
