-- Which rows of the leaves from 1 up differ between two tables.
use Rattle.std.specs.Prelude.{ℕ, ◌+◌, ◌*◌, ◌/◌, ◌%◌, ◌==◌, Bool, true, false, ◌&&◌, not, List, [], ◌∷◌, Option, Some, None, map, filter, slice_index_or, slice_set}
use Rattle.std.specs.List.{range_with_len}
use Rattle.net_switch.specs.declared.packet.Row.{Row}
use Rattle.leaf_port.specs.declared.tables.ConfigEntry.{ConfigEntry}

-- the row at slot n, of all slots leaf by leaf
abbrev pub row_at : List (Option Row) → ℕ → Option Row
row_at table n = slice_index_or table n None

abbrev pub same_row : Option Row → Option Row → Bool
same_row None None = true
same_row None (Some s) = false
same_row (Some r) None = false
same_row (Some r) (Some s) = (r.leaf.0 == s.leaf.0) && (r.port.0 == s.port.0)

abbrev pub differs : List (Option Row) → List (Option Row) → ℕ → Bool
differs old new n = not (same_row (row_at old n) (row_at new n))

-- slot n gets this table's row
abbrev pub entry_at : List (Option Row) → ℕ → ConfigEntry
entry_at new n = record { leaf = record { 0 = n / 16 }; slot = n % 16; row = row_at new n }

-- of the slots from this one on, so many, those whose rows differ, each with the new row
unfoldable pub changed_among : List (Option Row) → List (Option Row) → ℕ → ℕ → List ConfigEntry
changed_among old new first count = map (entry_at new) (filter (differs old new) (range_with_len first count))

-- the slots of leaves 1 to 63 whose rows differ, by leaf and then by slot, each with the new row
abbrev pub changes : List (Option Row) → List (Option Row) → List ConfigEntry
changes old new = changed_among old new 16 1008

-- a table once an entry's row stands at its slot
abbrev pub with_entry : List (Option Row) → ConfigEntry → List (Option Row)
with_entry table e = slice_set table (16 * e.leaf.0 + e.slot) e.row

-- a table once the rows of all these entries stand at their slots
abbrev pub with_entries : List (Option Row) → List ConfigEntry → List (Option Row)
with_entries table [] = table
with_entries table (e ∷ es) = with_entries (with_entry table e) es
