-- The rows that stand at the leaves once a run is over.
use Rattle.std.specs.Prelude.{◌≡◌, ℕ, ◌/◌, ◌%◌, ◌≤◌, ◌^◌, if◌then◌else◌, nat_lt, List, Option, None}
use Rattle.net_switch.specs.declared.packet.Row.{Row}
use Rattle.leaf_port.specs.Leaf.{row_of}
use Rattle.pld_link.specs.Rows.{each_below}
use Rattle.fabric_run.specs.Plan.{row_in}
use Rattle.fabric_run.specs.World.{Setup, State}

-- the row of a slot as its leaf holds it; a leaf that the tree doesn't have holds none
abbrev pub standing_row : {S : Type 0} → Setup S → State S → ℕ → ℕ → Option Row
standing_row setup st leaf slot = if nat_lt leaf setup.size then row_of (st.leaves leaf) slot else None

-- the rows of 64 leaves with 16 slots each, leaf by leaf
abbrev pub standing_rows : {S : Type 0} → Setup S → State S → List (Option Row)
standing_rows setup st = each_below 1024 (λ n. standing_row setup st (n / 16) (n % 16))

-- rows that stand at leaves of a tree of this depth alone
pub record AreStanding (depth : ℕ) (rows : List (Option Row)) : Type 0 where
  pub within : (leaf slot : ℕ) → 2 ^ depth ≤ leaf → row_in rows leaf slot ≡ None
