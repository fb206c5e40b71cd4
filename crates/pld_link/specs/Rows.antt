-- The rows of a design's leaves: each port's row names the other end of its channel.
use Rattle.std.specs.Prelude.{ℕ, ◌-◌, ◌/◌, ◌%◌, nat_lt, if◌then◌else◌, List, Option, map, option_map}
use Rattle.std.specs.List.{find, range_with_len}
use Rattle.net_switch.specs.declared.packet.Row.{Row}
use Rattle.pld_graph.specs.Design.{Design}
use Rattle.pld_link.specs.Seats.{Seat, seat, same_seat, from_seat, to_seat}

-- the row that names a seat
abbrev pub row : Seat → Row
row s = record { leaf = record { 0 = s.leaf }; port = record { 0 = s.port } }

-- an out-port's row: where its channel goes
abbrev pub out_row : Design → List ℕ → ℕ → ℕ → Option Row
out_row d leaves leaf port = option_map
    (λ c. row (to_seat d leaves c.to))
    (find (λ c. same_seat (from_seat d leaves c.from) (seat leaf port)) d.channels)

-- an in-port's row: where its channel comes from
abbrev pub in_row : Design → List ℕ → ℕ → ℕ → Option Row
in_row d leaves leaf port = option_map
    (λ c. row (from_seat d leaves c.from))
    (find (λ c. same_seat (to_seat d leaves c.to) (seat leaf port)) d.channels)

-- a leaf's slots 0 to 7 are its out-ports, and 8 to 15 its in-ports
abbrev pub row_of : Design → List ℕ → ℕ → ℕ → Option Row
row_of d leaves leaf slot = if nat_lt slot 8 then out_row d leaves leaf slot else in_row d leaves leaf (slot - 8)

-- what a function gives of each number below n
unfoldable pub each_below : ℕ → (ℕ → Option Row) → List (Option Row)
each_below n f = map f (range_with_len 0 n)

-- the rows of 64 leaves with 16 slots each, leaf by leaf
abbrev pub rows : Design → List ℕ → List (Option Row)
rows d leaves = each_below 1024 (λ n. row_of d leaves (n / 16) (n % 16))
