-- Rows look at channels and at the operators' names alone.
use Rattle.std.proofs.Common.{◌≡◌, ℕ, ◌-◌, ◌/◌, ◌%◌, List, ap, ◌∙◌, Option, if◌then◌else◌}
use Rattle.std.specs.Prelude.{nat_lt, option_map, slice_index}
use Rattle.std.specs.List.{find}
use Rattle.net_switch.specs.declared.packet.Row.{Row}
use Rattle.pld_graph.specs.declared.parts.Channel.{Channel}
use Rattle.pld_graph.specs.declared.parts.FromEnd.{FromEnd}
use Rattle.pld_graph.specs.declared.parts.FromEnd.TheVariants as from_end
use Rattle.pld_graph.specs.declared.parts.ToEnd.{ToEnd}
use Rattle.pld_graph.specs.declared.parts.ToEnd.TheVariants as to_end
use Rattle.pld_graph.specs.Design.{Design, inputs, outputs}
use Rattle.pld_link.specs.Seats.{Seat, seat, same_seat, from_seat, to_seat, place_in, operator_names}
use Rattle.pld_link.specs.Rows.{row, rows, each_below}

from_same : (d e : Design) (leaves : List ℕ) → d.channels ≡ e.channels → operator_names d ≡ operator_names e → (f : FromEnd) → from_seat d leaves f ≡ from_seat e leaves f
from_same d e leaves channels names (from_end.Port x) = ap (λ ns. seat (slice_index leaves (place_in ns x.op)) x.port.0) names
from_same d e leaves channels names (from_end.Input n) = ap (λ cs. seat 0 (place_in (inputs cs) n)) channels

to_same : (d e : Design) (leaves : List ℕ) → d.channels ≡ e.channels → operator_names d ≡ operator_names e → (t : ToEnd) → to_seat d leaves t ≡ to_seat e leaves t
to_same d e leaves channels names (to_end.Port x) = ap (λ ns. seat (slice_index leaves (place_in ns x.op)) x.port.0) names
to_same d e leaves channels names (to_end.Output n) = ap (λ cs. seat 0 (place_in (outputs cs) n)) channels

-- the rows by the seats of both ends
abbrev rows_by : (FromEnd → Seat) → (ToEnd → Seat) → List Channel → List (Option Row)
rows_by a b cs = each_below 1024 (λ n. if nat_lt (n % 16) 8
    then option_map (λ c. row (b c.to)) (find (λ c. same_seat (a c.from) (seat (n / 16) (n % 16))) cs)
    else option_map (λ c. row (a c.from)) (find (λ c. same_seat (b c.to) (seat (n / 16) (n % 16 - 8))) cs))

pub rows_same : (d e : Design) (leaves : List ℕ) → d.channels ≡ e.channels → operator_names d ≡ operator_names e → rows d leaves ≡ rows e leaves
rows_same d e leaves channels names =
    ap (λ (a : FromEnd → Seat). rows_by a (to_seat d leaves) d.channels) (λ i f. from_same d e leaves channels names f i)
    ∙ ap (λ (b : ToEnd → Seat). rows_by (from_seat e leaves) b d.channels) (λ i t. to_same d e leaves channels names t i)
    ∙ ap (λ cs. rows_by (from_seat e leaves) (to_seat e leaves) cs) channels
