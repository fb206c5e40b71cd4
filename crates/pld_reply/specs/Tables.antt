-- The reply that tells on which leaves the pages stand, and the rows of the leaves. Each line ends with byte 10.
use Rattle.std.specs.Prelude.{ℕ, ◌+◌, ◌-◌, ◌==◌, nat_lt, if◌then◌else◌, List, [], ◌++◌, flat_map, codes, decimal, Option, Some, None}
use Rattle.pld_base.specs.declared.event.Kind.{Kind}
use Rattle.pld_base.specs.declared.event.Kind.TheVariants.{Soft, Hard}
use Rattle.pld_base.specs.declared.event.Side.{Side}
use Rattle.pld_base.specs.declared.event.Side.TheVariants.{In, Out}
use Rattle.net_switch.specs.declared.packet.Row.{Row}
use Rattle.fabric_run.specs.Plan.{row_in}
use Rattle.fabric_run.specs.Reply.{line_of, lines_below}
use Rattle.pld_reply.specs.declared.tables.PlacedPage.{PlacedPage}

abbrev pub kind_word : Kind → List ℕ
kind_word Soft = codes "soft"
kind_word Hard = codes "hard"

-- a page, where it stands on this leaf
abbrev pub page_line : ℕ → PlacedPage → List ℕ
page_line leaf page =
    if page.leaf.0 == leaf
    then line_of (codes "page " ++ decimal leaf ++ codes " " ++ page.name ++ codes " " ++ kind_word page.kind)
    else []

-- the pages of a leaf
abbrev pub page_lines : List PlacedPage → ℕ → List ℕ
page_lines pages leaf = flat_map (page_line leaf) pages

abbrev pub side_letter : Side → List ℕ
side_letter In = codes " i"
side_letter Out = codes " o"

-- a leaf, and a port of it
abbrev pub seat_text : ℕ → Side → ℕ → List ℕ
seat_text leaf side port = decimal leaf ++ side_letter side ++ decimal port

-- a leaf's port, and the port of the other side that its row names
abbrev pub link_line : ℕ → Side → ℕ → Row → Side → List ℕ
link_line leaf side port row other = line_of (codes "row " ++ seat_text leaf side port ++ codes " " ++ seat_text row.leaf.0 other row.port.0)

-- slots 0 to 7 are out-ports, and 8 to 15 in-ports
abbrev pub row_line : ℕ → ℕ → Option Row → List ℕ
row_line leaf slot None = []
row_line leaf slot (Some row) = if nat_lt slot 8 then link_line leaf Out slot row In else link_line leaf In (slot - 8) row Out

-- the rows of a leaf
abbrev pub row_lines : List (Option Row) → ℕ → List ℕ
row_lines rows leaf = lines_below (λ slot. row_line leaf slot (row_in rows leaf slot)) 16

-- the pages of leaves 1 to 63
unfoldable pub all_pages : List PlacedPage → List ℕ
all_pages pages = lines_below (λ i. page_lines pages (1 + i)) 63

-- the rows of leaves 0 to 63
unfoldable pub all_rows : List (Option Row) → List ℕ
all_rows rows = lines_below (row_lines rows) 64

abbrev pub tables_reply : List PlacedPage → List (Option Row) → List ℕ
tables_reply pages rows = all_pages pages ++ all_rows rows
