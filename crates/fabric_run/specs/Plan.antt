-- What a run is given, and the channels that its rows join.
use Rattle.std.specs.Prelude.{◌≡◌, ℕ, zero, suc, ◌+◌, ◌*◌, ◌≤◌, ◌<◌, ◌^◌, ◌==◌, if◌then◌else◌, nat_lt, List, [], ◌∷◌, length, Option, Some, None, IsSome, slice_get, slice_index_or, All}
use Rattle.pld_base.specs.Channels.{OperatorNode, InputNode, OutputNode, OutPort, Wiring}
use Rattle.net_switch.specs.declared.packet.Pattern.{Pattern}
use Rattle.net_switch.specs.declared.packet.Row.{Row}
use Rattle.image_form.specs.Spelling.{Form, IsForm}
use Rattle.pld_image.specs.Cores.{Core, load}
use Rattle.pld_image.specs.Ports.{ins_of, outs_of}
use Rattle.fabric_run.specs.World.{Carrier, Rows, Setup}

-- a page: its leaf, and its image
pub record PagePlan : Type 0 where
  pub leaf : ℕ
  pub image : Form

-- What a run is given: the depth of the tree, the pattern of its links, the window of its channels, its pages in the order of declaration, the rows
-- that stand at the leaves and those that are to stand, the words of each input, the count of outputs, and the allowed rounds. Slot s of leaf l is
-- row 16·l + s; a leaf's slots 0 to 7 are its out-ports, and 8 to 15 its in-ports. Leaf 0 is the host's.
pub record PlanValue : Type 0 where
  pub depth : ℕ
  pub pattern : Pattern
  pub window : ℕ
  pub pages : List PagePlan
  pub before : List (Option Row)
  pub tables : List (Option Row)
  pub feeds : List (List ℕ)
  pub outs : ℕ
  pub rounds : ℕ

abbrev pub row_in : List (Option Row) → Rows
row_in rows leaf slot = if nat_lt slot 16 then slice_index_or rows (16 * leaf + slot) None else None

abbrev pub feed_of : PlanValue → ℕ → List ℕ
feed_of plan k = slice_index_or plan.feeds k []

-- the k-th page's leaf; past the last page a number that no page has
abbrev pub leaf_in : List PagePlan → ℕ → ℕ
leaf_in [] k = k
leaf_in (p ∷ ps) zero = p.leaf
leaf_in (p ∷ ps) (suc k) = leaf_in ps k

-- the number of the page on a leaf, where pages are counted from n; where none is there, a number past the last page
abbrev pub number_from : ℕ → List PagePlan → ℕ → ℕ
number_from n [] leaf = n + leaf
number_from n (p ∷ ps) leaf = if p.leaf == leaf then n else number_from (n + 1) ps leaf

abbrev pub leaf_of : PlanValue → ℕ → ℕ
leaf_of plan k = leaf_in plan.pages k

abbrev pub number_of : PlanValue → ℕ → ℕ
number_of plan leaf = number_from 0 plan.pages leaf

-- the core of the k-th page as the run begins
abbrev pub start_of : PagePlan → Core
start_of p = load p.image

abbrev pub image_in : List PagePlan → ℕ → Option Core
image_in [] k = None
image_in (p ∷ ps) zero = Some (start_of p)
image_in (p ∷ ps) (suc k) = image_in ps k

-- how many leaves the tree has
abbrev pub size_of : PlanValue → ℕ
size_of plan = 2 ^ plan.depth

-- the run of a plan over a network
abbrev pub setup_of : {S : Type 0} → Carrier S → PlanValue → Setup S
setup_of net plan = record {
  size = size_of plan;
  window = plan.window;
  image = image_in plan.pages;
  leaf_of = leaf_of plan;
  number = number_of plan;
  before = row_in plan.before;
  tables = row_in plan.tables;
  inputs = length plan.feeds;
  feed = feed_of plan;
  outputs = plan.outs;
  allowed = plan.rounds;
  net = net;
}

-- where the channel out of an out-port leads, and where the one into an in-port comes from
abbrev pub out_row : PlanValue → ℕ → ℕ → Option Row
out_row plan leaf port = if nat_lt port 8 then row_in plan.tables leaf port else None

abbrev pub in_row : PlanValue → ℕ → ℕ → Option Row
in_row plan leaf port = if nat_lt port 8 then row_in plan.tables leaf (8 + port) else None

abbrev pub row_to : ℕ → ℕ → Row
row_to leaf port = record { leaf = record { 0 = leaf }; port = record { 0 = port } }

pub record IsSound (plan : PlanValue) : Type 0 where
  pub depth : (1 ≤ plan.depth) × (plan.depth ≤ 6)
  pub window : (1 ≤ plan.window) × (plan.window ≤ 64)
  pub many : (1 ≤ length plan.pages) × (length plan.pages ≤ 63)
  pub images : (k : ℕ) (p : PagePlan) → slice_get plan.pages k ≡ Some p → IsForm p.image
  -- each page stands on a leaf of its own, and not on the host's
  pub leaves : (k : ℕ) (p : PagePlan) → slice_get plan.pages k ≡ Some p → (1 ≤ p.leaf) × (p.leaf < size_of plan)
  pub apart : (j k : ℕ) (p q : PagePlan) → slice_get plan.pages j ≡ Some p → slice_get plan.pages k ≡ Some q → p.leaf ≡ q.leaf → j ≡ k
  -- both ends of a channel name each other
  pub out_in : (leaf port : ℕ) (row : Row) → out_row plan leaf port ≡ Some row → in_row plan row.leaf.0 row.port.0 ≡ Some (row_to leaf port)
  pub in_out : (leaf port : ℕ) (row : Row) → in_row plan leaf port ≡ Some row → out_row plan row.leaf.0 row.port.0 ≡ Some (row_to leaf port)
  -- the leaf of each page has rows at just the ports of its image
  pub page_outs : (k port : ℕ) (p : PagePlan) → slice_get plan.pages k ≡ Some p → port < outs_of p.image → IsSome (out_row plan p.leaf port)
  pub page_out_rows : (k port : ℕ) (p : PagePlan) (row : Row) → slice_get plan.pages k ≡ Some p → out_row plan p.leaf port ≡ Some row → port < outs_of p.image
  pub page_ins : (k port : ℕ) (p : PagePlan) → slice_get plan.pages k ≡ Some p → port < ins_of p.image → IsSome (in_row plan p.leaf port)
  pub page_in_rows : (k port : ℕ) (p : PagePlan) (row : Row) → slice_get plan.pages k ≡ Some p → in_row plan p.leaf port ≡ Some row → port < ins_of p.image
  -- the host's leaf has rows at just its inputs and outputs
  pub host_sends : (k : ℕ) → k < length plan.feeds → IsSome (out_row plan 0 k)
  pub host_out : (port : ℕ) (row : Row) → out_row plan 0 port ≡ Some row → port < length plan.feeds
  pub host_gets : (k : ℕ) → k < plan.outs → IsSome (in_row plan 0 k)
  pub host_in : (port : ℕ) (row : Row) → in_row plan 0 port ≡ Some row → port < plan.outs
  -- no other leaf has a row
  pub inside : (leaf slot : ℕ) (row : Row) → row_in plan.tables (suc leaf) slot ≡ Some row → (k : ℕ) × (p : PagePlan) × (slice_get plan.pages k ≡ Some p) × (p.leaf ≡ suc leaf)
  pub before : (leaf slot : ℕ) → size_of plan ≤ leaf → row_in plan.before leaf slot ≡ None
  pub hosts : (length plan.feeds ≤ 8) × (plan.outs ≤ 8)
  pub short : (k : ℕ) → length (feed_of plan k) ≤ 65536
  pub words : (k : ℕ) → All (λ word. word < 2 ^ 32) (feed_of plan k)
  pub rounds : (1 ≤ plan.rounds) × (plan.rounds * (8 * length plan.pages + 1) ≤ 40000000)

-- the node and port that write at an out-port of a leaf, and those that read at an in-port; pages go by their numbers
abbrev pub writer : PlanValue → ℕ → ℕ → OutPort
writer plan zero port = record { node = InputNode port; port = 0 }
writer plan (suc leaf) port = record { node = OperatorNode (number_of plan (suc leaf)); port = port }

abbrev pub from_row : PlanValue → Option Row → Option OutPort
from_row plan None = None
from_row plan (Some row) = Some (writer plan row.leaf.0 row.port.0)

abbrev pub wiring_of : PlanValue → Wiring
wiring_of plan (OperatorNode k) port = if nat_lt k (length plan.pages) then from_row plan (in_row plan (leaf_of plan k) port) else None
wiring_of plan (InputNode k) port = None
wiring_of plan (OutputNode k) zero = from_row plan (in_row plan 0 k)
wiring_of plan (OutputNode k) (suc port) = None
