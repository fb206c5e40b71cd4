-- A chain of pages: the host's one input goes to the first, what each writes goes to the next, and what the last one writes to the host's one output.
use Rattle.std.specs.Prelude.{◌≡◌, ℕ, ◌+◌, ◌-◌, ◌/◌, ◌%◌, ◌==◌, if◌then◌else◌, nat_lt, false, replicate, List, [], ◌∷◌, Option, Some, None}
use Rattle.net_switch.specs.declared.packet.Pattern.{Pattern}
use Rattle.net_switch.specs.declared.packet.Row.{Row}
use Rattle.image_form.specs.Spelling.{Form}
use Rattle.pld_image.specs.Ports.{ins_of, outs_of}
use Rattle.fabric_run.specs.Plan.{PagePlan, PlanValue, row_to}
use Rattle.leaf_net.specs.Net.{below}

-- the leaves behind and before a leaf, in the ring of the host's leaf and n others
abbrev pub behind : ℕ → ℕ → ℕ
behind n leaf = if leaf == n then 0 else leaf + 1

abbrev pub before : ℕ → ℕ → ℕ
before n leaf = if leaf == 0 then n else leaf - 1

abbrev pub slot_row : ℕ → ℕ → ℕ → Option Row
slot_row n leaf slot = if slot == 0 then Some (row_to (behind n leaf) 0) else (if slot == 8 then Some (row_to (before n leaf) 0) else None)

-- each leaf of the ring has its first out-port and its first in-port
abbrev pub chain_row : ℕ → ℕ → ℕ → Option Row
chain_row n leaf slot = if nat_lt n leaf then None else slot_row n leaf slot

abbrev pub chain_rows : ℕ → List (Option Row)
chain_rows n = below 1024 (λ i. chain_row n (i / 16) (i % 16))

-- the k-th page stands on leaf k + 1, and each has this image
abbrev pub chain_pages : ℕ → Form → List PagePlan
chain_pages n image = below n (λ k. record { leaf = k + 1; image = image })

-- one port of either kind
pub record HasPorts (image : Form) : Type 0 where
  pub ins : ins_of image ≡ 1
  pub outs : outs_of image ≡ 1

-- one upward link for each switch
abbrev pub plain : Pattern
plain = record { two = replicate 7 false }

-- a chain of n pages in a tree of 64 leaves, whose input has these words
abbrev pub chain_plan : ℕ → Form → List ℕ → ℕ → PlanValue
chain_plan n image words rounds = record {
  depth = 6;
  pattern = plain;
  window = 16;
  pages = chain_pages n image;
  before = [];
  tables = chain_rows n;
  feeds = words ∷ [];
  outs = 1;
  rounds = rounds;
}
