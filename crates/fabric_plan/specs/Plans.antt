-- What a run of a placed design is given.
use Rattle.std.specs.Prelude.{ℕ, ◌+◌, ◌*◌, ◌/◌, min, List, [], ◌∷◌, length, Option}
use Rattle.net_switch.specs.declared.packet.Row.{Row}
use Rattle.image_form.specs.Spelling.{Form}
use Rattle.pld_graph.specs.Design.{Design, outputs}
use Rattle.pld_link.specs.Rows.{rows}
use Rattle.fabric_run.specs.Plan.{PagePlan, PlanValue}

-- the rounds that a run of so many pages is allowed, where the option says a number: its journal has at most 40,000,000 entries
abbrev pub allowed : ℕ → ℕ → ℕ
allowed rounds pages = min rounds (40000000 / (8 * pages + 1))

-- a page for each operator, on its leaf and with its image
abbrev pub pages_of : List ℕ → List Form → List PagePlan
pages_of [] images = []
pages_of (leaf ∷ leaves) [] = []
pages_of (leaf ∷ leaves) (image ∷ images) = record { leaf = leaf; image = image } ∷ pages_of leaves images

-- What a run is given beside its design: the leaf and the image of each operator, in the order of declaration; the rows that stand at the leaves;
-- the words of each input, in the order of declaration; and the rounds of the option.
pub record Given : Type 0 where
  pub leaves : List ℕ
  pub images : List Form
  pub before : List (Option Row)
  pub feeds : List (List ℕ)
  pub rounds : ℕ

-- the design says the tree and the window of its channels
abbrev pub plan_of : Design → Given → PlanValue
plan_of d given = record {
  depth = d.depth;
  pattern = d.pattern;
  window = d.window;
  pages = pages_of given.leaves given.images;
  before = given.before;
  tables = rows d given.leaves;
  feeds = given.feeds;
  outs = length (outputs d.channels);
  rounds = allowed given.rounds (length d.operators);
}
