-- What a session holds.
use Rattle.std.specs.Prelude.{◌≡◌, ℕ, ◌+◌, ◌≤◌, ◌<◌, Bool, false, List, [], ◌++◌, length, map, Option, None, Result, Ok, Err}
use Rattle.pld_base.specs.declared.memory.Refused.{Refused}
use Rattle.pld_base.specs.declared.memory.Refused.TheVariants.{Fault, NoMemory}
use Rattle.net_switch.specs.declared.packet.Row.{Row}
use Rattle.image_form.specs.Spelling.{Form}
use Rattle.pld_graph.specs.Design.{open_port}
use Rattle.pld_draft.specs.Draft.{DraftState, at_first as first_draft}
use Rattle.build_cache.specs.Pairs.{Pair, missed}
use Rattle.pld_build.specs.Images.{image_of, pair_of, compiles}
use Rattle.pld_place.specs.declared.placement.TooFewPages.{TooFewPages}
use Rattle.pld_place.specs.Placing.{pages, placed}
use Rattle.pld_link.specs.Rows.{rows}
use Rattle.fabric_core.specs.declared.counts.Counts.{Counts}

pub record State : Type 0 where
  -- how many rounds a run may make
  pub rounds : ℕ
  -- the design, with the texts of its operators and the words of its inputs
  pub draft : DraftState
  -- the pairs of kind and text that were compiled so far
  pub compiled : List Pair
  -- whether a build succeeded since the last edit
  pub built : Bool
  -- the rows that stand at the leaves of the tree
  pub standing : List (Option Row)
  -- how many runs were made
  pub runs : ℕ
  -- what the last run counted
  pub counted : Option Counts

-- a tree of depth 4, and nothing in it
abbrev pub at_first : ℕ → State
at_first rounds = record { rounds = rounds; draft = first_draft 4; compiled = []; built = false; standing = []; runs = 0; counted = None }

-- The full build of a design: the image of each operator and its leaf, in the order of declaration, and the rows of all leaves.

abbrev pub images : DraftState → List Form
images d = map image_of d.sources

abbrev pub leaves : DraftState → List ℕ
leaves d = placed d.design

abbrev pub tables : DraftState → List (Option Row)
tables d = rows d.design (leaves d)

-- What a build asks of a design: there is an operator, every port is in a channel, and there are pages enough.
pub record CanBuild (d : DraftState) : Type 0 where
  pub an_operator : 1 ≤ length d.sources
  pub closed : open_port d.design ≡ None
  pub enough : length d.sources ≤ pages d.design

-- what a build has made
pub record BuildValue : Type 0 where
  pub images : List Form
  pub leaves : List ℕ
  pub tables : List (Option Row)

-- it is the design's full build
pub record IsBuild (d : DraftState) (made : BuildValue) : Type 0 where
  pub images : made.images ≡ images d
  pub leaves : made.leaves ≡ leaves d
  pub tables : made.tables ≡ tables d
  pub can : CanBuild d

-- what is compiled, once those of a design's pairs are that weren't before
abbrev pub with_pairs : List Pair → DraftState → List Pair
with_pairs compiled d = compiled ++ missed compiled (map pair_of d.sources)

-- What a build of a design that has an operator and is closed comes to, what was compiled before and after it, and the permits before and after
-- it: the full build and how many images were compiled, with a permit each; or more operators than pages.
abbrev pub Builds : Result (BuildValue × ℕ) (Refused TooFewPages) → DraftState → List Pair → List Pair → ℕ → ℕ → Type 0
Builds (Ok made) d before after old new =
    IsBuild d made.0 × (made.1 ≡ compiles before d.sources) × (new ≡ old + compiles before d.sources) × (after ≡ with_pairs before d)
Builds (Err (Fault few)) d before after old new =
    (pages d.design < length d.sources) × (few.operators ≡ length d.sources) × (few.pages ≡ pages d.design) × (new ≡ old) × (after ≡ before)
Builds (Err NoMemory) d before after old new = (length d.sources ≤ pages d.design) × (old ≤ new) × (new ≤ old + compiles before d.sources)
