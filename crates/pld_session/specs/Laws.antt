-- What holds of every session, and of the runs that it makes.
use Rattle.std.specs.Prelude.{◌≡◌, ℕ, ◌≢◌, ◌/◌, ◌^◌, ◌<◌, ◌≤◌, true, List, [], All, length, Some, slice_get}
use Rattle.pld_base.specs.Channels.{NodeEvent, OperatorNode, family_of}
use Rattle.pld_kahn.specs.Network.{Network}
use Rattle.pld_kahn.specs.Rest.{IsRestFamily}
use Rattle.hot_swap.specs.Paths.{RestsAfter}
use Rattle.image_form.specs.Spelling.{Form}
use Rattle.pld_image.specs.Cores.{load, next}
use Rattle.net_tree.specs.Links.{sum_to}
use Rattle.leaf_port.specs.Leaf.{row_of}
use Rattle.fabric_run.specs.declared.row.Outcome.TheVariants.{Spent}
use Rattle.fabric_run.specs.Plan.{row_in}
use Rattle.fabric_run.specs.Trees.{tree_setup, longest_way}
use Rattle.fabric_run.specs.World.{changes, is_configured}
use Rattle.fabric_keeps.specs.Measure.{enough}
use Rattle.fabric_ends.specs.Promises.{HasRested, KeepsPromise}
use Rattle.fabric_core.specs.declared.fabric.Record.{Record}
use Rattle.pld_link.specs.Seats.{operator_names}
use Rattle.pld_driver.specs.Outcome.{Moment, IsExact}
use Rattle.pld_driver.specs.Walk.{Walked, session, transcript}
use Rattle.pld_driver.specs.declared.status.Status.{Status}
use Rattle.pld_draft.specs.Draft.{DraftState}
use Rattle.fabric_plan.specs.Plans.{allowed}
use Rattle.fabric_plan.specs.Wiring.{design_network}
use Rattle.pld_runner.specs.Orders.{Order, Plain}
use Rattle.pld_session.specs.States.{State, at_first, images, tables}
use Rattle.pld_session.specs.Answers.{answer}
use Rattle.pld_session.specs.Runs.{meanings, feeds, end_of, shown_by, ran_reply, FitsRun}
use Rattle.pld_session.specs.Headline.{SessionEnds}

-- Each run has its record, which fits a run of one worker, and there are no other records.
pub record IsRecorded (all : Walked State Record) : Type 0 where
  pub fit : All (λ run. FitsRun Plain run.0 run.1) all.runs
  pub used : all.left ≡ []
  pub whole : all.whole ≡ true

-- Whatever the records of its runs by one worker, the replies to a text are the same.
abbrev pub RepliesAgree : Type 0
RepliesAgree =
    (rounds : ℕ) (bytes : List ℕ) (records other : List Record) → IsRecorded (session answer (at_first rounds) bytes true records) → IsRecorded (session answer (at_first rounds) bytes true other)
    → transcript answer (at_first rounds) bytes true records ≡ transcript answer (at_first rounds) bytes true other

-- The statuses are exact: of a session that ended so, what was taken and written leaves one status, or want of memory.
abbrev pub StatusesAreExact : Type 0
StatusesAreExact = (order : Order) (rounds : ℕ) (before after : Moment Record) (result : Status) (ends : SessionEnds order rounds before after result) → IsExact answer (at_first rounds) before after ends.taken result

-- ---- runs, whatever the order of their entries

-- the network of a design: what its operators mean, its channels, and the words of its inputs
abbrev pub network_in : DraftState → Network
network_in d = design_network d.design (meanings d) (feeds d)

-- how many rounds a run is allowed
abbrev pub allowed_in : State → ℕ
allowed_in st = allowed st.rounds (length st.draft.design.operators)

-- Each run shows what the design's own network promises: its outputs begin their Kahn streams; at rest its events are the network's rest family
-- and each operator has returned or stands at the named port, which is empty or full; done, and stalled with no full port named, the outputs are
-- whole; spent, each allowed round was made.
abbrev pub RunsKeepTheirPromise : Type 0
RunsKeepTheirPromise =
    (order : Order) (st : State) (run : Record) → FitsRun order st run → KeepsPromise (allowed_in st) st.draft.design.window (network_in st.draft) (shown_by run)

-- Two drafts of one program: the same operators in the same order, by their names and what they mean, the same channels with the same window, and
-- the same words of the inputs. Kinds of pages, pins, the tree's depth and its pattern may differ.
pub record SameProgram (d other : DraftState) : Type 0 where
  pub channels : d.design.channels ≡ other.design.channels
  pub window : d.design.window ≡ other.design.window
  pub names : operator_names d.design ≡ operator_names other.design
  pub meanings : meanings d ≡ meanings other
  pub feeds : feeds d ≡ feeds other

-- Runs of them that come to rest are answered alike, whatever rows stood before and however many rounds were allowed.
abbrev pub RestsAgree : Type 0
RestsAgree =
    (order other : Order) (st st' : State) (run run' : Record) → SameProgram st.draft st'.draft → FitsRun order st run → FitsRun other st' run'
    → HasRested (shown_by run) → HasRested (shown_by run') → ran_reply st.draft run ≡ ran_reply st'.draft run'

-- Each page makes no more than so many steps until it is where this family leaves it.
abbrev pub RestWithin : DraftState → List NodeEvent → (ℕ → ℕ) → Type 0
RestWithin d rest limit = (k : ℕ) (image : Form) → slice_get (images d) k ≡ Some image → RestsAfter next (load image) (limit k) (family_of rest (OperatorNode k))

-- How many rounds are enough for a run with this rest family: by its events, the entries that are sent, each page's steps by 256, and the pages.
abbrev pub enough_for : State → Record → List NodeEvent → (ℕ → ℕ) → ℕ
enough_for st run rest limit = enough (longest_way st.draft.design.depth st.draft.design.pattern)
    (length rest) (length (changes (tree_setup run.plan))) (sum_to (length st.draft.design.operators) (λ k. limit k / 256)) (length st.draft.design.operators)

-- A run that is allowed enough rounds isn't spent.
abbrev pub EnoughIsEnough : Type 0
EnoughIsEnough =
    (order : Order) (st : State) (run : Record) (rest : List NodeEvent) (limit : ℕ → ℕ) → FitsRun order st run
    → IsRestFamily st.draft.design.window (network_in st.draft) (family_of rest) → RestWithin st.draft rest limit
    → enough_for st run rest limit ≤ allowed_in st → (shown_by run).outcome ≢ Some Spent

-- Once configuration is over, the leaves hold just the rows of the full build.
abbrev pub LeavesHoldTheTables : Type 0
LeavesHoldTheTables =
    (order : Order) (st : State) (run : Record) (leaf slot : ℕ) → FitsRun order st run → is_configured (tree_setup run.plan) (end_of run) ≡ true
    → leaf < 2 ^ st.draft.design.depth → row_of ((end_of run).leaves leaf) slot ≡ row_in (tables st.draft) leaf slot
