-- A run of a session's design: what is run, the reply, and what its record is.
use Rattle.std.specs.Prelude.{◌≡◌, ℕ, true, List, [], ◌∷◌, ◌++◌, length, map, Option, None, IsSome}
use Rattle.pld_base.specs.Process.{Process}
use Rattle.net_switch.specs.declared.packet.Row.{Row}
use Rattle.net_tree.specs.Links.{Links}
use Rattle.pld_graph.specs.Design.{inputs, outputs}
use Rattle.pld_link.specs.Seats.{operator_names}
use Rattle.pld_draft.specs.Draft.{DraftState, words_of}
use Rattle.pld_build.specs.Images.{meaning_of}
use Rattle.fabric_run.specs.declared.entry.Entry.{Entry}
use Rattle.fabric_run.specs.Plan.{PlanValue}
use Rattle.fabric_run.specs.World.{State as RunState, changes}
use Rattle.fabric_run.specs.Replay.{replay, outcome, IsLegal}
use Rattle.fabric_run.specs.Reply.{reply, name_in}
use Rattle.fabric_run.specs.Shown.{Shown, shown}
use Rattle.fabric_run.specs.Trees.{tree_setup}
use Rattle.fabric_core.specs.declared.counts.Counts.{Counts}
use Rattle.fabric_core.specs.declared.fabric.Record.{Record}
use Rattle.fabric_plan.specs.Plans.{Given, plan_of}
use Rattle.fabric_plan.specs.Standing.{standing_rows}
use Rattle.fabric_plan.specs.Runnable.{IsRunnable, KeepMeaning}
use Rattle.pld_runner.specs.Orders.{Order, IsOrdered}
use Rattle.pld_session.specs.States.{State, images, leaves}

-- what the operators mean, in the order of declaration
abbrev pub meanings : DraftState → List Process
meanings d = map meaning_of d.sources

-- the words of the inputs, in the order of declaration
abbrev pub feeds : DraftState → List (List ℕ)
feeds d = map (λ name. words_of name d.feeds) (inputs d.design.channels)

-- what a run is given: the full build, the rows that stand, the words of the inputs as they are, and the option's rounds
abbrev pub given_in : State → Given
given_in st = record {
  leaves = leaves st.draft;
  images = images st.draft;
  before = st.standing;
  feeds = feeds st.draft;
  rounds = st.rounds;
}

abbrev pub plan_in : State → PlanValue
plan_in st = plan_of st.draft.design (given_in st)

-- the state at the end of a run, which its record stands for; what that shows, and what it has counted

abbrev pub end_of : Record → RunState Links
end_of run = replay (tree_setup run.plan) run.journal

abbrev pub shown_by : Record → Shown
shown_by run = shown (tree_setup run.plan) (end_of run)

abbrev pub counts_of : Record → Counts
counts_of run = record {
  rounds = (end_of run).rounds;
  packets = (end_of run).packets;
  deflected = (end_of run).deflected;
  configs = length (changes (tree_setup run.plan));
}

-- the reply to a run, read off what its record shows
abbrev pub ran_reply : DraftState → Record → List ℕ
ran_reply d run = reply (name_in (operator_names d.design)) (name_in (outputs d.design.channels)) (length run.plan.pages) run.plan.outs (shown_by run)

-- The record of a run fits the session's state: its plan is that of the design as it stands, which can be run and whose images do what its
-- operators mean; each entry of its journal is legal in the state after those before it, the last state is the first that is over, and the entries
-- stand in this order.
pub record FitsRun (order : Order) (st : State) (run : Record) : Type 0 where
  pub plan : run.plan ≡ plan_in st
  pub runnable : IsRunnable st.draft.design (given_in st)
  pub means : KeepMeaning (images st.draft) (meanings st.draft)
  pub legal : IsLegal (tree_setup run.plan) run.journal
  pub over : IsSome (outcome (tree_setup run.plan) (end_of run))
  pub ordered : IsOrdered order run.plan run.journal

-- A run with this plan can be made from the session's state: it is the plan of the design as it stands, which can be run and whose images do
-- what its operators mean.
pub record CanRun (st : State) (plan : PlanValue) : Type 0 where
  pub planned : plan ≡ plan_in st
  pub runnable : IsRunnable st.draft.design (given_in st)
  pub means : KeepMeaning (images st.draft) (meanings st.draft)

-- A run of this plan was made: its record, whose journal is legal, over first at its end, and stands in this order, is the last one; and this is
-- its reply, for these names of operators and outputs, these are the rows that it leaves, and so it has counted.
pub record IsMade (order : Order) (plan : PlanValue) (old new : List Record) (names outs : List (List ℕ)) (said : List ℕ) (left : List (Option Row)) (counts : Counts) : Type 0 where
  pub run : Record
  pub planned : run.plan ≡ plan
  pub legal : IsLegal (tree_setup run.plan) run.journal
  pub over : IsSome (outcome (tree_setup run.plan) (end_of run))
  pub ordered : IsOrdered order run.plan run.journal
  pub last : new ≡ old ++ run ∷ []
  pub says : said ≡ reply (name_in names) (name_in outs) (length run.plan.pages) run.plan.outs (shown_by run)
  pub rows : left ≡ standing_rows (tree_setup run.plan) (end_of run)
  pub counted : counts ≡ counts_of run

-- a state that holds this, of which it is asked what its runs are
abbrev pub holding : ℕ → DraftState → List (Option Row) → State
holding rounds d standing = record { rounds = rounds; draft = d; compiled = []; built = true; standing = standing; runs = 0; counted = None }
