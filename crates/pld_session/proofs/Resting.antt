-- What runs show, as the design's own network promises it.
use Rattle.std.proofs.Common.{◌≡◌, ℕ, ◌/◌, ◌<◌, true, List, length, Some, sym, ap, subst, ◌∙◌, arith}
use Rattle.std.specs.Prelude.{slice_get}
use Rattle.pld_base.specs.Channels.{NodeEvent, OperatorNode, family_of}
use Rattle.pld_base.specs.Process.{Process}
use Rattle.pld_kahn.specs.Rest.{IsRestFamily}
use Rattle.hot_swap.specs.Paths.{RestsAfter}
use Rattle.pld_image.specs.Cores.{next}
use Rattle.pld_graph.specs.Design.{Design, outputs}
use Rattle.pld_link.specs.Seats.{operator_names}
use Rattle.net_switch.specs.declared.packet.Pattern.{Pattern}
use Rattle.net_tree.specs.Links.{sum_to}
use Rattle.leaf_port.specs.Leaf.{row_of}
use Rattle.fabric_run.specs.declared.entry.Entry.{Entry}
use Rattle.fabric_run.specs.declared.row.Outcome.TheVariants.{Spent}
use Rattle.fabric_run.specs.Plan.{PlanValue, PagePlan, IsSound, row_in, size_of, start_of}
use Rattle.fabric_run.specs.Replay.{IsLegal, replay, outcome}
use Rattle.fabric_run.specs.Reply.{reply, name_in}
use Rattle.fabric_run.specs.Shown.{Shown, shown}
use Rattle.fabric_run.specs.Trees.{tree_setup, longest_way}
use Rattle.fabric_run.specs.World.{changes, is_configured}
use Rattle.fabric_keeps.specs.Measure.{enough}
use Rattle.fabric_ends.specs.Planned.{IsDesign, SameDesign, network}
use Rattle.fabric_ends.specs.Promises.{HasRested, IsRested, KeepsPromise, ShowSame}
use Rattle.fabric_core.specs.declared.fabric.Record.{Record}
use Rattle.fabric_plan.specs.Plans.{Given, plan_of}
use Rattle.fabric_plan.specs.Wiring.{design_network}
use Rattle.fabric_plan.specs.Runnable.{IsRunnable, KeepMeaning}
use Rattle.pld_session.specs.States.{State}
use Rattle.pld_runner.specs.Orders.{Order}
use Rattle.pld_session.specs.Runs.{meanings, given_in, plan_in, shown_by, FitsRun}
use Rattle.pld_session.specs.Laws.{network_in, allowed_in, RestsAgree, RunsKeepTheirPromise, EnoughIsEnough, LeavesHoldTheTables}

abbrev pub PlansAreDesigns : Type 0
PlansAreDesigns = (d : Design) (given : Given) (operators : List Process) → IsRunnable d given → KeepMeaning given.images operators → IsDesign (plan_of d given) operators

abbrev pub PlansHaveTheirNetwork : Type 0
PlansHaveTheirNetwork = (d : Design) (given : Given) (operators : List Process) → IsRunnable d given → network (plan_of d given) operators ≡ design_network d operators given.feeds

abbrev pub PagesHaveImages : Type 0
PagesHaveImages = (d : Design) (given : Given) (k : ℕ) (p : PagePlan) → slice_get (plan_of d given).pages k ≡ Some p → slice_get given.images k ≡ Some p.image

abbrev pub PlansAreAlike : Type 0
PlansAreAlike = (d other : Design) (given given' : Given) → d.channels ≡ other.channels → operator_names d ≡ operator_names other
    → d.window ≡ other.window → given.feeds ≡ given'.feeds → IsRunnable d given → IsRunnable other given' → SameDesign (plan_of d given) (plan_of other given')

abbrev pub DesignsPromise : Type 0
DesignsPromise = (plan : PlanValue) (operators : List Process) (journal : List Entry) → IsDesign plan operators → IsLegal (tree_setup plan) journal
    → KeepsPromise plan.rounds plan.window (network plan operators) (shown (tree_setup plan) (replay (tree_setup plan) journal))

abbrev pub SpentIsEarly : Type 0
SpentIsEarly = (plan : PlanValue) (operators : List Process) (journal : List Entry) (rest : List NodeEvent) (limit : ℕ → ℕ) → IsDesign plan operators → IsLegal (tree_setup plan) journal
    → IsRestFamily plan.window (network plan operators) (family_of rest)
    → ((k : ℕ) (p : PagePlan) → slice_get plan.pages k ≡ Some p → RestsAfter next (start_of p) (limit k) (family_of rest (OperatorNode k)))
    → outcome (tree_setup plan) (replay (tree_setup plan) journal) ≡ Some Spent
    → plan.rounds < enough (longest_way plan.depth plan.pattern) (length rest) (length (changes (tree_setup plan))) (sum_to (length plan.pages) (λ k. limit k / 256)) (length plan.pages)

abbrev pub RestsShowSame : Type 0
RestsShowSame = (plan other : PlanValue) (operators : List Process) (journal journal' : List Entry) → SameDesign plan other → IsDesign plan operators → IsDesign other operators
    → IsLegal (tree_setup plan) journal → IsLegal (tree_setup other) journal'
    → IsRested (tree_setup plan) (replay (tree_setup plan) journal) → IsRested (tree_setup other) (replay (tree_setup other) journal')
    → ShowSame (shown (tree_setup plan) (replay (tree_setup plan) journal)) (shown (tree_setup other) (replay (tree_setup other) journal'))

abbrev pub RepliesShowSame : Type 0
RepliesShowSame = (names outputs : ℕ → List ℕ) (operators outs : ℕ) (a b : Shown) → HasRested a → ShowSame a b → reply names outputs operators outs a ≡ reply names outputs operators outs b

abbrev pub TablesAreHeld : Type 0
TablesAreHeld = (plan : PlanValue) (journal : List Entry) (leaf slot : ℕ) → IsSound plan → IsLegal (tree_setup plan) journal → is_configured (tree_setup plan) (replay (tree_setup plan) journal) ≡ true
    → leaf < size_of plan → row_of ((replay (tree_setup plan) journal).leaves leaf) slot ≡ row_in plan.tables leaf slot

-- the plan of a record that fits is one for the design of its operators
design_of : PlansAreDesigns → (order : Order) (st : State) (run : Record) → FitsRun order st run → IsDesign run.plan (meanings st.draft)
design_of designs order st run fit = subst (λ p. IsDesign p (meanings st.draft)) (sym fit.plan) (designs st.draft.design (given_in st) (meanings st.draft) fit.runnable fit.means)

network_of_run : PlansHaveTheirNetwork → (order : Order) (st : State) (run : Record) → FitsRun order st run → network run.plan (meanings st.draft) ≡ network_in st.draft
network_of_run nets order st run fit = ap (λ p. network p (meanings st.draft)) fit.plan ∙ nets st.draft.design (given_in st) (meanings st.draft) fit.runnable

pub runs_promise : PlansAreDesigns → PlansHaveTheirNetwork → DesignsPromise → RunsKeepTheirPromise
runs_promise designs nets promise order st run fit =
    let kept : KeepsPromise run.plan.rounds run.plan.window (network run.plan (meanings st.draft)) (shown_by run) =
    promise run.plan (meanings st.draft) run.journal (design_of designs order st run fit) fit.legal in
    let here : KeepsPromise run.plan.rounds run.plan.window (network_in st.draft) (shown_by run) =
    subst (λ n. KeepsPromise run.plan.rounds run.plan.window n (shown_by run)) (network_of_run nets order st run fit) kept in
    subst (λ (p : PlanValue). KeepsPromise p.rounds p.window (network_in st.draft) (shown_by run)) fit.plan here

pub rests_agree : PlansAreDesigns → PlansAreAlike → RestsShowSame → RepliesShowSame → RestsAgree
rests_agree designs alike rest told order other_order st st' run run' same fit fit' rested rested' =
    let d = st.draft in
    let other = st'.draft in
    let plans : SameDesign run.plan run'.plan = subst (λ p. SameDesign p run'.plan) (sym fit.plan) (subst (λ p. SameDesign (plan_in st) p) (sym fit'.plan)
    (alike d.design other.design (given_in st) (given_in st') same.channels same.names same.window same.feeds fit.runnable fit'.runnable)) in
    let design' : IsDesign run'.plan (meanings d) = subst (λ m. IsDesign run'.plan m) (sym same.meanings) (design_of designs other_order st' run' fit') in
    let shows : ShowSame (shown_by run) (shown_by run') = rest run.plan run'.plan (meanings d) run.journal run'.journal plans (design_of designs order st run fit) design' fit.legal fit'.legal rested rested' in
    let names = name_in (operator_names d.design) in
    let outs = name_in (outputs d.design.channels) in
    told names outs (length run.plan.pages) run.plan.outs (shown_by run) (shown_by run') rested shows
    ∙ ap (λ n. reply names outs n run.plan.outs (shown_by run')) plans.pages
    ∙ ap (λ n. reply names outs (length run'.plan.pages) n (shown_by run')) plans.outs
    ∙ ap (λ x. reply (name_in x) outs (length run'.plan.pages) run'.plan.outs (shown_by run')) same.names
    ∙ ap (λ cs. reply (name_in (operator_names other.design)) (name_in (outputs cs)) (length run'.plan.pages) run'.plan.outs (shown_by run')) same.channels

-- there is a page for each operator
pages_many : PlansAreDesigns → (order : Order) (st : State) (run : Record) → FitsRun order st run → length run.plan.pages ≡ length st.draft.design.operators
pages_many designs order st run fit = sym (design_of designs order st run fit).as_many ∙ fit.means.many ∙ fit.runnable.images.many

pub enough_is : PlansAreDesigns → PlansHaveTheirNetwork → PagesHaveImages → SpentIsEarly → EnoughIsEnough
enough_is designs nets have early order st run rest limit fit family rests fits spent =
    let d = st.draft in
    let design : IsDesign run.plan (meanings d) = design_of designs order st run fit in
    let most : ℕ → Pattern → ℕ → ℕ = λ depth pattern n. enough (longest_way depth pattern) (length rest) (length (changes (tree_setup run.plan))) (sum_to n (λ k. limit k / 256)) n in
    let here : IsRestFamily run.plan.window (network run.plan (meanings d)) (family_of rest) =
    subst (λ n. IsRestFamily run.plan.window n (family_of rest)) (sym (network_of_run nets order st run fit))
    (subst (λ (p : PlanValue). IsRestFamily p.window (network_in d) (family_of rest)) (sym fit.plan) family) in
    let page : (k : ℕ) (p : PagePlan) → slice_get run.plan.pages k ≡ Some p → RestsAfter next (start_of p) (limit k) (family_of rest (OperatorNode k)) =
    λ k p e. rests k p.image (have d.design (given_in st) k p (subst (λ (q : PlanValue). slice_get q.pages k ≡ Some p) fit.plan e)) in
    let few : run.plan.rounds < most run.plan.depth run.plan.pattern (length run.plan.pages) = early run.plan (meanings d) run.journal rest limit design fit.legal here page spent in
    let counted : run.plan.rounds < most run.plan.depth run.plan.pattern (length d.design.operators) =
    subst (λ n. run.plan.rounds < most run.plan.depth run.plan.pattern n) (pages_many designs order st run fit) few in
    let told : allowed_in st < most d.design.depth d.design.pattern (length d.design.operators) =
    subst (λ (p : PlanValue). p.rounds < most p.depth p.pattern (length d.design.operators)) fit.plan counted in
    omega (arith, told, fits)

pub rows_held : TablesAreHeld → PlansAreDesigns → LeavesHoldTheTables
rows_held held designs order st run leaf slot fit configured l =
    let sound : IsSound run.plan = (design_of designs order st run fit).sound in
    let inside : leaf < size_of run.plan = subst (λ (p : PlanValue). leaf < size_of p) (sym fit.plan) l in
    held run.plan run.journal leaf slot sound fit.legal configured inside ∙ ap (λ (p : PlanValue). row_in p.tables leaf slot) fit.plan
