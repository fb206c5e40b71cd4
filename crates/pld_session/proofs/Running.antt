-- The run of a design that was built.
use Rattle.std.proofs.Common.{◌≡◌, ℕ, zero, suc, ◌+◌, ◌-◌, ◌^◌, ◌<◌, ◌≤◌, Bool, true, false, List, [], ◌∷◌, ◌++◌, length, map, Option, Some, inl, refl, sym, ap, subst, ◌∙◌, arith}
use Rattle.std.proofs.Math.Nat.{pow-le-pow_right}
use Rattle.std.proofs.lemmas.Bool.Decides.{nat_tests}
use Rattle.std.specs.Prelude.{Result, Ok, Err, OnErr, slice_get, slice_index_or, nat_lt, if◌then◌else◌}
use Rattle.std.specs.List.{All, AllByRecursion}
use Rattle.std.specs.Str.{bytes_eq}
use Rattle.std.proofs.lemmas.List.Elements.{All-head, All-tail, All-nil, All-cons}
use Rattle.std.proofs.lemmas.Option.{none-some, same_Some}
use Rattle.net_switch.specs.declared.packet.Row.{Row}
use Rattle.pld_base.specs.Words.{IsWord}
use Rattle.pld_base.specs.Machine.{machine}
use Rattle.pld_base.specs.Process.{Process, IsProcess, WritesWords, idle}
use Rattle.pld_kahn.specs.Realises.{Realises}
use Rattle.pld_ast.specs.Resolve.{program_of}
use Rattle.pld_ast.specs.Sound.{IsSound}
use Rattle.pld_graph.specs.declared.parts.OperatorEntry.{OperatorEntry}
use Rattle.pld_graph.specs.Design.{Design, inputs, outputs, operator_at}
use Rattle.pld_graph.specs.Sound.{IsSound as IsSoundDesign}
use Rattle.pld_place.specs.Placing.{pages, placed, IsPlaced}
use Rattle.pld_link.specs.Seats.{IsPlacement, operator_names}
use Rattle.pld_link.specs.Rows.{rows}
use Rattle.image_form.specs.Spelling.{Form, IsForm}
use Rattle.pld_image.specs.Cores.{load, next}
use Rattle.pld_image.specs.Ports.{ins_of, outs_of}
use Rattle.pld_image.specs.Processes.{process_of}
use Rattle.pld_draft.specs.declared.parts.Source.{Source}
use Rattle.pld_draft.specs.declared.parts.Feed.{Feed}
use Rattle.pld_draft.specs.Draft.{DraftState, IsKept, entry_ports, source_ports, Ports, words_of}
use Rattle.pld_build.specs.Images.{image_of, meaning_of}
use Rattle.fabric_run.specs.Plan.{PlanValue}
use Rattle.fabric_run.specs.Reply.{reply as run_reply, name_in}
use Rattle.fabric_run.specs.Shown.{shown}
use Rattle.fabric_run.specs.Trees.{tree_setup}
use Rattle.fabric_core.specs.Runs.{RunValue, setup_for, state_of}
use Rattle.fabric_core.specs.declared.counts.Counts.{Counts}
use Rattle.fabric_core.specs.declared.fabric.Record.{Record}
use Rattle.fabric_ends.specs.Planned.{IsDesign}
use Rattle.fabric_plan.specs.Plans.{Given, plan_of}
use Rattle.fabric_plan.specs.Runnable.{IsRunnable, ArePlaced, HaveImages, AreFed, KeepMeaning}
use Rattle.fabric_plan.specs.Standing.{AreStanding, standing_rows}
use Rattle.pld_driver.specs.Walk.{Step, Says, Runs}
use Rattle.pld_driver.specs.Moments.{Took, Broke}
use Rattle.pld_driver.specs.declared.engine.Bench.{Bench}
use Rattle.pld_reply.specs.declared.refusals.Refusal.TheVariants as refusal
use Rattle.build_cache.specs.Pairs.{Pair}
use Rattle.pld_session.specs.States.{State, BuildValue, IsBuild, CanBuild, images, leaves}
use Rattle.pld_runner.specs.Orders.{Order}
use Rattle.pld_session.specs.Runs.{meanings, feeds, given_in, ran_reply, end_of, counts_of, shown_by, FitsRun, CanRun, IsMade, holding}
use Rattle.pld_session.specs.Answers.{runs, runs_built, ran, after_run, refuses, most_runs}

-- what the laws below tell
pub record Laws : Type 0 where
  pub meaning : (s : Source) → IsSound (program_of s.operator) → Realises (process_of (image_of s)) (meaning_of s)
  pub words : (s : Source) → IsSound (program_of s.operator) → WritesWords (process_of (image_of s))
  pub cores : (form : Form) → machine next (load form) ≡ process_of form
  pub forms : (s : Source) → IsSound (program_of s.operator) → IsForm (image_of s)
  pub ins : (s : Source) → ins_of (image_of s) ≡ (program_of s.operator).ins
  pub outs : (s : Source) → outs_of (image_of s) ≡ (program_of s.operator).outs
  pub place : (d : Design) → IsSoundDesign d → length d.operators ≤ pages d → IsPlaced d (placed d)

-- a list has as many elements as what a function makes of them
pub many : {X Y : Type 0} (f : X → Y) (xs : List X) → length (map f xs) ≡ length xs
many f [] = refl
many f (x ∷ xs) = ap suc (many f xs)

-- what holds of each element holds of what a function makes of it
mapped : {X Y : Type 0} (P : X → Type 0) (Q : Y → Type 0) (f : X → Y) (xs : List X) → ((x : X) → P x → Q (f x)) → All P xs → All Q (map f xs)
mapped P Q f [] each h = All-nil Q
mapped P Q f (x ∷ xs) each h = All-cons Q (f x) (map f xs) (each x (All-head P x xs h)) (mapped P Q f xs each (All-tail P x xs h))

abbrev SoundSource : Source → Type 0
SoundSource s = IsSound (program_of s.operator)

-- the k-th source, of which the k-th element is made
record At {Y : Type 0} (P : Source → Type 0) (f : Source → Y) (ss : List Source) (k : ℕ) (y : Y) : Type 0 where
  source : Source
  there : slice_get ss k ≡ Some source
  holds : P source
  made : y ≡ f source

at : {Y : Type 0} (P : Source → Type 0) (f : Source → Y) (ss : List Source) (k : ℕ) (y : Y) → slice_get (map f ss) k ≡ Some y → All P ss → At P f ss k y
at P f [] zero y e h = absurd (none-some y e)
at P f [] (suc k) y e h = absurd (none-some y e)
at P f (s ∷ ss) zero y e h = record { source = s; there = refl; holds = All-head P s ss h; made = sym (same_Some (f s) y e) }
at P f (s ∷ ss) (suc k) y e h =
    let r : At P f ss k y = at P f ss k y e (All-tail P s ss h) in
    record { source = r.source; there = r.there; holds = r.holds; made = r.made }

-- what a function makes of the k-th element
made_of : {X Y : Type 0} (f : X → Y) (xs : List X) (k : ℕ) (x : X) (y : Y) → slice_get xs k ≡ Some x → slice_index_or (map f xs) k y ≡ f x
made_of f [] zero x y e = absurd (none-some x e)
made_of f [] (suc k) x y e = absurd (none-some x e)
made_of f (z ∷ xs) zero x y e = ap f (same_Some z x e)
made_of f (z ∷ xs) (suc k) x y e = made_of f xs k x y e

abbrev first : Ports → List Ports → Ports
first p [] = p
first p (x ∷ xs) = x

abbrev rest : List Ports → List Ports
rest [] = []
rest (x ∷ xs) = xs

-- the k-th operator has the k-th source's ports
ports_at : (os : List OperatorEntry) (ss : List Source) (k : ℕ) (s : Source) → map entry_ports os ≡ map source_ports ss → slice_get ss k ≡ Some s → entry_ports (operator_at os k) ≡ source_ports s
ports_at os [] zero s e there = absurd (none-some s there)
ports_at os [] (suc k) s e there = absurd (none-some s there)
ports_at [] (z ∷ ss) k s e there = let n : 0 ≡ suc (length (map source_ports ss)) = ap length e in absurd (omega (arith, n))
ports_at (o ∷ os) (z ∷ ss) zero s e there = ap (first (entry_ports o)) e ∙ ap source_ports (same_Some z s there)
ports_at (o ∷ os) (z ∷ ss) (suc k) s e there = ports_at os ss k s (ap rest e) there

-- no input has more words than a feed may have
words_short : (name : List ℕ) (fs : List Feed) → All (λ f. length f.words ≤ 65536) fs → length (words_of name fs) ≤ 65536
words_short name [] h = omega arith
words_short name (f ∷ fs) h =
    pick (bytes_eq f.name name) f.words (words_of name fs) (All-head (λ f. length f.words ≤ 65536) f fs h) (words_short name fs (All-tail (λ f. length f.words ≤ 65536) f fs h))
  where
    pick : (b : Bool) (xs ys : List ℕ) → length xs ≤ 65536 → length ys ≤ 65536 → length (if b then xs else ys) ≤ 65536
    pick true xs ys h g = h
    pick false xs ys h g = g

-- what is known of a draft whose design was built, and of the rows that stand
pub record IsReady (rounds : ℕ) (d : DraftState) (made : BuildValue) (standing : List (Option Row)) : Type 0 where
  pub a_round : 1 ≤ rounds
  pub kept : IsKept d
  pub design : IsSoundDesign d.design
  pub built : IsBuild d made
  pub stands : AreStanding d.design.depth standing
  pub processes : AllByRecursion IsProcess (meanings d)
  pub sound : All SoundSource d.sources
  pub words : All (All IsWord) (feeds d)

-- there is an operator for each source
pub operators_many : (d : DraftState) → IsKept d → length d.design.operators ≡ length d.sources
operators_many d k = sym (many entry_ports d.design.operators) ∙ ap length k.ports ∙ many source_ports d.sources

-- a tree of depth 6 at most has 63 pages at most
few_pages : (depth : ℕ) → depth ≤ 6 → 2 ^ depth - 1 ≤ 63
few_pages depth l = let p : 2 ^ depth ≤ 2 ^ 6 = pow-le-pow_right (omega arith) l in omega (arith, p)

some_leaf : (depth : ℕ) → 0 < 2 ^ depth
some_leaf depth = pow-le-pow_right (omega arith) (let z : 0 ≤ depth = omega arith in z)

-- the leaves of a placed design
pub placement : (d : Design) → IsSoundDesign d → IsPlaced d (placed d) → IsPlacement d (placed d)
placement d sound p =
    let few : 2 ^ d.depth - 1 ≤ 63 = few_pages d.depth sound.most in
    record {
      each = p.each;
      pages = λ k x l. (let w = p.within k x l in (w.0, omega (arith, w.1, few)));
      alone = p.alone;
    }

module _ (laws : Laws) (rounds : ℕ) (d : DraftState) (made : BuildValue) (standing : List (Option Row)) (h : IsReady rounds d made standing) where
  can : CanBuild d
  can = h.built.can

  enough : length d.design.operators ≤ pages d.design
  enough = subst (λ n. n ≤ pages d.design) (sym (operators_many d h.kept)) can.enough

  is_placed : IsPlaced d.design (leaves d)
  is_placed = laws.place d.design h.design enough

  are_placed : ArePlaced d.design (leaves d)
  are_placed = record {
    placement = placement d.design h.design is_placed;
    within = λ k x l. (let w = is_placed.within k x l in let s = some_leaf d.design.depth in omega (arith, w.1, s));
  }

  image_ports : (k : ℕ) (image : Form) → slice_get (images d) k ≡ Some image → (ins_of image ≡ (operator_at d.design.operators k).ins) × (outs_of image ≡ (operator_at d.design.operators k).outs)
  image_ports k image e =
      let r : At SoundSource image_of d.sources k image = at SoundSource image_of d.sources k image e h.sound in
      let same : entry_ports (operator_at d.design.operators k) ≡ source_ports r.source = ports_at d.design.operators d.sources k r.source h.kept.ports r.there in
      (ap ins_of r.made ∙ laws.ins r.source ∙ sym (ap (λ (p : Ports). p.ins) same), ap outs_of r.made ∙ laws.outs r.source ∙ sym (ap (λ (p : Ports). p.outs) same))

  have_images : HaveImages d.design (images d)
  have_images = record {
    many = many image_of d.sources ∙ sym (operators_many d h.kept);
    forms = mapped SoundSource IsForm image_of d.sources laws.forms h.sound;
    ins = λ k image e. (image_ports k image e).0;
    outs = λ k image e. (image_ports k image e).1;
  }

  are_fed : AreFed d.design (feeds d)
  are_fed = record {
    many = many (λ name. words_of name d.feeds) (inputs d.design.channels);
    short = short (inputs d.design.channels);
    words = h.words;
  }
    where
      Short : List ℕ → Type 0
      Short feed = length feed ≤ 65536

      short : (names : List (List ℕ)) → All (λ feed. length feed ≤ 65536) (map (λ name. words_of name d.feeds) names)
      short [] = All-nil (λ (feed : List ℕ). length feed ≤ 65536)
      short (name ∷ names) = All-cons (λ (feed : List ℕ). length feed ≤ 65536) (words_of name d.feeds) (map (λ name. words_of name d.feeds) names) (words_short name d.feeds h.kept.few) (short names)

  pub runnable : IsRunnable d.design (given_in (holding rounds d standing))
  runnable = record {
    sound = h.design;
    closed = can.closed;
    an_operator = subst (λ n. 1 ≤ n) (sym (operators_many d h.kept)) can.an_operator;
    placed = are_placed;
    images = have_images;
    fed = are_fed;
    before = h.stands;
    a_round = h.a_round;
  }

  realises : (k : ℕ) (image : Form) → slice_get (images d) k ≡ Some image → Realises (machine next (load image)) (slice_index_or (meanings d) k idle)
  realises k image e =
      let r : At SoundSource image_of d.sources k image = at SoundSource image_of d.sources k image e h.sound in
      let P : Form → Type 0 = λ f. Realises (machine next (load f)) (slice_index_or (meanings d) k idle) in
      subst P (sym r.made) (subst (λ q. Realises (machine next (load (image_of r.source))) q) (sym (made_of meaning_of d.sources k r.source idle r.there))
      (subst (λ p. Realises p (meaning_of r.source)) (sym (laws.cores (image_of r.source))) (laws.meaning r.source r.holds)))

  writes : (k : ℕ) (image : Form) → slice_get (images d) k ≡ Some image → WritesWords (machine next (load image))
  writes k image e =
      let r : At SoundSource image_of d.sources k image = at SoundSource image_of d.sources k image e h.sound in
      let P : Form → Type 0 = λ f. WritesWords (machine next (load f)) in
      subst P (sym r.made) (subst WritesWords (sym (laws.cores (image_of r.source))) (laws.words r.source r.holds))

  pub means : KeepMeaning (images d) (meanings d)
  means = record {
    many = many meaning_of d.sources ∙ sym (many image_of d.sources);
    processes = h.processes;
    realise = realises;
    write = writes;
  }

-- there is a leaf for each operator
pub leaves_many : ((d : Design) → IsSoundDesign d → length d.operators ≤ pages d → IsPlaced d (placed d)) → (d : DraftState) (made : BuildValue) → IsKept d → IsSoundDesign d.design → IsBuild d made
    → length made.leaves ≡ length d.design.operators
leaves_many place d made kept sound built =
    ap length built.leaves ∙ (place d.design sound (subst (λ n. n ≤ pages d.design) (sym (operators_many d kept)) built.can.enough)).each

-- what is given, of equal parts
pub same_given : (a b : Given) → a.leaves ≡ b.leaves → a.images ≡ b.images → a.before ≡ b.before → a.feeds ≡ b.feeds → a.rounds ≡ b.rounds → a ≡ b
same_given a b l i p f r =
    ap (λ x. record { leaves = x; images = a.images; before = a.before; feeds = a.feeds; rounds = a.rounds }) l
    ∙ ap (λ x. record { leaves = b.leaves; images = x; before = a.before; feeds = a.feeds; rounds = a.rounds }) i
    ∙ ap (λ x. record { leaves = b.leaves; images = b.images; before = x; feeds = a.feeds; rounds = a.rounds }) p
    ∙ ap (λ x. record { leaves = b.leaves; images = b.images; before = b.before; feeds = x; rounds = a.rounds }) f
    ∙ ap (λ x. record { leaves = b.leaves; images = b.images; before = b.before; feeds = b.feeds; rounds = x }) r

-- the state behind a run
pub run_state : (st : State) (left : List (Option Row)) (counts : Counts) (run : Record) → left ≡ standing_rows (tree_setup run.plan) (end_of run) → counts ≡ counts_of run
    → ◌≡◌ {A = State} (record st { standing = left; runs = st.runs + 1; counted = Some counts }) (after_run st run)
run_state st left counts run rows same =
    ap (λ l. record st { standing = l; runs = st.runs + 1; counted = Some counts }) rows ∙ ap (λ x. record st { standing = standing_rows (tree_setup run.plan) (end_of run); runs = st.runs + 1; counted = Some x }) same

pub same_counts : (a b : Counts) → a.rounds ≡ b.rounds → a.packets ≡ b.packets → a.deflected ≡ b.deflected → a.configs ≡ b.configs → a ≡ b
same_counts a b r p d c =
    ap (λ x. record { rounds = x; packets = a.packets; deflected = a.deflected; configs = a.configs }) r
    ∙ ap (λ x. record { rounds = b.rounds; packets = x; deflected = a.deflected; configs = a.configs }) p
    ∙ ap (λ x. record { rounds = b.rounds; packets = b.packets; deflected = x; configs = a.configs }) d
    ∙ ap (λ x. record { rounds = b.rounds; packets = b.packets; deflected = b.deflected; configs = x }) c

pub below : (n m : ℕ) → n < m → nat_lt n m ≡ true
below n m h = grind (arith, nat_tests, h)

-- a run that isn't made leaves nothing
pub not_yet : (st : State) (number : ℕ) (old new : Bench Record) → st.built ≡ true → nat_lt st.runs most_runs ≡ true → new.records.items ≡ old.records.items → new.permits ≡ old.permits → Broke (runs st number) old new
not_yet st number old new built few records permits =
    let Built : Bool → Step State Record = λ b. if b then runs_built st number else Says (refuses st number refusal.NotBuilt) in
    let Few : Bool → Step State Record = λ b. if b then Runs (ran st) else Says (refuses st number refusal.TooManyRuns) in
    subst (λ x. Broke x old new) (sym (ap Built built ∙ ap Few few)) (records, permits)

pub on_err : {A E : Type 0} {P : Type 0} (r : Result A E) → P → OnErr r P
on_err (Ok x) h = tt
on_err (Err e) h = h

-- a run was made, and its record left
pub took : (order : Order) (st : State) (number : ℕ) (run : Record) (old new : Bench Record) (reply : List ℕ) (next : State) → st.built ≡ true → nat_lt st.runs most_runs ≡ true → FitsRun order st run
    → new.records.items ≡ old.records.items ++ run ∷ [] → new.permits ≡ old.permits → reply ≡ ran_reply st.draft run → next ≡ after_run st run → Took (runs st number) (FitsRun order st) old new reply false next
took order st number run old new reply next built few fit records permits said state =
    let Built : Bool → Step State Record = λ b. if b then runs_built st number else Says (refuses st number refusal.NotBuilt) in
    let Few : Bool → Step State Record = λ b. if b then Runs (ran st) else Says (refuses st number refusal.TooManyRuns) in
    let same : runs st number ≡ Runs (ran st) = ap Built built ∙ ap Few few in
    subst (λ x. Took x (FitsRun order st) old new reply false next) (sym same) (run, record { fit = fit; last = records }, record { says = said; flag = refl; state = state; spent = omega (arith, permits) })

-- the record of a run that was made fits the state
pub fits_made : (order : Order) (st : State) (plan : PlanValue) (old new : List Record) (names outs : List (List ℕ)) (said : List ℕ) (left : List (Option Row)) (counts : Counts)
    → CanRun st plan → (made : IsMade order plan old new names outs said left counts) → FitsRun order st made.run
fits_made order st plan old new names outs said left counts can made = record {
  plan = made.planned ∙ can.planned;
  runnable = can.runnable;
  means = can.means;
  legal = made.legal;
  over = made.over;
  ordered = made.ordered;
}

-- what was said is the reply
pub said_made : (order : Order) (st : State) (plan : PlanValue) (old new : List Record) (names outs : List (List ℕ)) (said : List ℕ) (left : List (Option Row)) (counts : Counts)
    → (made : IsMade order plan old new names outs said left counts) → names ≡ operator_names st.draft.design → outs ≡ outputs st.draft.design.channels → said ≡ ran_reply st.draft made.run
said_made order st plan old new names outs said left counts made n o =
    let text : List (List ℕ) → List (List ℕ) → List ℕ = λ x y. run_reply (name_in x) (name_in y) (length made.run.plan.pages) made.run.plan.outs (shown_by made.run) in
    made.says ∙ ap (λ x. text x outs) n ∙ ap (λ x. text (operator_names st.draft.design) x) o

-- what holds of a state holds of those that hold the same of a run
pub can_hold : (st : State) (plan : PlanValue) → CanRun (holding st.rounds st.draft st.standing) plan → CanRun st plan
can_hold st plan can = record { planned = can.planned; runnable = can.runnable; means = can.means }

-- the plan is one for the design of what its operators mean
pub run_design : (st : State) (plan : PlanValue) → ((d : Design) (given : Given) (operators : List Process) → IsRunnable d given → KeepMeaning given.images operators → IsDesign (plan_of d given) operators)
    → CanRun st plan → IsDesign plan (meanings st.draft)
run_design st plan designs can = subst (λ (p : PlanValue). IsDesign p (meanings st.draft)) (sym can.planned) (designs st.draft.design (given_in st) (meanings st.draft) can.runnable can.means)

-- it has a page for each operator
pub run_pages : (st : State) (plan : PlanValue) → ((d : Design) (given : Given) (operators : List Process) → IsRunnable d given → KeepMeaning given.images operators → IsDesign (plan_of d given) operators)
    → CanRun st plan → length plan.pages ≡ length st.draft.design.operators
run_pages st plan designs can = sym (run_design st plan designs can).as_many ∙ can.means.many ∙ can.runnable.images.many
