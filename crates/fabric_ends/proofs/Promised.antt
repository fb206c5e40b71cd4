-- What every run of a plan promises, of the network of its operators.
use Rattle.std.proofs.Common.{◌≡◌, ◌≢◌, ℕ, zero, suc, ◌+◌, ◌<◌, ◌≤◌, ◌⊎◌, ◌||◌, not, Bool, true, false, List, [], ◌∷◌, length, refl, ap, sym, ◌∙◌, arith, Option, Some, None, subst, inl, inr, ⊎_elim}
use Rattle.std.specs.Prelude.{if◌then◌else◌, nat_lt, is_some, slice_index_or}
use Rattle.std.proofs.lemmas.Bool.Decides.{nat_tests}
use Rattle.std.proofs.lemmas.List.Elements.{All-nil}
use Rattle.pld_base.specs.Words.{IsWord}
use Rattle.pld_base.specs.Process.{Process, WritesWords, Returned, idle}
use Rattle.pld_base.specs.declared.event.Side.{Side}
use Rattle.pld_base.specs.declared.event.Side.TheVariants.{In, Out}
use Rattle.pld_base.specs.Machine.{machine}
use Rattle.pld_base.specs.Channels.{Node, OperatorNode, InputNode, OutputNode, Wiring, Family, family_of, IsPointToPoint, KeepsWindow, AfterEach}
use Rattle.pld_base.proofs.Prefixes.{prefix_of_eq}
use Rattle.pld_kahn.specs.Network.{Network, IsKahnNetwork}
use Rattle.pld_kahn.specs.Kahn.{IsWholeStream}
use Rattle.pld_kahn.specs.Rest.{IsConsistent, IsReached, HasEnded, IsAtEmpty, IsAtRest, Returns, At_empty, At_full, Standing, Over, Empty_port, Full_port, standing_of, IsRestFamily}
use Rattle.pld_kahn.specs.Realises.{Realises}
use Rattle.pld_kahn.proofs.Hosts.{finite_network}
use Rattle.pld_kahn.proofs.Reached.{each_follows, reached_consistent}
use Rattle.pld_kahn.proofs.Iterates.{read_begins}
use Rattle.pld_kahn.proofs.Whole.{output_whole}
use Rattle.pld_image.specs.Cores.{Core, next}
use Rattle.pld_image.specs.declared.page.TurnEnd.{TurnEnd}
use Rattle.pld_image.specs.declared.page.TurnEnd.TheVariants.{AtRead, AtWrite, Ended, Limit}
use Rattle.fabric_run.specs.declared.entry.Entry.{Entry}
use Rattle.fabric_run.specs.declared.entry.Entry.TheVariants.{Take, Give, Net}
use Rattle.fabric_run.specs.declared.row.Outcome.{Outcome}
use Rattle.fabric_run.specs.declared.row.Outcome.TheVariants.{Done, Stalled, Spent}
use Rattle.fabric_run.specs.declared.row.Blocked.{Blocked}
use Rattle.fabric_run.specs.World.{Carrier, Setup, State, PageState, start, out_at}
use Rattle.fabric_run.specs.Replay.{none_out, is_still, is_over, all_ended, is_finished, has_ended, outcome, blocked_by, page_blocked, blocked, goes_on, may, after, run, replay, IsLegal, IsLegalFrom, makes_round, nets}
use Rattle.fabric_run.specs.Plan.{PagePlan, PlanValue, IsSound, image_in, leaf_of, number_of, feed_of, start_of, setup_of}
use Rattle.fabric_run.specs.Plan as plans
use Rattle.fabric_keeps.specs.Facts.{RunsWell}
use Rattle.fabric_keeps.specs.Links as links
use Rattle.fabric_keeps.specs.Paths.{page_process, page_network}
use Rattle.fabric_keeps.specs.Whole.{IsWhole}
use Rattle.fabric_ends.specs.Carrying.{IsCarried}
use Rattle.fabric_run.specs.Shown.{shown}
use Rattle.fabric_ends.specs.Planned.{network, IsDesign}
use Rattle.fabric_ends.specs.Promises.{IsRested, StandsAtSide, StandsWhere, NamesNoFullPort, KeepsStreams, KeepsPromise}
use Rattle.fabric_keeps.proofs.Base.{both, lt_true, all_below}
use Rattle.fabric_keeps.proofs.Calm.{calm_of}
use Rattle.fabric_keeps.proofs.Configures.{windows_of}
use Rattle.fabric_keeps.proofs.Follows.{follows}
use Rattle.fabric_ends.proofs.Resting.{IsRun, run_of, StandsBy, LeafStands, leaf_stands, none_ended, node_rest}
use Rattle.fabric_keeps.proofs.Counted.{given_rounds, net_rounds}
use Rattle.fabric_keeps.proofs.Legal.{run_whole}
use Rattle.fabric_ends.proofs.Plans.{page_at, sound_run}
use Rattle.fabric_ends.proofs.Wired.{pages_kahn, point_to_point, same_wiring}
use Rattle.fabric_ends.proofs.Carrying.{carried_traces, carried_reached, has_returned, at_empty, at_full, node_at_rest}

none_some : {X : Type 0} (x : X) → None ≡ Some x → ⊥
none_some x e = cc

some_same : {X : Type 0} (x y : X) → Some x ≡ Some y → x ≡ y
some_same x y e = cc

realises_itself : (p : Process) → Realises p p
realises_itself p = record {
  within = λ ins w n. (n, prefix_of_eq refl);
  covers = λ ins w n. (n, prefix_of_eq refl);
  returns = λ ins w es. (λ h. h, λ h. h);
  starves = λ ins w es port. (λ h. h, λ h. h);
}

past_end : (ops : List Process) (k : ℕ) → length ops ≤ k → slice_index_or ops k idle ≡ idle
past_end [] k l = refl
past_end (p ∷ ops) zero l = absurd (omega arith)
past_end (p ∷ ops) (suc k) l = past_end ops k (omega arith)

page_within : (ps : List PagePlan) (k : ℕ) (o : Option Core) → image_in ps k ≡ o → o ≡ None → length ps ≤ k
page_within [] k o e f = omega arith
page_within (p ∷ ps) zero o e f = absurd (none_some (start_of p) (sym f ∙ sym e))
page_within (p ∷ ps) (suc k) o e f = omega (arith, page_within ps k o e f)

-- How a run is over.

pub over_rounds : {S : Type 0} (setup : Setup S) (st : State S) → outcome setup st ≡ Some Spent → (is_still setup st ≡ false) × (setup.allowed ≤ st.rounds)
over_rounds setup st e = by (is_over setup st) (is_still setup st) (all_ended setup st) refl refl e
  where
    pick : Bool → Bool → Bool → Option Outcome
    pick a b c = if a then (if b then (if c then Some Done else Some Stalled) else Some Spent) else None

    by : (a b c : Bool) → is_over setup st ≡ a → is_still setup st ≡ b → (if a then (if b then (if c then Some Done else Some Stalled) else Some Spent) else None) ≡ Some Spent → (is_still setup st ≡ false) × (setup.allowed ≤ st.rounds)
    by false b c f g h = absurd (none_some Spent h)
    by true true true f g h = absurd (let x : Done ≡ Spent = some_same Done Spent h in let no : ⊥ = cc in no)
    by true true false f g h = absurd (let x : Stalled ≡ Spent = some_same Stalled Spent h in let no : ⊥ = cc in no)
    by true false c f g h = (
      g,
      let a = both (none_out setup st) _ f in
          let z : (false || not (nat_lt st.rounds setup.allowed)) ≡ true = subst (λ (x : Bool). (x || not (nat_lt st.rounds setup.allowed)) ≡ true) g a.1 in
          grind (arith, nat_tests),
    )

pub rested_still : {S : Type 0} (setup : Setup S) (st : State S) → IsRested setup st → is_still setup st ≡ true
rested_still setup st r = ⊎_elim (λ e. by (is_over setup st) (is_still setup st) (all_ended setup st) Done refl (λ s. (let no : ⊥ = cc in no)) e) (λ e. by (is_over setup st) (is_still setup st) (all_ended setup st) Stalled refl (λ s. (let no : ⊥ = cc in no)) e) r
  where
    by : (a b c : Bool) (o : Outcome) → is_still setup st ≡ b → (Spent ≡ o → ⊥) → (if a then (if b then (if c then Some Done else Some Stalled) else Some Spent) else None) ≡ Some o → is_still setup st ≡ true
    by false b c o g n h = absurd (none_some o h)
    by true true c o g n h = g
    by true false c o g n h = absurd (n (some_same Spent o h))

pub done_ended : {S : Type 0} (setup : Setup S) (st : State S) → outcome setup st ≡ Some Done → all_ended setup st ≡ true
done_ended setup st e = by (is_over setup st) (is_still setup st) (all_ended setup st) refl e
  where
    by : (a b c : Bool) → all_ended setup st ≡ c → (if a then (if b then (if c then Some Done else Some Stalled) else Some Spent) else None) ≡ Some Done → all_ended setup st ≡ true
    by false b c g h = absurd (none_some Done h)
    by true true true g h = g
    by true true false g h = absurd (let x : Stalled ≡ Done = some_same Stalled Done h in let no : ⊥ = cc in no)
    by true false c g h = absurd (let x : Spent ≡ Done = some_same Spent Done h in let no : ⊥ = cc in no)

-- Rounds are counted.

rounds_after : {S : Type 0} (setup : Setup S) (st : State S) (e : Entry) → (after setup st e).rounds ≡ st.rounds + makes_round e
rounds_after setup st (Take seat leaf) = omega arith
rounds_after setup st (Give seat leaf) = given_rounds setup st leaf (st.pages leaf) ∙ omega arith
rounds_after setup st (Net seat) = net_rounds setup st

pub rounds_are : {S : Type 0} (setup : Setup S) (st : State S) (es : List Entry) → (run setup st es).rounds ≡ st.rounds + nets es
rounds_are setup st [] = omega arith
rounds_are setup st (e ∷ es) = omega (arith, rounds_are setup (after setup st e) es, rounds_after setup st e)

entry_within : {S : Type 0} (setup : Setup S) (st : State S) (e : Entry) → may setup st e ≡ true → st.rounds ≤ setup.allowed → (after setup st e).rounds ≤ setup.allowed
entry_within setup st (Take seat leaf) m l = l
entry_within setup st (Give seat leaf) m l = omega (arith, given_rounds setup st leaf (st.pages leaf))
entry_within setup st (Net seat) m l =
    let a = both (goes_on setup st) _ m in
    let b = both (nat_lt st.rounds setup.allowed) _ a.0 in
    omega (arith, net_rounds setup st, lt_true st.rounds setup.allowed b.0)

pub rounds_within : {S : Type 0} (setup : Setup S) (st : State S) (es : List Entry) → IsLegalFrom setup st es → st.rounds ≤ setup.allowed → (run setup st es).rounds ≤ setup.allowed
rounds_within setup st [] l h = h
rounds_within setup st (e ∷ es) l h = rounds_within setup (after setup st e) es l.1 (entry_within setup st e l.0 h)

pub spent_all : {S : Type 0} (setup : Setup S) (es : List Entry) → IsLegal setup es → outcome setup (replay setup es) ≡ Some Spent → (replay setup es).rounds ≡ setup.allowed
spent_all setup es l e = omega (arith, rounds_within setup (start setup) es l (omega arith), (over_rounds setup (replay setup es) e).1)

-- no unfinished page stands at a port that isn't named
unblocked : (o : Option PageState) → is_finished o ≡ true → page_blocked o ≡ None
unblocked None e = refl
unblocked (Some p) e = by p.end e
  where
    by : (end : Option TurnEnd) → has_ended end ≡ true → blocked_by end ≡ None
    by None h = absurd (let x : false ≡ true = h in cc)
    by (Some (AtRead q)) h = absurd (let x : false ≡ true = h in cc)
    by (Some (AtWrite q w)) h = absurd (let x : false ≡ true = h in cc)
    by (Some Ended) h = refl
    by (Some Limit) h = absurd (let x : false ≡ true = h in cc)

-- where a port is named by a standing
abbrev pub standing_by_side : Side → ℕ → Standing
standing_by_side In port = Empty_port port
standing_by_side Out port = Full_port port

abbrev pub standing_by : Option Blocked → Standing
standing_by None = Over
standing_by (Some at) = standing_by_side at.side at.port.0

module _ {S : Type 0} (net : Carrier S) (plan : PlanValue) (operators : List Process) (design : IsDesign plan operators) where
  abbrev setup : Setup S
  setup = setup_of net plan

  pub links_sound : links.IsSound setup
  links_sound = sound_run net plan design.sound

  abbrev images : Network
  images = page_network setup (links.wiring_of setup)

  abbrev means : Network
  means = network plan operators

  pub images_kahn : IsKahnNetwork images
  images_kahn = pages_kahn setup links_sound

  pub means_kahn : IsKahnNetwork means
  means_kahn = finite_network operators plan.feeds (plans.wiring_of plan) design.processes (subst IsPointToPoint (same_wiring net plan design.sound) (point_to_point setup links_sound))

  realise_at : (k : ℕ) (o : Option Core) → image_in plan.pages k ≡ o → Realises (page_process o) (slice_index_or operators k idle)
  realise_at k None e =
      subst (λ (p : Process). Realises idle p) (sym (past_end operators k (omega (arith, page_within plan.pages k None e refl, design.as_many)))) (realises_itself idle)
  realise_at k (Some c) e =
      let a = page_at plan.pages k c e in
      subst (λ (x : Core). Realises (machine next x) (slice_index_or operators k idle)) a.3 (design.realise k a.0 a.1)

  write_at : (k : ℕ) (o : Option Core) → image_in plan.pages k ≡ o → WritesWords (page_process o)
  write_at k None e = λ ins w n port. All-nil IsWord
  write_at k (Some c) e =
      let a = page_at plan.pages k c e in
      subst (λ (x : Core). WritesWords (machine next x)) a.3 (design.words k a.0 a.1)

  pub carried : IsCarried images means
  carried = record {
    realise = λ k. realise_at k (image_in plan.pages k) refl;
    write = λ k. write_at k (image_in plan.pages k) refl;
    words = design.sound.words;
    feed = refl;
    wiring = same_wiring net plan design.sound;
  }

  -- A state with all that is kept, whatever journal led there.
  module _ (st : State S) (whole : IsWhole setup st) where
    abbrev fam : Family
    fam = family_of st.history

    windows : AfterEach (KeepsWindow plan.window images.wiring) st.history
    windows = windows_of setup st whole.world

    each : AfterEach (IsConsistent plan.window images) st.history
    each = each_follows plan.window images images_kahn st.history windows (follows setup images.wiring st links_sound whole.traced)

    images_reached : IsReached plan.window images fam
    images_reached = record { history = st.history; each_consistent = each; ends_here = refl }

    pub reached : IsReached plan.window means fam
    reached = carried_reached plan.window images means carried means_kahn st.history each

    pub streams : KeepsStreams plan.window means (shown setup st)
    streams = record {
      windows = subst (λ (w : Wiring). AfterEach (KeepsWindow plan.window w) st.history) (same_wiring net plan design.sound) windows;
      traces = carried_traces plan.window images means carried means_kahn fam images_reached;
      reached = reached;
      begins = λ k. read_begins means means_kahn plan.window fam reached (OutputNode k) 0;
    }

    module _ (still : is_still setup st ≡ true) where
      ran : IsRun setup st
      ran = run_of setup st whole (calm_of setup st still).0

      -- where the k-th operator stands, by how its page's last Give ended
      stands_by : (k : ℕ) (end : Option TurnEnd) → StandsBy plan.window images fam k end → StandsWhere plan.window means fam k (blocked_by end)
      stands_by k None h = absurd h
      stands_by k (Some (AtRead p)) h = at_empty plan.window images means carried means_kahn st.history each k p.0 h
      stands_by k (Some (AtWrite p w)) h = at_full plan.window images means carried means_kahn st.history each k p.0 h
      stands_by k (Some Ended) h = has_returned plan.window images means carried means_kahn st.history each k h
      stands_by k (Some Limit) h = absurd h

      port_at : (k : ℕ) (o : Option Core) → image_in plan.pages k ≡ o → StandsWhere plan.window means fam k (page_blocked (if is_some o then st.pages (leaf_of plan k) else None))
      port_at k None e = has_returned plan.window images means carried means_kahn st.history each k (none_ended images.wiring setup st k e (whole.traced.nobody k e))
      port_at k (Some c) e =
          let n : number_of plan (leaf_of plan k) ≡ k = links_sound.number k c e in
          let l : LeafStands setup st (leaf_of plan k) = leaf_stands setup st (leaf_of plan k) c links_sound ran (calm_of setup st still).0 (calm_of setup st still).1 (ap (image_in plan.pages) n ∙ e) in
          subst (λ (o : Option PageState). StandsWhere plan.window means fam k (page_blocked o)) (sym l.there)
          (stands_by k l.page.end (subst (λ (x : ℕ). StandsBy plan.window images fam x l.page.end) n l.stands))

      pub ports : (k : ℕ) → StandsWhere plan.window means fam k (blocked setup st k)
      ports k = port_at k (image_in plan.pages k) refl

      images_rest : (node : Node) → IsAtRest plan.window images fam node
      images_rest = node_rest setup st links_sound ran (calm_of setup st still).0 (calm_of setup st still).1

      pub side_rests : (k : ℕ) (side : Side) (port : ℕ) → StandsAtSide plan.window means fam k side port → IsAtRest plan.window means fam (OperatorNode k)
      side_rests k In port s = At_empty port s
      side_rests k Out port s = At_full port s

      pub rests_by : (k : ℕ) (at : Option Blocked) → StandsWhere plan.window means fam k at → IsAtRest plan.window means fam (OperatorNode k)
      rests_by k None s = Returns s
      rests_by k (Some at) s = side_rests k at.side at.port.0 s

      side_standing : (k : ℕ) (side : Side) (port : ℕ) (s : StandsAtSide plan.window means fam k side port) → standing_of (side_rests k side port s) ≡ standing_by_side side port
      unfolding side_rests
      side_standing k In port s = refl
      side_standing k Out port s = refl

      standing_is : (k : ℕ) (at : Option Blocked) (s : StandsWhere plan.window means fam k at) → standing_of (rests_by k at s) ≡ standing_by at
      unfolding rests_by
      standing_is k None s = refl
      standing_is k (Some at) s = side_standing k at.side at.port.0 s

      pub node_rests : (node : Node) → IsAtRest plan.window means fam node
      node_rests (OperatorNode k) = rests_by k (blocked setup st k) (ports k)
      node_rests (InputNode k) = node_at_rest plan.window images means carried means_kahn st.history each (InputNode k) (images_rest (InputNode k))
      node_rests (OutputNode k) = node_at_rest plan.window images means carried means_kahn st.history each (OutputNode k) (images_rest (OutputNode k))

      abbrev pub rests : IsRestFamily plan.window means fam
      rests = record { consistent = reached_consistent plan.window means fam reached; at_rest = node_rests; reached = reached }

      -- the standing of each operator is the port that is named
      pub standing_named : (k : ℕ) → standing_of (rests.at_rest (OperatorNode k)) ≡ standing_by (blocked setup st k)
      unfolding node_rests
      standing_named k = standing_is k (blocked setup st k) (ports k)

      none_at_full_by : (k : ℕ) (at : Option Blocked) → StandsWhere plan.window means fam k at → ((b : Blocked) → at ≡ Some b → b.side ≢ Out) → HasEnded means fam (OperatorNode k) Returned ⊎ ((port : ℕ) × IsAtEmpty means fam (OperatorNode k) port)
      none_at_full_by k None s names = inl s
      none_at_full_by k (Some at) s names = go at.side s (names at refl)
        where
          go : (side : Side) → StandsAtSide plan.window means fam k side at.port.0 → side ≢ Out → HasEnded means fam (OperatorNode k) Returned ⊎ ((port : ℕ) × IsAtEmpty means fam (OperatorNode k) port)
          go In s other = inr (at.port.0, s)
          go Out s other = absurd (other refl)

      pub outputs_whole : NamesNoFullPort (shown setup st) → (k : ℕ) → IsWholeStream means (OutputNode k) 0 (out_at st k)
      outputs_whole names k =
          output_whole plan.window means means_kahn fam rests (omega (arith, design.sound.window.0)) (λ n. none_at_full_by n (blocked setup st n) (ports n) (names n)) k

    -- where all pages have ended, no port is named
    ended_at : (k : ℕ) (o : Option Core) → all_ended setup st ≡ true → image_in plan.pages k ≡ o → page_blocked (if is_some o then st.pages (leaf_of plan k) else None) ≡ None
    ended_at k None all e = refl
    ended_at k (Some c) all e =
        let n : number_of plan (leaf_of plan k) ≡ k = links_sound.number k c e in
        let below : leaf_of plan k < setup.size = links_sound.leaves (leaf_of plan k) c (ap (image_in plan.pages) n ∙ e) in
        unblocked (st.pages (leaf_of plan k)) (all_below setup.size (λ i. is_finished (st.pages i)) all (leaf_of plan k) below)

    pub names_none : all_ended setup st ≡ true → (k : ℕ) → blocked setup st k ≡ None
    names_none all k = ended_at k (image_in plan.pages k) all refl

    pub done_names : all_ended setup st ≡ true → NamesNoFullPort (shown setup st)
    done_names all k at e = λ (s : at.side ≡ Out). none_some at (sym (names_none all k) ∙ e)

  -- WHAT EVERY RUN PROMISES
  pub promise : (most : ℕ) (journal : List Entry) → RunsWell setup most → IsLegal setup journal → KeepsPromise plan.rounds plan.window means (shown setup (replay setup journal))
  promise most journal well legal =
      let st : State S = replay setup journal in
      let whole : IsWhole setup st = run_whole setup most journal links_sound well legal in
      record {
        streams = streams st whole;
        rest = λ r. record { rests = rests st whole (rested_still setup st r); ports = ports st whole (rested_still setup st r) };
        done = λ e. outputs_whole st whole (rested_still setup st (inl e)) (done_names st whole (done_ended setup st e));
        stalled = λ e names. outputs_whole st whole (rested_still setup st (inr e)) names;
        spent = spent_all setup journal legal;
      }
