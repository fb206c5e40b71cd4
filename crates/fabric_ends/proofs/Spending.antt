-- A run is spent only where its rounds are too few for its design's rest family.
use Rattle.std.proofs.Common.{◌≡◌, ℕ, zero, suc, ◌/◌, ◌<◌, ◌≤◌, Bool, true, false, List, [], ◌∷◌, length, refl, ap, sym, ◌∙◌, arith, Some, None, subst, inl, inr}
use Rattle.std.specs.Prelude.{if◌then◌else◌, ◌==◌, nat_lt, slice_get}
use Rattle.std.specs.List.{All}
use Rattle.std.proofs.lemmas.Bool.Decides.{nat_tests}
use Rattle.std.proofs.lemmas.Bool.{cases_lt}
use Rattle.net_tree.specs.Links.{sum_to}
use Rattle.pld_base.specs.Words.{IsWord}
use Rattle.pld_base.specs.Events.{words_written}
use Rattle.pld_base.specs.Process.{Process, WritesWords}
use Rattle.pld_base.specs.Channels.{Node, OperatorNode, NodeEvent, Family, family_of}
use Rattle.pld_base.proofs.Events.{words_written_grows}
use Rattle.pld_kahn.specs.Network.{Network}
use Rattle.pld_kahn.specs.Realises.{Realises}
use Rattle.pld_kahn.specs.Rest.{IsReached, IsAtRest, IsRestFamily}
use Rattle.pld_kahn.proofs.Reached.{reached_consistent}
use Rattle.pld_image.specs.Cores.{Core, next}
use Rattle.fabric_run.specs.declared.entry.Entry.{Entry}
use Rattle.fabric_run.specs.declared.row.Outcome.TheVariants.{Spent}
use Rattle.fabric_run.specs.World.{Carrier, Setup, core_at, changes}
use Rattle.fabric_run.specs.Replay.{outcome, replay, IsLegal}
use Rattle.fabric_run.specs.Plan.{PagePlan, PlanValue, image_in, leaf_of, number_of, start_of, size_of, setup_of}
use Rattle.fabric_keeps.specs.Measure.{enough}
use Rattle.fabric_keeps.specs.Facts.{RunsWell}
use Rattle.fabric_keeps.specs.Links as links
use Rattle.hot_swap.specs.Paths.{RestsAfter}
use Rattle.fabric_keeps.specs.Paths.{page_count, page_network}
use Rattle.fabric_ends.specs.Carrying.{IsCarried}
use Rattle.fabric_ends.specs.Planned.{network, IsDesign}
use Rattle.fabric_keeps.proofs.Base.{eq_same, same_eq, differ, sum_same, sum_add, all_zero, one_place}
use Rattle.fabric_ends.proofs.Carrying.{All_prefix, carried_reached, node_at_rest}
use Rattle.fabric_ends.proofs.Plans.{leaf_number, leaf_page, core_of_page, number_leaf}
use Rattle.fabric_ends.proofs.Promised.{links_sound, images_kahn, carried, over_rounds}
use Rattle.fabric_ends.proofs.Enough.{spent_early}

-- The other way round: what holds of the operators' network holds of the images'.

back_realises : (p q : Process) → Realises p q → Realises q p
back_realises p q h = record {
  within = h.covers;
  covers = h.within;
  returns = λ ins w es. ((h.returns ins w es).1, (h.returns ins w es).0);
  starves = λ ins w es port. ((h.starves ins w es port).1, (h.starves ins w es port).0);
}

back_words : (p q : Process) → Realises p q → WritesWords p → WritesWords q
back_words p q h w ins words turns port =
    let c = h.covers ins words turns in
    All_prefix IsWord (words_written (q ins turns).events port) (words_written (p ins c.0).events port) (words_written_grows port c.1) (w ins words c.0 port)

back_carried : (images operators : Network) → IsCarried images operators → IsCarried operators images
back_carried images operators c = record {
  realise = λ k. back_realises (images.operator k) (operators.operator k) (c.realise k);
  write = λ k. back_words (images.operator k) (operators.operator k) (c.realise k) (c.write k);
  words = λ k. subst (λ (feed : ℕ → List ℕ). All IsWord (feed k)) c.feed (c.words k);
  feed = sym c.feed;
  wiring = sym c.wiring;
}

-- Sums over leaves, as sums over pages.

swap : (n m : ℕ) (g : ℕ → ℕ → ℕ) → sum_to n (λ i. sum_to m (λ j. g i j)) ≡ sum_to m (λ j. sum_to n (λ i. g i j))
swap zero m g = sym (all_zero m (λ j. 0) (λ j l. refl))
swap (suc n) m g = omega (arith, swap n m g, sum_add m (λ j. sum_to n (λ i. g i j)) (λ j. g n j))

sum_ones : (n : ℕ) (g : ℕ → ℕ) → ((k : ℕ) → k < n → g k ≡ 1) → sum_to n g ≡ n
sum_ones zero g h = refl
sum_ones (suc n) g h = omega (arith, sum_ones n g (λ k l. h k (omega arith)), h n (omega arith))

picked : (g : ℕ → ℕ) (a b : ℕ) → (if a == b then g b else 0) ≡ (if a == b then g a else 0)
picked g a b = by (a == b) refl
  where
    by : (t : Bool) → (a == b) ≡ t → (if t then g b else 0) ≡ (if t then g a else 0)
    by true e = ap g (sym (eq_same a b e))
    by false e = refl

at_most : (g : ℕ → ℕ) (n k : ℕ) → n ≤ k → sum_to n (λ j. (if k == j then g j else 0)) ≡ 0
at_most g n k l = all_zero n (λ j. (if k == j then g j else 0)) (λ j m. ap (λ (t : Bool). if t then g j else 0) (differ k j (λ s. omega arith)))

one_of : (g : ℕ → ℕ) (n k : ℕ) → (n ≤ k → g k ≡ 0) → g k ≡ sum_to n (λ j. (if k == j then g j else 0))
one_of g n k none =
    elim (cases_lt k n) [
      | inl l ↦ sym (sum_same n (λ j. (if k == j then g j else 0)) (λ j. (if k == j then g k else 0)) (λ j m. picked g k j) ∙ one_place n k (g k) l)
      | inr l ↦ none l ∙ sym (at_most g n k l)
    ]

module _ {S : Type 0} (net : Carrier S) (plan : PlanValue) (operators : List Process) (design : IsDesign plan operators) where
  abbrev setup : Setup S
  setup = setup_of net plan

  abbrev count : ℕ
  count = length plan.pages

  page_of : (ps : List PagePlan) (k : ℕ) → k < length ps → (p : PagePlan) × (slice_get ps k ≡ Some p)
  page_of [] k l = absurd (omega arith)
  page_of (p ∷ ps) zero l = (p, refl)
  page_of (p ∷ ps) (suc k) l = page_of ps k (omega arith)

  number_is : (k i : ℕ) → k < count → (number_of plan i == k) ≡ (leaf_of plan k == i)
  number_is k i l = by (leaf_of plan k == i) refl
    where
      by : (t : Bool) → (leaf_of plan k == i) ≡ t → (number_of plan i == k) ≡ t
      by true e =
          let p = page_of plan.pages k l in
          let leaf : leaf_of plan k ≡ p.0.leaf = (core_of_page plan.pages k p.0 p.1).1 in
          same_eq (number_of plan i) k (ap (number_of plan) (sym (eq_same (leaf_of plan k) i e) ∙ leaf) ∙ number_leaf net plan design.sound k p.0 p.1)
      by false e =
          differ (number_of plan i) k (λ (s : number_of plan i ≡ k). (let x : leaf_of plan k ≡ i = ap (leaf_of plan) (sym s) ∙ leaf_number plan i in let y : (leaf_of plan k == i) ≡ true = same_eq (leaf_of plan k) i x in let z : false ≡ true = sym e ∙ y in cc))

  leaf_below : (k : ℕ) → k < count → leaf_of plan k < size_of plan
  leaf_below k l =
      let p = page_of plan.pages k l in
      omega (arith, (design.sound.leaves k p.0 p.1).1, (core_of_page plan.pages k p.0 p.1).1)

  by_pages : (g : ℕ → ℕ) → ((k : ℕ) → count ≤ k → g k ≡ 0) → sum_to (size_of plan) (λ i. g (number_of plan i)) ≡ sum_to count g
  by_pages g none =
      sum_same (size_of plan) (λ i. g (number_of plan i)) (λ i. sum_to count (λ k. (if number_of plan i == k then g k else 0))) (λ i l. one_of g count (number_of plan i) (none (number_of plan i)))
      ∙ (swap (size_of plan) count (λ i k. (if number_of plan i == k then g k else 0))
      ∙ sum_same count (λ k. sum_to (size_of plan) (λ i. (if number_of plan i == k then g k else 0))) g (λ k l. (
      sum_same (size_of plan) (λ i. (if number_of plan i == k then g k else 0)) (λ i. (if leaf_of plan k == i then g k else 0)) (λ i m. ap (λ (t : Bool). if t then g k else 0) (number_is k i l))
      ∙ one_place (size_of plan) (leaf_of plan k) (g k) (leaf_below k l))))

  no_page : (ps : List PagePlan) (k : ℕ) → length ps ≤ k → page_count (image_in ps k) ≡ 0
  no_page [] k l = refl
  no_page (p ∷ ps) zero l = absurd (omega arith)
  no_page (p ∷ ps) (suc k) l = no_page ps k (omega arith)

  a_page : (ps : List PagePlan) (k : ℕ) → k < length ps → page_count (image_in ps k) ≡ 1
  a_page [] k l = absurd (omega arith)
  a_page (p ∷ ps) zero l = refl
  a_page (p ∷ ps) (suc k) l = a_page ps k (omega arith)

  pages_count : sum_to (size_of plan) (λ i. page_count (core_at setup i)) ≡ count
  pages_count =
      by_pages (λ k. page_count (image_in plan.pages k)) (λ k l. no_page plan.pages k l) ∙ sum_ones count (λ k. page_count (image_in plan.pages k)) (λ k l. a_page plan.pages k l)

  module _ (limit : ℕ → ℕ) where
    abbrev bounded : ℕ → ℕ
    bounded k = if nat_lt k count then limit k else 0

    bounded_is : (k : ℕ) → k < count → bounded k ≡ limit k
    bounded_is k l = let z : nat_lt k count ≡ true = grind (arith, nat_tests) in ap (λ (t : Bool). if t then limit k else 0) z

    bounded_none : (k : ℕ) → count ≤ k → bounded k ≡ 0
    bounded_none k l = let z : nat_lt k count ≡ false = grind (arith, nat_tests) in ap (λ (t : Bool). if t then limit k else 0) z

    steps_count : sum_to (size_of plan) (λ i. bounded (number_of plan i) / 256) ≡ sum_to count (λ k. limit k / 256)
    steps_count =
        by_pages (λ k. bounded k / 256) (λ k l. ap (λ (n : ℕ). n / 256) (bounded_none k l))
        ∙ sum_same count (λ k. bounded k / 256) (λ k. limit k / 256) (λ k l. ap (λ (n : ℕ). n / 256) (bounded_is k l))

  -- the operators' rest family is the images'
  rest_back : (fam : Family) → IsRestFamily plan.window (network plan operators) fam → IsRestFamily plan.window (page_network setup (links.wiring_of setup)) fam
  rest_back fam rest =
      let images : Network = page_network setup (links.wiring_of setup) in
      let means : Network = network plan operators in
      let r : IsReached plan.window means fam = rest.reached in
      let back : IsCarried means images = back_carried images means (carried net plan operators design) in
      let reached : IsReached plan.window images (family_of r.history) = carried_reached plan.window means images back (images_kahn net plan operators design) r.history r.each_consistent in
      let at_rest : (node : Node) → IsAtRest plan.window images (family_of r.history) node =
      λ node. node_at_rest plan.window means images back (images_kahn net plan operators design) r.history r.each_consistent node (subst (λ (f : Family). IsAtRest plan.window means f node) (sym r.ends_here) (rest.at_rest node)) in
      subst (IsRestFamily plan.window images) r.ends_here (record { consistent = reached_consistent plan.window images (family_of r.history) reached; at_rest = at_rest; reached = reached })

  -- ENOUGH ROUNDS
  pub spent_is_early : (most : ℕ) (journal : List Entry) (rest : List NodeEvent) (limit : ℕ → ℕ) → RunsWell setup most → IsLegal setup journal → 1 ≤ most
      → IsRestFamily plan.window (network plan operators) (family_of rest)
      → ((k : ℕ) (p : PagePlan) → slice_get plan.pages k ≡ Some p → RestsAfter next (start_of p) (limit k) (family_of rest (OperatorNode k)))
      → outcome setup (replay setup journal) ≡ Some Spent
      → plan.rounds < enough most (length rest) (length (changes setup)) (sum_to count (λ k. limit k / 256)) count
  spent_is_early most journal rest limit well legal some family ends spent =
      let o = over_rounds setup (replay setup journal) spent in
      let few = spent_early setup most journal rest (λ i. bounded limit (number_of plan i)) (links_sound net plan operators design) well legal some (images_kahn net plan operators design) (rest_back (family_of rest) family)
      (λ i c e. leaf_ends i c e (leaf_page net plan design.sound i c e)) o.0 in
      let same : enough most (length rest) (length (changes setup)) (sum_to setup.size (λ i. bounded limit (number_of plan i) / 256)) (sum_to setup.size (λ i. page_count (core_at setup i)))
      ≡ enough most (length rest) (length (changes setup)) (sum_to count (λ k. limit k / 256)) count =
      ap (λ (n : ℕ). enough most (length rest) (length (changes setup)) n (sum_to setup.size (λ i. page_count (core_at setup i)))) (steps_count limit) ∙ ap (λ (n : ℕ). enough most (length rest) (length (changes setup)) (sum_to count (λ k. limit k / 256)) n) pages_count in
      let fewer : (replay setup journal).rounds < enough most (length rest) (length (changes setup)) (sum_to count (λ k. limit k / 256)) count = subst (λ (n : ℕ). (replay setup journal).rounds < n) same few in
      before plan.rounds (replay setup journal).rounds _ o.1 fewer
    where
      before : (a b c : ℕ) → a ≤ b → b < c → a < c
      before a b c h k = omega arith

      within : (ps : List PagePlan) (k : ℕ) (p : PagePlan) → slice_get ps k ≡ Some p → k < length ps
      within [] k p e = absurd (let x : None ≡ Some p = e in cc)
      within (q ∷ ps) zero p e = omega arith
      within (q ∷ ps) (suc k) p e = omega (arith, within ps k p e)

      leaf_ends : (i : ℕ) (c : Core) → core_at setup i ≡ Some c → (p : PagePlan) × (slice_get plan.pages (number_of plan i) ≡ Some p) × (p.leaf ≡ i) × (start_of p ≡ c) → RestsAfter next c (bounded limit (number_of plan i)) (family_of rest (OperatorNode (number_of plan i)))
      leaf_ends i c e a =
          let r : RestsAfter next (start_of a.0) (limit (number_of plan i)) (family_of rest (OperatorNode (number_of plan i))) = ends (number_of plan i) a.0 a.1 in
          let s : RestsAfter next c (limit (number_of plan i)) (family_of rest (OperatorNode (number_of plan i))) = subst (λ (x : Core). RestsAfter next x (limit (number_of plan i)) (family_of rest (OperatorNode (number_of plan i)))) a.3 r in
          subst (λ (n : ℕ). RestsAfter next c n (family_of rest (OperatorNode (number_of plan i)))) (sym (bounded_is limit (number_of plan i) (within plan.pages (number_of plan i) a.0 a.1))) s
