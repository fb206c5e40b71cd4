-- What the calls of a run ask, and what they leave.
use Rattle.std.proofs.Common.{◌≡◌, ℕ, zero, suc, ◌+◌, ◌<◌, ◌≤◌, Bool, true, false, cond, List, [], ◌∷◌, length, refl, ap, sym, ◌∙◌, arith, Option, Some, None, subst, inl, inr}
use Rattle.std.specs.Prelude.{◌||◌, ◌==◌, if◌then◌else◌, nat_lt, is_some, is_none, slice_get, IsSome}
use Rattle.std.proofs.lemmas.Bool.Decides.{nat_tests}
use Rattle.std.proofs.lemmas.Option.{none-some, same_Some}
use Rattle.std.proofs.lemmas.Nat.{pow_pos}
use Rattle.net_tree.specs.Links.{Links, sum_to}
use Rattle.leaf_port.specs.Leaf.{LeafState, row_of}
use Rattle.pld_base.specs.declared.event.Event.{Event}
use Rattle.pld_image.specs.declared.page.TurnEnd.{TurnEnd}
use Rattle.pld_image.specs.declared.page.TurnEnd.TheVariants.{AtRead, AtWrite, Ended, Limit}
use Rattle.pld_image.specs.Cores.{Core, core_of, turned, turn_end}
use Rattle.pld_image.specs.Standing.{StandsAt}
use Rattle.pld_image.proofs.Turning.{turn_stands}
use Rattle.fabric_run.specs.declared.entry.Entry.{Entry}
use Rattle.fabric_run.specs.declared.entry.Entry.TheVariants.{Take, Give, Net}
use Rattle.fabric_run.specs.declared.row.Blocked.{Blocked}
use Rattle.fabric_run.specs.Turns.{turn}
use Rattle.fabric_run.specs.Plan.{PlanValue, PagePlan, size_of, image_in, leaf_in, start_of}
use Rattle.fabric_run.specs.World.{Setup, State, PageState, ready, is_configured, core_at}
use Rattle.fabric_run.specs.Replay.{has_ended, may, replay, is_seat, is_held_by, blocked_by, page_blocked, blocked}
use Rattle.fabric_keeps.specs.Paths.{PathAt}
use Rattle.fabric_keeps.proofs.Base.{and_of, last_or}
use Rattle.fabric_keeps.proofs.Serving.{input_has_row, output_has_row}
use Rattle.fabric_keeps.proofs.Configured.{running_of}
use Rattle.fabric_ends.proofs.Plans.{core_of_page, number_leaf}
use Rattle.fabric_run.specs.Trees.{tree_setup, tree_of}
use Rattle.leaf_net.specs.Net.{leaf_at, CanRound, is_configured as net_configured}
use Rattle.leaf_net.proofs.Showing.{configured}
use Rattle.fabric_pages.specs.declared.slot.PageSlot.{PageSlot}
use Rattle.fabric_pages.specs.Slots.{IsPlaceOf, IsSlotOf, AreFew, core_in, gives_in, slot_at, outside, unfinished, unserved}
use Rattle.fabric_pages.specs.Counted.{gives_of, one_page}
use Rattle.fabric_pages.proofs.Counting.{Makes, makes}
use Rattle.fabric_pages.proofs.Counting as counting
use Rattle.fabric_core.specs.declared.page.Page.{Page}
use Rattle.fabric_core.specs.declared.board.Board.{Board}
use Rattle.fabric_core.specs.Boards.{Shows, HostHasRows, HasSpace, HasRow, CanGive}
use Rattle.fabric_core.specs.Plans.{leaf_at as plan_leaf}
use Rattle.fabric_core.specs.Holding.{Brings}
use Rattle.fabric_core.specs.Kept.{IsKept}
use Rattle.fabric_core.proofs.Stillness.{there_slot}
use Rattle.fabric_core.proofs.Sounding as runs
use Rattle.fabric_core.proofs.Keeping.{sound, whole, size_few}

sum_most : (n : ℕ) (g : ℕ → ℕ) → ((i : ℕ) → g i ≤ 1) → sum_to n g ≤ n
sum_most zero g h = omega arith
sum_most (suc n) g h = omega (arith, sum_most n g h, h n)

one_below : (n : ℕ) (g : ℕ → ℕ) (i : ℕ) → i < n → g i ≤ sum_to n g
one_below zero g i l = absurd (omega arith)
one_below (suc n) g i l =
    elim (last_or n i l) [
      | inl s ↦ omega (arith, ap g s)
      | inr m ↦ omega (arith, one_below n g i m)
    ]

no_more : (b : Bool) → cond {A = ℕ} b 0 1 ≤ 1
no_more true = omega arith
no_more false = omega arith

is_one : (b : Bool) → b ≡ false → cond {A = ℕ} b 0 1 ≡ 1
is_one true e = absurd (let x : true ≡ false = e in cc)
is_one false e = refl

is_due : (p : PageState) → p.gives ≡ 0 → has_ended p.end ≡ false → unserved (Some p) ≡ 1
is_due p z e = is_one (has_ended p.end || nat_lt 0 p.gives) (ap (λ (x : Bool). x || nat_lt 0 p.gives) e ∙ (let n : nat_lt 0 p.gives ≡ false = grind (arith, nat_tests) in n))

-- One page of a plan.

path_there : (c : Core) (o : Option PageState) (es : List Event) (co : Option Core) → co ≡ Some c → PathAt co o es → (p : PageState) × (o ≡ Some p)
path_there c o es None e h = absurd (none-some c e)
path_there c o es (Some d) e h = (h.0, h.1)

leaf_got : (ps : List PagePlan) (k : ℕ) (p : PagePlan) → slice_get ps k ≡ Some p → plan_leaf ps k ≡ p.leaf
leaf_got [] k p e = absurd (none-some p e)
leaf_got (q ∷ ps) zero p e = ap (λ (x : PagePlan). x.leaf) (same_Some q p e)
leaf_got (q ∷ ps) (suc k) p e = leaf_got ps k p e

page_of : (ps : List PagePlan) (k : ℕ) → k < length ps → (p : PagePlan) × (slice_get ps k ≡ Some p)
page_of [] k l = absurd (omega arith)
page_of (p ∷ ps) zero l = (p, refl)
page_of (p ∷ ps) (suc k) l = page_of ps k (omega arith)

some_is : {X : Type 0} (o : Option X) (x : X) → o ≡ Some x → IsSome o
some_is o x e = ap is_some e

module _ (plan : PlanValue) (journal : List Entry) (b : Board) (k : IsKept plan journal b) where
  abbrev setup : Setup Links
  setup = tree_setup plan

  abbrev now : State Links
  now = replay (tree_setup plan) journal

  -- the slot of a leaf with a page
  slot_of : (leaf : ℕ) (p : PageState) → leaf < size_of plan → now.pages leaf ≡ Some p → (slot : PageSlot) × (slot_at b.pages leaf ≡ Some slot) × IsSlotOf slot p
  slot_of leaf p l e =
      let t = there_slot b.pages.slots.items leaf (omega (arith, l, k.shows.pages.many)) in
      (t.0, t.1, subst (IsPlaceOf t.0) e (k.shows.pages.each leaf t.0 t.1))

  -- TAKE

  pub few_counts : AreFew b.pages
  few_counts = record {
    out = omega (arith, k.shows.pages.out_count, size_few plan k.sound, sum_most (size_of plan) (λ i. outside (now.pages i)) (λ i. no_more _));
    running = omega (arith, k.shows.pages.running_count, size_few plan k.sound, sum_most (size_of plan) (λ i. unfinished (now.pages i)) (λ i. no_more _));
    due = omega (arith, k.shows.pages.due_count, size_few plan k.sound, sum_most (size_of plan) (λ i. unserved (now.pages i)) (λ i. no_more _));
  }

  -- what may be taken is there, and home
  pub record Takable (leaf : ℕ) : Type 0 where
    pub page : PageState
    pub inside : leaf < size_of plan
    pub there : now.pages leaf ≡ Some page
    pub home : page.holder ≡ None

  takable_by : (seat leaf : ℕ) (e : Entry) → e ≡ Take seat leaf → Makes setup now e → Takable leaf
  takable_by seat leaf e is (counting.Takes seat' leaf' p r l there home few going conf) = subst Takable (let x : leaf' ≡ leaf = cc in x) (record { page = p; inside = l; there = there; home = home })
  takable_by seat leaf e is (counting.Gives seat' leaf' p l there held) = absurd (let x : Give seat' leaf' ≡ Take seat leaf = is in cc)
  takable_by seat leaf e is (counting.Nets seat' r) = absurd (let x : Net seat' ≡ Take seat leaf = is in cc)

  pub takable : (seat leaf : ℕ) → may setup now (Take seat leaf) ≡ true → Takable leaf
  takable seat leaf m = takable_by seat leaf (Take seat leaf) refl (makes setup now (Take seat leaf) m)

  pub home_core : (seat leaf : ℕ) → may setup now (Take seat leaf) ≡ true → IsSome (core_in (slot_at b.pages leaf))
  home_core seat leaf m =
      let t : Takable leaf = takable seat leaf m in
      let s = slot_of leaf t.page t.inside t.there in
      let c = s.2.core t.home in
      some_is (core_in (slot_at b.pages leaf)) c.0 (ap core_in s.1 ∙ c.1)

  -- GIVE

  module _ (seat : ℕ) (page : Page) (h : Brings (record { plan = plan; journal = journal }) seat page) where
    pub page_at : now.pages page.leaf ≡ Some h.holds.state
    page_at = ap now.pages h.turned.leaf ∙ h.holds.there

    pub leaf_inside : page.leaf < size_of plan
    leaf_inside = omega (arith, h.turned.leaf, h.holds.inside)

    pub core_after : core_of page.core ≡ (turn h.holds.state.core).core
    core_after = h.turned.core ∙ ap turned h.holds.core

    pub end_after : (end : TurnEnd) → page.end ≡ Some end → end ≡ (turn h.holds.state.core).end
    end_after end e = same_Some end (turn_end h.holds.state.core) (sym e ∙ (h.turned.end ∙ ap (λ c. Some (turn_end c)) h.holds.core))

    pub not_ended : has_ended h.holds.state.end ≡ false
    not_ended = by (has_ended h.holds.state.end) refl
      where
        by : (t : Bool) → has_ended h.holds.state.end ≡ t → has_ended h.holds.state.end ≡ false
        by true e = absurd (none-some seat (sym (((whole plan journal b k).steady.page page.leaf h.holds.state page_at).home e) ∙ h.holds.held))
        by false e = e

    out_one : outside (now.pages page.leaf) ≡ 1
    out_one = ap outside page_at ∙ ap (λ (o : Option ℕ). cond {A = ℕ} (is_none o) 0 1) h.holds.held

    pub may_give : may setup now (Give seat page.leaf) ≡ true
    may_give =
        and_of (nat_lt page.leaf (size_of plan)) _ (let l : page.leaf < size_of plan = leaf_inside in grind (arith, nat_tests))
        (ap (is_held_by seat) page_at ∙ ap (is_seat seat) h.holds.held ∙ (let e : (seat == seat) ≡ true = grind (arith, nat_tests) in e))

    row_by : (end : TurnEnd) → (turn h.holds.state.core).end ≡ end → HasRow b.net page.leaf end
    row_by (AtRead p) e = runs.reads plan k.sound journal k.legal seat page.leaf h.holds.state p b.net k.shows.net (omega (arith, leaf_inside, k.shows.net.size)) page_at h.holds.held e
    row_by (AtWrite p w) e = runs.writes plan k.sound journal k.legal seat page.leaf h.holds.state p w b.net k.shows.net (omega (arith, leaf_inside, k.shows.net.size)) page_at h.holds.held e
    row_by Ended e = tt
    row_by Limit e = tt

    pub can_give : (end : TurnEnd) → page.end ≡ Some end → CanGive b page.leaf page.core end
    can_give end e =
        let p : PageState = h.holds.state in
        let s = slot_of page.leaf p leaf_inside page_at in
        let gives : gives_in (slot_at b.pages page.leaf) ≡ p.gives = ap gives_in s.1 ∙ s.2.gives in
        let last : end ≡ (turn p.core).end = end_after end e in
        let stands : StandsAt (core_of page.core) end = subst (λ (c : Core). StandsAt c end) (sym core_after) (subst (StandsAt (turn p.core).core) (sym last) (turn_stands p.core)) in
        record {
          inside = omega (arith, leaf_inside, k.shows.net.size);
          place = omega (arith, leaf_inside, k.shows.pages.many);
          row = row_by end (sym last);
          stands = stands;
          gives = omega (arith, gives, k.counted.each page.leaf, ap gives_of page_at, ap one_page page_at, out_one);
          some = (
            omega (arith, k.shows.pages.out_count, one_below (size_of plan) (λ i. outside (now.pages i)) page.leaf leaf_inside, out_one),
            omega (arith, k.shows.pages.running_count, one_below (size_of plan) (λ i. unfinished (now.pages i)) page.leaf leaf_inside, ap unfinished page_at, is_one (has_ended p.end) not_ended),
            λ (z : gives_in (slot_at b.pages page.leaf) ≡ 0). omega (arith, k.shows.pages.due_count, one_below (size_of plan) (λ i. unserved (now.pages i)) page.leaf leaf_inside, ap unserved page_at, is_due p (sym gives ∙ z) not_ended),
          );
        }

  -- NET

  pub host_rows : net_configured b.net ≡ true → HostHasRows plan b.net
  host_rows e =
      let c : is_configured setup now ≡ true = sym (configured setup now b.net k.shows.net) ∙ e in
      let r = running_of setup now (sound plan journal b k) (whole plan journal b k).world c in
      let first : leaf_at b.net 0 ≡ now.leaves 0 = k.shows.net.leaves 0 (pow_pos b.net.tree.depth) in
      record {
        inputs = λ i l. (let x = input_has_row setup now i (sound plan journal b k) r l in (x.0, subst (λ (s : LeafState). IsSome (row_of s i)) (sym first) x.1));
        outputs = λ j l. (let x = output_has_row setup now j (sound plan journal b k) r l in (x.0, subst (λ (s : LeafState). IsSome (row_of s (8 + j))) (sym first) x.1));
      }

  pub has_space : HasSpace 0 b.outs.items
  has_space j z l =
      omega (arith, k.rooms j l, k.counted.outs j, k.counted.rounds, ap length (k.shows.host.gets j (omega (arith, l, k.shows.host.outputs))))

  pub can_round : (seat : ℕ) (b' : Board) → may setup now (Net seat) ≡ true → Shows setup (ready setup now) b' → CanRound b'.net
  can_round seat b' m s = runs.can plan k.sound journal k.legal b'.net seat m s.net

  -- WHERE A PAGE STANDS

  page_there : (i : ℕ) (p : PagePlan) → slice_get plan.pages i ≡ Some p → (q : PageState) × (now.pages p.leaf ≡ Some q)
  page_there i p e =
      let c = core_of_page plan.pages i p e in
      path_there (start_of p) (now.pages p.leaf) _ (core_at setup p.leaf) (ap (image_in plan.pages) (number_leaf (tree_of plan) plan k.sound i p e) ∙ c.0) ((whole plan journal b k).traced.pages p.leaf)

  pub blocked_is : (i leaf : ℕ) (o : Option Blocked) → i < length plan.pages → leaf ≡ plan_leaf plan.pages i → ((q : PageState) → leaf < size_of plan → now.pages leaf ≡ Some q → o ≡ blocked_by q.end) → o ≡ blocked setup now i
  blocked_is i leaf o l is h =
      let g = page_of plan.pages i l in
      let at : leaf ≡ g.0.leaf = is ∙ leaf_got plan.pages i g.0 g.1 in
      let q = page_there i g.0 g.1 in
      let c = core_of_page plan.pages i g.0 g.1 in
      let found : now.pages leaf ≡ Some q.0 = ap now.pages at ∙ q.1 in
      h q.0 (omega (arith, at, (k.sound.leaves i g.0 g.1).1)) found
      ∙ sym (ap (λ (x : Bool). page_blocked (if x then now.pages (leaf_in plan.pages i) else None)) (ap is_some c.0) ∙ ap page_blocked (ap now.pages c.1 ∙ q.1))
