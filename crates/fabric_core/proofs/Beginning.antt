-- A run that has not begun.
use Rattle.std.proofs.Common.{◌≡◌, ◌≢◌, ℕ, zero, suc, ◌+◌, ◌*◌, ◌<◌, ◌≤◌, ◌⊎◌, Bool, true, false, List, [], ◌∷◌, ◌++◌, length, refl, ap, sym, ◌∙◌, arith, Option, Some, None, subst, inl, inr}
use Rattle.std.specs.Prelude.{◌==◌, if◌then◌else◌, nat_lt, slice_get, slice_index_or}
use Rattle.std.proofs.Math.Path.{fun_ext}
use Rattle.std.proofs.lemmas.Bool.Decides.{nat_tests}
use Rattle.std.proofs.lemmas.Option.{none-some, same_Some, get_or_from_slice_get}
use Rattle.net_tree.specs.Links.{sum_to}
use Rattle.pld_image.specs.Cores.{Core}
use Rattle.fabric_run.specs.Plan.{PlanValue, PagePlan, IsSound, image_in, leaf_of, number_of, start_of, size_of}
use Rattle.fabric_run.specs.World.{PageState, placed, start_page, start}
use Rattle.fabric_keeps.proofs.Base.{placed_here, placed_other, same_or, sum_same, all_zero}
use Rattle.fabric_ends.proofs.Plans.{leaf_number, core_of_page, number_leaf}
use Rattle.fabric_run.specs.Trees.{tree_setup, tree_of}
use Rattle.leaf_net.specs.Net.{first_net}
use Rattle.leaf_net.specs.Shown.{Shows as NetShows}
use Rattle.leaf_net.proofs.Showing.{begins}
use Rattle.fabric_pages.specs.declared.pages.Pages.{Pages}
use Rattle.fabric_pages.specs.Slots.{ShowsPages, outside, unfinished}
use Rattle.fabric_pages.specs.Counted.{gives_of, one_page}
use Rattle.fabric_core.specs.Words.{OutWords}
use Rattle.fabric_core.specs.declared.board.Board.{Board}
use Rattle.fabric_core.specs.Boards.{no_words}
use Rattle.fabric_core.specs.Kept.{IsKept}
use Rattle.fabric_core.specs.Starting.{fresh_out, AreAll, first_pages, pages_to}

-- Lists of one element.

got_push : {X : Type 0} (xs : List X) (x y : X) (i : ℕ) → slice_get (xs ++ x ∷ []) i ≡ Some y → (slice_get xs i ≡ Some y) ⊎ (x ≡ y)
got_push [] x y zero e = inr (same_Some x y e)
got_push [] x y (suc i) e = absurd (none-some y e)
got_push (z ∷ zs) x y zero e = inl e
got_push (z ∷ zs) x y (suc i) e = got_push zs x y i e

pub all_push : {X : Type 0} (d x : X) (xs xs' : List X) → xs' ≡ xs ++ x ∷ [] → x ≡ d → AreAll d xs → AreAll d xs'
all_push {X} d x xs xs' is e h i y f =
    elim (got_push xs x y i (ap (λ (l : List X). slice_get l i) (sym is) ∙ f)) [
      | inl g ↦ h i y g
      | inr g ↦ sym g ∙ e
    ]

there : {X : Type 0} (xs : List X) (k : ℕ) → k < length xs → (x : X) × (slice_get xs k ≡ Some x)
there [] k l = absurd (omega arith)
there (x ∷ xs) zero l = (x, refl)
there (x ∷ xs) (suc k) l = there xs k (omega arith)

all_got : {X : Type 0} (d z : X) (xs : List X) (k : ℕ) → AreAll d xs → k < length xs → slice_index_or xs k z ≡ d
all_got d z xs k h l = let t = there xs k l in get_or_from_slice_get xs k t.0 z t.1 ∙ h k t.0 t.1

-- Pages come one after another.

none_to : (plan : PlanValue) (i : ℕ) → pages_to plan 0 i ≡ None
none_to plan i = ap (λ (b : Bool). if b then first_pages plan i else None) (let e : nat_lt (number_of plan i) 0 ≡ false = grind (arith, nat_tests) in e)

pub begin_pages : (plan : PlanValue) (b : Pages) → ShowsPages (size_of plan) (λ i. None) b → ShowsPages (size_of plan) (pages_to plan 0) b
begin_pages plan b s = subst (λ (f : ℕ → Option PageState). ShowsPages (size_of plan) f b) (fun_ext (λ i. sym (none_to plan i))) s

next_at : (plan : PlanValue) (k : ℕ) (p : PagePlan) (sound : IsSound plan) → slice_get plan.pages k ≡ Some p → (i : ℕ) → placed (pages_to plan k) p.leaf (start_page (Some (start_of p))) i ≡ pages_to plan (k + 1) i
next_at plan k p sound e i =
    let number : number_of plan p.leaf ≡ k = number_leaf (tree_of plan) plan sound k p e in
    let core = core_of_page plan.pages k p e in
    elim (same_or i p.leaf (i == p.leaf) refl) [
      | inl s ↦ ap (placed (pages_to plan k) p.leaf (start_page (Some (start_of p)))) s ∙ placed_here (pages_to plan k) p.leaf (start_page (Some (start_of p)))
          ∙ sym (ap (λ (b : Bool). if b then first_pages plan i else None) (let n : number_of plan i ≡ k = ap (number_of plan) s ∙ number in let t : nat_lt (number_of plan i) (k + 1) ≡ true = grind (arith, nat_tests) in t)
          ∙ ap (λ (j : ℕ). start_page (image_in plan.pages (number_of plan j))) s ∙ ap (λ (j : ℕ). start_page (image_in plan.pages j)) number ∙ ap start_page core.0)
      | inr ne ↦ placed_other (pages_to plan k) p.leaf (start_page (Some (start_of p))) i ne
          ∙ ap (λ (b : Bool). if b then first_pages plan i else None) (other (number_of plan i) k (λ (s : number_of plan i ≡ k). ne (sym (leaf_number plan i) ∙ ap (leaf_of plan) s ∙ core.1)))
    ]
  where
    other : (n k : ℕ) → n ≢ k → nat_lt n k ≡ nat_lt n (k + 1)
    other n k ne = grind (arith, nat_tests)

pub next_page : (plan : PlanValue) (k leaf : ℕ) (image : PagePlan) (core : Core) (b : Pages) → IsSound plan → slice_get plan.pages k ≡ Some image → leaf ≡ image.leaf → core ≡ start_of image
    → ShowsPages (size_of plan) (placed (pages_to plan k) leaf (start_page (Some core))) b → ShowsPages (size_of plan) (pages_to plan (k + 1)) b
next_page plan k leaf image core b sound e at is s =
    subst (λ (f : ℕ → Option PageState). ShowsPages (size_of plan) f b) (fun_ext (next_at plan k image sound e))
    (subst (λ (j : ℕ). ShowsPages (size_of plan) (placed (pages_to plan k) j (start_page (Some (start_of image)))) b) at
    (subst (λ (x : Core). ShowsPages (size_of plan) (placed (pages_to plan k) leaf (start_page (Some x))) b) is s))

-- no page stands there yet
pub not_yet : (plan : PlanValue) (k leaf : ℕ) (p : PagePlan) → IsSound plan → slice_get plan.pages k ≡ Some p → leaf ≡ p.leaf → pages_to plan k leaf ≡ None
not_yet plan k leaf p sound e at =
    let number : number_of plan leaf ≡ k = ap (number_of plan) at ∙ number_leaf (tree_of plan) plan sound k p e in
    ap (λ (b : Bool). if b then first_pages plan leaf else None) (let t : nat_lt (number_of plan leaf) k ≡ false = grind (arith, nat_tests) in t)

past_image : (ps : List PagePlan) (k : ℕ) → length ps ≤ k → image_in ps k ≡ None
past_image [] k l = refl
past_image (p ∷ ps) zero l = absurd (omega arith)
past_image (p ∷ ps) (suc k) l = past_image ps k (omega arith)

last_at : (plan : PlanValue) (k : ℕ) → k ≡ length plan.pages → (i : ℕ) → pages_to plan k i ≡ first_pages plan i
last_at plan k e i = by (nat_lt (number_of plan i) k) refl
  where
    by : (b : Bool) → nat_lt (number_of plan i) k ≡ b → (if b then first_pages plan i else None) ≡ first_pages plan i
    by true f = refl
    by false f = sym (ap start_page (past_image plan.pages (number_of plan i) (let l : k ≤ number_of plan i = grind (arith, nat_tests) in omega arith)))

pub all_pages : (plan : PlanValue) (k : ℕ) (b : Pages) → k ≡ length plan.pages → ShowsPages (size_of plan) (pages_to plan k) b → ShowsPages (size_of plan) (first_pages plan) b
all_pages plan k b e s = subst (λ (f : ℕ → Option PageState). ShowsPages (size_of plan) f b) (fun_ext (last_at plan k e)) s

-- The whole.

first_gives : (o : Option Core) → gives_of (start_page o) + outside (start_page o) ≤ 4 * one_page (start_page o)
first_gives None = omega arith
first_gives (Some c) = omega arith

first_one : (o : Option Core) → one_page (start_page o) ≡ unfinished (start_page o)
first_one None = refl
first_one (Some c) = refl

first_out : (o : Option Core) → outside (start_page o) ≡ 0
first_out None = refl
first_out (Some c) = refl

pub first_kept : (plan : PlanValue) (b : Board) → IsSound plan → b.net ≡ first_net plan.depth plan.pattern plan.window plan.before plan.tables → ShowsPages (size_of plan) (first_pages plan) b.pages → b.pages.running ≡ length plan.pages
    → length b.sent.items ≡ length plan.feeds → AreAll 0 b.sent.items → length b.outs.items ≡ plan.outs → AreAll (fresh_out (plan.rounds + 1)) b.outs.items → IsKept plan [] b
first_kept plan b sound net pages count sent_many sent outs_many outs =
    let setup = tree_setup plan in
    let none : sum_to (size_of plan) (λ i. outside (first_pages plan i)) ≡ 0 = all_zero (size_of plan) (λ i. outside (first_pages plan i)) (λ i l. first_out (image_in plan.pages (number_of plan i))) in
    record {
      sound = sound;
      legal = tt;
      shows = record {
        net = subst (NetShows setup (start setup)) (sym net) (begins plan);
        pages = pages;
        host = record {
          inputs = sent_many;
          sends = λ k l. all_got 0 0 b.sent.items k sent (omega (arith, l, sent_many));
          outputs = outs_many;
          gets = λ j l. ap (λ (o : OutWords). o.words) (all_got (fresh_out (plan.rounds + 1)) no_words b.outs.items j outs (omega (arith, l, outs_many)));
        };
      };
      counted = record {
        pages = omega (arith, sum_same (size_of plan) (λ i. one_page (first_pages plan i)) (λ i. unfinished (first_pages plan i)) (λ i l. first_one (image_in plan.pages (number_of plan i))), pages.running_count, count);
        each = λ i. first_gives (image_in plan.pages (number_of plan i));
        rounds = omega arith;
        before = λ l. omega (arith, none);
        last = λ l. omega (arith, none);
        outs = λ j. omega arith;
      };
      rooms = λ j l. omega (arith, ap (λ (o : OutWords). o.room) (all_got (fresh_out (plan.rounds + 1)) no_words b.outs.items j outs l));
    }
