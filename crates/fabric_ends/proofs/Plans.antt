-- A sound plan's run is sound.
use Rattle.std.proofs.Common.{◌≡◌, ℕ, zero, suc, ◌+◌, ◌*◌, ◌<◌, ◌≤◌, ◌≢◌, Bool, true, false, List, [], ◌∷◌, length, refl, ap, sym, ◌∙◌, arith, Option, Some, None, IsSome, subst, pow_pos}
use Rattle.std.specs.Prelude.{if◌then◌else◌, ◌==◌, nat_lt, is_some, slice_get, slice_index_or}
use Rattle.std.proofs.lemmas.Bool.Decides.{nat_tests}
use Rattle.net_switch.specs.declared.packet.Row.{Row}
use Rattle.pld_image.specs.Cores.{Core, next}
use Rattle.pld_image.specs.Ports.{ins_of, outs_of}
use Rattle.fabric_run.specs.Plan.{PagePlan, PlanValue, row_in, feed_of, leaf_in, number_from, leaf_of, number_of, start_of, image_in, size_of, setup_of, out_row, in_row, row_to, IsSound}
use Rattle.fabric_run.specs.World.{Carrier, Setup, core_at}
use Rattle.fabric_keeps.specs.Links.{is_row, is_from_end, is_to_end, is_linked_in, is_linked_out}
use Rattle.fabric_keeps.specs.Links as links
use Rattle.hot_swap.specs.Paths.{Leads}
use Rattle.pld_image.proofs.Ports.{keeps_ports}
use Rattle.fabric_keeps.proofs.Base.{both, and_of, eq_same, same_eq, differ, lt_true}
use Rattle.fabric_keeps.proofs.Accounting.{LinkedIn, linked_in}

none_some : {X : Type 0} (x : X) → None ≡ Some x → ⊥
none_some x e = cc

some_same : {X : Type 0} (x y : X) → Some x ≡ Some y → x ≡ y
some_same x y e = cc

lt_of : (a b : ℕ) → a < b → nat_lt a b ≡ true
lt_of a b h = grind (arith, nat_tests)

-- Numbers and leaves.

number_least : (ps : List PagePlan) (n leaf : ℕ) → n ≤ number_from n ps leaf
number_least [] n leaf = omega arith
number_least (p ∷ ps) n leaf = by (p.leaf == leaf) (number_least ps (n + 1) leaf)
  where
    by : (b : Bool) → n + 1 ≤ number_from (n + 1) ps leaf → n ≤ (if b then n else number_from (n + 1) ps leaf)
    by true h = omega arith
    by false h = omega arith

-- the leaf of a leaf's number is that leaf
leaf_back : (ps : List PagePlan) (n leaf : ℕ) → (k : ℕ) × (number_from n ps leaf ≡ n + k) × (leaf_in ps k ≡ leaf)
leaf_back [] n leaf = (leaf, refl, refl)
leaf_back (p ∷ ps) n leaf = by (p.leaf == leaf) refl (leaf_back ps (n + 1) leaf)
  where
    by : (b : Bool) → (p.leaf == leaf) ≡ b → (k : ℕ) × (number_from (n + 1) ps leaf ≡ n + 1 + k) × (leaf_in ps k ≡ leaf)
        → (k : ℕ) × ((if b then n else number_from (n + 1) ps leaf) ≡ n + k) × (leaf_in (p ∷ ps) k ≡ leaf)
    by true e r = (0, omega arith, eq_same p.leaf leaf e)
    by false e r = (suc r.0, omega (arith, r.1), r.2)

pub leaf_number : (plan : PlanValue) (leaf : ℕ) → leaf_of plan (number_of plan leaf) ≡ leaf
leaf_number plan leaf = let r = leaf_back plan.pages 0 leaf in ap (leaf_in plan.pages) (r.1 ∙ omega arith) ∙ r.2

pub numbers_apart : (plan : PlanValue) (i j : ℕ) → number_of plan i ≡ number_of plan j → i ≡ j
numbers_apart plan i j e = sym (leaf_number plan i) ∙ (ap (leaf_of plan) e ∙ leaf_number plan j)

-- a page with its core
pub page_at : (ps : List PagePlan) (k : ℕ) (c : Core) → image_in ps k ≡ Some c → (p : PagePlan) × (slice_get ps k ≡ Some p) × (leaf_in ps k ≡ p.leaf) × (start_of p ≡ c)
page_at [] k c e = absurd (none_some c e)
page_at (p ∷ ps) zero c e = (p, refl, refl, some_same (start_of p) c e)
page_at (p ∷ ps) (suc k) c e = page_at ps k c e

pub core_of_page : (ps : List PagePlan) (k : ℕ) (p : PagePlan) → slice_get ps k ≡ Some p → (image_in ps k ≡ Some (start_of p)) × (leaf_in ps k ≡ p.leaf)
core_of_page [] k p e = absurd (none_some p e)
core_of_page (q ∷ ps) zero p e = let s : q ≡ p = some_same q p e in (ap (λ (x : PagePlan). Some (start_of x)) s, ap (λ (x : PagePlan). x.leaf) s)
core_of_page (q ∷ ps) (suc k) p e = core_of_page ps k p e

-- pages stand on leaves of their own
abbrev AreApart : List PagePlan → Type 0
AreApart ps = (j k : ℕ) (p q : PagePlan) → slice_get ps j ≡ Some p → slice_get ps k ≡ Some q → p.leaf ≡ q.leaf → j ≡ k

number_page : (ps : List PagePlan) (n k : ℕ) (p : PagePlan) → AreApart ps → slice_get ps k ≡ Some p → number_from n ps p.leaf ≡ n + k
number_page [] n k p apart e = absurd (none_some p e)
number_page (q ∷ ps) n zero p apart e =
    let s : q ≡ p = some_same q p e in
    ap (λ (b : Bool). if b then n else number_from (n + 1) ps p.leaf) (same_eq q.leaf p.leaf (ap (λ (x : PagePlan). x.leaf) s)) ∙ omega arith
number_page (q ∷ ps) n (suc k) p apart e =
    let other : q.leaf ≢ p.leaf = λ (s : q.leaf ≡ p.leaf). (let z : 0 ≡ suc k = apart 0 (suc k) q p refl e s in omega arith) in
    ap (λ (b : Bool). if b then n else number_from (n + 1) ps p.leaf) (differ q.leaf p.leaf other)
    ∙ (number_page ps (n + 1) k p (λ a b x y f g s. (let z : suc a ≡ suc b = apart (suc a) (suc b) x y f g s in omega arith)) e ∙ omega arith)

-- Rows.

guarded : {X : Type 0} (b : Bool) (o : Option X) (x : X) → (if b then o else None) ≡ Some x → (b ≡ true) × (o ≡ Some x)
guarded true o x e = (refl, e)
guarded false o x e = absurd (none_some x e)

small_row : (rows : List (Option Row)) (leaf slot : ℕ) (row : Row) → row_in rows leaf slot ≡ Some row → slot < 16
small_row rows leaf slot row e = lt_true slot 16 (guarded (nat_lt slot 16) (slice_index_or rows (16 * leaf + slot) None) row e).0

big_row : (rows : List (Option Row)) (leaf slot : ℕ) → 16 ≤ slot → row_in rows leaf slot ≡ None
big_row rows leaf slot h = let z : nat_lt slot 16 ≡ false = grind (arith, nat_tests) in rw z refl

some_of : (o : Option Row) → IsSome o → (row : Row) × (o ≡ Some row)
some_of None h = absurd (let x : false ≡ true = h in cc)
some_of (Some row) h = (row, refl)

module _ {S : Type 0} (net : Carrier S) (plan : PlanValue) (sound : IsSound plan) where
  abbrev run : Setup S
  run = setup_of net plan

  abbrev page_get : ℕ → Option PagePlan
  page_get k = slice_get plan.pages k

  some_leaf : 0 < size_of plan
  some_leaf = pow_pos plan.depth

  -- the page on a leaf
  pub leaf_page : (i : ℕ) (c : Core) → core_at run i ≡ Some c → (p : PagePlan) × (page_get (number_of plan i) ≡ Some p) × (p.leaf ≡ i) × (start_of p ≡ c)
  leaf_page i c e =
      let a = page_at plan.pages (number_of plan i) c e in
      (a.0, a.1, sym a.2 ∙ leaf_number plan i, a.3)

  pub number_leaf : (k : ℕ) (p : PagePlan) → page_get k ≡ Some p → number_of plan p.leaf ≡ k
  number_leaf k p e = number_page plan.pages 0 k p sound.apart e ∙ omega arith

  no_host : (o : Option Core) → core_at run 0 ≡ o → o ≡ None
  no_host None e = refl
  no_host (Some c) e =
      let a = leaf_page 0 c e in
      absurd (omega (arith, (sound.leaves (number_of plan 0) a.0 a.1).0, a.2))

  -- a leaf with a row is the host's, or has a page
  row_below : (leaf slot : ℕ) (row : Row) → row_in plan.tables leaf slot ≡ Some row → leaf < size_of plan
  row_below zero slot row e = some_leaf
  row_below (suc leaf) slot row e =
      let p = sound.inside leaf slot row e in
      omega (arith, (sound.leaves p.0 p.1 p.2).1, p.3)

  row_page : (leaf slot : ℕ) (row : Row) → row_in plan.tables (suc leaf) slot ≡ Some row → is_some (core_at run (suc leaf)) ≡ true
  row_page leaf slot row e =
      let p = sound.inside leaf slot row e in
      let n : number_of plan (suc leaf) ≡ p.0 = ap (number_of plan) (sym p.3) ∙ number_leaf p.0 p.1 p.2 in
      ap (λ (k : ℕ). is_some (image_in plan.pages k)) n ∙ ap (λ (o : Option Core). is_some o) (core_of_page plan.pages p.0 p.1 p.2).0

  -- a row of an out-port is that of a channel
  out_linked : (leaf port : ℕ) (row : Row) → out_row plan leaf port ≡ Some row → is_linked_out (row_in plan.tables) leaf port ≡ true
  out_linked leaf port row e =
      let a = guarded (nat_lt port 8) (row_in plan.tables leaf port) row e in
      let b = guarded (nat_lt row.port.0 8) (row_in plan.tables row.leaf.0 (8 + row.port.0)) (row_to leaf port) (sound.out_in leaf port row e) in
      let there : is_row (row_in plan.tables row.leaf.0 (8 + row.port.0)) leaf port ≡ true = ap (λ (o : Option Row). is_row o leaf port) b.1 ∙ and_of (leaf == leaf) (port == port) (same_eq leaf leaf refl) (same_eq port port refl) in
      and_of (nat_lt port 8) _ a.0 (ap (is_to_end (row_in plan.tables) leaf port) a.1 ∙ and_of (nat_lt row.port.0 8) _ b.0 there)

  pub in_linked : (leaf port : ℕ) (row : Row) → in_row plan leaf port ≡ Some row → is_linked_in (row_in plan.tables) leaf port ≡ true
  in_linked leaf port row e =
      let a = guarded (nat_lt port 8) (row_in plan.tables leaf (8 + port)) row e in
      let b = guarded (nat_lt row.port.0 8) (row_in plan.tables row.leaf.0 row.port.0) (row_to leaf port) (sound.in_out leaf port row e) in
      let there : is_row (row_in plan.tables row.leaf.0 row.port.0) leaf port ≡ true = ap (λ (o : Option Row). is_row o leaf port) b.1 ∙ and_of (leaf == leaf) (port == port) (same_eq leaf leaf refl) (same_eq port port refl) in
      and_of (nat_lt port 8) _ a.0 (ap (is_from_end (row_in plan.tables) leaf port) a.1 ∙ and_of (nat_lt row.port.0 8) _ b.0 there)

  linked_row : (leaf port : ℕ) → is_linked_in (row_in plan.tables) leaf port ≡ true → (row : Row) × (in_row plan leaf port ≡ Some row)
  linked_row leaf port h =
      let l : LinkedIn (row_in plan.tables) leaf port = linked_in (row_in plan.tables) leaf port h in
      (row_to l.from l.out, ap (λ (b : Bool). if b then row_in plan.tables leaf (8 + port) else None) (both (nat_lt port 8) _ h).0 ∙ l.row)

  unlinked : (j : ℕ) (b : Bool) → is_linked_in (row_in plan.tables) 0 j ≡ b → plan.outs ≤ j → b ≡ false
  unlinked j true h l =
      let r = linked_row 0 j h in
      absurd (omega (arith, sound.host_in j r.0 r.1))
  unlinked j false h l = refl

  no_feed : (k : ℕ) → length plan.feeds ≤ k → feed_of plan k ≡ []
  no_feed k l = past_end plan.feeds k l
    where
      past_end : (xs : List (List ℕ)) (k : ℕ) → length xs ≤ k → slice_index_or xs k [] ≡ []
      past_end [] k l = refl
      past_end (x ∷ xs) zero l = absurd (omega arith)
      past_end (x ∷ xs) (suc k) l = past_end xs k (omega arith)

  pub sound_run : links.IsSound run
  sound_run = record {
    some = some_leaf;
    window = omega (arith, sound.window.0);
    apart = numbers_apart plan;
    leaf = λ i c e. leaf_number plan i;
    number = λ k c e. (let a = page_at plan.pages k c e in ap (number_of plan) a.2 ∙ number_leaf k a.0 a.1);
    host = no_host (core_at run 0) refl;
    leaves = λ i c e. (let a = leaf_page i c e in omega (arith, (sound.leaves (number_of plan i) a.0 a.1).1, a.2));
    below = λ e l. (row_below e.from e.out _ l.from_row, row_below e.to (8 + e.inn) _ l.to_row);
    readers = λ i j h. (let l : LinkedIn (row_in plan.tables) (suc i) j = linked_in (row_in plan.tables) (suc i) j h in row_page i (8 + j) (row_to l.from l.out) l.row);
    inputs = λ k l. (let r = some_of (out_row plan 0 k) (sound.host_sends k l) in out_linked 0 k r.0 r.1);
    feeds = no_feed;
    gets = λ j l. (let r = some_of (in_row plan 0 j) (sound.host_gets j l) in in_linked 0 j r.0 r.1);
    outputs = λ j l. unlinked j (is_linked_in (row_in plan.tables) 0 j) refl l;
    page_reads = λ i c d n es j after e l stands. (
        let a = leaf_page i c e in
        let within : j < ins_of a.0.image = (keeps_ports a.0.image (sound.images (number_of plan i) a.0 a.1)).reads d n es j after (subst (λ (x : Core). Leads next x n es d) (sym a.3) l) stands in
        let r = some_of (in_row plan a.0.leaf j) (sound.page_ins (number_of plan i) j a.0 a.1 within) in
        subst (λ (x : ℕ). is_linked_in (row_in plan.tables) x j ≡ true) a.2 (in_linked a.0.leaf j r.0 r.1));
    page_writes = λ i c d n es k w after e l stands. (
        let a = leaf_page i c e in
        let within : k < outs_of a.0.image = (keeps_ports a.0.image (sound.images (number_of plan i) a.0 a.1)).writes d n es k w after (subst (λ (x : Core). Leads next x n es d) (sym a.3) l) stands in
        let r = some_of (out_row plan a.0.leaf k) (sound.page_outs (number_of plan i) k a.0 a.1 within) in
        subst (λ (x : ℕ). is_linked_out (row_in plan.tables) x k ≡ true) a.2 (out_linked a.0.leaf k r.0 r.1));
    slots = λ i slot l. big_row plan.tables i slot l;
  }
