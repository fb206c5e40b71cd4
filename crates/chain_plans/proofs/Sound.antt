-- The plan of a chain is sound.
use Rattle.std.proofs.Common.{◌≡◌, ℕ, zero, suc, ◌+◌, ◌*◌, ◌<◌, ◌≤◌, Bool, true, false, List, [], ◌∷◌, length, refl, ap, sym, ◌∙◌, subst, arith, Option, Some, None, ⊎_elim}
use Rattle.std.specs.Prelude.{if◌then◌else◌, nat_lt, slice_get, slice_index_or, IsSome, ◌^◌}
use Rattle.std.specs.List.{All}
use Rattle.std.proofs.lemmas.Bool.Decides.{nat_tests}
use Rattle.std.proofs.lemmas.List.Elements.{All-nil}
use Rattle.std.proofs.lemmas.Option.{slice_get_within, get_or_from_slice_get, slice_get-get_or}
use Rattle.net_switch.specs.declared.packet.Pattern.{Pattern}
use Rattle.net_switch.specs.declared.packet.Row.{Row}
use Rattle.image_form.specs.Spelling.{Form, IsForm}
use Rattle.pld_image.specs.Ports.{ins_of, outs_of}
use Rattle.fabric_run.specs.Plan.{PagePlan, PlanValue, row_in, row_to, out_row, in_row, feed_of, IsSound}
use Rattle.leaf_net.specs.Net.{below}
use Rattle.leaf_net.proofs.Lists.{length-below, at_below}
use Rattle.chain_plans.specs.Chains.{behind, before, chain_row, chain_rows, chain_pages, chain_plan, plain, HasPorts}
use Rattle.chain_plans.proofs.Rings.{row_is, row_some, behind_before, before_behind, behind_within, before_within}

none_some : {X : Type 0} (x : X) → None ≡ Some x → ⊥
none_some x e = cc

-- the k-th page
page_is : (n : ℕ) (image : Form) (k : ℕ) (p : PagePlan) → slice_get (chain_pages n image) k ≡ Some p → (k < n) × (p ≡ record { leaf = k + 1; image = image })
page_is n image k p e =
    let f : ℕ → PagePlan = λ i. record { leaf = i + 1; image = image } in
    let within : k < length (chain_pages n image) = slice_get_within (chain_pages n image) k p e in
    let few : k < n = omega (arith, within, length-below n f) in
    (few, sym (get_or_from_slice_get (chain_pages n image) k p p e) ∙ at_below n f k p few)

slice_there : (n : ℕ) (f : ℕ → PagePlan) (k : ℕ) → k < n → slice_get (below n f) k ≡ Some (f k)
slice_there n f k l = slice_get-get_or (below n f) k (f k) (omega (arith, l, length-below n f)) ∙ ap (λ (x : PagePlan). Some x) (at_below n f k (f k) l)

page_count : (n : ℕ) (image : Form) → length (chain_pages n image) ≡ n
page_count n image = length-below n (λ k. (let p : PagePlan = record { leaf = k + 1; image = image } in p))

module _ (n : ℕ) (some : 1 ≤ n) (few : n < 64) (image : Form) (form : IsForm image) (ports : HasPorts image) (words : List ℕ) (short : length words ≤ 65536) (are_words : All (λ w. w < 2 ^ 32) words) (rounds : ℕ) (some_rounds : 1 ≤ rounds) (few_rounds : rounds * (8 * n + 1) ≤ 40000000) where
  abbrev plan : PlanValue
  plan = chain_plan n image words rounds

  outs_at : (leaf port : ℕ) (b : Bool) → nat_lt port 8 ≡ b → (if b then row_in (chain_rows n) leaf port else None) ≡ (if b then chain_row n leaf port else None)
  outs_at leaf port true e = row_is n leaf port few (let l : port < 8 = grind (arith, nat_tests, e) in omega (arith, l))
  outs_at leaf port false e = refl

  ins_at : (leaf port : ℕ) (b : Bool) → nat_lt port 8 ≡ b → (if b then row_in (chain_rows n) leaf (8 + port) else None) ≡ (if b then chain_row n leaf (8 + port) else None)
  ins_at leaf port true e = row_is n leaf (8 + port) few (let l : port < 8 = grind (arith, nat_tests, e) in omega (arith, l))
  ins_at leaf port false e = refl

  out_by : (leaf port : ℕ) (row : Row) (b : Bool) → nat_lt port 8 ≡ b → (if b then chain_row n leaf port else None) ≡ Some row → (leaf ≤ n) × (port ≡ 0) × (row ≡ row_to (behind n leaf) 0)
  out_by leaf port row true e h =
      let l : port < 8 = grind (arith, nat_tests, e) in
      let s = row_some n leaf port row h in
      (s.0, ⊎_elim (λ x. x.0) (λ x. absurd (omega (arith, x.0, l))) s.1, ⊎_elim (λ x. x.1) (λ x. absurd (omega (arith, x.0, l))) s.1)
  out_by leaf port row false e h = absurd (none_some row h)

  in_by : (leaf port : ℕ) (row : Row) (b : Bool) → nat_lt port 8 ≡ b → (if b then chain_row n leaf (8 + port) else None) ≡ Some row → (leaf ≤ n) × (port ≡ 0) × (row ≡ row_to (before n leaf) 0)
  in_by leaf port row true e h =
      let s = row_some n leaf (8 + port) row h in
      (s.0, ⊎_elim (λ x. absurd (omega (arith, x.0))) (λ x. omega (arith, x.0)) s.1, ⊎_elim (λ x. absurd (omega (arith, x.0))) (λ x. x.1) s.1)
  in_by leaf port row false e h = absurd (none_some row h)

  out_some : (leaf port : ℕ) (row : Row) → out_row plan leaf port ≡ Some row → (leaf ≤ n) × (port ≡ 0) × (row ≡ row_to (behind n leaf) 0)
  out_some leaf port row h = out_by leaf port row (nat_lt port 8) refl (sym (outs_at leaf port (nat_lt port 8) refl) ∙ h)

  in_some : (leaf port : ℕ) (row : Row) → in_row plan leaf port ≡ Some row → (leaf ≤ n) × (port ≡ 0) × (row ≡ row_to (before n leaf) 0)
  in_some leaf port row h = in_by leaf port row (nat_lt port 8) refl (sym (ins_at leaf port (nat_lt port 8) refl) ∙ h)

  within : (leaf slot : ℕ) (row : Row) → leaf ≤ n → (let z = nat_lt n leaf in (if z then None else Some row)) ≡ Some row
  within leaf slot row l = (let e : nat_lt n leaf ≡ false = grind (arith, nat_tests, l) in ap (λ (b : Bool). if b then None else Some row) e)

  out_is : (leaf : ℕ) → leaf ≤ n → out_row plan leaf 0 ≡ Some (row_to (behind n leaf) 0)
  out_is leaf l = row_is n leaf 0 few (omega arith) ∙ within leaf 0 (row_to (behind n leaf) 0) l

  in_is : (leaf : ℕ) → leaf ≤ n → in_row plan leaf 0 ≡ Some (row_to (before n leaf) 0)
  in_is leaf l = row_is n leaf 8 few (omega arith) ∙ within leaf 8 (row_to (before n leaf) 0) l

  some_row : (o : Option Row) (row : Row) → o ≡ Some row → IsSome o
  some_row o row e = subst IsSome (sym e) refl

  page_leaf : (k : ℕ) (p : PagePlan) → slice_get plan.pages k ≡ Some p → (1 ≤ p.leaf) × (p.leaf ≤ n)
  page_leaf k p e =
      let a = page_is n image k p e in
      let l : p.leaf ≡ k + 1 = ap (λ (x : PagePlan). x.leaf) a.1 in
      (omega (arith, l), omega (arith, l, a.0))

  one_out : (k port : ℕ) (p : PagePlan) → slice_get plan.pages k ≡ Some p → port < outs_of p.image → port ≡ 0
  one_out k port p e l = (let o : outs_of p.image ≡ 1 = ap (λ (x : PagePlan). outs_of x.image) (page_is n image k p e).1 ∙ ports.outs in omega (arith, l, o))

  one_in : (k port : ℕ) (p : PagePlan) → slice_get plan.pages k ≡ Some p → port < ins_of p.image → port ≡ 0
  one_in k port p e l = (let o : ins_of p.image ≡ 1 = ap (λ (x : PagePlan). ins_of x.image) (page_is n image k p e).1 ∙ ports.ins in omega (arith, l, o))

  first_out : (port leaf : ℕ) → port ≡ 0 → leaf ≤ n → IsSome (out_row plan leaf port)
  first_out port leaf e l = subst (λ (q : ℕ). IsSome (out_row plan leaf q)) (sym e) (some_row (out_row plan leaf 0) (row_to (behind n leaf) 0) (out_is leaf l))

  first_in : (port leaf : ℕ) → port ≡ 0 → leaf ≤ n → IsSome (in_row plan leaf port)
  first_in port leaf e l = subst (λ (q : ℕ). IsSome (in_row plan leaf q)) (sym e) (some_row (in_row plan leaf 0) (row_to (before n leaf) 0) (in_is leaf l))

  image_at : (k : ℕ) (p : PagePlan) → slice_get plan.pages k ≡ Some p → p.image ≡ image
  image_at k p e = ap (λ (x : PagePlan). x.image) (page_is n image k p e).1

  same_leaf : (j k : ℕ) (p q : PagePlan) → slice_get plan.pages j ≡ Some p → slice_get plan.pages k ≡ Some q → p.leaf ≡ q.leaf → j ≡ k
  same_leaf j k p q d e same =
      let a : p.leaf ≡ j + 1 = ap (λ (x : PagePlan). x.leaf) (page_is n image j p d).1 in
      let b : q.leaf ≡ k + 1 = ap (λ (x : PagePlan). x.leaf) (page_is n image k q e).1 in
      omega (arith, a, b, same)

  joined_in : (leaf port : ℕ) (row : Row) → out_row plan leaf port ≡ Some row → in_row plan row.leaf.0 row.port.0 ≡ Some (row_to leaf port)
  joined_in leaf port row e =
      let s = out_some leaf port row e in
      let there : in_row plan (behind n leaf) 0 ≡ Some (row_to leaf port) = in_is (behind n leaf) (behind_within n leaf s.0) ∙ ap (λ (l : ℕ). Some (row_to l 0)) (behind_before n leaf s.0) ∙ ap (λ (q : ℕ). Some (row_to leaf q)) (sym s.1) in
      subst (λ (r : Row). in_row plan r.leaf.0 r.port.0 ≡ Some (row_to leaf port)) (sym s.2) there

  joined_out : (leaf port : ℕ) (row : Row) → in_row plan leaf port ≡ Some row → out_row plan row.leaf.0 row.port.0 ≡ Some (row_to leaf port)
  joined_out leaf port row e =
      let s = in_some leaf port row e in
      let there : out_row plan (before n leaf) 0 ≡ Some (row_to leaf port) = out_is (before n leaf) (before_within n leaf s.0) ∙ ap (λ (l : ℕ). Some (row_to l 0)) (before_behind n leaf s.0) ∙ ap (λ (q : ℕ). Some (row_to leaf q)) (sym s.1) in
      subst (λ (r : Row). out_row plan r.leaf.0 r.port.0 ≡ Some (row_to leaf port)) (sym s.2) there

  inside_at : (leaf slot : ℕ) (row : Row) (b : Bool) → nat_lt slot 16 ≡ b → (if b then slice_index_or (chain_rows n) (16 * suc leaf + slot) None else None) ≡ Some row → suc leaf ≤ n
  inside_at leaf slot row true e h =
      let l : slot < 16 = grind (arith, nat_tests, e) in
      let is : row_in (chain_rows n) (suc leaf) slot ≡ chain_row n (suc leaf) slot = row_is n (suc leaf) slot few l in
      let here : row_in (chain_rows n) (suc leaf) slot ≡ Some row = ap (λ (b : Bool). if b then slice_index_or (chain_rows n) (16 * suc leaf + slot) None else None) e ∙ h in
      (row_some n (suc leaf) slot row (sym is ∙ here)).0
  inside_at leaf slot row false e h = absurd (none_some row h)

  page_there : (leaf : ℕ) → suc leaf ≤ n → (k : ℕ) × (p : PagePlan) × (slice_get plan.pages k ≡ Some p) × (p.leaf ≡ suc leaf)
  page_there leaf l =
      let f : ℕ → PagePlan = λ i. record { leaf = i + 1; image = image } in
      (leaf, f leaf, slice_there n f leaf (omega (arith, l)), omega arith)

  no_row : (leaf slot : ℕ) (b : Bool) → (let rows : List (Option Row) = [] in if b then slice_index_or rows (16 * leaf + slot) None else None) ≡ None
  no_row leaf slot true = refl
  no_row leaf slot false = refl

  one_feed : (k : ℕ) → length (feed_of plan k) ≤ 65536
  one_feed zero = short
  one_feed (suc k) = omega arith

  feed_words : (k : ℕ) → All (λ w. w < 2 ^ 32) (feed_of plan k)
  feed_words zero = are_words
  feed_words (suc k) = All-nil (λ w. w < 2 ^ 32)

  pub chain_sound : IsSound plan
  chain_sound = record {
    depth = (omega arith, omega arith);
    window = (omega arith, omega arith);
    many = (omega (arith, some, page_count n image), omega (arith, few, page_count n image));
    images = λ k p e. subst IsForm (sym (image_at k p e)) form;
    leaves = λ k p e. ((page_leaf k p e).0, omega (arith, (page_leaf k p e).1, few));
    apart = same_leaf;
    out_in = joined_in;
    in_out = joined_out;
    page_outs = λ k port p e l. first_out port p.leaf (one_out k port p e l) (page_leaf k p e).1;
    page_out_rows = λ k port p row e r. (let o : outs_of p.image ≡ 1 = ap outs_of (image_at k p e) ∙ ports.outs in omega (arith, o, (out_some p.leaf port row r).1));
    page_ins = λ k port p e l. first_in port p.leaf (one_in k port p e l) (page_leaf k p e).1;
    page_in_rows = λ k port p row e r. (let o : ins_of p.image ≡ 1 = ap ins_of (image_at k p e) ∙ ports.ins in omega (arith, o, (in_some p.leaf port row r).1));
    host_sends = λ k l. first_out k 0 (omega (arith, l)) (omega arith);
    host_out = λ port row e. omega (arith, (out_some 0 port row e).1);
    host_gets = λ k l. first_in k 0 (omega (arith, l)) (omega arith);
    host_in = λ port row e. omega (arith, (in_some 0 port row e).1);
    inside = λ leaf slot row e. page_there leaf (inside_at leaf slot row (nat_lt slot 16) refl e);
    before = λ leaf slot l. no_row leaf slot (nat_lt slot 16);
    hosts = (omega arith, omega arith);
    short = one_feed;
    words = feed_words;
    rounds = (some_rounds, subst (λ (m : ℕ). rounds * (8 * m + 1) ≤ 40000000) (sym (page_count n image)) few_rounds);
  }

pub plan_is : (n : ℕ) (image : Form) (words : List ℕ) (rounds : ℕ) (pattern : Pattern) (pages : List PagePlan) (before tables : List (Option Row)) (feeds : List (List ℕ))
    → pattern ≡ plain → pages ≡ chain_pages n image → before ≡ [] → tables ≡ chain_rows n → feeds ≡ words ∷ []
    → (let made : PlanValue = record { depth = 6; pattern = pattern; window = 16; pages = pages; before = before; tables = tables; feeds = feeds; outs = 1; rounds = rounds } in made) ≡ chain_plan n image words rounds
plan_is n image words rounds pattern pages before tables feeds a b c d e =
    ap (λ (p : Pattern). (let made : PlanValue = record { depth = 6; pattern = p; window = 16; pages = pages; before = before; tables = tables; feeds = feeds; outs = 1; rounds = rounds } in made)) a
    ∙ ap (λ (ps : List PagePlan). (let made : PlanValue = record { depth = 6; pattern = plain; window = 16; pages = ps; before = before; tables = tables; feeds = feeds; outs = 1; rounds = rounds } in made)) b
    ∙ ap (λ (rs : List (Option Row)). (let made : PlanValue = record { depth = 6; pattern = plain; window = 16; pages = chain_pages n image; before = rs; tables = tables; feeds = feeds; outs = 1; rounds = rounds } in made)) c
    ∙ ap (λ (rs : List (Option Row)). (let made : PlanValue = record { depth = 6; pattern = plain; window = 16; pages = chain_pages n image; before = []; tables = rs; feeds = feeds; outs = 1; rounds = rounds } in made)) d
    ∙ ap (λ (fs : List (List ℕ)). (let made : PlanValue = record { depth = 6; pattern = plain; window = 16; pages = chain_pages n image; before = []; tables = chain_rows n; feeds = fs; outs = 1; rounds = rounds } in made)) e
