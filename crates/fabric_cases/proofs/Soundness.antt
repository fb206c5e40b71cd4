-- A plan of two pages without ports, on leaves 1 and 2 of a tree of four, is sound.
use Rattle.std.proofs.Common.{◌≡◌, ℕ, zero, suc, ◌+◌, ◌*◌, ◌<◌, ◌≤◌, ◌⊎◌, inl, inr, Bool, true, false, List, [], ◌∷◌, refl, ap, sym, ◌∙◌, subst, arith, Option, Some, None, ⊎_elim}
use Rattle.std.specs.Prelude.{if◌then◌else◌, nat_lt, slice_get, slice_index_or}
use Rattle.std.proofs.lemmas.List.Elements.{All-nil}
use Rattle.net_switch.specs.declared.packet.Pattern.{Pattern}
use Rattle.net_switch.specs.declared.packet.Row.{Row}
use Rattle.image_form.specs.Spelling.{Form, IsForm}
use Rattle.pld_image.specs.Ports.{ins_of, outs_of}
use Rattle.fabric_run.specs.Plan.{PagePlan, row_in, IsSound}

none_some : {X : Type 0} (x : X) → None ≡ Some x → ⊥
none_some x e = cc

some_same : {X : Type 0} (x y : X) → Some x ≡ Some y → x ≡ y
some_same x y e = cc

page_of : (p q : PagePlan) (k : ℕ) (x : PagePlan) → slice_get (p ∷ q ∷ []) k ≡ Some x → ((k ≡ 0) × (x ≡ p)) ⊎ ((k ≡ 1) × (x ≡ q))
page_of p q zero x e = inl (refl, sym (some_same p x e))
page_of p q (suc zero) x e = inr (refl, sym (some_same q x e))
page_of p q (suc (suc k)) x e = absurd (none_some x e)

abbrev no_rows : List (Option Row)
no_rows = []

row_by : (leaf slot : ℕ) (b : Bool) → (if b then slice_index_or no_rows (16 * leaf + slot) None else None) ≡ None
row_by leaf slot true = refl
row_by leaf slot false = refl

no_row : (leaf slot : ℕ) → row_in no_rows leaf slot ≡ None
no_row leaf slot = row_by leaf slot (nat_lt slot 16)

port_by : (leaf slot : ℕ) (b : Bool) → (if b then row_in no_rows leaf slot else None) ≡ None
port_by leaf slot true = no_row leaf slot
port_by leaf slot false = refl

no_out : (leaf port : ℕ) → (if nat_lt port 8 then row_in no_rows leaf port else None) ≡ None
no_out leaf port = port_by leaf port (nat_lt port 8)

no_in : (leaf port : ℕ) → (if nat_lt port 8 then row_in no_rows leaf (8 + port) else None) ≡ None
no_in leaf port = port_by leaf (8 + port) (nat_lt port 8)

no_port : (port n : ℕ) → port < n → n ≡ 0 → ⊥
no_port port n l e = omega (arith, l, e)

leaf_apart : (p q : PagePlan) → p.leaf ≡ 1 → q.leaf ≡ 2 → p.leaf ≡ q.leaf → ⊥
leaf_apart p q a b e = omega (arith, a, b, e)

module _ (first second : Form) where
  abbrev one : PagePlan
  one = record { leaf = 1; image = first }

  abbrev two : PagePlan
  two = record { leaf = 2; image = second }

  same_place : (j k : ℕ) (p q : PagePlan) → p.leaf ≡ q.leaf → ((j ≡ 0) × (p ≡ one)) ⊎ ((j ≡ 1) × (p ≡ two)) → ((k ≡ 0) × (q ≡ one)) ⊎ ((k ≡ 1) × (q ≡ two)) → j ≡ k
  same_place j k p q same (inl x) (inl y) = x.0 ∙ sym y.0
  same_place j k p q same (inr x) (inr y) = x.0 ∙ sym y.0
  same_place j k p q same (inl x) (inr y) = absurd (leaf_apart p q (ap (λ (r : PagePlan). r.leaf) x.1) (ap (λ (r : PagePlan). r.leaf) y.1) same)
  same_place j k p q same (inr x) (inl y) = absurd (leaf_apart q p (ap (λ (r : PagePlan). r.leaf) y.1) (ap (λ (r : PagePlan). r.leaf) x.1) (sym same))

  on_leaf : (p : PagePlan) (n : ℕ) → p.leaf ≡ n → 1 ≤ n → n < 4 → (1 ≤ p.leaf) × (p.leaf < 4)
  on_leaf p n e l m = (omega (arith, e, l), omega (arith, e, m))

  pub small_sound : (pattern : Pattern) (rounds : ℕ) → IsForm first → IsForm second → (ins_of first ≡ 0) × (outs_of first ≡ 0) → (ins_of second ≡ 0) × (outs_of second ≡ 0) → 1 ≤ rounds → rounds ≤ 1000000
      → IsSound (record { depth = 2; pattern = pattern; window = 16; pages = record { leaf = 1; image = first } ∷ record { leaf = 2; image = second } ∷ []; before = []; tables = []; feeds = []; outs = 0; rounds = rounds })
  small_sound pattern rounds a b f g some most =
      record {
        depth = (omega arith, omega arith);
        window = (omega arith, omega arith);
        many = (omega arith, omega arith);
        images = λ k p e. ⊎_elim (λ h. subst (λ (x : PagePlan). IsForm x.image) (sym h.1) a) (λ h. subst (λ (x : PagePlan). IsForm x.image) (sym h.1) b) (page_of one two k p e);
        leaves = λ k p e. ⊎_elim (λ h. on_leaf p 1 (ap (λ (x : PagePlan). x.leaf) h.1) (omega arith) (omega arith)) (λ h. on_leaf p 2 (ap (λ (x : PagePlan). x.leaf) h.1) (omega arith) (omega arith)) (page_of one two k p e);
        apart = λ j k p q d e same. same_place j k p q same (page_of one two j p d) (page_of one two k q e);
        out_in = λ leaf port row e. absurd (none_some row (sym (no_out leaf port) ∙ e));
        in_out = λ leaf port row e. absurd (none_some row (sym (no_in leaf port) ∙ e));
        page_outs = λ k port p e l. absurd (no_port port (outs_of p.image) l (⊎_elim (λ h. ap (λ (x : PagePlan). outs_of x.image) h.1 ∙ f.1) (λ h. ap (λ (x : PagePlan). outs_of x.image) h.1 ∙ g.1) (page_of one two k p e)));
        page_out_rows = λ k port p row e r. absurd (none_some row (sym (no_out p.leaf port) ∙ r));
        page_ins = λ k port p e l. absurd (no_port port (ins_of p.image) l (⊎_elim (λ h. ap (λ (x : PagePlan). ins_of x.image) h.1 ∙ f.0) (λ h. ap (λ (x : PagePlan). ins_of x.image) h.1 ∙ g.0) (page_of one two k p e)));
        page_in_rows = λ k port p row e r. absurd (none_some row (sym (no_in p.leaf port) ∙ r));
        host_sends = λ k l. absurd (omega (arith, l));
        host_out = λ port row e. absurd (none_some row (sym (no_out 0 port) ∙ e));
        host_gets = λ k l. absurd (omega (arith, l));
        host_in = λ port row e. absurd (none_some row (sym (no_in 0 port) ∙ e));
        inside = λ leaf slot row e. absurd (none_some row (sym (no_row (suc leaf) slot) ∙ e));
        before = λ leaf slot l. no_row leaf slot;
        hosts = (omega arith, omega arith);
        short = λ k. omega arith;
        words = λ k. All-nil _;
        rounds = (some, omega (arith, most));
      }
