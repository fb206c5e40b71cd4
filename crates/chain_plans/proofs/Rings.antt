-- The rows of a chain, by leaf and slot.
use Rattle.std.proofs.Common.{◌≡◌, ℕ, zero, suc, ◌+◌, ◌-◌, ◌*◌, ◌/◌, ◌%◌, ◌<◌, ◌≤◌, ◌⊎◌, inl, inr, Bool, true, false, refl, ap, sym, ◌∙◌, subst, arith, Some, None}
use Rattle.std.specs.Prelude.{if◌then◌else◌, nat_lt, ◌==◌, slice_index_or}
use Rattle.std.proofs.lemmas.Bool.{cases_lt}
use Rattle.std.proofs.lemmas.Bool.Decides.{nat_tests}
use Rattle.std.proofs.lemmas.List.{get_or_past}
use Rattle.net_switch.specs.declared.packet.Row.{Row}
use Rattle.fabric_run.specs.Plan.{row_in, row_to}
use Rattle.leaf_net.proofs.Lists.{length-below, at_below}
use Rattle.chain_plans.specs.Chains.{behind, before, slot_row, chain_row, chain_rows}

none_some : {X : Type 0} (x : X) → None ≡ Some x → ⊥
none_some x e = cc

some_same : {X : Type 0} (x y : X) → Some x ≡ Some y → x ≡ y
some_same x y e = cc

-- a slot by its place in the list
leaf_is : (leaf slot : ℕ) → slot < 16 → (16 * leaf + slot) / 16 ≡ leaf
leaf_is leaf slot l = omega (arith, l)

slot_is : (leaf slot : ℕ) → slot < 16 → (16 * leaf + slot) % 16 ≡ slot
slot_is leaf slot l = omega (arith, l)

-- past the ring there are no rows
row_past : (n leaf slot : ℕ) → n < leaf → chain_row n leaf slot ≡ None
row_past n leaf slot l = (let e : nat_lt n leaf ≡ true = grind (arith, nat_tests, l) in ap (λ (b : Bool). if b then None else slot_row n leaf slot) e)

row_within : (n leaf slot : ℕ) → leaf ≤ n → chain_row n leaf slot ≡ slot_row n leaf slot
row_within n leaf slot l = (let e : nat_lt n leaf ≡ false = grind (arith, nat_tests, l) in ap (λ (b : Bool). if b then None else slot_row n leaf slot) e)

row_by : (n leaf slot : ℕ) → n < 64 → slot < 16 → slice_index_or (chain_rows n) (16 * leaf + slot) None ≡ chain_row n leaf slot
row_by n leaf slot few l = elim (cases_lt leaf 64) [
  | inl near ↦ (
      let here : slice_index_or (chain_rows n) (16 * leaf + slot) None ≡ chain_row n ((16 * leaf + slot) / 16) ((16 * leaf + slot) % 16) = at_below 1024 (λ i. chain_row n (i / 16) (i % 16)) (16 * leaf + slot) None (omega (arith, near, l)) in
      here ∙ (ap (λ (k : ℕ). chain_row n k ((16 * leaf + slot) % 16)) (leaf_is leaf slot l) ∙ ap (chain_row n leaf) (slot_is leaf slot l)))
  | inr far ↦ (
      let past : slice_index_or (chain_rows n) (16 * leaf + slot) None ≡ None = get_or_past (chain_rows n) (16 * leaf + slot) None (omega (arith, far, length-below 1024 (λ i. chain_row n (i / 16) (i % 16)))) in
      past ∙ sym (row_past n leaf slot (omega (arith, few, far))))
]

pub row_is : (n leaf slot : ℕ) → n < 64 → slot < 16 → row_in (chain_rows n) leaf slot ≡ chain_row n leaf slot
row_is n leaf slot few l = (let e : nat_lt slot 16 ≡ true = grind (arith, nat_tests, l) in ap (λ (b : Bool). if b then slice_index_or (chain_rows n) (16 * leaf + slot) None else None) e ∙ row_by n leaf slot few l)

-- where a row stands, and which
slot_some : (n leaf slot : ℕ) (row : Row) (a b : Bool) → (slot == 0) ≡ a → (slot == 8) ≡ b → (if a then Some (row_to (behind n leaf) 0) else (if b then Some (row_to (before n leaf) 0) else None)) ≡ Some row
    → ((slot ≡ 0) × (row ≡ row_to (behind n leaf) 0)) ⊎ ((slot ≡ 8) × (row ≡ row_to (before n leaf) 0))
slot_some n leaf slot row true b e f h = inl (grind (arith, nat_tests, e), sym (some_same (row_to (behind n leaf) 0) row h))
slot_some n leaf slot row false true e f h = inr (grind (arith, nat_tests, f), sym (some_same (row_to (before n leaf) 0) row h))
slot_some n leaf slot row false false e f h = absurd (none_some row h)

pub row_some : (n leaf slot : ℕ) (row : Row) → chain_row n leaf slot ≡ Some row → (leaf ≤ n) × (((slot ≡ 0) × (row ≡ row_to (behind n leaf) 0)) ⊎ ((slot ≡ 8) × (row ≡ row_to (before n leaf) 0)))
row_some n leaf slot row h = elim (cases_lt n leaf) [
  | inl far ↦ absurd (none_some row (sym (row_past n leaf slot far) ∙ h))
  | inr near ↦ (near, slot_some n leaf slot row (slot == 0) (slot == 8) refl refl (sym (row_within n leaf slot near) ∙ h))
]

-- the leaves of the ring
before_at : (n leaf : ℕ) → before n (suc leaf) ≡ leaf
before_at n leaf = (let e : (suc leaf == 0) ≡ false = grind (arith, nat_tests) in ap (λ (b : Bool). if b then n else suc leaf - 1) e ∙ omega arith)

behind_at : (n leaf : ℕ) → leaf < n → behind n leaf ≡ suc leaf
behind_at n leaf l = (let e : (leaf == n) ≡ false = grind (arith, nat_tests, l) in ap (λ (b : Bool). if b then 0 else leaf + 1) e ∙ omega arith)

behind_last : (n : ℕ) → behind n n ≡ 0
behind_last n = (let e : (n == n) ≡ true = grind (arith, nat_tests) in ap (λ (b : Bool). if b then 0 else n + 1) e)

pub behind_before : (n leaf : ℕ) → leaf ≤ n → before n (behind n leaf) ≡ leaf
behind_before n leaf l = elim (cases_lt leaf n) [
  | inl near ↦ ap (before n) (behind_at n leaf near) ∙ before_at n leaf
  | inr far ↦ (
      let same : leaf ≡ n = omega (arith, l, far) in
      ap (λ (k : ℕ). before n (behind n k)) same ∙ (ap (before n) (behind_last n) ∙ sym same))
]

pub before_behind : (n leaf : ℕ) → leaf ≤ n → behind n (before n leaf) ≡ leaf
before_behind n zero l = behind_last n
before_behind n (suc leaf) l = ap (behind n) (before_at n leaf) ∙ behind_at n leaf (omega (arith, l))

pub behind_within : (n leaf : ℕ) → leaf ≤ n → behind n leaf ≤ n
behind_within n leaf l = elim (cases_lt leaf n) [
  | inl near ↦ omega (arith, behind_at n leaf near, near)
  | inr far ↦ (
      let same : leaf ≡ n = omega (arith, l, far) in
      subst (λ (k : ℕ). behind n k ≤ n) (sym same) (omega (arith, behind_last n)))
]

pub before_within : (n leaf : ℕ) → leaf ≤ n → before n leaf ≤ n
before_within n zero l = omega arith
before_within n (suc leaf) l = omega (arith, l, before_at n leaf)
