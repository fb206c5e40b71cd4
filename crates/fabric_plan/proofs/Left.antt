-- The rows that a run leaves, slot by slot.
use Rattle.std.proofs.Common.{◌≡◌, ℕ, zero, suc, ◌+◌, ◌*◌, ◌/◌, ◌%◌, ◌<◌, ◌≤◌, ◌^◌, Bool, true, false, inl, inr, List, [], length, refl, sym, ap, subst, ◌∙◌, arith, Option, None, if◌then◌else◌}
use Rattle.std.specs.Prelude.{nat_lt, slice_index_or}
use Rattle.std.proofs.lemmas.Bool.{cases_lt}
use Rattle.std.proofs.lemmas.Bool.Decides.{nat_tests}
use Rattle.std.proofs.lemmas.Nat.{pow_pos}
use Rattle.std.proofs.lemmas.List.{get_or_past}
use Rattle.net_switch.specs.declared.packet.Row.{Row}
use Rattle.leaf_port.specs.Leaf.{row_of}
use Rattle.pld_link.specs.Rows.{each_below}
use Rattle.pld_link.proofs.Filling.{each_filled, each_below_at, each_below_length}
use Rattle.fabric_run.specs.declared.entry.Entry.{Entry}
use Rattle.fabric_run.specs.Plan.{PlanValue, IsSound, row_in, size_of}
use Rattle.fabric_run.specs.World.{Setup, State, is_configured}
use Rattle.fabric_run.specs.Replay.{replay, IsLegal}
use Rattle.fabric_run.specs.Trees.{tree_setup}
use Rattle.fabric_keeps.proofs.Configured.{running_of}
use Rattle.fabric_tree.proofs.Closing.{sound, whole}
use Rattle.net_tree.proofs.Places.{pow_small}
use Rattle.fabric_plan.proofs.Found.{none_of}
use Rattle.fabric_plan.specs.Standing.{standing_row, standing_rows, AreStanding}
use Rattle.fabric_plan.proofs.Tables.{chosen}

-- ---- rows that are put down one after the other

-- the first n of 1,024 rows are those that a function gives
pub record AreDown (f : ℕ → Option Row) (n : ℕ) (rows : List (Option Row)) : Type 0 where
  pub all : length rows ≡ 1024
  pub at : (k : ℕ) → k < n → slice_index_or rows k None ≡ f k

pub all_down : (f : ℕ → Option Row) (n : ℕ) (rows : List (Option Row)) → 1024 ≤ n → AreDown f n rows → rows ≡ each_below 1024 f
all_down f n rows many down = each_filled f 1024 rows down.all (λ k few. down.at k (omega (arith, few, many)))

-- ---- a slot's row in a list of all rows

module _ (f : ℕ → ℕ → Option Row) where
  abbrev all_rows : List (Option Row)
  all_rows = each_below 1024 (λ n. f (n / 16) (n % 16))

  at_slot : (leaf slot : ℕ) → leaf < 64 → slot < 16 → slice_index_or all_rows (16 * leaf + slot) None ≡ f leaf slot
  at_slot leaf slot few side =
      let leaf_is : (16 * leaf + slot) / 16 ≡ leaf = omega (arith, side) in
      let slot_is : (16 * leaf + slot) % 16 ≡ slot = omega (arith, side) in
      each_below_at (λ n. f (n / 16) (n % 16)) 1024 (16 * leaf + slot) (omega (arith, few, side))
      ∙ ap (λ l. f l ((16 * leaf + slot) % 16)) leaf_is
      ∙ ap (f leaf) slot_is

  past_slots : (leaf slot : ℕ) → 64 ≤ leaf → slice_index_or all_rows (16 * leaf + slot) None ≡ None
  past_slots leaf slot far = get_or_past all_rows (16 * leaf + slot) None (omega (arith, far, each_below_length (λ n. f (n / 16) (n % 16)) 1024))

  -- where a function gives no rows from some leaf on, the list has just its rows
  row_by : (leaf slot : ℕ) (b : Bool) → nat_lt slot 16 ≡ b → (64 ≤ leaf → f leaf slot ≡ None) → (if b then slice_index_or all_rows (16 * leaf + slot) None else None) ≡ (if b then f leaf slot else None)
  row_by leaf slot true e none = elim (cases_lt leaf 64) [
    | inl few ↦ at_slot leaf slot few (grind (arith, nat_tests, e))
    | inr far ↦ past_slots leaf slot far ∙ sym (none far)
  ]
  row_by leaf slot false e none = refl

  pub row_is : (leaf slot : ℕ) → (64 ≤ leaf → f leaf slot ≡ None) → row_in all_rows leaf slot ≡ (if nat_lt slot 16 then f leaf slot else None)
  row_is leaf slot none = row_by leaf slot (nat_lt slot 16) refl none

-- ---- rows that are left

either_none : (b : Bool) → ◌≡◌ {A = Option Row} (if b then None else None) None
either_none true = refl
either_none false = refl

module _ {S : Type 0} (setup : Setup S) (st : State S) where
  pub there : (leaf slot : ℕ) → leaf < setup.size → standing_row setup st leaf slot ≡ row_of (st.leaves leaf) slot
  there leaf slot few = chosen (nat_lt leaf setup.size) true _ None (grind (arith, nat_tests, few))

  pub beyond : (leaf slot : ℕ) → setup.size ≤ leaf → standing_row setup st leaf slot ≡ None
  beyond leaf slot far = chosen (nat_lt leaf setup.size) false (row_of (st.leaves leaf) slot) None (grind (arith, nat_tests, far))

  pub left_row : setup.size ≤ 64 → (leaf slot : ℕ) → row_in (standing_rows setup st) leaf slot ≡ (if nat_lt slot 16 then standing_row setup st leaf slot else None)
  left_row few leaf slot = row_is (standing_row setup st) leaf slot (λ far. beyond leaf slot (omega (arith, few, far)))

  left_beyond : (leaf slot : ℕ) → setup.size ≤ leaf → row_in (standing_rows setup st) leaf slot ≡ None
  left_beyond leaf slot far =
      let none = beyond leaf slot far in
      row_is (standing_row setup st) leaf slot (λ past. none) ∙ ap (λ o. if nat_lt slot 16 then o else None) none ∙ either_none (nat_lt slot 16)

  pub left_stand : (depth : ℕ) → setup.size ≡ 2 ^ depth → AreStanding depth (standing_rows setup st)
  left_stand depth size = record {
    within = λ leaf slot far. left_beyond leaf slot (subst (λ n. n ≤ leaf) (sym size) far);
  }

-- ---- no rows

pub no_rows_stand : (depth : ℕ) → AreStanding depth []
no_rows_stand depth = record { within = λ leaf slot far. either_none (nat_lt slot 16) }

-- ---- rows once configuration is over

twice : (b : Bool) (o : Option Row) → (if b then (if b then o else None) else None) ≡ (if b then o else None)
twice true o = refl
twice false o = refl

module _ (plan : PlanValue) (sound_plan : IsSound plan) where
  -- a leaf that the tree doesn't have is to have no rows
  table_beyond : (leaf slot : ℕ) → size_of plan ≤ leaf → row_in plan.tables leaf slot ≡ None
  table_beyond zero slot far =
      let some : 0 < 2 ^ plan.depth = pow_pos plan.depth in
      absurd (omega (arith, far, some))
  table_beyond (suc leaf) slot far = none_of _ (λ r e.
      let p = sound_plan.inside leaf slot r e in
      let few = (sound_plan.leaves p.0 p.1 p.2).1 in
      let same = p.3 in
      omega (arith, far, few, same))

  module _ (journal : List Entry) (legal : IsLegal (tree_setup plan) journal) (over : is_configured (tree_setup plan) (replay (tree_setup plan) journal) ≡ true) where
    pub held : (leaf slot : ℕ) → leaf < size_of plan → row_of ((replay (tree_setup plan) journal).leaves leaf) slot ≡ row_in plan.tables leaf slot
    held leaf slot few =
        ((running_of (tree_setup plan) (replay (tree_setup plan) journal) (sound plan sound_plan) (whole plan sound_plan journal legal).world over).leaf leaf few).rows slot

    left_held : (leaf slot : ℕ) → leaf < size_of plan → row_in (standing_rows (tree_setup plan) (replay (tree_setup plan) journal)) leaf slot ≡ row_in plan.tables leaf slot
    left_held leaf slot few =
        left_row (tree_setup plan) (replay (tree_setup plan) journal) (pow_small plan.depth sound_plan.depth.1) leaf slot
        ∙ ap (λ o. if nat_lt slot 16 then o else None) (there (tree_setup plan) (replay (tree_setup plan) journal) leaf slot few ∙ held leaf slot few)
        ∙ twice (nat_lt slot 16) (slice_index_or plan.tables (16 * leaf + slot) None)

    pub left : (leaf slot : ℕ) → row_in (standing_rows (tree_setup plan) (replay (tree_setup plan) journal)) leaf slot ≡ row_in plan.tables leaf slot
    left leaf slot = elim (cases_lt leaf (size_of plan)) [
      | inl few ↦ left_held leaf slot few
      | inr far ↦ left_beyond (tree_setup plan) (replay (tree_setup plan) journal) leaf slot far ∙ sym (table_beyond leaf slot far)
    ]
