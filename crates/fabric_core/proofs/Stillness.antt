-- When a run is still, and how it is over.
use Rattle.std.proofs.Common.{◌≡◌, ℕ, zero, suc, ◌+◌, ◌<◌, ◌≤◌, Bool, true, false, not, List, [], ◌∷◌, length, refl, ap, sym, ◌∙◌, arith, Option, Some, None, inl, inr}
use Rattle.std.specs.Prelude.{◌&&◌, ◌||◌, if◌then◌else◌, nat_lt, is_some, is_none, slice_get, slice_index_or}
use Rattle.std.proofs.lemmas.Bool.Decides.{nat_tests}
use Rattle.net_tree.specs.Links.{Links}
use Rattle.leaf_port.specs.Leaf.{LeafState, can_write, is_idle}
use Rattle.fabric_run.specs.declared.row.Outcome.{Outcome}
use Rattle.fabric_run.specs.declared.row.Outcome.TheVariants.{Done, Stalled, Spent}
use Rattle.fabric_run.specs.World.{Setup, State, all_to, next_feed}
use Rattle.fabric_run.specs.Replay.{is_none_left, can_send, can_receive, is_page_still, is_still, none_out, all_ended, outcome}
use Rattle.fabric_keeps.proofs.Base.{last_or}
use Rattle.leaf_net.specs.Net.{net_size, leaf_at}
use Rattle.leaf_net.specs.Shown.{is_quiet_in}
use Rattle.fabric_pages.specs.declared.slot.PageSlot.{PageSlot}
use Rattle.fabric_core.specs.declared.board.Board.{Board}
use Rattle.fabric_core.specs.Boards.{Shows, rest_of}

-- Tests of all numbers.

and_no : (a b : Bool) → b ≡ false → a && b ≡ false
and_no true b e = e
and_no false b e = refl

no_and : (a b : Bool) → a ≡ false → a && b ≡ false
no_and true b e = absurd (let x : true ≡ false = e in cc)
no_and false b e = refl

pub not_all : (n k : ℕ) (t : ℕ → Bool) → k < n → t k ≡ false → all_to n t ≡ false
not_all zero k t l e = absurd (omega arith)
not_all (suc n) k t l e =
    elim (last_or n k l) [
      | inl s ↦ and_no (all_to n t) (t n) (ap t (sym s) ∙ e)
      | inr m ↦ no_and (all_to n t) (t n) (not_all n k t m e)
    ]

pub all_more : (n : ℕ) (t : ℕ → Bool) → all_to n t ≡ true → t n ≡ true → all_to (n + 1) t ≡ true
all_more n t a b = ap (λ (m : ℕ). all_to m t) (let e : n + 1 ≡ suc n = omega arith in e) ∙ ap (λ (x : Bool). x && t n) a ∙ b

-- An input.

module _ (setup : Setup Links) (st : State Links) (b : Board) (s : Shows setup st b) where
  feed_is : (k : ℕ) → k < setup.inputs → next_feed setup st k ≡ slice_get (setup.feed k) (slice_index_or b.sent.items k 0)
  feed_is k l = ap (slice_get (setup.feed k)) (sym (s.host.sends k l))

  pub no_word_left : (k : ℕ) → k < setup.inputs → is_none (slice_get (setup.feed k) (slice_index_or b.sent.items k 0)) ≡ true → true ≡ not (can_send setup st k)
  no_word_left k l e = by (next_feed setup st k) (ap is_none (feed_is k l) ∙ e)
    where
      by : (o : Option ℕ) → is_none o ≡ true → true ≡ not (is_some o && can_write (st.leaves 0) k)
      by None e = refl
      by (Some w) e = absurd (let x : false ≡ true = e in cc)

  pub credit_decides : (k : ℕ) → k < setup.inputs → 0 < net_size b.net → is_none (slice_get (setup.feed k) (slice_index_or b.sent.items k 0)) ≡ false → not (can_write (leaf_at b.net 0) k) ≡ not (can_send setup st k)
  credit_decides k l some e = by (next_feed setup st k) (ap is_none (feed_is k l) ∙ e)
    where
      by : (o : Option ℕ) → is_none o ≡ false → not (can_write (leaf_at b.net 0) k) ≡ not (is_some o && can_write (st.leaves 0) k)
      by None e = absurd (let x : true ≡ false = e in cc)
      by (Some w) e = ap (λ (x : LeafState). not (can_write x k)) (s.net.leaves 0 some)

-- Still.

module _ (setup : Setup Links) (st : State Links) where
  abbrev idle : Bool
  idle = all_to setup.size (λ i. is_idle (st.leaves i))

  abbrev inputs_stay : Bool
  inputs_stay = all_to setup.inputs (λ k. not (can_send setup st k))

  abbrev outputs_stay : Bool
  outputs_stay = all_to setup.outputs (λ j. not (can_receive st j))

  abbrev pages_stay : Bool
  pages_stay = all_to setup.size (λ i. is_page_still (st.leaves i) (st.pages i))

  grouped : (a b c d : Bool) → a && (b && (c && d)) ≡ (a && (b && c)) && d
  grouped true true c d = refl
  grouped true false c d = refl
  grouped false b c d = refl

  pub still_is : is_still setup st ≡ is_quiet_in setup st && (inputs_stay && (outputs_stay && pages_stay))
  still_is = grouped (is_none_left st.entries) (is_none_left (setup.net.under st.carrier)) idle (inputs_stay && (outputs_stay && pages_stay))

  pub not_quiet : is_quiet_in setup st ≡ false → is_still setup st ≡ false
  not_quiet e = still_is ∙ no_and (is_quiet_in setup st) _ e

  pub input_moves : inputs_stay ≡ false → is_still setup st ≡ false
  input_moves e = still_is ∙ and_no (is_quiet_in setup st) _ (no_and inputs_stay _ e)

  pub output_moves : outputs_stay ≡ false → is_still setup st ≡ false
  output_moves e = still_is ∙ and_no (is_quiet_in setup st) _ (and_no inputs_stay _ (no_and outputs_stay _ e))

  pub page_moves : (i : ℕ) → i < setup.size → is_page_still (st.leaves i) (st.pages i) ≡ false → is_still setup st ≡ false
  page_moves i l e = still_is ∙ and_no (is_quiet_in setup st) _ (and_no inputs_stay _ (and_no outputs_stay _ (not_all setup.size i (λ i. is_page_still (st.leaves i) (st.pages i)) l e)))

  pub pages_decide : is_quiet_in setup st ≡ true → inputs_stay ≡ true → outputs_stay ≡ true → pages_stay ≡ is_still setup st
  pages_decide a b c = sym (still_is ∙ ap (λ (x : Bool). x && (inputs_stay && (outputs_stay && pages_stay))) a ∙ ap (λ (x : Bool). x && (outputs_stay && pages_stay)) b ∙ ap (λ (x : Bool). x && pages_stay) c)

  -- Over.

  pub none_while_out : none_out setup st ≡ false → outcome setup st ≡ None
  none_while_out e = ap (λ (b : Bool). if b && (is_still setup st || not (nat_lt st.rounds setup.allowed)) then (if is_still setup st then (if all_ended setup st then Some Done else Some Stalled) else Some Spent) else None) e

  pub early_is : none_out setup st ≡ true → nat_lt st.rounds setup.allowed ≡ true → outcome setup st ≡ rest_of setup st
  early_is home left =
      ap (λ (b : Bool). if b && (is_still setup st || not (nat_lt st.rounds setup.allowed)) then (if is_still setup st then (if all_ended setup st then Some Done else Some Stalled) else Some Spent) else None) home
      ∙ ap (λ (b : Bool). if is_still setup st || not b then (if is_still setup st then (if all_ended setup st then Some Done else Some Stalled) else Some Spent) else None) left
      ∙ by (is_still setup st)
    where
      by : (b : Bool) → (if b || false then (if b then (if all_ended setup st then Some Done else Some Stalled) else Some Spent) else None) ≡ (if b then (if all_ended setup st then Some Done else Some Stalled) else None)
      by true = refl
      by false = refl

  abbrev late : Option Outcome → Option Outcome
  late None = Some Spent
  late (Some o) = Some o

  late_by : none_out setup st ≡ true → nat_lt st.rounds setup.allowed ≡ false → outcome setup st ≡ late (rest_of setup st)
  late_by home left =
      ap (λ (b : Bool). if b && (is_still setup st || not (nat_lt st.rounds setup.allowed)) then (if is_still setup st then (if all_ended setup st then Some Done else Some Stalled) else Some Spent) else None) home
      ∙ ap (λ (b : Bool). if is_still setup st || not b then (if is_still setup st then (if all_ended setup st then Some Done else Some Stalled) else Some Spent) else None) left
      ∙ by (is_still setup st) (all_ended setup st)
    where
      by : (b a : Bool) → (if b || true then (if b then (if a then Some Done else Some Stalled) else Some Spent) else None) ≡ late (if b then (if a then Some Done else Some Stalled) else None)
      by true true = refl
      by true false = refl
      by false a = refl

  pub late_rests : (o : Outcome) → none_out setup st ≡ true → nat_lt st.rounds setup.allowed ≡ false → Some o ≡ rest_of setup st → outcome setup st ≡ Some o
  late_rests o home left e = late_by home left ∙ ap late (sym e)

  pub late_spent : none_out setup st ≡ true → nat_lt st.rounds setup.allowed ≡ false → None ≡ rest_of setup st → outcome setup st ≡ Some Spent
  late_spent home left e = late_by home left ∙ ap late (sym e)

  pub none_early : none_out setup st ≡ true → nat_lt st.rounds setup.allowed ≡ true → is_still setup st ≡ false → outcome setup st ≡ None
  none_early home left e = early_is home left ∙ ap (λ (b : Bool). if b then (if all_ended setup st then Some Done else Some Stalled) else None) e

pub there_slot : (slots : List PageSlot) (k : ℕ) → k < length slots → (slot : PageSlot) × (slice_get slots k ≡ Some slot)
there_slot [] k l = absurd (omega arith)
there_slot (x ∷ xs) zero l = (x, refl)
there_slot (x ∷ xs) (suc k) l = there_slot xs k (omega arith)

pub not_false : (b : Bool) → not b ≡ true → b ≡ false
not_false true e = absurd (let x : false ≡ true = e in cc)
not_false false e = refl

-- rounds are left, or all were made
pub left_by : (a b x y : ℕ) → a ≡ x → b ≡ y → a < b → nat_lt x y ≡ true
left_by a b x y e f l = (let m : x < y = omega arith in grind (arith, nat_tests))

pub spent_by : (a b x y : ℕ) → a ≡ x → b ≡ y → b ≤ a → nat_lt x y ≡ false
spent_by a b x y e f l = (let m : y ≤ x = omega arith in grind (arith, nat_tests))
