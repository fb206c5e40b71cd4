-- A leaf to whose in-port 0 the words with numbers 1 to n - 1 have come, and not the word with number 0.
use Rattle.std.proofs.Common.{◌≡◌, ℕ, ◌+◌, ◌<◌, ◌≤◌, ◌≢◌, true, cond, List, length, refl, ap, ◌∙◌, arith, Option, Some, None, zero, suc, is_some, length-set, replicate}
use Rattle.std.specs.Prelude.{slice_index_or, slice_set, if◌then◌else◌, ◌==◌, IsSome}
use Rattle.std.proofs.lemmas.Bool.Decides.{nat_tests}
use Rattle.std.proofs.lemmas.List.Sums.{sum_by-set}
use Rattle.std.proofs.lemmas.List.{get_or-set_same, get_or-set_other}
use Rattle.net_switch.specs.declared.packet.Row.{Row}
use Rattle.net_switch.specs.declared.packet.Packet.{Packet}
use Rattle.net_switch.specs.declared.packet.Body.TheVariants.{Data}
use Rattle.leaf_port.specs.Ports.{InState, filled_at}
use Rattle.leaf_port.specs.Leaf.{LeafState, in_port, row_of, filled, next_word, took, fresh, with_row, delivered, accepted, CanArrive}

pub record IsFilling (s : LeafState) (n : ℕ) : Type 0 where
  pub own : s.own ≡ 1
  pub window : s.window ≡ 16
  pub back : s.back ≡ None
  pub ins : length s.ins ≡ 8
  pub row : IsSome (row_of s 8)
  pub next : (in_port s 0).next ≡ 0
  pub freed : (in_port s 0).freed ≡ 0
  pub slots : length (in_port s 0).slots ≡ 16
  pub first : slice_index_or (in_port s 0).slots 0 None ≡ None
  pub empty : (m : ℕ) → n ≤ m → slice_index_or (in_port s 0).slots m None ≡ None
  pub count : filled (in_port s 0) + 1 ≡ n

none_in : (n m : ℕ) → slice_index_or (replicate n None) m None ≡ (let o : Option ℕ = None in o)
none_in zero m = refl
none_in (suc n) zero = refl
none_in (suc n) (suc m) = none_in n m

pub filling_first : (row : Row) → IsFilling (with_row (fresh 1 16) 8 (Some row)) 1
filling_first row = record {
  own = refl;
  window = refl;
  back = refl;
  ins = refl;
  row = refl;
  next = refl;
  freed = refl;
  slots = refl;
  first = refl;
  empty = λ m l. none_in 16 m;
  count = refl;
}

-- the word with number 0 isn't there
pub not_yet : (s : LeafState) (n : ℕ) → IsFilling s n → next_word s 0 ≡ None
not_yet s n h = ap (λ (k : ℕ). slice_index_or (in_port s 0).slots k None) h.next ∙ h.first

-- a word may come whose slot is empty
pub may_fill : (s : LeafState) (n number w : ℕ) → IsFilling s n → n ≤ 16 → number < 16 → slice_index_or (in_port s 0).slots number None ≡ None → CanArrive s (Data (record { 0 = 0 }) number w)
may_fill s n number w h l m e = (omega arith, omega (arith, h.window), e, omega (arith, h.count, h.freed, h.window))

at_first : (xs : List InState) (q d : InState) → 0 < length xs → slice_index_or (slice_set xs 0 q) 0 d ≡ q
at_first xs q d l = get_or-set_same xs 0 q d l

filled_next : (s : LeafState) (n w : ℕ) → IsFilling s n → 1 ≤ n → n < 16 → IsFilling (delivered s (Data (record { 0 = 0 }) n w)) (n + 1)
filled_next s n w h l m =
    let q : InState = filled_at n w (in_port s 0) in
    let s' : LeafState = delivered s (Data (record { 0 = 0 }) n w) in
    let some : 0 < length s.ins = omega (arith, h.ins) in
    let same : in_port s' 0 ≡ q = at_first s.ins q _ some in
    let long : n < length (in_port s 0).slots = omega (arith, h.slots) in
    let weight : filled q + cond (is_some (slice_index_or (in_port s 0).slots n None)) 1 0 ≡ filled (in_port s 0) + 1 = sum_by-set (λ (o : Option ℕ). cond (is_some o) 1 0) (in_port s 0).slots n (Some w) None long in
    let was : slice_index_or (in_port s 0).slots n None ≡ None = h.empty n (omega arith) in
    let weight' : filled q + 0 ≡ filled (in_port s 0) + 1 = rw was at weight in
    let other : (k : ℕ) → k ≢ n → slice_index_or (in_port s 0).slots k None ≡ None → slice_index_or q.slots k None ≡ None = λ k ne e. get_or-set_other (in_port s 0).slots n k (Some w) None ne ∙ e in
    record {
      own = h.own;
      window = h.window;
      back = h.back;
      ins = length-set s.ins 0 q ∙ h.ins;
      row = h.row;
      next = ap (λ (p : InState). p.next) same ∙ h.next;
      freed = ap (λ (p : InState). p.freed) same ∙ h.freed;
      slots = ap (λ (p : InState). length p.slots) same ∙ (length-set (in_port s 0).slots n (Some w) ∙ h.slots);
      first = ap (λ (p : InState). slice_index_or p.slots 0 None) same ∙ other 0 (omega arith) h.first;
      empty = λ k b. ap (λ (p : InState). slice_index_or p.slots k None) same ∙ other k (omega arith) (h.empty k (omega arith));
      count = (let c : filled (in_port s' 0) ≡ filled q = ap filled same in omega (arith, h.count));
    }

-- the next word comes
pub filling_next : (s : LeafState) (n w : ℕ) (p : Packet) → IsFilling s n → 1 ≤ n → n < 16 → p.to.0 ≡ 1 → p.body ≡ Data (record { 0 = 0 }) n w → IsFilling (accepted s p) (n + 1)
filling_next s n w p h l m to body =
    let here : (p.to.0 == s.own) ≡ true = grind (arith, nat_tests, h.own) in
    rw (here, body) (filled_next s n w h l m)

-- a read of a word that isn't there changes nothing
pub unread : (s r : LeafState) (n : ℕ) → IsFilling s n → r ≡ (if is_some (next_word s 0) then took s 0 else s) → IsFilling r n
unread s r n h e =
    let none : next_word s 0 ≡ None = not_yet s n h in
    let same : r ≡ s = rw none at e in
    rw same h
