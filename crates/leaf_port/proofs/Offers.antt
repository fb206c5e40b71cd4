-- A leaf offers nothing just where it is idle.
use Rattle.std.proofs.Common.{◌≡◌, ℕ, ◌+◌, ◌<◌, ◌≤◌, ◌&&◌, Bool, true, false, List, [], ◌∷◌, length, refl, ap, sym, ◌∙◌, arith, Option, Some, None, zero, suc, is_none}
use Rattle.std.specs.Prelude.{slice_index_or, slice_get, if◌then◌else◌, ◌==◌, IsSome}
use Rattle.std.proofs.lemmas.Bool.Decides.{nat_tests}
use Rattle.pld_base.specs.declared.event.PortNo.{PortNo}
use Rattle.net_switch.specs.declared.packet.Row.{Row}
use Rattle.net_switch.specs.declared.packet.Body.{Body}
use Rattle.leaf_port.specs.declared.ports.Waiting.{Waiting}
use Rattle.leaf_port.specs.declared.tables.ConfigEntry.{ConfigEntry}
use Rattle.leaf_port.specs.Ports.{InState, fresh_in}
use Rattle.leaf_port.specs.Leaf.{LeafState, IsLeaf, in_port, row_of, is_owed, owed_from, is_idle, offer_word, offer_credit, to_other_end}

past_at : (n : ℕ) (q : InState) (qs : List InState) (j : ℕ) (b : Bool) → (owed_from (n + 1) qs ≡ Some j → n + 1 ≤ j) → (if b then Some n else owed_from (n + 1) qs) ≡ Some j → n ≤ j
past_at n q qs j true ih h = let e : n ≡ j = cc in omega arith
past_at n q qs j false ih h = let e : n + 1 ≤ j = ih h in omega arith

past : (n : ℕ) (qs : List InState) (j : ℕ) → owed_from n qs ≡ Some j → n ≤ j
past n [] j h = cc
past n (q ∷ qs) j h = past_at n q qs j (is_owed q) (past (n + 1) qs j) h

owed_at : (n : ℕ) (q : InState) (qs : List InState) (j i : ℕ) (d : InState) (b : Bool) → is_owed q ≡ b → ((i : ℕ) → owed_from (n + 1) qs ≡ Some j → j ≡ n + 1 + i → 0 < (slice_index_or qs i d).freed) → (if b then Some n else owed_from (n + 1) qs) ≡ Some j → j ≡ n + i → 0 < (slice_index_or (q ∷ qs) i d).freed
owed_at n q qs j zero d true e ih h at = grind (arith, nat_tests)
owed_at n q qs j (suc i) d true e ih h at = let same : n ≡ j = cc in absurd (omega arith)
owed_at n q qs j zero d false e ih h at = let l : n + 1 ≤ j = past (n + 1) qs j h in absurd (omega arith)
owed_at n q qs j (suc i) d false e ih h at = ih i h (omega arith)

-- the in-port that is found has freed room
pub owed_is : (n : ℕ) (qs : List InState) (j i : ℕ) (d : InState) → owed_from n qs ≡ Some j → j ≡ n + i → 0 < (slice_index_or qs i d).freed
owed_is n [] j i d h at = cc
owed_is n (q ∷ qs) j i d h at = owed_at n q qs j i d (is_owed q) refl (λ i. owed_is (n + 1) qs j i d) h at

goes_out : (s : LeafState) (round : ℕ) (body : PortNo → Body) (row : Option Row) → IsSome row → is_none (to_other_end s round body row) ≡ false
goes_out s round body None h = cc
goes_out s round body (Some row) h = refl

no_and : (m a c : Bool) → (m && ((a && false) && c)) ≡ false
no_and true true c = refl
no_and true false c = refl
no_and false a c = refl

pub credit_goes_out : (s : LeafState) (round j : ℕ) (config : Option ConfigEntry) → IsLeaf s → j < 8 → owed_from 0 s.ins ≡ Some j → is_none (offer_credit s round j).1 ≡ (is_none config && is_idle s)
credit_goes_out s round j config h l e =
    let freed : 0 < (in_port s j).freed = owed_is 0 s.ins j j (fresh_in s.window) e (omega arith) in
    let idle : (is_none config && is_idle s) ≡ false = rw e (no_and (is_none config) (is_none s.back) (length s.box == 0)) in
    goes_out s round _ (row_of s (8 + j)) (h.owed j l freed) ∙ sym idle

word_at : (s : LeafState) (round : ℕ) (box : List Waiting) → IsLeaf s → s.box ≡ box → is_none (offer_word s round box).1 ≡ (length box == 0)
word_at s round [] h e = refl
word_at s round (w ∷ ws) h e =
    let row : IsSome (row_of s w.port) = (h.waiting 0 w (ap (λ (b : List Waiting). slice_get b 0) e)).row in
    let more : (length (w ∷ ws) == 0) ≡ false = grind (arith, nat_tests) in
    goes_out s round _ (row_of s w.port) row ∙ sym more

pub word_goes_out : (s : LeafState) (round : ℕ) → IsLeaf s → s.back ≡ None → owed_from 0 s.ins ≡ None → is_none (offer_word s round s.box).1 ≡ is_idle s
word_goes_out s round h b e = word_at s round s.box h refl ∙ rw (b, e) refl
