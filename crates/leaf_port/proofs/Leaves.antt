-- Each move of a leaf, as a definition, keeps what every leaf keeps.
use Rattle.std.proofs.Common.{◌≡◌, ℕ, zero, suc, ◌+◌, ◌<◌, ◌≤◌, Bool, true, false, cond, List, [], ◌∷◌, length, replicate, refl, ap, sym, ◌∙◌, arith, Option, Some, None, subst, is_some, length-set}
use Rattle.std.specs.Prelude.{slice_index_or, slice_set, if◌then◌else◌, ◌==◌, IsSome, nat_lt}
use Rattle.std.specs.List.{count_by}
use Rattle.std.proofs.lemmas.Bool.Decides.{nat_tests}
use Rattle.std.proofs.lemmas.List.Sums.{sum_by-cons, sum_by-set}
use Rattle.std.proofs.lemmas.Nat.{mod_below}
use Rattle.net_switch.specs.declared.packet.Row.{Row}
use Rattle.net_switch.specs.declared.packet.Packet.{Packet}
use Rattle.net_switch.specs.declared.packet.Body.{Body}
use Rattle.net_switch.specs.declared.packet.Body.TheVariants.{Data, Credit, Config}
use Rattle.leaf_port.specs.declared.ports.OutPort.{OutPort}
use Rattle.leaf_port.specs.declared.ports.Waiting.{Waiting}
use Rattle.leaf_port.specs.declared.tables.ConfigEntry.{ConfigEntry}
use Rattle.leaf_port.specs.Ports.{InState, fresh_in, taken, filled_at, credited}
use Rattle.leaf_port.specs.Leaf.{LeafState, IsLeaf, IsOut, IsIn, fresh, fresh_out, out_port, in_port, row_of, with_row, filled, wrote, took, can_write, next_word, is_idle, owed_from, delivered, accepted, offered, offer_first, offer_new, offer_own, offer_word, offer_credit, CanArrive}
use Rattle.leaf_port.proofs.Keeps.{each_set, wrote_keeps, with_row_keeps, tail_keeps}

-- a leaf with one in-port changed
ins_keeps : (s : LeafState) (j : ℕ) (q : InState) → IsLeaf s → j < 8 → IsIn s.window q → (0 < q.freed → IsSome (row_of s (8 + j))) → IsLeaf (record s { ins = slice_set s.ins j q })
ins_keeps s j q h l inn owed =
    let eight : length s.ins ≡ 8 = h.ins in
    record {
      some = h.some;
      most = h.most;
      rows = h.rows;
      outs = h.outs;
      ins = length-set s.ins j q ∙ eight;
      each_out = h.each_out;
      each_in = each_set (λ (i : ℕ) (p : InState). IsIn s.window p) s.ins j 8 q (fresh_in s.window) (omega arith) inn (λ i m ne. h.each_in i m);
      waiting = h.waiting;
      owed = each_set (λ (i : ℕ) (p : InState). 0 < p.freed → IsSome (row_of s (8 + i))) s.ins j 8 q (fresh_in s.window) (omega arith) owed (λ i m ne. h.owed i m);
    }

-- a leaf with one out-port changed
outs_keeps : (s : LeafState) (k : ℕ) (o : OutPort) → IsLeaf s → k < 8 → IsOut s.window s.box k o → IsLeaf (record s { outs = slice_set s.outs k o })
outs_keeps s k o h l out =
    let eight : length s.outs ≡ 8 = h.outs in
    record {
      some = h.some;
      most = h.most;
      rows = h.rows;
      outs = length-set s.outs k o ∙ eight;
      ins = h.ins;
      each_out = each_set (λ (i : ℕ) (p : OutPort). IsOut s.window s.box i p) s.outs k 8 o (record { credits = 0; next = 0 }) (omega arith) out (λ i m ne. h.each_out i m);
      each_in = h.each_in;
      waiting = h.waiting;
      owed = h.owed;
    }

back_keeps : (s : LeafState) (back : Option Packet) → IsLeaf s → IsLeaf (record s { back = back })
back_keeps s back h = record { some = h.some; most = h.most; rows = h.rows; outs = h.outs; ins = h.ins; each_out = h.each_out; each_in = h.each_in; waiting = h.waiting; owed = h.owed }

-- how many slots are filled, after one is set
filled_set : (slots : List (Option ℕ)) (i : ℕ) (o : Option ℕ) → i < length slots → count_by is_some (slice_set slots i o) + cond (is_some (slice_index_or slots i None)) 1 0 ≡ count_by is_some slots + cond (is_some o) 1 0
filled_set slots i o l = sum_by-set (λ (x : Option ℕ). cond (is_some x) 1 0) slots i o None l

pub took_keeps : (s : LeafState) (j w : ℕ) → j < 8 → IsSome (row_of s (8 + j)) → next_word s j ≡ Some w → IsLeaf s → IsLeaf (took s j)
took_keeps s j w l row word h =
    let q : InState = in_port s j in
    let old : IsIn s.window q = h.each_in j l in
    let within : q.next < length q.slots = omega (arith, old.slots, old.next) in
    let z : filled (taken s.window q) + cond (is_some (slice_index_or q.slots q.next None)) 1 0 ≡ filled q + 0 = filled_set q.slots q.next None within in
    let z' : filled (taken s.window q) + 1 ≡ filled q + 0 = rw word at z in
    ins_keeps s j (taken s.window q) h l (record { slots = length-set q.slots q.next None ∙ old.slots; next = mod_below (q.next + 1) s.window h.some; room = omega (arith, z', old.room) }) (λ f. row)

delivered_keeps : (s : LeafState) (body : Body) → CanArrive s body → IsLeaf s → IsLeaf (delivered s body)
delivered_keeps s (Data j number word) can h =
    let q : InState = in_port s j.0 in
    let old : IsIn s.window q = h.each_in j.0 can.0 in
    let within : number < length q.slots = omega (arith, old.slots, can.1) in
    let z : filled (filled_at number word q) + cond (is_some (slice_index_or q.slots number None)) 1 0 ≡ filled q + 1 = filled_set q.slots number (Some word) within in
    let z' : filled (filled_at number word q) + 0 ≡ filled q + 1 = rw can.2 at z in
    ins_keeps s j.0 (filled_at number word q) h can.0 (record { slots = length-set q.slots number (Some word) ∙ old.slots; next = old.next; room = omega (arith, z', can.3) }) (h.owed j.0 can.0)
delivered_keeps s (Credit k count) can h =
    let old : IsOut s.window s.box k.0 (out_port s k.0) = h.each_out k.0 can.0 in
    outs_keeps s k.0 (record (out_port s k.0) { credits = (out_port s k.0).credits + count }) h can.0 (record { next = old.next; room = omega (arith, can.1) })
delivered_keeps s (Config slot row) can h = with_row_keeps s slot row h can.1

accepted_at : (s : LeafState) (p : Packet) (b : Bool) → (p.to.0 == s.own) ≡ b → (p.to.0 ≡ s.own → CanArrive s p.body) → IsLeaf s → IsLeaf (if b then delivered s p.body else record s { back = Some p })
accepted_at s p true e can h = let here : p.to.0 ≡ s.own = grind (arith, nat_tests) in delivered_keeps s p.body (can here) h
accepted_at s p false e can h = back_keeps s (Some p) h

pub accepted_keeps : (s : LeafState) (p : Packet) → (p.to.0 ≡ s.own → CanArrive s p.body) → IsLeaf s → IsLeaf (accepted s p)
accepted_keeps s p can h = accepted_at s p (p.to.0 == s.own) refl can h

word_keeps : (s : LeafState) (round : ℕ) (box : List Waiting) → s.box ≡ box → IsLeaf s → IsLeaf (offer_word s round box).0
word_keeps s round [] e h = h
word_keeps s round (w ∷ ws) e h = tail_keeps s w ws h e

credit_keeps : (s : LeafState) (round j : ℕ) → j < 8 → IsLeaf s → IsLeaf (offer_credit s round j).0
credit_keeps s round j l h =
    let old : IsIn s.window (in_port s j) = h.each_in j l in
    ins_keeps s j (credited (in_port s j)) h l (record { slots = old.slots; next = old.next; room = omega (arith, old.room) }) (λ f. absurd (omega (arith, f)))

within_at : (n : ℕ) (q : InState) (qs : List InState) (j : ℕ) (b : Bool) → (owed_from (n + 1) qs ≡ Some j → j < n + 1 + length qs) → (if b then Some n else owed_from (n + 1) qs) ≡ Some j → j < n + length (q ∷ qs)
within_at n q qs j true ih h = let e : n ≡ j = cc in omega arith
within_at n q qs j false ih h = let l : j < n + 1 + length qs = ih h in omega arith

-- the lowest in-port with freed room is one of them
pub owed_within : (n : ℕ) (qs : List InState) (j : ℕ) → owed_from n qs ≡ Some j → j < n + length qs
owed_within n [] j h = cc
owed_within n (q ∷ qs) j h = within_at n q qs j (nat_lt 0 q.freed) (owed_within (n + 1) qs j) h

own_keeps : (s : LeafState) (round : ℕ) (o : Option ℕ) → owed_from 0 s.ins ≡ o → IsLeaf s → IsLeaf (offer_own s round o).0
own_keeps s round None e h = word_keeps s round s.box refl h
own_keeps s round (Some j) e h = credit_keeps s round j (omega (arith, owed_within 0 s.ins j e, h.ins)) h

new_keeps : (s : LeafState) (round : ℕ) (config : Option ConfigEntry) → IsLeaf s → IsLeaf (offer_new s round config).0
new_keeps s round None h = own_keeps s round (owed_from 0 s.ins) refl h
new_keeps s round (Some e) h = h

first_keeps : (s : LeafState) (round : ℕ) (config : Option ConfigEntry) (back : Option Packet) → IsLeaf s → IsLeaf (offer_first s round config back).0
first_keeps s round config None h = new_keeps s round config h
first_keeps s round config (Some p) h = back_keeps s None h

pub offered_keeps : (s : LeafState) (round : ℕ) (config : Option ConfigEntry) → IsLeaf s → IsLeaf (offered s round config).0
offered_keeps s round config h = first_keeps s round config s.back h

pub written_keeps : (s : LeafState) (k w : ℕ) → k < 8 → IsSome (row_of s k) → can_write s k ≡ true → IsLeaf s → IsLeaf (wrote s k w)
written_keeps s k w l row can h = let credit : 0 < (out_port s k).credits = grind (arith, nat_tests) in wrote_keeps s k w h l row credit

pub row_keeps : (s : LeafState) (slot : ℕ) (row : Option Row) → is_idle s ≡ true → IsLeaf s → IsLeaf (with_row s slot row)
row_keeps s slot row idle h = with_row_keeps s slot row h idle

nth : {X : Type 0} (n i : ℕ) (x d : X) → i < n → slice_index_or (replicate n x) i d ≡ x
nth {X} zero i x d l = absurd (omega arith)
nth {X} (suc n) zero x d l = refl
nth {X} (suc n) (suc i) x d l = nth {X = X} n i x d (omega arith)

empty_slots : (n : ℕ) → count_by is_some (replicate n (let o : Option ℕ = None in o)) ≡ 0
empty_slots zero = refl
empty_slots (suc n) = sum_by-cons (λ (x : Option ℕ). cond (is_some x) 1 0) None (replicate n None) ∙ omega (arith, empty_slots n)

long : (n : ℕ) → length (replicate n (let o : Option ℕ = None in o)) ≡ n
long zero = refl
long (suc n) = omega (arith, long n)

-- a leaf as a run begins
pub fresh_keeps : (own window : ℕ) → 0 < window → window ≤ 64 → IsLeaf (fresh own window)
fresh_keeps own window some most =
    let outs : (k : ℕ) → k < 8 → out_port (fresh own window) k ≡ fresh_out window = λ k l. nth 8 k (fresh_out window) (record { credits = 0; next = 0 }) l in
    let ins : (j : ℕ) → j < 8 → in_port (fresh own window) j ≡ fresh_in window = λ j l. nth 8 j (fresh_in window) (fresh_in window) l in
    record {
      some = some;
      most = most;
      rows = refl;
      outs = refl;
      ins = refl;
      each_out = λ k l. subst (λ (o : OutPort). IsOut window [] k o) (sym (outs k l)) (record { next = some; room = omega arith });
      each_in = λ j l. subst (λ (q : InState). IsIn window q) (sym (ins j l)) (record { slots = long window; next = some; room = omega (arith, empty_slots window) });
      waiting = λ i w e. cc;
      owed = λ j l f. (let z : (in_port (fresh own window) j).freed ≡ 0 = ap (λ (q : InState). q.freed) (ins j l) in absurd (omega (arith, z, f)));
    }
