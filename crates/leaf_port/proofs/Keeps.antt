-- Each change of a leaf keeps what every leaf keeps.
use Rattle.std.proofs.Common.{◌≡◌, ℕ, ◌+◌, ◌-◌, ◌*◌, ◌%◌, ◌<◌, ◌≤◌, ◌≢◌, ◌&&◌, Bool, true, false, cond, List, [], ◌∷◌, ◌++◌, length, drop, refl, ap, sym, ◌∙◌, arith, Option, Some, zero, suc, inl, inr, length-set, subst, is_none}
use Rattle.std.specs.Prelude.{slice_index_or, slice_set, slice_get, if◌then◌else◌, ◌==◌, ◌⊎◌, IsSome, nat_lt}
use Rattle.std.proofs.lemmas.Bool.Decides.{nat_tests}
use Rattle.std.proofs.lemmas.List.Sums.{sum_by-cons, sum_by_push}
use Rattle.std.proofs.lemmas.Nat.{mod_below}
use Rattle.circular_buffer.specs.Buffer.{keep_last}
use Rattle.std.proofs.lemmas.List.{get_or-set_same, get_or-set_other}
use Rattle.net_switch.specs.declared.packet.Row.{Row}
use Rattle.leaf_port.specs.declared.ports.OutPort.{OutPort}
use Rattle.leaf_port.specs.Ports.{InState}
use Rattle.leaf_port.specs.declared.ports.Waiting.{Waiting}
use Rattle.leaf_port.specs.Leaf.{LeafState, IsLeaf, IsOut, IsWaiting, out_port, in_port, row_of, with_row, boxed, wrote, is_idle, is_owed, owed_from}

each_at : {X : Type 0} (P : ℕ → X → Type 0) (xs : List X) (k n i : ℕ) (x d : X) (b : Bool) → (i == k) ≡ b → k < length xs → P k x → (i ≢ k → P i (slice_index_or xs i d)) → P i (slice_index_or (slice_set xs k x) i d)
each_at {X} P xs k n i x d true e l p h =
    let same : k ≡ i = grind (arith, nat_tests) in
    let here : slice_index_or (slice_set xs k x) k d ≡ x = get_or-set_same xs k x d l in
    subst (λ (j : ℕ). P j (slice_index_or (slice_set xs k x) j d)) same (subst (P k) (sym here) p)
each_at {X} P xs k n i x d false e l p h =
    let ne : i ≢ k = grind (arith, nat_tests) in
    subst (P i) (sym (get_or-set_other xs k i x d ne)) (h ne)

-- a list with one entry set: each entry has P
pub each_set : {X : Type 0} (P : ℕ → X → Type 0) (xs : List X) (k n : ℕ) (x d : X) → k < length xs → P k x → ((i : ℕ) → i < n → i ≢ k → P i (slice_index_or xs i d)) → (i : ℕ) → i < n → P i (slice_index_or (slice_set xs k x) i d)
each_set {X} P xs k n x d l p h i m = each_at {X = X} P xs k n i x d (i == k) refl l p (h i m)

pub boxed_push : (i : ℕ) (box : List Waiting) (w : Waiting) → boxed i (box ++ w ∷ []) ≡ boxed i box + cond (w.port == i) 1 0
boxed_push i box w = sum_by_push (λ (x : Waiting). cond (x.port == i) 1 0) box w

pub boxed-cons : (i : ℕ) (w : Waiting) (box : List Waiting) → boxed i (w ∷ box) ≡ cond (w.port == i) 1 0 + boxed i box
boxed-cons i w box = sum_by-cons (λ (x : Waiting). cond (x.port == i) 1 0) w box

one_port : (p : ℕ) → p < 8 → cond (p == 0) 1 0 + cond (p == 1) 1 0 + cond (p == 2) 1 0 + cond (p == 3) 1 0 + cond (p == 4) 1 0 + cond (p == 5) 1 0 + cond (p == 6) 1 0 + cond (p == 7) 1 0 ≡ 1
one_port zero l = refl
one_port (suc zero) l = refl
one_port (suc (suc zero)) l = refl
one_port (suc (suc (suc zero))) l = refl
one_port (suc (suc (suc (suc zero)))) l = refl
one_port (suc (suc (suc (suc (suc zero))))) l = refl
one_port (suc (suc (suc (suc (suc (suc zero)))))) l = refl
one_port (suc (suc (suc (suc (suc (suc (suc zero))))))) l = refl
one_port (suc (suc (suc (suc (suc (suc (suc (suc p)))))))) l = absurd (omega arith)

abbrev all_boxed : List Waiting → ℕ
all_boxed box = boxed 0 box + boxed 1 box + boxed 2 box + boxed 3 box + boxed 4 box + boxed 5 box + boxed 6 box + boxed 7 box

-- each word that waits was written to one of eight ports
length_boxed : (window : ℕ) (rows : List (Option Row)) (box : List Waiting) → ((i : ℕ) (w : Waiting) → slice_get box i ≡ Some w → IsWaiting window rows w) → length box ≡ all_boxed box
length_boxed window rows [] h = refl
length_boxed window rows (w ∷ ws) h =
    let p : w.port < 8 = (h 0 w refl).port in
    omega (arith, one_port w.port p, boxed-cons 0 w ws, boxed-cons 1 w ws, boxed-cons 2 w ws, boxed-cons 3 w ws, boxed-cons 4 w ws, boxed-cons 5 w ws, boxed-cons 6 w ws, boxed-cons 7 w ws, length_boxed window rows ws (λ i. h (suc i)))

short_at : (w k : ℕ) (f : ℕ → ℕ) → k < 8 → f k < w → ((i : ℕ) → i < 8 → f i ≤ w) → f 0 + f 1 + f 2 + f 3 + f 4 + f 5 + f 6 + f 7 < 8 * w
short_at w zero f l h m = omega (arith, m 1 (omega arith), m 2 (omega arith), m 3 (omega arith), m 4 (omega arith), m 5 (omega arith), m 6 (omega arith), m 7 (omega arith))
short_at w (suc zero) f l h m = omega (arith, m 0 (omega arith), m 2 (omega arith), m 3 (omega arith), m 4 (omega arith), m 5 (omega arith), m 6 (omega arith), m 7 (omega arith))
short_at w (suc (suc zero)) f l h m = omega (arith, m 0 (omega arith), m 1 (omega arith), m 3 (omega arith), m 4 (omega arith), m 5 (omega arith), m 6 (omega arith), m 7 (omega arith))
short_at w (suc (suc (suc zero))) f l h m = omega (arith, m 0 (omega arith), m 1 (omega arith), m 2 (omega arith), m 4 (omega arith), m 5 (omega arith), m 6 (omega arith), m 7 (omega arith))
short_at w (suc (suc (suc (suc zero)))) f l h m = omega (arith, m 0 (omega arith), m 1 (omega arith), m 2 (omega arith), m 3 (omega arith), m 5 (omega arith), m 6 (omega arith), m 7 (omega arith))
short_at w (suc (suc (suc (suc (suc zero))))) f l h m = omega (arith, m 0 (omega arith), m 1 (omega arith), m 2 (omega arith), m 3 (omega arith), m 4 (omega arith), m 6 (omega arith), m 7 (omega arith))
short_at w (suc (suc (suc (suc (suc (suc zero)))))) f l h m = omega (arith, m 0 (omega arith), m 1 (omega arith), m 2 (omega arith), m 3 (omega arith), m 4 (omega arith), m 5 (omega arith), m 7 (omega arith))
short_at w (suc (suc (suc (suc (suc (suc (suc zero))))))) f l h m = omega (arith, m 0 (omega arith), m 1 (omega arith), m 2 (omega arith), m 3 (omega arith), m 4 (omega arith), m 5 (omega arith), m 6 (omega arith))
short_at w (suc (suc (suc (suc (suc (suc (suc (suc k)))))))) f l h m = absurd (omega arith)

-- where a port has a credit, the outbox has room
pub box_has_room : (s : LeafState) (k : ℕ) → IsLeaf s → k < 8 → 0 < (out_port s k).credits → length s.box < 8 * s.window
box_has_room s k h l c =
    let e : length s.box ≡ all_boxed s.box = length_boxed s.window s.rows s.box h.waiting in
    let r : (out_port s k).credits + boxed k s.box ≤ s.window = (h.each_out k l).room in
    let each : (i : ℕ) → i < 8 → boxed i s.box ≤ s.window = λ i m. (let q : (out_port s i).credits + boxed i s.box ≤ s.window = (h.each_out i m).room in omega arith) in
    let t : all_boxed s.box < 8 * s.window = short_at s.window k (λ i. boxed i s.box) l (omega arith) each in
    omega arith

get_push : {X : Type 0} (xs : List X) (y x : X) (i : ℕ) → slice_get (xs ++ y ∷ []) i ≡ Some x → (slice_get xs i ≡ Some x) ⊎ (y ≡ x)
get_push {X} [] y x zero h = inr (cc)
get_push {X} [] y x (suc i) h = cc
get_push {X} (z ∷ xs) y x zero h = inl h
get_push {X} (z ∷ xs) y x (suc i) h = get_push {X = X} xs y x i h

pub wrote_keeps : (s : LeafState) (k w : ℕ) → IsLeaf s → k < 8 → IsSome (row_of s k) → 0 < (out_port s k).credits → IsLeaf (wrote s k w)
wrote_keeps s k w h l row c =
    let x : Waiting = record { port = k; number = (out_port s k).next; word = w } in
    let o : OutPort = record { credits = (out_port s k).credits - 1; next = ((out_port s k).next + 1) % s.window } in
    let eight : length s.outs ≡ 8 = h.outs in
    let old : IsOut s.window s.box k (out_port s k) = h.each_out k l in
    let b : boxed k (s.box ++ x ∷ []) ≡ boxed k s.box + 1 = (let z : (k == k) ≡ true = grind (arith, nat_tests) in rw z at (boxed_push k s.box x)) in
    let room : (out_port s k).credits + boxed k s.box ≤ s.window = old.room in
    record {
      some = h.some;
      most = h.most;
      rows = h.rows;
      outs = length-set s.outs k o ∙ eight;
      ins = h.ins;
      each_out = each_set (IsOut s.window (s.box ++ x ∷ [])) s.outs k 8 o (record { credits = 0; next = 0 }) (omega arith)
          (record { next = mod_below ((out_port s k).next + 1) s.window h.some; room = omega arith })
          (λ i m ne. (let p : IsOut s.window s.box i (out_port s i) = h.each_out i m in let b : boxed i (s.box ++ x ∷ []) ≡ boxed i s.box + cond (k == i) 1 0 = boxed_push i s.box x in let z : (k == i) ≡ false = grind (arith, nat_tests) in let b' : boxed i (s.box ++ x ∷ []) ≡ boxed i s.box + 0 = rw z at b in let r : (out_port s i).credits + boxed i s.box ≤ s.window = p.room in record { next = p.next; room = omega arith }));
      each_in = h.each_in;
      waiting = λ i v e. elim (get_push s.box x v i e) [ inl g ↦ h.waiting i v g | inr same ↦ subst (IsWaiting s.window s.rows) same (record { port = l; number = old.next; row = row }) ];
      owed = h.owed;
    }

-- nothing is owed where no in-port has freed room
and_left : (a b : Bool) → (a && b) ≡ true → a ≡ true
and_left true b h = refl
and_left false b h = cc

and_right : (a b : Bool) → (a && b) ≡ true → b ≡ true
and_right true b h = h
and_right false b h = cc

nothing_got : (box : List Waiting) (i : ℕ) (w : Waiting) → length box ≡ 0 → slice_get box i ≡ Some w → ⊥
nothing_got [] i w z h = cc
nothing_got (x ∷ xs) i w z h = omega arith

freed_zero : (n : ℕ) → nat_lt 0 n ≡ false → n ≡ 0
freed_zero n h = grind (arith, nat_tests)

none_at : (n : ℕ) (q : InState) (qs : List InState) (b : Bool) → is_owed q ≡ b → is_none (if b then Some n else (owed_from (n + 1) qs)) ≡ true → (is_none (owed_from (n + 1) qs) ≡ true → (j : ℕ) (d : InState) → j < length qs → (slice_index_or qs j d).freed ≡ 0) → (j : ℕ) (d : InState) → j < length (q ∷ qs) → (slice_index_or (q ∷ qs) j d).freed ≡ 0
none_at n q qs true e h ih j d l = cc
none_at n q qs false e h ih zero d l = freed_zero q.freed e
none_at n q qs false e h ih (suc j) d l = ih h j d (omega arith)

none_from : (n : ℕ) (qs : List InState) → is_none (owed_from n qs) ≡ true → (j : ℕ) (d : InState) → j < length qs → (slice_index_or qs j d).freed ≡ 0
none_from n [] h j d l = absurd (omega arith)
none_from n (q ∷ qs) h j d l = none_at n q qs (is_owed q) refl h (none_from (n + 1) qs) j d l

pub with_row_keeps : (s : LeafState) (slot : ℕ) (row : Option Row) → IsLeaf s → is_idle s ≡ true → IsLeaf (with_row s slot row)
with_row_keeps s slot row h idle =
    let ab : (is_none s.back && is_none (owed_from 0 s.ins)) ≡ true = and_left (is_none s.back && is_none (owed_from 0 s.ins)) (length s.box == 0) idle in
    let empty : (length s.box == 0) ≡ true = and_right (is_none s.back && is_none (owed_from 0 s.ins)) (length s.box == 0) idle in
    let none : is_none (owed_from 0 s.ins) ≡ true = and_right (is_none s.back) (is_none (owed_from 0 s.ins)) ab in
    let eight : length s.ins ≡ 8 = h.ins in
    let z : length s.box ≡ 0 = grind (arith, nat_tests) in
    record {
      some = h.some;
      most = h.most;
      rows = length-set s.rows slot row ∙ h.rows;
      outs = h.outs;
      ins = h.ins;
      each_out = h.each_out;
      each_in = h.each_in;
      waiting = λ i w e. absurd (nothing_got s.box i w z e);
      owed = λ j l o. (let f : (in_port s j).freed ≡ 0 = none_from 0 s.ins none j _ (omega arith) in absurd (omega arith));
    }

-- a leaf without the head of its outbox
pub tail_keeps : (s : LeafState) (w : Waiting) (ws : List Waiting) → IsLeaf s → s.box ≡ w ∷ ws → IsLeaf (record s { box = ws })
tail_keeps s w ws h e = record {
  some = h.some;
  most = h.most;
  rows = h.rows;
  outs = h.outs;
  ins = h.ins;
  each_out = λ k l. (
      let old : IsOut s.window s.box k (out_port s k) = h.each_out k l in
      let r : (out_port s k).credits + boxed k s.box ≤ s.window = old.room in
      let b : boxed k s.box ≡ boxed k (w ∷ ws) = ap (boxed k) e in
      record { next = old.next; room = omega (arith, boxed-cons k w ws) });
  each_in = h.each_in;
  waiting = λ i v g. h.waiting (suc i) v (ap (λ (box : List Waiting). slice_get box (suc i)) e ∙ g);
  owed = h.owed;
}

dropped_at : (s : LeafState) (box : List Waiting) → IsLeaf s → s.box ≡ box → IsLeaf (record s { box = drop 1 box })
dropped_at s [] h e = subst (λ (box : List Waiting). IsLeaf (record s { box = box })) e h
dropped_at s (w ∷ ws) h e = tail_keeps s w ws h e

pub dropped_keeps : (s : LeafState) → IsLeaf s → IsLeaf (record s { box = drop 1 s.box })
dropped_keeps s h = dropped_at s s.box h refl

-- a ring that isn't full overwrites nothing
pub keep_all : {X : Type 0} (n : ℕ) (xs : List X) → length xs ≤ n → keep_last n xs ≡ xs
keep_all {X} n xs l = let z : length xs - n ≡ 0 = omega arith in ap (λ (k : ℕ). drop k xs) z

-- an entry that is there, whatever stands for one that isn't
pub any_default : {X : Type 0} (xs : List X) (i : ℕ) (d e : X) → i < length xs → slice_index_or xs i d ≡ slice_index_or xs i e
any_default {X} [] i d e l = absurd (omega arith)
any_default {X} (x ∷ xs) zero d e l = refl
any_default {X} (x ∷ xs) (suc i) d e l = any_default {X = X} xs i d e (omega arith)
