-- The slots of an in-port by a set of numbers and the words under these, and the set of in-ports with freed room.
use Rattle.std.proofs.Common.{◌≡◌, ℕ, zero, suc, ◌+◌, ◌%◌, ◌<◌, ◌≤◌, ◌≢◌, Bool, true, false, List, [], ◌∷◌, length, replicate, refl, ap, sym, ◌∙◌, arith, Option, Some, None, is_some, subst}
use Rattle.std.specs.Prelude.{slice_index_or, slice_set, if◌then◌else◌, ◌==◌, MatchOption}
use Rattle.std.proofs.lemmas.Nat.Bits.{bit_at-zero}
use Rattle.std.proofs.lemmas.List.{get_or-set_same, get_or-set_other}
use Rattle.leaf_port.specs.Ports.{InState, fresh_in, next_of, taken, filled_at}
use Rattle.leaf_port.specs.Leaf.{is_owed, owed_from}
use Rattle.leaf_port.specs.Masks.{has, IsSetTo, IsLowest, kept, slots_from}
use Rattle.leaf_port.specs.Owed.{AreOwed}

pub has_none : (i : ℕ) → has 0 i ≡ false
has_none i = ap (λ (d : ℕ). d == 1) (bit_at-zero i)

pick_true : {X : Type 0} (b : Bool) (x y : X) → b ≡ true → (if b then x else y) ≡ x
pick_true {X} true x y h = refl
pick_true {X} false x y h = cc

pick_false : {X : Type 0} (b : Bool) (x y : X) → b ≡ false → (if b then x else y) ≡ y
pick_false {X} true x y h = cc
pick_false {X} false x y h = refl

pub length-slots : (filled : ℕ) (words : List ℕ) (n k : ℕ) → length (slots_from filled words n k) ≡ k
length-slots filled words n zero = refl
length-slots filled words n (suc k) = omega (arith, length-slots filled words (n + 1) k)

-- the slot of a number
pub slot_at : (filled : ℕ) (words : List ℕ) (n k i : ℕ) → i < k → slice_index_or (slots_from filled words n k) i None ≡ kept (has filled (n + i)) (slice_index_or words (n + i) 0)
slot_at filled words n zero i l = absurd (omega arith)
slot_at filled words n (suc k) zero l = ap (λ (m : ℕ). kept (has filled m) (slice_index_or words m 0)) (let e : n ≡ n + 0 = omega arith in e)
slot_at filled words n (suc k) (suc i) l = slot_at filled words (n + 1) k i (omega arith) ∙ ap (λ (m : ℕ). kept (has filled m) (slice_index_or words m 0)) (let e : n + 1 + i ≡ n + suc i = omega arith in e)

-- the slot of number m by two sets and lists of words is the same
abbrev pub Same : (f g : ℕ) (ws vs : List ℕ) → ℕ → Type 0
Same f g ws vs m = kept (has f m) (slice_index_or ws m 0) ≡ kept (has g m) (slice_index_or vs m 0)

pub slots_same : (f g : ℕ) (ws vs : List ℕ) (n k : ℕ) → ((m : ℕ) → n ≤ m → m < n + k → Same f g ws vs m) → slots_from f ws n k ≡ slots_from g vs n k
slots_same f g ws vs n zero h = refl
slots_same f g ws vs n (suc k) h =
    ap (λ (o : Option ℕ). o ∷ slots_from f ws (n + 1) k) (h n (omega arith) (omega arith))
    ∙ ap (λ (os : List (Option ℕ)). kept (has g n) (slice_index_or vs n 0) ∷ os) (slots_same f g ws vs (n + 1) k (λ m a b. h m (omega arith) (omega arith)))

-- one slot is set
pub slots_set : (f g : ℕ) (ws vs : List ℕ) (n k i : ℕ) (o : Option ℕ) → i < k → kept (has g (n + i)) (slice_index_or vs (n + i) 0) ≡ o → ((m : ℕ) → n ≤ m → m < n + k → m ≢ n + i → Same f g ws vs m) → slice_set (slots_from f ws n k) i o ≡ slots_from g vs n k
slots_set f g ws vs n zero i o l e h = absurd (omega arith)
slots_set f g ws vs n (suc k) zero o l e h =
    let z : n + 0 ≡ n = omega arith in
    let e' : kept (has g n) (slice_index_or vs n 0) ≡ o = ap (λ (m : ℕ). kept (has g m) (slice_index_or vs m 0)) (sym z) ∙ e in
    ap (λ (x : Option ℕ). x ∷ slots_from f ws (n + 1) k) (sym e')
    ∙ ap (λ (os : List (Option ℕ)). kept (has g n) (slice_index_or vs n 0) ∷ os) (slots_same f g ws vs (n + 1) k (λ m a b. h m (omega arith) (omega arith) (omega arith)))
slots_set f g ws vs n (suc k) (suc i) o l e h =
    let z : n + 1 + i ≡ n + suc i = omega arith in
    let e' : kept (has g (n + 1 + i)) (slice_index_or vs (n + 1 + i) 0) ≡ o = ap (λ (m : ℕ). kept (has g m) (slice_index_or vs m 0)) z ∙ e in
    ap (λ (x : Option ℕ). x ∷ slice_set (slots_from f ws (n + 1) k) i o) (h n (omega arith) (omega arith) (omega arith))
    ∙ ap (λ (os : List (Option ℕ)). kept (has g n) (slice_index_or vs n 0) ∷ os) (slots_set f g ws vs (n + 1) k i o (omega arith) e' (λ m a b ne. h m (omega arith) (omega arith) (omega arith)))

-- a slot is emptied
pub slots_emptied : (f g : ℕ) (ws : List ℕ) (k i : ℕ) → i < k → k ≤ 64 → IsSetTo f i false g → slice_set (slots_from f ws 0 k) i None ≡ slots_from g ws 0 k
slots_emptied f g ws k i l most h = slots_set f g ws ws 0 k i None l
    (ap (λ (m : ℕ). kept (has g m) (slice_index_or ws m 0)) (let z : 0 + i ≡ i = omega arith in z) ∙ ap (λ (b : Bool). kept b (slice_index_or ws i 0)) h.here)
    (λ m a b ne. ap (λ (x : Bool). kept x (slice_index_or ws m 0)) (sym (h.others m (omega arith) (omega arith))))

-- a slot is filled
pub slots_filled : (f g : ℕ) (ws : List ℕ) (k i w : ℕ) → i < k → k ≤ 64 → length ws ≡ 64 → IsSetTo f i true g → slice_set (slots_from f ws 0 k) i (Some w) ≡ slots_from g (slice_set ws i w) 0 k
slots_filled f g ws k i w l most long h =
    let vs : List ℕ = slice_set ws i w in
    let there : slice_index_or vs i 0 ≡ w = get_or-set_same ws i w 0 (omega arith) in
    let z : 0 + i ≡ i = omega arith in
    let here : kept (has g (0 + i)) (slice_index_or vs (0 + i) 0) ≡ Some w =
    ap (λ (m : ℕ). kept (has g m) (slice_index_or vs m 0)) z ∙ (ap (λ (b : Bool). kept b (slice_index_or vs i 0)) h.here ∙ ap (λ (x : ℕ). Some x) there) in
    slots_set f g ws vs 0 k i (Some w) l here (λ m a b ne. (
    let word : slice_index_or ws m 0 ≡ slice_index_or vs m 0 = sym (get_or-set_other ws i m w 0 (omega arith)) in
    ap (λ (x : Bool). kept x (slice_index_or ws m 0)) (sym (h.others m (omega arith) (omega arith))) ∙ ap (kept (has g m)) word))

-- no slot is filled
pub slots_none : (words : List ℕ) (n k : ℕ) → slots_from 0 words n k ≡ replicate k None
slots_none words n zero = refl
slots_none words n (suc k) =
    ap (λ (b : Bool). kept b (slice_index_or words n 0) ∷ slots_from 0 words (n + 1) k) (has_none n) ∙ ap (λ (os : List (Option ℕ)). None ∷ os) (slots_none words (n + 1) k)

-- the lowest in-port with freed room, from a set
pub owed_lowest : (n t : ℕ) (qs : List InState) (d : InState) → is_owed d ≡ false → is_owed (slice_index_or qs t d) ≡ true → ((k : ℕ) → k < t → is_owed (slice_index_or qs k d) ≡ false) → owed_from n qs ≡ Some (n + t)
owed_lowest n zero [] d no_default h before = absurd (let x : false ≡ true = sym no_default ∙ h in cc)
owed_lowest n (suc t) [] d no_default h before = absurd (let x : false ≡ true = sym no_default ∙ h in cc)
owed_lowest n zero (q ∷ qs) d no_default h before = pick_true (is_owed q) (Some n) (owed_from (n + 1) qs) h ∙ ap (λ (m : ℕ). Some m) (let z : n ≡ n + 0 = omega arith in z)
owed_lowest n (suc t) (q ∷ qs) d no_default h before =
    let first : is_owed q ≡ false = before 0 (omega arith) in
    let rest : owed_from (n + 1) qs ≡ Some (n + 1 + t) = owed_lowest (n + 1) t qs d no_default h (λ k l. before (suc k) (omega arith)) in
    let z : n + 1 + t ≡ n + suc t = omega arith in
    pick_false (is_owed q) (Some n) (owed_from (n + 1) qs) first ∙ (rest ∙ ap (λ (m : ℕ). Some m) z)

pub owed_none : (n : ℕ) (qs : List InState) (d : InState) → ((k : ℕ) → k < length qs → is_owed (slice_index_or qs k d) ≡ false) → owed_from n qs ≡ None
owed_none n [] d h = refl
owed_none n (q ∷ qs) d h =
    let first : is_owed q ≡ false = h 0 (omega arith) in
    pick_false (is_owed q) (Some n) (owed_from (n + 1) qs) first ∙ owed_none (n + 1) qs d (λ k l. h (suc k) (omega arith))

pub lowest_is : (qs : List InState) (owed i : ℕ) → AreOwed qs owed → IsLowest owed i → owed_from 0 qs ≡ Some i
lowest_is qs owed i h low = owed_lowest 0 i qs (fresh_in 0) refl (sym (h i low.within) ∙ low.here) (λ k l. sym (h k (let w : i < 64 = low.within in omega arith)) ∙ low.before k l) ∙ ap (λ (m : ℕ). Some m) (let z : 0 + i ≡ i = omega arith in z)

pub none_lowest : (qs : List InState) (owed : ℕ) → length qs ≡ 8 → AreOwed qs owed → owed ≡ 0 → owed_from 0 qs ≡ None
none_lowest qs owed eight h z = owed_none 0 qs (fresh_in 0) (λ k l. sym (h k (omega arith)) ∙ (ap (λ (m : ℕ). has m k) z ∙ has_none k))

in_is : (s t : List (Option ℕ)) (n m r q : ℕ) → s ≡ t → n ≡ m → r ≡ q → (let x : InState = record { slots = s; next = n; freed = r } in let y : InState = record { slots = t; next = m; freed = q } in x ≡ y)
in_is s t n m r q a b c =
    ap (λ (k : List (Option ℕ)). (let x : InState = record { slots = k; next = n; freed = r } in x)) a
    ∙ (ap (λ (k : ℕ). (let x : InState = record { slots = t; next = k; freed = r } in x)) b
    ∙ ap (λ (k : ℕ). (let x : InState = record { slots = t; next = m; freed = k } in x)) c)

-- an in-port as it is kept
abbrev pub in_state : (f : ℕ) (ws : List ℕ) (w n r : ℕ) → InState
in_state f ws w n r = record { slots = slots_from f ws 0 w; next = n; freed = r }

pub slot_is : (f : ℕ) (ws : List ℕ) (w i : ℕ) → i < w → slice_index_or (slots_from f ws 0 w) i None ≡ kept (has f i) (slice_index_or ws i 0)
slot_is f ws w i l = slot_at f ws 0 w i l ∙ ap (λ (m : ℕ). kept (has f m) (slice_index_or ws m 0)) (let z : 0 + i ≡ i = omega arith in z)

-- the next word, where it is there and where it isn't
pub next_there : (f : ℕ) (ws : List ℕ) (w n r : ℕ) → n < w → has f n ≡ true → next_of (in_state f ws w n r) ≡ Some (slice_index_or ws n 0)
next_there f ws w n r l h = slot_is f ws w n l ∙ ap (λ (b : Bool). kept b (slice_index_or ws n 0)) h

pub next_missing : (f : ℕ) (ws : List ℕ) (w n r : ℕ) → n < w → has f n ≡ false → next_of (in_state f ws w n r) ≡ None
next_missing f ws w n r l h = slot_is f ws w n l ∙ ap (λ (b : Bool). kept b (slice_index_or ws n 0)) h

-- a read
pub took_is : (f g : ℕ) (ws : List ℕ) (w n r m : ℕ) → n < w → w ≤ 64 → has f n ≡ true → IsSetTo f n false g → m ≡ (n + 1) % w → in_state g ws w m (r + 1) ≡ (if is_some (next_of (in_state f ws w n r)) then taken (length (in_state f ws w n r).slots) (in_state f ws w n r) else in_state f ws w n r)
took_is f g ws w n r m l most h set e =
    let there : next_of (in_state f ws w n r) ≡ Some (slice_index_or ws n 0) = next_there f ws w n r l h in
    let long : length (slots_from f ws 0 w) ≡ w = length-slots f ws 0 w in
    let same : in_state g ws w m (r + 1) ≡ taken w (in_state f ws w n r) = in_is (slots_from g ws 0 w) (slice_set (slots_from f ws 0 w) n None) m ((n + 1) % w) (r + 1) (r + 1) (sym (slots_emptied f g ws w n l most set)) e refl in
    let old : InState = in_state f ws w n r in
    let some : is_some (next_of old) ≡ true = ap (λ (o : Option ℕ). is_some o) there in
    same ∙ (ap (λ (k : ℕ). taken k old) (sym long) ∙ sym (pick_true (is_some (next_of old)) (taken (length old.slots) old) old some))

pub took_none : (f : ℕ) (ws : List ℕ) (w n r : ℕ) → n < w → has f n ≡ false → in_state f ws w n r ≡ (if is_some (next_of (in_state f ws w n r)) then taken (length (in_state f ws w n r).slots) (in_state f ws w n r) else in_state f ws w n r)
took_none f ws w n r l h =
    let missing : next_of (in_state f ws w n r) ≡ None = next_missing f ws w n r l h in
    let old : InState = in_state f ws w n r in
    let none : is_some (next_of old) ≡ false = ap (λ (o : Option ℕ). is_some o) missing in
    sym (pick_false (is_some (next_of old)) (taken (length old.slots) old) old none)

-- a word comes
pub put_is : (f g : ℕ) (ws : List ℕ) (w n r number word : ℕ) → number < w → w ≤ 64 → length ws ≡ 64 → IsSetTo f number true g → in_state g (slice_set ws number word) w n r ≡ filled_at number word (in_state f ws w n r)
put_is f g ws w n r number word l most long set = in_is (slots_from g (slice_set ws number word) 0 w) (slice_set (slots_from f ws 0 w) number (Some word)) n n r r (sym (slots_filled f g ws w number word l most long set)) refl refl

-- a number of the window
pub put_within : (f : ℕ) (ws : List ℕ) (w n r number : ℕ) (q : InState) → in_state f ws w n r ≡ q → number < length q.slots → number < w
put_within f ws w n r number q e l =
    let h : number < length (slots_from f ws 0 w) = subst (λ (p : InState). number < length p.slots) (sym e) l in
    let long : length (slots_from f ws 0 w) ≡ w = length-slots f ws 0 w in
    omega arith

-- what the lowest number of the set tells
pub lowest_told : (qs : List InState) (owed : ℕ) (o : Option ℕ) → length qs ≡ 8 → AreOwed qs owed → MatchOption o (owed ≡ 0) (λ i. IsLowest owed i) → o ≡ owed_from 0 qs
lowest_told qs owed None eight h m = sym (none_lowest qs owed eight h m)
lowest_told qs owed (Some i) eight h m = sym (lowest_is qs owed i h m)

-- an in-port as a run begins
pub fresh_is : (f : ℕ) (ws : List ℕ) (w : ℕ) → f ≡ 0 → in_state f ws w 0 0 ≡ fresh_in w
fresh_is f ws w e = in_is (slots_from f ws 0 w) (replicate w None) 0 0 0 0 (ap (λ (b : ℕ). slots_from b ws 0 w) e ∙ slots_none ws 0 w) refl refl
