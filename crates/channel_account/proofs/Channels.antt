-- Each move of one channel keeps its account, and what may arrive is allowed.
use Rattle.std.proofs.Common.{◌≡◌, ℕ, ◌+◌, ◌-◌, ◌%◌, ◌<◌, ◌≤◌, ◌&&◌, Bool, true, false, cond, List, [], ◌∷◌, ◌++◌, length, refl, ap, sym, ◌∙◌, arith, Option, Some, None, length-set, length-append, append_assoc, sum}
use Rattle.std.specs.Prelude.{slice_index_or, slice_set, ◌==◌, nat_le}
use Rattle.std.specs.List.{sum_by}
use Rattle.std.proofs.lemmas.Bool.Decides.{nat_tests}
use Rattle.channel_account.specs.Account.{Numbered, SameItems, numbered, in_slots, Channel, IsAccount}
use Rattle.channel_account.proofs.Counts.{one, count-cons, count-append, count_push, count_all, mod_next, has_number, number_once, apart_from, past_window, number_below, numbered_push, length-numbered, slots_fill, slots_empty}

-- a write
abbrev pub wrote : ℕ → ℕ → Channel → Channel
wrote window w c = record c {
  credits = c.credits - 1;
  out_next = (c.out_next + 1) % window;
  box = c.box ++ (c.out_next, w) ∷ [];
  written = c.written ++ w ∷ [];
}

-- a read of this word
abbrev pub took : ℕ → ℕ → Channel → Channel
took window w c = record c {
  slots = slice_set c.slots c.in_next None;
  in_next = (c.in_next + 1) % window;
  freed = c.freed + 1;
  read = c.read ++ w ∷ [];
}

-- a word arrives, which leaves these others under way
abbrev pub arrived : Numbered → List Numbered → Channel → Channel
arrived x others c = record c { wire = others; slots = slice_set c.slots x.0 (Some x.1) }

-- words are moved between the outbox and the links
abbrev pub moved : List Numbered → List Numbered → Channel → Channel
moved box wire c = record c { box = box; wire = wire }

-- the freed room is sent back as a credit
abbrev pub returned : List ℕ → Channel → Channel
returned counts c = record c { freed = 0; returning = counts }

-- a credit arrives, which leaves these others under way
abbrev pub credited : ℕ → List ℕ → Channel → Channel
credited count others c = record c { credits = c.credits + count; returning = others }

-- the items at the two ends and between them, counted
pub held_counts : (f : Numbered → ℕ) (box wire : List Numbered) (os : List (Option ℕ)) → sum_by f (box ++ wire ++ in_slots 0 os) ≡ sum_by f box + sum_by f wire + sum_by f (in_slots 0 os)
held_counts f box wire os = omega (arith, count-append f (box ++ wire) (in_slots 0 os), count-append f box wire)

once_counts : (window : ℕ) (c : Channel) (a : IsAccount window c) (f : Numbered → ℕ) → sum_by f c.box + sum_by f c.wire + sum_by f (in_slots 0 c.slots) ≡ sum_by f (numbered window (length c.read) a.unread)
once_counts window c a f = sym (held_counts f c.box c.wire c.slots) ∙ a.once f

written_length : (window : ℕ) (c : Channel) (a : IsAccount window c) → length c.written ≡ length c.read + length a.unread
written_length window c a = ap (λ (xs : List ℕ). length xs) a.written ∙ length-append c.read a.unread

pub wrote_keeps : (window w : ℕ) (c : Channel) → 0 < c.credits → IsAccount window c → IsAccount window (wrote window w c)
wrote_keeps window w c credit a =
    let total : c.credits + sum c.returning + c.freed + length a.unread ≡ window = a.total in
    record {
      unread = a.unread ++ w ∷ [];
      written = ap (λ (xs : List ℕ). xs ++ w ∷ []) a.written ∙ append_assoc c.read a.unread (w ∷ []);
      once = λ f. (
          let n : c.out_next ≡ (length c.read + length a.unread) % window = a.out_next ∙ ap (λ (k : ℕ). k % window) (written_length window c a) in
          let p : numbered window (length c.read) (a.unread ++ w ∷ []) ≡ numbered window (length c.read) a.unread ++ (c.out_next, w) ∷ [] = numbered_push window (length c.read) a.unread w ∙ ap (λ (k : ℕ). numbered window (length c.read) a.unread ++ (k, w) ∷ []) (sym n) in
          let e : sum_by f (numbered window (length c.read) (a.unread ++ w ∷ [])) ≡ sum_by f (numbered window (length c.read) a.unread) + one f (c.out_next, w) = ap (λ (xs : List Numbered). sum_by f xs) p ∙ count_push f (numbered window (length c.read) a.unread) (c.out_next, w) in
          held_counts f (c.box ++ (c.out_next, w) ∷ []) c.wire c.slots ∙ omega (arith, e, once_counts window c a f, count_push f c.box (c.out_next, w)));
      total = omega (arith, length-append a.unread (w ∷ []));
      out_next = ap (λ (k : ℕ). (k + 1) % window) a.out_next ∙ (mod_next (length c.written) window a.some ∙ ap (λ (k : ℕ). k % window) (sym (length-append c.written (w ∷ []))));
      in_next = a.in_next;
      slots = a.slots;
      some = a.some;
    }

-- words that go from the outbox to a link, or from link to link
pub moved_keeps : (window : ℕ) (box wire : List Numbered) (c : Channel) → ((f : Numbered → ℕ) → sum_by f box + sum_by f wire ≡ sum_by f c.box + sum_by f c.wire) → IsAccount window c → IsAccount window (moved box wire c)
moved_keeps window box wire c same a = record {
  unread = a.unread;
  written = a.written;
  once = λ f. held_counts f box wire c.slots ∙ omega (arith, same f, once_counts window c a f);
  total = a.total;
  out_next = a.out_next;
  in_next = a.in_next;
  slots = a.slots;
  some = a.some;
}

-- a word that is held has a number below the window
some_counted : (f : Numbered → ℕ) (x : Numbered) (xs ys : List Numbered) → SameItems xs (x ∷ ys) → f x ≡ 1 → 1 ≤ sum_by f xs
some_counted f x xs ys same h = omega (arith, h, same f, count-cons f x ys)

one_at : (b : Bool) → b ≡ true → (let n : ℕ = cond b 1 0 in n ≡ 1)
one_at true h = refl
one_at false h = cc

-- what a word that is under way may do at the receiving end
pub record MayArrive (window : ℕ) (c : Channel) (x : Numbered) : Type 0 where
  pub number : x.0 < window
  pub empty : slice_index_or c.slots x.0 None ≡ None
  pub room : length (in_slots 0 c.slots) + c.freed < window

eq_self : (n : ℕ) → (n == n) ≡ true
eq_self n = grind (arith, nat_tests)

one_of : (n m w : ℕ) → n ≡ m → one (has_number m) (n, w) ≡ 1
one_of n m w e = let z : (n == m) ≡ true = grind (arith, nat_tests) in rw z refl

not_past_at : (w n : ℕ) (b : Bool) → nat_le w n ≡ b → (nat_le w n ≡ true → ⊥) → n < w
not_past_at w n true e h = absurd (h e)
not_past_at w n false e h = grind (arith, nat_tests)

not_past : (w n k : ℕ) → (nat_le w n ≡ true → ⊥) → n < w
not_past w n k h = not_past_at w n (nat_le w n) refl h

empty_at : (window : ℕ) (c : Channel) (x : Numbered) (o : Option ℕ) → slice_index_or c.slots x.0 None ≡ o → ((w : ℕ) → o ≡ Some w → ⊥) → o ≡ None
empty_at window c x None e h = refl
empty_at window c x (Some w) e h = absurd (h w refl)

unread_le : (window : ℕ) (c : Channel) (a : IsAccount window c) → length a.unread ≤ window
unread_le window c a = let t : c.credits + sum c.returning + c.freed + length a.unread ≡ window = a.total in omega arith

pub may_arrive : (window : ℕ) (c : Channel) (x : Numbered) (others : List Numbered) → IsAccount window c → SameItems c.wire (x ∷ others) → MayArrive window c x
may_arrive window c x others a same =
    let t : c.credits + sum c.returning + c.freed + length a.unread ≡ window = a.total in
    record {
      number = not_past window x.0 0 (λ past. (
          let here : 1 ≤ sum_by (past_window window) c.wire = some_counted (past_window window) x c.wire others same (one_at (nat_le window x.0) past) in
          let none : sum_by (past_window window) (numbered window (length c.read) a.unread) ≡ 0 = number_below window (length c.read) a.unread a.some in
          omega (arith, once_counts window c a (past_window window))));
      empty = empty_at window c x (slice_index_or c.slots x.0 None) refl (λ w e. (
          let own : has_number x.0 x ≡ 1 = one_at (x.0 == x.0) (eq_self x.0) in
          let here : 1 ≤ sum_by (has_number x.0) c.wire = some_counted (has_number x.0) x c.wire others same own in
          let there : one (has_number x.0) (0 + x.0, w) + sum_by (has_number x.0) (in_slots 0 (slice_set c.slots x.0 None)) ≡ sum_by (has_number x.0) (in_slots 0 c.slots) = slots_empty (has_number x.0) c.slots 0 x.0 w e in
          let o : one (has_number x.0) (0 + x.0, w) ≡ 1 = one_of (0 + x.0) x.0 w (omega arith) in
          let once : sum_by (has_number x.0) (numbered window (length c.read) a.unread) ≤ 1 = number_once window (length c.read) x.0 a.unread (unread_le window c a) in
          omega (arith, once_counts window c a (has_number x.0))));
      room = (
          let all : sum_by (λ _. 1) c.box + sum_by (λ _. 1) c.wire + sum_by (λ _. 1) (in_slots 0 c.slots) ≡ sum_by (λ _. 1) (numbered window (length c.read) a.unread) = once_counts window c a (λ _. 1) in
          let here : 1 ≤ sum_by (λ _. 1) c.wire = some_counted (λ _. 1) x c.wire others same refl in
          omega (arith, count_all (in_slots 0 c.slots), count_all (numbered window (length c.read) a.unread), length-numbered window (length c.read) a.unread));
    }

pub arrived_keeps : (window : ℕ) (c : Channel) (x : Numbered) (others : List Numbered) → IsAccount window c → SameItems c.wire (x ∷ others) → IsAccount window (arrived x others c)
arrived_keeps window c x others a same =
    let may : MayArrive window c x = may_arrive window c x others a same in
    let n : length c.slots ≡ window = a.slots in
    let l : x.0 < length c.slots = omega (arith, may.number) in
    record {
      unread = a.unread;
      written = a.written;
      once = λ f. (
          let z : one f (0 + x.0, x.1) ≡ one f x = ap (λ (k : ℕ). one f (k, x.1)) (let z : 0 + x.0 ≡ x.0 = omega arith in z) in
          held_counts f c.box others (slice_set c.slots x.0 (Some x.1)) ∙ omega (arith, slots_fill f c.slots 0 x.0 x.1 l may.empty, same f, count-cons f x others, once_counts window c a f));
      total = a.total;
      out_next = a.out_next;
      in_next = a.in_next;
      slots = length-set c.slots x.0 (Some x.1) ∙ a.slots;
      some = a.some;
    }

-- 1 where this is the word w under number n
abbrev is_word : ℕ → ℕ → Numbered → ℕ
is_word n w x = cond ((x.0 == n) && (x.1 == w)) 1 0

one_word : (n m w : ℕ) → n ≡ m → one (is_word m w) (n, w) ≡ 1
one_word n m w e = let z : (n == m) ≡ true = grind (arith, nat_tests) in rw (z, eq_self w) refl

word_same_at : (n v w : ℕ) (b : Bool) → (v == w) ≡ b → 1 ≤ one (is_word n w) (n, v) → v ≡ w
word_same_at n v w true e h = grind (arith, nat_tests)
word_same_at n v w false e h =
    let z : one (is_word n w) (n, v) ≡ 0 = rw (eq_self n, e) refl in
    absurd (omega arith)

word_same : (n v w : ℕ) → 1 ≤ one (is_word n w) (n, v) → v ≡ w
word_same n v w h = word_same_at n v w (v == w) refl h

and_le : (a b : Bool) → (let n : ℕ = cond (a && b) 1 0 in let m : ℕ = cond a 1 0 in n ≤ m)
and_le true true = omega arith
and_le true false = omega arith
and_le false b = omega arith

fewer : (n w : ℕ) (xs : List Numbered) → sum_by (is_word n w) xs ≤ sum_by (has_number n) xs
fewer n w [] = omega arith
fewer n w (x ∷ xs) = omega (arith, count-cons (is_word n w) x xs, count-cons (has_number n) x xs, and_le (x.0 == n) (x.1 == w), fewer n w xs)

-- the word in the slot of the next number is the first that isn't read
head_at : (window n w : ℕ) (ws : List ℕ) → length ws ≤ window → 1 ≤ sum_by (is_word (n % window) w) (numbered window n ws) → (rest : List ℕ) × (ws ≡ w ∷ rest)
head_at window n w [] l h = absurd (omega arith)
head_at window n w (v ∷ vs) l h =
    let z : sum_by (has_number (n % window)) (numbered window (n + 1) vs) ≡ 0 = apart_from window n 1 vs (omega arith) (omega arith) in
    let le : sum_by (is_word (n % window) w) (numbered window (n + 1) vs) ≤ sum_by (has_number (n % window)) (numbered window (n + 1) vs) = fewer (n % window) w (numbered window (n + 1) vs) in
    let e : sum_by (is_word (n % window) w) (numbered window n (v ∷ vs)) ≡ one (is_word (n % window) w) (n % window, v) + sum_by (is_word (n % window) w) (numbered window (n + 1) vs) = count-cons (is_word (n % window) w) (n % window, v) (numbered window (n + 1) vs) in
    let o : 1 ≤ one (is_word (n % window) w) (n % window, v) = omega arith in
    (vs, ap (λ (x : ℕ). x ∷ vs) (word_same (n % window) v w o))

pub next_is_first : (window w : ℕ) (c : Channel) (a : IsAccount window c) → slice_index_or c.slots c.in_next None ≡ Some w → (rest : List ℕ) × (a.unread ≡ w ∷ rest)
next_is_first window w c a e =
    let f : Numbered → ℕ = is_word (length c.read % window) w in
    let n : c.in_next ≡ length c.read % window = a.in_next in
    let s : one f (0 + c.in_next, w) + sum_by f (in_slots 0 (slice_set c.slots c.in_next None)) ≡ sum_by f (in_slots 0 c.slots) = slots_empty f c.slots 0 c.in_next w e in
    let o : one f (0 + c.in_next, w) ≡ 1 = one_word (0 + c.in_next) (length c.read % window) w (omega arith) in
    head_at window (length c.read) w a.unread (unread_le window c a) (omega (arith, once_counts window c a f))

took_at : (window w : ℕ) (c : Channel) → slice_index_or c.slots c.in_next None ≡ Some w → (a : IsAccount window c) (rest : List ℕ) → a.unread ≡ w ∷ rest → IsAccount window (took window w c)
took_at window w c e a rest first =
    let t : c.credits + sum c.returning + c.freed + length a.unread ≡ window = a.total in
    let n : c.in_next ≡ length c.read % window = a.in_next in
    let len : length a.unread ≡ length rest + 1 = ap (λ (xs : List ℕ). length xs) first ∙ (let z : length (w ∷ rest) ≡ length rest + 1 = omega arith in z) in
    let more : length (c.read ++ w ∷ []) ≡ length c.read + 1 = length-append c.read (w ∷ []) in
    record {
      unread = rest;
      written = a.written ∙ (ap (λ (xs : List ℕ). c.read ++ xs) first ∙ sym (append_assoc c.read (w ∷ []) rest));
      once = λ f. (
          let s : one f (0 + c.in_next, w) + sum_by f (in_slots 0 (slice_set c.slots c.in_next None)) ≡ sum_by f (in_slots 0 c.slots) = slots_empty f c.slots 0 c.in_next w e in
          let z : 0 + c.in_next ≡ length c.read % window = omega arith in
          let z' : one f (0 + c.in_next, w) ≡ one f (length c.read % window, w) = ap (λ (k : ℕ). one f (k, w)) z in
          let u : sum_by f (numbered window (length c.read) a.unread) ≡ one f (length c.read % window, w) + sum_by f (numbered window (length c.read + 1) rest) = ap (λ (xs : List ℕ). sum_by f (numbered window (length c.read) xs)) first ∙ count-cons f (length c.read % window, w) (numbered window (length c.read + 1) rest) in
          let v : sum_by f (numbered window (length (c.read ++ w ∷ [])) rest) ≡ sum_by f (numbered window (length c.read + 1) rest) = ap (λ (k : ℕ). sum_by f (numbered window k rest)) more in
          held_counts f c.box c.wire (slice_set c.slots c.in_next None) ∙ omega (arith, once_counts window c a f));
      total = omega arith;
      out_next = a.out_next;
      in_next = ap (λ (k : ℕ). (k + 1) % window) a.in_next ∙ (mod_next (length c.read) window a.some ∙ ap (λ (k : ℕ). k % window) (sym more));
      slots = length-set c.slots c.in_next None ∙ a.slots;
      some = a.some;
    }

pub took_keeps : (window w : ℕ) (c : Channel) → slice_index_or c.slots c.in_next None ≡ Some w → IsAccount window c → IsAccount window (took window w c)
took_keeps window w c e a = took_at window w c e a (next_is_first window w c a e).0 (next_is_first window w c a e).1

pub returned_keeps : (window : ℕ) (c : Channel) (counts : List ℕ) → sum counts ≡ sum c.returning + c.freed → IsAccount window c → IsAccount window (returned counts c)
returned_keeps window c counts e a =
    let t : c.credits + sum c.returning + c.freed + length a.unread ≡ window = a.total in
    record { unread = a.unread; written = a.written; once = a.once; total = omega arith; out_next = a.out_next; in_next = a.in_next; slots = a.slots; some = a.some }

-- what a credit that is under way may add
pub credit_fits : (window : ℕ) (c : Channel) (count : ℕ) (others : List ℕ) → IsAccount window c → sum c.returning ≡ count + sum others → count + c.credits + length c.box ≤ window
credit_fits window c count others a e =
    let t : c.credits + sum c.returning + c.freed + length a.unread ≡ window = a.total in
    omega (arith, once_counts window c a (λ _. 1), count_all c.box, count_all (numbered window (length c.read) a.unread), length-numbered window (length c.read) a.unread)

pub credited_keeps : (window : ℕ) (c : Channel) (count : ℕ) (others : List ℕ) → IsAccount window c → sum c.returning ≡ count + sum others → IsAccount window (credited count others c)
credited_keeps window c count others a e =
    let t : c.credits + sum c.returning + c.freed + length a.unread ≡ window = a.total in
    record { unread = a.unread; written = a.written; once = a.once; total = omega arith; out_next = a.out_next; in_next = a.in_next; slots = a.slots; some = a.some }
