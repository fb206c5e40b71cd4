-- The words of a line that is cut behind its first word, and of words that are joined.
use Rattle.std.proofs.Common.{◌≡◌, ℕ, subst, ◌<◌, Bool, true, false, List, [], ◌∷◌, ◌++◌, length, take, drop, refl, sym, ap, ◌∙◌, arith, not}
use Rattle.std.specs.Prelude.{◌==◌, ◌||◌, slice_get, Some}
use Rattle.std.proofs.lemmas.List.{take-append-drop}
use Rattle.std.specs.List.{position_or_len}
use Rattle.rv_asm.proofs.Lining.{position_no, position_yes}
use Rattle.rv_asm.specs.Words.{is_blank, is_apart, begins_word, words_of, onto}

-- no such byte stands in these
abbrev pub HasNoneApart : List ℕ → Type 0
HasNoneApart [] = Unit {0}
HasNoneApart (b ∷ bytes) = (is_apart b ≡ false) × HasNoneApart bytes

-- what a byte of a word isn't
pub record IsInWord (b : ℕ) : Type 0 where
  pub hash : (b == 35) ≡ false
  pub blank : is_blank b ≡ false
  pub comma : (b == 44) ≡ false

parts : (p q r : Bool) → ((p || q) || r) ≡ false → (r ≡ false) × (p ≡ false) × (q ≡ false)
parts true q r h = cc
parts false true r h = cc
parts false false r h = (h, refl, refl)

pub in_word : (b : ℕ) → is_apart b ≡ false → IsInWord b
in_word b h = let p = parts (is_blank b) (b == 44) (b == 35) h in record { hash = p.0; blank = p.1; comma = p.2 }

-- a byte within a word
step : (b : ℕ) (line : List ℕ) → is_apart b ≡ false → begins_word line ≡ true → words_of (b ∷ line) ≡ onto b (words_of line)
step b line h q = let i = in_word b h in rw i.hash (rw i.blank (rw i.comma (rw q refl)))

-- the last byte of a word
last_step : (b : ℕ) (line : List ℕ) → is_apart b ≡ false → begins_word line ≡ false → words_of (b ∷ line) ≡ (b ∷ []) ∷ words_of line
last_step b line h q = let i = in_word b h in rw i.hash (rw i.blank (rw i.comma (rw q refl)))

-- a word with no other directly behind it comes first
pub words-word : (word rest : List ℕ) → HasNoneApart word → 0 < length word → begins_word rest ≡ false → words_of (word ++ rest) ≡ word ∷ words_of rest
words-word [] rest h some q = absurd (omega arith)
words-word (b ∷ []) rest h some q = last_step b rest h.0 q
words-word (b ∷ c ∷ word) rest h some q =
    step b ((c ∷ word) ++ rest) h.0 (ap not h.1.0) ∙ ap (onto b) (words-word (c ∷ word) rest h.1 (omega arith) q)

abbrev Parted : List ℕ → ℕ → Type 0
Parted line n = HasNoneApart (take n line) × (begins_word (drop n line) ≡ false)

-- up to the first byte that is apart
front : (line : List ℕ) → Parted line (position_or_len is_apart line)
front [] = (tt, refl)
front (b ∷ line) = by (is_apart b) refl (front line)
  where
    by : (t : Bool) → is_apart b ≡ t → Parted line (position_or_len is_apart line) → Parted (b ∷ line) (position_or_len is_apart (b ∷ line))
    by true e f = subst (λ n. Parted (b ∷ line) n) (sym (position_yes is_apart b line e)) (tt, ap not e)
    by false e f = subst (λ n. Parted (b ∷ line) n) (sym (position_no is_apart b line e)) ((e, f.0), f.1)

-- where a word comes first, it ends at the first byte that is apart
pub words-first : (b : ℕ) (line : List ℕ) → is_apart b ≡ false
    → words_of (b ∷ line) ≡ take (position_or_len is_apart (b ∷ line)) (b ∷ line) ∷ words_of (drop (position_or_len is_apart (b ∷ line)) (b ∷ line))
words-first b line e =
    let f = front (b ∷ line) in
    let n = position_or_len is_apart (b ∷ line) in
    let some : 0 < length (take n (b ∷ line)) = subst (λ k. 0 < length (take k (b ∷ line))) (sym (position_no is_apart b line e)) (omega arith) in
    ap words_of (sym (take-append-drop n (b ∷ line))) ∙ words-word (take n (b ∷ line)) (drop n (b ∷ line)) f.0 some f.1

-- a line that begins with a byte of a word
pub split_at_word : (line : List ℕ) (b : ℕ) (n : ℕ) → slice_get line 0 ≡ Some b → is_apart b ≡ false → n ≡ position_or_len is_apart line → words_of line ≡ take n line ∷ words_of (drop n line)
split_at_word [] b n e h k = cc
split_at_word (c ∷ line) b n e h k =
    let same : b ≡ c = cc in
    subst (λ m. words_of (c ∷ line) ≡ take m (c ∷ line) ∷ words_of (drop m (c ∷ line))) (sym k) (words-first c line (subst (λ x. is_apart x ≡ false) same h))

pub apart_false : (b : ℕ) → is_blank b ≡ false → (b == 44) ≡ false → (b == 35) ≡ false → is_apart b ≡ false
apart_false b blank comma hash = rw blank (rw comma hash)
