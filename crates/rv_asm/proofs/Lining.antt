-- The lines of a text that is cut behind its first line, and of lines that are joined.
use Rattle.std.proofs.Math.Numerals.{add-one, one-add}
use Rattle.std.proofs.lemmas.List.{length-drop}
use Rattle.std.proofs.Common.{◌≡◌, ℕ, subst, zero, suc, ◌+◌, ◌<◌, ◌≤◌, ◌-◌, Bool, true, false, List, [], ◌∷◌, ◌++◌, length, take, drop, refl, sym, ap, ◌∙◌, arith}
use Rattle.std.specs.Prelude.{◌==◌}
use Rattle.std.specs.List.{position_or_len}
use Rattle.rv_asm.specs.Words.{lines_of, onto}

abbrev ends : ℕ → Bool
ends x = x == 10

pub position_no : (p : ℕ → Bool) (b : ℕ) (xs : List ℕ) → p b ≡ false → position_or_len p (b ∷ xs) ≡ suc (position_or_len p xs)
position_no p b xs e = rw e (one-add (position_or_len p xs))

pub position_yes : (p : ℕ → Bool) (b : ℕ) (xs : List ℕ) → p b ≡ true → position_or_len p (b ∷ xs) ≡ 0
position_yes p b xs e = rw e refl

abbrev Cut : List ℕ → ℕ → Type 0
Cut text n = lines_of text ≡ take n text ∷ lines_of (drop (suc n) text)

-- the first line ends at the first line end
pub lines-first : (b : ℕ) (text : List ℕ) → Cut (b ∷ text) (position_or_len ends (b ∷ text))
lines-first b [] = by (b == 10) refl
  where
    by : (t : Bool) → (b == 10) ≡ t → Cut (b ∷ []) (position_or_len ends (b ∷ []))
    by true e = subst (λ n. Cut (b ∷ []) n) (sym (position_yes ends b [] e)) (rw e refl)
    by false e = subst (λ n. Cut (b ∷ []) n) (sym (position_no ends b [] e)) (rw e refl)
lines-first b (c ∷ text) = by (b == 10) refl (lines-first c text)
  where
    by : (t : Bool) → (b == 10) ≡ t → Cut (c ∷ text) (position_or_len ends (c ∷ text)) → Cut (b ∷ c ∷ text) (position_or_len ends (b ∷ c ∷ text))
    by true e h = subst (λ n. Cut (b ∷ c ∷ text) n) (sym (position_yes ends b (c ∷ text) e)) (rw e refl)
    by false e h = subst (λ n. Cut (b ∷ c ∷ text) n) (sym (position_no ends b (c ∷ text) e)) (rw e (ap (onto b) h))

-- bytes without a line end
abbrev pub HasNoEnd : List ℕ → Type 0
HasNoEnd [] = Unit {0}
HasNoEnd (b ∷ bytes) = ((b == 10) ≡ false) × HasNoEnd bytes

-- a line with its line end in front of a text
pub lines-line : (line text : List ℕ) → HasNoEnd line → lines_of (line ++ 10 ∷ text) ≡ line ∷ lines_of text
lines-line [] text h = refl
lines-line (b ∷ line) text h = rw h.0 (ap (onto b) (lines-line line text h.1))

take_all : (xs : List ℕ) (k : ℕ) → length xs ≤ k → take k xs ≡ xs
take_all [] zero h = refl
take_all [] (suc k) h = refl
take_all (x ∷ xs) zero h = absurd (omega arith)
take_all (x ∷ xs) (suc k) h = ap (λ l. x ∷ l) (take_all xs k (omega (arith, h)))

drop_all : (xs : List ℕ) (k : ℕ) → length xs ≤ k → drop k xs ≡ []
drop_all [] zero h = refl
drop_all [] (suc k) h = refl
drop_all (x ∷ xs) zero h = absurd (omega arith)
drop_all (x ∷ xs) (suc k) h = drop_all xs k (omega (arith, h))

-- what a slice from k on is
whole : (xs : List ℕ) (k : ℕ) → take (length xs - k) (drop k xs) ≡ drop k xs
whole xs k = take_all (drop k xs) (length xs - k) (omega (arith, length-drop k xs))

cut : (text : List ℕ) (n : ℕ) → 0 < length text → n ≡ position_or_len ends text → lines_of text ≡ take n text ∷ lines_of (drop (n + 1) text)
cut [] n some e = absurd (omega arith)
cut (b ∷ text) n some e = subst (λ k. lines_of (b ∷ text) ≡ take k (b ∷ text) ∷ lines_of (drop (k + 1) (b ∷ text))) (sym e) (rw add-one (lines-first b text))

pub lines_cut : (text : List ℕ) (n : ℕ) → 0 < length text → n ≡ position_or_len ends text → lines_of text ≡ take n text ∷ lines_of (take (length text - (n + 1)) (drop (n + 1) text))
lines_cut text n some e = rw (whole text (n + 1)) (cut text n some e)

-- a text without a line end is a line
pub lines_whole : (text : List ℕ) (n : ℕ) → 0 < length text → n ≡ position_or_len ends text → length text ≤ n → lines_of text ≡ text ∷ lines_of (take (length text - n) (drop n text))
lines_whole text n some e all =
    cut text n some e
    ∙ ap (λ l. l ∷ lines_of (drop (n + 1) text)) (take_all text n all)
    ∙ ap (λ l. text ∷ lines_of l) (drop_all text (n + 1) (omega arith) ∙ sym (drop_all text n all) ∙ sym (whole text n))
