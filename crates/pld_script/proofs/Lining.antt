-- The lines of a text that is cut behind a line end.
use Rattle.std.proofs.Common.{◌≡◌, ◌≢◌, ℕ, zero, suc, ◌+◌, ◌<◌, ◌≤◌, Bool, true, false, cond, ◌&&◌, List, [], ◌∷◌, ◌++◌, length, take, drop, get_or, refl, sym, ap, ◌∙◌, append_assoc, append-nil, subst, arith, nat_eq, inl, inr}
use Rattle.std.proofs.lemmas.Bool.Decides.{nat_tests}
use Rattle.std.proofs.lemmas.List.{drop_all, take_more}
use Rattle.std.proofs.Math.Nat.{le_refl}
use native.Mathlib.Numerals.{unary_clauses}
use Rattle.pld_script.specs.Statements.{IsLine}
use Rattle.pld_script.specs.Lines.{lines, onto, begins_line_end, HasNoEnd, stripped}

pub not_ten : (b : ℕ) → b ≢ 10 → nat_eq b 10 ≡ false
not_ten b h = grind (arith, nat_tests)

onto_one : (c e : Bool) (b : ℕ) (rest : List (List ℕ)) → cond c ([] ∷ rest) (onto e b ([] ∷ rest)) ≡ cond c [] (b ∷ []) ∷ rest
onto_one true e b rest = refl
onto_one false e b rest = refl

-- a byte within a line
step : (e : Bool) (b : ℕ) (bytes : List ℕ) → b ≢ 10 → begins_line_end bytes ≡ false → lines e (b ∷ bytes) ≡ onto e b (lines e bytes)
step e b bytes h q = rw (not_ten b h) (rw q refl)

-- a line with its line end comes first
pub lines-line : (e : Bool) (line rest : List ℕ) → HasNoEnd line → lines e (line ++ 10 ∷ rest) ≡ stripped line ∷ lines e rest
lines-line e [] rest h = refl
lines-line e (b ∷ []) rest h = rw (not_ten b h.0) (onto_one (nat_eq b 13) e b (lines e rest))
lines-line e (b ∷ c ∷ line) rest h = step e b ((c ∷ line) ++ 10 ∷ rest) h.0 (not_ten c h.1.0) ∙ ap (onto e b) (lines-line e (c ∷ line) rest h.1)

pub no_end_next : (bytes : List ℕ) → HasNoEnd bytes → begins_line_end bytes ≡ false
no_end_next [] h = refl
no_end_next (b ∷ bytes) h = not_ten b h.0

-- where no line end stands, and the text goes on, there is no line
pub lines-open : (bytes : List ℕ) → HasNoEnd bytes → lines false bytes ≡ []
lines-open [] h = refl
lines-open (b ∷ bytes) h = step false b bytes h.0 (no_end_next bytes h.1) ∙ ap (onto false b) (lines-open bytes h.1)

-- where the text ends there, it is one line
pub lines-last : (b : ℕ) (bytes : List ℕ) → HasNoEnd (b ∷ bytes) → lines true (b ∷ bytes) ≡ (b ∷ bytes) ∷ []
lines-last b [] h = step true b [] h.0 refl
lines-last b (c ∷ bytes) h = step true b (c ∷ bytes) h.0 (not_ten c h.1.0) ∙ ap (onto true b) (lines-last c bytes h.1)

pub no_ends : (bytes : List ℕ) (n : ℕ) → ((k : ℕ) → k < n → get_or bytes k 0 ≢ 10) → n ≤ length bytes → HasNoEnd (take n bytes)
no_ends bytes zero h p = tt
no_ends [] (suc n) h p = tt
no_ends (b ∷ bytes) (suc n) h p = (h 0 (omega arith), no_ends bytes n (λ k q. h (suc k) (omega arith)) (omega arith))

-- the line's last byte is 13
pub stripped-cr : (line : List ℕ) (n : ℕ) → suc n ≡ length line → get_or line n 0 ≡ 13 → take n line ≡ stripped line
stripped-cr [] n e h = absurd (omega arith)
stripped-cr (b ∷ []) zero e h = rw h refl
stripped-cr (b ∷ []) (suc n) e h = absurd (omega arith)
stripped-cr (b ∷ c ∷ line) zero e h = absurd (omega arith)
stripped-cr (b ∷ c ∷ line) (suc n) e h = ap (λ l. b ∷ l) (stripped-cr (c ∷ line) n (omega arith) h)

not_cr : (b : ℕ) → b ≢ 13 → nat_eq b 13 ≡ false
not_cr b h = grind (arith, nat_tests)

-- the line's last byte is another
pub stripped-other : (line : List ℕ) (n : ℕ) → suc n ≡ length line → get_or line n 0 ≢ 13 → line ≡ stripped line
stripped-other [] n e h = refl
stripped-other (b ∷ []) zero e h = rw (not_cr b h) refl
stripped-other (b ∷ []) (suc n) e h = absurd (omega arith)
stripped-other (b ∷ c ∷ line) zero e h = absurd (omega arith)
stripped-other (b ∷ c ∷ line) (suc n) e h = ap (λ l. b ∷ l) (stripped-other (c ∷ line) n (omega arith) h)

pub stripped-empty : (line : List ℕ) → length line ≡ 0 → line ≡ stripped line
stripped-empty [] e = refl
stripped-empty (b ∷ line) e = absurd (omega arith)

pub cut_at : (bytes : List ℕ) (n : ℕ) → n < length bytes → get_or bytes n 0 ≡ 10 → bytes ≡ take n bytes ++ 10 ∷ drop (n + 1) bytes
cut_at [] n h e = absurd (omega arith)
cut_at (b ∷ bytes) zero h e = rw e refl
cut_at (b ∷ bytes) (suc n) h e =
    let t : bytes ≡ take n bytes ++ 10 ∷ drop (n + 1) bytes = cut_at bytes n (omega arith) e in
    let u = simp unary_clauses at t in
    simp unary_clauses (ap (λ l. b ∷ l) u)

-- the first line, where it has its line end
pub line_found : (ended : Bool) (bytes line : List ℕ) (n : ℕ) → n < length bytes → ((k : ℕ) → k < n → get_or bytes k 0 ≢ 10) → get_or bytes n 0 ≡ 10
    → line ≡ stripped (take n bytes) → IsLine ended bytes line (n + 1)
line_found ended bytes line n h clean e is = record {
  within = omega arith;
  some = omega arith;
  first = λ f more m.
      ap (λ l. lines f (l ++ more)) (cut_at bytes n h e)
      ∙ ap (lines f) (append_assoc (take n bytes) (10 ∷ drop (n + 1) bytes) more)
      ∙ lines-line f (take n bytes) (drop (n + 1) bytes ++ more) (no_ends bytes n clean (omega arith))
      ∙ ap (λ l. l ∷ lines f (drop (n + 1) bytes ++ more)) (sym is);
  least = λ k p. lines-open (take k bytes) (no_ends bytes k (λ j q. clean j (omega arith)) (omega arith));
  cut = inl (λ f more.
      ap (λ l. lines f (l ++ more)) (take_more bytes n 0 h ∙ ap (λ b. take n bytes ++ b ∷ []) e)
      ∙ ap (lines f) (append_assoc (take n bytes) (10 ∷ []) more)
      ∙ lines-line f (take n bytes) more (no_ends bytes n clean (omega arith))
      ∙ ap (λ l. l ∷ lines f more) (sym is));
}

no_end_front : (k : ℕ) (bytes : List ℕ) → HasNoEnd bytes → HasNoEnd (take k bytes)
no_end_front zero bytes h = tt
no_end_front (suc k) [] h = tt
no_end_front (suc k) (b ∷ bytes) h = (h.0, no_end_front k bytes h.1)

-- the whole is a line, where the text ends without a line end
pub line_rest : (bytes : List ℕ) → HasNoEnd bytes → 0 < length bytes → IsLine true bytes bytes (length bytes)
line_rest [] clean some = absurd (omega arith)
line_rest (b ∷ bytes) clean some = record {
  within = omega arith;
  some = omega arith;
  first = λ f more m.
      let P : Bool → Type 0 = λ x. lines x ((b ∷ bytes) ++ more) ≡ (b ∷ bytes) ∷ lines x (drop (length (b ∷ bytes)) (b ∷ bytes) ++ more) in
      let Q : List ℕ → Type 0 = λ x. lines true ((b ∷ bytes) ++ x) ≡ (b ∷ bytes) ∷ lines true (drop (length (b ∷ bytes)) (b ∷ bytes) ++ x) in
      subst P (sym (m.end refl)) (subst Q (sym (m.none refl))
      (ap (lines true) (append-nil (b ∷ bytes)) ∙ lines-last b bytes clean
      ∙ ap (λ l. (b ∷ bytes) ∷ lines true l) (sym (append-nil (drop (length bytes) bytes) ∙ drop_all (length bytes) bytes (le_refl (length bytes))))));
  least = λ k p. lines-open (take k (b ∷ bytes)) (no_end_front k (b ∷ bytes) clean);
  cut = inr (refl, refl, lines-open (b ∷ bytes) clean);
}

pub none_of : (bytes : List ℕ) → ((k : ℕ) → k < length bytes → get_or bytes k 0 ≢ 10) → HasNoEnd bytes
none_of [] h = tt
none_of (b ∷ bytes) h = (h 0 (omega arith), none_of bytes (λ k p. h (suc k) (omega arith)))

pub line_rest_of : (ended : Bool) (bytes : List ℕ) → ended ≡ true → HasNoEnd bytes → 0 < length bytes → IsLine ended bytes bytes (length bytes)
line_rest_of ended bytes e clean some = let P : Bool → Type 0 = λ x. IsLine x bytes bytes (length bytes) in subst P (sym e) (line_rest bytes clean some)

pub none_open : (ended : Bool) (bytes : List ℕ) → ended ≡ false → HasNoEnd bytes → lines ended bytes ≡ []
none_open ended bytes e clean = rw e (lines-open bytes clean)

pub none_empty : (ended : Bool) (bytes : List ℕ) → length bytes ≡ 0 → lines ended bytes ≡ []
none_empty ended [] h = refl
none_empty ended (b ∷ bytes) h = absurd (omega arith)

-- ---- a text that has ended has no line only where it has no byte

onto_some : (b : ℕ) (ls : List (List ℕ)) → onto true b ls ≡ [] → ⊥
onto_some b [] e = cc
onto_some b (line ∷ ls) e = cc

some_one : (t : Bool) (b : ℕ) → cond t ([] ∷ []) (onto true b []) ≡ [] → ⊥
some_one true b e = cc
some_one false b e = cc

some_two : (t u v : Bool) (b : ℕ) (ls other : List (List ℕ)) → cond t ([] ∷ cond u ([] ∷ ls) other) (cond (u && v) (cond u ([] ∷ ls) other) (onto true b (cond u ([] ∷ ls) other))) ≡ [] → ⊥
some_two true u v b ls other e = cc
some_two false true true b ls other e = cc
some_two false true false b ls other e = cc
some_two false false v b ls other e = onto_some b other e

pub no_lines : (bytes : List ℕ) → lines true bytes ≡ [] → length bytes ≡ 0
no_lines [] e = refl
no_lines (b ∷ []) e = absurd (some_one (nat_eq b 10) b e)
no_lines (b ∷ c ∷ bytes) e = absurd (some_two (nat_eq b 10) (nat_eq c 10) (nat_eq b 13) b (lines true bytes) _ e)
