-- What a piece is.
use Rattle.std.proofs.Common.{◌≡◌, ℕ, zero, suc, ◌+◌, ◌<◌, ◌≤◌, ◌&&◌, ◌==◌, List, [], ◌∷◌, length, take, Option, Some, None, Bool, true, false, cond, refl, sym, ap, subst, ◌∙◌, arith}
use Rattle.std.specs.Prelude.{Ok, Err, IfOk, nat_eq}
use Rattle.std.proofs.lemmas.Bool.{and_parts, or_left, or_right}
use Rattle.std.proofs.lemmas.List.{length-take-le}
use Rattle.std.proofs.lemmas.Slice.Eq.{bytes_eq-Decides}
use Rattle.std.specs.Str.{bytes_eq}
use Rattle.std.specs.declared.result.Result.{Result}
use Rattle.std.proofs.lemmas.Bool.Decides.{nat_tests}
use Rattle.pld_base.specs.Names.{is_digit, is_letter, is_letter_or_digit, name_in}
use Rattle.pld_base.specs.declared.fault.FaultKind.{FaultKind}
use Rattle.pld_lex.specs.declared.token.TokenKind.{TokenKind}
use Rattle.pld_lex.specs.declared.piece.Piece.{Piece}
use Rattle.pld_lex.specs.Marks.{keywords, triple_marks, double_marks, single_marks, spelled_as, begins, mark_among, or_else, mark_of}
use Rattle.pld_lex.specs.Words.{word_length, number_of, keyword_or, ident_of, name_or_keyword}
use Rattle.pld_lex.specs.Lexed.{is_blank, line_length, closed_after, one_more, gap, comment, token_if, mark_if, comment_of, comment_or, token_of, piece_of}
use Rattle.pld_lex.specs.Reads.{IsSpelling, keyword, triple, double, single, number, ident, IsSeparator, blank, line, block}

-- bytes that are a token of this kind, or a separator
abbrev pub IsPiece : Option TokenKind → List ℕ → Type 0
IsPiece None s = IsSeparator s
IsPiece (Some kind) s = IsSpelling s kind

-- so many of the bytes, and what they are
pub record Takes (text : List ℕ) (kind : Option TokenKind) (n : ℕ) : Type 0 where
  pub some : 1 ≤ n
  pub within : n ≤ length text
  pub what : IsPiece kind (take n text)

abbrev pub Sound : List ℕ → Result Piece FaultKind → Type 0
Sound text (Ok p) = Takes text p.kind p.length
Sound text (Err f) = Unit {0}

by_test : {P : Type 0} → (t : Bool) → (t ≡ true → P) → (t ≡ false → P) → P
by_test true f g = f refl
by_test false f g = g refl

at_most : (n : ℕ) (xs : List ℕ) → length (take n xs) ≡ n → n ≤ length xs
at_most zero xs e = omega arith
at_most (suc n) [] e = absurd (omega (arith, e))
at_most (suc n) (x ∷ xs) e = let h : n ≤ length xs = at_most n xs (omega (arith, e)) in omega (arith, h)

-- words
word_within : (text : List ℕ) → word_length text ≤ length text
word_within [] = omega arith
word_within (b ∷ bytes) = let h = word_within bytes in by_test (is_letter_or_digit b)
    (λ e. subst (λ t. cond t (suc (word_length bytes)) 0 ≤ suc (length bytes)) (sym e) (omega (arith, h)))
    (λ e. subst (λ t. cond t (suc (word_length bytes)) 0 ≤ suc (length bytes)) (sym e) (omega arith))

word_some : (b : ℕ) (bytes : List ℕ) → is_letter_or_digit b ≡ true → 1 ≤ word_length (b ∷ bytes)
word_some b bytes e = subst (λ t. 1 ≤ cond t (suc (word_length bytes)) 0) (sym e) (omega arith)

-- what a word spells
abbrev pub Spells : List ℕ → Result TokenKind FaultKind → Type 0
Spells s (Ok kind) = IsSpelling s kind
Spells s (Err f) = Unit {0}

spells_number : (s : List ℕ) (r : Result TokenKind FaultKind) → number_of s ≡ r → Spells s r
spells_number s (Ok kind) e = number e
spells_number s (Err f) e = tt

spells_ident : (s : List ℕ) (o : Option (List ℕ)) → spelled_as keywords s ≡ None → name_in s ≡ o → Spells s (ident_of o)
spells_ident s (Some name) k e = ident k e
spells_ident s None k e = tt

spells_word : (s : List ℕ) (o : Option TokenKind) → spelled_as keywords s ≡ o → Spells s (keyword_or o s)
spells_word s (Some kind) e = keyword e
spells_word s None e = spells_ident s (name_in s) e refl

token_sound : (text : List ℕ) (n : ℕ) (r : Result TokenKind FaultKind) → 1 ≤ n → n ≤ length text → Spells (take n text) r → Sound text (token_if n r)
token_sound text n (Ok kind) h w s = record { some = h; within = w; what = s }
token_sound text n (Err f) h w s = tt

-- marks
same_number : (m n : ℕ) → nat_eq m n ≡ true → m ≡ n
same_number m n e = grind (arith, nat_tests)

abbrev are_of_length : ℕ → List (List ℕ × TokenKind) → Bool
are_of_length n [] = true
are_of_length n (entry ∷ more) = nat_eq (length entry.0) n && are_of_length n more

abbrev Among : ℕ → List (List ℕ × TokenKind) → List ℕ → Option (TokenKind × ℕ) → Type 0
Among n table text None = Unit {0}
Among n table text (Some m) = (m.1 ≡ n) × (n ≤ length text) × (spelled_as table (take n text) ≡ Some m.0)

among_first : (n : ℕ) (s text : List ℕ) (kind : TokenKind) (more : List (List ℕ × TokenKind)) → length s ≡ n → begins text s ≡ true → Among n ((s, kind) ∷ more) text (Some (kind, length s))
among_first n s text kind more l e =
    let same : take (length s) text ≡ s = (bytes_eq-Decides (take (length s) text) s).0 e in (
      l,
      subst (λ k. k ≤ length text) l (at_most (length s) text (ap length same)),
      subst (λ k. spelled_as ((s, kind) ∷ more) (take k text) ≡ Some kind) l (ap (λ t. cond t (Some kind) (spelled_as more (take (length s) text))) e),
    )

among_later : (n : ℕ) (s text : List ℕ) (kind : TokenKind) (more : List (List ℕ × TokenKind)) (o : Option (TokenKind × ℕ)) → length s ≡ n → begins text s ≡ false → Among n more text o → Among n ((s, kind) ∷ more) text o
among_later n s text kind more None l e h = tt
among_later n s text kind more (Some m) l e h =
    (h.0, h.1, subst (λ k. cond (bytes_eq (take k text) s) (Some kind) (spelled_as more (take n text)) ≡ Some m.0) l (ap (λ t. cond t (Some kind) (spelled_as more (take n text))) e ∙ h.2))

among : (n : ℕ) (table : List (List ℕ × TokenKind)) (text : List ℕ) → are_of_length n table ≡ true → Among n table text (mark_among table text)
among n [] text u = tt
among n ((s, kind) ∷ more) text u =
    let both = and_parts (nat_eq (length s) n) (are_of_length n more) u in
    let l : length s ≡ n = same_number (length s) n both.0 in
    by_test (begins text s)
    (λ e. subst (Among n ((s, kind) ∷ more) text) (sym (ap (λ t. cond t (Some (kind, length s)) (mark_among more text)) e)) (among_first n s text kind more l e))
    (λ e. subst (Among n ((s, kind) ∷ more) text) (sym (ap (λ t. cond t (Some (kind, length s)) (mark_among more text)) e)) (among_later n s text kind more (mark_among more text) l e (among n more text both.1)))

abbrev Marks : List ℕ → Option (TokenKind × ℕ) → Type 0
Marks text None = Unit {0}
Marks text (Some m) = Takes text (Some m.0) m.1

marks_from : (n : ℕ) (table : List (List ℕ × TokenKind)) (text : List ℕ) (o : Option (TokenKind × ℕ)) → 1 ≤ n → ((s : List ℕ) (kind : TokenKind) → spelled_as table s ≡ Some kind → IsSpelling s kind) → Among n table text o → Marks text o
marks_from n table text None h f a = tt
marks_from n table text (Some m) h f a = subst (λ k. Takes text (Some m.0) k) (sym a.0) (record { some = h; within = a.1; what = f (take n text) m.0 a.2 })

marks_or : (text : List ℕ) (a b : Option (TokenKind × ℕ)) → Marks text a → Marks text b → Marks text (or_else a b)
marks_or text (Some m) b f g = f
marks_or text None b f g = g

marks : (text : List ℕ) → Marks text (mark_of text)
marks text =
    marks_or text (mark_among triple_marks text) (or_else (mark_among double_marks text) (mark_among single_marks text))
    (marks_from 3 triple_marks text (mark_among triple_marks text) (omega arith) (λ s kind e. triple e) (among 3 triple_marks text refl))
    (marks_or text (mark_among double_marks text) (mark_among single_marks text)
    (marks_from 2 double_marks text (mark_among double_marks text) (omega arith) (λ s kind e. double e) (among 2 double_marks text refl))
    (marks_from 1 single_marks text (mark_among single_marks text) (omega arith) (λ s kind e. single e) (among 1 single_marks text refl)))

mark_sound : (text : List ℕ) (o : Option (TokenKind × ℕ)) → Marks text o → Sound text (mark_if o)
mark_sound text (Some m) h = h
mark_sound text None h = tt

-- comments
line_within : (bytes : List ℕ) → line_length bytes ≤ length bytes
line_within [] = omega arith
line_within (b ∷ bytes) = let h = line_within bytes in by_test (b == 10)
    (λ e. subst (λ t. cond t 0 (suc (line_length bytes)) ≤ suc (length bytes)) (sym e) (omega arith))
    (λ e. subst (λ t. cond t 0 (suc (line_length bytes)) ≤ suc (length bytes)) (sym e) (omega (arith, h)))

abbrev IsLine : List ℕ → Type 0
IsLine bytes = line_length bytes ≡ length bytes

line_taken : (bytes : List ℕ) → IsLine (take (line_length bytes) bytes)
line_taken [] = refl
line_taken (b ∷ bytes) = by_test (b == 10)
    (λ e. subst (λ t. IsLine (take (cond t 0 (suc (line_length bytes))) (b ∷ bytes))) (sym e) refl)
    (λ e. subst (λ t. IsLine (take (cond t 0 (suc (line_length bytes))) (b ∷ bytes))) (sym e)
    (ap (λ t. cond t 0 (suc (line_length (take (line_length bytes) bytes)))) e ∙ ap (λ n. suc n) (line_taken bytes)))

abbrev Closes : Bool → List ℕ → Option ℕ → Type 0
Closes star bytes None = Unit {0}
Closes star bytes (Some n) = (n ≤ length bytes) × (closed_after star (take n bytes) ≡ Some n)

closes_later : (star : Bool) (b : ℕ) (bytes : List ℕ) (o : Option ℕ) → (star && b == 47) ≡ false → Closes (b == 42) bytes o → Closes star (b ∷ bytes) (one_more o)
closes_later star b bytes None e h = tt
closes_later star b bytes (Some n) e h = (let w = h.0 in omega (arith, w), ap (λ t. cond t (Some 1) (one_more (closed_after (b == 42) (take n bytes)))) e ∙ ap one_more h.1)

closes : (star : Bool) (bytes : List ℕ) → Closes star bytes (closed_after star bytes)
closes star [] = tt
closes star (b ∷ bytes) = by_test (star && b == 47)
    (λ e. subst (Closes star (b ∷ bytes)) (sym (ap (λ t. cond t (Some 1) (one_more (closed_after (b == 42) bytes))) e))
    (omega arith, ap (λ t. cond t (Some 1) (one_more (closed_after (b == 42) []))) e))
    (λ e. subst (Closes star (b ∷ bytes)) (sym (ap (λ t. cond t (Some 1) (one_more (closed_after (b == 42) bytes))) e))
    (closes_later star b bytes (closed_after (b == 42) bytes) e (closes (b == 42) bytes)))

two_more : (n a b : ℕ) (bytes : List ℕ) → take (2 + n) (a ∷ b ∷ bytes) ≡ a ∷ b ∷ take n bytes
two_more n a b bytes = let e : 2 + n ≡ suc (suc n) = omega arith in ap (λ k. take k (a ∷ b ∷ bytes)) e

line_sound : (a b : ℕ) (bytes : List ℕ) → a ≡ 47 → b ≡ 47 → Sound (a ∷ b ∷ bytes) (gap (2 + line_length bytes))
line_sound a b bytes h k =
    let n = line_length bytes in
    let w : n ≤ length bytes = line_within bytes in
    record {
      some = omega arith;
      within = omega (arith, w);
      what = subst IsSeparator (sym (two_more n a b bytes)) (subst (λ x. IsSeparator (x ∷ b ∷ take n bytes)) (sym h) (subst (λ x. IsSeparator (47 ∷ x ∷ take n bytes)) (sym k) (line (line_taken bytes))));
    }

block_sound : (a b : ℕ) (bytes : List ℕ) (o : Option ℕ) → a ≡ 47 → b ≡ 42 → Closes false bytes o → Sound (a ∷ b ∷ bytes) (comment o)
block_sound a b bytes None h k c = tt
block_sound a b bytes (Some n) h k c =
    let w : n ≤ length bytes = c.0 in
    record {
      some = omega arith;
      within = omega (arith, w);
      what = subst IsSeparator (sym (two_more n a b bytes)) (subst (λ x. IsSeparator (x ∷ b ∷ take n bytes)) (sym h) (subst (λ x. IsSeparator (47 ∷ x ∷ take n bytes)) (sym k) (block (c.1 ∙ ap Some (sym (length-take-le n bytes w))))));
    }

or_if : (text : List ℕ) (t : Bool) (r : Result Piece FaultKind) (rest : Option (Result Piece FaultKind)) (other : Result Piece FaultKind) → (t ≡ true → Sound text r) → Sound text (comment_or rest other) → Sound text (comment_or (cond t (Some r) rest) other)
or_if text true r rest other f g = f refl
or_if text false r rest other f g = g

same_left : (a b c d : ℕ) → (a == b && c == d) ≡ true → a ≡ b
same_left a b c d e = grind (arith, nat_tests)

same_right : (a b c d : ℕ) → (a == b && c == d) ≡ true → c ≡ d
same_right a b c d e = grind (arith, nat_tests)

comment_sound : (text : List ℕ) (other : Result Piece FaultKind) → Sound text other → Sound text (comment_or (comment_of text) other)
comment_sound [] other s = s
comment_sound (a ∷ []) other s = s
comment_sound (a ∷ b ∷ bytes) other s =
    or_if (a ∷ b ∷ bytes) (a == 47 && b == 47) (gap (2 + line_length bytes)) (cond (a == 47 && b == 42) (Some (comment (closed_after false bytes))) None) other
    (λ e. line_sound a b bytes (same_left a 47 b 47 e) (same_right a 47 b 47 e))
    (or_if (a ∷ b ∷ bytes) (a == 47 && b == 42) (comment (closed_after false bytes)) None other
    (λ e. block_sound a b bytes (closed_after false bytes) (same_left a 47 b 42 e) (same_right a 47 b 42 e) (closes false bytes))
    s)

sound_if : (text : List ℕ) (t : Bool) (a b : Result Piece FaultKind) → (t ≡ true → Sound text a) → (t ≡ false → Sound text b) → Sound text (cond t a b)
sound_if text true a b f g = f refl
sound_if text false a b f g = g refl

digit_in_word : (b : ℕ) → is_digit b ≡ true → is_letter_or_digit b ≡ true
digit_in_word b e = or_right (is_letter b) (is_digit b) e

letter_in_word : (b : ℕ) → is_letter b ≡ true → is_letter_or_digit b ≡ true
letter_in_word b e = or_left (is_letter b) (is_digit b) e

token_at_sound : (b : ℕ) (bytes : List ℕ) → Sound (b ∷ bytes) (token_of b (b ∷ bytes))
token_at_sound b bytes =
    let text : List ℕ = b ∷ bytes in
    let n = word_length text in
    sound_if text (is_digit b) (token_if n (number_of (take n text))) (cond (is_letter b) (token_if n (name_or_keyword (take n text))) (mark_if (mark_of text)))
    (λ e. token_sound text n (number_of (take n text)) (word_some b bytes (digit_in_word b e)) (word_within text) (spells_number (take n text) (number_of (take n text)) refl))
    (λ e. sound_if text (is_letter b) (token_if n (name_or_keyword (take n text))) (mark_if (mark_of text))
    (λ f. token_sound text n (name_or_keyword (take n text)) (word_some b bytes (letter_in_word b f)) (word_within text) (spells_word (take n text) (spelled_as keywords (take n text)) refl))
    (λ f. mark_sound text (mark_of text) (marks text)))

blank_sound : (b : ℕ) (bytes : List ℕ) → is_blank b ≡ true → Sound (b ∷ bytes) (gap 1)
blank_sound b bytes e = record { some = omega arith; within = omega arith; what = blank e }

pub sound : (b : ℕ) (bytes : List ℕ) → Sound (b ∷ bytes) (piece_of (b ∷ bytes))
sound b bytes =
    sound_if (b ∷ bytes) (is_blank b) (gap 1) (comment_or (comment_of (b ∷ bytes)) (token_of b (b ∷ bytes)))
    (λ e. blank_sound b bytes e)
    (λ e. comment_sound (b ∷ bytes) (token_of b (b ∷ bytes)) (token_at_sound b bytes))

-- the same, for a text that isn't empty
pub takes : (text : List ℕ) (p : Piece) → 0 < length text → piece_of text ≡ Ok p → Takes text p.kind p.length
takes [] p h e = absurd (omega (arith, h))
takes (b ∷ bytes) p h e = subst (Sound (b ∷ bytes)) e (sound b bytes)

pub some_of : (text : List ℕ) (r : Result Piece FaultKind) → r ≡ piece_of text → 0 < length text → IfOk r (λ p. 1 ≤ p.length)
some_of text (Ok p) e h = (takes text p h (sym e)).some
some_of text (Err f) e h = tt

pub within_of : (text : List ℕ) (r : Result Piece FaultKind) → r ≡ piece_of text → 0 < length text → IfOk r (λ p. p.length ≤ length text)
within_of text (Ok p) e h = (takes text p h (sym e)).within
within_of text (Err f) e h = tt
