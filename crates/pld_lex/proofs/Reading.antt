-- A scanned text reads as its tokens.
use Rattle.std.proofs.Common.{◌≡◌, ℕ, zero, suc, ◌+◌, ◌-◌, ◌<◌, ◌≤◌, List, [], ◌∷◌, ◌++◌, length, take, drop, Option, Some, None, Bool, true, false, cond, ◌⊎◌, inl, inr, refl, sym, ap, subst, ◌∙◌, arith}
use Rattle.std.specs.Prelude.{Ok, Err, slice_get, nat_lt}
use Rattle.std.proofs.lemmas.Bool.{cases_lt}
use Rattle.pld_base.specs.declared.fault.FaultKind.TheVariants.{TooLarge}
use Rattle.pld_base.specs.declared.fault.Limit.TheVariants as limit
use Rattle.std.specs.declared.result.Result.{Result}
use Rattle.std.proofs.lemmas.List.{length-drop}
use Rattle.std.proofs.Math.Seq.{take-add, take-length}
use Rattle.pld_base.specs.declared.event.Place.{Place}
use Rattle.pld_base.specs.declared.fault.FaultKind.{FaultKind}
use Rattle.pld_lex.specs.declared.token.TokenKind.{TokenKind}
use Rattle.pld_lex.specs.declared.token.Token.{Token}
use Rattle.pld_lex.specs.declared.piece.Piece.{Piece}
use Rattle.pld_lex.specs.Lexed.{Found, joined, token_from, after, place_after, first_place, piece_of, scan, few, few_of, fault_at, lexed}
use Rattle.pld_lex.specs.Reads.{IsSpelling, AreSeparators, none, more, span, Reads}
use Rattle.pld_lex.proofs.Scans.{nothing_joined, at_piece, at_fault, drop_on}
use Rattle.pld_lex.proofs.Spans.{IsPiece, takes}

abbrev Faulty : Found → Type 0
Faulty (Ok ts) = ⊥
Faulty (Err f) = Unit {0}

abbrev tokens_in : Found → List Token
tokens_in (Ok ts) = ts
tokens_in (Err f) = []

place_on : (at : Place) (xs ys : List ℕ) → place_after (place_after at xs) ys ≡ place_after at (xs ++ ys)
place_on at [] ys = refl
place_on at (x ∷ xs) ys = place_on (after at x) xs ys

-- what stands at byte `start`
abbrev at_byte : List ℕ → ℕ → Found
at_byte text start = scan 0 start (place_after first_place (take start text)) (drop start text)

next_byte : (text : List ℕ) (start n : ℕ) → scan 0 (start + n) (place_after (place_after first_place (take start text)) (take n (drop start text))) (drop n (drop start text)) ≡ at_byte text (start + n)
next_byte text start n =
    ap (λ p. scan 0 (start + n) p (drop n (drop start text))) (place_on first_place (take start text) (take n (drop start text)) ∙ ap (place_after first_place) (sym (take-add start n text)))
    ∙ ap (scan 0 (start + n) (place_after first_place (take (start + n) text))) (sym (drop_on start n text))

span_more : (text : List ℕ) (from start n : ℕ) → from ≤ start → span text from (start + n) ≡ span text from start ++ take n (drop start text)
span_more text from start n h =
    let e : (start + n) - from ≡ (start - from) + n = omega (arith, h) in
    let f : from + (start - from) ≡ start = omega (arith, h) in
    ap (λ k. take k (drop from text)) e ∙ take-add (start - from) n (drop from text)
    ∙ ap (λ b. take (start - from) (drop from text) ++ take n b) (sym (drop_on from (start - from) text) ∙ ap (λ k. drop k text) f)

span_all : (text : List ℕ) (from start : ℕ) → from ≤ start → length text ≤ start → start ≤ length text → span text from start ≡ drop from text
span_all text from start h k l =
    let e : start - from ≡ length text - from = omega (arith, h, k, l) in
    ap (λ n. take n (drop from text)) (e ∙ sym (length-drop from text)) ∙ take-length (drop from text)

span_own : (text : List ℕ) (start n : ℕ) → span text start (start + n) ≡ take n (drop start text)
span_own text start n = let e : (start + n) - start ≡ n = omega arith in ap (λ k. take k (drop start text)) e

span_none : (text : List ℕ) (start : ℕ) → span text start start ≡ []
span_none text start = let e : start - start ≡ 0 = omega arith in ap (λ k. take k (drop start text)) e

-- the text reads so from here on, whatever separators came before
abbrev ReadsFrom : List ℕ → ℕ → Type 0
ReadsFrom text start = (from : ℕ) (ts : List Token) → from ≤ start → AreSeparators (span text from start) → at_byte text start ≡ Ok ts → Reads text from ts

behind_token : (text : List ℕ) (from start n : ℕ) (kind : TokenKind) (ts : List Token) (o : Found) → from ≤ start → AreSeparators (span text from start)
    → 1 ≤ n → start + n ≤ length text → IsSpelling (take n (drop start text)) kind → ReadsFrom text (start + n) → at_byte text (start + n) ≡ o
    → joined (token_from start (place_after first_place (take start text)) (Some kind) n) o ≡ Ok ts → Reads text from ts
behind_token text from start n kind ts (Err f) h s k w i again e j = absurd (subst Faulty j tt)
behind_token text from start n kind ts (Ok rest) h s k w i again e j =
    subst (Reads text from) (ap tokens_in j) (
      record { apart = h; between = s; some = omega (arith, k); within = w; spelled = subst (λ x. IsSpelling x kind) (sym (span_own text start n)) i; at = refl },
      again (start + n) rest (omega arith) (subst AreSeparators (sym (span_none text (start + n))) none) e,
    )

behind_piece : (text : List ℕ) (from start n : ℕ) (kind : Option TokenKind) (ts : List Token) → from ≤ start → AreSeparators (span text from start)
    → 1 ≤ n → start + n ≤ length text → IsPiece kind (take n (drop start text)) → ReadsFrom text (start + n)
    → joined (token_from start (place_after first_place (take start text)) kind n) (at_byte text (start + n)) ≡ Ok ts → Reads text from ts
behind_piece text from start n None ts h s k w i again j =
    again from ts (omega (arith, h)) (subst AreSeparators (sym (span_more text from start n h)) (more s i)) (sym (nothing_joined (at_byte text (start + n))) ∙ j)
behind_piece text from start n (Some kind) ts h s k w i again j =
    behind_token text from start n kind ts (at_byte text (start + n)) h s k w i again refl j

reads_piece : (text : List ℕ) (start : ℕ) (r : Result Piece FaultKind) → start < length text → piece_of (drop start text) ≡ r
    → ((n : ℕ) → 1 ≤ n → start + n ≤ length text → ReadsFrom text (start + n)) → ReadsFrom text start
reads_piece text start (Err k) l e again from ts h s j =
    let left : length (drop start text) ≡ length text - start = length-drop start text in
    absurd (subst Faulty (sym (at_fault start (place_after first_place (take start text)) (drop start text) k [] (omega (arith, left, l)) e) ∙ nothing_joined (at_byte text start) ∙ j) tt)
reads_piece text start (Ok p) l e again from ts h s j =
    let n = p.length in
    let left : length (drop start text) ≡ length text - start = length-drop start text in
    let some : 0 < length (drop start text) = omega (arith, left, l) in
    let t = takes (drop start text) p some e in
    let k : 1 ≤ n = t.some in
    let w : n ≤ length (drop start text) = t.within in
    let whole : start + n ≤ length text = omega (arith, w, left, l) in
    behind_piece text from start n p.kind ts h s k whole t.what (again n k whole)
    (ap (joined (token_from start (place_after first_place (take start text)) p.kind n)) (sym (next_byte text start n))
    ∙ sym (at_piece start (place_after first_place (take start text)) (drop start text) p some e k) ∙ j)

drop_all : (text : List ℕ) (start : ℕ) → length text ≤ start → drop start text ≡ []
drop_all [] zero h = refl
drop_all [] (suc n) h = refl
drop_all (b ∷ text) zero h = absurd (omega (arith, h))
drop_all (b ∷ text) (suc n) h = drop_all text n (omega (arith, h))

reads_end : (text : List ℕ) (start : ℕ) → length text ≤ start → start ≤ length text → ReadsFrom text start
reads_end text start h k from ts l s j =
    let e : at_byte text start ≡ Ok [] = ap (scan 0 start (place_after first_place (take start text))) (drop_all text start h) in
    subst (Reads text from) (ap tokens_in (sym e ∙ j)) (subst AreSeparators (span_all text from start l h k) s)

by_order : (text : List ℕ) (start : ℕ) → start ≤ length text → ((n : ℕ) → 1 ≤ n → start + n ≤ length text → ReadsFrom text (start + n)) → (start < length text) ⊎ (length text ≤ start) → ReadsFrom text start
by_order text start k again (inl l) = reads_piece text start (piece_of (drop start text)) l refl again
by_order text start k again (inr l) = reads_end text start l k

reads : (fuel start : ℕ) (text : List ℕ) → length text ≤ start + fuel → start ≤ length text → ReadsFrom text start
reads zero start text h k = reads_end text start (omega (arith, h)) k
reads (suc fuel) start text h k = by_order text start k (λ n some w. reads fuel (start + n) text (omega (arith, h, some)) w) (cases_lt start (length text))

few_tokens : (ts us : List Token) (o : Option Token) → few_of o ts ≡ Ok us → ts ≡ us
few_tokens ts us None e = ap tokens_in e
few_tokens ts us (Some t) e = absurd (subst Faulty e tt)

unlimited : (o : Found) (ts : List Token) → few o ≡ Ok ts → o ≡ Ok ts
unlimited (Ok us) ts e = ap Ok (few_tokens us ts (slice_get us 4096) e)
unlimited (Err f) ts e = absurd (subst Faulty e tt)

pub text_reads : (text : List ℕ) (ts : List Token) → lexed text ≡ Ok ts → Reads text 0 ts
text_reads text ts e = sound_lexed (nat_lt 65536 (length text)) e
  where
    sound_lexed : (t : Bool) → cond t (Err (fault_at (TooLarge limit.Text) first_place)) (few (scan 0 0 first_place text)) ≡ Ok ts → Reads text 0 ts
    sound_lexed true e = absurd (subst Faulty e tt)
    sound_lexed false e = reads (length text) 0 text (omega arith) (omega arith) 0 ts (omega arith) none (unlimited (scan 0 0 first_place text) ts e)
