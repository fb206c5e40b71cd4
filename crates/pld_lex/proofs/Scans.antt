-- A scan, by the pieces that it takes.
use Rattle.std.proofs.Common.{◌≡◌, ℕ, zero, suc, pred, ◌+◌, ◌<◌, ◌≤◌, List, [], ◌∷◌, ◌++◌, length, take, drop, refl, sym, ap, ◌∙◌, arith, append_assoc}
use Rattle.std.specs.Prelude.{Ok, Err}
use Rattle.std.proofs.lemmas.Bool.Decides.{nat_tests}
use Rattle.pld_base.specs.declared.event.Place.{Place}
use Rattle.pld_base.specs.declared.fault.FaultKind.{FaultKind}
use Rattle.pld_lex.specs.declared.token.Token.{Token}
use Rattle.pld_lex.specs.declared.piece.Piece.{Piece}
use Rattle.pld_lex.specs.Lexed.{Found, joined, followed, token_from, after, place_after, piece_of, scan, fault_at}

pub nothing_joined : (o : Found) → joined [] o ≡ o
nothing_joined (Ok ts) = refl
nothing_joined (Err f) = refl

pub joined-append : (xs ys : List Token) (o : Found) → joined (xs ++ ys) o ≡ joined xs (joined ys o)
joined-append xs ys (Ok ts) = ap Ok (append_assoc xs ys ts)
joined-append xs ys (Err f) = refl

-- the bytes of a piece are skipped
pub skipped : (n start : ℕ) (at : Place) (bytes : List ℕ) → scan n start at bytes ≡ scan 0 (start + n) (place_after at (take n bytes)) (drop n bytes)
skipped zero start at bytes = ap (λ s. scan 0 s at bytes) (omega arith)
skipped (suc n) start at [] = refl
skipped (suc n) start at (b ∷ bytes) =
    skipped n (suc start) (after at b) bytes ∙ ap (λ s. scan 0 s (place_after (after at b) (take n bytes)) (drop n bytes)) (omega arith)

behind : (n start : ℕ) (at : Place) (b : ℕ) (bytes : List ℕ) → 1 ≤ n → scan (pred n) (suc start) (after at b) bytes ≡ scan 0 (start + n) (place_after at (take n (b ∷ bytes))) (drop n (b ∷ bytes))
behind zero start at b bytes h = absurd (omega (arith, h))
behind (suc n) start at b bytes h =
    skipped n (suc start) (after at b) bytes ∙ ap (λ s. scan 0 s (place_after (after at b) (take n bytes)) (drop n bytes)) (omega arith)

pub at_piece : (start : ℕ) (at : Place) (bytes : List ℕ) (p : Piece) → 0 < length bytes → piece_of bytes ≡ Ok p → 1 ≤ p.length
    → scan 0 start at bytes ≡ joined (token_from start at p.kind p.length) (scan 0 (start + p.length) (place_after at (take p.length bytes)) (drop p.length bytes))
at_piece start at [] p h e s = absurd (omega (arith, h))
at_piece start at (b ∷ bytes) p h e s =
    ap (λ r. followed start at r (λ n. scan (pred n) (suc start) (after at b) bytes)) e
    ∙ ap (joined (token_from start at p.kind p.length)) (behind p.length start at b bytes s)

pub at_fault : (start : ℕ) (at : Place) (bytes : List ℕ) (k : FaultKind) (front : List Token) → 0 < length bytes → piece_of bytes ≡ Err k
    → joined front (scan 0 start at bytes) ≡ Err (fault_at k at)
at_fault start at [] k front h e = absurd (omega (arith, h))
at_fault start at (b ∷ bytes) k front h e =
    ap (λ r. joined front (followed start at r (λ n. scan (pred n) (suc start) (after at b) bytes))) e

-- one turn of the loop
pub step : (start : ℕ) (at : Place) (bytes : List ℕ) (p : Piece) (front new : List Token) (all : Found) → 0 < length bytes → piece_of bytes ≡ Ok p → 1 ≤ p.length
    → new ≡ front ++ token_from start at p.kind p.length → joined front (scan 0 start at bytes) ≡ all
    → joined new (scan 0 (start + p.length) (place_after at (take p.length bytes)) (drop p.length bytes)) ≡ all
step start at bytes p front new all h e s n i =
    ap (λ x. joined x (scan 0 (start + p.length) (place_after at (take p.length bytes)) (drop p.length bytes))) n
    ∙ joined-append front (token_from start at p.kind p.length) (scan 0 (start + p.length) (place_after at (take p.length bytes)) (drop p.length bytes))
    ∙ ap (joined front) (sym (at_piece start at bytes p h e s)) ∙ i

drop_none : {A : Type 0} (n : ℕ) → drop {A = A} n [] ≡ []
drop_none zero = refl
drop_none (suc n) = refl

pub drop_on : {A : Type 0} (m n : ℕ) (xs : List A) → drop (m + n) xs ≡ drop n (drop m xs)
drop_on zero n xs = ap (λ k. drop k xs) (omega arith)
drop_on (suc m) n [] = drop_none (suc m + n) ∙ sym (drop_none n)
drop_on (suc m) n (x ∷ xs) = let e : suc m + n ≡ suc (m + n) = omega arith in ap (λ k. drop k (x ∷ xs)) e ∙ drop_on m n xs

-- the same, with what the loop has then
pub turn : (start : ℕ) (at next : Place) (bytes rest : List ℕ) (p : Piece) (front new : List Token) (all : Found) → 0 < length bytes → piece_of bytes ≡ Ok p → 1 ≤ p.length
    → new ≡ front ++ token_from start at p.kind p.length → joined front (scan 0 start at bytes) ≡ all → next ≡ place_after at (take p.length bytes) → rest ≡ drop p.length bytes
    → joined new (scan 0 (start + p.length) next rest) ≡ all
turn start at next bytes rest p front new all h e s m i a r =
    ap (λ x. joined new (scan 0 (start + p.length) x rest)) a
    ∙ ap (λ x. joined new (scan 0 (start + p.length) (place_after at (take p.length bytes)) x)) r
    ∙ step start at bytes p front new all h e s m i

-- a place is no further on than its bytes
after_line : (at : Place) (b n : ℕ) → at.line ≤ suc n → (after at b).line ≤ suc (suc n)
after_line at b n h = grind (arith, nat_tests)

after_column : (at : Place) (b n : ℕ) → at.column ≤ suc n → (after at b).column ≤ suc (suc n)
after_column at b n h = grind (arith, nat_tests)

pub line_within : (at : Place) (bytes : List ℕ) (n : ℕ) → at.line ≤ suc n → (place_after at bytes).line ≤ suc (n + length bytes)
line_within at [] n h = omega (arith, h)
line_within at (b ∷ bytes) n h = let i = line_within (after at b) bytes (suc n) (after_line at b n h) in omega (arith, i)

pub column_within : (at : Place) (bytes : List ℕ) (n : ℕ) → at.column ≤ suc n → (place_after at bytes).column ≤ suc (n + length bytes)
column_within at [] n h = omega (arith, h)
column_within at (b ∷ bytes) n h = let i = column_within (after at b) bytes (suc n) (after_column at b n h) in omega (arith, i)
