-- How far a reply has grown where there is no room for more of it.
use Rattle.std.proofs.Common.{◌≡◌, ℕ, zero, suc, ◌+◌, ◌-◌, ◌<◌, ◌≤◌, List, [], ◌∷◌, length, length-append, take, subst, arith}
use Rattle.std.specs.Prelude.{Result, Ok, Err, OnErr, decimal, get_or}
use Rattle.fabric_run.specs.Reply.{spaced, lines_below, name_in}

-- the element at a place, which is given whatever stands past the end
pub name_found : (names : List (List ℕ)) (k : ℕ) (name : List ℕ) → k < length names → name ≡ get_or names k name → name ≡ name_in names k
name_found [] k name h e = absurd (omega (arith, h))
name_found (x ∷ names) zero name h e = e
name_found (x ∷ names) (suc k) name h e = name_found names k name (omega (arith, h)) e

pub on_err_of : {A E : Type 0} {P Q : Type 0} (r : Result A E) → OnErr r P → (P → Q) → OnErr r Q
on_err_of (Ok x) h f = tt
on_err_of (Err e) h f = f h

pub on_err : {A E : Type 0} {P : Type 0} (r : Result A E) → P → OnErr r P
on_err (Ok x) h = tt
on_err (Err e) h = h

one_more : (line : ℕ → List ℕ) (k n d : ℕ) → n ≡ d + k → length (lines_below line k) + length (line k) ≤ length (lines_below line (suc n))
one_more line k n zero e =
    let same : k ≡ n = omega (arith, e) in
    subst (λ m. length (lines_below line k) + length (line k) ≤ length (lines_below line (suc m))) same (omega (arith, length-append (lines_below line k) (line k)))
one_more line k zero (suc d) e = omega (arith, e)
one_more line k (suc n) (suc d) e = omega (arith, one_more line k n d (omega (arith, e)), length-append (lines_below line (suc n)) (line (suc n)))

-- the lines before one, and that one, are no longer than all lines
pub lines_grow : (line : ℕ → List ℕ) (k n : ℕ) → k < n → length (lines_below line k) + length (line k) ≤ length (lines_below line n)
lines_grow line k zero h = omega (arith, h)
lines_grow line k (suc n) h = one_more line k n (n - k) (omega (arith, h))

-- the words before one, and that one, are no longer than all words
pub words_grow : (words : List ℕ) (i d : ℕ) → i < length words → length (spaced (take i words)) + suc (length (decimal (get_or words i d))) ≤ length (spaced words)
words_grow [] i d h = omega (arith, h)
words_grow (w ∷ words) zero d h = omega (arith, length-append (32 ∷ decimal w) (spaced words))
words_grow (w ∷ words) (suc i) d h =
    omega (arith, words_grow words i d (omega (arith, h)), length-append (32 ∷ decimal w) (spaced words), length-append (32 ∷ decimal w) (spaced (take i words)))
