-- Moves of a page, and where it stands at an operator's end.
use Rattle.std.proofs.Common.{◌≡◌, ℕ, zero, suc, ◌+◌, ◌≤◌, refl, ap, ◌∙◌, arith}
use Rattle.pld_base.specs.Pages.{Standing, Going, Ended, Waits}
use Rattle.pld_base.specs.Process.{TraceEnd, Returned, Starved, Cut}

-- k moves
abbrev pub moves : {P : Type 0} → (P → P) → ℕ → P → P
moves move zero s = s
moves move (suc k) s = moves move k (move s)

pub moves-add : {P : Type 0} (move : P → P) (j k : ℕ) (s : P) → moves move (j + k) s ≡ moves move k (moves move j s)
moves-add move zero k s = let e : 0 + k ≡ k = omega arith in ap (λ i. moves move i s) e
moves-add move (suc j) k s =
    let e : suc j + k ≡ suc (j + k) = omega arith in
    ap (λ i. moves move i s) e ∙ moves-add move j k (move s)

-- a page that makes no move stays
pub moves_stay : {P : Type 0} (move : P → P) (s : P) → move s ≡ s → (k : ℕ) → moves move k s ≡ s
moves_stay move s e zero = refl
moves_stay move s e (suc k) = ap (moves move k) e ∙ moves_stay move s e k

-- a page stands so at an operator's end; a run that is cut after n turns has made n moves or more
abbrev pub EndsAt : Standing → ℕ → ℕ → TraceEnd → Type 0
EndsAt s n k Returned = s ≡ Ended
EndsAt s n k (Starved p) = s ≡ Waits p
EndsAt s n k Cut = (s ≡ Going) × (n ≤ k)
