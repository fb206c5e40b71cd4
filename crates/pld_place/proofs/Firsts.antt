-- Exchanges one after the other.
use Rattle.std.proofs.Common.{◌≡◌, ℕ, suc, List, ap, ◌∙◌, Some}
use Rattle.pld_place.specs.declared.ends.Ends.{Ends}
use Rattle.pld_place.specs.Exchanges.{first_pair, exchanged, follow, improved}

-- an exchange is made
pub more : (channels : List Ends) (leaves ms : List ℕ) (m n : ℕ) (p : ℕ × ℕ) → m ≡ suc n → first_pair channels leaves ms ≡ Some p → improved channels ms m leaves ≡ improved channels ms n (exchanged p.0 p.1 leaves)
more channels leaves ms m n p is found = ap (λ x. improved channels ms x leaves) is ∙ ap (λ o. follow o (improved channels ms n) leaves) found
