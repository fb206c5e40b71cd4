use Rattle.std.proofs.Common.{◌≡◌, ℕ, ◌+◌, ◌-◌, Bool, false, List, ◌∷◌, ◌++◌, length, drop, ap, ◌∙◌, arith}
use Rattle.std.specs.Prelude.{replicate}
use Rattle.std.proofs.lemmas.List.{drop-replicate}
use Rattle.net_switch.specs.declared.packet.Pattern.{Pattern}
use Rattle.pld_graph.proofs.looks.pattern_of.Goals as goal

-- what stands behind the levels
behind : (n m : ℕ) → m ≡ n → drop m (replicate 6 false) ≡ replicate (6 - n) false
behind n m e = ap (λ k. drop k (replicate 6 false)) e ∙ drop-replicate n 6 false

pattern_is : List Bool → List Bool → Pattern
pattern_is front rest = record { two = false ∷ front ++ rest }

pub returns : goal.returns
unfolding pattern_is
returns c =
    let n = length c.args.levels.now in
    ap (λ l. pattern_is l (drop (n + 1 - 1) (replicate 6 false))) c.copy_from_slice.ensures.after ∙ ap (pattern_is c.args.levels.now) (behind n (n + 1 - 1) (omega arith))
