-- Exchanges of two leaves, and the sum of channel distances that they lower.
use Rattle.std.specs.Prelude.{ℕ, zero, suc, ◌+◌, ◌==◌, Bool, nat_lt, List, [], ◌∷◌, map, Option, Some, None, option_map, slice_index_or, if◌then◌else◌}
use Rattle.std.specs.List.{sum_by}
use Rattle.pld_graph.specs.Design.{or_else}
use Rattle.pld_place.specs.declared.ends.Ends.{Ends}
use Rattle.pld_place.specs.Distance.{distance}

-- the leaf of the operator at a place in the order of declaration; the host, which has no place, stands at leaf 0
abbrev pub leaf_at : List ℕ → Option ℕ → ℕ
leaf_at leaves None = 0
leaf_at leaves (Some k) = slice_index_or leaves k 0

-- the distance of a channel's ends
abbrev pub reach : List ℕ → Ends → ℕ
reach leaves e = distance (leaf_at leaves e.from) (leaf_at leaves e.to)

-- the sum of channel distances
abbrev pub total : List Ends → List ℕ → ℕ
total channels leaves = sum_by (reach leaves) channels

abbrev pub traded : ℕ → ℕ → ℕ → ℕ
traded a b leaf = if leaf == a then b else if leaf == b then a else leaf

-- what stood at leaf a stands at leaf b, and what stood at b stands at a; either may be empty
abbrev pub exchanged : ℕ → ℕ → List ℕ → List ℕ
exchanged a b leaves = map (traded a b) leaves

-- the exchange of two leaves lowers the sum of channel distances
abbrev pub lowers : List Ends → List ℕ → ℕ → ℕ → Bool
lowers channels leaves a b = nat_lt (total channels (exchanged a b leaves)) (total channels leaves)

-- the first of these leaves whose exchange with leaf a lowers the sum
abbrev pub partner : List Ends → List ℕ → ℕ → List ℕ → Option ℕ
partner channels leaves a [] = None
partner channels leaves a (b ∷ bs) = if lowers channels leaves a b then Some b else partner channels leaves a bs

-- of these leaves, in their order, the first pair whose exchange lowers the sum: by the first leaf of the pair, then by the second
abbrev pub first_pair : List Ends → List ℕ → List ℕ → Option (ℕ × ℕ)
first_pair channels leaves [] = None
first_pair channels leaves (a ∷ more) = or_else (option_map (λ b. (a, b)) (partner channels leaves a more)) (first_pair channels leaves more)

-- what goes on from the leaves after an exchange, if there is one
abbrev pub follow : Option (ℕ × ℕ) → (List ℕ → List ℕ) → List ℕ → List ℕ
follow None more leaves = leaves
follow (Some p) more leaves = more (exchanged p.0 p.1 leaves)

-- the leaves after at most n times the first exchange that lowers the sum
abbrev pub improved : List Ends → List ℕ → ℕ → List ℕ → List ℕ
improved channels movable zero leaves = leaves
improved channels movable (suc n) leaves = follow (first_pair channels leaves movable) (improved channels movable n) leaves

abbrev pub one_more : Option (ℕ × ℕ) → (List ℕ → ℕ) → List ℕ → ℕ
one_more None more leaves = 0
one_more (Some p) more leaves = 1 + more (exchanged p.0 p.1 leaves)

-- how many exchanges are made
abbrev pub made : List Ends → List ℕ → ℕ → List ℕ → ℕ
made channels movable zero leaves = 0
made channels movable (suc n) leaves = one_more (first_pair channels leaves movable) (made channels movable n) leaves
