-- What an exchange of two leaves does to the sum of channel distances: only channels with an end at one of them count.
use Rattle.std.proofs.Common.{◌≡◌, ℕ, zero, suc, ◌+◌, ◌*◌, ◌/◌, ◌<◌, ◌≤◌, Bool, true, false, true≢false, ◌||◌, cond, if◌then◌else◌, List, [], ◌∷◌, filter, refl, sym, ap, ◌∙◌, arith, Option, Some, None}
use Rattle.std.specs.Prelude.{◌==◌, nat_lt, slice_index_or}
use Rattle.std.specs.List.{sum_by}
use Rattle.std.proofs.lemmas.List.Sums.{sum_by-cons}
use Rattle.std.proofs.lemmas.Bool.Decides.{nat_tests}
use Rattle.pld_place.proofs.Trading.{twice}
use Rattle.pld_place.specs.declared.ends.Ends.{Ends}
use Rattle.pld_place.specs.Distance.{level_over, distance}
use Rattle.pld_place.specs.Exchanges.{leaf_at, reach, total, traded, exchanged}
use Rattle.pld_place.specs.Touching.{touches, touching_at}

both_ways : (a b : Bool) → (a ≡ true → b ≡ true) → (b ≡ true → a ≡ true) → a ≡ b
both_ways true b p q = sym (p refl)
both_ways false true p q = q refl
both_ways false false p q = refl

eq_symm : (a b : ℕ) → (a == b) ≡ (b == a)
eq_symm a b = both_ways (a == b) (b == a) (λ h. grind (arith, nat_tests, h)) (λ h. grind (arith, nat_tests, h))

level_symm : (n a b : ℕ) → level_over n a b ≡ level_over n b a
level_symm zero a b = refl
level_symm (suc n) a b = λ i. if eq_symm a b i then 0 else 1 + level_symm n (a / 2) (b / 2) i

pub distance_symm : (a b : ℕ) → distance a b ≡ distance b a
unfolding distance
distance_symm a b = ap (λ l. 2 * l) (level_symm 6 a b)

-- ---- an exchange of two leaves

is_same : (a b : ℕ) → (a == b) ≡ true → a ≡ b
is_same a b h = grind (arith, nat_tests, h)

same_reach : (a b p q : ℕ) (pa pb qa qb : Bool) → (p == a) ≡ pa → (p == b) ≡ pb → (q == a) ≡ qa → (q == b) ≡ qb → a < b → (pa || qa) ≡ (pb || qb)
    → distance (if pa then b else if pb then a else p) (if qa then b else if qb then a else q) ≡ distance p q
same_reach a b p q true true qa qb e f g h less same = absurd (omega (arith, less, is_same p a e, is_same p b f))
same_reach a b p q pa pb true true e f g h less same = absurd (omega (arith, less, is_same q a g, is_same q b h))
same_reach a b p q true false true false e f g h less same = absurd (true≢false same)
same_reach a b p q true false false false e f g h less same = absurd (true≢false same)
same_reach a b p q true false false true e f g h less same = distance_symm b a ∙ (λ i. distance (sym (is_same p a e) i) (sym (is_same q b h) i))
same_reach a b p q false true false true e f g h less same = absurd (true≢false (sym same))
same_reach a b p q false true false false e f g h less same = absurd (true≢false (sym same))
same_reach a b p q false true true false e f g h less same = distance_symm a b ∙ (λ i. distance (sym (is_same p b f) i) (sym (is_same q a g) i))
same_reach a b p q false false true false e f g h less same = absurd (true≢false same)
same_reach a b p q false false false true e f g h less same = absurd (true≢false (sym same))
same_reach a b p q false false false false e f g h less same = refl

-- a leaf of an operator after an exchange
host_stays : (a b : ℕ) → 1 ≤ a → 1 ≤ b → 0 ≡ traded a b 0
host_stays a b first second =
    let other : (0 == a) ≡ false = grind (arith, nat_tests, first) in
    let another : (0 == b) ≡ false = grind (arith, nat_tests, second) in
    sym (ap (λ t. if t then b else if 0 == b then a else 0) other ∙ ap (λ t. if t then a else 0) another)

pub moved : (leaves : List ℕ) (a b k : ℕ) → 1 ≤ a → 1 ≤ b → slice_index_or (exchanged a b leaves) k 0 ≡ traded a b (slice_index_or leaves k 0)
moved [] a b k first second = host_stays a b first second
moved (l ∷ ls) a b zero first second = refl
moved (l ∷ ls) a b (suc k) first second = moved ls a b k first second

pub leaf_moved : (leaves : List ℕ) (a b : ℕ) (p : Option ℕ) → 1 ≤ a → 1 ≤ b → leaf_at (exchanged a b leaves) p ≡ traded a b (leaf_at leaves p)
leaf_moved leaves a b None first second = host_stays a b first second
leaf_moved leaves a b (Some k) first second = moved leaves a b k first second

pub reach_moved : (leaves : List ℕ) (a b : ℕ) (e : Ends) → 1 ≤ a → 1 ≤ b
    → reach (exchanged a b leaves) e ≡ distance (traded a b (leaf_at leaves e.from)) (traded a b (leaf_at leaves e.to))
reach_moved leaves a b e first second = λ i. distance (leaf_moved leaves a b e.from first second i) (leaf_moved leaves a b e.to first second i)

-- a channel with an end at each of both leaves, or at none, keeps its distance
keeps_reach : (leaves : List ℕ) (a b : ℕ) (e : Ends) → 1 ≤ a → a < b → touches leaves a e ≡ touches leaves b e → reach (exchanged a b leaves) e ≡ reach leaves e
keeps_reach leaves a b e first less same =
    reach_moved leaves a b e first (omega (arith, first, less))
    ∙ same_reach a b (leaf_at leaves e.from) (leaf_at leaves e.to) _ _ _ _ refl refl refl refl less same

tally : (x y : Bool) (d d' : ℕ) → (x ≡ y → d' ≡ d) → d' + cond x d 0 + cond y d 0 ≡ d + cond x d' 0 + cond y d' 0
tally true true d d' same = let s = same refl in omega (arith, s)
tally true false d d' same = omega arith
tally false true d d' same = omega arith
tally false false d d' same = let s = same refl in omega (arith, s)

-- ---- sums

filtered : {X : Type 0} (f : X → ℕ) (x : X) (xs : List X) (b : Bool) → sum_by f (cond b (x ∷ xs) xs) ≡ cond b (f x) 0 + sum_by f xs
filtered f x xs true = sum_by-cons f x xs
filtered f x xs false = omega arith

balance : {X : Type 0} (f g : X → ℕ) (p q : X → Bool) → ((x : X) → g x + cond (p x) (f x) 0 + cond (q x) (f x) 0 ≡ f x + cond (p x) (g x) 0 + cond (q x) (g x) 0) → (xs : List X)
    → sum_by g xs + sum_by f (filter p xs) + sum_by f (filter q xs) ≡ sum_by f xs + sum_by g (filter p xs) + sum_by g (filter q xs)
balance f g p q each [] = refl
balance f g p q each (x ∷ xs) =
    omega (
      arith,
      each x,
      balance f g p q each xs,
      sum_by-cons f x xs,
      sum_by-cons g x xs,
      filtered f x (filter p xs) (p x),
      filtered f x (filter q xs) (q x),
      filtered g x (filter p xs) (p x),
      filtered g x (filter q xs) (q x),
    )

pub exchange_tells : (channels : List Ends) (leaves : List ℕ) (a b : ℕ) → 1 ≤ a → a < b
    → total channels (exchanged a b leaves) + total (touching_at channels leaves a) leaves + total (touching_at channels leaves b) leaves
    ≡ total channels leaves + total (touching_at channels leaves a) (exchanged a b leaves) + total (touching_at channels leaves b) (exchanged a b leaves)
exchange_tells channels leaves a b first less =
    balance (reach leaves) (reach (exchanged a b leaves)) (touches leaves a) (touches leaves b)
    (λ e. tally (touches leaves a e) (touches leaves b e) (reach leaves e) (reach (exchanged a b leaves) e) (keeps_reach leaves a b e first less))
    channels

same_order : (x y u v : ℕ) → u + y ≡ v + x → nat_lt x y ≡ nat_lt u v
same_order x y u v e = both_ways (nat_lt x y) (nat_lt u v) (λ h. grind (arith, nat_tests, e, h)) (λ h. grind (arith, nat_tests, e, h))

-- what the channels at the two leaves tell
pub told_by_two : (channels : List Ends) (leaves : List ℕ) (a b : ℕ) → 1 ≤ a → a < b
    → nat_lt (total (touching_at channels leaves a) (exchanged a b leaves) + total (touching_at channels leaves b) (exchanged a b leaves)) (total (touching_at channels leaves a) leaves + total (touching_at channels leaves b) leaves)
    ≡ nat_lt (total channels (exchanged a b leaves)) (total channels leaves)
told_by_two channels leaves a b first less =
    let t = exchange_tells channels leaves a b first less in
    same_order _ _ _ _ (omega (arith, t))

-- ---- which channels have an end at a leaf, after an exchange

own_test : (x y : ℕ) → x ≡ y → (x == y) ≡ true
own_test x y e = grind (arith, nat_tests, e)

stands_there : (a b p leaf : ℕ) → a < b → (traded a b p == leaf) ≡ (p == traded a b leaf)
stands_there a b p leaf less = both_ways (traded a b p == leaf) (p == traded a b leaf)
    (λ h. own_test p (traded a b leaf) (sym (twice a b p) ∙ ap (traded a b) (is_same (traded a b p) leaf h)))
    (λ h. own_test (traded a b p) leaf (ap (traded a b) (is_same p (traded a b leaf) h) ∙ twice a b leaf))

touches_moved : (leaves : List ℕ) (a b leaf : ℕ) (e : Ends) → 1 ≤ a → a < b → touches (exchanged a b leaves) leaf e ≡ touches leaves (traded a b leaf) e
touches_moved leaves a b leaf e first less =
    let second : 1 ≤ b = omega (arith, first, less) in
    (λ i. (leaf_moved leaves a b e.from first second i == leaf) || (leaf_moved leaves a b e.to first second i == leaf))
    ∙ (λ i. stands_there a b (leaf_at leaves e.from) leaf less i || stands_there a b (leaf_at leaves e.to) leaf less i)

pub touching_moved : (channels : List Ends) (leaves : List ℕ) (a b leaf : ℕ) → 1 ≤ a → a < b → touching_at channels (exchanged a b leaves) leaf ≡ touching_at channels leaves (traded a b leaf)
touching_moved channels leaves a b leaf first less = ap (λ t. filter t channels) (λ i e. touches_moved leaves a b leaf e first less i)
