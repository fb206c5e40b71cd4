-- One step of each loop over leaves.
use Rattle.std.proofs.Common.{◌≡◌, ℕ, zero, suc, ◌+◌, ◌/◌, ◌<◌, Bool, true, false, cond, not, if◌then◌else◌, List, [], ◌∷◌, ◌++◌, length, map, filter, take, drop, get_or, set, refl, sym, ap, ◌∙◌, arith, Option, Some, None}
use Rattle.std.specs.Prelude.{◌==◌, slice_index_or}
use Rattle.std.specs.List.{range_with_len}
use Rattle.std.proofs.lemmas.List.{append-nil, map-set, map_more, length-map}
use Rattle.std.proofs.lemmas.Option.{none-some, same_Some}
use Rattle.pld_base.specs.declared.event.PageId.{PageId}
use Rattle.pld_place.specs.Distance.{level_over}
use Rattle.pld_place.specs.Exchanges.{traded, exchanged}
use Rattle.pld_place.specs.Placing.{numbers, is_among, least_free, movable_among, pinned_leaves}

-- ---- levels

pub level_up : (m n a b : ℕ) → m ≡ suc n → (a == b) ≡ false → level_over m a b ≡ 1 + level_over n (a / 2) (b / 2)
level_up m n a b more e = ap (λ k. level_over k a b) more ∙ ap (λ t. if t then 0 else 1 + level_over n (a / 2) (b / 2)) e

-- ---- free leaves

pub not_free : (taken : List ℕ) (leaf m n : ℕ) → m ≡ suc n → is_among taken leaf ≡ true → least_free taken leaf m ≡ least_free taken (leaf + 1) n
not_free taken leaf m n more e = ap (least_free taken leaf) more ∙ ap (λ t. if t then least_free taken (leaf + 1) n else leaf) e

-- ---- leaves without a pin

range_more : (p : ℕ → Bool) (first count : ℕ) → filter p (range_with_len first (count + 1)) ≡ filter p (range_with_len first count) ++ cond (p (first + count)) ((first + count) ∷ []) []
range_more p first zero = ap (λ n. cond (p n) (n ∷ []) []) (omega arith)
range_more p first (suc count) =
    let step : suc count + 1 ≡ suc (count + 1) = omega arith in
    ap (λ c. filter p (range_with_len first c)) step ∙ by (p first) (range_more p (first + 1) count)
  where
    last : first + 1 + count ≡ first + suc count
    last = omega arith

    by : (t : Bool) → filter p (range_with_len (first + 1) (count + 1)) ≡ filter p (range_with_len (first + 1) count) ++ cond (p (first + 1 + count)) ((first + 1 + count) ∷ []) []
        → cond t (first ∷ filter p (range_with_len (first + 1) (count + 1))) (filter p (range_with_len (first + 1) (count + 1)))
        ≡ cond t (first ∷ filter p (range_with_len (first + 1) count)) (filter p (range_with_len (first + 1) count)) ++ cond (p (first + suc count)) ((first + suc count) ∷ []) []
    by true rest = ap (λ xs. first ∷ xs) (rest ∙ ap (λ n. filter p (range_with_len (first + 1) count) ++ cond (p n) (n ∷ []) []) last)
    by false rest = rest ∙ ap (λ n. filter p (range_with_len (first + 1) count) ++ cond (p n) (n ∷ []) []) last

pub leaf_added : (pinned : List ℕ) (n leaf m : ℕ) → leaf ≡ n + 1 → m ≡ n + 1 → is_among pinned leaf ≡ false → movable_among pinned m ≡ movable_among pinned n ++ leaf ∷ []
leaf_added pinned n leaf m e f free =
    let same : 1 + n ≡ leaf = omega (arith, e) in
    ap (movable_among pinned) f ∙ range_more (λ l. not (is_among pinned l)) 1 n
    ∙ ap (λ l. movable_among pinned n ++ cond (not (is_among pinned l)) (l ∷ []) []) same
    ∙ ap (λ t. movable_among pinned n ++ cond (not t) (leaf ∷ []) []) free

pub leaf_left : (pinned : List ℕ) (n leaf m : ℕ) → leaf ≡ n + 1 → m ≡ n + 1 → is_among pinned leaf ≡ true → movable_among pinned m ≡ movable_among pinned n
leaf_left pinned n leaf m e f taken =
    let same : 1 + n ≡ leaf = omega (arith, e) in
    ap (movable_among pinned) f ∙ range_more (λ l. not (is_among pinned l)) 1 n
    ∙ ap (λ l. movable_among pinned n ++ cond (not (is_among pinned l)) (l ∷ []) []) same
    ∙ ap (λ t. movable_among pinned n ++ cond (not t) (leaf ∷ []) []) taken ∙ append-nil (movable_among pinned n)

-- ---- an exchange, leaf by leaf

-- the first k leaves are exchanged
abbrev pub half : ℕ → ℕ → List ℕ → ℕ → List ℕ
half a b leaves k = exchanged a b (take k leaves) ++ drop k leaves

half_more : (a b : ℕ) (leaves : List ℕ) (k : ℕ) → k < length leaves → set (half a b leaves k) k (traded a b (get_or (half a b leaves k) k 0)) ≡ half a b leaves (suc k)
half_more a b [] k few = absurd (omega (arith, few))
half_more a b (l ∷ ls) zero few = refl
half_more a b (l ∷ ls) (suc k) few = ap (λ xs. traded a b l ∷ xs) (half_more a b ls k (omega (arith, few)))

pub number_at : (ls : List PageId) (k : ℕ) → get_or (numbers ls) k 0 ≡ (slice_index_or ls k (record { 0 = 0 })).0
number_at [] k = refl
number_at (p ∷ ps) zero = refl
number_at (p ∷ ps) (suc k) = number_at ps k

pub exchanged_more : (a b : ℕ) (leaves : List ℕ) (old new : List PageId) (k : ℕ) (v : PageId) → k < length leaves → numbers old ≡ half a b leaves k → v.0 ≡ traded a b (slice_index_or old k (record { 0 = 0 })).0 → new ≡ set old k v
    → numbers new ≡ half a b leaves (suc k)
exchanged_more a b leaves old new k v few is moved there =
    ap numbers there ∙ map-set (λ (q : PageId). q.0) old k v ∙ ap (set (numbers old) k) (moved ∙ ap (traded a b) (sym (number_at old k)))
    ∙ ap (λ xs. set xs k (traded a b (get_or xs k 0))) is ∙ half_more a b leaves k few

same_item : (xs : List PageId) (k : ℕ) (p d : PageId) → k < length xs → p ≡ slice_index_or xs k p → p ≡ slice_index_or xs k d
same_item [] k p d few e = absurd (omega (arith, few))
same_item (x ∷ xs) zero p d few e = e
same_item (x ∷ xs) (suc k) p d few e = same_item xs k p d (omega (arith, few)) e

length-numbers : (pages : List PageId) → length (numbers pages) ≡ length pages
length-numbers pages = length-map pages (λ p. p.0)

pub exchanged_at : (a b : ℕ) (first old : List PageId) (k n t : ℕ) (p : PageId) → k < n → n ≡ length first → length old ≡ length first → p ≡ slice_index_or old k p → t ≡ traded a b p.0
    → numbers old ≡ half a b (numbers first) k → numbers (set old k (record { 0 = t })) ≡ half a b (numbers first) (k + 1)
exchanged_at a b first old k n t p below all keeps is moved here =
    let few : k < length (numbers first) = omega (arith, below, all, length-numbers first) in
    let there : k < length old = omega (arith, below, all, keeps) in
    let next : suc k ≡ k + 1 = omega arith in
    exchanged_more a b (numbers first) old (set old k (record { 0 = t })) k (record { 0 = t }) few here (moved ∙ ap (λ q. traded a b q.0) (same_item old k p (record { 0 = 0 }) there is)) refl
    ∙ ap (half a b (numbers first)) next

-- ---- pins

some_more : (ps : List (Option ℕ)) (k l : ℕ) → slice_index_or ps k None ≡ Some l → pinned_leaves (take (suc k) ps) ≡ pinned_leaves (take k ps) ++ l ∷ []
some_more [] k l e = absurd (none-some l e)
some_more (Some p ∷ ps) zero l e = ap (λ x. x ∷ []) (same_Some p l e)
some_more (None ∷ ps) zero l e = absurd (none-some l e)
some_more (Some p ∷ ps) (suc k) l e = ap (λ xs. p ∷ xs) (some_more ps k l e)
some_more (None ∷ ps) (suc k) l e = some_more ps k l e

none_more : (ps : List (Option ℕ)) (k : ℕ) → slice_index_or ps k None ≡ None → pinned_leaves (take (suc k) ps) ≡ pinned_leaves (take k ps)
none_more [] k e = pinned_none k
  where
    pinned_none : (n : ℕ) → pinned_leaves (take (suc n) []) ≡ pinned_leaves (take n [])
    pinned_none zero = refl
    pinned_none (suc n) = refl
none_more (Some p ∷ ps) zero e = absurd (none-some p (sym e))
none_more (None ∷ ps) zero e = refl
none_more (Some p ∷ ps) (suc k) e = ap (λ xs. p ∷ xs) (none_more ps k e)
none_more (None ∷ ps) (suc k) e = none_more ps k e

pub pin_added : (ps : List (Option ℕ)) (k : ℕ) (es es' : List ℕ) (l : ℕ) → es ≡ pinned_leaves (take k ps) → es' ≡ es ++ l ∷ [] → slice_index_or ps k None ≡ Some l → es' ≡ pinned_leaves (take (k + 1) ps)
pin_added ps k es es' l so_far pushed is =
    let next : suc k ≡ k + 1 = omega arith in
    pushed ∙ ap (λ xs. xs ++ l ∷ []) so_far ∙ sym (some_more ps k l is) ∙ ap (λ n. pinned_leaves (take n ps)) next

pub pin_left : (ps : List (Option ℕ)) (k : ℕ) (es es' : List ℕ) → es ≡ pinned_leaves (take k ps) → es' ≡ es → slice_index_or ps k None ≡ None → es' ≡ pinned_leaves (take (k + 1) ps)
pin_left ps k es es' so_far same is =
    let next : suc k ≡ k + 1 = omega arith in
    same ∙ so_far ∙ sym (none_more ps k is) ∙ ap (λ n. pinned_leaves (take n ps)) next

-- ---- an item more of a list that is gone through

pub item_added : {X Y : Type 0} (f : X → Y) (xs : List X) (k : ℕ) (x d : X) (ys ys' : List Y) (y : Y) → k < length xs → slice_index_or xs k d ≡ x → ys ≡ map f (take k xs) → y ≡ f x → ys' ≡ ys ++ y ∷ [] → ys' ≡ map f (take (k + 1) xs)
item_added f xs k x d ys ys' y few is so_far told pushed =
    pushed ∙ (λ i. so_far i ++ (told ∙ ap f (sym is)) i ∷ []) ∙ sym (map_more f xs k d few)
