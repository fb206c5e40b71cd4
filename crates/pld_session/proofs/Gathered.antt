-- Lists that are gathered one element after the other.
use Rattle.std.proofs.Common.{◌≡◌, ℕ, zero, suc, ◌+◌, ◌<◌, List, [], ◌∷◌, ◌++◌, length, map, take, Some, None, refl, sym, ap, ◌∙◌, arith}
use Rattle.std.specs.Prelude.{slice_index_or, slice_get}
use Rattle.std.proofs.lemmas.List.{map-append}
use Rattle.std.proofs.lemmas.Option.{none-some, same_Some}

take_suc : {X : Type 0} (xs : List X) (k : ℕ) (d : X) → k < length xs → take (suc k) xs ≡ take k xs ++ slice_index_or xs k d ∷ []
take_suc [] k d l = absurd (omega (arith, l))
take_suc (x ∷ xs) zero d l = refl
take_suc (x ∷ xs) (suc k) d l = ap (λ ys. x ∷ ys) (take_suc xs k d (omega (arith, l)))

next : (k : ℕ) → k + 1 ≡ suc k
next k = omega arith

-- one element more, with what a function makes of it
pub mapped_more : {X Y : Type 0} (f : X → Y) (xs : List X) (k : ℕ) (d : X) (ys ys' : List Y) (y : Y) → k < length xs → ys ≡ map f (take k xs) → y ≡ f (slice_index_or xs k d) → ys' ≡ ys ++ y ∷ [] → ys' ≡ map f (take (k + 1) xs)
mapped_more f xs k d ys ys' y l h e p =
    p ∙ ap (λ zs. zs ++ y ∷ []) h ∙ ap (λ z. map f (take k xs) ++ z ∷ []) e
    ∙ sym (map-append f (take k xs) (slice_index_or xs k d ∷ [])) ∙ ap (map f) (sym (take_suc xs k d l)) ∙ ap (λ n. map f (take n xs)) (sym (next k))

get_suc : {X : Type 0} (xs : List X) (k : ℕ) (x : X) → slice_get xs k ≡ Some x → take (suc k) xs ≡ take k xs ++ x ∷ []
get_suc [] zero x e = absurd (none-some x e)
get_suc [] (suc k) x e = absurd (none-some x e)
get_suc (y ∷ ys) zero x e = ap (λ z. z ∷ []) (same_Some y x e)
get_suc (y ∷ ys) (suc k) x e = ap (λ zs. y ∷ zs) (get_suc ys k x e)

-- the same where the element is found
pub found_more : {X Y : Type 0} (f : X → Y) (xs : List X) (k : ℕ) (x : X) (ys ys' : List Y) (y : Y) → slice_get xs k ≡ Some x → ys ≡ map f (take k xs) → y ≡ f x → ys' ≡ ys ++ y ∷ [] → ys' ≡ map f (take (k + 1) xs)
found_more f xs k x ys ys' y found h e p =
    p ∙ ap (λ zs. zs ++ y ∷ []) h ∙ ap (λ z. map f (take k xs) ++ z ∷ []) e
    ∙ sym (map-append f (take k xs) (x ∷ [])) ∙ ap (map f) (sym (get_suc xs k x found)) ∙ ap (λ n. map f (take n xs)) (sym (next k))

pub got_more : {X : Type 0} (xs : List X) (k : ℕ) (x : X) (ys ys' : List X) → slice_get xs k ≡ Some x → ys ≡ take k xs → ys' ≡ ys ++ x ∷ [] → ys' ≡ take (k + 1) xs
got_more xs k x ys ys' found h p = p ∙ ap (λ zs. zs ++ x ∷ []) h ∙ sym (get_suc xs k x found) ∙ ap (λ n. take n xs) (sym (next k))

-- an element of the list is found
pub is_there : {X : Type 0} (xs : List X) (k : ℕ) → k < length xs → slice_get xs k ≡ None → ⊥
is_there [] k l e = omega (arith, l)
is_there (x ∷ xs) zero l e = none-some x (sym e)
is_there (x ∷ xs) (suc k) l e = is_there xs k (omega (arith, l)) e
