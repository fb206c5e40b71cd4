-- What a changed list of variables means for the state.
use Rattle.std.proofs.Common.{◌≡◌, ℕ, zero, suc, ◌<◌, ◌+◌, List, [], ◌∷◌, length, map, get_or, drop, slice_set, Bool, true, false, nat_eq, Vec, Global, refl, sym, ap, subst, ◌∙◌}
use Rattle.std.specs.Prelude.{slice_index, replicate, if◌then◌else◌}
use Rattle.std.proofs.Math.Path.{fun_ext}
use Rattle.std.proofs.lemmas.Bool.{eqb-true, eqb-false}
use Rattle.std.proofs.lemmas.List.{get_or-set_same, get_or-set_other, drop_more, length-set, length-map, map-set, get_or-map}
use Rattle.std.proofs.Math.Seq.{map-set_same}
use Rattle.pld_base.specs.Lists.{with}
use Rattle.pld_ast.specs.declared.tree.Array.{Array}
use Rattle.pld_ast.specs.Meaning.{start}
use Rattle.pld_mean.specs.declared.vars.Vars.{Vars}
use Rattle.pld_mean.specs.Vars.{rows_of, state_of}

choice : {A : Type 0} (xs : List A) (i j : ℕ) (x d : A) (b : Bool) → nat_eq j i ≡ b → i < length xs → get_or (slice_set xs i x) j d ≡ if b then x else get_or xs j d
choice xs i j x d true e lt = subst (λ k. get_or (slice_set xs i x) k d ≡ x) (sym (eqb-true j i e)) (get_or-set_same xs i x d lt)
choice xs i j x d false e lt = get_or-set_other xs i j x d (eqb-false j i e)

-- a list, changed at one place
pub with_set : {A : Type 0} (xs : List A) (i : ℕ) (x d : A) → i < length xs → (λ j. get_or (slice_set xs i x) j d) ≡ with (λ j. get_or xs j d) i x
with_set xs i x d lt = fun_ext (λ j. choice xs i j x d (nat_eq j i) refl lt)

through : {A B : Type 0} (f : A → B) (b : Bool) (x y : A) → f (if b then x else y) ≡ if b then f x else f y
through f true x y = refl
through f false x y = refl

-- a function of each value of a changed function
pub of_with : {A B : Type 0} (f : A → B) (g : ℕ → A) (i : ℕ) (x : A) → (λ j. f (with g i x j)) ≡ with (λ j. f (g j)) i (f x)
of_with f g i x = fun_ext (λ j. through f (nat_eq j i) x (g j))

-- an array's word is changed
pub element_set : (rows : List (List ℕ)) (t i v : ℕ) (row : List ℕ) → row ≡ get_or rows t [] → t < length rows → i < length row → (λ t'. slice_index (get_or (slice_set rows t (slice_set row i v)) t' [])) ≡ with (λ t'. slice_index (get_or rows t' [])) t (with (slice_index (get_or rows t [])) i v)
element_set rows t i v row e lt within =
    ap (λ (f : ℕ → List ℕ). λ t'. slice_index (f t')) (with_set rows t (slice_set row i v) [] lt)
    ∙ of_with slice_index (λ t'. get_or rows t' []) t (slice_set row i v)
    ∙ ap (with (λ t'. slice_index (get_or rows t' [])) t) (with_set row i v 0 within ∙ ap (λ xs. with (slice_index xs) i v) e)

-- the words of arrays
abbrev pub rows : List (Vec ℕ Global) → List (List ℕ)
rows arrays = map (λ row. row.items) arrays

pub element_put : (arrays : List (Vec ℕ Global)) (t i v : ℕ) (row row' : Vec ℕ Global) → row ≡ get_or arrays t row → row'.items ≡ slice_set row.items i v → t < length arrays → i < length row.items → (λ t'. slice_index (get_or (rows (slice_set arrays t row')) t' [])) ≡ with (λ t'. slice_index (get_or (rows arrays) t' [])) t (with (slice_index (get_or (rows arrays) t [])) i v)
element_put arrays t i v row row' e e' lt within =
    ap (λ (xs : List (List ℕ)). λ t'. slice_index (get_or xs t' [])) (map-set (λ x. x.items) arrays t row' ∙ ap (slice_set (rows arrays) t) e')
    ∙ element_set (rows arrays) t i v row.items (ap (λ x. x.items) e ∙ sym (get_or-map (λ x. x.items) arrays t row [] lt)) (subst (λ n. t < n) (sym (length-map arrays (λ x. x.items))) lt) within

pub lengths_put : (arrays : List (Vec ℕ Global)) (t i v : ℕ) (row row' : Vec ℕ Global) → row ≡ get_or arrays t row → row'.items ≡ slice_set row.items i v → map (λ x. length x.items) (slice_set arrays t row') ≡ map (λ x. length x.items) arrays
lengths_put arrays t i v row row' e e' =
    map-set_same (λ x. length x.items) arrays t row' row (ap length e' ∙ length-set row.items i v ∙ ap (λ x. length x.items) e)

-- the word at a place, and those behind it
pub taken : (list list' : List ℕ) (r r' : ℕ) → list ≡ list' → r ≡ r' → r < length list → drop r' list' ≡ get_or list r 0 ∷ drop (r + 1) list'
taken list list' r r' e e' lt =
    ap (λ k. drop k list') (sym e') ∙ ap (drop r) (sym e) ∙ drop_more list r 0 lt ∙ ap (λ xs. get_or list r 0 ∷ drop (r + 1) xs) e

pub outer : (arrays : List (Vec ℕ Global)) (t : ℕ) → t < length (map (λ x. length x.items) arrays) → t < length arrays
outer arrays t lt = subst (λ n. t < n) (length-map arrays (λ x. length x.items)) lt

pub inner : (arrays : List (Vec ℕ Global)) (t i : ℕ) (row : Vec ℕ Global) → row ≡ get_or arrays t row → t < length (map (λ x. length x.items) arrays) → i < slice_index (map (λ x. length x.items) arrays) t → i < length row.items
inner arrays t i row e lt within = subst (λ n. i < n) (get_or-map (λ x. length x.items) arrays t row 0 (outer arrays t lt) ∙ ap (λ x. length x.items) (sym e)) within

zero_at : (n k : ℕ) → slice_index (replicate n 0) k ≡ 0
zero_at zero k = refl
zero_at (suc n) zero = refl
zero_at (suc n) (suc k) = zero_at n k

zero_in : (arrays : List Array) (t k : ℕ) → slice_index (get_or (map (λ a. replicate a.len 0) arrays) t []) k ≡ 0
zero_in [] t k = refl
zero_in (a ∷ arrays) zero k = zero_at a.len k
zero_in (a ∷ arrays) (suc t) k = zero_in arrays t k

-- the first state of a run
pub at_start : (ins : List (List ℕ)) (v : Vars) (arrays : List Array) (n m : ℕ) → v.scalars.items ≡ replicate n 0 → rows_of v ≡ map (λ a. replicate a.len 0) arrays → v.read.items ≡ replicate m 0 → v.events.items ≡ [] → state_of ins v ≡ start (λ p. get_or ins p [])
at_start ins v arrays n m e f g h =
    let scalars : (λ s. slice_index v.scalars.items s) ≡ (λ s. 0) = fun_ext (λ s. ap (λ xs. slice_index xs s) e ∙ zero_at n s) in
    let words : (λ t i. slice_index (get_or (rows_of v) t []) i) ≡ (λ t i. 0) = fun_ext (λ t. fun_ext (λ i. ap (λ xs. slice_index (get_or xs t []) i) f ∙ zero_in arrays t i)) in
    let left : (λ p. drop (slice_index v.read.items p) (get_or ins p [])) ≡ (λ p. get_or ins p []) = fun_ext (λ p. ap (λ r. drop r (get_or ins p [])) (ap (λ xs. slice_index xs p) g ∙ zero_at m p)) in
    ap (λ x. record (state_of ins v) { scalars = x }) scalars
    ∙ ap (λ x. record (record (state_of ins v) { scalars = λ s. 0 }) { arrays = x }) words
    ∙ ap (λ x. record (start x) { events = v.events.items }) left
    ∙ ap (λ x. record (start (λ p. get_or ins p [])) { events = x }) h
