-- The pages of placed operators: their leaves and their images, side by side.
use Rattle.std.proofs.Common.{◌≡◌, ℕ, zero, suc, ◌<◌, List, [], ◌∷◌, length, refl, sym, ap, arith, Some}
use Rattle.std.specs.Prelude.{slice_get, slice_index}
use Rattle.std.proofs.lemmas.Option.{none-some, same_Some}
use Rattle.image_form.specs.Spelling.{Form}
use Rattle.fabric_run.specs.Plan.{PagePlan, leaf_in}
use Rattle.fabric_plan.specs.Plans.{pages_of}

-- an element below the length
pub some_at : {X : Type 0} (xs : List X) (k : ℕ) → k < length xs → (x : X) × (slice_get xs k ≡ Some x)
some_at [] k few = absurd (omega (arith, few))
some_at (x ∷ xs) zero few = (x, refl)
some_at (x ∷ xs) (suc k) few = some_at xs k (omega (arith, few))

pub pages_many : (leaves : List ℕ) (images : List Form) → length images ≡ length leaves → length (pages_of leaves images) ≡ length leaves
pages_many [] images same = refl
pages_many (leaf ∷ leaves) [] same = absurd (omega (arith, same))
pages_many (leaf ∷ leaves) (image ∷ images) same = ap suc (pages_many leaves images (omega (arith, same)))

-- the k-th page has the k-th leaf and the k-th image
pub record IsPage (leaves : List ℕ) (images : List Form) (k : ℕ) (p : PagePlan) : Type 0 where
  pub within : k < length leaves
  pub leaf : slice_index leaves k ≡ p.leaf
  pub image : slice_get images k ≡ Some p.image

pub page_is : (leaves : List ℕ) (images : List Form) (k : ℕ) (p : PagePlan) → slice_get (pages_of leaves images) k ≡ Some p → IsPage leaves images k p
page_is [] images k p e = absurd (none-some p e)
page_is (leaf ∷ leaves) [] k p e = absurd (none-some p e)
page_is (leaf ∷ leaves) (image ∷ images) zero p e =
    let same : ◌≡◌ {A = PagePlan} (record { leaf = leaf; image = image }) p = same_Some _ p e in
    record { within = omega arith; leaf = ap (λ (x : PagePlan). x.leaf) same; image = ap (λ (x : PagePlan). Some x.image) same }
page_is (leaf ∷ leaves) (image ∷ images) (suc k) p e =
    let rest = page_is leaves images k p e in
    let few = rest.within in
    record { within = omega (arith, few); leaf = rest.leaf; image = rest.image }

-- the page on the k-th leaf
pub page_on : (leaves : List ℕ) (images : List Form) (k : ℕ) → length images ≡ length leaves → k < length leaves
    → (p : PagePlan) × (slice_get (pages_of leaves images) k ≡ Some p) × (p.leaf ≡ slice_index leaves k)
page_on leaves images k same few =
    let there = some_at (pages_of leaves images) k (omega (arith, few, pages_many leaves images same)) in
    (there.0, there.1, sym (page_is leaves images k there.0 there.1).leaf)

pub leaf_in_is : (leaves : List ℕ) (images : List Form) (k : ℕ) → length images ≡ length leaves → k < length leaves → leaf_in (pages_of leaves images) k ≡ slice_index leaves k
leaf_in_is [] images k same few = absurd (omega (arith, few))
leaf_in_is (leaf ∷ leaves) [] k same few = absurd (omega (arith, same))
leaf_in_is (leaf ∷ leaves) (image ∷ images) zero same few = refl
leaf_in_is (leaf ∷ leaves) (image ∷ images) (suc k) same few = leaf_in_is leaves images k (omega (arith, same)) (omega (arith, few))
