-- Images of the sources at some places, made and kept one by one.
use Rattle.std.proofs.Common.{◌≡◌, ℕ, zero, suc, ◌+◌, ◌<◌, ◌≤◌, false, List, [], ◌∷◌, ◌++◌, length, map, drop, All, refl, sym, ap, ◌∙◌, subst, arith}
use Rattle.std.specs.Prelude.{slice_index_or}
use Rattle.std.proofs.lemmas.List.{map-append, append_assoc, append-nil, length-append, length-map, length-drop, drop_more}
use Rattle.image_form.specs.Spelling.{Form}
use Rattle.par_build.specs.declared.job.Job.{Job}
use Rattle.par_build.specs.Jobs.{image_made}
use Rattle.build_cache.specs.Pairs.{Pair, is_among, pair_at, blank, misses, missed}
use Rattle.build_cache.proofs.Missed.{AreNew, missed_new}
use Rattle.pld_draft.specs.declared.parts.Source.{Source}
use Rattle.pld_build.specs.Images.{image_of, pair_of, no_image, images_at}

nth_map : {X Y : Type 0} (f : X → Y) (xs : List X) (k : ℕ) (x : X) (y : Y) → k < length xs → slice_index_or (map f xs) k y ≡ f (slice_index_or xs k x)
nth_map f [] k x y l = absurd (omega (arith, l))
nth_map f (z ∷ zs) zero x y l = refl
nth_map f (z ∷ zs) (suc k) x y l = nth_map f zs k x y (omega (arith, l))

first_or : {X : Type 0} → X → List X → X
first_or d [] = d
first_or d (x ∷ xs) = x

behind : {X : Type 0} → List X → List X
behind [] = []
behind (x ∷ xs) = xs

-- the places from k on begin with this one
left_at : (all : List ℕ) (k place : ℕ) → k < length all → place ≡ slice_index_or all k place → drop k all ≡ place ∷ drop (k + 1) all
left_at all k place l e = drop_more all k place l ∙ ap (λ p. p ∷ drop (k + 1) all) (sym e)

image_at : (ss : List Source) (place : ℕ) (s : Source) → place < length ss → s ≡ slice_index_or ss place s → slice_index_or (map image_of ss) place no_image ≡ image_of s
image_at ss place s l e = nth_map image_of ss place s no_image l ∙ ap image_of (sym e)

-- one job more
pub job_more : (ss : List Source) (all : List ℕ) (done : List Job) (job : Job) (place : ℕ) (s : Source) → length done < length all → place ≡ slice_index_or all (length done) place → place < length ss
    → s ≡ slice_index_or ss place s → image_made job ≡ image_of s
    → map image_made (done ++ job ∷ []) ++ images_at ss (drop (length (done ++ job ∷ [])) all) ≡ map image_made done ++ images_at ss (drop (length done) all)
job_more ss all done job place s l at within is made =
    let count : length (done ++ job ∷ []) ≡ length done + 1 = length-append done (job ∷ []) in
    let left = left_at all (length done) place l at in
    let later = images_at ss (drop (length done + 1) all) in
    (λ i. map-append image_made done (job ∷ []) i ++ images_at ss (drop (count i) all))
    ∙ append_assoc (map image_made done) (image_made job ∷ []) later
    ∙ ap (λ f. map image_made done ++ f ∷ later) (made ∙ sym (image_at ss place s within is))
    ∙ ap (λ ks. map image_made done ++ images_at ss ks) (sym left)

-- the pairs of the sources at these places
abbrev pub pairs_at : List Source → List ℕ → List Pair
pairs_at ss places = map (pair_at (map pair_of ss)) places

-- with the pairs up to k kept, those from k on are new, and these are their images
pub record IsKeeping (ss : List Source) (all : List ℕ) (first now : List Pair) (k : ℕ) (images : List Form) : Type 0 where
  pub kept : now ++ pairs_at ss (drop k all) ≡ first ++ pairs_at ss all
  pub new : AreNew now (pairs_at ss (drop k all))
  pub made : images ≡ images_at ss (drop k all)

-- at first
pub keeping_first : (ss : List Source) (all : List ℕ) (first : List Pair) (images : List Form) → all ≡ misses first (map pair_of ss) → images ≡ images_at ss all → IsKeeping ss all first first 0 images
keeping_first ss all first images e made = record {
  kept = refl;
  new = subst (λ ks. AreNew first (pairs_at ss ks)) (sym e) (missed_new first (map pair_of ss));
  made = made;
}

-- an image is left as long as a place is
pub is_left : (ss : List Source) (all : List ℕ) (first now : List Pair) (k : ℕ) (image : Form) (rest images : List Form) → IsKeeping ss all first now k images → images ≡ image ∷ rest → k < length all
is_left ss all first now k image rest images h e =
    let many : length (images_at ss (drop k all)) ≡ length (drop k all) = length-map (drop k all) (λ j. slice_index_or (map image_of ss) j no_image) in
    let left = length-drop k all in
    let some : suc (length rest) ≡ length (images_at ss (drop k all)) = ap length (sym e ∙ h.made) in
    omega (arith, many, left, some)

-- the next image is that of the source at the next place, whose pair is new
pub record IsNext (ss : List Source) (all : List ℕ) (first now : List Pair) (k : ℕ) (s : Source) (form : Form) (rest : List Form) : Type 0 where
  pub new : is_among (pair_of s) now ≡ false
  pub image : form ≡ image_of s
  pub on : IsKeeping ss all first (now ++ pair_of s ∷ []) (k + 1) rest

pub keeping_next : (ss : List Source) (all : List ℕ) (first now : List Pair) (k place : ℕ) (s : Source) (image : Form) (rest images : List Form) → IsKeeping ss all first now k images → images ≡ image ∷ rest
    → place ≡ slice_index_or all k place → place < length ss → s ≡ slice_index_or ss place s → IsNext ss all first now k s image rest
unfolding first_or behind
keeping_next ss all first now k place s image rest images h e at within is =
    let left = left_at all k place (is_left ss all first now k image rest images h e) at in
    let pairs = ap (pairs_at ss) left in
    let pair : pair_at (map pair_of ss) place ≡ pair_of s = nth_map pair_of ss place s blank within ∙ ap pair_of (sym is) in
    let news = subst (AreNew now) pairs h.new in
    let later = pairs_at ss (drop (k + 1) all) in
    let forms = sym e ∙ h.made ∙ ap (images_at ss) left in
    record {
      new = ap (λ p. is_among p now) (sym pair) ∙ news.0;
      image = ap (first_or image) forms ∙ image_at ss place s within is;
      on = record {
        kept = append_assoc now (pair_of s ∷ []) later ∙ ap (λ p. now ++ p ∷ later) (sym pair) ∙ ap (λ ps. now ++ ps) (sym pairs) ∙ h.kept;
        new = subst (λ p. AreNew (now ++ p ∷ []) later) pair news.1;
        made = ap behind forms;
      };
    }

none_left : {X Y Z : Type 0} (f : X → Y) (g : X → Z) (xs : List X) → length (map f xs) ≡ 0 → map g xs ≡ []
none_left f g [] e = refl
none_left f g (x ∷ xs) e = absurd (omega (arith, e))

-- at last
pub keeping_last : (ss : List Source) (all : List ℕ) (first now : List Pair) (k : ℕ) (images : List Form) → IsKeeping ss all first now k images → length images ≡ 0 → all ≡ misses first (map pair_of ss)
    → now ≡ first ++ missed first (map pair_of ss)
keeping_last ss all first now k images h e are =
    let none : pairs_at ss (drop k all) ≡ [] = none_left (λ j. slice_index_or (map image_of ss) j no_image) (pair_at (map pair_of ss)) (drop k all) (ap length (sym h.made) ∙ e) in
    sym (append-nil now) ∙ ap (λ ps. now ++ ps) (sym none) ∙ h.kept ∙ ap (λ ks. first ++ pairs_at ss ks) are
