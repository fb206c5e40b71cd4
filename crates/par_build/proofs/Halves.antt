-- The images of two halves are the images of the whole.
use Rattle.std.proofs.Common.{◌≡◌, ℕ, List, ◌++◌, map, take, drop, sym, ap, ◌∙◌}
use Rattle.std.proofs.lemmas.List.{map-append, take-append-drop}
use Rattle.image_form.specs.Spelling.{Form}
use Rattle.par_build.specs.declared.job.Job.{Job}
use Rattle.par_build.specs.Jobs.{image_made}

pub halved : (all front back : List Job) (h : ℕ) (xs ys : List Form) → front ≡ take h all → back ≡ drop h all → xs ≡ map image_made front → ys ≡ map image_made back → xs ++ ys ≡ map image_made all
halved all front back h xs ys f b p q =
    ap (λ l. l ++ ys) p
    ∙ ap (λ l. map image_made front ++ l) q
    ∙ sym (map-append image_made front back)
    ∙ ap (map image_made) (ap (λ l. l ++ back) f ∙ ap (λ l. take h all ++ l) b ∙ take-append-drop h all)
