use Rattle.std.proofs.Common.{◌≡◌, map, ◌∙◌}
use Rattle.std.proofs.lemmas.Result.{IfOk-at_ok}
use Rattle.par_build.specs.Jobs.{image_made}
use Rattle.par_build.proofs.Halves.{halved}
use Rattle.par_build.proofs.all.+halves.Goals as goal

pub returns : goal.returns
returns g t c =
    let cut = c.in_ok-later.ensures in
    c.in_ok-append.ensures.items
    ∙ halved c.args.jobs.items _ c.in_ok-later.later.items _ _ _ cut.items cut.tail
    (IfOk-at_ok (λ v. v.items ≡ map image_made _) c.in_ok-images.was c.join-first.ensures.first)
    (IfOk-at_ok (λ v. v.items ≡ map image_made c.in_ok-later.later.items) c.in_ok-rest.was c.join-first.ensures.second)
