use Rattle.fabric_ends.proofs.Agreeing.{show_same}
use Rattle.fabric_ends.proofs.rest.rested_runs_agree.Goals as goal

pub returns : goal.returns
returns g c = λ net other_net plan other operators st st_ same design design_ w w_ r r_. show_same net other_net plan other operators same design design_ st st_ w w_ r r_
