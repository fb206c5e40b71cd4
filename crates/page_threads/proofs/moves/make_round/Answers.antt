use Rattle.std.proofs.Common.{Bool, ap, ◌∙◌, refl}
use Rattle.std.specs.Prelude.{if◌then◌else◌}
use Rattle.fabric_run.specs.declared.entry.Entry.TheVariants.{Net}
use Rattle.fabric_core.specs.Runs.{RunValue, noted}
use Rattle.page_threads.proofs.Carrying.{noted_by}
use Rattle.page_threads.proofs.moves.make_round.Goals as goal

pub returns-clause-made : goal.returns-clause-made
returns-clause-made c made =
    let r : RunValue = c.args.fabric.now in
    noted_by r c.net.new.self (Net c.args.seat) c.args.seat (c.net.ensures.run ∙ ap (λ (b : Bool). if b then noted r (Net c.args.seat) else r) made) c.requires refl
