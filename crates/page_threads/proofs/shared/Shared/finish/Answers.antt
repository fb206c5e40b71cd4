use Rattle.std.proofs.Common.{◌<◌, arith, refl}
use Rattle.fabric_run.specs.declared.entry.Entry.TheVariants.{Give}
use Rattle.fabric_core.specs.Runs.{RunValue}
use Rattle.fabric_core.specs.Holding.{Brings}
use Rattle.fabric_core.proofs.Keeping.{size_few}
use Rattle.page_threads.proofs.Carrying.{noted_by}
use Rattle.page_threads.proofs.shared.Shared.finish.Goals as goal

pub returns-clause-given : goal.returns-clause-given
returns-clause-given c =
    let r : RunValue = c.args.self.now.fabric in
    let h : Brings r c.args.seat c.args.page = c.requires.page in
    let l : c.args.page.leaf < 256 = omega (arith, h.turned.leaf, h.holds.inside, size_few r.plan c.is_legal.ensures.sound) in
    noted_by r c.give.new.self (Give c.args.seat c.args.page.leaf) c.args.seat c.give.ensures (c.requires.seat, l) refl
