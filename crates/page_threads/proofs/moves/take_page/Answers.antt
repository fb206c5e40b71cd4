use Rattle.std.proofs.Common.{◌<◌, arith}
use Rattle.page_threads.proofs.Carrying.{taken_by}
use Rattle.page_threads.proofs.moves.take_page.Goals as goal

pub returns-clause-some : goal.returns-clause-some
returns-clause-some c =
    let l : c.args.leaf < 256 = omega arith in
    taken_by c.take.result c.args.fabric.now c.take.new.self c.args.seat c.args.leaf c.requires l c.take.ensures.run c.take.ensures.page
