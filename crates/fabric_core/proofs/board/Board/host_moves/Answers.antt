use Rattle.std.proofs.Common.{◌∙◌, refl, arith}
use Rattle.fabric_run.specs.World.{each_to, send, receive}
use Rattle.fabric_run.specs.Trees.{tree_setup}
use Rattle.fabric_core.proofs.Hosting.{each_more, each_all}
use Rattle.fabric_core.proofs.board.Board.host_moves.Goals as goal

pub loop-k-preserved : goal.loop-k-preserved
loop-k-preserved c = record {
  shows = λ st s. each_more (tree_setup c.args.plan.now) (send (tree_setup c.args.plan.now)) c.loop-k.k st c.send.new.self (c.send.ensures.shows (each_to c.loop-k.k (send (tree_setup c.args.plan.now)) st) (c.loop-k.invariant.shows st s));
  fits = c.send.ensures.fits;
  rows = c.send.ensures.rows;
  outs = c.send.ensures.outs ∙ c.loop-k.invariant.outs;
}

pub loop-j-preserved : goal.loop-j-preserved
loop-j-preserved c = record {
  shows = λ st s. each_more (tree_setup c.args.plan.now) receive c.loop-j.j st c.receive.new.self (c.receive.ensures.shows (tree_setup c.args.plan.now) (each_to c.loop-j.j receive st) refl (c.loop-j.invariant.shows st s));
  fits = c.receive.ensures.fits;
  rows = c.receive.ensures.rows;
  space = c.receive.ensures.space;
  room = λ most h. c.receive.ensures.room most (c.loop-j.invariant.room most h);
}

pub returns-clause-shows : goal.returns-clause-shows
returns-clause-shows c st s =
    let setup = tree_setup c.args.plan.now in
    each_all setup receive c.loop-j.j c.args.plan.now.outs (each_to setup.inputs (send setup) st) c.loop-j.self (omega (arith, c.loop-j-test.false, c.loop-j.auto.j-end, c.outs-j-end.ensures.value))
    (c.loop-j.invariant.shows (each_to setup.inputs (send setup) st) (each_all setup (send setup) c.loop-k.k setup.inputs st c.loop-k.self (omega (arith, c.loop-k-test.false, c.loop-k.auto.k-end, c.feeds-k-end.ensures.value)) (c.loop-k.invariant.shows st s)))
