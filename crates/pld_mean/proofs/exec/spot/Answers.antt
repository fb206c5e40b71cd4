use Rattle.pld_mean.specs.Vars.{state_of}
use Rattle.pld_mean.proofs.Execs.{element_spot}
use Rattle.pld_mean.proofs.exec.spot.Goals as goal

pub returns-in-Element-clause-value : goal.returns-in-Element-clause-value
returns-in-Element-clause-value c = λ ins.
    element_spot c.args.op.now (state_of ins c.args.vars.now) c.args.to.now c.in-Element.u c.in-Element.i c.as_slice-arrays.result.now c.place_of-t.result c.index_at.result c.eval.result c.requires.some c.in-Element.is c.as_slice-arrays.ensures c.place_of-t.ensures.value (c.eval.ensures ins) c.index_at.ensures
