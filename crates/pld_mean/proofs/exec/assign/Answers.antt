use Rattle.pld_mean.specs.Vars.{state_of, sizes_of}
use Rattle.pld_mean.proofs.Execs.{did_assign}
use Rattle.pld_mean.proofs.exec.assign.Goals as goal

pub returns-clause-does : goal.returns-clause-does
returns-clause-does c = λ ins n.
    did_assign c.args.op.now (sizes_of c.args.vars.now) c.args.to.now c.args.e.now (state_of ins c.args.vars.now) (state_of ins c.put.new.self) c.spot-spot.result n c.eval-v.result (record {
      sized = c.requires.sized;
      value = c.spot-spot.ensures.value ins;
      there = c.spot-spot.ensures.there;
    }) (c.eval-v.ensures ins) (c.put.ensures.state ins)
