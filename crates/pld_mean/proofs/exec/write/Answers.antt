use Rattle.std.proofs.Common.{ap, ◌∙◌}
use Rattle.pld_base.specs.Lists.{port}
use Rattle.pld_base.specs.declared.event.Event.TheVariants.{Write}
use Rattle.pld_base.specs.declared.event.Side.TheVariants.{Out}
use Rattle.pld_ast.specs.Meaning.{Goes, and_event, value_of}
use Rattle.pld_ast.specs.Resolve.{declared_in, program_of, value_in, place_in, ports_at}
use Rattle.pld_mean.specs.Vars.{state_of}
use Rattle.pld_mean.proofs.exec.write.Goals as goal

pub returns-clause-does : goal.returns-clause-does
returns-clause-does c = λ ins n k.
    let st = state_of ins c.args.vars.now in
    ap Goes (c.in_ok-note.ensures.state ins ∙ ap (λ v. and_event st (Write (port c.port_place-p.result) v)) (c.eval-v.ensures ins k.1) ∙ ap (λ p. and_event st (Write (port p) (value_of (program_of c.args.op.now).lengths (value_in (declared_in c.args.op.now) c.args.e.now) st))) (c.port_place-p.ensures.value ∙ ap (λ ports. place_in (ports_at Out ports) c.args.port.now) c.as_slice.ensures))
