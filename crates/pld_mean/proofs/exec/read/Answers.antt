use Rattle.std.proofs.Common.{List, ℕ, length, map, sym, ap, subst, ◌∙◌, ◌<◌}
use Rattle.std.specs.Prelude.{None}
use Rattle.pld_base.specs.Process.{Starved}
use Rattle.pld_base.specs.declared.event.Side.TheVariants.{In}
use Rattle.pld_ast.specs.Meaning.{Goes, Over}
use Rattle.pld_ast.specs.Resolve.{place_in, ports_at}
use Rattle.pld_mean.specs.Vars.{state_of, sizes_of, IsSpot, Took}
use Rattle.pld_mean.proofs.Execs.{did_read, did_starve, at_port}
use Rattle.pld_mean.proofs.exec.read.Goals as goal

pub returns-in-None-clause-does : goal.returns-in-None-clause-does
returns-in-None-clause-does c = λ n.
    let lists : List (List ℕ) = map (λ v. v.items) c.args.ins.now in
    let st = state_of lists c.args.vars.now in
    let took : c.port_place-p.result < length c.args.vars.now.read.items → Took lists c.port_place-p.result c.args.vars.now None c.take.new.self = subst (λ word. c.port_place-p.result < length c.args.vars.now.read.items → Took lists c.port_place-p.result c.args.vars.now word c.take.new.self) c.in-None.is c.in_ok-taken.ensures.took in
    at_port c.args.op.now c.args.to.now c.port_place-p.result _ n st (Over (Starved c.port_place-p.result) c.take.new.self.events.items) (c.port_place-p.ensures.value ∙ ap (λ ports. place_in (ports_at In ports) c.args.port.now) c.as_slice.ensures) (did_starve c.args.op.now (sizes_of c.args.vars.now) c.args.to.now c.port_place-p.result st (state_of lists c.take.new.self) n c.requires.sized (λ lt. (ap (state_of lists) (took lt).0, (took lt).1)))

pub returns-in-Some-clause-does : goal.returns-in-Some-clause-does
returns-in-Some-clause-does c = λ n.
    let lists : List (List ℕ) = map (λ v. v.items) c.args.ins.now in
    let st = state_of lists c.args.vars.now in
    at_port c.args.op.now c.args.to.now c.port_place-p.result _ n st (Goes (state_of lists c.put.new.self)) (c.port_place-p.ensures.value ∙ ap (λ ports. place_in (ports_at In ports) c.args.port.now) c.as_slice.ensures) (did_read c.args.op.now (sizes_of c.args.vars.now) c.args.to.now c.port_place-p.result st (state_of lists c.take.new.self) (state_of lists c.put.new.self) c.spot-spot.result n c.in-Some.word (record {
      sized = c.requires.sized;
      value = c.spot-spot.ensures.value lists;
      there = c.spot-spot.ensures.there;
    }) (subst (λ word. c.port_place-p.result < length c.args.vars.now.read.items → Took lists c.port_place-p.result c.args.vars.now word c.take.new.self) c.in-Some.is c.in_ok-taken.ensures.took) (λ k. c.put.ensures.state lists (subst (λ s. IsSpot s c.spot-spot.result) (sym c.in_ok-taken.ensures.sizes) k)))
