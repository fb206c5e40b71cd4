use Rattle.std.proofs.Common.{◌≡◌, true, rules, refl, sym, ap, ◌∙◌, subst, arith, length}
use Rattle.std.specs.Prelude.{nat_lt, is_some}
use Rattle.fabric_run.specs.Plan.{PlanValue}
use Rattle.pld_link.specs.Seats.{operator_names}
use Rattle.pld_graph.specs.Design.{outputs}
use Rattle.pld_session.specs.States.{State}
use Rattle.pld_session.specs.Answers.{most_runs, after_run}
use Rattle.pld_session.specs.Runs.{holding, meanings, ran_reply, FitsRun, CanRun}
use Rattle.pld_session.proofs.Running.{took, below, not_yet, run_state, many, can_hold, fits_made, said_made, run_design, run_pages}
use Rattle.pld_session.proofs.session.Session.run.Goals as goal

pub make_run-requires-clause-design : goal.make_run-requires-clause-design
make_run-requires-clause-design g c =
    let d = c.self.inside.draft in
    let st = holding c.self.inside.rounds d c.deref.result.now in
    let can = c.in_ok-fabric.ensures.1 in
    (meanings d, run_design st c.in_ok-fabric.fabric.plan c.plans_are_designs.ensures.design can)

pub make_run-requires-clause-operators : goal.make_run-requires-clause-operators
make_run-requires-clause-operators g c =
    let d = c.self.inside.draft in
    let st = holding c.self.inside.rounds d c.deref.result.now in
    ap length c.in_ok-names.ensures.operators ∙ ap (λ x. length (operator_names x)) c.graph-graph.ensures ∙ many (λ o. o.name) d.design.operators ∙ sym (run_pages st c.in_ok-fabric.fabric.plan c.plans_are_designs.ensures.design c.in_ok-fabric.ensures.1)

pub returns-in-Err-clause-err : goal.returns-in-Err-clause-err
returns-in-Err-clause-err g c =
    let few = subst (λ (st : State). nat_lt st.runs most_runs ≡ true) c.self.view_is (below c.self.inside.runs 64 (omega (arith, c.if-self-ge-RUNS.false))) in
    not_yet c.args.self.now c.args.number c.args.bench.now _ (search rules) few c.in-Err.ensures.err.1 refl

pub returns-clause-ok : goal.returns-clause-ok
returns-clause-ok g c =
    let inside : State = record { rounds = c.self.inside.rounds; draft = c.self.inside.draft; compiled = c.self.inside.compiler; built = is_some c.self.inside.build; standing = c.self.inside.standing.items; runs = c.self.inside.runs; counted = c.self.inside.counted } in
    let few = subst (λ (st : State). nat_lt st.runs most_runs ≡ true) c.self.view_is (below c.self.inside.runs 64 (omega (arith, c.if-self-ge-RUNS.false))) in
    let made = c.in-Ok.ensures.made in
    let can : CanRun inside c.in_ok-fabric.fabric.plan =
    can_hold inside c.in_ok-fabric.fabric.plan (subst (λ rows. CanRun (holding c.self.inside.rounds c.self.inside.draft rows) c.in_ok-fabric.fabric.plan) c.deref.ensures.value c.in_ok-fabric.ensures.1) in
    let fit = fits_made g.X.Runner.order inside c.in_ok-fabric.fabric.plan _ _ _ _ _ _ _ can made in
    let said = said_made g.X.Runner.order inside c.in_ok-fabric.fabric.plan _ _ _ _ _ _ _ made
    (c.in_ok-names.ensures.operators ∙ ap operator_names c.graph-graph.ensures) (c.in_ok-names.ensures.outputs ∙ ap (λ x. outputs x.channels) c.graph-graph.ensures) in
    let state = run_state inside c.in-Ok.end.0.items c.in-Ok.end.1 made.run made.rows made.counted in
    took g.X.Runner.order c.args.self.now c.args.number made.run c.args.bench.now _ _ _ (search rules) few (subst (λ (st : State). FitsRun g.X.Runner.order st made.run) c.self.view_is fit) made.last refl
    (subst (λ (st : State). c.make_run.new.reply.items ≡ ran_reply st.draft made.run) c.self.view_is said) (state ∙ ap (λ (st : State). after_run st made.run) c.self.view_is)
