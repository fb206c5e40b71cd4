use Rattle.std.proofs.Common.{◌≡◌, ◌+◌, ◌<◌, ◌≤◌, false, Err, None, List, length, refl, ap, ◌∙◌, arith, rules, subst}
use Rattle.std.specs.Prelude.{nat_le, is_some}
use Rattle.build_cache.specs.Pairs.{Pair}
use Rattle.pld_graph.specs.Design.{open_port}
use Rattle.pld_place.specs.declared.placement.TooFewPages.{TooFewPages}
use Rattle.pld_place.specs.Placing.{pages}
use Rattle.pld_build.specs.Images.{compiles}
use Rattle.pld_reply.specs.Refusals.{refused_reply}
use Rattle.pld_session.specs.States.{State, Builds}
use Rattle.pld_session.proofs.Told.{few_sources, if_ok, build_spends, build_refused}
use Rattle.pld_session.proofs.session.Session.build.Goals as goal

pub build_design-requires-clause-room : goal.build_design-requires-clause-room
build_design-requires-clause-room g c =
    let few = few_sources c.self.inside.draft c.graph-graph.result.now c.sources-sources.result.now c.graph-graph.ensures c.sources-sources.ensures.value c.sources-sources.ensures.kept c.operators-operators.ensures.sound in
    omega (arith, few, ap length c.sources-sources.ensures.value, c.requires.room)

pub returns-in-Err-NoMemory-clause-err : goal.returns-in-Err-NoMemory-clause-err
returns-in-Err-NoMemory-clause-err g c =
    let some : nat_le (length c.self.inside.draft.sources) 0 ≡ false = search rules in
    let closed : open_port c.self.inside.draft.design ≡ None = search rules in
    let told = subst (λ f. Builds (Err f) c.self.inside.draft c.self.inside.compiler c.build_design.new.compiler c.args.bench.now.permits c.build_design.new.permits) c.in-Err-NoMemory.field-0-is c.in-Err-NoMemory.ensures in (
      refl,
      build_spends c.args.self.now c.args.number
          (subst (λ (st : State). nat_le (length st.draft.sources) 0 ≡ false) c.self.view_is some) (subst (λ (st : State). open_port st.draft.design ≡ None) c.self.view_is closed)
          c.args.bench.now.permits c.build_design.new.permits
          (subst (λ (st : State). length st.draft.sources ≤ pages st.draft.design) c.self.view_is told.0) told.1
          (subst (λ (st : State). c.build_design.new.permits ≤ c.args.bench.now.permits + compiles st.compiled st.draft.sources) c.self.view_is told.2),
    )

pub returns-in-Err-Fault-clause-ok : goal.returns-in-Err-Fault-clause-ok
returns-in-Err-Fault-clause-ok g c =
    let some : nat_le (length c.self.inside.draft.sources) 0 ≡ false = search rules in
    let closed : open_port c.self.inside.draft.design ≡ None = search rules in
    let told = subst (λ f. Builds (Err f) c.self.inside.draft c.self.inside.compiler c.build_design.new.compiler c.args.bench.now.permits c.build_design.new.permits) c.in-Err-Fault.field-0-is c.in-Err-Fault.ensures in
    let held : List Pair → State = λ pairs. record { rounds = c.self.inside.rounds; draft = c.self.inside.draft; compiled = pairs; built = is_some c.self.inside.build; standing = c.self.inside.standing.items; runs = c.self.inside.runs; counted = c.self.inside.counted } in
    let same : held c.build_design.new.compiler ≡ c.args.self.now = ap held told.4 ∙ c.self.view_is in
    if_ok c.refuse-in-Err-Fault.result (λ refused said. build_refused c.args.self.now c.args.number
    (subst (λ (st : State). nat_le (length st.draft.sources) 0 ≡ false) c.self.view_is some) (subst (λ (st : State). open_port st.draft.design ≡ None) c.self.view_is closed)
    g.X.Runner.order _ _ c.args.bench.now (record { permits = c.build_design.new.permits; records = c.args.bench.now.records }) _ refused _ same
    (subst (λ (st : State). pages st.draft.design < length st.draft.sources) c.self.view_is told.0)
    (ap (λ (f : TooFewPages). f.operators) c.in-Err-Fault.few-is ∙ told.1 ∙ ap (λ (st : State). length st.draft.sources) c.self.view_is)
    (ap (λ (f : TooFewPages). f.pages) c.in-Err-Fault.few-is ∙ told.2 ∙ ap (λ (st : State). pages st.draft.design) c.self.view_is)
    refl told.3 (said.0, said.1 ∙ ap (refused_reply c.args.number) c.too_few.ensures)) c.refuse-in-Err-Fault.ensures
