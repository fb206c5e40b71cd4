use Rattle.std.proofs.Common.{◌≡◌, refl, sym, ap, ◌∙◌, subst}
use Rattle.pld_link.specs.Seats.{numbers}
use Rattle.fabric_run.specs.Plan.{PlanValue}
use Rattle.fabric_core.specs.Runs.{RunValue}
use Rattle.fabric_plan.specs.Plans.{Given, plan_of}
use Rattle.fabric_plan.specs.Runnable.{IsRunnable}
use Rattle.pld_session.specs.States.{BuildValue, images, leaves}
use Rattle.pld_session.specs.Runs.{given_in, holding, plan_in, CanRun}
use Rattle.pld_session.proofs.Told.{if_ok}
use Rattle.pld_session.proofs.Running.{same_given}
use Rattle.pld_session.proofs.runs.prepare_run.Goals as goal

pub plan-requires-clause-runnable : goal.plan-requires-clause-runnable
plan-requires-clause-runnable c =
    let d = c.args.draft.now in
    let given : Given = record {
      leaves = numbers c.leaf_of-leaves.result.now;
      images = c.in_ok-images.images.items;
      before = c.in_ok-before.before.items;
      feeds = c.in_ok-feeds.feeds.items;
      rounds = c.args.rounds;
    } in
    let l : leaves d ≡ numbers c.leaf_of-leaves.result.now = sym (c.leaf_of-leaves.ensures ∙ ap (λ (b : BuildValue). b.leaves) c.build.view_is ∙ c.requires.built.leaves) in
    let i : images d ≡ c.in_ok-images.images.items = sym (c.in_ok-images.ensures ∙ c.deref.ensures.value ∙ ap (λ (b : BuildValue). b.images) c.build.view_is ∙ c.requires.built.images) in
    let same = same_given (given_in (holding c.args.rounds d c.args.standing.now)) given l i (sym c.in_ok-before.ensures) (sym c.in_ok-feeds.ensures.value) refl in
    subst (λ g. IsRunnable g given) (sym c.graph-graph.ensures) (subst (λ x. IsRunnable d.design x) same c.built_designs_run.ensures.runnable)

pub returns : goal.returns
returns c =
    let d = c.args.draft.now in
    let st = holding c.args.rounds d c.args.standing.now in
    let given : Given = record {
      leaves = numbers c.leaf_of-leaves.result.now;
      images = c.in_ok-images.images.items;
      before = c.in_ok-before.before.items;
      feeds = c.in_ok-feeds.feeds.items;
      rounds = c.args.rounds;
    } in
    let l : leaves d ≡ numbers c.leaf_of-leaves.result.now = sym (c.leaf_of-leaves.ensures ∙ ap (λ (b : BuildValue). b.leaves) c.build.view_is ∙ c.requires.built.leaves) in
    let i : images d ≡ c.in_ok-images.images.items = sym (c.in_ok-images.ensures ∙ c.deref.ensures.value ∙ ap (λ (b : BuildValue). b.images) c.build.view_is ∙ c.requires.built.images) in
    let same = same_given (given_in st) given l i (sym c.in_ok-before.ensures) (sym c.in_ok-feeds.ensures.value) refl in
    let planned : c.in_ok-plan.plan ≡ plan_in st = c.in_ok-plan.ensures ∙ ap (λ g. plan_of g given) c.graph-graph.ensures ∙ ap (plan_of d.design) (sym same) in
    if_ok c.prepare.result (λ fabric e. (
      ap (λ (r : RunValue). r.journal) e,
      record { planned = ap (λ (r : RunValue). r.plan) e ∙ planned; runnable = c.built_designs_run.ensures.runnable; means = c.built_designs_run.ensures.means },
    )) c.prepare.ensures
