use Rattle.std.proofs.Common.{◌≡◌, subst, ap, ◌∙◌}
use Rattle.std.specs.Prelude.{IsSome}
use Rattle.fabric_run.specs.Replay.{outcome, replay, IsPlain}
use Rattle.fabric_run.specs.Trees.{tree_setup}
use Rattle.fabric_core.specs.Runs.{RunValue}
use Rattle.pld_session.proofs.large.run_again.Goals as goal

pub returns-clause-journal : goal.returns-clause-journal
returns-clause-journal c =
    let run = c.run_plain.result in
    let same : run.plan ≡ c.args.run.plan = c.run_plain.ensures.plan ∙ ap (λ (r : RunValue). r.plan) c.in_ok-prepare.ensures in
    c.plain_runs_over_the_tree_are_one.ensures c.args.run.plan run.journal c.args.run.journal
    (subst (λ p. IsPlain (tree_setup p) run.journal) same c.run_plain.ensures.plain)
    (subst (λ p. IsSome (outcome (tree_setup p) (replay (tree_setup p) run.journal))) same c.run_plain.ensures.over)
    c.requires.plain c.requires.over
