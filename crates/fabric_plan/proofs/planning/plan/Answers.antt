use Rattle.std.proofs.Common.{sym, subst}
use Rattle.pld_link.specs.Seats.{numbers}
use Rattle.fabric_run.specs.Plan.{IsSound}
use Rattle.fabric_plan.specs.Plans.{Given}
use Rattle.fabric_plan.proofs.Planned.{plan_sound}
use Rattle.fabric_plan.proofs.Making.{plan_is}
use Rattle.fabric_plan.proofs.planning.plan.Goals as goal

pub new-requires : goal.new-requires
new-requires c =
    let d = c.args.g.now in
    let given : Given = record { leaves = numbers c.args.leaves.now; images = c.args.images.items; before = c.args.before.items; feeds = c.args.feeds.items; rounds = c.args.rounds } in
    subst IsSound
    (sym (plan_is d given c.depth.result c.window.result c.outputs.result c.operators.result c.allowed-rounds.result c.pattern.result c.in_ok-pages.pages.items c.args.tables.items
    c.depth.ensures.value c.pattern.ensures c.window.ensures.value c.in_ok-pages.ensures c.requires.tables c.outputs.ensures c.operators.ensures.value c.allowed-rounds.ensures))
    (plan_sound d given c.requires.runnable)
