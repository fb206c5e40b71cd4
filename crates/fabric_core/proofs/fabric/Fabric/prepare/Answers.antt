use Rattle.std.proofs.Common.{◌≡◌, ◌+◌, ◌*◌, ℕ, List, [], length, map, subst, sym, ap, ◌∙◌, arith, Option}
use Rattle.net_switch.specs.declared.packet.Pattern.{Pattern}
use Rattle.net_switch.specs.declared.packet.Row.{Row}
use Rattle.fabric_run.specs.Entries.{stored, entry_of}
use Rattle.fabric_run.specs.Plan.{PlanValue}
use Rattle.leaf_net.specs.Net.{NetState, first_net}
use Rattle.fabric_core.specs.declared.board.Board.{Board}
use Rattle.fabric_core.specs.Runs.{room}
use Rattle.fabric_core.specs.Kept.{IsKept}
use Rattle.fabric_core.specs.Starting.{AreAll, fresh_out}
use Rattle.fabric_core.proofs.Beginning.{first_kept}
use Rattle.fabric_core.proofs.fabric.Fabric.prepare.Goals as goal

pub invariant_of-result : goal.invariant_of-result
invariant_of-result c =
    let plan : PlanValue = c.args.plan in
    let board : Board = record { net = c.in_ok-net.net; pages = c.in_ok-pages.pages; sent = c.in_ok-sent.sent; outs = c.in_ok-outs.outs; lively = 0 } in
    let net : c.in_ok-net.net ≡ first_net plan.depth plan.pattern plan.window plan.before plan.tables =
    c.in_ok-net.ensures ∙ ap (λ (d : ℕ). first_net d c.pattern.result c.window.result c.before-2.result.now c.tables.result.now) c.depth.ensures
    ∙ ap (λ (p : Pattern). first_net plan.depth p c.window.result c.before-2.result.now c.tables.result.now) c.pattern.ensures
    ∙ ap (λ (w : ℕ). first_net plan.depth plan.pattern w c.before-2.result.now c.tables.result.now) c.window.ensures
    ∙ ap (λ (rows : List (Option Row)). first_net plan.depth plan.pattern plan.window rows c.tables.result.now) c.before-2.ensures
    ∙ ap (λ (rows : List (Option Row)). first_net plan.depth plan.pattern plan.window plan.before rows) c.tables.ensures in
    let outs : AreAll (fresh_out (plan.rounds + 1)) c.in_ok-outs.outs.items = subst (λ (n : ℕ). AreAll (fresh_out (n + 1)) c.in_ok-outs.outs.items) c.rounds-2.ensures.value c.in_ok-outs.ensures.each in
    let journal : c.in_ok-journal.journal.items ≡ [] = c.in_ok-journal.ensures.items in
    let kept : IsKept plan [] board =
    first_kept plan board c.is_sound.ensures net c.in_ok-pages.ensures.shows c.in_ok-pages.ensures.count (c.in_ok-sent.ensures.many ∙ c.feeds.ensures.value) c.in_ok-sent.ensures.each (c.in_ok-outs.ensures.many ∙ c.outs.ensures.value) outs in
    let most : c.rounds.result * (8 * c.pages.result + 1) ≡ room plan = ap (λ n. n * (8 * c.pages.result + 1)) c.rounds.ensures.value ∙ ap (λ m. plan.rounds * (8 * m + 1)) c.pages.ensures.value in (
      subst (λ (j : List ℕ). IsKept plan (map entry_of j) board) (sym journal) kept,
      ap (λ (j : List ℕ). map stored (map entry_of j)) journal ∙ sym journal,
      omega (arith, most, c.in_ok-journal.ensures.capacity),
      c.entries_left-configs.ensures ∙ ap (λ (n : NetState). length n.entries) net,
    )
