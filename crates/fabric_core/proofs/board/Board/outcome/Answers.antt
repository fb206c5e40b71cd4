use Rattle.std.proofs.Common.{sym, ◌∙◌}
use Rattle.fabric_run.specs.Trees.{tree_setup}
use Rattle.leaf_net.proofs.Showing.{quiet}
use Rattle.fabric_core.proofs.Stillness.{not_quiet, none_early, left_by}
use Rattle.fabric_core.proofs.board.Board.outcome.Goals as goal

pub returns-then-not-quiet : goal.returns-then-not-quiet
returns-then-not-quiet c st s =
    let setup = tree_setup c.args.plan.now in
    sym (none_early setup st (sym (c.none_out.ensures setup.size st.pages s.pages) ∙ c.if-not-none_out.false) (left_by _ _ _ _ (c.rounds.ensures ∙ s.net.rounds) c.rounds-2.ensures.value c.if-rounds.true)
    (not_quiet setup st (sym (quiet setup st c.args.self.now.net s.net) ∙ sym c.quiet.ensures ∙ c.if-not-quiet.true)))
