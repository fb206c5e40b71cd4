use Rattle.std.proofs.Common.{sym, ◌∙◌}
use Rattle.fabric_run.specs.Trees.{tree_setup}
use Rattle.leaf_net.proofs.Showing.{quiet}
use Rattle.fabric_core.proofs.Stillness.{not_quiet, input_moves, output_moves, pages_decide}
use Rattle.fabric_core.proofs.board.Board.is_still.Goals as goal

pub returns-then-not-quiet : goal.returns-then-not-quiet
returns-then-not-quiet c st s =
    let setup = tree_setup c.args.plan.now in
    sym (not_quiet setup st (sym (quiet setup st c.args.self.now.net s.net) ∙ sym c.quiet.ensures ∙ c.if-not-quiet.true))

pub returns-then-not-inputs_stay : goal.returns-then-not-inputs_stay
returns-then-not-inputs_stay c st s =
    let setup = tree_setup c.args.plan.now in
    sym (input_moves setup st (sym (c.inputs_stay.ensures st s) ∙ c.if-not-inputs_stay.true))

pub returns-then-not-outputs_stay : goal.returns-then-not-outputs_stay
returns-then-not-outputs_stay c st s =
    let setup = tree_setup c.args.plan.now in
    sym (output_moves setup st (sym (c.outputs_stay.ensures setup st s) ∙ c.if-not-outputs_stay.true))

pub returns : goal.returns
returns c st s =
    let setup = tree_setup c.args.plan.now in
    c.pages_stay.ensures setup st s ∙ pages_decide setup st (sym (quiet setup st c.args.self.now.net s.net) ∙ sym c.quiet.ensures ∙ c.if-not-quiet.false) (sym (c.inputs_stay.ensures st s) ∙ c.if-not-inputs_stay.false) (sym (c.outputs_stay.ensures setup st s) ∙ c.if-not-outputs_stay.false)
