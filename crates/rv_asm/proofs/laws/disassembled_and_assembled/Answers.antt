use Rattle.std.proofs.Common.{◌≡◌, subst, ap, ◌∙◌}
use Rattle.std.specs.Prelude.{Ok}
use Rattle.std.proofs.lemmas.Result.{MatchResult-weaker}
use Rattle.rv_asm.specs.Assembly.{op_in, assembled}
use Rattle.rv_asm.proofs.Whole.{AllSpelled, all_spelled, printed_back, one_op, no_fault}
use Rattle.rv_asm.proofs.laws.disassembled_and_assembled.Goals as goal

pub returns-in-Ok : goal.returns-in-Ok
returns-in-Ok c =
    let op = op_in c.args.op.now in
    let text = c.as_slice-in-Ok.result.now in
    let s = subst (λ ws. AllSpelled ws) c.as_slice.ensures.value (all_spelled c.as_slice.result.now c.all_spelled.ensures) in
    let back : assembled text ≡ Ok op = ap assembled (c.as_slice-in-Ok.ensures.value ∙ c.in-Ok.ensures) ∙ printed_back op c.requires.ins c.requires.outs c.requires.some c.requires.few s in
    MatchResult-weaker c.assemble.result c.assemble.ensures.exact (λ again e. one_op text (op_in again) op back e) (λ e f. no_fault text op back e f)
