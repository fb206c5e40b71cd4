use Rattle.std.proofs.Common.{◌≡◌, List, ℕ, ap, ◌∙◌, length, length-append, arith}
use Rattle.fabric_core.specs.Runs.{state_of}
use Rattle.fabric_run.specs.World.{out_at}
use Rattle.fabric_run.specs.Reply.{out_line, lines_below, name_in}
use Rattle.pld_reply.proofs.Filling.{name_found, on_err, lines_grow}
use Rattle.pld_reply.proofs.runs.put_outs.Goals as goal

pub returns-in_err-put_out-clause-full : goal.returns-in_err-put_out-clause-full
returns-in_err-put_out-clause-full c =
    let line : ℕ → List ℕ = λ k. out_line (name_in c.args.outputs.now k) (out_at (state_of c.args.fabric.now) k) in
    let piece : out_line c.index-outputs-k.result c.out.result.now ≡ line c.loop-k.k = ap (λ n. out_line n c.out.result.now) (name_found c.args.outputs.now c.loop-k.k c.index-outputs-k.result (omega (arith, c.loop-k-test.true)) c.index-outputs-k.is) ∙ ap (out_line (name_in c.args.outputs.now c.loop-k.k)) c.out.ensures in
    let grown = ap length c.loop-k.invariant.0 in
    on_err c.from_residual.result
    (omega (
      arith,
      c.in_err-put_out.ensures.full,
      c.loop-k.invariant.1,
      grown,
      ap length piece,
      length-append c.args.reply.now.items (lines_below line c.loop-k.k),
      c.loop-k.reply.ok.0,
      c.args.reply.now.ok.0,
      lines_grow line c.loop-k.k (length c.args.outputs.now) (omega (arith, c.loop-k-test.true)),
    ))
