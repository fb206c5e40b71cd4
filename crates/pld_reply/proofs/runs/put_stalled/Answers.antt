use Rattle.std.proofs.Common.{◌≡◌, List, ℕ, ap, ◌∙◌, length, length-append, arith}
use Rattle.fabric_core.specs.Runs.{setup_for, state_of}
use Rattle.fabric_run.specs.Replay.{blocked}
use Rattle.fabric_run.specs.Reply.{at_line, lines_below, name_in}
use Rattle.pld_reply.proofs.Filling.{name_found, on_err, lines_grow}
use Rattle.pld_reply.proofs.runs.put_stalled.Goals as goal

pub returns-in_err-put_port-clause-full : goal.returns-in_err-put_port-clause-full
returns-in_err-put_port-clause-full c =
    let line : ℕ → List ℕ = λ k. at_line (name_in c.args.names.now k) (blocked (setup_for c.args.fabric.now) (state_of c.args.fabric.now) k) in
    let piece : at_line c.index-names-k.result c.blocked.result ≡ line c.loop-k.k = ap (λ n. at_line n c.blocked.result) (name_found c.args.names.now c.loop-k.k c.index-names-k.result (omega (arith, c.loop-k-test.true)) c.index-names-k.is) ∙ ap (at_line (name_in c.args.names.now c.loop-k.k)) c.blocked.ensures in
    let grown = ap length c.loop-k.invariant.0 in
    on_err c.from_residual.result
    (omega (
      arith,
      c.in_err-put_port.ensures.full,
      c.loop-k.invariant.1,
      grown,
      ap length piece,
      length-append c.args.reply.now.items (lines_below line c.loop-k.k),
      c.loop-k.reply.ok.0,
      c.args.reply.now.ok.0,
      lines_grow line c.loop-k.k (length c.args.names.now) (omega (arith, c.loop-k-test.true)),
    ))
