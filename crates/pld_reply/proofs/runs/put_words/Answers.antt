use Rattle.std.proofs.Common.{[], ◌∷◌, ap, decimal, length, length-append, take, arith}
use Rattle.fabric_run.specs.Reply.{spaced}
use Rattle.pld_reply.proofs.Filling.{on_err, words_grow}
use Rattle.pld_reply.proofs.runs.put_words.Goals as goal

pub returns-in_err-put_text-clause-full : goal.returns-in_err-put_text-clause-full
returns-in_err-put_text-clause-full c =
    let words = c.args.words.now in
    let i = c.loop-word.word-index in
    let grown = ap length c.loop-word.invariant.0 in
    on_err c.from_residual.result
    (omega (
      arith,
      c.in_err-put_text.ensures.full,
      c.loop-word.invariant.1,
      grown,
      length-append c.args.reply.now.items (spaced (take i words)),
      c.loop-word.reply.ok.0,
      c.args.reply.now.ok.0,
      words_grow words i 0 (omega (arith, c.loop-word-test.true)),
    ))

pub returns-in_err-put_number-clause-full : goal.returns-in_err-put_number-clause-full
returns-in_err-put_number-clause-full c =
    let words = c.args.words.now in
    let i = c.loop-word.word-index in
    let grown = ap length c.loop-word.invariant.0 in
    let behind = ap length c.in_ok-put_text.ensures.text in
    let digits = ap (λ n. length (decimal n)) c.from.ensures in
    on_err c.from_residual-in_err-put_number.result
    (omega (
      arith,
      c.in_err-put_number.ensures.full,
      c.in_ok-put_text.ensures.room,
      c.loop-word.invariant.1,
      grown,
      behind,
      digits,
      length-append c.args.reply.now.items (spaced (take i words)),
      length-append c.loop-word.reply.items (32 ∷ []),
      c.put_text.new.reply.ok.0,
      c.loop-word.reply.ok.0,
      c.args.reply.now.ok.0,
      words_grow words i 0 (omega (arith, c.loop-word-test.true)),
    ))
