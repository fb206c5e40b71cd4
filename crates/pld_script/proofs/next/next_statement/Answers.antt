use Rattle.pld_script.proofs.Reading.{reads_none_at}
use Rattle.pld_script.proofs.Passing.{reads_skipped, reads_opens, single_first}
use Rattle.pld_script.proofs.next.next_statement.Goals as goal

pub returns-then-ended : goal.returns-then-ended
returns-then-ended c = (c.if-ended.true, reads_none_at c.args.ended _ c.args.bytes.now c.loop-line.blank c.loop-line.at c.if-ended.true c.loop-line.invariant c.in_default.ensures)

pub returns-else-ended : goal.returns-else-ended
returns-else-ended c = (c.if-ended.false, reads_none_at c.args.ended _ c.args.bytes.now c.loop-line.blank c.loop-line.at c.if-ended.false c.loop-line.invariant c.in_default.ensures)

pub loop-line-preserved : goal.loop-line-preserved
loop-line-preserved c =
    reads_skipped c.args.ended c.args.bytes.now c.loop-line.blank c.loop-line.at c.in-Some.used c.in-Some.line.now c.loop-line.invariant c.in-Some.ensures (cc)

pub returns-in-Single : goal.returns-in-Single
returns-in-Single c =
    single_first c.args.ended c.args.bytes.now c.loop-line.blank c.loop-line.at c.in-Some.used c.in-Some.line.now c.in_ok-said-in-Single.said c.told.result
    c.loop-line.invariant c.in-Some.ensures (cc) c.in_ok-said-in-Single.ensures c.told.ensures

pub statement_with_text-requires : goal.statement_with_text-requires
statement_with_text-requires c =
    reads_opens c.args.ended c.args.bytes.now c.loop-line.blank c.loop-line.at c.in-Some.used c.in-Some.line.now c.loop-line.invariant c.in-Some.ensures (cc)
