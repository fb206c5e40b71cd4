use Rattle.pld_script.proofs.Reading.{reads_more_at}
use Rattle.pld_script.proofs.Passing.{reads_text_at, text_first, open_first}
use Rattle.pld_script.proofs.next.statement_with_text.Goals as goal

pub loop-line-preserved : goal.loop-line-preserved
loop-line-preserved c =
    reads_text_at c.args.ended c.args.bytes.now c.args.blank c.args.head.now c.in-Some.line.now c.loop-line.at c.in-Some.used c.loop-line.lines
    c.loop-line.text.items c.extend_from_slice.new.self.items c.push.new.self.items c.loop-line.invariant c.in-Some.ensures (cc)
    c.in_ok-extend_from_slice.ensures.items c.in_ok-push.ensures.items

pub returns : goal.returns
returns c = (
  c.if-ended.false,
  reads_more_at c.args.ended c.args.bytes.now c.args.blank c.args.head.now c.loop-line.invariant.0 c.loop-line.at c.if-ended.false c.loop-line.invariant.1 c.in_default.ensures,
)

pub returns-then-closes_text : goal.returns-then-closes_text
returns-then-closes_text c =
    text_first c.args.ended c.args.bytes.now c.args.blank c.args.head.now c.in-Some.line.now c.loop-line.at c.in-Some.used c.loop-line.lines c.loop-line.text.items
    c.said_with-said.result c.told.result c.loop-line.invariant c.in-Some.ensures (cc) c.said_with-said.ensures c.told.ensures

pub returns-then-ended : goal.returns-then-ended
returns-then-ended c =
    open_first c.args.ended c.args.bytes.now c.args.blank c.args.head.now c.loop-line.at c.loop-line.lines c.loop-line.text.items c.told-then-ended.result
    c.if-ended.true c.loop-line.invariant c.in_default.ensures c.told-then-ended.ensures
