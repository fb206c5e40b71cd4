use Rattle.pld_session.proofs.Recorded.{text_session, source_holds, sink_holds}
use Rattle.pld_session.proofs.large.run_text.Goals as goal

pub returns-clause-ok : goal.returns-clause-ok
returns-clause-ok c =
    let made = c.new-source.ensures in
    let empty = c.in_ok-replies.ensures in
    text_session c.args.rounds c.args.text.items _ _ _ _ _ _ _ _
    (source_holds _ _ _ _ _ _ made.given made.left made.ended made.failed made.faults)
    (sink_holds _ _ _ empty.empty empty.failed empty.counts.1)
    c.new-session.ensures c.run.ensures.outcome
