use Rattle.std.proofs.Common.{◌≡◌, length, rules}
use Rattle.pld_session.proofs.Recorded.{one_run}
use Rattle.pld_session.proofs.large.summed.Goals as goal

pub returns-clause-line : goal.returns-clause-line
returns-clause-line c =
    let one : length c.args.bench.now.records.items ≡ 1 = search rules in
    one_run c.args.number c.from.result c.args.bench.now.permits c.count.result c.args.bench.now.records.items c.pop.new.self.items c.push.new.self.items c.in-Some.record c.finish.result c.in_ok-fabric.fabric
    c.new-line.result.items c.put_summary.new.reply.items
    c.in-Some.ensures.items one c.in_ok-push.ensures.items c.in_ok-fabric.ensures.plan c.in_ok-fabric.ensures.journal c.finish.ensures.plan c.finish.ensures.journal c.from.ensures c.count.ensures
    c.new-line.ensures.items c.in_ok-put_summary.ensures
