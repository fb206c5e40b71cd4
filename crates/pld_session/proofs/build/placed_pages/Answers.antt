use Rattle.std.proofs.Common.{◌<◌, length, ap, arith}
use Rattle.std.specs.Prelude.{slice_index_or}
use Rattle.pld_base.specs.declared.event.PageId.{PageId}
use Rattle.pld_graph.specs.Design.{blank}
use Rattle.pld_session.proofs.Placed.{pages_more}
use Rattle.pld_session.proofs.build.placed_pages.Goals as goal

pub loop-k-preserved : goal.loop-k-preserved
loop-k-preserved c =
    let leaf : PageId = record { 0 = 0 } in
    let many : c.loop-k.k < length c.args.graph.now.operators = omega (arith, c.loop-k-test.true, c.operators-k-end.ensures.value) in
    pages_more c.args.leaves.now c.args.graph.now.operators c.args.sources.now c.loop-k.k leaf blank c.index-sources-k.result c.loop-k.pages.items c.push.new.self.items _
    (omega (arith, many, c.requires.leaves)) many (omega (arith, many, c.requires.sources)) c.loop-k.invariant c.in_ok-push.ensures.items
    (ap (λ t. record { leaf = slice_index_or c.args.leaves.now c.loop-k.k leaf; name = t.0; kind = (slice_index_or c.args.sources.now c.loop-k.k c.index-sources-k.result).kind }) c.operator-name.ensures)
