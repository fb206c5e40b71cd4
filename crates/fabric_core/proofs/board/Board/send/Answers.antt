use Rattle.std.proofs.Common.{◌≡◌, ◌+◌, ap, ◌∙◌, refl, arith}
use Rattle.std.specs.Prelude.{slice_get, slice_set, slice_index_or}
use Rattle.std.proofs.lemmas.Nat.{pow_pos}
use Rattle.fabric_run.specs.Plan.{feed_of}
use Rattle.fabric_run.specs.Trees.{tree_setup}
use Rattle.fabric_core.proofs.Hosting.{send_done, any_default}
use Rattle.fabric_core.proofs.board.Board.send.Goals as goal

pub returns-then-write-clause-shows : goal.returns-then-write-clause-shows
returns-then-write-clause-shows c st s =
    let b = c.args.self.now in
    let at : c.index-sent.result.now ≡ slice_index_or b.sent.items c.args.k 0 = c.index-sent.ensures ∙ any_default b.sent.items c.args.k c.index-sent.result.now 0 (omega (arith, c.requires.input, c.requires.fits.inputs)) in
    send_done (tree_setup c.args.plan.now) st b s c.args.k c.in-Some.word _ (pow_pos b.net.tree.depth) c.requires.input (c.in-Some.ensures.word ∙ ap (slice_get (feed_of c.args.plan.now c.args.k)) at) c.if-write.ensures.done
    c.write.ensures.state refl (ap (λ n. slice_set b.sent.items c.args.k (n + 1)) at) refl
