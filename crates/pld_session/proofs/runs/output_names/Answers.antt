use Rattle.std.proofs.Common.{◌<◌, length, sym, ap, ◌∙◌, rules}
use Rattle.pld_graph.specs.Design.{outputs}
use Rattle.pld_session.proofs.Gathered.{got_more, is_there}
use Rattle.pld_session.proofs.runs.output_names.Goals.{in-Some+in_ok-push, in_default}
use Rattle.pld_session.proofs.runs.output_names.Goals as goal

pub loop-k-preserved : goal.loop-k-preserved
loop-k-preserved c =
    let xs = outputs c.args.graph.now.channels in
    elim c.match-output_at.branch [
      | in-Some+in_ok-push w ↦ got_more xs c.loop-k.k w.in-Some.name c.loop-k.names.items c.match-output_at.names.items (sym w.in-Some.ensures) c.loop-k.invariant (ap (λ v. v.items) w.names-is ∙ w.in_ok-push.ensures.items)
      | in_default w ↦ (let l : c.loop-k.k < length xs = search rules in absurd (is_there xs c.loop-k.k l (search rules)))
    ]
