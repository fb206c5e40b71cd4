use Rattle.std.proofs.Common.{◌≡◌, map, sym, subst}
use Rattle.fabric_run.specs.Entries.{entry_of}
use Rattle.fabric_run.specs.Replay.{IsLegal}
use Rattle.fabric_run.specs.Trees.{tree_setup}
use Rattle.fabric_core.specs.Runs.{RunValue, words_of}
use Rattle.page_threads.proofs.Carrying.{ends_there}
use Rattle.page_threads.proofs.all.ended.Goals as goal

pub returns-clause-ends : goal.returns-clause-ends
returns-clause-ends c words begins over =
    let same : c.args.shared.fabric ≡ c.fabric.result = sym c.fabric.ensures in
    let legal = subst (λ (r : RunValue). IsLegal (tree_setup r.plan) r.journal) same c.look.ensures.legal in
    ends_there c.fabric.result words legal (subst (λ (r : RunValue). map entry_of (words_of r) ≡ r.journal) same c.look.ensures.words) begins over
