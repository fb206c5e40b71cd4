use Rattle.std.proofs.Common.{rules, ◌≡◌, map, sym, ap, subst}
use Rattle.fabric_lock.specs.Lock.{first_of, seen, own}
use Rattle.fabric_run.specs.Entries.{entry_of}
use Rattle.fabric_run.specs.Replay.{IsLegal}
use Rattle.fabric_core.specs.Runs.{RunValue, setup_for, words_of}
use Rattle.fabric_core.specs.Holding.{Brings}
use Rattle.page_threads.specs.Work.{run_by}
use Rattle.page_threads.proofs.Carrying.{brings_later}
use Rattle.page_threads.proofs.work.bring_back.Goals as goal

pub finish-requires-clause-page : goal.finish-requires-clause-page
finish-requires-clause-page g c =
    let run : RunValue = c.enter-held.result.value.fabric in
    let shown : c.value.result.now.fabric ≡ run = ap (λ s. s.fabric) c.value.ensures.now in
    let same : map entry_of (words_of run) ≡ run.journal = subst (λ (r : RunValue). map entry_of (words_of r) ≡ r.journal) shown c.look.ensures.words in
    let legal : IsLegal (setup_for run) run.journal = subst (λ (r : RunValue). IsLegal (setup_for r) r.journal) shown c.look.ensures.legal in
    let now : c.value-2.result.now.fabric ≡ run = search rules in
    subst (λ (r : RunValue). Brings r c.number-number.result c.args.page) (sym now)
    (brings_later run (first_of c.args.lock.now).fabric.plan (seen c.args.seat) (own c.args.seat) c.args.seat.number c.number-number.result c.args.page
    c.requires.page c.enter-held.ensures.base same legal c.enter-held.ensures.begins c.requires.own c.enter-held.ensures.own c.number-number.ensures)
