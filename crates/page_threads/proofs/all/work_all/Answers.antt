use Rattle.std.proofs.Common.{rules, ◌≡◌, ℕ, List, map, ap, sym, ◌∙◌, subst}
use Rattle.fabric_lock.specs.History.{Begins}
use Rattle.fabric_lock.specs.Lock.{first_of, seen}
use Rattle.fabric_run.specs.Entries.{entry_of}
use Rattle.fabric_run.specs.Plan.{PlanValue}
use Rattle.fabric_core.specs.Runs.{RunValue, words_of}
use Rattle.page_threads.specs.Work.{EndsOver}
use Rattle.page_threads.proofs.all.work_all.Goals as goal

pub returns-clause-ok : goal.returns-clause-ok
returns-clause-ok g c =
    let run : RunValue = c.ended.result in
    let words : List ℕ = seen c.work_seats-seat.result in
    let first : (first_of c.in-Ok.made.0).fabric.plan ≡ c.args.fabric.plan = search rules in
    let plan : run.plan ≡ (first_of c.in-Ok.made.0).fabric.plan = ap (λ (r : RunValue). r.plan) c.ended.ensures.same ∙ c.close.ensures.base in
    let begins : Begins (words_of run) words = subst (λ (r : RunValue). Begins (words_of r) words) (sym c.ended.ensures.same) c.close.ensures.begins in
    let over : EndsOver run.plan (map entry_of words) = subst (λ (p : PlanValue). EndsOver p (map entry_of words)) (sym plan) c.work_seats-seat.ensures.over in
    (plan ∙ first, c.ended.ensures.ends words begins over)
