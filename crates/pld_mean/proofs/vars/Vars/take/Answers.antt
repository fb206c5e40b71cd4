use Rattle.std.proofs.Common.{ℕ, List, [], ◌+◌, length, map, drop, get_or, ap, sym, subst, ◌<◌, ◌∙◌}
use Rattle.pld_mean.specs.Vars.{left_with}
use Rattle.pld_mean.proofs.States.{taken}
use Rattle.pld_mean.proofs.vars.Vars.take.Goals as goal

pub returns-clause-took : goal.returns-clause-took
returns-clause-took c = λ lt.
    let lists : List (List ℕ) = map (λ v. v.items) c.args.ins.now in
    let p = c.args.p in
    let ws : List ℕ = drop (c.read_at-r.result + 1) (get_or lists p []) in
    let still : p < length c.note.new.self.read.items = subst (λ n. p < n) (sym (ap (λ s. s.ins) c.in_ok-note.ensures.sizes)) lt in
    (ws, taken _ _ _ _ c.list_at-list.ensures c.read_at-r.ensures c.if-r-list.false, c.read_to.ensures.state lists still ∙ ap (λ st. left_with st p ws) (c.in_ok-note.ensures.state lists))
