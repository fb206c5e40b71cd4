use Rattle.std.proofs.Common.{◌≡◌, [], ◌-◌, length, drop, sym, ap, ◌∙◌}
use Rattle.hot_swap.specs.Advances.{ran}
use Rattle.hot_swap.specs.Chase.{Chase, seen, chasing}
use Rattle.hot_swap.proofs.Advancing.{goes_on, rest_alone, none_left}
use Rattle.hot_swap.proofs.chasing.Chasing.advance.Goals as goal

pub returns-then-left-eq0-clause-end : goal.returns-then-left-eq0-clause-end
returns-then-left-eq0-clause-end g c =
    let m = g.C.Steps.meaning in
    let state = g.C.Steps.state in
    let now = c.loop-made.self in
    let n = c.args.most - c.loop-made.made in
    let none = none_left now.left (sym c.left.ensures.left ∙ c.if-left-eq0.true) in
    c.advance.ensures.end ∙ ap (λ v. (ran m n (state v.core)).end) c.self.view_is
    ∙ ap (λ r. r.end) (rest_alone m state n now (ran (chasing m) c.args.most (seen state c.args.self.now)) none c.loop-made.invariant)

pub returns-then-left-eq0-clause-state : goal.returns-then-left-eq0-clause-state
returns-then-left-eq0-clause-state g c =
    let m = g.C.Steps.meaning in
    let state = g.C.Steps.state in
    let now = c.loop-made.self in
    let n = c.args.most - c.loop-made.made in
    let none = none_left now.left (sym c.left.ensures.left ∙ c.if-left-eq0.true) in
    let core : state c.advance.new.self ≡ (ran m n (state now.core)).state = c.advance.ensures.state ∙ ap (λ v. (ran m n (state v.core)).state) c.self.view_is in
    let left : drop c.self.inside.done c.self.inside.log.operations ≡ [] = ap (λ v. v.left) c.self.view_is ∙ none in
    (λ i. let x : Chase g.C.Steps.State = record { core = core i; left = left i } in x)
    ∙ ap (λ r. r.state) (rest_alone m state n now (ran (chasing m) c.args.most (seen state c.args.self.now)) none c.loop-made.invariant)

pub loop-made-preserved : goal.loop-made-preserved
loop-made-preserved g c =
    let m = g.C.Steps.meaning in
    let state = g.C.Steps.state in
    let now = c.loop-made.self in
    goes_on (chasing m) c.args.most c.loop-made.made (seen state now) (seen state c.step.new.self) (ran (chasing m) c.args.most (seen state c.args.self.now)) c.loop-made-test.true c.loop-made.invariant
    (sym c.step.ensures.answer ∙ c.step.ensures.goes (λ none. c.if-left-eq0.false (c.left.ensures.left ∙ ap length none))) c.step.ensures.state
