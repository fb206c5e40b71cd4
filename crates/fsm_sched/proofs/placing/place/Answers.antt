use Rattle.std.proofs.Common.{sym, ap, ◌∙◌, arith, length, map, ◌++◌, ◌∷◌, []}
use Rattle.fsm_sched.specs.Rule.{spot}
use Rattle.fsm_sched.proofs.Spots.{some_below, put_some, put_none}
use Rattle.fsm_sched.proofs.placing.place.Goals as goal

pub index_mut-requires : goal.index_mut-requires
index_mut-requires c =
    let h = some_below (λ s. s.items) c.args.m c.args.states.now.items c.in-Some.k (sym c.in-Some.is ∙ c.spot.ensures ∙ ap (λ l. spot c.args.m (map (λ s. s.items) l)) c.deref.ensures.value) in
    omega (arith, h, c.deref.ensures.len, ap length c.deref.ensures.value)

pub returns-in_ok-push-in-Some : goal.returns-in_ok-push-in-Some
returns-in_ok-push-in-Some c =
    put_some (λ s. s.items) c.args.m c.args.states.now.items c.in-Some.k c.push.new.self c.index_mut.result.now (sym c.in-Some.is ∙ c.spot.ensures ∙ ap (λ l. spot c.args.m (map (λ s. s.items) l)) c.deref.ensures.value) c.index_mut.ensures.value c.in_ok-push-in-Some.ensures.items

pub returns-in_ok-push-in-None-2 : goal.returns-in_ok-push-in-None-2
returns-in_ok-push-in-None-2 c =
    ap (map (λ s. s.items)) c.in_ok-push-in-None-2.ensures.items ∙ put_none (λ s. s.items) c.args.m c.args.states.now.items c.push-in-None.new.self (sym c.in-None.is ∙ c.spot.ensures ∙ ap (λ l. spot c.args.m (map (λ s. s.items) l)) c.deref.ensures.value) (c.in_ok-push-in-None.ensures.items ∙ ap (λ l. l ++ c.args.m ∷ []) c.new-state.ensures.items)
