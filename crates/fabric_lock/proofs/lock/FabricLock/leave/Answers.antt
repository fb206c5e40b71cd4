use Rattle.std.proofs.Common.{rules, ◌≡◌, ◌++◌, ◌∙◌, ap, sym, subst, length, drop}
use Rattle.fabric_lock.specs.History.{AllOf, entries_of}
use Rattle.fabric_lock.proofs.Moves.{releases}
use Rattle.fabric_lock.proofs.Histories.{next_is, next_own}
use Rattle.fabric_lock.proofs.lock.FabricLock.leave.Goals as goal

pub tell-requires-clause-own : goal.tell-requires-clause-own
tell-requires-clause-own g c =
    subst (λ n. AllOf n (drop (length c.args.held.place.me.0.seen) (g.V.Told.told_of c.args.held.value))) (sym c.args.held.busy.number_is) (next_is _ _ _ c.requires.history).1

pub tell-requires-clause-told : goal.tell-requires-clause-told
tell-requires-clause-told g c = (next_is _ _ _ c.requires.history).0

pub store-requires : goal.store-requires
store-requires g c =
    let now = ap (λ m. m.0.seen) c.tell.ensures.told in
    let stays = ap (λ m. m.0.seen) c.exchange-hole.ensures.3 in
    (search rules, search rules, releases _ _ _ _ _ _ _ c.args.held.value (search rules) (search rules) c.requires.base ((next_is _ _ _ c.requires.history).0 ∙ (sym now ∙ sym stays)) (search rules))

pub returns-clause-all : goal.returns-clause-all
returns-clause-all g c =
    let seen : c.store.new.seat.me.0.seen ≡ g.V.Told.told_of c.args.held.value =
    ap (λ m. m.0.seen) c.store.ensures.2 ∙ (ap (λ m. m.0.seen) c.exchange-hole.ensures.3 ∙ (ap (λ m. m.0.seen) c.tell.ensures.told ∙ sym (next_is _ _ _ c.requires.history).0)) in
    let own : c.store.new.seat.me.0.own ≡ c.args.held.place.me.0.own ++ drop (length c.args.held.place.me.0.seen) (g.V.Told.told_of c.args.held.value) =
    ap (λ m. m.0.own) c.store.ensures.2 ∙ (ap (λ m. m.0.own) c.exchange-hole.ensures.3 ∙ ap (λ m. m.0.own) c.tell.ensures.told) in
    own ∙ (next_own _ _ _ _ c.requires.history c.args.held.busy.all ∙ ap (entries_of c.args.held.number) (sym seen))
