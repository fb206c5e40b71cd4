use Rattle.std.proofs.Common.{◌∙◌, ap, sym, Some, ◌∷◌}
use Rattle.atomic_table.specs.Table.{rest}
use Rattle.fabric_lock.proofs.lock.FabricLock.enter.Goals as goal

pub exchange-found-requires : goal.exchange-found-requires
exchange-found-requires g c =
    let e = c.claim.ensures.claims.slot in
    let x = c.claim.ensures.claims.value in
    (c.claim.ensures.same.0 ∙ c.requires.lock.table, (Some x, e ∙ ap (λ l. (0, Some x) ∷ l) (sym (ap rest e))))
