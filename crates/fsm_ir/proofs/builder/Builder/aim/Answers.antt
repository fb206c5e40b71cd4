use Rattle.std.proofs.Common.{ap, rules}
use Rattle.fsm_ir.proofs.Joins.{aim_found, aim_missing}
use Rattle.fsm_ir.proofs.builder.Builder.aim.Goals as goal

pub returns-in-Some : goal.returns-in-Some
returns-in-Some c =
    let b = c.args.self.now in
    ap (λ l. record { ended = l; current = b.micros.items; temps = b.temps }) (aim_found b.ended.items c.args.at c.in-Some.block.now c.args.next (search rules) (search rules))

pub returns-in_default : goal.returns-in_default
returns-in_default c =
    let b = c.args.self.now in
    ap (λ l. record { ended = l; current = b.micros.items; temps = b.temps }) (aim_missing b.ended.items c.args.at c.args.next (search rules))
