use Rattle.std.proofs.Common.{◌≡◌}
use Rattle.leaf_port.specs.Leaf.{owed_from}
use Rattle.leaf_port.proofs.Slots.{lowest_told}
use Rattle.leaf_port.proofs.leaf.Leaf.lowest_owed.Goals as goal

pub returns-clause-lowest : goal.returns-clause-lowest
returns-clause-lowest c =
    let told : c.lowest.result ≡ owed_from 0 c.self.inside.ins.items = lowest_told c.self.inside.ins.items c.self.inside.owed.bits c.lowest.result c.self.invariant.0.ins c.self.invariant.2 c.lowest.ensures in
    rw (← c.self.view_is) told
