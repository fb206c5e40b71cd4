use Rattle.std.proofs.Common.{◌≡◌, sym, rules, true, false}
use Rattle.leaf_port.specs.Masks.{has}
use Rattle.leaf_port.proofs.Slots.{next_there, next_missing}
use Rattle.leaf_port.proofs.ports.InPort.next_word.Goals as goal

pub returns-then-has : goal.returns-then-has
returns-then-has c =
    let there : has c.self.inside.filled.bits c.self.inside.next ≡ true = search rules in
    rw (← c.self.view_is) (sym (next_there c.self.inside.filled.bits c.self.inside.words c.self.inside.window c.self.inside.next c.self.inside.freed c.self.invariant.0 there))

pub returns-else-has : goal.returns-else-has
returns-else-has c =
    let missing : has c.self.inside.filled.bits c.self.inside.next ≡ false = search rules in
    rw (← c.self.view_is) (sym (next_missing c.self.inside.filled.bits c.self.inside.words c.self.inside.window c.self.inside.next c.self.inside.freed c.self.invariant.0 missing))
