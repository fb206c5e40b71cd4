use Rattle.std.proofs.Common.{◌≡◌, sym, rules, true, false}
use Rattle.leaf_port.specs.Masks.{has}
use Rattle.leaf_port.proofs.Slots.{next_there, next_missing, took_is, took_none}
use Rattle.leaf_port.proofs.ports.InPort.take.Goals as goal

pub returns-then-not-has-clause-word : goal.returns-then-not-has-clause-word
returns-then-not-has-clause-word c =
    let missing : has c.self.inside.filled.bits c.self.inside.next ≡ false = search rules in
    rw (← c.self.view_is) (sym (next_missing c.self.inside.filled.bits c.self.inside.words c.self.inside.window c.self.inside.next c.self.inside.freed c.self.invariant.0 missing))

pub returns-then-not-has-clause-state : goal.returns-then-not-has-clause-state
returns-then-not-has-clause-state c =
    let missing : has c.self.inside.filled.bits c.self.inside.next ≡ false = search rules in
    rw (← c.self.view_is) (took_none c.self.inside.filled.bits c.self.inside.words c.self.inside.window c.self.inside.next c.self.inside.freed c.self.invariant.0 missing)

pub returns-clause-word : goal.returns-clause-word
returns-clause-word c =
    let there : has c.self.inside.filled.bits c.self.inside.next ≡ true = search rules in
    rw (← c.self.view_is) (sym (next_there c.self.inside.filled.bits c.self.inside.words c.self.inside.window c.self.inside.next c.self.inside.freed c.self.invariant.0 there))

pub returns-clause-state : goal.returns-clause-state
returns-clause-state c =
    let there : has c.self.inside.filled.bits c.self.inside.next ≡ true = search rules in
    rw (← c.self.view_is) (took_is c.self.inside.filled.bits c.without-self-inside.result.bits c.self.inside.words c.self.inside.window c.self.inside.next c.self.inside.freed c.number_after-self-inside.result c.self.invariant.0 c.self.invariant.1 there c.without-self-inside.ensures c.number_after-self-inside.ensures)
