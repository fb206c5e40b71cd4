use Rattle.std.proofs.Common.{◌<◌, arith}
use Rattle.leaf_port.proofs.Slots.{put_is, put_within}
use Rattle.leaf_port.proofs.ports.InPort.put.Goals as goal

pub bounds-self-inside-number : goal.bounds-self-inside-number
bounds-self-inside-number c =
    let l : c.args.number < c.self.inside.window = put_within c.self.inside.filled.bits c.self.inside.words c.self.inside.window c.self.inside.next c.self.inside.freed c.args.number _ c.self.view_is c.requires in
    omega (arith, c.self.invariant.1)

pub with-self-inside-requires : goal.with-self-inside-requires
with-self-inside-requires c =
    let l : c.args.number < c.self.inside.window = put_within c.self.inside.filled.bits c.self.inside.words c.self.inside.window c.self.inside.next c.self.inside.freed c.args.number _ c.self.view_is c.requires in
    omega (arith, c.self.invariant.1)

pub returns : goal.returns
returns c =
    let l : c.args.number < c.self.inside.window = put_within c.self.inside.filled.bits c.self.inside.words c.self.inside.window c.self.inside.next c.self.inside.freed c.args.number _ c.self.view_is c.requires in
    rw (← c.self.view_is) (put_is c.self.inside.filled.bits c.with-self-inside.result.bits c.self.inside.words c.self.inside.window c.self.inside.next c.self.inside.freed c.args.number c.args.word l c.self.invariant.1 c.self.invariant.2 c.with-self-inside.ensures)
