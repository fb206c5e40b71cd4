use Rattle.std.proofs.Common.{refl, ap}
use Rattle.std.specs.Vec.{with_item}
use Rattle.pld_mean.specs.Vars.{state_of, sizes_of}
use Rattle.pld_mean.proofs.States.{element_put, lengths_put, outer, inner}
use Rattle.pld_mean.proofs.vars.Vars.set_element.Goals as goal

pub returns-then-i-len-clause-state : goal.returns-then-i-len-clause-state
returns-then-i-len-clause-state c = λ ins lt within.
    let row = c.index_mut.result.now in
    ap (λ f. record (state_of ins c.args.self.now) { arrays = f }) (element_put c.args.self.now.arrays.items c.args.t c.args.i c.args.v row (with_item row c.args.i c.args.v) c.index_mut.ensures.value refl (outer c.args.self.now.arrays.items c.args.t lt) (inner c.args.self.now.arrays.items c.args.t c.args.i row c.index_mut.ensures.value lt within))

pub returns-then-i-len-clause-sizes : goal.returns-then-i-len-clause-sizes
returns-then-i-len-clause-sizes c =
    let row = c.index_mut.result.now in
    ap (λ x. record (sizes_of c.args.self.now) { lengths = x }) (lengths_put c.args.self.now.arrays.items c.args.t c.args.i c.args.v row (with_item row c.args.i c.args.v) c.index_mut.ensures.value refl)
