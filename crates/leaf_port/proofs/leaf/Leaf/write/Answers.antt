use Rattle.std.proofs.Common.{◌≡◌, ℕ, ◌*◌, arith, ◌<◌, subst, sym, ◌∙◌, ap, List, [], ◌∷◌, ◌++◌, length, refl, true, length-append}
use Rattle.std.specs.Prelude.{IsSome}
use Rattle.std.proofs.lemmas.Bool.Decides.{nat_tests}
use Rattle.circular_buffer.specs.Buffer.{Buffer, buffer, keep_last}
use Rattle.leaf_port.specs.declared.ports.Waiting.{Waiting}
use Rattle.leaf_port.specs.Leaf.{LeafState, out_port, row_of, wrote, can_write}
use Rattle.leaf_port.proofs.Keeps.{wrote_keeps, box_has_room, keep_all}
use Rattle.leaf_port.proofs.leaf.Leaf.write.Goals as goal

-- the ring has room
pushed : (b t : Buffer Waiting) (n : ℕ) (x : Waiting) → b.capacity ≡ n → length b.items < n → t ≡ buffer (keep_last b.capacity (b.items ++ x ∷ [])) b.capacity → t ≡ buffer (b.items ++ x ∷ []) b.capacity
pushed b t n x e l h =
    let k : keep_last b.capacity (b.items ++ x ∷ []) ≡ b.items ++ x ∷ [] = keep_all b.capacity (b.items ++ x ∷ []) (omega (arith, length-append b.items (x ∷ []))) in
    h ∙ ap (λ (xs : List Waiting). buffer xs b.capacity) k

pub invariant_of-self : goal.invariant_of-self
invariant_of-self c =
    let s : LeafState = record { own = c.self.inside.own.0; window = c.self.inside.window; rows = c.self.inside.rows; outs = c.self.inside.outs; ins = c.self.inside.ins.items; box = c.self.inside.outbox.items; back = c.self.inside.back } in
    let row : IsSome (row_of s c.args.port.0) = subst (λ (t : LeafState). IsSome (row_of t c.args.port.0)) (sym c.self.view_is) c.requires.row in
    let credit : 0 < (out_port s c.args.port.0).credits = omega (arith, c.if-out-eq0.false) in
    let room : length s.box < 8 * s.window = box_has_room s c.args.port.0 c.self.invariant.0 c.requires.port credit in
    let box : c.push_back.new.self ≡ buffer (wrote s c.args.port.0 c.args.w).box c.self.inside.outbox.capacity = pushed _ _ (8 * s.window) _ c.self.invariant.1 room c.push_back.ensures.items in
    rw (box, c.number_after.ensures) (wrote_keeps s c.args.port.0 c.args.w c.self.invariant.0 c.requires.port row credit, c.self.invariant.1, c.self.invariant.2)

pub returns-clause-state : goal.returns-clause-state
returns-clause-state c =
    let s : LeafState = record { own = c.self.inside.own.0; window = c.self.inside.window; rows = c.self.inside.rows; outs = c.self.inside.outs; ins = c.self.inside.ins.items; box = c.self.inside.outbox.items; back = c.self.inside.back } in
    let credit : 0 < (out_port s c.args.port.0).credits = omega (arith, c.if-out-eq0.false) in
    let can : can_write s c.args.port.0 ≡ true = grind (arith, nat_tests) in
    let room : length s.box < 8 * s.window = box_has_room s c.args.port.0 c.self.invariant.0 c.requires.port credit in
    let box : c.push_back.new.self ≡ buffer (wrote s c.args.port.0 c.args.w).box c.self.inside.outbox.capacity = pushed _ _ (8 * s.window) _ c.self.invariant.1 room c.push_back.ensures.items in
    rw (← c.self.view_is) (rw can (rw (box, c.number_after.ensures) refl))
