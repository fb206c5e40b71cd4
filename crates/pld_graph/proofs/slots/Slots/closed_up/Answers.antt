use Rattle.std.proofs.Common.{◌≡◌, ◌++◌, ◌∷◌, List, [], ◌<◌, ◌+◌, false, Some, None, length, take, refl, sym, ap, subst, ◌∙◌, arith}
use Rattle.std.specs.Prelude.{slice_get}
use Rattle.std.specs.List.{list_any}
use Rattle.std.proofs.lemmas.Option.{slice_get_read}
use Rattle.pld_graph.specs.Parts.{same_from, same_to}
use Rattle.pld_graph.specs.Slots.{live}
use Rattle.pld_graph.proofs.Ended.{from_same, to_same}
use Rattle.pld_graph.proofs.Found.{front_free, live_more}
use Rattle.std.proofs.lemmas.List.Elements.{filter_map-append}
use Rattle.pld_graph.proofs.slots.Slots.closed_up.Goals.{in-Some+in_ok-append, in_default}
use Rattle.pld_graph.proofs.slots.Slots.closed_up.Goals as goal

append-nil : {X : Type 0} (xs : List X) → xs ++ [] ≡ xs
append-nil [] = refl
append-nil (x ∷ xs) = ap (λ l. x ∷ l) (append-nil xs)

there : (c : goal.After-append-arg-in-Some-1) → slice_get c.self.inside.channels.items c.loop-i.i ≡ Some (Some c.in-Some.channel)
there c =
    let below = c.loop-i-test.true in
    let n = c.len-i-end.ensures in
    slice_get_read c.self.inside.channels.items _ c.loop-i.i c.index.result.now refl (omega (arith, below, n)) c.index.ensures ∙ ap Some c.in-Some.is

pub append-requires-clause-from_free : goal.append-requires-clause-from_free
append-requires-clause-from_free c =
    let q = c.in-Some.channel.from in
    subst (λ cs. list_any (λ d. same_from q d.from) cs ≡ false) (ap (λ s. live (take c.loop-i.i s)) c.self.view_is ∙ sym c.loop-i.invariant)
    (front_free same_from from_same (λ d. d.from) c.self.inside.channels.items c.self.inside.from_at.entries c.self.invariant.0 c.loop-i.i c.in-Some.channel (there c))

pub append-requires-clause-to_free : goal.append-requires-clause-to_free
append-requires-clause-to_free c =
    let q = c.in-Some.channel.to in
    subst (λ cs. list_any (λ d. same_to q d.to) cs ≡ false) (ap (λ s. live (take c.loop-i.i s)) c.self.view_is ∙ sym c.loop-i.invariant)
    (front_free same_to to_same (λ d. d.to) c.self.inside.channels.items c.self.inside.to_at.entries c.self.invariant.1 c.loop-i.i c.in-Some.channel (there c))

pub loop-i-preserved : goal.loop-i-preserved
loop-i-preserved c =
    let below = c.loop-i-test.true in
    let n = c.len-i-end.ensures in
    let at : slice_get c.args.self.now c.loop-i.i ≡ Some c.index.result.now = ap (λ s. slice_get s c.loop-i.i) (sym c.self.view_is) ∙ slice_get_read c.self.inside.channels.items _ c.loop-i.i c.index.result.now refl (omega (arith, below, n)) c.index.ensures in
    elim c.match-index.branch [
      | in-Some+in_ok-append w ↦ live_more c.args.self.now c.loop-i.slots c.match-index.slots c.loop-i.i (Some w.in-Some.channel) (at ∙ ap Some w.in-Some.is) c.loop-i.invariant
          (ap live (w.slots-is ∙ w.in_ok-append.ensures) ∙ filter_map-append (λ s. s) c.loop-i.slots (Some w.in-Some.channel ∷ []))
      | in_default w ↦ live_more c.args.self.now c.loop-i.slots c.match-index.slots c.loop-i.i None (at ∙ ap Some w.in_default.is) c.loop-i.invariant
          (ap live w.slots-is ∙ sym (append-nil (live c.loop-i.slots)))
    ]
