use Rattle.std.proofs.Common.{rules, ◌≡◌, ◌<◌, Some, None, cond, length, sym, ap, ◌∙◌, arith}
use Rattle.pld_graph.specs.Parts.{stands_at, is_of}
use Rattle.pld_graph.specs.Slots.{live, cleared}
use Rattle.pld_graph.proofs.Found.{length-cleared, all_cleared, clear_step, set_same}
use Rattle.std.specs.Prelude.{slice_set}
use Rattle.pld_graph.proofs.channels.empty_of.Goals.{in-Some+then-is_of, in-Some+else-is_of, in_default}
use Rattle.pld_graph.proofs.channels.empty_of.Goals as goal

pub at-requires : goal.at-requires
at-requires c =
    let l = ap length c.loop-i.invariant.0 ∙ length-cleared (stands_at (is_of c.args.name.now)) c.args.slots.now c.loop-i.i in
    let below = c.loop-i-test.true in
    let n = c.len-i-end.ensures in
    omega (arith, l, below, n)

pub empty-requires-clause-within : goal.empty-requires-clause-within
empty-requires-clause-within c =
    let l = ap length c.loop-i.invariant.0 ∙ length-cleared (stands_at (is_of c.args.name.now)) c.args.slots.now c.loop-i.i in
    let below = c.loop-i-test.true in
    let n = c.len-i-end.ensures in
    omega (arith, l, below, n)

pub returns-clause-left : goal.returns-clause-left
returns-clause-left c =
    let past = c.loop-i-test.false in
    let most = c.loop-i.auto.i-end in
    let n = c.len-i-end.ensures in
    let all : c.loop-i.i ≡ length c.args.slots.now = omega (arith, past, most, n) in
    ap live c.loop-i.invariant.0 ∙ ap (λ k. live (cleared (stands_at (is_of c.args.name.now)) k c.args.slots.now)) all ∙ all_cleared (stands_at (is_of c.args.name.now)) c.args.slots.now

pub loop-i-preserved : goal.loop-i-preserved
loop-i-preserved c =
    let p = stands_at (is_of c.args.name.now) in
    let t = c.loop-i.slots in
    elim c.match-at.branch [
      | in-Some+then-is_of w ↦ (
        clear_step p c.args.slots.now t c.match-at.slots c.loop-i.i (Some w.in-Some.channel) c.loop-i.invariant.0 (c.at.ensures ∙ ap Some w.in-Some.is)
            (w.slots-is ∙ w.empty.ensures.emptied ∙ ap (λ b. slice_set t c.loop-i.i (cond b None (Some w.in-Some.channel))) (sym w.if-is_of.true ∙ w.is_of.ensures)),
        search rules,
      )
      | in-Some+else-is_of w ↦ (
        clear_step p c.args.slots.now t c.match-at.slots c.loop-i.i (Some w.in-Some.channel) c.loop-i.invariant.0 (c.at.ensures ∙ ap Some w.in-Some.is)
            (w.slots-is ∙ sym (set_same t c.loop-i.i (Some w.in-Some.channel) (c.at.ensures ∙ ap Some w.in-Some.is)) ∙ ap (λ b. slice_set t c.loop-i.i (cond b None (Some w.in-Some.channel))) (sym w.if-is_of.false ∙ w.is_of.ensures)),
        search rules,
      )
      | in_default w ↦ (
        clear_step p c.args.slots.now t c.match-at.slots c.loop-i.i None c.loop-i.invariant.0 (c.at.ensures ∙ ap Some w.in_default.is)
            (w.slots-is ∙ sym (set_same t c.loop-i.i None (c.at.ensures ∙ ap Some w.in_default.is))),
        search rules,
      )
    ]
