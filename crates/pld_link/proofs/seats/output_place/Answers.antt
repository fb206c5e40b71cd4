use Rattle.std.proofs.Common.{◌≡◌, sym, ◌∙◌, arith}
use Rattle.pld_link.proofs.Places.{place_found, place_past, none_more, some_there, below_count}
use Rattle.pld_link.proofs.seats.output_place.Goals as goal
use Rattle.pld_link.proofs.seats.output_place.Goals.{in-Some+else-is_same, in_default}

pub returns-then-is_same : goal.returns-then-is_same
returns-then-is_same c =
    sym (place_found _ c.args.name.now c.in-Some.output c.loop-k.k (below_count _ _ _ c.outputs-outputs.ensures c.loop-k-test.true) c.loop-k.invariant
    (sym c.output_at.ensures ∙ c.in-Some.is) (sym c.is_same.ensures ∙ c.if-is_same.true))

pub loop-k-preserved : goal.loop-k-preserved
loop-k-preserved c = elim c.match-output_at.branch [
  | in-Some+else-is_same w ↦ none_more _ c.args.name.now w.in-Some.output c.loop-k.k c.loop-k.invariant (sym c.output_at.ensures ∙ w.in-Some.is) (sym w.is_same.ensures ∙ w.if-is_same.false)
  | in_default w ↦ absurd (some_there _ c.loop-k.k (below_count _ _ _ c.outputs-outputs.ensures c.loop-k-test.true) (sym c.output_at.ensures ∙ w.in_default.is))
]

pub returns : goal.returns
returns c =
    let all : c.outputs-outputs.result ≡ c.loop-k.k = omega arith in
    all ∙ sym (place_past _ c.args.name.now c.loop-k.k (sym all ∙ c.outputs-outputs.ensures) c.loop-k.invariant)
