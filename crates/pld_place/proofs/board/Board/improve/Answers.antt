use Rattle.std.proofs.Common.{◌≡◌, ◌+◌, ◌-◌, suc, Some, sym, ap, ◌∙◌, arith, rules}
use Rattle.pld_place.specs.Exchanges.{first_pair, improved}
use Rattle.pld_place.proofs.Firsts.{more}
use Rattle.pld_place.proofs.board.Board.improve.Goals as goal

pub loop-k-preserved : goal.loop-k-preserved
loop-k-preserved c =
    let below = c.loop-k-test.true in
    let step : c.args.most - c.loop-k._k ≡ suc (c.args.most - (c.loop-k._k + 1)) = omega (arith, below) in
    let found : first_pair c.loop-k.self.channels c.loop-k.self.leaves c.args.movable.now ≡ Some (c.in-Some.a, c.in-Some.b) = search rules in (
      ap (λ s. s.channels) c.exchange.ensures ∙ c.loop-k.invariant.0,
      ap (λ s. s.last) c.exchange.ensures ∙ c.loop-k.invariant.1,
      ap (λ s. improved s.channels c.args.movable.now (c.args.most - (c.loop-k._k + 1)) s.leaves) c.exchange.ensures
          ∙ sym (more c.loop-k.self.channels c.loop-k.self.leaves c.args.movable.now _ _ (c.in-Some.a, c.in-Some.b) step found)
          ∙ c.loop-k.invariant.2,
    )
