use Rattle.fabric_tree.proofs.Rounds.{offers_so, round_is}
use Rattle.fabric_tree.proofs.rounds_are_the_trees.Goals as goal

pub returns : goal.returns
returns c = record {
  offers = λ plan journal seat sound legal m. offers_so plan journal seat sound legal m;
  round = λ plan journal seat. round_is plan journal seat;
}
