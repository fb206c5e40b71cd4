use Rattle.fabric_tree.proofs.Closing.{well, whole, ran}
use Rattle.fabric_tree.proofs.runs_over_the_tree.Goals as goal

pub returns : goal.returns
returns c = record {
  well = λ plan sound. well plan sound;
  whole = λ plan journal sound legal. whole plan sound journal legal;
  links = λ plan journal sound legal. ran plan sound journal legal;
}
