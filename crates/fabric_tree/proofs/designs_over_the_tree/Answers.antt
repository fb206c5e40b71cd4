use Rattle.fabric_tree.proofs.Closing.{promised, spent_early, agree}
use Rattle.fabric_tree.proofs.designs_over_the_tree.Goals as goal

pub returns : goal.returns
returns c = record {
  promise = λ plan operators journal design legal. promised plan operators design journal legal;
  early = λ plan operators journal rest limit design legal family ends spent. spent_early plan operators design journal rest limit legal family ends spent;
  agree = λ plan other operators journal journal_ same design design_ legal legal_ rested rested_. agree plan other operators journal journal_ same design design_ legal legal_ rested rested_;
}
