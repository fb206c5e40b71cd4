use Rattle.fabric_run.specs.Trees.{tree_of, longest_way}
use Rattle.pld_reply.proofs.Outs.{has_outs, has_byte_ports}
use Rattle.pld_reply.proofs.laws.runs_have_outs.Goals as goal

pub returns : goal.returns
returns c = record {
  outs = λ plan operators journal design legal. has_outs (tree_of plan) plan operators (longest_way plan.depth plan.pattern) journal design (c.runs_over_the_tree.ensures.well plan design.sound) legal;
  ports = λ plan operators journal design legal. has_byte_ports (tree_of plan) plan operators (longest_way plan.depth plan.pattern) journal design (c.runs_over_the_tree.ensures.well plan design.sound) legal;
}
