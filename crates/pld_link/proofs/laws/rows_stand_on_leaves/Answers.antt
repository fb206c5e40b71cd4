use Rattle.pld_link.proofs.Linked.{out_leaf, in_leaf}
use Rattle.pld_link.proofs.laws.rows_stand_on_leaves.Goals as goal

pub returns : goal.returns
returns c = record {
  out = λ d leaves leaf port r sound placed e. out_leaf d leaves sound placed leaf port r e;
  into = λ d leaves leaf port r sound placed e. in_leaf d leaves sound placed leaf port r e;
}
