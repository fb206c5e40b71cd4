use Rattle.pld_link.proofs.Linked.{out_in, in_out}
use Rattle.pld_link.proofs.laws.rows_name_each_other.Goals as goal

pub returns : goal.returns
returns c = record {
  out_in = λ d leaves leaf port r sound placed e. out_in d leaves sound placed leaf port r e;
  in_out = λ d leaves leaf port r sound placed e. in_out d leaves sound placed leaf port r e;
}
