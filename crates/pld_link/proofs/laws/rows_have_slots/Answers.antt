use Rattle.pld_link.proofs.Linked.{out_ports, in_ports}
use Rattle.pld_link.proofs.laws.rows_have_slots.Goals as goal

pub returns : goal.returns
returns c = record {
  out = λ d leaves leaf port r sound placed slots e. out_ports d leaves sound placed leaf port r slots e;
  into = λ d leaves leaf port r sound placed slots e. in_ports d leaves sound placed leaf port r slots e;
}
