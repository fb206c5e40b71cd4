use Rattle.pld_link.proofs.Linked.{input_row, output_row, host_out, host_in, is_some_of}
use Rattle.pld_link.proofs.laws.hosts_have_rows.Goals as goal

pub returns : goal.returns
returns c = record {
  inputs = λ d leaves k sound placed few. let r = input_row d leaves sound placed k few in is_some_of _ r.0 r.1;
  outputs = λ d leaves k sound placed few. let r = output_row d leaves sound placed k few in is_some_of _ r.0 r.1;
  no_other_input = λ d leaves k r sound placed e. host_out d leaves sound placed k r e;
  no_other_output = λ d leaves k r sound placed e. host_in d leaves sound placed k r e;
}
