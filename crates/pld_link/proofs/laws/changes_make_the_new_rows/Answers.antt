use Rattle.pld_link.proofs.Changed.{made_new, host_kept}
use Rattle.pld_link.proofs.laws.changes_make_the_new_rows.Goals as goal

pub returns : goal.returns
returns c = record {
  new = made_new;
  host = host_kept;
}
