use Rattle.std.proofs.Common.{drop}
use Rattle.pld_link.specs.Seats.{numbers}
use Rattle.pld_link.proofs.Filling.{IsFilled}
use Rattle.pld_link.proofs.table.tables.Given as goal

abbrev pub invariant-loop-k : goal.invariant-loop-k
invariant-loop-k l = IsFilled l.g (numbers l.leaves) (drop l.k l.g.channels) l.rows.items
