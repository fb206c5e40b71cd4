use Rattle.std.proofs.Common.{◌≡◌, ◌-◌}
use Rattle.pld_link.specs.Changes.{changed_among}
use Rattle.pld_link.proofs.relink.changes.Given as goal

abbrev pub invariant-loop-k : goal.invariant-loop-k
invariant-loop-k l = l.entries.items ≡ changed_among l.old l.new 16 (l.k - 16)
