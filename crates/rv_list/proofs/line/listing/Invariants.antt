use Rattle.std.proofs.Common.{◌≡◌, ◌++◌, string_bytes, flat_map}
use Rattle.rv_list.specs.Listing.{answer}
use Rattle.rv_list.proofs.line.listing.Given as goal

abbrev pub invariant-loop-line : goal.invariant-loop-line
invariant-loop-line l = string_bytes l.said ++ flat_map answer l.line-iterator ≡ flat_map answer l.initial.line-iterator
