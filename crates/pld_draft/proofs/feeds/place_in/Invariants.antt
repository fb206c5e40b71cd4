use Rattle.std.proofs.Common.{◌≡◌, drop}
use Rattle.pld_draft.specs.Edits.{place_from}
use Rattle.pld_draft.proofs.feeds.place_in.Given as goal

abbrev pub invariant-loop-k : goal.invariant-loop-k
invariant-loop-k l = place_from l.k l.name (drop l.k l.feeds) ≡ place_from 0 l.name l.feeds
