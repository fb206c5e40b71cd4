use Rattle.std.proofs.Common.{◌≡◌, map, take}
use Rattle.std.specs.List.{All}
use Rattle.pld_base.specs.Words.{IsWord}
use Rattle.pld_graph.specs.Design.{inputs}
use Rattle.pld_draft.specs.Draft.{words_of}
use Rattle.pld_session.proofs.runs.feeds.Given as goal

abbrev pub invariant-loop-k : goal.invariant-loop-k
invariant-loop-k l = (l.feeds.items ≡ map (λ name. words_of name l.draft.feeds) (take l.k (inputs l.draft.design.channels))) × All (All IsWord) l.feeds.items
