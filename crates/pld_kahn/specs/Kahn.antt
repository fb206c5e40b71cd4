-- Kahn's iterates towards the least solution of a network's equations.
use Rattle.std.specs.Prelude.{◌≡◌, ℕ, zero, suc, ◌≤◌, List, []}
use Rattle.pld_base.specs.Prefix.{IsPrefixOf}
use Rattle.pld_base.specs.Events.{words_written}
use Rattle.pld_base.specs.Channels.{Node, OperatorNode, InputNode, OutputNode, Words, channel_words}
use Rattle.pld_kahn.specs.Network.{Network, sends, process_of}

-- at first the inputs have all their words, and nothing has come out of an operator
abbrev pub at_first : Network → Words
at_first net (InputNode number) port = words_written (sends (net.feed number)) port
at_first net (OperatorNode number) port = []
at_first net (OutputNode number) port = []

-- what each process writes within so many turns, where these words are on the channels
abbrev pub next_words : Network → ℕ → Words → Words
next_words net turns words node port = words_written (process_of net node (words node) turns).events port

-- K(n), at each out-port
abbrev pub iterate : Network → ℕ → Words
iterate net zero = at_first net
iterate net (suc n) = next_words net n (channel_words net.wiring (iterate net n))

-- K(n), on the channel into each in-port
abbrev pub kahn : Network → ℕ → Words
kahn net n = channel_words net.wiring (iterate net n)

-- the words begin the Kahn stream of the channel into this in-port
pub record BeginsStream (net : Network) (node : Node) (port : ℕ) (words : List ℕ) : Type 0 where
  pub n : ℕ
  pub begins : IsPrefixOf words (kahn net n node port)

-- the words are the whole Kahn stream of the channel into this in-port
pub record IsWholeStream (net : Network) (node : Node) (port : ℕ) (words : List ℕ) : Type 0 where
  pub from : ℕ
  pub equal : (n : ℕ) → from ≤ n → kahn net n node port ≡ words
