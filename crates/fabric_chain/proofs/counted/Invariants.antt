use Rattle.std.specs.Prelude.{◌≡◌, ◌<◌, ◌^◌, ℕ, List, length}
use Rattle.std.specs.List.{All}
use Rattle.fabric_chain.proofs.counted.Given as goal

pub record AreCounted (words : List ℕ) (n : ℕ) : Type 0 where
  pub many : length words ≡ n
  pub each : All (λ word. word < 2 ^ 32) words

abbrev pub invariant-loop-word : goal.invariant-loop-word
invariant-loop-word l = AreCounted l.words.items l.word
