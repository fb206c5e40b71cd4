-- What is said, in one line, of a session that made one run.
use Rattle.std.specs.Prelude.{ℕ, ◌%◌, ◌^◌, List, [], ◌++◌, length, codes, decimal, Option, Some, None}
use Rattle.std.specs.List.{sum}
use Rattle.fabric_run.specs.declared.row.Outcome.{Outcome}
use Rattle.fabric_run.specs.declared.row.Outcome.TheVariants.{Done, Stalled, Spent}
use Rattle.fabric_run.specs.Reply.{line_of}
use Rattle.fabric_run.specs.Shown.{Shown}

abbrev pub outcome_word : Option Outcome → List ℕ
outcome_word None = []
outcome_word (Some Done) = codes "done"
outcome_word (Some Stalled) = codes "stalled"
outcome_word (Some Spent) = codes "spent"

-- the sum of some words, modulo 2^32
abbrev pub word_sum : List ℕ → ℕ
word_sum words = sum words % 2 ^ 32

-- a session of this number, how many permits it spent, how its run ended, and how many words the first output has, with their sum
abbrev pub summary : ℕ → ℕ → Shown → List ℕ
summary number permits s =
    line_of (codes "big " ++ decimal number ++ codes " compiled " ++ decimal permits ++ codes " " ++ outcome_word s.outcome ++ codes " words " ++ decimal (length (s.words 0)) ++ codes " sum " ++ decimal (word_sum (s.words 0)))
