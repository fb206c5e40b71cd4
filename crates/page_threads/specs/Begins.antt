-- What a worker began.
use Rattle.std.specs.Prelude.{◌≡◌, ℕ}
use Rattle.fabric_core.specs.Runs.{RunValue, words_of}
use Rattle.fabric_core.specs.Holding.{Holds}
use Rattle.page_threads.specs.Work.{IsNoted, EndsOver}
use Rattle.page_threads.specs.declared.begun.Begun.{Begun}
use Rattle.page_threads.specs.declared.begun.Begun.TheVariants.{Over, Taken, Round, Nothing}

-- by the run before, the run after, and the worker's seat
abbrev pub Began : RunValue → RunValue → ℕ → Begun → Type 0
Began old new seat Over = (new ≡ old) × EndsOver new.plan new.journal
Began old new seat (Taken page) = IsNoted seat (words_of old) (words_of new) × Holds new seat page
Began old new seat Round = IsNoted seat (words_of old) (words_of new)
Began old new seat Nothing = new ≡ old
