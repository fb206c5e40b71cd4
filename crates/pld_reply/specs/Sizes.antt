-- How long the reply to a run may be.
use Rattle.std.specs.Prelude.{◌≡◌, ℕ, ◌+◌, ◌*◌, ◌≤◌, ◌<◌, ◌^◌, List, length, Some}
use Rattle.std.specs.List.{All}
use Rattle.pld_base.specs.Words.{IsWord}
use Rattle.fabric_run.specs.declared.row.Blocked.{Blocked}
use Rattle.fabric_run.specs.Shown.{Shown}

-- names have at most 32 bytes
abbrev pub AreShort : (ℕ → List ℕ) → Type 0
AreShort names = (k : ℕ) → length (names k) ≤ 32

-- at most so many rounds were made, no output has more words than that, and each of them is below 2^32
pub record HasOuts (rounds : ℕ) (s : Shown) : Type 0 where
  pub made : s.rounds ≤ rounds
  pub few : (k : ℕ) → length (s.words k) ≤ rounds
  pub words : (k : ℕ) → All IsWord (s.words k)

-- the numbers of the ports at which pages stand are bytes
abbrev pub HasBytePorts : Shown → Type 0
HasBytePorts s = (k : ℕ) (at : Blocked) → s.port k ≡ Some at → at.port.0 < 2 ^ 8

-- 27 bytes for how the run ended, 47 for each operator's port, and for each output 58 and 11 for each word
abbrev pub run_room : ℕ → ℕ → ℕ → ℕ
run_room operators outs rounds = 27 + 47 * operators + (58 + 11 * rounds) * outs
