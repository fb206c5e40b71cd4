-- The reply to a run, read off what it shows.
use Rattle.std.specs.Prelude.{ℕ, zero, suc, List, [], ◌∷◌, ◌++◌, length, flat_map, codes, decimal, slice_index_or, Option, Some, None}
use Rattle.fabric_run.specs.declared.row.Outcome.{Outcome}
use Rattle.fabric_run.specs.declared.row.Outcome.TheVariants.{Done, Stalled, Spent}
use Rattle.fabric_run.specs.declared.row.Blocked.{Blocked}
use Rattle.pld_base.specs.declared.event.Side.{Side}
use Rattle.pld_base.specs.declared.event.Side.TheVariants.{In, Out}
use Rattle.fabric_run.specs.Shown.{Shown}

abbrev pub line_of : List ℕ → List ℕ
line_of text = text ++ 10 ∷ []

abbrev pub outcome_line : Option Outcome → ℕ → List ℕ
outcome_line None rounds = []
outcome_line (Some Done) rounds = line_of (codes "done")
outcome_line (Some Stalled) rounds = line_of (codes "stalled")
outcome_line (Some Spent) rounds = line_of (codes "spent " ++ decimal rounds)

abbrev pub port_text : Side → ℕ → List ℕ
port_text In port = codes ".i" ++ decimal port ++ codes " empty"
port_text Out port = codes ".o" ++ decimal port ++ codes " full"

abbrev pub at_line : List ℕ → Option Blocked → List ℕ
at_line name None = []
at_line name (Some at) = line_of (codes "at " ++ name ++ port_text at.side at.port.0)

-- each word behind a space
abbrev pub spaced : List ℕ → List ℕ
spaced words = flat_map (λ word. 32 ∷ decimal word) words

abbrev pub out_line : List ℕ → List ℕ → List ℕ
out_line name words = line_of (codes "out " ++ name ++ (32 ∷ decimal (length words)) ++ spaced words)

abbrev pub lines_below : (ℕ → List ℕ) → ℕ → List ℕ
lines_below line zero = []
lines_below line (suc n) = lines_below line n ++ line n

-- ports are named at `stalled` alone
abbrev pub at_lines : (ℕ → List ℕ) → Option Outcome → (ℕ → Option Blocked) → ℕ → List ℕ
at_lines names None ports n = []
at_lines names (Some Done) ports n = []
at_lines names (Some Stalled) ports n = lines_below (λ k. at_line (names k) (ports k)) n
at_lines names (Some Spent) ports n = []

-- the k-th of some names
abbrev pub name_in : List (List ℕ) → ℕ → List ℕ
name_in names k = slice_index_or names k []

-- the names are those of so many operators and so many outputs, in declaration order
abbrev pub reply : (ℕ → List ℕ) → (ℕ → List ℕ) → (operators outs : ℕ) → Shown → List ℕ
reply names outputs operators outs s =
    outcome_line s.outcome s.rounds ++ (at_lines names s.outcome s.port operators ++ lines_below (λ k. out_line (outputs k) (s.words k)) outs)
