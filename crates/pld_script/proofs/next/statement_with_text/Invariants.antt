use Rattle.std.proofs.Common.{ℕ, List, ◌∷◌, length, ◌-◌, ◌+◌, ◌≡◌}
use Rattle.pld_script.specs.Statements.{Reads, text_of}
use Rattle.pld_script.proofs.next.statement_with_text.Given as goal

abbrev pub invariant-loop-line : goal.invariant-loop-line
invariant-loop-line l = (lines : List (List ℕ)) × Reads l.ended l.bytes l.blank (l.head ∷ lines) l.at × (l.text.items ≡ text_of lines) × (l.lines ≡ length lines + 1)

abbrev pub decreases-loop-line : goal.decreases-loop-line
decreases-loop-line l = length l.bytes - l.at
