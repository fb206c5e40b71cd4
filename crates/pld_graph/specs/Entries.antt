-- Entries of a map from names, as a design lists them.
use Rattle.std.specs.Prelude.{ℕ, List, map}
use Rattle.pld_graph.specs.declared.parts.OperatorEntry.{OperatorEntry}
use Rattle.pld_graph.specs.declared.operators.Counts.{Counts}

abbrev pub entry_of : List ℕ × Counts → OperatorEntry
entry_of e = record { name = e.0; ins = e.1.ins; outs = e.1.outs; pin = e.1.pin }

abbrev pub listed : List (List ℕ × Counts) → List OperatorEntry
listed es = map entry_of es
