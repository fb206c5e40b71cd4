-- Each array of an operator of the grammar has a word at least.
use Rattle.std.proofs.Common.{◌≡◌, ℕ, zero, suc, ◌≤◌, ◌<◌, List, [], ◌∷◌, ◌++◌, length, map, arith}
use Rattle.std.specs.Prelude.{slice_index}
use Rattle.pld_ast.specs.declared.tree.Array.{Array}
use Rattle.pld_ast.specs.declared.tree.Stmt.{Stmt}
use Rattle.pld_ast.specs.declared.tree.Operator.{Operator}
use Rattle.pld_ast.specs.Resolve.{program_of}
use Rattle.pld_check.specs.Known.{AreFilled}
use Rattle.pld_grammar.specs.Symbols.{Symbol}
use Rattle.pld_grammar.specs.Rewritings.{Declared, AScalar, AnArray, arrays_of}
use Rattle.pld_grammar.specs.Grammar.{Syntax, Body, Declaration, operator, statements, declare, plain, initial, array}

abbrev lengths_of : List Declared → List ℕ
lengths_of vs = map (λ (a : Array). a.len) (arrays_of vs)

one_more : (n : ℕ) (lengths : List ℕ) → AreFilled lengths → AreFilled (suc n ∷ lengths)
one_more n lengths h zero less = omega arith
one_more n lengths h (suc t) less = h t (omega arith)

with_declared : {ts rest : List Symbol} {v : Declared} {b : List Stmt} (vs : List Declared) → Declaration ts rest v b → AreFilled (lengths_of vs) → AreFilled (lengths_of (v ∷ vs))
with_declared vs (plain t) h = h
with_declared vs (initial t e) h = h
with_declared vs (array {len = len} t) h = one_more len (lengths_of vs) h

body_filled : {ts rest : List Symbol} {vs : List Declared} {b : List Stmt} → Body ts rest vs b → AreFilled (lengths_of vs)
body_filled (statements s) = λ t less. absurd (omega arith)
body_filled (declare {vs = vs} d body) = with_declared vs d (body_filled body)

pub filled : {ts : List Symbol} {op : Operator} → Syntax ts op → AreFilled (program_of op).lengths
filled (operator p body) = body_filled body
