-- A run's trace, by what its statements did.
use Rattle.std.proofs.Common.{◌≡◌, ℕ, List, sym, ap, subst, ◌∙◌}
use Rattle.pld_ast.specs.declared.tree.Stmt.{Stmt}
use Rattle.pld_ast.specs.declared.tree.Operator.{Operator}
use Rattle.pld_ast.specs.Meaning.{State, start, meaning, trace_of, trace}
use Rattle.pld_ast.specs.Resolve.{block_in, declared_in, program_of}
use Rattle.pld_ast.specs.Sound.{IsSound}
use Rattle.pld_mean.specs.declared.vars.CEnd.{CEnd}
use Rattle.pld_mean.specs.declared.vars.Flow.{Flow}
use Rattle.pld_mean.specs.declared.vars.Vars.{Vars}
use Rattle.pld_mean.specs.Vars.{state_of}
use Rattle.pld_mean.specs.Run.{outcome_of, ended_in, inputs_of, Does}

pub traced : (op tree : Operator) (body : List Stmt) (ins : List (List ℕ)) (n : ℕ) (old new : Vars) (f : Flow) (end : CEnd) → tree ≡ op → body ≡ tree.body → IsSound (program_of op) → state_of ins old ≡ start (inputs_of ins) → Does (program_of tree) ins n (block_in (declared_in tree) body) old f new → ((st : State) → trace_of (outcome_of f st) ≡ ended_in st end) → ended_in (state_of ins new) end ≡ trace (program_of op) (inputs_of ins) n
traced op tree body ins n old new f end same is sound first did ends =
    let whole : Does (program_of tree) ins n (program_of tree).body old f new = subst (λ xs. Does (program_of tree) ins n (block_in (declared_in tree) xs) old f new) is did in
    let known : IsSound (program_of tree) = subst (λ x. IsSound (program_of x)) (sym same) sound in
    sym (ends (state_of ins new))
    ∙ ap trace_of (whole known.known ∙ ap (meaning (program_of tree).lengths (program_of tree).body n) first)
    ∙ ap (λ x. trace (program_of x) (inputs_of ins) n) same
