-- What the execution of a part of an operator comes to.
use Rattle.std.specs.Prelude.{◌≡◌, ℕ, List, [], get_or}
use Rattle.pld_base.specs.Process.{Inputs, TraceEnd, Returned, Starved, Cut, Trace}
use Rattle.pld_ast.specs.Meaning.{State, Outcome, Goes, Over, meaning}
use Rattle.pld_ast.specs.Program.{Program, Action}
use Rattle.pld_ast.specs.Sound.{IsKnown}
use Rattle.pld_mean.specs.declared.vars.CEnd.{CEnd}
use Rattle.pld_mean.specs.declared.vars.CEnd.TheVariants as end
use Rattle.pld_mean.specs.declared.vars.Flow.{Flow}
use Rattle.pld_mean.specs.declared.vars.Flow.TheVariants as flow
use Rattle.pld_mean.specs.declared.vars.Vars.{Vars}
use Rattle.pld_mean.specs.declared.run.CRun.{CRun}
use Rattle.pld_mean.specs.Vars.{state_of}

abbrev pub end_of : CEnd → TraceEnd
end_of end.Returned = Returned
end_of (end.Starved p) = Starved p.0
end_of end.Cut = Cut

-- it goes on in this state, or is over with its events
abbrev pub outcome_of : Flow → State → Outcome
outcome_of flow.Goes st = Goes st
outcome_of (flow.Over e) st = Over (end_of e) st.events

-- a trace that ends in this state
abbrev pub ended_in : State → CEnd → Trace
ended_in st e = record { events = st.events; end = end_of e }

-- an action did what it means, where its names are declared
abbrev pub Does : Program → List (List ℕ) → ℕ → Action → Vars → Flow → Vars → Type 0
Does g ins n a old flow new =
    IsKnown g a → outcome_of flow (state_of ins new) ≡ meaning g.lengths a n (state_of ins old)

-- the list of each in-port; it is empty where there is no such port
abbrev pub inputs_of : List (List ℕ) → Inputs
inputs_of lists p = get_or lists p []

-- a run has the events and the end of a trace
abbrev pub IsTraced : CRun → Trace → Type 0
IsTraced run trace = (run.events.items ≡ trace.events) × (end_of run.end ≡ trace.end)
