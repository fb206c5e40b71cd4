-- So many steps in one go.
use Rattle.std.specs.Prelude.{ℕ, zero, suc}
use Rattle.pld_base.specs.declared.event.StepEnd.{StepEnd}
use Rattle.pld_base.specs.declared.event.StepEnd.TheVariants.{Went, AtRead, AtWrite, Ended, Trapped}
use Rattle.hot_swap.specs.Steps.{Meaning}

-- a state after some steps, and what the last one answered
pub record Ran (S : Type 0) : Type 0 where
  pub state : S
  pub end : StepEnd

abbrev pub ran_by : {S : Type 0} → S → StepEnd → Ran S → Ran S
ran_by s Went more = more
ran_by s (AtRead p) more = record { state = s; end = AtRead p }
ran_by s (AtWrite p w) more = record { state = s; end = AtWrite p w }
ran_by s Ended more = record { state = s; end = Ended }
ran_by s (Trapped pc) more = record { state = s; end = Trapped pc }

-- at most so many steps, up to the first one that isn't made; Went where all were
abbrev pub ran : {S : Type 0} → Meaning S → ℕ → S → Ran S
ran m zero s = record { state = s; end = Went }
ran m (suc n) s = ran_by s (m.answer s) (ran m n (m.stepped s))
