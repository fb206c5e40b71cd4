-- What a page's core does in steps, and a core that repeats what another has done.
use Rattle.std.specs.Prelude.{◌≡◌, ℕ, [], slice_get}
use Rattle.pld_base.specs.Lists.{port}
use Rattle.pld_base.specs.Machine.{Move, Steps, Reads, Writes, Stops}
use Rattle.pld_base.specs.declared.event.StepEnd.{StepEnd}
use Rattle.pld_base.specs.declared.event.StepEnd.TheVariants as end
use Rattle.hot_swap.specs.Steps.{Meaning, move_of}
use Rattle.hot_swap.specs.Chase.{Chase, chasing}
use Rattle.rv_core.specs.Machine.{Step as SoftStep, soft_step}
use Rattle.rv_core.specs.Machine as soft
use Rattle.fsm_core.specs.Machine.{Step as HardStep, hard_step}
use Rattle.fsm_core.specs.Machine as hard
use Rattle.pld_image.specs.declared.page.TurnEnd.{TurnEnd}
use Rattle.pld_image.specs.declared.page.TurnEnd.TheVariants.{AtRead, AtWrite, Ended, Limit}
use Rattle.pld_image.specs.Standing.{StandsAt}
use Rattle.pld_image.specs.Cores.{Core, Soft, Hard, next, after_read, after_write, steps, turned_in}

-- what a step of a softcore answers at this place, and one of a hardware page
abbrev pub soft_answer : SoftStep → (pc : ℕ) → StepEnd
soft_answer (soft.Went m) pc = end.Went
soft_answer (soft.AtRead p rd) pc = end.AtRead (port p)
soft_answer (soft.AtWrite p w) pc = end.AtWrite (port p) w
soft_answer soft.Ended pc = end.Ended
soft_answer soft.Trapped pc = end.Trapped pc

abbrev pub hard_answer : HardStep → StepEnd
hard_answer (hard.Went m) = end.Went
hard_answer (hard.AtRead p) = end.AtRead (port p)
hard_answer (hard.AtWrite p w) = end.AtWrite (port p) w
hard_answer hard.Ended = end.Ended

-- what a step answers
unfoldable pub answer : Core → StepEnd
answer (Soft code ins outs m) = soft_answer (soft_step (slice_get code) ins outs m) m.pc
answer (Hard t m) = hard_answer (hard_step (slice_get t.states) t.arrays m)

abbrev pub stepped_by : Core → Move Core → Core
stepped_by c (Steps after) = after
stepped_by c (Reads p after) = c
stepped_by c (Writes p w after) = c
stepped_by c Stops = c

-- the core after a step, if that went
unfoldable pub stepped : Core → Core
stepped c = stepped_by c (next c)

abbrev pub page_meaning : Meaning Core
page_meaning = record { answer = answer; stepped = stepped; read = after_read; written = after_write }

-- the next move of a core that repeats operations before it goes on by itself
abbrev pub next_chasing : Chase Core → Move (Chase Core)
next_chasing = move_of (chasing page_meaning)

-- such a core after a turn, and how the turn ends; an operation that is repeated is a step
unfoldable pub turned_chasing : Chase Core → Chase Core
turned_chasing c = (turned_in next_chasing steps c).core

unfoldable pub chasing_end : Chase Core → TurnEnd
chasing_end c = (turned_in next_chasing steps c).end

-- it stands where the turn ended, and nothing is left to be repeated; after the limit it stands nowhere
abbrev pub ChasingStandsAt : Chase Core → TurnEnd → Type 0
ChasingStandsAt c Limit = Unit {0}
ChasingStandsAt c (AtRead p) = (c.left ≡ []) × StandsAt c.core (AtRead p)
ChasingStandsAt c (AtWrite p w) = (c.left ≡ []) × StandsAt c.core (AtWrite p w)
ChasingStandsAt c Ended = (c.left ≡ []) × StandsAt c.core Ended

-- how a turn ends whose last step ended so; a trap counts as the end
abbrev pub turn_of : StepEnd → TurnEnd
turn_of end.Went = Limit
turn_of (end.AtRead p) = AtRead p
turn_of (end.AtWrite p w) = AtWrite p w
turn_of end.Ended = Ended
turn_of (end.Trapped pc) = Ended
