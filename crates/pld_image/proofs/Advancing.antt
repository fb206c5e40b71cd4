-- Many steps of a page's core, in code and in turns.
use Rattle.std.proofs.Common.{◌≡◌, ℕ, zero, suc, List, slice_get, refl, sym, ap, ◌∙◌, subst}
use Rattle.pld_base.specs.declared.event.StepEnd.{StepEnd}
use Rattle.pld_base.specs.declared.event.StepEnd.TheVariants as end
use Rattle.hot_swap.specs.Steps.{Meaning, move_by, move_of}
use Rattle.hot_swap.specs.Advances.{Ran, ran, ran_by}
use Rattle.rv_isa.specs.declared.instr.Instr.{Instr}
use Rattle.rv_core.specs.Core.{Core as SoftCore, machine_of as soft_machine}
use Rattle.rv_core.specs.Machine.{Machine as SoftMachine, Step as SoftStep, soft_step}
use Rattle.rv_core.specs.Machine as soft
use Rattle.rv_core.specs.Process.{move_of as soft_move}
use Rattle.rv_core.specs.Turn.{Ran as SoftRan, Runs as SoftRuns, ran as soft_ran, ran_by as soft_ran_by}
use Rattle.fsm_core.specs.Core.{Core as HardCore, machine_of as hard_machine}
use Rattle.fsm_core.specs.Machine.{Machine as HardMachine, Step as HardStep, Code as HardCode, hard_step}
use Rattle.fsm_core.specs.Machine as hard
use Rattle.fsm_core.specs.Process.{move_of as hard_move}
use Rattle.fsm_core.specs.Table.{Plan}
use Rattle.fsm_core.specs.Turn.{Ran as HardRan, Runs as HardRuns, ran as hard_ran, ran_by as hard_ran_by}
use Rattle.pld_image.specs.declared.page.Runner.{Runner}
use Rattle.pld_image.specs.declared.page.Runner.TheVariants as runner
use Rattle.pld_image.specs.declared.page.PageCore.{PageCore}
use Rattle.pld_image.specs.Cores.{Core, Soft, Hard, Turned, core_in, core_of, lifted, next, turned_by, turned_in}
use Rattle.pld_image.specs.Steps.{page_meaning, answer, stepped, stepped_by, soft_answer, hard_answer, turn_of}

-- so many steps of any machine are a turn of so many
abbrev turn_from : {S : Type 0} → Ran S → Turned S
turn_from r = record { core = r.state; end = turn_of r.end }

module _ {S : Type 0} (m : Meaning S) where
  turn_by : (n : ℕ) (s : S) (e : StepEnd) → ((t : S) → turned_in (move_of m) n t ≡ turn_from (ran m n t))
      → turned_by s (move_by m s e) (turned_in (move_of m) n) ≡ turn_from (ran_by s e (ran m n (m.stepped s)))
  turn_by n s end.Went go = go (m.stepped s)
  turn_by n s (end.AtRead p) go = refl
  turn_by n s (end.AtWrite p w) go = refl
  turn_by n s end.Ended go = refl
  turn_by n s (end.Trapped pc) go = refl

  pub turn_is : (n : ℕ) (s : S) → turned_in (move_of m) n s ≡ turn_from (ran m n s)
  turn_is zero s = refl
  turn_is (suc n) s = turn_by n s (m.answer s) (turn_is n)

-- the steps of a softcore
abbrev soft_ran_of : (SoftMachine → Core) → SoftRan → Ran Core
soft_ran_of core r = record { state = core r.machine; end = r.end }

soft_by : (core : SoftMachine → Core) (n : ℕ) (go : SoftMachine → SoftRan) (m : SoftMachine) → ((d : SoftMachine) → ran page_meaning n (core d) ≡ soft_ran_of core (go d)) → (s : SoftStep)
    → ran_by (core m) (soft_answer s m.pc) (ran page_meaning n (stepped_by (core m) (lifted core (soft_move s m)))) ≡ soft_ran_of core (soft_ran_by m s go)
soft_by core n go m more (soft.Went d) = more d
soft_by core n go m more (soft.AtRead p rd) = refl
soft_by core n go m more (soft.AtWrite p w) = refl
soft_by core n go m more soft.Ended = refl
soft_by core n go m more soft.Trapped = refl

soft_all : (code : List Instr) (ins outs n : ℕ) (m : SoftMachine) → ran page_meaning n (Soft code ins outs m) ≡ soft_ran_of (Soft code ins outs) (soft_ran (slice_get code) ins outs n m)
unfolding next answer stepped
soft_all code ins outs zero m = refl
soft_all code ins outs (suc n) m =
    soft_by (Soft code ins outs) n (soft_ran (slice_get code) ins outs n) m (λ d. soft_all code ins outs n d) (soft_step (slice_get code) ins outs m)

-- and those of a hardware page
abbrev hard_ran_of : (HardMachine → Core) → HardRan → Ran Core
hard_ran_of core r = record { state = core r.machine; end = r.end }

hard_by : (core : HardMachine → Core) (code : HardCode) (l : List ℕ) (n : ℕ) (go : HardMachine → HardRan) (m : HardMachine) → ((d : HardMachine) → ran page_meaning n (core d) ≡ hard_ran_of core (go d)) → (s : HardStep)
    → ran_by (core m) (hard_answer s) (ran page_meaning n (stepped_by (core m) (lifted core (hard_move code l s m)))) ≡ hard_ran_of core (hard_ran_by m s go)
hard_by core code l n go m more (hard.Went d) = more d
hard_by core code l n go m more (hard.AtRead p) = refl
hard_by core code l n go m more (hard.AtWrite p w) = refl
hard_by core code l n go m more hard.Ended = refl

hard_all : (t : Plan) (n : ℕ) (m : HardMachine) → ran page_meaning n (Hard t m) ≡ hard_ran_of (Hard t) (hard_ran (slice_get t.states) t.arrays n m)
unfolding next answer stepped
hard_all t zero m = refl
hard_all t (suc n) m =
    hard_by (Hard t) (slice_get t.states) t.arrays n (hard_ran (slice_get t.states) t.arrays n) m (λ d. hard_all t n d) (hard_step (slice_get t.states) t.arrays m)

-- what so many steps of a page's core promise
pub record Advanced (most : ℕ) (old : Core) (r : StepEnd) (new : Core) : Type 0 where
  pub end : r ≡ (ran page_meaning most old).end
  pub state : new ≡ (ran page_meaning most old).state

advanced_by : (page : PageCore) (in_ : Runner) (most : ℕ) (r : StepEnd) (new : Core) → page.runner ≡ in_ → Advanced most (core_in in_) r new → Advanced most (core_of page) r new
unfolding core_of
advanced_by page in_ most r new is a = subst (λ x. Advanced most (core_in x) r new) (sym is) a

pub soft_advanced : (page : PageCore) (most : ℕ) (old new : SoftCore) (r : StepEnd) → page.runner ≡ runner.Soft old → SoftRuns most old r new → Advanced most (core_of page) r (core_of (record { runner = runner.Soft new }))
unfolding core_of
soft_advanced page most old new r is runs =
    let whole = soft_all old.code old.ins old.outs most (soft_machine old) in
    advanced_by page (runner.Soft old) most r (core_in (runner.Soft new)) is
    (record {
      end = runs.end ∙ ap (λ t. t.end) (sym whole);
      state = (λ i. Soft (runs.same.code i) (runs.same.ins i) (runs.same.outs i) (runs.machine i)) ∙ ap (λ t. t.state) (sym whole);
    })

pub hard_advanced : (page : PageCore) (most : ℕ) (old new : HardCore) (r : StepEnd) → page.runner ≡ runner.Hard old → HardRuns most old r new → Advanced most (core_of page) r (core_of (record { runner = runner.Hard new }))
unfolding core_of
hard_advanced page most old new r is runs =
    let whole = hard_all old.table most (hard_machine old) in
    advanced_by page (runner.Hard old) most r (core_in (runner.Hard new)) is
    (record {
      end = runs.end ∙ ap (λ t. t.end) (sym whole);
      state = (λ i. Hard (runs.same i) (runs.machine i)) ∙ ap (λ t. t.state) (sym whole);
    })
