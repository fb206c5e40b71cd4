-- Turns: one more from where a turn ended at a port makes no step.
use Rattle.std.proofs.Common.{◌≡◌, ℕ, zero, suc, refl, ap, sym, ◌∙◌, subst}
use Rattle.pld_base.specs.Machine.{Move, Steps, Reads, Writes, Stops}
use Rattle.pld_base.specs.declared.event.PortNo.{PortNo}
use Rattle.pld_image.specs.Cores.{Core, next, turned_by, turned_in, turned, turn_end, steps}
use Rattle.pld_image.specs.declared.page.TurnEnd.{TurnEnd}
use Rattle.pld_image.specs.declared.page.TurnEnd.TheVariants.{AtRead, AtWrite, Ended, Limit}
use Rattle.fabric_run.specs.Turns.{Turned, made_by, made_in, made, stopped, turn}

abbrev pub one_more : Turned → Turned
one_more t = record t { steps = suc t.steps }

abbrev pub turn_by : Core → Move Core → (Core → Turned) → Turned
turn_by c (Steps after) go = one_more (go after)
turn_by c (Reads port after) go = stopped c (AtRead (record { 0 = port }))
turn_by c (Writes port word after) go = stopped c (AtWrite (record { 0 = port }) word)
turn_by c Stops go = stopped c Ended

-- a turn of at most so many steps, with their count
abbrev pub turn_within : ℕ → Core → Turned
turn_within zero c = stopped c Limit
turn_within (suc n) c = turn_by c (next c) (turn_within n)

within_by : (n : ℕ) (c : Core) (m : Move Core) → ((d : Core) → turn_within n d ≡ record { core = (turned_in next n d).core; end = (turned_in next n d).end; steps = made_in n d })
    → turn_by c m (turn_within n) ≡ record { core = (turned_by c m (turned_in next n)).core; end = (turned_by c m (turned_in next n)).end; steps = made_by m (made_in n) }
within_by n c (Steps after) h = ap one_more (h after)
within_by n c (Reads port after) h = refl
within_by n c (Writes port word after) h = refl
within_by n c Stops h = refl

within_is : (n : ℕ) (c : Core) → turn_within n c ≡ record { core = (turned_in next n c).core; end = (turned_in next n c).end; steps = made_in n c }
within_is zero c = refl
within_is (suc n) c = within_by n c (next c) (within_is n)

-- the steps of a turn, as a number that isn't computed
pub turn_is : (c : Core) → turn_within steps c ≡ turn c
unfolding turned turn_end made
turn_is c = within_is steps c

abbrev IsPortEnd : ℕ → TurnEnd → Core → Type 0
IsPortEnd n (AtRead j) c = turn_within (suc n) c ≡ stopped c (AtRead j)
IsPortEnd n (AtWrite k w) c = turn_within (suc n) c ≡ stopped c (AtWrite k w)
IsPortEnd n Ended c = Unit {0}
IsPortEnd n Limit c = Unit {0}

ends_at : (n : ℕ) (c : Core) (m : Move Core) (go : Core → Turned) → next c ≡ m → ((d : Core) → IsPortEnd n (go d).end (go d).core) → IsPortEnd n (turn_by c m go).end (turn_by c m go).core
ends_at n c (Steps after) go e h = h after
ends_at n c (Reads port after) go e h = ap (λ (x : Move Core). turn_by c x (turn_within n)) e
ends_at n c (Writes port word after) go e h = ap (λ (x : Move Core). turn_by c x (turn_within n)) e
ends_at n c Stops go e h = tt

port_end : (n k : ℕ) (c : Core) → IsPortEnd n (turn_within k c).end (turn_within k c).core
port_end n zero c = tt
port_end n (suc k) c = ends_at n c (next c) (turn_within k) refl (port_end n k)

at_read_of : (n : ℕ) (e : TurnEnd) (c : Core) (j : PortNo) → IsPortEnd n e c → e ≡ AtRead j → turn_within (suc n) c ≡ stopped c (AtRead j)
at_read_of n e c j h s = subst (λ (x : TurnEnd). IsPortEnd n x c) s h

at_write_of : (n : ℕ) (e : TurnEnd) (c : Core) (k : PortNo) (w : ℕ) → IsPortEnd n e c → e ≡ AtWrite k w → turn_within (suc n) c ≡ stopped c (AtWrite k w)
at_write_of n e c k w h s = subst (λ (x : TurnEnd). IsPortEnd n x c) s h

-- at least one step is in a turn
some_steps : (n : ℕ) × (steps ≡ suc n)
unfolding steps
some_steps = (255, refl)

again_end : (c : Core) (e : TurnEnd) (d : Core) → (turn c).end ≡ e → (turn c).core ≡ d → IsPortEnd some_steps.0 e d
again_end c e d f g =
    subst (λ (x : Core). IsPortEnd some_steps.0 e x) (ap (λ (t : Turned). t.core) (turn_is c) ∙ g)
    (subst (λ (x : TurnEnd). IsPortEnd some_steps.0 x (turn_within steps c).core) (ap (λ (t : Turned). t.end) (turn_is c) ∙ f) (port_end some_steps.0 steps c))

pub again_at_read : (c : Core) (j : PortNo) → (turn c).end ≡ AtRead j → turn (turn c).core ≡ stopped (turn c).core (AtRead j)
again_at_read c j e =
    sym (turn_is (turn c).core) ∙ (ap (λ (n : ℕ). turn_within n (turn c).core) some_steps.1 ∙ again_end c (AtRead j) (turn c).core e refl)

pub again_at_write : (c : Core) (k : PortNo) (w : ℕ) → (turn c).end ≡ AtWrite k w → turn (turn c).core ≡ stopped (turn c).core (AtWrite k w)
again_at_write c k w e =
    sym (turn_is (turn c).core) ∙ (ap (λ (n : ℕ). turn_within n (turn c).core) some_steps.1 ∙ again_end c (AtWrite k w) (turn c).core e refl)

limit_at : (k : ℕ) (c : Core) (m : Move Core) (go : Core → Turned) → ((d : Core) → (go d).end ≡ Limit → (go d).steps ≡ k) → (turn_by c m go).end ≡ Limit → (turn_by c m go).steps ≡ suc k
limit_at k c (Steps after) go h e = ap suc (h after e)
limit_at k c (Reads port after) go h e = absurd (let x : AtRead (record { 0 = port }) ≡ Limit = e in cc)
limit_at k c (Writes port word after) go h e = absurd (let x : AtWrite (record { 0 = port }) word ≡ Limit = e in cc)
limit_at k c Stops go h e = absurd (let x : Ended ≡ Limit = e in cc)

limit_within : (k : ℕ) (c : Core) → (turn_within k c).end ≡ Limit → (turn_within k c).steps ≡ k
limit_within zero c e = refl
limit_within (suc k) c e = limit_at k c (next c) (turn_within k) (limit_within k) e

all_steps : steps ≡ 256
unfolding steps
all_steps = refl

-- a turn that ends at its limit has made all its steps
pub limit_steps : (c : Core) → (turn c).end ≡ Limit → (turn c).steps ≡ 256
limit_steps c e =
    sym (ap (λ (t : Turned). t.steps) (turn_is c)) ∙ (limit_within steps c (ap (λ (t : Turned). t.end) (turn_is c) ∙ e) ∙ all_steps)
