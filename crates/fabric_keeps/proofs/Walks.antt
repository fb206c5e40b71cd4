-- Turns as paths, and what they end at.
use Rattle.std.proofs.Common.{◌≡◌, ℕ, zero, suc, [], ◌∷◌, refl, ap, sym, subst}
use Rattle.pld_base.specs.declared.event.Event.TheVariants.{Read, Write}
use Rattle.pld_base.specs.declared.event.PortNo.{PortNo}
use Rattle.pld_base.specs.Machine.{Move, Steps, Reads, Writes, Stops}
use Rattle.hot_swap.specs.Paths.{Leads}
use Rattle.hot_swap.proofs.Walks.{leads_here, step_first, read_first, write_first}
use Rattle.pld_image.specs.Cores.{Core, next, steps, after_read, after_write, read_by, written_by}
use Rattle.pld_image.specs.declared.page.TurnEnd.{TurnEnd}
use Rattle.pld_image.specs.declared.page.TurnEnd.TheVariants.{AtRead, AtWrite, Ended, Limit}
use Rattle.fabric_run.specs.Turns.{Turned, turn}
use Rattle.fabric_keeps.proofs.Turns.{turn_by, turn_within, turn_is}

-- where a turn ends, and how it came there
abbrev pub EndsAt : TurnEnd → Core → Type 0
EndsAt (AtRead j) c = (after : ℕ → Core) × (next c ≡ Reads j.0 after)
EndsAt (AtWrite k w) c = (after : Core) × (next c ≡ Writes k.0 w after)
EndsAt Ended c = next c ≡ Stops
EndsAt Limit c = Unit {0}

abbrev IsWalk : Core → Turned → Type 0
IsWalk c t = Leads next c t.steps [] t.core × EndsAt t.end t.core

walk_by : (c : Core) (mv : Move Core) (go : Core → Turned) → next c ≡ mv → ((a : Core) → IsWalk a (go a)) → IsWalk c (turn_by c mv go)
walk_by c (Steps after) go e h = (step_first next c after (go after).core (go after).steps [] e (h after).0, (h after).1)
walk_by c (Reads port after) go e h = (leads_here next c, (after, e))
walk_by c (Writes port word after) go e h = (leads_here next c, (after, e))
walk_by c Stops go e h = (leads_here next c, e)

walk_within : (k : ℕ) (c : Core) → IsWalk c (turn_within k c)
walk_within zero c = (leads_here next c, tt)
walk_within (suc k) c = walk_by c (next c) (turn_within k) refl (walk_within k)

turn_walk : (c : Core) → IsWalk c (turn c)
turn_walk c = subst (IsWalk c) (turn_is c) (walk_within steps c)

pub turn_leads : (c : Core) → Leads next c (turn c).steps [] (turn c).core
turn_leads c = (turn_walk c).0

pub turn_ends : (c : Core) → EndsAt (turn c).end (turn c).core
turn_ends c = (turn_walk c).1

-- the operation at which a core stands
pub read_leads : (c : Core) (j : PortNo) (w : ℕ) → EndsAt (AtRead j) c → Leads next c 0 (Read (record { 0 = j.0 }) w ∷ []) (after_read c w)
unfolding after_read
read_leads c j w h =
    subst (Leads next c 0 (Read (record { 0 = j.0 }) w ∷ [])) (sym (ap (λ (m : Move Core). read_by c w m) h.1)) (read_first next c j.0 w h.0 (h.0 w) 0 [] h.1 (leads_here next (h.0 w)))

pub write_leads : (c : Core) (k : PortNo) (w : ℕ) → EndsAt (AtWrite k w) c → Leads next c 0 (Write (record { 0 = k.0 }) w ∷ []) (after_write c)
unfolding after_write
write_leads c k w h =
    subst (Leads next c 0 (Write (record { 0 = k.0 }) w ∷ [])) (sym (ap (λ (m : Move Core). written_by c m) h.1)) (write_first next c k.0 w h.0 h.0 0 [] h.1 (leads_here next h.0))
