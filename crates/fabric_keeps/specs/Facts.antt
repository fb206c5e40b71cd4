-- What a round does with packets, and what holds between entries.
use Rattle.std.specs.Prelude.{◌≡◌, ℕ, ◌+◌, ◌<◌, ◌≤◌, Bool, true, not, nat_lt, ◌==◌, List, [], Some, None}
use Rattle.std.specs.List.{sum_by, count_by}
use Rattle.net_switch.specs.declared.packet.Packet.{Packet}
use Rattle.net_switch.specs.Switch.{weighs}
use Rattle.net_tree.specs.Links.{sum_to}
use Rattle.pld_base.specs.declared.event.PortNo.{PortNo}
use Rattle.pld_base.specs.Machine.{Stops}
use Rattle.pld_image.specs.declared.page.TurnEnd.TheVariants.{AtRead, AtWrite, Ended}
use Rattle.pld_image.specs.Cores.{next}
use Rattle.fabric_run.specs.declared.entry.Entry.{Entry}
use Rattle.fabric_run.specs.Turns.{stopped, turn}
use Rattle.fabric_run.specs.World.{Setup, State, PageState, offer_of, offers_of, ready}
use Rattle.fabric_run.specs.Replay.{has_ended, may, after, replay, IsLegal}
use Rattle.fabric_keeps.specs.Measure.{load, owed, used}

-- In this round the carrier loses none: what was under way comes to a leaf or is kept, and then what is offered joins it.
pub record Carries {S : Type 0} (setup : Setup S) (st : State S) : Type 0 where
  pub kept : List Packet
  pub came : (f : Packet → ℕ) → sum_by f (setup.net.under st.carrier) ≡ sum_by f kept + sum_to setup.size (λ i. weighs f (setup.net.arrival st.carrier i))
  pub goes : (f : Packet → ℕ) → sum_by f (setup.net.under (setup.net.carried st.carrier (offers_of setup st))) ≡ sum_by f kept + sum_to setup.size (λ i. weighs f (offer_of setup st i).1)

-- a page that is finished is home, and one that stands at a port does so at once in its next turn
pub record IsPage (p : PageState) : Type 0 where
  pub home : has_ended p.end ≡ true → p.holder ≡ None
  pub at_read : (j : PortNo) → p.end ≡ Some (AtRead j) → turn p.core ≡ stopped p.core (AtRead j)
  pub at_write : (k : PortNo) (w : ℕ) → p.end ≡ Some (AtWrite k w) → turn p.core ≡ stopped p.core (AtWrite k w)
  pub at_end : p.end ≡ Some Ended → next p.core ≡ Stops

-- a packet that owes nothing; one first injected more than so many rounds ago; one from a round still to come; and one for no leaf
abbrev pub is_light : Packet → Bool
is_light p = load p == 0

abbrev pub is_old : ℕ → ℕ → Packet → Bool
is_old most rounds p = nat_lt (p.stamp.round.0 + most) rounds

abbrev pub is_new : ℕ → Packet → Bool
is_new rounds p = not (nat_lt p.stamp.round.0 rounds)

abbrev pub is_outside : ℕ → Packet → Bool
is_outside size p = not (nat_lt p.to.0 size)

-- what holds between entries
pub record Facts {S : Type 0} (setup : Setup S) (most : ℕ) (st : State S) : Type 0 where
  pub carries : Carries setup (ready setup st)
  pub back : (i : ℕ) → i < setup.size → (st.leaves i).back ≡ None
  pub page : (i : ℕ) (p : PageState) → st.pages i ≡ Some p → IsPage p
  pub heavy : count_by is_light (setup.net.under st.carrier) ≡ 0
  pub aged : count_by (is_old most st.rounds) (setup.net.under st.carrier) ≡ 0
  pub stamped : count_by (is_new st.rounds) (setup.net.under st.carrier) ≡ 0

-- a property of states that each legal entry keeps, and that has these facts
pub record IsKept {S : Type 0} (setup : Setup S) (most : ℕ) (Holds : State S → Type 0) : Type 0 where
  pub some : 0 < setup.size
  pub facts : (st : State S) → Holds st → Facts setup most st
  pub keeps : (st : State S) (e : Entry) → Holds st → may setup st e ≡ true → Holds (after setup st e)

-- what each entry keeps, of leaves, pages and packets, whatever carries these
pub record Steady {S : Type 0} (setup : Setup S) (st : State S) : Type 0 where
  pub back : (i : ℕ) → i < setup.size → (st.leaves i).back ≡ None
  pub page : (i : ℕ) (p : PageState) → st.pages i ≡ Some p → IsPage p
  pub heavy : count_by is_light (setup.net.under st.carrier) ≡ 0
  pub stamped : count_by (is_new st.rounds) (setup.net.under st.carrier) ≡ 0

-- something was used up: what was used and what is no longer owed have grown
abbrev pub Gains : {S : Type 0} → Setup S → State S → State S → Type 0
Gains setup st st' = used setup st + owed setup st' + 1 ≤ used setup st' + owed setup st

-- at the start nothing is under way
abbrev pub Begins : {S : Type 0} → Setup S → Type 0
Begins setup = setup.net.under setup.net.empty ≡ []

-- what the use of rounds asks of a run: that in each legal state the carrier loses none, and no packet was first injected more than so many
-- rounds before
pub record RunsWell {S : Type 0} (setup : Setup S) (most : ℕ) : Type 0 where
  pub some : 0 < setup.size
  pub carries : (es : List Entry) → IsLegal setup es → Carries setup (ready setup (replay setup es))
  pub aged : (es : List Entry) → IsLegal setup es → count_by (is_old most (replay setup es).rounds) (setup.net.under (replay setup es).carrier) ≡ 0
  pub begins : Begins setup
