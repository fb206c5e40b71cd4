-- How pages come from one state to another, and what their events are.
use Rattle.std.specs.Prelude.{◌≡◌, ℕ, List, [], Option, Some, None}
use Rattle.pld_base.specs.Process.{Process, idle}
use Rattle.pld_base.specs.Events.{words_read}
use Rattle.pld_base.specs.declared.event.Event.{Event}
use Rattle.pld_base.specs.Machine.{machine}
use Rattle.pld_base.specs.Prefix.{IsPrefixOf}
use Rattle.pld_base.specs.Channels.{OperatorNode, InputNode, OutputNode, Wiring, family_of}
use Rattle.pld_kahn.specs.Network.{Network, sends, receives}
use Rattle.hot_swap.specs.Paths.{Leads}
use Rattle.pld_image.specs.Cores.{Core, next}
use Rattle.fabric_run.specs.World.{Setup, State, PageState, core_at}

-- a page has come to its core by its events; where no page is, there are none
abbrev pub PathAt : Option Core → Option PageState → List Event → Type 0
PathAt None o events = (o ≡ None) × (events ≡ [])
PathAt (Some c) o events = (p : PageState) × (o ≡ Some p) × Leads next c p.steps events p.core

-- the events of pages and hosts are what these do
pub record IsTraced {S : Type 0} (setup : Setup S) (st : State S) : Type 0 where
  pub pages : (i : ℕ) → PathAt (core_at setup i) (st.pages i) (family_of st.history (OperatorNode (setup.number i)))
  pub nobody : (k : ℕ) → setup.image k ≡ None → family_of st.history (OperatorNode k) ≡ []
  pub inputs : (k : ℕ) → IsPrefixOf (family_of st.history (InputNode k)) (sends (setup.feed k))
  pub outputs : (j : ℕ) → family_of st.history (OutputNode j) ≡ receives (words_read (family_of st.history (OutputNode j)) 0)

-- the network of the pages and of the host; the pages go by their numbers
abbrev pub page_process : Option Core → Process
page_process None = idle
page_process (Some c) = machine next c

abbrev pub page_network : {S : Type 0} → Setup S → Wiring → Network
page_network setup wiring = record { operator = λ k. page_process (setup.image k); feed = setup.feed; wiring = wiring }

abbrev pub page_count : Option Core → ℕ
page_count None = 0
page_count (Some c) = 1
