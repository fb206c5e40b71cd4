-- A run that ends in motion has made fewer rounds than are enough for its network's rest family.
use Rattle.std.proofs.Common.{◌≡◌, ℕ, ◌+◌, ◌*◌, ◌/◌, ◌<◌, ◌≤◌, false, List, length, refl, ap, arith, Some}
use Rattle.std.specs.List.{sum_by}
use Rattle.net_switch.specs.declared.packet.Packet.{Packet}
use Rattle.net_tree.specs.Links.{sum_to}
use Rattle.pld_base.specs.Channels.{NodeEvent, family_of, OperatorNode}
use Rattle.pld_kahn.specs.Network.{IsKahnNetwork}
use Rattle.pld_kahn.specs.Rest.{IsRestFamily}
use Rattle.pld_kahn.proofs.Runs.{reached_within}
use Rattle.pld_image.specs.Cores.{Core, next}
use Rattle.fabric_run.specs.World.{Setup, State, start, core_at, first_leaf, changes}
use Rattle.fabric_run.specs.declared.entry.Entry.{Entry}
use Rattle.fabric_run.specs.Replay.{replay, IsLegal, is_still}
use Rattle.fabric_keeps.specs.Measure.{load, leaf_load, owed, used, enough}
use Rattle.fabric_keeps.specs.Facts.{RunsWell, Begins}
use Rattle.fabric_keeps.specs.Links.{wiring_of, IsSound}
use Rattle.hot_swap.specs.Paths.{RestsAfter}
use Rattle.fabric_keeps.specs.Paths.{page_network, page_count}
use Rattle.fabric_keeps.specs.Whole.{IsWhole}
use Rattle.fabric_keeps.proofs.Base.{all_zero}
use Rattle.fabric_keeps.proofs.Configures.{windows_of}
use Rattle.fabric_keeps.proofs.Follows.{run_reached}
use Rattle.fabric_ends.proofs.Using.{uses_within}
use Rattle.fabric_keeps.proofs.Legal.{run_whole}
use Rattle.fabric_ends.proofs.Reach.{rounds_enough}

start_owed : {S : Type 0} (setup : Setup S) → Begins setup → owed setup (start setup) ≡ 2 * length (changes setup)
start_owed setup b =
    omega (arith, all_zero setup.size (λ i. leaf_load (first_leaf setup i)) (λ i l. refl), ap (λ (ps : List Packet). sum_by load ps) b)

pub spent_early : {S : Type 0} (setup : Setup S) (most : ℕ) (es : List Entry) (rest : List NodeEvent) (limit : ℕ → ℕ) → IsSound setup → RunsWell setup most → IsLegal setup es → 1 ≤ most
    → IsKahnNetwork (page_network setup (wiring_of setup)) → IsRestFamily setup.window (page_network setup (wiring_of setup)) (family_of rest)
    → ((i : ℕ) (c : Core) → core_at setup i ≡ Some c → RestsAfter next c (limit i) (family_of rest (OperatorNode (setup.number i))))
    → is_still setup (replay setup es) ≡ false
    → (replay setup es).rounds < enough most (length rest) (length (changes setup)) (sum_to setup.size (λ i. limit i / 256)) (sum_to setup.size (λ i. page_count (core_at setup i)))
spent_early {S = S} setup most es rest limit sound w l some kahn family ends moving =
    let st : State S = replay setup es in
    let h : IsWhole setup st = run_whole setup most es sound w l in
    let reached = run_reached setup (wiring_of setup) st sound kahn h.traced (windows_of setup st h.world) in
    let bound : used setup st ≤ 3 * length rest + sum_to setup.size (λ i. limit i / 256) + sum_to setup.size (λ i. page_count (core_at setup i)) =
    uses_within setup st rest limit kahn h (λ node. reached_within setup.window (page_network setup (wiring_of setup)) (family_of st.history) (family_of rest) kahn reached family node) ends in
    rounds_enough setup most es (length rest) (sum_to setup.size (λ i. limit i / 256)) (sum_to setup.size (λ i. page_count (core_at setup i))) w l some (start_owed setup w.begins) bound moving
