-- The wiring of a run's channels.
use Rattle.std.proofs.Common.{◌≡◌, ℕ, zero, suc, ◌+◌, ◌<◌, Bool, true, false, List, [], ◌∷◌, length, refl, ap, sym, ◌∙◌, arith, Option, Some, None, subst}
use Rattle.std.specs.Prelude.{if◌then◌else◌, nat_lt, is_some}
use Rattle.std.proofs.lemmas.Bool.Decides.{nat_tests}
use Rattle.net_switch.specs.declared.packet.Row.{Row}
use Rattle.channel_account.proofs.Steps.{same_to}
use Rattle.pld_base.specs.Channels.{Node, OperatorNode, InputNode, OutputNode, OutPort, IsPointToPoint}
use Rattle.pld_base.specs.Process.{IsProcess}
use Rattle.pld_base.proofs.Processes.{idle_laws}
use Rattle.pld_base.proofs.Machines.{machine_laws}
use Rattle.pld_kahn.specs.Network.{IsKahnNetwork}
use Rattle.pld_image.specs.Cores.{Core, next}
use Rattle.fabric_run.specs.World.{Carrier, Setup}
use Rattle.fabric_run.specs.Plan.{PagePlan, PlanValue, row_in, leaf_of, number_of, image_in, setup_of, in_row, writer, from_row}
use Rattle.fabric_run.specs.Plan as plans
use Rattle.fabric_keeps.specs.Links.{is_linked_in, out_node, in_node, node_port, source, source_at, wiring_of, IsSound}
use Rattle.fabric_keeps.specs.Paths.{page_process, page_network}
use Rattle.fabric_keeps.proofs.Accounting.{LinkedIn, linked_in}
use Rattle.fabric_keeps.proofs.Windows.{out_same}
use Rattle.fabric_ends.proofs.Plans.{in_linked}

none_some : {X : Type 0} (x : X) → None ≡ Some x → ⊥
none_some x e = cc

some_same : {X : Type 0} (x y : X) → Some x ≡ Some y → x ≡ y
some_same x y e = cc

-- an in-port with a channel, and where that comes from
record IsWired {S : Type 0} (setup : Setup S) (node : Node) (port : ℕ) (out : OutPort) : Type 0 where
  leaf : ℕ
  at : ℕ
  linked : LinkedIn setup.tables leaf at
  node_is : in_node setup.number leaf at ≡ node
  port_is : node_port leaf at ≡ port
  from : (let o : OutPort = record { node = out_node setup.number linked.from linked.out; port = node_port linked.from linked.out } in o ≡ out)

module _ {S : Type 0} (setup : Setup S) (sound : IsSound setup) where
  wired_at : (m j : ℕ) (b : Bool) (out : OutPort) → is_linked_in setup.tables m j ≡ b → (if b then source setup.number (setup.tables m (8 + j)) else None) ≡ Some out → IsWired setup (in_node setup.number m j) (node_port m j) out
  wired_at m j false out h e = absurd (none_some out e)
  wired_at m j true out h e =
      let l : LinkedIn setup.tables m j = linked_in setup.tables m j h in
      record { leaf = m; at = j; linked = l; node_is = refl; port_is = refl; from = some_same _ out (sym (ap (source setup.number) l.row) ∙ e) }

  wired_page : (k port m : ℕ) (c : Core) (out : OutPort) → setup.image k ≡ Some c → setup.number m ≡ k → source_at setup.number setup.tables m port ≡ Some out → IsWired setup (OperatorNode k) port out
  wired_page k port zero c out there n e = absurd (none_some c (sym sound.host ∙ (ap setup.image n ∙ there)))
  wired_page k port (suc m) c out there n e =
      subst (λ (x : ℕ). IsWired setup (OperatorNode x) port out) n (wired_at (suc m) port (is_linked_in setup.tables (suc m) port) out refl e)

  wired_by : (k port : ℕ) (o : Option Core) (out : OutPort) → setup.image k ≡ o → (if is_some o then source_at setup.number setup.tables (setup.leaf_of k) port else None) ≡ Some out → IsWired setup (OperatorNode k) port out
  wired_by k port None out there e = absurd (none_some out e)
  wired_by k port (Some c) out there e = wired_page k port (setup.leaf_of k) c out there (sound.number k c there) e

  wired : (node : Node) (port : ℕ) (out : OutPort) → wiring_of setup node port ≡ Some out → IsWired setup node port out
  wired (OperatorNode k) port out e = wired_by k port (setup.image k) out refl e
  wired (InputNode k) port out e = absurd (none_some out e)
  wired (OutputNode j) zero out e = wired_at 0 j (is_linked_in setup.tables 0 j) out refl e
  wired (OutputNode j) (suc port) out e = absurd (none_some out e)

  pub point_to_point : IsPointToPoint (wiring_of setup)
  point_to_point node other port port' out e f =
      let a : IsWired setup node port out = wired node port out e in
      let b : IsWired setup other port' out = wired other port' out f in
      let same : (let o : OutPort = record { node = out_node setup.number a.linked.from a.linked.out; port = node_port a.linked.from a.linked.out } in let p : OutPort = record { node = out_node setup.number b.linked.from b.linked.out; port = node_port b.linked.from b.linked.out } in o ≡ p) = a.from ∙ sym b.from in
      let s = out_same setup a.linked.from a.linked.out b.linked.from b.linked.out sound (ap (λ (z : OutPort). z.node) same) (ap (λ (z : OutPort). z.port) same) in
      let t = same_to setup.tables (record { from = a.linked.from; out = a.linked.out; to = a.leaf; inn = a.at }) (record { from = b.linked.from; out = b.linked.out; to = b.leaf; inn = b.at }) a.linked.link b.linked.link s.0 s.1 in (
        sym a.node_is ∙ (ap (λ (x : ℕ). in_node setup.number x a.at) t.0 ∙ (ap (λ (x : ℕ). in_node setup.number b.leaf x) t.1 ∙ b.node_is)),
        sym a.port_is ∙ (ap (λ (x : ℕ). node_port x a.at) t.0 ∙ (ap (λ (x : ℕ). node_port b.leaf x) t.1 ∙ b.port_is)),
      )

  page_laws : (o : Option Core) → IsProcess (page_process o)
  page_laws None = idle_laws
  page_laws (Some c) = machine_laws next c

  -- THE PAGES and the host are a Kahn network
  pub pages_kahn : IsKahnNetwork (page_network setup (wiring_of setup))
  pages_kahn = record { processes = λ k. page_laws (setup.image k); point_to_point = point_to_point }

-- The wiring of a plan, told by its rows.

pub image_there : (ps : List PagePlan) (k : ℕ) → is_some (image_in ps k) ≡ nat_lt k (length ps)
image_there [] k = (let z : nat_lt k 0 ≡ false = grind (arith, nat_tests) in sym z)
image_there (p ∷ ps) zero = (let z : nat_lt 0 (suc (length ps)) ≡ true = grind (arith, nat_tests) in sym z)
image_there (p ∷ ps) (suc k) =
    let z : nat_lt (suc k) (suc (length ps)) ≡ nat_lt k (length ps) = grind (arith, nat_tests) in
    image_there ps k ∙ sym z

module _ {S : Type 0} (net : Carrier S) (plan : PlanValue) (sound : plans.IsSound plan) where
  abbrev run : Setup S
  run = setup_of net plan

  writer_is : (leaf port : ℕ) → (let o : OutPort = record { node = out_node (number_of plan) leaf port; port = node_port leaf port } in Some o ≡ Some (writer plan leaf port))
  writer_is zero port = refl
  writer_is (suc leaf) port = refl

  source_is : (o : Option Row) → source (number_of plan) o ≡ from_row plan o
  source_is None = refl
  source_is (Some row) = writer_is row.leaf.0 row.port.0

  unlinked_row : (leaf port : ℕ) (o : Option Row) → in_row plan leaf port ≡ o → is_linked_in (row_in plan.tables) leaf port ≡ false → o ≡ None
  unlinked_row leaf port None e h = refl
  unlinked_row leaf port (Some row) e h = absurd (let x : false ≡ true = sym h ∙ in_linked net plan sound leaf port row e in cc)

  guarded : (leaf port : ℕ) → is_linked_in (row_in plan.tables) leaf port ≡ true → in_row plan leaf port ≡ row_in plan.tables leaf (8 + port)
  guarded leaf port h =
      let l : LinkedIn (row_in plan.tables) leaf port = linked_in (row_in plan.tables) leaf port h in
      let z : nat_lt port 8 ≡ true = (let m : port < 8 = l.link.inn in grind (arith, nat_tests)) in
      ap (λ (b : Bool). if b then row_in plan.tables leaf (8 + port) else None) z

  at_row : (leaf port : ℕ) (b : Bool) → is_linked_in (row_in plan.tables) leaf port ≡ b → (if b then source (number_of plan) (row_in plan.tables leaf (8 + port)) else None) ≡ from_row plan (in_row plan leaf port)
  at_row leaf port true h = source_is (row_in plan.tables leaf (8 + port)) ∙ ap (from_row plan) (sym (guarded leaf port h))
  at_row leaf port false h = ap (from_row plan) (sym (unlinked_row leaf port (in_row plan leaf port) refl h))

  row_wiring : (leaf port : ℕ) → source_at (number_of plan) (row_in plan.tables) leaf port ≡ from_row plan (in_row plan leaf port)
  row_wiring leaf port = at_row leaf port (is_linked_in (row_in plan.tables) leaf port) refl

  wiring_at : (node : Node) (port : ℕ) → wiring_of run node port ≡ plans.wiring_of plan node port
  wiring_at (OperatorNode k) port =
      ap (λ (b : Bool). if b then source_at (number_of plan) (row_in plan.tables) (leaf_of plan k) port else None) (image_there plan.pages k)
      ∙ ap (λ (o : Option OutPort). if nat_lt k (length plan.pages) then o else None) (row_wiring (leaf_of plan k) port)
  wiring_at (InputNode k) port = refl
  wiring_at (OutputNode j) zero = row_wiring 0 j
  wiring_at (OutputNode j) (suc port) = refl

  pub same_wiring : wiring_of run ≡ plans.wiring_of plan
  same_wiring = λ t. λ node. λ port. wiring_at node port t
