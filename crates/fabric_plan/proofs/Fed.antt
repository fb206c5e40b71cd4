-- The channels that a plan's rows join are the design's.
use Rattle.std.proofs.Common.{◌≡◌, ℕ, ◌<◌, ◌≤◌, suc, zero, Bool, true, false, true≢false, ◌&&◌, List, length, refl, sym, ap, ◌∙◌, arith, Option, Some, None, if◌then◌else◌}
use Rattle.std.specs.Prelude.{◌==◌, nat_lt, option_map, slice_index}
use Rattle.std.specs.List.{find}
use Rattle.std.proofs.lemmas.Bool.Decides.{nat_tests}
use Rattle.pld_base.specs.declared.event.End.{End}
use Rattle.pld_base.specs.Channels.{Node, OperatorNode, InputNode, OutputNode, OutPort}
use Rattle.pld_base.specs.Process.{Process}
use Rattle.pld_kahn.specs.Network.{network_of}
use Rattle.pld_graph.specs.declared.parts.Channel.{Channel}
use Rattle.pld_graph.specs.declared.parts.FromEnd.{FromEnd}
use Rattle.pld_graph.specs.declared.parts.FromEnd.TheVariants as from_end
use Rattle.pld_graph.specs.declared.parts.ToEnd.{ToEnd}
use Rattle.pld_graph.specs.declared.parts.ToEnd.TheVariants as to_end
use Rattle.pld_graph.specs.Parts.{same_end, stands_at}
use Rattle.pld_graph.specs.Design.{Design, outputs}
use Rattle.pld_link.specs.Seats.{seat, same_seat, from_seat, to_seat, leaf_of, place_in, operator_names}
use Rattle.pld_link.specs.Rows.{row}
use Rattle.pld_link.proofs.Ends.{IsIn, leaf_there, leaf_some}
use Rattle.fabric_plan.specs.Wiring.{producer, goes_to, wiring, design_network}
use Rattle.fabric_plan.proofs.Found.{given, find_agree, and_all, to_stands, from_stands, input_test, past_test, row_given, found_none}
use Rattle.fabric_keeps.proofs.Base.{eq_same, same_eq, differ, lt_true}
use Rattle.fabric_run.specs.Plan.{PlanValue, number_of, writer, from_row, wiring_of, in_row}
use Rattle.fabric_run.specs.Plan as plans
use Rattle.fabric_run.specs.Trees.{tree_of}
use Rattle.fabric_ends.specs.Planned.{network}
use Rattle.fabric_ends.proofs.Plans.{number_leaf}
use Rattle.fabric_plan.specs.Plans.{Given, plan_of}
use Rattle.fabric_plan.specs.Runnable.{IsRunnable}
use Rattle.fabric_plan.proofs.Leaves.{page_on, leaf_in_is}
use Rattle.fabric_plan.proofs.Planned.{placed, leaves_many, images_many, all_pages, in_row_is, plan_sound}

-- tests of equal questions are equal
same_tests : (a b x y : ℕ) → (a ≡ b → x ≡ y) → (x ≡ y → a ≡ b) → (a == b) ≡ (x == y)
same_tests a b x y to from = by (a == b) refl
  where
    by : (t : Bool) → (a == b) ≡ t → t ≡ (x == y)
    by true e = sym (same_eq x y (to (eq_same a b e)))
    by false e = sym (differ x y (λ s. true≢false (sym (same_eq a b (from s)) ∙ e)))

module _ (d : Design) (asked : Given) (run : IsRunnable d asked) where
  abbrev leaves : List ℕ
  leaves = asked.leaves

  abbrev plan : PlanValue
  plan = plan_of d asked

  -- the place of a channel's operator is below the count
  there : (c : Channel) (e : End) → IsIn c d.channels → stands_at (same_end e) c ≡ true → place_in (operator_names d) e.op < length leaves
  there c e here at = leaf_there d leaves run.sound (placed d asked run) c e here at

  some : (c : Channel) (e : End) → IsIn c d.channels → stands_at (same_end e) c ≡ true → 1 ≤ leaf_of d leaves e.op
  some c e here at = leaf_some d leaves run.sound (placed d asked run) c e here at

  -- an operator is known by its leaf
  leaf_test : (c : Channel) (e : End) (k : ℕ) → IsIn c d.channels → stands_at (same_end e) c ≡ true → k < length leaves → (leaf_of d leaves e.op == slice_index leaves k) ≡ (place_in (operator_names d) e.op == k)
  leaf_test c e k here at few =
      same_tests (leaf_of d leaves e.op) (slice_index leaves k) (place_in (operator_names d) e.op) k
      (λ s. (placed d asked run).alone (place_in (operator_names d) e.op) k (there c e here at) few s) (λ s. ap (λ j. slice_index leaves j) s)

  -- a channel goes to an operator's port just where its seat is the port's
  operator_test : (f : FromEnd) (t : ToEnd) (k port : ℕ) → IsIn (record { from = f; to = t }) d.channels → k < length leaves
      → same_seat (to_seat d leaves t) (seat (slice_index leaves k) port) ≡ goes_to d (OperatorNode k) port t
  operator_test f (to_end.Port e) k port here few = ap (λ b. b && (e.port.0 == port)) (leaf_test _ e k here (to_stands f e) few)
  operator_test f (to_end.Output n) k port here few =
      ap (λ b. b && (place_in (outputs d.channels) n == port)) (differ 0 (slice_index leaves k) (λ s. (let l : 1 ≤ slice_index leaves k = ((placed d asked run).pages k 0 few).0 in omega (arith, l, s))))

  output_test : (f : FromEnd) (t : ToEnd) (k : ℕ) → IsIn (record { from = f; to = t }) d.channels → same_seat (to_seat d leaves t) (seat 0 k) ≡ goes_to d (OutputNode k) 0 t
  output_test f (to_end.Port e) k here =
      ap (λ b. b && (e.port.0 == k)) (differ (leaf_of d leaves e.op) 0 (λ s. (let l : 1 ≤ leaf_of d leaves e.op = some _ e here (to_stands f e) in omega (arith, l, s))))
  output_test f (to_end.Output n) k here = and_all (place_in (outputs d.channels) n == k)

  -- no channel goes to an operator that isn't there
  none_test : (f : FromEnd) (t : ToEnd) (k port : ℕ) → IsIn (record { from = f; to = t }) d.channels → length leaves ≤ k → false ≡ goes_to d (OperatorNode k) port t
  none_test f (to_end.Port e) k port here far =
      sym (ap (λ b. b && (e.port.0 == port)) (differ (place_in (operator_names d) e.op) k (λ s. (let l : place_in (operator_names d) e.op < length leaves = there _ e here (to_stands f e) in omega (arith, l, s, far)))))
  none_test f (to_end.Output n) k port here far = refl

  number_is : (k : ℕ) → k < length leaves → number_of plan (slice_index leaves k) ≡ k
  number_is k few =
      let p = page_on leaves asked.images k (images_many d asked run) few in
      ap (number_of plan) (sym p.2) ∙ number_leaf (tree_of plan) plan (plan_sound d asked run) k p.0 p.1

  writes_at : (leaf port k : ℕ) → 1 ≤ leaf → number_of plan leaf ≡ k → ◌≡◌ {A = OutPort} (writer plan leaf port) (record { node = OperatorNode k; port = port })
  writes_at zero port k some is = absurd (omega (arith, some))
  writes_at (suc leaf) port k some is =
      let make : ℕ → OutPort = λ n. record { node = OperatorNode n; port = port } in
      ap make is

  -- the node that writes at a channel's seat is its producer
  written : (f : FromEnd) (t : ToEnd) → IsIn (record { from = f; to = t }) d.channels → writer plan (from_seat d leaves f).leaf (from_seat d leaves f).port ≡ producer d f
  written (from_end.Port e) t here =
      let stands = from_stands t e in
      writes_at (leaf_of d leaves e.op) e.port.0 (place_in (operator_names d) e.op) (some _ e here stands) (number_is (place_in (operator_names d) e.op) (there _ e here stands))
  written (from_end.Input n) t here = refl

  -- the node that writes into a port with this row
  written_by : (o : Option Channel) → from_row plan (option_map (λ c. row (from_seat d leaves c.from)) o) ≡ given (λ c. Some (writer plan (from_seat d leaves c.from).leaf (from_seat d leaves c.from).port)) o
  written_by None = refl
  written_by (Some c) = refl

  fed : (leaf port : ℕ) (node : Node) (into : ℕ) → ((c : Channel) → IsIn c d.channels → same_seat (to_seat d leaves c.to) (seat leaf port) ≡ goes_to d node into c.to)
      → from_row plan (in_row plan leaf port) ≡ wiring d node into
  fed leaf port node into tests =
      ap (from_row plan) (in_row_is d asked run leaf port)
      ∙ written_by _
      ∙ find_agree (λ c. same_seat (to_seat d leaves c.to) (seat leaf port)) (λ c. goes_to d node into c.to) _ (λ c. Some (producer d c.from)) d.channels tests
      (λ c here. ap Some (written c.from c.to here))
      ∙ sym (row_given (λ c. producer d c.from) (producer d) (find (λ c. goes_to d node into c.to) d.channels))

  -- an operator is fed as the design says, and one that isn't there is not fed
  operator_fed : (k port : ℕ) (b : Bool) → nat_lt k (length plan.pages) ≡ b → (if b then from_row plan (in_row plan (plans.leaf_of plan k) port) else None) ≡ wiring d (OperatorNode k) port
  operator_fed k port true e =
      let few : k < length leaves = (let l : k < length plan.pages = lt_true k (length plan.pages) e in omega (arith, l, all_pages d asked run, leaves_many d asked run)) in
      ap (λ l. from_row plan (in_row plan l port)) (leaf_in_is leaves asked.images k (images_many d asked run) few)
      ∙ fed (slice_index leaves k) port (OperatorNode k) port (λ c here. operator_test c.from c.to k port here few)
  operator_fed k port false e =
      let past : length plan.pages ≤ k = grind (arith, nat_tests, e) in
      let far : length leaves ≤ k = omega (arith, past, all_pages d asked run, leaves_many d asked run) in
      sym (ap (λ o. option_map (λ c. producer d c.from) o) (found_none (λ c. goes_to d (OperatorNode k) port c.to) d.channels (λ c here. none_test c.from c.to k port here far)))

  wiring_at : (node : Node) (port : ℕ) → wiring_of plan node port ≡ wiring d node port
  wiring_at (OperatorNode k) port = operator_fed k port (nat_lt k (length plan.pages)) refl
  wiring_at (InputNode k) port = sym (ap (λ o. option_map (λ c. producer d c.from) o) (found_none (λ c. goes_to d (InputNode k) port c.to) d.channels (λ c here. input_test d k port c.to)))
  wiring_at (OutputNode k) zero = fed 0 k (OutputNode k) 0 (λ c here. output_test c.from c.to k here)
  wiring_at (OutputNode k) (suc port) = sym (ap (λ o. option_map (λ c. producer d c.from) o) (found_none (λ c. goes_to d (OutputNode k) (suc port) c.to) d.channels (λ c here. past_test d k port c.to)))

  pub wiring_is : wiring_of plan ≡ wiring d
  wiring_is = λ i node port. wiring_at node port i

  pub network_is : (operators : List Process) → network plan operators ≡ design_network d operators asked.feeds
  network_is operators = ap (network_of operators asked.feeds) wiring_is
