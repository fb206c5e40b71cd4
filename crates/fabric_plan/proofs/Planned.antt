-- The plan of a design that can be run is sound.
use Rattle.std.proofs.Common.{◌≡◌, ℕ, ◌+◌, ◌*◌, ◌/◌, ◌^◌, ◌<◌, ◌≤◌, suc, zero, ◌⊎◌, List, [], ◌∷◌, length, get_or, min, sym, ap, subst, ◌∙◌, arith, ⊎_elim, Some, div-mul-le_self, mul-le-mul_right, le_trans}
use Rattle.std.specs.Prelude.{IsSome, slice_get}
use Rattle.std.specs.List.{All, Contains}
use Rattle.std.proofs.lemmas.Grind.{get_or_default_zero}
use Rattle.std.proofs.lemmas.Option.{get_or_from_slice_get, slice_get_within, slice_get-get_or}
use Rattle.std.proofs.lemmas.List.Elements.{All-nil, All-head, All-tail, All-from_get_or}
use Rattle.net_switch.specs.declared.packet.Row.{Row}
use Rattle.pld_base.specs.Words.{IsWord}
use Rattle.pld_base.specs.Process.{Process}
use Rattle.pld_graph.specs.declared.parts.OperatorEntry.{OperatorEntry}
use Rattle.pld_graph.specs.Design.{Design, blank, operator_at}
use Rattle.image_form.specs.Spelling.{Form, Soft, Hard, IsForm}
use Rattle.pld_image.specs.Ports.{ins_of, outs_of}
use Rattle.pld_link.specs.Seats.{IsPlacement, HasSlots}
use Rattle.pld_link.specs.Rows.{out_row as out_of, in_row as in_of}
use Rattle.pld_link.proofs.Linked.{out_in, in_out, input_row, output_row, host_out, host_in, is_some_of}
use Rattle.fabric_plan.proofs.Found.{some_rounds}
use Rattle.fabric_run.specs.Plan.{PagePlan, PlanValue, IsSound, out_row, in_row}
use Rattle.fabric_ends.specs.Planned.{IsDesign}
use Rattle.fabric_plan.specs.Plans.{Given, plan_of}
use Rattle.fabric_plan.specs.Runnable.{IsRunnable, KeepMeaning}
use Rattle.fabric_plan.proofs.Leaves.{some_at, pages_many, IsPage, page_is, page_on}
use Rattle.fabric_plan.proofs.Ports.{out_there, in_there, out_owned, in_owned}
use Rattle.fabric_plan.proofs.Tables.{some_row, out_is, in_is}

-- what holds of each feed, and of none, holds of the k-th
feed_at : (P : List ℕ → Type 0) (feeds : List (List ℕ)) (k : ℕ) → P [] → All P feeds → P (get_or feeds k [])
feed_at P [] k none all = none
feed_at P (f ∷ fs) zero none all = All-head P f fs all
feed_at P (f ∷ fs) (suc k) none all = feed_at P fs k none (All-tail P f fs all)

-- so many rounds have few enough entries
few_entries : (n m rounds : ℕ) → min rounds (n / m) * m ≤ n
few_entries n m rounds = le_trans (mul-le-mul_right m (least rounds (n / m))) (div-mul-le_self n m)
  where
    least : (a b : ℕ) → min a b ≤ b
    least a b = omega arith

few_ports : (image : Form) → IsForm image → (ins_of image ≤ 8) × (outs_of image ≤ 8)
few_ports (Soft ins outs code) form = (form.0, form.1)
few_ports (Hard t) form = (form.ins, form.outs)

module _ (d : Design) (given : Given) (run : IsRunnable d given) where
  abbrev pub leaves : List ℕ
  leaves = given.leaves

  abbrev pub plan : PlanValue
  plan = plan_of d given

  pub placed : IsPlacement d leaves
  placed = run.placed.placement

  pub leaves_many : length leaves ≡ length d.operators
  leaves_many = placed.each

  pub images_many : length given.images ≡ length leaves
  images_many =
      let many = run.images.many in
      omega (arith, many, leaves_many)

  pub all_pages : length plan.pages ≡ length d.operators
  all_pages = pages_many leaves given.images images_many ∙ leaves_many

  form_at : (k : ℕ) (image : Form) → slice_get given.images k ≡ Some image → IsForm image
  form_at k image e = subst IsForm (get_or_from_slice_get given.images k image image e) (run.images.forms k image (slice_get_within given.images k image e))

  -- the operator at a place below the count
  operator_there : (k : ℕ) → k < length leaves → slice_get d.operators k ≡ Some (operator_at d.operators k)
  operator_there k few = slice_get-get_or d.operators k blank (omega (arith, few, leaves_many))

  few_of : (k : ℕ) → k < length d.operators → ((get_or d.operators k blank).ins ≤ 8) × ((get_or d.operators k blank).outs ≤ 8)
  few_of k few =
      let i = some_at given.images k (omega (arith, few, leaves_many, images_many)) in
      let ports = few_ports i.0 (form_at k i.0 i.1) in
      (subst (λ n. n ≤ 8) (run.images.ins k i.0 i.1) ports.0, subst (λ n. n ≤ 8) (run.images.outs k i.0 i.1) ports.1)

  pub slots : HasSlots d
  slots = All-from_get_or (λ (o : OperatorEntry). (o.ins ≤ 8) × (o.outs ≤ 8)) d.operators blank few_of

  -- the plan's rows are the design's
  pub out_row_is : (leaf port : ℕ) → out_row plan leaf port ≡ out_of d leaves leaf port
  out_row_is leaf port = out_is d leaves run.sound placed slots leaf port

  pub in_row_is : (leaf port : ℕ) → in_row plan leaf port ≡ in_of d leaves leaf port
  in_row_is leaf port = in_is d leaves run.sound placed slots leaf port

  pub page : (k : ℕ) (p : PagePlan) → slice_get plan.pages k ≡ Some p → IsPage leaves given.images k p
  page k p e = page_is leaves given.images k p e

  page_out : (k port : ℕ) (p : PagePlan) → slice_get plan.pages k ≡ Some p → port < outs_of p.image → IsSome (out_row plan p.leaf port)
  page_out k port p e few =
      let at = page k p e in
      let count : outs_of p.image ≡ (operator_at d.operators k).outs = run.images.outs k p.image at.image in
      let r = out_there d leaves run.sound placed k port (operator_at d.operators k) run.closed (operator_there k at.within) (omega (arith, few, count)) in
      is_some_of _ r.0 (out_row_is p.leaf port ∙ ap (λ l. out_of d leaves l port) (sym at.leaf) ∙ r.1)

  page_in : (k port : ℕ) (p : PagePlan) → slice_get plan.pages k ≡ Some p → port < ins_of p.image → IsSome (in_row plan p.leaf port)
  page_in k port p e few =
      let at = page k p e in
      let count : ins_of p.image ≡ (operator_at d.operators k).ins = run.images.ins k p.image at.image in
      let r = in_there d leaves run.sound placed k port (operator_at d.operators k) run.closed (operator_there k at.within) (omega (arith, few, count)) in
      is_some_of _ r.0 (in_row_is p.leaf port ∙ ap (λ l. in_of d leaves l port) (sym at.leaf) ∙ r.1)

  page_out_only : (k port : ℕ) (p : PagePlan) (r : Row) → slice_get plan.pages k ≡ Some p → out_row plan p.leaf port ≡ Some r → port < outs_of p.image
  page_out_only k port p r e h =
      let at = page k p e in
      let count : outs_of p.image ≡ (operator_at d.operators k).outs = run.images.outs k p.image at.image in
      let few = out_owned d leaves run.sound placed k port (operator_at d.operators k) r at.within (operator_there k at.within) (ap (λ l. out_of d leaves l port) at.leaf ∙ sym (out_row_is p.leaf port) ∙ h) in
      omega (arith, few, count)

  page_in_only : (k port : ℕ) (p : PagePlan) (r : Row) → slice_get plan.pages k ≡ Some p → in_row plan p.leaf port ≡ Some r → port < ins_of p.image
  page_in_only k port p r e h =
      let at = page k p e in
      let count : ins_of p.image ≡ (operator_at d.operators k).ins = run.images.ins k p.image at.image in
      let few = in_owned d leaves run.sound placed k port (operator_at d.operators k) r at.within (operator_there k at.within) (ap (λ l. in_of d leaves l port) at.leaf ∙ sym (in_row_is p.leaf port) ∙ h) in
      omega (arith, few, count)

  page_leaf : (k : ℕ) (p : PagePlan) → slice_get plan.pages k ≡ Some p → (1 ≤ p.leaf) × (p.leaf < 2 ^ d.depth)
  page_leaf k p e =
      let at = page k p e in
      (subst (λ l. 1 ≤ l) at.leaf (placed.pages k 0 at.within).0, subst (λ l. l < 2 ^ d.depth) at.leaf (run.placed.within k 0 at.within))

  pages_apart : (j k : ℕ) (p q : PagePlan) → slice_get plan.pages j ≡ Some p → slice_get plan.pages k ≡ Some q → p.leaf ≡ q.leaf → j ≡ k
  pages_apart j k p q e f same =
      let at = page j p e in
      let other = page k q f in
      placed.alone j k at.within other.within (at.leaf ∙ same ∙ sym other.leaf)

  -- a leaf from 1 on with a row has a page
  leaf_page : (leaf : ℕ) → (suc leaf ≡ 0) ⊎ Contains leaves (suc leaf) → (k : ℕ) × (p : PagePlan) × (slice_get plan.pages k ≡ Some p) × (p.leaf ≡ suc leaf)
  leaf_page leaf h = ⊎_elim (λ e. absurd (omega (arith, e))) (λ c. there c.0 c.1 c.2) h
    where
      there : (j : ℕ) → j < length leaves → get_or leaves j (suc leaf) ≡ suc leaf → (k : ℕ) × (p : PagePlan) × (slice_get plan.pages k ≡ Some p) × (p.leaf ≡ suc leaf)
      there j few is =
          let p = page_on leaves given.images j images_many few in
          (j, p.0, p.1, p.2 ∙ sym (get_or_default_zero leaves j (suc leaf) few) ∙ is)

  sends : (k : ℕ) → k < length given.feeds → IsSome (out_row plan 0 k)
  sends k few =
      let many = run.fed.many in
      let r = input_row d leaves run.sound placed k (omega (arith, few, many)) in
      is_some_of _ r.0 (out_row_is 0 k ∙ r.1)

  gets : (k : ℕ) → k < plan.outs → IsSome (in_row plan 0 k)
  gets k few =
      let r = output_row d leaves run.sound placed k few in
      is_some_of _ r.0 (in_row_is 0 k ∙ r.1)

  rounds_few : plan.rounds * (8 * length plan.pages + 1) ≤ 40000000
  rounds_few = subst (λ n. plan.rounds * (8 * n + 1) ≤ 40000000) (sym all_pages) (few_entries 40000000 (8 * length d.operators + 1) given.rounds)

  pub plan_sound : IsSound plan
  plan_sound =
      let many = run.fed.many in
      let few = run.sound.operators in
      let some = run.an_operator in
      let ins = run.sound.inputs in
      record {
        depth = (run.sound.least, run.sound.most);
        window = run.sound.window;
        many = (omega (arith, all_pages, some), omega (arith, all_pages, few));
        images = λ k p e. form_at k p.image (page k p e).image;
        leaves = page_leaf;
        apart = pages_apart;
        out_in = λ leaf port r e. in_row_is r.leaf.0 r.port.0 ∙ out_in d leaves run.sound placed leaf port r (sym (out_row_is leaf port) ∙ e);
        in_out = λ leaf port r e. out_row_is r.leaf.0 r.port.0 ∙ in_out d leaves run.sound placed leaf port r (sym (in_row_is leaf port) ∙ e);
        page_outs = page_out;
        page_out_rows = page_out_only;
        page_ins = page_in;
        page_in_rows = page_in_only;
        host_sends = sends;
        host_out = λ port r e. omega (arith, many, host_out d leaves run.sound placed port r (sym (out_row_is 0 port) ∙ e));
        host_gets = gets;
        host_in = λ port r e. host_in d leaves run.sound placed port r (sym (in_row_is 0 port) ∙ e);
        inside = λ leaf slot r e. leaf_page leaf (some_row d leaves run.sound placed (suc leaf) slot r e);
        before = run.before.within;
        hosts = (omega (arith, many, ins), run.sound.outputs);
        short = λ k. feed_at (λ feed. length feed ≤ 65536) given.feeds k (omega arith) run.fed.short;
        words = λ k. feed_at (All IsWord) given.feeds k (All-nil IsWord) run.fed.words;
        rounds = (some_rounds given.rounds (length d.operators) run.a_round few, rounds_few);
      }

  pub plan_design : (operators : List Process) → KeepMeaning given.images operators → IsDesign plan operators
  plan_design operators keeps = record {
    sound = plan_sound;
    as_many = keeps.many ∙ images_many ∙ sym (pages_many leaves given.images images_many);
    processes = keeps.processes;
    realise = λ k p e. keeps.realise k p.image (page k p e).image;
    words = λ k p e. keeps.write k p.image (page k p e).image;
  }
