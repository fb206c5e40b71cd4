-- How a run comes to rest hangs on its design alone.
use Rattle.std.proofs.Common.{◌≡◌, ℕ, ◌<◌, ◌⊎◌, Bool, true, false, List, ◌++◌, refl, ap, sym, ◌∙◌, Option, Some, None, subst, inl, inr, ⊎_elim}
use Rattle.std.specs.Prelude.{if◌then◌else◌, is_some}
use Rattle.std.proofs.Math.Path.{fun_ext}
use Rattle.pld_base.specs.Events.{words_read}
use Rattle.pld_base.specs.Process.{Process}
use Rattle.pld_base.specs.declared.event.Side.{Side}
use Rattle.pld_base.specs.declared.event.Side.TheVariants.{In, Out}
use Rattle.pld_base.specs.Channels.{Node, OperatorNode, OutputNode, Wiring, Family, family_of}
use Rattle.pld_kahn.specs.Network.{Network, network_of}
use Rattle.pld_kahn.specs.Rest.{IsRestFamily, Over, standing_of}
use Rattle.pld_kahn.proofs.Runs.{rest_is_one}
use Rattle.pld_kahn.proofs.Standings.{standings_alike}
use Rattle.leaf_port.specs.Leaf.{LeafState}
use Rattle.pld_image.specs.Cores.{Core}
use Rattle.pld_image.specs.declared.page.TurnEnd.{TurnEnd}
use Rattle.pld_image.specs.declared.page.TurnEnd.TheVariants.{AtRead, AtWrite, Ended, Limit}
use Rattle.fabric_run.specs.declared.row.Outcome.{Outcome}
use Rattle.fabric_run.specs.declared.row.Outcome.TheVariants.{Done, Stalled, Spent}
use Rattle.fabric_run.specs.declared.row.Blocked.{Blocked}
use Rattle.fabric_run.specs.World.{Carrier, Setup, State, PageState, core_at, out_at}
use Rattle.fabric_run.specs.Replay.{has_ended, is_finished, is_blocked, is_page_still, is_still, is_over, all_ended, outcome, blocked_by, page_blocked, page_numbered, blocked}
use Rattle.fabric_run.specs.Plan.{PlanValue, image_in, leaf_of, number_of, setup_of}
use Rattle.fabric_run.specs.Plan as plans
use Rattle.fabric_run.specs.Shown.{Shown, shown}
use Rattle.fabric_run.specs.Reply.{outcome_line, at_lines, lines_below, out_line, reply}
use Rattle.fabric_keeps.specs.Whole.{IsWhole}
use Rattle.fabric_ends.specs.Planned.{network, IsDesign, SameDesign}
use Rattle.fabric_ends.specs.Promises.{HasRested, IsRested, ShowSame}
use Rattle.fabric_keeps.proofs.Base.{below_all}
use Rattle.fabric_keeps.proofs.Calm.{calm_of}
use Rattle.fabric_keeps.proofs.Whole.{no_host_page}
use Rattle.fabric_ends.proofs.Plans.{leaf_number}
use Rattle.fabric_ends.proofs.Promised.{standing_by_side, standing_by, rested_still, means_kahn, rests, standing_named, names_none}

some_same : {X : Type 0} (x y : X) → Some x ≡ Some y → x ≡ y
some_same x y e = cc

none_some : {X : Type 0} (x : X) → None ≡ Some x → ⊥
none_some x e = cc

same_side : (s t : Side) (p q : ℕ) → standing_by_side s p ≡ standing_by_side t q → (s ≡ t) × (p ≡ q)
same_side In In p q e = (refl, let r : p ≡ q = cc in r)
same_side Out Out p q e = (refl, let r : p ≡ q = cc in r)
same_side In Out p q e = absurd (let no : ⊥ = cc in no)
same_side Out In p q e = absurd (let no : ⊥ = cc in no)

not_over : (s : Side) (p : ℕ) → standing_by_side s p ≡ Over → ⊥
not_over In p e = cc
not_over Out p e = cc

same_blocked : (a b : Option Blocked) → standing_by a ≡ standing_by b → a ≡ b
same_blocked None None e = refl
same_blocked None (Some b) e = absurd (not_over b.side b.port.0 (sym e))
same_blocked (Some a) None e = absurd (not_over a.side a.port.0 e)
same_blocked (Some a) (Some b) e = let s = same_side a.side b.side a.port.0 b.port.0 e in
    ap (λ (x : Side). Some (record a { side = x })) s.0 ∙ ap (λ (n : ℕ). let r : Option Blocked = Some (record { side = b.side; port = record { 0 = n } }) in r) s.1

bools_same : (a b : Bool) → (a ≡ true → b ≡ true) → (b ≡ true → a ≡ true) → a ≡ b
bools_same true b f g = sym (f refl)
bools_same false true f g = g refl
bools_same false false f g = refl

-- a still page that stands at no port has ended
unblocked_ends : (s : LeafState) (end : Option TurnEnd) → is_blocked s end ≡ true → blocked_by end ≡ None → has_ended end ≡ true
unblocked_ends s None h e = absurd (let x : false ≡ true = h in cc)
unblocked_ends s (Some (AtRead p)) h e = absurd (none_some _ (sym e))
unblocked_ends s (Some (AtWrite p w)) h e = absurd (none_some _ (sym e))
unblocked_ends s (Some Ended) h e = refl
unblocked_ends s (Some Limit) h e = absurd (let x : false ≡ true = h in cc)

unblocked_page : (s : LeafState) (o : Option PageState) → is_page_still s o ≡ true → page_blocked o ≡ None → is_finished o ≡ true
unblocked_page s None h e = refl
unblocked_page s (Some p) h e = unblocked_ends s p.end h e

abbrev chosen : Bool → Bool → Bool → Option Outcome
chosen over still ended = if over then (if still then (if ended then Some Done else Some Stalled) else Some Spent) else None

over_of : (over still ended : Bool) (o : Outcome) → chosen over still ended ≡ Some o → over ≡ true
over_of true still ended o e = refl
over_of false still ended o e = absurd (none_some o e)

module _ {S : Type 0} (net : Carrier S) (plan : PlanValue) (operators : List Process) (design : IsDesign plan operators) (st : State S) (whole : IsWhole (setup_of net plan) st) (rested : IsRested (setup_of net plan) st) where
  abbrev setup : Setup S
  setup = setup_of net plan

  pub still : is_still setup st ≡ true
  still = rested_still setup st rested

  -- where a page is on a leaf, it is the one with that leaf's number
  numbered : (i : ℕ) (o : Option Core) → core_at setup i ≡ o → (st.pages i ≡ None) ⊎ (page_numbered setup st (number_of plan i) ≡ st.pages i)
  numbered i None e = inl (no_host_page (core_at setup i) (st.pages i) _ e (whole.traced.pages i))
  numbered i (Some c) e = inr (ap (λ (o : Option Core). if is_some o then st.pages (leaf_of plan (number_of plan i)) else None) e ∙ ap st.pages (leaf_number plan i))

  pub unblocked_all : ((k : ℕ) → blocked setup st k ≡ None) → all_ended setup st ≡ true
  unblocked_all none =
      below_all setup.size (λ i. is_finished (st.pages i)) (λ i l. at i l (numbered i (core_at setup i) refl))
    where
      at : (i : ℕ) → i < setup.size → (st.pages i ≡ None) ⊎ (page_numbered setup st (number_of plan i) ≡ st.pages i) → is_finished (st.pages i) ≡ true
      at i l (inl e) = ap is_finished e
      at i l (inr e) = unblocked_page (st.leaves i) (st.pages i) ((calm_of setup st still).1 i l) (sym (ap page_blocked e) ∙ none (number_of plan i))

  pub rested_outcome : outcome setup st ≡ (if all_ended setup st then Some Done else Some Stalled)
  rested_outcome =
      let over : is_over setup st ≡ true = ⊎_elim (λ e. over_of (is_over setup st) (is_still setup st) (all_ended setup st) Done e) (λ e. over_of (is_over setup st) (is_still setup st) (all_ended setup st) Stalled e) rested in
      ap (λ (b : Bool). chosen b (is_still setup st) (all_ended setup st)) over ∙ ap (λ (b : Bool). chosen true b (all_ended setup st)) still

-- a rest family of an equal network, with the same standings
moved_over : (window window' : ℕ) (net net' : Network) (fam : Family) → window ≡ window' → net ≡ net' → (rest : IsRestFamily window net fam)
    → (rest' : IsRestFamily window' net' fam) × ((node : Node) → standing_of (rest'.at_rest node) ≡ standing_of (rest.at_rest node))
moved_over window window' net net' fam e e' rest =
    subst (λ v. (rest' : IsRestFamily v net' fam) × ((node : Node) → standing_of (rest'.at_rest node) ≡ standing_of (rest.at_rest node))) e
    (subst (λ n. (rest' : IsRestFamily window n fam) × ((node : Node) → standing_of (rest'.at_rest node) ≡ standing_of (rest.at_rest node))) e' (rest, λ node. refl))

pub same_network : (plan other : PlanValue) (operators : List Process) → SameDesign plan other → network other operators ≡ network plan operators
same_network plan other operators same =
    ap (λ (w : Wiring). network_of operators other.feeds w) (sym same.wiring) ∙ ap (λ (feeds : List (List ℕ)). network_of operators feeds (plans.wiring_of plan)) (sym same.feeds)

module _ {S S' : Type 0} (net : Carrier S) (net' : Carrier S') (plan other : PlanValue) (operators : List Process) (same : SameDesign plan other) (design : IsDesign plan operators) (design' : IsDesign other operators)
    (mine : State S) (theirs : State S') (whole : IsWhole (setup_of net plan) mine) (whole' : IsWhole (setup_of net' other) theirs) (rested : IsRested (setup_of net plan) mine) (rested' : IsRested (setup_of net' other) theirs) where
  abbrev my_rests : IsRestFamily plan.window (network plan operators) (family_of mine.history)
  my_rests = rests net plan operators design mine whole (still net plan operators design mine whole rested)

  abbrev their_rests : IsRestFamily other.window (network other operators) (family_of theirs.history)
  their_rests = rests net' other operators design' theirs whole' (still net' other operators design' theirs whole' rested')

  over : (rest' : IsRestFamily plan.window (network plan operators) (family_of theirs.history)) × ((node : Node) → standing_of (rest'.at_rest node) ≡ standing_of (their_rests.at_rest node))
  over = moved_over other.window plan.window (network other operators) (network plan operators) (family_of theirs.history) (sym same.window) (same_network plan other operators same) their_rests

  pub same_family : (node : Node) → family_of mine.history node ≡ family_of theirs.history node
  same_family node = rest_is_one plan.window (network plan operators) (family_of mine.history) (family_of theirs.history) (means_kahn net plan operators design) my_rests over.0 node

  pub same_ports : (k : ℕ) → blocked (setup_of net plan) mine k ≡ blocked (setup_of net' other) theirs k
  same_ports k =
      same_blocked (blocked (setup_of net plan) mine k) (blocked (setup_of net' other) theirs k)
      (sym (standing_named net plan operators design mine whole (still net plan operators design mine whole rested) k)
      ∙ standings_alike plan.window (network plan operators) (family_of mine.history) (family_of theirs.history) (means_kahn net plan operators design) my_rests over.0 (OperatorNode k)
      ∙ over.1 (OperatorNode k)
      ∙ standing_named net' other operators design' theirs whole' (still net' other operators design' theirs whole' rested') k)

  pub same_outs : (k : ℕ) → out_at mine k ≡ out_at theirs k
  same_outs k = ap (λ es. words_read es 0) (same_family (OutputNode k))

  same_ended : all_ended (setup_of net plan) mine ≡ all_ended (setup_of net' other) theirs
  same_ended =
      bools_same (all_ended (setup_of net plan) mine) (all_ended (setup_of net' other) theirs)
      (λ all. unblocked_all net' other operators design' theirs whole' rested' (λ k. sym (same_ports k) ∙ names_none net plan operators design mine whole all k))
      (λ all. unblocked_all net plan operators design mine whole rested (λ k. same_ports k ∙ names_none net' other operators design' theirs whole' all k))

  pub same_outcome : outcome (setup_of net plan) mine ≡ outcome (setup_of net' other) theirs
  same_outcome =
      rested_outcome net plan operators design mine whole rested ∙ ap (λ t. if t then Some Done else Some Stalled) same_ended ∙ sym (rested_outcome net' other operators design' theirs whole' rested')

  pub show_same : ShowSame (shown (setup_of net plan) mine) (shown (setup_of net' other) theirs)
  show_same = record { events = same_family; ends = same_outcome; ports = same_ports; outs = same_outs }

-- at rest no rounds are told
same_line : (s : Shown) (rounds rounds' : ℕ) → HasRested s → outcome_line s.outcome rounds ≡ outcome_line s.outcome rounds'
same_line s rounds rounds' =
    ⊎_elim (λ e. ap (λ o. outcome_line o rounds) e ∙ sym (ap (λ o. outcome_line o rounds') e)) (λ e. ap (λ o. outcome_line o rounds) e ∙ sym (ap (λ o. outcome_line o rounds') e))

-- what is shown alike is told alike
pub same_reply : (names outputs : ℕ → List ℕ) (operators outs : ℕ) (a b : Shown) → HasRested a → ShowSame a b → reply names outputs operators outs a ≡ reply names outputs operators outs b
same_reply names outputs operators outs a b rested same =
    ap (λ line. line ++ (at_lines names a.outcome a.port operators ++ lines_below (λ k. out_line (outputs k) (a.words k)) outs)) (same_line a a.rounds b.rounds rested)
    ∙ ap (λ o. outcome_line o b.rounds ++ (at_lines names o a.port operators ++ lines_below (λ k. out_line (outputs k) (a.words k)) outs)) same.ends
    ∙ ap (λ ports. outcome_line b.outcome b.rounds ++ (at_lines names b.outcome ports operators ++ lines_below (λ k. out_line (outputs k) (a.words k)) outs)) (fun_ext same.ports)
    ∙ ap (λ (words : ℕ → List ℕ). outcome_line b.outcome b.rounds ++ (at_lines names b.outcome b.port operators ++ lines_below (λ k. out_line (outputs k) (words k)) outs)) (fun_ext same.outs)
