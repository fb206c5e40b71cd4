-- A run uses up no more than its rest family has.
use Rattle.std.proofs.Common.{◌≡◌, ℕ, zero, suc, ◌+◌, ◌*◌, ◌/◌, ◌<◌, ◌≤◌, Bool, true, false, cond, List, [], ◌∷◌, ◌++◌, length, refl, ap, sym, ◌∙◌, arith, length-append, Option, Some, None, subst}
use Rattle.std.specs.Prelude.{if◌then◌else◌, ◌==◌}
use Rattle.net_tree.specs.Links.{sum_to}
use Rattle.pld_base.specs.Prefix.{IsPrefixOf}
use Rattle.pld_base.specs.declared.event.Event.{Event}
use Rattle.pld_base.specs.Channels.{Node, OperatorNode, InputNode, OutputNode, NodeEvent, Family, family_of}
use Rattle.pld_kahn.specs.Network.{IsKahnNetwork}
use Rattle.pld_image.specs.Cores.{Core, next}
use Rattle.fabric_run.specs.World.{Setup, State, PageState, core_at}
use Rattle.fabric_run.specs.Replay.{has_ended}
use Rattle.fabric_keeps.specs.Measure.{used, page_used}
use Rattle.fabric_keeps.specs.Links.{wiring_of}
use Rattle.hot_swap.specs.Paths.{Leads, RestsAfter}
use Rattle.fabric_keeps.specs.Paths.{PathAt, page_network, page_count}
use Rattle.fabric_keeps.specs.Whole.{IsWhole}
use Rattle.fabric_keeps.proofs.Base.{sum_same, sum_add, sum_le}
use Rattle.fabric_keeps.proofs.Base.{one_place}
use Rattle.hot_swap.proofs.Walks.{leads_bound}

-- Events, counted node by node.

abbrev number_of : Node → ℕ
number_of (OperatorNode k) = k
number_of (InputNode k) = k
number_of (OutputNode k) = k

-- more than each number in a history
abbrev top : List NodeEvent → ℕ
top [] = 0
top (e ∷ es) = top es + number_of e.node + 1

abbrev total : ℕ → Family → ℕ
total n family = sum_to n (λ i. length (family (OperatorNode i))) + sum_to n (λ i. length (family (InputNode i))) + sum_to n (λ i. length (family (OutputNode i)))

length_if : (b : Bool) (es : List Event) (e : Event) → length (if b then es ++ e ∷ [] else es) ≡ length es + (if b then 1 else 0)
length_if true es e = length-append es (e ∷ []) ∙ omega arith
length_if false es e = omega arith

one_more : (n k : ℕ) (g : ℕ → List Event) (e : Event) → k < n → sum_to n (λ i. length (if k == i then g i ++ e ∷ [] else g i)) ≡ sum_to n (λ i. length (g i)) + 1
one_more n k g e l =
    sum_same n (λ i. length (if k == i then g i ++ e ∷ [] else g i)) (λ i. length (g i) + (if k == i then 1 else 0)) (λ i m. length_if (k == i) (g i) e)
    ∙ omega (arith, sum_add n (λ i. length (g i)) (λ i. (if k == i then 1 else 0)), one_place n k 1 l)

total_more : (n : ℕ) (node : Node) (event : Event) (es : List NodeEvent) → number_of node < n → total n (family_of (record { node = node; event = event } ∷ es)) ≡ total n (family_of es) + 1
total_more n (OperatorNode k) event es l = omega (arith, one_more n k (λ i. family_of es (OperatorNode i)) event l)
total_more n (InputNode k) event es l = omega (arith, one_more n k (λ i. family_of es (InputNode i)) event l)
total_more n (OutputNode k) event es l = omega (arith, one_more n k (λ i. family_of es (OutputNode i)) event l)

none_total : (n : ℕ) → sum_to n (λ i. 0) ≡ 0
none_total zero = refl
none_total (suc n) = omega (arith, none_total n)

total_is : (n : ℕ) (es : List NodeEvent) → top es ≤ n → total n (family_of es) ≡ length es
total_is n [] l = omega (arith, none_total n)
total_is n (e ∷ es) l = omega (arith, total_more n e.node e.event es (omega arith), total_is n es (omega arith))

prefix_less : (xs ys : List Event) → IsPrefixOf xs ys → length xs ≤ length ys
prefix_less xs ys p = omega (arith, ap length p.joined, length-append xs p.rest)

-- a history whose events begin another's is no longer
pub shorter : (es fs : List NodeEvent) → ((node : Node) → IsPrefixOf (family_of es node) (family_of fs node)) → length es ≤ length fs
shorter es fs h =
    let n : ℕ = top es + top fs in
    omega (
      arith,
      total_is n es (omega arith),
      total_is n fs (omega arith),
      sum_le n (λ i. length (family_of es (OperatorNode i))) (λ i. length (family_of fs (OperatorNode i))) (λ i l. prefix_less (family_of es (OperatorNode i)) (family_of fs (OperatorNode i)) (h (OperatorNode i))),
      sum_le n (λ i. length (family_of es (InputNode i))) (λ i. length (family_of fs (InputNode i))) (λ i l. prefix_less (family_of es (InputNode i)) (family_of fs (InputNode i)) (h (InputNode i))),
      sum_le n (λ i. length (family_of es (OutputNode i))) (λ i. length (family_of fs (OutputNode i))) (λ i l. prefix_less (family_of es (OutputNode i)) (family_of fs (OutputNode i)) (h (OutputNode i))),
    )

-- Pages.

end_le : (b : Bool) → (let n : ℕ = cond b 1 0 in n ≤ 1)
end_le true = omega arith
end_le false = omega arith

quotient : (a b : ℕ) → a ≤ b → a / 256 ≤ b / 256
quotient a b h = omega arith

page_within : (co : Option Core) (o : Option PageState) (es rest : List Event) (limit : ℕ) → PathAt co o es → IsPrefixOf es rest → ((c : Core) → co ≡ Some c → RestsAfter next c limit rest) → page_used o ≤ limit / 256 + page_count co
page_within None o es rest limit h p r = omega (arith, ap page_used h.0)
page_within (Some c) o es rest limit h p r =
    let a : RestsAfter next c limit rest = r c refl in
    let l : Leads next c limit (es ++ p.rest) a.at = subst (λ (x : List Event). Leads next c limit x a.at) (sym p.joined) a.leads in
    let b : h.0.steps ≤ limit = leads_bound next c h.0.core a.at h.0.steps limit es p.rest a.halts h.2 l in
    omega (arith, ap page_used h.1, quotient h.0.steps limit b, end_le (has_ended h.0.end))

pub uses_within : {S : Type 0} (setup : Setup S) (st : State S) (rest : List NodeEvent) (limit : ℕ → ℕ) → IsKahnNetwork (page_network setup (wiring_of setup)) → IsWhole setup st
    → ((node : Node) → IsPrefixOf (family_of st.history node) (family_of rest node)) → ((i : ℕ) (c : Core) → core_at setup i ≡ Some c → RestsAfter next c (limit i) (family_of rest (OperatorNode (setup.number i))))
    → used setup st ≤ 3 * length rest + sum_to setup.size (λ i. limit i / 256) + sum_to setup.size (λ i. page_count (core_at setup i))
uses_within setup st rest limit kahn w within r =
    omega (
      arith,
      shorter st.history rest within,
      sum_add setup.size (λ i. limit i / 256) (λ i. page_count (core_at setup i)),
      sum_le setup.size (λ i. page_used (st.pages i)) (λ i. limit i / 256 + page_count (core_at setup i)) (λ i l. page_within (core_at setup i) (st.pages i) (family_of st.history (OperatorNode (setup.number i))) (family_of rest (OperatorNode (setup.number i))) (limit i) (w.traced.pages i) (within (OperatorNode (setup.number i))) (r i)),
    )
