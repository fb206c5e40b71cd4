-- An operator without a fault is sound.
use Rattle.std.proofs.Common.{◌≡◌, ℕ, zero, suc, ◌+◌, ◌≤◌, List, ◌∷◌, [], length, Bool, true, false, cond, Option, Some, None, refl, sym, subst, arith}
use Rattle.std.specs.Prelude.{map, filter, sum, slice_get, nat_lt, IfNone}
use Rattle.std.proofs.lemmas.Bool.Decides.{nat_tests}
use Rattle.std.proofs.lemmas.List.Sums.{sum_by-cons}
use Rattle.pld_base.specs.declared.event.Place.{Place}
use Rattle.pld_base.specs.declared.event.Side.TheVariants as side
use Rattle.pld_base.specs.declared.fault.SourceFault.{SourceFault}
use Rattle.pld_base.specs.declared.fault.Limit.{Limit}
use Rattle.pld_base.specs.declared.fault.Limit.TheVariants as limit
use Rattle.pld_ast.specs.declared.tree.Array.{Array}
use Rattle.pld_ast.specs.declared.tree.Operator.{Operator}
use Rattle.pld_ast.specs.Nodes.{action_nodes}
use Rattle.pld_ast.specs.Resolve.{is_at, program_of}
use Rattle.pld_ast.specs.Sound.{IsSound, IsKnown}
use Rattle.pld_check.specs.Known.{AreFilled}
use Rattle.pld_check.specs.Faults.{passed, place_in_text, words_passed, ports_passed, nodes_passed, or_else, port_limit_fault, array_limit_fault, limit_fault}
use Rattle.pld_check.proofs.Declaring.{lengths}

first_none : (a b : Option SourceFault) → or_else a b ≡ None → a ≡ None
first_none None b e = refl
first_none (Some f) b e = absurd (let no : ⊥ = cc in no)

second_none : (a b : Option SourceFault) → or_else a b ≡ None → b ≡ None
second_none None b e = e
second_none (Some f) b e = absurd (let no : ⊥ = cc in no)

not_passed : (l : Limit) (o : Option Place) → passed l o ≡ None → o ≡ None
not_passed l None e = refl
not_passed l (Some at) e = absurd (let no : ⊥ = cc in no)

no_place : {A : Type 0} (at : A → Place) (o : Option A) → place_in_text at o ≡ None → o ≡ None
no_place at None e = refl
no_place at (Some a) e = absurd (let no : ⊥ = cc in no)

few : {A : Type 0} (xs : List A) (n : ℕ) → slice_get xs n ≡ None → length xs ≤ n
few [] n e = omega arith
few (x ∷ xs) zero e = absurd (let no : ⊥ = cc in no)
few (x ∷ xs) (suc n) e = let h : length xs ≤ n = few xs n e in omega (arith, h)

few_by : {A : Type 0} (l : Limit) (at : A → Place) (xs : List A) (n : ℕ) → passed l (place_in_text at (slice_get xs n)) ≡ None → length xs ≤ n
few_by l at xs n e = few xs n (no_place at (slice_get xs n) (not_passed l (place_in_text at (slice_get xs n)) e))

within_words : (t : Bool) (n m : ℕ) (at : Place) (more : Option Place) → nat_lt 8192 (n + m) ≡ t → cond t (Some at) more ≡ None → (n + m ≤ 8192) × (more ≡ None)
within_words true n m at more e h = absurd (let no : ⊥ = cc in no)
within_words false n m at more e h = (grind (arith, nat_tests, e), h)

few_words : (n : ℕ) (arrays : List Array) → n ≤ 8192 → words_passed n arrays ≡ None → n + sum (map (λ a. a.len) arrays) ≤ 8192
few_words n [] h e = omega (arith, h)
few_words n (a ∷ arrays) h e =
    let w = within_words (nat_lt 8192 (n + a.len)) n a.len a.at (words_passed (n + a.len) arrays) refl e in
    let i : (n + a.len) + sum (map (λ x. x.len) arrays) ≤ 8192 = few_words (n + a.len) arrays w.0 w.1 in
    let c : sum (map (λ x. x.len) (a ∷ arrays)) ≡ a.len + sum (map (λ x. x.len) arrays) = sum_by-cons (λ n. n) a.len (map (λ x. x.len) arrays) in
    omega (arith, i, c)

within_nodes : (t : Bool) (n : ℕ) (at : Place) → nat_lt 1000 n ≡ t → cond t (Some at) None ≡ None → n ≤ 1000
within_nodes true n at e h = absurd (let no : ⊥ = cc in no)
within_nodes false n at e h = grind (arith, nat_tests, e)

sound_within : (op : Operator) → limit_fault op ≡ None → AreFilled (program_of op).lengths → IsKnown (program_of op) (program_of op).body → IsSound (program_of op)
sound_within op e filled known =
    let nodes = passed limit.Nodes (nodes_passed op) in
    let scalars = passed limit.Scalars (place_in_text (λ s. s.at) (slice_get op.scalars 64)) in
    let arrays = passed limit.Arrays (place_in_text (λ a. a.at) (slice_get op.arrays 16)) in
    let words = passed limit.ArrayWords (words_passed 0 op.arrays) in
    let ins = passed limit.InPorts (ports_passed side.In op.ports) in
    let outs = passed limit.OutPorts (ports_passed side.Out op.ports) in
    let variables : or_else scalars (array_limit_fault op) ≡ None = second_none nodes (or_else scalars (array_limit_fault op)) e in
    let on_arrays : array_limit_fault op ≡ None = second_none scalars (array_limit_fault op) variables in
    let on_words : or_else words (port_limit_fault op) ≡ None = second_none arrays (or_else words (port_limit_fault op)) on_arrays in
    let on_ports : port_limit_fault op ≡ None = second_none words (port_limit_fault op) on_words in
    let few_ins : length (filter (is_at side.In) op.ports) ≤ 8 = few_by limit.InPorts (λ q. q.at) (filter (is_at side.In) op.ports) 8 (first_none ins outs on_ports) in
    let few_outs : length (filter (is_at side.Out) op.ports) ≤ 8 = few_by limit.OutPorts (λ q. q.at) (filter (is_at side.Out) op.ports) 8 (second_none ins outs on_ports) in
    let few_arrays : length op.arrays ≤ 16 = few_by limit.Arrays (λ a. a.at) op.arrays 16 (first_none arrays (or_else words (port_limit_fault op)) on_arrays) in
    let all_words : 0 + sum (map (λ a. a.len) op.arrays) ≤ 8192 = few_words 0 op.arrays (omega arith) (not_passed limit.ArrayWords (words_passed 0 op.arrays) (first_none words (port_limit_fault op) on_words)) in
    record {
      ins = subst (λ n. n ≤ 8) (sym (lengths (λ q. q.name) (filter (is_at side.In) op.ports))) few_ins;
      outs = subst (λ n. n ≤ 8) (sym (lengths (λ q. q.name) (filter (is_at side.Out) op.ports))) few_outs;
      scalars = few_by limit.Scalars (λ s. s.at) op.scalars 64 (first_none scalars (array_limit_fault op) variables);
      arrays = subst (λ n. n ≤ 16) (sym (lengths (λ a. a.len) op.arrays)) few_arrays;
      some = filled;
      words = omega (arith, all_words);
      nodes = within_nodes (nat_lt 1000 (action_nodes (program_of op).body)) (action_nodes (program_of op).body) op.at refl (not_passed limit.Nodes (nodes_passed op) (first_none nodes (or_else scalars (array_limit_fault op)) e));
      known = known;
    }

pub sound_of : (op : Operator) (found : Option SourceFault) → found ≡ limit_fault op → AreFilled (program_of op).lengths → IsKnown (program_of op) (program_of op).body → IfNone found (IsSound (program_of op))
sound_of op None e filled known = sound_within op (sym e) filled known
sound_of op (Some f) e filled known = tt
