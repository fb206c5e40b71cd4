-- A family at rest says where each node stands.
use Rattle.std.proofs.Common.{◌≡◌, ◌≢◌, ℕ, ◌+◌, refl, sym, ap, ◌∙◌, subst, arith}
use mathlib.Core.Path.{fun_ext}
use Rattle.pld_base.specs.Events.{words_read}
use Rattle.pld_base.specs.Process.{TraceEnd, Returned, Starved, Cut}
use Rattle.pld_base.specs.Channels.{Node, Family}
use Rattle.pld_base.specs.declared.event.Event.TheVariants.{Write}
use Rattle.pld_base.proofs.Prefixes.{prefix_trans, same_next}
use Rattle.pld_kahn.specs.Network.{Network, IsKahnNetwork}
use Rattle.pld_kahn.specs.Rest.{own_trace, HasEnded, IsAtFull, IsAtRest, Returns, At_empty, At_full, Empty_port, Full_port, standing_of, IsRestFamily}
use Rattle.pld_kahn.proofs.Hosts.{laws_of}
use Rattle.pld_kahn.proofs.HostsAtRest.{port_of}
use Rattle.pld_kahn.proofs.Runs.{rest_is_one, too_long}

module _ (window : ℕ) (net : Network) (laws : IsKahnNetwork net) (family : Family) (node : Node) where
  -- after more turns an ended trace is the same
  at_last : (end : TraceEnd) (e : HasEnded net family node end) → end ≢ Cut → (more : ℕ) → own_trace net family node (e.turns + more) ≡ own_trace net family node e.turns
  at_last end e uncut more =
      (laws_of net laws node).uncut (words_read (family node)) e.turns (e.turns + more) (omega arith) (λ c. uncut (sym e.end_is ∙ c))

  one_end : (end end' : TraceEnd) → HasEnded net family node end → HasEnded net family node end' → end ≢ Cut → end' ≢ Cut → end ≡ end'
  one_end end end' e e' uncut uncut' =
      let swap : e.turns + e'.turns ≡ e'.turns + e.turns = omega arith in
      let same = sym (at_last end e uncut e'.turns) ∙ ap (own_trace net family node) swap ∙ at_last end' e' uncut' e.turns in
      sym e.end_is ∙ ap (λ t. t.end) same ∙ e'.end_is

  not_both : (end : TraceEnd) (p : ℕ) → HasEnded net family node end → end ≢ Cut → IsAtFull window net family node p → ⊥
  not_both end p e uncut h =
      let k = e.turns + h.turns in
      let more = (laws_of net laws node).more_turns (words_read (family node)) h.turns k (omega arith) in
      too_long (family node) (Write (record { 0 = p }) h.word) (prefix_trans h.next more) (ap (λ t. t.events) (at_last end e uncut h.turns) ∙ e.events)

  one_port : (p q : ℕ) → IsAtFull window net family node p → IsAtFull window net family node q → p ≡ q
  one_port p q h h' =
      let k = h.turns + h'.turns in
      let more = (laws_of net laws node).more_turns (words_read (family node)) h.turns k (omega arith) in
      let more' = (laws_of net laws node).more_turns (words_read (family node)) h'.turns k (omega arith) in
      ap port_of (same_next (family node) (Write (record { 0 = p }) h.word) (Write (record { 0 = q }) h'.word) (prefix_trans h.next more) (prefix_trans h'.next more'))

  returned_uncut : Returned ≢ Cut
  returned_uncut e = cc

  starved_uncut : (p : ℕ) → Starved p ≢ Cut
  starved_uncut p e = cc

  one_standing_of : (r s : IsAtRest window net family node) → standing_of r ≡ standing_of s
  one_standing_of (Returns e) (Returns e') = refl
  one_standing_of (Returns e) (At_empty p s) = let x = one_end Returned (Starved p) e s.starved returned_uncut (starved_uncut p) in absurd (let no : ⊥ = cc in no)
  one_standing_of (Returns e) (At_full p h) = absurd (not_both Returned p e returned_uncut h)
  one_standing_of (At_empty p s) (Returns e) = let x = one_end Returned (Starved p) e s.starved returned_uncut (starved_uncut p) in absurd (let no : ⊥ = cc in no)
  one_standing_of (At_empty p s) (At_empty q s') =
      let x = one_end (Starved p) (Starved q) s.starved s'.starved (starved_uncut p) (starved_uncut q) in
      let same : p ≡ q = cc in
      ap Empty_port same
  one_standing_of (At_empty p s) (At_full q h) = absurd (not_both (Starved p) q s.starved (starved_uncut p) h)
  one_standing_of (At_full p h) (Returns e) = absurd (not_both Returned p e returned_uncut h)
  one_standing_of (At_full p h) (At_empty q s) = absurd (not_both (Starved q) p s.starved (starved_uncut q) h)
  one_standing_of (At_full p h) (At_full q h') = ap Full_port (one_port p q h h')

pub standings_alike : (window : ℕ) (net : Network) (family other : Family) → IsKahnNetwork net → (r : IsRestFamily window net family) (s : IsRestFamily window net other) (node : Node) → standing_of (r.at_rest node) ≡ standing_of (s.at_rest node)
standings_alike window net family other laws r s node =
    let same : family ≡ other = fun_ext (rest_is_one window net family other laws r s) in
    let P : Family → Type 0 = λ f. (s : IsRestFamily window net f) → standing_of (r.at_rest node) ≡ standing_of (s.at_rest node) in
    subst P same (λ s. one_standing_of window net laws family node (r.at_rest node) (s.at_rest node)) s
