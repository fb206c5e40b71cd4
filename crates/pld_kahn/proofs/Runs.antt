-- A network has at most one rest family: whatever single events reach lies within each rest family.
use Rattle.std.proofs.Common.{◌≡◌, ℕ, ◌+◌, ◌≤◌, List, [], ◌∷◌, ◌++◌, Bool, true, false, length, refl, sym, ap, ◌∙◌, subst, ⊎_elim, append-nil, append_assoc, length-append, arith}
use Rattle.pld_base.specs.Channels.{Node, words_from, Family, written_words, NodeEvent, same_node, family_of, AfterEach}
use Rattle.pld_base.specs.Prefix.{IsPrefixOf}
use Rattle.pld_base.specs.Events.{words_read, words_written}
use Rattle.pld_base.specs.Process.{Returned, IsExtendedBy, StaysOrReads}
use Rattle.pld_base.proofs.Prefixes.{prefix_nil, prefix_of_eq, prefix_trans, prefix_length, prefix_whole, same_next}
use Rattle.pld_base.proofs.Events.{words_read_grows, words_written_grows, read_one, written_one}
use Rattle.pld_base.proofs.Processes.{trace_grows, returned_stays}
use Rattle.pld_base.specs.declared.event.Event.{Event}
use Rattle.pld_base.specs.declared.event.Event.TheVariants.{Read, Write}
use Rattle.pld_kahn.specs.Network.{Network, IsKahnNetwork, process_of}
use Rattle.pld_kahn.specs.Rest.{IsConsistent, IsReached, HasEnded, IsAtEmpty, IsAtFull, IsAtRest, Returns, At_empty, At_full, IsRestFamily}
use Rattle.pld_base.proofs.Histories.{same_node_is, with_event, from_same, channels_grow, after, after_here, written_same, read_same}
use Rattle.pld_kahn.proofs.Hosts.{laws_of}

-- nothing is longer than itself
pub too_long : (es : List Event) (e : Event) {zs : List Event} → IsPrefixOf (es ++ e ∷ []) zs → zs ≡ es → ⊥
too_long es e p same = omega (arith, prefix_length p, ap length same, length-append es (e ∷ []))

module _ (window : ℕ) (net : Network) (kahn : IsKahnNetwork net) (before : List NodeEvent) (a : Node) (e : Event) (g : Family)
    (grows : (b : Node) → IsPrefixOf (family_of before b) (g b))
    (sound : IsConsistent window net (family_of (record { node = a; event = e } ∷ before)))
    (rest : IsRestFamily window net g) where
  -- what the node has read after the event was written in the rest family
  reads_fit : (x : Event) → e ≡ x → IsExtendedBy (words_read (after before a e a)) (written_words net.wiring g a)
  reads_fit (Read p w) is q =
      let same = from_same (net.wiring a q) (λ b. words_written (after before a e b)) (λ b. words_written (family_of before b)) (written_same before a e p.0 w is) in
      let grown = channels_grow net.wiring (λ b. words_written (family_of before b)) (λ b. words_written (g b)) (λ b p. words_written_grows p (grows b)) a q in
      prefix_trans (sound.keeps_window.in_order a q) (prefix_trans (prefix_of_eq same) grown)
  reads_fit (Write p w) is q =
      prefix_trans (prefix_of_eq (read_same before a e p.0 w is a q)) (prefix_trans (words_read_grows q (grows a)) (rest.consistent.keeps_window.in_order a q))

  -- the node's trace on all words that the rest family writes to it
  abbrev full_trace : ℕ → List Event
  full_trace n = (process_of net a (written_words net.wiring g a) n).events

  event_follows : (n : ℕ) → (sound.follows_traces a).0 ≤ n → IsPrefixOf (family_of before a ++ e ∷ []) (full_trace n)
  event_follows n le =
      let t = sound.follows_traces a in
      prefix_trans (prefix_of_eq (sym (after_here before a e))) (prefix_trans t.1 (trace_grows (process_of net a) (laws_of net kahn a) (words_read (after before a e a)) (written_words net.wiring g a) t.0 n (reads_fit e refl) le))

  -- an node at rest makes no further event
  module _ (all : family_of before a ≡ g a) where
    follows_all : (n : ℕ) → (sound.follows_traces a).0 ≤ n → IsPrefixOf (g a ++ e ∷ []) (full_trace n)
    follows_all n le = subst (λ es. IsPrefixOf (es ++ e ∷ []) (full_trace n)) all (event_follows n le)

    after_all : after before a e a ≡ g a ++ e ∷ []
    after_all = (after_here before a e) ∙ ap (λ es. es ++ e ∷ []) all

    abbrev n1 : ℕ
    n1 = (sound.follows_traces a).0

    not_returned : HasEnded net g a Returned → ⊥
    not_returned r =
        let stays = returned_stays (process_of net a) (laws_of net kahn a) (words_read (g a)) (written_words net.wiring g a) r.turns (n1 + r.turns) (rest.consistent.keeps_window.in_order a) (omega arith) r.end_is in
        too_long (g a) e (follows_all (n1 + r.turns) (omega arith)) (stays ∙ r.events)

    not_empty : (q : ℕ) → IsAtEmpty net g a q → ⊥
    not_empty q s =
        let n = n1 + s.starved.turns in
        let waits = (laws_of net kahn a).waits (words_read (g a)) (written_words net.wiring g a) s.starved.turns n q (rest.consistent.keeps_window.in_order a) (omega arith) s.starved.end_is in
        let waits' = subst (λ es. StaysOrReads es q (full_trace n)) s.starved.events waits in
        let follows = follows_all n (omega arith) in
        ⊎_elim (λ same. too_long (g a) e follows same) (λ next. one_word next.0 (same_next (g a) e (Read (record { 0 = q }) next.0) follows next.1)) waits'
      where
        one_word : (w : ℕ) → e ≡ Read (record { 0 = q }) w → ⊥
        one_word w is =
            let now = ap (λ es. words_read es q) after_all ∙ ap (λ x. words_read (g a ++ x ∷ []) q) is ∙ read_one (g a) q w in
            omega (arith, prefix_length (reads_fit e refl q), ap length now, length-append (words_read (g a) q) (w ∷ []), ap length s.all_read)

    not_full : (p : ℕ) → IsAtFull window net g a p → ⊥
    not_full p h =
        let n = n1 + h.turns in
        let next = prefix_trans h.next (trace_grows (process_of net a) (laws_of net kahn a) (words_read (g a)) (written_words net.wiring g a) h.turns n (rest.consistent.keeps_window.in_order a) (omega arith)) in
        one_word (same_next (g a) e (Write (record { 0 = p }) h.word) (follows_all n (omega arith)) next)
      where
        one_word : e ≡ Write (record { 0 = p }) h.word → ⊥
        one_word is =
            let now = ap (λ o. words_from o (λ b. words_written (after before a e b))) h.full.joined ∙ ap (λ es. words_written es p) after_all ∙ ap (λ x. words_written (g a ++ x ∷ []) p) is ∙ written_one (g a) p h.word in
            let at_rest = ap (λ o. words_from o (λ b. words_written (g b))) h.full.joined in
            let read = prefix_length (words_read_grows h.full.reader_port (grows h.full.reader)) in
            omega (arith, sound.keeps_window.within h.full.reader h.full.reader_port, h.full.unread, ap length now, ap length at_rest, length-append (words_written (g a) p) (h.word ∷ []), ap length (read_same before a e p h.word is h.full.reader h.full.reader_port), read)

    none_more : IsAtRest window net g a → ⊥
    none_more (Returns r) = not_returned r
    none_more (At_empty q s) = not_empty q s
    none_more (At_full p h) = not_full p h

  -- so the event is the rest family's next one
  event_within : (more : List Event) → family_of before a ++ more ≡ g a → IsPrefixOf (family_of before a ++ e ∷ []) (g a)
  event_within [] joined = absurd (none_more (sym (append-nil (family_of before a)) ∙ joined) (rest.at_rest a))
  event_within (x ∷ more) joined =
      let t = sound.follows_traces a in
      let r = rest.consistent.follows_traces a in
      let n = t.0 + r.0 in
      let all = prefix_trans r.1 (trace_grows (process_of net a) (laws_of net kahn a) (words_read (g a)) (written_words net.wiring g a) r.0 n (rest.consistent.keeps_window.in_order a) (omega arith)) in
      let next : IsPrefixOf (family_of before a ++ x ∷ []) (g a) = record { rest = more; joined = append_assoc (family_of before a) (x ∷ []) more ∙ joined } in
      let same = same_next (family_of before a) e x (event_follows n (omega arith)) (prefix_trans next all) in
      subst (λ y. IsPrefixOf (family_of before a ++ y ∷ []) (g a)) (sym same) next

  step_within : (b : Node) → IsPrefixOf (after before a e b) (g b)
  step_within b = go (same_node a b) refl
    where
      go : (t : Bool) → same_node a b ≡ t → IsPrefixOf (with_event t (family_of before b) e) (g b)
      go false h = grows b
      go true h =
          subst (λ c. IsPrefixOf (family_of before c ++ e ∷ []) (g c)) (same_node_is a b h) (event_within (grows a).rest (grows a).joined)

pub history_within : (window : ℕ) (net : Network) (g : Family) → IsKahnNetwork net → IsRestFamily window net g → (acts : List NodeEvent) → AfterEach (IsConsistent window net) acts → (b : Node) → IsPrefixOf (family_of acts b) (g b)
history_within window net g kahn rest [] h b = prefix_nil (g b)
history_within window net g kahn rest (newest ∷ before) h b =
    step_within window net kahn before newest.node newest.event g (history_within window net g kahn rest before h.0) h.1 rest b

pub reached_within : (window : ℕ) (net : Network) (f g : Family) → IsKahnNetwork net → IsReached window net f → IsRestFamily window net g → (b : Node) → IsPrefixOf (f b) (g b)
reached_within window net f g kahn reached rest b =
    subst (λ x. IsPrefixOf (x b) (g b)) reached.ends_here (history_within window net g kahn rest reached.history reached.each_consistent b)

pub rest_is_one : (window : ℕ) (net : Network) (f g : Family) → IsKahnNetwork net → IsRestFamily window net f → IsRestFamily window net g → (b : Node) → f b ≡ g b
rest_is_one window net f g kahn one other b =
    prefix_whole (reached_within window net f g kahn one.reached other b) (prefix_length (reached_within window net g f kahn other.reached one b))
