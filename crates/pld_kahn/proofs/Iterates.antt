-- Kahn's iterates grow, and whatever single events reach begins the Kahn streams.
use Rattle.std.proofs.Common.{◌≡◌, ℕ, zero, suc, ◌+◌, ◌≤◌, List, [], ◌∷◌, ◌++◌, Bool, true, false, refl, sym, ap, subst, ⊎_elim, arith, eq-or-lt_of_le}
use Rattle.pld_base.specs.Channels.{Node, OperatorNode, InputNode, OutputNode, channel_words, Family, read_words, written_words, NodeEvent, same_node, family_of, AfterEach}
use Rattle.pld_base.specs.Prefix.{IsPrefixOf}
use Rattle.pld_base.specs.Events.{words_read, words_written}
use Rattle.pld_base.specs.Process.{IsExtendedBy}
use Rattle.pld_base.proofs.Prefixes.{prefix_refl, prefix_nil, prefix_of_eq, prefix_trans}
use Rattle.pld_base.proofs.Events.{words_written_grows}
use Rattle.pld_base.proofs.Processes.{trace_grows}
use Rattle.pld_base.specs.declared.event.Event.{Event}
use Rattle.pld_base.specs.declared.event.Event.TheVariants.{Read, Write}
use Rattle.pld_kahn.specs.Network.{Network, IsKahnNetwork, process_of}
use Rattle.pld_kahn.specs.Kahn.{iterate, kahn, BeginsStream}
use Rattle.pld_kahn.specs.Rest.{IsConsistent, IsReached}
use Rattle.pld_base.proofs.Histories.{same_node_is, with_event, from_same, channels_grow, after, after_here, written_same, read_same}
use Rattle.pld_kahn.proofs.Reached.{reached_consistent}
use Rattle.pld_kahn.proofs.Hosts.{laws_of}

module _ (net : Network) (laws : IsKahnNetwork net) where
  iterate_grows : (n : ℕ) (a : Node) (p : ℕ) → IsPrefixOf (iterate net n a p) (iterate net (suc n) a p)
  iterate_grows zero (OperatorNode k) p = prefix_nil _
  iterate_grows zero (InputNode k) p = prefix_refl _
  iterate_grows zero (OutputNode k) p = prefix_nil _
  iterate_grows (suc n) a p =
      words_written_grows p (trace_grows (process_of net a) (laws_of net laws a) (channel_words net.wiring (iterate net n) a) (channel_words net.wiring (iterate net (suc n)) a) n (suc n) (λ q. channels_grow net.wiring (iterate net n) (iterate net (suc n)) (iterate_grows n) a q) (omega arith))

  pub iterates_grow : (n m : ℕ) → m ≤ n → (a : Node) (p : ℕ) → IsPrefixOf (iterate net m a p) (iterate net n a p)
  iterates_grow zero m le a p = let e : m ≡ 0 = omega arith in prefix_of_eq (ap (λ k. iterate net k a p) e)
  iterates_grow (suc n) m le a p =
      ⊎_elim (λ e. prefix_of_eq (ap (λ k. iterate net k a p) e)) (λ lt. prefix_trans (iterates_grow n m (omega (arith, lt)) a p) (iterate_grows n a p)) (eq-or-lt_of_le le)

  pub kahn_grows : (n : ℕ) (a : Node) (p : ℕ) → IsPrefixOf (kahn net n a p) (kahn net (suc n) a p)
  kahn_grows n a p = channels_grow net.wiring (iterate net n) (iterate net (suc n)) (iterate_grows n) a p

  history_in_order : (window : ℕ) (acts : List NodeEvent) → AfterEach (IsConsistent window net) acts → (a : Node) (q : ℕ) → IsPrefixOf (read_words (family_of acts) a q) (written_words net.wiring (family_of acts) a q)
  history_in_order window [] h a q = prefix_nil _
  history_in_order window (newest ∷ before) h a q = h.1.keeps_window.in_order a q

  -- the words that a family has written begin K(n), at each out-port
  abbrev pub IsBelow : Family → ℕ → Type 0
  IsBelow f n = (a : Node) (p : ℕ) → IsPrefixOf (words_written (f a) p) (iterate net n a p)

  module _ (window : ℕ) (before : List NodeEvent) (a : Node) (e : Event) (earlier : AfterEach (IsConsistent window net) before) (sound : IsConsistent window net (family_of (record { node = a; event = e } ∷ before))) (n : ℕ) (below : IsBelow (family_of before) n) where
    -- the words read so far are among those of K(n)
    reads_below : (x : Event) → e ≡ x → IsExtendedBy (words_read (after before a e a)) (channel_words net.wiring (iterate net n) a)
    reads_below (Read p w) is q =
        let same = from_same (net.wiring a q) (λ b. words_written (after before a e b)) (λ b. words_written (family_of before b)) (written_same before a e p.0 w is) in
        prefix_trans (sound.keeps_window.in_order a q) (prefix_trans (prefix_of_eq same) (channels_grow net.wiring (λ b. words_written (family_of before b)) (iterate net n) below a q))
    reads_below (Write p w) is q =
        prefix_trans (prefix_of_eq (read_same before a e p.0 w is a q)) (prefix_trans (history_in_order window before earlier a q) (channels_grow net.wiring (λ b. words_written (family_of before b)) (iterate net n) below a q))

    abbrev turns : ℕ
    turns = (sound.follows_traces a).0

    step_below : (b : Node) (p : ℕ) → IsPrefixOf (words_written (after before a e b) p) (iterate net (suc (n + turns)) b p)
    step_below b p = go (same_node a b) refl
      where
        here : IsPrefixOf (words_written (family_of before a ++ e ∷ []) p) (iterate net (suc (n + turns)) a p)
        here =
            let ext = λ (q : ℕ). prefix_trans (reads_below e refl q) (channels_grow net.wiring (iterate net n) (iterate net (n + turns)) (iterates_grow (n + turns) n (omega arith)) a q) in
            let grown = trace_grows (process_of net a) (laws_of net laws a) (words_read (after before a e a)) (channel_words net.wiring (iterate net (n + turns)) a) (sound.follows_traces a).0 (n + turns) ext (omega arith) in
            words_written_grows p (prefix_trans (prefix_of_eq (sym (after_here before a e))) (prefix_trans (sound.follows_traces a).1 grown))

        go : (t : Bool) → same_node a b ≡ t → IsPrefixOf (words_written (with_event t (family_of before b) e) p) (iterate net (suc (n + turns)) b p)
        go false h = prefix_trans (below b p) (iterates_grow (suc (n + turns)) n (omega arith) b p)
        go true h = subst (λ c. IsPrefixOf (words_written (family_of before c ++ e ∷ []) p) (iterate net (suc (n + turns)) c p)) (same_node_is a b h) here

  history_below : (window : ℕ) (acts : List NodeEvent) → AfterEach (IsConsistent window net) acts → (n : ℕ) × IsBelow (family_of acts) n
  history_below window [] h = (0, λ a p. prefix_nil _)
  history_below window (newest ∷ before) h =
      let r = history_below window before h.0 in
      (suc (r.0 + turns window before newest.node newest.event h.0 h.1 r.0 r.1), step_below window before newest.node newest.event h.0 h.1 r.0 r.1)

  pub reached_below : (window : ℕ) (f : Family) → IsReached window net f → (n : ℕ) × IsBelow f n
  reached_below window f reached =
      let r = history_below window reached.history reached.each_consistent in
      (r.0, subst (λ x. IsBelow x r.0) reached.ends_here r.1)

  pub written_begins : (window : ℕ) (f : Family) → IsReached window net f → (a : Node) (p : ℕ) → BeginsStream net a p (written_words net.wiring f a p)
  written_begins window f reached a p =
      let r = reached_below window f reached in
      record { n = r.0; begins = channels_grow net.wiring (λ b. words_written (f b)) (iterate net r.0) r.1 a p }

  pub read_begins : (window : ℕ) (f : Family) → IsReached window net f → (a : Node) (p : ℕ) → BeginsStream net a p (read_words f a p)
  read_begins window f reached a p =
      let w = written_begins window f reached a p in
      record { n = w.n; begins = prefix_trans ((reached_consistent window net f reached).keeps_window.in_order a p) w.begins }
