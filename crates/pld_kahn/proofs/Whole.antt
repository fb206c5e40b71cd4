-- Where no operator stands at a full port, the words are the whole Kahn streams.
use Rattle.std.proofs.Common.{◌≡◌, ℕ, zero, suc, ◌+◌, ◌≤◌, List, [], ◌∷◌, ◌++◌, length, Option, Some, None, refl, sym, ap, ◌∙◌, subst, subst₂, ⊎_elim, length-append, arith}
use Rattle.pld_base.specs.Channels.{Node, OperatorNode, InputNode, OutputNode, OutPort, Words, words_from, channel_words, Family, read_words, written_words}
use Rattle.pld_base.specs.Prefix.{IsPrefixOf}
use Rattle.pld_base.specs.Events.{words_read, words_written}
use Rattle.pld_base.specs.Process.{Returned, IsExtendedBy, StaysOrReads}
use Rattle.pld_base.proofs.Prefixes.{prefix_refl, prefix_nil, prefix_of_eq, prefix_trans, prefix_length, prefix_whole}
use Rattle.pld_base.proofs.Events.{words_read_grows, words_written_grows, read_one}
use Rattle.pld_base.proofs.Processes.{trace_grows, returned_stays}
use Rattle.pld_base.specs.declared.event.Event.{Event}
use Rattle.pld_base.specs.declared.event.Event.TheVariants.{Read}
use Rattle.pld_kahn.specs.Network.{Network, IsKahnNetwork, sends, process_of}
use Rattle.pld_kahn.specs.Kahn.{iterate, IsWholeStream}
use Rattle.pld_kahn.specs.Rest.{HasEnded, IsAtEmpty, IsAtFull, IsAtRest, Returns, At_empty, At_full, IsRestFamily, NoneAtFull}
use Rattle.pld_kahn.proofs.Hosts.{laws_of, words_written-receives}
use Rattle.pld_kahn.proofs.HostsAtRest.{written_at_first, no_words, output_read}
use Rattle.pld_base.proofs.Histories.{from_same, channels_grow}
use Rattle.pld_kahn.proofs.Iterates.{iterates_grow, reached_below}

module _ (window : ℕ) (net : Network) (laws : IsKahnNetwork net) (g : Family) (rest : IsRestFamily window net g) where
  -- the events of the family, and all that the inputs have to send
  abbrev all_events : Family
  all_events (OperatorNode k) = g (OperatorNode k)
  all_events (InputNode k) = sends (net.feed k)
  all_events (OutputNode k) = g (OutputNode k)

  abbrev all_words : Words
  all_words a p = words_written (all_events a) p

  events_within : (a : Node) → IsPrefixOf (g a) (all_events a)
  events_within (OperatorNode k) = prefix_refl _
  events_within (InputNode k) = (rest.consistent.follows_traces (InputNode k)).1
  events_within (OutputNode k) = prefix_refl _

  written_within : (a : Node) (q : ℕ) → IsPrefixOf (written_words net.wiring g a q) (channel_words net.wiring all_words a q)
  written_within a q = channels_grow net.wiring (λ b. words_written (g b)) all_words (λ b p. words_written_grows p (events_within b)) a q

  reads_within : (a : Node) → IsExtendedBy (words_read (g a)) (channel_words net.wiring all_words a)
  reads_within a q = prefix_trans (rest.consistent.keeps_window.in_order a q) (written_within a q)

  -- the node makes no further event, even with all words
  abbrev IsSettled : Node → Type 0
  IsSettled a = (from : ℕ) × ((n : ℕ) → from ≤ n → (process_of net a (channel_words net.wiring all_words a) n).events ≡ g a)

  returned_settled : (a : Node) → HasEnded net g a Returned → IsSettled a
  returned_settled a r =
      (r.turns, λ n le. returned_stays (process_of net a) (laws_of net laws a) (words_read (g a)) (channel_words net.wiring all_words a) r.turns n (reads_within a) le r.end_is ∙ r.events)

  empty_settled : (a : Node) (q : ℕ) → IsAtEmpty net g a q → channel_words net.wiring all_words a q ≡ words_read (g a) q → IsSettled a
  empty_settled a q s same = (s.starved.turns, stays)
    where
      trace : ℕ → List Event
      trace n = (process_of net a (channel_words net.wiring all_words a) n).events

      no_more : (n w : ℕ) → IsPrefixOf (g a ++ Read (record { 0 = q }) w ∷ []) (trace n) → ⊥
      no_more n w next =
          let order = (laws_of net laws a).reads_in_order (channel_words net.wiring all_words a) n q in
          omega (arith, prefix_length (prefix_trans (words_read_grows q next) order), ap length (read_one (g a) q w), length-append (words_read (g a) q) (w ∷ []), ap length same)

      stays : (n : ℕ) → s.starved.turns ≤ n → trace n ≡ g a
      stays n le =
          let waits = (laws_of net laws a).waits (words_read (g a)) (channel_words net.wiring all_words a) s.starved.turns n q (reads_within a) le s.starved.end_is in
          let waits' = subst (λ es. StaysOrReads es q (trace n)) s.starved.events waits in
          ⊎_elim (λ e. e) (λ next. absurd (no_more n next.0 next.1)) waits'

  module _ (settled : (k : ℕ) → IsSettled (OperatorNode k)) where
    -- no iterate has more words
    iterate_within : (n : ℕ) (a : Node) (p : ℕ) → IsPrefixOf (iterate net n a p) (all_words a p)
    iterate_within zero (OperatorNode k) p = prefix_nil _
    iterate_within zero (InputNode k) p = prefix_refl _
    iterate_within zero (OutputNode k) p = prefix_nil _
    iterate_within (suc n) (OperatorNode k) p =
        let s = settled k in
        let m = n + s.0 in
        let ext = λ (q : ℕ). channels_grow net.wiring (iterate net n) all_words (iterate_within n) (OperatorNode k) q in
        let grown = trace_grows (net.operator k) (laws.processes k) (channel_words net.wiring (iterate net n) (OperatorNode k)) (channel_words net.wiring all_words (OperatorNode k)) n m ext (omega arith) in
        words_written_grows p (prefix_trans grown (prefix_of_eq (s.1 m (omega arith))))
    iterate_within (suc n) (InputNode k) p = prefix_refl _
    iterate_within (suc n) (OutputNode k) p = prefix_trans (prefix_of_eq (words_written-receives (channel_words net.wiring (iterate net n) (OutputNode k) 0) p)) (prefix_nil _)

    -- a channel on which all words were written has its whole stream
    whole : (a : Node) (q : ℕ) → channel_words net.wiring all_words a q ≡ written_words net.wiring g a q → IsWholeStream net a q (written_words net.wiring g a q)
    whole a q same =
        let r = reached_below net laws window g rest.reached in
        record {
          from = r.0;
          equal = λ n le.
              let above = channels_grow net.wiring (iterate net n) all_words (iterate_within n) a q in
              let below = prefix_trans (channels_grow net.wiring (λ b. words_written (g b)) (iterate net r.0) r.1 a q) (channels_grow net.wiring (iterate net r.0) (iterate net n) (iterates_grow net laws n r.0 le) a q) in
              prefix_whole (prefix_trans above (prefix_of_eq same)) (prefix_length below);
        }

  -- an input at rest has sent all its words, or stands at a full port
  module _ (positive : 1 ≤ window) (a : Node) (q : ℕ) (all_read : read_words g a q ≡ written_words net.wiring g a q) where
    not_full_here : (k p : ℕ) → net.wiring a q ≡ Some (record { node = InputNode k; port = 0 }) → IsAtFull window net g (InputNode k) p → ⊥
    not_full_here k p from h =
        let zero_port = written_at_first (net.feed k) (g (InputNode k)) p h.word h.next.rest h.next.joined in
        let joined = h.full.joined ∙ ap (λ n. Some (record { node = InputNode k; port = n })) zero_port in
        let same = laws.point_to_point h.full.reader a h.full.reader_port q (record { node = InputNode k; port = 0 }) joined from in
        let full = subst₂ (λ b r. length (written_words net.wiring g b r) ≡ window + length (read_words g b r)) same.0 same.1 h.full.unread in
        omega (arith, full, positive, ap length all_read)

    sent : (k : ℕ) → net.wiring a q ≡ Some (record { node = InputNode k; port = 0 }) → IsAtRest window net g (InputNode k) → sends (net.feed k) ≡ g (InputNode k)
    sent k from (Returns r) = r.events
    sent k from (At_empty p s) = let e = s.starved.end_is in absurd (let no : ⊥ = cc in no)
    sent k from (At_full p h) = absurd (not_full_here k p from h)

    port_same : (b : Node) (p : ℕ) → net.wiring a q ≡ Some (record { node = b; port = p }) → all_words b p ≡ words_written (g b) p
    port_same (OperatorNode k) p from = refl
    port_same (OutputNode k) p from = refl
    port_same (InputNode k) zero from = ap (λ es. words_written es 0) (sent k from (rest.at_rest (InputNode k)))
    port_same (InputNode k) (suc p) from =
        sym (prefix_whole (words_written_grows (suc p) (events_within (InputNode k))) (omega (arith, ap length (no_words (net.feed k) p))))

    all_written : channel_words net.wiring all_words a q ≡ written_words net.wiring g a q
    all_written = go (net.wiring a q) refl
      where
        go : (o : Option OutPort) → net.wiring a q ≡ o → words_from o all_words ≡ words_from o (λ b. words_written (g b))
        go None from = refl
        go (Some out) from = port_same out.node out.port from

  -- no operator stands at a full port
  module _ (positive : 1 ≤ window) (none_full : NoneAtFull net g) where
    settled_at_stall : (k : ℕ) → IsSettled (OperatorNode k)
    settled_at_stall k =
        ⊎_elim (returned_settled (OperatorNode k)) (λ s. empty_settled (OperatorNode k) s.0 s.1 (all_written positive (OperatorNode k) s.0 s.1.all_read ∙ sym s.1.all_read)) (none_full k)

    pub operator_whole : (a : Node) (q k p : ℕ) → net.wiring a q ≡ Some (record { node = OperatorNode k; port = p }) → IsWholeStream net a q (written_words net.wiring g a q)
    operator_whole a q k p from =
        whole settled_at_stall a q (ap (λ o. words_from o all_words) from ∙ sym (ap (λ o. words_from o (λ b. words_written (g b))) from))

    pub read_whole : (a : Node) (q : ℕ) → read_words g a q ≡ written_words net.wiring g a q → IsWholeStream net a q (read_words g a q)
    read_whole a q all_read =
        subst (IsWholeStream net a q) (sym all_read) (whole settled_at_stall a q (all_written positive a q all_read))

    pub output_whole : (k : ℕ) → IsWholeStream net (OutputNode k) 0 (read_words g (OutputNode k) 0)
    output_whole k = read_whole (OutputNode k) 0 (output_read window net g k (rest.at_rest (OutputNode k)))

  -- everybody but the outputs has returned
  module _ (operators : (k : ℕ) → HasEnded net g (OperatorNode k) Returned) (inputs : (k : ℕ) → HasEnded net g (InputNode k) Returned) where
    sent_all : (b : Node) (p : ℕ) → all_words b p ≡ words_written (g b) p
    sent_all (OperatorNode k) p = refl
    sent_all (InputNode k) p = ap (λ es. words_written es p) (inputs k).events
    sent_all (OutputNode k) p = refl

    pub end_whole : (a : Node) (q : ℕ) → IsWholeStream net a q (written_words net.wiring g a q)
    end_whole a q =
        whole (λ k. returned_settled (OperatorNode k) (operators k)) a q (from_same (net.wiring a q) all_words (λ b. words_written (g b)) sent_all)
