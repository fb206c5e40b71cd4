-- What holds of the images' network holds of the operators'.
use Rattle.std.proofs.Common.{◌≡◌, ℕ, zero, suc, List, [], ◌∷◌, ◌++◌, Option, Some, None, refl, sym, ap, ◌∙◌, subst}
use Rattle.std.specs.List.{All}
use Rattle.std.proofs.lemmas.List.Elements.{All-cons, All-head, All-tail, All-nil}
use mathlib.Core.List.{head-eq_of_cons-eq, tail-eq_of_cons-eq}
use Rattle.pld_base.specs.Words.{IsWord}
use Rattle.pld_base.specs.Prefix.{IsPrefixOf}
use Rattle.pld_base.specs.Events.{words_read, words_written}
use Rattle.pld_base.specs.Process.{Returned, Starved, Inputs, AreWords}
use Rattle.pld_base.specs.declared.event.Event.{Event}
use Rattle.pld_base.specs.declared.event.Event.TheVariants.{Read, Write}
use Rattle.pld_base.specs.Channels.{Node, OperatorNode, InputNode, OutputNode, OutPort, Wiring, Words, Family, NodeEvent, words_from, written_words, read_words, KeepsWindow, IsFull, family_of, AfterEach}
use Rattle.pld_base.proofs.Prefixes.{prefix_of_eq, prefix_trans}
use Rattle.pld_base.proofs.Events.{words_written_grows}
use Rattle.pld_base.proofs.Histories.{from_same, written_same, read_same}
use Rattle.pld_kahn.specs.Network.{Network, IsKahnNetwork, process_of, sends}
use Rattle.pld_kahn.specs.Rest.{FollowsTraces, IsConsistent, IsReached, HasEnded, IsAtEmpty, IsAtFull, IsAtRest, Returns, At_empty, At_full, own_trace}
use Rattle.pld_kahn.proofs.Reached.{history_consistent, reached_consistent, each_follows}
use Rattle.pld_kahn.proofs.Hosts.{words_written-sends, words_written-receives}
use Rattle.pld_kahn.proofs.HostsAtRest.{no_words}
use Rattle.fabric_ends.specs.Carrying.{IsCarried}

pub All_prefix : (P : ℕ → Type 0) (xs ys : List ℕ) → IsPrefixOf xs ys → All P ys → All P xs
All_prefix P [] ys p all = All-nil P
All_prefix P (x ∷ xs) [] p all = let e = p.joined in absurd (let no : ⊥ = cc in no)
All_prefix P (x ∷ xs) (y ∷ ys) p all =
    All-cons P x xs (subst P (sym (head-eq_of_cons-eq p.joined)) (All-head P y ys all)) (All_prefix P xs ys (record { rest = p.rest; joined = tail-eq_of_cons-eq p.joined }) (All-tail P y ys all))

abbrev WordsAt : Words → Type 0
WordsAt words = (node : Node) (port : ℕ) → All IsWord (words node port)

from_words : (o : Option OutPort) (words : Words) → WordsAt words → All IsWord (words_from o words)
from_words None words h = All-nil IsWord
from_words (Some out) words h = h out.node out.port

sends_words : (feed : List ℕ) (port : ℕ) → All IsWord feed → All IsWord (words_written (sends feed) port)
sends_words feed zero h = subst (All IsWord) (sym (words_written-sends feed)) h
sends_words feed (suc p) h = subst (All IsWord) (sym (no_words feed p)) (All-nil IsWord)

module _ (window : ℕ) (images operators : Network) (carried : IsCarried images operators) where
  writes : (node : Node) (ins : Inputs) → AreWords ins → (turns port : ℕ) → All IsWord (words_written (process_of images node ins turns).events port)
  writes (OperatorNode k) ins h turns port = carried.write k ins h turns port
  writes (InputNode k) ins h turns port = sends_words (images.feed k) port (carried.words k)
  writes (OutputNode k) ins h turns port = subst (All IsWord) (sym (words_written-receives (ins 0) port)) (All-nil IsWord)

  -- the words that nodes read are words, once those that were written are
  written_of : (fam : Family) → IsConsistent window images fam → WordsAt (read_words fam) → WordsAt (λ node. words_written (fam node))
  written_of fam c h node port =
      let f = c.follows_traces node in
      All_prefix IsWord (words_written (fam node) port) (words_written (own_trace images fam node f.0).events port) (words_written_grows port f.1) (writes node (words_read (fam node)) (h node) f.0 port)

  after_event : (before : List NodeEvent) (node : Node) (event : Event) → IsConsistent window images (family_of before) → IsConsistent window images (family_of (record { node = node; event = event } ∷ before))
      → WordsAt (λ n. words_written (family_of before n)) → WordsAt (read_words (family_of (record { node = node; event = event } ∷ before)))
  after_event before node (Read p w) c d h n q =
      let fam : Family = family_of (record { node = node; event = Read p w } ∷ before) in
      let same : written_words images.wiring fam n q ≡ written_words images.wiring (family_of before) n q = from_same (images.wiring n q) (λ x. words_written (fam x)) (λ x. words_written (family_of before x)) (written_same before node (Read p w) p.0 w refl) in
      All_prefix IsWord (words_read (fam n) q) (written_words images.wiring (family_of before) n q) (prefix_trans (d.keeps_window.in_order n q) (prefix_of_eq same)) (from_words (images.wiring n q) (λ x. words_written (family_of before x)) h)
  after_event before node (Write p w) c d h n q =
      let fam : Family = family_of (record { node = node; event = Write p w } ∷ before) in
      let same : words_read (fam n) q ≡ words_read (family_of before n) q = read_same before node (Write p w) p.0 w refl n q in
      All_prefix IsWord (words_read (fam n) q) (written_words images.wiring (family_of before) n q) (prefix_trans (prefix_of_eq same) (c.keeps_window.in_order n q)) (from_words (images.wiring n q) (λ x. words_written (family_of before x)) h)

  pub history_words : (history : List NodeEvent) → AfterEach (IsConsistent window images) history → WordsAt (λ node. words_written (family_of history node))
  history_words [] h = λ node port. All-nil IsWord
  history_words (e ∷ es) h =
      written_of (family_of (e ∷ es)) h.1 (after_event es e.node e.event (history_consistent window images es h.0) h.1 (history_words es h.0))

  -- the words that each node has read
  pub reads_words : (fam : Family) → IsReached window images fam → (node : Node) → AreWords (words_read (fam node))
  reads_words fam r node port =
      let c = reached_consistent window images fam r in
      let w : WordsAt (λ n. words_written (fam n)) = subst (λ (f : Family). WordsAt (λ n. words_written (f n))) r.ends_here (history_words r.history r.each_consistent) in
      All_prefix IsWord (words_read (fam node) port) (written_words images.wiring fam node port) (c.keeps_window.in_order node port) (from_words (images.wiring node port) (λ n. words_written (fam n)) w)

  module _ (kahn : IsKahnNetwork operators) (fam : Family) (reached : IsReached window images fam) where
    pub carried_traces : FollowsTraces operators fam
    carried_traces (OperatorNode k) =
        let f = (reached_consistent window images fam reached).follows_traces (OperatorNode k) in
        let w = (carried.realise k).within (words_read (fam (OperatorNode k))) (reads_words fam reached (OperatorNode k)) f.0 in
        (w.0, prefix_trans f.1 w.1)
    carried_traces (InputNode k) =
        let f = (reached_consistent window images fam reached).follows_traces (InputNode k) in
        (f.0, subst (λ (feed : ℕ → List ℕ). IsPrefixOf (fam (InputNode k)) (sends (feed k))) carried.feed f.1)
    carried_traces (OutputNode k) = (reached_consistent window images fam reached).follows_traces (OutputNode k)

    pub carried_window : KeepsWindow window operators.wiring fam
    carried_window = subst (λ (w : Wiring). KeepsWindow window w fam) carried.wiring (reached_consistent window images fam reached).keeps_window

  -- of a history that ends with this family
  module _ (kahn : IsKahnNetwork operators) (history : List NodeEvent) (each : AfterEach (IsConsistent window images) history) where
    abbrev end : Family
    end = family_of history

    abbrev reached : IsReached window images end
    reached = record { history = history; each_consistent = each; ends_here = refl }

    windows : (es : List NodeEvent) → AfterEach (IsConsistent window images) es → AfterEach (KeepsWindow window operators.wiring) es
    windows [] h = tt
    windows (e ∷ es) h = (windows es h.0, subst (λ (w : Wiring). KeepsWindow window w (family_of (e ∷ es))) carried.wiring h.1.keeps_window)

    pub carried_reached : IsReached window operators end
    carried_reached = record { history = history; each_consistent = each_follows window operators kahn history (windows history each) (carried_traces kahn end reached); ends_here = refl }

    pub has_returned : (k : ℕ) → HasEnded images end (OperatorNode k) Returned → HasEnded operators end (OperatorNode k) Returned
    has_returned k h =
        let c = ((carried.realise k).returns (words_read (end (OperatorNode k))) (reads_words end reached (OperatorNode k)) (end (OperatorNode k))).0 (h.turns, h.events, h.end_is) in
        record { turns = c.0; events = c.1; end_is = c.2 }

    pub is_starved : (k port : ℕ) → HasEnded images end (OperatorNode k) (Starved port) → HasEnded operators end (OperatorNode k) (Starved port)
    is_starved k port h =
        let c = ((carried.realise k).starves (words_read (end (OperatorNode k))) (reads_words end reached (OperatorNode k)) (end (OperatorNode k)) port).0 (h.turns, h.events, h.end_is) in
        record { turns = c.0; events = c.1; end_is = c.2 }

    pub at_empty : (k port : ℕ) → IsAtEmpty images end (OperatorNode k) port → IsAtEmpty operators end (OperatorNode k) port
    at_empty k port h = record {
      starved = is_starved k port h.starved;
      all_read = subst (λ (w : Wiring). read_words end (OperatorNode k) port ≡ written_words w end (OperatorNode k) port) carried.wiring h.all_read;
    }

    pub at_full : (k port : ℕ) → IsAtFull window images end (OperatorNode k) port → IsAtFull window operators end (OperatorNode k) port
    at_full k port h =
        let w = (carried.realise k).within (words_read (end (OperatorNode k))) (reads_words end reached (OperatorNode k)) h.turns in
        record {
          turns = w.0;
          word = h.word;
          next = prefix_trans h.next w.1;
          full = subst (λ (x : Wiring). IsFull window x end (OperatorNode k) port) carried.wiring h.full;
        }

    input_process : (k : ℕ) (ins : Inputs) (turns : ℕ) → process_of images (InputNode k) ins turns ≡ process_of operators (InputNode k) ins turns
    input_process k ins turns = ap (λ (feed : ℕ → List ℕ). process_of (record images { feed = feed }) (InputNode k) ins turns) carried.feed

    pub node_at_rest : (node : Node) → IsAtRest window images end node → IsAtRest window operators end node
    node_at_rest (OperatorNode k) (Returns h) = Returns (has_returned k h)
    node_at_rest (OperatorNode k) (At_empty port h) = At_empty port (at_empty k port h)
    node_at_rest (OperatorNode k) (At_full port h) = At_full port (at_full k port h)
    node_at_rest (InputNode k) h =
        let one : IsAtRest window (record images { feed = operators.feed }) end (InputNode k) = subst (λ (feed : ℕ → List ℕ). IsAtRest window (record images { feed = feed }) end (InputNode k)) carried.feed h in
        let two : IsAtRest window (record images { feed = operators.feed; wiring = operators.wiring }) end (InputNode k) = subst (λ (w : Wiring). IsAtRest window (record images { feed = operators.feed; wiring = w }) end (InputNode k)) carried.wiring one in
        host_rest (InputNode k) (λ ins turns. refl) two
      where
        host_rest : (node : Node) → ((ins : Inputs) (turns : ℕ) → process_of (record images { feed = operators.feed; wiring = operators.wiring }) node ins turns ≡ process_of operators node ins turns)
            → IsAtRest window (record images { feed = operators.feed; wiring = operators.wiring }) end node → IsAtRest window operators end node
        host_rest node same (Returns h) = Returns (record { turns = h.turns; events = ap (λ t. t.events) (sym (same _ _)) ∙ h.events; end_is = ap (λ t. t.end) (sym (same _ _)) ∙ h.end_is })
        host_rest node same (At_empty port h) = At_empty port (record { starved = record { turns = h.starved.turns; events = ap (λ t. t.events) (sym (same _ _)) ∙ h.starved.events; end_is = ap (λ t. t.end) (sym (same _ _)) ∙ h.starved.end_is }; all_read = h.all_read })
        host_rest node same (At_full port h) = At_full port (record { turns = h.turns; word = h.word; next = subst (λ t. IsPrefixOf (end node ++ Write (record { 0 = port }) h.word ∷ []) t.events) (same _ _) h.next; full = h.full })
    node_at_rest (OutputNode k) h = subst (λ (w : Wiring). IsAtRest window (record operators { wiring = w }) end (OutputNode k)) carried.wiring (out_rest h)
      where
        out_rest : IsAtRest window images end (OutputNode k) → IsAtRest window (record operators { wiring = images.wiring }) end (OutputNode k)
        out_rest (Returns h) = Returns (record { turns = h.turns; events = h.events; end_is = h.end_is })
        out_rest (At_empty port h) = At_empty port (record { starved = record { turns = h.starved.turns; events = h.starved.events; end_is = h.starved.end_is }; all_read = h.all_read })
        out_rest (At_full port h) = At_full port (record { turns = h.turns; word = h.word; next = h.next; full = h.full })
