-- One more event of one node, and what it changes of the words read and written.
use Rattle.std.proofs.Common.{◌≡◌, ℕ, ◌+◌, ◌≤◌, ◌<◌, ◌⊎◌, ◌==◌, List, [], ◌∷◌, ◌++◌, length, Bool, true, false, Option, Some, None, if◌then◌else◌, refl, sym, ap, ap₂, ◌∙◌, subst, subst₂, ⊎_elim, inl, inr, append-nil, length-append, eqb-true, eq-eqb, ne_eqb, arith}
use Rattle.std.proofs.lemmas.Bool.{eqb-false}
use Rattle.pld_base.specs.Channels.{Node, OperatorNode, InputNode, OutputNode, OutPort, Wiring, Words, words_from, channel_words, Family, written_words, KeepsWindow, NodeEvent, same_node, family_of}
use Rattle.pld_base.specs.Prefix.{IsPrefixOf}
use Rattle.pld_base.specs.Events.{words_read, words_written}
use Rattle.pld_base.proofs.Prefixes.{prefix_refl, prefix_nil, prefix_more, prefix_of_eq, prefix_trans}
use Rattle.pld_base.proofs.Events.{words_read-append, words_written-append, words_written_grows, read_one, written_one}
use Rattle.pld_base.specs.declared.event.Event.{Event}
use Rattle.pld_base.specs.declared.event.Event.TheVariants.{Read, Write}

pub same_node_is : (a b : Node) → same_node a b ≡ true → a ≡ b
same_node_is (OperatorNode k) (OperatorNode l) e = ap OperatorNode (eqb-true k l e)
same_node_is (InputNode k) (InputNode l) e = ap InputNode (eqb-true k l e)
same_node_is (OutputNode k) (OutputNode l) e = ap OutputNode (eqb-true k l e)
same_node_is (OperatorNode k) (InputNode l) e = cc
same_node_is (OperatorNode k) (OutputNode l) e = cc
same_node_is (InputNode k) (OperatorNode l) e = cc
same_node_is (InputNode k) (OutputNode l) e = cc
same_node_is (OutputNode k) (OperatorNode l) e = cc
same_node_is (OutputNode k) (InputNode l) e = cc

pub same_node_refl : (a : Node) → same_node a a ≡ true
same_node_refl (OperatorNode k) = eq-eqb k k refl
same_node_refl (InputNode k) = eq-eqb k k refl
same_node_refl (OutputNode k) = eq-eqb k k refl

-- a list of events, and maybe one more
abbrev pub with_event : Bool → List Event → Event → List Event
with_event t es e = if t then es ++ e ∷ [] else es

-- a read writes nothing, and a write reads nothing
written_after_read : (t : Bool) (es : List Event) (p w q : ℕ) → words_written (with_event t es (Read (record { 0 = p }) w)) q ≡ words_written es q
written_after_read true es p w q = words_written-append es (Read (record { 0 = p }) w ∷ []) q ∙ append-nil (words_written es q)
written_after_read false es p w q = refl

read_after_write : (t : Bool) (es : List Event) (p w q : ℕ) → words_read (with_event t es (Write (record { 0 = p }) w)) q ≡ words_read es q
read_after_write true es p w q = words_read-append es (Write (record { 0 = p }) w ∷ []) q ∙ append-nil (words_read es q)
read_after_write false es p w q = refl

-- what holds of the words at the out-ports holds on the channels
pub from_grows : (o : Option OutPort) (u v : Words) → ((a : Node) (p : ℕ) → IsPrefixOf (u a p) (v a p)) → IsPrefixOf (words_from o u) (words_from o v)
from_grows None u v h = prefix_nil []
from_grows (Some out) u v h = h out.node out.port

pub from_same : (o : Option OutPort) (u v : Words) → ((a : Node) (p : ℕ) → u a p ≡ v a p) → words_from o u ≡ words_from o v
from_same None u v h = refl
from_same (Some out) u v h = h out.node out.port

pub channels_grow : (wiring : Wiring) (u v : Words) → ((a : Node) (p : ℕ) → IsPrefixOf (u a p) (v a p)) → (a : Node) (p : ℕ) → IsPrefixOf (channel_words wiring u a p) (channel_words wiring v a p)
channels_grow wiring u v h a p = from_grows (wiring a p) u v h

pub goes_on : (t : Bool) (es : List Event) (e : Event) → IsPrefixOf es (with_event t es e)
goes_on true es e = prefix_more es (e ∷ [])
goes_on false es e = prefix_refl es

module _ (before : List NodeEvent) (a : Node) (e : Event) where
  -- the family after the event
  abbrev pub after : Family
  after = family_of (record { node = a; event = e } ∷ before)

  pub after_here : after a ≡ family_of before a ++ e ∷ []
  after_here = ap (λ t. with_event t (family_of before a) e) (same_node_refl a)

  pub written_same : (p w : ℕ) → e ≡ Read (record { 0 = p }) w → (b : Node) (q : ℕ) → words_written (after b) q ≡ words_written (family_of before b) q
  written_same p w is b q =
      subst (λ x. words_written (with_event (same_node a b) (family_of before b) x) q ≡ words_written (family_of before b) q) (sym is) (written_after_read (same_node a b) (family_of before b) p w q)

  pub read_same : (p w : ℕ) → e ≡ Write (record { 0 = p }) w → (b : Node) (q : ℕ) → words_read (after b) q ≡ words_read (family_of before b) q
  read_same p w is b q =
      subst (λ x. words_read (with_event (same_node a b) (family_of before b) x) q ≡ words_read (family_of before b) q) (sym is) (read_after_write (same_node a b) (family_of before b) p w q)

-- a write at one port adds nothing at another
pub written_elsewhere : (es : List Event) (p w q : ℕ) → (p ≡ q → ⊥) → words_written (es ++ Write (record { 0 = p }) w ∷ []) q ≡ words_written es q
written_elsewhere es p w q apart =
    words_written-append es (Write (record { 0 = p }) w ∷ []) q ∙ ap (λ t. words_written es q ++ (if t then w ∷ [] else [])) (ne_eqb p q apart) ∙ append-nil (words_written es q)

pub read_elsewhere : (es : List Event) (p w q : ℕ) → (p ≡ q → ⊥) → words_read (es ++ Read (record { 0 = p }) w ∷ []) q ≡ words_read es q
read_elsewhere es p w q apart =
    words_read-append es (Read (record { 0 = p }) w ∷ []) q ∙ ap (λ t. words_read es q ++ (if t then w ∷ [] else [])) (ne_eqb p q apart) ∙ append-nil (words_read es q)

-- the one port at which words are added, or any other
pub one_more_written : (t : Bool) (es : List Event) (p w q : ℕ) → (words_written (with_event t es (Write (record { 0 = p }) w)) q ≡ words_written es q) ⊎ ((t ≡ true) × (p ≡ q) × (words_written (with_event t es (Write (record { 0 = p }) w)) q ≡ words_written es q ++ w ∷ []))
one_more_written false es p w q = inl refl
one_more_written true es p w q = go (p == q) refl
  where
    go : (t : Bool) → (p == q) ≡ t → (words_written (es ++ Write (record { 0 = p }) w ∷ []) q ≡ words_written es q) ⊎ ((true ≡ true) × (p ≡ q) × (words_written (es ++ Write (record { 0 = p }) w ∷ []) q ≡ words_written es q ++ w ∷ []))
    go true h = let same = eqb-true p q h in inr (refl, same, subst (λ r. words_written (es ++ Write (record { 0 = p }) w ∷ []) r ≡ words_written es r ++ w ∷ []) same (written_one es p w))
    go false h = inl (written_elsewhere es p w q (eqb-false p q h))

pub one_more_read : (t : Bool) (es : List Event) (p w q : ℕ) → (words_read (with_event t es (Read (record { 0 = p }) w)) q ≡ words_read es q) ⊎ ((t ≡ true) × (p ≡ q) × (words_read (with_event t es (Read (record { 0 = p }) w)) q ≡ words_read es q ++ w ∷ []))
one_more_read false es p w q = inl refl
one_more_read true es p w q = go (p == q) refl
  where
    go : (t : Bool) → (p == q) ≡ t → (words_read (es ++ Read (record { 0 = p }) w ∷ []) q ≡ words_read es q) ⊎ ((true ≡ true) × (p ≡ q) × (words_read (es ++ Read (record { 0 = p }) w ∷ []) q ≡ words_read es q ++ w ∷ []))
    go true h = let same = eqb-true p q h in inr (refl, same, subst (λ r. words_read (es ++ Read (record { 0 = p }) w ∷ []) r ≡ words_read es r ++ w ∷ []) same (read_one es p w))
    go false h = inl (read_elsewhere es p w q (eqb-false p q h))

module _ (window : ℕ) (wiring : Wiring) (before : List NodeEvent) (keeps : KeepsWindow window wiring (family_of before)) (a : Node) (p w : ℕ) where
  -- a read of the next unread word keeps the window
  module _ (next : IsPrefixOf (words_read (family_of before a) p ++ w ∷ []) (written_words wiring (family_of before) a p)) where
    abbrev after_read : Family
    after_read = after before a (Read (record { 0 = p }) w)

    written_as_before : (b : Node) (q : ℕ) → written_words wiring after_read b q ≡ written_words wiring (family_of before) b q
    written_as_before b q =
        from_same (wiring b q) (λ c. words_written (after_read c)) (λ c. words_written (family_of before c)) (written_same before a (Read (record { 0 = p }) w) p w refl)

    read_in_order : (b : Node) (q : ℕ) → IsPrefixOf (words_read (after_read b) q) (written_words wiring after_read b q)
    read_in_order b q =
        prefix_trans (⊎_elim old new (one_more_read (same_node a b) (family_of before b) p w q)) (prefix_of_eq (sym (written_as_before b q)))
      where
        old : words_read (after_read b) q ≡ words_read (family_of before b) q → IsPrefixOf (words_read (after_read b) q) (written_words wiring (family_of before) b q)
        old e = prefix_trans (prefix_of_eq e) (keeps.in_order b q)

        new : (same_node a b ≡ true) × (p ≡ q) × (words_read (after_read b) q ≡ words_read (family_of before b) q ++ w ∷ []) → IsPrefixOf (words_read (after_read b) q) (written_words wiring (family_of before) b q)
        new e =
            let here = subst₂ (λ c r. IsPrefixOf (words_read (family_of before c) r ++ w ∷ []) (written_words wiring (family_of before) c r)) (same_node_is a b e.0) e.1 next in
            prefix_trans (prefix_of_eq e.2) here

    read_within : (b : Node) (q : ℕ) → length (written_words wiring after_read b q) ≤ window + length (words_read (after_read b) q)
    read_within b q =
        ⊎_elim (λ e. omega (arith, keeps.within b q, ap length e, ap length (written_as_before b q))) (λ e. omega (arith, keeps.within b q, ap length e.2, length-append (words_read (family_of before b) q) (w ∷ []), ap length (written_as_before b q))) (one_more_read (same_node a b) (family_of before b) p w q)

    pub read_keeps_window : KeepsWindow window wiring after_read
    read_keeps_window = record { in_order = read_in_order; within = read_within }

  -- a write to a channel that isn't full keeps the window
  module _ (room : (b : Node) (q : ℕ) → wiring b q ≡ Some (record { node = a; port = p }) → length (written_words wiring (family_of before) b q) < window + length (words_read (family_of before b) q)) where
    abbrev after_write : Family
    after_write = after before a (Write (record { 0 = p }) w)

    read_as_before : (b : Node) (q : ℕ) → words_read (after_write b) q ≡ words_read (family_of before b) q
    read_as_before b q = read_same before a (Write (record { 0 = p }) w) p w refl b q

    written_grown : (b : Node) (q : ℕ) → IsPrefixOf (written_words wiring (family_of before) b q) (written_words wiring after_write b q)
    written_grown b q =
        channels_grow wiring (λ c. words_written (family_of before c)) (λ c. words_written (after_write c)) (λ c r. words_written_grows r (goes_on (same_node a c) (family_of before c) (Write (record { 0 = p }) w))) b q

    write_within : (b : Node) (q : ℕ) → length (written_words wiring after_write b q) ≤ window + length (words_read (after_write b) q)
    write_within b q = go (wiring b q) refl
      where
        go : (o : Option OutPort) → wiring b q ≡ o → length (words_from o (λ c. words_written (after_write c))) ≤ window + length (words_read (after_write b) q)
        go None is = omega arith
        go (Some out) is =
            let bound : length (words_written (family_of before out.node) out.port) ≤ window + length (words_read (family_of before b) q) = subst (λ o. length (words_from o (λ c. words_written (family_of before c))) ≤ window + length (words_read (family_of before b) q)) is (keeps.within b q) in
            ⊎_elim
            (λ e. omega (arith, bound, ap length e, ap length (read_as_before b q)))
            (λ e.
            let from = is ∙ ap₂ (λ c r. Some (record { node = c; port = r })) (sym (same_node_is a out.node e.0)) (sym e.1) in
            let free = room b q from in
            let at : written_words wiring (family_of before) b q ≡ words_written (family_of before out.node) out.port = ap (λ o. words_from o (λ c. words_written (family_of before c))) is in
            omega (arith, free, ap length at, ap length e.2, length-append (words_written (family_of before out.node) out.port) (w ∷ []), ap length (read_as_before b q)))
            (one_more_written (same_node a out.node) (family_of before out.node) p w out.port)

    pub write_keeps_window : KeepsWindow window wiring after_write
    write_keeps_window =
        record { in_order = λ b q. prefix_trans (prefix_of_eq (read_as_before b q)) (prefix_trans (keeps.in_order b q) (written_grown b q)); within = write_within }
