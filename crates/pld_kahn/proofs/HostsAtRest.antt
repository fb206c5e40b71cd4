-- When the host's nodes are at rest.
use Rattle.std.proofs.Common.{◌≡◌, ℕ, suc, List, [], ◌∷◌, ◌++◌, ◌⊎◌, ◌↔◌, length, refl, sym, ap, ◌∙◌, subst, ⊎_elim, inl, inr, append-nil, append_assoc, arith}
use Rattle.std.proofs.Math.Dec.{eqb-zero-suc}
use mathlib.Core.List.{head-eq_of_cons-eq, tail-eq_of_cons-eq}
use Rattle.pld_base.specs.Prefix.{IsPrefixOf}
use Rattle.pld_base.specs.Events.{words_read, words_written}
use Rattle.pld_base.specs.Channels.{InputNode, OutputNode, Family, read_words, written_words, IsFull}
use Rattle.pld_base.specs.declared.event.Event.{Event}
use Rattle.pld_base.specs.declared.event.Event.TheVariants.{Read, Write}
use Rattle.pld_base.proofs.Prefixes.{prefix_whole}
use Rattle.pld_base.proofs.Events.{words_read_length, words_written_length}
use Rattle.pld_kahn.specs.Network.{Network, sends, receives}
use Rattle.pld_kahn.specs.Rest.{FollowsTraces, IsAtRest, Returns, At_empty, At_full}
use Rattle.pld_kahn.proofs.Hosts.{words_written-sends}

abbrev pub port_of : Event → ℕ
port_of (Read p w) = p.0
port_of (Write p w) = p.0

-- an input has no port but the first
pub written_at_first : (words : List ℕ) (es : List Event) (port w : ℕ) (rest : List Event) → (es ++ Write (record { 0 = port }) w ∷ []) ++ rest ≡ sends words → port ≡ 0
written_at_first [] [] port w rest e = cc
written_at_first [] (x ∷ es) port w rest e = cc
written_at_first (v ∷ words) [] port w rest e = ap port_of (head-eq_of_cons-eq e)
written_at_first (v ∷ words) (x ∷ es) port w rest e = written_at_first words es port w rest (tail-eq_of_cons-eq e)

never_writes : (words : List ℕ) (es : List Event) (port w : ℕ) (rest : List Event) → (es ++ Write (record { 0 = port }) w ∷ []) ++ rest ≡ receives words → ⊥
never_writes [] [] port w rest e = cc
never_writes [] (x ∷ es) port w rest e = cc
never_writes (v ∷ words) [] port w rest e = let h = head-eq_of_cons-eq e in cc
never_writes (v ∷ words) (x ∷ es) port w rest e = never_writes words es port w rest (tail-eq_of_cons-eq e)

pub no_words : (words : List ℕ) (port : ℕ) → words_written (sends words) (suc port) ≡ []
no_words [] port = refl
no_words (w ∷ words) port = rw (eqb-zero-suc port) (no_words words port)

length-sends : (words : List ℕ) → length (sends words) ≡ length words
length-sends [] = refl
length-sends (w ∷ words) = ap suc (length-sends words)

length-receives : (words : List ℕ) → length (receives words) ≡ length words
length-receives [] = refl
length-receives (w ∷ words) = ap suc (length-receives words)

-- what an input sends next
next_sent : (words : List ℕ) (es : List Event) (x : Event) (rest : List Event) → es ++ x ∷ rest ≡ sends words → (w : ℕ) × (x ≡ Write (record { 0 = 0 }) w)
next_sent [] [] x rest e = absurd (let no : ⊥ = cc in no)
next_sent [] (y ∷ es) x rest e = absurd (let no : ⊥ = cc in no)
next_sent (w ∷ words) [] x rest e = (w, head-eq_of_cons-eq e)
next_sent (w ∷ words) (y ∷ es) x rest e = next_sent words es x rest (tail-eq_of_cons-eq e)

module _ (window : ℕ) (net : Network) (family : Family) where
  -- an output has read all that was written to it
  pub output_read : (k : ℕ) → IsAtRest window net family (OutputNode k) → read_words family (OutputNode k) 0 ≡ written_words net.wiring family (OutputNode k) 0
  output_read k (Returns r) = let e = r.end_is in absurd (let no : ⊥ = cc in no)
  output_read k (At_empty q s) =
      let e = s.starved.end_is in
      let same : q ≡ 0 = cc in
      subst (λ q. read_words family (OutputNode k) q ≡ written_words net.wiring family (OutputNode k) q) same s.all_read
  output_read k (At_full p h) = absurd (never_writes (words_read (family (OutputNode k)) 0) (family (OutputNode k)) p h.word h.next.rest h.next.joined)

  output_rests : FollowsTraces net family → (k : ℕ) → read_words family (OutputNode k) 0 ≡ written_words net.wiring family (OutputNode k) 0 → IsAtRest window net family (OutputNode k)
  output_rests follows k all_read =
      let whole = prefix_whole (follows (OutputNode k)).1 (omega (arith, length-receives (words_read (family (OutputNode k)) 0), words_read_length (family (OutputNode k)) 0)) in
      At_empty 0 (record { starved = record { turns = 0; events = sym whole; end_is = refl }; all_read = all_read })

  pub output_iff : FollowsTraces net family → (k : ℕ) → IsAtRest window net family (OutputNode k) ↔ (read_words family (OutputNode k) 0 ≡ written_words net.wiring family (OutputNode k) 0)
  output_iff follows k = (output_read k, output_rests follows k)

  input_stands : (k : ℕ) → IsAtRest window net family (InputNode k) → (words_written (family (InputNode k)) 0 ≡ net.feed k) ⊎ IsFull window net.wiring family (InputNode k) 0
  input_stands k (Returns r) = inl (ap (λ es. words_written es 0) (sym r.events) ∙ words_written-sends (net.feed k))
  input_stands k (At_empty p s) = let e = s.starved.end_is in absurd (let no : ⊥ = cc in no)
  input_stands k (At_full p h) =
      let zero_port = written_at_first (net.feed k) (family (InputNode k)) p h.word h.next.rest h.next.joined in
      inr (subst (IsFull window net.wiring family (InputNode k)) zero_port h.full)

  all_sent : FollowsTraces net family → (k : ℕ) → words_written (family (InputNode k)) 0 ≡ net.feed k → sends (net.feed k) ≡ family (InputNode k)
  all_sent follows k sent =
      sym (prefix_whole (follows (InputNode k)).1 (omega (arith, length-sends (net.feed k), words_written_length (family (InputNode k)) 0, ap length sent)))

  full_rests : (k : ℕ) (rest : List Event) → family (InputNode k) ++ rest ≡ sends (net.feed k) → IsFull window net.wiring family (InputNode k) 0 → IsAtRest window net family (InputNode k)
  full_rests k [] joined full = Returns (record { turns = 0; events = sym joined ∙ append-nil (family (InputNode k)); end_is = refl })
  full_rests k (x ∷ rest) joined full =
      let next = next_sent (net.feed k) (family (InputNode k)) x rest joined in
      let begins : IsPrefixOf (family (InputNode k) ++ x ∷ []) (sends (net.feed k)) = record { rest = rest; joined = append_assoc (family (InputNode k)) (x ∷ []) rest ∙ joined } in
      At_full 0 (record { turns = 0; word = next.0; next = subst (λ y. IsPrefixOf (family (InputNode k) ++ y ∷ []) (sends (net.feed k))) next.1 begins; full = full })

  pub input_iff : FollowsTraces net family → (k : ℕ) → IsAtRest window net family (InputNode k) ↔ ((words_written (family (InputNode k)) 0 ≡ net.feed k) ⊎ IsFull window net.wiring family (InputNode k) 0)
  input_iff follows k =
      (input_stands k, λ stands. ⊎_elim (λ sent. Returns (record { turns = 0; events = all_sent follows k sent; end_is = refl })) (full_rests k (follows (InputNode k)).1.rest (follows (InputNode k)).1.joined) stands)
