-- An operator's traces are those of a process with blocking reads.
use Rattle.std.proofs.Common.{◌≡◌, ◌≢◌, ℕ, ◌≤◌, List, [], ◌∷◌, ◌++◌, ◌⊎◌, inl, inr, refl, sym, ap, subst, le_refl, append-nil}
use std.Path.{fun_ext}
use Rattle.pld_base.specs.Lists.{port}
use Rattle.pld_base.specs.Prefix.{IsPrefixOf}
use Rattle.pld_base.specs.Events.{words_read}
use Rattle.pld_base.specs.Process.{Returned, Starved, Cut, Inputs, IsExtendedBy, StaysOrReads, IsProcess}
use Rattle.pld_base.proofs.Prefixes.{prefix_trans, prefix_more, prefix_of_eq}
use Rattle.pld_base.specs.declared.event.Event.{Event}
use Rattle.pld_base.specs.declared.event.Event.TheVariants.{Read as ReadEvent}
use Rattle.pld_ast.specs.Program.{Program}
use Rattle.pld_ast.specs.Meaning.{Outcome, Goes, Over, meaning, trace_of, start, trace}
use Rattle.pld_ast.proofs.Grows.{events_of, Grows, grows}
use Rattle.pld_ast.proofs.ReadLaws.{Reads, first_words, reads}

trace_events : (o : Outcome) → events_of o ≡ (trace_of o).events
trace_events (Goes st) = refl
trace_events (Over e events) = refl

module _ (n m : ℕ) (x : ℕ → List ℕ) where
  extends_trace : (o o' : Outcome) → Grows n m x o o' → IsPrefixOf (trace_of o).events (trace_of o').events
  extends_trace (Goes st) o' h = prefix_of_eq (sym (ap (λ r. (trace_of r).events) h))
  extends_trace (Over Returned events) o' h = prefix_of_eq (sym (ap (λ r. (trace_of r).events) h))
  extends_trace (Over (Starved p) events) o' h = elim h.1 [
    | inl e ↦ prefix_of_eq (sym (ap (λ r. (trace_of r).events) e))
    | inr k ↦ subst (IsPrefixOf events) (trace_events o') (prefix_trans (prefix_more events _) k.1)
  ]
  extends_trace (Over Cut events) o' h = subst (IsPrefixOf events) (trace_events o') h.0

  -- with no more words, a trace that isn't cut stays
  same_words : ((p : ℕ) → x p ≡ []) → (o o' : Outcome) → Grows n m x o o' → (trace_of o).end ≢ Cut → trace_of o' ≡ trace_of o
  same_words none (Goes st) o' h uncut = ap trace_of h
  same_words none (Over Returned events) o' h uncut = ap trace_of h
  same_words none (Over (Starved p) events) o' h uncut = ap trace_of (h.0 (none p))
  same_words none (Over Cut events) o' h uncut = absurd (uncut refl)

  -- with as many turns, a trace that isn't starved stays
  same_turns : n ≡ m → (o o' : Outcome) → Grows n m x o o' → ((p : ℕ) → (trace_of o).end ≢ Starved p) → trace_of o' ≡ trace_of o
  same_turns e (Goes st) o' h fed = ap trace_of h
  same_turns e (Over Returned events) o' h fed = ap trace_of h
  same_turns e (Over (Starved p) events) o' h fed = absurd (fed p refl)
  same_turns e (Over Cut events) o' h fed = ap trace_of (h.1 e)

  starved_waits : (q : ℕ) (events : List Event) (o' : Outcome) → (o' ≡ Over (Starved q) events) ⊎ ((w : ℕ) × IsPrefixOf (events ++ ReadEvent (port q) w ∷ []) (events_of o')) → StaysOrReads events q (trace_of o').events
  starved_waits q events o' (inl e) = inl (ap (λ r. (trace_of r).events) e)
  starved_waits q events o' (inr k) = inr (k.0, subst (λ l. IsPrefixOf (events ++ ReadEvent (port q) k.0 ∷ []) l) (trace_events o') k.1)

  waits_trace : (o o' : Outcome) (p : ℕ) → Grows n m x o o' → (trace_of o).end ≡ Starved p → StaysOrReads (trace_of o).events p (trace_of o').events
  waits_trace (Goes st) o' p h e = cc
  waits_trace (Over Returned events) o' p h e = cc
  waits_trace (Over (Starved q) events) o' p h e =
      let same : q ≡ p = cc in
      subst (λ r. StaysOrReads events r (trace_of o').events) same (starved_waits q events o' h.1)
  waits_trace (Over Cut events) o' p h e = cc

-- the words that are read
reads_first : (ins : Inputs) (o : Outcome) → Reads ins o → (p : ℕ) → IsPrefixOf (words_read (trace_of o).events p) (ins p)
reads_first ins (Goes st) h p = first_words ins st h p
reads_first ins (Over Returned events) h p = h p
reads_first ins (Over (Starved q) events) h p = h.0 p
reads_first ins (Over Cut events) h p = h p

reads_whole : (ins : Inputs) (o : Outcome) (p : ℕ) → Reads ins o → (trace_of o).end ≡ Starved p → words_read (trace_of o).events p ≡ ins p
reads_whole ins (Goes st) p h e = cc
reads_whole ins (Over Returned events) p h e = cc
reads_whole ins (Over (Starved q) events) p h e = let same : q ≡ p = cc in subst (λ r. words_read events r ≡ ins r) same h.1
reads_whole ins (Over Cut events) p h e = cc

module _ (g : Program) where
  abbrev run : Inputs → ℕ → Outcome
  run ins n = meaning g.lengths g.body n (start ins)

  -- longer lists, as the old ones and what follows them
  longer : (ins ins' : Inputs) (n m : ℕ) → n ≤ m → (pre : IsExtendedBy ins ins') → Grows n m (λ p. (pre p).rest) (run ins n) (run ins' m)
  longer ins ins' n m le pre =
      let x : ℕ → List ℕ = λ p. (pre p).rest in
      let same : (λ p. ins p ++ x p) ≡ ins' = fun_ext (λ p. (pre p).joined) in
      subst (λ l. Grows n m x (meaning g.lengths g.body n (start ins)) (meaning g.lengths g.body m (start l))) same (grows n m x g.lengths le g.body (start ins))

  abbrev none_more : (ins : Inputs) → IsExtendedBy ins ins
  none_more ins p = record { rest = []; joined = append-nil (ins p) }

  pub is_process : IsProcess (trace g)
  is_process = record {
    more_turns = λ ins n m le. extends_trace n m (λ p. []) (run ins n) (run ins m) (longer ins ins n m le (none_more ins));
    uncut = λ ins n m le. same_words n m (λ p. []) (λ p. refl) (run ins n) (run ins m) (longer ins ins n m le (none_more ins));
    more_words = λ ins ins' n pre. extends_trace n n (λ p. (pre p).rest) (run ins n) (run ins' n) (longer ins ins' n n (le_refl n) pre);
    unstarved = λ ins ins' n pre. same_turns n n (λ p. (pre p).rest) refl (run ins n) (run ins' n) (longer ins ins' n n (le_refl n) pre);
    reads_in_order = λ ins n p. reads_first ins (run ins n) (reads ins g.lengths g.body n (start ins) (λ q. refl)) p;
    reads_all = λ ins n p e. reads_whole ins (run ins n) p (reads ins g.lengths g.body n (start ins) (λ q. refl)) e;
    waits = λ ins ins' n m p pre le e. waits_trace n m (λ q. (pre q).rest) (run ins n) (run ins' m) p (longer ins ins' n m le pre) e;
  }
