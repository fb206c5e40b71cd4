-- What follows from the laws of a process.
use Rattle.std.proofs.Common.{◌≡◌, ℕ, ◌≤◌, List, [], ◌∷◌, ◌++◌, length, refl, sym, ap, ◌∙◌, subst, ⊎_elim, append-nil, append_assoc, length-append, le_refl, arith}
use Rattle.pld_base.specs.Prefix.{IsPrefixOf}
use Rattle.pld_base.specs.Events.{words_read}
use Rattle.pld_base.specs.Process.{TraceEnd, Returned, Starved, Cut, Trace, Process, Inputs, IsExtendedBy, IsProcess, idle}
use Rattle.pld_base.proofs.Prefixes.{prefix_refl, prefix_nil, prefix_of_eq, prefix_trans, prefix_length, same_next, comparable}
use Rattle.pld_base.proofs.Events.{words_read_grows, read_one}
use Rattle.pld_base.specs.declared.event.Event.{Event}
use Rattle.pld_base.specs.declared.event.Event.TheVariants.{Read}

module _ (trace : Process) (laws : IsProcess trace) where
  -- more turns and more words extend a trace
  pub trace_grows : (ins more : Inputs) (m n : ℕ) → IsExtendedBy ins more → m ≤ n → IsPrefixOf (trace ins m).events (trace more n).events
  trace_grows ins more m n x le = prefix_trans (laws.more_turns ins m n le) (laws.more_words ins more n x)

  -- a process that has returned does no more
  pub returned_stays : (ins more : Inputs) (m n : ℕ) → IsExtendedBy ins more → m ≤ n → (trace ins m).end ≡ Returned → (trace more n).events ≡ (trace ins m).events
  returned_stays ins more m n x le ended =
      let turned = laws.uncut ins m n le (λ (c : (trace ins m).end ≡ Cut). let e : Returned ≡ Cut = sym ended ∙ c in absurd (let no : ⊥ = cc in no)) in
      let ended' : (trace ins n).end ≡ Returned = ap (λ t. t.end) turned ∙ ended in
      let fed = laws.unstarved ins more n x (λ p c. let e : Returned ≡ Starved p = sym ended' ∙ c in cc) in
      ap (λ t. t.events) (fed ∙ turned)

  -- what stays true when the last events of a list are left out: it begins the trace on the words that it reads
  module _ (es fs : List Event) (begins : IsPrefixOf es fs) (n : ℕ) (follows : IsPrefixOf fs (trace (words_read fs) n).events) where
    abbrev early : Trace
    early = trace (words_read es) n

    abbrev late : Trace
    late = trace (words_read fs) n

    reads_grow : IsExtendedBy (words_read es) (words_read fs)
    reads_grow port = words_read_grows port begins

    all_follows : IsPrefixOf es late.events
    all_follows = prefix_trans begins follows

    short_of : (e : Event) (rest : List Event) → early.events ++ e ∷ rest ≡ es → late.events ≡ early.events → ⊥
    short_of e rest joined same = omega (arith, prefix_length all_follows, ap length same, ap length joined, length-append early.events (e ∷ rest))

    -- an early trace that falls short of the events would have to go on, and cannot
    falls_short : (e : Event) (rest : List Event) → early.events ++ e ∷ rest ≡ es → (end : TraceEnd) → early.end ≡ end → ⊥
    falls_short e rest joined Returned is = short_of e rest joined (ap (λ t. t.events) (laws.unstarved (words_read es) (words_read fs) n reads_grow (λ p c. let x : Returned ≡ Starved p = sym is ∙ c in cc)))
    falls_short e rest joined Cut is = short_of e rest joined (ap (λ t. t.events) (laws.unstarved (words_read es) (words_read fs) n reads_grow (λ p c. let x : Cut ≡ Starved p = sym is ∙ c in cc)))
    falls_short e rest joined (Starved p) is =
        ⊎_elim (λ same. short_of e rest joined same) (λ next. reads_more next.0 next.1) (laws.waits (words_read es) (words_read fs) n n p reads_grow (le_refl n) is)
      where
        here : IsPrefixOf (early.events ++ e ∷ []) es
        here = record { rest = rest; joined = append_assoc early.events (e ∷ []) rest ∙ joined }

        reads_more : (w : ℕ) → IsPrefixOf (early.events ++ Read (record { 0 = p }) w ∷ []) late.events → ⊥
        reads_more w next =
            let same = same_next early.events e (Read (record { 0 = p }) w) (prefix_trans here all_follows) next in
            let read = subst (λ x. IsPrefixOf (early.events ++ x ∷ []) es) same here in
            omega (arith, prefix_length (words_read_grows p read), ap length (read_one early.events p w), length-append (words_read early.events p) (w ∷ []), ap length (laws.reads_all (words_read es) n p is))

    pub begins_too : IsPrefixOf es early.events
    begins_too = ⊎_elim (λ p. p) (λ p. go p.rest p.joined) (comparable all_follows (laws.more_words (words_read es) (words_read fs) n reads_grow))
      where
        go : (rest : List Event) → early.events ++ rest ≡ es → IsPrefixOf es early.events
        go [] joined = prefix_of_eq (sym joined ∙ append-nil early.events)
        go (e ∷ rest) joined = absurd (falls_short e rest joined early.end refl)

-- the process that returns at once
pub idle_laws : IsProcess idle
idle_laws =
    record {
      more_turns = λ ins m n h. prefix_refl _;
      uncut = λ ins m n h c. refl;
      more_words = λ ins more n h. prefix_refl _;
      unstarved = λ ins more n h c. refl;
      reads_in_order = λ ins n port. prefix_nil _;
      reads_all = λ ins n port e. absurd (let no : ⊥ = cc in no);
      waits = λ ins more m n port h le e. absurd (let no : ⊥ = cc in no);
    }
