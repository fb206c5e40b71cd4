-- The table of a sound program does what the program means.
use Rattle.std.proofs.Common.{◌≡◌, ◌≢◌, ℕ, suc, ◌+◌, ◌<◌, ◌≤◌, List, [], ◌∷◌, ◌++◌, length, Some, refl, sym, ap, ◌∙◌, subst, arith, append_assoc, length-append}
use Rattle.std.specs.Prelude.{slice_get, All}
use Rattle.std.proofs.Math.Seq.{get_or-append_seam}
use Rattle.std.proofs.lemmas.Option.{slice_get-get_or}
use Rattle.std.proofs.lemmas.List.{append-nil}
use Rattle.std.proofs.lemmas.List.Elements.{All-nil, All-cons, All-head, All-tail}
use Rattle.pld_base.specs.Words.{IsWord}
use Rattle.pld_base.specs.Prefix.{IsPrefixOf}
use Rattle.pld_base.specs.Events.{words_written}
use Rattle.pld_base.specs.Pages.{Standing, Trapped as HasTrapped}
use Rattle.pld_base.specs.Process.{TraceEnd, Returned, Starved, Cut, Trace, Inputs, WritesWords}
use Rattle.pld_base.specs.declared.event.Event.{Event}
use Rattle.pld_base.proofs.Events.{words_written_grows}
use Rattle.pld_base.proofs.Machines.{machine_laws}
use Rattle.pld_kahn.specs.Realises.{Realises, KeepsUp}
use Rattle.pld_kahn.proofs.Realising.{keeping_up_realises}
use Rattle.fsm_core.specs.declared.micro.Micro.{Micro}
use Rattle.fsm_core.specs.declared.micro.Next.{Next}
use Rattle.fsm_core.specs.declared.micro.Next.TheVariants.{End as AtEnd}
use Rattle.fsm_core.specs.Machine.{Stage, Step, Went, AtRead, AtWrite, Ended, Code, hard_step, at_start}
use Rattle.fsm_core.specs.Table.{Plan}
use Rattle.fsm_core.specs.Page.{Page, move, standing, standing_at, stands, page_on, Point}
use Rattle.fsm_core.specs.Process.{hard_next, hard_process, page_after, NeverTraps}
use Rattle.fsm_sched.specs.Rule.{scheduled}
use Rattle.fsm_ir.specs.Blocks.{Piece, piece, whole, blocks_of}
use Rattle.pld_ast.specs.Program.{Program}
use Rattle.pld_ast.specs.Sound.{IsSound}
use Rattle.pld_ast.specs.Meaning.{Outcome, Goes, Over, meaning, trace_of, start, trace}
use Rattle.fsm_back.specs.Table.{chain, chained, first_in, next_in, laid, states_of, gen_hard}
use Rattle.fsm_back.proofs.Fits.{KnownAction, known_action}
use Rattle.fsm_back.proofs.Moves.{moves, EndsAt}
use Rattle.fsm_back.proofs.Steps.{HasStages, stages_front, stages_back, at_place, HasPiece, HasPieces, pieces_front, pieces_back, begins, moves_on, end_runs}
use Rattle.fsm_back.proofs.Values.{Frame}
use Rattle.fsm_back.proofs.Actions.{HasMade, Runs, action_runs}
use Rattle.pld_ast.proofs.WordLaws.{trace_words}
use Rattle.fsm_back.proofs.Processes.{end_of, page_told}

has_all : (is pre : List Stage) → HasStages (slice_get (pre ++ is)) (length pre) is
has_all [] pre = tt
has_all (i ∷ is) pre =
    let within : length pre < length (pre ++ i ∷ is) = omega (arith, length-append pre (i ∷ is)) in
    let here = slice_get-get_or (pre ++ i ∷ is) (length pre) i within ∙ ap Some (get_or-append_seam pre i is i) in
    let n : length (pre ++ i ∷ []) ≡ length pre + 1 = omega (arith, length-append pre (i ∷ [])) in
    let rest = has_all is (pre ++ i ∷ []) in
    let rest' = subst (λ l. HasStages (slice_get l) (length (pre ++ i ∷ [])) is) (append_assoc pre (i ∷ []) is) rest in
    (here, subst (λ m. HasStages (slice_get (pre ++ i ∷ is)) m is) n rest')

length-chain : (i : ℕ) (s : List Micro) (ss : List (List Micro)) (nx : Next) → length (chain i s ss nx) ≡ length (s ∷ ss)
length-chain i s [] nx = refl
length-chain i s (s' ∷ ss) nx = ap suc (length-chain (i + 1) s' ss nx)

pub length-chained : (i : ℕ) (ss : List (List Micro)) (nx : Next) → length (chained i ss nx) ≡ length ss
length-chained i [] nx = refl
length-chained i (s ∷ ss) nx = length-chain i s ss nx

-- blocks stand where their first states are
pieces_laid : (code : Code) (l : List ℕ) (first : ℕ → ℕ) (bs : List Piece) (i k : ℕ) → ((j : ℕ) → j < length bs → first (k + j) ≡ i + first_in bs j) → HasStages code i (laid first i bs) → HasPieces code l first k bs
pieces_laid code l first [] i k h has = tt
pieces_laid code l first (b ∷ bs) i k h has =
    let zero_at : first (k + 0) ≡ i + 0 = h 0 (omega arith) in
    let here : i ≡ first k = (let e : i ≡ i + 0 = omega arith in e) ∙ sym zero_at ∙ ap first (let e : k + 0 ≡ k = omega arith in e) in
    let n : length (chained i (scheduled b.micros) (next_in first b.next)) ≡ length (scheduled b.micros) = length-chained i (scheduled b.micros) (next_in first b.next) in
    let back = stages_back code i (chained i (scheduled b.micros) (next_in first b.next)) (laid first (i + length (scheduled b.micros)) bs) has in (
      subst (λ p. HasStages code p (chained p (scheduled b.micros) (next_in first b.next))) here (stages_front code i (chained i (scheduled b.micros) (next_in first b.next)) _ has),
      pieces_laid code l first bs (i + length (scheduled b.micros)) (k + 1) (λ j lt. ap first (let e : k + 1 + j ≡ k + suc j = omega arith in e) ∙ h (suc j) (omega arith) ∙ (let e : i + (length (scheduled b.micros) + first_in bs j) ≡ i + length (scheduled b.micros) + first_in bs j = omega arith in e)) (subst (λ m. HasStages code (i + m) (laid first (i + length (scheduled b.micros)) bs)) n back),
    )

first_zero : (bs : List Piece) → first_in bs 0 ≡ 0
first_zero [] = refl
first_zero (b ∷ bs) = refl

-- ---- the ends of runs

same_end : (s : Standing) (n k : ℕ) (e : TraceEnd) → EndsAt s n k e → end_of s ≡ e
same_end s n k Returned h = ap end_of h
same_end s n k (Starved p) h = ap end_of h
same_end s n k Cut h = ap end_of h.0

cut_later : (s : Standing) (n k : ℕ) (e : TraceEnd) → EndsAt s n k e → e ≡ Cut → n ≤ k
cut_later s n k Returned h c = absurd (let no : ⊥ = cc in no)
cut_later s n k (Starved p) h c = absurd (let no : ⊥ = cc in no)
cut_later s n k Cut h c = h.1

same_trace : (t u : Trace) → t.events ≡ u.events → t.end ≡ u.end → t ≡ u
same_trace t u e f =
    let make : List Event → TraceEnd → Trace = λ x y. record { events = x; end = y } in
    ap (λ x. make x t.end) e ∙ ap (make u.events) f

front_words : (xs rest : List ℕ) → All IsWord (xs ++ rest) → All IsWord xs
front_words [] rest h = All-nil IsWord
front_words (x ∷ xs) rest h = All-cons IsWord x xs (All-head IsWord x (xs ++ rest) h) (front_words xs rest (All-tail IsWord x (xs ++ rest) h))

module _ (g : Program) (sound : IsSound g) where
  abbrev code : Code
  code = slice_get (states_of (blocks_of g))

  abbrev first : ℕ → ℕ
  first = first_in (blocks_of g)

  known : KnownAction g.body
  known = known_action g g.body sound.scalars sound.known

  has : HasPieces code g.lengths first 0 (blocks_of g)
  has = pieces_laid code g.lengths first (blocks_of g) 0 0 (λ j lt. ap first (let e : 0 + j ≡ j = omega arith in e) ∙ (let e : first j ≡ 0 + first j = omega arith in e)) (has_all (states_of (blocks_of g)) [])

  last : HasPieces code g.lengths first (0 + length (whole g).ended) (piece (whole g).current AtEnd ∷ [])
  last = pieces_back code g.lengths first 0 (whole g).ended (piece (whole g).current AtEnd ∷ []) has

  made : HasMade code g.lengths first 0 (whole g)
  made = (pieces_front code g.lengths first 0 (whole g).ended (piece (whole g).current AtEnd ∷ []) has, record { more = []; next = AtEnd; has = subst (λ ms. HasPiece code g.lengths first (0 + length (whole g).ended) (piece ms AtEnd)) (sym (append-nil (whole g).current)) last.0 })

  abbrev at_first : Inputs → Point
  at_first ins = record { cells = record { regs = λ r. 0; arrays = λ u i. 0 }; left = ins; events = [] }

  page_first : (ins : Inputs) → page_on ins ≡ begins code g.lengths first 0 (at_first ins)
  page_first ins = ap (λ i. at_place (Some i) (at_first ins)) (sym (first_zero (blocks_of g)))

  start_frame : (ins : Inputs) → Frame (start ins) (at_first ins)
  start_frame ins = record { scalars = λ s h. refl; arrays = refl; left = refl; events = refl }

  abbrev after : Inputs → ℕ → Page
  after ins k = moves (move code g.lengths) k (page_on ins)

  -- moves that give this outcome of n turns
  record Found (ins : Inputs) (n : ℕ) (o : Outcome) : Type 0 where
    steps : ℕ
    events : (after ins steps).events ≡ (trace_of o).events
    ends : EndsAt (standing code g.lengths (after ins steps)) n steps (trace_of o).end

  found : (ins : Inputs) (n : ℕ) (o : Outcome) → Runs code g.lengths first n (0 + length (whole g).ended) (whole g).current (begins code g.lengths first 0 (at_first ins)) o → Found ins n o
  found ins n (Goes st) r =
      let s = end_runs code g.lengths first (0 + length (whole g).ended) (whole g).current r.from r.to last.0 r.done in
      let all : after ins (r.steps + s.steps) ≡ s.to = ap (moves (move code g.lengths) (r.steps + s.steps)) (page_first ins) ∙ moves_on code g.lengths r.steps s.steps (begins code g.lengths first 0 (at_first ins)) (begins code g.lengths first (0 + length (whole g).ended) r.from) s.to r.by s.by in
      record { steps = r.steps + s.steps; events = ap (λ p. p.events) all ∙ s.has ∙ r.frame.events; ends = ap (standing code g.lengths) all ∙ s.stands }
  found ins n (Over d events) r =
      let all : after ins r.steps ≡ r.to = ap (moves (move code g.lengths) r.steps) (page_first ins) ∙ r.by in
      record { steps = r.steps; events = ap (λ p. p.events) all ∙ r.has; ends = subst (λ s. EndsAt (standing code g.lengths s) n r.steps d) (sym all) r.stands }

  tracks : (ins : Inputs) (n : ℕ) → Found ins n (meaning g.lengths g.body n (start ins))
  tracks ins n = found ins n (meaning g.lengths g.body n (start ins)) (action_runs code g.lengths first g.body n 0 64 [] (start ins) (at_first ins) (at_first ins) known (omega arith) made refl (start_frame ins))

  keeps_up : KeepsUp (hard_process (gen_hard g)) (trace g)
  keeps_up ins words turns = by_found (tracks ins turns)
    where
      by_found : Found ins turns (meaning g.lengths g.body turns (start ins)) → (moves : ℕ) × (hard_process (gen_hard g) ins moves ≡ trace g ins turns) × ((trace g ins turns).end ≡ Cut → turns ≤ moves)
      by_found f =
          let told = page_told code g.lengths f.steps at_start ins [] in
          (f.steps, same_trace (hard_process (gen_hard g) ins f.steps) (trace g ins turns) (sym told.events ∙ f.events) (sym told.end ∙ same_end _ turns f.steps (trace g ins turns).end f.ends), cut_later _ turns f.steps (trace g ins turns).end f.ends)

  pub table_realises : Realises (hard_process (gen_hard g)) (trace g)
  table_realises = keeping_up_realises (hard_process (gen_hard g)) (trace g) (machine_laws (hard_next code g.lengths) at_start) keeps_up

  pub table_writes_words : WritesWords (hard_process (gen_hard g))
  table_writes_words ins words moves p =
      let w = table_realises.within ins words moves in
      let begins : IsPrefixOf (words_written (hard_process (gen_hard g) ins moves).events p) (words_written (trace g ins w.0).events p) = words_written_grows p w.1 in
      front_words _ begins.rest (subst (All IsWord) (sym begins.joined) (trace_words g sound ins words w.0 p))

-- ---- no trap

stands_untrapped : (s : Step) (g : Page) → stands s g ≢ HasTrapped
stands_untrapped (Went m) g h = absurd (let no : ⊥ = cc h in no)
stands_untrapped (AtRead p) g h = at_list (g.left p) h
  where
    at_list : (ws : List ℕ) → standing_at p ws ≢ HasTrapped
    at_list [] h = absurd (let no : ⊥ = cc h in no)
    at_list (w ∷ ws) h = absurd (let no : ⊥ = cc h in no)
stands_untrapped (AtWrite p w) g h = absurd (let no : ⊥ = cc h in no)
stands_untrapped Ended g h = absurd (let no : ⊥ = cc h in no)

pub table_never_traps : (t : Plan) → NeverTraps t
table_never_traps t ins words moves =
    let page = page_after (slice_get t.states) t.arrays moves (page_on ins) in
    stands_untrapped (hard_step (slice_get t.states) t.arrays page.machine) page
