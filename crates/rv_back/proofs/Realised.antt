-- The code of a sound program does what the program means.
use Rattle.std.proofs.Common.{◌≡◌, ◌≢◌, ℕ, ◌+◌, ◌-◌, ◌<◌, ◌≤◌, ◌^◌, List, [], ◌∷◌, ◌++◌, length, Some, None, refl, sym, ap, ◌∙◌, subst, ⊎_elim, arith, append_assoc, length-append}
use Rattle.std.specs.Prelude.{slice_get, All}
use Rattle.std.proofs.Math.Seq.{get_or-append_seam}
use Rattle.std.proofs.lemmas.Bool.{cases_lt}
use Rattle.std.proofs.lemmas.List.Elements.{All-nil, All-cons, All-head, All-tail}
use Rattle.std.proofs.lemmas.Option.{slice_get-get_or, slice_get_past}
use Rattle.pld_base.specs.Words.{IsWord}
use Rattle.pld_base.specs.Prefix.{IsPrefixOf}
use Rattle.pld_base.specs.Events.{words_written}
use Rattle.pld_base.specs.Pages.{Standing, Going, Ended as HasEnded, Trapped as HasTrapped, Waits}
use Rattle.pld_base.specs.Process.{TraceEnd, Returned, Starved, Cut, Trace, Inputs, AreWords, WritesWords}
use Rattle.pld_base.specs.declared.event.Event.{Event}
use Rattle.pld_base.proofs.Events.{words_written_grows}
use Rattle.pld_base.proofs.Machines.{machine_laws}
use Rattle.pld_kahn.specs.Realises.{Realises, KeepsUp}
use Rattle.pld_kahn.proofs.Realising.{keeping_up_realises}
use Rattle.rv_isa.specs.declared.instr.Instr.{Instr}
use Rattle.rv_isa.specs.declared.instr.Instr.TheVariants.{Ebreak}
use Rattle.rv_core.specs.Machine.{Machine, Step, Went, AtRead, AtWrite, Ended, Trapped, Code, soft_step, at_start}
use Rattle.rv_core.specs.Page.{Page, moved, take_word, standing, standing_at, stands, page_on}
use Rattle.rv_core.specs.Process.{soft_next, soft_process, page_after, NeverTraps}
use Rattle.pld_ast.specs.Program.{Program}
use Rattle.pld_ast.specs.Sound.{IsSound}
use Rattle.pld_ast.specs.Meaning.{Outcome, Goes, Over, meaning, trace_of, start, trace}
use Rattle.rv_back.specs.Code.{prologue, action_code, soft_code}
use Rattle.rv_back.proofs.Lengths.{program_short}
use Rattle.rv_back.proofs.Steps.{HasAt, has_front, has_back, IsShort, Leads, page_of, line_moves, moves_on, step_is, page_after-sum, page_stays}
use Rattle.pld_ast.specs.AreWords.{WroteWords}
use Rattle.rv_back.proofs.Frames.{past, past2, Frame}
use Rattle.rv_back.proofs.Values.{Ready}
use Rattle.rv_back.proofs.Runs.{EndsAt, Runs, later}
use Rattle.rv_back.proofs.Actions.{action_runs}
use Rattle.rv_back.proofs.Processes.{end_of, page_told}

-- ---- the whole code at its places

has_all : (is pre : List Instr) → HasAt (slice_get (pre ++ is)) (length pre) is
has_all [] pre = tt
has_all (i ∷ is) pre =
    let within : length pre < length (pre ++ i ∷ is) = omega (arith, length-append pre (i ∷ is)) in
    let here = slice_get-get_or (pre ++ i ∷ is) (length pre) i within ∙ ap Some (get_or-append_seam pre i is i) in
    let n : length (pre ++ i ∷ []) ≡ length pre + 1 = omega (arith, length-append pre (i ∷ [])) in
    let rest = has_all is (pre ++ i ∷ []) in
    let rest' = subst (λ l. HasAt (slice_get l) (length (pre ++ i ∷ [])) is) (append_assoc pre (i ∷ []) is) rest in
    (here, subst (λ m. HasAt (slice_get (pre ++ i ∷ is)) m is) n rest')

is_short : (code : List Instr) → length code < 2 ^ 18 → IsShort (slice_get code)
is_short code h k i e =
    ⊎_elim (λ lt. omega arith) (λ le. let n : slice_get code k ≡ None = slice_get_past code k le in absurd (cc (n, e))) (cases_lt k (length code))

-- ---- a page that stands makes no move

stopped_step : (s : Step) (p : Page) → stands s p ≢ Going → moved s p ≡ p
stopped_step (Went m) p h = absurd (h refl)
stopped_step (AtRead q rd) p h = at_list (p.left q) h
  where
    at_list : (ws : List ℕ) → standing_at q ws ≢ Going → take_word q rd ws p ≡ p
    at_list [] h = refl
    at_list (w ∷ ws) h = absurd (h refl)
stopped_step (AtWrite q w) p h = absurd (h refl)
stopped_step Ended p h = refl
stopped_step Trapped p h = refl

module _ (code : Code) (ins outs : ℕ) (p : Page) where
  stuck : (j k : ℕ) → j ≤ k → standing code ins outs (page_after code ins outs j p) ≢ Going → page_after code ins outs k p ≡ page_after code ins outs j p
  stuck j k le h =
      let e : k ≡ j + (k - j) = omega arith in
      let s = page_after code ins outs j p in
      ap (λ i. page_after code ins outs i p) e ∙ page_after-sum code ins outs j (k - j) p ∙ page_stays code ins outs s (stopped_step (soft_step code ins outs s.machine) s h) (k - j)

  same_stop : (j k : ℕ) → standing code ins outs (page_after code ins outs j p) ≢ Going → standing code ins outs (page_after code ins outs k p) ≢ Going → page_after code ins outs j p ≡ page_after code ins outs k p
  same_stop j k e f = ⊎_elim (λ lt. sym (stuck j k (omega arith) e)) (λ le. stuck k j le f) (cases_lt j k)

  -- where so many moves end an operator's run, as many moves as it has turns don't trap
  not_trapped : (k j : ℕ) (e : TraceEnd) → EndsAt (standing code ins outs (page_after code ins outs j p)) k j e → standing code ins outs (page_after code ins outs k p) ≢ HasTrapped
  not_trapped k j Returned h t =
      let same = same_stop k j (λ c. let e : HasTrapped ≡ Going = sym t ∙ c in cc) (λ c. let e : HasEnded ≡ Going = sym h ∙ c in cc) in
      let c : HasTrapped ≡ HasEnded = sym t ∙ ap (standing code ins outs) same ∙ h in cc
  not_trapped k j (Starved q) h t =
      let same = same_stop k j (λ c. let e : HasTrapped ≡ Going = sym t ∙ c in cc) (λ c. let e : Waits q ≡ Going = sym h ∙ c in cc) in
      let c : HasTrapped ≡ Waits q = sym t ∙ ap (standing code ins outs) same ∙ h in cc
  not_trapped k j Cut h t =
      let same = stuck k j h.1 (λ c. let e : HasTrapped ≡ Going = sym t ∙ c in cc) in
      let c : Going ≡ HasTrapped = sym h.0 ∙ ap (standing code ins outs) same ∙ t in cc

-- ---- the ends of runs

same_end : (s : Standing) (n k : ℕ) (e : TraceEnd) → EndsAt s n k e → end_of s ≡ e
same_end s n k Returned h = ap end_of h
same_end s n k (Starved p) h = ap end_of h
same_end s n k Cut h = ap end_of h.0

cut_later : (s : Standing) (n k : ℕ) (e : TraceEnd) → EndsAt s n k e → e ≡ Cut → n ≤ k
cut_later s n k Returned h c = absurd (let no : ⊥ = cc in no)
cut_later s n k (Starved p) h c = absurd (let no : ⊥ = cc in no)
cut_later s n k Cut h c = h.1

same_trace : (t u : Trace) → t.events ≡ u.events → t.end ≡ u.end → t ≡ u
same_trace t u e f =
    let make : List Event → TraceEnd → Trace = λ x y. record { events = x; end = y } in
    ap (λ x. make x t.end) e ∙ ap (make u.events) f

front_words : (xs rest : List ℕ) → All IsWord (xs ++ rest) → All IsWord xs
front_words [] rest h = All-nil IsWord
front_words (x ∷ xs) rest h = All-cons IsWord x xs (All-head IsWord x (xs ++ rest) h) (front_words xs rest (All-tail IsWord x (xs ++ rest) h))

-- after the prologue
record Prologued (m : Machine) : Type 0 where
  x2 : m.regs 2 ≡ 0x28100
  x8 : m.regs 8 ≡ 0x20000
  x9 : m.regs 9 ≡ 0x8000_0000
  high : (r : ℕ) → 12 ≤ r → m.regs r ≡ 0
  ram : (w : ℕ) → m.ram w ≡ 0

prologue_line : (ins outs : ℕ) → Leads ins outs prologue at_start Prologued
prologue_line ins outs = record {
  to = _;
  line = (_, refl, refl, (_, refl, refl, (_, refl, refl, (_, refl, refl, refl))));
  holds = record { x2 = refl; x8 = refl; x9 = refl; high = λ r l. past2 _ _ r l ∙ past2 _ _ r l ∙ past 9 _ _ r (omega arith) l ∙ past 8 _ _ r (omega arith) l; ram = λ w. refl };
}

module _ (g : Program) (sound : IsSound g) where
  abbrev code : Code
  code = slice_get (soft_code g)

  short : IsShort code
  short = is_short (soft_code g) (omega (arith, program_short g.lengths g.body 1000 sound.nodes))

  has : HasAt code 0 (prologue ++ (action_code g.lengths g.body ++ Ebreak ∷ []))
  has = has_all (soft_code g) []

  has_body : HasAt code 4 (action_code g.lengths g.body ++ Ebreak ∷ [])
  has_body = has_back code 0 prologue (action_code g.lengths g.body ++ Ebreak ∷ []) has

  start_frame : (ins : Inputs) (m : Machine) → AreWords ins → Prologued m → Frame g (start ins) m
  start_frame ins m words p = record {
    x8 = p.x8;
    x9 = p.x9;
    near = λ s h l. p.high (12 + s) (omega arith);
    far = λ s h l. p.ram s;
    arrays = λ t i h j. p.ram _;
    words = record { scalars = λ s. omega arith; arrays = λ t i. omega arith; left = words; written = λ q. All-nil IsWord };
  }

  abbrev after : Inputs → ℕ → Page
  after ins k = page_after code g.ins g.outs k (page_on ins)

  -- moves that give this outcome of n turns, and its words
  record Found (ins : Inputs) (n : ℕ) (o : Outcome) : Type 0 where
    moves : ℕ
    events : (after ins moves).events ≡ (trace_of o).events
    ends : EndsAt (standing code g.ins g.outs (after ins moves)) n moves (trace_of o).end
    wrote : WroteWords (trace_of o).events

  found : (ins : Inputs) (n : ℕ) (m : Machine) (o : Outcome) → after ins 4 ≡ page_of m (start ins) → Runs g code n (4 + length (action_code g.lengths g.body)) (page_of m (start ins)) o → Found ins n o
  found ins n m (Goes st) e r =
      let all : after ins (4 + r.steps) ≡ page_of r.to st = moves_on code short g.ins g.outs 4 r.steps (page_on ins) (page_of m (start ins)) (page_of r.to st) e r.by in
      let ebreak = (has_back code 4 (action_code g.lengths g.body) (Ebreak ∷ []) has_body).0 in
      let last : soft_step code g.ins g.outs r.to ≡ Ended = step_is code short g.ins g.outs (4 + length (action_code g.lengths g.body)) Ebreak r.to ebreak r.ready.at in
      record {
        moves = 4 + r.steps;
        events = ap (λ s. s.events) all;
        ends = ap (standing code g.ins g.outs) all ∙ ap (λ s. stands s (page_of r.to st)) last;
        wrote = r.ready.frame.words.written;
      }
  found ins n m (Over d events) e r =
      let all : after ins (4 + r.steps) ≡ r.to = moves_on code short g.ins g.outs 4 r.steps (page_on ins) (page_of m (start ins)) r.to e r.by in
      record {
        moves = 4 + r.steps;
        events = ap (λ s. s.events) all ∙ r.has;
        ends = subst (λ s. EndsAt (standing code g.ins g.outs s) n (4 + r.steps) d) (sym all) (later (standing code g.ins g.outs r.to) n 4 r.steps d r.stands);
        wrote = r.wrote;
      }

  tracks : (ins : Inputs) → AreWords ins → (n : ℕ) → Found ins n (meaning g.lengths g.body n (start ins))
  tracks ins words n = by_line (prologue_line g.ins g.outs)
    where
      by_line : Leads g.ins g.outs prologue at_start Prologued → Found ins n (meaning g.lengths g.body n (start ins))
      by_line a =
          let body = action_code g.lengths g.body in
          let moves = line_moves code short g.ins g.outs prologue 0 at_start a.to ins [] (has_front code 0 prologue (body ++ Ebreak ∷ []) has) refl a.line in
          let ready : Ready g 4 0 (start ins) a.to = record { at = moves.1; frame = start_frame ins a.to words a.holds; x2 = a.holds.x2 } in
          found ins n a.to (meaning g.lengths g.body n (start ins)) moves.0 (action_runs g sound code short g.body n 4 (start ins) a.to sound.known sound.nodes (has_front code 4 body (Ebreak ∷ []) has_body) ready)

  keeps_up : KeepsUp (soft_process (soft_code g) g.ins g.outs) (trace g)
  keeps_up ins words turns = by_found (tracks ins words turns)
    where
      by_found : Found ins turns (meaning g.lengths g.body turns (start ins)) → (moves : ℕ) × (soft_process (soft_code g) g.ins g.outs ins moves ≡ trace g ins turns) × ((trace g ins turns).end ≡ Cut → turns ≤ moves)
      by_found f =
          let told = page_told code g.ins g.outs f.moves at_start ins [] in
          (f.moves, same_trace (soft_process (soft_code g) g.ins g.outs ins f.moves) (trace g ins turns) (sym told.events ∙ f.events) (sym told.end ∙ same_end _ turns f.moves (trace g ins turns).end f.ends), cut_later _ turns f.moves (trace g ins turns).end f.ends)

  pub code_realises : Realises (soft_process (soft_code g) g.ins g.outs) (trace g)
  code_realises =
      keeping_up_realises (soft_process (soft_code g) g.ins g.outs) (trace g) (machine_laws (soft_next code g.ins g.outs) at_start) keeps_up

  pub code_never_traps : NeverTraps (soft_code g) g.ins g.outs
  code_never_traps ins words k =
      let f = tracks ins words k in
      not_trapped code g.ins g.outs (page_on ins) k f.moves (trace g ins k).end f.ends

  pub code_writes_words : WritesWords (soft_process (soft_code g) g.ins g.outs)
  code_writes_words ins words moves p =
      let w = code_realises.within ins words moves in
      let begins : IsPrefixOf (words_written (soft_process (soft_code g) g.ins g.outs ins moves).events p) (words_written (trace g ins w.0).events p) = words_written_grows p w.1 in
      front_words _ begins.rest (subst (All IsWord) (sym begins.joined) ((tracks ins words w.0).wrote p))
