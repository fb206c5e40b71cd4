-- Runs of the code: one after another, choices and loops.
use Rattle.std.proofs.Common.{◌≡◌, ℕ, zero, suc, ◌+◌, ◌-◌, ◌*◌, ◌<◌, ◌≤◌, ◌^◌, List, [], ◌∷◌, ◌++◌, length, Some, refl, ap, ◌∙◌, sym, subst, arith, length-append, Bool, true, false}
use Rattle.std.specs.Prelude.{ℤ, pos, nat_eq, if◌then◌else◌}
use Rattle.std.proofs.lemmas.Bool.Decides.{nat_tests}
use Rattle.pld_base.specs.Words.{sum_of}
use Rattle.pld_base.specs.Pages.{Standing, Going, Ended as HasEnded, Waits}
use Rattle.pld_base.specs.Process.{TraceEnd, Returned, Starved, Cut}
use Rattle.pld_base.specs.declared.event.Event.{Event}
use Rattle.rv_isa.specs.declared.instr.Instr.{Instr}
use Rattle.rv_isa.specs.declared.instr.Instr.TheVariants.{Jal}
use Rattle.rv_core.specs.Machine.{Machine, Went, Code, act, jump, next, extended}
use Rattle.rv_core.specs.Page.{Page, moved, standing, stands}
use Rattle.rv_core.specs.Process.{page_after}
use Rattle.pld_ast.specs.Program.{Program}
use Rattle.pld_ast.specs.Sound.{IsSound}
use Rattle.pld_ast.specs.Meaning.{State, Outcome, Goes, Over, then_do, at_zero, turns}
use Rattle.rv_back.specs.Code.{neg_of, unless, choose_code, repeat_code}
use Rattle.rv_back.proofs.Steps.{HasAt, has_front, has_back, IsShort, page_of, Leads, line_moves, moves_on, step_is, extended_neg}
use Rattle.pld_ast.specs.AreWords.{WroteWords}
use Rattle.rv_back.proofs.Frames.{Frame, frame_same}
use Rattle.rv_back.proofs.Values.{Ready, Evaluates, ready_after}

-- the code comes to place k, with the state's variables, events and words to read
pub record Continues (g : Program) (code : Code) (k : ℕ) (s : Page) (st : State) : Type 0 where
  pub steps : ℕ
  pub to : Machine
  pub by : page_after code g.ins g.outs steps s ≡ page_of to st
  pub ready : Ready g k 0 st to

-- a page stands so at an operator's end; a run that is cut after n turns has made n moves or more
abbrev pub EndsAt : Standing → ℕ → ℕ → TraceEnd → Type 0
EndsAt s n k Returned = s ≡ HasEnded
EndsAt s n k (Starved p) = s ≡ Waits p
EndsAt s n k Cut = (s ≡ Going) × (n ≤ k)

-- the page comes to stand where the operator's run is over
pub record Stops (g : Program) (code : Code) (n : ℕ) (s : Page) (e : TraceEnd) (events : List Event) : Type 0 where
  pub steps : ℕ
  pub to : Page
  pub by : page_after code g.ins g.outs steps s ≡ to
  pub has : to.events ≡ events
  pub stands : EndsAt (standing code g.ins g.outs to) n steps e
  pub wrote : WroteWords events

-- the code does as the operator's run of n turns, and comes to place k where that goes on
abbrev pub Runs : Program → Code → ℕ → ℕ → Page → Outcome → Type 0
Runs g code n k s (Goes st) = Continues g code k s st
Runs g code n k s (Over e events) = Stops g code n s e events

-- ---- turns and moves

pub later : (s : Standing) (n j k : ℕ) (e : TraceEnd) → EndsAt s n k e → EndsAt s n (j + k) e
later s n j k Returned h = h
later s n j k (Starved p) h = h
later s n j k Cut h = (h.0, omega (arith, h.1))

more_turns : (s : Standing) (n j k : ℕ) (e : TraceEnd) → 1 ≤ j → EndsAt s n k e → EndsAt s (suc n) (j + k) e
more_turns s n j k Returned le h = h
more_turns s n j k (Starved p) le h = h
more_turns s n j k Cut le h = (h.0, omega (arith, h.1))

fewer_turns : (s : Standing) (m n k : ℕ) (e : TraceEnd) → m ≤ n → EndsAt s n k e → EndsAt s m k e
fewer_turns s m n k Returned le h = h
fewer_turns s m n k (Starved p) le h = h
fewer_turns s m n k Cut le h = (h.0, omega (arith, h.1))

going_if : (b : Bool) (x y : Machine) (s : Page) → stands (if b then Went x else Went y) s ≡ Going
going_if true x y s = refl
going_if false x y s = refl

module _ (g : Program) (sound : IsSound g) (code : Code) (short : IsShort code) where
  abbrev go : ℕ → Page → Page
  go = page_after code g.ins g.outs

  -- ---- one after another

  pub after : (n k j : ℕ) (s s1 : Page) (o : Outcome) → go j s ≡ s1 → Runs g code n k s1 o → Runs g code n k s o
  after n k j s s1 (Goes st) e r =
      record { steps = j + r.steps; to = r.to; by = moves_on code short g.ins g.outs j r.steps s s1 (page_of r.to st) e r.by; ready = r.ready }
  after n k j s s1 (Over d events) e r = record {
    steps = j + r.steps;
    to = r.to;
    by = moves_on code short g.ins g.outs j r.steps s s1 r.to e r.by;
    has = r.has;
    stands = later (standing code g.ins g.outs r.to) n j r.steps d r.stands;
    wrote = r.wrote;
  }

  -- some moves, and one turn more
  after_turn : (n k j : ℕ) (s s1 : Page) (o : Outcome) → 1 ≤ j → go j s ≡ s1 → Runs g code n k s1 o → Runs g code (suc n) k s o
  after_turn n k j s s1 (Goes st) le e r =
      record { steps = j + r.steps; to = r.to; by = moves_on code short g.ins g.outs j r.steps s s1 (page_of r.to st) e r.by; ready = r.ready }
  after_turn n k j s s1 (Over d events) le e r = record {
    steps = j + r.steps;
    to = r.to;
    by = moves_on code short g.ins g.outs j r.steps s s1 r.to e r.by;
    has = r.has;
    stands = more_turns (standing code g.ins g.outs r.to) n j r.steps d le r.stands;
    wrote = r.wrote;
  }

  pub ends_at : (n j k : ℕ) (s : Page) (o : Outcome) → j ≡ k → Runs g code n j s o → Runs g code n k s o
  ends_at n j k s o e r = subst (λ i. Runs g code n i s o) e r

  -- what runs from a state at place j
  abbrev pub From : ℕ → ℕ → ℕ → (State → Outcome) → Type 0
  From n j k f = (st : State) (m : Machine) → Ready g j 0 st m → Runs g code n k (page_of m st) (f st)

  pub seq_runs : (m n j k : ℕ) (s : Page) (o : Outcome) (f : State → Outcome) → m ≤ n → Runs g code n j s o → From m j k f → Runs g code m k s (then_do o f)
  seq_runs m n j k s (Goes st) f le r h = after m k r.steps s (page_of r.to st) (f st) r.by (h st r.to r.ready)
  seq_runs m n j k s (Over d events) f le r h =
      record { steps = r.steps; to = r.to; by = r.by; has = r.has; stands = fewer_turns (standing code g.ins g.outs r.to) m n r.steps d le r.stands; wrote = r.wrote }

  -- a stretch that changes variables
  pub line_runs : (k : ℕ) (is : List Instr) (st st' : State) (m : Machine) → HasAt code k is → Ready g k 0 st m → st'.left ≡ st.left → st'.events ≡ st.events
      → Leads g.ins g.outs is m (λ to. Frame g st' to × (to.regs 2 ≡ m.regs 2)) → Continues g code (k + length is) (page_of m st) st'
  line_runs k is st st' m has r same same' a =
      let moves = line_moves code short g.ins g.outs is k m a.to st.left st.events has r.at a.line in record {
        steps = length is;
        to = a.to;
        by = moves.0 ∙ ap (λ x. record { machine = a.to; left = x; events = st.events }) (sym same) ∙ ap (λ x. record { machine = a.to; left = st'.left; events = x }) (sym same');
        ready = record { at = moves.1; frame = a.holds.0; x2 = a.holds.1 ∙ r.x2 };
      }

  -- ---- jumps

  pub one_move : (k : ℕ) (m to : Machine) (st : State) (i : Instr) → code k ≡ Some i → m.pc ≡ 4 * k → act g.ins g.outs i m ≡ Went to → go 1 (page_of m st) ≡ page_of to st
  one_move k m to st i has at e = ap (λ s. moved s (page_of m st)) (step_is code short g.ins g.outs k i m has at ∙ e)

  -- the machine at another place
  ready_at : (j k : ℕ) (st : State) (m : Machine) (pc : ℕ) → Ready g j 0 st m → pc ≡ 4 * k → Ready g k 0 st (record m { pc = pc })
  ready_at j k st m pc r at = record { at = at; frame = frame_same g sound st m (record m { pc = pc }) r.frame refl refl (λ q l. refl) (λ w l. refl); x2 = r.x2 }

  -- one jump more
  jumps_to : (j k : ℕ) (imm : ℤ) (s : Page) (st : State) → (r : Continues g code j s st) → code j ≡ Some (Jal 0 imm) → sum_of r.to.pc (extended imm) ≡ 4 * k → Continues g code k s st
  jumps_to j k imm s st r has at =
      let to = jump r.to imm in
      record { steps = r.steps + 1; to = to; by = moves_on code short g.ins g.outs r.steps 1 s (page_of r.to st) (page_of to st) r.by (one_move j r.to to st _ has r.ready.at refl); ready = ready_at j k st r.to (sum_of r.to.pc (extended imm)) r.ready at }

  -- forward, over t instructions
  jump_on : (n k t : ℕ) (s : Page) (o : Outcome) → t ≤ 2 ^ 18 → code k ≡ Some (Jal 0 (pos (4 * (t + 1)))) → Runs g code n k s o → Runs g code n (k + 1 + t) s o
  jump_on n k t s (Goes st) near has r =
      let room = short k _ has in
      let at = r.ready.at in
      let there : sum_of r.to.pc (4 * (t + 1)) ≡ 4 * (k + 1 + t) = omega arith in
      jumps_to k (k + 1 + t) (pos (4 * (t + 1))) s st r has there
  jump_on n k t s (Over d events) near has r = r

  -- back, over t instructions
  jump_back : (n k t : ℕ) (s : Page) (o : Outcome) → 0 < t → t ≤ k → code k ≡ Some (Jal 0 (neg_of (4 * t))) → Runs g code n k s o → Runs g code n (k - t) s o
  jump_back n k t s (Goes st) some le has r =
      let room = short k _ has in
      let far : extended (neg_of (4 * t)) ≡ 2 ^ 32 - 4 * t = extended_neg (4 * t) (omega arith) in
      let there : sum_of (4 * k) (2 ^ 32 - 4 * t) ≡ 4 * (k - t) = omega arith in
      jumps_to k (k - t) (neg_of (4 * t)) s st r has (ap (λ x. sum_of x (extended (neg_of (4 * t)))) r.ready.at ∙ ap (sum_of (4 * k)) far ∙ there)
  jump_back n k t s (Over d events) some le has r = r

  -- past the jump of `unless` where the value isn't 0
  pub enters : (j k v u n : ℕ) (st : State) (m : Machine) → HasAt code k (unless n) → Ready g j 0 st m → Evaluates g code st k 0 v m → v ≡ suc u → (c : Continues g code (k + 2) (page_of m st) st) × (1 ≤ c.steps)
  enters j k v u n st m has r a e =
      let room = short k _ has.0 in
      let at = a.at in
      let other : nat_eq (suc u) 0 ≡ false = grind (arith, nat_tests) in
      let test : nat_eq (a.to.regs 10) 0 ≡ false = ap (λ x. nat_eq x 0) (a.value ∙ e) ∙ other in
      let to = jump a.to (pos 8) in
      let there : sum_of a.to.pc 8 ≡ 4 * (k + 2) = omega arith in
      let last = one_move k a.to to st _ has.0 a.at (ap (λ b. if b then Went (next a.to) else Went (jump a.to (pos 8))) test) in (
        record {
          steps = a.steps + 1;
          to = to;
          by = moves_on code short g.ins g.outs a.steps 1 (page_of m st) (page_of a.to st) (page_of to st) a.by last;
          ready = ready_at k (k + 2) st a.to (sum_of a.to.pc 8) (ready_after g sound code short st j k 0 v m r a) there;
        },
        omega arith,
      )

  -- by the jump of `unless` where the value is 0
  pub skips : (j k n : ℕ) (st : State) (m : Machine) → n ≤ 2 ^ 18 + 1 → HasAt code k (unless n) → Ready g j 0 st m → Evaluates g code st k 0 0 m → Continues g code (k + 2 + n) (page_of m st) st
  skips j k n st m near has r a =
      let room = short k _ has.0 in
      let at = a.at in
      let test : nat_eq (a.to.regs 10) 0 ≡ true = ap (λ x. nat_eq x 0) a.value in
      let to = next a.to in
      let here : sum_of a.to.pc 4 ≡ 4 * (k + 1) = omega arith in
      let there : sum_of (4 * (k + 1)) (4 * (n + 1)) ≡ 4 * (k + 2 + n) = omega arith in
      let last = one_move k a.to to st _ has.0 a.at (ap (λ b. if b then Went (next a.to) else Went (jump a.to (pos 8))) test) in
      let next_place : Continues g code (k + 1) (page_of m st) st = record {
        steps = a.steps + 1;
        to = to;
        by = moves_on code short g.ins g.outs a.steps 1 (page_of m st) (page_of a.to st) (page_of to st) a.by last;
        ready = ready_at k (k + 1) st a.to (sum_of a.to.pc 4) (ready_after g sound code short st j k 0 0 m r a) here;
      } in
      jumps_to (k + 1) (k + 2 + n) (pos (4 * (n + 1))) (page_of m st) st next_place has.1.0 (ap (λ x. sum_of x (4 * (n + 1))) here ∙ there)

  -- a stretch ends below the limit
  has_near : (is : List Instr) (k : ℕ) → k ≤ 2 ^ 18 → HasAt code k is → k + length is ≤ 2 ^ 18
  has_near [] k h has = omega arith
  has_near (i ∷ is) k h has = let room = short k i has.0 in let rest = has_near is (k + 1) (omega arith) has.1 in omega arith

  -- ---- choices

  module _ (n k : ℕ) (ce ca cb : List Instr) (st : State) (m : Machine) (oa ob : Outcome) (has : HasAt code k (choose_code ce ca cb)) (r : Ready g k 0 st m) where
    c1 : HasAt code (k + length ce) (unless (length ca + 1) ++ (ca ++ Jal 0 (pos (4 * (length cb + 1))) ∷ cb))
    c1 = has_back code k ce _ has

    c3 : HasAt code (k + length ce + 2 + length ca) (Jal 0 (pos (4 * (length cb + 1))) ∷ cb)
    c3 = has_back code (k + length ce + 2) ca _ (has_back code (k + length ce) (unless (length ca + 1)) _ c1)

    total : k + length ce + 2 + length ca + 1 + length cb ≡ k + length (choose_code ce ca cb)
    total = omega (arith, length-append ce (unless (length ca + 1) ++ (ca ++ Jal 0 (pos (4 * (length cb + 1))) ∷ cb)), length-append ca (Jal 0 (pos (4 * (length cb + 1))) ∷ cb))

    near : length cb ≤ 2 ^ 18
    near = let last = short (k + length ce + 2 + length ca) _ c3.0 in let all = has_near cb (k + length ce + 2 + length ca + 1) (omega arith) c3.1 in omega arith

    far : length ca + 1 ≤ 2 ^ 18 + 1
    far = let last = short (k + length ce + 2 + length ca) _ c3.0 in omega arith

    first : (c : Continues g code (k + length ce + 2) (page_of m st) st) → Runs g code n (k + length ce + 2 + length ca) (page_of c.to st) oa → Runs g code n (k + length (choose_code ce ca cb)) (page_of m st) oa
    first c run =
        ends_at n _ _ (page_of m st) oa total (after n _ c.steps (page_of m st) (page_of c.to st) oa c.by (jump_on n (k + length ce + 2 + length ca) (length cb) (page_of c.to st) oa near c3.0 run))

    second : (c : Continues g code (k + length ce + 2 + (length ca + 1)) (page_of m st) st) → ((m1 : Machine) → Ready g (k + length ce + 2 + length ca + 1) 0 st m1 → Runs g code n (k + length ce + 2 + length ca + 1 + length cb) (page_of m1 st) ob)
        → Runs g code n (k + length (choose_code ce ca cb)) (page_of m st) ob
    second c run =
        let place : k + length ce + 2 + (length ca + 1) ≡ k + length ce + 2 + length ca + 1 = omega arith in
        ends_at n _ _ (page_of m st) ob total (after n _ c.steps (page_of m st) (page_of c.to st) ob c.by (run c.to (subst (λ i. Ready g i 0 st c.to) place c.ready)))

    pub choose_runs : (v : ℕ) → Evaluates g code st (k + length ce) 0 v m
        → ((m1 : Machine) → Ready g (k + length ce + 2) 0 st m1 → Runs g code n (k + length ce + 2 + length ca) (page_of m1 st) oa)
        → ((m1 : Machine) → Ready g (k + length ce + 2 + length ca + 1) 0 st m1 → Runs g code n (k + length ce + 2 + length ca + 1 + length cb) (page_of m1 st) ob)
        → Runs g code n (k + length (choose_code ce ca cb)) (page_of m st) (at_zero v ob oa)
    choose_runs zero a ra rb = second (skips k (k + length ce) (length ca + 1) st m far (has_front code (k + length ce) (unless (length ca + 1)) _ c1) r a) rb
    choose_runs (suc v) a ra rb =
        let c = enters k (k + length ce) (suc v) v (length ca + 1) st m (has_front code (k + length ce) (unless (length ca + 1)) _ c1) r a refl in
        first c.0 (ra c.0.to c.0.ready)

  -- ---- loops

  module _ (n k : ℕ) (ce ca : List Instr) (test : State → ℕ) (body : State → Outcome) (has : HasAt code k (repeat_code ce ca)) (tested : (st : State) (m : Machine) → Ready g k 0 st m → Evaluates g code st (k + length ce) 0 (test st) m) (bodied : From n (k + length ce + 2) (k + length ce + 2 + length ca) body) where
    l1 : HasAt code (k + length ce) (unless (length ca + 1) ++ (ca ++ Jal 0 (neg_of (4 * (length ce + 2 + length ca))) ∷ []))
    l1 = has_back code k ce _ has

    l3 : HasAt code (k + length ce + 2 + length ca) (Jal 0 (neg_of (4 * (length ce + 2 + length ca))) ∷ [])
    l3 = has_back code (k + length ce + 2) ca _ (has_back code (k + length ce) (unless (length ca + 1)) _ l1)

    over : k + length ce + 2 + (length ca + 1) ≡ k + length (repeat_code ce ca)
    over = omega (arith, length-append ce (unless (length ca + 1) ++ (ca ++ Jal 0 (neg_of (4 * (length ce + 2 + length ca))) ∷ [])), length-append ca (Jal 0 (neg_of (4 * (length ce + 2 + length ca))) ∷ []))

    near_end : length ca + 1 ≤ 2 ^ 18 + 1
    near_end = let last = short (k + length ce + 2 + length ca) _ l3.0 in omega arith

    -- the test is 0
    leaves : (st : State) (m : Machine) → Ready g k 0 st m → Evaluates g code st (k + length ce) 0 0 m → Continues g code (k + length (repeat_code ce ca)) (page_of m st) st
    leaves st m r a =
        subst (λ i. Continues g code i (page_of m st) st) over (skips k (k + length ce) (length ca + 1) st m near_end (has_front code (k + length ce) (unless (length ca + 1)) _ l1) r a)

    -- no turn is left
    cuts : (v : ℕ) (st : State) (m : Machine) → Ready g k 0 st m → Evaluates g code st (k + length ce) 0 v m → Stops g code 0 (page_of m st) Cut st.events
    cuts v st m r a = record {
      steps = a.steps;
      to = page_of a.to st;
      by = a.by;
      has = refl;
      stands = (ap (λ s. stands s (page_of a.to st)) (step_is code short g.ins g.outs (k + length ce) _ a.to l1.0 a.at) ∙ going_if (nat_eq (a.to.regs 10) 0) (next a.to) (jump a.to (pos 8)) (page_of a.to st), omega arith);
      wrote = r.frame.words.written;
    }

    -- the body, and the jump back to the test
    comes_back : (st : State) (m : Machine) → Ready g (k + length ce + 2) 0 st m → Runs g code n k (page_of m st) (body st)
    comes_back st m r =
        ends_at n (k + length ce + 2 + length ca - (length ce + 2 + length ca)) k (page_of m st) (body st) (omega arith) (jump_back n (k + length ce + 2 + length ca) (length ce + 2 + length ca) (page_of m st) (body st) (omega arith) (omega arith) l3.0 (bodied st m r))

    -- one turn, and the others
    turn : (j v : ℕ) (st : State) (m : Machine) → j ≤ n → Ready g k 0 st m → Evaluates g code st (k + length ce) 0 (suc v) m → From j k (k + length (repeat_code ce ca)) (turns j test body) → Runs g code (suc j) (k + length (repeat_code ce ca)) (page_of m st) (then_do (body st) (turns j test body))
    turn j v st m le r a others =
        let c = enters k (k + length ce) (suc v) v (length ca + 1) st m (has_front code (k + length ce) (unless (length ca + 1)) _ l1) r a refl in
        after_turn j _ c.0.steps (page_of m st) (page_of c.0.to st) (then_do (body st) (turns j test body)) c.1 c.0.by (seq_runs j n k (k + length (repeat_code ce ca)) (page_of c.0.to st) (body st) (turns j test body) le (comes_back st c.0.to c.0.ready) others)

    zero_turn : (v : ℕ) (st : State) (m : Machine) → Ready g k 0 st m → Evaluates g code st (k + length ce) 0 v m → Runs g code 0 (k + length (repeat_code ce ca)) (page_of m st) (at_zero v (Goes st) (Over Cut st.events))
    zero_turn zero st m r a = leaves st m r a
    zero_turn (suc v) st m r a = cuts (suc v) st m r a

    next_turn : (j v : ℕ) (st : State) (m : Machine) → j ≤ n → Ready g k 0 st m → Evaluates g code st (k + length ce) 0 v m → From j k (k + length (repeat_code ce ca)) (turns j test body) → Runs g code (suc j) (k + length (repeat_code ce ca)) (page_of m st) (at_zero v (Goes st) (then_do (body st) (turns j test body)))
    next_turn j zero st m le r a others = leaves st m r a
    next_turn j (suc v) st m le r a others = turn j v st m le r a others

    pub repeat_runs : (j : ℕ) → j ≤ n → From j k (k + length (repeat_code ce ca)) (turns j test body)
    repeat_runs zero le st m r = zero_turn (test st) st m r (tested st m r)
    repeat_runs (suc j) le st m r = next_turn j (test st) st m (omega arith) r (tested st m r) (repeat_runs j (omega arith))
