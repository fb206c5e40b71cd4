-- An action's code does what the action does.
use Rattle.std.proofs.Common.{◌≡◌, ℕ, ◌+◌, ◌*◌, ◌<◌, ◌≤◌, ◌≢◌, ◌^◌, ◌==◌, List, [], ◌∷◌, ◌++◌, length, Option, Some, None, refl, sym, ap, ◌∙◌, subst, arith, append_assoc, length-append, Bool, true, false}
use Rattle.std.specs.Prelude.{pos, nat_eq, if◌then◌else◌, slice_index, All}
use Rattle.std.proofs.lemmas.List.Elements.{All-append, All-cons, All-nil, All-head, All-tail}
use Rattle.pld_base.specs.Words.{IsWord, sum_of}
use Rattle.pld_base.specs.Lists.{with, port}
use Rattle.pld_base.specs.Events.{words_written}
use Rattle.pld_base.proofs.Events.{words_written-append}
use Rattle.pld_base.specs.declared.event.Event.{Event}
use Rattle.pld_base.specs.declared.event.Event.TheVariants.{Read as ReadEvent, Write as WriteEvent}
use Rattle.rv_isa.specs.declared.instr.Instr.{Instr}
use Rattle.rv_isa.specs.declared.instr.Instr.TheVariants.{Lw, Sw, Addi, Ebreak}
use Rattle.rv_core.specs.Machine.{Machine, AtRead, AtWrite, Code, load, store, next, place_of, soft_step}
use Rattle.rv_core.specs.Page.{move, moved, resumed, take_word as take_page, standing_at, stands}
use Rattle.rv_core.specs.Process.{page_after}
use Rattle.pld_ast.specs.Program.{Value, Action, Skip, Then, Assign, Store, Read, ReadInto, Write, Choose, Repeat, Return, Program}
use Rattle.pld_ast.specs.Nodes.{value_nodes, action_nodes}
use Rattle.pld_ast.specs.Sound.{IsSound, IsKnownValue, IsKnown}
use Rattle.pld_ast.specs.Meaning.{State, Outcome, Goes, set_scalar, set_element, index_in, value_of, then_do, and_event, take_word, meaning}
use Rattle.rv_back.specs.Code.{push, pop, register_at, set_to, read_from, base_of, address, value_code, unless, read_at, action_code}
use Rattle.rv_back.proofs.Steps.{HasAt, has_front, has_back, IsShort, place_port, page_of, Leads, lead_on, lead_with, line_moves, step_is}
use Rattle.pld_ast.specs.AreWords.{WroteWords}
use Rattle.pld_ast.proofs.WordLaws.{value_word}
use Rattle.rv_back.proofs.Frames.{with_other, past10, StandsAt, stands_at, set_high, Kept, Frame, array_within, frame_same, frame_near, frame_left}
use Rattle.rv_back.proofs.Lines.{Pushed, push_line, Popped, pop_line, aside_line, set_line, store_line, address_line, in_range}
use Rattle.rv_back.proofs.Values.{Ready, Evaluates, ready_after, ready_pushed, evaluates_on, line_gives, value_runs}
use Rattle.rv_back.proofs.Runs.{Continues, Runs, after, ends_at, seq_runs, line_runs, choose_runs, repeat_runs}

-- ---- words that are read and written

if_words : (b : Bool) (xs ys : List ℕ) → All IsWord xs → All IsWord ys → All IsWord (if b then xs else ys)
if_words true xs ys h k = h
if_words false xs ys h k = k

-- one more word is written
wrote_more : (events : List Event) (q v : ℕ) → WroteWords events → IsWord v → WroteWords (events ++ WriteEvent (port q) v ∷ [])
wrote_more events q v h w p =
    let last : All IsWord (words_written (WriteEvent (port q) v ∷ []) p) = if_words (q == p) (v ∷ []) [] (All-cons IsWord v [] w (All-nil IsWord)) (All-nil IsWord) in
    subst (All IsWord) (sym (words_written-append events (WriteEvent (port q) v ∷ []) p)) (All-append IsWord (words_written events p) (words_written (WriteEvent (port q) v ∷ []) p) (h p) last)

-- one more word is read
wrote_same : (events : List Event) (q v : ℕ) → WroteWords events → WroteWords (events ++ ReadEvent (port q) v ∷ [])
wrote_same events q v h p =
    subst (All IsWord) (sym (words_written-append events (ReadEvent (port q) v ∷ []) p)) (All-append IsWord (words_written events p) [] (h p) (All-nil IsWord))

-- the state after a read
abbrev read_state : State → ℕ → ℕ → List ℕ → State
read_state st q w ws = record st { left = with st.left q ws; events = st.events ++ ReadEvent (port q) w ∷ [] }

module _ (g : Program) (sound : IsSound g) (code : Code) (short : IsShort code) where
  -- a run once a value is in x10
  then_runs : (n j k v : ℕ) (st : State) (m : Machine) (o : Outcome) → Ready g j 0 st m → (a : Evaluates g code st k 0 v m) → (i : ℕ) → (Ready g k 0 st a.to → Runs g code n i (page_of a.to st) o) → Runs g code n i (page_of m st) o
  then_runs n j k v st m o r a i run =
      after g sound code short n i a.steps (page_of m st) (page_of a.to st) o a.by (run (ready_after g sound code short st j k 0 v m r a))

  -- a value, with nothing pushed
  value_at : (e : Value) (k : ℕ) (st : State) (m : Machine) → IsKnownValue g e → value_nodes e ≤ 1000 → HasAt code k (value_code g.lengths e) → Ready g k 0 st m → Evaluates g code st (k + length (value_code g.lengths e)) 0 (value_of g.lengths e st) m
  value_at e k st m f few has r = value_runs g sound code short st e k 0 m f (omega arith) has r

  -- ---- ports

  frame_read : (k q w : ℕ) (ws : List ℕ) (st : State) (m : Machine) → Ready g k 0 st m → All IsWord (w ∷ ws) → Ready g k 0 (read_state st q w ws) m
  frame_read k q w ws st m r words =
      let left : (p : ℕ) → All IsWord (with st.left q ws p) = λ p. if_words (nat_eq p q) ws (st.left p) (All-tail IsWord w ws words) (r.frame.words.left p) in
      record { at = r.at; frame = frame_left g sound st m (with st.left q ws) (st.events ++ ReadEvent (port q) w ∷ []) r.frame left (wrote_same st.events q w r.frame.words.written); x2 = r.x2 }

  reads_at : (k q rd : ℕ) (m : Machine) → q < g.ins → code k ≡ Some (Lw rd 9 (pos (4 * q))) → m.pc ≡ 4 * k → m.regs 9 ≡ 0x8000_0000 → soft_step code g.ins g.outs m ≡ AtRead q rd
  reads_at k q rd m h has at x9 =
      let limit = sound.ins in
      let addr : sum_of (m.regs 9) (4 * q) ≡ 0x8000_0000 + 4 * q = omega arith in
      step_is code short g.ins g.outs k _ m has at
      ∙ ap (λ x. load (place_of 0x8000_0000 g.ins x) m rd) addr
      ∙ ap (λ x. load x m rd) (place_port 0x8000_0000 g.ins q h (omega arith) refl)

  -- a read into a register, and what runs from there
  read_runs : (n k j q rd : ℕ) (ws : List ℕ) (st : State) (m : Machine) (f : ℕ → State → Outcome) → q < g.ins → code k ≡ Some (Lw rd 9 (pos (4 * q))) → Ready g k 0 st m → st.left q ≡ ws
      → ((w : ℕ) (rest : List ℕ) → IsWord w → Ready g k 0 (read_state st q w rest) m → Runs g code n j (page_of (resumed m rd w) (read_state st q w rest)) (f w (read_state st q w rest)))
      → Runs g code n j (page_of m st) (take_word q ws st f)
  read_runs n k j q rd [] st m f h has r e run = record {
    steps = 0;
    to = page_of m st;
    by = refl;
    has = refl;
    stands = ap (λ s. stands s (page_of m st)) (reads_at k q rd m h has r.at r.frame.x9) ∙ ap (standing_at q) e;
    wrote = r.frame.words.written;
  }
  read_runs n k j q rd (w ∷ ws) st m f h has r e run =
      let words : All IsWord (w ∷ ws) = subst (All IsWord) e (r.frame.words.left q) in
      let step : move code g.ins g.outs (page_of m st) ≡ page_of (resumed m rd w) (read_state st q w ws) = ap (λ s. moved s (page_of m st)) (reads_at k q rd m h has r.at r.frame.x9) ∙ ap (λ l. take_page q rd l (page_of m st)) e in
      after g sound code short n j 1 (page_of m st) (page_of (resumed m rd w) (read_state st q w ws)) (f w (read_state st q w ws)) step (run w ws (All-head IsWord w ws words) (frame_read k q w ws st m r words))

  -- after a read into x10
  ready_read : (k w : ℕ) (st : State) (m : Machine) → k < 2 ^ 18 → Ready g k 0 st m → Ready g (k + 1) 0 st (resumed m 10 w)
  ready_read k w st m room r =
      let at = r.at in
      let there : sum_of m.pc 4 ≡ 4 * (k + 1) = omega arith in
      record { at = there; frame = frame_same g sound st m (resumed m 10 w) r.frame refl refl (λ q l. past10 _ _ q l) (λ x l. refl); x2 = r.x2 }

  write_runs : (k q v : ℕ) (st : State) (m : Machine) → q < g.outs → IsWord v → code k ≡ Some (Sw 9 10 (pos (256 + 4 * q))) → Ready g k 0 st m → m.regs 10 ≡ v → Continues g code (k + 1) (page_of m st) (and_event st (WriteEvent (port q) v))
  write_runs k q v st m h w has r e =
      let limit = sound.outs in
      let room = short k _ has in
      let at = r.at in
      let x9 = r.frame.x9 in
      let there : sum_of m.pc 4 ≡ 4 * (k + 1) = omega arith in
      let addr : sum_of (m.regs 9) (256 + 4 * q) ≡ 0x8000_0100 + 4 * q = omega arith in
      let step : soft_step code g.ins g.outs m ≡ AtWrite q (m.regs 10) = step_is code short g.ins g.outs k _ m has at ∙ ap (λ x. store (place_of 0x8000_0100 g.outs x) m (m.regs 10)) addr ∙ ap (λ x. store x m (m.regs 10)) (place_port 0x8000_0100 g.outs q h (omega arith) refl) in
      let written = frame_left g sound st m st.left (st.events ++ WriteEvent (port q) v ∷ []) r.frame r.frame.words.left (wrote_more st.events q v r.frame.words.written w) in
      record {
        steps = 1;
        to = next m;
        by = ap (λ s. moved s (page_of m st)) step ∙ ap (λ x. page_of (next m) (and_event st (WriteEvent (port q) x))) e;
        ready = record { at = there; frame = frame_same g sound (and_event st (WriteEvent (port q) v)) m (next m) written refl refl (λ p l. refl) (λ x l. refl); x2 = r.x2 };
      }

  -- ---- scalars

  store_scalar : (k s v : ℕ) (o : Option ℕ) (st : State) (m : Machine) → s < g.scalars → IsWord v → StandsAt s o → HasAt code k (set_to o s) → Ready g k 0 st m → m.regs 10 ≡ v → Continues g code (k + length (set_to o s)) (page_of m st) (set_scalar st s v)
  store_scalar k s v o st m h w place has r e =
      line_runs g sound code short k (set_to o s) st (set_scalar st s v) m has r refl refl (set_line g sound s v o st m h w place e r.frame)

  -- a word that was read into a scalar's register
  read_near : (k s w q : ℕ) (st : State) (m : Machine) → q ≡ 12 + s → s < 20 → k < 2 ^ 18 → IsWord w → Ready g k 0 st m → Continues g code (k + 1) (page_of (resumed m q w) st) (set_scalar st s w)
  read_near k s w q st m place near room word r =
      let at = r.at in
      let there : sum_of m.pc 4 ≡ 4 * (k + 1) = omega arith in
      let to : Machine = next (record m { regs = with m.regs q w }) in
      record {
        steps = 0;
        to = to;
        by = ap (λ x. page_of (next x) st) (set_high m q w (omega arith));
        ready = record {
          at = there;
          frame = frame_near g sound st m to s w r.frame near word (ap (λ n. with m.regs n w) place) refl;
          x2 = with_other m.regs q w 2 (let n : 2 ≢ q = omega arith in n) ∙ r.x2;
        };
      }

  read_scalar : (n k s q : ℕ) (o : Option ℕ) (st : State) (m : Machine) → s < g.scalars → q < g.ins → StandsAt s o → HasAt code k (read_from o s q) → Ready g k 0 st m
      → Runs g code n (k + length (read_from o s q)) (page_of m st) (take_word q (st.left q) st (λ w st1. Goes (set_scalar st1 s w)))
  read_scalar n k s q (Some x) st m h hq place has r =
      let room = short k _ has.0 in
      read_runs n k (k + 1) q x (st.left q) st m (λ w st1. Goes (set_scalar st1 s w)) hq has.0 r refl (λ w rest word r1. read_near k s w x (read_state st q w rest) m place.0 place.1 room word r1)
  read_scalar n k s q None st m h hq place has r =
      let room = short k _ has.0 in
      let len : k + 1 + 1 ≡ k + 2 = omega arith in
      read_runs n k (k + 2) q 10 (st.left q) st m (λ w st1. Goes (set_scalar st1 s w)) hq has.0 r refl (λ w rest word r1. subst (λ i. Continues g code i (page_of (resumed m 10 w) (read_state st q w rest)) (set_scalar (read_state st q w rest) s w)) len (store_scalar (k + 1) s w None (read_state st q w rest) (resumed m 10 w) h word place has.1 (ready_read k w (read_state st q w rest) m room r1) refl))

  -- ---- elements

  -- an index and its array, as an address in x10
  address_at : (e : Value) (t k : ℕ) (st : State) (m : Machine) → t < length g.lengths → IsKnownValue g e → value_nodes e ≤ 1000 → HasAt code k (value_code g.lengths e ++ address g.lengths t) → Ready g k 0 st m
      → Evaluates g code st (k + length (value_code g.lengths e) + length (address g.lengths t)) 0 (0x20000 + 4 * (base_of g.lengths t + index_in g.lengths t (value_of g.lengths e st))) m
  address_at e t k st m h f few has r =
      let ce = value_code g.lengths e in
      let v = value_of g.lengths e st in
      let a = value_at e k st m f few (has_front code k ce _ has) r in
      evaluates_on g sound code short st (k + length ce) _ 0 v _ m a (line_gives g sound code short st (k + length ce) 0 _ (address g.lengths t) a.to (has_back code k ce _ has) a.at (omega arith) (address_line g sound t v a.to h a.value))

  -- from a value in x10, to the address that was pushed
  popped_store : (t i v : ℕ) (st : State) (m m1 m2 : Machine) → t < length g.lengths → i < slice_index g.lengths t → IsWord v → m.regs 10 ≡ 0x20000 + 4 * (base_of g.lengths t + i) → m2.regs 10 ≡ v → Pushed 0 m m1 → Kept 1 m1 m2 → Frame g st m2
      → Leads g.ins g.outs (pop ++ Sw 11 10 (pos 0) ∷ []) m2 (λ to. Frame g (set_element st t i v) to × (to.regs 2 ≡ 0x28100))
  popped_store t i v st m m1 m2 h hi w x10 e pu kept f = lead_on (pop_line g.ins g.outs 0 m2 (kept.x2 ∙ pu.x2) (omega arith)) write
    where
      write : (m3 : Machine) → Popped 0 m2 m3 → Leads g.ins g.outs (Sw 11 10 (pos 0) ∷ []) m3 (λ to. Frame g (set_element st t i v) to × (to.regs 2 ≡ 0x28100))
      write m3 po =
          let x11 : m3.regs 11 ≡ 0x20000 + 4 * (base_of g.lengths t + i) = po.x11 ∙ kept.ram 8256 (omega arith) ∙ pu.top ∙ x10 in
          lead_with (store_line g sound t i v st m3 h hi w (po.x10 ∙ e) x11 (frame_same g sound st m2 m3 f po.x8 po.x9 po.high (λ x l. po.ram x))) (λ to b. (b.0, b.1 ∙ po.x2))

  -- a value, while an address is pushed
  pushed_value : (k t i : ℕ) (e : Value) (st : State) (m : Machine) → t < length g.lengths → i < slice_index g.lengths t → IsKnownValue g e → value_nodes e ≤ 1000 → HasAt code k (push ++ (value_code g.lengths e ++ (pop ++ Sw 11 10 (pos 0) ∷ []))) → Ready g k 0 st m → m.regs 10 ≡ 0x20000 + 4 * (base_of g.lengths t + i)
      → Continues g code (k + length (push ++ (value_code g.lengths e ++ (pop ++ Sw 11 10 (pos 0) ∷ [])))) (page_of m st) (set_element st t i (value_of g.lengths e st))
  pushed_value k t i e st m h hi f few has r x10 = by_push (push_line g.ins g.outs 0 m r.x2 (omega arith))
    where
      ce : List Instr
      ce = value_code g.lengths e

      v : ℕ
      v = value_of g.lengths e st

      rest : List Instr
      rest = pop ++ Sw 11 10 (pos 0) ∷ []

      has2 : HasAt code (k + 2) (ce ++ rest)
      has2 = has_back code k push (ce ++ rest) has

      total : k + 2 + length ce + length rest ≡ k + length (push ++ (ce ++ rest))
      total = omega (arith, length-append ce rest)

      by_value : (m1 : Machine) → page_after code g.ins g.outs 2 (page_of m st) ≡ page_of m1 st → Pushed 0 m m1 → Ready g (k + 2) 1 st m1 → Evaluates g code st (k + 2 + length ce) 1 v m1 → Continues g code (k + length (push ++ (ce ++ rest))) (page_of m st) (set_element st t i v)
      by_value m1 two pu r1 a =
          let r2 = ready_after g sound code short st (k + 2) (k + 2 + length ce) 1 v m1 r1 a in
          let last = popped_store t i v st m m1 a.to h hi (value_word g e st f r.frame.words) x10 a.value pu a.kept r2.frame in
          let moves = line_moves code short g.ins g.outs rest (k + 2 + length ce) a.to last.to st.left st.events (has_back code (k + 2) ce rest has2) a.at last.line in
          let ready : Ready g (k + 2 + length ce + length rest) 0 (set_element st t i v) last.to = record { at = moves.1; frame = last.holds.0; x2 = last.holds.1 } in
          let stored : Continues g code (k + 2 + length ce + length rest) (page_of a.to st) (set_element st t i v) = record { steps = length rest; to = last.to; by = moves.0; ready = ready } in
          subst (λ p. Continues g code p (page_of m st) (set_element st t i v)) total (after g sound code short 0 _ 2 (page_of m st) (page_of m1 st) (Goes (set_element st t i v)) two (after g sound code short 0 _ a.steps (page_of m1 st) (page_of a.to st) (Goes (set_element st t i v)) a.by stored))

      by_push : Leads g.ins g.outs push m (Pushed 0 m) → Continues g code (k + length (push ++ (ce ++ rest))) (page_of m st) (set_element st t i v)
      by_push a =
          let first = line_moves code short g.ins g.outs push k m a.to st.left st.events (has_front code k push (ce ++ rest) has) r.at a.line in
          let r1 = ready_pushed g sound code short st k 0 m a.to r first.1 a.holds in
          by_value a.to first.0 a.holds r1 (value_runs g sound code short st e (k + 2) 1 a.to f (omega arith) (has_front code (k + 2) ce rest has2) r1)

  -- the address is in x11, and the word to be stored there in x10
  store_element : (k t i v : ℕ) (st : State) (m : Machine) → t < length g.lengths → i < slice_index g.lengths t → IsWord v → code k ≡ Some (Sw 11 10 (pos 0)) → Ready g k 0 st m → m.regs 10 ≡ v → m.regs 11 ≡ 0x20000 + 4 * (base_of g.lengths t + i) → Continues g code (k + 1) (page_of m st) (set_element st t i v)
  store_element k t i v st m h hi w has r e x11 =
      line_runs g sound code short k (Sw 11 10 (pos 0) ∷ []) st (set_element st t i v) m (has, tt) r refl refl (store_line g sound t i v st m h hi w e x11 r.frame)

  -- a read into an element, whose address is in x11
  read_beside : (n k t i q : ℕ) (st : State) (m : Machine) → t < length g.lengths → i < slice_index g.lengths t → q < g.ins → HasAt code k (Lw 10 9 (pos (4 * q)) ∷ Sw 11 10 (pos 0) ∷ []) → Ready g k 0 st m → m.regs 11 ≡ 0x20000 + 4 * (base_of g.lengths t + i)
      → Runs g code n (k + 1 + 1) (page_of m st) (take_word q (st.left q) st (λ w st1. Goes (set_element st1 t i w)))
  read_beside n k t i q st m h hi hq has r x11 =
      let room = short k _ has.0 in
      read_runs n k (k + 1 + 1) q 10 (st.left q) st m (λ w st1. Goes (set_element st1 t i w)) hq has.0 r refl (λ w rest word r1. store_element (k + 1) t i w (read_state st q w rest) (resumed m 10 w) h hi word has.1.0 (ready_read k w (read_state st q w rest) m room r1) refl x11)

  -- a read into an element, whose address is in x10
  read_element : (n k t i q : ℕ) (st : State) (m : Machine) → t < length g.lengths → i < slice_index g.lengths t → q < g.ins → HasAt code k (read_at q) → Ready g k 0 st m → m.regs 10 ≡ 0x20000 + 4 * (base_of g.lengths t + i)
      → Runs g code n (k + 3) (page_of m st) (take_word q (st.left q) st (λ w st1. Goes (set_element st1 t i w)))
  read_element n k t i q st m h hi hq has r x10 =
      by_aside (aside_line g.ins g.outs (0x20000 + 4 * (base_of g.lengths t + i)) m (let last = array_within g sound t i h hi in omega arith) x10)
    where
      o : Outcome
      o = take_word q (st.left q) st (λ w st1. Goes (set_element st1 t i w))

      len : k + 1 + 1 + 1 ≡ k + 3
      len = omega arith

      by_aside : Leads g.ins g.outs (Addi 11 10 (pos 0) ∷ []) m (λ to. (to.regs 11 ≡ 0x20000 + 4 * (base_of g.lengths t + i)) × Kept 8128 m to) → Runs g code n (k + 3) (page_of m st) o
      by_aside a =
          let moves = line_moves code short g.ins g.outs (Addi 11 10 (pos 0) ∷ []) k m a.to st.left st.events (has.0, tt) r.at a.line in
          let kept = a.holds.1 in
          let r1 : Ready g (k + 1) 0 st a.to = record { at = moves.1; frame = frame_same g sound st m a.to r.frame kept.x8 kept.x9 kept.high (λ w l. kept.ram w (omega arith)); x2 = kept.x2 ∙ r.x2 } in
          ends_at g sound code short n (k + 1 + 1 + 1) (k + 3) (page_of m st) o len (after g sound code short n _ 1 (page_of m st) (page_of a.to st) o moves.0 (read_beside n (k + 1) t i q st a.to h hi hq has.1 r1 a.holds.0))

  -- ---- actions

  pub action_runs : (a : Action) (n k : ℕ) (st : State) (m : Machine) → IsKnown g a → action_nodes a ≤ 1000 → HasAt code k (action_code g.lengths a) → Ready g k 0 st m → Runs g code n (k + length (action_code g.lengths a)) (page_of m st) (meaning g.lengths a n st)
  action_runs Skip n k st m f few has r =
      let e : k ≡ k + 0 = omega arith in
      record { steps = 0; to = m; by = refl; ready = subst (λ i. Ready g i 0 st m) e r }
  action_runs (Then a b) n k st m f few has r =
      let ca = action_code g.lengths a in
      let cb = action_code g.lengths b in
      let first = action_runs a n k st m f.0 (omega arith) (has_front code k ca cb has) r in
      ends_at g sound code short n (k + length ca + length cb) (k + length (ca ++ cb)) (page_of m st) (then_do (meaning g.lengths a n st) (meaning g.lengths b n)) (omega (arith, length-append ca cb)) (seq_runs g sound code short n n (k + length ca) (k + length ca + length cb) (page_of m st) (meaning g.lengths a n st) (meaning g.lengths b n) (omega arith) first (λ st1 m1 r1. action_runs b n (k + length ca) st1 m1 f.1 (omega arith) (has_back code k ca cb has) r1))
  action_runs (Assign s e) n k st m f few has r =
      let ce = value_code g.lengths e in
      let cs = set_to (register_at s) s in
      let v = value_of g.lengths e st in
      let a = value_at e k st m f.1 (omega arith) (has_front code k ce cs has) r in
      ends_at g sound code short n (k + length ce + length cs) (k + length (ce ++ cs)) (page_of m st) (Goes (set_scalar st s v)) (omega (arith, length-append ce cs)) (then_runs n k (k + length ce) v st m (Goes (set_scalar st s v)) r a (k + length ce + length cs) (λ r1. store_scalar (k + length ce) s v (register_at s) st a.to f.0 (value_word g e st f.1 r.frame.words) (stands_at s) (has_back code k ce cs has) r1 a.value))
  action_runs (Store t i e) n k st m f few has r =
      let ci = value_code g.lengths i in
      let ad = address g.lengths t in
      let rest = push ++ (value_code g.lengths e ++ (pop ++ Sw 11 10 (pos 0) ∷ [])) in
      let has' : HasAt code k ((ci ++ ad) ++ rest) = subst (HasAt code k) (sym (append_assoc ci ad rest)) has in
      let j = k + length ci + length ad in
      let x = index_in g.lengths t (value_of g.lengths i st) in
      let addr = 0x20000 + 4 * (base_of g.lengths t + x) in
      let o = Goes (set_element st t x (value_of g.lengths e st)) in
      let a = address_at i t k st m f.0 f.1 (omega arith) (has_front code k (ci ++ ad) rest has') r in
      ends_at g sound code short n (j + length rest) (k + length (ci ++ (ad ++ rest))) (page_of m st) o (omega (arith, length-append ci (ad ++ rest), length-append ad rest)) (then_runs n k j addr st m o r a (j + length rest) (λ r1. pushed_value j t x e st a.to f.0 (in_range g sound t (value_of g.lengths i st) f.0) f.2 (omega arith) (has_back code (k + length ci) ad rest (has_back code k ci _ has)) r1 a.value))
  action_runs (Read s q) n k st m f few has r = read_scalar n k s q (register_at s) st m f.0 f.1 (stands_at s) has r
  action_runs (ReadInto t i q) n k st m f few has r =
      let ci = value_code g.lengths i in
      let ad = address g.lengths t in
      let rest = read_at q in
      let has' : HasAt code k ((ci ++ ad) ++ rest) = subst (HasAt code k) (sym (append_assoc ci ad rest)) has in
      let j = k + length ci + length ad in
      let x = index_in g.lengths t (value_of g.lengths i st) in
      let addr = 0x20000 + 4 * (base_of g.lengths t + x) in
      let o = take_word q (st.left q) st (λ w st1. Goes (set_element st1 t x w)) in
      let a = address_at i t k st m f.0 f.1 (omega arith) (has_front code k (ci ++ ad) rest has') r in
      ends_at g sound code short n (j + 3) (k + length (ci ++ (ad ++ rest))) (page_of m st) o (omega (arith, length-append ci (ad ++ rest), length-append ad rest)) (then_runs n k j addr st m o r a (j + 3) (λ r1. read_element n j t x q st a.to f.0 (in_range g sound t (value_of g.lengths i st) f.0) f.2 (has_back code (k + length ci) ad rest (has_back code k ci _ has)) r1 a.value))
  action_runs (Write q e) n k st m f few has r =
      let ce = value_code g.lengths e in
      let rest = Sw 9 10 (pos (256 + 4 * q)) ∷ [] in
      let v = value_of g.lengths e st in
      let o = Goes (and_event st (WriteEvent (port q) v)) in
      let a = value_at e k st m f.1 (omega arith) (has_front code k ce rest has) r in
      ends_at g sound code short n (k + length ce + 1) (k + length (ce ++ rest)) (page_of m st) o (omega (arith, length-append ce rest)) (then_runs n k (k + length ce) v st m o r a (k + length ce + 1) (λ r1. write_runs (k + length ce) q v st a.to f.0 (value_word g e st f.1 r.frame.words) (has_back code k ce rest has).0 r1 a.value))
  action_runs (Choose e a b) n k st m f few has r =
      let ce = value_code g.lengths e in
      let ca = action_code g.lengths a in
      let cb = action_code g.lengths b in
      let h2 = has_back code (k + length ce) (unless (length ca + 1)) _ (has_back code k ce _ has) in
      let h3 = has_back code (k + length ce + 2) ca _ h2 in
      choose_runs g sound code short n k ce ca cb st m (meaning g.lengths a n st) (meaning g.lengths b n st) has r (value_of g.lengths e st) (value_at e k st m f.0 (omega arith) (has_front code k ce _ has) r) (λ m1 r1. action_runs a n (k + length ce + 2) st m1 f.1 (omega arith) (has_front code _ ca _ h2) r1) (λ m1 r1. action_runs b n (k + length ce + 2 + length ca + 1) st m1 f.2 (omega arith) h3.1 r1)
  action_runs (Repeat e a) n k st m f few has r =
      let ce = value_code g.lengths e in
      let ca = action_code g.lengths a in
      let h2 = has_back code (k + length ce) (unless (length ca + 1)) _ (has_back code k ce _ has) in
      repeat_runs g sound code short n k ce ca (value_of g.lengths e) (meaning g.lengths a n) has (λ st1 m1 r1. value_at e k st1 m1 f.0 (omega arith) (has_front code k ce _ has) r1) (λ st1 m1 r1. action_runs a n (k + length ce + 2) st1 m1 f.1 (omega arith) (has_front code _ ca _ h2) r1) n (omega arith) st m r
  action_runs Return n k st m f few has r =
      record { steps = 0; to = page_of m st; by = refl; has = refl; stands = ap (λ s. stands s (page_of m st)) (step_is code short g.ins g.outs k Ebreak m has.0 r.at); wrote = r.frame.words.written }
