-- A value's code leaves it in x10.
use Rattle.std.proofs.Common.{◌≡◌, ℕ, ◌+◌, ◌*◌, ◌<◌, ◌≤◌, List, [], ◌∷◌, ◌++◌, length, refl, sym, ◌∙◌, subst, le_refl, arith, length-append, Bool, true, false}
use Rattle.std.specs.Prelude.{pos}
use Rattle.pld_base.specs.Words.{IsWord}
use Rattle.rv_isa.specs.declared.instr.Instr.{Instr}
use Rattle.rv_isa.specs.declared.instr.Instr.TheVariants.{Lw}
use Rattle.rv_core.specs.Machine.{Machine, Code}
use Rattle.rv_core.specs.Process.{page_after}
use Rattle.pld_ast.specs.Program.{Operation2, Value, Number, Scalar, Element, Op1, Op2, Program}
use Rattle.pld_ast.specs.Nodes.{value_nodes}
use Rattle.pld_ast.specs.Sound.{IsSound, IsKnownValue}
use Rattle.pld_ast.specs.Meaning.{State, binary_of, value_of}
use Rattle.rv_back.specs.Code.{push, pop, address, op1_code, op2_code, is_short, set_aside, bring_back, value_code}
use Rattle.rv_back.proofs.Steps.{HasAt, has_front, has_back, IsShort, page_of, Leads, lead_on, lead_with, line_moves, moves_on}
use Rattle.pld_ast.proofs.WordLaws.{value_word}
use Rattle.rv_back.proofs.Frames.{Kept, kept_on, Gives, Frame, frame_same, frame_kept}
use Rattle.rv_back.proofs.Lines.{op1_gives, op2_gives, Pushed, push_line, Popped, pop_line, aside_line, GivesAside, short_line, element_line}

-- the code stands at place k with these variables, and d words are pushed
pub record Ready (g : Program) (k d : ℕ) (st : State) (m : Machine) : Type 0 where
  pub at : m.pc ≡ 4 * k
  pub frame : Frame g st m
  pub x2 : m.regs 2 ≡ 0x28100 + 4 * d

-- from this machine the code comes to place k with v in x10, and keeps the rest
pub record Evaluates (g : Program) (code : Code) (st : State) (k d v : ℕ) (m : Machine) : Type 0 where
  pub steps : ℕ
  pub to : Machine
  pub by : page_after code g.ins g.outs steps (page_of m st) ≡ page_of to st
  pub at : to.pc ≡ 4 * k
  pub value : to.regs 10 ≡ v
  pub kept : Kept d m to

module _ (g : Program) (sound : IsSound g) (code : Code) (short : IsShort code) (st : State) where
  pub ready_after : (j k d v : ℕ) (m : Machine) → Ready g j d st m → (a : Evaluates g code st k d v m) → Ready g k d st a.to
  ready_after j k d v m r a = record { at = a.at; frame = frame_kept g sound st d m a.to r.frame a.kept; x2 = a.kept.x2 ∙ r.x2 }

  ends_at : (k j d v : ℕ) (m : Machine) → k ≡ j → Evaluates g code st k d v m → Evaluates g code st j d v m
  ends_at k j d v m e a = subst (λ n. Evaluates g code st n d v m) e a

  -- one value, and another from there
  pub evaluates_on : (j k d u v : ℕ) (m : Machine) → (a : Evaluates g code st j d u m) → Evaluates g code st k d v a.to → Evaluates g code st k d v m
  evaluates_on j k d u v m a b = record {
    steps = a.steps + b.steps;
    to = b.to;
    by = moves_on code short g.ins g.outs a.steps b.steps (page_of m st) (page_of a.to st) (page_of b.to st) a.by b.by;
    at = b.at;
    value = b.value;
    kept = kept_on (le_refl d) a.kept b.kept;
  }

  -- a stretch that gives a value
  pub line_gives : (k d v : ℕ) (is : List Instr) (m : Machine) → HasAt code k is → m.pc ≡ 4 * k → d ≤ 8128 → Leads g.ins g.outs is m (Gives v m) → Evaluates g code st (k + length is) d v m
  line_gives k d v is m has at deep a =
      let r = line_moves code short g.ins g.outs is k m a.to st.left st.events has at a.line in
      record {
        steps = length is;
        to = a.to;
        by = r.0;
        at = r.1;
        value = a.holds.x10;
        kept = record {
          x2 = a.holds.kept.x2;
          x8 = a.holds.kept.x8;
          x9 = a.holds.kept.x9;
          high = a.holds.kept.high;
          ram = λ w h. a.holds.kept.ram w (omega arith);
        };
      }

  -- ---- operations

  -- from the left operand in x10, by a short right operand
  beside_line : (o : Operation2) (q : Value) (u : ℕ) (m : Machine) → is_short q ≡ true → IsKnownValue g q → IsWord u → m.regs 10 ≡ u → Frame g st m
      → Leads g.ins g.outs (set_aside true ++ (value_code g.lengths q ++ (bring_back true ++ op2_code o))) m (Gives (binary_of o u (value_of g.lengths q st)) m)
  beside_line o q u m is f w e frame = lead_on (aside_line g.ins g.outs u m w e) right
    where
      operate : (m1 m2 : Machine) → m1.regs 11 ≡ u → Kept 8128 m m1 → GivesAside (value_of g.lengths q st) m1 m2 → Leads g.ins g.outs (op2_code o) m2 (Gives (binary_of o u (value_of g.lengths q st)) m)
      operate m1 m2 x11 kept a =
          lead_with (op2_gives g.ins g.outs m2 o u (value_of g.lengths q st) w (value_word g q st f frame.words) (a.x11 ∙ x11) a.given.x10) (λ to b. record { x10 = b.x10; kept = kept_on (le_refl 8128) (kept_on (le_refl 8128) kept a.given.kept) b.kept })

      right : (m1 : Machine) → (m1.regs 11 ≡ u) × Kept 8128 m m1 → Leads g.ins g.outs (value_code g.lengths q ++ (bring_back true ++ op2_code o)) m1 (Gives (binary_of o u (value_of g.lengths q st)) m)
      right m1 h = lead_on (short_line g sound q st m1 is f (frame_kept g sound st 8128 m m1 frame h.1)) (λ m2 a. operate m1 m2 h.0 h.1 a)

  kept_around : (d : ℕ) (m0 m1 m2 m3 m4 : Machine) → d < 8128 → m0.regs 2 ≡ 0x28100 + 4 * d → Pushed d m0 m1 → Kept (d + 1) m1 m2 → Popped d m2 m3 → Kept 8128 m3 m4 → Kept d m0 m4
  kept_around d m0 m1 m2 m3 m4 deep x2 pu b po o = record {
    x2 = o.x2 ∙ po.x2 ∙ sym x2;
    x8 = o.x8 ∙ po.x8 ∙ b.x8 ∙ pu.x8;
    x9 = o.x9 ∙ po.x9 ∙ b.x9 ∙ pu.x9;
    high = λ r l. o.high r l ∙ po.high r l ∙ b.high r l ∙ pu.high r l;
    ram = λ w h. o.ram w (omega arith) ∙ po.ram w ∙ b.ram w (omega arith) ∙ pu.ram w h;
  }

  -- from the right operand in x10, by the left one that was pushed
  popped_line : (o : Operation2) (d u v : ℕ) (m0 m1 m2 : Machine) → d < 8128 → m0.regs 2 ≡ 0x28100 + 4 * d → IsWord u → IsWord v → m0.regs 10 ≡ u → m2.regs 10 ≡ v → Pushed d m0 m1 → Kept (d + 1) m1 m2
      → Leads g.ins g.outs (pop ++ op2_code o) m2 (λ to. (to.regs 10 ≡ binary_of o u v) × Kept d m0 to)
  popped_line o d u v m0 m1 m2 deep x2 wu wv e f pu kept =
      lead_on (pop_line g.ins g.outs d m2 (kept.x2 ∙ pu.x2) deep) operate
    where
      operate : (m3 : Machine) → Popped d m2 m3 → Leads g.ins g.outs (op2_code o) m3 (λ to. (to.regs 10 ≡ binary_of o u v) × Kept d m0 to)
      operate m3 po =
          let x11 : m3.regs 11 ≡ u = po.x11 ∙ kept.ram (8256 + d) (omega arith) ∙ pu.top ∙ e in
          lead_with (op2_gives g.ins g.outs m3 o u v wu wv x11 (po.x10 ∙ f)) (λ to b. (b.x10, kept_around d m0 m1 m2 m3 to deep x2 pu kept po b.kept))

  pub ready_pushed : (k d : ℕ) (m m1 : Machine) → Ready g k d st m → m1.pc ≡ 4 * (k + 2) → Pushed d m m1 → Ready g (k + 2) (d + 1) st m1
  ready_pushed k d m m1 r at pu =
      record { at = at; frame = frame_same g sound st m m1 r.frame pu.x8 pu.x9 pu.high (λ w h. pu.ram w (omega arith)); x2 = pu.x2 }

  -- from the left operand in x10, by a right operand that comes after a push
  pushed_runs : (o : Operation2) (k d u v : ℕ) (cq : List Instr) (m : Machine) → d < 8128 → IsWord u → IsWord v → Ready g k d st m → m.regs 10 ≡ u → HasAt code k (push ++ (cq ++ (pop ++ op2_code o)))
      → ((m1 : Machine) → Ready g (k + 2) (d + 1) st m1 → Evaluates g code st (k + 2 + length cq) (d + 1) v m1)
      → Evaluates g code st (k + length (push ++ (cq ++ (pop ++ op2_code o)))) d (binary_of o u v) m
  pushed_runs o k d u v cq m deep wu wv r e has second = by_push (push_line g.ins g.outs d m r.x2 deep)
    where
      rest : HasAt code (k + 2 + length cq) (pop ++ op2_code o)
      rest = has_back code (k + 2) cq (pop ++ op2_code o) (has_back code k push _ has)

      total : 4 * (k + 2 + length cq + length (pop ++ op2_code o)) ≡ 4 * (k + length (push ++ (cq ++ (pop ++ op2_code o))))
      total = omega (arith, length-append cq (pop ++ op2_code o))

      by_pop : (m1 : Machine) → page_after code g.ins g.outs 2 (page_of m st) ≡ page_of m1 st → (b : Evaluates g code st (k + 2 + length cq) (d + 1) v m1) → Leads g.ins g.outs (pop ++ op2_code o) b.to (λ to. (to.regs 10 ≡ binary_of o u v) × Kept d m to)
          → Evaluates g code st (k + length (push ++ (cq ++ (pop ++ op2_code o)))) d (binary_of o u v) m
      by_pop m1 two b a =
          let len = length (pop ++ op2_code o) in
          let last = line_moves code short g.ins g.outs (pop ++ op2_code o) (k + 2 + length cq) b.to a.to st.left st.events rest b.at a.line in
          let middle = moves_on code short g.ins g.outs b.steps len (page_of m1 st) (page_of b.to st) (page_of a.to st) b.by last.0 in
          record {
            steps = 2 + (b.steps + len);
            to = a.to;
            by = moves_on code short g.ins g.outs 2 (b.steps + len) (page_of m st) (page_of m1 st) (page_of a.to st) two middle;
            at = last.1 ∙ total;
            value = a.holds.0;
            kept = a.holds.1;
          }

      by_second : (m1 : Machine) → page_after code g.ins g.outs 2 (page_of m st) ≡ page_of m1 st → Pushed d m m1 → Evaluates g code st (k + 2 + length cq) (d + 1) v m1 → Evaluates g code st (k + length (push ++ (cq ++ (pop ++ op2_code o)))) d (binary_of o u v) m
      by_second m1 two pu b = by_pop m1 two b (popped_line o d u v m m1 b.to deep r.x2 wu wv e b.value pu b.kept)

      by_push : Leads g.ins g.outs push m (Pushed d m) → Evaluates g code st (k + length (push ++ (cq ++ (pop ++ op2_code o)))) d (binary_of o u v) m
      by_push a =
          let first = line_moves code short g.ins g.outs push k m a.to st.left st.events (has_front code k push _ has) r.at a.line in
          by_second a.to first.0 a.holds (second a.to (ready_pushed k d m a.to r first.1 a.holds))

  -- from the left operand in x10
  pair_runs : (short_right : Bool) (o : Operation2) (q : Value) (k d u : ℕ) (m : Machine) → is_short q ≡ short_right → IsKnownValue g q → d < 8128 → IsWord u → Ready g k d st m → m.regs 10 ≡ u
      → HasAt code k (set_aside short_right ++ (value_code g.lengths q ++ (bring_back short_right ++ op2_code o)))
      → ((m1 : Machine) → HasAt code (k + 2) (value_code g.lengths q) → Ready g (k + 2) (d + 1) st m1 → Evaluates g code st (k + 2 + length (value_code g.lengths q)) (d + 1) (value_of g.lengths q st) m1)
      → Evaluates g code st (k + length (set_aside short_right ++ (value_code g.lengths q ++ (bring_back short_right ++ op2_code o)))) d (binary_of o u (value_of g.lengths q st)) m
  pair_runs true o q k d u m is f deep w r e has second =
      line_gives k d (binary_of o u (value_of g.lengths q st)) (set_aside true ++ (value_code g.lengths q ++ (bring_back true ++ op2_code o))) m has r.at (omega arith) (beside_line o q u m is f w e r.frame)
  pair_runs false o q k d u m is f deep w r e has second =
      pushed_runs o k d u (value_of g.lengths q st) (value_code g.lengths q) m deep w (value_word g q st f r.frame.words) r e has (λ m1 r1. second m1 (has_front code (k + 2) (value_code g.lengths q) _ (has_back code k push _ has)) r1)

  -- ---- values

  short_runs : (q : Value) (k d : ℕ) (m : Machine) → is_short q ≡ true → IsKnownValue g q → d ≤ 8128 → HasAt code k (value_code g.lengths q) → Ready g k d st m → Evaluates g code st (k + length (value_code g.lengths q)) d (value_of g.lengths q st) m
  short_runs q k d m is f deep has r =
      line_gives k d (value_of g.lengths q st) (value_code g.lengths q) m has r.at deep (lead_with (short_line g sound q st m is f r.frame) (λ to a. a.given))

  pub value_runs : (e : Value) (k d : ℕ) (m : Machine) → IsKnownValue g e → d + value_nodes e ≤ 8128 → HasAt code k (value_code g.lengths e) → Ready g k d st m → Evaluates g code st (k + length (value_code g.lengths e)) d (value_of g.lengths e st) m
  value_runs (Number v) k d m f room has r = short_runs (Number v) k d m refl f (omega arith) has r
  value_runs (Scalar s) k d m f room has r = short_runs (Scalar s) k d m refl f (omega arith) has r
  value_runs (Element t e) k d m f room has r =
      let ce = value_code g.lengths e in
      let rest = address g.lengths t ++ Lw 10 10 (pos 0) ∷ [] in
      let v = value_of g.lengths e st in
      let a = value_runs e k d m f.1 (omega arith) (has_front code k ce rest has) r in
      let b = line_gives (k + length ce) d _ rest a.to (has_back code k ce rest has) a.at (omega arith) (element_line g sound t v st a.to f.0 (frame_kept g sound st d m a.to r.frame a.kept) a.value) in
      ends_at _ _ d _ m (omega (arith, length-append ce rest)) (evaluates_on (k + length ce) _ d v _ m a b)
  value_runs (Op1 o e) k d m f room has r =
      let ce = value_code g.lengths e in
      let a = value_runs e k d m f (omega arith) (has_front code k ce (op1_code o) has) r in
      let b = line_gives (k + length ce) d _ (op1_code o) a.to (has_back code k ce (op1_code o) has) a.at (omega arith) (op1_gives g.ins g.outs a.to o (value_of g.lengths e st) a.value) in
      ends_at _ _ d _ m (omega (arith, length-append ce (op1_code o))) (evaluates_on (k + length ce) _ d (value_of g.lengths e st) _ m a b)
  value_runs (Op2 o p q) k d m f room has r =
      let cp = value_code g.lengths p in
      let rest = set_aside (is_short q) ++ (value_code g.lengths q ++ (bring_back (is_short q) ++ op2_code o)) in
      let u = value_of g.lengths p st in
      let a = value_runs p k d m f.0 (omega arith) (has_front code k cp rest has) r in
      let b = pair_runs (is_short q) o q (k + length cp) d u a.to refl f.1 (omega arith) (value_word g p st f.0 r.frame.words) (ready_after k (k + length cp) d u m r a) a.value (has_back code k cp rest has) (λ m1 has1 r1. value_runs q (k + length cp + 2) (d + 1) m1 f.1 (omega arith) has1 r1) in
      ends_at _ _ d _ m (omega (arith, length-append cp rest)) (evaluates_on (k + length cp) _ d u _ m a b)
