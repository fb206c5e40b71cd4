-- Stretches of code that the templates are made of.
use Rattle.std.proofs.Common.{◌≡◌, ℕ, zero, suc, ◌+◌, ◌*◌, ◌%◌, ◌<◌, ◌≤◌, ◌≢◌, ◌^◌, List, [], ◌∷◌, ◌++◌, length, Option, Some, None, le_refl, refl, sym, ap, ◌∙◌, subst, arith, inl, inr, Bool, true, false}
use Rattle.std.specs.Prelude.{pos, negsuc, nat_eq, slice_index, bit_xor, bit_or, bit_and}
use Rattle.std.proofs.lemmas.Bool.Decides.{eqb_tells, nat_tests}
use Rattle.std.proofs.lemmas.Nat.{le_or_l}
use Rattle.pld_base.specs.Words.{IsWord, sum_of, product_of, difference_of, less_unsigned, truth_of, remainder_unsigned, shifted_left}
use Rattle.pld_base.specs.Lists.{with}
use Rattle.rv_isa.specs.declared.instr.Instr.{Instr}
use Rattle.rv_isa.specs.declared.instr.Instr.TheVariants.{Lw, Sw}
use Rattle.rv_core.specs.Machine.{Machine, Went, act, load, store, gives, next, reg, set_reg, place_of, extended}
use Rattle.pld_ast.specs.Program.{Signed, Unsigned, Operation1, Keep, Negate, Flip, IsZero, Operation2, EitherOf, BothOf, BitOr, BitXor, BitAnd, Equal, Unequal, Less, AtMost, More, AtLeast, ShiftLeft, ShiftRight, Plus, Minus, Times, Quotient, Remainder, Value, Number, Scalar, Element, Op1, Op2, Program}
use Rattle.pld_ast.specs.Sound.{IsSound, IsKnownValue}
use Rattle.pld_ast.specs.Meaning.{State, set_scalar, set_element, is_zero, is_other, either_of, both_of, unary_of, binary_of, index_in, value_of}
use Rattle.rv_back.specs.Code.{high_of, low_of, push, pop, get_from, set_to, register_at, base_of, address, op1_code, op2_code, is_short, set_aside, value_code}
use Rattle.rv_back.proofs.Steps.{place_ram, Leads, lead_on, lead_with, const_value}
use Rattle.rv_back.proofs.Frames.{with_same, with_other, past2, past10, past11, StandsAt, stands_at, reg_high, set_high, Kept, kept_on, kept_by, Gives, Frame, within, array_within, frame_kept, frame_near, frame_far, frame_element}

-- ---- tests as words

is_other_less : (a : ℕ) → less_unsigned 0 a ≡ is_other a
is_other_less zero = refl
is_other_less (suc a) = grind (arith, nat_tests)

is_zero_less : (a : ℕ) → less_unsigned a 1 ≡ is_zero a
is_zero_less zero = refl
is_zero_less (suc a) = grind (arith, nat_tests)

turned : (b : Bool) → bit_xor (truth_of b) 1 ≡ is_zero (truth_of b)
turned true = refl
turned false = refl

is_zero_above : (a : ℕ) → 0 < a → is_zero a ≡ 0
is_zero_above zero h = absurd (omega arith)
is_zero_above (suc a) h = refl

is_other_above : (a : ℕ) → 0 < a → is_other a ≡ 1
is_other_above zero h = absurd (omega arith)
is_other_above (suc a) h = refl

difference_zero : (a b : ℕ) → a < 2 ^ 32 → b < 2 ^ 32 → is_zero (difference_of a b) ≡ truth_of (nat_eq a b)
difference_zero a b h k = elim (eqb_tells a b) as (λ _. is_zero (difference_of a b) ≡ truth_of (nat_eq a b)) [
  | inl e ↦ (let same = e.1 in let z : difference_of a b ≡ 0 = omega arith in ap is_zero z ∙ ap truth_of (sym e.0))
  | inr e ↦ (let other = e.1 in let z : 0 < difference_of a b = omega arith in is_zero_above (difference_of a b) z ∙ ap truth_of (sym e.0))
]

difference_other : (a b : ℕ) → a < 2 ^ 32 → b < 2 ^ 32 → is_other (difference_of a b) ≡ is_zero (truth_of (nat_eq a b))
difference_other a b h k = elim (eqb_tells a b) as (λ _. is_other (difference_of a b) ≡ is_zero (truth_of (nat_eq a b))) [
  | inl e ↦ (let same = e.1 in let z : difference_of a b ≡ 0 = omega arith in ap is_other z ∙ ap (λ t. is_zero (truth_of t)) (sym e.0))
  | inr e ↦ (let other = e.1 in let z : 0 < difference_of a b = omega arith in is_other_above (difference_of a b) z ∙ ap (λ t. is_zero (truth_of t)) (sym e.0))
]

either_bits : (a b : ℕ) → is_other (bit_or a b) ≡ either_of a b
either_bits zero b = refl
either_bits (suc a) b = let le = le_or_l (suc a) b in is_other_above (bit_or (suc a) b) (omega arith)

both_bits : (a b : ℕ) → bit_and (is_other a) (is_other b) ≡ both_of a b
both_bits zero b = refl
both_bits (suc a) zero = refl
both_bits (suc a) (suc b) = refl

-- ---- operations

-- one instruction that gives a word in x10
one : {ins outs : ℕ} {i : Instr} {m : Machine} {v : ℕ} → act ins outs i m ≡ gives m 10 v → Leads ins outs (i ∷ []) m (Gives v m)
one {ins} {outs} {i} {m} {v} e =
    record { to = next (set_reg m 10 v); line = (next (set_reg m 10 v), e, refl, refl); holds = record { x10 = refl; kept = kept_by refl refl refl (λ r l. past10 _ _ r l) refl } }

gives_as : {ins outs : ℕ} {is : List Instr} {m : Machine} {u v : ℕ} → u ≡ v → Leads ins outs is m (Gives u m) → Leads ins outs is m (Gives v m)
gives_as {m = m} e a = lead_with a (λ to given. record { x10 = given.x10 ∙ e; kept = given.kept })

-- two such instructions
two : {ins outs : ℕ} {i j : Instr} {m : Machine} {v : ℕ} (u : ℕ) → act ins outs i m ≡ gives m 10 u → act ins outs j (next (set_reg m 10 u)) ≡ gives (next (set_reg m 10 u)) 10 v → Leads ins outs (i ∷ j ∷ []) m (Gives v m)
two {ins} {outs} {i} {j} {m} {v} u e f =
    let m1 : Machine = next (set_reg m 10 u) in
    record { to = next (set_reg m1 10 v); line = (m1, e, refl, (next (set_reg m1 10 v), f, refl, refl)); holds = record { x10 = refl; kept = kept_by refl refl refl (λ r l. past10 _ _ r l ∙ past10 _ _ r l) refl } }

module _ (ins outs : ℕ) (m : Machine) where
  op1_line : (o : Operation1) → Leads ins outs (op1_code o) m (Gives (unary_of o (m.regs 10)) m)
  op1_line Keep = record { to = m; line = refl; holds = record { x10 = refl; kept = kept_by refl refl refl (λ r l. refl) refl } }
  op1_line Negate = one refl
  op1_line Flip = one refl
  op1_line IsZero = gives_as (is_zero_less (m.regs 10)) (one refl)

  both_line : Leads ins outs (op2_code BothOf) m (Gives (both_of (m.regs 11) (m.regs 10)) m)
  both_line =
      record {
        to = _;
        line = (_, refl, refl, (_, refl, refl, (_, refl, refl, refl)));
        holds = record {
          x10 = ap (λ x. bit_and x (less_unsigned 0 (m.regs 10))) (is_other_less (m.regs 11)) ∙ ap (bit_and (is_other (m.regs 11))) (is_other_less (m.regs 10)) ∙ both_bits (m.regs 11) (m.regs 10);
          kept = kept_by refl refl refl (λ r l. past10 _ _ r l ∙ past10 _ _ r l ∙ past11 _ _ r l) refl;
        };
      }

  op2_line : (o : Operation2) → IsWord (m.regs 11) → IsWord (m.regs 10) → Leads ins outs (op2_code o) m (Gives (binary_of o (m.regs 11) (m.regs 10)) m)
  op2_line EitherOf h k = gives_as (is_other_less _ ∙ either_bits (m.regs 11) (m.regs 10)) (two _ refl refl)
  op2_line BothOf h k = both_line
  op2_line BitOr h k = one refl
  op2_line BitXor h k = one refl
  op2_line BitAnd h k = one refl
  op2_line Equal h k = gives_as (is_zero_less _ ∙ difference_zero (m.regs 11) (m.regs 10) h k) (two _ refl refl)
  op2_line Unequal h k = gives_as (is_other_less _ ∙ difference_other (m.regs 11) (m.regs 10) h k) (two _ refl refl)
  op2_line (Less Signed) h k = one refl
  op2_line (Less Unsigned) h k = one refl
  op2_line (AtMost Signed) h k = gives_as (turned _) (two _ refl refl)
  op2_line (AtMost Unsigned) h k = gives_as (turned _) (two _ refl refl)
  op2_line (More Signed) h k = one refl
  op2_line (More Unsigned) h k = one refl
  op2_line (AtLeast Signed) h k = gives_as (turned _) (two _ refl refl)
  op2_line (AtLeast Unsigned) h k = gives_as (turned _) (two _ refl refl)
  op2_line ShiftLeft h k = one refl
  op2_line (ShiftRight Signed) h k = one refl
  op2_line (ShiftRight Unsigned) h k = one refl
  op2_line Plus h k = one refl
  op2_line Minus h k = one refl
  op2_line Times h k = one refl
  op2_line (Quotient Signed) h k = one refl
  op2_line (Quotient Unsigned) h k = one refl
  op2_line (Remainder Signed) h k = one refl
  op2_line (Remainder Unsigned) h k = one refl

  -- the operation of a word in x10
  pub op1_gives : (o : Operation1) (v : ℕ) → m.regs 10 ≡ v → Leads ins outs (op1_code o) m (Gives (unary_of o v) m)
  op1_gives o v e = gives_as (ap (unary_of o) e) (op1_line o)

  -- the operation of a word in x11 and one in x10
  pub op2_gives : (o : Operation2) (u v : ℕ) → IsWord u → IsWord v → m.regs 11 ≡ u → m.regs 10 ≡ v → Leads ins outs (op2_code o) m (Gives (binary_of o u v) m)
  op2_gives o u v h k e f =
      gives_as (ap (λ x. binary_of o x (m.regs 10)) e ∙ ap (binary_of o u) f) (op2_line o (subst IsWord (sym e) h) (subst IsWord (sym f) k))

-- ---- memory

pub load_ram : (ins addr w rd : ℕ) (m : Machine) → addr ≡ 0x20000 + 4 * w → w < 16384 → load (place_of 0x8000_0000 ins addr) m rd ≡ gives m rd (m.ram w)
load_ram ins addr w rd m e h = ap (λ x. load x m rd) (ap (place_of 0x8000_0000 ins) e ∙ place_ram 0x8000_0000 ins w h)

pub store_ram : (outs addr w v : ℕ) (m : Machine) → addr ≡ 0x20000 + 4 * w → w < 16384 → store (place_of 0x8000_0100 outs addr) m v ≡ Went (next (record m { ram = with m.ram w v }))
store_ram outs addr w v m e h = ap (λ x. store x m v) (ap (place_of 0x8000_0100 outs) e ∙ place_ram 0x8000_0100 outs w h)

-- after a push of x10
pub record Pushed (d : ℕ) (m to : Machine) : Type 0 where
  pub x2 : to.regs 2 ≡ 0x28100 + 4 * (d + 1)
  pub x8 : to.regs 8 ≡ m.regs 8
  pub x9 : to.regs 9 ≡ m.regs 9
  pub x10 : to.regs 10 ≡ m.regs 10
  pub high : (r : ℕ) → 12 ≤ r → to.regs r ≡ m.regs r
  pub top : to.ram (8256 + d) ≡ m.regs 10
  pub ram : (w : ℕ) → w < 8256 + d → to.ram w ≡ m.ram w

pub push_line : (ins outs d : ℕ) (m : Machine) → m.regs 2 ≡ 0x28100 + 4 * d → d < 8128 → Leads ins outs push m (Pushed d m)
push_line ins outs d m e h =
    let at : sum_of (m.regs 2) 0 ≡ 0x20000 + 4 * (8256 + d) = omega arith in
    let m1 : Machine = next (record m { ram = with m.ram (8256 + d) (m.regs 10) }) in
    let m2 : Machine = next (set_reg m1 2 (sum_of (m.regs 2) 4)) in record {
      to = m2;
      line = (m1, store_ram outs (sum_of (m.regs 2) 0) (8256 + d) (m.regs 10) m at (omega arith), refl, (m2, refl, refl, refl));
      holds = record {
        x2 = (let n : sum_of (m.regs 2) 4 ≡ 0x28100 + 4 * (d + 1) = omega arith in n);
        x8 = refl;
        x9 = refl;
        x10 = refl;
        high = λ r l. past2 _ _ r l;
        top = with_same m.ram (8256 + d) (m.regs 10);
        ram = λ w l. with_other m.ram (8256 + d) (m.regs 10) w (let n : w ≢ 8256 + d = omega arith in n);
      };
    }

-- after a pop into x11
pub record Popped (d : ℕ) (m to : Machine) : Type 0 where
  pub x2 : to.regs 2 ≡ 0x28100 + 4 * d
  pub x8 : to.regs 8 ≡ m.regs 8
  pub x9 : to.regs 9 ≡ m.regs 9
  pub x10 : to.regs 10 ≡ m.regs 10
  pub high : (r : ℕ) → 12 ≤ r → to.regs r ≡ m.regs r
  pub x11 : to.regs 11 ≡ m.ram (8256 + d)
  pub ram : (w : ℕ) → to.ram w ≡ m.ram w

pub pop_line : (ins outs d : ℕ) (m : Machine) → m.regs 2 ≡ 0x28100 + 4 * (d + 1) → d < 8128 → Leads ins outs pop m (Popped d m)
pop_line ins outs d m e h =
    let back : sum_of (m.regs 2) (extended (negsuc 3)) ≡ 0x28100 + 4 * d = omega arith in
    let m1 : Machine = next (set_reg m 2 (sum_of (m.regs 2) (extended (negsuc 3)))) in
    let at : sum_of (sum_of (m.regs 2) (extended (negsuc 3))) 0 ≡ 0x20000 + 4 * (8256 + d) = ap (λ x. sum_of x 0) back ∙ (let n : sum_of (0x28100 + 4 * d) 0 ≡ 0x20000 + 4 * (8256 + d) = omega arith in n) in
    let m2 : Machine = next (set_reg m1 11 (m1.ram (8256 + d))) in record {
      to = m2;
      line = (m1, refl, refl, (m2, load_ram ins (sum_of (m1.regs 2) 0) (8256 + d) 11 m1 at (omega arith), refl, refl));
      holds = record { x2 = back; x8 = refl; x9 = refl; x10 = refl; x11 = refl; high = λ r l. past11 _ _ r l ∙ past2 _ _ r l; ram = λ w. refl };
    }

-- x10 into x11
pub aside_line : (ins outs u : ℕ) (m : Machine) → IsWord u → m.regs 10 ≡ u → Leads ins outs (set_aside true) m (λ to. (to.regs 11 ≡ u) × Kept 8128 m to)
aside_line ins outs u m w e =
    let same : sum_of (m.regs 10) 0 ≡ u = omega arith in
    record { to = next (set_reg m 11 (sum_of (m.regs 10) 0)); line = (_, refl, refl, refl); holds = (same, kept_by refl refl refl (λ r l. past11 _ _ r l) refl) }

-- ---- scalars

-- v is in x10, x11 is as it was, and the rest is kept
pub record GivesAside (v : ℕ) (m to : Machine) : Type 0 where
  pub x11 : to.regs 11 ≡ m.regs 11
  pub given : Gives v m to

module _ (g : Program) (sound : IsSound g) where
  -- a scalar into x10
  get_line : (s : ℕ) (o : Option ℕ) (st : State) (m : Machine) → s < g.scalars → StandsAt s o → Frame g st m → Leads g.ins g.outs (get_from o s) m (GivesAside (st.scalars s) m)
  get_line s (Some r) st m h at f =
      let place = at.0 in
      let word = f.words.scalars s in
      let v : reg m r ≡ st.scalars s = reg_high m r (omega arith) ∙ ap m.regs at.0 ∙ f.near s h at.1 in
      let same : sum_of (st.scalars s) 0 ≡ st.scalars s = omega arith in
      record {
        to = next (set_reg m 10 (sum_of (reg m r) 0));
        line = (_, refl, refl, refl);
        holds = record { x11 = refl; given = record { x10 = ap (λ x. sum_of x 0) v ∙ same; kept = kept_by refl refl refl (λ r' l. past10 _ _ r' l) refl } };
      }
  get_line s None st m h at f =
      let x8 = f.x8 in
      let a : sum_of (m.regs 8) (4 * s) ≡ 0x20000 + 4 * s = omega (arith, sound.scalars) in
      let to : Machine = next (set_reg m 10 (m.ram s)) in
      record {
        to = to;
        line = (to, load_ram g.ins (sum_of (m.regs 8) (4 * s)) s 10 m a (omega (arith, sound.scalars)), refl, refl);
        holds = record { x11 = refl; given = record { x10 = f.far s h at; kept = kept_by refl refl refl (λ r l. past10 _ _ r l) refl } };
      }

  -- x10 into a scalar
  pub set_line : (s v : ℕ) (o : Option ℕ) (st : State) (m : Machine) → s < g.scalars → IsWord v → StandsAt s o → m.regs 10 ≡ v → Frame g st m → Leads g.ins g.outs (set_to o s) m (λ to. Frame g (set_scalar st s v) to × (to.regs 2 ≡ m.regs 2))
  set_line s v (Some r) st m h w at e f =
      let place = at.0 in
      let to : Machine = next (record m { regs = with m.regs r v }) in
      let same : sum_of (m.regs 10) 0 ≡ v = omega arith in
      let goes : gives m r (sum_of (m.regs 10) 0) ≡ Went to = ap (gives m r) same ∙ ap (λ x. Went (next x)) (set_high m r v (omega arith)) in
      record {
        to = to;
        line = (to, goes, refl, refl);
        holds = (frame_near g sound st m to s v f at.1 w (ap (λ n. with m.regs n v) place) refl, with_other m.regs r v 2 (let n : 2 ≢ r = omega arith in n));
      }
  set_line s v None st m h w at e f =
      let x8 = f.x8 in
      let a : sum_of (m.regs 8) (4 * s) ≡ 0x20000 + 4 * s = omega (arith, sound.scalars) in
      let to : Machine = next (record m { ram = with m.ram s (m.regs 10) }) in
      record {
        to = to;
        line = (to, store_ram g.outs (sum_of (m.regs 8) (4 * s)) s (m.regs 10) m a (omega (arith, sound.scalars)), refl, refl);
        holds = (frame_far g sound st m to s v f h at w refl (ap (with m.ram s) e), refl);
      }

  -- a literal or a scalar into x10
  pub short_line : (q : Value) (st : State) (m : Machine) → is_short q ≡ true → IsKnownValue g q → Frame g st m → Leads g.ins g.outs (value_code g.lengths q) m (GivesAside (value_of g.lengths q st) m)
  short_line (Number v) st m is f frame =
      record {
        to = _;
        line = (_, refl, refl, (_, refl, refl, refl));
        holds = record { x11 = refl; given = record { x10 = const_value v f; kept = kept_by refl refl refl (λ r l. past10 _ _ r l ∙ past10 _ _ r l) refl } };
      }
  short_line (Scalar s) st m is f frame = get_line s (register_at s) st m f (stands_at s) frame
  short_line (Element t e) st m is f frame = absurd (let no : ⊥ = cc in no)
  short_line (Op1 o a) st m is f frame = absurd (let no : ⊥ = cc in no)
  short_line (Op2 o a b) st m is f frame = absurd (let no : ⊥ = cc in no)

  -- ---- elements

  address_value : (x len base : ℕ) → 1 ≤ len → base + x % len < 8256 → sum_of (shifted_left (remainder_unsigned x len) 2) (0x20000 + 4 * base) ≡ 0x20000 + 4 * (base + x % len)
  address_value x zero base h k = absurd (omega arith)
  address_value x (suc n) base h k = omega arith

  pub in_range : (t v : ℕ) → t < length g.lengths → index_in g.lengths t v < slice_index g.lengths t
  in_range t v h = let some = sound.some t h in omega arith

  address_register : (t : ℕ) (m : Machine) → t < length g.lengths → Leads g.ins g.outs (address g.lengths t) m (Gives (0x20000 + 4 * (base_of g.lengths t + index_in g.lengths t (m.regs 10))) m)
  address_register t m h =
      let x = m.regs 10 in
      let len = slice_index g.lengths t in
      let base = base_of g.lengths t in
      let last : base + x % len < 8256 = array_within g sound t (x % len) h (in_range t x h) in
      let all = within g.lengths t h in
      let c1 : sum_of (product_of 4096 (high_of len)) (extended (low_of len)) ≡ len = const_value len (omega (arith, sound.words)) in
      let c2 : sum_of (product_of 4096 (high_of (0x20000 + 4 * base))) (extended (low_of (0x20000 + 4 * base))) ≡ 0x20000 + 4 * base = const_value (0x20000 + 4 * base) (omega arith) in
      record {
        to = _;
        line = (_, refl, refl, (_, refl, refl, (_, refl, refl, (_, refl, refl, (_, refl, refl, (_, refl, refl, (_, refl, refl, refl)))))));
        holds = record {
          x10 =
              ap (λ l. sum_of (shifted_left (remainder_unsigned x l) 2) (sum_of (product_of 4096 (high_of (0x20000 + 4 * base))) (extended (low_of (0x20000 + 4 * base))))) c1
              ∙ ap (λ b. sum_of (shifted_left (remainder_unsigned x len) 2) b) c2
              ∙ address_value x len base (sound.some t h) last;
          kept = kept_by refl refl refl (λ r l. past10 _ _ r l ∙ past11 _ _ r l ∙ past11 _ _ r l ∙ past10 _ _ r l ∙ past10 _ _ r l ∙ past11 _ _ r l ∙ past11 _ _ r l) refl;
        };
      }

  -- an index in x10 becomes an address
  pub address_line : (t i : ℕ) (m : Machine) → t < length g.lengths → m.regs 10 ≡ i → Leads g.ins g.outs (address g.lengths t) m (Gives (0x20000 + 4 * (base_of g.lengths t + index_in g.lengths t i)) m)
  address_line t i m h e = gives_as (ap (λ x. 0x20000 + 4 * (base_of g.lengths t + index_in g.lengths t x)) e) (address_register t m h)

  -- an address in x10 becomes the element there
  load_line : (t i : ℕ) (st : State) (m : Machine) → t < length g.lengths → i < slice_index g.lengths t → Frame g st m → m.regs 10 ≡ 0x20000 + 4 * (base_of g.lengths t + i) → Leads g.ins g.outs (Lw 10 10 (pos 0) ∷ []) m (Gives (st.arrays t i) m)
  load_line t i st m h k f e =
      let last : base_of g.lengths t + i < 8256 = array_within g sound t i h k in
      let at : sum_of (m.regs 10) 0 ≡ 0x20000 + 4 * (base_of g.lengths t + i) = omega arith in
      gives_as (f.arrays t i h k) (one (load_ram g.ins (sum_of (m.regs 10) 0) (base_of g.lengths t + i) 10 m at (omega arith)))

  -- x10 to the address in x11
  pub store_line : (t i v : ℕ) (st : State) (m : Machine) → t < length g.lengths → i < slice_index g.lengths t → IsWord v → m.regs 10 ≡ v → m.regs 11 ≡ 0x20000 + 4 * (base_of g.lengths t + i) → Frame g st m
      → Leads g.ins g.outs (Sw 11 10 (pos 0) ∷ []) m (λ to. Frame g (set_element st t i v) to × (to.regs 2 ≡ m.regs 2))
  store_line t i v st m h k w e x11 f =
      let last = array_within g sound t i h k in
      let at : sum_of (m.regs 11) 0 ≡ 0x20000 + 4 * (base_of g.lengths t + i) = omega arith in
      let to : Machine = next (record m { ram = with m.ram (base_of g.lengths t + i) (m.regs 10) }) in
      record {
        to = to;
        line = (to, store_ram g.outs (sum_of (m.regs 11) 0) (base_of g.lengths t + i) (m.regs 10) m at (omega arith), refl, refl);
        holds = (frame_element g sound st m to t i v f h k w refl (ap (with m.ram (base_of g.lengths t + i)) e), refl);
      }

  -- an index in x10 becomes the element
  pub element_line : (t i : ℕ) (st : State) (m : Machine) → t < length g.lengths → Frame g st m → m.regs 10 ≡ i → Leads g.ins g.outs (address g.lengths t ++ Lw 10 10 (pos 0) ∷ []) m (Gives (st.arrays t (index_in g.lengths t i)) m)
  element_line t i st m h f e =
      lead_on (address_line t i m h e) (λ m1 a. lead_with (load_line t (index_in g.lengths t i) st m1 h (in_range t i h) (frame_kept g sound st 8128 m m1 f a.kept) a.x10) (λ to b. record { x10 = b.x10; kept = kept_on (le_refl 8128) a.kept b.kept }))
