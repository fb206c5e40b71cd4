-- The table of a sound program is in range.
use Rattle.std.proofs.Common.{◌≡◌, ℕ, zero, suc, ◌+◌, ◌*◌, ◌<◌, ◌≤◌, List, [], ◌∷◌, ◌++◌, length, refl, arith, length-append, Bool, true, false}
use Rattle.std.specs.Prelude.{All, if◌then◌else◌}
use Rattle.std.proofs.lemmas.List.Elements.{All-nil, All-cons}
use Rattle.fsm_core.specs.declared.micro.Micro.{Micro}
use Rattle.fsm_core.specs.declared.micro.Next.{Next}
use Rattle.fsm_core.specs.declared.micro.Next.TheVariants.{Goto, Branch, End}
use Rattle.fsm_core.specs.declared.micro.MicroOp.TheVariants as op
use Rattle.fsm_core.specs.Table.{Plan, IsMicro, IsNext, IsStage, IsTable}
use Rattle.fsm_sched.specs.Rule.{may_stand, placed, placed_all, some_states, scheduled}
use Rattle.fsm_sched.specs.Earliest.{IsInRange, AllInRange}
use Rattle.fsm_sched.proofs.Ranges.{scheduled_in_range}
use Rattle.pld_ast.specs.Program.{Signed, Unsigned, Operation1, Keep, Negate, Flip, IsZero, Operation2, EitherOf, BothOf, BitOr, BitXor, BitAnd, Equal, Unequal, Less, AtMost, More, AtLeast, ShiftLeft, ShiftRight, Plus, Minus, Times, Quotient, Remainder, Value, Number, Scalar, Element, Op1, Op2, Action, Skip, Then, Assign, Store, Read, ReadInto, Write, Choose, Repeat, Return, Program}
use Rattle.pld_ast.specs.Nodes.{value_nodes, action_nodes}
use Rattle.pld_ast.specs.Sound.{IsKnownValue, IsKnown, IsSound}
use Rattle.fsm_ir.specs.Blocks.{by_two, store_micro, read_micro, write_micro, load_micro, op1_micros, op1_temps, op2_micro, temps_in, reg_of, value_micros, Piece, piece, Made, straight, then_make, choose_make, repeat_make, emit, whole, blocks_of}
use Rattle.fsm_ir.proofs.Sizes.{emit_small}
use Rattle.fsm_back.specs.Table.{stage, chain, chained, first_in, next_in, laid, gen_hard}
use Rattle.fsm_back.proofs.Fits.{known_value}
use Rattle.fsm_back.proofs.Values.{reg_below}
use Rattle.fsm_back.proofs.Actions.{temps_grow}
use Rattle.fsm_back.proofs.Realised.{length-chained}

-- ---- what holds of each

abbrev pub Each : {A : Type 0} → (A → Type 0) → List A → Type 0
Each P [] = Unit {0}
Each P (x ∷ xs) = P x × Each P xs

each_append : {A : Type 0} → (P : A → Type 0) (xs ys : List A) → Each P xs → Each P ys → Each P (xs ++ ys)
each_append P [] ys h k = k
each_append P (x ∷ xs) ys h k = (h.0, each_append P xs ys h.1 k)

each_all : {A : Type 0} → (P : A → Type 0) (xs : List A) → Each P xs → All P xs
each_all P [] h = All-nil P
each_all P (x ∷ xs) h = All-cons P x xs h.0 (each_all P xs h.1)

-- ---- schedules

placed_each : (P : Micro → Type 0) (m : Micro) (ss : List (List Micro)) → P m → Each (Each P) ss → Each (Each P) (placed m ss)
placed_each P m [] h k = ((h, tt), tt)
placed_each P m (s ∷ ss) h k = by (may_stand m s ss) (placed_each P m ss h k.1)
  where
    by : (b : Bool) → Each (Each P) (placed m ss) → Each (Each P) (if b then (s ++ m ∷ []) ∷ ss else s ∷ placed m ss)
    by true r = (each_append P s (m ∷ []) k.0 (h, tt), k.1)
    by false r = (k.0, r)

placed_all_each : (P : Micro → Type 0) (ms : List Micro) (ss : List (List Micro)) → Each P ms → Each (Each P) ss → Each (Each P) (placed_all ms ss)
placed_all_each P [] ss h k = k
placed_all_each P (m ∷ ms) ss h k = placed_all_each P ms (placed m ss) h.1 (placed_each P m ss h.0 k)

some_each : (P : Micro → Type 0) (ss : List (List Micro)) → Each (Each P) ss → Each (Each P) (some_states ss)
some_each P [] h = (tt, tt)
some_each P (s ∷ ss) h = h

scheduled_each : (P : Micro → Type 0) (ms : List Micro) → Each P ms → Each (Each P) (scheduled ms)
scheduled_each P ms h = some_each P (placed_all ms []) (placed_all_each P ms [] h tt)

placed_length : (m : Micro) (ss : List (List Micro)) → length (placed m ss) ≤ length ss + 1
placed_length m [] = omega arith
placed_length m (s ∷ ss) = by (may_stand m s ss) (placed_length m ss)
  where
    by : (b : Bool) → length (placed m ss) ≤ length ss + 1 → length (if b then (s ++ m ∷ []) ∷ ss else s ∷ placed m ss) ≤ length (s ∷ ss) + 1
    by true h = omega arith
    by false h = omega (arith, h)

placed_all_length : (ms : List Micro) (ss : List (List Micro)) → length (placed_all ms ss) ≤ length ss + length ms
placed_all_length [] ss = omega arith
placed_all_length (m ∷ ms) ss = omega (arith, placed_all_length ms (placed m ss), placed_length m ss)

some_length : (ss : List (List Micro)) → (1 ≤ length (some_states ss)) × (length (some_states ss) ≤ length ss + 1)
some_length [] = (omega arith, omega arith)
some_length (s ∷ ss) = (omega arith, omega arith)

scheduled_some : (ms : List Micro) → 1 ≤ length (scheduled ms)
scheduled_some ms = (some_length (placed_all ms [])).0

scheduled_length : (ms : List Micro) → length (scheduled ms) ≤ length ms + 1
scheduled_length ms = omega (arith, (some_length (placed_all ms [])).1, placed_all_length ms [])

-- ---- how many states there are

abbrev pub total : List Piece → ℕ
total [] = 0
total (b ∷ bs) = length (scheduled b.micros) + total bs

abbrev micros_in : List Piece → ℕ
micros_in [] = 0
micros_in (b ∷ bs) = length b.micros + micros_in bs

micros_in-append : (a b : List Piece) → micros_in (a ++ b) ≡ micros_in a + micros_in b
micros_in-append [] b = omega arith
micros_in-append (x ∷ a) b = omega (arith, micros_in-append a b)

total_small : (bs : List Piece) → total bs ≤ micros_in bs + length bs
total_small [] = omega arith
total_small (b ∷ bs) = omega (arith, total_small bs, scheduled_length b.micros)

pub length_laid : (first : ℕ → ℕ) (i : ℕ) (bs : List Piece) → length (laid first i bs) ≡ total bs
length_laid first i [] = refl
length_laid first i (b ∷ bs) =
    let here = length-append (chained i (scheduled b.micros) (next_in first b.next)) (laid first (i + length (scheduled b.micros)) bs) in
    omega (arith, here, length-chained i (scheduled b.micros) (next_in first b.next), length_laid first (i + length (scheduled b.micros)) bs)

first_below : (bs : List Piece) (j : ℕ) → j < length bs → first_in bs j < total bs
first_below [] j h = absurd (omega arith)
first_below (b ∷ bs) zero h = omega (arith, scheduled_some b.micros)
first_below (b ∷ bs) (suc j) h = omega (arith, first_below bs j (omega arith))

op1_length : (o : Operation1) (t a : ℕ) → length (op1_micros o t a) ≤ 1
op1_length Keep t a = omega arith
op1_length Negate t a = omega arith
op1_length Flip t a = omega arith
op1_length IsZero t a = omega arith

value_length : (e : Value) (t : ℕ) → length (value_micros e t) ≤ value_nodes e
value_length (Number v) t = omega arith
value_length (Scalar s) t = omega arith
value_length (Element u e) t = omega (arith, value_length e t, length-append (value_micros e t) (load_micro (t + temps_in e) u (reg_of e t) ∷ []))
value_length (Op1 o a) t = omega (arith, value_length a t, op1_length o (t + temps_in a) (reg_of a t), length-append (value_micros a t) (op1_micros o (t + temps_in a) (reg_of a t)))
value_length (Op2 o a b) t =
    let m = op2_micro o (t + temps_in a + temps_in b) (reg_of a t) (reg_of b (t + temps_in a)) in
    omega (arith, value_length a t, value_length b (t + temps_in a), length-append (value_micros a t) (value_micros b (t + temps_in a) ++ m ∷ []), length-append (value_micros b (t + temps_in a)) (m ∷ []))

-- at most two micros for each node
emit_micros : (a : Action) (c : List Micro) (k t : ℕ) → micros_in (emit a c k t).ended + length (emit a c k t).current ≤ length c + 2 * action_nodes a
emit_micros Skip c k t = omega arith
emit_micros (Then a b) c k t = by (emit a c k t) (emit_micros a c k t) (λ d n s. emit_micros b d n s)
  where
    by : (p : Made) → micros_in p.ended + length p.current ≤ length c + 2 * action_nodes a → ((d : List Micro) (n s : ℕ) → micros_in (emit b d n s).ended + length (emit b d n s).current ≤ length d + 2 * action_nodes b) → micros_in (then_make p k (emit b)).ended + length (then_make p k (emit b)).current ≤ length c + 2 * (action_nodes a + action_nodes b)
    by p h rest = omega (arith, h, rest p.current (k + length p.ended) p.temps, micros_in-append p.ended (emit b p.current (k + length p.ended) p.temps).ended)
emit_micros (Assign s e) c k t =
    let m = by_two op.Move s (reg_of e t) in
    omega (arith, value_length e t, length-append c (value_micros e t ++ m ∷ []), length-append (value_micros e t) (m ∷ []))
emit_micros (Store u i e) c k t =
    let m = store_micro u (reg_of i t) (reg_of e (t + temps_in i)) in
    let rest = value_micros e (t + temps_in i) ++ m ∷ [] in
    omega (arith, value_length i t, value_length e (t + temps_in i), length-append c (value_micros i t ++ rest), length-append (value_micros i t) rest, length-append (value_micros e (t + temps_in i)) (m ∷ []))
emit_micros (Read s p) c k t = omega (arith, length-append c (read_micro s p ∷ []))
emit_micros (ReadInto u i p) c k t =
    let rest = read_micro (t + temps_in i) p ∷ store_micro u (reg_of i t) (t + temps_in i) ∷ [] in
    omega (arith, value_length i t, length-append c (value_micros i t ++ rest), length-append (value_micros i t) rest)
emit_micros (Write p e) c k t =
    let m = write_micro p (reg_of e t) in
    omega (arith, value_length e t, length-append c (value_micros e t ++ m ∷ []), length-append (value_micros e t) (m ∷ []))
emit_micros (Choose e a b) c k t = by (emit a [] (k + 1) (t + temps_in e)) (emit_micros a [] (k + 1) (t + temps_in e)) (λ n s. emit_micros b [] n s)
  where
    by : (p : Made) → micros_in p.ended + length p.current ≤ 0 + 2 * action_nodes a → ((n s : ℕ) → micros_in (emit b [] n s).ended + length (emit b [] n s).current ≤ 0 + 2 * action_nodes b)
        → micros_in (choose_make (c ++ value_micros e t) (reg_of e t) k p (emit b [])).ended + 0 ≤ length c + 2 * (1 + value_nodes e + action_nodes a + action_nodes b)
    by p h rest =
        let q = emit b [] (k + 1 + length p.ended + 1) p.temps in
        let z = k + 1 + length p.ended + 1 + length q.ended + 1 in
        let l1 = micros_in-append p.ended (piece p.current (Goto z) ∷ (q.ended ++ piece q.current (Goto z) ∷ [])) in
        let l2 = micros_in-append q.ended (piece q.current (Goto z) ∷ []) in
        omega (arith, h, rest (k + 1 + length p.ended + 1) p.temps, l1, l2, value_length e t, length-append c (value_micros e t))
emit_micros (Repeat e a) c k t = by (emit a [] (k + 1 + 1) (t + temps_in e)) (emit_micros a [] (k + 1 + 1) (t + temps_in e))
  where
    by : (p : Made) → micros_in p.ended + length p.current ≤ 0 + 2 * action_nodes a → micros_in (repeat_make c (value_micros e t) (reg_of e t) k p).ended + 0 ≤ length c + 2 * (1 + value_nodes e + action_nodes a)
    by p h = omega (arith, h, value_length e t, micros_in-append p.ended (piece p.current (Goto (k + 1)) ∷ []))
emit_micros Return c k t = omega arith

-- ---- micros

module _ (g : Program) (sound : IsSound g) where
  abbrev pub table : Plan
  table = gen_hard g

  abbrev pub Fine : List Micro → Type 0
  Fine = Each (IsMicro table)

  op1_fine : (o : Operation1) (t a : ℕ) → t + op1_temps o ≤ table.registers → a < table.registers → Fine (op1_micros o t a)
  op1_fine Keep t a h k = tt
  op1_fine Negate t a h k = ((omega arith, k, refl, refl, refl), tt)
  op1_fine Flip t a h k = ((omega arith, k, refl, refl, refl), tt)
  op1_fine IsZero t a h k = ((omega arith, k, refl, refl, refl), tt)

  op2_fine : (o : Operation2) (t a b : ℕ) → t < table.registers → a < table.registers → b < table.registers → IsMicro table (op2_micro o t a b)
  op2_fine EitherOf t a b h i j = (h, i, j, refl, refl)
  op2_fine BothOf t a b h i j = (h, i, j, refl, refl)
  op2_fine BitOr t a b h i j = (h, i, j, refl, refl)
  op2_fine BitXor t a b h i j = (h, i, j, refl, refl)
  op2_fine BitAnd t a b h i j = (h, i, j, refl, refl)
  op2_fine Equal t a b h i j = (h, i, j, refl, refl)
  op2_fine Unequal t a b h i j = (h, i, j, refl, refl)
  op2_fine (Less Signed) t a b h i j = (h, i, j, refl, refl)
  op2_fine (Less Unsigned) t a b h i j = (h, i, j, refl, refl)
  op2_fine (AtMost Signed) t a b h i j = (h, i, j, refl, refl)
  op2_fine (AtMost Unsigned) t a b h i j = (h, i, j, refl, refl)
  op2_fine (More Signed) t a b h i j = (h, j, i, refl, refl)
  op2_fine (More Unsigned) t a b h i j = (h, j, i, refl, refl)
  op2_fine (AtLeast Signed) t a b h i j = (h, j, i, refl, refl)
  op2_fine (AtLeast Unsigned) t a b h i j = (h, j, i, refl, refl)
  op2_fine ShiftLeft t a b h i j = (h, i, j, refl, refl)
  op2_fine (ShiftRight Signed) t a b h i j = (h, i, j, refl, refl)
  op2_fine (ShiftRight Unsigned) t a b h i j = (h, i, j, refl, refl)
  op2_fine Plus t a b h i j = (h, i, j, refl, refl)
  op2_fine Minus t a b h i j = (h, i, j, refl, refl)
  op2_fine Times t a b h i j = (h, i, j, refl, refl)
  op2_fine (Quotient Signed) t a b h i j = (h, i, j, refl, refl)
  op2_fine (Quotient Unsigned) t a b h i j = (h, i, j, refl, refl)
  op2_fine (Remainder Signed) t a b h i j = (h, i, j, refl, refl)
  op2_fine (Remainder Unsigned) t a b h i j = (h, i, j, refl, refl)

  reg_in : (e : Value) (t : ℕ) → IsKnownValue g e → 64 ≤ t → t + temps_in e ≤ table.registers → reg_of e t < table.registers
  reg_in e t k h room = let below = reg_below e t (known_value g e sound.scalars k) h in omega (arith, below, room)

  value_fine : (e : Value) (t : ℕ) → IsKnownValue g e → 64 ≤ t → t + temps_in e ≤ table.registers → Fine (value_micros e t)
  value_fine (Number v) t k h room = ((omega arith, refl, refl, refl), tt)
  value_fine (Scalar s) t k h room = tt
  value_fine (Element u e) t k h room =
      each_append (IsMicro table) (value_micros e t) (load_micro (t + temps_in e) u (reg_of e t) ∷ []) (value_fine e t k.1 h (omega arith)) ((omega arith, reg_in e t k.1 h (omega arith), refl, k.0, refl), tt)
  value_fine (Op1 o a) t k h room =
      each_append (IsMicro table) (value_micros a t) (op1_micros o (t + temps_in a) (reg_of a t)) (value_fine a t k h (omega arith)) (op1_fine o (t + temps_in a) (reg_of a t) (omega arith) (reg_in a t k h (omega arith)))
  value_fine (Op2 o a b) t k h room =
      let s = t + temps_in a in
      let m = op2_micro o (s + temps_in b) (reg_of a t) (reg_of b s) in
      each_append (IsMicro table) (value_micros a t) (value_micros b s ++ m ∷ []) (value_fine a t k.0 h (omega arith)) (each_append (IsMicro table) (value_micros b s) (m ∷ []) (value_fine b s k.1 (omega arith) (omega arith)) (op2_fine o (s + temps_in b) (reg_of a t) (reg_of b s) (omega arith) (reg_in a t k.0 h (omega arith)) (reg_in b s k.1 (omega arith) (omega arith)), tt))

  -- ---- blocks

  abbrev pub count : ℕ
  count = length (blocks_of g)

  pub record IsBlock (b : Piece) : Type 0 where
    pub micros : Fine b.micros
    pub goes_on : IsNext table.registers count b.next

  -- the blocks that are made are in range, and so is the current one
  record AreMade (p : Made) : Type 0 where
    ended : Each IsBlock p.ended
    current : Fine p.current

  straight_made : (c d : List Micro) (t : ℕ) → Fine c → Fine d → AreMade (straight (c ++ d) t)
  straight_made c d t h k = record { ended = tt; current = each_append (IsMicro table) c d h k }

  one_block : (ms : List Micro) (nx : Next) → Fine ms → IsNext table.registers count nx → Each IsBlock (piece ms nx ∷ [])
  one_block ms nx h k = (record { micros = h; goes_on = k }, tt)

  emit_made : (a : Action) (c : List Micro) (k t : ℕ) → IsKnown g a → 64 ≤ t → (emit a c k t).temps ≤ table.registers → k + length (emit a c k t).ended < count → Fine c → AreMade (emit a c k t)
  emit_made Skip c k t known h room few fine = record { ended = tt; current = fine }
  emit_made (Then a b) c k t known h room few fine =
      by (emit a c k t) room few (temps_grow a c k t) (temps_grow b (emit a c k t).current (k + length (emit a c k t).ended) (emit a c k t).temps) (λ r f. emit_made a c k t known.0 h r f fine) (λ d n s l r f i. emit_made b d n s known.1 l r f i)
    where
      by : (p : Made) → (then_make p k (emit b)).temps ≤ table.registers → k + length (then_make p k (emit b)).ended < count → t ≤ p.temps → p.temps ≤ (then_make p k (emit b)).temps → (p.temps ≤ table.registers → k + length p.ended < count → AreMade p) → ((d : List Micro) (n s : ℕ) → 64 ≤ s → (emit b d n s).temps ≤ table.registers → n + length (emit b d n s).ended < count → Fine d → AreMade (emit b d n s)) → AreMade (then_make p k (emit b))
      by p room few grown more one two =
          let l = length-append p.ended (emit b p.current (k + length p.ended) p.temps).ended in
          let first = one (omega (arith, more, room)) (omega (arith, l, few)) in
          let second = two p.current (k + length p.ended) p.temps (omega (arith, h, grown)) room (omega (arith, l, few)) first.current in
          record { ended = each_append IsBlock p.ended _ first.ended second.ended; current = second.current }
  emit_made (Assign s e) c k t known h room few fine =
      straight_made c _ (t + temps_in e) fine (each_append (IsMicro table) (value_micros e t) _ (value_fine e t known.1 h room) ((omega (arith, known.0, sound.scalars, h, room), reg_in e t known.1 h room, refl, refl, refl), tt))
  emit_made (Store u i e) c k t known h room few fine =
      let s = t + temps_in i in
      straight_made c _ (s + temps_in e) fine (each_append (IsMicro table) (value_micros i t) _ (value_fine i t known.1 h (omega arith)) (each_append (IsMicro table) (value_micros e s) _ (value_fine e s known.2 (omega arith) (omega arith)) ((refl, reg_in i t known.1 h (omega arith), reg_in e s known.2 (omega arith) (omega arith), known.0, refl), tt)))
  emit_made (Read s p) c k t known h room few fine =
      straight_made c _ t fine ((omega (arith, known.0, sound.scalars, h, room), refl, refl, known.1, refl), tt)
  emit_made (ReadInto u i p) c k t known h room few fine =
      straight_made c _ (t + temps_in i + 1) fine (each_append (IsMicro table) (value_micros i t) _ (value_fine i t known.1 h (omega arith)) ((omega arith, refl, refl, known.2, refl), ((refl, reg_in i t known.1 h (omega arith), omega arith, known.0, refl), tt)))
  emit_made (Write p e) c k t known h room few fine =
      straight_made c _ (t + temps_in e) fine (each_append (IsMicro table) (value_micros e t) _ (value_fine e t known.1 h room) ((refl, reg_in e t known.1 h room, refl, known.0, refl), tt))
  emit_made (Choose e a b) c k t known h room few fine =
      by (emit a [] (k + 1) (t + temps_in e)) (emit b []) room few (temps_grow a [] (k + 1) (t + temps_in e)) (λ n s. temps_grow b [] n s) (λ r f. emit_made a [] (k + 1) (t + temps_in e) known.1 (omega arith) r f tt) (λ n s l r f. emit_made b [] n s known.2 l r f tt)
    where
      by : (p : Made) (make : ℕ → ℕ → Made) → (choose_make (c ++ value_micros e t) (reg_of e t) k p make).temps ≤ table.registers → k + length (choose_make (c ++ value_micros e t) (reg_of e t) k p make).ended < count → t + temps_in e ≤ p.temps → ((n s : ℕ) → s ≤ (make n s).temps) → (p.temps ≤ table.registers → k + 1 + length p.ended < count → AreMade p) → ((n s : ℕ) → 64 ≤ s → (make n s).temps ≤ table.registers → n + length (make n s).ended < count → AreMade (make n s)) → AreMade (choose_make (c ++ value_micros e t) (reg_of e t) k p make)
      by p make room few grown more one two =
          let b_at = k + 1 + length p.ended + 1 in
          let q = make b_at p.temps in
          let z = b_at + length q.ended + 1 in
          let m = more b_at p.temps in
          let l1 = length-append p.ended (piece p.current (Goto z) ∷ (q.ended ++ piece q.current (Goto z) ∷ [])) in
          let l2 = length-append q.ended (piece q.current (Goto z) ∷ []) in
          let first = one (omega (arith, room, m)) (omega (arith, few, l1, l2)) in
          let second = two b_at p.temps (omega (arith, h, grown)) room (omega (arith, few, l1, l2)) in
          record {
            ended = (record { micros = each_append (IsMicro table) c (value_micros e t) fine (value_fine e t known.0 h (omega (arith, room, m, grown))); goes_on = (reg_in e t known.0 h (omega (arith, room, m, grown)), omega (arith, few, l1, l2), omega (arith, few, l1, l2)) }, each_append IsBlock p.ended _ first.ended (record { micros = first.current; goes_on = omega (arith, few, l1, l2) }, each_append IsBlock q.ended _ second.ended (one_block q.current (Goto z) second.current (omega (arith, few, l1, l2)))));
            current = tt;
          }
  emit_made (Repeat e a) c k t known h room few fine =
      by (emit a [] (k + 1 + 1) (t + temps_in e)) room few (temps_grow a [] (k + 1 + 1) (t + temps_in e)) (λ r f. emit_made a [] (k + 1 + 1) (t + temps_in e) known.1 (omega arith) r f tt)
    where
      by : (p : Made) → p.temps ≤ table.registers → k + length (repeat_make c (value_micros e t) (reg_of e t) k p).ended < count → t + temps_in e ≤ p.temps → (p.temps ≤ table.registers → k + 1 + 1 + length p.ended < count → AreMade p) → AreMade (repeat_make c (value_micros e t) (reg_of e t) k p)
      by p room few grown one =
          let l = length-append p.ended (piece p.current (Goto (k + 1)) ∷ []) in
          let first = one room (omega (arith, few, l)) in
          record {
            ended = (record { micros = fine; goes_on = omega (arith, few, l) }, (record { micros = value_fine e t known.0 h (omega (arith, room, grown)); goes_on = (reg_in e t known.0 h (omega (arith, room, grown)), omega (arith, few, l), omega (arith, few, l)) }, each_append IsBlock p.ended _ first.ended (one_block p.current (Goto (k + 1)) first.current (omega (arith, few, l)))));
            current = tt;
          }
  emit_made Return c k t known h room few fine = record { ended = one_block c End fine tt; current = tt }

  -- all blocks are in range
  pub all_made : Each IsBlock (blocks_of g)
  all_made =
      let l = length-append (whole g).ended (piece (whole g).current End ∷ []) in
      let p = emit_made g.body [] 0 64 sound.known (omega arith) (omega arith) (omega (arith, l)) tt in
      each_append IsBlock (whole g).ended _ p.ended (one_block (whole g).current End p.current tt)

  -- ---- states

  abbrev states : ℕ
  states = length table.states

  -- what holds of a state's micros, wherever it goes on
  record IsMade (s : List Micro) : Type 0 where
    micros : Fine s
    range : IsInRange s

  are_made : (ss : List (List Micro)) → Each Fine ss → AllInRange ss → Each IsMade ss
  are_made [] h k = tt
  are_made (s ∷ ss) h k = (record { micros = h.0; range = k.0 }, are_made ss h.1 k.1)

  as_stage : (s : List Micro) (nx : Next) → IsMade s → IsNext table.registers states nx → IsStage table (stage s nx)
  as_stage s nx h k = record { micros = each_all (IsMicro table) s h.micros; fresh = h.range.fresh; room = h.range.room; next = k }

  chain_fine : (i : ℕ) (s : List Micro) (ss : List (List Micro)) (nx : Next) → IsMade s → Each IsMade ss → IsNext table.registers states nx → i + length (s ∷ ss) ≤ states → Each (IsStage table) (chain i s ss nx)
  chain_fine i s [] nx h k n room = (as_stage s nx h n, tt)
  chain_fine i s (s' ∷ ss) nx h k n room = (as_stage s (Goto (i + 1)) h (omega arith), chain_fine (i + 1) s' ss nx k.0 k.1 n (omega arith))

  chained_fine : (i : ℕ) (ss : List (List Micro)) (nx : Next) → Each IsMade ss → IsNext table.registers states nx → i + length ss ≤ states → Each (IsStage table) (chained i ss nx)
  chained_fine i [] nx h n room = tt
  chained_fine i (s ∷ ss) nx h n room = chain_fine i s ss nx h.0 h.1 n room

  next_fine : (first : ℕ → ℕ) (nx : Next) → ((j : ℕ) → j < count → first j < states) → IsNext table.registers count nx → IsNext table.registers states (next_in first nx)
  next_fine first (Goto j) h k = h j k
  next_fine first (Branch r i j) h k = (k.0, h i k.1, h j k.2)
  next_fine first End h k = tt

  laid_fine : (first : ℕ → ℕ) (i : ℕ) (bs : List Piece) → ((j : ℕ) → j < count → first j < states) → Each IsBlock bs → i + total bs ≤ states → Each (IsStage table) (laid first i bs)
  laid_fine first i [] h k room = tt
  laid_fine first i (b ∷ bs) h k room =
      let made = are_made (scheduled b.micros) (scheduled_each (IsMicro table) b.micros k.0.micros) (scheduled_in_range b.micros) in
      each_append (IsStage table) (chained i (scheduled b.micros) (next_in first b.next)) _ (chained_fine i (scheduled b.micros) (next_in first b.next) made (next_fine first b.next h k.0.goes_on) (omega arith)) (laid_fine first (i + length (scheduled b.micros)) bs h k.1 (omega arith))

  pub table_in_range : IsTable (gen_hard g)
  table_in_range =
      let small = emit_small g.body [] 0 64 in
      let grown = temps_grow g.body [] 0 64 in
      let micros = emit_micros g.body [] 0 64 in
      let l = length-append (whole g).ended (piece (whole g).current End ∷ []) in
      let m = micros_in-append (whole g).ended (piece (whole g).current End ∷ []) in
      let long : length table.states ≡ total (blocks_of g) = length_laid (first_in (blocks_of g)) 0 (blocks_of g) in
      let few = total_small (blocks_of g) in
      let some = first_below (blocks_of g) 0 (omega (arith, l)) in
      record {
        ins = sound.ins;
        outs = sound.outs;
        few_arrays = sound.arrays;
        filled = sound.some;
        words = sound.words;
        some_registers = grown;
        registers = omega (arith, small.few_temps, sound.nodes);
        some_states = omega (arith, long, some);
        few_states = omega (arith, long, few, small.few_blocks, micros, l, m, sound.nodes);
        states = each_all (IsStage table) table.states (laid_fine (first_in (blocks_of g)) 0 (blocks_of g) (λ j lt. let b = first_below (blocks_of g) j lt in omega (arith, b, long)) all_made (omega (arith, long)));
      }
