-- States that are read are in range and spelled so, and the other way.
use Rattle.std.proofs.Common.{◌≡◌, ℕ, ◌+◌, ◌^◌, ◌<◌, ◌≤◌, ◌&&◌, nat_lt, Bool, true, false, not, cond, List, [], ◌∷◌, ◌++◌, length, All, Option, Some, None, Ok, refl, sym, ap, subst, ◌∙◌, append_assoc, arith, inl, inr, ◌⊎◌}
use Rattle.std.specs.Prelude.{count_by, if◌then◌else◌, ◌||◌}
use Rattle.std.specs.List.{flat_map}
use Rattle.std.proofs.lemmas.Bool.{ltb-true, eqb-true}
use Rattle.std.proofs.lemmas.Bool.Decides.{nat_tests}
use Rattle.std.proofs.lemmas.List.Sums.{sum_by-append, sum_by-cons}
use Rattle.std.proofs.lemmas.List.Elements.{All-push, All-nil, All-head, All-tail, All-cons, All-weaker}
use Rattle.fsm_core.specs.declared.micro.Micro.{Micro}
use Rattle.fsm_core.specs.declared.micro.Next.{Next}
use Rattle.fsm_core.specs.declared.micro.Next.TheVariants.{Goto, Branch, End}
use Rattle.fsm_core.specs.declared.micro.Fields.{Fields}
use Rattle.fsm_core.specs.declared.micro.Fields.TheVariants.{Sets, Sets1, Sets2, Loads, Stores, Reads, Writes}
use Rattle.fsm_core.specs.declared.class.Class.{Class}
use Rattle.fsm_core.specs.declared.class.Class.TheVariants.{Plain, Multiply, Divide, AccessTo, StreamOp}
use Rattle.fsm_core.specs.Fields.{fields_of}
use Rattle.fsm_core.specs.Shapes.{shape_of, target, writes}
use Rattle.fsm_core.specs.Classes.{class_of, is_same_class, room_of, HasRoom}
use Rattle.fsm_core.specs.Machine.{Stage}
use Rattle.fsm_core.specs.Table.{Plan, IsMicroBy, IsMicro, IsNext, IsIn, HasFreshTargets, IsStage}
use Rattle.image_form.specs.Spelling.{micro_bytes, next_bytes, state_bytes}
use Rattle.image_form.specs.Reading.{many}
use Rattle.image_form.specs.Tables.{Bounds, fits_by, fits, written, collides, is_taken, has_room, may_follow, leads, micro_at, state_at}
use Rattle.image_form.proofs.Numbers.{IsBytes, bind_ok, ok_is, Takes, Takes-then, byte_takes}
use Rattle.image_form.proofs.Many.{Takes_many, many_takes, Each, many_again}
use Rattle.image_form.proofs.Fielding.{micro_takes, Narrow, micro_again, next_takes, Short, next_again}

-- ---- fields in range

abbrev pub plan_for : Bounds → List ℕ → List Stage → Plan
plan_for t arrays states = record { ins = t.ins; outs = t.outs; arrays = arrays; registers = t.registers; states = states }

fits_is : (k : Fields) (t : Bounds) (arrays : List ℕ) (states : List Stage) (m : Micro) → t.arrays ≡ length arrays → fits_by k t m ≡ true → IsMicroBy k (plan_for t arrays states) m
fits_is Sets t arrays states m n e = (grind (arith, nat_tests, e), grind (arith, nat_tests, e), grind (arith, nat_tests, e), grind (arith, nat_tests, e))
fits_is Sets1 t arrays states m n e = (grind (arith, nat_tests, e), grind (arith, nat_tests, e), grind (arith, nat_tests, e), grind (arith, nat_tests, e), grind (arith, nat_tests, e))
fits_is Sets2 t arrays states m n e = (grind (arith, nat_tests, e), grind (arith, nat_tests, e), grind (arith, nat_tests, e), grind (arith, nat_tests, e), grind (arith, nat_tests, e))
fits_is Loads t arrays states m n e = (grind (arith, nat_tests, e), grind (arith, nat_tests, e), grind (arith, nat_tests, e), grind (arith, nat_tests, e, n), grind (arith, nat_tests, e))
fits_is Stores t arrays states m n e = (grind (arith, nat_tests, e), grind (arith, nat_tests, e), grind (arith, nat_tests, e), grind (arith, nat_tests, e, n), grind (arith, nat_tests, e))
fits_is Reads t arrays states m n e = (grind (arith, nat_tests, e), grind (arith, nat_tests, e), grind (arith, nat_tests, e), grind (arith, nat_tests, e), grind (arith, nat_tests, e))
fits_is Writes t arrays states m n e = (grind (arith, nat_tests, e), grind (arith, nat_tests, e), grind (arith, nat_tests, e), grind (arith, nat_tests, e), grind (arith, nat_tests, e))

fits_true : (k : Fields) (t : Bounds) (arrays : List ℕ) (states : List Stage) (m : Micro) → t.arrays ≡ length arrays → IsMicroBy k (plan_for t arrays states) m → fits_by k t m ≡ true
fits_true Sets t arrays states m n h = grind (arith, nat_tests, h.0, h.1, h.2, h.3)
fits_true Sets1 t arrays states m n h = grind (arith, nat_tests, h.0, h.1, h.2, h.3, h.4)
fits_true Sets2 t arrays states m n h = grind (arith, nat_tests, h.0, h.1, h.2, h.3, h.4)
fits_true Loads t arrays states m n h = grind (arith, nat_tests, n, h.0, h.1, h.2, h.3, h.4)
fits_true Stores t arrays states m n h = grind (arith, nat_tests, n, h.0, h.1, h.2, h.3, h.4)
fits_true Reads t arrays states m n h = grind (arith, nat_tests, h.0, h.1, h.2, h.3, h.4)
fits_true Writes t arrays states m n h = grind (arith, nat_tests, h.0, h.1, h.2, h.3, h.4)

narrow_by : (k : Fields) (p : Plan) (m : Micro) → IsMicroBy k p m → p.registers ≤ 65535 → m.value < 2 ^ 32 → Narrow m
narrow_by Sets p m h r v = record { t = omega (arith, h.0, r); a = omega (arith, h.1); b = omega (arith, h.2); value = v }
narrow_by Sets1 p m h r v = record { t = omega (arith, h.0, r); a = omega (arith, h.1, r); b = omega (arith, h.2); value = v }
narrow_by Sets2 p m h r v = record { t = omega (arith, h.0, r); a = omega (arith, h.1, r); b = omega (arith, h.2, r); value = v }
narrow_by Loads p m h r v = record { t = omega (arith, h.0, r); a = omega (arith, h.1, r); b = omega (arith, h.2); value = v }
narrow_by Stores p m h r v = record { t = omega (arith, h.0); a = omega (arith, h.1, r); b = omega (arith, h.2, r); value = v }
narrow_by Reads p m h r v = record { t = omega (arith, h.0, r); a = omega (arith, h.1); b = omega (arith, h.2); value = v }
narrow_by Writes p m h r v = record { t = omega (arith, h.0); a = omega (arith, h.1, r); b = omega (arith, h.2); value = v }

leads_is : (t : Bounds) (x : Next) → leads t x ≡ true → IsNext t.registers t.states x
leads_is t (Goto i) e = grind (arith, nat_tests, e)
leads_is t (Branch r i j) e = (grind (arith, nat_tests, e), grind (arith, nat_tests, e), grind (arith, nat_tests, e))
leads_is t End e = tt

leads_true : (t : Bounds) (x : Next) → IsNext t.registers t.states x → leads t x ≡ true
leads_true t (Goto i) h = grind (arith, nat_tests, h)
leads_true t (Branch r i j) h = grind (arith, nat_tests, h.0, h.1, h.2)
leads_true t End h = refl

short_by : (t : Bounds) (x : Next) → IsNext t.registers t.states x → t.registers ≤ 65535 → t.states ≤ 65535 → Short x
short_by t (Goto i) h r s = omega (arith, h, s)
short_by t (Branch r i j) h k s = (omega (arith, h.0, k), omega (arith, h.1, s), omega (arith, h.2, s))
short_by t End h r s = tt

-- ---- one more micro behind others

same_class_is : (a b : Class) → is_same_class a b ≡ true → a ≡ b
same_class_is Plain Plain h = refl
same_class_is Multiply Multiply h = refl
same_class_is Divide Divide h = refl
same_class_is (AccessTo u) (AccessTo v) h = ap AccessTo (eqb-true u v h)
same_class_is StreamOp StreamOp h = refl
same_class_is _ _ h = cc h

same_class_true : (a : Class) → is_same_class a a ≡ true
same_class_true Plain = refl
same_class_true Multiply = refl
same_class_true Divide = refl
same_class_true (AccessTo u) = grind (arith, nat_tests)
same_class_true StreamOp = refl

-- one more micro at the end counts once, where it is of the class
count_snoc : (p : Micro → Bool) (s : List Micro) (m : Micro) → count_by p (s ++ m ∷ []) ≡ count_by p s + (if p m then 1 else 0)
count_snoc p s m = sum_by-append (λ x. cond (p x) 1 0) s (m ∷ []) ∙ (let e : count_by p s + (0 + (if p m then 1 else 0)) ≡ count_by p s + (if p m then 1 else 0) = omega arith in e)

room_snoc : (s : List Micro) (m : Micro) → HasRoom s → has_room s m ≡ true → HasRoom (s ++ m ∷ [])
room_snoc s m h room c = by (is_same_class (class_of m) c) refl
  where
    before : count_by (λ e. is_same_class (class_of e) (class_of m)) s < room_of (class_of m)
    before = ltb-true _ _ room

    by : (b : Bool) → is_same_class (class_of m) c ≡ b → count_by (λ e. is_same_class (class_of e) c) (s ++ m ∷ []) ≤ room_of c
    by true e =
        let n = count_snoc (λ x. is_same_class (class_of x) c) s m ∙ ap (λ b. count_by (λ x. is_same_class (class_of x) c) s + (if b then 1 else 0)) e in
        let below : count_by (λ x. is_same_class (class_of x) c) s < room_of c = subst (λ d. count_by (λ x. is_same_class (class_of x) d) s < room_of d) (same_class_is (class_of m) c e) before in
        omega arith
    by false e =
        let n = count_snoc (λ x. is_same_class (class_of x) c) s m ∙ ap (λ b. count_by (λ x. is_same_class (class_of x) c) s + (if b then 1 else 0)) e in
        let le = h c in omega arith

count_if : (b : Bool) (n : ℕ) → b ≡ true → cond b 1 0 + n ≡ n + 1
count_if true n e = omega arith
count_if false n e = absurd cc

count_first : (p : Micro → Bool) (m : Micro) (more : List Micro) → p m ≡ true → count_by p (m ∷ more) ≡ count_by p more + 1
count_first p m more e = sum_by-cons (λ x. cond (p x) 1 0) m more ∙ count_if (p m) (count_by p more) e

below : (a b : ℕ) → a < b → nat_lt a b ≡ true
below a b h = grind (arith, nat_tests, h)

room_before : (s : List Micro) (m : Micro) (more : List Micro) → HasRoom (s ++ m ∷ more) → has_room s m ≡ true
room_before s m more h =
    let c = class_of m in
    let all : count_by (λ e. is_same_class (class_of e) c) (s ++ m ∷ more) ≤ room_of c = h c in
    let n : count_by (λ e. is_same_class (class_of e) c) (s ++ m ∷ more) ≡ count_by (λ e. is_same_class (class_of e) c) s + count_by (λ e. is_same_class (class_of e) c) (m ∷ more) = sum_by-append (λ x. cond (is_same_class (class_of x) c) 1 0) s (m ∷ more) in
    let k : count_by (λ e. is_same_class (class_of e) c) (m ∷ more) ≡ count_by (λ e. is_same_class (class_of e) c) more + 1 = count_first (λ e. is_same_class (class_of e) c) m more (same_class_true c) in
    below (count_by (λ e. is_same_class (class_of e) c) s) (room_of c) (omega (arith, all, n, k))

in_snoc : (s : List Micro) (m e : Micro) → IsIn e (s ++ m ∷ []) → IsIn e s ⊎ (e ≡ m)
in_snoc [] m e (inl same) = inr same
in_snoc [] m e (inr i) = absurd i
in_snoc (x ∷ s) m e (inl same) = inl (inl same)
in_snoc (x ∷ s) m e (inr later) = by (in_snoc s m e later)
  where
    by : IsIn e s ⊎ (e ≡ m) → IsIn e (x ∷ s) ⊎ (e ≡ m)
    by (inl i) = inl (inr i)
    by (inr i) = inr i

in_mid : (s : List Micro) (m : Micro) (more : List Micro) → IsIn m (s ++ m ∷ more)
in_mid [] m more = inl refl
in_mid (x ∷ s) m more = inr (in_mid s m more)

not_written : (o : Option ℕ) (m : Micro) (t : ℕ) → written o (shape_of m) ≡ false → o ≡ Some t → writes (shape_of m) t ≡ false
not_written o m t e k = subst (λ (p : Option ℕ). written p (shape_of m) ≡ false) k e

written_not : (o : Option ℕ) (m : Micro) → ((t : ℕ) → o ≡ Some t → writes (shape_of m) t ≡ false) → written o (shape_of m) ≡ false
written_not None m h = refl
written_not (Some t) m h = h t refl

neither : (a b : Bool) → (a || b) ≡ false → (a ≡ false) × (b ≡ false)
neither true b e = absurd cc
neither false b e = (refl, e)

fresh_snoc : (s : List Micro) (m : Micro) → HasFreshTargets s → is_taken s m ≡ false → HasFreshTargets (s ++ m ∷ [])
fresh_snoc [] m h free = (λ x t i e. absurd i, tt)
fresh_snoc (e ∷ s) m h free = (λ x t i same. by x t same (in_snoc s m x i), fresh_snoc s m h.1 (neither (collides e m) (is_taken s m) free).1)
  where
    by : (x : Micro) (t : ℕ) → target (shape_of e) ≡ Some t → IsIn x s ⊎ (x ≡ m) → writes (shape_of x) t ≡ false
    by x t same (inl i) = h.0 x t i same
    by x t same (inr is) = ap (λ y. writes (shape_of y) t) is ∙ not_written (target (shape_of e)) m t (neither (collides e m) (is_taken s m) free).0 same

either_false : (a b : Bool) → a ≡ false → b ≡ false → (a || b) ≡ false
either_false a b e f = rw (e, f) refl

fresh_before : (s : List Micro) (m : Micro) (more : List Micro) → HasFreshTargets (s ++ m ∷ more) → is_taken s m ≡ false
fresh_before [] m more h = refl
fresh_before (e ∷ s) m more h = either_false (collides e m) (is_taken s m) (written_not (target (shape_of e)) m (λ t same. h.0 m t (in_mid s m more) same)) (fresh_before s m more h.1)

-- ---- states

pub record IsMade (t : Bounds) (before : List Micro) : Type 0 where
  pub micros : All (λ m. fits t m ≡ true) before
  pub fresh : HasFreshTargets before
  pub room : HasRoom before

room_none : HasRoom []
room_none c = omega arith

made_none : (t : Bounds) → IsMade t []
made_none t = record { micros = All-nil (λ m. fits t m ≡ true); fresh = tt; room = room_none }

not_true : (b : Bool) → not b ≡ true → b ≡ false
not_true true e = absurd cc
not_true false e = refl

not_false : (b : Bool) → b ≡ false → not b ≡ true
not_false b e = rw e refl

all_three : (a b c : Bool) → a ≡ true → b ≡ true → c ≡ true → (a && b && c) ≡ true
all_three a b c e f g = rw (e, f, g) refl

three : (a b c : Bool) → (a && b && c) ≡ true → (a ≡ true) × (b ≡ true) × (c ≡ true)
three true true true e = (refl, refl, refl)
three true true false e = absurd cc
three true false c e = absurd cc
three false b c e = absurd cc

one_micro : (t : Bounds) (before : List Micro) (bytes : List ℕ) (x : Micro × List ℕ) → IsBytes bytes → IsMade t before → micro_at t before bytes ≡ Ok x → Takes bytes (micro_bytes x.0) x.1 × IsMade t (before ++ x.0 ∷ [])
one_micro t before bytes x fit h e =
    let m = micro_takes t before bytes x fit e in
    let p = three (fits t x.0) (not (is_taken before x.0)) (has_room before x.0) m.1 in
    (m.0, record { micros = All-push (λ m. fits t m ≡ true) before x.0 h.micros p.0; fresh = fresh_snoc before x.0 h.fresh (not_true (is_taken before x.0) p.1); room = room_snoc before x.0 h.room p.2 })

-- a state in range
pub record IsState (t : Bounds) (s : Stage) : Type 0 where
  pub made : IsMade t s.micros
  pub next : leads t s.next ≡ true

state_takes : (t : Bounds) (bytes : List ℕ) (x : Stage × List ℕ) → IsBytes bytes → state_at t bytes ≡ Ok x → Takes bytes (state_bytes x.0) x.1 × IsState t x.0
unfolding state_at
state_takes t bytes x fit e =
    let n = bind_ok _ _ x e in
    let ms = bind_ok _ _ x n.2 in
    let g = bind_ok _ _ x ms.2 in
    let t0 = (byte_takes bytes n.0 fit n.1).0 in
    let m = many_takes (micro_at t) (IsMade t) micro_bytes (one_micro t) n.0.0 [] n.0.1 ms.0 t0.rest_fits (made_none t) ms.1 in
    let t1 : Takes n.0.1 (flat_map micro_bytes ms.0.0) ms.0.1 = record { parts = m.parts; rest_fits = m.rest_fits } in
    let t2 = next_takes t ms.0.1 g.0 m.rest_fits g.1 in
    let e12 = Takes-then n.0.1 (flat_map micro_bytes ms.0.0) ms.0.1 (next_bytes g.0.0) g.0.1 t1 t2.0 in
    let e02 = Takes-then bytes (n.0.0 ∷ []) n.0.1 (flat_map micro_bytes ms.0.0 ++ next_bytes g.0.0) g.0.1 t0 e12 in
    let l : length ms.0.0 ≡ n.0.0 = omega (arith, m.many_of) in
    let s : Stage = record { micros = ms.0.0; next = g.0.0 } in
    subst (λ (y : Stage × List ℕ). Takes bytes (state_bytes y.0) y.1 × IsState t y.0) (ok_is (s, g.0.1) x g.2)
    (subst (λ (k : ℕ). Takes bytes ((k ∷ []) ++ flat_map micro_bytes ms.0.0 ++ next_bytes g.0.0) g.0.1) (sym l) e02, record { made = m.good; next = t2.1 })

-- what is spelled so is read
abbrev GoodMicro : Bounds → List Micro → Micro → Type 0
GoodMicro t before m = (may_follow t before m ≡ true) × Narrow m

each_micro : (t : Bounds) (before more : List Micro) → All (λ m. fits t m ≡ true) more → All Narrow more → HasFreshTargets (before ++ more) → HasRoom (before ++ more) → Each (GoodMicro t) before more
each_micro t before [] good narrow fresh room = tt
each_micro t before (m ∷ more) good narrow fresh room =
    let same : (before ++ m ∷ []) ++ more ≡ before ++ m ∷ more = append_assoc before (m ∷ []) more in (
      (all_three (fits t m) (not (is_taken before m)) (has_room before m) (All-head (λ m. fits t m ≡ true) m more good) (not_false (is_taken before m) (fresh_before before m more fresh)) (room_before before m more room), All-head Narrow m more narrow),
      each_micro t (before ++ m ∷ []) more (All-tail (λ m. fits t m ≡ true) m more good) (All-tail Narrow m more narrow) (subst HasFreshTargets (sym same) fresh) (subst HasRoom (sym same) room),
    )

pub record Spellable (t : Bounds) (s : Stage) : Type 0 where
  pub state : IsState t s
  pub narrow : All Narrow s.micros
  pub short : Short s.next

state_again : (t : Bounds) (s : Stage) (rest : List ℕ) → Spellable t s → state_at t (state_bytes s ++ rest) ≡ Ok (s, rest)
unfolding state_at
state_again t s rest h =
    let regrouped : state_bytes s ++ rest ≡ length s.micros ∷ (flat_map micro_bytes s.micros ++ (next_bytes s.next ++ rest)) = ap (λ (w : List ℕ). length s.micros ∷ w) (append_assoc (flat_map micro_bytes s.micros) (next_bytes s.next) rest) in
    let m = many_again (micro_at t) (GoodMicro t) micro_bytes (λ before m rest good. micro_again t before m rest good.0 good.1) [] s.micros (next_bytes s.next ++ rest) (each_micro t [] s.micros h.state.made.micros h.narrow h.state.made.fresh h.state.made.room) in
    ap (state_at t) regrouped ∙ rw (m, next_again t s.next rest h.state.next h.short) refl

one_state : (t : Bounds) (before : List Stage) (bytes : List ℕ) (x : Stage × List ℕ) → IsBytes bytes → All (IsState t) before → state_at t bytes ≡ Ok x → Takes bytes (state_bytes x.0) x.1 × All (IsState t) (before ++ x.0 ∷ [])
one_state t before bytes x fit h e = let s = state_takes t bytes x fit e in (s.0, All-push (IsState t) before x.0 h s.1)

pub states_take : (t : Bounds) (n : ℕ) (bytes : List ℕ) (x : List Stage × List ℕ) → IsBytes bytes → many (λ before. state_at t) n [] bytes ≡ Ok x → Takes_many (All (IsState t)) state_bytes n [] bytes x
states_take t n bytes x fit e = many_takes (λ before. state_at t) (All (IsState t)) state_bytes (one_state t) n [] bytes x fit (All-nil (IsState t)) e

each_state : (t : Bounds) (before more : List Stage) → All (Spellable t) more → Each (λ before. Spellable t) before more
each_state t before [] h = tt
each_state t before (s ∷ more) h = (All-head (Spellable t) s more h, each_state t (before ++ s ∷ []) more (All-tail (Spellable t) s more h))

pub states_again : (t : Bounds) (states : List Stage) (rest : List ℕ) → All (Spellable t) states → many (λ before. state_at t) (length states) [] (flat_map state_bytes states ++ rest) ≡ Ok (states, rest)
states_again t states rest h = many_again (λ before. state_at t) (λ before. Spellable t) state_bytes (λ before s rest good. state_again t s rest good) [] states rest (each_state t [] states h)

-- ---- in range by the table's own definition

pub stage_is : (t : Bounds) (arrays : List ℕ) (states : List Stage) (s : Stage) → t.arrays ≡ length arrays → t.states ≡ length states → IsState t s → IsStage (plan_for t arrays states) s
stage_is t arrays states s n k h =
    record {
      micros = All-weaker (λ m. fits t m ≡ true) (IsMicro (plan_for t arrays states)) (λ m e. fits_is (fields_of m.op) t arrays states m n e) s.micros h.made.micros;
      fresh = h.made.fresh;
      room = h.made.room;
      next = subst (λ (c : ℕ). IsNext t.registers c s.next) k (leads_is t s.next h.next);
    }

abbrev pub bounds_of : Plan → Bounds
bounds_of p = record { ins = p.ins; outs = p.outs; arrays = length p.arrays; registers = p.registers; states = length p.states }

narrow_all : (p : Plan) (ms : List Micro) → p.registers ≤ 65535 → All (IsMicro p) ms → All (λ m. m.value < 2 ^ 32) ms → All Narrow ms
narrow_all p [] r h v = All-nil Narrow
narrow_all p (m ∷ ms) r h v = All-cons Narrow m ms (narrow_by (fields_of m.op) p m (All-head (IsMicro p) m ms h) r (All-head (λ m. m.value < 2 ^ 32) m ms v)) (narrow_all p ms r (All-tail (IsMicro p) m ms h) (All-tail (λ m. m.value < 2 ^ 32) m ms v))

stage_spellable : (p : Plan) (s : Stage) → p.registers ≤ 65535 → length p.states ≤ 65535 → IsStage p s → All (λ m. m.value < 2 ^ 32) s.micros → Spellable (bounds_of p) s
stage_spellable p s r k h v =
    record {
      state = record {
        made = record { micros = All-weaker (IsMicro p) (λ m. fits (bounds_of p) m ≡ true) (λ m e. fits_true (fields_of m.op) (bounds_of p) p.arrays p.states m refl e) s.micros h.micros; fresh = h.fresh; room = h.room };
        next = leads_true (bounds_of p) s.next h.next;
      };
      narrow = narrow_all p s.micros r h.micros v;
      short = short_by (bounds_of p) s.next h.next r k;
    }

pub all_spellable : (p : Plan) (states : List Stage) → p.registers ≤ 65535 → length p.states ≤ 65535 → All (IsStage p) states → All (λ s. All (λ m. m.value < 2 ^ 32) s.micros) states → All (Spellable (bounds_of p)) states
all_spellable p [] r k h v = All-nil (Spellable (bounds_of p))
all_spellable p (s ∷ states) r k h v = All-cons (Spellable (bounds_of p)) s states (stage_spellable p s r k (All-head (IsStage p) s states h) (All-head (λ s. All (λ m. m.value < 2 ^ 32) s.micros) s states v)) (all_spellable p states r k (All-tail (IsStage p) s states h) (All-tail (λ s. All (λ m. m.value < 2 ^ 32) s.micros) s states v))
