-- A state has room for few micros.
use Rattle.std.proofs.Common.{◌≡◌, ℕ, zero, suc, ◌+◌, ◌<◌, ◌≤◌, Bool, true, false, cond, List, [], ◌∷◌, length, map, All, refl, subst, arith}
use Rattle.std.specs.Prelude.{count_by, nat_eq}
use Rattle.std.proofs.lemmas.Bool.Decides.{nat_tests}
use Rattle.std.proofs.lemmas.List.Sums.{sum_by-cons}
use Rattle.std.proofs.lemmas.List.Elements.{All-head, All-tail, All-nil, All-cons}
use Rattle.fsm_core.specs.declared.micro.MicroOp.{MicroOp}
use Rattle.fsm_core.specs.declared.micro.MicroOp.TheVariants as op
use Rattle.fsm_core.specs.declared.micro.Micro.{Micro}
use Rattle.fsm_core.specs.declared.micro.State.{State}
use Rattle.fsm_core.specs.declared.class.Class.{Class}
use Rattle.fsm_core.specs.declared.class.Class.TheVariants.{Plain, Multiply, Divide, AccessTo, StreamOp}
use Rattle.fsm_core.specs.Fields.{fields_of}
use Rattle.fsm_core.specs.Classes.{class_by, class_of, is_same_class, room_of, HasRoom}
use Rattle.fsm_core.specs.Table.{Plan, stage_in, IsMicroBy, IsMicro, IsStage, IsTable}

abbrev accesses : ℕ → List Class
accesses zero = []
accesses (suc n) = AccessTo n ∷ accesses n

abbrev classes : List Class
classes = Plain ∷ Multiply ∷ Divide ∷ StreamOp ∷ accesses 16

-- how many of these classes it is
abbrev hits : List Class → Class → ℕ
hits [] a = 0
hits (c ∷ cs) a = cond (is_same_class a c) 1 0 + hits cs a

abbrev total : List Class → List Micro → ℕ
total [] s = 0
total (c ∷ cs) s = count_by (λ e. is_same_class (class_of e) c) s + total cs s

abbrev rooms : List Class → ℕ
rooms [] = 0
rooms (c ∷ cs) = room_of c + rooms cs

total_none : (cs : List Class) → total cs [] ≡ 0
total_none [] = refl
total_none (c ∷ cs) = let h = total_none cs in omega (arith, h)

total_first : (cs : List Class) (e : Micro) (s : List Micro) → total cs (e ∷ s) ≡ hits cs (class_of e) + total cs s
total_first [] e s = refl
total_first (c ∷ cs) e s =
    let h = total_first cs e s in
    let k = sum_by-cons (λ e. cond (is_same_class (class_of e) c) 1 0) e s in
    omega (arith, h, k)

total_room : (cs : List Class) (s : List Micro) → HasRoom s → total cs s ≤ rooms cs
total_room [] s h = omega arith
total_room (c ∷ cs) s h = let k = total_room cs s h in let l = h c in omega (arith, k, l)

hits_first : (n u : ℕ) (b : Bool) → u < suc n → nat_eq u n ≡ b → (u < n → 1 ≤ hits (accesses n) (AccessTo u)) → 1 ≤ cond b 1 0 + hits (accesses n) (AccessTo u)
hits_first n u true h e later = omega arith
hits_first n u false h e later = let l : u < n = grind (arith, nat_tests, h, e) in let k = later l in omega (arith, k)

hits_access : (n u : ℕ) → u < n → 1 ≤ hits (accesses n) (AccessTo u)
hits_access zero u h = absurd (omega (arith, h))
hits_access (suc n) u h = hits_first n u (nat_eq u n) h refl (hits_access n u)

covered : (o : MicroOp) (p : Plan) (m : Micro) → IsMicroBy (fields_of o) p m → length p.arrays ≤ 16 → 1 ≤ hits classes (class_by o m)
covered op.Load p m h k = let l : m.unit < 16 = omega (arith, h.3, k) in let i = hits_access 16 m.unit l in omega (arith, i)
covered op.Store p m h k = let l : m.unit < 16 = omega (arith, h.3, k) in let i = hits_access 16 m.unit l in omega (arith, i)
covered _ p m h k = omega arith

length_total : (p : Plan) (s : List Micro) → length p.arrays ≤ 16 → All (IsMicro p) s → length s ≤ total classes s
length_total p [] k h = omega arith
length_total p (m ∷ s) k h =
    let a = length_total p s k (All-tail (IsMicro p) m s h) in
    let b = covered m.op p m (All-head (IsMicro p) m s h) k in
    let c = total_first classes m s in
    omega (arith, a, b, c)

few_rooms : rooms classes ≤ 255
few_rooms = omega arith

few_micros : (p : Plan) (s : List Micro) → length p.arrays ≤ 16 → All (IsMicro p) s → HasRoom s → length s ≤ 255
few_micros p s k h r = let a = length_total p s k h in let b = total_room classes s r in let c = few_rooms in omega (arith, a, b, c)

few_each : (p : Plan) (states : List State) → length p.arrays ≤ 16 → All (IsStage p) (map stage_in states) → All (λ s. length s.micros.items ≤ 255) states
few_each p [] k h = All-nil (λ s. length s.micros.items ≤ 255)
few_each p (s ∷ states) k h =
    let i = All-head (IsStage p) (stage_in s) (map stage_in states) h in
    All-cons (λ s. length s.micros.items ≤ 255) s states (few_micros p s.micros.items k i.micros i.room) (few_each p states k (All-tail (IsStage p) (stage_in s) (map stage_in states) h))

pub few_in_each : (p : Plan) (states : List State) → p.states ≡ map stage_in states → IsTable p → All (λ s. length s.micros.items ≤ 255) states
few_in_each p states e h = few_each p states h.few_arrays (subst (All (IsStage p)) e h.states)
