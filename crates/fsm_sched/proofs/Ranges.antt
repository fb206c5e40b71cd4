-- The states of a schedule are in range.
use Rattle.std.proofs.Common.{◌≡◌, ℕ, ◌+◌, ◌<◌, ◌≤◌, List, [], ◌∷◌, ◌++◌, Some, refl, ap, ◌∙◌, subst, arith, Bool, true, false, inl, inr, ◌⊎◌}
use Rattle.std.specs.Prelude.{if◌then◌else◌, count_by, cond}
use Rattle.std.proofs.lemmas.Bool.{ltb-true}
use Rattle.std.proofs.lemmas.List.Sums.{sum_by-append}
use Rattle.fsm_core.specs.declared.micro.Micro.{Micro}
use Rattle.fsm_core.specs.Shapes.{shape_of}
use Rattle.fsm_core.specs.declared.class.Class.{Class}
use Rattle.fsm_core.specs.declared.class.Class.TheVariants.{Plain, Multiply, Divide, AccessTo, StreamOp}
use Rattle.fsm_core.specs.Shapes.{target, writes}
use Rattle.fsm_core.specs.Classes.{class_of, is_same_class, room_of}
use Rattle.fsm_sched.specs.Rule.{must_follow, may_not_pass, some_in, some_of, has_room, may_stand, placed, placed_all, some_states, scheduled}
use Rattle.fsm_core.specs.Table.{IsIn, HasFreshTargets}
use Rattle.fsm_core.specs.Classes.{HasRoom}
use Rattle.fsm_sched.specs.Earliest.{IsInRange, AllInRange}
use Rattle.fsm_sched.proofs.Independent.{same_is, or_left, or_right, apart}
use Rattle.fsm_sched.proofs.Earliest.{no_hits, no_clash, and_parts}

same_class_is : (a b : Class) → is_same_class a b ≡ true → a ≡ b
same_class_is Plain Plain h = refl
same_class_is Multiply Multiply h = refl
same_class_is Divide Divide h = refl
same_class_is (AccessTo u) (AccessTo v) h = ap AccessTo (same_is u v h)
same_class_is StreamOp StreamOp h = refl
same_class_is _ _ h = cc h

-- one more micro at the end counts once, where it is of the class
count_snoc : (p : Micro → Bool) (s : List Micro) (m : Micro) → count_by p (s ++ m ∷ []) ≡ count_by p s + (if p m then 1 else 0)
count_snoc p s m = sum_by-append (λ x. cond (p x) 1 0) s (m ∷ []) ∙ (let e : count_by p s + (0 + (if p m then 1 else 0)) ≡ count_by p s + (if p m then 1 else 0) = omega arith in e)

room_snoc : (s : List Micro) (m : Micro) → HasRoom s → has_room m s ≡ true → HasRoom (s ++ m ∷ [])
room_snoc s m h room c = by (is_same_class (class_of m) c) refl
  where
    before : count_by (λ e. is_same_class (class_of e) (class_of m)) s < room_of (class_of m)
    before = ltb-true _ _ room

    by : (b : Bool) → is_same_class (class_of m) c ≡ b → count_by (λ e. is_same_class (class_of e) c) (s ++ m ∷ []) ≤ room_of c
    by true e =
        let n = count_snoc (λ x. is_same_class (class_of x) c) s m ∙ ap (λ b. count_by (λ x. is_same_class (class_of x) c) s + (if b then 1 else 0)) e in
        let below : count_by (λ x. is_same_class (class_of x) c) s < room_of c = subst (λ d. count_by (λ x. is_same_class (class_of x) d) s < room_of d) (same_class_is (class_of m) c e) before in
        omega arith
    by false e =
        let n = count_snoc (λ x. is_same_class (class_of x) c) s m ∙ ap (λ b. count_by (λ x. is_same_class (class_of x) c) s + (if b then 1 else 0)) e in
        let le = h c in omega arith

in_snoc : (s : List Micro) (m e : Micro) → IsIn e (s ++ m ∷ []) → IsIn e s ⊎ (e ≡ m)
in_snoc [] m e (inl same) = inr same
in_snoc [] m e (inr i) = absurd i
in_snoc (x ∷ s) m e (inl same) = inl (inl same)
in_snoc (x ∷ s) m e (inr later) = by (in_snoc s m e later)
  where
    by : IsIn e s ⊎ (e ≡ m) → IsIn e (x ∷ s) ⊎ (e ≡ m)
    by (inl i) = inl (inr i)
    by (inr i) = inr i

fresh_snoc : (s : List Micro) (m : Micro) → HasFreshTargets s → some_in (λ e. must_follow e (shape_of m)) s ≡ false → HasFreshTargets (s ++ m ∷ [])
fresh_snoc [] m h free = (λ x t i e. absurd i, tt)
fresh_snoc (e ∷ s) m h free = (λ x t i same. by x t same (in_snoc s m x i), fresh_snoc s m h.1 (or_right (must_follow (shape_of e) (shape_of m)) (some_in (λ e. must_follow e (shape_of m)) s) free))
  where
    here : must_follow (shape_of e) (shape_of m) ≡ false
    here = or_left (must_follow (shape_of e) (shape_of m)) (some_in (λ e. must_follow e (shape_of m)) s) free

    by : (x : Micro) (t : ℕ) → target (shape_of e) ≡ Some t → IsIn x s ⊎ (x ≡ m) → writes (shape_of x) t ≡ false
    by x t same (inl i) = h.0 x t i same
    by x t same (inr is) = ap (λ y. writes (shape_of y) t) is ∙ (apart (shape_of e) (shape_of m) (no_hits m e here) (no_clash m e here)).regs t same

room_first : (c : Class) → 0 < room_of c
room_first Plain = omega arith
room_first Multiply = omega arith
room_first Divide = omega arith
room_first (AccessTo u) = omega arith
room_first StreamOp = omega arith

one_in_range : (m : Micro) → IsInRange (m ∷ [])
one_in_range m = record { room = λ c. by c (is_same_class (class_of m) c); fresh = (λ x t i e. absurd i, tt) }
  where
    by : (c : Class) (b : Bool) → 0 + (if b then 1 else 0) ≤ room_of c
    by c true = let h = room_first c in omega arith
    by c false = omega arith

placed_in_range : (m : Micro) (ss : List (List Micro)) → AllInRange ss → AllInRange (placed m ss)
placed_in_range m [] h = (one_in_range m, tt)
placed_in_range m (s ∷ ss) h = by (may_stand m s ss) refl (placed_in_range m ss h.1)
  where
    by : (b : Bool) → may_stand m s ss ≡ b → AllInRange (placed m ss) → AllInRange (if b then (s ++ m ∷ []) ∷ ss else s ∷ placed m ss)
    by true e rest =
        let parts = and_parts m (some_in (λ e. must_follow e (shape_of m)) s) (some_of (λ e. may_not_pass e (shape_of m)) ss) (has_room m s) e in
        (record { room = room_snoc s m h.0.room parts.2; fresh = fresh_snoc s m h.0.fresh parts.0 }, h.1)
    by false e rest = (h.0, rest)

placed_all_in_range : (ms : List Micro) (ss : List (List Micro)) → AllInRange ss → AllInRange (placed_all ms ss)
placed_all_in_range [] ss h = h
placed_all_in_range (m ∷ ms) ss h = placed_all_in_range ms (placed m ss) (placed_in_range m ss h)

some_in_range : (ss : List (List Micro)) → AllInRange ss → AllInRange (some_states ss)
some_in_range [] h = (record { room = λ c. omega arith; fresh = tt }, tt)
some_in_range (s ∷ ss) h = h

pub scheduled_in_range : (ms : List Micro) → AllInRange (scheduled ms)
scheduled_in_range ms = some_in_range (placed_all ms []) (placed_all_in_range ms [] tt)
