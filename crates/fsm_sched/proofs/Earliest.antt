-- A micro is placed in the earliest state that meets the five points.
use Rattle.std.proofs.Common.{◌≡◌, ℕ, zero, suc, ◌<◌, ◌≤◌, List, [], ◌∷◌, ◌++◌, refl, ap, ◌∙◌, arith, Bool, true, false, inl, inr, ◌⊎◌}
use Rattle.std.specs.Prelude.{◌||◌, ◌&&◌, not, if◌then◌else◌}
use Rattle.fsm_core.specs.declared.micro.Micro.{Micro}
use Rattle.fsm_core.specs.Shapes.{Shape, shape_of}
use Rattle.fsm_core.specs.declared.class.Class.{Class}
use Rattle.fsm_core.specs.declared.class.Class.TheVariants.{Plain, Multiply, Divide, AccessTo, StreamOp}
use Rattle.fsm_core.specs.Classes.{class_of, room_of}
use Rattle.fsm_sched.specs.Rule.{hits, feeds_on, clashes, is_stream, must_follow, may_not_pass, some_in, some_of, has_room, may_stand, placed}
use Rattle.std.specs.Prelude.{nat_lt}
use Rattle.fsm_core.specs.Table.{IsIn}
use Rattle.fsm_sched.specs.Earliest.{Stands, Meets, IsPlaced}
use Rattle.fsm_sched.proofs.Independent.{or_left, or_right}

-- ---- tests of some micro

pub none_in : (f : Shape → Bool) (s : List Micro) (e : Micro) → some_in f s ≡ false → IsIn e s → f (shape_of e) ≡ false
none_in f [] e h i = absurd i
none_in f (x ∷ s) e h (inl same) = ap (λ y. f (shape_of y)) same ∙ or_left (f (shape_of x)) (some_in f s) h
none_in f (x ∷ s) e h (inr later) = none_in f s e (or_right (f (shape_of x)) (some_in f s) h) later

none_of : (f : Shape → Bool) (ss : List (List Micro)) (j : ℕ) (e : Micro) → some_of f ss ≡ false → Stands e j ss → f (shape_of e) ≡ false
none_of f [] j e h i = absurd i
none_of f (s ∷ ss) zero e h i = none_in f s e (or_left (some_in f s) (some_of f ss) h) i
none_of f (s ∷ ss) (suc j) e h i = none_of f ss j e (or_right (some_in f s) (some_of f ss) h) i

or_cases : (a b : Bool) → (a || b) ≡ true → (a ≡ true) ⊎ (b ≡ true)
or_cases true b h = inl refl
or_cases false b h = inr h

pub record Found (f : Shape → Bool) (s : List Micro) : Type 0 where
  pub micro : Micro
  pub stands : IsIn micro s
  pub test : f (shape_of micro) ≡ true

pub record FoundIn (f : Shape → Bool) (ss : List (List Micro)) : Type 0 where
  pub place : ℕ
  pub micro : Micro
  pub stands : Stands micro place ss
  pub test : f (shape_of micro) ≡ true

found_in : (f : Shape → Bool) (s : List Micro) → some_in f s ≡ true → Found f s
found_in f [] h = absurd (let no : ⊥ = cc h in no)
found_in f (x ∷ s) h = by (or_cases (f (shape_of x)) (some_in f s) h) (λ k. found_in f s k)
  where
    by : (f (shape_of x) ≡ true) ⊎ (some_in f s ≡ true) → (some_in f s ≡ true → Found f s) → Found f (x ∷ s)
    by (inl here) rest = record { micro = x; stands = inl refl; test = here }
    by (inr later) rest = let r = rest later in record { micro = r.micro; stands = inr r.stands; test = r.test }

found_of : (f : Shape → Bool) (ss : List (List Micro)) → some_of f ss ≡ true → FoundIn f ss
found_of f [] h = absurd (let no : ⊥ = cc h in no)
found_of f (s ∷ ss) h = by (or_cases (some_in f s) (some_of f ss) h) (λ k. found_of f ss k)
  where
    by : (some_in f s ≡ true) ⊎ (some_of f ss ≡ true) → (some_of f ss ≡ true → FoundIn f ss) → FoundIn f (s ∷ ss)
    by (inl here) rest = let r = found_in f s here in record { place = 0; micro = r.micro; stands = r.stands; test = r.test }
    by (inr later) rest = let r = rest later in record { place = suc r.place; micro = r.micro; stands = r.stands; test = r.test }

-- ---- the five points, from the tests

clear : (b : Bool) → b ≡ false → b ≡ true → ⊥
clear true h k = cc h
clear false h k = cc k

both_true : (a b : Bool) → a ≡ true → b ≡ true → (a && b) ≡ true
both_true true b h k = k
both_true false b h k = h

module _ (m : Micro) where
  -- a micro that must not be followed
  pub no_hits : (e : Micro) → must_follow (shape_of e) (shape_of m) ≡ false → hits (shape_of e) (shape_of m) ≡ false
  no_hits e h = or_left (hits (shape_of e) (shape_of m)) (clashes (shape_of e) (shape_of m)) (or_left _ (is_stream (shape_of e) && is_stream (shape_of m)) h)

  pub no_clash : (e : Micro) → must_follow (shape_of e) (shape_of m) ≡ false → clashes (shape_of e) (shape_of m) ≡ false
  no_clash e h = or_right (hits (shape_of e) (shape_of m)) (clashes (shape_of e) (shape_of m)) (or_left _ (is_stream (shape_of e) && is_stream (shape_of m)) h)

  no_streams : (e : Micro) → must_follow (shape_of e) (shape_of m) ≡ false → is_stream (shape_of e) ≡ true → is_stream (shape_of m) ≡ true → ⊥
  no_streams e h k n = clear _ (or_right (hits (shape_of e) (shape_of m) || clashes (shape_of e) (shape_of m)) _ h) (both_true _ _ k n)

  strict_at : (s : List Micro) (ss : List (List Micro)) (j : ℕ) (e : Micro) → some_in (λ e. must_follow e (shape_of m)) s ≡ false → some_of (λ e. may_not_pass e (shape_of m)) ss ≡ false → Stands e j (s ∷ ss) → must_follow (shape_of e) (shape_of m) ≡ false
  strict_at s ss zero e h k i = none_in (λ e. must_follow e (shape_of m)) s e h i
  strict_at s ss (suc j) e h k i = or_left (must_follow (shape_of e) (shape_of m)) (feeds_on (shape_of e) (shape_of m)) (none_of (λ e. may_not_pass e (shape_of m)) ss j e k i)

  reads_at : (s : List Micro) (ss : List (List Micro)) (j : ℕ) (e : Micro) → some_of (λ e. may_not_pass e (shape_of m)) ss ≡ false → Stands e j (s ∷ ss) → feeds_on (shape_of e) (shape_of m) ≡ true → j ≤ 0
  reads_at s ss zero e k i h = omega arith
  reads_at s ss (suc j) e k i h = absurd (clear _ (or_right (must_follow (shape_of e) (shape_of m)) (feeds_on (shape_of e) (shape_of m)) (none_of (λ e. may_not_pass e (shape_of m)) ss j e k i)) h)

  meets_here : (s : List Micro) (ss : List (List Micro)) → some_in (λ e. must_follow e (shape_of m)) s ≡ false → some_of (λ e. may_not_pass e (shape_of m)) ss ≡ false → has_room m s ≡ true → Meets m (s ∷ ss) 0
  meets_here s ss h k r = record {
    after_writes = λ j e i t. absurd (clear _ (no_hits e (strict_at s ss j e h k i)) t);
    not_before_reads = λ j e i t. reads_at s ss j e k i t;
    after_accesses = λ j e i t. absurd (clear _ (no_clash e (strict_at s ss j e h k i)) t);
    after_streams = λ j e i t u. absurd (no_streams e (strict_at s ss j e h k i) t u);
    room = r;
  }

  -- what has to be followed stands before
  strict_before : (ss : List (List Micro)) (k j : ℕ) (e : Micro) → Meets m ss k → Stands e j ss → must_follow (shape_of e) (shape_of m) ≡ true → j < k
  strict_before ss k j e meets i t = by (or_cases (hits (shape_of e) (shape_of m) || clashes (shape_of e) (shape_of m)) (is_stream (shape_of e) && is_stream (shape_of m)) t)
    where
      first_true : (a b : Bool) → (a && b) ≡ true → a ≡ true
      first_true true b h = refl
      first_true false b h = h

      second_true : (a b : Bool) → (a && b) ≡ true → b ≡ true
      second_true true b h = h
      second_true false b h = cc h

      by_two : (hits (shape_of e) (shape_of m) ≡ true) ⊎ (clashes (shape_of e) (shape_of m) ≡ true) → j < k
      by_two (inl t) = meets.after_writes j e i t
      by_two (inr t) = meets.after_accesses j e i t

      by : ((hits (shape_of e) (shape_of m) || clashes (shape_of e) (shape_of m)) ≡ true) ⊎ ((is_stream (shape_of e) && is_stream (shape_of m)) ≡ true) → j < k
      by (inl t) = by_two (or_cases (hits (shape_of e) (shape_of m)) (clashes (shape_of e) (shape_of m)) t)
      by (inr t) = meets.after_streams j e i (first_true (is_stream (shape_of e)) (is_stream (shape_of m)) t) (second_true (is_stream (shape_of e)) (is_stream (shape_of m)) t)

  fails_here : (s : List Micro) (ss : List (List Micro)) → may_stand m s ss ≡ false → Meets m (s ∷ ss) 0 → ⊥
  fails_here s ss h meets = by (some_in (λ e. must_follow e (shape_of m)) s) (some_of (λ e. may_not_pass e (shape_of m)) ss) refl refl h
    where
      passed : FoundIn (λ e. may_not_pass e (shape_of m)) ss → ⊥
      passed f = by_test (or_cases (must_follow (shape_of f.micro) (shape_of m)) (feeds_on (shape_of f.micro) (shape_of m)) f.test)
        where
          by_test : (must_follow (shape_of f.micro) (shape_of m) ≡ true) ⊎ (feeds_on (shape_of f.micro) (shape_of m) ≡ true) → ⊥
          by_test (inl t) = let lt : suc f.place < 0 = strict_before (s ∷ ss) 0 (suc f.place) f.micro meets f.stands t in let no : ⊥ = omega arith in no
          by_test (inr t) = let le : suc f.place ≤ 0 = meets.not_before_reads (suc f.place) f.micro f.stands t in let no : ⊥ = omega arith in no

      by : (a b : Bool) → some_in (λ e. must_follow e (shape_of m)) s ≡ a → some_of (λ e. may_not_pass e (shape_of m)) ss ≡ b → ((not a && not b) && has_room m s) ≡ false → ⊥
      by true b ea eb k = let f = found_in (λ e. must_follow e (shape_of m)) s ea in let lt : 0 < 0 = strict_before (s ∷ ss) 0 0 f.micro meets f.stands f.test in let no : ⊥ = omega arith in no
      by false true ea eb k = passed (found_of (λ e. may_not_pass e (shape_of m)) ss eb)
      by false false ea eb k = clear (has_room m s) k meets.room

  meets_later : (s : List Micro) (ss : List (List Micro)) (k : ℕ) → Meets m ss k → Meets m (s ∷ ss) (suc k)
  meets_later s ss k h = record {
    after_writes = writes;
    not_before_reads = reads;
    after_accesses = accesses;
    after_streams = streams;
    room = h.room;
  }
    where
      writes : (j : ℕ) (e : Micro) → Stands e j (s ∷ ss) → hits (shape_of e) (shape_of m) ≡ true → j < suc k
      writes zero e i t = omega arith
      writes (suc j) e i t = let lt : j < k = h.after_writes j e i t in omega arith

      reads : (j : ℕ) (e : Micro) → Stands e j (s ∷ ss) → feeds_on (shape_of e) (shape_of m) ≡ true → j ≤ suc k
      reads zero e i t = omega arith
      reads (suc j) e i t = let le : j ≤ k = h.not_before_reads j e i t in omega arith

      accesses : (j : ℕ) (e : Micro) → Stands e j (s ∷ ss) → clashes (shape_of e) (shape_of m) ≡ true → j < suc k
      accesses zero e i t = omega arith
      accesses (suc j) e i t = let lt : j < k = h.after_accesses j e i t in omega arith

      streams : (j : ℕ) (e : Micro) → Stands e j (s ∷ ss) → is_stream (shape_of e) ≡ true → is_stream (shape_of m) ≡ true → j < suc k
      streams zero e i t u = omega arith
      streams (suc j) e i t u = let lt : j < k = h.after_streams j e i t u in omega arith

  meets_earlier : (s : List Micro) (ss : List (List Micro)) (k : ℕ) → Meets m (s ∷ ss) (suc k) → Meets m ss k
  meets_earlier s ss k h = record {
    after_writes = λ j e i t. let lt : suc j < suc k = h.after_writes (suc j) e i t in omega arith;
    not_before_reads = λ j e i t. let le : suc j ≤ suc k = h.not_before_reads (suc j) e i t in omega arith;
    after_accesses = λ j e i t. let lt : suc j < suc k = h.after_accesses (suc j) e i t in omega arith;
    after_streams = λ j e i t u. let lt : suc j < suc k = h.after_streams (suc j) e i t u in omega arith;
    room = h.room;
  }

  room_at_first : (c : Class) → nat_lt 0 (room_of c) ≡ true
  room_at_first Plain = refl
  room_at_first Multiply = refl
  room_at_first Divide = refl
  room_at_first (AccessTo u) = refl
  room_at_first StreamOp = refl

  pub and_parts : (a b c : Bool) → ((not a && not b) && c) ≡ true → (a ≡ false) × (b ≡ false) × (c ≡ true)
  and_parts true b c h = absurd (let no : ⊥ = cc h in no)
  and_parts false true c h = absurd (let no : ⊥ = cc h in no)
  and_parts false false c h = (refl, refl, h)

  pub placed_earliest : (ss : List (List Micro)) → IsPlaced m ss (placed m ss)
  placed_earliest [] = record {
    place = 0;
    earliest = record {
      meets = record {
        after_writes = λ j e i t. absurd i;
        not_before_reads = λ j e i t. absurd i;
        after_accesses = λ j e i t. absurd i;
        after_streams = λ j e i t u. absurd i;
        room = room_at_first (class_of m);
      };
      none_before = λ j lt h. let no : ⊥ = omega arith in no;
    };
    is = refl;
  }
  placed_earliest (s ∷ ss) = by (may_stand m s ss) refl (placed_earliest ss)
    where
      by : (b : Bool) → may_stand m s ss ≡ b → IsPlaced m ss (placed m ss) → IsPlaced m (s ∷ ss) (placed m (s ∷ ss))
      by true e rest =
          let parts = and_parts (some_in (λ e. must_follow e (shape_of m)) s) (some_of (λ e. may_not_pass e (shape_of m)) ss) (has_room m s) e in
          record {
            place = 0;
            earliest = record {
              meets = meets_here s ss parts.0 parts.1 parts.2;
              none_before = λ j lt h. let no : ⊥ = omega arith in no;
            };
            is = ap (λ b. if b then (s ++ m ∷ []) ∷ ss else s ∷ placed m ss) e;
          }
      by false e rest = record {
        place = suc rest.place;
        earliest = record {
          meets = meets_later s ss rest.place rest.earliest.meets;
          none_before = λ j lt h. before j lt h;
        };
        is = ap (λ b. if b then (s ++ m ∷ []) ∷ ss else s ∷ placed m ss) e ∙ ap (λ r. s ∷ r) rest.is;
      }
        where
          before : (j : ℕ) → j < suc rest.place → Meets m (s ∷ ss) j → ⊥
          before zero lt h = fails_here s ss e h
          before (suc j) lt h = rest.earliest.none_before j (omega arith) (meets_earlier s ss j h)
