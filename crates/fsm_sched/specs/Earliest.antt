-- The schedule's rule, by the states' numbers.
use Rattle.std.specs.Prelude.{◌≡◌, ℕ, zero, suc, ◌<◌, ◌≤◌, List, [], ◌∷◌, ◌++◌, true}
use Rattle.fsm_core.specs.declared.micro.Micro.{Micro}
use Rattle.fsm_core.specs.Classes.{HasRoom}
use Rattle.fsm_core.specs.Shapes.{shape_of}
use Rattle.fsm_core.specs.Table.{IsIn, HasFreshTargets}
use Rattle.fsm_sched.specs.Rule.{hits, feeds_on, clashes, is_stream, has_room}

-- the micro stands in the state with this number
abbrev pub Stands : Micro → ℕ → List (List Micro) → Type 0
Stands e j [] = ⊥
Stands e zero (s ∷ ss) = IsIn e s
Stands e (suc j) (s ∷ ss) = Stands e j ss

-- a state's micros, and none after the last state
abbrev pub state_at : ℕ → List (List Micro) → List Micro
state_at k [] = []
state_at zero (s ∷ ss) = s
state_at (suc k) (s ∷ ss) = state_at k ss

-- the five points
pub record Meets (m : Micro) (ss : List (List Micro)) (k : ℕ) : Type 0 where
  -- later than each micro that writes a register which m reads or writes
  pub after_writes : (j : ℕ) (e : Micro) → Stands e j ss → hits (shape_of e) (shape_of m) ≡ true → j < k
  -- not earlier than each micro that reads a register which m writes
  pub not_before_reads : (j : ℕ) (e : Micro) → Stands e j ss → feeds_on (shape_of e) (shape_of m) ≡ true → j ≤ k
  -- later than each access of the same array where one of the two is a Store
  pub after_accesses : (j : ℕ) (e : Micro) → Stands e j ss → clashes (shape_of e) (shape_of m) ≡ true → j < k
  -- later than each stream operation where m is one
  pub after_streams : (j : ℕ) (e : Micro) → Stands e j ss → is_stream (shape_of e) ≡ true → is_stream (shape_of m) ≡ true → j < k
  -- the state has room for one more of its class
  pub room : has_room m (state_at k ss) ≡ true

pub record IsEarliest (m : Micro) (ss : List (List Micro)) (k : ℕ) : Type 0 where
  pub meets : Meets m ss k
  pub none_before : (j : ℕ) → j < k → Meets m ss j → ⊥

-- one more micro at the end of a state, which may be a new one
abbrev pub put_last : Micro → ℕ → List (List Micro) → List (List Micro)
put_last m zero [] = (m ∷ []) ∷ []
put_last m (suc k) [] = []
put_last m zero (s ∷ ss) = (s ++ m ∷ []) ∷ ss
put_last m (suc k) (s ∷ ss) = s ∷ put_last m k ss

-- one more micro, in the earliest state that meets the five points
pub record IsPlaced (m : Micro) (before after : List (List Micro)) : Type 0 where
  pub place : ℕ
  pub earliest : IsEarliest m before place
  pub is : after ≡ put_last m place before

-- ---- states in range

-- room for its micros, and no target twice
pub record IsInRange (s : List Micro) : Type 0 where
  pub room : HasRoom s
  pub fresh : HasFreshTargets s

abbrev pub AllInRange : List (List Micro) → Type 0
AllInRange [] = Unit {0}
AllInRange (s ∷ ss) = IsInRange s × AllInRange ss
