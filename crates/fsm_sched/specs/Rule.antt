-- The schedule of a block: each micro in the earliest state that it may stand in.
use Rattle.std.specs.Prelude.{ℕ, suc, List, [], ◌∷◌, ◌++◌, Option, Some, None, Bool, true, false, nat_eq, nat_lt, ◌||◌, ◌&&◌, not, if◌then◌else◌, count_by}
use Rattle.std.specs.List.{list_any}
use Rattle.fsm_core.specs.declared.micro.Micro.{Micro}
use Rattle.fsm_core.specs.Classes.{class_of, is_same_class, room_of}
use Rattle.fsm_core.specs.Shapes.{Shape, Sets, Sets1, Sets2, Loads, Stores, Reads, Writes, shape_of, Stream, Quiet, Takes, Gives, stream_of, target, writes}

-- whether it reads this register
abbrev pub reads : Shape → ℕ → Bool
reads (Sets t v) r = false
reads (Sets1 t a f) r = nat_eq r a
reads (Sets2 t a b f) r = nat_eq r a || nat_eq r b
reads (Loads t u a) r = nat_eq r a
reads (Stores u a b) r = nat_eq r a || nat_eq r b
reads (Reads t p) r = false
reads (Writes p a) r = nat_eq r a

abbrev pub touched : Option ℕ → Shape → Bool
touched None m = false
touched (Some t) m = reads m t || writes m t

-- e writes a register which m reads or writes
abbrev pub hits : Shape → Shape → Bool
hits e m = touched (target e) m

abbrev pub read_by : Option ℕ → Shape → Bool
read_by None e = false
read_by (Some t) e = reads e t

-- e reads a register which m writes
abbrev pub feeds_on : Shape → Shape → Bool
feeds_on e m = read_by (target m) e

-- an access to an array
pub data Access : Type 0 where
  Free : Access
  Loading : ℕ → Access
  Storing : ℕ → Access

abbrev pub access_of : Shape → Access
access_of (Sets t v) = Free
access_of (Sets1 t a f) = Free
access_of (Sets2 t a b f) = Free
access_of (Loads t u a) = Loading u
access_of (Stores u a b) = Storing u
access_of (Reads t p) = Free
access_of (Writes p a) = Free

abbrev pub is_access_to : Access → ℕ → Bool
is_access_to Free u = false
is_access_to (Loading v) u = nat_eq v u
is_access_to (Storing v) u = nat_eq v u

abbrev pub is_store_to : Access → ℕ → Bool
is_store_to Free u = false
is_store_to (Loading v) u = false
is_store_to (Storing v) u = nat_eq v u

abbrev pub clash : Access → Access → Bool
clash a Free = false
clash a (Loading u) = is_store_to a u
clash a (Storing u) = is_access_to a u

-- both are accesses of one array, and one of the two is a Store
abbrev pub clashes : Shape → Shape → Bool
clashes e m = clash (access_of e) (access_of m)

abbrev pub is_quiet : Stream → Bool
is_quiet Quiet = true
is_quiet (Takes p) = false
is_quiet (Gives p a) = false

abbrev pub is_stream : Shape → Bool
is_stream sh = not (is_quiet (stream_of sh))

-- the micro has to stand in a later state than an earlier micro e
abbrev pub must_follow : Shape → Shape → Bool
must_follow e m = hits e m || clashes e m || (is_stream e && is_stream m)

-- the micro may not stand in an earlier state than an earlier micro e
abbrev pub may_not_pass : Shape → Shape → Bool
may_not_pass e m = must_follow e m || feeds_on e m

-- some micro of a state
abbrev pub some_in : (Shape → Bool) → List Micro → Bool
some_in f s = list_any (λ e. f (shape_of e)) s

-- some micro of some states
abbrev pub some_of : (Shape → Bool) → List (List Micro) → Bool
some_of f ss = list_any (some_in f) ss

-- the state has room for one more of its class
abbrev pub has_room : Micro → List Micro → Bool
has_room m s = nat_lt (count_by (λ e. is_same_class (class_of e) (class_of m)) s) (room_of (class_of m))

-- a state with some states after it: the micro may stand in it
abbrev pub may_stand : Micro → List Micro → List (List Micro) → Bool
may_stand m s after =
    not (some_in (λ e. must_follow e (shape_of m)) s) && not (some_of (λ e. may_not_pass e (shape_of m)) after) && has_room m s

-- one more micro, in the earliest state that it may stand in, and else in a new one
abbrev pub placed : Micro → List (List Micro) → List (List Micro)
placed m [] = (m ∷ []) ∷ []
placed m (s ∷ ss) = if may_stand m s ss then (s ++ m ∷ []) ∷ ss else s ∷ placed m ss

-- the micros in order, after the states so far
abbrev pub placed_all : List Micro → List (List Micro) → List (List Micro)
placed_all [] ss = ss
placed_all (m ∷ ms) ss = placed_all ms (placed m ss)

-- one empty state in place of none
abbrev pub some_states : List (List Micro) → List (List Micro)
some_states [] = [] ∷ []
some_states (s ∷ ss) = s ∷ ss

abbrev pub scheduled : List Micro → List (List Micro)
scheduled ms = some_states (placed_all ms [])

-- ---- as a search, state by state

-- one place later
abbrev pub one_later : Option ℕ → Option ℕ
one_later None = None
one_later (Some k) = Some (suc k)

-- the place of the state that the micro may stand in
abbrev pub spot : Micro → List (List Micro) → Option ℕ
spot m [] = None
spot m (s ∷ ss) = if may_stand m s ss then Some 0 else one_later (spot m ss)

abbrev pub spot_or : Option ℕ → Bool → ℕ → Option ℕ
spot_or (Some j) room k = Some j
spot_or None room k = if room then Some k else None

-- that place, where one more state comes after some states with this place
abbrev pub spot_next : Micro → Option ℕ → List Micro → ℕ → Option ℕ
spot_next m best s k =
    if some_in (λ e. must_follow e (shape_of m)) s then None
    else (if some_in (λ e. feeds_on e (shape_of m)) s then spot_or None (has_room m s) k else spot_or best (has_room m s) k)
