-- The state that the variables of a run stand for.
use Rattle.std.specs.Prelude.{◌≡◌, ℕ, ◌<◌, List, [], ◌∷◌, Option, None, Some, map, length, drop, get_or, slice_index}
use Rattle.pld_base.specs.Lists.{with, port}
use Rattle.pld_base.specs.declared.event.Event.TheVariants.{Read}
use Rattle.pld_ast.specs.Meaning.{State, set_scalar, set_element, and_event}
use Rattle.pld_ast.specs.Program.{Program}
use Rattle.pld_mean.specs.declared.vars.Vars.{Vars}
use Rattle.pld_mean.specs.declared.vars.Spot.{Spot}
use Rattle.pld_mean.specs.declared.vars.Spot.TheVariants.{Scalar, Element}

-- the words of each array
abbrev pub rows_of : Vars → List (List ℕ)
rows_of v = map (λ row. row.items) v.arrays.items

-- with these words at the in-ports, of which the first ones are read
abbrev pub state_of : List (List ℕ) → Vars → State
state_of ins v = record {
  scalars = λ s. slice_index v.scalars.items s;
  arrays = λ t i. slice_index (get_or (rows_of v) t []) i;
  left = λ p. drop (slice_index v.read.items p) (get_or ins p []);
  events = v.events.items;
}

-- how many variables and in-ports there are
pub record Sizes : Type 0 where
  pub scalars : ℕ
  pub lengths : List ℕ
  pub ins : ℕ

abbrev pub sizes_of : Vars → Sizes
sizes_of v = record { scalars = length v.scalars.items; lengths = map (λ row. length row.items) v.arrays.items; ins = length v.read.items }

abbrev pub sizes_in : Program → Sizes
sizes_in g = record { scalars = g.scalars; lengths = g.lengths; ins = g.ins }

-- there is such a variable
abbrev pub IsSpot : Sizes → Spot → Type 0
IsSpot sizes (Scalar s) = s < sizes.scalars
IsSpot sizes (Element t i) = (t < length sizes.lengths) × (i < slice_index sizes.lengths t)

-- a variable is given a word
abbrev pub set_spot : State → Spot → ℕ → State
set_spot st (Scalar s) v = set_scalar st s v
set_spot st (Element t i) v = set_element st t i v

-- other words are left at a port
abbrev pub left_with : State → ℕ → List ℕ → State
left_with st p ws = record st { left = with st.left p ws }

-- the next word of a port was taken, or there was none and nothing has changed
abbrev pub Took : List (List ℕ) → ℕ → Vars → Option ℕ → Vars → Type 0
Took ins p old None new = (new ≡ old) × ((state_of ins old).left p ≡ [])
Took ins p old (Some w) new =
    (ws : List ℕ) × ((state_of ins old).left p ≡ w ∷ ws) × (state_of ins new ≡ left_with (and_event (state_of ins old) (Read (port p) w)) p ws)
