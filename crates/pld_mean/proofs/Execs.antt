-- What statements do, by what their parts do.
use Rattle.std.proofs.Common.{◌≡◌, ℕ, zero, suc, ◌<◌, ◌≤◌, ◌%◌, List, ◌∷◌, length, map, refl, sym, ap, ◌∙◌, subst, []}
use Rattle.std.specs.Prelude.{slice_index}
use Rattle.std.proofs.lemmas.List.{length-map}
use Rattle.pld_base.specs.Lists.{port}
use Rattle.pld_base.specs.Process.{Starved}
use Rattle.pld_base.specs.declared.event.Event.TheVariants.{Read as ReadEvent}
use Rattle.pld_ast.specs.declared.tree.Array.{Array}
use Rattle.pld_ast.specs.declared.tree.Used.{Used}
use Rattle.pld_ast.specs.declared.tree.Expr.{Expr}
use Rattle.pld_ast.specs.declared.tree.Target.{Target}
use Rattle.pld_ast.specs.declared.tree.Target.TheVariants as target
use Rattle.pld_ast.specs.declared.tree.Operator.{Operator}
use Rattle.pld_ast.specs.Meaning.{State, Outcome, Goes, Over, value_of, at_zero, and_event, take_word, meaning}
use Rattle.pld_ast.specs.Resolve.{array_no, place_in, value_in, declared_in, program_of, assigned, read_to}
use Rattle.pld_ast.specs.Sound.{IsKnownValue, IsKnown}
use Rattle.pld_check.specs.Known.{IsKnownTarget, AreFilled}
use Rattle.pld_mean.specs.declared.vars.Spot.{Spot}
use Rattle.pld_mean.specs.declared.vars.Spot.TheVariants.{Element}
use Rattle.pld_mean.specs.Vars.{Sizes, sizes_in, IsSpot, set_spot, left_with}
use Rattle.pld_mean.specs.Targets.{spot_of}

-- a choice by a number that was computed
pub at_none : {A : Type 0} (r v : ℕ) (a b : A) → r ≡ v → r ≡ 0 → a ≡ at_zero v a b
at_none r v a b e none = subst (λ x. a ≡ at_zero x a b) (sym none ∙ e) refl

at_positive : {A : Type 0} (v : ℕ) (a b : A) → (v ≡ 0 → ⊥) → b ≡ at_zero v a b
at_positive zero a b some = absurd (some refl)
at_positive (suc v) a b some = refl

pub at_some : {A : Type 0} (r v : ℕ) (a b : A) → r ≡ v → (r ≡ 0 → ⊥) → b ≡ at_zero v a b
at_some r v a b e some = at_positive v a b (λ z. some (e ∙ z))

module _ (op : Operator) where
  -- an element of an array
  pub element_spot : (st : State) (to : Target) (u : Used) (i : Expr) (arrays : List Array) (t k r : ℕ) → AreFilled (program_of op).lengths → to ≡ target.Element u i → arrays ≡ op.arrays → t ≡ place_in (map (λ a. a.name) arrays) u.name → (IsKnownValue (program_of op) (value_in (declared_in op) i) → r ≡ value_of (program_of op).lengths (value_in (declared_in op) i) st) → (t < length arrays → 1 ≤ slice_index (map (λ a. a.len) arrays) t → k ≡ r % slice_index (map (λ a. a.len) arrays) t) → IsKnownTarget op to → Element t k ≡ spot_of (declared_in op) (program_of op).lengths to st
  element_spot st to u i arrays t k r filled is got et ev ek known =
      let d = declared_in op in
      let l = (program_of op).lengths in
      let no = array_no d u.name in
      let has : IsKnownTarget op (target.Element u i) = subst (IsKnownTarget op) is known in
      let t_is : t ≡ no = et ∙ ap (λ xs. place_in (map (λ a. a.name) xs) u.name) got in
      let at : (xs : List Array) → op.arrays ≡ xs → (t < length xs → 1 ≤ slice_index (map (λ a. a.len) xs) t → k ≡ r % slice_index (map (λ a. a.len) xs) t) → k ≡ r % slice_index l t =
      λ xs same f. subst (λ ys. (t < length ys → 1 ≤ slice_index (map (λ a. a.len) ys) t → k ≡ r % slice_index (map (λ a. a.len) ys) t)) (sym same) f (subst (λ n. t < n) (length-map op.arrays (λ a. a.len)) (subst (λ x. x < length l) (sym t_is) has.0)) (filled t (subst (λ x. x < length l) (sym t_is) has.0)) in
      ap (Element t) (at arrays (sym got) ek) ∙ ap (λ x. Element x (r % slice_index l x)) t_is ∙ ap (λ x. Element no (x % slice_index l no)) (ev has.1) ∙ ap (λ x. spot_of d l x st) (sym is)

  known_assigned : (to : Target) (e : Expr) → IsKnown (program_of op) (assigned (declared_in op) to e) → IsKnownTarget op to × IsKnownValue (program_of op) (value_in (declared_in op) e)
  known_assigned (target.Scalar u) e k = k
  known_assigned (target.Element u i) e k = ((k.0, k.1), k.2)

  assigned_means : (to : Target) (e : Expr) (n : ℕ) (st : State) → meaning (program_of op).lengths (assigned (declared_in op) to e) n st ≡ Goes (set_spot st (spot_of (declared_in op) (program_of op).lengths to st) (value_of (program_of op).lengths (value_in (declared_in op) e) st))
  assigned_means (target.Scalar u) e n st = refl
  assigned_means (target.Element u i) e n st = refl

  known_read : (to : Target) (p : ℕ) → IsKnown (program_of op) (read_to (declared_in op) to p) → IsKnownTarget op to × (p < (program_of op).ins)
  known_read (target.Scalar u) p k = k
  known_read (target.Element u i) p k = ((k.0, k.1), k.2)

  read_means : (to : Target) (p n : ℕ) (st : State) → meaning (program_of op).lengths (read_to (declared_in op) to p) n st ≡ take_word p (st.left p) st (λ w next. Goes (set_spot next (spot_of (declared_in op) (program_of op).lengths to st) w))
  read_means (target.Scalar u) p n st = refl
  read_means (target.Element u i) p n st = refl

  -- a variable that a target stands for, where there are so many variables
  pub record IsAt (sizes : Sizes) (to : Target) (st : State) (spot : Spot) : Type 0 where
    pub sized : sizes ≡ sizes_in (program_of op)
    pub value : IsKnownTarget op to → spot ≡ spot_of (declared_in op) (program_of op).lengths to st
    pub there : IsKnownTarget op to → IsSpot (sizes_in (program_of op)) spot

  put_at : (sizes : Sizes) (to : Target) (st : State) (spot : Spot) → IsAt sizes to st spot → IsKnownTarget op to → (before after : State) (v : ℕ) → (IsSpot sizes spot → after ≡ set_spot before spot v) → after ≡ set_spot before (spot_of (declared_in op) (program_of op).lengths to st) v
  put_at sizes to st spot at known before after v f =
      f (subst (λ s. IsSpot s spot) (sym at.sized) (at.there known)) ∙ ap (λ s. set_spot before s v) (at.value known)

  pub did_assign : (sizes : Sizes) (to : Target) (e : Expr) (st st' : State) (spot : Spot) (n v : ℕ) → IsAt sizes to st spot → (IsKnownValue (program_of op) (value_in (declared_in op) e) → v ≡ value_of (program_of op).lengths (value_in (declared_in op) e) st) → (IsSpot sizes spot → st' ≡ set_spot st spot v) → IsKnown (program_of op) (assigned (declared_in op) to e) → Goes st' ≡ meaning (program_of op).lengths (assigned (declared_in op) to e) n st
  did_assign sizes to e st st' spot n v at ev f k =
      let known = known_assigned to e k in
      ap Goes (put_at sizes to st spot at known.0 st st' v f ∙ ap (set_spot st (spot_of (declared_in op) (program_of op).lengths to st)) (ev known.1)) ∙ sym (assigned_means to e n st)

  pub did_read : (sizes : Sizes) (to : Target) (p : ℕ) (st st' st'' : State) (spot : Spot) (n w : ℕ) → IsAt sizes to st spot → (p < sizes.ins → (ws : List ℕ) × (st.left p ≡ w ∷ ws) × (st' ≡ left_with (and_event st (ReadEvent (port p) w)) p ws)) → (IsSpot sizes spot → st'' ≡ set_spot st' spot w) → IsKnown (program_of op) (read_to (declared_in op) to p) → Goes st'' ≡ meaning (program_of op).lengths (read_to (declared_in op) to p) n st
  did_read sizes to p st st' st'' spot n w at taken f k =
      let known = known_read to p k in
      let at_spot = spot_of (declared_in op) (program_of op).lengths to st in
      let took = taken (subst (λ s. p < s.ins) (sym at.sized) known.1) in
      ap Goes (put_at sizes to st spot at known.0 st' st'' w f ∙ ap (λ s. set_spot s at_spot w) took.2) ∙ ap (λ xs. take_word p xs st (λ v next. Goes (set_spot next at_spot v))) (sym took.1) ∙ sym (read_means to p n st)

  pub did_starve : (sizes : Sizes) (to : Target) (p : ℕ) (st st' : State) (n : ℕ) → sizes ≡ sizes_in (program_of op) → (p < sizes.ins → (st' ≡ st) × (st.left p ≡ [])) → IsKnown (program_of op) (read_to (declared_in op) to p) → Over (Starved p) st'.events ≡ meaning (program_of op).lengths (read_to (declared_in op) to p) n st
  did_starve sizes to p st st' n sized taken k =
      let took = taken (subst (λ s. p < s.ins) (sym sized) (known_read to p k).1) in
      let at_spot = spot_of (declared_in op) (program_of op).lengths to st in
      ap (λ s. Over (Starved p) s.events) took.0 ∙ ap (λ xs. take_word p xs st (λ v next. Goes (set_spot next at_spot v))) (sym took.1) ∙ sym (read_means to p n st)

  pub at_port : (to : Target) (p q n : ℕ) (st : State) (o : Outcome) → p ≡ q → (IsKnown (program_of op) (read_to (declared_in op) to p) → o ≡ meaning (program_of op).lengths (read_to (declared_in op) to p) n st) → IsKnown (program_of op) (read_to (declared_in op) to q) → o ≡ meaning (program_of op).lengths (read_to (declared_in op) to q) n st
  at_port to p q n st o e h = subst (λ x. IsKnown (program_of op) (read_to (declared_in op) to x) → o ≡ meaning (program_of op).lengths (read_to (declared_in op) to x) n st) e h
