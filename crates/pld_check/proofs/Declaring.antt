-- What a name is known as, and how often it is declared, over lists of declarations.
use Rattle.std.proofs.Common.{◌≡◌, ℕ, suc, ◌+◌, ◌<◌, List, ◌∷◌, [], ◌++◌, length, Bool, true, false, cond, Option, Some, None, min, refl, sym, ap, subst, ◌∙◌, arith}
use Rattle.std.specs.Prelude.{map, filter, IfNone, not}
use Rattle.std.specs.List.{cons_option}
use Rattle.std.specs.Str.{bytes_eq}
use Rattle.std.proofs.lemmas.Bool.{and_parts}
use Rattle.pld_base.specs.declared.event.Place.{Place}
use Rattle.pld_base.specs.declared.event.Side.{Side}
use Rattle.pld_base.specs.declared.event.Side.TheVariants as side
use Rattle.pld_base.specs.declared.fault.FaultKind.{FaultKind}
use Rattle.pld_ast.specs.declared.tree.Port.{Port}
use Rattle.pld_ast.specs.declared.tree.Scalar as tree_scalar
use Rattle.pld_ast.specs.declared.tree.Array as tree_array
use Rattle.pld_ast.specs.declared.tree.Used.{Used}
use Rattle.pld_ast.specs.declared.tree.Operator.{Operator}
use Rattle.pld_ast.specs.Resolve.{place_in, ports_at, is_in, is_out}
use Rattle.pld_base.specs.declared.fault.SourceFault.{SourceFault}
use Rattle.pld_check.specs.declared.roles.Role.{Role}
use Rattle.pld_check.specs.declared.roles.Role.TheVariants as role
use Rattle.pld_check.specs.Uses.{Mention, port_role, of_port, of_scalar, of_array, declarations, used_as}
use Rattle.pld_check.specs.Faults.{declares, known_as, times_declared, misuse, if_wrong, use_fault, misused_in, IsRole, Walked, precedes, least, or_else}

pub by_test : {P : Type 0} → (t : Bool) → (t ≡ true → P) → (t ≡ false → P) → P
by_test true f g = f refl
by_test false f g = g refl

or_if : (t : Bool) (r : Role) (a b : Option Role) → cond t (Some r) (or_else a b) ≡ or_else (cond t (Some r) a) b
or_if true r a b = refl
or_if false r a b = refl

pub known_in_both : (xs ys : List Mention) (name : List ℕ) (at : Place) → known_as (xs ++ ys) name at ≡ or_else (known_as xs name at) (known_as ys name at)
known_in_both [] ys name at = refl
known_in_both (d ∷ xs) ys name at =
    ap (cond (declares name at d) (Some d.role)) (known_in_both xs ys name at) ∙ or_if (declares name at d) d.role (known_as xs name at) (known_as ys name at)

pub known_in_three : (xs ys zs : List Mention) (name : List ℕ) (at : Place) → known_as (xs ++ (ys ++ zs)) name at ≡ or_else (known_as xs name at) (or_else (known_as ys name at) (known_as zs name at))
known_in_three xs ys zs name at = known_in_both xs (ys ++ zs) name at ∙ ap (or_else (known_as xs name at)) (known_in_both ys zs name at)

times_if : (t : Bool) (a b : ℕ) → cond t (suc (a + b)) (a + b) ≡ cond t (suc a) a + b
times_if true a b = omega arith
times_if false a b = refl

pub times_in_both : (xs ys : List Mention) (name : List ℕ) (at : Place) → times_declared (xs ++ ys) name at ≡ times_declared xs name at + times_declared ys name at
times_in_both [] ys name at = omega arith
times_in_both (d ∷ xs) ys name at =
    ap (λ n. cond (declares name at d) (suc n) n) (times_in_both xs ys name at) ∙ times_if (declares name at d) (times_declared xs name at) (times_declared ys name at)

-- names in lists
abbrev Has : List (List ℕ) → List ℕ → Type 0
Has names name = place_in names name < length names

has_first : (n : List ℕ) (names : List (List ℕ)) (name : List ℕ) → bytes_eq n name ≡ true → Has (n ∷ names) name
has_first n names name e = subst (λ t. cond (not t) (1 + place_in names name) 0 < suc (length names)) (sym e) (omega arith)

has_later : (n : List ℕ) (names : List (List ℕ)) (name : List ℕ) → Has names name → Has (n ∷ names) name
has_later n names name h = by_test (bytes_eq n name) (has_first n names name)
    (λ e. subst (λ t. cond (not t) (1 + place_in names name) 0 < suc (length names)) (sym e) (omega (arith, h)))

-- a declaration that makes a name known has that name
same_name : (d : Mention) (name : List ℕ) (at : Place) → declares name at d ≡ true → bytes_eq d.name name ≡ true
same_name d name at e = (and_parts (bytes_eq d.name name) (not (precedes at d.at)) e).0

abbrev role_or : Role → Option Role → Role
role_or a (Some b) = b
role_or a None = a

same_role : {a b : Role} → Some a ≡ Some b → a ≡ b
same_role {a} {b} e = ap (λ o. role_or a o) e

known_scalar : (ss : List tree_scalar.Scalar) (r : Role) (name : List ℕ) (at : Place) → known_as (map of_scalar ss) name at ≡ Some r → (r ≡ role.Scalar) × Has (map (λ s. s.name) ss) name
known_scalar [] r name at e = absurd (let no : ⊥ = cc in no)
known_scalar (s ∷ ss) r name at e = by_test (declares name at (of_scalar s))
    (λ t. (sym (same_role (sym (ap (λ b. cond b (Some role.Scalar) (known_as (map of_scalar ss) name at)) t) ∙ e)), has_first s.name (map (λ x. x.name) ss) name (same_name (of_scalar s) name at t)))
    (λ t. let more = known_scalar ss r name at (sym (ap (λ b. cond b (Some role.Scalar) (known_as (map of_scalar ss) name at)) t) ∙ e) in (more.0, has_later s.name (map (λ x. x.name) ss) name more.1))

known_array : (ss : List tree_array.Array) (r : Role) (name : List ℕ) (at : Place) → known_as (map of_array ss) name at ≡ Some r → (r ≡ role.Array) × Has (map (λ s. s.name) ss) name
known_array [] r name at e = absurd (let no : ⊥ = cc in no)
known_array (s ∷ ss) r name at e = by_test (declares name at (of_array s))
    (λ t. (sym (same_role (sym (ap (λ b. cond b (Some role.Array) (known_as (map of_array ss) name at)) t) ∙ e)), has_first s.name (map (λ x. x.name) ss) name (same_name (of_array s) name at t)))
    (λ t. let more = known_array ss r name at (sym (ap (λ b. cond b (Some role.Array) (known_as (map of_array ss) name at)) t) ∙ e) in (more.0, has_later s.name (map (λ x. x.name) ss) name more.1))

-- a port of a role
abbrev IsPortRole : List Port → Role → List ℕ → Type 0
IsPortRole ports role.Input name = Has (ports_at side.In ports) name
IsPortRole ports role.Output name = Has (ports_at side.Out ports) name
IsPortRole ports role.Scalar name = ⊥
IsPortRole ports role.Array name = ⊥

-- one more port in front, by its side
ins_on : (q : Port) (ports : List Port) → q.side ≡ side.In → ports_at side.In (q ∷ ports) ≡ q.name ∷ ports_at side.In ports
ins_on q ports e = ap (λ t. map (λ x. x.name) (cond (is_in t) (q ∷ filter (λ x. is_in x.side) ports) (filter (λ x. is_in x.side) ports))) e

ins_past : (q : Port) (ports : List Port) → q.side ≡ side.Out → ports_at side.In (q ∷ ports) ≡ ports_at side.In ports
ins_past q ports e = ap (λ t. map (λ x. x.name) (cond (is_in t) (q ∷ filter (λ x. is_in x.side) ports) (filter (λ x. is_in x.side) ports))) e

outs_on : (q : Port) (ports : List Port) → q.side ≡ side.Out → ports_at side.Out (q ∷ ports) ≡ q.name ∷ ports_at side.Out ports
outs_on q ports e = ap (λ t. map (λ x. x.name) (cond (is_out t) (q ∷ filter (λ x. is_out x.side) ports) (filter (λ x. is_out x.side) ports))) e

outs_past : (q : Port) (ports : List Port) → q.side ≡ side.In → ports_at side.Out (q ∷ ports) ≡ ports_at side.Out ports
outs_past q ports e = ap (λ t. map (λ x. x.name) (cond (is_out t) (q ∷ filter (λ x. is_out x.side) ports) (filter (λ x. is_out x.side) ports))) e

first_port : (q : Port) (ports : List Port) (s : Side) (name : List ℕ) → q.side ≡ s → bytes_eq q.name name ≡ true → IsPortRole (q ∷ ports) (port_role s) name
first_port q ports side.In name e h = subst (λ xs. Has xs name) (sym (ins_on q ports e)) (has_first q.name (ports_at side.In ports) name h)
first_port q ports side.Out name e h = subst (λ xs. Has xs name) (sym (outs_on q ports e)) (has_first q.name (ports_at side.Out ports) name h)

later_port : (q : Port) (ports : List Port) (s : Side) (r : Role) (name : List ℕ) → q.side ≡ s → IsPortRole ports r name → IsPortRole (q ∷ ports) r name
later_port q ports side.In role.Input name e h = subst (λ xs. Has xs name) (sym (ins_on q ports e)) (has_later q.name (ports_at side.In ports) name h)
later_port q ports side.Out role.Input name e h = subst (λ xs. Has xs name) (sym (ins_past q ports e)) h
later_port q ports side.In role.Output name e h = subst (λ xs. Has xs name) (sym (outs_past q ports e)) h
later_port q ports side.Out role.Output name e h = subst (λ xs. Has xs name) (sym (outs_on q ports e)) (has_later q.name (ports_at side.Out ports) name h)
later_port q ports s role.Scalar name e h = absurd h
later_port q ports s role.Array name e h = absurd h

known_port : (ports : List Port) (r : Role) (name : List ℕ) (at : Place) → known_as (map of_port ports) name at ≡ Some r → IsPortRole ports r name
known_port [] r name at e = absurd (let no : ⊥ = cc in no)
known_port (q ∷ ports) r name at e = by_test (declares name at (of_port q))
    (λ t. subst (λ x. IsPortRole (q ∷ ports) x name) (same_role (sym (ap (λ b. cond b (Some (port_role q.side)) (known_as (map of_port ports) name at)) t) ∙ e)) (first_port q ports q.side name refl (same_name (of_port q) name at t)))
    (λ t. later_port q ports q.side r name refl (known_port ports r name at (sym (ap (λ b. cond b (Some (port_role q.side)) (known_as (map of_port ports) name at)) t) ∙ e)))

is_port_role : (op : Operator) (r : Role) (name : List ℕ) → IsPortRole op.ports r name → IsRole op r name
is_port_role op role.Input name h = h
is_port_role op role.Output name h = h
is_port_role op role.Scalar name h = absurd h
is_port_role op role.Array name h = absurd h

pub lengths : {A B : Type 0} (f : A → B) (xs : List A) → length (map f xs) ≡ length xs
lengths f [] = refl
lengths f (x ∷ xs) = ap (λ n. suc n) (lengths f xs)

scalar_role : (op : Operator) (r : Role) (name : List ℕ) → (r ≡ role.Scalar) × Has (map (λ s. s.name) op.scalars) name → IsRole op r name
scalar_role op r name h = subst (λ x. IsRole op x name) (sym h.0) (subst (λ n. place_in (map (λ s. s.name) op.scalars) name < n) (lengths (λ s. s.name) op.scalars) h.1)

array_role : (op : Operator) (r : Role) (name : List ℕ) → (r ≡ role.Array) × Has (map (λ s. s.name) op.arrays) name → IsRole op r name
array_role op r name h = subst (λ x. IsRole op x name) (sym h.0) (subst (λ n. place_in (map (λ s. s.name) op.arrays) name < n) (lengths (λ s. s.name) op.arrays ∙ sym (lengths (λ a. a.len) op.arrays)) h.1)

one_of : (op : Operator) (r : Role) (name : List ℕ) (a b c : Option Role) → (a ≡ Some r → IsRole op r name) → (b ≡ Some r → IsRole op r name) → (c ≡ Some r → IsRole op r name) → or_else a (or_else b c) ≡ Some r → IsRole op r name
one_of op r name (Some x) b c f g h e = f e
one_of op r name None (Some x) c f g h e = g e
one_of op r name None None c f g h e = h e

-- what is known as a role has it
pub known_role : (op : Operator) (r : Role) (name : List ℕ) (at : Place) → known_as (declarations op) name at ≡ Some r → IsRole op r name
known_role op r name at e =
    one_of op r name (known_as (map of_port op.ports) name at) (known_as (map of_scalar op.scalars) name at) (known_as (map of_array op.arrays) name at)
    (λ h. is_port_role op r name (known_port op.ports r name at h)) (λ h. scalar_role op r name (known_scalar op.scalars r name at h)) (λ h. array_role op r name (known_array op.arrays r name at h))
    (sym (known_in_three (map of_port op.ports) (map of_scalar op.scalars) (map of_array op.arrays) name at) ∙ e)

-- where no fault is told, the roles are one
used_well : (op : Operator) (d r : Role) (name : List ℕ) → misuse d r ≡ None → IsRole op d name → IsRole op r name
used_well op role.Input role.Input name e h = h
used_well op role.Output role.Output name e h = h
used_well op role.Scalar role.Scalar name e h = h
used_well op role.Array role.Array name e h = h
used_well op role.Input role.Output name e h = absurd (let no : ⊥ = cc in no)
used_well op role.Input role.Scalar name e h = absurd (let no : ⊥ = cc in no)
used_well op role.Input role.Array name e h = absurd (let no : ⊥ = cc in no)
used_well op role.Output role.Input name e h = absurd (let no : ⊥ = cc in no)
used_well op role.Output role.Scalar name e h = absurd (let no : ⊥ = cc in no)
used_well op role.Output role.Array name e h = absurd (let no : ⊥ = cc in no)
used_well op role.Scalar role.Input name e h = absurd (let no : ⊥ = cc in no)
used_well op role.Scalar role.Output name e h = absurd (let no : ⊥ = cc in no)
used_well op role.Scalar role.Array name e h = absurd (let no : ⊥ = cc in no)
used_well op role.Array role.Input name e h = absurd (let no : ⊥ = cc in no)
used_well op role.Array role.Output name e h = absurd (let no : ⊥ = cc in no)
used_well op role.Array role.Scalar name e h = absurd (let no : ⊥ = cc in no)

pub if_known : (op : Operator) (r : Role) (u : Used) (o : Option Role) → known_as (declarations op) u.name u.at ≡ o → IfNone (use_fault o (used_as r u)) (IsRole op r u.name)
if_known op r u None e = tt
if_known op r u (Some d) e = told (misuse d r) refl
  where
    told : (k : Option FaultKind) → misuse d r ≡ k → IfNone (if_wrong k u.at) (IsRole op r u.name)
    told (Some k) f = tt
    told None f = used_well op d r u.name f (known_role op d u.name u.at e)
