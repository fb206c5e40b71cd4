-- Numbered names are found at their numbers.
use Rattle.std.proofs.Common.{◌≡◌, ℕ, zero, suc, ◌≤◌, ◌<◌, ◌+◌, List, [], ◌∷◌, ◌++◌, length, map, refl, sym, ap, ◌∙◌, arith, Bool, true, false}
use Rattle.std.specs.Prelude.{nat_lt, min, slice_index, filter, cond, not, Some, ◌/◌, ◌%◌, if◌then◌else◌}
use Rattle.std.specs.List.{find}
use Rattle.std.specs.Option.{unwrap_or, option_map}
use Rattle.std.specs.Str.{bytes_eq}
use Rattle.std.proofs.lemmas.Slice.Eq.{bytes_eq-Decides}
use Rattle.pld_base.specs.declared.event.Side.{Side}
use Rattle.pld_base.specs.declared.event.Side.TheVariants as side
use Rattle.pld_ast.specs.declared.tree.Ty.{Ty}
use Rattle.pld_ast.specs.declared.tree.Ty.TheVariants.{Int}
use Rattle.pld_ast.specs.declared.tree.Port.{Port}
use Rattle.pld_ast.specs.declared.tree.Scalar.{Scalar}
use Rattle.pld_ast.specs.declared.tree.Array.{Array}
use Rattle.pld_ast.specs.Resolve.{place_in, scalar_type, array_type, ports_at, is_in, is_out}
use Rattle.pld_call.specs.Trees.{numbered, scalar_name, array_name, in_name, out_name, named_scalars, named_arrays, named_ports, named_port, next_in, next_out}

abbrev spelled : ℕ → ℕ → Bool → List ℕ
spelled l k t = l ∷ (if t then (48 + k) ∷ [] else (48 + k / 10) ∷ (48 + k % 10) ∷ [])

one_number : (l j k : ℕ) (s t : Bool) → spelled l j s ≡ spelled l k t → j ≡ k
one_number l j k true true e =
    let a : 48 + j ≡ 48 + k = ap (λ xs. slice_index xs 1) e in omega (arith, a)
one_number l j k true false e =
    let a : 2 ≡ 3 = ap length e in absurd (omega (arith, a))
one_number l j k false true e =
    let a : 3 ≡ 2 = ap length e in absurd (omega (arith, a))
one_number l j k false false e =
    let a : 48 + j / 10 ≡ 48 + k / 10 = ap (λ xs. slice_index xs 1) e in
    let b : 48 + j % 10 ≡ 48 + k % 10 = ap (λ xs. slice_index xs 2) e in
    omega (arith, a, b)

untrue : (x y : List ℕ) (t : Bool) → bytes_eq x y ≡ t → (x ≡ y → ⊥) → t ≡ false
untrue x y true e apart = absurd (apart ((bytes_eq-Decides x y).0 e))
untrue x y false e apart = refl

same_number : (l j k : ℕ) → j ≤ 99 → k ≤ 99 → numbered l j ≡ numbered l k → j ≡ k
same_number l j k lj lk e =
    let h : min j 99 ≡ min k 99 = one_number l (min j 99) (min k 99) (nat_lt (min j 99) 10) (nat_lt (min k 99) 10) e in
    omega (arith, h, lj, lk)

apart : (l j k : ℕ) → j ≤ 99 → k ≤ 99 → (j ≡ k → ⊥) → bytes_eq (numbered l j) (numbered l k) ≡ false
apart l j k lj lk differ = untrue (numbered l j) (numbered l k) _ refl (λ e. differ (same_number l j k lj lk e))

equal : (l j k : ℕ) → j ≡ k → bytes_eq (numbered l j) (numbered l k) ≡ true
equal l j k e = (bytes_eq-Decides (numbered l j) (numbered l k)).1 (ap (numbered l) e)

one_more : (j : ℕ) → 1 + j ≡ suc j
one_more j = omega arith

-- n names, of which the first has the number k
abbrev pub names_from : ℕ → ℕ → ℕ → List (List ℕ)
names_from l k zero = []
names_from l k (suc n) = numbered l k ∷ names_from l (suc k) n

pub place_named : (l k n j : ℕ) → j < n → k + n ≤ 100 → place_in (names_from l k n) (numbered l (k + j)) ≡ j
place_named l k zero j lt few = absurd (omega arith)
place_named l k (suc n) zero lt few =
    ap (λ t. cond (not t) (1 + place_in (names_from l (suc k) n) (numbered l (k + 0))) 0) (equal l k (k + 0) (omega arith))
place_named l k (suc n) (suc j) lt few =
    let e : k + suc j ≡ suc k + j = omega arith in
    ap (λ t. cond (not t) (1 + place_in (names_from l (suc k) n) (numbered l (k + suc j))) 0) (apart l k (k + suc j) (omega arith) (omega arith) (λ h. omega arith))
    ∙ ap (λ i. 1 + place_in (names_from l (suc k) n) (numbered l i)) e
    ∙ ap (λ i. 1 + i) (place_named l (suc k) n j (omega arith) (omega arith))
    ∙ one_more j

-- scalars

pub scalars_named : (k : ℕ) (ss : List Scalar) → map (λ s. s.name) (named_scalars k ss) ≡ names_from 115 k (length ss)
scalars_named k [] = refl
scalars_named k (s ∷ ss) = ap (λ x. scalar_name k ∷ x) (scalars_named (suc k) ss)

pub scalars_many : (k : ℕ) (ss : List Scalar) → length (named_scalars k ss) ≡ length ss
scalars_many k [] = refl
scalars_many k (s ∷ ss) = ap suc (scalars_many (suc k) ss)

abbrev pub type_at : List Scalar → ℕ → Ty
type_at [] j = Int
type_at (s ∷ ss) zero = s.ty
type_at (s ∷ ss) (suc j) = type_at ss j

pub type_named : (k : ℕ) (ss : List Scalar) (j : ℕ) → j < length ss → k + length ss ≤ 100 → scalar_type (named_scalars k ss) (scalar_name (k + j)) ≡ type_at ss j
type_named k [] j lt few = absurd (omega arith)
type_named k (s ∷ ss) zero lt few =
    ap (λ t. unwrap_or (option_map (λ x. x.ty) (cond t (Some (record s { name = scalar_name k })) (find (λ v. bytes_eq v.name (scalar_name (k + 0))) (named_scalars (suc k) ss)))) Int) (equal 115 k (k + 0) (omega arith))
type_named k (s ∷ ss) (suc j) lt few =
    let e : k + suc j ≡ suc k + j = omega arith in
    ap (λ t. unwrap_or (option_map (λ x. x.ty) (cond t (Some (record s { name = scalar_name k })) (find (λ v. bytes_eq v.name (scalar_name (k + suc j))) (named_scalars (suc k) ss)))) Int) (apart 115 k (k + suc j) (omega arith) (omega arith) (λ h. omega arith))
    ∙ ap (λ i. scalar_type (named_scalars (suc k) ss) (scalar_name i)) e
    ∙ type_named (suc k) ss j (omega arith) (omega arith)

pub type_own : (ss : List Scalar) (n : List ℕ) → place_in (map (λ s. s.name) ss) n < length ss → scalar_type ss n ≡ type_at ss (place_in (map (λ s. s.name) ss) n)
type_own [] n lt = absurd (omega arith)
type_own (s ∷ ss) n lt = by (bytes_eq s.name n) (λ below. type_own ss n below) lt
  where
    by : (t : Bool) → (place_in (map (λ x. x.name) ss) n < length ss → scalar_type ss n ≡ type_at ss (place_in (map (λ x. x.name) ss) n)) → (cond (not t) (1 + place_in (map (λ x. x.name) ss) n) 0) < suc (length ss) → unwrap_or (option_map (λ x. x.ty) (cond t (Some s) (find (λ v. bytes_eq v.name n) ss))) Int ≡ type_at (s ∷ ss) (cond (not t) (1 + place_in (map (λ x. x.name) ss) n) 0)
    by true own below = refl
    by false own below = own (omega arith) ∙ ap (type_at (s ∷ ss)) (sym (one_more (place_in (map (λ x. x.name) ss) n)))

pub type_before : (xs ys : List Scalar) (j : ℕ) → j < length xs → type_at (xs ++ ys) j ≡ type_at xs j
type_before [] ys j lt = absurd (omega arith)
type_before (x ∷ xs) ys zero lt = refl
type_before (x ∷ xs) ys (suc j) lt = type_before xs ys j (omega arith)

pub type_behind : (xs ys : List Scalar) (j : ℕ) → type_at (xs ++ ys) (length xs + j) ≡ type_at ys j
type_behind [] ys j = let e : 0 + j ≡ j = omega arith in ap (type_at ys) e
type_behind (x ∷ xs) ys j = let e : suc (length xs) + j ≡ suc (length xs + j) = omega arith in ap (type_at (x ∷ xs ++ ys)) e ∙ type_behind xs ys j

-- arrays

pub arrays_named : (k : ℕ) (as' : List Array) → map (λ a. a.name) (named_arrays k as') ≡ names_from 116 k (length as')
arrays_named k [] = refl
arrays_named k (a ∷ rest) = ap (λ x. array_name k ∷ x) (arrays_named (suc k) rest)

pub lengths_named : (k : ℕ) (as' : List Array) → map (λ a. a.len) (named_arrays k as') ≡ map (λ a. a.len) as'
lengths_named k [] = refl
lengths_named k (a ∷ rest) = ap (λ x. a.len ∷ x) (lengths_named (suc k) rest)

abbrev pub array_type_at : List Array → ℕ → Ty
array_type_at [] j = Int
array_type_at (a ∷ rest) zero = a.ty
array_type_at (a ∷ rest) (suc j) = array_type_at rest j

pub array_type_named : (k : ℕ) (as' : List Array) (j : ℕ) → j < length as' → k + length as' ≤ 100 → array_type (named_arrays k as') (array_name (k + j)) ≡ array_type_at as' j
array_type_named k [] j lt few = absurd (omega arith)
array_type_named k (s ∷ ss) zero lt few =
    ap (λ t. unwrap_or (option_map (λ x. x.ty) (cond t (Some (record s { name = array_name k })) (find (λ v. bytes_eq v.name (array_name (k + 0))) (named_arrays (suc k) ss)))) Int) (equal 116 k (k + 0) (omega arith))
array_type_named k (s ∷ ss) (suc j) lt few =
    let e : k + suc j ≡ suc k + j = omega arith in
    ap (λ t. unwrap_or (option_map (λ x. x.ty) (cond t (Some (record s { name = array_name k })) (find (λ v. bytes_eq v.name (array_name (k + suc j))) (named_arrays (suc k) ss)))) Int) (apart 116 k (k + suc j) (omega arith) (omega arith) (λ h. omega arith))
    ∙ ap (λ i. array_type (named_arrays (suc k) ss) (array_name i)) e
    ∙ array_type_named (suc k) ss j (omega arith) (omega arith)

pub array_type_own : (ss : List Array) (n : List ℕ) → place_in (map (λ s. s.name) ss) n < length ss → array_type ss n ≡ array_type_at ss (place_in (map (λ s. s.name) ss) n)
array_type_own [] n lt = absurd (omega arith)
array_type_own (s ∷ ss) n lt = by (bytes_eq s.name n) (λ below. array_type_own ss n below) lt
  where
    by : (t : Bool) → (place_in (map (λ x. x.name) ss) n < length ss → array_type ss n ≡ array_type_at ss (place_in (map (λ x. x.name) ss) n)) → (cond (not t) (1 + place_in (map (λ x. x.name) ss) n) 0) < suc (length ss) → unwrap_or (option_map (λ x. x.ty) (cond t (Some s) (find (λ v. bytes_eq v.name n) ss))) Int ≡ array_type_at (s ∷ ss) (cond (not t) (1 + place_in (map (λ x. x.name) ss) n) 0)
    by true own below = refl
    by false own below = own (omega arith) ∙ ap (array_type_at (s ∷ ss)) (sym (one_more (place_in (map (λ x. x.name) ss) n)))

-- ports

abbrev InsNamed : List Port → ℕ → ℕ → Type 0
InsNamed qs i o = ports_at side.In (named_ports i o qs) ≡ names_from 105 i (length (ports_at side.In qs))

abbrev OutsNamed : List Port → ℕ → ℕ → Type 0
OutsNamed qs i o = ports_at side.Out (named_ports i o qs) ≡ names_from 111 o (length (ports_at side.Out qs))

pub ins_named : (i o : ℕ) (qs : List Port) → ports_at side.In (named_ports i o qs) ≡ names_from 105 i (length (ports_at side.In qs))
ins_named i o [] = refl
ins_named i o (q ∷ qs) = by q.side (ins_named (suc i) o qs) (ins_named i (suc o) qs)
  where
    by : (s : Side) → InsNamed qs (suc i) o → InsNamed qs i (suc o) → map (λ x. x.name) (if is_in s then record q { name = named_port s i o } ∷ filter (λ x. is_in x.side) (named_ports (next_in s i) (next_out s o) qs) else filter (λ x. is_in x.side) (named_ports (next_in s i) (next_out s o) qs)) ≡ names_from 105 i (length (map (λ x. x.name) (if is_in s then q ∷ filter (λ x. is_in x.side) qs else filter (λ x. is_in x.side) qs)))
    by side.In a b = ap (λ x. in_name i ∷ x) a
    by side.Out a b = b

pub outs_named : (i o : ℕ) (qs : List Port) → ports_at side.Out (named_ports i o qs) ≡ names_from 111 o (length (ports_at side.Out qs))
outs_named i o [] = refl
outs_named i o (q ∷ qs) = by q.side (outs_named (suc i) o qs) (outs_named i (suc o) qs)
  where
    by : (s : Side) → OutsNamed qs (suc i) o → OutsNamed qs i (suc o) → map (λ x. x.name) (if is_out s then record q { name = named_port s i o } ∷ filter (λ x. is_out x.side) (named_ports (next_in s i) (next_out s o) qs) else filter (λ x. is_out x.side) (named_ports (next_in s i) (next_out s o) qs)) ≡ names_from 111 o (length (map (λ x. x.name) (if is_out s then q ∷ filter (λ x. is_out x.side) qs else filter (λ x. is_out x.side) qs)))
    by side.In a b = a
    by side.Out a b = ap (λ x. out_name o ∷ x) b

pub names_many : (l k n : ℕ) → length (names_from l k n) ≡ n
names_many l k zero = refl
names_many l k (suc n) = ap suc (names_many l (suc k) n)
