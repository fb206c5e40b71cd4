-- What stands under a name tells how often it is declared up to a place, and as what it is known there.
use Rattle.std.proofs.Common.{◌≡◌, ℕ, suc, ◌+◌, List, ◌∷◌, [], ◌++◌, Bool, true, false, cond, Option, Some, None, refl, sym, ap, subst, ◌∙◌, arith, append_assoc}
use Rattle.std.specs.Prelude.{not, nat_le, ◌&&◌, IfNone}
use Rattle.std.specs.List.{filter_map, cons_option}
use Rattle.std.specs.Str.{bytes_eq}
use Rattle.std.specs.Map.{lookup}
use Rattle.std.proofs.lemmas.Bool.Decides.{nat_tests}
use Rattle.std.proofs.lemmas.Bool.{and_parts}
use Rattle.std.proofs.lemmas.Option.{same_Some}
use Rattle.std.proofs.lemmas.Slice.Eq.{bytes_eq-Decides}
use Rattle.pld_base.specs.declared.event.Place.{Place}
use Rattle.pld_base.specs.declared.fault.FaultKind.TheVariants.{NameTwice, UnknownName}
use Rattle.pld_base.specs.declared.fault.FaultKind.{FaultKind}
use Rattle.pld_base.specs.declared.fault.SourceFault.{SourceFault}
use Rattle.pld_ast.specs.declared.tree.Used.{Used}
use Rattle.pld_ast.specs.declared.tree.Operator.{Operator}
use Rattle.pld_check.specs.declared.roles.Role.{Role}
use Rattle.pld_check.specs.declared.scope.Declared.{Declared}
use Rattle.pld_check.specs.Uses.{Mention, declarations, used_as}
use Rattle.pld_check.specs.Faults.{precedes, declares, known_as, times_declared, or_else, fault_at, place_of, first_of, earlier, least, twice_at, twice_in, if_wrong, use_fault, misused_in, first_twice, told, IsRole, Walked}
use Rattle.pld_check.specs.Firsts.{IsAmong, here, there}
use Rattle.pld_check.specs.Scopes.{sooner, with_one, declared_from, declared_as, IsScopeOf, reaches, is_again, role_at}
use Rattle.pld_check.proofs.Walks.{not_after, itself, other_way, first_first, second_first, least-cons}
use Rattle.pld_check.proofs.Declaring.{by_test, known_in_both, times_in_both, if_known}

-- it is declared at a place or before
abbrev pub is_there : Option Declared → Place → Bool
is_there None at = false
is_there (Some f) at = not (precedes at f.at)

-- a declaration of a name that stands at this place
pub record StandsAt (ds : List Mention) (name : List ℕ) (p : Place) : Type 0 where
  pub by : Mention
  pub among : IsAmong by ds
  pub same : bytes_eq by.name name ≡ true
  pub at : by.at ≡ p

-- a second declaration stands no earlier than the first
abbrev pub InOrder : Option Declared → Type 0
InOrder None = Unit {0}
InOrder (Some f) = (p : Place) → f.again ≡ Some p → precedes p f.at ≡ false

abbrev pub AreAmong : List Mention → List ℕ → Option Declared → Type 0
AreAmong ds name None = Unit {0}
AreAmong ds name (Some f) = StandsAt ds name f.at × ((p : Place) → f.again ≡ Some p → StandsAt ds name p)

pub record Tells (ds : List Mention) (name : List ℕ) (o : Option Declared) : Type 0 where
  pub twice : (at : Place) → nat_le 2 (times_declared ds name at) ≡ is_again o at
  pub once : (at : Place) → nat_le 1 (times_declared ds name at) ≡ is_there o at
  pub known : (at : Place) → is_again o at ≡ false → known_as ds name at ≡ role_at o at
  pub order : InOrder o
  pub among : AreAmong ds name o

-- ---- one more declaration

abbrev one : Bool → ℕ
one t = cond t 1 0

counted : (ds : List Mention) (d : Mention) (name : List ℕ) (at : Place) → times_declared (ds ++ d ∷ []) name at ≡ times_declared ds name at + one (declares name at d)
counted ds d name at = times_in_both ds (d ∷ []) name at

known_next : (ds : List Mention) (d : Mention) (name : List ℕ) (at : Place) → known_as (ds ++ d ∷ []) name at ≡ or_else (known_as ds name at) (cond (declares name at d) (Some d.role) None)
known_next ds d name at = known_in_both ds (d ∷ []) name at

or_none : (o : Option Role) → or_else o None ≡ o
or_none None = refl
or_none (Some r) = refl

later_among : {A : Type 0} (b : A) {a : A} {xs : List A} → IsAmong a xs → IsAmong a (xs ++ b ∷ [])
later_among b here = here
later_among b (there h) = there (later_among b h)

last_among : {A : Type 0} (a : A) (xs : List A) → IsAmong a (xs ++ a ∷ [])
last_among a [] = here
last_among a (x ∷ xs) = there (last_among a xs)

still_stands : (ds : List Mention) (d : Mention) (name : List ℕ) (p : Place) → StandsAt ds name p → StandsAt (ds ++ d ∷ []) name p
still_stands ds d name p h = record { by = h.by; among = later_among d h.among; same = h.same; at = h.at }

last_stands : (ds : List Mention) (d : Mention) (name : List ℕ) → bytes_eq d.name name ≡ true → StandsAt (ds ++ d ∷ []) name d.at
last_stands ds d name e = record { by = d; among = last_among d ds; same = e; at = refl }

-- counts, by tests: a, that the place is before the new declaration; b, before the first one; c, before the second one
module _ (n : ℕ) where
  more_once : (a b : Bool) → nat_le 1 n ≡ not b → (b ≡ false → a ≡ false) → nat_le 1 (n + one (not a)) ≡ not a
  more_once true true e f = grind (arith, nat_tests, e)
  more_once true false e f = absurd (let no : true ≡ false = f refl in let bad : ⊥ = cc in bad)
  more_once false b e f = grind (arith, nat_tests)

  first_once : (a : Bool) → nat_le 1 n ≡ false → nat_le 1 (n + one (not a)) ≡ not a
  first_once true e = grind (arith, nat_tests, e)
  first_once false e = grind (arith, nat_tests)

  first_alone : (a : Bool) → nat_le 1 n ≡ false → nat_le 2 (n + one (not a)) ≡ false
  first_alone true e = grind (arith, nat_tests, e)
  first_alone false e = grind (arith, nat_tests, e)

  same_once : (a b : Bool) → nat_le 1 n ≡ not b → (a ≡ false → b ≡ false) → nat_le 1 (n + one (not a)) ≡ not b
  same_once true true e f = grind (arith, nat_tests, e)
  same_once true false e f = grind (arith, nat_tests, e)
  same_once false true e f = absurd (let no : true ≡ false = f refl in let bad : ⊥ = cc in bad)
  same_once false false e f = grind (arith, nat_tests, e)

  -- the new one stands first
  twice_before : (a b : Bool) → nat_le 1 n ≡ not b → (b ≡ false → a ≡ false) → nat_le 2 (n + one (not a)) ≡ not b
  twice_before true true e f = grind (arith, nat_tests, e)
  twice_before true false e f = absurd (let no : true ≡ false = f refl in let bad : ⊥ = cc in bad)
  twice_before false true e f = grind (arith, nat_tests, e)
  twice_before false false e f = grind (arith, nat_tests, e)

  -- the new one is the second one
  twice_second : (a b : Bool) → nat_le 1 n ≡ not b → nat_le 2 n ≡ false → (a ≡ false → b ≡ false) → nat_le 2 (n + one (not a)) ≡ not a
  twice_second true b e g f = grind (arith, nat_tests, g)
  twice_second false true e g f = absurd (let no : true ≡ false = f refl in let bad : ⊥ = cc in bad)
  twice_second false false e g f = grind (arith, nat_tests, e)

  -- there are two, and the new one is one more
  twice_more : (a b c : Bool) → nat_le 1 n ≡ not b → nat_le 2 n ≡ not c → (a ≡ false → b ≡ false) → nat_le 2 (n + one (not a)) ≡ not (a && c)
  twice_more true b true e g f = grind (arith, nat_tests, g)
  twice_more true b false e g f = grind (arith, nat_tests, g)
  twice_more false true c e g f = absurd (let no : true ≡ false = f refl in let bad : ⊥ = cc in bad)
  twice_more false false c e g f = grind (arith, nat_tests, e)

-- a place is before the sooner of two where it is before both
before_sooner : (p q at : Place) (t : Bool) → precedes q p ≡ t → precedes at (cond t q p) ≡ (precedes at q && precedes at p)
before_sooner p q at true e = by_test (precedes at q)
    (λ k. let more : precedes at p ≡ true = grind (arith, nat_tests, e, k) in k ∙ sym (ap (λ b. b && precedes at p) k ∙ more))
    (λ k. k ∙ sym (ap (λ b. b && precedes at p) k))
before_sooner p q at false e = by_test (precedes at q)
    (λ k. sym (ap (λ b. b && precedes at p) k))
    (λ k. let less : precedes at p ≡ false = grind (arith, nat_tests, e, k) in less ∙ sym (ap (λ b. b && precedes at p) k))

after_sooner : (p q r : Place) (t : Bool) → precedes p r ≡ false → precedes q r ≡ false → precedes (cond t q p) r ≡ false
after_sooner p q r true e f = f
after_sooner p q r false e f = e

is_true : (t : Bool) → not t ≡ false → t ≡ true
is_true true e = refl
is_true false e = absurd (let no : ⊥ = cc in no)

is_false : (t : Bool) → not t ≡ true → t ≡ false
is_false true e = absurd (let no : ⊥ = cc in no)
is_false false e = refl

before_first : (p q at : Place) → precedes p q ≡ false → precedes at q ≡ true → precedes at p ≡ true
before_first p q at e f = grind (arith, nat_tests, e, f)

as_role : (a : Bool) (r : Role) → cond (not a) (Some r) None ≡ cond a None (Some r)
as_role true r = refl
as_role false r = refl

no_more : {A : Type 0} {P : Type 0} (a : A) → None ≡ Some a → P
no_more a e = absurd (let no : ⊥ = cc in no)

plus_none : (n : ℕ) → n + 0 ≡ n
plus_none n = omega arith

append_none : (xs : List Mention) → xs ++ [] ≡ xs
append_none [] = refl
append_none (x ∷ xs) = ap (λ ys. x ∷ ys) (append_none xs)

module _ (ds : List Mention) (d : Mention) (name : List ℕ) where
  abbrev more : List Mention
  more = ds ++ d ∷ []

  counted_not : bytes_eq d.name name ≡ false → (at : Place) → times_declared more name at ≡ times_declared ds name at
  counted_not e at = counted ds d name at ∙ ap (λ t. times_declared ds name at + one (t && not (precedes at d.at))) e ∙ plus_none (times_declared ds name at)

  counted_on : bytes_eq d.name name ≡ true → (at : Place) → times_declared more name at ≡ times_declared ds name at + one (not (precedes at d.at))
  counted_on e at = counted ds d name at ∙ ap (λ t. times_declared ds name at + one (t && not (precedes at d.at))) e

  known_not : bytes_eq d.name name ≡ false → (at : Place) → known_as more name at ≡ known_as ds name at
  known_not e at = known_next ds d name at ∙ ap (λ t. or_else (known_as ds name at) (cond (t && not (precedes at d.at)) (Some d.role) None)) e ∙ or_none (known_as ds name at)

  known_on : bytes_eq d.name name ≡ true → (at : Place) → known_as more name at ≡ or_else (known_as ds name at) (cond (not (precedes at d.at)) (Some d.role) None)
  known_on e at = known_next ds d name at ∙ ap (λ t. or_else (known_as ds name at) (cond (t && not (precedes at d.at)) (Some d.role) None)) e

  still_among : (o : Option Declared) → AreAmong ds name o → AreAmong more name o
  still_among None h = _
  still_among (Some f) h = (still_stands ds d name f.at h.0, λ p e. still_stands ds d name p (h.1 p e))

  next_not : (o : Option Declared) → bytes_eq d.name name ≡ false → Tells ds name o → Tells more name o
  next_not o e h = record {
    twice = λ at. ap (nat_le 2) (counted_not e at) ∙ h.twice at;
    once = λ at. ap (nat_le 1) (counted_not e at) ∙ h.once at;
    known = λ at g. known_not e at ∙ h.known at g;
    order = h.order;
    among = still_among o h.among;
  }

  next_first : bytes_eq d.name name ≡ true → Tells ds name None → Tells more name (Some (with_one None d))
  next_first e h = record {
    twice = λ at. ap (nat_le 2) (counted_on e at) ∙ first_alone (times_declared ds name at) (precedes at d.at) (h.once at);
    once = λ at. ap (nat_le 1) (counted_on e at) ∙ first_once (times_declared ds name at) (precedes at d.at) (h.once at);
    known = λ at g. known_on e at ∙ ap (λ o. or_else o (cond (not (precedes at d.at)) (Some d.role) None)) (h.known at refl) ∙ as_role (precedes at d.at) d.role;
    order = λ p k. no_more p k;
    among = (last_stands ds d name e, λ p k. no_more p k);
  }

  abbrev front : Declared → Declared
  front f = record { role = d.role; at = d.at; again = Some f.at }

  abbrev back : Declared → Declared
  back f = record { role = f.role; at = f.at; again = Some (sooner f.again d.at) }

  -- none is again before the first one
  not_again : (f : Declared) → InOrder (Some f) → (at : Place) → precedes at f.at ≡ true → (again : Option Place) → f.again ≡ again → reaches again at ≡ false
  not_again f order at b None k = refl
  not_again f order at b (Some p) k = ap not (before_first p f.at at (order p k) b)

  next_before : (f : Declared) → bytes_eq d.name name ≡ true → precedes d.at f.at ≡ true → Tells ds name (Some f) → Tells more name (Some (front f))
  next_before f e t h =
      let later : precedes f.at d.at ≡ false = other_way d.at f.at t in
      record {
        twice = λ at. ap (nat_le 2) (counted_on e at) ∙ twice_before (times_declared ds name at) (precedes at d.at) (precedes at f.at) (h.once at) (λ k. not_after d.at f.at at later k);
        once = λ at. ap (nat_le 1) (counted_on e at) ∙ more_once (times_declared ds name at) (precedes at d.at) (precedes at f.at) (h.once at) (λ k. not_after d.at f.at at later k);
        known = λ at g.
            let b : precedes at f.at ≡ true = is_true (precedes at f.at) g in
            known_on e at
            ∙ ap (λ o. or_else o (cond (not (precedes at d.at)) (Some d.role) None)) (h.known at (not_again f h.order at b f.again refl) ∙ ap (λ t. cond t None (Some f.role)) b)
            ∙ as_role (precedes at d.at) d.role;
        order = λ p k. subst (λ x. precedes x d.at ≡ false) (same_Some f.at p k) later;
        among = (last_stands ds d name e, λ p k. subst (StandsAt more name) (same_Some f.at p k) (still_stands ds d name f.at h.among.0));
      }

  -- behind the first one
  twice_after : (again : Option Place) (at q : Place) → precedes d.at q ≡ false → nat_le 1 (times_declared ds name at) ≡ not (precedes at q) → nat_le 2 (times_declared ds name at) ≡ reaches again at
      → nat_le 2 (times_declared ds name at + one (not (precedes at d.at))) ≡ not (precedes at (sooner again d.at))
  twice_after None at q t one_told two_told = twice_second (times_declared ds name at) (precedes at d.at) (precedes at q) one_told two_told (λ k. not_after q d.at at t k)
  twice_after (Some p) at q t one_told two_told =
      twice_more (times_declared ds name at) (precedes at d.at) (precedes at q) (precedes at p) one_told two_told (λ k. not_after q d.at at t k)
      ∙ sym (ap not (before_sooner p d.at at (precedes d.at p) refl))

  before_both : (again : Option Place) (at : Place) → precedes at (sooner again d.at) ≡ true → (precedes at d.at ≡ true) × (reaches again at ≡ false)
  before_both None at k = (k, refl)
  before_both (Some p) at k =
      let both = and_parts (precedes at d.at) (precedes at p) (sym (before_sooner p d.at at (precedes d.at p) refl) ∙ k) in
      (both.0, ap not both.1)

  in_order : (again : Option Place) (q : Place) → ((p : Place) → again ≡ Some p → precedes p q ≡ false) → precedes d.at q ≡ false → precedes (sooner again d.at) q ≡ false
  in_order None q h t = t
  in_order (Some p) q h t = after_sooner p d.at q (precedes d.at p) (h p refl) t

  stands_again : (again : Option Place) → bytes_eq d.name name ≡ true → ((p : Place) → again ≡ Some p → StandsAt ds name p) → StandsAt more name (sooner again d.at)
  stands_again None e h = last_stands ds d name e
  stands_again (Some p) e h = either (precedes d.at p)
    where
      either : (t : Bool) → StandsAt more name (cond t d.at p)
      either true = last_stands ds d name e
      either false = still_stands ds d name p (h p refl)

  next_after : (f : Declared) → bytes_eq d.name name ≡ true → precedes d.at f.at ≡ false → Tells ds name (Some f) → Tells more name (Some (back f))
  next_after f e t h = record {
    twice = λ at. ap (nat_le 2) (counted_on e at) ∙ twice_after f.again at f.at t (h.once at) (h.twice at);
    once = λ at. ap (nat_le 1) (counted_on e at) ∙ same_once (times_declared ds name at) (precedes at d.at) (precedes at f.at) (h.once at) (λ k. not_after f.at d.at at t k);
    known = λ at g.
        let both = before_both f.again at (is_true (precedes at (sooner f.again d.at)) g) in
        known_on e at ∙ ap (λ b. or_else (known_as ds name at) (cond (not b) (Some d.role) None)) both.0 ∙ or_none (known_as ds name at) ∙ h.known at both.1;
    order = λ p k. subst (λ x. precedes x f.at ≡ false) (same_Some (sooner f.again d.at) p k) (in_order f.again f.at h.order t);
    among = (still_stands ds d name f.at h.among.0, λ p k. subst (StandsAt more name) (same_Some (sooner f.again d.at) p k) (stands_again f.again e h.among.1));
  }

  next_on : (o : Option Declared) → bytes_eq d.name name ≡ true → Tells ds name o → Tells more name (Some (with_one o d))
  next_on None e h = next_first e h
  next_on (Some f) e h = by_test (precedes d.at f.at)
      (λ t. subst (λ x. Tells more name (Some x)) (sym (ap (λ b. cond b (front f) (back f)) t)) (next_before f e t h))
      (λ t. subst (λ x. Tells more name (Some x)) (sym (ap (λ b. cond b (front f) (back f)) t)) (next_after f e t h))

  next : (o : Option Declared) → Tells ds name o → Tells more name (cond (bytes_eq d.name name) (Some (with_one o d)) o)
  next o h = by_test (bytes_eq d.name name)
      (λ e. subst (Tells more name) (sym (ap (λ b. cond b (Some (with_one o d)) o) e)) (next_on o e h))
      (λ e. subst (Tells more name) (sym (ap (λ b. cond b (Some (with_one o d)) o) e)) (next_not o e h))

all_tell : (name : List ℕ) (o : Option Declared) (ds rest : List Mention) → Tells ds name o → Tells (ds ++ rest) name (declared_from o name rest)
all_tell name o ds [] h = subst (λ xs. Tells xs name o) (sym (append_none ds)) h
all_tell name o ds (d ∷ rest) h =
    subst (λ xs. Tells xs name (declared_from o name (d ∷ rest))) (append_assoc ds (d ∷ []) rest)
    (all_tell name (cond (bytes_eq d.name name) (Some (with_one o d)) o) (ds ++ d ∷ []) rest (next ds d name o h))

none_tell : (name : List ℕ) → Tells [] name None
none_tell name = record { twice = λ at. refl; once = λ at. refl; known = λ at g. refl; order = _; among = _ }

pub scope_tells : (name : List ℕ) (ds : List Mention) → Tells ds name (declared_as name ds)
scope_tells name ds = all_tell name None [] ds (none_tell name)

pub is_twice_told : (name : List ℕ) (ds : List Mention) (at : Place) → is_again (declared_as name ds) at ≡ nat_le 2 (times_declared ds name at)
is_twice_told name ds at = sym ((scope_tells name ds).twice at)

pub declared_on : (o : Option Declared) (name : List ℕ) (xs ys : List Mention) → declared_from o name (xs ++ ys) ≡ declared_from (declared_from o name xs) name ys
declared_on o name [] ys = refl
declared_on o name (d ∷ xs) ys = declared_on (cond (bytes_eq d.name name) (Some (with_one o d)) o) name xs ys

-- ---- a use of a name

-- a fault is found that stands at this place or before
record FoundBy (o : Option SourceFault) (at : Place) : Type 0 where
  pub fault : SourceFault
  pub is : o ≡ Some fault
  pub before : precedes at (place_of fault) ≡ false

found_first : (g f : SourceFault) (at : Place) (t : Bool) → precedes (place_of f) (place_of g) ≡ t → precedes at (place_of g) ≡ false → FoundBy (Some (first_of g f)) at
found_first g f at true e h = record { fault = f; is = ap Some (second_first g f e); before = not_after (place_of f) (place_of g) at (other_way (place_of f) (place_of g) e) h }
found_first g f at false e h = record { fault = g; is = ap Some (first_first g f e); before = h }

found_later : (k f : SourceFault) (at : Place) (t : Bool) → precedes (place_of f) (place_of k) ≡ t → precedes at (place_of f) ≡ false → FoundBy (Some (first_of k f)) at
found_later k f at true e h = record { fault = f; is = ap Some (second_first k f e); before = h }
found_later k f at false e h = record { fault = k; is = ap Some (first_first k f e); before = not_after (place_of k) (place_of f) at e h }

by_left : (g : SourceFault) (o : Option SourceFault) (at : Place) → precedes at (place_of g) ≡ false → FoundBy (earlier (Some g) o) at
by_left g None at h = record { fault = g; is = refl; before = h }
by_left g (Some f) at h = found_first g f at (precedes (place_of f) (place_of g)) refl h

by_right : (a : Option SourceFault) (f : SourceFault) (at : Place) → precedes at (place_of f) ≡ false → FoundBy (earlier a (Some f)) at
by_right None f at h = record { fault = f; is = refl; before = h }
by_right (Some k) f at h = found_later k f at (precedes (place_of f) (place_of k)) refl h

found_among : (h : Mention → Option SourceFault) (ds : List Mention) (d : Mention) (g : SourceFault) → IsAmong d ds → h d ≡ Some g → FoundBy (least (filter_map h ds)) (place_of g)
found_among h [] d g among e = elim among [ ]
found_among h (d ∷ ds) d' g here e =
    subst (λ o. FoundBy o (place_of g)) (sym (least-cons (h d) (filter_map h ds) ∙ ap (λ x. earlier x (least (filter_map h ds))) e)) (by_left g (least (filter_map h ds)) (place_of g) (itself (place_of g)))
found_among h (x ∷ ds) d g (there among) e =
    let more = found_among h ds d g among e in
    subst (λ o. FoundBy o (place_of g)) (sym (least-cons (h x) (filter_map h ds) ∙ ap (earlier (h x)) more.is)) (by_right (h x) more.fault (place_of g) more.before)

-- a name that is declared twice up to a place is found so
twice_found : (op : Operator) (name : List ℕ) (at : Place) (o : Option Declared) → Tells (declarations op) name o → is_again o at ≡ true → FoundBy (first_twice op (declarations op)) at
twice_found op name at None tells e = absurd (let no : ⊥ = cc in no)
twice_found op name at (Some f) tells e = again f.again refl e
  where
    again : (o : Option Place) → f.again ≡ o → reaches o at ≡ true → FoundBy (first_twice op (declarations op)) at
    again None k r = absurd (let no : ⊥ = cc in no)
    again (Some p) k r =
        let ds = declarations op in
        let stands = tells.among.1 p k in
        let twice : nat_le 2 (times_declared ds name p) ≡ true = tells.twice p ∙ ap (λ x. reaches x p) k ∙ ap not (itself p) in
        let is : twice_in ds stands.by ≡ Some (fault_at NameTwice p) =
        (λ i. twice_at ds ((bytes_eq-Decides stands.by.name name).0 stands.same i) (stands.at i)) ∙ ap (λ t. cond t (Some (fault_at NameTwice p)) None) twice in
        let found = found_among (twice_in ds) ds stands.by (fault_at NameTwice p) stands.among is in
        record { fault = found.fault; is = found.is; before = not_after (place_of found.fault) p at found.before (is_false (precedes at p) r) }

-- what stands no earlier isn't told
hidden : (op : Operator) (at : Place) (found : FoundBy (first_twice op (declarations op)) at) (o : Option SourceFault) → ((g : SourceFault) → o ≡ Some g → place_of g ≡ at) → told op o ≡ Some found.fault
hidden op at found None h = ap (λ t. earlier t None) found.is
hidden op at found (Some g) h =
    ap (λ t. earlier t (Some g)) found.is ∙ ap Some (first_first found.fault g (subst (λ p. precedes p (place_of found.fault) ≡ false) (sym (h g refl)) found.before))

wrong_place : (k : Option FaultKind) (at : Place) (g : SourceFault) → if_wrong k at ≡ Some g → place_of g ≡ at
wrong_place None at g e = no_more g e
wrong_place (Some k) at g e = ap place_of (sym (same_Some (fault_at k at) g e))

use_place : (o : Option Role) (m : Mention) (g : SourceFault) → use_fault o m ≡ Some g → place_of g ≡ m.at
use_place None m g e = ap place_of (sym (same_Some (fault_at UnknownName m.at) g e))
use_place (Some d) m g e = wrong_place _ m.at g e

second_known : (K : Type 0) (a b : Option SourceFault) → IfNone b K → IfNone (earlier a b) K
second_known K None b h = h
second_known K (Some x) None h = tt
second_known K (Some x) (Some y) h = tt

one_least : (o : Option SourceFault) → least (cons_option o []) ≡ o
one_least None = refl
one_least (Some f) = refl

module _ (op : Operator) (r : Role) (u : Used) (found : Option SourceFault) where
  abbrev ds : List Mention
  ds = declarations op

  abbrev use_of : Mention
  use_of = used_as r u

  used_twice : found ≡ use_fault (role_at (declared_as u.name ds) u.at) use_of → is_again (declared_as u.name ds) u.at ≡ true → Walked op found (use_of ∷ []) (IsRole op r u.name)
  used_twice e k =
      let by = twice_found op u.name u.at (declared_as u.name ds) (scope_tells u.name ds) k in
      let said : told op found ≡ Some by.fault = ap (told op) e ∙ hidden op u.at by (use_fault (role_at (declared_as u.name ds) u.at) use_of) (use_place (role_at (declared_as u.name ds) u.at) use_of) in
      record {
        first = said ∙ sym (ap (told op) (one_least (misused_in ds use_of)) ∙ hidden op u.at by (misused_in ds use_of) (use_place (known_as ds u.name u.at) use_of));
        known = subst (λ x. IfNone x (IsRole op r u.name)) (sym said) tt;
      }

  used_once : found ≡ use_fault (role_at (declared_as u.name ds) u.at) use_of → is_again (declared_as u.name ds) u.at ≡ false → Walked op found (use_of ∷ []) (IsRole op r u.name)
  used_once e k =
      let is : found ≡ misused_in ds use_of = e ∙ ap (λ o. use_fault o use_of) (sym ((scope_tells u.name ds).known u.at k)) in
      record {
        first = ap (told op) (is ∙ sym (one_least (misused_in ds use_of)));
        known = second_known (IsRole op r u.name) (first_twice op ds) found (subst (λ x. IfNone x (IsRole op r u.name)) (sym is) (if_known op r u (known_as ds u.name u.at) refl));
      }

  -- a use of a name
  pub use_told : found ≡ use_fault (role_at (declared_as u.name ds) u.at) use_of → Walked op found (use_of ∷ []) (IsRole op r u.name)
  use_told e = by_test (is_again (declared_as u.name ds) u.at) (used_twice e) (used_once e)

-- ---- the map

abbrev Entries : Type 0
Entries = List (List ℕ × Declared)

same_name : (look : List ℕ → Option Declared) (d : Mention) (q : List ℕ) → cond (bytes_eq d.name q) (Some (with_one (look d.name) d)) (look q) ≡ cond (bytes_eq d.name q) (Some (with_one (look q) d)) (look q)
same_name look d q = by_test (bytes_eq d.name q)
    (λ e. ap (λ n. cond (bytes_eq d.name q) (Some (with_one (look n) d)) (look q)) ((bytes_eq-Decides d.name q).0 e))
    (λ e. ap (λ b. cond b (Some (with_one (look d.name) d)) (look q)) e ∙ sym (ap (λ b. cond b (Some (with_one (look q) d)) (look q)) e))

pub one_declared : (es fs : Entries) (d : Mention) (rest : List Mention) → ((q : List ℕ) → lookup (bytes_eq q) fs ≡ cond (bytes_eq d.name q) (Some (with_one (lookup (bytes_eq d.name) es) d)) (lookup (bytes_eq q) es))
    → (q : List ℕ) → declared_from (lookup (bytes_eq q) fs) q rest ≡ declared_from (lookup (bytes_eq q) es) q (d ∷ rest)
one_declared es fs d rest h q = ap (λ o. declared_from o q rest) (h q ∙ same_name (λ n. lookup (bytes_eq n) es) d q)

pub three_declared : (xs ys zs : List Mention) (e0 e1 e2 e3 : Entries) → e0 ≡ [] → ((q : List ℕ) → lookup (bytes_eq q) e1 ≡ declared_from (lookup (bytes_eq q) e0) q xs)
    → ((q : List ℕ) → lookup (bytes_eq q) e2 ≡ declared_from (lookup (bytes_eq q) e1) q ys) → ((q : List ℕ) → lookup (bytes_eq q) e3 ≡ declared_from (lookup (bytes_eq q) e2) q zs) → IsScopeOf (xs ++ (ys ++ zs)) e3
three_declared xs ys zs e0 e1 e2 e3 e f g h q =
    h q ∙ ap (λ o. declared_from o q zs) (g q ∙ ap (λ o. declared_from o q ys) (f q ∙ ap (λ es. declared_from (lookup (bytes_eq q) es) q xs) e))
    ∙ sym (declared_on None q xs (ys ++ zs) ∙ declared_on (declared_from None q xs) q ys zs)
