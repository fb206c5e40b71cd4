-- The least fault of a list, and uses that aren't wrong.
use Rattle.std.proofs.Common.{◌≡◌, ℕ, List, ◌∷◌, [], Bool, true, false, cond, Option, Some, None, refl, sym, ap, subst, ◌∙◌, arith}
use Rattle.std.specs.Prelude.{not}
use Rattle.std.specs.Str.{bytes_eq}
use Rattle.std.proofs.lemmas.Bool.{and_parts}
use Rattle.std.proofs.lemmas.Bool.Decides.{nat_tests}
use Rattle.std.proofs.lemmas.Slice.Eq.{bytes_eq-Decides}
use Rattle.pld_base.specs.declared.event.Place.{Place}
use Rattle.pld_base.specs.declared.fault.FaultKind.{FaultKind}
use Rattle.pld_base.specs.declared.fault.SourceFault.{SourceFault}
use Rattle.pld_ast.specs.declared.tree.Operator.{Operator}
use Rattle.pld_check.specs.declared.roles.Role.{Role}
use Rattle.pld_check.specs.declared.roles.Role.TheVariants as role
use Rattle.pld_check.specs.Uses.{Mention, declarations}
use Rattle.pld_check.specs.Faults.{precedes, place_of, first_of, earlier, least, declares, known_as, misuse, if_wrong, use_fault, misused_in}
use Rattle.pld_check.specs.Firsts.{IsAmong, here, there, NoneBefore, IsFirst, IsDeclared}
use Rattle.pld_check.proofs.Walks.{not_after, itself, other_way, second_first, first_first}

pub least_none : (fs : List SourceFault) → least fs ≡ None → fs ≡ []
least_none [] e = refl
least_none (f ∷ fs) e = absurd (some_earlier f (least fs) e)
  where
    some_earlier : (f : SourceFault) (o : Option SourceFault) → earlier (Some f) o ≡ None → ⊥
    some_earlier f None e = let no : ⊥ = cc in no
    some_earlier f (Some g) e = let no : ⊥ = cc in no

none_before : (f g : SourceFault) (fs : List SourceFault) → precedes (place_of g) (place_of f) ≡ false → NoneBefore g fs → NoneBefore f fs
none_before f g [] e h = tt
none_before f g (x ∷ fs) e h = (not_after (place_of f) (place_of g) (place_of x) e h.0, none_before f g fs e h.1)

moved : (f g : SourceFault) (fs : List SourceFault) → f ≡ g → IsFirst f fs → IsFirst g fs
moved f g fs e h = subst (λ x. IsFirst x fs) e h

abbrev or_default : SourceFault → Option SourceFault → SourceFault
or_default f (Some g) = g
or_default f None = f

behind : (t : Bool) (f g : SourceFault) (fs : List SourceFault) → precedes (place_of g) (place_of f) ≡ t → IsFirst g fs → IsFirst (first_of f g) (f ∷ fs)
behind true f g fs e h = moved g (first_of f g) (f ∷ fs) (sym (second_first f g e)) (record { among = there h.among; first = (other_way (place_of g) (place_of f) e, h.first) })
behind false f g fs e h = moved f (first_of f g) (f ∷ fs) (sym (first_first f g e)) (record { among = here; first = (itself (place_of f), none_before f g fs e h.first) })

with_rest : (f h : SourceFault) (fs : List SourceFault) (o : Option SourceFault) → least fs ≡ o → ((g : SourceFault) → least fs ≡ Some g → IsFirst g fs) → earlier (Some f) o ≡ Some h → IsFirst h (f ∷ fs)
with_rest f h fs None e again k =
    moved f h (f ∷ fs) (ap (or_default f) k) (record { among = here; first = (itself (place_of f), subst (NoneBefore f) (sym (least_none fs e)) tt) })
with_rest f h fs (Some g) e again k = moved (first_of f g) h (f ∷ fs) (ap (or_default f) k) (behind (precedes (place_of g) (place_of f)) f g fs refl (again g e))

pub least_first : (fs : List SourceFault) (f : SourceFault) → least fs ≡ Some f → IsFirst f fs
least_first [] f e = absurd (let no : ⊥ = cc in no)
least_first (g ∷ fs) f e = with_rest g f fs (least fs) refl (least_first fs) e

-- where a name is known as a role, a declaration says so
pub record IsKnownBy (ds : List Mention) (name : List ℕ) (at : Place) (r : Role) : Type 0 where
  pub by : Mention
  pub among : IsAmong by ds
  pub same : declares name at by ≡ true
  pub role : by.role ≡ r

abbrev role_of : Role → Option Role → Role
role_of r (Some s) = s
role_of r None = r

known_by : (ds : List Mention) (name : List ℕ) (at : Place) (r : Role) → known_as ds name at ≡ Some r → IsKnownBy ds name at r
known_by [] name at r e = absurd (let no : ⊥ = cc in no)
known_by (d ∷ ds) name at r e = by_first (declares name at d) refl e (known_by ds name at r)
  where
    by_first : (t : Bool) → declares name at d ≡ t → cond t (Some d.role) (known_as ds name at) ≡ Some r → (known_as ds name at ≡ Some r → IsKnownBy ds name at r) → IsKnownBy (d ∷ ds) name at r
    by_first true k h again = record { by = d; among = here; same = k; role = ap (role_of d.role) h }
    by_first false k h again = let more = again h in record { by = more.by; among = there more.among; same = more.same; role = more.role }

same_roles : (d r : Role) → misuse d r ≡ None → d ≡ r
same_roles role.Input role.Input e = refl
same_roles role.Output role.Output e = refl
same_roles role.Scalar role.Scalar e = refl
same_roles role.Array role.Array e = refl
same_roles role.Input role.Output e = absurd (let no : ⊥ = cc in no)
same_roles role.Input role.Scalar e = absurd (let no : ⊥ = cc in no)
same_roles role.Input role.Array e = absurd (let no : ⊥ = cc in no)
same_roles role.Output role.Input e = absurd (let no : ⊥ = cc in no)
same_roles role.Output role.Scalar e = absurd (let no : ⊥ = cc in no)
same_roles role.Output role.Array e = absurd (let no : ⊥ = cc in no)
same_roles role.Scalar role.Input e = absurd (let no : ⊥ = cc in no)
same_roles role.Scalar role.Output e = absurd (let no : ⊥ = cc in no)
same_roles role.Scalar role.Array e = absurd (let no : ⊥ = cc in no)
same_roles role.Array role.Input e = absurd (let no : ⊥ = cc in no)
same_roles role.Array role.Output e = absurd (let no : ⊥ = cc in no)
same_roles role.Array role.Scalar e = absurd (let no : ⊥ = cc in no)

not_wrong : (o : Option FaultKind) (at : Place) → if_wrong o at ≡ None → o ≡ None
not_wrong None at e = refl
not_wrong (Some k) at e = absurd (let no : ⊥ = cc in no)

is_false : (t : Bool) → not t ≡ true → t ≡ false
is_false true e = absurd (let no : ⊥ = cc in no)
is_false false e = refl

used : (ds : List Mention) (m : Mention) (o : Option Role) → known_as ds m.name m.at ≡ o → use_fault o m ≡ None → IsDeclared ds m
used ds m None k e = absurd (let no : ⊥ = cc in no)
used ds m (Some d) k e =
    let w = known_by ds m.name m.at d k in
    let parts = and_parts (bytes_eq w.by.name m.name) (not (precedes m.at w.by.at)) w.same in
    record {
      by = w.by;
      among = w.among;
      name = (bytes_eq-Decides w.by.name m.name).0 parts.0;
      role = w.role ∙ same_roles d m.role (not_wrong (misuse d m.role) m.at e);
      before = is_false (precedes m.at w.by.at) parts.1;
    }

pub use_declared : (op : Operator) (m : Mention) → misused_in (declarations op) m ≡ None → IsDeclared (declarations op) m
use_declared op m e = used (declarations op) m (known_as (declarations op) m.name m.at) refl e
