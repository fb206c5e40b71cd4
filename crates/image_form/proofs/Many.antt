-- Values read one after the other.
use Rattle.std.proofs.Common.{sum, ◌≡◌, ℕ, zero, suc, ◌-◌, ◌+◌, ◌≤◌, ◌<◌, List, [], ◌∷◌, ◌++◌, length, Ok, Err, refl, sym, ap, subst, ◌∙◌, append_assoc, arith}
use Rattle.std.specs.List.{flat_map}
use Rattle.std.proofs.lemmas.List.{append-nil, length-append}
use Rattle.std.proofs.lemmas.List.Sums.{sum_by_push}
use Rattle.std.proofs.lemmas.List.Concat.{flat_map-cons}
use Rattle.image_form.specs.declared.stop.Stop.{Stop}
use Rattle.image_form.specs.declared.stop.Bad.{Bad}
use Rattle.image_form.specs.declared.stop.Stop.TheVariants as stop
use Rattle.image_form.specs.Reading.{Found, Read, Fails, many, word_in}
use Rattle.image_form.specs.Tables.{length_at}
use Rattle.image_form.proofs.Numbers.{IsBytes, bind_ok, ok_is, done, Takes}

pub same_before : {A : Type 0} (one : List A → List ℕ → Read A) (xs ys : List A) (bytes : List ℕ) (r : Read A) → ys ≡ xs → one ys bytes ≡ r → one xs bytes ≡ r
same_before one xs ys bytes r e h = ap (λ (zs : List _). one zs bytes) (sym e) ∙ h

pub goes_on : {A : Type 0} (one : List A → List ℕ → Read A) (count i : ℕ) (before : List A) (bytes : List ℕ) (x : A) (after : List ℕ) (total : Read (List A)) → i < count → one before bytes ≡ Ok (x, after)
    → many one (count - i) before bytes ≡ total → many one (count - (i + 1)) (before ++ x ∷ []) after ≡ total
unfolding many
goes_on one count i before bytes x after total lt h so_far =
    let k : count - i ≡ suc (count - (i + 1)) = omega arith in
    let e : many one (count - i) before bytes ≡ many one (count - (i + 1)) (before ++ x ∷ []) after = rw (k, h) refl in
    sym e ∙ so_far

pub stopped : {A : Type 0} (b : Bad) (found : Found A) (e : Stop) → found ≡ Err b.left → e ≡ stop.BadField b → Fails e found
stopped b found e h k = rw k h

pub ends : {A : Type 0} (one : List A → List ℕ → Read A) (count i : ℕ) (before : List A) (bytes : List ℕ) (left : ℕ) (total : Read (List A)) → i < count → one before bytes ≡ Err left
    → many one (count - i) before bytes ≡ total → total ≡ Err left
unfolding many
ends one count i before bytes left total lt h so_far =
    let k : count - i ≡ suc (count - (i + 1)) = omega arith in
    let e : many one (count - i) before bytes ≡ Err left = rw (k, h) refl in
    sym so_far ∙ e

pub fails_there : {A : Type 0} (e : Stop) (one : List A → List ℕ → Read A) (count i : ℕ) (before : List A) (bytes : List ℕ) (total : Read (List A)) → i < count → Fails e (one before bytes)
    → many one (count - i) before bytes ≡ total → Fails e total
fails_there stop.Memory one count i before bytes total lt h so_far = tt
fails_there (stop.BadField b) one count i before bytes total lt h so_far = ends one count i before bytes b.left total lt h so_far

pub is_done : {A : Type 0} (one : List A → List ℕ → Read A) (count i : ℕ) (before : List A) (bytes : List ℕ) (total : Read (List A)) → count ≤ i → many one (count - i) before bytes ≡ total → total ≡ Ok (before, bytes)
unfolding many
is_done one count i before bytes total le so_far =
    let k : count - i ≡ 0 = omega arith in
    let e : many one (count - i) before bytes ≡ Ok (before, bytes) = rw k refl in
    sym so_far ∙ e

-- ---- the lengths of arrays

pub room_is : (room : ℕ) (before bytes : List ℕ) (r : Read ℕ) → room + sum before ≡ 8192 → word_in 1 room bytes ≡ r → length_at before bytes ≡ r
room_is room before bytes r h e = let k : 8192 - sum before ≡ room = omega (arith, h) in ap (λ (n : ℕ). word_in 1 n bytes) k ∙ e

pub sum_push : (xs : List ℕ) (x : ℕ) → sum (xs ++ x ∷ []) ≡ sum xs + x
sum_push xs x = sum_by_push (λ y. y) xs x

pub room_after : (room x : ℕ) (before : List ℕ) → x ≤ room → room + sum before ≡ 8192 → (room - x) + sum (before ++ x ∷ []) ≡ 8192
room_after room x before le h = omega (arith, le, h, sum_push before x)

-- what was read, in whatever way each value is spelled
pub record Takes_many {A : Type 0} (P : List A → Type 0) (spell : A → List ℕ) (n : ℕ) (before : List A) (bytes : List ℕ) (x : List A × List ℕ) : Type 0 where
  pub good : P x.0
  pub parts : flat_map spell before ++ bytes ≡ flat_map spell x.0 ++ x.1
  pub many_of : length x.0 ≡ length before + n
  pub rest_fits : IsBytes x.1

flat_one : {A : Type 0} (spell : A → List ℕ) (before : List A) (x : A) (rest : List ℕ) → flat_map spell (before ++ x ∷ []) ++ rest ≡ flat_map spell before ++ (spell x ++ rest)
flat_one spell [] x rest = ap (λ (t : List ℕ). t ++ rest) (flat_map-cons spell x [] ∙ append-nil (spell x))
flat_one spell (b ∷ before) x rest =
    ap (λ (t : List ℕ). t ++ rest) (flat_map-cons spell b (before ++ x ∷ []))
    ∙ append_assoc (spell b) (flat_map spell (before ++ x ∷ [])) rest
    ∙ ap (λ (t : List ℕ). spell b ++ t) (flat_one spell before x rest)
    ∙ sym (append_assoc (spell b) (flat_map spell before) (spell x ++ rest))
    ∙ ap (λ (t : List ℕ). t ++ (spell x ++ rest)) (sym (flat_map-cons spell b before))

pub many_takes : {A : Type 0} (one : List A → List ℕ → Read A) (P : List A → Type 0) (spell : A → List ℕ)
    (step : (before : List A) (bytes : List ℕ) (x : A × List ℕ) → IsBytes bytes → P before → one before bytes ≡ Ok x → Takes bytes (spell x.0) x.1 × P (before ++ x.0 ∷ []))
    (n : ℕ) (before : List A) (bytes : List ℕ) (x : List A × List ℕ) → IsBytes bytes → P before → many one n before bytes ≡ Ok x → Takes_many P spell n before bytes x
unfolding many
many_takes one P spell step zero before bytes x fits p e =
    subst (λ (y : List _ × List ℕ). Takes_many P spell 0 before bytes y) (ok_is (before, bytes) x e) (record { good = p; parts = refl; many_of = omega arith; rest_fits = fits })
many_takes one P spell step (suc n) before bytes x fits p e =
    let a = bind_ok (one before bytes) (λ y. many one n (before ++ y.0 ∷ []) y.1) x e in
    let first = step before bytes a.0 fits p a.1 in
    let others = many_takes one P spell step n (before ++ a.0.0 ∷ []) a.0.1 x first.0.rest_fits first.1 a.2 in
    record {
      good = others.good;
      parts = ap (λ (t : List ℕ). flat_map spell before ++ t) first.0.parts ∙ sym (flat_one spell before a.0.0 a.0.1) ∙ others.parts;
      many_of = omega (arith, others.many_of, length-append before (a.0.0 ∷ []));
      rest_fits = others.rest_fits;
    }

-- each value is good in view of those before it
abbrev pub Each : {A : Type 0} → (List A → A → Type 0) → List A → List A → Type 0
Each Good before [] = Unit {0}
Each Good before (x ∷ xs) = Good before x × Each Good (before ++ x ∷ []) xs

pub many_again : {A : Type 0} (one : List A → List ℕ → Read A) (Good : List A → A → Type 0) (spell : A → List ℕ)
    (step : (before : List A) (x : A) (rest : List ℕ) → Good before x → one before (spell x ++ rest) ≡ Ok (x, rest))
    (before xs : List A) (rest : List ℕ) → Each Good before xs → many one (length xs) before (flat_map spell xs ++ rest) ≡ Ok (before ++ xs, rest)
unfolding many
many_again one Good spell step before [] rest good = ap (λ (t : List _). done (t, rest)) (sym (append-nil before))
many_again one Good spell step before (x ∷ xs) rest good =
    let regrouped : flat_map spell (x ∷ xs) ++ rest ≡ spell x ++ (flat_map spell xs ++ rest) = ap (λ (t : List ℕ). t ++ rest) (flat_map-cons spell x xs) ∙ append_assoc (spell x) (flat_map spell xs) rest in
    let again = many_again one Good spell step (before ++ x ∷ []) xs rest good.1 in
    ap (many one (suc (length xs)) before) regrouped ∙ rw (step before x (flat_map spell xs ++ rest) good.0) (again ∙ ap (λ (t : List _). done (t, rest)) (append_assoc before (x ∷ []) xs))
