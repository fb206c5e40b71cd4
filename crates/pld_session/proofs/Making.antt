-- Runs that are made in the room that was taken.
use Rattle.std.proofs.Common.{◌≡◌, ℕ, zero, suc, ◌-◌, ◌<◌, ◌≤◌, List, [], ◌∷◌, ◌++◌, length, get_or, refl, ap, ◌∙◌, subst, arith}
use Rattle.std.specs.Prelude.{Result, Ok, Err, IsOk, OnOk, OnErr, is_ok, if◌then◌else◌}
use Rattle.fabric_run.specs.Reply.{name_in}
use Rattle.fabric_core.specs.declared.fabric.Record.{Record}
use Rattle.pld_reply.specs.Sizes.{AreShort}

-- a call that can't fail
pub ok_by : {A E : Type 0} {P : Type 0} (r : Result A E) → OnErr r P → (P → ⊥) → IsOk r
ok_by (Ok x) h never = refl
ok_by (Err e) h never = absurd (never h)

-- what holds of a call that didn't
pub on_ok : {A E : Type 0} {P : Type 0} (r : Result A E) (x : A) → r ≡ Ok x → OnOk r P → P
on_ok (Ok y) x e h = h
on_ok (Err y) x e h = cc

-- no name is longer, and none is past the last
pub all_short : (names : List (List ℕ)) (n : ℕ) → ((i : ℕ) (d : List ℕ) → i < n → length (get_or names i d) ≤ 32) → length names ≤ n → AreShort (name_in names)
all_short [] n each most k = omega arith
all_short (name ∷ names) n each most zero = each 0 [] (omega (arith, most))
all_short (name ∷ names) n each most (suc k) = all_short names (n - 1) (λ i d h. each (suc i) d (omega (arith, h, most))) (omega (arith, most)) k

-- the record of a run stands last
pub recorded : {E : Type 0} (old mid new : List Record) (made : Record) (run : Record) (pushed : Result (Unit {0}) E) (x : Unit {0}) → pushed ≡ Ok x → new ≡ (if is_ok pushed then mid ++ made ∷ [] else mid) → mid ≡ old
    → made.plan ≡ run.plan → made.journal ≡ run.journal → new ≡ old ++ run ∷ []
recorded old mid new made run pushed x ok p e plan journal =
    p ∙ ap (λ r. if is_ok r then mid ++ made ∷ [] else mid) ok ∙ ap (λ l. l ++ made ∷ []) e ∙ ap (λ y. old ++ (record { plan = y; journal = made.journal }) ∷ []) plan
    ∙ ap (λ y. old ++ (record { plan = run.plan; journal = y }) ∷ []) journal
