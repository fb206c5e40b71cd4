-- Many steps of a core, and of one that has operations to repeat.
use Rattle.std.proofs.Common.{◌≡◌, ℕ, zero, suc, ◌+◌, ◌-◌, ◌<◌, List, [], ◌∷◌, length, refl, sym, ap, ◌∙◌, arith}
use Rattle.pld_base.specs.declared.event.StepEnd.{StepEnd}
use Rattle.pld_base.specs.declared.event.StepEnd.TheVariants.{Went, AtRead, AtWrite, Ended, Trapped}
use Rattle.hot_swap.specs.Steps.{Meaning, after_answer, after_step}
use Rattle.hot_swap.specs.Advances.{Ran, ran, ran_by}
use Rattle.hot_swap.specs.Chase.{Chase, seen, chasing}

module _ {S : Type 0} (m : Meaning S) where
  -- one step more
  went_on : (n : ℕ) (s t : S) → m.answer s ≡ Went → t ≡ after_step m s → ran m n t ≡ ran m (suc n) s
  went_on n s t is after = ap (ran m n) (after ∙ ap (λ e. after_answer e (m.stepped s) s) is) ∙ sym (ap (λ e. ran_by s e (ran m n (m.stepped s))) is)

  pub goes_on : (most made : ℕ) (s t : S) (whole : Ran S) → made < most → ran m (most - made) s ≡ whole → m.answer s ≡ Went → t ≡ after_step m s → ran m (most - (made + 1)) t ≡ whole
  goes_on most made s t whole less so is after =
      let e : suc (most - (made + 1)) ≡ most - made = omega arith in
      went_on (most - (made + 1)) s t is after ∙ ap (λ n. ran m n s) e ∙ so

  abbrev alone : S → Chase S
  alone s = record { core = s; left = [] }

  abbrev ran_of : Ran S → Ran (Chase S)
  ran_of r = record { state = alone r.state; end = r.end }

  alone_by : (s : S) (e : StepEnd) (more : Ran (Chase S)) (own : Ran S) → more ≡ ran_of own → ran_by (alone s) e more ≡ ran_of (ran_by s e own)
  alone_by s Went more own same = same
  alone_by s (AtRead p) more own same = refl
  alone_by s (AtWrite p w) more own same = refl
  alone_by s Ended more own same = refl
  alone_by s (Trapped pc) more own same = refl

  -- with nothing left its steps are the core's own
  pub ran_alone : (n : ℕ) (s : S) → ran (chasing m) n (record { core = s; left = [] }) ≡ ran_of (ran m n s)
  ran_alone zero s = refl
  ran_alone (suc n) s = alone_by s (m.answer s) (ran (chasing m) n (alone (m.stepped s))) (ran m n (m.stepped s)) (ran_alone n (m.stepped s))

  -- where the core makes the steps that are left, it comes to the whole
  pub rest_alone : {C : Type 0} (state : C → S) (n : ℕ) (now : Chase C) (whole : Ran (Chase S)) → now.left ≡ [] → ran (chasing m) n (seen state now) ≡ whole → ran_of (ran m n (state now.core)) ≡ whole
  rest_alone state n now whole e so =
      sym (ran_alone n (state now.core)) ∙ ap (λ l. ran (chasing m) n (record { core = state now.core; left = l })) (sym e) ∙ so

pub none_left : {A : Type 0} (xs : List A) → length xs ≡ 0 → xs ≡ []
none_left [] e = refl
none_left (x ∷ xs) e = absurd (let no : ⊥ = cc in no)
