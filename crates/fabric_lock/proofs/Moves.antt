-- Each step keeps the rule.
use Rattle.std.proofs.Common.{◌≡◌, ◌≢◌, ℕ, zero, suc, ◌+◌, ◌-◌, ◌<◌, ◌≤◌, eqb, List, [], ◌∷◌, ◌++◌, length, get_or, set, Option, Some, None, Bool, true, false, true≢false, refl, sym, ap, ◌∙◌, subst, ⊎_elim, arith, append-nil, eq-eqb, ne_eqb}
use mathlib.Core.Logic.{dite}
use mathlib.Core.Option.{some, none, some-injective, some-ne-none}
use mathlib.Core.Option as maybe
use native.Mathlib.Decide.{ℕ_discrete}
use lib.ListN.{get_elem?}
use lib.Seq.{set-get_or}
use prog.Atomic.{either}
use Rattle.atomic_table.specs.Table.{State, Me, step, keeps, takes, gives, put_back, rest, stepped, opening, Allows, Splits, Joins, Final, Seen}
use Rattle.atomic_table.proofs.Lists.{at_set, set_again, set_else, at_longer, at_snoc}
use Rattle.fabric_lock.specs.declared.views.View.{View}
use Rattle.fabric_lock.specs.declared.views.Stage.{Stage}
use Rattle.fabric_lock.specs.declared.views.Stage.TheVariants.{Free, Opening, Holding, Spent}
use Rattle.fabric_lock.specs.History.{Begins, entries_of, AllOf}
use Rattle.fabric_lock.specs.Views.{is_spent, in_hold, opening_view, spent_view, at_stage, entered, with_more, one_fewer, newcomer, joined_view}
use Rattle.fabric_lock.specs.Rule.{total, spare_of, parts_of, Fits, InHold, Knows, IsHome, Kept}
use Rattle.fabric_lock.specs.Steps.{HasBase, claimed, opened, telling, released, looked}
use Rattle.fabric_lock.proofs.Histories.{begins_self, begins_more, begins_longer, entries-append, entries_all, entries_none, entries_unmade, made-append, made_of, made_more, total_set, total_stays, total-snoc, total_one, total_two, set_same, at_end, set_one, one_item}

unspent_in_hold : (st : Stage) → in_hold st ≡ true → is_spent st ≡ false
unspent_in_hold Free e = refl
unspent_in_hold Opening e = refl
unspent_in_hold Holding e = refl
unspent_in_hold Spent e = absurd (true≢false (sym e))

module _ {T : Type 0} (first : T) (workers : ℕ) where
  fits_of : (busy made : ℕ) (log : List ℕ) (homes : List (maybe.Option (Option T))) (v : View T) (st : Stage) → Knows first workers busy made log homes v st → is_spent st ≡ false → Fits first workers made log v
  fits_of busy made log homes v Free k e = k
  fits_of busy made log homes v Opening k e = k.0
  fits_of busy made log homes v Holding k e = k.0
  fits_of busy made log homes v Spent k e = absurd (true≢false e)

  hold_of : (busy made : ℕ) (log : List ℕ) (homes : List (maybe.Option (Option T))) (v : View T) (st : Stage) → Knows first workers busy made log homes v st → in_hold st ≡ true → InHold busy log v
  hold_of busy made log homes v Free k e = absurd (true≢false (sym e))
  hold_of busy made log homes v Opening k e = k.1
  hold_of busy made log homes v Holding k e = k.1
  hold_of busy made log homes v Spent k e = absurd (true≢false (sym e))

  -- a seat in no hold needs only its own facts
  unhold : (busy made busy' made' : ℕ) (log log' : List ℕ) (homes homes' : List (maybe.Option (Option T))) (v : View T) (st : Stage) → Knows first workers busy made log homes v st → (in_hold st ≡ true → ⊥)
      → (is_spent st ≡ false → Fits first workers made log v → Fits first workers made' log' v) → Knows first workers busy' made' log' homes' v st
  unhold busy made busy' made' log log' homes homes' v Free k out next = next refl k
  unhold busy made busy' made' log log' homes homes' v Opening k out next = absurd (out refl)
  unhold busy made busy' made' log log' homes homes' v Holding k out next = absurd (out refl)
  unhold busy made busy' made' log log' homes homes' v Spent k out next = k

  -- where the words and the slot stay
  refit : (busy made made' : ℕ) (log : List ℕ) (homes : List (maybe.Option (Option T))) (v : View T) (st : Stage) → Knows first workers busy made log homes v st
      → (is_spent st ≡ false → Fits first workers made log v → Fits first workers made' log v) → Knows first workers busy made' log homes v st
  refit busy made made' log homes v Free k next = next refl k
  refit busy made made' log homes v Opening k next = (next refl k.0, k.1, k.2)
  refit busy made made' log homes v Holding k next = (next refl k.0, k.1)
  refit busy made made' log homes v Spent k next = k

module _ {T : Type 0} where
  Apart : List (View T) → Type 0
  Apart vs = (i j : ℕ) (v w : View T) → get_elem? vs i ≡ some v → get_elem? vs j ≡ some w → is_spent v.stage ≡ false → is_spent w.stage ≡ false → v.number ≡ w.number → i ≡ j

  HeldIn : List (View T) → Type 0
  HeldIn vs = (j : ℕ) × (v : View T) × (get_elem? vs j ≡ some v) × (in_hold v.stage ≡ true)

  each_set : (K : ℕ → View T → Type 0) (vs : List (View T)) (id : ℕ) (w : View T) → K id w → ((j : ℕ) (u : View T) → j ≢ id → get_elem? vs j ≡ some u → K j u)
      → (j : ℕ) (u : View T) → get_elem? (set vs id w) j ≡ some u → K j u
  each_set K vs id w mine others j u e = ⊎_elim (λ (t : (j ≡ id) × (w ≡ u)). subst (λ (x : ℕ × View T). K x.0 x.1) (λ i. (sym t.0 i, t.1 i)) mine)
      (λ (t : (j ≢ id) × (get_elem? vs j ≡ some u)). others j u t.0 t.1) (at_set vs id j w u e)

  apart_set : (vs : List (View T)) (id : ℕ) (v w : View T) → get_elem? vs id ≡ some v → (is_spent w.stage ≡ false → (w.number ≡ v.number) × (is_spent v.stage ≡ false))
      → ((i j : ℕ) (v w : View T) → get_elem? vs i ≡ some v → get_elem? vs j ≡ some w → is_spent v.stage ≡ false → is_spent w.stage ≡ false → v.number ≡ w.number → i ≡ j)
      → (i j : ℕ) (u t : View T) → get_elem? (set vs id w) i ≡ some u → get_elem? (set vs id w) j ≡ some t → is_spent u.stage ≡ false → is_spent t.stage ≡ false → u.number ≡ t.number → i ≡ j
  apart_set vs id v w at ok a i j u t ei ej su st same = ⊎_elim
      (λ (p : (i ≡ id) × (w ≡ u)). ⊎_elim
      (λ (q : (j ≡ id) × (w ≡ t)). p.0 ∙ sym q.0)
      (λ (q : (j ≢ id) × (get_elem? vs j ≡ some t)). let k = ok (subst (λ (z : View T). is_spent z.stage ≡ false) (sym p.1) su) in
      p.0 ∙ a id j v t at q.1 k.1 st (sym k.0 ∙ (ap (λ (z : View T). z.number) p.1 ∙ same)))
      (at_set vs id j w t ej))
      (λ (p : (i ≢ id) × (get_elem? vs i ≡ some u)). ⊎_elim
      (λ (q : (j ≡ id) × (w ≡ t)). let k = ok (subst (λ (z : View T). is_spent z.stage ≡ false) (sym q.1) st) in
      a i id u v p.1 at su k.1 (same ∙ (sym (ap (λ (z : View T). z.number) q.1) ∙ k.0)) ∙ sym q.0)
      (λ (q : (j ≢ id) × (get_elem? vs j ≡ some t)). a i j u t p.1 q.1 su st same)
      (at_set vs id j w t ej))
      (at_set vs id i w u ei)

  held_set : (vs : List (View T)) (id : ℕ) (v w : View T) → get_elem? vs id ≡ some v → (in_hold v.stage ≡ true → in_hold w.stage ≡ true)
      → (j : ℕ) × (u : View T) × (get_elem? vs j ≡ some u) × (in_hold u.stage ≡ true) → (j : ℕ) × (u : View T) × (get_elem? (set vs id w) j ≡ some u) × (in_hold u.stage ≡ true)
  held_set vs id v w at next h = dite (ℕ_discrete h.0 id)
      (λ same. let is : h.1 ≡ v = some-injective h.1 v (sym h.2 ∙ (ap (get_elem? vs) same ∙ at)) in (id, w, set_same vs id v w at, next (subst (λ (z : View T). in_hold z.stage ≡ true) is h.3)))
      (λ other. (h.0, h.1, set_else vs id h.0 w other ∙ h.2, h.3))

  apart_snoc : (vs : List (View T)) (w : View T) (n : ℕ) → length vs ≡ n
      → ((i j : ℕ) (u t : View T) → get_elem? vs i ≡ some u → get_elem? vs j ≡ some t → is_spent u.stage ≡ false → is_spent t.stage ≡ false → u.number ≡ t.number → i ≡ j)
      → ((i : ℕ) (u : View T) → get_elem? vs i ≡ some u → is_spent u.stage ≡ false → u.number ≡ w.number → ⊥)
      → (i j : ℕ) (u t : View T) → get_elem? (vs ++ w ∷ []) i ≡ some u → get_elem? (vs ++ w ∷ []) j ≡ some t → is_spent u.stage ≡ false → is_spent t.stage ≡ false → u.number ≡ t.number → i ≡ j
  apart_snoc vs w n size a new i j u t ei ej su st same = ⊎_elim
      (λ (p : get_elem? vs i ≡ some u). ⊎_elim
      (λ (q : get_elem? vs j ≡ some t). a i j u t p q su st same)
      (λ (q : (j ≡ length vs) × (w ≡ t)). absurd (new i u p su (same ∙ sym (ap (λ (z : View T). z.number) q.1))))
      (at_end vs w t j ej))
      (λ (p : (i ≡ length vs) × (w ≡ u)). ⊎_elim
      (λ (q : get_elem? vs j ≡ some t). absurd (new j t q st (sym same ∙ sym (ap (λ (z : View T). z.number) p.1))))
      (λ (q : (j ≡ length vs) × (w ≡ t)). p.0 ∙ sym q.0)
      (at_end vs w t j ej))
      (at_end vs w u i ei)

module _ {T B : Type 0} (base : T → B) (told : T → List ℕ) (first : T) (workers : ℕ) where
  abbrev V : Type 0
  V = View T

  abbrev St : Type 0
  St = State (Option T) V

  abbrev M : Type 0
  M = Me (Option T) V

  abbrev Rule : St → Type 0
  Rule = Kept base told first workers

  -- no other seat is in a hold
  alone : (s : St) (r : Rule s) (id : ℕ) (v : V) → get_elem? s.views id ≡ some v → is_spent v.stage ≡ false → InHold r.busy r.log v → (j : ℕ) (u : V) → j ≢ id → get_elem? s.views j ≡ some u → in_hold u.stage ≡ true → ⊥
  alone s r id v at unspent mine j u other there h =
      let theirs = hold_of first workers r.busy r.made r.log s.homes u u.stage (r.each j u there) h in
      let a : r.busy ≡ u.number + 1 = theirs.named in
      let b : r.busy ≡ v.number + 1 = mine.named in
      other (r.apart j id u v there at (unspent_in_hold u.stage h) unspent (omega arith))

  unmoved : (s : St) (r : Rule s) (i id : ℕ) (me : M) → get_elem? s.views id ≡ some me.0 → Rule (stepped s i (get_or s.words i 0) id me.1 me.0 keeps)
  unmoved s r i id me at = subst (λ (ws : List ℕ). Rule record { words = ws; homes = s.homes; views = set s.views id me.0 }) (sym (set-get_or s.words i 0))
      (subst (λ (vs : List V). Rule record { words = s.words; homes = s.homes; views = vs }) (sym (set_again s.views id me.0 at)) r)

  claim_hit : (s : St) (r : Rule s) (id : ℕ) (me : M) (new : ℕ) → get_elem? s.views id ≡ some me.0 → me.0.stage ≡ Free → me.0.number + 1 ≡ new → r.busy ≡ 0
      → (home : IsHome base told first r.log s.homes) → Rule (stepped s 0 new id me.1 (entered r.log me.0) (takes 0 (Some home.0)))
  claim_hit s r id me new at free named none_busy home =
      let v : V = me.0 in
      let w : V = entered r.log v in
      let mine : Fits first workers r.made r.log v = subst (λ (st : Stage). Knows first workers r.busy r.made r.log s.homes v st) free (r.each id v at) in
      let unspent : is_spent v.stage ≡ false = ap is_spent free in record {
        busy = new;
        log = r.log;
        made = r.made;
        words = ap (λ (ws : List ℕ). set ws 0 new) r.words;
        known = r.known;
        spares = let t : total spare_of (set s.views id w) ≡ total spare_of s.views = total_stays spare_of s.views id v w at refl in let u = r.spares in omega arith;
        parts = total_stays parts_of s.views id v w at refl ∙ r.parts;
        each = each_set (λ (j : ℕ) (u : V). Knows first workers new r.made r.log (set s.homes 0 none) u u.stage) s.views id w
            (record { same = mine.same; crew = mine.crew; below = mine.below; one = mine.one; spare = mine.spare; seen = begins_self r.log; own = mine.own }, record { named = sym named; all = refl })
            (λ j u other e. unhold first workers r.busy r.made new r.made r.log r.log s.homes (set s.homes 0 none) u u.stage (r.each j u e)
            (λ h. let n : r.busy ≡ u.number + 1 = (hold_of first workers r.busy r.made r.log s.homes u u.stage (r.each j u e) h).named in absurd (omega arith)) (λ _ f. f));
        apart = apart_set s.views id v w at (λ _. (refl, unspent)) r.apart;
        free = λ z. absurd (omega arith);
        held = λ _. (id, w, set_same s.views id v w at, refl);
      }

  pub claims : (slots id : ℕ) (me : M) (new : ℕ) → me.0.stage ≡ Free → me.0.number + 1 ≡ new
      → Allows Rule slots id me 0 (λ x. either (eqb x 0) new x) (claimed base told (step slots 0 0 new none) me)
  claims slots id me new free named s r len at small =
      let x : ℕ = get_or s.words 0 0 in
      let b : x ≡ r.busy = ap (λ (ws : List ℕ). get_or ws 0 0) r.words in
      let mine : Fits first workers r.made r.log me.0 = subst (λ (st : Stage). Knows first workers r.busy r.made r.log s.homes me.0 st) free (r.each id me.0 at) in
      dite (ℕ_discrete x 0)
      (λ hit. let idle : r.busy ≡ 0 = sym b ∙ hit in let home = r.free idle in (
        entered r.log me.0,
        takes 0 (Some home.0),
        ap (λ (h : List (maybe.Option (Option T))). get_elem? h 0) home.1,
        subst (λ (t : Bool). Rule (stepped s 0 (either t new x) id me.1 (entered r.log me.0) (takes 0 (Some home.0)))) (sym (eq-eqb x 0 hit)) (claim_hit s r id me new at free named idle home),
        (
          λ _. record { history = r.log; value = home.0; view = refl; slot = refl; begins = mine.seen; own = sym mine.own; base_is = subst (HasBase base home.0) (sym mine.same) home.2; told_is = home.3 },
          λ no. absurd (no hit),
        ),
      ))
      (λ miss. (
        me.0,
        keeps,
        tt,
        subst (λ (t : Bool). Rule (stepped s 0 (either t new x) id me.1 me.0 keeps)) (sym (ne_eqb x 0 miss)) (unmoved s r 0 id me at),
        ((λ hit. absurd (miss hit)), (λ _. refl)),
      ))

  pub opens : (slots id : ℕ) (me : M) → me.0.stage ≡ Opening → me.0.seen ≡ [] → Allows Rule slots id me 1 (λ _. 0) (λ _. opened (step slots 1 0 0 none) me 0)
  opens slots id me opening_ blank s r len at small =
      let v : V = me.0 in
      let w : V = at_stage Holding v in
      let mine = subst (λ (st : Stage). Knows first workers r.busy r.made r.log s.homes v st) opening_ (r.each id v at) in
      let unspent : is_spent v.stage ≡ false = ap is_spent opening_ in
      let bare : r.log ≡ [] = sym mine.1.all ∙ blank in (
        w,
        takes 0 None,
        ap (λ (h : List (maybe.Option (Option T))). get_elem? h 0) mine.2,
        record {
          busy = r.busy;
          log = r.log;
          made = r.made;
          words = ap (λ (ws : List ℕ). set ws 1 0) r.words ∙ ap (λ (l : List ℕ). r.busy ∷ length l ∷ []) (sym bare);
          known = r.known;
          spares = let t : total spare_of (set s.views id w) ≡ total spare_of s.views = total_stays spare_of s.views id v w at refl in let u = r.spares in omega arith;
          parts = total_stays parts_of s.views id v w at refl ∙ r.parts;
          each = each_set (λ (j : ℕ) (u : V). Knows first workers r.busy r.made r.log (set s.homes 0 none) u u.stage) s.views id w
              (record { same = mine.0.same; crew = mine.0.crew; below = mine.0.below; one = mine.0.one; spare = mine.0.spare; seen = mine.0.seen; own = mine.0.own }, record { named = mine.1.named; all = mine.1.all })
              (λ j u other e. unhold first workers r.busy r.made r.busy r.made r.log r.log s.homes (set s.homes 0 none) u u.stage (r.each j u e)
              (alone s r id v at unspent mine.1 j u other e) (λ _ f. f));
          apart = apart_set s.views id v w at (λ _. (refl, unspent)) r.apart;
          free = λ z. let n : r.busy ≡ v.number + 1 = mine.1.named in absurd (omega arith);
          held = λ _. (id, w, set_same s.views id v w at, refl);
        },
        refl,
      )

  pub tells : (slots id : ℕ) (me : M) (more : List ℕ) (new : ℕ) → me.0.stage ≡ Holding → AllOf me.0.number more → length (me.0.seen ++ more) ≡ new
      → Allows Rule slots id me 1 (λ _. new) (λ _. telling more (step slots 1 new 0 none) me new)
  tells slots id me more new holding own size s r len at small =
      let v : V = me.0 in
      let w : V = with_more more v in
      let mine = subst (λ (st : Stage). Knows first workers r.busy r.made r.log s.homes v st) holding (r.each id v at) in
      let unspent : is_spent v.stage ≡ false = ap is_spent holding in
      let now : List ℕ = r.log ++ more in
      let all : v.seen ++ more ≡ now = ap (λ (l : List ℕ). l ++ more) mine.1.all in (
        w,
        keeps,
        tt,
        record {
          busy = r.busy;
          log = now;
          made = r.made;
          words = ap (λ (ws : List ℕ). set ws 1 new) r.words ∙ ap (λ (n : ℕ). r.busy ∷ n ∷ []) (sym size ∙ ap length all);
          known = made-append r.made r.log more r.known (made_of r.made v.number more mine.0.below own);
          spares = let t : total spare_of (set s.views id w) ≡ total spare_of s.views = total_stays spare_of s.views id v w at refl in let u = r.spares in omega arith;
          parts = total_stays parts_of s.views id v w at refl ∙ r.parts;
          each = each_set (λ (j : ℕ) (u : V). Knows first workers r.busy r.made now s.homes u u.stage) s.views id w
              (subst (λ (st : Stage). Knows first workers r.busy r.made now s.homes w st) (sym holding) (
                record {
                  same = mine.0.same;
                  crew = mine.0.crew;
                  below = mine.0.below;
                  one = mine.0.one;
                  spare = mine.0.spare;
                  seen = subst (Begins now) (sym all) (begins_self now);
                  own = ap (λ (l : List ℕ). l ++ more) mine.0.own ∙ (ap (λ (l : List ℕ). entries_of v.number r.log ++ l) (sym (entries_all v.number more own)) ∙ sym (entries-append v.number r.log more));
                },
                record { named = mine.1.named; all = all },
              ))
              (λ j u other e. unhold first workers r.busy r.made r.busy r.made r.log now s.homes s.homes u u.stage (r.each j u e)
              (alone s r id v at unspent mine.1 j u other e)
              (λ alive f. record {
                same = f.same;
                crew = f.crew;
                below = f.below;
                one = f.one;
                spare = f.spare;
                seen = begins_more r.log u.seen more f.seen;
                own = f.own ∙ (sym (append-nil (entries_of u.number r.log))
                    ∙ (ap (λ (l : List ℕ). entries_of u.number r.log ++ l) (sym (entries_none v.number u.number more (λ same. other (r.apart j id u v e at alive unspent (sym same))) own)) ∙ sym (entries-append u.number r.log more)));
              }));
          apart = apart_set s.views id v w at (λ _. (refl, unspent)) r.apart;
          free = λ z. let n : r.busy ≡ v.number + 1 = mine.1.named in absurd (omega arith);
          held = λ _. (id, w, set_same s.views id v w at, ap in_hold holding);
        },
        refl,
      )

  pub releases : (slots id : ℕ) (me : M) (x : T) → me.0.stage ≡ Holding → me.1 ≡ (0, Some x) ∷ [] → base x ≡ base first → told x ≡ me.0.seen → slots ≡ 1
      → Allows Rule slots id me 0 (λ _. 0) (λ _. released (step slots 0 0 0 none) me 0)
  releases slots id me x holding slot base_is told_is one s r len at small =
      let v : V = me.0 in
      let w : V = at_stage Free v in
      let mine = subst (λ (st : Stage). Knows first workers r.busy r.made r.log s.homes v st) holding (r.each id v at) in
      let unspent : is_spent v.stage ≡ false = ap is_spent holding in
      let homes : List (maybe.Option (Option T)) = set s.homes 0 (some (Some x)) in (
        w,
        gives,
        tt,
        subst (λ (c : List (ℕ × Option T)). Rule record { words = set s.words 0 0; homes = put_back s.homes c; views = set s.views id w }) (sym slot) record {
          busy = 0;
          log = r.log;
          made = r.made;
          words = ap (λ (ws : List ℕ). set ws 0 0) r.words;
          known = r.known;
          spares = let t : total spare_of (set s.views id w) ≡ total spare_of s.views = total_stays spare_of s.views id v w at refl in let u = r.spares in omega arith;
          parts = total_stays parts_of s.views id v w at refl ∙ r.parts;
          each = each_set (λ (j : ℕ) (u : V). Knows first workers 0 r.made r.log homes u u.stage) s.views id w
              (record { same = mine.0.same; crew = mine.0.crew; below = mine.0.below; one = mine.0.one; spare = mine.0.spare; seen = mine.0.seen; own = mine.0.own })
              (λ j u other e. unhold first workers r.busy r.made 0 r.made r.log r.log s.homes homes u u.stage (r.each j u e)
              (alone s r id v at unspent mine.1 j u other e) (λ _ f. f));
          apart = apart_set s.views id v w at (λ _. (refl, unspent)) r.apart;
          free = λ _. (x, set_one s.homes (some (Some x)) (len ∙ one), base_is, told_is ∙ mine.1.all);
          held = λ no. absurd (no refl);
        },
        ap (λ (c : List (ℕ × Option T)). (w, rest c)) slot,
      )

  -- a lock as it is made
  pub begins : 0 < workers → Rule (opening (1 ∷ 0 ∷ []) (None ∷ []) (opening_view first workers))
  begins some_worker = record {
    busy = 1;
    log = [];
    made = 1;
    words = refl;
    known = tt;
    spares = omega arith;
    parts = omega arith;
    each = one_view;
    apart = one_seat;
    free = λ z. absurd (omega arith);
    held = λ _. (0, opening_view first workers, refl, refl);
  }
    where
      one_view : (j : ℕ) (v : View T) → get_elem? (opening_view first workers ∷ []) j ≡ some v → Knows first workers 1 1 [] (some None ∷ []) v v.stage
      one_view zero v e = subst (λ (u : View T). Knows first workers 1 1 [] (some None ∷ []) u u.stage) (some-injective _ _ e) (
        record { same = refl; crew = refl; below = omega arith; one = omega arith; spare = λ h. omega arith; seen = ([], refl); own = refl },
        record { named = refl; all = refl },
        refl,
      )
      one_view (suc j) v e = absurd (some-ne-none v (sym e))

      one_seat : (i j : ℕ) (v w : View T) → get_elem? (opening_view first workers ∷ []) i ≡ some v → get_elem? (opening_view first workers ∷ []) j ≡ some w → is_spent v.stage ≡ false → is_spent w.stage ≡ false → v.number ≡ w.number → i ≡ j
      one_seat zero zero v w a b c d e = refl
      one_seat zero (suc j) v w a b c d e = absurd (some-ne-none w (sym b))
      one_seat (suc i) j v w a b c d e = absurd (some-ne-none v (sym a))

  pub splits : (id : ℕ) (v : V) → v.stage ≡ Free → 0 < v.spare → Splits Rule id v (one_fewer v) (newcomer v)
  splits id v free has s r at =
      let left : V = one_fewer v in
      let right : V = newcomer v in
      let mine : Fits first workers r.made r.log v = subst (λ (st : Stage). Knows first workers r.busy r.made r.log s.homes v st) free (r.each id v at) in
      let unspent : is_spent v.stage ≡ false = ap is_spent free in
      let made : ℕ = r.made + 1 in
      let spare : v.spare + r.made ≡ workers = mine.spare has in
      let crew : v.workers ≡ workers = mine.crew in
      let number : v.workers - v.spare ≡ r.made = omega arith in
      let below : v.number < r.made = mine.below in
      let all : total spare_of s.views + r.made ≡ workers = r.spares in
      let cut : List V = set s.views id left in record {
        busy = r.busy;
        log = r.log;
        made = made;
        words = r.words;
        known = made_more r.made made r.log (omega arith) r.known;
        spares =
            let t : total spare_of cut + v.spare ≡ total spare_of s.views + (v.spare - 1) = total_set spare_of s.views id v left at in
            let e : total spare_of (cut ++ right ∷ []) ≡ total spare_of cut + 0 = total-snoc spare_of cut right in
            omega arith;
        parts =
            let t : total parts_of cut + (v.spare + v.gathered) ≡ total parts_of s.views + (v.spare - 1 + v.gathered) = total_set parts_of s.views id v left at in
            let e : total parts_of (cut ++ right ∷ []) ≡ total parts_of cut + 1 = total-snoc parts_of cut right in
            let p : total parts_of s.views ≡ workers = r.parts in
            omega arith;
        each = λ j u e. ⊎_elim
            (each_set (λ (j : ℕ) (u : V). Knows first workers r.busy made r.log s.homes u u.stage) s.views id left
            (subst (λ (st : Stage). Knows first workers r.busy made r.log s.homes left st) (sym free)
            (record { same = mine.same; crew = mine.crew; below = omega arith; one = mine.one; spare = λ _. omega arith; seen = mine.seen; own = mine.own }))
            (λ j u other e. refit first workers r.busy r.made made r.log s.homes u u.stage (r.each j u e)
            (λ _ f. record {
              same = f.same;
              crew = f.crew;
              below = (let b : u.number < r.made = f.below in omega arith);
              one = f.one;
              spare = λ (h : 0 < u.spare).
                  let two : v.spare + u.spare ≤ total spare_of s.views = total_two spare_of s.views id j v u at e other in
                  absurd (omega arith);
              seen = f.seen;
              own = f.own;
            }))
            j u)
            (λ (same : right ≡ u). subst (λ (z : V). Knows first workers r.busy made r.log s.homes z z.stage) same
            (subst (λ (st : Stage). Knows first workers r.busy made r.log s.homes right st) (sym free)
            (record {
              same = mine.same;
              crew = mine.crew;
              below = omega arith;
              one = omega arith;
              spare = λ h. absurd (omega arith);
              seen = mine.seen;
              own = sym (entries_unmade (v.workers - v.spare) r.made r.log (omega arith) r.known);
            })))
            (at_snoc cut right u j e);
        apart = apart_snoc cut right (length cut) refl (apart_set s.views id v left at (λ _. (refl, unspent)) r.apart)
            (λ i u e alive. ⊎_elim
            (λ (t : (i ≡ id) × (left ≡ u)). let same : v.number ≡ u.number = ap (λ (z : V). z.number) t.1 in (λ (h : u.number ≡ v.workers - v.spare). absurd (omega arith)))
            (λ (t : (i ≢ id) × (get_elem? s.views i ≡ some u)).
            let b : u.number < r.made = (fits_of first workers r.busy r.made r.log s.homes u u.stage (r.each i u t.1) alive).below in
            (λ (h : u.number ≡ v.workers - v.spare). absurd (omega arith)))
            (at_set s.views id i left u e));
        free = r.free;
        held = λ no. let h = held_set s.views id v left at (λ t. t) (r.held no) in (h.0, h.1, at_longer cut (right ∷ []) h.0 h.1 h.2, h.3);
      }

  pub joins : (id : ℕ) (v : V) (other : ℕ) (w : V) → v.stage ≡ Free → w.stage ≡ Free → Joins Rule id v other w (joined_view v w) spent_view
  joins id v other w free free' s r at apart there =
      let both : V = joined_view v w in
      let cut : List V = set s.views id both in
      let was : get_elem? s.views other ≡ some w = sym (set_else s.views id other both apart) ∙ there in
      let mine : Fits first workers r.made r.log v = subst (λ (st : Stage). Knows first workers r.busy r.made r.log s.homes v st) free (r.each id v at) in
      let theirs : Fits first workers r.made r.log w = subst (λ (st : Stage). Knows first workers r.busy r.made r.log s.homes w st) free' (r.each other w was) in
      let unspent : is_spent v.stage ≡ false = ap is_spent free in
      let all : total spare_of s.views + r.made ≡ workers = r.spares in
      let two : v.spare + w.spare ≤ total spare_of s.views = total_two spare_of s.views id other v w at was apart in
      let one : 1 ≤ v.gathered = mine.one in record {
        busy = r.busy;
        log = r.log;
        made = r.made;
        words = r.words;
        known = r.known;
        spares =
            let a : total spare_of cut + v.spare ≡ total spare_of s.views + (v.spare + w.spare) = total_set spare_of s.views id v both at in
            let b : total spare_of (set cut other spent_view) + w.spare ≡ total spare_of cut + 0 = total_set spare_of cut other w spent_view there in
            omega arith;
        parts =
            let a : total parts_of cut + (v.spare + v.gathered) ≡ total parts_of s.views + ((v.spare + w.spare) + (v.gathered + w.gathered)) = total_set parts_of s.views id v both at in
            let b : total parts_of (set cut other spent_view) + (w.spare + w.gathered) ≡ total parts_of cut + 0 = total_set parts_of cut other w spent_view there in
            let p : total parts_of s.views ≡ workers = r.parts in
            omega arith;
        each = each_set (λ (j : ℕ) (u : V). Knows first workers r.busy r.made r.log s.homes u u.stage) cut other spent_view (refl, refl)
            (λ j u _ e. each_set (λ (j : ℕ) (u : V). Knows first workers r.busy r.made r.log s.homes u u.stage) s.views id both
            (subst (λ (st : Stage). Knows first workers r.busy r.made r.log s.homes both st) (sym free)
            (record {
              same = mine.same;
              crew = mine.crew;
              below = mine.below;
              one = omega arith;
              spare = λ h. dite (ℕ_discrete v.spare 0)
                  (λ (z : v.spare ≡ 0). let k : w.spare + r.made ≡ workers = theirs.spare (omega arith) in omega arith)
                  (λ (n : v.spare ≢ 0). let k : v.spare + r.made ≡ workers = mine.spare (omega arith) in omega arith);
              seen = begins_longer r.log v.seen w.seen mine.seen theirs.seen;
              own = mine.own;
            }))
            (λ i t _ g. r.each i t g) j u e);
        apart = apart_set cut other w spent_view there (λ h. absurd (true≢false h)) (apart_set s.views id v both at (λ _. (refl, unspent)) r.apart);
        free = r.free;
        held = λ no. held_set cut other w spent_view there (λ h. absurd (true≢false (sym (sym (ap in_hold free') ∙ h)))) (held_set s.views id v both at (λ t. t) (r.held no));
      }

  pub closes : (id : ℕ) (v : V) (ws : List ℕ) (xs : List (Option T)) → Final (Seen Rule id v) ws xs → v.stage ≡ Free → v.spare + v.gathered ≡ workers → length xs ≡ 1
      → (x : T) × (xs ≡ Some x ∷ []) × (base x ≡ base first) × Begins (told x) v.seen × (entries_of v.number (told x) ≡ v.own)
  closes id v ws xs h free whole one =
      let s : St = h.0 in
      let r : Rule s = h.1.0 in
      let at : get_elem? s.views id ≡ some v = h.1.1 in
      let mine : Fits first workers r.made r.log v = subst (λ (st : Stage). Knows first workers r.busy r.made r.log s.homes v st) free (r.each id v at) in
      let idle : r.busy ≡ 0 = dite (ℕ_discrete r.busy 0) (λ z. z) (λ no.
      let k = r.held no in
      let away : k.0 ≢ id = λ same. true≢false (sym k.3 ∙ (ap (λ (z : V). in_hold z.stage) (some-injective k.1 v (sym k.2 ∙ (ap (get_elem? s.views) same ∙ at))) ∙ ap in_hold free)) in
      let f = fits_of first workers r.busy r.made r.log s.homes k.1 k.1.stage (r.each k.0 k.1 k.2) (unspent_in_hold k.1.stage k.3) in
      let g : 1 ≤ k.1.gathered = f.one in
      let two : (v.spare + v.gathered) + (k.1.spare + k.1.gathered) ≤ total parts_of s.views = total_two parts_of s.views id k.0 v k.1 at k.2 away in
      let p : total parts_of s.views ≡ workers = r.parts in
      absurd (omega arith)) in
      let home = r.free idle in (
        home.0,
        one_item xs (Some home.0) one (h.4 0 (Some home.0) (ap (λ (l : List (maybe.Option (Option T))). get_elem? l 0) home.1)),
        home.2,
        subst (λ (l : List ℕ). Begins l v.seen) (sym home.3) mine.seen,
        ap (entries_of v.number) home.3 ∙ sym mine.own,
      )

  -- a look at word 0 tells a seat that its counts are within the number of workers
  pub looks : (slots id : ℕ) (me : M) → me.0.stage ≡ Free → Allows Rule slots id me 0 (λ x. x) (looked (step slots 0 0 0 none) me)
  looks slots id me free s r len at small =
      let mine : Fits first workers r.made r.log me.0 = subst (λ (st : Stage). Knows first workers r.busy r.made r.log s.homes me.0 st) free (r.each id me.0 at) in
      let one : me.0.spare + me.0.gathered ≤ total parts_of s.views = total_one parts_of s.views id me.0 at in
      let p : total parts_of s.views ≡ workers = r.parts in
      let c : me.0.workers ≡ workers = mine.crew in
      (me.0, keeps, tt, unmoved s r 0 id me at, (refl, omega arith))

  -- what is found in the slot of a lock that is closed
  abbrev pub IsClosed : V → Option T → Type 0
  IsClosed v None = ⊥
  IsClosed v (Some x) = (base x ≡ base first) × Begins (told x) v.seen × (entries_of v.number (told x) ≡ v.own)

  pub closed : (id : ℕ) (v : V) (ws : List ℕ) (xs : List (Option T)) (o : Option T) → Final (Seen Rule id v) ws xs → v.stage ≡ Free → v.spare + v.gathered ≡ workers → length xs ≡ 1 → get_elem? xs 0 ≡ some o → IsClosed v o
  closed id v ws xs o h free whole one at =
      let k = closes id v ws xs h free whole one in
      let same : Some k.0 ≡ o = some-injective (Some k.0) o (sym (ap (λ (l : List (Option T)). get_elem? l 0) k.1) ∙ at) in
      subst (IsClosed v) same (k.2, k.3, k.4)
