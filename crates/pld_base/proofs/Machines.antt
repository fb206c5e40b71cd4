-- Each machine is a process with blocking reads.
use Rattle.std.proofs.Common.{◌≡◌, ℕ, zero, suc, ◌≤◌, List, [], ◌∷◌, ◌⊎◌, Bool, true, false, ◌==◌, if◌then◌else◌, refl, sym, ap, ◌∙◌, subst, inl, inr, ⊎_elim, eqb-true, arith}
use mathlib.Core.List.{head-eq_of_cons-eq, tail-eq_of_cons-eq}
use Rattle.pld_base.specs.Prefix.{IsPrefixOf}
use Rattle.pld_base.specs.Events.{words_read}
use Rattle.pld_base.specs.Process.{Starved, Cut, Trace, Inputs, IsExtendedBy, StaysOrReads, IsProcess}
use Rattle.pld_base.specs.Machine.{Move, Steps, Reads, Writes, Stops, rest_of, past_first, stays, goes_on_after, fed, standing, moved, run, machine}
use Rattle.pld_base.proofs.Prefixes.{prefix_nil, prefix_more, prefix_of_eq, prefix_trans}
use Rattle.pld_base.specs.declared.event.Event.{Event}
use Rattle.pld_base.specs.declared.event.Event.TheVariants.{Read, Write}

-- one trace is the other, or the first was cut before it
abbrev IsLater : Trace → Trace → Type 0
IsLater t u = (u ≡ t) ⊎ ((t.end ≡ Cut) × IsPrefixOf t.events u.events)

-- one trace is the other, or the first starved before it
abbrev IsFuller : Trace → Trace → Type 0
IsFuller t u = (u ≡ t) ⊎ ((p : ℕ) × (t.end ≡ Starved p) × StaysOrReads t.events p u.events)

prefix_cons : {A : Type 0} (x : A) {xs ys : List A} → IsPrefixOf xs ys → IsPrefixOf (x ∷ xs) (x ∷ ys)
prefix_cons x p = record { rest = p.rest; joined = ap (λ l. x ∷ l) p.joined }

later_after : (e : Event) (t u : Trace) → IsLater t u → IsLater (goes_on_after e t) (goes_on_after e u)
later_after e t u r = ⊎_elim (λ same. inl (ap (goes_on_after e) same)) (λ cut. inr (cut.0, prefix_cons e cut.1)) r

stays_after : (e : Event) (es fs : List Event) (p : ℕ) → StaysOrReads es p fs → StaysOrReads (e ∷ es) p (e ∷ fs)
stays_after e es fs p r = ⊎_elim (λ same. inl (ap (λ l. e ∷ l) same)) (λ next. inr (next.0, prefix_cons e next.1)) r

fuller_after : (e : Event) (t u : Trace) → IsFuller t u → IsFuller (goes_on_after e t) (goes_on_after e u)
fuller_after e t u r =
    ⊎_elim (λ same. inl (ap (goes_on_after e) same)) (λ s. inr (s.0, s.1, stays_after e t.events u.events s.0 s.2)) r

rest_grows : (xs ys : List ℕ) → IsPrefixOf xs ys → IsPrefixOf (rest_of xs) (rest_of ys)
rest_grows [] ys p = prefix_nil _
rest_grows (x ∷ xs) [] p = let e = p.joined in absurd (let no : ⊥ = cc in no)
rest_grows (x ∷ xs) (y ∷ ys) p = record { rest = p.rest; joined = tail-eq_of_cons-eq p.joined }

past_first_grows : (port : ℕ) (ins more : Inputs) → IsExtendedBy ins more → IsExtendedBy (past_first port ins) (past_first port more)
past_first_grows port ins more h q = go (port == q)
  where
    go : (t : Bool) → IsPrefixOf (if t then rest_of (ins q) else ins q) (if t then rest_of (more q) else more q)
    go true = rest_grows (ins q) (more q) (h q)
    go false = h q

fed_later : (p : ℕ) (xs : List ℕ) (f g : ℕ → Trace) → ((w : ℕ) → IsLater (f w) (g w)) → IsLater (fed p xs f) (fed p xs g)
fed_later p [] f g h = inl refl
fed_later p (x ∷ xs) f g h = h x

module _ {S : Type 0} where
  later_first : (o : Move S) (ins : Inputs) (go : S → Inputs → Trace) → IsLater (standing o ins) (moved o ins go)
  later_first (Steps s) ins go = inr (refl, prefix_nil _)
  later_first (Reads p after) ins go = fed_later p (ins p) _ _ (λ w. inr (refl, prefix_nil _))
  later_first (Writes p w s) ins go = inr (refl, prefix_nil _)
  later_first Stops ins go = inl refl

  later_step : (o : Move S) (ins : Inputs) (f g : S → Inputs → Trace) → ((s : S) (ins : Inputs) → IsLater (f s ins) (g s ins)) → IsLater (moved o ins f) (moved o ins g)
  later_step (Steps s) ins f g h = h s ins
  later_step (Reads p after) ins f g h =
      fed_later p (ins p) _ _ (λ w. later_after (Read (record { 0 = p }) w) (f (after w) (past_first p ins)) (g (after w) (past_first p ins)) (h (after w) (past_first p ins)))
  later_step (Writes p w s) ins f g h = later_after (Write (record { 0 = p }) w) (f s ins) (g s ins) (h s ins)
  later_step Stops ins f g h = inl refl

  fuller_first : (o : Move S) (ins more : Inputs) → IsExtendedBy ins more → IsFuller (standing o ins) (standing o more)
  fuller_first (Steps s) ins more h = inl refl
  fuller_first (Reads p after) ins more h = go (ins p) (more p) (h p)
    where
      go : (xs ys : List ℕ) → IsPrefixOf xs ys → IsFuller (fed p xs (λ w. stays Cut)) (fed p ys (λ w. stays Cut))
      go [] [] q = inl refl
      go [] (y ∷ ys) q = inr (p, refl, inl refl)
      go (x ∷ xs) [] q = let e = q.joined in absurd (let no : ⊥ = cc in no)
      go (x ∷ xs) (y ∷ ys) q = inl refl
  fuller_first (Writes p w s) ins more h = inl refl
  fuller_first Stops ins more h = inl refl

  fuller_step : (o : Move S) (ins more : Inputs) (f : S → Inputs → Trace) → IsExtendedBy ins more → ((s : S) (ins more : Inputs) → IsExtendedBy ins more → IsFuller (f s ins) (f s more)) → IsFuller (moved o ins f) (moved o more f)
  fuller_step (Steps s) ins more f x h = h s ins more x
  fuller_step (Reads p after) ins more f grown h = go (ins p) (more p) (grown p)
    where
      less : ℕ → Trace
      less w = goes_on_after (Read (record { 0 = p }) w) (f (after w) (past_first p ins))

      full : ℕ → Trace
      full w = goes_on_after (Read (record { 0 = p }) w) (f (after w) (past_first p more))

      go : (xs ys : List ℕ) → IsPrefixOf xs ys → IsFuller (fed p xs less) (fed p ys full)
      go [] [] q = inl refl
      go [] (y ∷ ys) q = inr (p, refl, inr (y, record { rest = (f (after y) (past_first p more)).events; joined = refl }))
      go (x ∷ xs) [] q = let e = q.joined in absurd (let no : ⊥ = cc in no)
      go (x ∷ xs) (y ∷ ys) q =
          subst (λ y. IsFuller (less x) (full y)) (head-eq_of_cons-eq q.joined) (fuller_after (Read (record { 0 = p }) x) (f (after x) (past_first p ins)) (f (after x) (past_first p more)) (h (after x) (past_first p ins) (past_first p more) (past_first_grows p ins more grown)))
  fuller_step (Writes p w s) ins more f x h = fuller_after (Write (record { 0 = p }) w) (f s ins) (f s more) (h s ins more x)
  fuller_step Stops ins more f x h = inl refl

  order_step : (o : Move S) (ins : Inputs) (f : S → Inputs → Trace) → ((s : S) (ins : Inputs) (q : ℕ) → IsPrefixOf (words_read (f s ins).events q) (ins q)) → (q : ℕ) → IsPrefixOf (words_read (moved o ins f).events q) (ins q)
  order_step (Steps s) ins f h q = h s ins q
  order_step (Reads p after) ins f h q = go (ins p) refl
    where
      one : (w : ℕ) (ws es : List ℕ) (t : Bool) → ins p ≡ w ∷ ws → (p == q) ≡ t → IsPrefixOf es (if t then rest_of (ins q) else ins q) → IsPrefixOf (if t then w ∷ es else es) (ins q)
      one w ws es false e is r = r
      one w ws es true e is r =
          let here : ins q ≡ w ∷ ws = ap ins (sym (eqb-true p q is)) ∙ e in
          prefix_trans (prefix_cons w (subst (λ l. IsPrefixOf es (rest_of l)) here r)) (prefix_of_eq (sym here))

      go : (xs : List ℕ) → ins p ≡ xs → IsPrefixOf (words_read (fed p xs (λ w. goes_on_after (Read (record { 0 = p }) w) (f (after w) (past_first p ins)))).events q) (ins q)
      go [] e = prefix_nil _
      go (w ∷ ws) e = one w ws (words_read (f (after w) (past_first p ins)).events q) (p == q) e refl (h (after w) (past_first p ins) q)
  order_step (Writes p w s) ins f h q = h s ins q
  order_step Stops ins f h q = prefix_nil _

  all_step : (o : Move S) (ins : Inputs) (f : S → Inputs → Trace) → ((s : S) (ins : Inputs) (q : ℕ) → (f s ins).end ≡ Starved q → words_read (f s ins).events q ≡ ins q) → (q : ℕ) → (moved o ins f).end ≡ Starved q → words_read (moved o ins f).events q ≡ ins q
  all_step (Steps s) ins f h q is = h s ins q is
  all_step (Reads p after) ins f h q is = go (ins p) refl is
    where
      one : (w : ℕ) (ws es : List ℕ) (t : Bool) → ins p ≡ w ∷ ws → (p == q) ≡ t → es ≡ (if t then rest_of (ins q) else ins q) → (if t then w ∷ es else es) ≡ ins q
      one w ws es false e is r = r
      one w ws es true e is r =
          let here : ins q ≡ w ∷ ws = ap ins (sym (eqb-true p q is)) ∙ e in
          ap (λ l. w ∷ l) (r ∙ ap rest_of here) ∙ sym here

      go : (xs : List ℕ) → ins p ≡ xs → (fed p xs (λ w. goes_on_after (Read (record { 0 = p }) w) (f (after w) (past_first p ins)))).end ≡ Starved q → words_read (fed p xs (λ w. goes_on_after (Read (record { 0 = p }) w) (f (after w) (past_first p ins)))).events q ≡ ins q
      go [] e is = let same : p ≡ q = cc in sym e ∙ ap ins same
      go (w ∷ ws) e is = one w ws (words_read (f (after w) (past_first p ins)).events q) (p == q) e refl (h (after w) (past_first p ins) q is)
  all_step (Writes p w s) ins f h q is = h s ins q is
  all_step Stops ins f h q is = absurd (let no : ⊥ = cc in no)

  all_first : (o : Move S) (ins : Inputs) (q : ℕ) → (standing o ins).end ≡ Starved q → words_read (standing o ins).events q ≡ ins q
  all_first (Steps s) ins q is = absurd (let no : ⊥ = cc in no)
  all_first (Reads p after) ins q is = go (ins p) refl is
    where
      go : (xs : List ℕ) → ins p ≡ xs → (fed p xs (λ w. stays Cut)).end ≡ Starved q → words_read (fed p xs (λ w. stays Cut)).events q ≡ ins q
      go [] e is = let same : p ≡ q = cc in sym e ∙ ap ins same
      go (w ∷ ws) e is = absurd (let no : ⊥ = cc in no)
  all_first (Writes p w s) ins q is = absurd (let no : ⊥ = cc in no)
  all_first Stops ins q is = absurd (let no : ⊥ = cc in no)

  order_first : (o : Move S) (ins : Inputs) (q : ℕ) → IsPrefixOf (words_read (standing o ins).events q) (ins q)
  order_first (Steps s) ins q = prefix_nil _
  order_first (Reads p after) ins q = go (ins p)
    where
      go : (xs : List ℕ) → IsPrefixOf (words_read (fed p xs (λ w. stays Cut)).events q) (ins q)
      go [] = prefix_nil _
      go (w ∷ ws) = prefix_nil _
  order_first (Writes p w s) ins q = prefix_nil _
  order_first Stops ins q = prefix_nil _

module _ {S : Type 0} (next : S → Move S) where
  later : (m n : ℕ) → m ≤ n → (s : S) (ins : Inputs) → IsLater (run next m s ins) (run next n s ins)
  later zero zero le s ins = inl refl
  later zero (suc n) le s ins = later_first (next s) ins (run next n)
  later (suc m) zero le s ins = absurd (let no : ⊥ = omega arith in no)
  later (suc m) (suc n) le s ins = later_step (next s) ins (run next m) (run next n) (later m n (omega arith))

  fuller : (n : ℕ) (s : S) (ins more : Inputs) → IsExtendedBy ins more → IsFuller (run next n s ins) (run next n s more)
  fuller zero s ins more x = fuller_first (next s) ins more x
  fuller (suc n) s ins more x = fuller_step (next s) ins more (run next n) x (fuller n)

  order : (n : ℕ) (s : S) (ins : Inputs) (q : ℕ) → IsPrefixOf (words_read (run next n s ins).events q) (ins q)
  order zero s ins q = order_first (next s) ins q
  order (suc n) s ins q = order_step (next s) ins (run next n) (order n) q

  all : (n : ℕ) (s : S) (ins : Inputs) (q : ℕ) → (run next n s ins).end ≡ Starved q → words_read (run next n s ins).events q ≡ ins q
  all zero s ins q is = all_first (next s) ins q is
  all (suc n) s ins q is = all_step (next s) ins (run next n) (all n) q is

  from_stays : (es fs : List Event) (p : ℕ) → StaysOrReads es p fs → IsPrefixOf es fs
  from_stays es fs p r = ⊎_elim (λ same. prefix_of_eq (sym same)) (λ n. prefix_trans (prefix_more es _) n.1) r

  pub machine_laws : (s : S) → IsProcess (machine next s)
  machine_laws s =
      record {
        more_turns = λ ins m n le. ⊎_elim (λ same. prefix_of_eq (ap (λ t. t.events) (sym same))) (λ cut. cut.1) (later m n le s ins);
        uncut = λ ins m n le uncut. ⊎_elim (λ same. same) (λ cut. absurd (uncut cut.0)) (later m n le s ins);
        more_words = λ ins more n x. ⊎_elim (λ same. prefix_of_eq (ap (λ t. t.events) (sym same))) (λ r. from_stays _ _ r.0 r.2) (fuller n s ins more x);
        unstarved = λ ins more n x fed. ⊎_elim (λ same. same) (λ r. absurd (fed r.0 r.1)) (fuller n s ins more x);
        reads_in_order = λ ins n q. order n s ins q;
        reads_all = λ ins n q is. all n s ins q is;
        waits = λ ins more m n p x le is. waiting ins more m n p x le is;
      }
    where
      waiting : (ins more : Inputs) (m n p : ℕ) → IsExtendedBy ins more → m ≤ n → (run next m s ins).end ≡ Starved p → StaysOrReads (run next m s ins).events p (run next n s more).events
      waiting ins more m n p x le is =
          let same : run next n s ins ≡ run next m s ins = ⊎_elim (λ e. e) (λ cut. let e : Cut ≡ Starved p = sym cut.0 ∙ is in cc) (later m n le s ins) in
          let now : IsFuller (run next m s ins) (run next n s more) = subst (λ t. IsFuller t (run next n s more)) same (fuller n s ins more x) in
          ⊎_elim (λ e. inl (ap (λ t. t.events) e)) (λ r. let at : r.0 ≡ p = (let e : Starved r.0 ≡ Starved p = sym r.1 ∙ is in cc) in subst (λ q. StaysOrReads (run next m s ins).events q (run next n s more).events) at r.2) now
