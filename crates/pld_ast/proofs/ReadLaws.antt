-- The words that a run reads are the first words of its lists.
use Rattle.std.proofs.Common.{◌≡◌, ℕ, zero, suc, List, [], ◌∷◌, ◌++◌, refl, sym, ap, ◌∙◌, append_assoc, Bool, true, false}
use Rattle.std.specs.Prelude.{nat_eq, if◌then◌else◌}
use Rattle.std.proofs.lemmas.List.{append-nil}
use Rattle.std.proofs.lemmas.Bool.{eqb-true}
use Rattle.std.proofs.Common.{eq-eqb, arith}
use Rattle.std.proofs.lemmas.Bool.Decides.{nat_tests}
use Rattle.pld_base.specs.Lists.{with, port}
use Rattle.pld_base.specs.declared.event.Event.TheVariants.{Read as ReadEvent}
use Rattle.pld_ast.specs.Program.{Action, Skip, Then, Assign, Store, Read, ReadInto, Write, Choose, Repeat, Return}
use Rattle.pld_ast.specs.Meaning.{State, Outcome, Goes, Over, set_scalar, set_element, index_in, value_of, then_do, at_zero, take_word, turns, meaning}
use Rattle.pld_base.specs.Prefix.{IsPrefixOf}
use Rattle.pld_base.specs.Events.{words_read}
use Rattle.pld_base.specs.Process.{Inputs, Returned, Starved, Cut}
use Rattle.pld_base.proofs.Events.{words_read-append}

-- what is read and what is left are the whole list
abbrev pub Whole : Inputs → State → Type 0
Whole ins st = (p : ℕ) → words_read st.events p ++ st.left p ≡ ins p

abbrev pub Reads : Inputs → Outcome → Type 0
Reads ins (Goes st) = Whole ins st
Reads ins (Over Returned events) = (p : ℕ) → IsPrefixOf (words_read events p) (ins p)
Reads ins (Over (Starved q) events) = ((p : ℕ) → IsPrefixOf (words_read events p) (ins p)) × (words_read events q ≡ ins q)
Reads ins (Over Cut events) = (p : ℕ) → IsPrefixOf (words_read events p) (ins p)

pub first_words : (ins : Inputs) (st : State) → Whole ins st → (p : ℕ) → IsPrefixOf (words_read st.events p) (ins p)
first_words ins st h p = record { rest = st.left p; joined = h p }

module _ (ins : Inputs) where
  then_reads : (o : Outcome) (go : State → Outcome) → Reads ins o → ((st : State) → Whole ins st → Reads ins (go st)) → Reads ins (then_do o go)
  then_reads (Goes st) go h f = f st h
  then_reads (Over Returned events) go h f = h
  then_reads (Over (Starved q) events) go h f = h
  then_reads (Over Cut events) go h f = h

  zero_reads : (v : ℕ) (a b : Outcome) → Reads ins a → Reads ins b → Reads ins (at_zero v a b)
  zero_reads zero a b h k = h
  zero_reads (suc v) a b h k = k

  take_reads : (p : ℕ) (ws : List ℕ) (st : State) (go : ℕ → State → Outcome) → st.left p ≡ ws → Whole ins st → ((w : ℕ) (next : State) → Whole ins next → Reads ins (go w next)) → Reads ins (take_word p ws st go)
  take_reads p [] st go e h f =
      (first_words ins st h, sym (append-nil (words_read st.events p)) ∙ ap (λ l. words_read st.events p ++ l) (sym e) ∙ h p)
  take_reads p (w ∷ ws) st go e h f = f w next whole
    where
      next : State
      next = record st { left = with st.left p ws; events = st.events ++ ReadEvent (port p) w ∷ [] }

      elsewhere : (q : ℕ) → nat_eq q p ≡ false → nat_eq p q ≡ false
      elsewhere q t = grind (arith, nat_tests, t)

      moved : (q : ℕ) (b : Bool) → nat_eq q p ≡ b → words_read (ReadEvent (port p) w ∷ []) q ++ (if b then ws else st.left q) ≡ st.left q
      moved q true t = ap (λ b. (if b then w ∷ [] else []) ++ ws) (eq-eqb p q (sym (eqb-true q p t))) ∙ sym e ∙ ap st.left (sym (eqb-true q p t))
      moved q false t = ap (λ b. (if b then w ∷ [] else []) ++ st.left q) (elsewhere q t)

      whole : Whole ins next
      whole q =
          ap (λ l. l ++ with st.left p ws q) (words_read-append st.events (ReadEvent (port p) w ∷ []) q)
          ∙ append_assoc (words_read st.events q) (words_read (ReadEvent (port p) w ∷ []) q) (with st.left p ws q)
          ∙ ap (λ l. words_read st.events q ++ l) (moved q (nat_eq q p) refl)
          ∙ h q

  turns_reads : (test : State → ℕ) (body : State → Outcome) → ((st : State) → Whole ins st → Reads ins (body st)) → (k : ℕ) (st : State) → Whole ins st → Reads ins (turns k test body st)
  turns_reads test body f zero st h = zero_reads (test st) (Goes st) (Over Cut st.events) h (first_words ins st h)
  turns_reads test body f (suc k) st h = zero_reads (test st) (Goes st) (then_do (body st) (turns k test body)) h (then_reads (body st) (turns k test body) (f st h) (turns_reads test body f k))

  pub reads : (l : List ℕ) (a : Action) (n : ℕ) (st : State) → Whole ins st → Reads ins (meaning l a n st)
  reads l Skip n st h = h
  reads l (Then a b) n st h = then_reads (meaning l a n st) (meaning l b n) (reads l a n st h) (reads l b n)
  reads l (Assign s e) n st h = h
  reads l (Store t i e) n st h = h
  reads l (Read s p) n st h = take_reads p (st.left p) st (λ w next. Goes (set_scalar next s w)) refl h (λ w next k. k)
  reads l (ReadInto t i p) n st h = take_reads p (st.left p) st (λ w next. Goes (set_element next t (index_in l t (value_of l i st)) w)) refl h (λ w next k. k)
  reads l (Write p e) n st h = λ q. ap (λ l. l ++ st.left q) (words_read-append st.events _ q ∙ append-nil (words_read st.events q)) ∙ h q
  reads l (Choose e a b) n st h = zero_reads (value_of l e st) (meaning l b n st) (meaning l a n st) (reads l b n st h) (reads l a n st h)
  reads l (Repeat e a) n st h = turns_reads (value_of l e) (meaning l a n) (reads l a n) n st h
  reads l Return n st h = first_words ins st h
