-- A hardware page, as a process.
use Rattle.std.proofs.Common.{◌≡◌, ℕ, zero, suc, List, [], ◌∷◌, ◌++◌, refl, sym, ap, ◌∙◌, subst, append_assoc, append-nil, inl, inr}
use Rattle.std.proofs.Math.Path.{fun_ext}
use Rattle.std.specs.Prelude.{if◌then◌else◌}
use Rattle.std.proofs.lemmas.Bool.{eq-eqb, ne_eqb}
use Rattle.std.proofs.lemmas.Bool.Decides.{eqb_tells}
use Rattle.pld_base.specs.Lists.{with, port}
use Rattle.pld_base.specs.Pages.{Standing, Going, Ended as HasEnded, Trapped as HasTrapped, Waits}
use Rattle.pld_base.specs.Process.{TraceEnd, Returned, Starved, Cut, Trace, Inputs}
use Rattle.pld_base.specs.Machine.{rest_of, past_first, goes_on_after, fed, standing as stops_at, moved as goes_on, run}
use Rattle.pld_base.specs.declared.event.Event.{Event}
use Rattle.pld_base.specs.declared.event.Event.TheVariants.{Read, Write}
use Rattle.fsm_core.specs.Machine.{Machine, Step, Went, AtRead, AtWrite, Ended, Code, hard_step, resumed}
use Rattle.fsm_core.specs.Page.{Page, take_word, move, moved, standing, standing_at, stands}
use Rattle.fsm_core.specs.Process.{move_of, hard_next}
use Rattle.fsm_back.proofs.Moves.{moves, moves_stay}

abbrev pub on : Machine → Inputs → List Event → Page
on m left events = record { machine = m; left = left; events = events }

-- the end of a trace where a page stands so
abbrev pub end_of : Standing → TraceEnd
end_of Going = Cut
end_of HasEnded = Returned
end_of HasTrapped = Returned
end_of (Waits p) = Starved p

-- the words that are left once the first at a port was read
left_past : (p w : ℕ) (ws : List ℕ) (left : Inputs) → left p ≡ w ∷ ws → with left p ws ≡ past_first p left
left_past p w ws left e = fun_ext here
  where
    here : (q : ℕ) → with left p ws q ≡ past_first p left q
    here q = elim (eqb_tells q p) as (λ _. with left p ws q ≡ past_first p left q) [
      | inl h ↦ ap (λ b. if b then ws else left q) h.0 ∙ sym (ap rest_of (ap left h.1 ∙ e)) ∙ sym (ap (λ b. if b then rest_of (left q) else left q) (eq-eqb p q (sym h.1)))
      | inr h ↦ ap (λ b. if b then ws else left q) h.0 ∙ sym (ap (λ b. if b then rest_of (left q) else left q) (ne_eqb p q (λ same. h.1 (sym same))))
    ]

module _ (code : Code) (lengths : List ℕ) where
  abbrev after : ℕ → Page → Page
  after n s = moves (move code lengths) n s

  -- a page has these events more than before, and stands where their trace ends
  pub record ToldBy (s : Page) (before : List Event) (t : Trace) : Type 0 where
    pub events : s.events ≡ before ++ t.events
    pub end : end_of (standing code lengths s) ≡ t.end

  stays_told : (n : ℕ) (s : Page) (before : List Event) (t : Trace) → move code lengths s ≡ s → ToldBy s before t → ToldBy (after n s) before t
  stays_told n s before t e told = subst (λ x. ToldBy x before t) (sym (moves_stay (move code lengths) s e n)) told

  -- with no move left
  stop_told : (s : Step) (m : Machine) (left : Inputs) (events : List Event) → hard_step code lengths m ≡ s → ToldBy (on m left events) events (stops_at (move_of code lengths s m) left)
  stop_told (Went n) m left events e = record { events = sym (append-nil events); end = ap (λ x. end_of (stands x (on m left events))) e }
  stop_told (AtRead p) m left events e = at_list (left p) refl
    where
      at_list : (ws : List ℕ) → left p ≡ ws → ToldBy (on m left events) events (fed p ws (λ w. record { events = []; end = Cut }))
      at_list [] l = record { events = sym (append-nil events); end = ap (λ x. end_of (stands x (on m left events))) e ∙ ap (λ x. end_of (standing_at p x)) l }
      at_list (w ∷ ws) l = record { events = sym (append-nil events); end = ap (λ x. end_of (stands x (on m left events))) e ∙ ap (λ x. end_of (standing_at p x)) l }
  stop_told (AtWrite p w) m left events e = record { events = sym (append-nil events); end = ap (λ x. end_of (stands x (on m left events))) e }
  stop_told Ended m left events e = record { events = sym (append-nil events); end = ap (λ x. end_of (stands x (on m left events))) e }

  -- an event, and what follows it
  event_told : (s : Page) (before : List Event) (x : Event) (t : Trace) → ToldBy s (before ++ x ∷ []) t → ToldBy s before (goes_on_after x t)
  event_told s before x t told = record { events = told.events ∙ append_assoc before (x ∷ []) t.events; end = told.end }

  -- the words to read, told in another way
  words_told : (n : ℕ) (m : Machine) (left same : Inputs) (events : List Event) → left ≡ same → ToldBy (after n (on m left events)) events (run (hard_next code lengths) n m left)
      → ToldBy (after n (on m left events)) events (run (hard_next code lengths) n m same)
  words_told n m left same events e told = subst (λ x. ToldBy (after n (on m left events)) events (run (hard_next code lengths) n m x)) e told

  -- with one move and what follows it
  move_told : (n : ℕ) (s : Step) (m : Machine) (left : Inputs) (events : List Event) → hard_step code lengths m ≡ s → ((m1 : Machine) (left1 : Inputs) (events1 : List Event) → ToldBy (after n (on m1 left1 events1)) events1 (run (hard_next code lengths) n m1 left1)) → ToldBy (after n (moved code lengths s (on m left events))) events (goes_on (move_of code lengths s m) left (run (hard_next code lengths) n))
  move_told n (Went m1) m left events e rest = rest m1 left events
  move_told n (AtRead p) m left events e rest = at_list (left p) refl
    where
      at_list : (ws : List ℕ) → left p ≡ ws → ToldBy (after n (take_word code lengths p ws (on m left events))) events (fed p ws (λ w. goes_on_after (Read (record { 0 = p }) w) (run (hard_next code lengths) n (resumed code lengths w m) (past_first p left))))
      at_list [] l =
          stays_told n (on m left events) events _ (ap (λ x. moved code lengths x (on m left events)) e ∙ ap (λ x. take_word code lengths p x (on m left events)) l) (record { events = sym (append-nil events); end = ap (λ x. end_of (stands x (on m left events))) e ∙ ap (λ x. end_of (standing_at p x)) l })
      at_list (w ∷ ws) l =
          let word = Read (port p) w in
          event_told _ events word (run (hard_next code lengths) n (resumed code lengths w m) (past_first p left)) (words_told n (resumed code lengths w m) (with left p ws) (past_first p left) (events ++ word ∷ []) (left_past p w ws left l) (rest (resumed code lengths w m) (with left p ws) (events ++ word ∷ [])))
  move_told n (AtWrite p w) m left events e rest =
      event_told _ events (Write (port p) w) (run (hard_next code lengths) n (resumed code lengths 0 m) left) (rest (resumed code lengths 0 m) left (events ++ Write (port p) w ∷ []))
  move_told n Ended m left events e rest =
      stays_told n (on m left events) events _ (ap (λ x. moved code lengths x (on m left events)) e) (record { events = sym (append-nil events); end = ap (λ x. end_of (stands x (on m left events))) e })

  pub page_told : (n : ℕ) (m : Machine) (left : Inputs) (events : List Event) → ToldBy (after n (on m left events)) events (run (hard_next code lengths) n m left)
  page_told zero m left events = stop_told (hard_step code lengths m) m left events refl
  page_told (suc n) m left events = move_told n (hard_step code lengths m) m left events refl (page_told n)
