-- Blocks of a table, as the page makes them.
use Rattle.std.proofs.Common.{◌≡◌, ℕ, ◌+◌, ◌≤◌, List, [], ◌∷◌, ◌++◌, length, Option, Some, None, refl, sym, ap, ◌∙◌, subst, arith, false}
use Rattle.std.specs.Prelude.{if◌then◌else◌}
use Rattle.pld_base.specs.declared.event.Event.{Event}
use Rattle.pld_base.specs.declared.event.Event.TheVariants.{Read as ReadEvent, Write as WriteEvent}
use Rattle.pld_base.specs.Lists.{with, port}
use Rattle.pld_base.specs.Pages.{Standing, Going, Ended as HasEnded, Waits}
use Rattle.fsm_core.specs.declared.micro.Micro.{Micro}
use Rattle.fsm_core.specs.declared.micro.Next.{Next}
use Rattle.fsm_core.specs.declared.micro.Next.TheVariants.{Goto, Branch, End}
use Rattle.fsm_core.specs.Shapes.{Stream, Quiet, Takes, Gives, stream_in}
use Rattle.fsm_core.specs.Machine.{Stage, Ended, Code, chosen, goes_to, is_end, is_over, by_stream, step_at, hard_step, resume_at}
use Rattle.fsm_core.specs.Page.{Page, take_word, moved, move, standing_at, stands, standing, Point, Run, Goes, Held, then_run, take_run, stage_run, one, run, in_order}
use Rattle.fsm_sched.specs.Rule.{placed_all, some_states, scheduled}
use Rattle.fsm_sched.proofs.States.{then_goes, scheduled_runs}
use Rattle.fsm_ir.specs.Blocks.{Piece, piece}
use Rattle.fsm_back.specs.Table.{stage, chain, chained, next_in}
use Rattle.fsm_back.proofs.Moves.{moves, moves-add}

-- these states stand in the table at this place
abbrev pub HasStages : Code → ℕ → List Stage → Type 0
HasStages code i [] = Unit {0}
HasStages code i (s ∷ ss) = (code i ≡ Some s) × HasStages code (i + 1) ss

pub stages_front : (code : Code) (i : ℕ) (a b : List Stage) → HasStages code i (a ++ b) → HasStages code i a
stages_front code i [] b h = tt
stages_front code i (s ∷ a) b h = (h.0, stages_front code (i + 1) a b h.1)

pub stages_back : (code : Code) (i : ℕ) (a b : List Stage) → HasStages code i (a ++ b) → HasStages code (i + length a) b
stages_back code i [] b h = let e : i ≡ i + 0 = omega arith in subst (λ n. HasStages code n b) e h
stages_back code i (s ∷ a) b h =
    let e : i + 1 + length a ≡ i + length (s ∷ a) = omega arith in
    subst (λ n. HasStages code n b) e (stages_back code (i + 1) a b h.1)

-- the page at a place, with these cells, words to read and events
abbrev pub at_place : Option ℕ → Point → Page
at_place i x = record { machine = record { at = i; cells = x.cells }; left = x.left; events = x.events }

-- the page after a state
abbrev pub lands : ℕ → Point → Next → Run → Page
lands i x nx (Goes y) = at_place (goes_to nx y.cells) y
lands i x nx (Held p events) = at_place (Some i) x

abbrev pub stands_by : Run → Standing
stands_by (Goes y) = Going
stands_by (Held p events) = Waits p

events_if_held : Run → Point → List Event
events_if_held (Goes y) x = x.events
events_if_held (Held p events) x = events

pub goes_same : (x y : Point) → Goes x ≡ Goes y → x ≡ y
goes_same x y h = cc h

pub held_events : (l : List ℕ) (ms : List Micro) (x : Point) (p : ℕ) (events : List Event) → one l ms x ≡ Held p events → x.events ≡ events
held_events l ms x p events h = by (stream_in ms) h
  where
    by : (a : Stream) → stage_run l a ms x ≡ Held p events → x.events ≡ events
    by Quiet h = cc h
    by (Takes q) h = by_list (x.left q) h
      where
        by_list : (ws : List ℕ) → take_run l q ws ms x ≡ Held p events → x.events ≡ events
        by_list [] h = cc h
        by_list (w ∷ ws) h = cc h
    by (Gives q a) h = cc h

module _ (code : Code) (l : List ℕ) where
  abbrev go : Page → Page
  go = move code l

  step_is : (i : ℕ) (s : Stage) (x : Point) → code i ≡ Some s → is_over s.micros s.next ≡ false → hard_step code l (record { at = Some i; cells = x.cells }) ≡ by_stream (stream_in s.micros) l s x.cells
  step_is i s x has onward = ap (λ o. step_at l o x.cells) has ∙ ap (λ b. if b then Ended else by_stream (stream_in s.micros) l s x.cells) onward

  moved_by : (i : ℕ) (s : Stage) (x : Point) (a : Stream) → code i ≡ Some s → moved code l (by_stream a l s x.cells) (at_place (Some i) x) ≡ lands i x s.next (stage_run l a s.micros x)
  moved_by i s x Quiet has = refl
  moved_by i s x (Takes p) has = by_list (x.left p)
    where
      by_list : (ws : List ℕ) → take_word code l p ws (at_place (Some i) x) ≡ lands i x s.next (take_run l p ws s.micros x)
      by_list [] = refl
      by_list (w ∷ ws) = ap (λ o. record { machine = resume_at l w o (record { at = Some i; cells = x.cells }); left = with x.left p ws; events = x.events ++ ReadEvent (port p) w ∷ [] }) has
  moved_by i s x (Gives p a) has = ap (λ o. record { machine = resume_at l 0 o (record { at = Some i; cells = x.cells }); left = x.left; events = x.events ++ WriteEvent (port p) (x.cells.regs a) ∷ [] }) has

  -- one move makes one state
  pub stage_moves : (i : ℕ) (s : Stage) (x : Point) → code i ≡ Some s → is_over s.micros s.next ≡ false → go (at_place (Some i) x) ≡ lands i x s.next (one l s.micros x)
  stage_moves i s x has onward = ap (λ t. moved code l t (at_place (Some i) x)) (step_is i s x has onward) ∙ moved_by i s x (stream_in s.micros) has

  stands_at : (i : ℕ) (s : Stage) (x : Point) (a : Stream) → stands (by_stream a l s x.cells) (at_place (Some i) x) ≡ stands_by (stage_run l a s.micros x)
  stands_at i s x Quiet = refl
  stands_at i s x (Takes p) = by_list (x.left p)
    where
      by_list : (ws : List ℕ) → standing_at p ws ≡ stands_by (take_run l p ws s.micros x)
      by_list [] = refl
      by_list (w ∷ ws) = refl
  stands_at i s x (Gives p a) = refl

  pub stage_stands : (i : ℕ) (s : Stage) (x : Point) → code i ≡ Some s → is_over s.micros s.next ≡ false → standing code l (at_place (Some i) x) ≡ stands_by (one l s.micros x)
  stage_stands i s x has onward = ap (λ t. stands t (at_place (Some i) x)) (step_is i s x has onward) ∙ stands_at i s x (stream_in s.micros)

  pub moves_on : (j k : ℕ) (a b c : Page) → moves go j a ≡ b → moves go k b ≡ c → moves go (j + k) a ≡ c
  moves_on j k a b c e f = moves-add go j k a ∙ ap (moves go k) e ∙ f

  open_next : (s : List Micro) (nx : Next) → is_end nx ≡ false → is_over s nx ≡ false
  open_next [] nx h = h
  open_next (m ∷ s) nx h = refl

  open_held : (s : List Micro) (nx : Next) (x : Point) (p : ℕ) (events : List Event) → one l s x ≡ Held p events → is_over s nx ≡ false
  open_held [] nx x p events h = cc h
  open_held (m ∷ s) nx x p events h = refl

  -- ---- a chain of states

  -- the page is held at a port, after these events
  pub record IsHeld (s : Page) (p : ℕ) (events : List Event) : Type 0 where
    pub steps : ℕ
    pub to : Page
    pub by : moves go steps s ≡ to
    pub has : to.events ≡ events
    pub stands : standing code l to ≡ Waits p

  pub record HasStopped (s : Page) (events : List Event) : Type 0 where
    pub steps : ℕ
    pub to : Page
    pub by : moves go steps s ≡ to
    pub has : to.events ≡ events
    pub stands : standing code l to ≡ HasEnded

  pub chain_goes : (i : ℕ) (s : List Micro) (ss : List (List Micro)) (nx : Next) (x y : Point) → HasStages code i (chain i s ss nx) → is_end nx ≡ false → run l (s ∷ ss) x ≡ Goes y → moves go (length (s ∷ ss)) (at_place (Some i) x) ≡ at_place (goes_to nx y.cells) y
  chain_goes i s [] nx x y has onward h =
      stage_moves i (stage s nx) x has.0 (open_next s nx onward) ∙ ap (lands i x nx) (sym (then_goes (one l s x)) ∙ h)
  chain_goes i s (s' ∷ ss) nx x y has onward h = by (one l s x) refl h (λ z k. chain_goes (i + 1) s' ss nx z y has.1 onward k)
    where
      by : (o : Run) → one l s x ≡ o → then_run o (run l (s' ∷ ss)) ≡ Goes y → ((z : Point) → run l (s' ∷ ss) z ≡ Goes y → moves go (length (s' ∷ ss)) (at_place (Some (i + 1)) z) ≡ at_place (goes_to nx y.cells) y) → moves go (length (s ∷ s' ∷ ss)) (at_place (Some i) x) ≡ at_place (goes_to nx y.cells) y
      by (Goes z) e h rest = ap (moves go (length (s' ∷ ss))) (stage_moves i (stage s (Goto (i + 1))) x has.0 (open_next s (Goto (i + 1)) refl) ∙ ap (lands i x (Goto (i + 1))) e) ∙ rest z h
      by (Held p events) e h rest = cc h

  pub chain_held : (i : ℕ) (s : List Micro) (ss : List (List Micro)) (nx : Next) (x : Point) (p : ℕ) (events : List Event) → HasStages code i (chain i s ss nx) → run l (s ∷ ss) x ≡ Held p events → IsHeld (at_place (Some i) x) p events
  chain_held i s [] nx x p events has h =
      let e : one l s x ≡ Held p events = sym (then_goes (one l s x)) ∙ h in
      record {
        steps = 0;
        to = at_place (Some i) x;
        by = refl;
        has = held_events l s x p events e;
        stands = stage_stands i (stage s nx) x has.0 (open_held s nx x p events e) ∙ ap stands_by e;
      }
  chain_held i s (s' ∷ ss) nx x p events has h = by (one l s x) refl h (λ z k. chain_held (i + 1) s' ss nx z p events has.1 k)
    where
      by : (o : Run) → one l s x ≡ o → then_run o (run l (s' ∷ ss)) ≡ Held p events → ((z : Point) → run l (s' ∷ ss) z ≡ Held p events → IsHeld (at_place (Some (i + 1)) z) p events) → IsHeld (at_place (Some i) x) p events
      by (Goes z) e h rest =
          let r = rest z h in
          record {
            steps = 1 + r.steps;
            to = r.to;
            by = moves_on 1 r.steps (at_place (Some i) x) (at_place (Some (i + 1)) z) r.to (stage_moves i (stage s (Goto (i + 1))) x has.0 (open_next s (Goto (i + 1)) refl) ∙ ap (lands i x (Goto (i + 1))) e) r.by;
            has = r.has;
            stands = r.stands;
          }
      by (Held q es) e h rest =
          let f : one l s x ≡ Held p events = e ∙ h in
          record {
            steps = 0;
            to = at_place (Some i) x;
            by = refl;
            has = held_events l s x p events f;
            stands = stage_stands i (stage s (Goto (i + 1))) x has.0 (open_next s (Goto (i + 1)) refl) ∙ ap stands_by f;
          }

  pub chain_stops : (i : ℕ) (s : List Micro) (ss : List (List Micro)) (x y : Point) → HasStages code i (chain i s ss End) → run l (s ∷ ss) x ≡ Goes y → HasStopped (at_place (Some i) x) y.events
  chain_stops i [] [] x y has h = record {
    steps = 0;
    to = at_place (Some i) x;
    by = refl;
    has = ap (λ p. p.events) (goes_same x y h);
    stands = ap (λ o. stands (step_at l o x.cells) (at_place (Some i) x)) has.0;
  }
  chain_stops i (m ∷ s) [] x y has h = record {
    steps = 1;
    to = at_place None y;
    by = stage_moves i (stage (m ∷ s) End) x has.0 refl ∙ ap (lands i x End) (sym (then_goes (one l (m ∷ s) x)) ∙ h);
    has = refl;
    stands = refl;
  }
  chain_stops i s (s' ∷ ss) x y has h = by (one l s x) refl h (λ z k. chain_stops (i + 1) s' ss z y has.1 k)
    where
      by : (o : Run) → one l s x ≡ o → then_run o (run l (s' ∷ ss)) ≡ Goes y → ((z : Point) → run l (s' ∷ ss) z ≡ Goes y → HasStopped (at_place (Some (i + 1)) z) y.events) → HasStopped (at_place (Some i) x) y.events
      by (Goes z) e h rest =
          let r = rest z h in
          record {
            steps = 1 + r.steps;
            to = r.to;
            by = moves_on 1 r.steps (at_place (Some i) x) (at_place (Some (i + 1)) z) r.to (stage_moves i (stage s (Goto (i + 1))) x has.0 (open_next s (Goto (i + 1)) refl) ∙ ap (lands i x (Goto (i + 1))) e) r.by;
            has = r.has;
            stands = r.stands;
          }
      by (Held q es) e h rest = cc h

  -- a chain that goes on is going at its first state
  pub chain_going : (i : ℕ) (s : List Micro) (ss : List (List Micro)) (nx : Next) (x y : Point) → HasStages code i (chain i s ss nx) → is_end nx ≡ false → run l (s ∷ ss) x ≡ Goes y → standing code l (at_place (Some i) x) ≡ Going
  chain_going i s [] nx x y has onward h = stage_stands i (stage s nx) x has.0 (open_next s nx onward) ∙ ap stands_by (sym (then_goes (one l s x)) ∙ h)
  chain_going i s (s' ∷ ss) nx x y has onward h = stage_stands i (stage s (Goto (i + 1))) x has.0 (open_next s (Goto (i + 1)) refl) ∙ by (one l s x) h
    where
      by : (o : Run) → then_run o (run l (s' ∷ ss)) ≡ Goes y → stands_by o ≡ Going
      by (Goes z) h = refl
      by (Held q es) h = cc h

  -- ---- a block

  module _ (first : ℕ → ℕ) where
    abbrev pub HasPiece : ℕ → Piece → Type 0
    HasPiece k b = HasStages code (first k) (chained (first k) (scheduled b.micros) (next_in first b.next))

    abbrev pub HasPieces : ℕ → List Piece → Type 0
    HasPieces k [] = Unit {0}
    HasPieces k (b ∷ bs) = HasPiece k b × HasPieces (k + 1) bs

    pub pieces_front : (k : ℕ) (a b : List Piece) → HasPieces k (a ++ b) → HasPieces k a
    pieces_front k [] b h = tt
    pieces_front k (s ∷ a) b h = (h.0, pieces_front (k + 1) a b h.1)

    pub pieces_back : (k : ℕ) (a b : List Piece) → HasPieces k (a ++ b) → HasPieces (k + length a) b
    pieces_back k [] b h = let e : k ≡ k + 0 = omega arith in subst (λ n. HasPieces n b) e h
    pieces_back k (s ∷ a) b h =
        let e : k + 1 + length a ≡ k + length (s ∷ a) = omega arith in
        subst (λ n. HasPieces n b) e (pieces_back (k + 1) a b h.1)

    -- the page at the start of a block
    abbrev pub begins : ℕ → Point → Page
    begins k x = at_place (Some (first k)) x

    -- at least one move leads there
    pub record Leads (s to : Page) : Type 0 where
      pub steps : ℕ
      pub some : 1 ≤ steps
      pub by : moves go steps s ≡ to

    states_go : (i : ℕ) (ss : List (List Micro)) (nx : Next) (x y : Point) → HasStages code i (chained i (some_states ss) nx) → is_end nx ≡ false → run l (some_states ss) x ≡ Goes y → Leads (at_place (Some i) x) (at_place (goes_to nx y.cells) y)
    states_go i [] nx x y has onward h = record { steps = 1; some = omega arith; by = chain_goes i [] [] nx x y has onward h }
    states_go i (s ∷ ss) nx x y has onward h = record { steps = length (s ∷ ss); some = omega arith; by = chain_goes i s ss nx x y has onward h }

    states_held : (i : ℕ) (ss : List (List Micro)) (nx : Next) (x : Point) (p : ℕ) (events : List Event) → HasStages code i (chained i (some_states ss) nx) → run l (some_states ss) x ≡ Held p events → IsHeld (at_place (Some i) x) p events
    states_held i [] nx x p events has h = chain_held i [] [] nx x p events has h
    states_held i (s ∷ ss) nx x p events has h = chain_held i s ss nx x p events has h

    states_stop : (i : ℕ) (ss : List (List Micro)) (x y : Point) → HasStages code i (chained i (some_states ss) End) → run l (some_states ss) x ≡ Goes y → HasStopped (at_place (Some i) x) y.events
    states_stop i [] x y has h = chain_stops i [] [] x y has h
    states_stop i (s ∷ ss) x y has h = chain_stops i s ss x y has h

    states_going : (i : ℕ) (ss : List (List Micro)) (nx : Next) (x y : Point) → HasStages code i (chained i (some_states ss) nx) → is_end nx ≡ false → run l (some_states ss) x ≡ Goes y → standing code l (at_place (Some i) x) ≡ Going
    states_going i [] nx x y has onward h = chain_going i [] [] nx x y has onward h
    states_going i (s ∷ ss) nx x y has onward h = chain_going i s ss nx x y has onward h

    -- a block whose micros, in order, go on to y
    pub goto_runs : (k j : ℕ) (ms : List Micro) (x y : Point) → HasPiece k (piece ms (Goto j)) → in_order l ms x ≡ Goes y → Leads (begins k x) (begins j y)
    goto_runs k j ms x y has h = states_go (first k) (placed_all ms []) (Goto (first j)) x y has refl (scheduled_runs l ms x ∙ h)

    pub branch_runs : (k r i j : ℕ) (ms : List Micro) (x y : Point) → HasPiece k (piece ms (Branch r i j)) → in_order l ms x ≡ Goes y → Leads (begins k x) (at_place (Some (chosen (y.cells.regs r) (first i) (first j))) y)
    branch_runs k r i j ms x y has h = states_go (first k) (placed_all ms []) (Branch r (first i) (first j)) x y has refl (scheduled_runs l ms x ∙ h)

    pub branch_going : (k r i j : ℕ) (ms : List Micro) (x y : Point) → HasPiece k (piece ms (Branch r i j)) → in_order l ms x ≡ Goes y → standing code l (begins k x) ≡ Going
    branch_going k r i j ms x y has h = states_going (first k) (placed_all ms []) (Branch r (first i) (first j)) x y has refl (scheduled_runs l ms x ∙ h)

    pub end_runs : (k : ℕ) (ms : List Micro) (x y : Point) → HasPiece k (piece ms End) → in_order l ms x ≡ Goes y → HasStopped (begins k x) y.events
    end_runs k ms x y has h = states_stop (first k) (placed_all ms []) x y has (scheduled_runs l ms x ∙ h)

    pub held_runs : (k : ℕ) (ms : List Micro) (nx : Next) (x : Point) (p : ℕ) (events : List Event) → HasPiece k (piece ms nx) → in_order l ms x ≡ Held p events → IsHeld (begins k x) p events
    held_runs k ms nx x p events has h = states_held (first k) (placed_all ms []) (next_in first nx) x p events has (scheduled_runs l ms x ∙ h)
