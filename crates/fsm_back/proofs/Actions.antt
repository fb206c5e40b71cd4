-- A program's blocks do what the program does.
use Rattle.std.proofs.Common.{◌≡◌, ℕ, zero, suc, ◌+◌, ◌<◌, ◌≤◌, ◌≢◌, List, [], ◌∷◌, ◌++◌, length, Some, refl, sym, ap, ◌∙◌, subst, arith, append_assoc, length-append}
use Rattle.std.specs.Prelude.{nat_eq, if◌then◌else◌}
use Rattle.std.proofs.lemmas.List.{append-nil}
use Rattle.pld_base.specs.Lists.{with, port}
use Rattle.pld_base.specs.Pages.{Standing}
use Rattle.pld_base.specs.declared.event.Event.{Event}
use Rattle.pld_base.specs.declared.event.Event.TheVariants.{Read as ReadEvent, Write as WriteEvent}
use Rattle.fsm_core.specs.declared.micro.MicroOp.TheVariants as op
use Rattle.fsm_core.specs.declared.micro.Micro.{Micro}
use Rattle.fsm_core.specs.declared.micro.Next.{Next}
use Rattle.fsm_core.specs.declared.micro.Next.TheVariants.{Goto, Branch, End as AtEnd}
use Rattle.fsm_core.specs.Shapes.{set_reg, set_word, index_at}
use Rattle.fsm_core.specs.Machine.{Code, chosen}
use Rattle.fsm_core.specs.Page.{Page, move, standing, Point, Goes as On, Held, then_run, take_run, one, in_order}
use Rattle.pld_base.specs.Process.{TraceEnd, Returned, Starved, Cut}
use Rattle.pld_ast.specs.Program.{Value, Action, Skip, Then, Assign, Store, Read, ReadInto, Write, Choose, Repeat, Return}
use Rattle.pld_ast.specs.Meaning.{State, Outcome, Goes, Over, set_scalar, set_element, index_in, value_of, then_do, at_zero, and_event, take_word, turns, meaning}
use Rattle.fsm_ir.specs.Blocks.{by_two, store_micro, read_micro, write_micro, temps_in, reg_of, value_micros, Piece, piece, Made, straight, followed, then_make, both_ways, choose_make, repeat_make, emit}
use Rattle.fsm_back.proofs.Fits.{KnownValue, KnownAction}
use Rattle.fsm_back.proofs.Moves.{moves, EndsAt}
use Rattle.fsm_back.proofs.Steps.{at_place, HasPiece, HasPieces, pieces_front, pieces_back, begins, moves_on, Leads, goto_runs, branch_runs, branch_going, end_runs, held_runs}
use Rattle.fsm_back.proofs.Values.{point, Frame, order_then, order_held, with_at, with_off, Valued, frame_valued, reg_below, value_runs}

-- ---- variables

frame_scalar : (st : State) (x : Point) (s v w : ℕ) → Frame st x → w ≡ v → Frame (set_scalar st s v) (point (set_reg x.cells s w) x.left x.events)
frame_scalar st x s v w f e = record {
  scalars = λ u k. ap (λ i. if nat_eq u s then i else x.cells.regs u) e ∙ ap (λ i. if nat_eq u s then v else i) (f.scalars u k);
  arrays = f.arrays;
  left = f.left;
  events = f.events;
}

-- a temporary is no scalar
frame_temp : (st : State) (x : Point) (t v : ℕ) → 64 ≤ t → Frame st x → Frame st (point (set_reg x.cells t v) x.left x.events)
frame_temp st x t v h f = record {
  scalars = λ u k. with_off x.cells.regs t v u (let n : u ≢ t = omega arith in n) ∙ f.scalars u k;
  arrays = f.arrays;
  left = f.left;
  events = f.events;
}

frame_element : (st : State) (x : Point) (u i j v w : ℕ) → Frame st x → j ≡ i → w ≡ v → Frame (set_element st u i v) (point (set_word x.cells u j w) x.left x.events)
frame_element st x u i j v w f e d = record {
  scalars = f.scalars;
  arrays = ap (λ c. with c u (with (c u) j w)) f.arrays ∙ ap (λ a. with st.arrays u (with (st.arrays u) a w)) e ∙ ap (λ a. with st.arrays u (with (st.arrays u) i a)) d;
  left = f.left;
  events = f.events;
}

frame_read : (st : State) (x : Point) (p w : ℕ) (ws : List ℕ) → Frame st x → Frame (record st { left = with st.left p ws; events = st.events ++ ReadEvent (port p) w ∷ [] }) (point x.cells (with x.left p ws) (x.events ++ ReadEvent (port p) w ∷ []))
frame_read st x p w ws f = record {
  scalars = f.scalars;
  arrays = f.arrays;
  left = ap (λ a. with a p ws) f.left;
  events = ap (λ a. a ++ ReadEvent (port p) w ∷ []) f.events;
}

frame_event : (st : State) (x : Point) (e d : Event) → Frame st x → d ≡ e → Frame (and_event st e) (point x.cells x.left (x.events ++ d ∷ []))
frame_event st x e d f h = record {
  scalars = f.scalars;
  arrays = f.arrays;
  left = f.left;
  events = ap (λ a. a ++ d ∷ []) f.events ∙ ap (λ a. st.events ++ a ∷ []) h;
}

-- ---- micros in order

pub record Does (l : List ℕ) (ms : List Micro) (x : Point) (st : State) : Type 0 where
  pub to : Point
  pub by : in_order l ms x ≡ On to
  pub frame : Frame st to

-- the micros do what an action does that makes no block
abbrev pub DoesAll : List ℕ → List Micro → Point → Outcome → Type 0
DoesAll l ms x (Goes st) = Does l ms x st
DoesAll l ms x (Over Returned events) = ⊥
DoesAll l ms x (Over (Starved p) events) = in_order l ms x ≡ Held p events
DoesAll l ms x (Over Cut events) = ⊥

assign_does : (l : List ℕ) (s : ℕ) (e : Value) (t : ℕ) (st : State) (x : Point) → KnownValue e → 64 ≤ t → Frame st x → Does l (value_micros e t ++ by_two op.Move s (reg_of e t) ∷ []) x (set_scalar st s (value_of l e st))
assign_does l s e t st x k h f = by (value_runs l e t st x k h f)
  where
    by : (a : Valued l (value_micros e t) t (reg_of e t) (value_of l e st) x) → Does l (value_micros e t ++ by_two op.Move s (reg_of e t) ∷ []) x (set_scalar st s (value_of l e st))
    by a = record {
      to = point (set_reg a.to s (a.to.regs (reg_of e t))) x.left x.events;
      by = order_then l (value_micros e t) _ x (point a.to x.left x.events) _ a.by refl;
      frame = frame_scalar st (point a.to x.left x.events) s (value_of l e st) (a.to.regs (reg_of e t)) (frame_valued l (value_micros e t) t (reg_of e t) (value_of l e st) st x a h f) a.value;
    }

store_does : (l : List ℕ) (u : ℕ) (i e : Value) (t : ℕ) (st : State) (x : Point) → KnownValue i → KnownValue e → 64 ≤ t → Frame st x → Does l (value_micros i t ++ (value_micros e (t + temps_in i) ++ store_micro u (reg_of i t) (reg_of e (t + temps_in i)) ∷ [])) x (set_element st u (index_in l u (value_of l i st)) (value_of l e st))
store_does l u i e t st x ki ke h f = by (value_runs l i t st x ki h f) (λ y g. value_runs l e (t + temps_in i) st y ke (omega arith) g)
  where
    by : (a : Valued l (value_micros i t) t (reg_of i t) (value_of l i st) x) → ((y : Point) → Frame st y → Valued l (value_micros e (t + temps_in i)) (t + temps_in i) (reg_of e (t + temps_in i)) (value_of l e st) y) → Does l (value_micros i t ++ (value_micros e (t + temps_in i) ++ store_micro u (reg_of i t) (reg_of e (t + temps_in i)) ∷ [])) x (set_element st u (index_in l u (value_of l i st)) (value_of l e st))
    by a second = joined (frame_valued l (value_micros i t) t (reg_of i t) (value_of l i st) st x a h f) (second (point a.to x.left x.events) (frame_valued l (value_micros i t) t (reg_of i t) (value_of l i st) st x a h f))
      where
        joined : Frame st (point a.to x.left x.events) → (b : Valued l (value_micros e (t + temps_in i)) (t + temps_in i) (reg_of e (t + temps_in i)) (value_of l e st) (point a.to x.left x.events)) → Does l (value_micros i t ++ (value_micros e (t + temps_in i) ++ store_micro u (reg_of i t) (reg_of e (t + temps_in i)) ∷ [])) x (set_element st u (index_in l u (value_of l i st)) (value_of l e st))
        joined g b =
            let below : reg_of i t < t + temps_in i = reg_below i t ki h in
            record {
              to = point (set_word b.to u (index_at l u (b.to.regs (reg_of i t))) (b.to.regs (reg_of e (t + temps_in i)))) x.left x.events;
              by = order_then l (value_micros i t) _ x (point a.to x.left x.events) _ a.by (order_then l (value_micros e (t + temps_in i)) _ (point a.to x.left x.events) (point b.to x.left x.events) _ b.by refl);
              frame = frame_element st (point b.to x.left x.events) u (index_in l u (value_of l i st)) (index_at l u (b.to.regs (reg_of i t))) (value_of l e st) (b.to.regs (reg_of e (t + temps_in i))) (frame_valued l (value_micros e (t + temps_in i)) (t + temps_in i) (reg_of e (t + temps_in i)) (value_of l e st) st (point a.to x.left x.events) b (omega arith) g) (ap (index_at l u) (b.low (reg_of i t) below ∙ a.value)) b.value;
            }

read_does : (l : List ℕ) (s p : ℕ) (st : State) (x : Point) → Frame st x → DoesAll l (read_micro s p ∷ []) x (take_word p (st.left p) st (λ w next. Goes (set_scalar next s w)))
read_does l s p st x f = by_list (st.left p) (ap (λ a. a p) f.left)
  where
    run_is : (ws : List ℕ) → x.left p ≡ ws → in_order l (read_micro s p ∷ []) x ≡ then_run (take_run l p ws (read_micro s p ∷ []) x) (in_order l [])
    run_is ws e = ap (λ a. then_run (take_run l p a (read_micro s p ∷ []) x) (in_order l [])) e

    by_list : (ws : List ℕ) → x.left p ≡ ws → DoesAll l (read_micro s p ∷ []) x (take_word p ws st (λ w next. Goes (set_scalar next s w)))
    by_list [] e = run_is [] e ∙ ap (Held p) f.events
    by_list (w ∷ ws) e = record {
      to = point (set_reg x.cells s w) (with x.left p ws) (x.events ++ ReadEvent (port p) w ∷ []);
      by = run_is (w ∷ ws) e;
      frame = frame_scalar (record st { left = with st.left p ws; events = st.events ++ ReadEvent (port p) w ∷ [] }) (point x.cells (with x.left p ws) (x.events ++ ReadEvent (port p) w ∷ [])) s w w (frame_read st x p w ws f) refl;
    }

-- a read into a temporary, and its store
read_store_does : (l : List ℕ) (u r t p i : ℕ) (st : State) (x : Point) → r < t → 64 ≤ t → x.cells.regs r ≡ i → Frame st x → DoesAll l (read_micro t p ∷ store_micro u r t ∷ []) x (take_word p (st.left p) st (λ w next. Goes (set_element next u (index_in l u i) w)))
read_store_does l u r t p i st x below h value f = by_list (st.left p) (ap (λ a. a p) f.left)
  where
    run_is : (ws : List ℕ) → x.left p ≡ ws → in_order l (read_micro t p ∷ store_micro u r t ∷ []) x ≡ then_run (take_run l p ws (read_micro t p ∷ []) x) (in_order l (store_micro u r t ∷ []))
    run_is ws e = ap (λ a. then_run (take_run l p a (read_micro t p ∷ []) x) (in_order l (store_micro u r t ∷ []))) e

    by_list : (ws : List ℕ) → x.left p ≡ ws → DoesAll l (read_micro t p ∷ store_micro u r t ∷ []) x (take_word p ws st (λ w next. Goes (set_element next u (index_in l u i) w)))
    by_list [] e = run_is [] e ∙ ap (Held p) f.events
    by_list (w ∷ ws) e = record {
      to = point (set_word (set_reg x.cells t w) u (index_at l u (with x.cells.regs t w r)) (with x.cells.regs t w t)) (with x.left p ws) (x.events ++ ReadEvent (port p) w ∷ []);
      by = run_is (w ∷ ws) e;
      frame = frame_element (record st { left = with st.left p ws; events = st.events ++ ReadEvent (port p) w ∷ [] }) (point (set_reg x.cells t w) (with x.left p ws) (x.events ++ ReadEvent (port p) w ∷ [])) u (index_in l u i) (index_at l u (with x.cells.regs t w r)) w (with x.cells.regs t w t) (frame_temp (record st { left = with st.left p ws; events = st.events ++ ReadEvent (port p) w ∷ [] }) (point x.cells (with x.left p ws) (x.events ++ ReadEvent (port p) w ∷ [])) t w h (frame_read st x p w ws f)) (ap (index_at l u) (with_off x.cells.regs t w r (let n : r ≢ t = omega arith in n) ∙ value)) (with_at x.cells.regs t w);
    }

-- micros that go on, and then others
does_then : (l : List ℕ) (a b : List Micro) (x y : Point) (o : Outcome) → in_order l a x ≡ On y → DoesAll l b y o → DoesAll l (a ++ b) x o
does_then l a b x y (Goes st) h d = record { to = d.to; by = order_then l a b x y (On d.to) h d.by; frame = d.frame }
does_then l a b x y (Over Returned events) h d = d
does_then l a b x y (Over (Starved p) events) h d = order_then l a b x y (Held p events) h d
does_then l a b x y (Over Cut events) h d = d

read_into_does : (l : List ℕ) (u : ℕ) (i : Value) (p t : ℕ) (st : State) (x : Point) → KnownValue i → 64 ≤ t → Frame st x → DoesAll l (value_micros i t ++ (read_micro (t + temps_in i) p ∷ store_micro u (reg_of i t) (t + temps_in i) ∷ [])) x (take_word p (st.left p) st (λ w next. Goes (set_element next u (index_in l u (value_of l i st)) w)))
read_into_does l u i p t st x k h f = by (value_runs l i t st x k h f)
  where
    by : (a : Valued l (value_micros i t) t (reg_of i t) (value_of l i st) x) → DoesAll l (value_micros i t ++ (read_micro (t + temps_in i) p ∷ store_micro u (reg_of i t) (t + temps_in i) ∷ [])) x (take_word p (st.left p) st (λ w next. Goes (set_element next u (index_in l u (value_of l i st)) w)))
    by a = does_then l (value_micros i t) _ x (point a.to x.left x.events) (take_word p (st.left p) st (λ w next. Goes (set_element next u (index_in l u (value_of l i st)) w))) a.by (read_store_does l u (reg_of i t) (t + temps_in i) p (value_of l i st) st (point a.to x.left x.events) (reg_below i t k h) (omega arith) a.value (frame_valued l (value_micros i t) t (reg_of i t) (value_of l i st) st x a h f))

write_does : (l : List ℕ) (p : ℕ) (e : Value) (t : ℕ) (st : State) (x : Point) → KnownValue e → 64 ≤ t → Frame st x → Does l (value_micros e t ++ write_micro p (reg_of e t) ∷ []) x (and_event st (WriteEvent (port p) (value_of l e st)))
write_does l p e t st x k h f = by (value_runs l e t st x k h f)
  where
    by : (a : Valued l (value_micros e t) t (reg_of e t) (value_of l e st) x) → Does l (value_micros e t ++ write_micro p (reg_of e t) ∷ []) x (and_event st (WriteEvent (port p) (value_of l e st)))
    by a = record {
      to = point a.to x.left (x.events ++ WriteEvent (port p) (a.to.regs (reg_of e t)) ∷ []);
      by = order_then l (value_micros e t) _ x (point a.to x.left x.events) _ a.by refl;
      frame = frame_event st (point a.to x.left x.events) (WriteEvent (port p) (value_of l e st)) (WriteEvent (port p) (a.to.regs (reg_of e t))) (frame_valued l (value_micros e t) t (reg_of e t) (value_of l e st) st x a h f) (ap (WriteEvent (port p)) a.value);
    }

-- ---- turns

pub later : (s : Standing) (n j k : ℕ) (e : TraceEnd) → EndsAt s n k e → EndsAt s n (j + k) e
later s n j k Returned h = h
later s n j k (Starved p) h = h
later s n j k Cut h = (h.0, omega (arith, h.1))

more_turns : (s : Standing) (n j k : ℕ) (e : TraceEnd) → 1 ≤ j → EndsAt s n k e → EndsAt s (suc n) (j + k) e
more_turns s n j k Returned le h = h
more_turns s n j k (Starved p) le h = h
more_turns s n j k Cut le h = (h.0, omega (arith, h.1))

fewer_turns : (s : Standing) (m n k : ℕ) (e : TraceEnd) → m ≤ n → EndsAt s n k e → EndsAt s m k e
fewer_turns s m n k Returned le h = h
fewer_turns s m n k (Starved p) le h = h
fewer_turns s m n k Cut le h = (h.0, omega (arith, h.1))

pub temps_grow : (a : Action) (c : List Micro) (k t : ℕ) → t ≤ (emit a c k t).temps
temps_grow Skip c k t = omega arith
temps_grow (Then a b) c k t = by (emit a c k t) (temps_grow a c k t) (λ d i u. temps_grow b d i u)
  where
    by : (p : Made) → t ≤ p.temps → ((d : List Micro) (i u : ℕ) → u ≤ (emit b d i u).temps) → t ≤ (then_make p k (emit b)).temps
    by p h rest = let r = rest p.current (k + length p.ended) p.temps in omega arith
temps_grow (Assign s e) c k t = omega arith
temps_grow (Store u i e) c k t = omega arith
temps_grow (Read s p) c k t = omega arith
temps_grow (ReadInto u i p) c k t = omega arith
temps_grow (Write p e) c k t = omega arith
temps_grow (Choose e a b) c k t = by (emit a [] (k + 1) (t + temps_in e)) (temps_grow a [] (k + 1) (t + temps_in e)) (λ i u. temps_grow b [] i u)
  where
    by : (p : Made) → t + temps_in e ≤ p.temps → ((i u : ℕ) → u ≤ (emit b [] i u).temps) → t ≤ (emit b [] (k + 1 + length p.ended + 1) p.temps).temps
    by p h rest = let r = rest (k + 1 + length p.ended + 1) p.temps in omega arith
temps_grow (Repeat e a) c k t = let h = temps_grow a [] (k + 1 + 1) (t + temps_in e) in omega arith
temps_grow Return c k t = omega arith

module _ (code : Code) (l : List ℕ) (first : ℕ → ℕ) where
  abbrev go : Page → Page
  go = move code l

  abbrev start_of : ℕ → Point → Page
  start_of = begins code l first

  abbrev Has : ℕ → Piece → Type 0
  Has = HasPiece code l first

  -- ---- what stands in the table

  -- the block begins with these micros
  pub record Opens (k : ℕ) (c : List Micro) : Type 0 where
    pub more : List Micro
    pub next : Next
    pub has : HasPiece code l first k (piece (c ++ more) next)

  abbrev pub HasMade : ℕ → Made → Type 0
  HasMade k p = HasPieces code l first k p.ended × Opens (k + length p.ended) p.current

  opens_all : (k : ℕ) (c : List Micro) (nx : Next) → Has k (piece c nx) → Opens k c
  opens_all k c nx h = record { more = []; next = nx; has = subst (λ ms. Has k (piece ms nx)) (sym (append-nil c)) h }

  opens_front : (k : ℕ) (c d : List Micro) → Opens k (c ++ d) → Opens k c
  opens_front k c d o = record { more = d ++ o.more; next = o.next; has = subst (λ ms. Has k (piece ms o.next)) (append_assoc c d o.more) o.has }

  opens_at : (j k : ℕ) (c : List Micro) → j ≡ k → Opens j c → Opens k c
  opens_at j k c e o = subst (λ i. Opens i c) e o

  made_straight : (k t : ℕ) (c d : List Micro) → HasMade k (straight (c ++ d) t) → Opens k (c ++ d)
  made_straight k t c d h = opens_at (k + 0) k (c ++ d) (omega arith) h.1

  made_second : (k : ℕ) (p q : Made) → HasMade k (followed p q) → HasMade (k + length p.ended) q
  made_second k p q h =
      (pieces_back code l first k p.ended q.ended h.0, opens_at (k + length (p.ended ++ q.ended)) (k + length p.ended + length q.ended) q.current (omega (arith, length-append p.ended q.ended)) h.1)

  -- the current block begins with its micros so far
  starts : (a : Action) (c : List Micro) (k t : ℕ) → HasMade k (emit a c k t) → Opens k c
  starts Skip c k t h = opens_at (k + 0) k c (omega arith) h.1
  starts (Then a b) c k t h = by (emit a c k t) h (λ g. starts a c k t g) (λ d i u g. starts b d i u g)
    where
      by : (p : Made) → HasMade k (then_make p k (emit b)) → (HasMade k p → Opens k c) → ((d : List Micro) (i u : ℕ) → HasMade i (emit b d i u) → Opens i d) → Opens k c
      by p h one two = one (pieces_front code l first k p.ended _ h.0, two p.current (k + length p.ended) p.temps (made_second k p (emit b p.current (k + length p.ended) p.temps) h))
  starts (Assign s e) c k t h = opens_front k c _ (made_straight k (t + temps_in e) c _ h)
  starts (Store u i e) c k t h = opens_front k c _ (made_straight k (t + temps_in i + temps_in e) c _ h)
  starts (Read s p) c k t h = opens_front k c _ (made_straight k t c _ h)
  starts (ReadInto u i p) c k t h = opens_front k c _ (made_straight k (t + temps_in i + 1) c _ h)
  starts (Write p e) c k t h = opens_front k c _ (made_straight k (t + temps_in e) c _ h)
  starts (Choose e a b) c k t h = opens_front k c (value_micros e t) (opens_all k (c ++ value_micros e t) (Branch (reg_of e t) (k + 1) (k + 1 + length (emit a [] (k + 1) (t + temps_in e)).ended + 1)) h.0.0)
  starts (Repeat e a) c k t h = opens_all k c (Goto (k + 1)) h.0.0
  starts Return c k t h = opens_all k c AtEnd h.0.0

  -- ---- runs

  -- the page comes to the start of block j; its micros so far then have the state's variables
  pub record Continues (j : ℕ) (c : List Micro) (s : Page) (st : State) : Type 0 where
    pub steps : ℕ
    pub from : Point
    pub by : moves go steps s ≡ begins code l first j from
    pub to : Point
    pub done : in_order l c from ≡ On to
    pub frame : Frame st to

  -- the page comes to stand where the operator's run is over
  pub record Stops (n : ℕ) (s : Page) (e : TraceEnd) (events : List Event) : Type 0 where
    pub steps : ℕ
    pub to : Page
    pub by : moves go steps s ≡ to
    pub has : to.events ≡ events
    pub stands : EndsAt (standing code l to) n steps e

  abbrev pub Runs : ℕ → ℕ → List Micro → Page → Outcome → Type 0
  Runs n j c s (Goes st) = Continues j c s st
  Runs n j c s (Over e events) = Stops n s e events

  after : (n j k : ℕ) (c : List Micro) (s s1 : Page) (o : Outcome) → moves go k s ≡ s1 → Runs n j c s1 o → Runs n j c s o
  after n j k c s s1 (Goes st) e r = record { steps = k + r.steps; from = r.from; by = moves_on code l k r.steps s s1 (start_of j r.from) e r.by; to = r.to; done = r.done; frame = r.frame }
  after n j k c s s1 (Over d events) e r = record { steps = k + r.steps; to = r.to; by = moves_on code l k r.steps s s1 r.to e r.by; has = r.has; stands = later (standing code l r.to) n k r.steps d r.stands }

  after_turn : (n j k : ℕ) (c : List Micro) (s s1 : Page) (o : Outcome) → 1 ≤ k → moves go k s ≡ s1 → Runs n j c s1 o → Runs (suc n) j c s o
  after_turn n j k c s s1 (Goes st) le e r = record { steps = k + r.steps; from = r.from; by = moves_on code l k r.steps s s1 (start_of j r.from) e r.by; to = r.to; done = r.done; frame = r.frame }
  after_turn n j k c s s1 (Over d events) le e r = record { steps = k + r.steps; to = r.to; by = moves_on code l k r.steps s s1 r.to e r.by; has = r.has; stands = more_turns (standing code l r.to) n k r.steps d le r.stands }

  ends_at : (n j k : ℕ) (c : List Micro) (s : Page) (o : Outcome) → j ≡ k → Runs n j c s o → Runs n k c s o
  ends_at n j k c s o e r = subst (λ i. Runs n i c s o) e r

  -- what runs from the start of block j, once its micros so far are done
  abbrev From : ℕ → ℕ → List Micro → ℕ → List Micro → (State → Outcome) → Type 0
  From n j c k d f = (st : State) (x y : Point) → in_order l c x ≡ On y → Frame st y → Runs n k d (start_of j x) (f st)

  seq_runs : (m n j k : ℕ) (c d : List Micro) (s : Page) (o : Outcome) (f : State → Outcome) → m ≤ n → Runs n j c s o → From m j c k d f → Runs m k d s (then_do o f)
  seq_runs m n j k c d s (Goes st) f le r rest = after m k r.steps d s (start_of j r.from) (f st) r.by (rest st r.from r.to r.done r.frame)
  seq_runs m n j k c d s (Over e events) f le r rest = record { steps = r.steps; to = r.to; by = r.by; has = r.has; stands = fewer_turns (standing code l r.to) m n r.steps e le r.stands }

  -- an action that makes no block
  straight_runs : (n k : ℕ) (c d : List Micro) (x0 x : Point) (o : Outcome) → Opens k (c ++ d) → in_order l c x0 ≡ On x → DoesAll l d x o → Runs n (k + 0) (c ++ d) (start_of k x0) o
  straight_runs n k c d x0 x (Goes st) opens h does = record {
    steps = 0;
    from = x0;
    by = ap (λ i. start_of i x0) (let e : k ≡ k + 0 = omega arith in e);
    to = does.to;
    done = order_then l c d x0 x (On does.to) h does.by;
    frame = does.frame;
  }
  straight_runs n k c d x0 x (Over Returned events) opens h does = absurd does
  straight_runs n k c d x0 x (Over (Starved p) events) opens h does =
      let r = held_runs code l first k ((c ++ d) ++ opens.more) opens.next x0 p events opens.has (order_held l (c ++ d) opens.more x0 p events (order_then l c d x0 x (Held p events) h does)) in
      record { steps = r.steps; to = r.to; by = r.by; has = r.has; stands = r.stands }
  straight_runs n k c d x0 x (Over Cut events) opens h does = absurd does

  -- a block that ends with a jump
  jump_runs : (n j z : ℕ) (c : List Micro) (s : Page) (o : Outcome) → Has j (piece c (Goto z)) → Runs n j c s o → Runs n z [] s o
  jump_runs n j z c s (Goes st) has r =
      let g = goto_runs code l first j z c r.from r.to has r.done in
      record { steps = r.steps + g.steps; from = r.to; by = moves_on code l r.steps g.steps s (start_of j r.from) (start_of z r.to) r.by g.by; to = r.to; done = refl; frame = r.frame }
  jump_runs n j z c s (Over e events) has r = r

  choose_runs : (n k r v : ℕ) (c : List Micro) (p q : Made) (st : State) (x0 y : Point) (oa ob : Outcome) → HasMade k (both_ways c r k p q) → in_order l c x0 ≡ On y → y.cells.regs r ≡ v → (HasMade (k + 1) p → Runs n (k + 1 + length p.ended) p.current (start_of (k + 1) y) oa) → (HasMade (k + 1 + length p.ended + 1) q → Runs n (k + 1 + length p.ended + 1 + length q.ended) q.current (start_of (k + 1 + length p.ended + 1) y) ob) → Runs n (k + length (both_ways c r k p q).ended) [] (start_of k x0) (at_zero v ob oa)
  choose_runs n k r v c p q st x0 y oa ob has h value ra rb = by_value v value
    where
      total : k + 1 + length p.ended + 1 + length q.ended + 1 ≡ k + length (both_ways c r k p q).ended
      total = omega (arith, length-append p.ended (piece p.current (Goto (k + 1 + length p.ended + 1 + length q.ended + 1)) ∷ (q.ended ++ piece q.current (Goto (k + 1 + length p.ended + 1 + length q.ended + 1)) ∷ [])), length-append q.ended (piece q.current (Goto (k + 1 + length p.ended + 1 + length q.ended + 1)) ∷ []))

      h2 : HasPieces code l first (k + 1 + length p.ended) (piece p.current (Goto (k + 1 + length p.ended + 1 + length q.ended + 1)) ∷ (q.ended ++ piece q.current (Goto (k + 1 + length p.ended + 1 + length q.ended + 1)) ∷ []))
      h2 = pieces_back code l first (k + 1) p.ended _ has.0.1

      h3 : HasPieces code l first (k + 1 + length p.ended + 1 + length q.ended) (piece q.current (Goto (k + 1 + length p.ended + 1 + length q.ended + 1)) ∷ [])
      h3 = pieces_back code l first (k + 1 + length p.ended + 1) q.ended _ h2.1

      lead : Leads code l first (start_of k x0) (at_place (Some (chosen (y.cells.regs r) (first (k + 1)) (first (k + 1 + length p.ended + 1)))) y)
      lead = branch_runs code l first k r (k + 1) (k + 1 + length p.ended + 1) c x0 y has.0.0 h

      by_value : (u : ℕ) → y.cells.regs r ≡ u → Runs n (k + length (both_ways c r k p q).ended) [] (start_of k x0) (at_zero u ob oa)
      by_value zero e =
          ends_at n _ _ [] (start_of k x0) ob total (after n (k + 1 + length p.ended + 1 + length q.ended + 1) lead.steps [] (start_of k x0) (start_of (k + 1 + length p.ended + 1) y) ob (lead.by ∙ ap (λ w. at_place (Some (chosen w (first (k + 1)) (first (k + 1 + length p.ended + 1)))) y) e) (jump_runs n (k + 1 + length p.ended + 1 + length q.ended) (k + 1 + length p.ended + 1 + length q.ended + 1) q.current (start_of (k + 1 + length p.ended + 1) y) ob h3.0 (rb (pieces_front code l first (k + 1 + length p.ended + 1) q.ended _ h2.1, opens_all (k + 1 + length p.ended + 1 + length q.ended) q.current (Goto (k + 1 + length p.ended + 1 + length q.ended + 1)) h3.0))))
      by_value (suc u) e =
          ends_at n _ _ [] (start_of k x0) oa total (after n (k + 1 + length p.ended + 1 + length q.ended + 1) lead.steps [] (start_of k x0) (start_of (k + 1) y) oa (lead.by ∙ ap (λ w. at_place (Some (chosen w (first (k + 1)) (first (k + 1 + length p.ended + 1)))) y) e) (jump_runs n (k + 1 + length p.ended) (k + 1 + length p.ended + 1 + length q.ended + 1) p.current (start_of (k + 1) y) oa h2.0 (ra (pieces_front code l first (k + 1) p.ended _ has.0.1, opens_all (k + 1 + length p.ended) p.current (Goto (k + 1 + length p.ended + 1 + length q.ended + 1)) h2.0))))

  -- ---- loops: h is the block of the test, b the body's first block, z the one after it

  module _ (n h b e z r : ℕ) (v cb : List Micro) (test : State → ℕ) (body : State → Outcome) (has : HasPiece code l first h (piece v (Branch r b z))) (back : HasPiece code l first e (piece cb (Goto h))) (rt : (st : State) (x : Point) → Frame st x → (y : Point) × (in_order l v x ≡ On y) × (y.cells.regs r ≡ test st) × Frame st y) (rb : (st : State) (x : Point) → Frame st x → Runs n e cb (begins code l first b x) (body st)) where
    abbrev Tested : State → Point → Type 0
    Tested st x = (y : Point) × (in_order l v x ≡ On y) × (y.cells.regs r ≡ test st) × Frame st y

    leaves : (j : ℕ) (st : State) (x : Point) (a : Tested st x) → test st ≡ 0 → Continues z [] (start_of h x) st
    leaves j st x a t =
        let lead = branch_runs code l first h r b z v x a.0 has a.1 in
        record {
          steps = lead.steps;
          from = a.0;
          by = lead.by ∙ ap (λ w. at_place (Some (chosen w (first b) (first z))) a.0) (a.2 ∙ t);
          to = a.0;
          done = refl;
          frame = a.3;
        }

    turn : (j u : ℕ) (st : State) (x : Point) (a : Tested st x) → suc j ≤ n → test st ≡ suc u → ((st1 : State) (x1 : Point) → Frame st1 x1 → Runs j z [] (start_of h x1) (turns j test body st1)) → Runs (suc j) z [] (start_of h x) (then_do (body st) (turns j test body))
    turn j u st x a le t others =
        let lead = branch_runs code l first h r b z v x a.0 has a.1 in
        after_turn j z lead.steps [] (start_of h x) (start_of b a.0) (then_do (body st) (turns j test body)) lead.some (lead.by ∙ ap (λ w. at_place (Some (chosen w (first b) (first z))) a.0) (a.2 ∙ t)) (seq_runs j n h z [] [] (start_of b a.0) (body st) (turns j test body) (omega arith) (jump_runs n e h cb (start_of b a.0) (body st) back (rb st a.0 a.3)) (λ st1 x1 y1 d f1. others st1 x1 (subst (Frame st1) (sym (same x1 y1 d)) f1)))
      where
        same : (x1 y1 : Point) → On x1 ≡ On y1 → x1 ≡ y1
        same x1 y1 d = cc d

    zero_turn : (w : ℕ) (st : State) (x : Point) (a : Tested st x) → Frame st x → test st ≡ w → Runs 0 z [] (start_of h x) (at_zero w (Goes st) (Over Cut st.events))
    zero_turn zero st x a f t = leaves 0 st x a t
    zero_turn (suc w) st x a f t = record {
      steps = 0;
      to = start_of h x;
      by = refl;
      has = f.events;
      stands = (branch_going code l first h r b z v x a.0 has a.1, omega arith);
    }

    next_turn : (j w : ℕ) (st : State) (x : Point) (a : Tested st x) → suc j ≤ n → test st ≡ w → ((st1 : State) (x1 : Point) → Frame st1 x1 → Runs j z [] (start_of h x1) (turns j test body st1)) → Runs (suc j) z [] (start_of h x) (at_zero w (Goes st) (then_do (body st) (turns j test body)))
    next_turn j zero st x a le t others = leaves j st x a t
    next_turn j (suc w) st x a le t others = turn j w st x a le t others

    repeat_runs : (j : ℕ) → j ≤ n → (st : State) (x : Point) → Frame st x → Runs j z [] (start_of h x) (turns j test body st)
    repeat_runs zero le st x f = zero_turn (test st) st x (rt st x f) f refl
    repeat_runs (suc j) le st x f = next_turn j (test st) st x (rt st x f) le refl (λ st1 x1 f1. repeat_runs j (omega arith) st1 x1 f1)

  -- ---- all of an operator

  tested : (e : Value) (t : ℕ) (st : State) (x : Point) → KnownValue e → 64 ≤ t → Frame st x → (y : Point) × (in_order l (value_micros e t) x ≡ On y) × (y.cells.regs (reg_of e t) ≡ value_of l e st) × Frame st y
  tested e t st x k h f = by (value_runs l e t st x k h f)
    where
      by : (a : Valued l (value_micros e t) t (reg_of e t) (value_of l e st) x) → (y : Point) × (in_order l (value_micros e t) x ≡ On y) × (y.cells.regs (reg_of e t) ≡ value_of l e st) × Frame st y
      by a = (point a.to x.left x.events, a.by, a.value, frame_valued l (value_micros e t) t (reg_of e t) (value_of l e st) st x a h f)

  pub action_runs : (a : Action) (n k t : ℕ) (c : List Micro) (st : State) (x0 x : Point) → KnownAction a → 64 ≤ t → HasMade k (emit a c k t) → in_order l c x0 ≡ On x → Frame st x → Runs n (k + length (emit a c k t).ended) (emit a c k t).current (begins code l first k x0) (meaning l a n st)
  action_runs Skip n k t c st x0 x known h has done f = record {
    steps = 0;
    from = x0;
    by = ap (λ i. start_of i x0) (let e : k ≡ k + 0 = omega arith in e);
    to = x;
    done = done;
    frame = f;
  }
  action_runs (Then a b) n k t c st x0 x known h has done f =
      by (emit a c k t) has (temps_grow a c k t) (λ g. starts b (emit a c k t).current (k + length (emit a c k t).ended) (emit a c k t).temps g) (λ g. action_runs a n k t c st x0 x known.0 h g done f) (λ d i u w g st1 x1 y1 e f1. action_runs b n i u d st1 x1 y1 known.1 w g e f1)
    where
      by : (p : Made) → HasMade k (then_make p k (emit b)) → t ≤ p.temps → (HasMade (k + length p.ended) (emit b p.current (k + length p.ended) p.temps) → Opens (k + length p.ended) p.current) → (HasMade k p → Runs n (k + length p.ended) p.current (start_of k x0) (meaning l a n st)) → ((d : List Micro) (i u : ℕ) → 64 ≤ u → HasMade i (emit b d i u) → From n i d (i + length (emit b d i u).ended) (emit b d i u).current (meaning l b n)) → Runs n (k + length (then_make p k (emit b)).ended) (then_make p k (emit b)).current (start_of k x0) (then_do (meaning l a n st) (meaning l b n))
      by p has grown opens one two =
          let second = made_second k p (emit b p.current (k + length p.ended) p.temps) has in
          let total : k + length p.ended + length (emit b p.current (k + length p.ended) p.temps).ended ≡ k + length (then_make p k (emit b)).ended = omega (arith, length-append p.ended (emit b p.current (k + length p.ended) p.temps).ended) in
          ends_at n _ _ (emit b p.current (k + length p.ended) p.temps).current (start_of k x0) (then_do (meaning l a n st) (meaning l b n)) total (seq_runs n n (k + length p.ended) _ p.current (emit b p.current (k + length p.ended) p.temps).current (start_of k x0) (meaning l a n st) (meaning l b n) (omega arith) (one (pieces_front code l first k p.ended _ has.0, opens second)) (two p.current (k + length p.ended) p.temps (omega arith) second))
  action_runs (Assign s e) n k t c st x0 x known h has done f =
      straight_runs n k c (value_micros e t ++ by_two op.Move s (reg_of e t) ∷ []) x0 x (Goes (set_scalar st s (value_of l e st))) (made_straight k (t + temps_in e) c _ has) done (assign_does l s e t st x known.1 h f)
  action_runs (Store u i e) n k t c st x0 x known h has done f =
      straight_runs n k c (value_micros i t ++ (value_micros e (t + temps_in i) ++ store_micro u (reg_of i t) (reg_of e (t + temps_in i)) ∷ [])) x0 x (Goes (set_element st u (index_in l u (value_of l i st)) (value_of l e st))) (made_straight k (t + temps_in i + temps_in e) c _ has) done (store_does l u i e t st x known.0 known.1 h f)
  action_runs (Read s p) n k t c st x0 x known h has done f =
      straight_runs n k c (read_micro s p ∷ []) x0 x (take_word p (st.left p) st (λ w next. Goes (set_scalar next s w))) (made_straight k t c _ has) done (read_does l s p st x f)
  action_runs (ReadInto u i p) n k t c st x0 x known h has done f =
      straight_runs n k c (value_micros i t ++ (read_micro (t + temps_in i) p ∷ store_micro u (reg_of i t) (t + temps_in i) ∷ [])) x0 x (take_word p (st.left p) st (λ w next. Goes (set_element next u (index_in l u (value_of l i st)) w))) (made_straight k (t + temps_in i + 1) c _ has) done (read_into_does l u i p t st x known h f)
  action_runs (Write p e) n k t c st x0 x known h has done f =
      straight_runs n k c (value_micros e t ++ write_micro p (reg_of e t) ∷ []) x0 x (Goes (and_event st (WriteEvent (port p) (value_of l e st)))) (made_straight k (t + temps_in e) c _ has) done (write_does l p e t st x known h f)
  action_runs (Choose e a b) n k t c st x0 x known h has done f =
      by (tested e t st x known.0 h f) (emit a [] (k + 1) (t + temps_in e)) has (temps_grow a [] (k + 1) (t + temps_in e)) (λ y f1 g. action_runs a n (k + 1) (t + temps_in e) [] st y y known.1 (omega arith) g refl f1) (λ i u w y f1 g. action_runs b n i u [] st y y known.2 w g refl f1)
    where
      by : ((y : Point) × (in_order l (value_micros e t) x ≡ On y) × (y.cells.regs (reg_of e t) ≡ value_of l e st) × Frame st y) → (p : Made) → HasMade k (choose_make (c ++ value_micros e t) (reg_of e t) k p (emit b [])) → t + temps_in e ≤ p.temps → ((y : Point) → Frame st y → HasMade (k + 1) p → Runs n (k + 1 + length p.ended) p.current (start_of (k + 1) y) (meaning l a n st)) → ((i u : ℕ) → 64 ≤ u → (y : Point) → Frame st y → HasMade i (emit b [] i u) → Runs n (i + length (emit b [] i u).ended) (emit b [] i u).current (start_of i y) (meaning l b n st)) → Runs n (k + length (choose_make (c ++ value_micros e t) (reg_of e t) k p (emit b [])).ended) [] (start_of k x0) (at_zero (value_of l e st) (meaning l b n st) (meaning l a n st))
      by v p has grown one two =
          choose_runs n k (reg_of e t) (value_of l e st) (c ++ value_micros e t) p (emit b [] (k + 1 + length p.ended + 1) p.temps) st x0 v.0 (meaning l a n st) (meaning l b n st) has (order_then l c (value_micros e t) x0 x (On v.0) done v.1) v.2 (λ g. one v.0 v.3 g) (λ g. two (k + 1 + length p.ended + 1) p.temps (omega arith) v.0 v.3 g)
  action_runs (Repeat e a) n k t c st x0 x known h has done f =
      by (emit a [] (k + 1 + 1) (t + temps_in e)) has (λ st1 y f1 g. action_runs a n (k + 1 + 1) (t + temps_in e) [] st1 y y known.1 (omega arith) g refl f1)
    where
      by : (p : Made) → HasMade k (repeat_make c (value_micros e t) (reg_of e t) k p) → ((st1 : State) (y : Point) → Frame st1 y → HasMade (k + 1 + 1) p → Runs n (k + 1 + 1 + length p.ended) p.current (start_of (k + 1 + 1) y) (meaning l a n st1)) → Runs n (k + length (repeat_make c (value_micros e t) (reg_of e t) k p).ended) [] (start_of k x0) (turns n (value_of l e) (meaning l a n) st)
      by p has one =
          let last : HasPieces code l first (k + 1 + 1 + length p.ended) (piece p.current (Goto (k + 1)) ∷ []) = pieces_back code l first (k + 1 + 1) p.ended _ has.0.1.1 in
          let made : HasMade (k + 1 + 1) p = (pieces_front code l first (k + 1 + 1) p.ended _ has.0.1.1, opens_all (k + 1 + 1 + length p.ended) p.current (Goto (k + 1)) last.0) in
          let lead = goto_runs code l first k (k + 1) c x0 x has.0.0 done in
          let total : k + 1 + 1 + length p.ended + 1 ≡ k + length (repeat_make c (value_micros e t) (reg_of e t) k p).ended = omega (arith, length-append p.ended (piece p.current (Goto (k + 1)) ∷ [])) in
          ends_at n _ _ [] (start_of k x0) (turns n (value_of l e) (meaning l a n) st) total (after n (k + 1 + 1 + length p.ended + 1) lead.steps [] (start_of k x0) (start_of (k + 1) x) (turns n (value_of l e) (meaning l a n) st) lead.by (repeat_runs n (k + 1) (k + 1 + 1) (k + 1 + 1 + length p.ended) (k + 1 + 1 + length p.ended + 1) (reg_of e t) (value_micros e t) p.current (value_of l e) (meaning l a n) has.0.1.0 last.0 (λ st1 y f1. tested e t st1 y known.0 h f1) (λ st1 y f1. one st1 y f1 made) n (omega arith) st x f))
  action_runs Return n k t c st x0 x known h has done f =
      let r = end_runs code l first k c x0 x has.0.0 done in
      record { steps = r.steps; to = r.to; by = r.by; has = r.has ∙ f.events; stands = r.stands }
