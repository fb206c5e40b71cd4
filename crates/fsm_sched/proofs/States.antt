-- The states of a schedule do what the micros do in order.
use Rattle.std.proofs.Common.{◌≡◌, ℕ, List, [], ◌∷◌, ◌++◌, refl, sym, ap, ◌∙◌, Bool, true, false}
use Rattle.std.specs.Prelude.{nat_eq, ◌||◌, ◌&&◌, not, if◌then◌else◌}
use Rattle.pld_base.specs.declared.event.Event.{Event}
use Rattle.pld_base.specs.declared.event.Event.TheVariants.{Read as ReadEvent, Write as WriteEvent}
use Rattle.pld_base.specs.Lists.{with, port}
use Rattle.fsm_core.specs.declared.micro.Micro.{Micro}
use Rattle.fsm_core.specs.Shapes.{Cells, Shape, Sets, Sets1, Sets2, Loads, Stores, Reads, Writes, shape_of, effect, effects, Stream, Quiet, Takes, Gives, stream_of, or_else, stream_in}
use Rattle.fsm_core.specs.Page.{Point, Run, Goes, Held, then_run, take_run, stage_run, one, run, in_order}
use Rattle.fsm_core.specs.Shapes.{writes}
use Rattle.fsm_sched.specs.Rule.{reads, hits, feeds_on, clashes, is_quiet, is_stream, must_follow, may_not_pass, some_in, some_of, has_room, may_stand, placed, placed_all, some_states, scheduled}
use Rattle.fsm_sched.proofs.Independent.{or_left, or_right, same_test, effect_keeps, Agrees, same_effect, spared, effects_swap, spares, apart, spares_back}

-- ---- runs, one after the other

pub then_assoc : (o : Run) (f g : Point → Run) → then_run (then_run o f) g ≡ then_run o (λ x. then_run (f x) g)
then_assoc (Goes x) f g = refl
then_assoc (Held p events) f g = refl

pub then_same : (o : Run) (f g : Point → Run) → ((x : Point) → f x ≡ g x) → then_run o f ≡ then_run o g
then_same (Goes x) f g h = h x
then_same (Held p events) f g h = refl

pub then_goes : (o : Run) → then_run o Goes ≡ o
then_goes (Goes x) = refl
then_goes (Held p events) = refl

-- ---- streams

or_else_assoc : (a b c : Stream) → or_else (or_else a b) c ≡ or_else a (or_else b c)
or_else_assoc Quiet b c = refl
or_else_assoc (Takes p) b c = refl
or_else_assoc (Gives p r) b c = refl

pub or_else_quiet : (a : Stream) → or_else a Quiet ≡ a
or_else_quiet Quiet = refl
or_else_quiet (Takes p) = refl
or_else_quiet (Gives p r) = refl

pub first_quiet : (a b : Stream) → or_else a b ≡ Quiet → a ≡ Quiet
first_quiet Quiet b h = refl
first_quiet (Takes p) b h = h
first_quiet (Gives p r) b h = h

pub second_quiet : (a b : Stream) → or_else a b ≡ Quiet → b ≡ Quiet
second_quiet Quiet b h = h
second_quiet (Takes p) b h = cc h
second_quiet (Gives p r) b h = cc h

stream_snoc : (s : List Micro) (m : Micro) → stream_in (s ++ m ∷ []) ≡ or_else (stream_in s) (stream_of (shape_of m))
stream_snoc [] m = or_else_quiet (stream_of (shape_of m))
stream_snoc (e ∷ s) m = ap (or_else (stream_of (shape_of e))) (stream_snoc s m) ∙ sym (or_else_assoc (stream_of (shape_of e)) (stream_in s) (stream_of (shape_of m)))

quiet_is : (a : Stream) → not (is_quiet a) ≡ false → a ≡ Quiet
quiet_is Quiet h = refl
quiet_is (Takes p) h = cc h
quiet_is (Gives p r) h = cc h

and_first : (a b : Bool) → (a && b) ≡ false → b ≡ true → a ≡ false
and_first true b h k = let c : true ≡ false = sym k ∙ h in c
and_first false b h k = refl

gives_reads : (sh : Shape) (p a : ℕ) → stream_of sh ≡ Gives p a → reads sh a ≡ true
gives_reads (Sets t v) p a h = cc h
gives_reads (Sets1 t b f) p a h = cc h
gives_reads (Sets2 t b c f) p a h = cc h
gives_reads (Loads t u b) p a h = cc h
gives_reads (Stores u b c) p a h = cc h
gives_reads (Reads t q) p a h = cc h
gives_reads (Writes q b) p a h = let e : b ≡ a = cc h in ap (λ x. nat_eq a x) e ∙ same_test a

-- a micro that is no stream operation has no use for a word
wordless : (l : List ℕ) (w : ℕ) (sh : Shape) (c d : Cells) → stream_of sh ≡ Quiet → effect l w sh c d ≡ effect l 0 sh c d
wordless l w (Sets t v) c d h = refl
wordless l w (Sets1 t a f) c d h = refl
wordless l w (Sets2 t a b f) c d h = refl
wordless l w (Loads t u a) c d h = refl
wordless l w (Stores u a b) c d h = refl
wordless l w (Reads t p) c d h = cc h
wordless l w (Writes p a) c d h = refl

all_wordless : (l : List ℕ) (w : ℕ) (s : List Micro) (c d : Cells) → stream_in s ≡ Quiet → effects l w s c d ≡ effects l 0 s c d
all_wordless l w [] c d h = refl
all_wordless l w (e ∷ s) c d h =
    ap (effects l w s c) (wordless l w (shape_of e) c d (first_quiet (stream_of (shape_of e)) (stream_in s) h)) ∙ all_wordless l w s c (effect l 0 (shape_of e) c d) (second_quiet (stream_of (shape_of e)) (stream_in s) h)

-- ---- a micro and a state

abbrev FreeOf : Micro → List Micro → Type 0
FreeOf m s = some_in (λ e. must_follow e (shape_of m)) s ≡ false

abbrev Passes : Micro → List Micro → Type 0
Passes m s = some_in (λ e. may_not_pass e (shape_of m)) s ≡ false

passes_free : (m : Micro) (s : List Micro) → Passes m s → FreeOf m s
passes_free m [] h = refl
passes_free m (e ∷ s) h =
    both (must_follow (shape_of e) (shape_of m)) (some_in (λ e. must_follow e (shape_of m)) s) (or_left (must_follow (shape_of e) (shape_of m)) (feeds_on (shape_of e) (shape_of m)) (or_left _ (some_in (λ e. may_not_pass e (shape_of m)) s) h)) (passes_free m s (or_right (may_not_pass (shape_of e) (shape_of m)) _ h))
  where
    both : (a b : Bool) → a ≡ false → b ≡ false → (a || b) ≡ false
    both true b h k = h
    both false b h k = k

agrees_on : (sh : Shape) (a b c : Cells) → Agrees sh a b → Agrees sh b c → Agrees sh a c
agrees_on sh a b c h k = record { regs = λ r e. h.regs r e ∙ k.regs r e; arrays = λ u e. h.arrays u e ∙ k.arrays u e }

no_hits : (e m : Shape) → must_follow e m ≡ false → hits e m ≡ false
no_hits e m h = or_left (hits e m) (clashes e m) (or_left _ (is_stream e && is_stream m) h)

no_clash : (e m : Shape) → must_follow e m ≡ false → clashes e m ≡ false
no_clash e m h = or_right (hits e m) (clashes e m) (or_left _ (is_stream e && is_stream m) h)

-- the state leaves what the micro reads
state_spares : (l : List ℕ) (w : ℕ) (m : Micro) (s : List Micro) (c d : Cells) → FreeOf m s → Agrees (shape_of m) (effects l w s c d) d
state_spares l w m [] c d h = record { regs = λ r e. refl; arrays = λ u e. refl }
state_spares l w m (e ∷ s) c d h =
    let free = or_left (must_follow (shape_of e) (shape_of m)) (some_in (λ e. must_follow e (shape_of m)) s) h in
    agrees_on (shape_of m) (effects l w s c (effect l w (shape_of e) c d)) (effect l w (shape_of e) c d) d (state_spares l w m s c (effect l w (shape_of e) c d) (or_right (must_follow (shape_of e) (shape_of m)) _ h)) (spared l w (shape_of e) (shape_of m) c d (spares (shape_of e) (shape_of m) (no_hits (shape_of e) (shape_of m) free) (no_clash (shape_of e) (shape_of m) free)))

effects_snoc : (l : List ℕ) (w : ℕ) (s : List Micro) (m : Micro) (c d : Cells) → effects l w (s ++ m ∷ []) c d ≡ effect l w (shape_of m) c (effects l w s c d)
effects_snoc l w [] m c d = refl
effects_snoc l w (e ∷ s) m c d = effects_snoc l w s m c (effect l w (shape_of e) c d)

-- at the end of a state, or after it
appended : (l : List ℕ) (w : ℕ) (s : List Micro) (m : Micro) (c : Cells) → FreeOf m s → effects l w (s ++ m ∷ []) c c ≡ effect l w (shape_of m) (effects l w s c c) (effects l w s c c)
appended l w s m c h = effects_snoc l w s m c c ∙ sym (same_effect l w (shape_of m) (effects l w s c c) c (effects l w s c c) (state_spares l w m s c c h))

-- before a state, in place of after it
across : (l : List ℕ) (v w : ℕ) (m : Micro) (r : List Micro) (c d : Cells) → Passes m r → effects l w r (effect l v (shape_of m) c c) (effect l v (shape_of m) c d) ≡ effect l v (shape_of m) c (effects l w r c d)
across l v w m [] c d h = refl
across l v w m (e ∷ r) c d h =
    let free : may_not_pass (shape_of e) (shape_of m) ≡ false = or_left (may_not_pass (shape_of e) (shape_of m)) (some_in (λ e. may_not_pass e (shape_of m)) r) h in
    let strict : must_follow (shape_of e) (shape_of m) ≡ false = or_left (must_follow (shape_of e) (shape_of m)) (feeds_on (shape_of e) (shape_of m)) free in
    let back : feeds_on (shape_of e) (shape_of m) ≡ false = or_right (must_follow (shape_of e) (shape_of m)) (feeds_on (shape_of e) (shape_of m)) free in
    let source = same_effect l w (shape_of e) (effect l v (shape_of m) c c) c (effect l v (shape_of m) c d) (spared l v (shape_of m) (shape_of e) c c (spares_back (shape_of e) (shape_of m) back (no_clash (shape_of e) (shape_of m) strict))) in
    let swap = sym (effects_swap l w v (shape_of e) (shape_of m) c c d (apart (shape_of e) (shape_of m) (no_hits (shape_of e) (shape_of m) strict) (no_clash (shape_of e) (shape_of m) strict))) in
    ap (effects l w r (effect l v (shape_of m) c c)) (source ∙ swap) ∙ across l v w m r c (effect l w (shape_of e) c d) (or_right (may_not_pass (shape_of e) (shape_of m)) _ h)

exchanged : (l : List ℕ) (v w : ℕ) (m : Micro) (r : List Micro) (c : Cells) → Passes m r → effects l w r (effect l v (shape_of m) c c) (effect l v (shape_of m) c c) ≡ effect l v (shape_of m) (effects l w r c c) (effects l w r c c)
exchanged l v w m r c h =
    across l v w m r c c h ∙ sym (same_effect l v (shape_of m) (effects l w r c c) c (effects l w r c c) (state_spares l w m r c c (passes_free m r h)))

-- a state with no stream operation where the micro is one
rest_is_quiet : (m : Micro) (s : List Micro) → FreeOf m s → is_stream (shape_of m) ≡ true → stream_in s ≡ Quiet
rest_is_quiet m [] h k = refl
rest_is_quiet m (e ∷ s) h k =
    let free = or_left (must_follow (shape_of e) (shape_of m)) (some_in (λ e. must_follow e (shape_of m)) s) h in
    let here : stream_of (shape_of e) ≡ Quiet = quiet_is (stream_of (shape_of e)) (and_first (is_stream (shape_of e)) (is_stream (shape_of m)) (or_right (hits (shape_of e) (shape_of m) || clashes (shape_of e) (shape_of m)) _ free) k) in
    ap (λ a. or_else a (stream_in s)) here ∙ rest_is_quiet m s (or_right (must_follow (shape_of e) (shape_of m)) _ h) k

-- a micro that may pass a state doesn't write the register that the state writes to a port
port_spared : (m : Micro) (s : List Micro) (p a : ℕ) → Passes m s → stream_in s ≡ Gives p a → writes (shape_of m) a ≡ false
port_spared m [] p a h k = cc k
port_spared m (e ∷ s) p a h k = by (stream_of (shape_of e)) refl k (λ k2. port_spared m s p a (or_right (may_not_pass (shape_of e) (shape_of m)) (some_in (λ e. may_not_pass e (shape_of m)) s) h) k2)
  where
    free : may_not_pass (shape_of e) (shape_of m) ≡ false
    free = or_left (may_not_pass (shape_of e) (shape_of m)) (some_in (λ e. may_not_pass e (shape_of m)) s) h

    by : (st : Stream) → stream_of (shape_of e) ≡ st → or_else st (stream_in s) ≡ Gives p a → (stream_in s ≡ Gives p a → writes (shape_of m) a ≡ false) → writes (shape_of m) a ≡ false
    by Quiet is k rest = rest k
    by (Takes q) is k rest = cc k
    by (Gives q b) is k rest =
        (spares_back (shape_of e) (shape_of m) (or_right (must_follow (shape_of e) (shape_of m)) (feeds_on (shape_of e) (shape_of m)) free) (no_clash (shape_of e) (shape_of m) (or_left (must_follow (shape_of e) (shape_of m)) (feeds_on (shape_of e) (shape_of m)) free))).regs a (gives_reads (shape_of e) p a (is ∙ k))

abbrev point : Cells → (ℕ → List ℕ) → List Event → Point
point c left events = record { cells = c; left = left; events = events }

module _ (l : List ℕ) (m : Micro) where
  abbrev sh : Shape
  sh = shape_of m

  -- ---- at the end of a state

  abbrev Joins : List Micro → Point → Stream → Stream → Type 0
  Joins s x a b = stage_run l (or_else a b) (s ++ m ∷ []) x ≡ then_run (stage_run l a s x) (λ y. stage_run l b (m ∷ []) y)

  twice : (s : List Micro) → FreeOf m s → (a : Stream) → stream_in s ≡ a → is_quiet a ≡ false → is_stream sh ≡ true → Quiet ≡ a
  twice s h a e q k = sym (rest_is_quiet m s h k) ∙ e

  join_by : (s : List Micro) (x : Point) → FreeOf m s → (a b : Stream) → stream_in s ≡ a → stream_of sh ≡ b → Joins s x a b
  join_by s x h Quiet Quiet sa sb = ap (λ c. Goes (point c x.left x.events)) (appended l 0 s m x.cells h)
  join_by s x h Quiet (Takes p) sa sb = by_list (x.left p)
    where
      by_list : (ws : List ℕ) → take_run l p ws (s ++ m ∷ []) x ≡ take_run l p ws (m ∷ []) (point (effects l 0 s x.cells x.cells) x.left x.events)
      by_list [] = refl
      by_list (w ∷ ws) = ap (λ c. Goes (point c (with x.left p ws) (x.events ++ ReadEvent (port p) w ∷ []))) (appended l w s m x.cells h ∙ ap (λ c. effect l w sh c c) (all_wordless l w s x.cells x.cells sa))
  join_by s x h Quiet (Gives p a) sa sb =
      ap (λ c. Goes (point c x.left (x.events ++ WriteEvent (port p) (x.cells.regs a) ∷ []))) (appended l 0 s m x.cells h) ∙ ap (λ v. Goes (point (effect l 0 sh (effects l 0 s x.cells x.cells) (effects l 0 s x.cells x.cells)) x.left (x.events ++ WriteEvent (port p) v ∷ []))) (sym ((state_spares l 0 m s x.cells x.cells h).regs a (gives_reads sh p a sb)))
  join_by s x h (Takes p) Quiet sa sb = by_list (x.left p)
    where
      by_list : (ws : List ℕ) → take_run l p ws (s ++ m ∷ []) x ≡ then_run (take_run l p ws s x) (λ y. stage_run l Quiet (m ∷ []) y)
      by_list [] = refl
      by_list (w ∷ ws) = ap (λ c. Goes (point c (with x.left p ws) (x.events ++ ReadEvent (port p) w ∷ []))) (appended l w s m x.cells h ∙ wordless l w sh (effects l w s x.cells x.cells) (effects l w s x.cells x.cells) sb)
  join_by s x h (Gives p a) Quiet sa sb = ap (λ c. Goes (point c x.left (x.events ++ WriteEvent (port p) (x.cells.regs a) ∷ []))) (appended l 0 s m x.cells h)
  join_by s x h (Takes p) (Takes q) sa sb = let c : Quiet ≡ Takes p = twice s h (Takes p) sa refl (ap (λ z. not (is_quiet z)) sb) in cc c
  join_by s x h (Takes p) (Gives q a) sa sb = let c : Quiet ≡ Takes p = twice s h (Takes p) sa refl (ap (λ z. not (is_quiet z)) sb) in cc c
  join_by s x h (Gives p r) (Takes q) sa sb = let c : Quiet ≡ Gives p r = twice s h (Gives p r) sa refl (ap (λ z. not (is_quiet z)) sb) in cc c
  join_by s x h (Gives p r) (Gives q a) sa sb = let c : Quiet ≡ Gives p r = twice s h (Gives p r) sa refl (ap (λ z. not (is_quiet z)) sb) in cc c

  alone : (y : Point) → stage_run l (stream_of sh) (m ∷ []) y ≡ one l (m ∷ []) y
  alone y = ap (λ a. stage_run l a (m ∷ []) y) (sym (or_else_quiet (stream_of sh)))

  pub joins : (s : List Micro) (x : Point) → FreeOf m s → one l (s ++ m ∷ []) x ≡ then_run (one l s x) (one l (m ∷ []))
  joins s x h =
      ap (λ a. stage_run l a (s ++ m ∷ []) x) (stream_snoc s m) ∙ join_by s x h (stream_in s) (stream_of sh) refl refl ∙ then_same (one l s x) (λ y. stage_run l (stream_of sh) (m ∷ []) y) (one l (m ∷ [])) alone

  -- ---- before a state

  abbrev Crosses : List Micro → Point → Stream → Stream → Type 0
  Crosses r x a b = then_run (stage_run l b (m ∷ []) x) (λ y. stage_run l a r y) ≡ then_run (stage_run l a r x) (λ y. stage_run l b (m ∷ []) y)

  cross_by : (r : List Micro) (x : Point) → Passes m r → (a b : Stream) → stream_in r ≡ a → stream_of sh ≡ b → Crosses r x a b
  cross_by r x h Quiet Quiet sa sb = ap (λ c. Goes (point c x.left x.events)) (exchanged l 0 0 m r x.cells h)
  cross_by r x h Quiet (Takes p) sa sb = by_list (x.left p)
    where
      by_list : (ws : List ℕ) → then_run (take_run l p ws (m ∷ []) x) (λ y. stage_run l Quiet r y) ≡ take_run l p ws (m ∷ []) (point (effects l 0 r x.cells x.cells) x.left x.events)
      by_list [] = refl
      by_list (w ∷ ws) = ap (λ c. Goes (point c (with x.left p ws) (x.events ++ ReadEvent (port p) w ∷ []))) (exchanged l w 0 m r x.cells h)
  cross_by r x h Quiet (Gives p a) sa sb =
      ap (λ c. Goes (point c x.left (x.events ++ WriteEvent (port p) (x.cells.regs a) ∷ []))) (exchanged l 0 0 m r x.cells h) ∙ ap (λ v. Goes (point (effect l 0 sh (effects l 0 r x.cells x.cells) (effects l 0 r x.cells x.cells)) x.left (x.events ++ WriteEvent (port p) v ∷ []))) (sym ((state_spares l 0 m r x.cells x.cells (passes_free m r h)).regs a (gives_reads sh p a sb)))
  cross_by r x h (Takes p) Quiet sa sb = by_list (x.left p)
    where
      by_list : (ws : List ℕ) → take_run l p ws r (point (effect l 0 sh x.cells x.cells) x.left x.events) ≡ then_run (take_run l p ws r x) (λ y. stage_run l Quiet (m ∷ []) y)
      by_list [] = refl
      by_list (w ∷ ws) = ap (λ c. Goes (point c (with x.left p ws) (x.events ++ ReadEvent (port p) w ∷ []))) (exchanged l 0 w m r x.cells h)
  cross_by r x h (Gives p a) Quiet sa sb =
      ap (λ c. Goes (point c x.left (x.events ++ WriteEvent (port p) ((effect l 0 sh x.cells x.cells).regs a) ∷ []))) (exchanged l 0 0 m r x.cells h) ∙ ap (λ v. Goes (point (effect l 0 sh (effects l 0 r x.cells x.cells) (effects l 0 r x.cells x.cells)) x.left (x.events ++ WriteEvent (port p) v ∷ []))) (effect_keeps l 0 sh x.cells x.cells a (port_spared m r p a h sa))
  cross_by r x h (Takes p) (Takes q) sa sb = let c : Quiet ≡ Takes p = twice r (passes_free m r h) (Takes p) sa refl (ap (λ z. not (is_quiet z)) sb) in cc c
  cross_by r x h (Takes p) (Gives q a) sa sb = let c : Quiet ≡ Takes p = twice r (passes_free m r h) (Takes p) sa refl (ap (λ z. not (is_quiet z)) sb) in cc c
  cross_by r x h (Gives p b) (Takes q) sa sb = let c : Quiet ≡ Gives p b = twice r (passes_free m r h) (Gives p b) sa refl (ap (λ z. not (is_quiet z)) sb) in cc c
  cross_by r x h (Gives p b) (Gives q a) sa sb = let c : Quiet ≡ Gives p b = twice r (passes_free m r h) (Gives p b) sa refl (ap (λ z. not (is_quiet z)) sb) in cc c

  pub crosses : (r : List Micro) (x : Point) → Passes m r → then_run (one l (m ∷ []) x) (one l r) ≡ then_run (one l r x) (one l (m ∷ []))
  crosses r x h =
      ap (λ o. then_run o (one l r)) (sym (alone x)) ∙ cross_by r x h (stream_in r) (stream_of sh) refl refl ∙ then_same (one l r x) (λ y. stage_run l (stream_of sh) (m ∷ []) y) (one l (m ∷ [])) alone

  -- before some states, in place of after them
  pub cross_all : (ss : List (List Micro)) (x : Point) → some_of (λ e. may_not_pass e sh) ss ≡ false → then_run (one l (m ∷ []) x) (run l ss) ≡ then_run (run l ss x) (one l (m ∷ []))
  cross_all [] x h = then_goes (one l (m ∷ []) x)
  cross_all (r ∷ ss) x h =
      let one_h : Passes m r = or_left (some_in (λ e. may_not_pass e sh) r) (some_of (λ e. may_not_pass e sh) ss) h in
      let rest_h : some_of (λ e. may_not_pass e sh) ss ≡ false = or_right (some_in (λ e. may_not_pass e sh) r) (some_of (λ e. may_not_pass e sh) ss) h in
      sym (then_assoc (one l (m ∷ []) x) (one l r) (run l ss)) ∙ ap (λ o. then_run o (run l ss)) (crosses r x one_h) ∙ then_assoc (one l r x) (one l (m ∷ [])) (run l ss) ∙ then_same (one l r x) (λ y. then_run (one l (m ∷ []) y) (run l ss)) (λ y. then_run (run l ss y) (one l (m ∷ []))) (λ y. cross_all ss y rest_h) ∙ sym (then_assoc (one l r x) (run l ss) (one l (m ∷ [])))

  and_left : (a b : Bool) → (a && b) ≡ true → a ≡ true
  and_left true b h = refl
  and_left false b h = h

  and_right : (a b : Bool) → (a && b) ≡ true → b ≡ true
  and_right true b h = h
  and_right false b h = cc h

  not_true : (a : Bool) → not a ≡ true → a ≡ false
  not_true true h = sym h
  not_true false h = refl

  -- one more micro: the states, and then that micro
  pub placed_runs : (ss : List (List Micro)) (x : Point) → run l (placed m ss) x ≡ then_run (run l ss x) (one l (m ∷ []))
  placed_runs [] x = then_goes (one l (m ∷ []) x)
  placed_runs (s ∷ ss) x = by_test (may_stand m s ss) refl (λ y. placed_runs ss y)
    where
      by_test : (b : Bool) → may_stand m s ss ≡ b → ((y : Point) → run l (placed m ss) y ≡ then_run (run l ss y) (one l (m ∷ []))) → run l (if b then (s ++ m ∷ []) ∷ ss else s ∷ placed m ss) x ≡ then_run (run l (s ∷ ss) x) (one l (m ∷ []))
      by_test true h rest =
          let parts : (not (some_in (λ e. must_follow e sh) s) && not (some_of (λ e. may_not_pass e sh) ss)) ≡ true = and_left _ (has_room m s) h in
          let here : FreeOf m s = not_true _ (and_left _ (not (some_of (λ e. may_not_pass e sh) ss)) parts) in
          let after : some_of (λ e. may_not_pass e sh) ss ≡ false = not_true _ (and_right (not (some_in (λ e. must_follow e sh) s)) _ parts) in
          ap (λ o. then_run o (run l ss)) (joins s x here) ∙ then_assoc (one l s x) (one l (m ∷ [])) (run l ss) ∙ then_same (one l s x) (λ y. then_run (one l (m ∷ []) y) (run l ss)) (λ y. then_run (run l ss y) (one l (m ∷ []))) (λ y. cross_all ss y after) ∙ sym (then_assoc (one l s x) (run l ss) (one l (m ∷ [])))
      by_test false h rest =
          then_same (one l s x) (run l (placed m ss)) (λ y. then_run (run l ss y) (one l (m ∷ []))) rest ∙ sym (then_assoc (one l s x) (run l ss) (one l (m ∷ [])))

pub placed_all_runs : (l : List ℕ) (ms : List Micro) (ss : List (List Micro)) (x : Point) → run l (placed_all ms ss) x ≡ then_run (run l ss x) (in_order l ms)
placed_all_runs l [] ss x = sym (then_goes (run l ss x))
placed_all_runs l (m ∷ ms) ss x =
    placed_all_runs l ms (placed m ss) x ∙ ap (λ o. then_run o (in_order l ms)) (placed_runs l m ss x) ∙ then_assoc (run l ss x) (one l (m ∷ [])) (in_order l ms)

some_states_run : (l : List ℕ) (ss : List (List Micro)) (x : Point) → run l (some_states ss) x ≡ run l ss x
some_states_run l [] x = refl
some_states_run l (s ∷ ss) x = refl

-- made one after the other, the states have the effects and the events of the micros in order
pub scheduled_runs : (l : List ℕ) (ms : List Micro) (x : Point) → run l (scheduled ms) x ≡ in_order l ms x
scheduled_runs l ms x = some_states_run l (placed_all ms []) x ∙ placed_all_runs l ms [] x
