-- Micros that have nothing to do with one another can be made in either order.
use Rattle.std.proofs.Common.{◌≡◌, ℕ, List, Option, Some, None, refl, sym, ap, ◌∙◌, Bool, true, false, inl, inr, arith}
use Rattle.std.specs.Prelude.{nat_eq, ◌||◌, if◌then◌else◌}
use std.Path.{fun_ext}
use Rattle.std.proofs.lemmas.Bool.Decides.{eqb_tells, nat_tests}
use Rattle.pld_base.specs.Lists.{with}
use Rattle.fsm_core.specs.Shapes.{Cells, Shape, Sets, Sets1, Sets2, Loads, Stores, Reads, Writes, effect, set_reg, set_word, index_at}
use Rattle.fsm_core.specs.Shapes.{target, is_register, writes}
use Rattle.fsm_sched.specs.Rule.{reads, touched, hits, read_by, feeds_on, Access, Free, Loading, Storing, access_of, is_store_to, clash, clashes}

-- ---- tests

pub or_left : (a b : Bool) → (a || b) ≡ false → a ≡ false
or_left true b h = h
or_left false b h = refl

pub or_right : (a b : Bool) → (a || b) ≡ false → b ≡ false
or_right true b h = cc h
or_right false b h = h

pub or_first : (a b : Bool) → a ≡ true → (a || b) ≡ true
or_first true b h = refl
or_first false b h = cc h

pub or_second : (a b : Bool) → b ≡ true → (a || b) ≡ true
or_second true b h = refl
or_second false b h = h

pub same_test : (n : ℕ) → nat_eq n n ≡ true
same_test n = grind (arith, nat_tests)

pub same_swapped : (a b : ℕ) → nat_eq a b ≡ nat_eq b a
same_swapped a b = grind (arith, nat_tests)

pub same_is : (a b : ℕ) → nat_eq a b ≡ true → a ≡ b
same_is a b h = elim (eqb_tells a b) as (λ _. a ≡ b) [
  | inl e ↦ e.1
  | inr e ↦ (let c : true ≡ false = sym h ∙ e.0 in cc c)
]

-- ---- writes to one cell

-- a write of a register, if there is one
abbrev pub put : Option ℕ → ℕ → (ℕ → ℕ) → ℕ → ℕ
put None v f = f
put (Some t) v f = with f t v

abbrev pub put_word : Access → ℕ → ℕ → (ℕ → ℕ → ℕ) → ℕ → ℕ → ℕ
put_word Free i v f = f
put_word (Loading u) i v f = f
put_word (Storing u) i v f = with f u (with (f u) i v)

-- the word that goes to the target
abbrev pub value : List ℕ → ℕ → Shape → Cells → ℕ
value l w (Sets t v) from = v
value l w (Sets1 t a f) from = f (from.regs a)
value l w (Sets2 t a b f) from = f (from.regs a) (from.regs b)
value l w (Loads t u a) from = from.arrays u (index_at l u (from.regs a))
value l w (Stores u a b) from = from.regs b
value l w (Reads t p) from = w
value l w (Writes p a) from = 0

abbrev pub place : List ℕ → Shape → Cells → ℕ
place l (Sets t v) from = 0
place l (Sets1 t a f) from = 0
place l (Sets2 t a b f) from = 0
place l (Loads t u a) from = 0
place l (Stores u a b) from = index_at l u (from.regs a)
place l (Reads t p) from = 0
place l (Writes p a) from = 0

abbrev pub cells : (ℕ → ℕ) → (ℕ → ℕ → ℕ) → Cells
cells r a = record { regs = r; arrays = a }

abbrev pub cells_same : (r r' : ℕ → ℕ) (a a' : ℕ → ℕ → ℕ) → r ≡ r' → a ≡ a' → cells r a ≡ cells r' a'
cells_same r r' a a' e f = ap (λ x. cells x a) e ∙ ap (cells r') f

pub effect_is : (l : List ℕ) (w : ℕ) (sh : Shape) (from to : Cells) → effect l w sh from to ≡ cells (put (target sh) (value l w sh from) to.regs) (put_word (access_of sh) (place l sh from) (value l w sh from) to.arrays)
effect_is l w (Sets t v) from to = refl
effect_is l w (Sets1 t a f) from to = refl
effect_is l w (Sets2 t a b f) from to = refl
effect_is l w (Loads t u a) from to = refl
effect_is l w (Stores u a b) from to = refl
effect_is l w (Reads t p) from to = refl
effect_is l w (Writes p a) from to = refl

-- ---- sources

-- these cells hold what a micro reads just as those
pub record Agrees (sh : Shape) (c d : Cells) : Type 0 where
  pub regs : (r : ℕ) → reads sh r ≡ true → c.regs r ≡ d.regs r
  pub arrays : (u : ℕ) → access_of sh ≡ Loading u → c.arrays u ≡ d.arrays u

pub same_effect : (l : List ℕ) (w : ℕ) (sh : Shape) (c d to : Cells) → Agrees sh c d → effect l w sh c to ≡ effect l w sh d to
same_effect l w (Sets t v) c d to h = refl
same_effect l w (Sets1 t a f) c d to h = ap (λ x. set_reg to t (f x)) (h.regs a (same_test a))
same_effect l w (Sets2 t a b f) c d to h =
    ap (λ x. set_reg to t (f x (c.regs b))) (h.regs a (or_first _ _ (same_test a))) ∙ ap (λ x. set_reg to t (f (d.regs a) x)) (h.regs b (or_second _ _ (same_test b)))
same_effect l w (Loads t u a) c d to h =
    ap (λ x. set_reg to t (x (index_at l u (c.regs a)))) (h.arrays u refl) ∙ ap (λ x. set_reg to t (d.arrays u (index_at l u x))) (h.regs a (same_test a))
same_effect l w (Stores u a b) c d to h =
    ap (λ x. set_word to u (index_at l u x) (c.regs b)) (h.regs a (or_first _ _ (same_test a))) ∙ ap (λ x. set_word to u (index_at l u (d.regs a)) x) (h.regs b (or_second _ _ (same_test b)))
same_effect l w (Reads t p) c d to h = refl
same_effect l w (Writes p a) c d to h = refl

-- ---- what a write leaves as it is

kept_by : (b : Bool) (v x : ℕ) → b ≡ false → (if b then v else x) ≡ x
kept_by true v x h = cc h
kept_by false v x h = refl

put_keeps : (o : Option ℕ) (v : ℕ) (f : ℕ → ℕ) (r : ℕ) → is_register o r ≡ false → put o v f r ≡ f r
put_keeps None v f r h = refl
put_keeps (Some t) v f r h = kept_by (nat_eq r t) v (f r) h

-- a micro that doesn't write a register leaves it
pub effect_keeps : (l : List ℕ) (w : ℕ) (sh : Shape) (from to : Cells) (r : ℕ) → writes sh r ≡ false → (effect l w sh from to).regs r ≡ to.regs r
effect_keeps l w sh from to r h = ap (λ c. c.regs r) (effect_is l w sh from to) ∙ put_keeps (target sh) (value l w sh from) to.regs r h

array_kept_by : (b : Bool) (g f : ℕ → ℕ) → b ≡ false → (if b then g else f) ≡ f
array_kept_by true g f h = cc h
array_kept_by false g f h = refl

put_word_keeps : (a : Access) (i v : ℕ) (f : ℕ → ℕ → ℕ) (u : ℕ) → is_store_to a u ≡ false → put_word a i v f u ≡ f u
put_word_keeps Free i v f u h = refl
put_word_keeps (Loading x) i v f u h = refl
put_word_keeps (Storing x) i v f u h = array_kept_by (nat_eq u x) (with (f x) i v) (f u) (same_swapped u x ∙ h)

pub effect_keeps_array : (l : List ℕ) (w : ℕ) (sh : Shape) (from to : Cells) (u : ℕ) → is_store_to (access_of sh) u ≡ false → (effect l w sh from to).arrays u ≡ to.arrays u
effect_keeps_array l w sh from to u h = ap (λ c. c.arrays u) (effect_is l w sh from to) ∙ put_word_keeps (access_of sh) (place l sh from) (value l w sh from) to.arrays u h

-- ---- independent micros

-- where e writes nothing that m reads, and stores nothing that m loads
pub record Spares (e m : Shape) : Type 0 where
  pub regs : (r : ℕ) → reads m r ≡ true → writes e r ≡ false
  pub arrays : (u : ℕ) → access_of m ≡ Loading u → is_store_to (access_of e) u ≡ false

pub spared : (l : List ℕ) (w : ℕ) (e m : Shape) (from to : Cells) → Spares e m → Agrees m (effect l w e from to) to
spared l w e m from to h = record {
  regs = λ r k. effect_keeps l w e from to r (h.regs r k);
  arrays = λ u k. effect_keeps_array l w e from to u (h.arrays u k);
}

-- where their targets differ
pub record Apart (e m : Shape) : Type 0 where
  pub regs : (t : ℕ) → target e ≡ Some t → writes m t ≡ false
  pub arrays : (u : ℕ) → access_of e ≡ Storing u → is_store_to (access_of m) u ≡ false

with_swapped : (f : ℕ → ℕ) (t u v w : ℕ) → nat_eq t u ≡ false → with (with f t v) u w ≡ with (with f u w) t v
with_swapped f t u v w h = fun_ext (λ r. at r (nat_eq r u) (nat_eq r t) refl refl)
  where
    at : (r : ℕ) (a b : Bool) → nat_eq r u ≡ a → nat_eq r t ≡ b → (if a then w else (if b then v else f r)) ≡ (if b then v else (if a then w else f r))
    at r true true e d = let c : true ≡ false = sym (ap (λ x. nat_eq x u) (sym (same_is r t d)) ∙ e) ∙ h in cc c
    at r true false e d = refl
    at r false true e d = refl
    at r false false e d = refl

arrays_swapped : (f : ℕ → ℕ → ℕ) (t u i j v w : ℕ) → nat_eq t u ≡ false → (let g = with f t (with (f t) i v) in with g u (with (g u) j w)) ≡ (let g = with f u (with (f u) j w) in with g t (with (g t) i v))
arrays_swapped f t u i j v w h = fun_ext (λ r. at r (nat_eq r u) (nat_eq r t) refl refl)
  where
    ut : nat_eq u t ≡ false
    ut = same_swapped u t ∙ h

    at : (r : ℕ) (a b : Bool) → nat_eq r u ≡ a → nat_eq r t ≡ b → (if a then with (if nat_eq u t then with (f t) i v else f u) j w else (if b then with (f t) i v else f r)) ≡ (if b then with (if nat_eq t u then with (f u) j w else f t) i v else (if a then with (f u) j w else f r))
    at r true true e d = let c : true ≡ false = sym (ap (λ x. nat_eq x u) (sym (same_is r t d)) ∙ e) ∙ h in cc c
    at r true false e d = ap (λ b. with (if b then with (f t) i v else f u) j w) ut
    at r false true e d = sym (ap (λ b. with (if b then with (f u) j w else f t) i v) h)
    at r false false e d = refl

puts_swap : (o p : Option ℕ) (v w : ℕ) (f : ℕ → ℕ) → ((t : ℕ) → o ≡ Some t → is_register p t ≡ false) → put p w (put o v f) ≡ put o v (put p w f)
puts_swap None None v w f h = refl
puts_swap None (Some u) v w f h = refl
puts_swap (Some t) None v w f h = refl
puts_swap (Some t) (Some u) v w f h = with_swapped f t u v w (h t refl)

words_swap : (a b : Access) (i j v w : ℕ) (f : ℕ → ℕ → ℕ) → ((t : ℕ) → a ≡ Storing t → is_store_to b t ≡ false) → put_word b j w (put_word a i v f) ≡ put_word a i v (put_word b j w f)
words_swap Free Free i j v w f h = refl
words_swap Free (Loading u) i j v w f h = refl
words_swap Free (Storing u) i j v w f h = refl
words_swap (Loading t) Free i j v w f h = refl
words_swap (Loading t) (Loading u) i j v w f h = refl
words_swap (Loading t) (Storing u) i j v w f h = refl
words_swap (Storing t) Free i j v w f h = refl
words_swap (Storing t) (Loading u) i j v w f h = refl
words_swap (Storing t) (Storing u) i j v w f h = arrays_swapped f t u i j v w (same_swapped t u ∙ h t refl)

-- micros with different targets can be made in either order, each from its own sources
pub effects_swap : (l : List ℕ) (v w : ℕ) (e m : Shape) (c d to : Cells) → Apart e m → effect l w m d (effect l v e c to) ≡ effect l v e c (effect l w m d to)
effects_swap l v w e m c d to h =
    ap (effect l w m d) (effect_is l v e c to) ∙ effect_is l w m d (cells (put (target e) (value l v e c) to.regs) (put_word (access_of e) (place l e c) (value l v e c) to.arrays)) ∙ cells_same _ _ _ _ (puts_swap (target e) (target m) (value l v e c) (value l w m d) to.regs h.regs) (words_swap (access_of e) (access_of m) (place l e c) (place l m d) (value l v e c) (value l w m d) to.arrays h.arrays) ∙ sym (ap (effect l v e c) (effect_is l w m d to) ∙ effect_is l v e c (cells (put (target m) (value l w m d) to.regs) (put_word (access_of m) (place l m d) (value l w m d) to.arrays)))

-- ---- from the tests

-- e writes nothing that m reads or writes, and no access clashes
pub spares : (e m : Shape) → hits e m ≡ false → clashes e m ≡ false → Spares e m
spares e m h k = record {
  regs = λ r read. by_target (target e) r h read;
  arrays = λ u load. by_access (access_of e) u (ap (clash (access_of e)) (sym load) ∙ k);
}
  where
    by_target : (o : Option ℕ) (r : ℕ) → touched o m ≡ false → reads m r ≡ true → is_register o r ≡ false
    by_target None r h read = refl
    by_target (Some t) r h read = by_test (nat_eq r t) refl
      where
        by_test : (b : Bool) → nat_eq r t ≡ b → b ≡ false
        by_test true e = let c : true ≡ false = sym read ∙ ap (reads m) (same_is r t e) ∙ or_left (reads m t) (writes m t) h in c
        by_test false e = refl

    by_access : (a : Access) (u : ℕ) → clash a (Loading u) ≡ false → is_store_to a u ≡ false
    by_access a u h = h

pub apart : (e m : Shape) → hits e m ≡ false → clashes e m ≡ false → Apart e m
apart e m h k = record {
  regs = λ t same. by_target (target e) t same h;
  arrays = λ u same. by_access (access_of e) (access_of m) u same k;
}
  where
    by_target : (o : Option ℕ) (t : ℕ) → o ≡ Some t → touched o m ≡ false → writes m t ≡ false
    by_target None t same h = cc same
    by_target (Some u) t same h = let eq : u ≡ t = cc same in or_right (reads m t) (writes m t) (ap (λ x. touched (Some x) m) (sym eq) ∙ h)

    by_access : (a b : Access) (u : ℕ) → a ≡ Storing u → clash a b ≡ false → is_store_to b u ≡ false
    by_access Free b u same k = cc same
    by_access (Loading x) b u same k = cc same
    by_access (Storing x) Free u same k = refl
    by_access (Storing x) (Loading y) u same k = refl
    by_access (Storing x) (Storing y) u same k = let eq : x ≡ u = cc same in same_swapped y u ∙ ap (λ z. nat_eq z y) (sym eq) ∙ k

-- and m writes nothing that e reads
pub spares_back : (e m : Shape) → feeds_on e m ≡ false → clashes e m ≡ false → Spares m e
spares_back e m h k = record {
  regs = λ r read. by_target (target m) r h read;
  arrays = λ u load. by_access (access_of m) u (ap (λ a. clash a (access_of m)) (sym load) ∙ k);
}
  where
    by_target : (o : Option ℕ) (r : ℕ) → read_by o e ≡ false → reads e r ≡ true → is_register o r ≡ false
    by_target None r h read = refl
    by_target (Some t) r h read = by_test (nat_eq r t) refl
      where
        by_test : (b : Bool) → nat_eq r t ≡ b → b ≡ false
        by_test true eq = let c : true ≡ false = sym read ∙ ap (reads e) (same_is r t eq) ∙ h in c
        by_test false eq = refl

    by_access : (b : Access) (u : ℕ) → clash (Loading u) b ≡ false → is_store_to b u ≡ false
    by_access Free u h = refl
    by_access (Loading x) u h = refl
    by_access (Storing x) u h = same_swapped x u ∙ h
