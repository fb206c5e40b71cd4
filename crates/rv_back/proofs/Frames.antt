-- The program's variables in the machine: the first scalars in registers, all others in the RAM.
use Rattle.std.proofs.Common.{◌≡◌, ℕ, zero, suc, ◌+◌, ◌<◌, ◌≤◌, ◌≢◌, List, [], ◌∷◌, length, take, Option, Some, None, refl, sym, ap, ◌∙◌, ⊎_elim, arith, inl, inr, Bool, true, false, eq-eqb}
use Rattle.std.specs.Prelude.{nat_eq, nat_lt, if◌then◌else◌, sum, slice_index, All}
use Rattle.std.proofs.lemmas.Bool.{cases_lt, ltb-true, ltb-false}
use Rattle.std.proofs.lemmas.Bool.Decides.{eqb_tells}
use Rattle.std.proofs.lemmas.List.Sums.{sum_by-cons}
use Rattle.pld_base.specs.Words.{IsWord}
use Rattle.pld_base.specs.Lists.{with}
use Rattle.pld_base.specs.declared.event.Event.{Event}
use Rattle.rv_core.specs.Machine.{Machine, reg, set_reg}
use Rattle.pld_ast.specs.Program.{Program}
use Rattle.pld_ast.specs.Sound.{IsSound}
use Rattle.pld_ast.specs.Meaning.{State, set_scalar, set_element}
use Rattle.rv_back.specs.Code.{register_at, base_of}
use Rattle.pld_ast.specs.AreWords.{WroteWords, StateWords}
use Rattle.pld_ast.proofs.WordLaws.{scalar_words, element_words}

-- ---- functions changed at one place

pub with_same : (f : ℕ → ℕ) (k v : ℕ) → with f k v k ≡ v
with_same f k v = ap (λ b. if b then v else f k) (eq-eqb k k refl)

pub with_other : (f : ℕ → ℕ) (k v j : ℕ) → j ≢ k → with f k v j ≡ f j
with_other f k v j h = elim (eqb_tells j k) as (λ _. with f k v j ≡ f j) [
  | inl e ↦ absurd (h e.1)
  | inr e ↦ ap (λ b. if b then v else f j) e.0
]

-- a register above 11 isn't one below
pub past : (k x y r : ℕ) → k < 12 → 12 ≤ r → (if nat_eq r k then x else y) ≡ y
past k x y r below h = with_other (λ j. y) k x r (let n : r ≢ k = omega arith in n)

pub past2 : (x y r : ℕ) → 12 ≤ r → (if nat_eq r 2 then x else y) ≡ y
past2 x y r h = past 2 x y r (omega arith) h

pub past10 : (x y r : ℕ) → 12 ≤ r → (if nat_eq r 10 then x else y) ≡ y
past10 x y r h = past 10 x y r (omega arith) h

pub past11 : (x y r : ℕ) → 12 ≤ r → (if nat_eq r 11 then x else y) ≡ y
past11 x y r h = past 11 x y r (omega arith) h

-- ---- where a scalar stands

abbrev pub StandsAt : ℕ → Option ℕ → Type 0
StandsAt s (Some r) = (r ≡ 12 + s) × (s < 20)
StandsAt s None = 20 ≤ s

stands_if : (b : Bool) (s : ℕ) → nat_lt s 20 ≡ b → StandsAt s (if b then Some (12 + s) else None)
stands_if true s e = (refl, ltb-true s 20 e)
stands_if false s e = ltb-false s 20 e

pub stands_at : (s : ℕ) → StandsAt s (register_at s)
stands_at s = stands_if (nat_lt s 20) s refl

pub reg_high : (m : Machine) (r : ℕ) → 12 ≤ r → reg m r ≡ m.regs r
reg_high m zero h = absurd (omega arith)
reg_high m (suc r) h = refl

pub set_high : (m : Machine) (r v : ℕ) → 12 ≤ r → set_reg m r v ≡ record m { regs = with m.regs r v }
set_high m zero v h = absurd (omega arith)
set_high m (suc r) v h = refl

-- ---- what code keeps

-- what a value's code keeps: the three pointers, the registers of scalars, and the RAM below the d-th pushed word
pub record Kept (d : ℕ) (m to : Machine) : Type 0 where
  pub x2 : to.regs 2 ≡ m.regs 2
  pub x8 : to.regs 8 ≡ m.regs 8
  pub x9 : to.regs 9 ≡ m.regs 9
  pub high : (r : ℕ) → 12 ≤ r → to.regs r ≡ m.regs r
  pub ram : (w : ℕ) → w < 8256 + d → to.ram w ≡ m.ram w

pub kept_on : {c d : ℕ} {m m1 m2 : Machine} → c ≤ d → Kept c m m1 → Kept d m1 m2 → Kept c m m2
kept_on le a b = record {
  x2 = b.x2 ∙ a.x2;
  x8 = b.x8 ∙ a.x8;
  x9 = b.x9 ∙ a.x9;
  high = λ r h. b.high r h ∙ a.high r h;
  ram = λ w h. b.ram w (omega arith) ∙ a.ram w h;
}

-- only registers below 12 have changed, and no pointer
pub kept_by : {m to : Machine} → to.regs 2 ≡ m.regs 2 → to.regs 8 ≡ m.regs 8 → to.regs 9 ≡ m.regs 9 → ((r : ℕ) → 12 ≤ r → to.regs r ≡ m.regs r) → to.ram ≡ m.ram → Kept 8128 m to
kept_by x2 x8 x9 high ram = record { x2 = x2; x8 = x8; x9 = x9; high = high; ram = λ w h. ap (λ f. f w) ram }

-- v is in x10, and the rest is kept
pub record Gives (v : ℕ) (m to : Machine) : Type 0 where
  pub x10 : to.regs 10 ≡ v
  pub kept : Kept 8128 m to

-- the machine's variables are the program's
pub record Frame (g : Program) (st : State) (m : Machine) : Type 0 where
  pub x8 : m.regs 8 ≡ 0x20000
  pub x9 : m.regs 9 ≡ 0x8000_0000
  pub near : (s : ℕ) → s < g.scalars → s < 20 → m.regs (12 + s) ≡ st.scalars s
  pub far : (s : ℕ) → s < g.scalars → 20 ≤ s → m.ram s ≡ st.scalars s
  pub arrays : (t i : ℕ) → t < length g.lengths → i < slice_index g.lengths t → m.ram (base_of g.lengths t + i) ≡ st.arrays t i
  pub words : StateWords st

-- ---- arrays

-- an array ends where all arrays end, or before
pub within : (l : List ℕ) (t : ℕ) → t < length l → sum (take t l) + slice_index l t ≤ sum l
within [] t h = absurd (omega arith)
within (x ∷ l) zero h = let e : sum (x ∷ l) ≡ x + sum l = sum_by-cons (λ n. n) x l in omega arith
within (x ∷ l) (suc t) h =
    let k : sum (take t l) + slice_index l t ≤ sum l = within l t (omega arith) in
    let e : sum (x ∷ l) ≡ x + sum l = sum_by-cons (λ n. n) x l in
    let f : sum (x ∷ take t l) ≡ x + sum (take t l) = sum_by-cons (λ n. n) x (take t l) in
    omega arith

-- an array ends where a later one begins, or before
ordered : (l : List ℕ) (t u : ℕ) → t < u → u < length l → sum (take t l) + slice_index l t ≤ sum (take u l)
ordered [] t u h k = absurd (omega arith)
ordered (x ∷ l) t zero h k = absurd (omega arith)
ordered (x ∷ l) zero (suc u) h k = let e : sum (x ∷ take u l) ≡ x + sum (take u l) = sum_by-cons (λ n. n) x (take u l) in omega arith
ordered (x ∷ l) (suc t) (suc u) h k =
    let i : sum (take t l) + slice_index l t ≤ sum (take u l) = ordered l t u (omega arith) (omega arith) in
    let e : sum (x ∷ take u l) ≡ x + sum (take u l) = sum_by-cons (λ n. n) x (take u l) in
    let f : sum (x ∷ take t l) ≡ x + sum (take t l) = sum_by-cons (λ n. n) x (take t l) in
    omega arith

-- elements of different arrays stand at different words
apart : (l : List ℕ) (t u i j : ℕ) → t ≢ u → t < length l → u < length l → i < slice_index l t → j < slice_index l u → base_of l t + i ≢ base_of l u + j
apart l t u i j other ht hu hi hj e =
    ⊎_elim (λ lt. let o = ordered l t u lt hu in omega arith) (λ le. let lt : u < t = omega arith in let o = ordered l u t lt ht in omega arith) (cases_lt t u)

module _ (g : Program) (sound : IsSound g) where
  -- the arrays' words end where the pushed ones begin
  pub array_within : (t i : ℕ) → t < length g.lengths → i < slice_index g.lengths t → base_of g.lengths t + i < 8256
  array_within t i h k = omega (arith, within g.lengths t h, sound.words)

  pub frame_same : (st : State) (m to : Machine) → Frame g st m → to.regs 8 ≡ m.regs 8 → to.regs 9 ≡ m.regs 9 → ((r : ℕ) → 12 ≤ r → to.regs r ≡ m.regs r) → ((w : ℕ) → w < 8256 → to.ram w ≡ m.ram w) → Frame g st to
  frame_same st m to f x8 x9 high ram = record {
    x8 = x8 ∙ f.x8;
    x9 = x9 ∙ f.x9;
    near = λ s h l. high (12 + s) (omega arith) ∙ f.near s h l;
    far = λ s h l. ram s (omega (arith, sound.scalars)) ∙ f.far s h l;
    arrays = λ t i h j. ram (base_of g.lengths t + i) (array_within t i h j) ∙ f.arrays t i h j;
    words = f.words;
  }

  pub frame_kept : (st : State) (d : ℕ) (m to : Machine) → Frame g st m → Kept d m to → Frame g st to
  frame_kept st d m to f k = frame_same st m to f k.x8 k.x9 k.high (λ w h. k.ram w (omega arith))

  -- ---- stores

  -- a scalar's register, by its number
  near_word : (st : State) (m : Machine) (s v u : ℕ) → Frame g st m → u < g.scalars → u < 20 → with m.regs (12 + s) v (12 + u) ≡ with st.scalars s v u
  near_word st m s v u f h l = elim (eqb_tells u s) as (λ _. with m.regs (12 + s) v (12 + u) ≡ with st.scalars s v u) [
    | inl e ↦ ap (λ n. with m.regs (12 + s) v (12 + n)) e.1 ∙ with_same m.regs (12 + s) v ∙ sym (ap (λ b. if b then v else st.scalars u) e.0)
    | inr e ↦ with_other m.regs (12 + s) v (12 + u) (λ same. e.1 (omega arith)) ∙ f.near u h l ∙ sym (ap (λ b. if b then v else st.scalars u) e.0)
  ]

  -- a scalar in a register is changed
  pub frame_near : (st : State) (m to : Machine) (s v : ℕ) → Frame g st m → s < 20 → IsWord v → to.regs ≡ with m.regs (12 + s) v → to.ram ≡ m.ram → Frame g (set_scalar st s v) to
  frame_near st m to s v f h w regs ram = record {
    x8 = ap (λ r. r 8) regs ∙ with_other m.regs (12 + s) v 8 (let n : 8 ≢ 12 + s = omega arith in n) ∙ f.x8;
    x9 = ap (λ r. r 9) regs ∙ with_other m.regs (12 + s) v 9 (let n : 9 ≢ 12 + s = omega arith in n) ∙ f.x9;
    near = λ u k l. ap (λ r. r (12 + u)) regs ∙ near_word st m s v u f k l;
    far = λ u k l. ap (λ r. r u) ram ∙ f.far u k l ∙ sym (with_other st.scalars s v u (let n : u ≢ s = omega arith in n));
    arrays = λ t i k j. ap (λ r. r (base_of g.lengths t + i)) ram ∙ f.arrays t i k j;
    words = scalar_words st s v f.words w;
  }

  -- a scalar in the RAM is changed
  pub frame_far : (st : State) (m to : Machine) (s v : ℕ) → Frame g st m → s < g.scalars → 20 ≤ s → IsWord v → to.regs ≡ m.regs → to.ram ≡ with m.ram s v → Frame g (set_scalar st s v) to
  frame_far st m to s v f h above w regs ram = record {
    x8 = ap (λ r. r 8) regs ∙ f.x8;
    x9 = ap (λ r. r 9) regs ∙ f.x9;
    near = λ u k l. ap (λ r. r (12 + u)) regs ∙ f.near u k l ∙ sym (with_other st.scalars s v u (let n : u ≢ s = omega arith in n));
    far = λ u k l. ap (λ r. r u) ram ∙ ap (λ x. if nat_eq u s then v else x) (f.far u k l);
    arrays = λ t i k j. ap (λ r. r (base_of g.lengths t + i)) ram ∙ with_other m.ram s v (base_of g.lengths t + i) (let small = sound.scalars in let n : base_of g.lengths t + i ≢ s = omega arith in n) ∙ f.arrays t i k j;
    words = scalar_words st s v f.words w;
  }

  -- an element's word, by its array and its index
  element_word : (st : State) (m : Machine) (t i v u j : ℕ) → Frame g st m → t < length g.lengths → i < slice_index g.lengths t → u < length g.lengths → j < slice_index g.lengths u → with m.ram (base_of g.lengths t + i) v (base_of g.lengths u + j) ≡ with st.arrays t (with (st.arrays t) i v) u j
  element_word st m t i v u j f ht hi hu hj = elim (eqb_tells u t) as (λ _. with m.ram (base_of g.lengths t + i) v (base_of g.lengths u + j) ≡ with st.arrays t (with (st.arrays t) i v) u j) [
    | inl e ↦ (elim (eqb_tells j i) as (λ _. with m.ram (base_of g.lengths t + i) v (base_of g.lengths u + j) ≡ with st.arrays t (with (st.arrays t) i v) u j) [
      | inl d ↦ (ap (λ n. with m.ram (base_of g.lengths t + i) v (base_of g.lengths n + j)) e.1 ∙ ap (λ n. with m.ram (base_of g.lengths t + i) v (base_of g.lengths t + n)) d.1 ∙ with_same m.ram (base_of g.lengths t + i) v ∙ sym (ap (λ b. (if b then with (st.arrays t) i v else st.arrays u) j) e.0 ∙ ap (λ b. if b then v else st.arrays t j) d.0))
      | inr d ↦ (with_other m.ram (base_of g.lengths t + i) v (base_of g.lengths u + j) (λ same. d.1 (let bases : base_of g.lengths u ≡ base_of g.lengths t = ap (base_of g.lengths) e.1 in omega arith)) ∙ f.arrays u j hu hj ∙ ap (λ n. st.arrays n j) e.1 ∙ sym (ap (λ b. (if b then with (st.arrays t) i v else st.arrays u) j) e.0 ∙ ap (λ b. if b then v else st.arrays t j) d.0))
    ])
    | inr e ↦ (with_other m.ram (base_of g.lengths t + i) v (base_of g.lengths u + j) (apart g.lengths u t j i e.1 hu ht hj hi) ∙ f.arrays u j hu hj ∙ sym (ap (λ b. (if b then with (st.arrays t) i v else st.arrays u) j) e.0))
  ]

  -- an element is changed
  pub frame_element : (st : State) (m to : Machine) (t i v : ℕ) → Frame g st m → t < length g.lengths → i < slice_index g.lengths t → IsWord v → to.regs ≡ m.regs → to.ram ≡ with m.ram (base_of g.lengths t + i) v → Frame g (set_element st t i v) to
  frame_element st m to t i v f h k w regs ram = record {
    x8 = ap (λ r. r 8) regs ∙ f.x8;
    x9 = ap (λ r. r 9) regs ∙ f.x9;
    near = λ s j l. ap (λ r. r (12 + s)) regs ∙ f.near s j l;
    far = λ s j l. ap (λ r. r s) ram ∙ with_other m.ram (base_of g.lengths t + i) v s (let small = sound.scalars in let n : s ≢ base_of g.lengths t + i = omega arith in n) ∙ f.far s j l;
    arrays = λ u j hu hj. ap (λ r. r (base_of g.lengths u + j)) ram ∙ element_word st m t i v u j f h k hu hj;
    words = element_words st t i v f.words w;
  }

  -- other words to read, and other events
  pub frame_left : (st : State) (m : Machine) (left : ℕ → List ℕ) (events : List Event) → Frame g st m → ((p : ℕ) → All IsWord (left p)) → WroteWords events → Frame g (record st { left = left; events = events }) m
  frame_left st m left events f l e = record {
    x8 = f.x8;
    x9 = f.x9;
    near = f.near;
    far = f.far;
    arrays = f.arrays;
    words = record { scalars = f.words.scalars; arrays = f.words.arrays; left = l; written = e };
  }
