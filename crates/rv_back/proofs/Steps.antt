-- Stretches of the softcore's code.
use Rattle.std.proofs.Common.{◌≡◌, ℕ, zero, suc, ◌+◌, ◌-◌, ◌*◌, ◌/◌, ◌%◌, ◌<◌, ◌≤◌, ◌^◌, List, [], ◌∷◌, ◌++◌, length, Some, None, refl, sym, ap, ◌∙◌, subst, arith, Bool, true, false, eq-eqb}
use Rattle.std.specs.Prelude.{pos, nat_lt, nat_eq, if◌then◌else◌}
use Rattle.std.proofs.lemmas.Bool.Decides.{nat_tests}
use Rattle.std.proofs.lemmas.Bool.{ltb-true, ltb-false}
use Rattle.pld_base.specs.Words.{sum_of, product_of}
use Rattle.pld_base.specs.declared.event.Event.{Event}
use Rattle.rv_isa.specs.declared.instr.Instr.{Instr}
use Rattle.rv_core.specs.Machine.{Machine, Went, Code, act, act_if, fetched, soft_step, place_of, InRam, AtPort, extended}
use Rattle.rv_core.specs.Page.{Page, move, moved}
use Rattle.rv_core.specs.Process.{page_after}
use Rattle.pld_ast.specs.Meaning.{State}
use Rattle.rv_back.specs.Code.{neg_of, high_of, low_of}

-- the page after j moves and k more
pub page_after-sum : (code : Code) (ins outs j k : ℕ) (s : Page) → page_after code ins outs (j + k) s ≡ page_after code ins outs k (page_after code ins outs j s)
page_after-sum code ins outs zero k s = let e : 0 + k ≡ k = omega arith in ap (λ i. page_after code ins outs i s) e
page_after-sum code ins outs (suc j) k s =
    let e : suc j + k ≡ suc (j + k) = omega arith in
    ap (λ i. page_after code ins outs i s) e ∙ page_after-sum code ins outs j k (move code ins outs s)

-- a page that makes no move stays
pub page_stays : (code : Code) (ins outs : ℕ) (s : Page) → move code ins outs s ≡ s → (k : ℕ) → page_after code ins outs k s ≡ s
page_stays code ins outs s e zero = refl
page_stays code ins outs s e (suc k) = ap (page_after code ins outs k) e ∙ page_stays code ins outs s e k

-- these instructions stand in the code at this place
abbrev pub HasAt : Code → ℕ → List Instr → Type 0
HasAt code k [] = Unit {0}
HasAt code k (i ∷ is) = (code k ≡ Some i) × HasAt code (k + 1) is

pub has_front : (code : Code) (k : ℕ) (a b : List Instr) → HasAt code k (a ++ b) → HasAt code k a
has_front code k [] b h = tt
has_front code k (i ∷ a) b h = (h.0, has_front code (k + 1) a b h.1)

pub has_back : (code : Code) (k : ℕ) (a b : List Instr) → HasAt code k (a ++ b) → HasAt code (k + length a) b
has_back code k [] b h = let e : k ≡ k + 0 = omega arith in subst (λ n. HasAt code n b) e h
has_back code k (i ∷ a) b h =
    let e : k + 1 + length a ≡ k + length (i ∷ a) = omega arith in
    subst (λ n. HasAt code n b) e (has_back code (k + 1) a b h.1)

-- a code whose places are below a limit
abbrev pub IsShort : Code → Type 0
IsShort code = (k : ℕ) (i : Instr) → code k ≡ Some i → k < 2 ^ 18

fetch_at : (code : Code) (k pc : ℕ) → pc ≡ 4 * k → fetched code pc ≡ code k
fetch_at code k pc e =
    let even : nat_eq (pc % 4) 0 ≡ true = eq-eqb (pc % 4) 0 (omega arith) in
    let word : pc / 4 ≡ k = omega arith in
    ap (λ b. if b then code (pc / 4) else None) even ∙ ap code word

pub place_ram : (base count w : ℕ) → w < 16384 → place_of base count (0x20000 + 4 * w) ≡ InRam w
place_ram base count w h = grind (arith, nat_tests)

pub place_port : (base count p : ℕ) → p < count → 0x30000 ≤ base → base % 4 ≡ 0 → place_of base count (base + 4 * p) ≡ AtPort p
place_port base count p h above even = grind (arith, nat_tests)

-- ---- straight stretches

-- these instructions lead from one machine to another, each to the one after it
abbrev pub Line : ℕ → ℕ → List Instr → Machine → Machine → Type 0
Line ins outs [] m to = m ≡ to
Line ins outs (i ∷ is) m to = (m' : Machine) × (act ins outs i m ≡ Went m') × (m'.pc ≡ sum_of m.pc 4) × Line ins outs is m' to

abbrev pub on : Machine → (ℕ → List ℕ) → List Event → Page
on m left events = record { machine = m; left = left; events = events }

-- a machine with a state's words to read and its events
abbrev pub page_of : Machine → State → Page
page_of m st = on m st.left st.events

-- these instructions lead to a machine of which this holds
pub record Leads (ins outs : ℕ) (is : List Instr) (m : Machine) (Holds : Machine → Type 0) : Type 0 where
  pub to : Machine
  pub line : Line ins outs is m to
  pub holds : Holds to

line_join : (ins outs : ℕ) (a b : List Instr) (m m1 m2 : Machine) → Line ins outs a m m1 → Line ins outs b m1 m2 → Line ins outs (a ++ b) m m2
line_join ins outs [] b m m1 m2 h k = subst (λ x. Line ins outs b x m2) (sym h) k
line_join ins outs (i ∷ a) b m m1 m2 h k = (h.0, h.1, h.2, line_join ins outs a b h.0 m1 m2 h.3 k)

-- a stretch after another
pub lead_on : {ins outs : ℕ} {is js : List Instr} {m : Machine} {P Q : Machine → Type 0} → Leads ins outs is m P → ((m1 : Machine) → P m1 → Leads ins outs js m1 Q) → Leads ins outs (is ++ js) m Q
lead_on {ins} {outs} {is} {js} {m} a f =
    let b = f a.to a.holds in
    record { to = b.to; line = line_join ins outs is js m a.to b.to a.line b.line; holds = b.holds }

pub lead_with : {ins outs : ℕ} {is : List Instr} {m : Machine} {P Q : Machine → Type 0} → Leads ins outs is m P → ((to : Machine) → P to → Q to) → Leads ins outs is m Q
lead_with a f = record { to = a.to; line = a.line; holds = f a.to a.holds }

module _ (code : Code) (short : IsShort code) (ins outs : ℕ) where
  abbrev go : ℕ → Page → Page
  go = page_after code ins outs

  -- one instruction
  pub step_is : (k : ℕ) (i : Instr) (m : Machine) → code k ≡ Some i → m.pc ≡ 4 * k → soft_step code ins outs m ≡ act ins outs i m
  step_is k i m h e = ap (λ o. act_if ins outs o m) (fetch_at code k m.pc e ∙ h)

  pub line_moves : (is : List Instr) (k : ℕ) (m to : Machine) (left : ℕ → List ℕ) (events : List Event) → HasAt code k is → m.pc ≡ 4 * k → Line ins outs is m to → (go (length is) (on m left events) ≡ on to left events) × (to.pc ≡ 4 * (k + length is))
  line_moves [] k m to left events has e l = (ap (λ x. on x left events) l, ap (λ x. x.pc) (sym l) ∙ e ∙ (let n : 4 * k ≡ 4 * (k + 0) = omega arith in n))
  line_moves (i ∷ is) k m to left events has e l =
      let room : k < 2 ^ 18 = short k i has.0 in
      let pc : l.0.pc ≡ 4 * (k + 1) = l.2 ∙ ap (λ n. sum_of n 4) e ∙ (let n : sum_of (4 * k) 4 ≡ 4 * (k + 1) = omega arith in n) in
      let first : move code ins outs (on m left events) ≡ on l.0 left events = ap (λ s. moved s (on m left events)) (step_is k i m has.0 e ∙ l.1) in
      let rest = line_moves is (k + 1) l.0 to left events has.1 pc l.3 in
      (ap (go (length is)) first ∙ rest.0, rest.1 ∙ (let n : 4 * (k + 1 + length is) ≡ 4 * (k + length (i ∷ is)) = omega arith in n))

  pub moves_on : (j k : ℕ) (a b c : Page) → go j a ≡ b → go k b ≡ c → go (j + k) a ≡ c
  moves_on j k a b c e f = page_after-sum code ins outs j k a ∙ ap (go k) e ∙ f

-- ---- constants

pub extended_neg : (n : ℕ) → 0 < n → extended (neg_of n) ≡ 2 ^ 32 - n
extended_neg zero h = absurd (omega arith)
extended_neg (suc n) h = omega arith

const_by : (v : ℕ) (b : Bool) → v < 2 ^ 32 → nat_lt (v % 4096) 2048 ≡ b → sum_of (product_of 4096 (high_of v)) (extended (if b then pos (v % 4096) else neg_of (4096 - v % 4096))) ≡ v
const_by v true h e = let low : v % 4096 < 2048 = ltb-true (v % 4096) 2048 e in omega arith
const_by v false h e =
    let low : 2048 ≤ v % 4096 = ltb-false (v % 4096) 2048 e in
    let n : extended (neg_of (4096 - v % 4096)) ≡ 2 ^ 32 - (4096 - v % 4096) = extended_neg (4096 - v % 4096) (omega arith) in
    ap (λ x. sum_of (product_of 4096 (high_of v)) x) n ∙ omega arith

pub const_value : (v : ℕ) → v < 2 ^ 32 → sum_of (product_of 4096 (high_of v)) (extended (low_of v)) ≡ v
const_value v h = const_by v (nat_lt (v % 4096) 2048) h refl
