-- What each function of a leaf keeps of its side facts.
use Rattle.std.proofs.Common.{◌≡◌, ℕ, ◌+◌, ◌<◌, ◌≤◌, not, Bool, true, false, cond, List, [], ◌∷◌, length, get_or, refl, ap, sym, ◌∙◌, arith, Option, Some, None, subst, inl, inr}
use Rattle.std.specs.Prelude.{if◌then◌else◌, ◌==◌, nat_lt, slice_index_or, slice_set}
use Rattle.std.specs.List.{sum_by}
use Rattle.std.proofs.lemmas.Bool.Decides.{nat_tests}
use Rattle.std.proofs.lemmas.List.{length-set, get_or-set_same, get_or-set_other}
use Rattle.std.proofs.lemmas.List.Sums.{sum_by-cons, sum_by_push}
use Rattle.net_switch.specs.declared.packet.Row.{Row}
use Rattle.net_switch.specs.declared.packet.Packet.{Packet}
use Rattle.net_switch.specs.declared.packet.Body.{Body}
use Rattle.net_switch.specs.declared.packet.Body.TheVariants.{Data, Credit, Config}
use Rattle.leaf_port.specs.Ports.{InState, fresh_in}
use Rattle.leaf_port.specs.declared.ports.Waiting.{Waiting}
use Rattle.leaf_port.specs.Leaf.{LeafState, in_port, out_port, row_of, next_word, wrote, took, delivered, owed_from, to_other_end, offer_word, offer_own, offer_new, offer_first, offered}
use Rattle.channel_account.specs.Network.{Ends, IsLink, row_to}
use Rattle.fabric_run.specs.World.{Rows, taken_in}
use Rattle.net_switch.specs.Switch.{weighs}
use Rattle.fabric_keeps.specs.Links.{is_row, is_from_end, is_to_end, is_linked_in, is_linked_out, is_body_for, is_stray, IsAt}
use Rattle.fabric_keeps.proofs.Base.{both, and_of, eq_same, same_eq, lt_true}
use Rattle.fabric_keeps.proofs.LeafRound.{IsOwed, owed_there, delivered_back}
use Rattle.fabric_keeps.proofs.Base.{same_or}
use Rattle.fabric_keeps.proofs.Accounting.{LinkedIn, LinkedOut, linked_in, linked_out}

-- an in-port in place of another, which is the same or has a channel
abbrev IsFine : Rows → ℕ → ℕ → InState → Type 0
IsFine tables i j q = (0 < q.freed → is_linked_in tables i j ≡ true) × ((n w : ℕ) → slice_index_or q.slots n None ≡ Some w → is_linked_in tables i j ≡ true)

fine_old : (window : ℕ) (tables : Rows) (i : ℕ) (s : LeafState) (j : ℕ) → IsAt window tables i s → IsFine tables i j (in_port s j)
fine_old window tables i s j a = (a.owed j, a.full j)

fine_set : (window : ℕ) (tables : Rows) (i : ℕ) (s : LeafState) (j : ℕ) (q : InState) → j < length s.ins → IsFine tables i j q → IsAt window tables i s → (x : ℕ) → IsFine tables i x (slice_index_or (slice_set s.ins j q) x (fresh_in s.window))
fine_set window tables i s j q l f a x =
    elim (same_or x j (x == j) refl) [
      | inl e ↦ (
          let h : slice_index_or (slice_set s.ins j q) x (fresh_in s.window) ≡ q = ap (λ (y : ℕ). slice_index_or (slice_set s.ins j q) y (fresh_in s.window)) e ∙ get_or-set_same s.ins j q (fresh_in s.window) l in
          subst (λ (y : ℕ). IsFine tables i y (slice_index_or (slice_set s.ins j q) x (fresh_in s.window))) (sym e) (subst (IsFine tables i j) (sym h) f))
      | inr n ↦ (
          let h : slice_index_or (slice_set s.ins j q) x (fresh_in s.window) ≡ in_port s x = get_or-set_other s.ins j x q (fresh_in s.window) n in
          subst (IsFine tables i x) (sym h) (fine_old window tables i s x a))
    ]

ins_set : (window : ℕ) (tables : Rows) (i : ℕ) (s : LeafState) (j : ℕ) (q : InState) → j < length s.ins → IsFine tables i j q → IsAt window tables i s → IsAt window tables i (record s { ins = slice_set s.ins j q })
ins_set window tables i s j q l f a = record {
  own = a.own;
  width = a.width;
  outs = a.outs;
  ins = length-set s.ins j q ∙ a.ins;
  rows = a.rows;
  waiting = a.waiting;
  owed = λ x. (fine_set window tables i s j q l f a x).0;
  full = λ x. (fine_set window tables i s j q l f a x).1;
}

in_below : (tables : Rows) (i j : ℕ) → is_linked_in tables i j ≡ true → j < 8
in_below tables i j h = lt_true j 8 (both (nat_lt j 8) _ h).0

pub took_at : (window : ℕ) (tables : Rows) (i : ℕ) (s : LeafState) (j w : ℕ) → next_word s j ≡ Some w → IsAt window tables i s → IsAt window tables i (took s j)
took_at window tables i s j w e a =
    let h : is_linked_in tables i j ≡ true = a.full j (in_port s j).next w e in
    ins_set window tables i s j _ (omega (arith, in_below tables i j h, a.ins)) (λ _. h, λ n x _. h) a

pub wrote_at : (window : ℕ) (tables : Rows) (i : ℕ) (s : LeafState) (k w : ℕ) → is_linked_out tables i k ≡ true → IsAt window tables i s → IsAt window tables i (wrote s k w)
wrote_at window tables i s k w h a =
    let test : Waiting → ℕ = λ (x : Waiting). cond (not (is_linked_out tables i x.port)) 1 0 in
    let z : (let n : ℕ = cond (not (is_linked_out tables i k)) 1 0 in n ≡ 0) = rw h refl in
    let box : sum_by test (wrote s k w).box ≡ sum_by test s.box + test (record { port = k; number = (out_port s k).next; word = w }) = sum_by_push test s.box (record { port = k; number = (out_port s k).next; word = w }) in
    record {
      own = a.own;
      width = a.width;
      outs = length-set s.outs k _ ∙ a.outs;
      ins = a.ins;
      rows = a.rows;
      waiting = omega (arith, box, a.waiting, z);
      owed = a.owed;
      full = a.full;
    }

pub delivered_at : (window : ℕ) (tables : Rows) (i : ℕ) (s : LeafState) (body : Body) → is_body_for tables i body ≡ true → IsAt window tables i s → IsAt window tables i (delivered s body)
delivered_at window tables i s (Data j number word) h a = ins_set window tables i s j.0 _ (omega (arith, in_below tables i j.0 h, a.ins)) (λ _. h, λ n x _. h) a
delivered_at window tables i s (Credit k count) h a = record { own = a.own; width = a.width; outs = length-set s.outs k.0 _ ∙ a.outs; ins = a.ins; rows = a.rows; waiting = a.waiting; owed = a.owed; full = a.full }
delivered_at window tables i s (Config slot row) h a = absurd (let x : false ≡ true = h in cc)

pub back_at : (window : ℕ) (tables : Rows) (i : ℕ) (s : LeafState) (back : Option Packet) → IsAt window tables i s → IsAt window tables i (record s { back = back })
back_at window tables i s back a = record { own = a.own; width = a.width; outs = a.outs; ins = a.ins; rows = a.rows; waiting = a.waiting; owed = a.owed; full = a.full }

word_at : (window : ℕ) (tables : Rows) (i : ℕ) (s : LeafState) (r : ℕ) (box : List Waiting) → s.box ≡ box → IsAt window tables i s → IsAt window tables i (offer_word s r box).0
word_at window tables i s r [] e a = a
word_at window tables i s r (w ∷ ws) e a =
    let test : Waiting → ℕ = λ (x : Waiting). cond (not (is_linked_out tables i x.port)) 1 0 in
    let z : sum_by test (w ∷ ws) ≡ 0 = ap (λ (xs : List Waiting). sum_by test xs) (sym e) ∙ a.waiting in
    record { own = a.own; width = a.width; outs = a.outs; ins = a.ins; rows = a.rows; waiting = omega (arith, sum_by-cons test w ws); owed = a.owed; full = a.full }

own_at : (window : ℕ) (tables : Rows) (i : ℕ) (s : LeafState) (r : ℕ) (o : Option ℕ) → owed_from 0 s.ins ≡ o → IsAt window tables i s → IsAt window tables i (offer_own s r o).0
own_at window tables i s r None e a = word_at window tables i s r s.box refl a
own_at window tables i s r (Some j) e a =
    let w : IsOwed 0 s.ins j = owed_there 0 s.ins j e in
    let place : j ≡ w.place = w.at ∙ omega arith in
    ins_set window tables i s j _ (omega (arith, w.there)) (λ l. absurd (omega arith), a.full j) a

pub new_at : (window : ℕ) (tables : Rows) (i : ℕ) (s : LeafState) (r : ℕ) → IsAt window tables i s → IsAt window tables i (offer_new s r None).0
new_at window tables i s r a = own_at window tables i s r (owed_from 0 s.ins) refl a

pub offered_at : (window : ℕ) (tables : Rows) (i : ℕ) (s : LeafState) (r : ℕ) (back : Option Packet) → IsAt window tables i s → IsAt window tables i (offer_first s r None back).0
offered_at window tables i s r None a = new_at window tables i s r a
offered_at window tables i s r (Some p) a = back_at window tables i s None a

taken_at_by : (window : ℕ) (tables : Rows) (i : ℕ) (s : LeafState) (p : Packet) (own : Bool) → (p.to.0 == s.own) ≡ own → is_body_for tables p.to.0 p.body ≡ true → IsAt window tables i s → IsAt window tables i (if own then delivered s p.body else record s { back = Some p })
taken_at_by window tables i s p true e h a =
    let to : p.to.0 ≡ i = eq_same p.to.0 s.own e ∙ a.own in
    delivered_at window tables i s p.body (subst (λ (x : ℕ). is_body_for tables x p.body ≡ true) to h) a
taken_at_by window tables i s p false e h a = back_at window tables i s (Some p) a

pub round_at : (window : ℕ) (tables : Rows) (i : ℕ) (s : LeafState) (o : Option Packet) (r : ℕ) → ((p : Packet) → o ≡ Some p → is_body_for tables p.to.0 p.body ≡ true) → IsAt window tables i s → IsAt window tables i (offered (taken_in s o) r None).0
round_at window tables i s None r h a = offered_at window tables i s r s.back a
round_at window tables i s (Some p) r h a =
    let s1 : LeafState = taken_in s (Some p) in
    offered_at window tables i s1 r s1.back (taken_at_by window tables i s p (p.to.0 == s.own) refl (h p refl) a)

-- what is offered is for the end of a channel
row_true : (m j : ℕ) → is_row (row_to m j) m j ≡ true
row_true m j = and_of (m == m) (j == j) (same_eq m m refl) (same_eq j j refl)

lt_of : (a b : ℕ) → a < b → nat_lt a b ≡ true
lt_of a b h = grind (arith, nat_tests)

pub in_of_link : (tables : Rows) (e : Ends) → IsLink tables e → is_linked_in tables e.to e.inn ≡ true
in_of_link tables e l =
    and_of (nat_lt e.inn 8) _ (lt_of e.inn 8 l.inn) (subst (λ (o : Option Row). is_from_end tables e.to e.inn o ≡ true) (sym l.to_row)
    (and_of (nat_lt e.out 8) _ (lt_of e.out 8 l.out) (subst (λ (o : Option Row). is_row o e.to e.inn ≡ true) (sym l.from_row) (row_true e.to e.inn))))

pub out_of_link : (tables : Rows) (e : Ends) → IsLink tables e → is_linked_out tables e.from e.out ≡ true
out_of_link tables e l =
    and_of (nat_lt e.out 8) _ (lt_of e.out 8 l.out) (subst (λ (o : Option Row). is_to_end tables e.from e.out o ≡ true) (sym l.from_row)
    (and_of (nat_lt e.inn 8) _ (lt_of e.inn 8 l.inn) (subst (λ (o : Option Row). is_row o e.from e.out ≡ true) (sym l.to_row) (row_true e.from e.out))))

abbrev pub stray : Rows → Packet → ℕ
stray tables p = cond (is_stray tables p) 1 0

passed : (t : Bool) → (let n : ℕ = cond (not t) 1 0 in n ≡ 0) → t ≡ true
passed true h = refl
passed false h = absurd (omega arith)

pub not_stray : (tables : Rows) (p : Packet) → stray tables p ≡ 0 → is_body_for tables p.to.0 p.body ≡ true
not_stray tables p h = passed (is_body_for tables p.to.0 p.body) h

word_stray : (window : ℕ) (tables : Rows) (i : ℕ) (s : LeafState) (r : ℕ) (box : List Waiting) → s.box ≡ box → IsAt window tables i s → weighs (stray tables) (offer_word s r box).1 ≡ 0
word_stray window tables i s r [] e a = refl
word_stray window tables i s r (w ∷ ws) e a =
    let test : Waiting → ℕ = λ (x : Waiting). cond (not (is_linked_out tables i x.port)) 1 0 in
    let z : sum_by test (w ∷ ws) ≡ 0 = ap (λ (xs : List Waiting). sum_by test xs) (sym e) ∙ a.waiting in
    let y : test w ≡ 0 = omega (arith, sum_by-cons test w ws) in
    let k : LinkedOut tables i w.port = linked_out tables i w.port (passed (is_linked_out tables i w.port) y) in
    let row : row_of s w.port ≡ row_to k.to k.inn = a.rows w.port ∙ k.row in
    let good : is_linked_in tables k.to k.inn ≡ true = in_of_link tables _ k.link in
    subst (λ (o : Option Row). weighs (stray tables) (to_other_end s r (λ j. Data j w.number w.word) o) ≡ 0) (sym row) (ap (λ (b : Bool). (let n : ℕ = cond (not b) 1 0 in n)) good)

own_stray : (window : ℕ) (tables : Rows) (i : ℕ) (s : LeafState) (r : ℕ) (o : Option ℕ) → owed_from 0 s.ins ≡ o → IsAt window tables i s → weighs (stray tables) (offer_own s r o).1 ≡ 0
own_stray window tables i s r None e a = word_stray window tables i s r s.box refl a
own_stray window tables i s r (Some j) e a =
    let w : IsOwed 0 s.ins j = owed_there 0 s.ins j e in
    let place : j ≡ w.place = w.at ∙ omega arith in
    let some : 0 < (in_port s j).freed = subst (λ (x : ℕ). 0 < (get_or s.ins x (fresh_in s.window)).freed) (sym place) (w.some (fresh_in s.window)) in
    let k : LinkedIn tables i j = linked_in tables i j (a.owed j some) in
    let row : row_of s (8 + j) ≡ row_to k.from k.out = a.rows (8 + j) ∙ k.row in
    let good : is_linked_out tables k.from k.out ≡ true = out_of_link tables _ k.link in
    subst (λ (x : Option Row). weighs (stray tables) (to_other_end s r (λ p. Credit p (in_port s j).freed) x) ≡ 0) (sym row) (ap (λ (b : Bool). (let n : ℕ = cond (not b) 1 0 in n)) good)

first_stray : (window : ℕ) (tables : Rows) (i : ℕ) (s : LeafState) (r : ℕ) (back : Option Packet) → IsAt window tables i s → weighs (stray tables) (offer_first s r None back).1 ≤ weighs (stray tables) back
first_stray window tables i s r None a = omega (arith, own_stray window tables i s r (owed_from 0 s.ins) refl a)
first_stray window tables i s r (Some p) a = omega arith

taken_stray : (tables : Rows) (i : ℕ) (s : LeafState) (p : Packet) (own : Bool) → s.back ≡ None → weighs (stray tables) ((if own then delivered s p.body else record s { back = Some p }).back) ≤ stray tables p
taken_stray tables i s p true b = omega (arith, ap (weighs (stray tables)) (delivered_back s p.body ∙ b))
taken_stray tables i s p false b = omega arith

pub offer_stray : (window : ℕ) (tables : Rows) (i : ℕ) (s : LeafState) (o : Option Packet) (r : ℕ) → s.back ≡ None → ((p : Packet) → o ≡ Some p → is_body_for tables p.to.0 p.body ≡ true) → IsAt window tables i s → weighs (stray tables) (offered (taken_in s o) r None).1 ≤ weighs (stray tables) o
offer_stray window tables i s None r b h a = omega (arith, first_stray window tables i s r s.back a, ap (weighs (stray tables)) b)
offer_stray window tables i s (Some p) r b h a =
    let s1 : LeafState = taken_in s (Some p) in
    let at1 : IsAt window tables i s1 = taken_at_by window tables i s p (p.to.0 == s.own) refl (h p refl) a in
    omega (arith, first_stray window tables i s1 r s1.back at1, taken_stray tables i s p (p.to.0 == s.own) b)
