-- What holds of the placement of every sound design that has enough pages.
use Rattle.std.proofs.Common.{◌≡◌, ℕ, zero, suc, ◌+◌, ◌-◌, ◌^◌, ◌<◌, ◌≤◌, Bool, true, false, true≢false, ◌&&◌, cond, List, [], ◌∷◌, length, map, refl, sym, ap, subst, ◌∙◌, arith, Option, Some, None}
use Rattle.std.specs.Prelude.{◌==◌, nat_lt, slice_index, slice_index_or, if◌then◌else◌}
use Rattle.std.specs.List.{All, count_by}
use Rattle.std.proofs.lemmas.List.{length-map}
use Rattle.std.proofs.lemmas.List.Elements.{All-tail, All-head}
use Rattle.std.proofs.lemmas.List.Sums.{sum_by-cons}
use Rattle.std.proofs.lemmas.Bool.Decides.{nat_tests}
use Rattle.std.proofs.Math.Pow.{pow_mono}
use Rattle.pld_place.proofs.Trading.{twice}
use Rattle.pld_graph.specs.declared.parts.OperatorEntry.{OperatorEntry}
use Rattle.pld_graph.specs.Design.{Design, operator_at}
use Rattle.pld_graph.specs.Edits.{is_leaf}
use Rattle.pld_graph.specs.Sound.{IsSound, is_within, is_pinned, every}
use Rattle.pld_place.specs.declared.ends.Ends.{Ends}
use Rattle.pld_place.specs.Exchanges.{first_pair, exchanged, traded, improved}
use Rattle.pld_place.specs.Placing.{pages, pins, pinned_leaves, is_among, first_leaves, movable, ends_of, channel_ends, placed, exchanges, distances, IsPlaced, MayExchange}
use Rattle.pld_place.proofs.Free.{is_same}
use Rattle.pld_place.proofs.Settling.{holds, Each, Apart, Room, spread, count_cons, length-settled, at_pins, pins_taken, pins_and_others}
use Rattle.pld_place.proofs.Keeping.{found_pair, is_less, Movable, all_movable, none_lowers, keeps, settled_at}

-- ---- pins of a sound design

count_pins : (l : ℕ) (os : List OperatorEntry) → count_by (holds l) (map (λ o. o.pin) os) ≡ count_by (is_pinned l) os
count_pins l [] = refl
count_pins l (o ∷ os) = count_cons l o.pin (map (λ x. x.pin) os) ∙ ap (λ n. cond (holds l o.pin) 1 0 + n) (count_pins l os) ∙ sym (sum_by-cons (λ x. cond (is_pinned l x) 1 0) o os)

leaf_within : (depth l : ℕ) → is_leaf depth l ≡ true → (1 ≤ l) × (l < 2 ^ depth)
leaf_within depth l h = by (nat_lt 0 l) (nat_lt l (2 ^ depth)) refl refl h
  where
    by : (a b : Bool) → nat_lt 0 l ≡ a → nat_lt l (2 ^ depth) ≡ b → (a && b) ≡ true → (1 ≤ l) × (l < 2 ^ depth)
    by true true e f g = (is_less 0 l e, is_less l (2 ^ depth) f)
    by true false e f g = absurd (true≢false (sym g))
    by false b e f g = absurd (true≢false (sym g))

pin_within : (depth l : ℕ) (p : Option ℕ) → holds l p ≡ true → every (is_leaf depth) p ≡ true → is_leaf depth l ≡ true
pin_within depth l None h e = absurd (true≢false (sym h))
pin_within depth l (Some x) h e = subst (λ y. is_leaf depth y ≡ true) (is_same x l h) e

pins_within : (depth l : ℕ) (os : List OperatorEntry) → All (λ o. is_within depth o ≡ true) os → 1 ≤ count_by (is_pinned l) os → (1 ≤ l) × (l < 2 ^ depth)
pins_within depth l [] all h = absurd (omega (arith, h))
pins_within depth l (o ∷ os) all h = by (is_pinned l o) refl (pins_within depth l os (All-tail (λ x. is_within depth x ≡ true) o os all))
  where
    by : (b : Bool) → is_pinned l o ≡ b → (1 ≤ count_by (is_pinned l) os → (1 ≤ l) × (l < 2 ^ depth)) → (1 ≤ l) × (l < 2 ^ depth)
    by true e rest = leaf_within depth l (pin_within depth l o.pin e (All-head (λ x. is_within depth x ≡ true) o os all))
    by false e rest =
        let none : cond {A = ℕ} (is_pinned l o) 1 0 ≡ 0 = ap (λ c. cond c 1 0) e in
        rest (omega (arith, h, none, sum_by-cons (λ x. cond (is_pinned l x) 1 0) o os))

deep_by : (k : ℕ) → k ≤ 6 → 2 ^ k - 1 ≤ 63
deep_by k l =
    let b : 2 ^ k ≤ 2 ^ 6 = pow_mono l in
    omega (arith, b)

pub deep : (d : Design) → IsSound d → pages d ≤ 63
deep d sound = deep_by d.depth sound.most

room : (d : Design) → IsSound d → length d.operators ≤ pages d → Room (pages d) (pinned_leaves (pins d)) (pins d)
room d sound enough = record {
  deep = deep d sound;
  space = omega (arith, enough, pins_and_others (pins d), length-map d.operators (λ o. o.pin));
  once = λ l. let one = sound.alone l in omega (arith, one, count_pins l d.operators);
  taken_pins = λ l h. pins_taken (pins d) l h;
  pins = λ l h. let w = pins_within d.depth l d.operators sound.pins (omega (arith, h, count_pins l d.operators)) in (w.0, omega (arith, w.1));
}

-- ---- lists, by index

all_more : (Q : ℕ → Type 0) (x : ℕ) (xs : List ℕ) → Q x → All Q xs → (i d : ℕ) → i < length (x ∷ xs) → Q (slice_index_or (x ∷ xs) i d)
all_more Q x xs here rest zero d l = here
all_more Q x xs here rest (suc i) d l = rest i d (omega (arith, l))

all_each : (P Q : ℕ → Type 0) → ((x : ℕ) → P x → Q x) → (xs : List ℕ) → Each P xs → All Q xs
all_each P Q f [] h = λ i d l. absurd (omega (arith, l))
all_each P Q f (x ∷ xs) h = all_more Q x xs (f x h.0) (all_each P Q f xs h.1)

each_at : (P : ℕ → Type 0) (xs : List ℕ) (k : ℕ) → Each P xs → k < length xs → P (slice_index xs k)
each_at P [] k h l = absurd (omega (arith, l))
each_at P (x ∷ xs) zero h l = h.0
each_at P (x ∷ xs) (suc k) h l = each_at P xs k h.1 (omega (arith, l))

apart_alone : (xs : List ℕ) → Apart xs → (j k : ℕ) → j < length xs → k < length xs → slice_index xs j ≡ slice_index xs k → j ≡ k
apart_alone [] a j k l m e = absurd (omega (arith, l))
apart_alone (x ∷ xs) a zero zero l m e = refl
apart_alone (x ∷ xs) a zero (suc k) l m e = absurd (each_at (λ y. y ≡ x → ⊥) xs k a.0 (omega (arith, m)) (sym e))
apart_alone (x ∷ xs) a (suc j) zero l m e = absurd (each_at (λ y. y ≡ x → ⊥) xs j a.0 (omega (arith, l)) e)
apart_alone (x ∷ xs) a (suc j) (suc k) l m e = ap suc (apart_alone xs a.1 j k (omega (arith, l)) (omega (arith, m)) e)

index_is : (xs : List ℕ) (k : ℕ) → slice_index xs k ≡ slice_index_or xs k 0
index_is [] k = refl
index_is (x ∷ xs) zero = refl
index_is (x ∷ xs) (suc k) = index_is xs k

pin_here : (os : List OperatorEntry) (k : ℕ) → k < length os → slice_index_or (map (λ o. o.pin) os) k None ≡ (operator_at os k).pin
pin_here [] k l = refl
pin_here (o ∷ os) zero l = refl
pin_here (o ∷ os) (suc k) l = pin_here os k (omega (arith, l))

pub first_placed : (d : Design) → IsSound d → length d.operators ≤ pages d → IsPlaced d (first_leaves (pins d))
first_placed d sound enough =
    let s = spread (pages d) (pinned_leaves (pins d)) (pins d) (room d sound enough) in
    record {
      each = length-settled (pinned_leaves (pins d)) (pins d) ∙ length-map d.operators (λ o. o.pin);
      within = all_each _ _ (λ x f. f.0) (first_leaves (pins d)) s.from;
      alone = apart_alone (first_leaves (pins d)) s.apart;
      pinned = λ k leaf few e. index_is (first_leaves (pins d)) k ∙ at_pins (pinned_leaves (pins d)) (pins d) k leaf (pin_here d.operators k few ∙ e);
    }

-- ---- an exchange of two leaves

traded_within : (a b last x : ℕ) → 1 ≤ a → a ≤ last → 1 ≤ b → b ≤ last → 1 ≤ x → x ≤ last → (1 ≤ traded a b x) × (traded a b x ≤ last)
traded_within a b last x a1 a2 b1 b2 x1 x2 = by (x == a) (x == b)
  where
    by : (p q : Bool) → (1 ≤ (if p then b else if q then a else x)) × ((if p then b else if q then a else x) ≤ last)
    by true q = (b1, b2)
    by false true = (a1, a2)
    by false false = (x1, x2)

other_stays : (a b x : ℕ) → (x ≡ a → ⊥) → (x ≡ b → ⊥) → traded a b x ≡ x
other_stays a b x n m = by (x == a) (x == b) refl refl
  where
    by : (p q : Bool) → (x == a) ≡ p → (x == b) ≡ q → (if p then b else if q then a else x) ≡ x
    by true q e f = absurd (n (is_same x a e))
    by false true e f = absurd (m (is_same x b f))
    by false false e f = refl

traded_index : (leaves : List ℕ) (a b k : ℕ) → k < length leaves → slice_index (exchanged a b leaves) k ≡ traded a b (slice_index leaves k)
traded_index [] a b k l = absurd (omega (arith, l))
traded_index (x ∷ xs) a b zero l = refl
traded_index (x ∷ xs) a b (suc k) l = traded_index xs a b k (omega (arith, l))

all_traded : (a b last : ℕ) (leaves : List ℕ) → 1 ≤ a → a ≤ last → 1 ≤ b → b ≤ last → All (λ leaf. (1 ≤ leaf) × (leaf ≤ last)) leaves → All (λ leaf. (1 ≤ leaf) × (leaf ≤ last)) (exchanged a b leaves)
all_traded a b last [] a1 a2 b1 b2 all = λ i d l. absurd (omega (arith, l))
all_traded a b last (x ∷ xs) a1 a2 b1 b2 all =
    let here : (1 ≤ x) × (x ≤ last) = All-head (λ leaf. (1 ≤ leaf) × (leaf ≤ last)) x xs all in
    all_more (λ leaf. (1 ≤ leaf) × (leaf ≤ last)) (traded a b x) (exchanged a b xs)
    (traded_within a b last x a1 a2 b1 b2 here.0 here.1)
    (all_traded a b last xs a1 a2 b1 b2 (All-tail (λ leaf. (1 ≤ leaf) × (leaf ≤ last)) x xs all))

same_test : (x : ℕ) → (x == x) ≡ true
same_test x = grind (arith, nat_tests)

pinned_among : (l : ℕ) (os : List OperatorEntry) (k : ℕ) → k < length os → (operator_at os k).pin ≡ Some l → 1 ≤ count_by (holds l) (map (λ o. o.pin) os)
pinned_among l [] k few e = absurd (omega (arith, few))
pinned_among l (o ∷ os) zero few e =
    let one : cond {A = ℕ} (holds l o.pin) 1 0 ≡ 1 = ap (λ p. cond (holds l p) 1 0) e ∙ ap (λ c. cond c 1 0) (same_test l) in
    omega (arith, one, count_cons l o.pin (map (λ x. x.pin) os))
pinned_among l (o ∷ os) (suc k) few e = omega (arith, pinned_among l os k (omega (arith, few)) e, count_cons l o.pin (map (λ x. x.pin) os))

exchange_keeps : (d : Design) (leaves : List ℕ) (a b : ℕ) → Movable (pinned_leaves (pins d)) (pages d) a → Movable (pinned_leaves (pins d)) (pages d) b → IsPlaced d leaves → IsPlaced d (exchanged a b leaves)
exchange_keeps d leaves a b ma mb p =
    let each = p.each in
    let all = length-map leaves (traded a b) in
    let apart : (l : ℕ) (k : ℕ) → k < length d.operators → (operator_at d.operators k).pin ≡ Some l → (x : ℕ) → is_among (pinned_leaves (pins d)) x ≡ false → l ≡ x → ⊥ =
    λ l k few e x free same. true≢false (sym (pins_taken (pins d) l (pinned_among l d.operators k few e)) ∙ ap (is_among (pinned_leaves (pins d))) same ∙ free) in
    record {
      each = all ∙ p.each;
      within = all_traded a b (pages d) leaves ma.0 ma.1 mb.0 mb.1 p.within;
      alone = λ j k l m e.
          let j_few : j < length leaves = omega (arith, l, all) in
          let k_few : k < length leaves = omega (arith, m, all) in
          let same = sym (traded_index leaves a b j j_few) ∙ e ∙ traded_index leaves a b k k_few in
          p.alone j k j_few k_few (sym (twice a b (slice_index leaves j)) ∙ ap (traded a b) same ∙ twice a b (slice_index leaves k));
      pinned = λ k leaf few e.
          let k_few : k < length leaves = omega (arith, few, each) in
          traded_index leaves a b k k_few ∙ ap (traded a b) (p.pinned k leaf few e)
          ∙ other_stays a b leaf (apart leaf k few e a ma.2) (apart leaf k few e b mb.2);
    }

-- ---- the laws

all_placed : (d : Design) (n : ℕ) → IsSound d → length d.operators ≤ pages d → IsPlaced d (improved (channel_ends d) (movable d) n (first_leaves (pins d)))
all_placed d n sound enough = keeps (IsPlaced d) (channel_ends d) (movable d)
    (λ leaves p found here.
    let f = found_pair (channel_ends d) leaves (Movable (pinned_leaves (pins d)) (pages d)) (movable d) p (all_movable (pinned_leaves (pins d)) (pages d)) found in
    exchange_keeps d leaves p.0 p.1 f.first f.second here)
    n (first_leaves (pins d)) (first_placed d sound enough)

pub is_placed : (d : Design) → IsSound d → length d.operators ≤ pages d → IsPlaced d (placed d)
unfolding placed
is_placed d sound enough = all_placed d 64 sound enough

pub each_lowers : (d : Design) (leaves : List ℕ) (p : ℕ × ℕ) → first_pair (channel_ends d) leaves (movable d) ≡ Some p → distances d (exchanged p.0 p.1 leaves) < distances d leaves
each_lowers d leaves p found =
    let f = found_pair (channel_ends d) leaves (Movable (pinned_leaves (pins d)) (pages d)) (movable d) p (all_movable (pinned_leaves (pins d)) (pages d)) found in
    is_less _ _ f.lower

pub none_left : (d : Design) (a b : ℕ) → exchanges d < 64 → MayExchange d a b → distances d (placed d) ≤ distances d (exchanged a b (placed d))
unfolding placed exchanges
none_left d a b few may =
    none_lowers (channel_ends d) _ (pinned_leaves (pins d)) (pages d) a b
    (settled_at (channel_ends d) (movable d) 64 (first_leaves (pins d)) few)
    may.least may.order may.most may.free may.other_free

pub placement_is : (d : Design) (channels : List Ends) (ms leaves found : List ℕ) → channels ≡ channel_ends d → ms ≡ movable d → leaves ≡ first_leaves (pins d) → found ≡ improved channels ms 64 leaves → found ≡ placed d
unfolding placed
placement_is d channels ms leaves found e f g h = h ∙ (λ i. improved (e i) (f i) 64 (g i))

pub few_channels : (d : Design) (channels : List Ends) → IsSound d → channels ≡ channel_ends d → length channels ≤ 256
few_channels d channels sound is =
    let most = sound.channels in
    omega (arith, most, ap length is, length-map d.channels (ends_of d))
