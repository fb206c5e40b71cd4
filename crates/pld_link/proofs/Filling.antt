-- Rows that are set channel by channel, from the last one on.
use Rattle.std.proofs.Common.{◌≡◌, ℕ, ◌+◌, ◌*◌, ◌-◌, ◌/◌, ◌%◌, ◌<◌, ◌≤◌, Bool, true, false, ◌&&◌, cond, List, [], ◌∷◌, length, get_or, set, refl, sym, ap, ◌∙◌, arith, Option, Some, None, if◌then◌else◌, get_or-set_same, get_or-set_other, length-set, replicate, drop, subst, suc, zero}
use Rattle.std.specs.Prelude.{◌==◌, nat_lt, option_map, slice_index_or, slice_index, slice_get}
use Rattle.std.specs.List.{find, All}
use Rattle.std.proofs.Math.Seq.{drop-cons}
use Rattle.std.proofs.lemmas.Option.{slice_get_within, get_or_from_slice_get}
use Rattle.std.proofs.lemmas.List.Elements.{All-tail}
use Rattle.std.proofs.lemmas.Grind.{common_steps}
use Rattle.std.proofs.lemmas.Bool.Decides.{nat_tests}
use Rattle.std.proofs.lemmas.List.{length-replicate, get_or-replicate}
use Rattle.std.proofs.lemmas.List.FromFn.{fill_by_all, get_or-map-range_with_len, length-map-range_with_len}
use Rattle.net_switch.specs.declared.packet.Row.{Row}
use Rattle.pld_graph.specs.declared.parts.Channel.{Channel}
use Rattle.pld_graph.specs.declared.parts.FromEnd.{FromEnd}
use Rattle.pld_graph.specs.declared.parts.FromEnd.TheVariants as from_end
use Rattle.pld_graph.specs.declared.parts.ToEnd.{ToEnd}
use Rattle.pld_graph.specs.declared.parts.ToEnd.TheVariants as to_end
use Rattle.pld_graph.specs.Design.{Design}
use Rattle.pld_link.specs.Seats.{seat, same_seat, from_seat, to_seat, place_in, operator_names, IsPlacement}
use Rattle.pld_link.specs.Rows.{row, row_of, rows, each_below}
use Rattle.pld_link.specs.Joining.{with_row, joined}

-- the rows of these channels of a design
abbrev pub out_among : Design → List ℕ → List Channel → ℕ → ℕ → Option Row
out_among d leaves cs leaf port = option_map
    (λ c. row (to_seat d leaves c.to))
    (find (λ c. same_seat (from_seat d leaves c.from) (seat leaf port)) cs)

abbrev pub in_among : Design → List ℕ → List Channel → ℕ → ℕ → Option Row
in_among d leaves cs leaf port = option_map
    (λ c. row (from_seat d leaves c.from))
    (find (λ c. same_seat (to_seat d leaves c.to) (seat leaf port)) cs)

abbrev pub row_among : Design → List ℕ → List Channel → ℕ → Option Row
row_among d leaves cs n = if nat_lt (n % 16) 8 then out_among d leaves cs (n / 16) (n % 16) else in_among d leaves cs (n / 16) (n % 16 - 8)

pub record IsFilled (d : Design) (leaves : List ℕ) (cs : List Channel) (table : List (Option Row)) : Type 0 where
  pub all : length table ≡ 1024
  pub at : (n : ℕ) → n < 1024 → slice_index_or table n None ≡ row_among d leaves cs n

both_ways : (a b : Bool) → (a ≡ true → b ≡ true) → (b ≡ true → a ≡ true) → a ≡ b
both_ways true b p q = sym (p refl)
both_ways false true p q = q refl
both_ways false false p q = refl

never : (a : Bool) → (a ≡ true → ⊥) → a ≡ false
never true p = absurd (p refl)
never false p = refl

set_by : (table : List (Option Row)) (i n : ℕ) (v : Option Row) (b : Bool) → (n == i) ≡ b → i < length table → get_or (set table i v) n None ≡ (if b then v else get_or table n None)
set_by table i n v true e few =
    let same : n ≡ i = grind (arith, nat_tests, e) in
    ap (λ m. get_or (set table i v) m None) same ∙ get_or-set_same table i v None few
set_by table i n v false e few = get_or-set_other table i n v None (λ same. grind (arith, nat_tests, e, same))

with_row_by : (table : List (Option Row)) (first : ℕ) (at other : Row) (n : ℕ) (b : Bool) → nat_lt at.port.0 8 ≡ b → length table ≡ 1024 → at.leaf.0 ≤ 63 → first ≤ 8
    → slice_index_or (if b then set table (16 * at.leaf.0 + first + at.port.0) (Some other) else table) n None ≡ (if (b && (n == 16 * at.leaf.0 + first + at.port.0)) then Some other else slice_index_or table n None)
with_row_by table first at other n true e all leaf side =
    let few : at.port.0 < 8 = grind (arith, nat_tests, e) in
    set_by table (16 * at.leaf.0 + first + at.port.0) n (Some other) _ refl (omega (arith, few, all, leaf, side))
with_row_by table first at other n false e all leaf side = refl

with_row_at : (table : List (Option Row)) (first : ℕ) (at other : Row) (n : ℕ) → length table ≡ 1024 → at.leaf.0 ≤ 63 → first ≤ 8
    → slice_index_or (with_row table first at other) n None ≡ (if (nat_lt at.port.0 8 && (n == 16 * at.leaf.0 + first + at.port.0)) then Some other else slice_index_or table n None)
with_row_at table first at other n all leaf side = with_row_by table first at other n (nat_lt at.port.0 8) refl all leaf side

with_row_length : (table : List (Option Row)) (first : ℕ) (at other : Row) (b : Bool) → length (if b then set table (16 * at.leaf.0 + first + at.port.0) (Some other) else table) ≡ length table
with_row_length table first at other true = length-set table (16 * at.leaf.0 + first + at.port.0) (Some other)
with_row_length table first at other false = refl

-- the slot of a port is that of its leaf and its side
out_hit : (n leaf port : ℕ) → nat_lt (n % 16) 8 ≡ true → (nat_lt port 8 && (n == 16 * leaf + 0 + port)) ≡ same_seat (seat leaf port) (seat (n / 16) (n % 16))
out_hit n leaf port out = both_ways _ _ (λ h. grind (arith, nat_tests, h, out)) (λ h. grind (arith, nat_tests, h, out))

out_missed : (n leaf port : ℕ) → nat_lt (n % 16) 8 ≡ true → (nat_lt port 8 && (n == 16 * leaf + 8 + port)) ≡ false
out_missed n leaf port out = never _ (λ h. grind (arith, nat_tests, h, out))

in_hit : (n leaf port : ℕ) → nat_lt (n % 16) 8 ≡ false → (nat_lt port 8 && (n == 16 * leaf + 8 + port)) ≡ same_seat (seat leaf port) (seat (n / 16) (n % 16 - 8))
in_hit n leaf port into = both_ways _ _ (λ h. grind (arith, nat_tests, h, into)) (λ h. grind (arith, nat_tests, h, into))

in_missed : (n leaf port : ℕ) → nat_lt (n % 16) 8 ≡ false → (nat_lt port 8 && (n == 16 * leaf + 0 + port)) ≡ false
in_missed n leaf port into = never _ (λ h. grind (arith, nat_tests, h, into))

-- the first of the channels decides, or the others do
pick : (g : Channel → Row) (c : Channel) (o : Option Channel) (b : Bool) → (if b then Some (g c) else option_map g o) ≡ option_map g (cond b (Some c) o)
pick g c o true = refl
pick g c o false = refl

choose : (a b : Bool) (x y : Option Row) → a ≡ b → (if a then x else y) ≡ (if b then x else y)
choose a b x y e = ap (λ t. if t then x else y) e

module _ (d : Design) (leaves : List ℕ) (c : Channel) (cs : List Channel) (table : List (Option Row)) where
  abbrev from : Row
  from = row (from_seat d leaves c.from)

  abbrev to : Row
  to = row (to_seat d leaves c.to)

  -- a slot once both rows are set
  abbrev hit_in : ℕ → Bool
  hit_in n = nat_lt to.port.0 8 && (n == 16 * to.leaf.0 + 8 + to.port.0)

  abbrev hit_out : ℕ → Bool
  hit_out n = nat_lt from.port.0 8 && (n == 16 * from.leaf.0 + 0 + from.port.0)

  slot : (n : ℕ) → length table ≡ 1024 → from.leaf.0 ≤ 63 → to.leaf.0 ≤ 63
      → slice_index_or (joined from to table) n None ≡ (if hit_in n then Some from else (if hit_out n then Some to else slice_index_or table n None))
  slot n all few_from few_to =
      let between : length (with_row table 0 from to) ≡ 1024 = with_row_length table 0 from to (nat_lt from.port.0 8) ∙ all in
      with_row_at (with_row table 0 from to) 8 to from n between few_to (omega arith)
      ∙ ap (λ o. if hit_in n then Some from else o) (with_row_at table 0 from to n all few_from (omega arith))

  slot_is : (n : ℕ) (b : Bool) → nat_lt (n % 16) 8 ≡ b
      → slice_index_or table n None ≡ (if b then out_among d leaves cs (n / 16) (n % 16) else in_among d leaves cs (n / 16) (n % 16 - 8))
      → (if hit_in n then Some from else (if hit_out n then Some to else slice_index_or table n None))
      ≡ (if b then out_among d leaves (c ∷ cs) (n / 16) (n % 16) else in_among d leaves (c ∷ cs) (n / 16) (n % 16 - 8))
  slot_is n true side before =
      choose (hit_in n) false (Some from) _ (out_missed n to.leaf.0 to.port.0 side)
      ∙ ap (λ o. if hit_out n then Some to else o) before
      ∙ choose (hit_out n) _ (Some to) _ (out_hit n from.leaf.0 from.port.0 side)
      ∙ pick (λ x. row (to_seat d leaves x.to)) c _ _
  slot_is n false side before =
      ap (λ o. if hit_in n then Some from else o) (choose (hit_out n) false (Some to) _ (in_missed n from.leaf.0 from.port.0 side))
      ∙ ap (λ o. if hit_in n then Some from else o) before
      ∙ choose (hit_in n) _ (Some from) _ (in_hit n to.leaf.0 to.port.0 side)
      ∙ pick (λ x. row (from_seat d leaves x.from)) c _ _

  pub filled_more : from.leaf.0 ≤ 63 → to.leaf.0 ≤ 63 → IsFilled d leaves cs table → IsFilled d leaves (c ∷ cs) (joined from to table)
  filled_more few_from few_to filled = record {
    all = with_row_length (with_row table 0 from to) 8 to from (nat_lt to.port.0 8) ∙ with_row_length table 0 from to (nat_lt from.port.0 8) ∙ filled.all;
    at = λ n few. slot n filled.all few_from few_to ∙ slot_is n (nat_lt (n % 16) 8) refl (filled.at n few);
  }

same_ways : (b : Bool) (o : Option Row) → o ≡ (if b then o else o)
same_ways true o = refl
same_ways false o = refl

pub filled_none : (d : Design) (leaves : List ℕ) (count : ℕ) → count ≡ 1024 → IsFilled d leaves [] (replicate count None)
filled_none d leaves count all = record {
  all = length-replicate count None ∙ all;
  at = λ n few. get_or-replicate count n None None (omega (arith, few, all)) ∙ same_ways (nat_lt (n % 16) 8) None;
}

pub each_filled : (f : ℕ → Option Row) (n : ℕ) (table : List (Option Row)) → length table ≡ n → ((k : ℕ) → k < n → get_or table k None ≡ f k) → table ≡ each_below n f
unfolding each_below
each_filled f n table all at = fill_by_all f table n None all at

pub filled_all : (d : Design) (leaves : List ℕ) (table : List (Option Row)) → IsFilled d leaves d.channels table → table ≡ rows d leaves
filled_all d leaves table filled = each_filled (λ n. row_of d leaves (n / 16) (n % 16)) 1024 table filled.all filled.at

pub each_below_at : (f : ℕ → Option Row) (n k : ℕ) → k < n → get_or (each_below n f) k None ≡ f k
unfolding each_below
each_below_at f n k few = get_or-map-range_with_len f 0 n k k None few (omega arith)

slot_at : (d : Design) (leaves : List ℕ) (n leaf slot : ℕ) → n / 16 ≡ leaf → n % 16 ≡ slot → row_of d leaves (n / 16) (n % 16) ≡ row_of d leaves leaf slot
slot_at d leaves n leaf slot e f = ap (λ l. row_of d leaves l (n % 16)) e ∙ ap (λ s. row_of d leaves leaf s) f

-- the row of a slot, in the list of all rows
pub rows_at : (d : Design) (leaves : List ℕ) (leaf slot : ℕ) → leaf < 64 → slot < 16 → slice_index_or (rows d leaves) (16 * leaf + slot) None ≡ row_of d leaves leaf slot
rows_at d leaves leaf slot few side =
    each_below_at (λ n. row_of d leaves (n / 16) (n % 16)) 1024 (16 * leaf + slot) (omega (arith, few, side))
    ∙ slot_at d leaves (16 * leaf + slot) leaf slot (omega (arith, side)) (omega (arith, side))

drop-all_of : (cs : List Channel) (k : ℕ) → k ≡ length cs → drop k cs ≡ []
drop-all_of cs k all = grind (arith, common_steps)

leaf_few : (xs : List ℕ) (k : ℕ) → All (λ leaf. (1 ≤ leaf) × (leaf ≤ 63)) xs → slice_index xs k ≤ 63
leaf_few [] k pages = omega arith
leaf_few (x ∷ xs) zero pages = (pages 0 0 (omega arith)).1
leaf_few (x ∷ xs) (suc k) pages = leaf_few xs k (All-tail (λ leaf. (1 ≤ leaf) × (leaf ≤ 63)) x xs pages)

from_few : (d : Design) (leaves : List ℕ) (end : FromEnd) → IsPlacement d leaves → (from_seat d leaves end).leaf ≤ 63
from_few d leaves (from_end.Port e) placed = leaf_few leaves (place_in (operator_names d) e.op) placed.pages
from_few d leaves (from_end.Input n) placed = omega arith

to_few : (d : Design) (leaves : List ℕ) (end : ToEnd) → IsPlacement d leaves → (to_seat d leaves end).leaf ≤ 63
to_few d leaves (to_end.Port e) placed = leaf_few leaves (place_in (operator_names d) e.op) placed.pages
to_few d leaves (to_end.Output n) placed = omega arith

-- a channel from the end of the list is one more
dropped : (cs : List Channel) (c : Channel) (k : ℕ) → 0 < k → slice_get cs (k - 1) ≡ Some c → drop (k - 1) cs ≡ c ∷ drop k cs
dropped cs c k some here =
    let next : suc (k - 1) ≡ k = omega (arith, some) in
    drop-cons cs (k - 1) c (slice_get_within cs (k - 1) c here)
    ∙ ap (λ x. x ∷ drop (suc (k - 1)) cs) (get_or_from_slice_get cs (k - 1) c c here)
    ∙ ap (λ j. c ∷ drop j cs) next

pub filled_step : (d : Design) (leaves : List ℕ) (c : Channel) (k : ℕ) (table table' : List (Option Row)) → IsPlacement d leaves → 0 < k → slice_get d.channels (k - 1) ≡ Some c
    → table' ≡ joined (row (from_seat d leaves c.from)) (row (to_seat d leaves c.to)) table → IsFilled d leaves (drop k d.channels) table → IsFilled d leaves (drop (k - 1) d.channels) table'
filled_step d leaves c k table table' placed some here new filled =
    subst (λ cs. IsFilled d leaves cs table') (sym (dropped d.channels c k some here))
    (subst (IsFilled d leaves (c ∷ drop k d.channels)) (sym new)
    (filled_more d leaves c (drop k d.channels) table (from_few d leaves c.from placed) (to_few d leaves c.to placed) filled))

pub filled_start : (d : Design) (leaves : List ℕ) (count k : ℕ) (table : List (Option Row)) → count ≡ 1024 → table ≡ replicate count None → k ≡ length d.channels → IsFilled d leaves (drop k d.channels) table
filled_start d leaves count k table all is none =
    subst (λ cs. IsFilled d leaves cs table) (sym (drop-all_of d.channels k none))
    (subst (IsFilled d leaves []) (sym is) (filled_none d leaves count all))

pub filled_end : (d : Design) (leaves : List ℕ) (k : ℕ) (table : List (Option Row)) → k ≤ 0 → IsFilled d leaves (drop k d.channels) table → table ≡ rows d leaves
filled_end d leaves k table over filled =
    let none : k ≡ 0 = omega (arith, over) in
    filled_all d leaves table (subst (λ j. IsFilled d leaves (drop j d.channels) table) none filled)

pub each_below_length : (f : ℕ → Option Row) (n : ℕ) → length (each_below n f) ≡ n
unfolding each_below
each_below_length f n = length-map-range_with_len f 0 n

pub rows_length : (d : Design) (leaves : List ℕ) → length (rows d leaves) ≡ 1024
rows_length d leaves = each_below_length (λ n. row_of d leaves (n / 16) (n % 16)) 1024
