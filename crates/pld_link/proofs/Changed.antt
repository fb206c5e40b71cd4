-- Rows that differ, sought slot by slot, and rows with the changes put into them.
use Rattle.std.proofs.Common.{◌≡◌, ℕ, zero, suc, ◌+◌, ◌-◌, ◌*◌, ◌/◌, ◌%◌, ◌<◌, ◌≤◌, Bool, true, false, true≢false, ◌&&◌, not, cond, List, [], ◌∷◌, ◌++◌, length, set, map, filter, refl, sym, ap, subst, ◌∙◌, arith, Option, Some, None, get_or-set_same, get_or-set_other, length-set}
use Rattle.std.proofs.lemmas.List.{map-append, append-nil}
use Rattle.std.specs.Prelude.{◌==◌}
use Rattle.std.specs.List.{range_with_len, Contains}
use Rattle.std.proofs.lemmas.Bool.Decides.{nat_tests}
use Rattle.net_switch.specs.declared.packet.Row.{Row}
use Rattle.leaf_port.specs.declared.tables.ConfigEntry.{ConfigEntry}
use Rattle.pld_link.specs.Changes.{row_at, same_row, differs, entry_at, changed_among, changes, with_entry, with_entries}

abbrev Rows : Type 0
Rows = List (Option Row)

-- ---- equal rows

same_number : (a b : ℕ) → (a == b) ≡ true → a ≡ b
same_number a b h = grind (arith, nat_tests, h)

own_number : (a : ℕ) → (a == a) ≡ true
own_number a = grind (arith, nat_tests)

pub rows_are_one : (a b : Option Row) → same_row a b ≡ true → a ≡ b
rows_are_one None None h = refl
rows_are_one None (Some s) h = absurd (true≢false (sym h))
rows_are_one (Some r) None h = absurd (true≢false (sym h))
rows_are_one (Some r) (Some s) h = by (r.leaf.0 == s.leaf.0) (r.port.0 == s.port.0) refl refl h
  where
    by : (x y : Bool) → (r.leaf.0 == s.leaf.0) ≡ x → (r.port.0 == s.port.0) ≡ y → (x && y) ≡ true → Some r ≡ Some s
    by true true e f g = λ i. Some (record { leaf = record { 0 = same_number r.leaf.0 s.leaf.0 e i }; port = record { 0 = same_number r.port.0 s.port.0 f i } })
    by true false e f g = absurd (true≢false (sym g))
    by false y e f g = absurd (true≢false (sym g))

pub own_row : (a : Option Row) → same_row a a ≡ true
own_row None = refl
own_row (Some r) = ap (λ t. t && (r.port.0 == r.port.0)) (own_number r.leaf.0) ∙ own_number r.port.0

pub same_differs : (old new : Rows) (n : ℕ) → row_at old n ≡ row_at new n → differs old new n ≡ false
same_differs old new n e = ap (λ r. not (same_row r (row_at new n))) e ∙ ap not (own_row (row_at new n))

pub differs_none : (old new : Rows) (n : ℕ) → differs old new n ≡ false → row_at old n ≡ row_at new n
differs_none old new n h = by (same_row (row_at old n) (row_at new n)) refl h
  where
    by : (t : Bool) → same_row (row_at old n) (row_at new n) ≡ t → not t ≡ false → row_at old n ≡ row_at new n
    by true e g = rows_are_one (row_at old n) (row_at new n) e
    by false e g = absurd (true≢false g)

-- ---- one slot more

filter_more : (p : ℕ → Bool) (first count : ℕ) → filter p (range_with_len first (count + 1)) ≡ filter p (range_with_len first count) ++ cond (p (first + count)) ((first + count) ∷ []) []
filter_more p first zero = ap (λ n. cond (p n) (n ∷ []) []) (omega arith)
filter_more p first (suc count) =
    let step : suc count + 1 ≡ suc (count + 1) = omega arith in
    ap (λ c. filter p (range_with_len first c)) step ∙ by (p first) (filter_more p (first + 1) count)
  where
    last : first + 1 + count ≡ first + suc count
    last = omega arith

    by : (t : Bool) → filter p (range_with_len (first + 1) (count + 1)) ≡ filter p (range_with_len (first + 1) count) ++ cond (p (first + 1 + count)) ((first + 1 + count) ∷ []) []
        → cond t (first ∷ filter p (range_with_len (first + 1) (count + 1))) (filter p (range_with_len (first + 1) (count + 1)))
        ≡ cond t (first ∷ filter p (range_with_len (first + 1) count)) (filter p (range_with_len (first + 1) count)) ++ cond (p (first + suc count)) ((first + suc count) ∷ []) []
    by true rest = ap (λ xs. first ∷ xs) (rest ∙ ap (λ n. filter p (range_with_len (first + 1) count) ++ cond (p n) (n ∷ []) []) last)
    by false rest = rest ∙ ap (λ n. filter p (range_with_len (first + 1) count) ++ cond (p n) (n ∷ []) []) last

-- a slot whose rows differ is added, and no other
pub slot_added : (old new : Rows) (first count n k : ℕ) → n ≡ first + count → k ≡ count + 1 → differs old new n ≡ true → changed_among old new first k ≡ changed_among old new first count ++ entry_at new n ∷ []
unfolding changed_among
slot_added old new first count n k e f h =
    ap (λ c. map (entry_at new) (filter (differs old new) (range_with_len first c))) f
    ∙ ap (map (entry_at new)) (filter_more (differs old new) first count)
    ∙ ap (λ m. map (entry_at new) (filter (differs old new) (range_with_len first count) ++ cond (differs old new m) (m ∷ []) [])) (sym e)
    ∙ ap (λ t. map (entry_at new) (filter (differs old new) (range_with_len first count) ++ cond t (n ∷ []) [])) h
    ∙ map-append (entry_at new) (filter (differs old new) (range_with_len first count)) (n ∷ [])

pub slot_left : (old new : Rows) (first count n k : ℕ) → n ≡ first + count → k ≡ count + 1 → differs old new n ≡ false → changed_among old new first k ≡ changed_among old new first count
unfolding changed_among
slot_left old new first count n k e f h =
    ap (λ c. map (entry_at new) (filter (differs old new) (range_with_len first c))) f
    ∙ ap (map (entry_at new)) (filter_more (differs old new) first count)
    ∙ ap (λ m. map (entry_at new) (filter (differs old new) (range_with_len first count) ++ cond (differs old new m) (m ∷ []) [])) (sym e)
    ∙ ap (λ t. map (entry_at new) (filter (differs old new) (range_with_len first count) ++ cond t (n ∷ []) [])) h
    ∙ ap (map (entry_at new)) (append-nil (filter (differs old new) (range_with_len first count)))

-- one slot is looked at, and its rows differ
pub then_added : (old new : Rows) (k : ℕ) (es es' : List ConfigEntry) (e : ConfigEntry) → 16 ≤ k → es ≡ changed_among old new 16 (k - 16) → same_row (row_at old k) (row_at new k) ≡ false → es' ≡ es ++ e ∷ [] → e ≡ entry_at new k
    → es' ≡ changed_among old new 16 (k + 1 - 16)
then_added old new k es es' e from so_far other pushed is =
    pushed ∙ (λ i. so_far i ++ is i ∷ []) ∙ sym (slot_added old new 16 (k - 16) k (k + 1 - 16) (omega (arith, from)) (omega (arith, from)) (ap not other))

-- and its rows are the same
pub then_left : (old new : Rows) (k : ℕ) (es es' : List ConfigEntry) → 16 ≤ k → es ≡ changed_among old new 16 (k - 16) → same_row (row_at old k) (row_at new k) ≡ true → es' ≡ es
    → es' ≡ changed_among old new 16 (k + 1 - 16)
then_left old new k es es' from so_far same is =
    is ∙ so_far ∙ sym (slot_left old new 16 (k - 16) k (k + 1 - 16) (omega (arith, from)) (omega (arith, from)) (ap not same))

pub none_yet : (old new : Rows) (first : ℕ) → [] ≡ changed_among old new first 0
unfolding changed_among
none_yet old new first = refl

-- ---- rows with the changes put into them

length_with : (table : Rows) (es : List ConfigEntry) → length (with_entries table es) ≡ length table
length_with table [] = refl
length_with table (e ∷ es) = length_with (with_entry table e) es ∙ length-set table (16 * e.leaf.0 + e.slot) e.row

module _ (old new : Rows) where
  abbrev slots_from : ℕ → ℕ → List ConfigEntry
  slots_from first count = map (entry_at new) (filter (differs old new) (range_with_len first count))

  put_at : (table : Rows) (n : ℕ) → with_entry table (entry_at new n) ≡ set table n (row_at new n)
  put_at table n = ap (λ k. set table k (row_at new n)) (omega arith)

  -- a slot before all these keeps its row
  before : (first count n : ℕ) (table : Rows) → n < first → row_at (with_entries table (slots_from first count)) n ≡ row_at table n
  before first zero n table less = refl
  before first (suc count) n table less = by (differs old new first) (before (first + 1) count n)
    where
      by : (t : Bool) → ((table' : Rows) → n < first + 1 → row_at (with_entries table' (slots_from (first + 1) count)) n ≡ row_at table' n)
          → row_at (with_entries table (map (entry_at new) (cond t (first ∷ filter (differs old new) (range_with_len (first + 1) count)) (filter (differs old new) (range_with_len (first + 1) count))))) n ≡ row_at table n
      by true rest =
          rest (with_entry table (entry_at new first)) (omega (arith, less))
          ∙ ap (λ t. row_at t n) (put_at table first)
          ∙ get_or-set_other table first n (row_at new first) None (λ same. omega (arith, same, less))
      by false rest = rest table (omega (arith, less))

  -- a slot among these gets its new row
  among : (first count n : ℕ) (table : Rows) → first ≤ n → n < first + count → first + count ≤ length table → (differs old new n ≡ false → row_at table n ≡ row_at new n)
      → row_at (with_entries table (slots_from first count)) n ≡ row_at new n
  among first zero n table from below room same = absurd (omega (arith, from, below))
  among first (suc count) n table from below room same = by (differs old new first) (first == n) refl refl (among (first + 1) count n)
    where
      by : (t here : Bool) → differs old new first ≡ t → (first == n) ≡ here
          → ((table' : Rows) → first + 1 ≤ n → n < first + 1 + count → first + 1 + count ≤ length table' → (differs old new n ≡ false → row_at table' n ≡ row_at new n)
          → row_at (with_entries table' (slots_from (first + 1) count)) n ≡ row_at new n)
          → row_at (with_entries table (map (entry_at new) (cond t (first ∷ filter (differs old new) (range_with_len (first + 1) count)) (filter (differs old new) (range_with_len (first + 1) count))))) n ≡ row_at new n
      by true true d e rest =
          before (first + 1) count n (with_entry table (entry_at new first)) (omega (arith, same_number first n e))
          ∙ ap (λ t. row_at t n) (put_at table first)
          ∙ ap (λ k. row_at (set table first (row_at new first)) k) (sym (same_number first n e))
          ∙ get_or-set_same table first (row_at new first) None (omega (arith, room))
          ∙ ap (row_at new) (same_number first n e)
      by true false d e rest =
          rest (with_entry table (entry_at new first)) (grind (arith, nat_tests, e, from)) (omega (arith, below)) (omega (arith, room, length-set table (16 * (first / 16) + first % 16) (row_at new first)))
          (λ h. ap (λ t. row_at t n) (put_at table first) ∙ get_or-set_other table first n (row_at new first) None (λ s. grind (arith, nat_tests, e, s)) ∙ same h)
      by false true d e rest =
          before (first + 1) count n table (omega (arith, same_number first n e))
          ∙ same (ap (differs old new) (sym (same_number first n e)) ∙ d)
      by false false d e rest = rest table (grind (arith, nat_tests, e, from)) (omega (arith, below)) (omega (arith, room)) same

  -- no slot differs, and the other way round
  none_differs : (first count n : ℕ) → slots_from first count ≡ [] → first ≤ n → n < first + count → differs old new n ≡ false
  none_differs first zero n none from below = absurd (omega (arith, from, below))
  none_differs first (suc count) n none from below =
      by (differs old new first) (first == n) refl refl none (λ g f. none_differs (first + 1) count n g f (omega (arith, below)))
    where
      by : (t here : Bool) → differs old new first ≡ t → (first == n) ≡ here
          → map (entry_at new) (cond t (first ∷ filter (differs old new) (range_with_len (first + 1) count)) (filter (differs old new) (range_with_len (first + 1) count))) ≡ []
          → (slots_from (first + 1) count ≡ [] → first + 1 ≤ n → differs old new n ≡ false) → differs old new n ≡ false
      by true here d e g rest = absurd (omega (arith, ap length g))
      by false true d e g rest = ap (differs old new) (sym (same_number first n e)) ∙ d
      by false false d e g rest = rest g (grind (arith, nat_tests, e, from))

  all_same : (first count : ℕ) → ((n : ℕ) → first ≤ n → n < first + count → differs old new n ≡ false) → slots_from first count ≡ []
  all_same first zero same = refl
  all_same first (suc count) same =
      ap (λ t. map (entry_at new) (cond t (first ∷ filter (differs old new) (range_with_len (first + 1) count)) (filter (differs old new) (range_with_len (first + 1) count)))) (same first (omega arith) (omega arith))
      ∙ all_same (first + 1) count (λ n f b. same n (omega (arith, f)) (omega (arith, b)))

  here_first : (e : ConfigEntry) (es : List ConfigEntry) → Contains (e ∷ es) e
  here_first e es = (0, omega arith, refl)

  then_more : (e x : ConfigEntry) (es : List ConfigEntry) → Contains es x → Contains (e ∷ es) x
  then_more e x es c = (suc c.0, omega (arith, c.1), c.2)

  differing_there : (first count n : ℕ) → first ≤ n → n < first + count → differs old new n ≡ true → Contains (slots_from first count) (entry_at new n)
  differing_there first zero n from below d = absurd (omega (arith, from, below))
  differing_there first (suc count) n from below d =
      by (differs old new first) (first == n) refl refl (λ f. differing_there (first + 1) count n f (omega (arith, below)) d)
    where
      by : (t here : Bool) → differs old new first ≡ t → (first == n) ≡ here → (first + 1 ≤ n → Contains (slots_from (first + 1) count) (entry_at new n))
          → Contains (map (entry_at new) (cond t (first ∷ filter (differs old new) (range_with_len (first + 1) count)) (filter (differs old new) (range_with_len (first + 1) count)))) (entry_at new n)
      by true true h e rest = subst (λ k. Contains (entry_at new first ∷ slots_from (first + 1) count) (entry_at new k)) (same_number first n e) (here_first (entry_at new first) (slots_from (first + 1) count))
      by true false h e rest = then_more (entry_at new first) (entry_at new n) (slots_from (first + 1) count) (rest (grind (arith, nat_tests, e, from)))
      by false true h e rest = absurd (true≢false (sym d ∙ ap (differs old new) (sym (same_number first n e)) ∙ h))
      by false false h e rest = rest (grind (arith, nat_tests, e, from))

-- ---- of any slots in a row

among_changed : (old new : Rows) (first count n : ℕ) → first ≤ n → n < first + count → first + count ≤ length old → row_at (with_entries old (changed_among old new first count)) n ≡ row_at new n
unfolding changed_among
among_changed old new first count n from below room = among old new first count n old from below room (differs_none old new n)

before_changed : (old new : Rows) (first count n : ℕ) → n < first → row_at (with_entries old (changed_among old new first count)) n ≡ row_at old n
unfolding changed_among
before_changed old new first count n less = before old new first count n old less

none_changed : (old new : Rows) (first count n : ℕ) → changed_among old new first count ≡ [] → first ≤ n → n < first + count → differs old new n ≡ false
unfolding changed_among
none_changed old new first count n none from below = none_differs old new first count n none from below

same_changed : (old new : Rows) (first count : ℕ) → ((n : ℕ) → first ≤ n → n < first + count → differs old new n ≡ false) → changed_among old new first count ≡ []
unfolding changed_among
same_changed old new first count same = all_same old new first count same

there_changed : (old new : Rows) (first count n : ℕ) → first ≤ n → n < first + count → differs old new n ≡ true → Contains (changed_among old new first count) (entry_at new n)
unfolding changed_among
there_changed old new first count n from below d = differing_there old new first count n from below d

-- ---- the laws

pub made_new : (old new : Rows) (leaf slot : ℕ) → length old ≡ 1024 → 1 ≤ leaf → leaf < 64 → slot < 16 → row_at (with_entries old (changes old new)) (16 * leaf + slot) ≡ row_at new (16 * leaf + slot)
made_new old new leaf slot all first most few =
    among_changed old new 16 1008 (16 * leaf + slot) (omega (arith, first)) (omega (arith, most, few)) (omega (arith, all))

pub host_kept : (old new : Rows) (slot : ℕ) → slot < 16 → row_at (with_entries old (changes old new)) slot ≡ row_at old slot
host_kept old new slot few = before_changed old new 16 1008 slot few

pub equal_there : (old new : Rows) (leaf slot : ℕ) → changes old new ≡ [] → 1 ≤ leaf → leaf < 64 → slot < 16 → row_at old (16 * leaf + slot) ≡ row_at new (16 * leaf + slot)
equal_there old new leaf slot none first most few =
    differs_none old new (16 * leaf + slot) (none_changed old new 16 1008 (16 * leaf + slot) none (omega (arith, first)) (omega (arith, most, few)))

pub none_where_equal : (old new : Rows) → ((leaf slot : ℕ) → 1 ≤ leaf → leaf < 64 → slot < 16 → row_at old (16 * leaf + slot) ≡ row_at new (16 * leaf + slot)) → changes old new ≡ []
none_where_equal old new same = same_changed old new 16 1008 (λ n from below.
    let at : 16 * (n / 16) + n % 16 ≡ n = omega arith in
    let one = same (n / 16) (n % 16) (omega (arith, from)) (omega (arith, below)) (omega arith) in
    same_differs old new n (ap (row_at old) (sym at) ∙ one ∙ ap (row_at new) at))

slot_there : (es : List ConfigEntry) (leaf leaf' slot slot' : ℕ) (r r' : Option Row) → leaf ≡ leaf' → slot ≡ slot' → r ≡ r'
    → Contains es (record { leaf = record { 0 = leaf }; slot = slot; row = r }) → Contains es (record { leaf = record { 0 = leaf' }; slot = slot'; row = r' })
slot_there es leaf leaf' slot slot' r r' e f g h =
    subst (λ l. Contains es (record { leaf = record { 0 = l }; slot = slot'; row = r' })) e
    (subst (λ s. Contains es (record { leaf = record { 0 = leaf }; slot = s; row = r' })) f
    (subst (λ x. Contains es (record { leaf = record { 0 = leaf }; slot = slot; row = x })) g h))

pub removed_there : (old new : Rows) (leaf slot : ℕ) (r : Row) → 1 ≤ leaf → leaf < 64 → slot < 16 → row_at old (16 * leaf + slot) ≡ Some r → row_at new (16 * leaf + slot) ≡ None
    → Contains (changes old new) (record { leaf = record { 0 = leaf }; slot = slot; row = None })
removed_there old new leaf slot r first most few was gone =
    slot_there (changes old new) _ leaf _ slot _ None (omega (arith, few)) (omega (arith, few)) gone
    (there_changed old new 16 1008 (16 * leaf + slot) (omega (arith, first)) (omega (arith, most, few))
    (ap (λ o. not (same_row o (row_at new (16 * leaf + slot)))) was ∙ ap (λ o. not (same_row (Some r) o)) gone))
