-- Entries on their way: what each round keeps, from the start until all are accepted.
use Rattle.std.proofs.Common.{◌≡◌, ℕ, zero, suc, ◌+◌, ◌<◌, ◌≤◌, ◌⊎◌, ◌&&◌, not, Bool, true, false, cond, List, [], ◌∷◌, ◌++◌, length, get_or, refl, ap, sym, ◌∙◌, arith, length-append, Option, Some, None, subst, inl, inr}
use Rattle.std.specs.Prelude.{if◌then◌else◌, ◌==◌, nat_lt, slice_index_or, slice_set, replicate}
use Rattle.std.specs.List.{sum_by, count_by}
use Rattle.std.proofs.lemmas.Bool.Decides.{nat_tests}
use Rattle.std.proofs.lemmas.Bool.{cases_lt}
use Rattle.std.proofs.lemmas.List.{length-set, get_or-set_same, get_or-set_other}
use Rattle.std.proofs.lemmas.List.Sums.{sum_by-cons, sum_by-append}
use Rattle.net_switch.specs.declared.packet.Row.{Row}
use Rattle.net_switch.specs.declared.packet.Packet.{Packet}
use Rattle.net_switch.specs.declared.packet.Body.{Body}
use Rattle.net_switch.specs.declared.packet.Body.TheVariants.{Data, Credit, Config}
use Rattle.net_switch.specs.Switch.{weighs}
use Rattle.net_tree.specs.Links.{sum_to}
use Rattle.leaf_port.specs.Ports.{InState, fresh_in}
use Rattle.leaf_port.specs.declared.tables.ConfigEntry.{ConfigEntry}
use Rattle.leaf_port.specs.Leaf.{LeafState, fresh, in_port, row_of, delivered, injected, offered}
use Rattle.channel_account.specs.Account.{Numbered, IsAccount}
use Rattle.channel_account.specs.Network.{Accounted, IsFresh, joined, out_half, in_half, words_for, credits_for, packet_words, packet_credits, body_words, body_credits}
use Rattle.channel_account.proofs.Moves.{begins}
use Rattle.pld_base.specs.Channels.{NodeEvent, AfterEach, KeepsWindow, family_of}
use Rattle.pld_base.specs.Events.{words_read, words_written}
use Rattle.fabric_run.specs.World.{Setup, State, PageState, Rows, same_row, start_page, core_at, entry, change, changes_in, leaf_changes, changes_below, first_rows, slots_below, first_leaf, start, is_config, is_config_body, unaccepted, is_configured, hosted, ready, taken_in, first_of_list, entry_for, arrived, offer_of, entries_after, after_net, moved}
use Rattle.fabric_run.specs.Replay.{is_held_by, is_seat, goes_on, may, after}
use Rattle.fabric_run.specs.declared.entry.Entry.{Entry}
use Rattle.fabric_run.specs.declared.entry.Entry.TheVariants.{Take, Give, Net}
use Rattle.fabric_keeps.specs.Facts.{Begins, Carries}
use Rattle.fabric_keeps.specs.Links.{is_stray, IsAt, out_node, in_node, node_port, net_node, net_of, wiring_of, IsSound, IsRunning}
use Rattle.fabric_keeps.specs.Configuring.{is_for, body_is_for, brings, is_right, is_wrong_entry, body_is_right, is_wrong, pending, IsConfiguring}
use Rattle.fabric_keeps.specs.Whole.{IsWorld, Configuring, Running}
use Rattle.fabric_keeps.proofs.Base.{both, and_of, eq_same, same_eq, differ, lt_true, sum_add, sum_zero, sum_same, last_or}
use Rattle.fabric_keeps.proofs.Base.{same_or}
use Rattle.fabric_keeps.proofs.WorldKeeps.{PortsFit, entry_world}

none_some : {X : Type 0} (x : X) → None ≡ Some x → ⊥
none_some x e = cc

some_same : {X : Type 0} (x y : X) → Some x ≡ Some y → x ≡ y
some_same x y e = cc

-- a leaf with these rows, and nothing else
abbrev pub begun : ℕ → ℕ → List (Option Row) → LeafState
begun window i rows = record (fresh i window) { rows = rows }

abbrev pub entry_packet : ℕ → ℕ → Option ConfigEntry → Option Packet
entry_packet i r None = None
entry_packet i r (Some e) = Some (injected i r e.leaf.0 (Config e.slot e.row))

offer_begun : (window i r : ℕ) (rows : List (Option Row)) (c : Option ConfigEntry) → offered (begun window i rows) r c ≡ (begun window i rows, entry_packet i r c)
offer_begun window i r rows None = refl
offer_begun window i r rows (Some e) = refl

-- what a weight says of the entry that is offered
abbrev pub entry_weight : (Packet → ℕ) → ℕ → ℕ → Option ConfigEntry → Option Packet → ℕ
entry_weight f i r c None = weighs f (entry_packet i r c)
entry_weight f i r c (Some back) = 0

-- One leaf in a round: it has the rows that came to it, sends back what is for another, or offers an entry.
pub record ConfigStep (window : ℕ) (tables : Rows) (i r : ℕ) (rows : List (Option Row)) (o : Option Packet) (c : Option ConfigEntry) : Type 0 where
  pub new_rows : List (Option Row)
  pub leaf : (offered (taken_in (begun window i rows) o) r c).0 ≡ begun window i new_rows
  pub many : length new_rows ≡ 16
  pub goes : (f : Packet → ℕ) → ((p : Packet) → o ≡ Some p → p.to.0 ≡ i → f p ≡ 0) → weighs f (offered (taken_in (begun window i rows) o) r c).1 ≡ weighs f o + entry_weight f i r c (taken_in (begun window i rows) o).back
  pub row : (slot : ℕ) → slot < 16 → ((slice_index_or new_rows slot None ≡ slice_index_or rows slot None) × ((p : Packet) → o ≡ Some p → brings i slot p ≡ false)) ⊎ (slice_index_or new_rows slot None ≡ tables i slot)

row_same : (a b : Row) → ((a.leaf.0 == b.leaf.0) && (a.port.0 == b.port.0)) ≡ true → a ≡ b
row_same a b e =
    let h = both (a.leaf.0 == b.leaf.0) _ e in
    ap (λ (x : ℕ). let r : Row = record { leaf = record { 0 = x }; port = a.port } in r) (eq_same a.leaf.0 b.leaf.0 h.0)
    ∙ ap (λ (x : ℕ). let r : Row = record { leaf = b.leaf; port = record { 0 = x } } in r) (eq_same a.port.0 b.port.0 h.1)

pub same_rows : (a b : Option Row) → same_row a b ≡ true → a ≡ b
same_rows None None e = refl
same_rows None (Some b) e = absurd (let x : false ≡ true = e in cc)
same_rows (Some a) None e = absurd (let x : false ≡ true = e in cc)
same_rows (Some a) (Some b) e = ap (λ (x : Row). Some x) (row_same a b e)

same_row_refl : (a : Option Row) → same_row a a ≡ true
same_row_refl None = refl
same_row_refl (Some a) = and_of (a.leaf.0 == a.leaf.0) (a.port.0 == a.port.0) (same_eq a.leaf.0 a.leaf.0 refl) (same_eq a.port.0 a.port.0 refl)

-- a row comes to its slot, and to no other
row_set : (tables : Rows) (size i slot s : ℕ) (row : Option Row) (rows : List (Option Row)) → length rows ≡ 16 → is_right tables size i s row ≡ true → (b : Bool) → (s == slot) ≡ b
    → ((slice_index_or (slice_set rows s row) slot None ≡ slice_index_or rows slot None) × (b ≡ false)) ⊎ (slice_index_or (slice_set rows s row) slot None ≡ tables i slot)
row_set tables size i slot s row rows many right true e =
    let t : s ≡ slot = eq_same s slot e in
    let a = both (nat_lt i size) _ right in
    let d = both (nat_lt s 16) _ a.1 in
    let l : s < length rows = omega (arith, lt_true s 16 d.0) in
    inr (ap (λ (x : ℕ). slice_index_or (slice_set rows s row) x None) (sym t) ∙ (get_or-set_same rows s row None l ∙ (same_rows row (tables i s) d.1 ∙ ap (tables i) t)))
row_set tables size i slot s row rows many right false e =
    inl (get_or-set_other rows s slot row None (λ (q : slot ≡ s). (let x : (s == slot) ≡ true = same_eq s slot (sym q) in let y : false ≡ true = sym e ∙ x in cc)), refl)

foreign_brings : (i slot : ℕ) (p : Packet) → (p.to.0 == i) ≡ false → brings i slot p ≡ false
foreign_brings i slot p e = ap (λ (b : Bool). b && body_is_for slot p.body) e

own_brings : (i slot : ℕ) (p : Packet) → body_is_for slot p.body ≡ false → brings i slot p ≡ false
own_brings i slot p e = by (p.to.0 == i)
  where
    by : (b : Bool) → (b && body_is_for slot p.body) ≡ false
    by true = e
    by false = refl

-- an entry that comes to its leaf
own_step : (window : ℕ) (tables : Rows) (size i r : ℕ) (rows : List (Option Row)) (p : Packet) (body : Body) (c : Option ConfigEntry) → length rows ≡ 16 → p.to.0 ≡ i → p.body ≡ body → body_is_right tables size i body ≡ true
    → taken_in (begun window i rows) (Some p) ≡ delivered (begun window i rows) p.body → ConfigStep window tables i r rows (Some p) c
own_step window tables size i r rows p (Data j n w) c many to e right is = absurd (let x : false ≡ true = right in cc)
own_step window tables size i r rows p (Credit k n) c many to e right is = absurd (let x : false ≡ true = right in cc)
own_step window tables size i r rows p (Config s row) c many to e right is =
    let new : List (Option Row) = slice_set rows s row in
    let here : taken_in (begun window i rows) (Some p) ≡ begun window i new = is ∙ ap (delivered (begun window i rows)) e in
    let out : offered (taken_in (begun window i rows) (Some p)) r c ≡ (begun window i new, entry_packet i r c) = ap (λ (x : LeafState). offered x r c) here ∙ offer_begun window i r new c in
    record {
      new_rows = new;
      leaf = ap (λ (x : LeafState × Option Packet). x.0) out;
      many = length-set rows s row ∙ many;
      goes = λ f own. (
          let z : f p ≡ 0 = own p refl to in
          let w : weighs f (offered (taken_in (begun window i rows) (Some p)) r c).1 ≡ weighs f (entry_packet i r c) = ap (λ (x : LeafState × Option Packet). weighs f x.1) out in
          let back : entry_weight f i r c (taken_in (begun window i rows) (Some p)).back ≡ weighs f (entry_packet i r c) = ap (λ (x : LeafState). entry_weight f i r c x.back) here in
          omega arith);
      row = λ slot l. elim (row_set tables size i slot s row rows many right (s == slot) refl) [
        | inl h ↦ inl (h.0, λ q t. own_brings i slot q (ap (λ (x : Packet). body_is_for slot x.body) (sym (some_same p q t)) ∙ (ap (body_is_for slot) e ∙ h.1)))
        | inr h ↦ inr h
      ];
    }

packet_step : (window : ℕ) (tables : Rows) (size i r : ℕ) (rows : List (Option Row)) (p : Packet) (c : Option ConfigEntry) (b : Bool) → (p.to.0 == i) ≡ b → length rows ≡ 16 → is_wrong tables size p ≡ false → ConfigStep window tables i r rows (Some p) c
packet_step window tables size i r rows p c true e many right =
    let to : p.to.0 ≡ i = eq_same p.to.0 i e in
    own_step window tables size i r rows p p.body c many to refl
    (subst (λ (x : ℕ). body_is_right tables size x p.body ≡ true) to (by (body_is_right tables size p.to.0 p.body) right))
    (ap (λ (x : Bool). if x then delivered (begun window i rows) p.body else record (begun window i rows) { back = Some p }) e)
  where
    by : (b : Bool) → not b ≡ false → b ≡ true
    by true h = refl
    by false h = absurd (let x : true ≡ false = h in cc)
packet_step window tables size i r rows p c false e many right =
    let here : taken_in (begun window i rows) (Some p) ≡ record (begun window i rows) { back = Some p } = ap (λ (x : Bool). if x then delivered (begun window i rows) p.body else record (begun window i rows) { back = Some p }) e in
    let out : offered (taken_in (begun window i rows) (Some p)) r c ≡ (begun window i rows, Some p) = ap (λ (x : LeafState). offered x r c) here in
    record {
      new_rows = rows;
      leaf = ap (λ (x : LeafState × Option Packet). x.0) out;
      many = many;
      goes = λ f own. (
          let w : weighs f (offered (taken_in (begun window i rows) (Some p)) r c).1 ≡ f p = ap (λ (x : LeafState × Option Packet). weighs f x.1) out in
          let back : entry_weight f i r c (taken_in (begun window i rows) (Some p)).back ≡ 0 = ap (λ (x : LeafState). entry_weight f i r c x.back) here in
          omega arith);
      row = λ slot l. inl (refl, λ q t. foreign_brings i slot q (ap (λ (x : Packet). x.to.0 == i) (sym (some_same p q t)) ∙ e));
    }

pub config_step : (window : ℕ) (tables : Rows) (size i r : ℕ) (rows : List (Option Row)) (o : Option Packet) (c : Option ConfigEntry) → length rows ≡ 16 → ((p : Packet) → o ≡ Some p → is_wrong tables size p ≡ false) → ConfigStep window tables i r rows o c
config_step window tables size i r rows None c many right =
    let out : offered (begun window i rows) r c ≡ (begun window i rows, entry_packet i r c) = offer_begun window i r rows c in
    record {
      new_rows = rows;
      leaf = ap (λ (x : LeafState × Option Packet). x.0) out;
      many = many;
      goes = λ f own. ap (λ (x : LeafState × Option Packet). weighs f x.1) out ∙ omega arith;
      row = λ slot l. inl (refl, λ q t. absurd (none_some q t));
    }
config_step window tables size i r rows (Some p) c many right = packet_step window tables size i r rows p c (p.to.0 == i) refl many (right p refl)

-- All leaves, and the entries.

sum_first : (n : ℕ) (g : ℕ → ℕ) → 0 < n → ((i : ℕ) → g (suc i) ≡ 0) → sum_to n g ≡ g 0
sum_first zero g l h = absurd (omega arith)
sum_first (suc zero) g l h = omega arith
sum_first (suc (suc n)) g l h = omega (arith, sum_first (suc n) g (omega arith) h, h n)

-- the entries that are left, with the one that was offered
entries_weigh : (f : Packet → ℕ) (g : ConfigEntry → ℕ) (r : ℕ) (back : Option Packet) (es : List ConfigEntry) → ((e : ConfigEntry) → f (injected 0 r e.leaf.0 (Config e.slot e.row)) ≡ g e)
    → sum_by g (entries_after back es) + entry_weight f 0 r (first_of_list es) back ≡ sum_by g es
entries_weigh f g r None [] h = refl
entries_weigh f g r None (e ∷ es) h = omega (arith, sum_by-cons g e es, h e)
entries_weigh f g r (Some p) [] h = refl
entries_weigh f g r (Some p) (e ∷ es) h = omega arith

never : (f : Packet → ℕ) (i r : ℕ) (back : Option Packet) → entry_weight f i r None back ≡ 0
never f i r None = refl
never f i r (Some p) = refl

wrong_of : Rows → ℕ → Packet → ℕ
wrong_of tables size p = cond (is_wrong tables size p) 1 0

bool_zero : (b : Bool) → (let n : ℕ = cond b 1 0 in n ≡ 0) → b ≡ false
bool_zero true h = absurd (omega arith)
bool_zero false h = refl

zero_bool : (b : Bool) → b ≡ false → (let n : ℕ = cond b 1 0 in n ≡ 0)
zero_bool true h = absurd (let x : true ≡ false = h in cc)
zero_bool false h = refl

module _ {S : Type 0} (setup : Setup S) (st : State S) (some : 0 < setup.size) (carries : Carries setup st) (h : IsConfiguring setup st) where
  abbrev rows_at : ℕ → List (Option Row)
  rows_at i = (st.leaves i).rows

  abbrev coming : ℕ → Option Packet
  coming i = setup.net.arrival st.carrier i

  none_wrong : (i : ℕ) → i < setup.size → (p : Packet) → coming i ≡ Some p → is_wrong setup.tables setup.size p ≡ false
  none_wrong i l p e =
      let f : Packet → ℕ = λ (q : Packet). cond (is_wrong setup.tables setup.size q) 1 0 in
      let z : sum_to setup.size (λ j. weighs f (coming j)) ≡ 0 = omega (arith, carries.came f, h.under) in
      bool_zero (is_wrong setup.tables setup.size p) (sym (ap (weighs f) e) ∙ sum_zero setup.size (λ j. weighs f (coming j)) z i l)

  step : (i : ℕ) → i < setup.size → ConfigStep setup.window setup.tables i st.rounds (rows_at i) (coming i) (entry_for i st.entries)
  step i l = config_step setup.window setup.tables setup.size i st.rounds (rows_at i) (coming i) (entry_for i st.entries) (h.many i l) (none_wrong i l)

  offer_is : (i : ℕ) → i < setup.size → offer_of setup st i ≡ offered (taken_in (begun setup.window i (rows_at i)) (coming i)) st.rounds (entry_for i st.entries)
  offer_is i l = ap (λ (s : LeafState). offered (taken_in s (coming i)) st.rounds (entry_for i st.entries)) (h.leaf i l)

  arrived_is : (i : ℕ) → i < setup.size → arrived setup st i ≡ taken_in (begun setup.window i (rows_at i)) (coming i)
  arrived_is i l = ap (λ (s : LeafState). taken_in s (coming i)) (h.leaf i l)

  abbrev entry_used : (Packet → ℕ) → ℕ → ℕ
  entry_used f i = entry_weight f i st.rounds (entry_for i st.entries) (arrived setup st i).back

  -- where a weight is nothing at what comes to its own leaf, all is weighed once more after the round
  all_weigh : (f : Packet → ℕ) (g : ConfigEntry → ℕ) → ((i : ℕ) → i < setup.size → (p : Packet) → coming i ≡ Some p → p.to.0 ≡ i → f p ≡ 0) → ((e : ConfigEntry) → f (injected 0 st.rounds e.leaf.0 (Config e.slot e.row)) ≡ g e)
      → sum_by g (moved setup st).entries + sum_by f (setup.net.under (moved setup st).carrier) ≡ sum_by g st.entries + sum_by f (setup.net.under st.carrier)
  all_weigh f g own same =
      let each : (i : ℕ) → i < setup.size → weighs f (offer_of setup st i).1 ≡ weighs f (coming i) + entry_used f i =
      λ i l. ap (λ (x : LeafState × Option Packet). weighs f x.1) (offer_is i l) ∙ ((step i l).goes f (own i l) ∙ ap (λ (s : LeafState). weighs f (coming i) + entry_weight f i st.rounds (entry_for i st.entries) s.back) (sym (arrived_is i l))) in
      let offers : sum_to setup.size (λ i. weighs f (offer_of setup st i).1) ≡ sum_to setup.size (λ i. weighs f (coming i) + entry_used f i) = sum_same setup.size (λ i. weighs f (offer_of setup st i).1) (λ i. weighs f (coming i) + entry_used f i) each in
      let one : sum_to setup.size (entry_used f) ≡ entry_used f 0 = sum_first setup.size (entry_used f) some (λ i. never f (suc i) st.rounds (arrived setup st (suc i)).back) in
      omega (
        arith,
        carries.came f,
        carries.goes f,
        offers,
        sum_add setup.size (λ i. weighs f (coming i)) (entry_used f),
        one,
        entries_weigh f g st.rounds (arrived setup st 0).back st.entries same,
      )

  -- for a slot to which nothing comes, as many entries aren't accepted as before
  abbrev for_slot : ℕ → ℕ → Packet → ℕ
  for_slot m slot p = cond (brings m slot p) 1 0

  still_pending : (m slot : ℕ) → ((p : Packet) → coming m ≡ Some p → brings m slot p ≡ false) → pending setup (moved setup st) m slot ≡ pending setup st m slot
  still_pending m slot none =
      all_weigh (for_slot m slot) (λ (e : ConfigEntry). cond (is_for m slot e) 1 0) own (λ e. refl)
    where
      own : (i : ℕ) → i < setup.size → (p : Packet) → coming i ≡ Some p → p.to.0 ≡ i → for_slot m slot p ≡ 0
      own i l p e to =
          elim (same_or i m (i == m) refl) [
            | inl s ↦ zero_bool (brings m slot p) (none p (ap coming (sym s) ∙ e))
            | inr n ↦ zero_bool (brings m slot p) (foreign_brings m slot p (differ p.to.0 m (λ (t : p.to.0 ≡ m). n (sym to ∙ t))))
          ]

  next_slots : (i slot : ℕ) → i < setup.size → slot < 16 → (row_of ((moved setup st).leaves i) slot ≡ setup.tables i slot) ⊎ (0 < pending setup (moved setup st) i slot)
  next_slots i slot l m =
      let s = step i l in
      let leaf : (moved setup st).leaves i ≡ begun setup.window i s.new_rows = ap (λ (x : LeafState × Option Packet). x.0) (offer_is i l) ∙ s.leaf in
      let now : row_of ((moved setup st).leaves i) slot ≡ slice_index_or s.new_rows slot None = ap (λ (x : LeafState). row_of x slot) leaf in
      elim (s.row slot m) [
        | inl q ↦ elim (h.slots i slot l m) [
          | inl t ↦ inl (now ∙ (q.0 ∙ t))
          | inr t ↦ inr (omega (arith, still_pending i slot q.1))
        ]
        | inr q ↦ inl (now ∙ q)
      ]

  -- wrong packets and entries
  wrong_next : count_by (is_wrong_entry setup.tables setup.size) (moved setup st).entries + count_by (is_wrong setup.tables setup.size) (setup.net.under (moved setup st).carrier) ≡ 0
  wrong_next =
      let f : Packet → ℕ = λ (q : Packet). cond (is_wrong setup.tables setup.size q) 1 0 in
      let g : ConfigEntry → ℕ = λ (e : ConfigEntry). cond (is_wrong_entry setup.tables setup.size e) 1 0 in
      let w : sum_by g (moved setup st).entries + sum_by f (setup.net.under (moved setup st).carrier) ≡ sum_by g st.entries + sum_by f (setup.net.under st.carrier) =
      all_weigh f g (λ i l p e to. zero_bool (is_wrong setup.tables setup.size p) (none_wrong i l p e)) (λ e. refl) in
      omega (arith, w, h.left, h.under)

  pub configuring_moved : IsConfiguring setup (moved setup st)
  configuring_moved = record {
    history = h.history;
    leaf = λ i l. (
        let leaf : (moved setup st).leaves i ≡ begun setup.window i (step i l).new_rows = ap (λ (x : LeafState × Option Packet). x.0) (offer_is i l) ∙ (step i l).leaf in
        leaf ∙ ap (λ (x : LeafState). begun setup.window i x.rows) (sym leaf));
    many = λ i l. ap (λ (x : LeafState). length x.rows) (ap (λ (x : LeafState × Option Packet). x.0) (offer_is i l) ∙ (step i l).leaf) ∙ (step i l).many;
    left = omega (arith, wrong_next);
    under = omega (arith, wrong_next);
    home = λ i p e. net_home (st.pages i) p (h.home i) e;
    slots = next_slots;
  }
    where
      net_home : (o : Option PageState) (p : PageState) → ((q : PageState) → o ≡ Some q → q.holder ≡ None) → after_net o ≡ Some p → p.holder ≡ None
      net_home None p k e = absurd (none_some p e)
      net_home (Some q) p k e = ap (λ (x : PageState). x.holder) (sym (some_same (record q { gives = 0 }) p e)) ∙ k q refl

-- Once all are accepted, the new rows stand, and the account begins.

none_left : {X : Type 0} (xs : List X) → length xs ≡ 0 → xs ≡ []
none_left [] e = refl
none_left (x ∷ xs) e = absurd (omega arith)

config_or_wrong : (tables : Rows) (size : ℕ) (p : Packet) (body : Body) → (let a : ℕ = cond (is_config_body body) 1 0 in let b : ℕ = cond (not (body_is_right tables size p.to.0 body)) 1 0 in 1 ≤ a + b)
config_or_wrong tables size p (Data j n w) = omega arith
config_or_wrong tables size p (Credit k n) = omega arith
config_or_wrong tables size p (Config s row) = omega arith

few_packets : (tables : Rows) (size : ℕ) (ps : List Packet) → length ps ≤ count_by is_config ps + count_by (is_wrong tables size) ps
few_packets tables size [] = omega arith
few_packets tables size (p ∷ ps) =
    omega (arith, config_or_wrong tables size p p.body, few_packets tables size ps, sum_by-cons (λ (q : Packet). cond (is_config q) 1 0) p ps, sum_by-cons (λ (q : Packet). cond (is_wrong tables size q) 1 0) p ps)

any_in : (n j window : ℕ) → get_or (replicate n (fresh_in window)) j (fresh_in window) ≡ fresh_in window
any_in zero j window = refl
any_in (suc n) zero window = refl
any_in (suc n) (suc j) window = any_in n j window

no_slot : (n k : ℕ) → (let xs : List (Option ℕ) = replicate n None in slice_index_or xs k None ≡ None)
no_slot zero k = refl
no_slot (suc n) zero = refl
no_slot (suc n) (suc k) = no_slot n k

begun_at : (window : ℕ) (tables : Rows) (i : ℕ) (rows : List (Option Row)) → ((slot : ℕ) → slice_index_or rows slot None ≡ tables i slot) → IsAt window tables i (begun window i rows)
begun_at window tables i rows h = record {
  own = refl;
  width = refl;
  outs = refl;
  ins = refl;
  rows = h;
  waiting = refl;
  owed = λ j l. absurd (let z : (in_port (begun window i rows) j).freed ≡ 0 = ap (λ (q : InState). q.freed) (any_in 8 j window) in omega arith);
  full = λ j n w e. absurd (none_some w (sym (ap (λ (q : InState). slice_index_or q.slots n None) (any_in 8 j window) ∙ no_slot window n) ∙ e));
}

past_end : {X : Type 0} (xs : List X) (k : ℕ) (d : X) → length xs ≤ k → slice_index_or xs k d ≡ d
past_end [] k d l = refl
past_end (x ∷ xs) zero d l = absurd (omega arith)
past_end (x ∷ xs) (suc k) d l = past_end xs k d (omega arith)

fresh_node : {S : Type 0} (setup : Setup S) (st : State S) → IsConfiguring setup st → (i : ℕ) → i < setup.size → IsFresh setup.window (net_node setup st i)
fresh_node setup st h i l = record {
  width = ap (λ (s : LeafState). s.window) (h.leaf i l);
  outs = ap (λ (s : LeafState). s.outs) (h.leaf i l);
  ins = ap (λ (s : LeafState). s.ins) (h.leaf i l);
  box = ap (λ (s : LeafState). s.box) (h.leaf i l);
  written = λ k. ap (λ (es : List NodeEvent). words_written (family_of es (out_node setup.number i k)) (node_port i k)) h.history;
  read = λ j. ap (λ (es : List NodeEvent). words_read (family_of es (in_node setup.number i j)) (node_port i j)) h.history;
}

module _ {S : Type 0} (setup : Setup S) (st : State S) (sound : IsSound setup) (h : IsConfiguring setup st) (over : is_configured setup st ≡ true) where
  all_in : unaccepted setup st ≡ 0
  all_in = eq_same (unaccepted setup st) 0 over

  no_entries : st.entries ≡ []
  no_entries = none_left st.entries (omega (arith, all_in))

  no_packets : setup.net.under st.carrier ≡ []
  no_packets = none_left (setup.net.under st.carrier) (omega (arith, all_in, few_packets setup.tables setup.size (setup.net.under st.carrier), h.under))

  none_pending : (i slot : ℕ) → pending setup st i slot ≡ 0
  none_pending i slot =
      omega (arith, ap (λ (es : List ConfigEntry). count_by (is_for i slot) es) no_entries, ap (λ (ps : List Packet). count_by (brings i slot) ps) no_packets)

  row_is : (i : ℕ) → i < setup.size → (slot : ℕ) → row_of (st.leaves i) slot ≡ setup.tables i slot
  row_is i l slot =
      elim (cases_lt slot 16) [
        | inl m ↦ elim (h.slots i slot l m) [
          | inl e ↦ e
          | inr e ↦ absurd (omega (arith, none_pending i slot))
        ]
        | inr m ↦ past_end (st.leaves i).rows slot None (omega (arith, h.many i l)) ∙ sym (sound.slots i slot m)
      ]

  at : (i : ℕ) → i < setup.size → IsAt setup.window setup.tables i (st.leaves i)
  at i l = subst (IsAt setup.window setup.tables i) (sym (h.leaf i l)) (begun_at setup.window setup.tables i (st.leaves i).rows (row_is i l))

  pub running_begins : IsRunning setup st
  running_begins = record {
    accounted = subst (λ (ps : List Packet). Accounted setup.window setup.tables (record { nodes = net_node setup st; under = ps })) (sym no_packets)
        (begins setup.window setup.tables (net_node setup st) sound.window (λ e link. (fresh_node setup st h e.from (sound.below e link).0, fresh_node setup st h e.to (sound.below e link).1)));
    leaf = at;
    for_ends = ap (λ (ps : List Packet). count_by (is_stray setup.tables) ps) no_packets;
    no_entries = no_entries;
    window = subst (AfterEach (KeepsWindow setup.window (wiring_of setup))) (sym h.history) tt;
  }

-- from the one to the other
pub world_of : {S : Type 0} (setup : Setup S) (st : State S) → IsSound setup → IsConfiguring setup st → IsWorld setup st
world_of setup st sound h = by (is_configured setup st) refl
  where
    by : (b : Bool) → is_configured setup st ≡ b → IsWorld setup st
    by true e = Running (running_begins setup st sound h e)
    by false e = Configuring e h

-- As a run begins.

count_append : {X : Type 0} (t : X → Bool) (xs ys : List X) → count_by t (xs ++ ys) ≡ count_by t xs + count_by t ys
count_append t xs ys = sum_by-append (λ x. cond (t x) 1 0) xs ys

lt_of : (a b : ℕ) → a < b → nat_lt a b ≡ true
lt_of a b h = grind (arith, nat_tests)

slots_length : (n : ℕ) (f : ℕ → Option Row) → length (slots_below n f) ≡ n
slots_length zero f = refl
slots_length (suc n) f = omega (arith, length-append (slots_below n f) (f n ∷ []), slots_length n f)

get_front : {X : Type 0} (xs ys : List X) (k : ℕ) (d : X) → k < length xs → slice_index_or (xs ++ ys) k d ≡ slice_index_or xs k d
get_front [] ys k d l = absurd (omega arith)
get_front (x ∷ xs) ys zero d l = refl
get_front (x ∷ xs) ys (suc k) d l = get_front xs ys k d (omega arith)

get_end : {X : Type 0} (xs : List X) (y d : X) (k : ℕ) → k ≡ length xs → slice_index_or (xs ++ y ∷ []) k d ≡ y
get_end [] y d zero e = refl
get_end [] y d (suc k) e = absurd (omega arith)
get_end (x ∷ xs) y d zero e = absurd (omega arith)
get_end (x ∷ xs) y d (suc k) e = get_end xs y d k (omega arith)

slots_get : (n : ℕ) (f : ℕ → Option Row) (k : ℕ) → k < n → slice_index_or (slots_below n f) k None ≡ f k
slots_get zero f k l = absurd (omega arith)
slots_get (suc n) f k l =
    elim (last_or n k l) [
      | inl e ↦ get_end (slots_below n f) (f n) None k (e ∙ sym (slots_length n f)) ∙ ap f (sym e)
      | inr m ↦ get_front (slots_below n f) (f n ∷ []) k None (omega (arith, slots_length n f)) ∙ slots_get n f k m
    ]

module _ (before tables : Rows) (size : ℕ) where
  right_change : (leaf slot : ℕ) → leaf < size → slot < 16 → (b : Bool) → count_by (is_wrong_entry tables size) (if b then [] else entry leaf slot (tables leaf slot) ∷ []) ≡ 0
  right_change leaf slot l m true = refl
  right_change leaf slot l m false =
      let r : is_right tables size leaf slot (tables leaf slot) ≡ true = and_of (nat_lt leaf size) _ (lt_of leaf size l) (and_of (nat_lt slot 16) _ (lt_of slot 16 m) (same_row_refl (tables leaf slot))) in
      let z : (let n : ℕ = cond (is_wrong_entry tables size (entry leaf slot (tables leaf slot))) 1 0 in n ≡ 0) = rw r refl in
      omega (arith, sum_by-cons (λ (e : ConfigEntry). cond (is_wrong_entry tables size e) 1 0) (entry leaf slot (tables leaf slot)) [], z)

  right_in : (leaf n : ℕ) → leaf < size → n ≤ 16 → count_by (is_wrong_entry tables size) (changes_in before tables leaf n) ≡ 0
  right_in leaf zero l m = refl
  right_in leaf (suc n) l m =
      omega (arith, count_append (is_wrong_entry tables size) (changes_in before tables leaf n) (change before tables leaf n), right_in leaf n l (omega arith), right_change leaf n l (omega arith) (same_row (before leaf n) (tables leaf n)))

  right_leaf : (leaf : ℕ) → leaf < size → count_by (is_wrong_entry tables size) (leaf_changes before tables leaf) ≡ 0
  right_leaf zero l = refl
  right_leaf (suc leaf) l = right_in (suc leaf) 16 l (omega arith)

  pub right_below : (n : ℕ) → n ≤ size → count_by (is_wrong_entry tables size) (changes_below before tables n) ≡ 0
  right_below zero m = refl
  right_below (suc n) m =
      omega (arith, count_append (is_wrong_entry tables size) (changes_below before tables n) (leaf_changes before tables n), right_below n (omega arith), right_leaf n (omega arith))

  -- a slot that differs has an entry
  some_change : (leaf slot : ℕ) (b : Bool) → b ≡ false → 0 < count_by (is_for leaf slot) (if b then [] else entry leaf slot (tables leaf slot) ∷ [])
  some_change leaf slot true e = absurd (let x : true ≡ false = e in cc)
  some_change leaf slot false e =
      let r : is_for leaf slot (entry leaf slot (tables leaf slot)) ≡ true = and_of (leaf == leaf) _ (same_eq leaf leaf refl) (same_eq slot slot refl) in
      let z : (let n : ℕ = cond (is_for leaf slot (entry leaf slot (tables leaf slot))) 1 0 in n ≡ 1) = rw r refl in
      omega (arith, sum_by-cons (λ (x : ConfigEntry). cond (is_for leaf slot x) 1 0) (entry leaf slot (tables leaf slot)) [], z)

  some_in : (leaf slot n : ℕ) → slot < n → same_row (before leaf slot) (tables leaf slot) ≡ false → 0 < count_by (is_for leaf slot) (changes_in before tables leaf n)
  some_in leaf slot zero l e = absurd (omega arith)
  some_in leaf slot (suc n) l e =
      elim (last_or n slot l) [
        | inl s ↦ (
            let c : 0 < count_by (is_for leaf slot) (change before tables leaf slot) = some_change leaf slot (same_row (before leaf slot) (tables leaf slot)) e in
            let d : count_by (is_for leaf slot) (change before tables leaf slot) ≡ count_by (is_for leaf slot) (change before tables leaf n) = ap (λ (x : ℕ). count_by (is_for leaf slot) (change before tables leaf x)) s in
            omega (arith, count_append (is_for leaf slot) (changes_in before tables leaf n) (change before tables leaf n)))
        | inr m ↦ omega (arith, count_append (is_for leaf slot) (changes_in before tables leaf n) (change before tables leaf n), some_in leaf slot n m e)
      ]

  pub some_below : (leaf slot n : ℕ) → suc leaf < n → slot < 16 → same_row (before (suc leaf) slot) (tables (suc leaf) slot) ≡ false → 0 < count_by (is_for (suc leaf) slot) (changes_below before tables n)
  some_below leaf slot zero l m e = absurd (omega arith)
  some_below leaf slot (suc n) l m e =
      elim (last_or n (suc leaf) l) [
        | inl s ↦ (
            let c : 0 < count_by (is_for (suc leaf) slot) (leaf_changes before tables (suc leaf)) = some_in (suc leaf) slot 16 m e in
            let d : count_by (is_for (suc leaf) slot) (leaf_changes before tables (suc leaf)) ≡ count_by (is_for (suc leaf) slot) (leaf_changes before tables n) = ap (λ (x : ℕ). count_by (is_for (suc leaf) slot) (leaf_changes before tables x)) s in
            omega (arith, count_append (is_for (suc leaf) slot) (changes_below before tables n) (leaf_changes before tables n)))
        | inr k ↦ omega (arith, count_append (is_for (suc leaf) slot) (changes_below before tables n) (leaf_changes before tables n), some_below leaf slot n k m e)
      ]

start_home : (o : Option _) (p : PageState) → start_page o ≡ Some p → p.holder ≡ None
start_home None p e = absurd (none_some p e)
start_home (Some c) p e = ap (λ (x : PageState). x.holder) (sym (some_same _ p e))

start_slots : {S : Type 0} (setup : Setup S) (i slot : ℕ) → i < setup.size → slot < 16 → (row_of (first_leaf setup i) slot ≡ setup.tables i slot) ⊎ (0 < pending setup (start setup) i slot)
start_slots setup zero slot l m = inl (slots_get 16 (first_rows setup 0) slot m)
start_slots setup (suc i) slot l m = by (same_row (setup.before (suc i) slot) (setup.tables (suc i) slot)) refl
  where
    by : (b : Bool) → same_row (setup.before (suc i) slot) (setup.tables (suc i) slot) ≡ b → (row_of (first_leaf setup (suc i)) slot ≡ setup.tables (suc i) slot) ⊎ (0 < pending setup (start setup) (suc i) slot)
    by true e = inl (slots_get 16 (first_rows setup (suc i)) slot m ∙ same_rows (setup.before (suc i) slot) (setup.tables (suc i) slot) e)
    by false e = inr (omega (arith, some_below setup.before setup.tables setup.size i slot setup.size l m e))

pub start_configuring : {S : Type 0} (setup : Setup S) → Begins setup → IsConfiguring setup (start setup)
start_configuring setup b = record {
  history = refl;
  leaf = λ i l. refl;
  many = λ i l. slots_length 16 (first_rows setup i);
  left = right_below setup.before setup.tables setup.size setup.size (omega arith);
  under = ap (λ (ps : List Packet). count_by (is_wrong setup.tables setup.size) ps) b;
  home = λ i p e. start_home (core_at setup i) p e;
  slots = start_slots setup;
}

-- Each legal entry keeps the world.

nobody_held : (seat : ℕ) (o : Option PageState) → ((p : PageState) → o ≡ Some p → p.holder ≡ None) → is_held_by seat o ≡ true → ⊥
nobody_held seat None h e = let x : false ≡ true = e in cc
nobody_held seat (Some p) h e = let x : false ≡ true = sym (ap (is_seat seat) (h p refl)) ∙ e in cc

pub configuring_keeps : {S : Type 0} (setup : Setup S) (st : State S) (e : Entry) → IsSound setup → may setup st e ≡ true → Carries setup (ready setup st) → is_configured setup st ≡ false → IsConfiguring setup st → IsWorld setup (after setup st e)
configuring_keeps setup st (Take seat leaf) sound m c busy h =
    let a = both (goes_on setup st) _ m in
    let b = both (nat_lt leaf setup.size) _ a.1 in
    absurd (let x : false ≡ true = sym busy ∙ (both (is_configured setup st) _ b.1).0 in cc)
configuring_keeps setup st (Give seat leaf) sound m c busy h =
    absurd (nobody_held seat (st.pages leaf) (h.home leaf) (both (nat_lt leaf setup.size) _ m).1)
configuring_keeps {S = S} setup st (Net seat) sound m c busy h =
    let same : ready setup st ≡ st = ap (λ (b : Bool). if b then hosted setup st else st) busy in
    let d : Carries setup st = subst (Carries setup) same c in
    subst (λ (x : State S). IsWorld setup (moved setup x)) (sym same) (world_of setup (moved setup st) sound (configuring_moved setup st sound.some d h))

pub world_keeps : {S : Type 0} (setup : Setup S) (st : State S) (e : Entry) → IsSound setup → may setup st e ≡ true → st.pages 0 ≡ None → ((i : ℕ) → i < setup.size → (st.leaves i).back ≡ None) → Carries setup (ready setup st) → PortsFit setup st
    → IsWorld setup st → IsWorld setup (after setup st e)
world_keeps setup st e sound m host back c fit (Configuring busy h) = configuring_keeps setup st e sound m c busy h
world_keeps setup st e sound m host back c fit (Running h) = Running (entry_world setup st e sound m host back c fit h)

-- In either phase the account of each channel holds, and each event has kept the windows.

pub windows_of : {S : Type 0} (setup : Setup S) (st : State S) → IsWorld setup st → AfterEach (KeepsWindow setup.window (wiring_of setup)) st.history
windows_of setup st (Configuring e h) = subst (AfterEach (KeepsWindow setup.window (wiring_of setup))) (sym h.history) tt
windows_of setup st (Running h) = h.window

nothing_in : (tables : Rows) (size m j k : ℕ) (p : Packet) (body : Body) → p.body ≡ body → (let n : ℕ = cond (not (body_is_right tables size p.to.0 body)) 1 0 in n ≡ 0) → (packet_words m j p ≡ []) × (packet_credits m k p ≡ [])
nothing_in tables size m j k p (Data i n w) e h = absurd (omega arith)
nothing_in tables size m j k p (Credit i n) e h = absurd (omega arith)
nothing_in tables size m j k p (Config s row) e h = (by (p.to.0 == m), by' (p.to.0 == m))
  where
    by : (b : Bool) → (if b then body_words j p.body else []) ≡ []
    by true = ap (body_words j) e
    by false = refl

    by' : (b : Bool) → (if b then body_credits k p.body else []) ≡ []
    by' true = ap (body_credits k) e
    by' false = refl

nothing_under : (tables : Rows) (size m j k : ℕ) (ps : List Packet) → count_by (is_wrong tables size) ps ≡ 0 → (words_for m j ps ≡ []) × (credits_for m k ps ≡ [])
nothing_under tables size m j k [] h = (refl, refl)
nothing_under tables size m j k (p ∷ ps) h =
    let f : Packet → ℕ = λ (q : Packet). cond (is_wrong tables size q) 1 0 in
    let c : sum_by f (p ∷ ps) ≡ f p + sum_by f ps = sum_by-cons f p ps in
    let first = nothing_in tables size m j k p p.body refl (omega (arith, c)) in
    let rest = nothing_under tables size m j k ps (omega (arith, c)) in
    (ap (λ (xs : List Numbered). xs ++ words_for m j ps) first.0 ∙ rest.0, ap (λ (xs : List ℕ). xs ++ credits_for m k ps) first.1 ∙ rest.1)

pub accounted_of : {S : Type 0} (setup : Setup S) (st : State S) → IsSound setup → IsWorld setup st → Accounted setup.window setup.tables (net_of setup st)
accounted_of setup st sound (Configuring busy h) e link =
    let b = sound.below e link in
    let begun = begins setup.window setup.tables (net_node setup st) sound.window (λ d link. (fresh_node setup st h d.from (sound.below d link).0, fresh_node setup st h d.to (sound.below d link).1)) e link in
    let words : words_for e.to e.inn (setup.net.under st.carrier) ≡ [] = (nothing_under setup.tables setup.size e.to e.inn 0 (setup.net.under st.carrier) h.under).0 in
    let credits : credits_for e.from e.out (setup.net.under st.carrier) ≡ [] = (nothing_under setup.tables setup.size e.from 0 e.out (setup.net.under st.carrier) h.under).1 in
    record {
      from_window = begun.from_window;
      to_window = begun.to_window;
      account = subst (λ (ws : List Numbered). IsAccount setup.window (joined (out_half (net_node setup st e.from) e.out) (in_half (net_node setup st e.to) e.inn) ws (credits_for e.from e.out (setup.net.under st.carrier)))) (sym words)
          (subst (λ (rs : List ℕ). IsAccount setup.window (joined (out_half (net_node setup st e.from) e.out) (in_half (net_node setup st e.to) e.inn) [] rs)) (sym credits) begun.account);
    }
accounted_of setup st sound (Running h) e link = h.accounted e link
