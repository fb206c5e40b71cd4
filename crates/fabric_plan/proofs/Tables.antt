-- The rows of a placed design, as a plan's leaves and slots name them.
use Rattle.std.proofs.Common.{◌≡◌, ℕ, ◌+◌, ◌*◌, ◌-◌, ◌<◌, ◌≤◌, Bool, true, false, ◌⊎◌, List, refl, sym, ap, ◌∙◌, arith, Option, Some, None, if◌then◌else◌, ⊎_elim}
use Rattle.std.specs.Prelude.{nat_lt, slice_index_or}
use Rattle.std.specs.List.{Contains}
use Rattle.std.proofs.lemmas.Bool.Decides.{nat_tests}
use Rattle.std.proofs.lemmas.Option.{none-some}
use Rattle.std.proofs.lemmas.List.{get_or_past}
use Rattle.net_switch.specs.declared.packet.Row.{Row}
use Rattle.pld_graph.specs.Design.{Design}
use Rattle.pld_graph.specs.Sound.{IsSound}
use Rattle.pld_link.specs.Seats.{IsPlacement, HasSlots}
use Rattle.pld_link.specs.Rows.{rows, row_of, out_row, in_row}
use Rattle.pld_link.proofs.Filling.{rows_at, rows_length}
use Rattle.pld_link.proofs.Linked.{out_leaf, in_leaf, out_ports, in_ports}
use Rattle.fabric_plan.proofs.Found.{none_of}
use Rattle.fabric_run.specs.Plan.{row_in}

pub chosen : (b c : Bool) (x y : Option Row) → b ≡ c → (if b then x else y) ≡ (if c then x else y)
chosen b c x y e = ap (λ t. if t then x else y) e

module _ (d : Design) (leaves : List ℕ) (sound : IsSound d) (placed : IsPlacement d leaves) where
  -- only the host's leaf and those of operators have rows
  row_leaf : (leaf slot : ℕ) (r : Row) (b : Bool) → (if b then out_row d leaves leaf slot else in_row d leaves leaf (slot - 8)) ≡ Some r → (leaf ≡ 0) ⊎ Contains leaves leaf
  row_leaf leaf slot r true e = out_leaf d leaves sound placed leaf slot r e
  row_leaf leaf slot r false e = in_leaf d leaves sound placed leaf (slot - 8) r e

  few_leaves : (leaf : ℕ) → (leaf ≡ 0) ⊎ Contains leaves leaf → leaf ≤ 63
  few_leaves leaf h = ⊎_elim (λ e. omega (arith, e)) (λ c. omega (arith, c.2, (placed.pages c.0 leaf c.1).1)) h

  table_by : (leaf slot : ℕ) (b : Bool) → nat_lt leaf 64 ≡ b → slot < 16 → slice_index_or (rows d leaves) (16 * leaf + slot) None ≡ row_of d leaves leaf slot
  table_by leaf slot true e few = rows_at d leaves leaf slot (grind (arith, nat_tests, e)) few
  table_by leaf slot false e few =
      let far : 64 ≤ leaf = grind (arith, nat_tests, e) in
      get_or_past (rows d leaves) (16 * leaf + slot) None (omega (arith, far, rows_length d leaves))
      ∙ sym (none_of _ (λ r h. (let near = few_leaves leaf (row_leaf leaf slot r (nat_lt slot 8) h) in omega (arith, near, far))))

  table_at : (leaf slot : ℕ) → slot < 16 → row_in (rows d leaves) leaf slot ≡ row_of d leaves leaf slot
  table_at leaf slot few = chosen (nat_lt slot 16) true _ None (grind (arith, nat_tests, few)) ∙ table_by leaf slot (nat_lt leaf 64) refl few

  some_by : (leaf slot : ℕ) (r : Row) (b : Bool) → nat_lt slot 16 ≡ b → (if b then slice_index_or (rows d leaves) (16 * leaf + slot) None else None) ≡ Some r → (leaf ≡ 0) ⊎ Contains leaves leaf
  some_by leaf slot r true e h = row_leaf leaf slot r (nat_lt slot 8) (sym (table_by leaf slot (nat_lt leaf 64) refl (grind (arith, nat_tests, e))) ∙ h)
  some_by leaf slot r false e h = absurd (none-some r h)

  -- a leaf with a row is the host's or an operator's
  pub some_row : (leaf slot : ℕ) (r : Row) → row_in (rows d leaves) leaf slot ≡ Some r → (leaf ≡ 0) ⊎ Contains leaves leaf
  some_row leaf slot r h = some_by leaf slot r (nat_lt slot 16) refl h

  module _ (slots : HasSlots d) where
    out_by : (leaf port : ℕ) (b : Bool) → nat_lt port 8 ≡ b → (if b then row_in (rows d leaves) leaf port else None) ≡ out_row d leaves leaf port
    out_by leaf port true e =
        let few : port < 8 = grind (arith, nat_tests, e) in
        table_at leaf port (omega (arith, few)) ∙ chosen (nat_lt port 8) true _ _ e
    out_by leaf port false e = sym (none_of _ (λ r h. (let few = (out_ports d leaves sound placed leaf port r slots h).0 in grind (arith, nat_tests, e, few))))

    in_by : (leaf port : ℕ) (b : Bool) → nat_lt port 8 ≡ b → (if b then row_in (rows d leaves) leaf (8 + port) else None) ≡ in_row d leaves leaf port
    in_by leaf port true e =
        let few : port < 8 = grind (arith, nat_tests, e) in
        let back : 8 + port - 8 ≡ port = omega arith in
        table_at leaf (8 + port) (omega (arith, few)) ∙ chosen (nat_lt (8 + port) 8) false _ _ (grind (arith, nat_tests)) ∙ ap (λ p. in_row d leaves leaf p) back
    in_by leaf port false e = sym (none_of _ (λ r h. (let few = (in_ports d leaves sound placed leaf port r slots h).0 in grind (arith, nat_tests, e, few))))

    -- the rows of a leaf's ports are the design's
    pub out_is : (leaf port : ℕ) → (if nat_lt port 8 then row_in (rows d leaves) leaf port else None) ≡ out_row d leaves leaf port
    out_is leaf port = out_by leaf port (nat_lt port 8) refl

    pub in_is : (leaf port : ℕ) → (if nat_lt port 8 then row_in (rows d leaves) leaf (8 + port) else None) ≡ in_row d leaves leaf port
    in_is leaf port = in_by leaf port (nat_lt port 8) refl
