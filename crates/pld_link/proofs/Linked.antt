-- What the rows of a sound design are.
use Rattle.std.proofs.Common.{◌≡◌, ℕ, ◌+◌, ◌<◌, ◌≤◌, suc, zero, Bool, true, false, cond, not, ◌⊎◌, inl, inr, List, [], ◌∷◌, length, refl, sym, ap, subst, ◌∙◌, arith, Option, Some, None}
use Rattle.std.specs.Prelude.{bytes_eq, slice_index, slice_index_or, option_map, IsSome, is_some}
use Rattle.std.specs.List.{count_by, find, filter_map, cons_option, Contains}
use Rattle.std.proofs.lemmas.Option.{none-some, same_Some}
use Rattle.net_switch.specs.declared.packet.Row.{Row}
use Rattle.pld_base.specs.declared.event.Side.{Side}
use Rattle.pld_base.specs.declared.event.Side.TheVariants.{In, Out}
use Rattle.pld_graph.specs.declared.parts.Channel.{Channel}
use Rattle.pld_graph.specs.declared.parts.FromEnd.{FromEnd}
use Rattle.pld_graph.specs.declared.parts.FromEnd.TheVariants as from_end
use Rattle.pld_graph.specs.declared.parts.ToEnd.{ToEnd}
use Rattle.pld_graph.specs.declared.parts.ToEnd.TheVariants as to_end
use Rattle.pld_graph.specs.Parts.{from_input, to_output, passes, is_host}
use Rattle.pld_graph.specs.Design.{Design, inputs, outputs}
use Rattle.pld_graph.specs.Sound.{IsSound}
use Rattle.pld_link.specs.Seats.{Seat, seat, same_seat, from_seat, to_seat, leaf_of, place_in, operator_names, IsPlacement, HasSlots}
use Rattle.pld_link.specs.Rows.{row, out_row, in_row}
use Rattle.pld_link.proofs.Ends.{IsIn, End_at, AtPort, AtHost, from_end_at, to_end_at, seats_are_one, found_in, finds, is_seat, own_seat, leaf_there, leaf_some, port_few, place_here, same_name, is_name, some_counted, fewer_counted, or_left, or_right}
use Rattle.pld_link.proofs.Ends.{counted}

pub record Linked (a b : Channel → Seat) (cs : List Channel) (s : Seat) (r : Row) : Type 0 where
  pub channel : Channel
  pub here : IsIn channel cs
  pub from : a channel ≡ s
  pub to : row (b channel) ≡ r
  pub found : find (λ c. same_seat (a c) s) cs ≡ Some channel

-- the channel of a row
pub linked : (a b : Channel → Seat) (cs : List Channel) (s : Seat) (r : Row) → option_map (λ c. row (b c)) (find (λ c. same_seat (a c) s) cs) ≡ Some r → Linked a b cs s r
linked a b cs s r e = by (find (λ c. same_seat (a c) s) cs) refl e
  where
    by : (o : Option Channel) → find (λ c. same_seat (a c) s) cs ≡ o → option_map (λ c. row (b c)) o ≡ Some r → Linked a b cs s r
    by None h e' = absurd (none-some r e')
    by (Some c) h e' =
        let at = found_in (λ x. same_seat (a x) s) cs c h in
        record { channel = c; here = at.0; from = is_seat (a c) s at.1; to = same_Some (row (b c)) r e'; found = h }

-- the row of the other end, where no two channels have that end at one seat
pub turned : (a b : Channel → Seat) (cs : List Channel) → ((c c' : Channel) → IsIn c cs → IsIn c' cs → b c ≡ b c' → c ≡ c') → (s : Seat) (r : Row)
    → option_map (λ c. row (b c)) (find (λ c. same_seat (a c) s) cs) ≡ Some r
    → option_map (λ c. row (a c)) (find (λ c. same_seat (b c) (seat r.leaf.0 r.port.0)) cs) ≡ Some (row s)
turned a b cs apart s r e =
    let l = linked a b cs s r e in
    let to : b l.channel ≡ seat r.leaf.0 r.port.0 = ap (λ (x : Row). seat x.leaf.0 x.port.0) l.to in
    let back = finds (λ c. same_seat (b c) (seat r.leaf.0 r.port.0)) cs l.channel l.here (own_seat (b l.channel) (seat r.leaf.0 r.port.0) to) in
    let one = apart back.item l.channel back.here l.here (is_seat _ _ back.passes ∙ sym to) in
    ap (λ o. option_map (λ c. row (a c)) o) back.found ∙ ap (λ c. Some (row (a c))) one ∙ ap (λ x. Some (row x)) l.from

-- the row of a channel that is there
pub row_there : (a b : Channel → Seat) (cs : List Channel) (s : Seat) (c : Channel) → IsIn c cs → a c ≡ s → (r : Row) × (option_map (λ x. row (b x)) (find (λ x. same_seat (a x) s) cs) ≡ Some r)
row_there a b cs s c here at =
    let f = finds (λ x. same_seat (a x) s) cs c here (own_seat (a c) s at) in
    (row (b f.item), ap (λ o. option_map (λ x. row (b x)) o) f.found)

pub is_some_of : {X : Type 0} (o : Option X) (x : X) → o ≡ Some x → IsSome o
is_some_of o x e = ap is_some e

-- ---- the host's ports

-- the channel of the k-th input or output
pub record HostAt (h : Channel → Option (List ℕ)) (cs : List Channel) (k : ℕ) : Type 0 where
  pub channel : Channel
  pub here : IsIn channel cs
  pub name : List ℕ
  pub named : h channel ≡ Some name
  pub place : place_in (filter_map h cs) name ≡ k

module _ (h : Channel → Option (List ℕ)) (hosts : (c : Channel) (n : List ℕ) → h c ≡ Some n → is_host n c ≡ true) where
  later : (m : List ℕ) (c : Channel) (cs : List Channel) (k : ℕ) → h c ≡ Some m → ((n : List ℕ) → count_by (is_host n) (c ∷ cs) ≤ 1) → (at : HostAt h cs k)
      → (b : Bool) → bytes_eq m at.name ≡ b → cond (not b) (1 + place_in (filter_map h cs) at.name) 0 ≡ suc k
  later m c cs k is once at true same =
      let here : is_host at.name c ≡ true = subst (λ n. is_host n c ≡ true) (is_name m at.name same) (hosts c m is) in
      absurd (omega (arith, once at.name, counted (is_host at.name) c cs true here, some_counted (is_host at.name) cs at.channel at.here (hosts at.channel at.name at.named)))
  later m c cs k is once at false same =
      let place = at.place in
      omega (arith, place)

  host_by : (c : Channel) (cs : List Channel) (k : ℕ) → ((n : List ℕ) → count_by (is_host n) (c ∷ cs) ≤ 1) → (o : Option (List ℕ)) → h c ≡ o
      → ((j : ℕ) → j < length (filter_map h cs) → HostAt h cs j) → k < length (cons_option o (filter_map h cs)) → HostAt h (c ∷ cs) k
  host_by c cs k once None is rest few =
      let at = rest k few in
      record { channel = at.channel; here = inr at.here; name = at.name; named = at.named; place = ap (λ o. place_in (cons_option o (filter_map h cs)) at.name) is ∙ at.place }
  host_by c cs zero once (Some m) is rest few = record {
    channel = c;
    here = inl refl;
    name = m;
    named = is;
    place = ap (λ o. place_in (cons_option o (filter_map h cs)) m) is ∙ ap (λ b. cond (not b) (1 + place_in (filter_map h cs) m) 0) (same_name m);
  }
  host_by c cs (suc k) once (Some m) is rest few =
      let at = rest k (omega (arith, few)) in
      record { channel = at.channel; here = inr at.here; name = at.name; named = at.named; place = ap (λ o. place_in (cons_option o (filter_map h cs)) at.name) is ∙ later m c cs k is once at (bytes_eq m at.name) refl }

  pub host_at : (cs : List Channel) (k : ℕ) → ((n : List ℕ) → count_by (is_host n) cs ≤ 1) → k < length (filter_map h cs) → HostAt h cs k
  host_at [] k once few = absurd (omega (arith, few))
  host_at (c ∷ cs) k once few =
      host_by c cs k once (h c) refl (λ j l. host_at cs j (λ n. fewer_counted (is_host n) c cs (once n)) l) few

input_hosts : (c : Channel) (n : List ℕ) → from_input c.from ≡ Some n → is_host n c ≡ true
input_hosts c n e =
    or_left (passes (λ m. bytes_eq m n) (from_input c.from)) (passes (λ m. bytes_eq m n) (to_output c.to))
    (ap (passes (λ m. bytes_eq m n)) e ∙ same_name n)

output_hosts : (c : Channel) (n : List ℕ) → to_output c.to ≡ Some n → is_host n c ≡ true
output_hosts c n e =
    or_right (passes (λ m. bytes_eq m n) (from_input c.from)) (passes (λ m. bytes_eq m n) (to_output c.to))
    (ap (passes (λ m. bytes_eq m n)) e ∙ same_name n)

input_seat : (d : Design) (leaves : List ℕ) (f : FromEnd) (n : List ℕ) → from_input f ≡ Some n → from_seat d leaves f ≡ seat 0 (place_in (inputs d.channels) n)
input_seat d leaves (from_end.Port e) n h = absurd (none-some n h)
input_seat d leaves (from_end.Input m) n h = ap (λ x. seat 0 (place_in (inputs d.channels) x)) (same_Some m n h)

output_seat : (d : Design) (leaves : List ℕ) (t : ToEnd) (n : List ℕ) → to_output t ≡ Some n → to_seat d leaves t ≡ seat 0 (place_in (outputs d.channels) n)
output_seat d leaves (to_end.Port e) n h = absurd (none-some n h)
output_seat d leaves (to_end.Output m) n h = ap (λ x. seat 0 (place_in (outputs d.channels) x)) (same_Some m n h)

-- ---- the laws

module _ (d : Design) (leaves : List ℕ) (sound : IsSound d) (placed : IsPlacement d leaves) where
  pub out_in : (leaf port : ℕ) (r : Row) → out_row d leaves leaf port ≡ Some r → in_row d leaves r.leaf.0 r.port.0 ≡ Some (row (seat leaf port))
  out_in leaf port r e =
      turned (λ c. from_seat d leaves c.from) (λ c. to_seat d leaves c.to) d.channels
      (λ c c' here here' same. seats_are_one d leaves sound placed In (outputs d.channels) c c' _ _ here here' (to_end_at d leaves sound c here) (to_end_at d leaves sound c' here') same)
      (seat leaf port) r e

  pub in_out : (leaf port : ℕ) (r : Row) → in_row d leaves leaf port ≡ Some r → out_row d leaves r.leaf.0 r.port.0 ≡ Some (row (seat leaf port))
  in_out leaf port r e =
      turned (λ c. to_seat d leaves c.to) (λ c. from_seat d leaves c.from) d.channels
      (λ c c' here here' same. seats_are_one d leaves sound placed Out (inputs d.channels) c c' _ _ here here' (from_end_at d leaves sound c here) (from_end_at d leaves sound c' here') same)
      (seat leaf port) r e

  once : (n : List ℕ) → count_by (is_host n) d.channels ≤ 1
  once n =
      let both = sound.names n in
      omega (arith, both)

  pub input_row : (k : ℕ) → k < length (inputs d.channels) → (r : Row) × (out_row d leaves 0 k ≡ Some r)
  input_row k few =
      let at = host_at (λ c. from_input c.from) input_hosts d.channels k once few in
      row_there (λ c. from_seat d leaves c.from) (λ c. to_seat d leaves c.to) d.channels (seat 0 k) at.channel at.here
      (input_seat d leaves at.channel.from at.name at.named ∙ ap (λ p. seat 0 p) at.place)

  pub output_row : (k : ℕ) → k < length (outputs d.channels) → (r : Row) × (in_row d leaves 0 k ≡ Some r)
  output_row k few =
      let at = host_at (λ c. to_output c.to) output_hosts d.channels k once few in
      row_there (λ c. to_seat d leaves c.to) (λ c. from_seat d leaves c.from) d.channels (seat 0 k) at.channel at.here
      (output_seat d leaves at.channel.to at.name at.named ∙ ap (λ p. seat 0 p) at.place)

  -- what is known of a channel's seat
  record Seated (names : List (List ℕ)) (s : Seat) : Type 0 where
    leaf : (s.leaf ≡ 0) ⊎ Contains leaves s.leaf
    host : s.leaf ≡ 0 → s.port < length names
    port : HasSlots d → length names ≤ 8 → s.port < 8

  seated : (side : Side) (names : List (List ℕ)) (c : Channel) (s : Seat) → IsIn c d.channels → End_at d leaves side names c s → Seated names s
  seated side names c s here (AtPort e sided at is) =
      let some = leaf_some d leaves sound placed c e here at in
      let there : Seated names (seat (leaf_of d leaves e.op) e.port.0) = record {
        leaf = inr (place_in (operator_names d) e.op, leaf_there d leaves sound placed c e here at, held _ _ (leaf_there d leaves sound placed c e here at));
        host = λ none. absurd (omega (arith, none, some));
        port = λ slots few. port_few d leaves sound c e here at slots;
      } in
      subst (Seated names) (sym is) there
    where
      held : (xs : List ℕ) (k : ℕ) → k < length xs → slice_index_or xs k (slice_index xs k) ≡ slice_index xs k
      held [] k few = refl
      held (x ∷ xs) zero few = refl
      held (x ∷ xs) (suc k) few = held xs k (omega (arith, few))
  seated side names c s here (AtHost n hosts named is) =
      let place = place_here names n named in
      let there : Seated names (seat 0 (place_in names n)) = record {
        leaf = inl refl;
        host = λ none. place;
        port = λ slots few. omega (arith, place, few);
      } in
      subst (Seated names) (sym is) there

  out_ends : (leaf port : ℕ) (r : Row) → out_row d leaves leaf port ≡ Some r → Seated (inputs d.channels) (seat leaf port) × Seated (outputs d.channels) (seat r.leaf.0 r.port.0)
  out_ends leaf port r e =
      let l = linked (λ c. from_seat d leaves c.from) (λ c. to_seat d leaves c.to) d.channels (seat leaf port) r e in
      let to : to_seat d leaves l.channel.to ≡ seat r.leaf.0 r.port.0 = ap (λ (x : Row). seat x.leaf.0 x.port.0) l.to in (
        subst (Seated (inputs d.channels)) l.from (seated Out (inputs d.channels) l.channel _ l.here (from_end_at d leaves sound l.channel l.here)),
        subst (Seated (outputs d.channels)) to (seated In (outputs d.channels) l.channel _ l.here (to_end_at d leaves sound l.channel l.here)),
      )

  in_ends : (leaf port : ℕ) (r : Row) → in_row d leaves leaf port ≡ Some r → Seated (outputs d.channels) (seat leaf port) × Seated (inputs d.channels) (seat r.leaf.0 r.port.0)
  in_ends leaf port r e =
      let l = linked (λ c. to_seat d leaves c.to) (λ c. from_seat d leaves c.from) d.channels (seat leaf port) r e in
      let from : from_seat d leaves l.channel.from ≡ seat r.leaf.0 r.port.0 = ap (λ (x : Row). seat x.leaf.0 x.port.0) l.to in (
        subst (Seated (outputs d.channels)) l.from (seated In (outputs d.channels) l.channel _ l.here (to_end_at d leaves sound l.channel l.here)),
        subst (Seated (inputs d.channels)) from (seated Out (inputs d.channels) l.channel _ l.here (from_end_at d leaves sound l.channel l.here)),
      )

  pub out_leaf : (leaf port : ℕ) (r : Row) → out_row d leaves leaf port ≡ Some r → (leaf ≡ 0) ⊎ Contains leaves leaf
  out_leaf leaf port r e = (out_ends leaf port r e).0.leaf

  pub in_leaf : (leaf port : ℕ) (r : Row) → in_row d leaves leaf port ≡ Some r → (leaf ≡ 0) ⊎ Contains leaves leaf
  in_leaf leaf port r e = (in_ends leaf port r e).0.leaf

  pub host_out : (port : ℕ) (r : Row) → out_row d leaves 0 port ≡ Some r → port < length (inputs d.channels)
  host_out port r e = (out_ends 0 port r e).0.host refl

  pub host_in : (port : ℕ) (r : Row) → in_row d leaves 0 port ≡ Some r → port < length (outputs d.channels)
  host_in port r e = (in_ends 0 port r e).0.host refl

  pub out_ports : (leaf port : ℕ) (r : Row) → HasSlots d → out_row d leaves leaf port ≡ Some r → (port < 8) × (r.port.0 < 8)
  out_ports leaf port r slots e =
      let ends = out_ends leaf port r e in
      (ends.0.port slots sound.inputs, ends.1.port slots sound.outputs)

  pub in_ports : (leaf port : ℕ) (r : Row) → HasSlots d → in_row d leaves leaf port ≡ Some r → (port < 8) × (r.port.0 < 8)
  in_ports leaf port r slots e =
      let ends = in_ends leaf port r e in
      (ends.0.port slots sound.outputs, ends.1.port slots sound.inputs)
