-- The ports of a design's operators: in a closed design each has a row, and no other port has one.
use Rattle.std.proofs.Common.{◌≡◌, ℕ, zero, suc, ◌+◌, ◌<◌, ◌≤◌, Bool, true, false, true≢false, cond, not, inl, inr, List, [], ◌∷◌, length, map, refl, sym, ap, subst, ◌∙◌, arith, Option, Some, None, if◌then◌else◌}
use Rattle.std.specs.Prelude.{◌==◌, ◌||◌, bytes_eq, slice_get, slice_index}
use Rattle.std.specs.List.{count_by, find}
use Rattle.std.proofs.lemmas.Option.{none-some, same_Some, slice_get-get_or}
use Rattle.std.proofs.lemmas.List.Folds.{Any-from_list_any}
use Rattle.net_switch.specs.declared.packet.Row.{Row}
use Rattle.pld_base.specs.declared.event.End.{End}
use Rattle.pld_base.specs.declared.event.Side.{Side}
use Rattle.pld_base.specs.declared.event.Side.TheVariants.{In, Out}
use Rattle.pld_graph.specs.declared.parts.Channel.{Channel}
use Rattle.pld_graph.specs.declared.parts.OperatorEntry.{OperatorEntry}
use Rattle.pld_graph.specs.declared.parts.FromEnd.{FromEnd}
use Rattle.pld_graph.specs.declared.parts.FromEnd.TheVariants as from_end
use Rattle.pld_graph.specs.declared.parts.ToEnd.{ToEnd}
use Rattle.pld_graph.specs.declared.parts.ToEnd.TheVariants as to_end
use Rattle.pld_graph.specs.Parts.{same_side, same_end, on_side, from_port, to_port, passes, stands_at}
use Rattle.pld_graph.specs.Design.{Design, inputs, outputs, is_called, is_linked, owns, port, or_else, open_among, open_of, first_open, open_port}
use Rattle.pld_graph.specs.Sound.{IsSound, every, is_directed}
use Rattle.pld_graph.proofs.Ended.{not_to, not_from}
use Rattle.pld_link.specs.Seats.{Seat, seat, from_seat, to_seat, leaf_of, place_in, operator_names, IsPlacement}
use Rattle.pld_link.specs.Rows.{out_row, in_row}
use Rattle.pld_link.proofs.Ends.{IsIn, End_at, AtPort, AtHost, from_end_at, to_end_at, leaf_there, linked_in, same_name, is_name, counted, some_counted, fewer_counted}
use Rattle.pld_link.proofs.Linked.{linked, row_there}
use Rattle.fabric_keeps.proofs.Base.{both, eq_same, lt_true}

-- ---- operators by their names

pub held_in : {X : Type 0} (xs : List X) (k : ℕ) (x : X) → slice_get xs k ≡ Some x → IsIn x xs
held_in [] k x e = absurd (none-some x e)
held_in (y ∷ ys) zero x e = inl (same_Some y x e)
held_in (y ∷ ys) (suc k) x e = inr (held_in ys k x e)

-- the operator that is found by a name stands at the name's place
found_at : (os : List OperatorEntry) (n : List ℕ) → find (is_called n) os ≡ slice_get os (place_in (map (λ o. o.name) os) n)
found_at [] n = refl
found_at (o ∷ os) n = by (bytes_eq o.name n) (found_at os n)
  where
    by : (b : Bool) → find (is_called n) os ≡ slice_get os (place_in (map (λ q. q.name) os) n)
        → cond b (Some o) (find (is_called n) os) ≡ slice_get (o ∷ os) (cond (not b) (1 + place_in (map (λ q. q.name) os) n) 0)
    by true rest = refl
    by false rest =
        let next : suc (place_in (map (λ q. q.name) os) n) ≡ 1 + place_in (map (λ q. q.name) os) n = omega arith in
        rest ∙ ap (λ k. slice_get (o ∷ os) k) next

-- the place of the k-th name is k, where no name stands twice
place_is : (os : List OperatorEntry) (k : ℕ) (o : OperatorEntry) → ((n : List ℕ) → count_by (is_called n) os ≤ 1) → slice_get os k ≡ Some o → place_in (map (λ q. q.name) os) o.name ≡ k
place_is [] k o once e = absurd (none-some o e)
place_is (q ∷ os) zero o once e =
    let same : q ≡ o = same_Some q o e in
    ap (λ b. cond (not b) (1 + place_in (map (λ x. x.name) os) o.name) 0) (ap (λ (x : OperatorEntry). bytes_eq x.name o.name) same ∙ same_name o.name)
place_is (q ∷ os) (suc k) o once e = by (bytes_eq q.name o.name) refl (place_is os k o (λ n. fewer_counted (is_called n) q os (once n)) e)
  where
    by : (b : Bool) → bytes_eq q.name o.name ≡ b → place_in (map (λ x. x.name) os) o.name ≡ k → cond (not b) (1 + place_in (map (λ x. x.name) os) o.name) 0 ≡ suc k
    by true h rest = absurd (omega (arith, once o.name, counted (is_called o.name) q os true h, some_counted (is_called o.name) os o (held_in os k o e) (same_name o.name)))
    by false h rest = omega (arith, rest)

-- ---- ports of a closed design

none_of_both : {X : Type 0} (a b : Option X) → or_else a b ≡ None → (a ≡ None) × (b ≡ None)
none_of_both None b e = (refl, e)
none_of_both (Some x) b e = absurd (none-some x (sym e))

linked_among : (cs : List Channel) (name : List ℕ) (side : Side) (k n i : ℕ) → open_among cs name side k n ≡ None → i < n → is_linked cs (port name side (k + i)) ≡ true
linked_among cs name side k zero i e few = absurd (omega (arith, few))
linked_among cs name side k (suc n) i e few = by (is_linked cs (port name side k)) refl (λ e' j few'. linked_among cs name side (k + 1) n j e' few') i few e
  where
    by : (b : Bool) → is_linked cs (port name side k) ≡ b → (open_among cs name side (k + 1) n ≡ None → (j : ℕ) → j < n → is_linked cs (port name side (k + 1 + j)) ≡ true)
        → (m : ℕ) → m < suc n → (if b then open_among cs name side (k + 1) n else Some (port name side k)) ≡ None → is_linked cs (port name side (k + m)) ≡ true
    by false h rest m least none = absurd (none-some _ (sym none))
    by true h rest zero least none =
        let place : k ≡ k + 0 = omega arith in
        subst (λ j. is_linked cs (port name side j) ≡ true) place h
    by true h rest (suc m) least none =
        let place : k + 1 + m ≡ k + suc m = omega arith in
        subst (λ j. is_linked cs (port name side j) ≡ true) place (rest none m (omega (arith, least)))

none_open : (cs : List Channel) (os : List OperatorEntry) (k : ℕ) (o : OperatorEntry) → first_open cs os ≡ None → slice_get os k ≡ Some o → open_of cs o ≡ None
none_open cs [] k o e at = absurd (none-some o at)
none_open cs (q ∷ os) zero o e at = ap (open_of cs) (sym (same_Some q o at)) ∙ (none_of_both (open_of cs q) (first_open cs os) e).0
none_open cs (q ∷ os) (suc k) o e at = none_open cs os k o (none_of_both (open_of cs q) (first_open cs os) e).1 at

-- each port of each operator is in a channel
linked_port : (cs : List Channel) (o : OperatorEntry) (side : Side) (i : ℕ) → open_of cs o ≡ None → i < on_side side o.ins o.outs → is_linked cs (port o.name side i) ≡ true
linked_port cs o side i e few =
    let none = none_of_both (open_among cs o.name In 0 o.ins) (open_among cs o.name Out 0 o.outs) e in
    let place : 0 + i ≡ i = omega arith in
    subst (λ m. is_linked cs (port o.name side m) ≡ true) place (by side none.0 none.1 few)
  where
    by : (s : Side) → open_among cs o.name In 0 o.ins ≡ None → open_among cs o.name Out 0 o.outs ≡ None → i < on_side s o.ins o.outs → is_linked cs (port o.name s (0 + i)) ≡ true
    by In ins outs few' = linked_among cs o.name In 0 o.ins i ins few'
    by Out ins outs few' = linked_among cs o.name Out 0 o.outs i outs few'

or_first : (a b : Bool) → (a || b) ≡ true → b ≡ false → a ≡ true
or_first true b h e = refl
or_first false b h e = absurd (true≢false (sym h ∙ e))

or_second : (a b : Bool) → (a || b) ≡ true → a ≡ false → b ≡ true
or_second a b h e = sym (ap (λ x. x || b) e) ∙ h

module _ (d : Design) (leaves : List ℕ) (sound : IsSound d) (placed : IsPlacement d leaves) where
  once : (n : List ℕ) → count_by (is_called n) d.operators ≤ 1
  once n =
      let all = sound.names n in
      omega (arith, all)

  pub leaf_is : (k : ℕ) (o : OperatorEntry) → slice_get d.operators k ≡ Some o → leaf_of d leaves o.name ≡ slice_index leaves k
  leaf_is k o at = ap (λ j. slice_index leaves j) (place_is d.operators k o once at)

  seat_is : (e x : End) (k : ℕ) (o : OperatorEntry) → slice_get d.operators k ≡ Some o → e.op ≡ o.name → same_end e x ≡ true → seat (leaf_of d leaves x.op) x.port.0 ≡ seat (slice_index leaves k) e.port.0
  seat_is e x k o at named same =
      let parts = both _ (e.port.0 == x.port.0) same in
      let op : x.op ≡ o.name = sym (is_name e.op x.op (both (bytes_eq e.op x.op) (same_side e.side x.side) parts.0).0) ∙ named in
      ap (λ n. seat (leaf_of d leaves n) x.port.0) op
      ∙ ap (λ l. seat l x.port.0) (leaf_is k o at)
      ∙ ap (λ i. seat (slice_index leaves k) i) (sym (eq_same e.port.0 x.port.0 parts.1))

  -- a channel that stands at a port
  record Standing (e : End) : Type 0 where
    channel : Channel
    here : IsIn channel d.channels
    directed : is_directed channel ≡ true
    stands : stands_at (same_end e) channel ≡ true

  standing : (e : End) → is_linked d.channels e ≡ true → Standing e
  standing e h =
      let a = Any-from_list_any (stands_at (same_end e)) d.channels h in
      record {
        channel = a.1;
        here = held_in d.channels a.0 a.1 (slice_get-get_or d.channels a.0 a.1 a.2 ∙ ap Some a.3);
        directed = subst (λ c. is_directed c ≡ true) a.3 (sound.sides a.0 a.1 a.2);
        stands = a.4;
      }

  from_at : (e : End) (k : ℕ) (o : OperatorEntry) (f : FromEnd) (t : ToEnd) → slice_get d.operators k ≡ Some o → e.op ≡ o.name → e.side ≡ Out → is_directed (record { from = f; to = t }) ≡ true
      → stands_at (same_end e) (record { from = f; to = t }) ≡ true → from_seat d leaves f ≡ seat (slice_index leaves k) e.port.0
  from_at e k o (from_end.Port x) t at named out directed stands =
      let sides = both (same_side x.side Out) (every (λ z. same_side z.side In) (to_port t)) directed in
      seat_is e x k o at named (or_first (same_end e x) (passes (same_end e) (to_port t)) stands (not_to e t out sides.1))
  from_at e k o (from_end.Input n) t at named out directed stands = absurd (true≢false (sym stands ∙ not_to e t out directed))

  to_at : (e : End) (k : ℕ) (o : OperatorEntry) (f : FromEnd) (t : ToEnd) → slice_get d.operators k ≡ Some o → e.op ≡ o.name → e.side ≡ In → is_directed (record { from = f; to = t }) ≡ true
      → stands_at (same_end e) (record { from = f; to = t }) ≡ true → to_seat d leaves t ≡ seat (slice_index leaves k) e.port.0
  to_at e k o f (to_end.Port x) at named into directed stands =
      let sides = both (every (λ z. same_side z.side Out) (from_port f)) (same_side x.side In) directed in
      seat_is e x k o at named (or_second (passes (same_end e) (from_port f)) (same_end e x) stands (not_from e f into sides.0))
  to_at e k o f (to_end.Output n) at named into directed stands =
      let sides = both (every (λ z. same_side z.side Out) (from_port f)) true directed in
      absurd (true≢false (sym (or_second (passes (same_end e) (from_port f)) false stands (not_from e f into sides.0))))

  -- where each port is in a channel, the ports of the k-th operator have rows
  pub out_there : (k i : ℕ) (o : OperatorEntry) → open_port d ≡ None → slice_get d.operators k ≡ Some o → i < o.outs → (r : Row) × (out_row d leaves (slice_index leaves k) i ≡ Some r)
  out_there k i o closed at few =
      let s = standing (port o.name Out i) (linked_port d.channels o Out i (none_open d.channels d.operators k o closed at) few) in
      row_there (λ c. from_seat d leaves c.from) (λ c. to_seat d leaves c.to) d.channels (seat (slice_index leaves k) i) s.channel s.here
      (from_at (port o.name Out i) k o s.channel.from s.channel.to at refl refl s.directed s.stands)

  pub in_there : (k i : ℕ) (o : OperatorEntry) → open_port d ≡ None → slice_get d.operators k ≡ Some o → i < o.ins → (r : Row) × (in_row d leaves (slice_index leaves k) i ≡ Some r)
  in_there k i o closed at few =
      let s = standing (port o.name In i) (linked_port d.channels o In i (none_open d.channels d.operators k o closed at) few) in
      row_there (λ c. to_seat d leaves c.to) (λ c. from_seat d leaves c.from) d.channels (seat (slice_index leaves k) i) s.channel s.here
      (to_at (port o.name In i) k o s.channel.from s.channel.to at refl refl s.directed s.stands)

  -- a channel's end on the leaf of the k-th operator is at one of its ports
  owned : (side : Side) (names : List (List ℕ)) (c : Channel) (s : Seat) (k i : ℕ) (o : OperatorEntry) → IsIn c d.channels → End_at d leaves side names c s → s ≡ seat (slice_index leaves k) i
      → k < length leaves → slice_get d.operators k ≡ Some o → i < on_side side o.ins o.outs
  owned side names c s k i o here (AtPort e sided stands is) same few at =
      let seats : seat (leaf_of d leaves e.op) e.port.0 ≡ seat (slice_index leaves k) i = sym is ∙ same in
      let place : place_in (operator_names d) e.op ≡ k = placed.alone _ _ (leaf_there d leaves sound placed c e here stands) few (ap (λ (x : Seat). x.leaf) seats) in
      let found : find (is_called e.op) d.operators ≡ Some o = found_at d.operators e.op ∙ ap (λ j. slice_get d.operators j) place ∙ at in
      let has : owns e (Some o) ≡ true = sym (ap (owns e) found) ∙ sound.ends e (linked_in e d.channels c here stands) in
      let below : e.port.0 < on_side e.side o.ins o.outs = lt_true e.port.0 (on_side e.side o.ins o.outs) has in
      let at_port : e.port.0 ≡ i = ap (λ (x : Seat). x.port) seats in
      let on : on_side e.side o.ins o.outs ≡ on_side side o.ins o.outs = ap (λ x. on_side x o.ins o.outs) sided in
      omega (arith, below, at_port, on)
  owned side names c s k i o here (AtHost n hosts named is) same few at =
      let none : 0 ≡ slice_index leaves k = ap (λ (x : Seat). x.leaf) (sym is ∙ same) in
      absurd (omega (arith, none, (placed.pages k 0 few).0))

  pub out_owned : (k i : ℕ) (o : OperatorEntry) (r : Row) → k < length leaves → slice_get d.operators k ≡ Some o → out_row d leaves (slice_index leaves k) i ≡ Some r → i < o.outs
  out_owned k i o r few at e =
      let l = linked (λ c. from_seat d leaves c.from) (λ c. to_seat d leaves c.to) d.channels (seat (slice_index leaves k) i) r e in
      owned Out (inputs d.channels) l.channel _ k i o l.here (from_end_at d leaves sound l.channel l.here) l.from few at

  pub in_owned : (k i : ℕ) (o : OperatorEntry) (r : Row) → k < length leaves → slice_get d.operators k ≡ Some o → in_row d leaves (slice_index leaves k) i ≡ Some r → i < o.ins
  in_owned k i o r few at e =
      let l = linked (λ c. to_seat d leaves c.to) (λ c. from_seat d leaves c.from) d.channels (seat (slice_index leaves k) i) r e in
      owned In (outputs d.channels) l.channel _ k i o l.here (to_end_at d leaves sound l.channel l.here) l.from few at
