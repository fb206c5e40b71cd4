-- Each change of a design keeps what holds of every design.
use Rattle.std.proofs.Common.{◌≡◌, ℕ, ◌+◌, ◌<◌, ◌≤◌, ◌^◌, suc, zero, Bool, true, false, true≢false, cond, ◌&&◌, ◌||◌, not, List, [], ◌∷◌, ◌++◌, length, refl, ap, sym, ◌∙◌, arith, Option, Some, None, is_some, unwrap_or, subst, filter, take, drop, length-append, length-set}
use Rattle.std.specs.Prelude.{bytes_eq, ◌==◌, nat_le, nat_lt, slice_index_or, slice_set, remove}
use Rattle.std.specs.List.{count_by, All, list_any, find, filter_map, cons_option}
use Rattle.std.proofs.lemmas.Bool.Decides.{nat_tests}
use Rattle.std.proofs.lemmas.Slice.Eq.{bytes_eq-Decides}
use Rattle.std.proofs.lemmas.List.Elements.{All-append, All-take, All-drop, All-set, All-filter, filter_map-append}
use Rattle.std.proofs.lemmas.List.Folds.{list_any-append}
use Rattle.std.proofs.lemmas.List.Edits.{length-remove}
use Rattle.std.proofs.lemmas.List.Sums.{sum_by_push, sum_by-cons, sum_by-set, sum_by-remove, length-filter, count_by-le-length}
use Rattle.std.proofs.lemmas.List.Filters.{sum_by-filter_both}
use Rattle.pld_base.specs.declared.event.End.{End}
use Rattle.pld_base.specs.declared.event.Side.{Side}
use Rattle.pld_base.specs.declared.event.Side.TheVariants.{In, Out}
use Rattle.net_switch.specs.declared.packet.Pattern.{Pattern}
use Rattle.pld_graph.specs.declared.parts.Channel.{Channel}
use Rattle.pld_graph.specs.declared.parts.OperatorEntry.{OperatorEntry}
use Rattle.pld_graph.specs.Parts.{same_side, same_end, is_below, is_lost, from_port, to_port, from_input, to_output, passes, stands_at, is_host}
use Rattle.pld_graph.specs.Design.{Design, plain, inputs, outputs, is_linked, is_named, place_from, place_of, operator_at, blank, is_called, owns, has_port}
use Rattle.pld_graph.specs.Edits.{is_leaf, is_outside, is_rival, with_operator, with_channel, set_operator}
use Rattle.pld_graph.specs.Sound.{IsSound, every, is_within, is_directed, is_pinned}

one_all : {X : Type 0} (P : X → Type 0) (x : X) → P x → All P (x ∷ [])
one_all P x p zero d l = p
one_all P x p (suc k) d l = absurd (omega (arith, l))

or_false : (a b : Bool) → (a || b) ≡ false → (a ≡ false) × (b ≡ false)
or_false true b e = absurd (true≢false e)
or_false false b e = (refl, e)

none_all : {X : Type 0} (p : X → Bool) (xs : List X) → list_any p xs ≡ false → All (λ x. p x ≡ false) xs
none_all p [] e k d l = absurd (omega (arith, l))
none_all p (x ∷ xs) e zero d l = (or_false (p x) (list_any p xs) e).0
none_all p (x ∷ xs) e (suc k) d l = none_all p xs (or_false (p x) (list_any p xs) e).1 k d (omega (arith, l))

pub none_counted : {X : Type 0} (p : X → Bool) (xs : List X) → list_any p xs ≡ false → count_by p xs ≡ 0
none_counted p [] e = refl
none_counted p (x ∷ xs) e =
    let both = or_false (p x) (list_any p xs) e in
    let first = sum_by-cons (λ y. cond (p y) 1 0) x xs ∙ ap (λ b. cond b 1 0 + count_by p xs) both.0 in
    let rest = none_counted p xs both.1 in
    omega (arith, first, rest)

all_remove : {X : Type 0} (P : X → Type 0) (xs : List X) (k : ℕ) → All P xs → All P (remove xs k)
all_remove P xs k all = All-append P (take k xs) (drop (suc k) xs) (All-take P k xs all) (All-drop P (suc k) xs all)

-- fewer elements give fewer items
cons_few : {Y : Type 0} (o : Option Y) (ys zs : List Y) → length ys ≤ length zs → (length ys ≤ length (cons_option o zs)) × (length (cons_option o ys) ≤ length (cons_option o zs))
cons_few None ys zs l = (l, l)
cons_few (Some y) ys zs l = (omega (arith, l), omega (arith, l))

kept_one : {X Y : Type 0} (h : X → Option Y) (p : X → Bool) (x : X) (xs : List X) (b : Bool) → length (filter_map h (filter p xs)) ≤ length (filter_map h xs) → length (filter_map h (cond b (x ∷ filter p xs) (filter p xs))) ≤ length (filter_map h (x ∷ xs))
kept_one h p x xs true l = (cons_few (h x) _ _ l).1
kept_one h p x xs false l = (cons_few (h x) _ _ l).0

few_kept : {X Y : Type 0} (h : X → Option Y) (p : X → Bool) (xs : List X) → length (filter_map h (filter p xs)) ≤ length (filter_map h xs)
few_kept h p [] = omega arith
few_kept h p (x ∷ xs) = kept_one h p x xs (p x) (few_kept h p xs)

few_counted : {X : Type 0} (q p : X → Bool) (xs : List X) → count_by q (filter p xs) ≤ count_by q xs
few_counted q p xs =
    let whole = sum_by-filter_both p (λ x. not (p x)) (λ x. refl) (λ x. cond (q x) 1 0) xs in
    omega (arith, whole)

and_both : (a b : Bool) → (a && b) ≡ true → (a ≡ true) × (b ≡ true)
and_both true b e = (refl, e)
and_both false b e = absurd (true≢false (sym e))

side_is : (a b : Side) → same_side a b ≡ true → a ≡ b
side_is In In e = refl
side_is In Out e = absurd (true≢false (sym e))
side_is Out In e = absurd (true≢false (sym e))
side_is Out Out e = refl

end_is : (a b : End) → same_end a b ≡ true → a ≡ b
end_is a b e =
    let front = and_both (bytes_eq a.op b.op && same_side a.side b.side) (a.port.0 == b.port.0) e in
    let names = and_both (bytes_eq a.op b.op) (same_side a.side b.side) front.0 in
    let op : a.op ≡ b.op = (bytes_eq-Decides a.op b.op).0 names.0 in
    let side : a.side ≡ b.side = side_is a.side b.side names.1 in
    let last = front.1 in
    let no : a.port.0 ≡ b.port.0 = grind (arith, nat_tests, last) in
    let make : List ℕ → Side → ℕ → End = λ n s p. record { op = n; side = s; port = record { 0 = p } } in
    ap (λ n. make n a.side a.port.0) op ∙ ap (λ s. make b.op s a.port.0) side ∙ ap (λ p. make b.op b.side p) no

not_true : (b : Bool) → not b ≡ true → b ≡ false
not_true true e = absurd (true≢false (sym e))
not_true false e = refl

-- a port of a new channel is in no other
new_port : (cs : List Channel) (e : End) (o : Option End) → every (λ x. not (is_linked cs x)) o ≡ true → passes (same_end e) o ≡ true → is_linked cs e ≡ false
new_port cs e None free here = absurd (true≢false (sym here))
new_port cs e (Some x) free here = subst (λ y. is_linked cs y ≡ false) (sym (end_is e x here)) (not_true (is_linked cs x) free)

new_end : (cs : List Channel) (e : End) (a b : Option End) (x y : Bool) → passes (same_end e) a ≡ x → passes (same_end e) b ≡ y → (x || y) ≡ true → every (λ z. not (is_linked cs z)) a ≡ true → every (λ z. not (is_linked cs z)) b ≡ true → is_linked cs e ≡ false
new_end cs e a b true y p q h free_a free_b = new_port cs e a free_a p
new_end cs e a b false y p q h free_a free_b = new_port cs e b free_b (q ∙ h)

or_true : (a b : Bool) → a ≡ true → (a || b) ≡ true
or_true true b e = refl
or_true false b e = absurd (true≢false (sym e))

or_right : (a b : Bool) → b ≡ true → (a || b) ≡ true
or_right true b e = refl
or_right false b e = e

or_none : (b : Bool) → (b || false) ≡ true → b ≡ true
or_none true e = refl
or_none false e = e

-- a test that no port of a channel passes
port_fails : (q : End → Bool) (e : End) (o : Option End) → passes (same_end e) o ≡ true → passes q o ≡ false → q e ≡ false
port_fails q e None here fails = absurd (true≢false (sym here))
port_fails q e (Some x) here fails = subst (λ y. q y ≡ false) (sym (end_is e x here)) fails

channel_fails : (q : End → Bool) (e : End) (a b : Option End) (x : Bool) → passes (same_end e) a ≡ x → (x || passes (same_end e) b) ≡ true → (passes q a || passes q b) ≡ false → q e ≡ false
channel_fails q e a b true h here fails = port_fails q e a h (or_false (passes q a) (passes q b) fails).0
channel_fails q e a b false h here fails = port_fails q e b here (or_false (passes q a) (passes q b) fails).1

fails_at : (q : End → Bool) (e : End) (c : Channel) (cs : List Channel) (b : Bool) → stands_at (same_end e) c ≡ b → (b || is_linked cs e) ≡ true → stands_at q c ≡ false → (is_linked cs e ≡ true → q e ≡ false) → q e ≡ false
fails_at q e c cs true h here fails rest = channel_fails q e (from_port c.from) (to_port c.to) _ refl h fails
fails_at q e c cs false h here fails rest = rest here

-- where no port of the channels passes a test, a port of theirs doesn't
pub linked_fails : (q : End → Bool) (cs : List Channel) (e : End) → is_linked cs e ≡ true → list_any (stands_at q) cs ≡ false → q e ≡ false
linked_fails q [] e here fails = absurd (true≢false (sym here))
linked_fails q (c ∷ cs) e here fails =
    let both = or_false (stands_at q c) (list_any (stands_at q) cs) fails in
    fails_at q e c cs (stands_at (same_end e) c) refl here both.0 (λ h. linked_fails q cs e h both.1)

any_kept_one : {X : Type 0} (q p : X → Bool) (x : X) (xs : List X) (b : Bool) → (list_any q (filter p xs) ≡ true → list_any q xs ≡ true) → list_any q (cond b (x ∷ filter p xs) (filter p xs)) ≡ true → list_any q (x ∷ xs) ≡ true
any_kept_one q p x xs true rest h = more (q x) h
  where
    more : (b : Bool) → (b || list_any q (filter p xs)) ≡ true → (b || list_any q xs) ≡ true
    more true g = refl
    more false g = rest g
any_kept_one q p x xs false rest h = or_right (q x) (list_any q xs) (rest h)

any_kept : {X : Type 0} (q p : X → Bool) (xs : List X) → list_any q (filter p xs) ≡ true → list_any q xs ≡ true
any_kept q p [] h = h
any_kept q p (x ∷ xs) h = any_kept_one q p x xs (p x) (any_kept q p xs) h

none_left_one : {X : Type 0} (r : X → Bool) (x : X) (xs : List X) (b : Bool) → r x ≡ b → list_any r (filter (λ y. not (r y)) xs) ≡ false → list_any r (cond (not b) (x ∷ filter (λ y. not (r y)) xs) (filter (λ y. not (r y)) xs)) ≡ false
none_left_one r x xs true h rest = rest
none_left_one r x xs false h rest = ap (λ b. b || list_any r (filter (λ y. not (r y)) xs)) h ∙ rest

pub none_left : {X : Type 0} (r : X → Bool) (xs : List X) → list_any r (filter (λ y. not (r y)) xs) ≡ false
none_left r [] = refl
none_left r (x ∷ xs) = none_left_one r x xs (r x) refl (none_left r xs)

-- a port that was there is there after an operator was added
owns_more_one : (e : End) (o : OperatorEntry) (os ys : List OperatorEntry) (b : Bool) → (owns e (find (is_called e.op) os) ≡ true → owns e (find (is_called e.op) (os ++ ys)) ≡ true) → owns e (cond b (Some o) (find (is_called e.op) os)) ≡ true → owns e (cond b (Some o) (find (is_called e.op) (os ++ ys))) ≡ true
owns_more_one e o os ys true rest h = h
owns_more_one e o os ys false rest h = rest h

owns_more : (e : End) (os ys : List OperatorEntry) → owns e (find (is_called e.op) os) ≡ true → owns e (find (is_called e.op) (os ++ ys)) ≡ true
owns_more e [] ys h = absurd (true≢false (sym h))
owns_more e (o ∷ os) ys h = owns_more_one e o os ys (is_called e.op o) (owns_more e os ys) h

-- an operator of another name goes
find_less : (p : OperatorEntry → Bool) (os : List OperatorEntry) (k : ℕ) → k < length os → p (operator_at os k) ≡ false → find p (remove os k) ≡ find p os
find_less p [] k l h = absurd (omega (arith, l))
find_less p (o ∷ os) zero l h = sym (ap (λ b. cond b (Some o) (find p os)) h)
find_less p (o ∷ os) (suc k) l h = ap (λ r. cond (p o) (Some o) r) (find_less p os k (omega (arith, l)) h)

-- an operator in place of another one of its name
owns_set_first : (e : End) (x o : OperatorEntry) (r : Option OperatorEntry) (b : Bool) → is_called e.op x ≡ b → o.name ≡ x.name → (is_called e.op x ≡ true → is_below x.ins x.outs e ≡ true → is_below o.ins o.outs e ≡ true) → owns e (cond b (Some x) r) ≡ true → owns e (cond (is_called e.op o) (Some o) r) ≡ true
owns_set_first e x o r true h same keeps own = subst (λ b. owns e (cond b (Some o) r) ≡ true) (sym (ap (λ n. bytes_eq n e.op) same ∙ h)) (keeps h own)
owns_set_first e x o r false h same keeps own = subst (λ b. owns e (cond b (Some o) r) ≡ true) (sym (ap (λ n. bytes_eq n e.op) same ∙ h)) own

owns_set_rest : (e : End) (x : OperatorEntry) (r t : Option OperatorEntry) (b : Bool) → (owns e r ≡ true → owns e t ≡ true) → owns e (cond b (Some x) r) ≡ true → owns e (cond b (Some x) t) ≡ true
owns_set_rest e x r t true rest h = h
owns_set_rest e x r t false rest h = rest h

owns_set : (e : End) (os : List OperatorEntry) (k : ℕ) (o : OperatorEntry) → k < length os → o.name ≡ (operator_at os k).name → (is_called e.op (operator_at os k) ≡ true → is_below (operator_at os k).ins (operator_at os k).outs e ≡ true → is_below o.ins o.outs e ≡ true) → owns e (find (is_called e.op) os) ≡ true → owns e (find (is_called e.op) (slice_set os k o)) ≡ true
owns_set e [] k o l same keeps h = absurd (omega (arith, l))
owns_set e (x ∷ xs) zero o l same keeps h = owns_set_first e x o (find (is_called e.op) xs) (is_called e.op x) refl same keeps h
owns_set e (x ∷ xs) (suc k) o l same keeps h = owns_set_rest e x _ _ (is_called e.op x) (owns_set e xs k o (omega (arith, l)) same keeps) h

-- a port of the new channel is there
new_there : (os : List OperatorEntry) (e : End) (o : Option End) → every (has_port os) o ≡ true → passes (same_end e) o ≡ true → has_port os e ≡ true
new_there os e None there here = absurd (true≢false (sym here))
new_there os e (Some x) there here = subst (λ y. has_port os y ≡ true) (sym (end_is e x here)) there

ends_new : (os : List OperatorEntry) (e : End) (a b : Option End) (x : Bool) → passes (same_end e) a ≡ x → (x || passes (same_end e) b) ≡ true → every (has_port os) a ≡ true → every (has_port os) b ≡ true → has_port os e ≡ true
ends_new os e a b true h here at_a at_b = new_there os e a at_a h
ends_new os e a b false h here at_a at_b = new_there os e b at_b here

ends_more : (d : Design) (c : Channel) (e : End) (b : Bool) → is_linked d.channels e ≡ b → (b || (stands_at (same_end e) c || false)) ≡ true → every (has_port d.operators) (from_port c.from) ≡ true → every (has_port d.operators) (to_port c.to) ≡ true → (is_linked d.channels e ≡ true → has_port d.operators e ≡ true) → has_port d.operators e ≡ true
ends_more d c e true h here from to ends = ends h
ends_more d c e false h here from to ends = ends_new d.operators e (from_port c.from) (to_port c.to) _ refl (or_none (stands_at (same_end e) c) here) from to

-- an operator that isn't found isn't counted
unplaced_at : (k : ℕ) (name : List ℕ) (o : OperatorEntry) (os : List OperatorEntry) (b : Bool) → bytes_eq o.name name ≡ b → (is_some (place_from (k + 1) name os) ≡ false → count_by (is_called name) os ≡ 0) → is_some (cond b (Some k) (place_from (k + 1) name os)) ≡ false → count_by (is_called name) (o ∷ os) ≡ 0
unplaced_at k name o os true h rest e = absurd (true≢false e)
unplaced_at k name o os false h rest e =
    let first = sum_by-cons (λ x. cond (is_called name x) 1 0) o os ∙ ap (λ b. cond b 1 0 + count_by (is_called name) os) h in
    let none = rest e in
    omega (arith, first, none)

unplaced : (k : ℕ) (name : List ℕ) (os : List OperatorEntry) → is_some (place_from k name os) ≡ false → count_by (is_called name) os ≡ 0
unplaced k name [] e = refl
unplaced k name (o ∷ os) e = unplaced_at k name o os (bytes_eq o.name name) refl (unplaced (k + 1) name os) e

-- a name that isn't taken isn't counted
free_name : (d : Design) (name : List ℕ) → is_named name d ≡ false → count_by (is_called name) d.operators + count_by (is_host name) d.channels ≡ 0
free_name d name free =
    let both = or_false (is_some (place_of name d)) (list_any (is_host name) d.channels) free in
    let a = unplaced 0 name d.operators both.0 in
    let b = none_counted (is_host name) d.channels both.1 in
    omega (arith, a, b)

called_more : (d : Design) (name n : List ℕ) (b : Bool) → bytes_eq name n ≡ b → is_named name d ≡ false → count_by (is_called n) d.operators + count_by (is_host n) d.channels ≤ 1 → count_by (is_called n) d.operators + cond b 1 0 + count_by (is_host n) d.channels ≤ 1
called_more d name n false h free l = omega (arith, l)
called_more d name n true h free l =
    let same : name ≡ n = (bytes_eq-Decides name n).0 h in
    let none : count_by (is_called n) d.operators + count_by (is_host n) d.channels ≡ 0 = subst (λ m. count_by (is_called m) d.operators + count_by (is_host m) d.channels ≡ 0) same (free_name d name free) in
    omega (arith, none)

-- an operator more
pub add_sound : (d : Design) (name : List ℕ) (ins outs : ℕ) → nat_le 63 (length d.operators) ≡ false → is_named name d ≡ false → IsSound d → IsSound (with_operator (record { name = name; ins = ins; outs = outs; pin = None }) d)
add_sound d name ins outs few free s =
    let o : OperatorEntry = record { name = name; ins = ins; outs = outs; pin = None } in
    let below : length d.operators < 63 = grind (arith, nat_tests, few) in
    let l : length (d.operators ++ o ∷ []) ≡ length d.operators + 1 = length-append d.operators (o ∷ []) in
    record {
      least = s.least;
      most = s.most;
      window = s.window;
      operators = omega (arith, l, below);
      channels = s.channels;
      inputs = s.inputs;
      outputs = s.outputs;
      names = λ n.
          let more = sum_by_push (λ x. cond (is_called n x) 1 0) d.operators o in
          subst (λ m. m + count_by (is_host n) d.channels ≤ 1) (sym more) (called_more d name n (bytes_eq name n) refl free (s.names n));
      alone = λ m.
          let more = sum_by_push (λ x. cond (is_pinned m x) 1 0) d.operators o in
          let few_pins = s.alone m in
          omega (arith, more, few_pins);
      pins = All-append (λ x. is_within d.depth x ≡ true) d.operators (o ∷ []) s.pins (one_all (λ x. is_within d.depth x ≡ true) o refl);
      sides = s.sides;
      once = s.once;
      ends = λ e h. owns_more e d.operators (o ∷ []) (s.ends e h);
    }

-- an operator in place of another one of its name
set_sound : (d : Design) (k : ℕ) (o : OperatorEntry) → k < length d.operators → o.name ≡ (operator_at d.operators k).name → ((l : ℕ) → count_by (is_pinned l) (set_operator k o d).operators ≤ 1) → is_within d.depth o ≡ true → ((e : End) → is_linked d.channels e ≡ true → is_called e.op (operator_at d.operators k) ≡ true → is_below (operator_at d.operators k).ins (operator_at d.operators k).outs e ≡ true → is_below o.ins o.outs e ≡ true) → IsSound d → IsSound (set_operator k o d)
set_sound d k o there same alone within keeps s = record {
  least = s.least;
  most = s.most;
  window = s.window;
  operators = subst (λ n. n ≤ 63) (sym (length-set d.operators k o)) s.operators;
  channels = s.channels;
  inputs = s.inputs;
  outputs = s.outputs;
  names = λ n.
      let change = sum_by-set (λ x. cond (is_called n x) 1 0) d.operators k o blank there in
      let as_before : cond {A = ℕ} (is_called n o) 1 0 ≡ cond (is_called n (operator_at d.operators k)) 1 0 = ap (λ m. cond (bytes_eq m n) 1 0) same in
      let few = s.names n in
      omega (arith, change, as_before, few);
  alone = alone;
  pins = All-set (λ x. is_within d.depth x ≡ true) d.operators k o within s.pins;
  sides = s.sides;
  once = s.once;
  ends = λ e h. owns_set e d.operators k o there same (keeps e h) (s.ends e h);
}

-- the operator's name is the port's
same_name : (a name op : List ℕ) → bytes_eq a name ≡ true → bytes_eq a op ≡ true → bytes_eq op name ≡ true
same_name a name op h c = subst (λ n. bytes_eq n name ≡ true) ((bytes_eq-Decides a op).0 c) h

not_lost_by : (a b : Bool) → a ≡ true → (a && not b) ≡ false → b ≡ true
not_lost_by true true h e = refl
not_lost_by true false h e = absurd (true≢false e)
not_lost_by false b h e = absurd (true≢false (sym h))

not_lost : (name : List ℕ) (e : End) (ins outs : ℕ) → bytes_eq e.op name ≡ true → is_lost name ins outs e ≡ false → is_below ins outs e ≡ true
not_lost name e ins outs h l = not_lost_by (bytes_eq e.op name) (is_below ins outs e) h l

-- other counts of ports
pub replace_sound : (d : Design) (name : List ℕ) (k ins outs : ℕ) → k < length d.operators → bytes_eq (operator_at d.operators k).name name ≡ true → list_any (stands_at (is_lost name ins outs)) d.channels ≡ false → IsSound d → IsSound (set_operator k (record (operator_at d.operators k) { ins = ins; outs = outs }) d)
replace_sound d name k ins outs there here lost s =
    let old = operator_at d.operators k in
    let o : OperatorEntry = record old { ins = ins; outs = outs } in
    let alone : (l : ℕ) → count_by (is_pinned l) (set_operator k o d).operators ≤ 1 = λ l.
    let change = sum_by-set (λ x. cond (is_pinned l x) 1 0) d.operators k o blank there in
    let as_before : cond {A = ℕ} (is_pinned l o) 1 0 ≡ cond (is_pinned l old) 1 0 = refl in
    let few = s.alone l in
    omega (arith, change, as_before, few) in
    set_sound d k o there refl alone (s.pins k blank there) (λ e h c b. not_lost name e ins outs (same_name _ name e.op here c) (linked_fails (is_lost name ins outs) d.channels e h lost)) s

-- no pin
pub unpin_sound : (d : Design) (k : ℕ) → k < length d.operators → IsSound d → IsSound (set_operator k (record (operator_at d.operators k) { pin = None }) d)
unpin_sound d k there s =
    let o : OperatorEntry = record (operator_at d.operators k) { pin = None } in
    let alone : (l : ℕ) → count_by (is_pinned l) (set_operator k o d).operators ≤ 1 = λ l.
    let change = sum_by-set (λ x. cond (is_pinned l x) 1 0) d.operators k o blank there in
    let few = s.alone l in
    omega (arith, change, few) in
    set_sound d k o there refl alone refl (λ e h c b. b) s

weigh_less : (b c : Bool) → (b ≡ true → c ≡ true) → cond b 1 0 ≤ cond c 1 0
weigh_less false c leads = omega arith
weigh_less true c leads = subst (λ t. 1 ≤ cond t 1 0) (sym (leads refl)) (omega arith)

dominated_one : {X : Type 0} (p q : X → Bool) (x : X) (xs : List X) (b c : Bool) → p x ≡ b → q x ≡ c → (b ≡ true → c ≡ true) → count_by p xs ≤ count_by q xs → count_by p (x ∷ xs) ≤ count_by q (x ∷ xs)
dominated_one p q x xs b c h i leads l =
    let left = sum_by-cons (λ y. cond (p y) 1 0) x xs ∙ ap (λ t. cond t 1 0 + count_by p xs) h in
    let right = sum_by-cons (λ y. cond (q y) 1 0) x xs ∙ ap (λ t. cond t 1 0 + count_by q xs) i in
    let most = weigh_less b c leads in
    omega (arith, left, right, most, l)

dominated : {X : Type 0} (p q : X → Bool) (xs : List X) → All (λ x. p x ≡ true → q x ≡ true) xs → count_by p xs ≤ count_by q xs
dominated p q [] leads = omega arith
dominated p q (x ∷ xs) leads = dominated_one p q x xs (p x) (q x) refl refl (leads 0 x (omega arith)) (dominated p q xs (λ k d l. leads (suc k) d (omega (arith, l))))

no_rival : (a b : Bool) → (not a && b) ≡ false → b ≡ true → a ≡ true
no_rival true b e h = refl
no_rival false b e h = absurd (true≢false (sym h ∙ e))

-- where no other operator is pinned to the leaf
pub alone_there : (d : Design) (name : List ℕ) (k leaf : ℕ) → k < length d.operators → bytes_eq (operator_at d.operators k).name name ≡ true → list_any (is_rival name leaf) d.operators ≡ false → IsSound d → count_by (is_pinned leaf) (remove d.operators k) ≡ 0
alone_there d name k leaf there here rivals s =
    let each = none_all (is_rival name leaf) d.operators rivals in
    let others : All (λ o. is_pinned leaf o ≡ true → is_called name o ≡ true) (remove d.operators k) =
    all_remove (λ o. is_pinned leaf o ≡ true → is_called name o ≡ true) d.operators k (λ i x l. no_rival (is_called name (slice_index_or d.operators i x)) (is_pinned leaf (slice_index_or d.operators i x)) (each i x l)) in
    let most = dominated (is_pinned leaf) (is_called name) (remove d.operators k) others in
    let all = sum_by-remove (λ x. cond (is_called name x) 1 0) d.operators k blank there in
    let one : cond {A = ℕ} (is_called name (operator_at d.operators k)) 1 0 ≡ 1 = ap (λ b. cond b 1 0) here in
    let names = s.names name in
    omega (arith, most, all, one, names)

pin_counts : (d : Design) (k leaf l : ℕ) (b : Bool) → (leaf == l) ≡ b → count_by (is_pinned leaf) (remove d.operators k) ≡ 0 → count_by (is_pinned l) d.operators ≤ 1 → (new weight old : ℕ) → new + old ≡ count_by (is_pinned l) d.operators + weight → weight ≡ cond b 1 0 → count_by (is_pinned l) (remove d.operators k) + old ≡ count_by (is_pinned l) d.operators → new ≤ 1
pin_counts d k leaf l false h none most new weight old change is rest = omega (arith, most, change, is)
pin_counts d k leaf l true h none most new weight old change is rest =
    let same : leaf ≡ l = grind (arith, nat_tests, h) in
    let gone : count_by (is_pinned l) (remove d.operators k) ≡ 0 = subst (λ m. count_by (is_pinned m) (remove d.operators k) ≡ 0) same none in
    omega (arith, gone, change, is, rest)

pin_moves : (d : Design) (k leaf l : ℕ) (b : Bool) → (leaf == l) ≡ b → k < length d.operators → count_by (is_pinned leaf) (remove d.operators k) ≡ 0 → IsSound d → count_by (is_pinned l) (set_operator k (record (operator_at d.operators k) { pin = Some leaf }) d).operators ≤ 1
pin_moves d k leaf l b h there none s =
    let o : OperatorEntry = record (operator_at d.operators k) { pin = Some leaf } in
    let change = sum_by-set (λ x. cond (is_pinned l x) 1 0) d.operators k o blank there in
    let weight : cond {A = ℕ} (is_pinned l o) 1 0 ≡ cond b 1 0 = ap (λ t. cond t 1 0) h in
    let rest = sum_by-remove (λ x. cond (is_pinned l x) 1 0) d.operators k blank there in
    pin_counts d k leaf l b h none (s.alone l) _ _ _ change weight rest

-- a pin
pub pin_sound : (d : Design) (name : List ℕ) (k leaf : ℕ) → k < length d.operators → bytes_eq (operator_at d.operators k).name name ≡ true → is_leaf d.depth leaf ≡ true → list_any (is_rival name leaf) d.operators ≡ false → IsSound d → IsSound (set_operator k (record (operator_at d.operators k) { pin = Some leaf }) d)
pin_sound d name k leaf there here within rivals s =
    let o : OperatorEntry = record (operator_at d.operators k) { pin = Some leaf } in
    let none = alone_there d name k leaf there here rivals s in
    set_sound d k o there refl (λ l. pin_moves d k leaf l (leaf == l) refl there none s) within (λ e h c b. b) s

-- channels fewer
pub cut_sound : (d : Design) (p : Channel → Bool) → IsSound d → IsSound (record d { channels = filter p d.channels })
cut_sound d p s =
    let l = length-filter p d.channels in
    let m = count_by-le-length p d.channels in
    let i = few_kept (λ c. from_input c.from) p d.channels in
    let o = few_kept (λ c. to_output c.to) p d.channels in
    let most = s.channels in
    let ins = s.inputs in
    let outs = s.outputs in
    record {
      least = s.least;
      most = s.most;
      window = s.window;
      operators = s.operators;
      channels = omega (arith, l, m, most);
      inputs = omega (arith, i, ins);
      outputs = omega (arith, o, outs);
      names = λ n. let f = few_counted (is_host n) p d.channels in let g = s.names n in omega (arith, f, g);
      alone = s.alone;
      pins = s.pins;
      sides = All-filter p (λ x. is_directed x ≡ true) d.channels s.sides;
      once = λ e. let f = few_counted (stands_at (same_end e)) p d.channels in let g = s.once e in omega (arith, f, g);
      ends = λ e h. s.ends e (any_kept (stands_at (same_end e)) p d.channels h);
    }

-- an operator less
pub drop_sound : (d : Design) (k : ℕ) → k < length d.operators → ((e : End) → is_linked d.channels e ≡ true → is_called e.op (operator_at d.operators k) ≡ false) → IsSound d → IsSound (record d { operators = remove d.operators k })
drop_sound d k within others s =
    let l = length-remove d.operators k within in
    let few = s.operators in
    record {
      least = s.least;
      most = s.most;
      window = s.window;
      operators = omega (arith, l, few);
      channels = s.channels;
      inputs = s.inputs;
      outputs = s.outputs;
      names = λ n. let f = sum_by-remove (λ x. cond (is_called n x) 1 0) d.operators k blank within in let g = s.names n in omega (arith, f, g);
      alone = λ m. let f = sum_by-remove (λ x. cond (is_pinned m x) 1 0) d.operators k blank within in let g = s.alone m in omega (arith, f, g);
      pins = all_remove (λ x. is_within d.depth x ≡ true) d.operators k s.pins;
      sides = s.sides;
      once = s.once;
      ends = λ e h. ap (owns e) (find_less (is_called e.op) d.operators k within (others e h)) ∙ s.ends e h;
    }

and_not : (a b c : Bool) → (a && b) ≡ true → not c ≡ false → (a && c) ≡ true
and_not true b true e n = refl
and_not true b false e n = absurd (true≢false n)
and_not false b c e n = absurd (true≢false (sym e))

pin_stays : (old new : ℕ) (pin : Option ℕ) → every (is_leaf old) pin ≡ true → passes (λ l. not (nat_lt l (2 ^ new))) pin ≡ false → every (is_leaf new) pin ≡ true
pin_stays old new None e n = refl
pin_stays old new (Some l) e n = and_not (nat_lt 0 l) (nat_lt l (2 ^ old)) (nat_lt l (2 ^ new)) e n

-- another depth
pub repage_sound : (d : Design) (n : ℕ) → 1 ≤ n → n ≤ 6 → list_any (is_outside n) d.operators ≡ false → IsSound d → IsSound (record d { depth = n; pattern = plain })
repage_sound d n least most inside s = record {
  least = least;
  most = most;
  window = s.window;
  operators = s.operators;
  channels = s.channels;
  inputs = s.inputs;
  outputs = s.outputs;
  names = s.names;
  alone = s.alone;
  pins = λ k x l. pin_stays d.depth n (slice_index_or d.operators k x).pin (s.pins k x l) (none_all (is_outside n) d.operators inside k x l);
  sides = s.sides;
  once = s.once;
  ends = s.ends;
}

-- another pattern of links
pub pattern_sound : (d : Design) (p : Pattern) → IsSound d → IsSound (record d { pattern = p })
pattern_sound d p s = record {
  least = s.least;
  most = s.most;
  window = s.window;
  operators = s.operators;
  channels = s.channels;
  inputs = s.inputs;
  outputs = s.outputs;
  names = s.names;
  alone = s.alone;
  pins = s.pins;
  sides = s.sides;
  once = s.once;
  ends = s.ends;
}

-- another window
pub window_sound : (d : Design) (w : ℕ) → 1 ≤ w → w ≤ 64 → IsSound d → IsSound (record d { window = w })
window_sound d w least most s = record {
  least = s.least;
  most = s.most;
  window = (least, most);
  operators = s.operators;
  channels = s.channels;
  inputs = s.inputs;
  outputs = s.outputs;
  names = s.names;
  alone = s.alone;
  pins = s.pins;
  sides = s.sides;
  once = s.once;
  ends = s.ends;
}

once_more : (d : Design) (c : Channel) (e : End) (b : Bool) → stands_at (same_end e) c ≡ b → every (λ x. not (is_linked d.channels x)) (from_port c.from) ≡ true → every (λ x. not (is_linked d.channels x)) (to_port c.to) ≡ true → count_by (stands_at (same_end e)) d.channels ≤ 1 → count_by (stands_at (same_end e)) d.channels + cond b 1 0 ≤ 1
once_more d c e false is from to l = omega (arith, l)
once_more d c e true is from to l =
    let none = none_counted (stands_at (same_end e)) d.channels (new_end d.channels e (from_port c.from) (to_port c.to) _ _ refl refl is from to) in
    omega (arith, none)

hosts_more : (d : Design) (c : Channel) (n : List ℕ) (b : Bool) → is_host n c ≡ b → ((m : List ℕ) → is_host m c ≡ true → is_named m d ≡ false) → count_by (is_called n) d.operators + count_by (is_host n) d.channels ≤ 1 → count_by (is_called n) d.operators + (count_by (is_host n) d.channels + cond b 1 0) ≤ 1
hosts_more d c n false h free l = omega (arith, l)
hosts_more d c n true h free l =
    let none = free_name d n (free n h) in
    omega (arith, none)

-- a channel more
pub put_sound : (d : Design) (c : Channel) → every (has_port d.operators) (from_port c.from) ≡ true → every (has_port d.operators) (to_port c.to) ≡ true → nat_le 256 (length d.channels) ≡ false → length (inputs d.channels) + length (inputs (c ∷ [])) ≤ 8 → length (outputs d.channels) + length (outputs (c ∷ [])) ≤ 8 → is_directed c ≡ true → every (λ x. not (is_linked d.channels x)) (from_port c.from) ≡ true → every (λ x. not (is_linked d.channels x)) (to_port c.to) ≡ true → ((m : List ℕ) → is_host m c ≡ true → is_named m d ≡ false) → IsSound d → IsSound (with_channel c d)
put_sound d c there_from there_to few ins outs directed from to free s =
    let below : length d.channels < 256 = grind (arith, nat_tests, few) in
    let l : length (d.channels ++ c ∷ []) ≡ length d.channels + 1 = length-append d.channels (c ∷ []) in
    let i = ap length (filter_map-append (λ x. from_input x.from) d.channels (c ∷ [])) ∙ length-append (inputs d.channels) (inputs (c ∷ [])) in
    let o = ap length (filter_map-append (λ x. to_output x.to) d.channels (c ∷ [])) ∙ length-append (outputs d.channels) (outputs (c ∷ [])) in
    record {
      least = s.least;
      most = s.most;
      window = s.window;
      operators = s.operators;
      channels = omega (arith, l, below);
      inputs = subst (λ n. n ≤ 8) (sym i) ins;
      outputs = subst (λ n. n ≤ 8) (sym o) outs;
      names = λ n.
          let more = sum_by_push (λ x. cond (is_host n x) 1 0) d.channels c in
          subst (λ m. count_by (is_called n) d.operators + m ≤ 1) (sym more) (hosts_more d c n (is_host n c) refl free (s.names n));
      alone = s.alone;
      pins = s.pins;
      sides = All-append (λ x. is_directed x ≡ true) d.channels (c ∷ []) s.sides (one_all (λ x. is_directed x ≡ true) c directed);
      once = λ e.
          let more = sum_by_push (λ x. cond (stands_at (same_end e) x) 1 0) d.channels c in
          let fits = once_more d c e (stands_at (same_end e) c) refl from to (s.once e) in
          subst (λ n. n ≤ 1) (sym more) fits;
      ends = λ e h. ends_more d c e (is_linked d.channels e) refl (sym (list_any-append (stands_at (same_end e)) d.channels (c ∷ [])) ∙ h) there_from there_to (s.ends e);
    }

-- where an operator stands that was found
pub record Placed (j k : ℕ) (name : List ℕ) (os : List OperatorEntry) : Type 0 where
  pub at : ℕ
  pub is : k ≡ j + at
  pub within : at < length os
  pub here : bytes_eq (operator_at os at).name name ≡ true

placed_at : (j k : ℕ) (name : List ℕ) (o : OperatorEntry) (os : List OperatorEntry) (b : Bool) → bytes_eq o.name name ≡ b → (place_from (j + 1) name os ≡ Some k → Placed (j + 1) k name os) → cond b (Some j) (place_from (j + 1) name os) ≡ Some k → Placed j k name (o ∷ os)
placed_at j k name o os true h rest e =
    let same : j ≡ k = ap (λ x. unwrap_or x 0) e in
    record { at = 0; is = omega (arith, same); within = omega arith; here = h }
placed_at j k name o os false h rest e =
    let p = rest e in
    let l = p.within in
    let i = p.is in
    record { at = suc p.at; is = omega (arith, i); within = omega (arith, l); here = p.here }

placed : (j k : ℕ) (name : List ℕ) (os : List OperatorEntry) → place_from j name os ≡ Some k → Placed j k name os
placed j k name [] e = absurd (true≢false (sym (ap is_some e)))
placed j k name (o ∷ os) e = placed_at j k name o os (bytes_eq o.name name) refl (placed (j + 1) k name os) e

-- the operator that was found has the name
pub found_here : (k : ℕ) (name : List ℕ) (os : List OperatorEntry) → place_from 0 name os ≡ Some k → bytes_eq (operator_at os k).name name ≡ true
found_here k name os e =
    let p = placed 0 k name os e in
    let i = p.is in
    let same : p.at ≡ k = omega (arith, i) in
    subst (λ n. bytes_eq (operator_at os n).name name ≡ true) same p.here
