-- Where the ends of channels stand: no two channels of a sound design have an end at one seat.
use Rattle.std.proofs.Common.{◌≡◌, ℕ, ◌+◌, ◌<◌, ◌≤◌, suc, Bool, true, false, true≢false, ◌&&◌, ◌||◌, cond, not, ◌⊎◌, inl, inr, List, [], ◌∷◌, length, get_or, map, refl, sym, ap, subst, ◌∙◌, arith, Option, Some, None}
use Rattle.std.specs.Prelude.{◌==◌, bytes_eq}
use Rattle.std.specs.List.{All, count_by, find, filter_map, cons_option}
use Rattle.std.proofs.lemmas.Bool.Decides.{nat_tests}
use Rattle.std.proofs.lemmas.Slice.Eq.{bytes_eq-Decides}
use Rattle.std.proofs.lemmas.Option.{none-some, same_Some}
use Rattle.std.proofs.lemmas.List.Elements.{All-head, All-tail}
use Rattle.std.proofs.lemmas.List.Sums.{sum_by-cons, passes_at_first}
use Rattle.pld_base.specs.declared.event.End.{End}
use Rattle.pld_base.specs.declared.event.Side.{Side}
use Rattle.pld_base.specs.declared.event.Side.TheVariants.{In, Out}
use Rattle.pld_graph.specs.declared.parts.Channel.{Channel}
use Rattle.pld_graph.specs.declared.parts.OperatorEntry.{OperatorEntry}
use Rattle.pld_graph.specs.declared.parts.FromEnd.{FromEnd}
use Rattle.pld_graph.specs.declared.parts.FromEnd.TheVariants as from_end
use Rattle.pld_graph.specs.declared.parts.ToEnd.{ToEnd}
use Rattle.pld_graph.specs.declared.parts.ToEnd.TheVariants as to_end
use Rattle.pld_graph.specs.Parts.{same_side, same_end, on_side, from_port, to_port, from_input, to_output, passes, stands_at, is_host}
use Rattle.pld_graph.specs.Design.{Design, inputs, outputs, is_called, is_linked, owns}
use Rattle.pld_graph.specs.Sound.{IsSound, every, is_directed}
use Rattle.pld_link.specs.Seats.{Seat, seat, same_seat, from_seat, to_seat, leaf_of, place_in, operator_names, IsPlacement}
use Rattle.pld_link.proofs.Places.{length-names}

-- x is an element of the list
abbrev pub IsIn : {X : Type 0} → X → List X → Type 0
IsIn x [] = ⊥
IsIn x (y ∷ ys) = (y ≡ x) ⊎ IsIn x ys

and_both : (a b : Bool) → (a && b) ≡ true → (a ≡ true) × (b ≡ true)
and_both true b e = (refl, e)
and_both false b e = absurd (true≢false (sym e))

pub or_left : (a b : Bool) → a ≡ true → (a || b) ≡ true
or_left true b e = refl
or_left false b e = absurd (true≢false (sym e))

pub or_right : (a b : Bool) → b ≡ true → (a || b) ≡ true
or_right true b e = refl
or_right false b e = e

all_in : {X : Type 0} (P : X → Type 0) (xs : List X) (x : X) → All P xs → IsIn x xs → P x
all_in P [] x all here = absurd here
all_in P (y ∷ ys) x all (inl e) = subst P e (All-head P y ys all)
all_in P (y ∷ ys) x all (inr here) = all_in P ys x (All-tail P y ys all) here

-- ---- counts

pub counted : {X : Type 0} (p : X → Bool) (y : X) (ys : List X) (b : Bool) → p y ≡ b → count_by p (y ∷ ys) ≡ cond b 1 0 + count_by p ys
counted p y ys b e = sum_by-cons (λ x. cond (p x) 1 0) y ys ∙ ap (λ t. cond t 1 0 + count_by p ys) e

pub some_counted : {X : Type 0} (p : X → Bool) (xs : List X) (x : X) → IsIn x xs → p x ≡ true → 1 ≤ count_by p xs
some_counted p [] x here e = absurd here
some_counted p (y ∷ ys) x (inl same) e = omega (arith, counted p y ys true (ap p same ∙ e))
some_counted p (y ∷ ys) x (inr here) e = omega (arith, some_counted p ys x here e, counted p y ys (p y) refl)

pub fewer_counted : {X : Type 0} (p : X → Bool) (y : X) (ys : List X) → count_by p (y ∷ ys) ≤ 1 → count_by p ys ≤ 1
fewer_counted p y ys most = omega (arith, most, counted p y ys (p y) refl)

-- what is counted once is one element
pub one_only : {X : Type 0} (p : X → Bool) (xs : List X) (x y : X) → count_by p xs ≤ 1 → IsIn x xs → IsIn y xs → p x ≡ true → p y ≡ true → x ≡ y
one_only p [] x y most here there e f = absurd here
one_only p (z ∷ zs) x y most (inl a) (inl b) e f = sym a ∙ b
one_only p (z ∷ zs) x y most (inl a) (inr there) e f = absurd (omega (arith, most, counted p z zs true (ap p a ∙ e), some_counted p zs y there f))
one_only p (z ∷ zs) x y most (inr here) (inl b) e f = absurd (omega (arith, most, counted p z zs true (ap p b ∙ f), some_counted p zs x here e))
one_only p (z ∷ zs) x y most (inr here) (inr there) e f = one_only p zs x y (fewer_counted p z zs most) here there e f

-- ---- what is found

pub found_in : {X : Type 0} (p : X → Bool) (xs : List X) (x : X) → find p xs ≡ Some x → IsIn x xs × (p x ≡ true)
found_in p [] x e = absurd (none-some x e)
found_in {X} p (y ∷ ys) x e = by (p y) refl (found_in p ys x) e
  where
    by : (b : Bool) → p y ≡ b → (find p ys ≡ Some x → IsIn x ys × (p x ≡ true)) → cond b (Some y) (find p ys) ≡ Some x → IsIn x (y ∷ ys) × (p x ≡ true)
    by true h rest e' = (inl (same_Some y x e'), ap p (sym (same_Some y x e')) ∙ h)
    by false h rest e' = let found = rest e' in (inr found.0, found.1)

pub record Found {X : Type 0} (p : X → Bool) (xs : List X) : Type 0 where
  pub item : X
  pub here : IsIn item xs
  pub passes : p item ≡ true
  pub found : find p xs ≡ Some item

pub finds : {X : Type 0} (p : X → Bool) (xs : List X) (x : X) → IsIn x xs → p x ≡ true → Found p xs
finds p [] x here e = absurd here
finds {X} p (y ∷ ys) x here e = by (p y) refl (λ at. finds p ys x at e) here
  where
    by : (b : Bool) → p y ≡ b → (IsIn x ys → Found p ys) → IsIn x (y ∷ ys) → Found p (y ∷ ys)
    by true h more at = record { item = y; here = inl refl; passes = h; found = ap (λ t. cond t (Some y) (find p ys)) h }
    by false h more (inl same) = absurd (true≢false (sym (sym h ∙ ap p same ∙ e)))
    by false h more (inr at) = let rest = more at in
        record { item = rest.item; here = inr rest.here; passes = rest.passes; found = ap (λ t. cond t (Some y) (find p ys)) h ∙ rest.found }

-- ---- names and their places

pub same_name : (n : List ℕ) → bytes_eq n n ≡ true
same_name n = (bytes_eq-Decides n n).1 refl

pub is_name : (m n : List ℕ) → bytes_eq m n ≡ true → m ≡ n
is_name m n e = (bytes_eq-Decides m n).0 e

pub place_here : (names : List (List ℕ)) (n : List ℕ) → IsIn n names → place_in names n < length names
place_here [] n here = absurd here
place_here (m ∷ ms) n here = by (bytes_eq m n) refl (place_here ms n) here
  where
    by : (b : Bool) → bytes_eq m n ≡ b → (IsIn n ms → place_in ms n < length ms) → IsIn n (m ∷ ms) → cond (not b) (1 + place_in ms n) 0 < suc (length ms)
    by true h rest at = omega arith
    by false h rest (inl same) = absurd (true≢false (sym (sym h ∙ ap (λ x. bytes_eq x n) same ∙ same_name n)))
    by false h rest (inr at) = omega (arith, rest at)

-- the name at its place
pub name_there : (names : List (List ℕ)) (n : List ℕ) → place_in names n < length names → get_or names (place_in names n) [] ≡ n
name_there names n there = is_name _ n (passes_at_first (λ m. bytes_eq m n) names [] there)

-- names at one place are one
pub names_are_one : (names : List (List ℕ)) (m n : List ℕ) → place_in names m < length names → place_in names n < length names → place_in names m ≡ place_in names n → m ≡ n
names_are_one names m n there here same = sym (name_there names m there) ∙ ap (λ k. get_or names k []) same ∙ name_there names n here

pub named_in : {X : Type 0} (h : X → Option (List ℕ)) (xs : List X) (x : X) (n : List ℕ) → IsIn x xs → h x ≡ Some n → IsIn n (filter_map h xs)
named_in h [] x n here e = absurd here
named_in h (y ∷ ys) x n (inl same) e = subst (λ o. IsIn n (cons_option o (filter_map h ys))) (sym (ap h same ∙ e)) (inl refl)
named_in {X} h (y ∷ ys) x n (inr here) e = by (h y) (named_in h ys x n here e)
  where
    by : (o : Option (List ℕ)) → IsIn n (filter_map h ys) → IsIn n (cons_option o (filter_map h ys))
    by None rest = rest
    by (Some m) rest = inr rest

-- ---- operators

place_owned : (os : List OperatorEntry) (e : End) → owns e (find (is_called e.op) os) ≡ true → place_in (map (λ o. o.name) os) e.op < length os
place_owned [] e has = absurd (true≢false (sym has))
place_owned (o ∷ os) e has = by (bytes_eq o.name e.op) (place_owned os e) has
  where
    by : (b : Bool) → (owns e (find (is_called e.op) os) ≡ true → place_in (map (λ q. q.name) os) e.op < length os) → owns e (cond b (Some o) (find (is_called e.op) os)) ≡ true → cond (not b) (1 + place_in (map (λ q. q.name) os) e.op) 0 < suc (length os)
    by true rest h = omega arith
    by false rest h = omega (arith, rest h)

-- a port that is there is below the bounds of all operators
port_owned : (os : List OperatorEntry) (e : End) → All (λ o. (o.ins ≤ 8) × (o.outs ≤ 8)) os → owns e (find (is_called e.op) os) ≡ true → e.port.0 < 8
port_owned [] e few has = absurd (true≢false (sym has))
port_owned (o ∷ os) e few has = by (bytes_eq o.name e.op) (port_owned os e (All-tail (λ q. (q.ins ≤ 8) × (q.outs ≤ 8)) o os few)) has
  where
    side_few : (s : Side) → (o.ins ≤ 8) × (o.outs ≤ 8) → on_side s o.ins o.outs ≤ 8
    side_few In h = h.0
    side_few Out h = h.1

    by : (b : Bool) → (owns e (find (is_called e.op) os) ≡ true → e.port.0 < 8) → owns e (cond b (Some o) (find (is_called e.op) os)) ≡ true → e.port.0 < 8
    by true rest h =
        let most = side_few e.side (All-head (λ q. (q.ins ≤ 8) × (q.outs ≤ 8)) o os few) in
        let below : e.port.0 < on_side e.side o.ins o.outs = grind (arith, nat_tests, h) in
        omega (arith, most, below)
    by false rest h = rest h

pub linked_in : (e : End) (cs : List Channel) (c : Channel) → IsIn c cs → stands_at (same_end e) c ≡ true → is_linked cs e ≡ true
linked_in e [] c here at = absurd here
linked_in e (x ∷ xs) c (inl same) at = or_left (stands_at (same_end e) x) (is_linked xs e) (ap (stands_at (same_end e)) same ∙ at)
linked_in e (x ∷ xs) c (inr here) at = or_right (stands_at (same_end e) x) (is_linked xs e) (linked_in e xs c here at)

side_is : (a b : Side) → same_side a b ≡ true → a ≡ b
side_is In In e = refl
side_is In Out e = absurd (true≢false (sym e))
side_is Out In e = absurd (true≢false (sym e))
side_is Out Out e = refl

own_side : (a : Side) → same_side a a ≡ true
own_side In = refl
own_side Out = refl

and_true : (a b : Bool) → a ≡ true → b ≡ true → (a && b) ≡ true
and_true true b p q = q
and_true false b p q = absurd (true≢false (sym p))

pub own_end : (e : End) → same_end e e ≡ true
own_end e = and_true _ _ (and_true _ _ (same_name e.op) (own_side e.side)) (grind (arith, nat_tests))

end_of : (a b : End) → a.op ≡ b.op → a.side ≡ b.side → a.port.0 ≡ b.port.0 → a ≡ b
end_of a b op side port =
    let make : List ℕ → Side → ℕ → End = λ n s p. record { op = n; side = s; port = record { 0 = p } } in
    ap (λ n. make n a.side a.port.0) op ∙ ap (λ s. make b.op s a.port.0) side ∙ ap (λ p. make b.op b.side p) port

pub is_seat : (a b : Seat) → same_seat a b ≡ true → a ≡ b
is_seat a b e =
    let both = and_both (a.leaf == b.leaf) (a.port == b.port) e in
    let l = both.0 in
    let p = both.1 in
    let leaf : a.leaf ≡ b.leaf = grind (arith, nat_tests, l) in
    let port : a.port ≡ b.port = grind (arith, nat_tests, p) in
    ap (λ x. seat x a.port) leaf ∙ ap (λ x. seat b.leaf x) port

pub own_seat : (a b : Seat) → a ≡ b → same_seat a b ≡ true
own_seat a b e = subst (λ s. same_seat a s ≡ true) e (and_true (a.leaf == a.leaf) (a.port == a.port) (grind (arith, nat_tests)) (grind (arith, nat_tests)))

-- ---- the seats of channels

-- an end of a channel, on a side, where these are the host's names there: a port of an operator, or one of these names
pub data End_at (d : Design) (leaves : List ℕ) (side : Side) (names : List (List ℕ)) (c : Channel) (s : Seat) : Type 0 where
  AtPort : (e : End) (sided : e.side ≡ side) (stands : stands_at (same_end e) c ≡ true) (is : s ≡ seat (leaf_of d leaves e.op) e.port.0) → End_at d leaves side names c s
  AtHost : (n : List ℕ) (hosts : is_host n c ≡ true) (named : IsIn n names) (is : s ≡ seat 0 (place_in names n)) → End_at d leaves side names c s

module _ (d : Design) (leaves : List ℕ) (sound : IsSound d) where
  from_by : (f : FromEnd) (t : ToEnd) → IsIn (record { from = f; to = t }) d.channels → End_at d leaves Out (inputs d.channels) (record { from = f; to = t }) (from_seat d leaves f)
  from_by (from_end.Port e) t here =
      let directed = all_in (λ c. is_directed c ≡ true) d.channels (record { from = from_end.Port e; to = t }) sound.sides here in
      let sides = and_both (same_side e.side Out) (every (λ x. same_side x.side In) (to_port t)) directed in
      AtPort e (side_is e.side Out sides.0) (or_left (same_end e e) (passes (same_end e) (to_port t)) (own_end e)) refl
  from_by (from_end.Input n) t here =
      AtHost n (or_left (bytes_eq n n) (passes (λ m. bytes_eq m n) (to_output t)) (same_name n))
      (named_in (λ c. from_input c.from) d.channels (record { from = from_end.Input n; to = t }) n here refl) refl

  to_by : (f : FromEnd) (t : ToEnd) → IsIn (record { from = f; to = t }) d.channels → End_at d leaves In (outputs d.channels) (record { from = f; to = t }) (to_seat d leaves t)
  to_by f (to_end.Port e) here =
      let directed = all_in (λ c. is_directed c ≡ true) d.channels (record { from = f; to = to_end.Port e }) sound.sides here in
      let sides = and_both (every (λ x. same_side x.side Out) (from_port f)) (same_side e.side In) directed in
      AtPort e (side_is e.side In sides.1) (or_right (passes (same_end e) (from_port f)) (same_end e e) (own_end e)) refl
  to_by f (to_end.Output n) here =
      AtHost n (or_right (passes (λ m. bytes_eq m n) (from_input f)) (bytes_eq n n) (same_name n))
      (named_in (λ c. to_output c.to) d.channels (record { from = f; to = to_end.Output n }) n here refl) refl

  pub from_end_at : (c : Channel) → IsIn c d.channels → End_at d leaves Out (inputs d.channels) c (from_seat d leaves c.from)
  from_end_at c here = from_by c.from c.to here

  pub to_end_at : (c : Channel) → IsIn c d.channels → End_at d leaves In (outputs d.channels) c (to_seat d leaves c.to)
  to_end_at c here = to_by c.from c.to here

  -- the operator of a channel's port is there
  pub operator_there : (c : Channel) (e : End) → IsIn c d.channels → stands_at (same_end e) c ≡ true → place_in (operator_names d) e.op < length d.operators
  operator_there c e here at = place_owned d.operators e (sound.ends e (linked_in e d.channels c here at))

  pub port_few : (c : Channel) (e : End) → IsIn c d.channels → stands_at (same_end e) c ≡ true → All (λ o. (o.ins ≤ 8) × (o.outs ≤ 8)) d.operators → e.port.0 < 8
  port_few c e here at few = port_owned d.operators e few (sound.ends e (linked_in e d.channels c here at))

  module _ (placed : IsPlacement d leaves) where
    -- the leaf of a channel's port is an operator's
    pub leaf_there : (c : Channel) (e : End) → IsIn c d.channels → stands_at (same_end e) c ≡ true → place_in (operator_names d) e.op < length leaves
    leaf_there c e here at =
        let each = placed.each in
        omega (arith, each, operator_there c e here at)

    pub leaf_some : (c : Channel) (e : End) → IsIn c d.channels → stands_at (same_end e) c ≡ true → 1 ≤ leaf_of d leaves e.op
    leaf_some c e here at = (placed.pages (place_in (operator_names d) e.op) 0 (leaf_there c e here at)).0

    -- ports of channels on one side at one seat are one
    ports_are_one : (side : Side) (c c' : Channel) (e e' : End) → IsIn c d.channels → IsIn c' d.channels → stands_at (same_end e) c ≡ true → stands_at (same_end e') c' ≡ true
        → e.side ≡ side → e'.side ≡ side → seat (leaf_of d leaves e.op) e.port.0 ≡ seat (leaf_of d leaves e'.op) e'.port.0 → e ≡ e'
    ports_are_one side c c' e e' here here' at at' sided sided' same =
        let place = placed.alone _ _ (leaf_there c e here at) (leaf_there c' e' here' at') (ap (λ s. s.leaf) same) in
        let there : place_in (operator_names d) e.op < length (operator_names d) = omega (arith, operator_there c e here at, length-names d.operators) in
        let there' : place_in (operator_names d) e'.op < length (operator_names d) = omega (arith, operator_there c' e' here' at', length-names d.operators) in
        end_of e e' (names_are_one (operator_names d) e.op e'.op there there' place) (sided ∙ sym sided') (ap (λ s. s.port) same)

    pub seats_are_one : (side : Side) (names : List (List ℕ)) (c c' : Channel) (s s' : Seat) → IsIn c d.channels → IsIn c' d.channels
        → End_at d leaves side names c s → End_at d leaves side names c' s' → s ≡ s' → c ≡ c'
    seats_are_one side names c c' s s' here here' (AtPort e sided at is) (AtPort e' sided' at' is') same =
        let one = ports_are_one side c c' e e' here here' at at' sided sided' (sym is ∙ same ∙ is') in
        one_only (stands_at (same_end e)) d.channels c c' (sound.once e) here here' at (subst (λ x. stands_at (same_end x) c' ≡ true) (sym one) at')
    seats_are_one side names c c' s s' here here' (AtPort e sided at is) (AtHost n hosts named is') same =
        let none : leaf_of d leaves e.op ≡ 0 = ap (λ x. x.leaf) (sym is ∙ same ∙ is') in
        absurd (omega (arith, none, leaf_some c e here at))
    seats_are_one side names c c' s s' here here' (AtHost n hosts named is) (AtPort e sided at is') same =
        let none : 0 ≡ leaf_of d leaves e.op = ap (λ x. x.leaf) (sym is ∙ same ∙ is') in
        absurd (omega (arith, none, leaf_some c' e here' at))
    seats_are_one side names c c' s s' here here' (AtHost n hosts named is) (AtHost m hosts' named' is') same =
        let one = names_are_one names n m (place_here names n named) (place_here names m named') (ap (λ x. x.port) (sym is ∙ same ∙ is')) in
        let count = sound.names n in
        one_only (is_host n) d.channels c c' (omega (arith, count)) here here' hosts (subst (λ x. is_host x c' ≡ true) (sym one) hosts')
