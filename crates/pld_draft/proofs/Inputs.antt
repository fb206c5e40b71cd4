-- The inputs that are left where channels go, and their feeds.
use Rattle.std.proofs.Common.{◌≡◌, ℕ, ◌+◌, ◌≤◌, Bool, true, false, true≢false, cond, ◌||◌, List, [], ◌∷◌, map, filter, refl, ap, sym, subst, ◌∙◌, arith, Option, Some, None}
use Rattle.std.specs.Prelude.{bytes_eq}
use Rattle.std.specs.List.{All, list_any, count_by, cons_option}
use Rattle.std.proofs.lemmas.List.Elements.{All-nil, All-cons, All-head, All-tail, All-filter}
use Rattle.std.proofs.lemmas.List.Sums.{sum_by-cons}
use Rattle.std.proofs.lemmas.Slice.Eq.{bytes_eq-Decides}
use Rattle.pld_graph.specs.declared.parts.Channel.{Channel}
use Rattle.pld_graph.specs.Parts.{from_input, to_output, passes, is_host}
use Rattle.pld_graph.specs.Design.{Design, inputs, comes_from, is_input}
use Rattle.pld_graph.specs.Sound.{IsSound}
use Rattle.pld_draft.specs.declared.parts.Feed.{Feed}
use Rattle.pld_draft.specs.Draft.{feed_name}

first_fails : (b : Bool) (n : ℕ) → cond {A = ℕ} b 1 0 + n ≡ 0 → (b ≡ false) × (n ≡ 0)
first_fails true n e = absurd (omega (arith, e))
first_fails false n e = (refl, omega (arith, e))

none_pass : {X : Type 0} (t : X → Bool) (xs : List X) → count_by t xs ≡ 0 → All (λ x. t x ≡ false) xs
none_pass t [] e = All-nil (λ x. t x ≡ false)
none_pass t (x ∷ xs) e =
    let both = first_fails (t x) (count_by t xs) (sym (sum_by-cons (λ y. cond (t y) 1 0) x xs) ∙ e) in
    All-cons (λ y. t y ≡ false) x xs both.0 (none_pass t xs both.1)

none_any : {X : Type 0} (t : X → Bool) (xs : List X) → All (λ x. t x ≡ false) xs → list_any t xs ≡ false
none_any t [] all = refl
none_any t (x ∷ xs) all = ap (λ b. b || list_any t xs) (All-head (λ y. t y ≡ false) x xs all) ∙ none_any t xs (All-tail (λ y. t y ≡ false) x xs all)

-- the first one passes a test that no other does: what is left has one just where the first is left
first_left : {X : Type 0} (t p : X → Bool) (x : X) (xs : List X) (b : Bool) → t x ≡ true → list_any t (filter p xs) ≡ false → list_any t (cond b (x ∷ filter p xs) (filter p xs)) ≡ b
first_left t p x xs true here none = ap (λ c. c || list_any t (filter p xs)) here
first_left t p x xs false here none = none

first_passed_over : {X : Type 0} (t p : X → Bool) (x : X) (xs : List X) (b : Bool) → t x ≡ false → list_any t (cond b (x ∷ filter p xs) (filter p xs)) ≡ list_any t (filter p xs)
first_passed_over t p x xs true here = ap (λ c. c || list_any t (filter p xs)) here
first_passed_over t p x xs false here = refl

abbrev LeftWith : {X : Type 0} (t p : X → Bool) (xs : List X) → X → Type 0
LeftWith t p xs x = t x ≡ true → list_any t (filter p xs) ≡ p x

one_more : {X : Type 0} (t p : X → Bool) (x : X) (xs : List X) (b : Bool) → t x ≡ b → cond {A = ℕ} b 1 0 + count_by t xs ≤ 1 → (count_by t xs ≤ 1 → All (LeftWith t p xs) xs) → All (LeftWith t p (x ∷ xs)) (x ∷ xs)
one_more t p x xs true here few rest =
    let none = none_pass t xs (omega (arith, few)) in
    All-cons (LeftWith t p (x ∷ xs)) x xs
    (λ h. first_left t p x xs (p x) here (none_any t (filter p xs) (All-filter p (λ y. t y ≡ false) xs none)))
    (λ k d l h. absurd (true≢false (sym h ∙ none k d l)))
one_more t p x xs false here few rest =
    All-cons (LeftWith t p (x ∷ xs)) x xs
    (λ h. absurd (true≢false (sym h ∙ here)))
    (λ k d l h. first_passed_over t p x xs (p x) here ∙ rest (omega (arith, few)) k d l h)

-- at most one passes the test t: it is among those that are left just where it is left
only_one : {X : Type 0} (t p : X → Bool) (xs : List X) → count_by t xs ≤ 1 → All (LeftWith t p xs) xs
only_one t p [] few = All-nil (LeftWith t p [])
only_one t p (x ∷ xs) few = one_more t p x xs (t x) refl (subst (λ n. n ≤ 1) (sum_by-cons (λ y. cond (t y) 1 0) x xs) few) (only_one t p xs)

-- the test of names tells of each input whether its channel is left
abbrev Tells : (q : List ℕ → Bool) (p : Channel → Bool) → Channel → Type 0
Tells q p c = (n : List ℕ) → from_input c.from ≡ Some n → q n ≡ p c

left_one : (q : List ℕ → Bool) (p : Channel → Bool) (c : Channel) (cs : List Channel) (o : Option (List ℕ)) (b : Bool) → from_input c.from ≡ o → ((n : List ℕ) → o ≡ Some n → q n ≡ b)
    → filter q (inputs cs) ≡ inputs (filter p cs) → filter q (cons_option o (inputs cs)) ≡ inputs (cond b (c ∷ filter p cs) (filter p cs))
left_one q p c cs None true is tells rest = rest ∙ ap (λ o. cons_option o (inputs (filter p cs))) (sym is)
left_one q p c cs None false is tells rest = rest
left_one q p c cs (Some n) true is tells rest =
    ap (λ b. cond b (n ∷ filter q (inputs cs)) (filter q (inputs cs))) (tells n refl) ∙ ap (λ ns. n ∷ ns) rest ∙ ap (λ o. cons_option o (inputs (filter p cs))) (sym is)
left_one q p c cs (Some n) false is tells rest = ap (λ b. cond b (n ∷ filter q (inputs cs)) (filter q (inputs cs))) (tells n refl) ∙ rest

left : (q : List ℕ → Bool) (p : Channel → Bool) (cs : List Channel) → All (Tells q p) cs → filter q (inputs cs) ≡ inputs (filter p cs)
left q p [] all = refl
left q p (c ∷ cs) all = left_one q p c cs (from_input c.from) (p c) refl (All-head (Tells q p) c cs all) (left q p cs (All-tail (Tells q p) c cs all))

inputs_left : (p : Channel → Bool) (cs : List Channel) → ((n : List ℕ) → count_by (comes_from n) cs ≤ 1) → filter (λ n. is_input n (filter p cs)) (inputs cs) ≡ inputs (filter p cs)
inputs_left p cs once = left (λ n. is_input n (filter p cs)) p cs (λ k d l n e. only_one (comes_from n) p cs (once n) k d l (ap (passes (λ m. bytes_eq m n)) e ∙ (bytes_eq-Decides n n).1 refl))

at_most : (a b : Bool) → (a ≡ true → b ≡ true) → cond {A = ℕ} a 1 0 ≤ cond {A = ℕ} b 1 0
at_most true b h = subst (λ c. 1 ≤ cond {A = ℕ} c 1 0) (sym (h refl)) (omega arith)
at_most false b h = omega arith

fewer_counted : {X : Type 0} (s t : X → Bool) (xs : List X) → ((x : X) → s x ≡ true → t x ≡ true) → count_by s xs ≤ count_by t xs
fewer_counted s t [] h = omega arith
fewer_counted s t (x ∷ xs) h = omega (arith, sum_by-cons (λ y. cond (s y) 1 0) x xs, sum_by-cons (λ y. cond (t y) 1 0) x xs, at_most (s x) (t x) (h x), fewer_counted s t xs h)

-- no two inputs have one name
inputs_once : (d : Design) → IsSound d → (n : List ℕ) → count_by (comes_from n) d.channels ≤ 1
inputs_once d s n = omega (arith, s.names n, fewer_counted (comes_from n) (is_host n) d.channels (λ c e. ap (λ b. b || passes (λ m. bytes_eq m n) (to_output c.to)) e))

map_one : {X Y : Type 0} (f : X → Y) (x : X) (xs : List X) (ys : List Y) (b : Bool) → map f xs ≡ ys → map f (cond b (x ∷ xs) xs) ≡ cond b (f x ∷ ys) ys
map_one f x xs ys true e = ap (λ l. f x ∷ l) e
map_one f x xs ys false e = e

map_filter : {X Y : Type 0} (f : X → Y) (q : Y → Bool) (xs : List X) → map f (filter (λ x. q (f x)) xs) ≡ filter q (map f xs)
map_filter f q [] = refl
map_filter f q (x ∷ xs) = map_one f x (filter (λ y. q (f y)) xs) (filter q (map f xs)) (q (f x)) (map_filter f q xs)

-- the feeds of the inputs that are left are those of the design that is left
pub feeds_left : (p : Channel → Bool) (d : Design) (feeds : List Feed) → IsSound d → map feed_name feeds ≡ inputs d.channels → map feed_name (filter (λ f. is_input f.name (filter p d.channels)) feeds) ≡ inputs (filter p d.channels)
feeds_left p d feeds s e =
    map_filter feed_name (λ n. is_input n (filter p d.channels)) feeds ∙ ap (λ ns. filter (λ n. is_input n (filter p d.channels)) ns) e ∙ inputs_left p d.channels (inputs_once d s)
