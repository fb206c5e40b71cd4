-- The tests of ends that the maps make, and those of the design; tests of lists of channels.
use Rattle.std.proofs.Common.{◌≡◌, ℕ, Bool, true, false, true≢false, cond, ◌&&◌, List, [], ◌∷◌, ◌++◌, filter, refl, sym, ap, subst, ◌∙◌}
use Rattle.std.specs.Prelude.{bytes_eq, ◌||◌, ◌==◌}
use Rattle.std.specs.List.{list_any, list_all}
use Rattle.std.specs.Cmp.{IsEquivalence}
use Rattle.std.proofs.lemmas.Cmp.{nat_list_eq_equiv}
use Rattle.pld_base.specs.declared.event.End.{End}
use Rattle.pld_base.specs.declared.event.Side.{Side}
use Rattle.pld_base.specs.declared.event.Side.TheVariants.{In, Out}
use Rattle.pld_base.specs.contracts.event.EndPartialEq.TheImpl.{eq-value as end_test}
use Rattle.pld_base.specs.contracts.event.SidePartialEq.TheImpl.{eq-value as side_test}
use Rattle.pld_graph.specs.contracts.parts.FromEndPartialEq.TheImpl.{eq-value as from_test}
use Rattle.pld_graph.specs.contracts.parts.ToEndPartialEq.TheImpl.{eq-value as to_test}
use Rattle.pld_graph.specs.contracts.parts.FromEndEq.TheImpl.Laws as from_laws
use Rattle.pld_graph.specs.contracts.parts.ToEndEq.TheImpl.Laws as to_laws
use Rattle.pld_graph.specs.declared.parts.FromEnd.{FromEnd}
use Rattle.pld_graph.specs.declared.parts.FromEnd.TheVariants as from_end
use Rattle.pld_graph.specs.declared.parts.ToEnd.{ToEnd}
use Rattle.pld_graph.specs.declared.parts.ToEnd.TheVariants as to_end
use Rattle.pld_graph.specs.declared.parts.Channel.{Channel}
use Rattle.pld_graph.specs.Parts.{same_side, same_end, from_port, to_port, from_input, to_output, passes, stands_at, is_host, same_from, same_to}
use Rattle.pld_graph.specs.Sound.{every, is_directed}

-- the tests of the maps' keys are those of the design

side_is : (s t : Side) → side_test.it s t ≡ same_side s t
side_is In In = refl
side_is In Out = refl
side_is Out In = refl
side_is Out Out = refl

grouped : (a b c : Bool) → (a && (b && c)) ≡ ((a && b) && c)
grouped true b c = refl
grouped false b c = refl

end_is : (a b : End) → end_test.it a b ≡ same_end a b
end_is a b = grouped (bytes_eq a.op b.op) (side_test.it a.side b.side) (a.port.0 == b.port.0) ∙ λ i. bytes_eq a.op b.op && side_is a.side b.side i && (a.port.0 == b.port.0)

pub from_is : (a b : FromEnd) → from_test.it a b ≡ same_from a b
from_is (from_end.Port a) (from_end.Port b) = end_is a b
from_is (from_end.Port a) (from_end.Input n) = refl
from_is (from_end.Input m) (from_end.Port b) = refl
from_is (from_end.Input m) (from_end.Input n) = nat_list_eq_equiv.symm m n

pub from_same : IsEquivalence same_from
from_same = subst IsEquivalence (λ i a b. from_is a b i) from_laws.laws-law

pub to_is : (a b : ToEnd) → to_test.it a b ≡ same_to a b
to_is (to_end.Port a) (to_end.Port b) = end_is a b
to_is (to_end.Port a) (to_end.Output n) = refl
to_is (to_end.Output m) (to_end.Port b) = refl
to_is (to_end.Output m) (to_end.Output n) = nat_list_eq_equiv.symm m n

pub to_same : IsEquivalence same_to
to_same = subst IsEquivalence (λ i a b. to_is a b i) to_laws.laws-law

false_between : (a b : Bool) → (a && false && b) ≡ false
false_between true b = refl
false_between false b = refl

apart : (s t : Side) → s ≡ Out → same_side t In ≡ true → same_side s t ≡ false
apart In In e h = absurd (true≢false (ap (λ x. same_side x In) e))
apart In Out e h = refl
apart Out In e h = refl
apart Out Out e h = absurd (true≢false (sym h))

apart_in : (s t : Side) → s ≡ In → same_side t Out ≡ true → same_side s t ≡ false
apart_in In In e h = absurd (true≢false (sym h))
apart_in In Out e h = refl
apart_in Out In e h = refl
apart_in Out Out e h = absurd (true≢false (ap (λ x. same_side x Out) e))

-- an out-port isn't where a channel goes
pub not_to : (x : End) (t : ToEnd) → x.side ≡ Out → every (λ e. same_side e.side In) (to_port t) ≡ true → passes (same_end x) (to_port t) ≡ false
not_to x (to_end.Output n) e h = refl
not_to x (to_end.Port y) e h = ap (λ s. bytes_eq x.op y.op && s && (x.port.0 == y.port.0)) (apart x.side y.side e h) ∙ false_between (bytes_eq x.op y.op) (x.port.0 == y.port.0)

-- an in-port isn't where a channel comes from
pub not_from : (x : End) (f : FromEnd) → x.side ≡ In → every (λ e. same_side e.side Out) (from_port f) ≡ true → passes (same_end x) (from_port f) ≡ false
not_from x (from_end.Input n) e h = refl
not_from x (from_end.Port y) e h = ap (λ s. bytes_eq x.op y.op && s && (x.port.0 == y.port.0)) (apart_in x.side y.side e h) ∙ false_between (bytes_eq x.op y.op) (x.port.0 == y.port.0)

pub both : (a b : Bool) → (a && b) ≡ true → (a ≡ true) × (b ≡ true)
both true b e = (refl, e)
both false b e = absurd (true≢false (sym e))

pub or_false : (b : Bool) → (b || false) ≡ b
or_false true = refl
or_false false = refl

-- a channel stands at an out-port where it comes from it
pub linked_out : (x : End) (cs : List Channel) → x.side ≡ Out → list_all is_directed cs ≡ true → list_any (λ c. passes (same_end x) (from_port c.from)) cs ≡ list_any (stands_at (same_end x)) cs
linked_out x [] out h = refl
linked_out x (c ∷ cs) out h =
    let d = both (is_directed c) (list_all is_directed cs) h in
    let s = both (every (λ p. same_side p.side Out) (from_port c.from)) (every (λ p. same_side p.side In) (to_port c.to)) d.0 in
    let here : passes (same_end x) (from_port c.from) ≡ stands_at (same_end x) c =
    sym (or_false (passes (same_end x) (from_port c.from))) ∙ ap (λ b. passes (same_end x) (from_port c.from) || b) (sym (not_to x c.to out s.1)) in
    λ i. here i || linked_out x cs out d.1 i

-- and at an in-port where it goes to it
pub linked_in : (x : End) (cs : List Channel) → x.side ≡ In → list_all is_directed cs ≡ true → list_any (λ c. passes (same_end x) (to_port c.to)) cs ≡ list_any (stands_at (same_end x)) cs
linked_in x [] into h = refl
linked_in x (c ∷ cs) into h =
    let d = both (is_directed c) (list_all is_directed cs) h in
    let s = both (every (λ p. same_side p.side Out) (from_port c.from)) (every (λ p. same_side p.side In) (to_port c.to)) d.0 in
    let here : passes (same_end x) (to_port c.to) ≡ stands_at (same_end x) c = ap (λ b. b || passes (same_end x) (to_port c.to)) (sym (not_from x c.from into s.0)) in
    λ i. here i || linked_in x cs into d.1 i

either : (a b c d : Bool) → ((a || b) || (c || d)) ≡ ((a || c) || (b || d))
either true b c d = refl
either false true true d = refl
either false true false d = refl
either false false true d = refl
either false false false d = refl

-- an input or an output has the name
pub hosts : (name : List ℕ) (cs : List Channel)
    → (list_any (λ c. passes (λ n. bytes_eq n name) (from_input c.from)) cs || list_any (λ c. passes (λ n. bytes_eq n name) (to_output c.to)) cs) ≡ list_any (is_host name) cs
hosts name [] = refl
hosts name (c ∷ cs) =
    let from = passes (λ n. bytes_eq n name) (from_input c.from) in
    let to = passes (λ n. bytes_eq n name) (to_output c.to) in
    either from (list_any (λ d. passes (λ n. bytes_eq n name) (from_input d.from)) cs) to (list_any (λ d. passes (λ n. bytes_eq n name) (to_output d.to)) cs)
    ∙ ap (λ b. (from || to) || b) (hosts name cs)

pub list_all-push : {X : Type 0} (t : X → Bool) (xs : List X) (x : X) → list_all t xs ≡ true → t x ≡ true → list_all t (xs ++ x ∷ []) ≡ true
list_all-push t [] x all here = ap (λ b. b && true) here
list_all-push t (y ∷ ys) x all here =
    let h = both (t y) (list_all t ys) all in
    (λ i. h.0 i && list_all-push t ys x h.1 here i)

all_kept : {X : Type 0} (t : X → Bool) (b : Bool) (x : X) (xs : List X) → t x ≡ true → list_all t xs ≡ true → list_all t (cond b (x ∷ xs) xs) ≡ true
all_kept t true x xs here all = λ i. here i && all i
all_kept t false x xs here all = all

pub list_all-filter : {X : Type 0} (t q : X → Bool) (xs : List X) → list_all t xs ≡ true → list_all t (filter q xs) ≡ true
list_all-filter t q [] all = all
list_all-filter t q (x ∷ xs) all = let h = both (t x) (list_all t xs) all in all_kept t (q x) x (filter q xs) h.0 (list_all-filter t q xs h.1)
