-- What is left of channels without those at an end.
use Rattle.std.proofs.Common.{◌≡◌, Bool, true, false, true≢false, cond, not, ◌||◌, List, [], ◌∷◌, filter, refl, sym, ap, ◌∙◌}
use Rattle.std.specs.List.{list_all, list_any}
use Rattle.pld_graph.specs.declared.parts.Channel.{Channel}
use Rattle.pld_base.specs.declared.event.End.{End}
use Rattle.pld_base.specs.declared.event.Side.TheVariants.{In, Out}
use Rattle.pld_graph.specs.declared.parts.FromEnd.TheVariants as from_end
use Rattle.pld_graph.specs.declared.parts.ToEnd.TheVariants as to_end
use Rattle.pld_graph.specs.Parts.{same_side, same_end, from_port, to_port, passes, stands_at, same_from, same_to}
use Rattle.pld_graph.specs.Sound.{every, is_directed}
use Rattle.pld_graph.proofs.Ended.{not_to, not_from, both, or_false}

same_filter_at : {X : Type 0} (p q : X → Bool) (x : X) (xs : List X) → p x ≡ q x → filter p xs ≡ filter q xs → filter p (x ∷ xs) ≡ filter q (x ∷ xs)
same_filter_at p q x xs here rest = λ i. cond (here i) (x ∷ rest i) (rest i)

pub out_filter : (x : End) (cs : List Channel) → x.side ≡ Out → list_all is_directed cs ≡ true → filter (λ c. not (same_from (from_end.Port x) c.from)) cs ≡ filter (λ c. not (stands_at (same_end x) c)) cs
out_filter x [] out h = refl
out_filter x (c ∷ cs) out h =
    let d = both (is_directed c) (list_all is_directed cs) h in
    let s = both (every (λ p. same_side p.side Out) (from_port c.from)) (every (λ p. same_side p.side In) (to_port c.to)) d.0 in
    let here : passes (same_end x) (from_port c.from) ≡ stands_at (same_end x) c =
    sym (or_false (passes (same_end x) (from_port c.from))) ∙ ap (λ b. passes (same_end x) (from_port c.from) || b) (sym (not_to x c.to out s.1)) in
    same_filter_at (λ c. not (same_from (from_end.Port x) c.from)) (λ c. not (stands_at (same_end x) c)) c cs (ap not here) (out_filter x cs out d.1)

pub in_filter : (x : End) (cs : List Channel) → x.side ≡ In → list_all is_directed cs ≡ true → filter (λ c. not (same_to (to_end.Port x) c.to)) cs ≡ filter (λ c. not (stands_at (same_end x) c)) cs
in_filter x [] into h = refl
in_filter x (c ∷ cs) into h =
    let d = both (is_directed c) (list_all is_directed cs) h in
    let s = both (every (λ p. same_side p.side Out) (from_port c.from)) (every (λ p. same_side p.side In) (to_port c.to)) d.0 in
    let here : passes (same_end x) (to_port c.to) ≡ stands_at (same_end x) c = ap (λ b. b || passes (same_end x) (to_port c.to)) (sym (not_from x c.from into s.0)) in
    same_filter_at (λ c. not (same_to (to_end.Port x) c.to)) (λ c. not (stands_at (same_end x) c)) c cs (ap not here) (in_filter x cs into d.1)

two_at : (a b : Channel → Bool) (c : Channel) (cs : List Channel) (x y : Bool) → a c ≡ x → b c ≡ y → filter (λ d. not (b d)) (filter (λ d. not (a d)) cs) ≡ filter (λ d. not (a d || b d)) cs
    → filter (λ d. not (b d)) (filter (λ d. not (a d)) (c ∷ cs)) ≡ filter (λ d. not (a d || b d)) (c ∷ cs)
two_at a b c cs true y e f rest =
    ap (λ z. filter (λ d. not (b d)) (cond (not z) (c ∷ filter (λ d. not (a d)) cs) (filter (λ d. not (a d)) cs))) e ∙ rest
    ∙ sym (ap (λ z. cond (not (z || b c)) (c ∷ filter (λ d. not (a d || b d)) cs) (filter (λ d. not (a d || b d)) cs)) e)
two_at a b c cs false y e f rest =
    ap (λ z. filter (λ d. not (b d)) (cond (not z) (c ∷ filter (λ d. not (a d)) cs) (filter (λ d. not (a d)) cs))) e
    ∙ (λ i. cond (not (b c)) (c ∷ rest i) (rest i))
    ∙ sym (ap (λ z. cond (not (z || b c)) (c ∷ filter (λ d. not (a d || b d)) cs) (filter (λ d. not (a d || b d)) cs)) e)

pub two_filters : (a b : Channel → Bool) (cs : List Channel) → filter (λ d. not (b d)) (filter (λ d. not (a d)) cs) ≡ filter (λ d. not (a d || b d)) cs
two_filters a b [] = refl
two_filters a b (c ∷ cs) = two_at a b c cs (a c) (b c) refl refl (two_filters a b cs)

pub none_dropped : (p : Channel → Bool) (cs : List Channel) → list_any p cs ≡ false → filter (λ c. not (p c)) cs ≡ cs
none_dropped p [] none = refl
none_dropped p (c ∷ cs) none = one (p c) none (none_dropped p cs)
  where
    one : (b : Bool) → (b || list_any p cs) ≡ false → (list_any p cs ≡ false → filter (λ d. not (p d)) cs ≡ cs) → cond (not b) (c ∷ filter (λ d. not (p d)) cs) (filter (λ d. not (p d)) cs) ≡ c ∷ cs
    one true e rest = absurd (true≢false e)
    one false e rest = ap (λ l. c ∷ l) (rest e)
