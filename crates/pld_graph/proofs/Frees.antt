-- In a sound design the ends of its last channel are in no other one.
use Rattle.std.proofs.Common.{◌≡◌, ℕ, ◌+◌, Bool, true, false, cond, ◌&&◌, ◌||◌, List, [], ◌∷◌, refl, ap, ◌∙◌, arith}
use Rattle.std.specs.Prelude.{bytes_eq}
use Rattle.std.specs.List.{count_by, list_any}
use Rattle.std.proofs.lemmas.Cmp.{nat_list_eq_equiv}
use Rattle.std.proofs.lemmas.Bool.Decides.{Decides-eqb}
use Rattle.std.proofs.lemmas.List.Sums.{sum_by_push, sum_by-cons}
use Rattle.pld_base.specs.declared.event.End.{End}
use Rattle.pld_base.specs.declared.event.Side.{Side}
use Rattle.pld_base.specs.declared.event.Side.TheVariants.{In, Out}
use Rattle.pld_graph.specs.declared.parts.FromEnd.{FromEnd}
use Rattle.pld_graph.specs.declared.parts.FromEnd.TheVariants as from_end
use Rattle.pld_graph.specs.declared.parts.ToEnd.{ToEnd}
use Rattle.pld_graph.specs.declared.parts.ToEnd.TheVariants as to_end
use Rattle.pld_graph.specs.declared.parts.Channel.{Channel}
use Rattle.pld_graph.specs.Parts.{same_side, same_end, from_port, to_port, from_input, to_output, passes, stands_at, is_host, same_from, same_to}
use Rattle.pld_graph.specs.Design.{Design}
use Rattle.pld_graph.specs.Edits.{with_channel}
use Rattle.pld_graph.specs.Sound.{IsSound}

none_at : {X : Type 0} (s t : X → Bool) → ((x : X) → s x ≡ true → t x ≡ true) → (x : X) (xs : List X) (b : Bool) → s x ≡ b → count_by t (x ∷ xs) ≡ 0 → (count_by t xs ≡ 0 → list_any s xs ≡ false) → list_any s (x ∷ xs) ≡ false
none_at s t so x xs true e h later =
    let first : count_by t (x ∷ xs) ≡ 1 + count_by t xs = sum_by-cons (λ y. cond (t y) 1 0) x xs ∙ ap (λ b. cond {A = ℕ} b 1 0 + count_by t xs) (so x e) in
    absurd (omega (arith, first, h))
none_at s t so x xs false e h later =
    let first : count_by t (x ∷ xs) ≡ cond {A = ℕ} (t x) 1 0 + count_by t xs = sum_by-cons (λ y. cond (t y) 1 0) x xs in
    ap (λ b. b || list_any s xs) e ∙ later (omega (arith, first, h))

none_by : {X : Type 0} (s t : X → Bool) → ((x : X) → s x ≡ true → t x ≡ true) → (xs : List X) → count_by t xs ≡ 0 → list_any s xs ≡ false
none_by s t so [] h = refl
none_by s t so (x ∷ xs) h = none_at s t so x xs (s x) refl h (none_by s t so xs)

or_true : (a b : Bool) → a ≡ true → (a || b) ≡ true
or_true a b e = ap (λ x. x || b) e

or_right : (a b : Bool) → b ≡ true → (a || b) ≡ true
or_right true b e = refl
or_right false b e = e

side_itself : (s : Side) → same_side s s ≡ true
side_itself In = refl
side_itself Out = refl

itself : (e : End) → same_end e e ≡ true
itself e = λ i. nat_list_eq_equiv.refl e.op i && side_itself e.side i && (Decides-eqb e.port.0 e.port.0).1 refl i

pub from_free : (from : FromEnd) (to : ToEnd) (d : Design) → IsSound (with_channel (record { from = from; to = to }) d) → list_any (λ c. same_from from c.from) d.channels ≡ false
from_free (from_end.Port e) to d s =
    let c : Channel = record { from = from_end.Port e; to = to } in
    let t : Channel → Bool = stands_at (same_end e) in
    let grown = sum_by_push (λ y. cond (t y) 1 0) d.channels c in
    let one : cond {A = ℕ} (t c) 1 0 ≡ 1 = ap (λ b. cond {A = ℕ} b 1 0) (or_true (same_end e e) (passes (same_end e) (to_port to)) (itself e)) in
    let most = s.once e in
    none_by (λ x. passes (same_end e) (from_port x.from)) t (λ x h. or_true _ _ h) d.channels (omega (arith, grown, one, most))
from_free (from_end.Input n) to d s =
    let c : Channel = record { from = from_end.Input n; to = to } in
    let t : Channel → Bool = is_host n in
    let grown = sum_by_push (λ y. cond (t y) 1 0) d.channels c in
    let one : cond {A = ℕ} (t c) 1 0 ≡ 1 = ap (λ b. cond {A = ℕ} b 1 0) (or_true (bytes_eq n n) (passes (λ m. bytes_eq m n) (to_output to)) (nat_list_eq_equiv.refl n)) in
    let most = s.names n in
    none_by (λ x. passes (λ m. bytes_eq m n) (from_input x.from)) t (λ x h. or_true _ _ h) d.channels (omega (arith, grown, one, most))

pub to_free : (from : FromEnd) (to : ToEnd) (d : Design) → IsSound (with_channel (record { from = from; to = to }) d) → list_any (λ c. same_to to c.to) d.channels ≡ false
to_free from (to_end.Port e) d s =
    let c : Channel = record { from = from; to = to_end.Port e } in
    let t : Channel → Bool = stands_at (same_end e) in
    let grown = sum_by_push (λ y. cond (t y) 1 0) d.channels c in
    let one : cond {A = ℕ} (t c) 1 0 ≡ 1 = ap (λ b. cond {A = ℕ} b 1 0) (or_right (passes (same_end e) (from_port from)) (same_end e e) (itself e)) in
    let most = s.once e in
    none_by (λ x. passes (same_end e) (to_port x.to)) t (λ x h. or_right _ _ h) d.channels (omega (arith, grown, one, most))
to_free from (to_end.Output n) d s =
    let c : Channel = record { from = from; to = to_end.Output n } in
    let t : Channel → Bool = is_host n in
    let grown = sum_by_push (λ y. cond (t y) 1 0) d.channels c in
    let one : cond {A = ℕ} (t c) 1 0 ≡ 1 = ap (λ b. cond {A = ℕ} b 1 0) (or_right (passes (λ m. bytes_eq m n) (from_input from)) (bytes_eq n n) (nat_list_eq_equiv.refl n)) in
    let most = s.names n in
    none_by (λ x. passes (λ m. bytes_eq m n) (to_output x.to)) t (λ x h. or_right _ _ h) d.channels (omega (arith, grown, one, most))
