-- The channel that a search finds, and what it gives.
use Rattle.std.proofs.Common.{◌≡◌, ℕ, suc, ◌+◌, ◌*◌, ◌/◌, ◌≤◌, Bool, true, false, ◌&&◌, cond, inl, inr, List, [], ◌∷◌, length, refl, sym, ap, ◌∙◌, arith, Option, Some, None}
use Rattle.std.specs.Prelude.{◌==◌, option_map}
use Rattle.std.specs.List.{find}
use Rattle.std.proofs.lemmas.Bool.Decides.{nat_tests}
use Rattle.std.proofs.lemmas.List.{length-map}
use Rattle.std.proofs.lemmas.Nat.{le-div}
use Rattle.net_switch.specs.declared.packet.Row.{Row}
use Rattle.pld_base.specs.declared.event.End.{End}
use Rattle.pld_base.specs.Channels.{InputNode, OutputNode, OutPort}
use Rattle.pld_graph.specs.declared.parts.Channel.{Channel}
use Rattle.pld_graph.specs.declared.parts.OperatorEntry.{OperatorEntry}
use Rattle.pld_graph.specs.declared.parts.FromEnd.{FromEnd}
use Rattle.pld_graph.specs.declared.parts.FromEnd.TheVariants as from_end
use Rattle.pld_graph.specs.declared.parts.ToEnd.{ToEnd}
use Rattle.pld_graph.specs.declared.parts.ToEnd.TheVariants as to_end
use Rattle.pld_graph.specs.Parts.{same_end, stands_at, passes, from_port, to_port}
use Rattle.pld_graph.specs.Design.{Design, outputs}
use Rattle.pld_link.specs.Seats.{place_in, operator_names}
use Rattle.pld_link.proofs.Ends.{IsIn, own_end, or_left, or_right}
use Rattle.fabric_plan.specs.Plans.{allowed}
use Rattle.fabric_plan.specs.Wiring.{goes_to}

-- what a function gives of a value, if there is one
abbrev pub given : {X Y : Type 0} → (X → Option Y) → Option X → Option Y
given f None = None
given f (Some x) = f x

-- two tests that agree on the list find the same, and what they find gives the same
pub find_agree : {X Y : Type 0} (p q : X → Bool) (f g : X → Option Y) (xs : List X) → ((x : X) → IsIn x xs → p x ≡ q x) → ((x : X) → IsIn x xs → f x ≡ g x)
    → given f (find p xs) ≡ given g (find q xs)
find_agree p q f g [] tests values = refl
find_agree {X} p q f g (x ∷ xs) tests values =
    ap (λ b. given f (cond b (Some x) (find p xs))) (tests x (inl refl)) ∙ by (q x) (values x (inl refl)) (find_agree p q f g xs (λ y here. tests y (inr here)) (λ y here. values y (inr here)))
  where
    by : (b : Bool) → f x ≡ g x → given f (find p xs) ≡ given g (find q xs) → given f (cond b (Some x) (find p xs)) ≡ given g (cond b (Some x) (find q xs))
    by true here rest = here
    by false here rest = rest

pub row_given : (a : Channel → OutPort) (b : FromEnd → OutPort) (o : Option Channel) → option_map a o ≡ given (λ c. Some (a c)) o
row_given a b None = refl
row_given a b (Some c) = refl

pub found_none : (q : Channel → Bool) (xs : List Channel) → ((x : Channel) → IsIn x xs → false ≡ q x) → find q xs ≡ None
found_none q [] none = refl
found_none q (x ∷ xs) none = ap (λ b. cond b (Some x) (find q xs)) (sym (none x (inl refl))) ∙ found_none q xs (λ y here. none y (inr here))

pub none_of : (o : Option Row) → ((r : Row) → o ≡ Some r → ⊥) → o ≡ None
none_of None none = refl
none_of (Some r) none = absurd (none r refl)

pub and_all : (a : Bool) → a ≡ (a && true)
and_all true = refl
and_all false = refl

and_none : (a : Bool) → (a && false) ≡ false
and_none true = refl
and_none false = refl

zero_suc : (k : ℕ) → (0 == suc k) ≡ false
zero_suc k = grind (arith, nat_tests)

-- a channel stands at its ends
pub to_stands : (f : FromEnd) (e : End) → stands_at (same_end e) (record { from = f; to = to_end.Port e }) ≡ true
to_stands f e = or_right (passes (same_end e) (from_port f)) (same_end e e) (own_end e)

pub from_stands : (t : ToEnd) (e : End) → stands_at (same_end e) (record { from = from_end.Port e; to = t }) ≡ true
from_stands t e = or_left (same_end e e) (passes (same_end e) (to_port t)) (own_end e)

-- none goes to an input, nor to another port of an output than the first
pub input_test : (d : Design) (k port : ℕ) (t : ToEnd) → false ≡ goes_to d (InputNode k) port t
input_test d k port (to_end.Port e) = refl
input_test d k port (to_end.Output n) = refl

pub past_test : (d : Design) (k port : ℕ) (t : ToEnd) → false ≡ goes_to d (OutputNode k) (suc port) t
past_test d k port (to_end.Port e) = refl
past_test d k port (to_end.Output n) = sym (ap (λ b. (place_in (outputs d.channels) n == k) && b) (zero_suc port) ∙ and_none (place_in (outputs d.channels) n == k))

pub as_many : (d e : Design) → operator_names d ≡ operator_names e → length d.operators ≡ length e.operators
as_many d e names = sym (length-map d.operators (λ (o : OperatorEntry). o.name)) ∙ ap length names ∙ length-map e.operators (λ (o : OperatorEntry). o.name)

pub some_rounds : (rounds pages : ℕ) → 1 ≤ rounds → pages ≤ 63 → 1 ≤ allowed rounds pages
some_rounds rounds pages some few =
    let most : 1 ≤ 40000000 / (8 * pages + 1) = le-div 1 40000000 (8 * pages + 1) (omega arith) (omega (arith, few)) in
    omega (arith, some, most)
