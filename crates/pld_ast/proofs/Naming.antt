-- The place of a name among what bears it.
use Rattle.std.proofs.Common.{◌≡◌, ℕ, ◌+◌, ◌≤◌, List, ◌∷◌, [], length, true, false, cond, Some, None, refl, sym, ap, subst, ◌∙◌, arith}
use Rattle.std.specs.Prelude.{map, filter, not, nat_lt}
use Rattle.std.specs.List.{prefix_len, position, count_by}
use Rattle.std.specs.Option.{unwrap_or}
use Rattle.std.specs.Str.{bytes_eq}
use Rattle.std.proofs.lemmas.Bool.Decides.{nat_tests}
use Rattle.std.proofs.lemmas.List.{length-map}
use Rattle.std.proofs.lemmas.List.Sums.{prefix_len-le-length, length-filter, count_by-le-length}
use Rattle.pld_base.specs.declared.event.Side.{Side}
use Rattle.pld_ast.specs.declared.tree.Port.{Port}
use Rattle.pld_ast.specs.Resolve.{place_in, is_at, ports_at}

-- a place up to the length, out of the option that a search gives
cut : (k n : ℕ) → k ≤ n → unwrap_or (cond (nat_lt k n) (Some k) None) n ≡ k
cut k n h = elim (nat_lt k n) as (λ b. nat_lt k n ≡ b → unwrap_or (cond b (Some k) None) n ≡ k) [
  | true ↦ λ e. refl
  | false ↦ λ e. grind (arith, nat_tests, h, e)
] refl

among : {A : Type 0} (f : A → List ℕ) (xs : List A) (n : List ℕ) → prefix_len (λ x. not (bytes_eq (f x) n)) xs ≡ place_in (map f xs) n
among f [] n = refl
among f (x ∷ xs) n = ap (λ k. cond (not (bytes_eq (f x) n)) (1 + k) 0) (among f xs n)

-- a search for the name finds its place
pub found : {A : Type 0} (f : A → List ℕ) (xs : List A) (n : List ℕ) → unwrap_or (position (λ x. bytes_eq (f x) n) xs) (length xs) ≡ place_in (map f xs) n
found f xs n = cut (prefix_len (λ x. not (bytes_eq (f x) n)) xs) (length xs) (prefix_len-le-length (λ x. not (bytes_eq (f x) n)) xs) ∙ among f xs n

-- the same among the ports of one side
pub found_at : (side : Side) (ports : List Port) (n : List ℕ) → unwrap_or (position (λ q. bytes_eq q.name n) (filter (is_at side) ports)) (length (ports_at side ports)) ≡ place_in (ports_at side ports) n
found_at side ports n = ap (unwrap_or (position (λ q. bytes_eq q.name n) (filter (is_at side) ports))) (length-map (filter (is_at side) ports) (λ q. q.name)) ∙ found (λ q. q.name) (filter (is_at side) ports) n

-- a place is within the list
pub within : (names : List (List ℕ)) (n : List ℕ) → place_in names n ≤ length names
within names n = prefix_len-le-length (λ m. not (bytes_eq m n)) names

-- the ports of one side, counted
pub counted : (side : Side) (ports : List Port) → count_by (is_at side) ports ≡ length (ports_at side ports)
counted side ports = sym (length-filter (is_at side) ports) ∙ sym (length-map (filter (is_at side) ports) (λ q. q.name))

pub few : (side : Side) (ports : List Port) → length (ports_at side ports) ≤ length ports
few side ports = subst (λ n. n ≤ length ports) (counted side ports) (count_by-le-length (is_at side) ports)
