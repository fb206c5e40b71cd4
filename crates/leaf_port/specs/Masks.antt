-- Sets of numbers below 64 as the bits of a number, and the slots of an in-port by the set of those that are filled.
use Rattle.std.specs.Prelude.{◌≡◌, ◌≢◌, ℕ, zero, suc, ◌+◌, ◌<◌, Bool, true, false, ◌==◌, List, [], ◌∷◌, Option, Some, None, slice_index_or}
use Rattle.std.specs.Int.{bit_at}

-- the set has this number
abbrev pub has : ℕ → ℕ → Bool
has bits i = bit_at bits i == 1

-- the set with i put in (b is true) or taken out
pub record IsSetTo (old i : ℕ) (b : Bool) (new : ℕ) : Type 0 where
  pub here : has new i ≡ b
  pub others : (k : ℕ) → k < 64 → k ≢ i → has new k ≡ has old k

-- i is the lowest number of the set
pub record IsLowest (bits i : ℕ) : Type 0 where
  pub within : i < 64
  pub here : has bits i ≡ true
  pub before : (k : ℕ) → k < i → has bits k ≡ false

-- a slot whose number is in the set holds its word
abbrev pub kept : Bool → ℕ → Option ℕ
kept true word = Some word
kept false word = None

-- the slots from number n on
abbrev pub slots_from : ℕ → List ℕ → ℕ → ℕ → List (Option ℕ)
slots_from filled words n zero = []
slots_from filled words n (suc k) = kept (has filled n) (slice_index_or words n 0) ∷ slots_from filled words (n + 1) k
