-- Channels in slots, in the order of their declaration: a slot from which the channel was taken away stays, with nothing in it.
use Rattle.std.specs.Prelude.{◌≡◌, ℕ, Bool, true, cond, List, [], ◌∷◌, Option, Some, None, zero, suc, slice_get}
use Rattle.std.specs.List.{filter_map}
use Rattle.std.specs.Map.{lookup}
use Rattle.pld_graph.specs.declared.parts.Channel.{Channel}

-- the channels that stand
abbrev pub live : List (Option Channel) → List Channel
live slots = filter_map (λ s. s) slots

-- what is picked of the channel in a slot
abbrev pub in_slot : {X : Type 0} → (Channel → Option X) → Option Channel → Option X
in_slot pick None = None
in_slot pick (Some c) = pick c

-- the slots, found by a key of their channels: each channel's key leads to its slot, and no key leads elsewhere
pub record IsFound {K : Type 0} (same : K → K → Bool) (key : Channel → K) (slots : List (Option Channel)) (entries : List (K × ℕ)) : Type 0 where
  pub listed : (i : ℕ) (c : Channel) → slice_get slots i ≡ Some (Some c) → lookup (same (key c)) entries ≡ Some i
  pub leads : (q : K) (i : ℕ) → lookup (same q) entries ≡ Some i → (c : Channel) × (slice_get slots i ≡ Some (Some c)) × (same q (key c) ≡ true)

-- a slot without its channel, if that passes
abbrev pub without : (Channel → Bool) → Option Channel → Option Channel
without test None = None
without test (Some c) = cond (test c) None (Some c)

-- the slots, without the channels in the first n that pass
abbrev pub cleared : (Channel → Bool) → ℕ → List (Option Channel) → List (Option Channel)
cleared test zero slots = slots
cleared test (suc n) [] = []
cleared test (suc n) (s ∷ slots) = without test s ∷ cleared test n slots
