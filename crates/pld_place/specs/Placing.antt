-- The leaves on which the operators of a design are placed.
use Rattle.std.specs.Prelude.{◌≡◌, ℕ, zero, suc, ◌+◌, ◌-◌, ◌^◌, ◌==◌, ◌≤◌, ◌<◌, Bool, false, not, List, [], ◌∷◌, ◌++◌, length, map, filter, Option, Some, None, Result, Ok, Err, slice_index, if◌then◌else◌}
use Rattle.std.specs.List.{All, list_any, filter_map, range_with_len}
use Rattle.pld_base.specs.declared.event.PageId.{PageId}
use Rattle.pld_base.specs.declared.memory.Refused.{Refused}
use Rattle.pld_base.specs.declared.memory.Refused.TheVariants.{Fault, NoMemory}
use Rattle.pld_graph.specs.declared.parts.Channel.{Channel}
use Rattle.pld_graph.specs.declared.parts.FromEnd.{FromEnd}
use Rattle.pld_graph.specs.declared.parts.FromEnd.TheVariants as from_end
use Rattle.pld_graph.specs.declared.parts.ToEnd.{ToEnd}
use Rattle.pld_graph.specs.declared.parts.ToEnd.TheVariants as to_end
use Rattle.pld_graph.specs.Design.{Design, place_of, operator_at}
use Rattle.pld_place.specs.declared.ends.Ends.{Ends}
use Rattle.pld_place.specs.declared.placement.TooFewPages.{TooFewPages}
use Rattle.pld_place.specs.Exchanges.{improved, made, total}

abbrev pub numbers : List PageId → List ℕ
numbers pages = map (λ p. p.0) pages

-- the leaves that operators may have: from 1 on, as many as this
abbrev pub pages : Design → ℕ
pages d = 2 ^ d.depth - 1

-- the pin of each operator, in the order of declaration
abbrev pub pins : Design → List (Option ℕ)
pins d = map (λ o. o.pin) d.operators

abbrev pub own_pin : Option ℕ → Option ℕ
own_pin p = p

-- the leaves to which operators are pinned
abbrev pub pinned_leaves : List (Option ℕ) → List ℕ
pinned_leaves ps = filter_map own_pin ps

abbrev pub is_among : List ℕ → ℕ → Bool
is_among leaves leaf = list_any (λ l. l == leaf) leaves

-- the least leaf from this one on that isn't taken, among n leaves
abbrev pub least_free : List ℕ → ℕ → ℕ → ℕ
least_free taken leaf zero = leaf
least_free taken leaf (suc n) = if is_among taken leaf then least_free taken (leaf + 1) n else leaf

-- the least free leaf from 1 up; no tree has more than 64
unfoldable pub next_leaf : List ℕ → ℕ
next_leaf taken = least_free taken 1 63

-- pinned operators at their pins; the others one after the other, each on the least free leaf
abbrev pub settled : List ℕ → List (Option ℕ) → List ℕ
settled taken [] = []
settled taken (Some leaf ∷ ps) = leaf ∷ settled taken ps
settled taken (None ∷ ps) = next_leaf taken ∷ settled (taken ++ next_leaf taken ∷ []) ps

-- before any exchange
abbrev pub first_leaves : List (Option ℕ) → List ℕ
first_leaves ps = settled (pinned_leaves ps) ps

-- the leaves from 1 to the last one, without those to which an operator is pinned
abbrev pub movable_among : List ℕ → ℕ → List ℕ
movable_among pinned last = filter (λ leaf. not (is_among pinned leaf)) (range_with_len 1 last)

abbrev pub movable : Design → List ℕ
movable d = movable_among (pinned_leaves (pins d)) (pages d)

abbrev pub from_place : Design → FromEnd → Option ℕ
from_place d (from_end.Port e) = place_of e.op d
from_place d (from_end.Input name) = None

abbrev pub to_place : Design → ToEnd → Option ℕ
to_place d (to_end.Port e) = place_of e.op d
to_place d (to_end.Output name) = None

abbrev pub ends_of : Design → Channel → Ends
ends_of d c = record { from = from_place d c.from; to = to_place d c.to }

-- the ends of each channel, those of inputs and outputs too
abbrev pub channel_ends : Design → List Ends
channel_ends d = map (ends_of d) d.channels

-- the leaf of each operator, in the order of declaration: pinned operators at their pins and the others in order on the least
-- free leaf; then at most 64 times the first exchange of two leaves without a pin that lowers the sum of channel distances
unfoldable pub placed : Design → List ℕ
placed d = improved (channel_ends d) (movable d) 64 (first_leaves (pins d))

-- how many exchanges are made
unfoldable pub exchanges : Design → ℕ
exchanges d = made (channel_ends d) (movable d) 64 (first_leaves (pins d))

-- the sum of channel distances of a design whose operators stand on these leaves
abbrev pub distances : Design → List ℕ → ℕ
distances d leaves = total (channel_ends d) leaves

-- the placement, or that there are more operators than pages
abbrev pub Places : Result (List ℕ) (Refused TooFewPages) → Design → Type 0
Places (Ok leaves) d = (leaves ≡ placed d) × (length d.operators ≤ pages d)
Places (Err (Fault few)) d = (pages d < length d.operators) × (few.operators ≡ length d.operators) × (few.pages ≡ pages d)
Places (Err NoMemory) d = length d.operators ≤ pages d

-- each operator has a leaf of its own, from 1 to the last one; pinned operators stand at their pins
pub record IsPlaced (d : Design) (leaves : List ℕ) : Type 0 where
  pub each : length leaves ≡ length d.operators
  pub within : All (λ leaf. (1 ≤ leaf) × (leaf ≤ pages d)) leaves
  pub alone : (j k : ℕ) → j < length leaves → k < length leaves → slice_index leaves j ≡ slice_index leaves k → j ≡ k
  pub pinned : (k leaf : ℕ) → k < length d.operators → (operator_at d.operators k).pin ≡ Some leaf → slice_index leaves k ≡ leaf

-- two leaves of operators, to neither of which an operator is pinned
pub record MayExchange (d : Design) (a b : ℕ) : Type 0 where
  pub least : 1 ≤ a
  pub order : a < b
  pub most : b ≤ pages d
  pub free : is_among (pinned_leaves (pins d)) a ≡ false
  pub other_free : is_among (pinned_leaves (pins d)) b ≡ false
