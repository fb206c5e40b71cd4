-- One channel: what its two ends and the packets between them hold, and what was written to it and read from it.
use Rattle.std.specs.Prelude.{◌≡◌, ℕ, ◌+◌, ◌%◌, ◌<◌, List, [], ◌∷◌, ◌++◌, length, sum, Option, Some, None}
use Rattle.std.specs.List.{sum_by}

-- the same items, in some order: whatever they weigh, both lists weigh as much
abbrev pub SameItems : {X : Type 0} → List X → List X → Type 0
SameItems {X} xs ys = (f : X → ℕ) → sum_by f xs ≡ sum_by f ys

-- a word under its number
abbrev pub Numbered : Type 0
Numbered = ℕ × ℕ

pub record Channel : Type 0 where
  -- the sending end: credits, number of the next word, and words that wait to be sent
  pub credits : ℕ
  pub out_next : ℕ
  pub box : List Numbered
  -- the words under way, and the counts of the credits under way, in any order
  pub wire : List Numbered
  pub returning : List ℕ
  -- the receiving end: a slot for each number, number of the next word, and freed room
  pub slots : List (Option ℕ)
  pub in_next : ℕ
  pub freed : ℕ
  -- all words that were written and read, the first one first
  pub written : List ℕ
  pub read : List ℕ

-- words under their numbers, the first of which stands at place n
abbrev pub numbered : ℕ → ℕ → List ℕ → List Numbered
numbered window n [] = []
numbered window n (w ∷ ws) = (n % window, w) ∷ numbered window (n + 1) ws

-- the words in the slots, the first of which has number n
abbrev pub in_slots : ℕ → List (Option ℕ) → List Numbered
in_slots n [] = []
in_slots n (None ∷ os) = in_slots (n + 1) os
in_slots n (Some w ∷ os) = (n, w) ∷ in_slots (n + 1) os

-- The words read are the first ones written, in order. Each other word is just once in the outbox, under way or in a slot, under its
-- number. Credits, credits under way, freed room and words that aren't read add up to the window.
pub record IsAccount (window : ℕ) (c : Channel) : Type 0 where
  pub unread : List ℕ
  pub written : c.written ≡ c.read ++ unread
  pub once : SameItems (c.box ++ c.wire ++ in_slots 0 c.slots) (numbered window (length c.read) unread)
  pub total : c.credits + sum c.returning + c.freed + length unread ≡ window
  pub out_next : c.out_next ≡ length c.written % window
  pub in_next : c.in_next ≡ length c.read % window
  pub slots : length c.slots ≡ window
  pub some : 0 < window
