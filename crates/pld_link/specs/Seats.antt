-- Where the ends of a design's channels stand in a tree of pages.
use Rattle.std.specs.Prelude.{◌≡◌, ℕ, ◌==◌, ◌≤◌, ◌<◌, Bool, ◌&&◌, List, length, map, slice_index}
use Rattle.std.specs.List.{All, position_or_len}
use Rattle.std.specs.Str.{bytes_eq}
use Rattle.pld_base.specs.declared.event.PageId.{PageId}
use Rattle.pld_graph.specs.declared.parts.FromEnd.{FromEnd}
use Rattle.pld_graph.specs.declared.parts.FromEnd.TheVariants as from_end
use Rattle.pld_graph.specs.declared.parts.ToEnd.{ToEnd}
use Rattle.pld_graph.specs.declared.parts.ToEnd.TheVariants as to_end
use Rattle.pld_graph.specs.Design.{Design, inputs, outputs}

-- the place of a name in a list of names, where places are counted from 0; the list's length where it has no such name
abbrev pub place_in : List (List ℕ) → List ℕ → ℕ
place_in names name = position_or_len (λ n. bytes_eq n name) names

abbrev pub operator_names : Design → List (List ℕ)
operator_names d = map (λ o. o.name) d.operators

-- the leaf of each operator, in the order of declaration; leaf 0 is the host's, and a tree has no more than 64
pub record IsPlacement (d : Design) (leaves : List ℕ) : Type 0 where
  pub each : length leaves ≡ length d.operators
  pub pages : All (λ leaf. (1 ≤ leaf) × (leaf ≤ 63)) leaves
  -- no two operators stand on one leaf
  pub alone : (j k : ℕ) → j < length leaves → k < length leaves → slice_index leaves j ≡ slice_index leaves k → j ≡ k

-- a leaf has eight out-ports and eight in-ports, and so has slots for these operators' ports
abbrev pub HasSlots : Design → Type 0
HasSlots d = All (λ o. (o.ins ≤ 8) × (o.outs ≤ 8)) d.operators

abbrev pub numbers : List PageId → List ℕ
numbers pages = map (λ p. p.0) pages

-- a port of a leaf; in-ports and out-ports are numbered apart
pub record Seat : Type 0 where
  pub leaf : ℕ
  pub port : ℕ

abbrev pub seat : ℕ → ℕ → Seat
seat leaf port = record { leaf = leaf; port = port }

abbrev pub same_seat : Seat → Seat → Bool
same_seat a b = (a.leaf == b.leaf) && (a.port == b.port)

-- the leaf of the operator of this name
abbrev pub leaf_of : Design → List ℕ → List ℕ → ℕ
leaf_of d leaves name = slice_index leaves (place_in (operator_names d) name)

-- a port stands on its operator's leaf; the k-th input is the host's out-port k
abbrev pub from_seat : Design → List ℕ → FromEnd → Seat
from_seat d leaves (from_end.Port e) = seat (leaf_of d leaves e.op) e.port.0
from_seat d leaves (from_end.Input name) = seat 0 (place_in (inputs d.channels) name)

-- a port stands on its operator's leaf; the k-th output is the host's in-port k
abbrev pub to_seat : Design → List ℕ → ToEnd → Seat
to_seat d leaves (to_end.Port e) = seat (leaf_of d leaves e.op) e.port.0
to_seat d leaves (to_end.Output name) = seat 0 (place_in (outputs d.channels) name)
