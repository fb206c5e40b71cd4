-- Pairs of kind and text, the images that are kept under them, and which of them are missing.
use Rattle.std.specs.Prelude.{◌≡◌, ℕ, ◌+◌, ◌<◌, Bool, true, false, ◌&&◌, ◌||◌, List, [], ◌∷◌, ◌++◌, Option, length, map, take, slice_index_or, if◌then◌else◌}
use Rattle.std.specs.List.{list_any}
use Rattle.std.specs.Map.{keys_of, lookup}
use Rattle.std.specs.Str.{bytes_eq}
use Rattle.pld_base.specs.declared.event.Kind.{Kind}
use Rattle.pld_base.specs.declared.event.Kind.TheVariants.{Soft, Hard}
use Rattle.image_form.specs.Spelling.{Form}

pub record Pair : Type 0 where
  pub kind : Kind
  pub text : List ℕ

abbrev pub same_kind : Kind → Kind → Bool
same_kind Soft Soft = true
same_kind Soft Hard = false
same_kind Hard Soft = false
same_kind Hard Hard = true

abbrev pub same_pair : Pair → Pair → Bool
same_pair a b = same_kind a.kind b.kind && bytes_eq a.text b.text

-- images, each under its pair, in the order in which they were kept
abbrev pub Kept : Type 0
Kept = List (Pair × Form)

-- the image that is kept under a pair
abbrev pub image_under : Pair → Kept → Option Form
image_under p kept = lookup (same_pair p) kept

-- one of these pairs is the same
abbrev pub is_among : Pair → List Pair → Bool
is_among p ps = list_any (same_pair p) ps

-- the places, counted from n, of the pairs that are neither kept nor among those seen before them
abbrev pub misses_from : ℕ → List Pair → List Pair → List Pair → List ℕ
misses_from n kept seen [] = []
misses_from n kept seen (p ∷ ps) =
    if is_among p kept || is_among p seen then misses_from (n + 1) kept seen ps else n ∷ misses_from (n + 1) kept (seen ++ p ∷ []) ps

-- the first place of each pair that isn't kept
abbrev pub misses : List Pair → List Pair → List ℕ
misses kept ps = misses_from 0 kept [] ps

abbrev pub byte_of : Kind → ℕ
byte_of Soft = 0
byte_of Hard = 1

abbrev pub kept_pairs : Kept → List Pair
kept_pairs kept = keys_of kept

-- stands for a pair that isn't there
abbrev pub blank : Pair
blank = record { kind = Soft; text = [] }

abbrev pub pair_at : List Pair → ℕ → Pair
pair_at ps k = slice_index_or ps k blank

-- the pairs that are missed
abbrev pub missed : List Pair → List Pair → List Pair
missed kept ps = map (pair_at ps) (misses kept ps)

-- the pair at the place isn't kept, and none before it is the same
pub record IsFirstMiss (kept ps : List Pair) (k : ℕ) : Type 0 where
  pub within : k < length ps
  pub lacking : is_among (pair_at ps k) kept ≡ false
  pub first : is_among (pair_at ps k) (take k ps) ≡ false
