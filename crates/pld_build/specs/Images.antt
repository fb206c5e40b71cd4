-- The images of sources, and how many of them are compiled.
use Rattle.std.specs.Prelude.{◌≡◌, ℕ, List, [], length, map, Option, Some, slice_index_or}
use Rattle.pld_base.specs.Process.{Process}
use Rattle.pld_ast.specs.Meaning.{trace}
use Rattle.pld_ast.specs.Resolve.{program_of}
use Rattle.image_form.specs.Spelling.{Form, Soft}
use Rattle.par_build.specs.Jobs.{image_by}
use Rattle.build_cache.specs.Pairs.{Pair, Kept, image_under, misses}
use Rattle.pld_draft.specs.declared.parts.Source.{Source}
use Rattle.pld_draft.specs.Draft.{IsRead}

-- what a source is compiled to
unfoldable pub image_of : Source → Form
image_of s = image_by s.kind s.operator

-- what a source means
abbrev pub meaning_of : Source → Process
meaning_of s = trace (program_of s.operator)

-- the pair of kind and text under which a source's image is kept
abbrev pub pair_of : Source → Pair
pair_of s = record { kind = s.kind; text = s.text }

-- how many of the sources' pairs weren't compiled before: so many are compiled
abbrev pub compiles : List Pair → List Source → ℕ
compiles kept sources = length (misses kept (map pair_of sources))

-- an image that is kept is that of each source of its pair
abbrev pub KeepsImages : Kept → Type 0
KeepsImages kept = (s : Source) → IsRead s → (f : Form) → image_under (pair_of s) kept ≡ Some f → f ≡ image_of s

-- stands for an image that isn't there
abbrev pub no_image : Form
no_image = Soft 0 0 []

-- the images of the sources at these places
abbrev pub images_at : List Source → List ℕ → List Form
images_at sources places = map (λ k. slice_index_or (map image_of sources) k no_image) places
