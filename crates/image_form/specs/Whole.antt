-- Reading whole images.
use Rattle.std.specs.Prelude.{ℕ, List, length, Result, Ok, ◌==◌, if◌then◌else◌}
use Rattle.pld_base.specs.declared.event.Kind.{Kind}
use Rattle.pld_base.specs.declared.event.Kind.TheVariants as kinds
use Rattle.image_form.specs.Spelling.{Form, Soft, Hard}
use Rattle.image_form.specs.Reading.{Found, Read, ◌>>=◌, bad, Header, header_at, soft_at, offset}
use Rattle.image_form.specs.Tables.{table_at}

abbrev pub body_by : Kind → Header → List ℕ → Read Form
body_by kinds.Soft h bytes = do
  code ← soft_at bytes
  Ok (Soft h.ins h.outs code.0, code.1)
body_by kinds.Hard h bytes = do
  table ← table_at h.ins h.outs bytes
  Ok (Hard table.0, table.1)

unfoldable pub body_at : Header → List ℕ → Read Form
body_at h bytes = body_by h.kind h bytes

-- no bytes behind the image
unfoldable pub all_of : List ℕ → Found Form
all_of bytes = do
  h ← header_at bytes
  form ← body_at h.0 h.1
  if length form.1 == 0 then Ok form.0 else bad form.1

-- what the bytes are: an image, or the offset of the first bad field
abbrev pub read : List ℕ → Result Form ℕ
read bytes = offset bytes (all_of bytes)
