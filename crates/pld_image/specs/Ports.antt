-- At which ports a page comes to stand.
use Rattle.std.specs.Prelude.{◌≡◌, ℕ, ◌<◌, List}
use Rattle.pld_base.specs.declared.event.Event.{Event}
use Rattle.pld_base.specs.Machine.{Reads, Writes}
use Rattle.hot_swap.specs.Paths.{Leads}
use Rattle.image_form.specs.Spelling.{Form, Soft, Hard}
use Rattle.pld_image.specs.Cores.{Core, load, next}

-- how many ports an image has
abbrev pub ins_of : Form → ℕ
ins_of (Soft ins outs code) = ins
ins_of (Hard t) = t.ins

abbrev pub outs_of : Form → ℕ
outs_of (Soft ins outs code) = outs
outs_of (Hard t) = t.outs

-- wherever the page of an image comes to read or to write, it is at a port of the image
pub record KeepsPorts (form : Form) : Type 0 where
  pub reads : (d : Core) (steps : ℕ) (events : List Event) (port : ℕ) (after : ℕ → Core) → Leads next (load form) steps events d → next d ≡ Reads port after → port < ins_of form
  pub writes : (d : Core) (steps : ℕ) (events : List Event) (port word : ℕ) (after : Core) → Leads next (load form) steps events d → next d ≡ Writes port word after → port < outs_of form
