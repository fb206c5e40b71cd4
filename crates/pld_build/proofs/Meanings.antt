-- Images do what their operators mean.
use Rattle.pld_base.specs.declared.event.Kind.{Kind}
use Rattle.pld_base.specs.declared.event.Kind.TheVariants.{Soft, Hard}
use Rattle.std.proofs.Common.{◌≡◌, refl}
use Rattle.pld_base.specs.Process.{Process}
use Rattle.image_form.specs.Spelling.{Form}
use Rattle.pld_image.specs.Ports.{ins_of, outs_of}
use Rattle.pld_ast.specs.Resolve.{program_of}
use Rattle.pld_ast.specs.declared.tree.Operator.{Operator}
use Rattle.pld_image.specs.Processes.{process_of}
use Rattle.rv_back.specs.Form.{soft_form}
use Rattle.fsm_back.specs.Form.{hard_form}
use Rattle.pld_draft.specs.declared.parts.Source.{Source}
use Rattle.par_build.specs.Jobs.{image_by}
use Rattle.pld_build.specs.Images.{image_of}

by_kind : (P : Process → Type 0) (kind : Kind) (op : Operator) → P (process_of (soft_form op)) → P (process_of (hard_form op)) → P (process_of (image_by kind op))
by_kind P Soft op a b = a
by_kind P Hard op a b = b

-- what holds of both kinds' pages holds of a source's page
pub of_image : (P : Process → Type 0) (s : Source) → P (process_of (soft_form s.operator)) → P (process_of (hard_form s.operator)) → P (process_of (image_of s))
unfolding image_of
of_image P s a b = by_kind P s.kind s.operator a b

form_by : (P : Form → Type 0) (kind : Kind) (op : Operator) → P (soft_form op) → P (hard_form op) → P (image_by kind op)
form_by P Soft op a b = a
form_by P Hard op a b = b

-- what holds of both kinds' images holds of a source's image
pub of_form : (P : Form → Type 0) (s : Source) → P (soft_form s.operator) → P (hard_form s.operator) → P (image_of s)
unfolding image_of
of_form P s a b = form_by P s.kind s.operator a b

pub same_ins : (s : Source) → ins_of (image_of s) ≡ (program_of s.operator).ins
same_ins s = of_form (λ f. ins_of f ≡ (program_of s.operator).ins) s refl refl

pub same_outs : (s : Source) → outs_of (image_of s) ≡ (program_of s.operator).outs
same_outs s = of_form (λ f. outs_of f ≡ (program_of s.operator).outs) s refl refl
