use Rattle.std.proofs.Common.{sym, ap, ◌∙◌, arith}
use Rattle.image_form.specs.Spelling.{form_in}
use Rattle.image_form.specs.Reading.{offset}
use Rattle.image_form.specs.Whole.{all_of}
use Rattle.image_form.proofs.Images.{all_takes, all_again, found_not_bad, failed_at}
use Rattle.image_form.proofs.reading.read_image.Goals as goal

pub returns-in-Ok-clause-found : goal.returns-in-Ok-clause-found
returns-in-Ok-clause-found c = all_takes c.args.bytes.now (form_in c.in-Ok.form) (λ i. omega (arith, c.type_inv.bytes i)) c.in-Ok.ensures

pub returns-in-Ok-clause-only : goal.returns-in-Ok-clause-only
returns-in-Ok-clause-only c = λ f good wide e. ap (offset c.args.bytes.now) (sym (ap all_of (sym e) ∙ all_again f good wide) ∙ c.in-Ok.ensures)

pub returns-in-Err-BadField-clause-only : goal.returns-in-Err-BadField-clause-only
returns-in-Err-BadField-clause-only c = λ f good wide e. absurd (found_not_bad f _ (sym (ap all_of (sym e) ∙ all_again f good wide) ∙ failed_at c.in-Err-BadField.field-0 c.in-Err-BadField.bad _ c.in-Err-BadField.field-0-is c.in-Err-BadField.ensures))
