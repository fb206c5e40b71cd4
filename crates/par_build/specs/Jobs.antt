-- What an operator is compiled to, and the images of jobs.
use Rattle.pld_base.specs.declared.event.Kind.{Kind}
use Rattle.pld_base.specs.declared.event.Kind.TheVariants.{Soft, Hard}
use Rattle.pld_ast.specs.declared.tree.Operator.{Operator}
use Rattle.image_form.specs.Spelling.{Form}
use Rattle.rv_back.specs.Form.{soft_form}
use Rattle.fsm_back.specs.Form.{hard_form}
use Rattle.par_build.specs.declared.job.Job.{Job}

-- an operator, compiled for a kind of page
abbrev pub image_by : Kind → Operator → Form
image_by Soft operator = soft_form operator
image_by Hard operator = hard_form operator

-- the image that a job makes
unfoldable pub image_made : Job → Form
image_made job = image_by job.kind job.op
