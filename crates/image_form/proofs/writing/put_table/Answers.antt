use Rattle.std.proofs.Common.{refl}
use Rattle.fsm_core.specs.Table.{plan_in}
use Rattle.image_form.proofs.Few.{few_in_each}
use Rattle.image_form.proofs.writing.put_table.Goals as goal

pub put_states-requires : goal.put_states-requires
put_states-requires c = rw c.deref-2.ensures.value (few_in_each (plan_in c.args.table.now) c.args.table.now.states.items refl c.requires)
