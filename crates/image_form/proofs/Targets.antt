-- The register that a micro writes, by its fields.
use Rattle.std.proofs.Common.{◌≡◌, ℕ, Option, Some, None, refl}
use Rattle.fsm_core.specs.declared.micro.MicroOp.{MicroOp}
use Rattle.fsm_core.specs.declared.micro.MicroOp.TheVariants as op
use Rattle.fsm_core.specs.declared.micro.Micro.{Micro}
use Rattle.fsm_core.specs.declared.micro.Fields.{Fields}
use Rattle.fsm_core.specs.declared.micro.Fields.TheVariants as fields
use Rattle.fsm_core.specs.Fields.{fields_of}
use Rattle.fsm_core.specs.Shapes.{shape_by, shape_of, target}

abbrev pub target_fields : Fields → Micro → Option ℕ
target_fields fields.Sets m = Some m.t
target_fields fields.Sets1 m = Some m.t
target_fields fields.Sets2 m = Some m.t
target_fields fields.Loads m = Some m.t
target_fields fields.Stores m = None
target_fields fields.Reads m = Some m.t
target_fields fields.Writes m = None

target_op : (o : MicroOp) (m : Micro) → target (shape_by o m) ≡ target_fields (fields_of o) m
target_op op.Set m = refl
target_op op.Store m = refl
target_op op.Write m = refl
target_op _ m = refl

pub target_by_fields : (m : Micro) → target (shape_of m) ≡ target_fields (fields_of m.op) m
target_by_fields m = target_op m.op m
