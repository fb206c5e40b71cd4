-- What each micro has to do with, by its fields.
use Rattle.std.proofs.Common.{◌≡◌, ℕ, Option, Some, None, refl, ap, ◌∙◌, Bool, true, false}
use Rattle.std.specs.Prelude.{nat_eq, ◌||◌}
use Rattle.fsm_core.specs.declared.micro.MicroOp.{MicroOp}
use Rattle.fsm_core.specs.declared.micro.MicroOp.TheVariants as op
use Rattle.fsm_core.specs.declared.micro.Micro.{Micro}
use Rattle.fsm_core.specs.declared.micro.Fields.{Fields}
use Rattle.fsm_core.specs.declared.micro.Fields.TheVariants as fields
use Rattle.fsm_core.specs.Fields.{fields_of}
use Rattle.fsm_core.specs.Shapes.{shape_by, shape_of}
use Rattle.fsm_core.specs.Shapes.{target}
use Rattle.fsm_sched.specs.Rule.{reads, Access, access_of, Free, Loading, Storing, clash, clashes, is_stream}

abbrev pub reads_fields : Fields → Micro → ℕ → Bool
reads_fields fields.Sets m r = false
reads_fields fields.Sets1 m r = nat_eq r m.a
reads_fields fields.Sets2 m r = nat_eq r m.a || nat_eq r m.b
reads_fields fields.Loads m r = nat_eq r m.a
reads_fields fields.Stores m r = nat_eq r m.a || nat_eq r m.b
reads_fields fields.Reads m r = false
reads_fields fields.Writes m r = nat_eq r m.a

abbrev pub target_fields : Fields → Micro → Option ℕ
target_fields fields.Sets m = Some m.t
target_fields fields.Sets1 m = Some m.t
target_fields fields.Sets2 m = Some m.t
target_fields fields.Loads m = Some m.t
target_fields fields.Stores m = None
target_fields fields.Reads m = Some m.t
target_fields fields.Writes m = None

reads_op : (o : MicroOp) (m : Micro) (r : ℕ) → reads (shape_by o m) r ≡ reads_fields (fields_of o) m r
reads_op op.Set m r = refl
reads_op op.Move m r = refl
reads_op op.Neg m r = refl
reads_op op.Not m r = refl
reads_op op.Lnot m r = refl
reads_op op.Load m r = refl
reads_op op.Store m r = refl
reads_op op.Read m r = refl
reads_op op.Write m r = refl
reads_op _ m r = refl

pub reads_by_fields : (m : Micro) (r : ℕ) → reads (shape_of m) r ≡ reads_fields (fields_of m.op) m r
reads_by_fields m r = reads_op m.op m r

target_op : (o : MicroOp) (m : Micro) → target (shape_by o m) ≡ target_fields (fields_of o) m
target_op op.Set m = refl
target_op op.Store m = refl
target_op op.Write m = refl
target_op _ m = refl

pub target_by_fields : (m : Micro) → target (shape_of m) ≡ target_fields (fields_of m.op) m
target_by_fields m = target_op m.op m

abbrev pub clashes_fields : Fields → Fields → Micro → Micro → Bool
clashes_fields fields.Stores fields.Stores e m = nat_eq e.unit m.unit
clashes_fields fields.Stores fields.Loads e m = nat_eq e.unit m.unit
clashes_fields fields.Loads fields.Stores e m = nat_eq e.unit m.unit
clashes_fields _ _ e m = false

abbrev access_fields : Fields → Micro → Access
access_fields fields.Loads m = Loading m.unit
access_fields fields.Stores m = Storing m.unit
access_fields _ m = Free

access_op : (o : MicroOp) (m : Micro) → access_of (shape_by o m) ≡ access_fields (fields_of o) m
access_op op.Load m = refl
access_op op.Store m = refl
access_op _ m = refl

clash_free : (a : Access) → clash Free a ≡ false
clash_free Free = refl
clash_free (Loading u) = refl
clash_free (Storing u) = refl

clash_fields : (j k : Fields) (e m : Micro) → clash (access_fields j e) (access_fields k m) ≡ clashes_fields j k e m
clash_fields fields.Stores fields.Stores e m = refl
clash_fields fields.Stores fields.Loads e m = refl
clash_fields fields.Loads fields.Stores e m = refl
clash_fields fields.Stores _ e m = refl
clash_fields fields.Loads _ e m = refl
clash_fields _ k e m = clash_free (access_fields k m)

pub clashes_by_fields : (e m : Micro) → clashes (shape_of e) (shape_of m) ≡ clashes_fields (fields_of e.op) (fields_of m.op) e m
clashes_by_fields e m = ap (λ a. clash a (access_of (shape_of m))) (access_op e.op e) ∙ ap (clash (access_fields (fields_of e.op) e)) (access_op m.op m) ∙ clash_fields (fields_of e.op) (fields_of m.op) e m

abbrev pub stream_fields : Fields → Bool
stream_fields fields.Reads = true
stream_fields fields.Writes = true
stream_fields _ = false

stream_op : (o : MicroOp) (m : Micro) → is_stream (shape_by o m) ≡ stream_fields (fields_of o)
stream_op op.Read m = refl
stream_op op.Write m = refl
stream_op _ m = refl

pub stream_by_fields : (m : Micro) → is_stream (shape_of m) ≡ stream_fields (fields_of m.op)
stream_by_fields m = stream_op m.op m
