use Rattle.std.proofs.Common.{refl}
use Rattle.pld_base.specs.Names.{is_identifier}
use Rattle.pld_base.proofs.Padding.{in_front}
use Rattle.pld_base.proofs.name.Name.padded.Goals as goal

pub invariant_of-result : goal.invariant_of-result
invariant_of-result c = in_front is_identifier _ c.args.text.now _ _ refl c.copy_from_slice.ensures.after c.requires.within c.requires.identifier
