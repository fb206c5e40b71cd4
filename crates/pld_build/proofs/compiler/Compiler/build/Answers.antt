use Rattle.std.proofs.Common.{◌∙◌}
use Rattle.pld_build.proofs.Kept.{all_kept}
use Rattle.pld_build.proofs.compiler.Compiler.build.Goals as goal

pub images_for-requires-clause-kept : goal.images_for-requires-clause-kept
images_for-requires-clause-kept g c = all_kept c.args.self.now c.args.sources.now c.compile.new.self c.in_ok-compile.ensures.pairs c.misses_are_first_places.ensures.covered
