use Rattle.pld_build.proofs.Kept.{is_found}
use Rattle.pld_build.proofs.compiler.Compiler.image_for.Goals as goal

pub unwrap-requires : goal.unwrap-requires
unwrap-requires c = is_found c.args.source.now c.as_slice.result.now c.self.inside.cache c.args.self.now c.find-image.result c.as_slice.ensures c.self.view_is c.find-image.ensures c.requires.kept
