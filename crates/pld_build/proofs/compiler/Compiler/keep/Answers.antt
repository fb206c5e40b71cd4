use Rattle.std.proofs.Common.{◌∙◌}
use Rattle.pld_build.proofs.Kept.{may_put}
use Rattle.pld_build.proofs.compiler.Compiler.keep.Goals as goal

pub put-requires : goal.put-requires
put-requires c = may_put c.args.source.now c.of.result c.self.inside.cache c.args.self.now (c.of.ensures ∙ c.in_ok-text.ensures.items ∙ c.as_slice.ensures) c.self.view_is c.requires.new
