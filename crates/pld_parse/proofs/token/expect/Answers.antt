use Rattle.pld_parse.proofs.Marks.{mark_missing_here}
use Rattle.pld_parse.proofs.token.expect.Goals as goal

pub returns-in-None : goal.returns-in-None
returns-in-None c = mark_missing_here c.args.mark c.args.tokens.now c.requires c.in-None.ensures
