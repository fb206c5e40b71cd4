use Rattle.pld_parse.proofs.Marks.{no_mark_otherwise}
use Rattle.pld_parse.proofs.token.behind.Goals as goal

pub returns-in_default-mark_of : goal.returns-in_default-mark_of
returns-in_default-mark_of c = no_mark_otherwise _ _ _ c.args.mark c.in-Some.ensures (c.in_default-mark_of.ensures c.in-Some.field-0-1)
