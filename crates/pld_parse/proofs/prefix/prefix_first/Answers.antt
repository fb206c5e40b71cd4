use Rattle.pld_parse.proofs.Prefixes.{no_prefix}
use Rattle.pld_parse.proofs.prefix.prefix_first.Goals as goal

pub returns-in_default-behind : goal.returns-in_default-behind
returns-in_default-behind c = no_prefix _ c.in_default.ensures c.in_default-behind.ensures
