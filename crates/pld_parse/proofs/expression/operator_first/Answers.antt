use Rattle.pld_parse.proofs.Expressions.{other_level}
use Rattle.pld_parse.proofs.expression.operator_first.Goals as goal

pub returns-else-found-level : goal.returns-else-found-level
returns-else-found-level c = other_level c.in-Some-operator_of.found c.args.level _ _ _ c.in-Some-operator_of.operator c.in-Some.ensures (c.in-Some-operator_of.ensures c.in-Some.field-0-1) c.if-found-level.false
