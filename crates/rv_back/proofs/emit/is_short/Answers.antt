use Rattle.rv_back.proofs.Parts.{short_element, short_unary, short_binary, short_cast}
use Rattle.rv_back.proofs.emit.is_short.Goals as goal

pub returns-in-Element : goal.returns-in-Element
returns-in-Element c = λ d. short_element d c.args.e.now c.in-Element.field-0 c.in-Element.field-1 c.in-Element.is

pub returns-in-Unary : goal.returns-in-Unary
returns-in-Unary c = λ d. short_unary d c.args.e.now c.in-Unary.field-0 c.in-Unary.field-1 c.in-Unary.is

pub returns-in-Binary : goal.returns-in-Binary
returns-in-Binary c = λ d. short_binary d c.args.e.now c.in-Binary.field-0 c.in-Binary.field-1 c.in-Binary.field-2 c.in-Binary.is

pub returns-in-Cast : goal.returns-in-Cast
returns-in-Cast c = λ d. short_cast d c.args.e.now c.in-Cast.field-0 c.in-Cast.field-1 c.in-Cast.is
