use Rattle.std.proofs.Common.{refl}
use Rattle.std.proofs.lemmas.Result.{MatchResult-weaker}
use Rattle.pld_grammar.specs.Symbols.{symbols}
use Rattle.pld_parse.proofs.Operators.{declared_scalar, scalar_wrong, declared_array, array_wrong}
use Rattle.pld_parse.proofs.operator.declaration.Goals as goal

pub returns-in-None : goal.returns-in-None
returns-in-None c = MatchResult-weaker c.scalar.result c.scalar.ensures
    (λ rest v. declared_scalar c.args.ty c.in-Some.name c.args.made.now _ (symbols c.args.tokens.now) (symbols c.in-Some.rest.now) (symbols rest.now) c.in-Some.ensures v)
    (λ e f. scalar_wrong c.in-Some.name (symbols c.args.tokens.now) (symbols c.in-Some.rest.now) e c.in-Some.ensures f)

pub returns-in-Some-behind : goal.returns-in-Some-behind
returns-in-Some-behind c = MatchResult-weaker c.array.result c.array.ensures
    (λ rest v. declared_array c.args.ty c.in-Some.name c.args.made.now _ (symbols c.args.tokens.now) (symbols c.in-Some.rest.now) (symbols c.in-Some-behind.length.now) (symbols rest.now) c.in-Some.ensures c.in-Some-behind.ensures v refl refl)
    (λ e f. array_wrong c.in-Some.name (symbols c.args.tokens.now) (symbols c.in-Some.rest.now) (symbols c.in-Some-behind.length.now) e c.in-Some.ensures c.in-Some-behind.ensures f)
