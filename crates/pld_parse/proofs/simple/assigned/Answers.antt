use Rattle.std.proofs.lemmas.Result.{MatchResult-weaker}
use Rattle.pld_grammar.specs.Symbols.{symbols}
use Rattle.pld_parse.proofs.Simples.{assigned_change, assigned_wrong, read_from, read_wrong}
use Rattle.pld_parse.proofs.simple.assigned.Goals as goal

pub returns-in-None : goal.returns-in-None
returns-in-None c = MatchResult-weaker c.changed.result c.changed.ensures
    (λ x p. assigned_change c.args.target (symbols c.args.tokens.now) (symbols x.1.now) x.0 c.in-None.ensures p)
    (λ e f. assigned_wrong (symbols c.args.tokens.now) e c.in-None.ensures f)

pub returns-in-Some : goal.returns-in-Some
returns-in-Some c = MatchResult-weaker c.read_statement.result c.read_statement.ensures
    (λ x p. read_from c.args.target (symbols c.args.tokens.now) (symbols c.in-Some.read.now) (symbols x.1.now) x.0 c.in-Some.ensures p)
    (λ e f. read_wrong (symbols c.args.tokens.now) (symbols c.in-Some.read.now) e c.in-Some.ensures f)
