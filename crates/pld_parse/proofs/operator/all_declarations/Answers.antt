use Rattle.std.proofs.lemmas.Result.{err_from_is_err_and}
use Rattle.pld_grammar.specs.Symbols.{symbols}
use Rattle.pld_parse.proofs.Operators.{none_declared, declaration_wrong, one_declared, all_declared}
use Rattle.pld_parse.proofs.operator.all_declarations.Goals as goal

pub loop-ty-init : goal.loop-ty-init
loop-ty-init c = none_declared (symbols c.args.tokens.now) _ c.new.ensures c.new-2.ensures c.new-3.ensures

pub returns-in_err-rest : goal.returns-in_err-rest
returns-in_err-rest c =
    let p = err_from_is_err_and c.from_residual.result c.from_residual.ensures.1 in
    rw (p.1, p.2) (declaration_wrong c.in-Some.ty (symbols c.args.tokens.now) (symbols c.loop-ty.rest.now) (symbols c.in-Some.more.now) c.loop-ty.made c.in_err-rest.field-0.0 c.loop-ty.invariant c.in-Some.ensures c.in_err-rest.ensures)

pub loop-ty-preserved : goal.loop-ty-preserved
loop-ty-preserved c = one_declared c.in-Some.ty (symbols c.args.tokens.now) (symbols c.loop-ty.rest.now) (symbols c.in-Some.more.now) (symbols c.in_ok-rest.rest.now) c.loop-ty.made c.declaration.new.made c.loop-ty.invariant c.in-Some.ensures c.in_ok-rest.ensures

pub returns : goal.returns
returns c = all_declared (symbols c.args.tokens.now) (symbols c.loop-ty.rest.now) c.loop-ty.made c.loop-ty.invariant c.in_default.ensures
