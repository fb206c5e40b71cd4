use Rattle.std.proofs.Common.{subst, sym}
use Rattle.pld_ast.specs.declared.tree.BinOp.TheVariants as binary
use Rattle.pld_grammar.specs.Symbols.{symbol_at}
use Rattle.pld_grammar.specs.Grammar.{IsOperator, is_OrElse, is_AndAlso, is_Or, is_Xor, is_And, is_Eq, is_Ne, is_Lt, is_Le, is_Gt, is_Ge, is_Shl, is_Shr, is_Add, is_Sub, is_Mul, is_Div, is_Rem}
use Rattle.pld_parse.proofs.expression.operator_of.Goals as goal

pub returns-in-OrOr : goal.returns-in-OrOr
returns-in-OrOr c = λ at. subst (λ x. IsOperator 9 (symbol_at at x) binary.OrElse) (sym c.in-OrOr.is) is_OrElse

pub returns-in-AndAnd : goal.returns-in-AndAnd
returns-in-AndAnd c = λ at. subst (λ x. IsOperator 8 (symbol_at at x) binary.AndAlso) (sym c.in-AndAnd.is) is_AndAlso

pub returns-in-Bar : goal.returns-in-Bar
returns-in-Bar c = λ at. subst (λ x. IsOperator 7 (symbol_at at x) binary.Or) (sym c.in-Bar.is) is_Or

pub returns-in-Hat : goal.returns-in-Hat
returns-in-Hat c = λ at. subst (λ x. IsOperator 6 (symbol_at at x) binary.Xor) (sym c.in-Hat.is) is_Xor

pub returns-in-Ampersand : goal.returns-in-Ampersand
returns-in-Ampersand c = λ at. subst (λ x. IsOperator 5 (symbol_at at x) binary.And) (sym c.in-Ampersand.is) is_And

pub returns-in-EqualEqual : goal.returns-in-EqualEqual
returns-in-EqualEqual c = λ at. subst (λ x. IsOperator 4 (symbol_at at x) binary.Eq) (sym c.in-EqualEqual.is) is_Eq

pub returns-in-NotEqual : goal.returns-in-NotEqual
returns-in-NotEqual c = λ at. subst (λ x. IsOperator 4 (symbol_at at x) binary.Ne) (sym c.in-NotEqual.is) is_Ne

pub returns-in-Less : goal.returns-in-Less
returns-in-Less c = λ at. subst (λ x. IsOperator 3 (symbol_at at x) binary.Lt) (sym c.in-Less.is) is_Lt

pub returns-in-LessEqual : goal.returns-in-LessEqual
returns-in-LessEqual c = λ at. subst (λ x. IsOperator 3 (symbol_at at x) binary.Le) (sym c.in-LessEqual.is) is_Le

pub returns-in-Greater : goal.returns-in-Greater
returns-in-Greater c = λ at. subst (λ x. IsOperator 3 (symbol_at at x) binary.Gt) (sym c.in-Greater.is) is_Gt

pub returns-in-GreaterEqual : goal.returns-in-GreaterEqual
returns-in-GreaterEqual c = λ at. subst (λ x. IsOperator 3 (symbol_at at x) binary.Ge) (sym c.in-GreaterEqual.is) is_Ge

pub returns-in-ShiftLeft : goal.returns-in-ShiftLeft
returns-in-ShiftLeft c = λ at. subst (λ x. IsOperator 2 (symbol_at at x) binary.Shl) (sym c.in-ShiftLeft.is) is_Shl

pub returns-in-ShiftRight : goal.returns-in-ShiftRight
returns-in-ShiftRight c = λ at. subst (λ x. IsOperator 2 (symbol_at at x) binary.Shr) (sym c.in-ShiftRight.is) is_Shr

pub returns-in-Plus : goal.returns-in-Plus
returns-in-Plus c = λ at. subst (λ x. IsOperator 1 (symbol_at at x) binary.Add) (sym c.in-Plus.is) is_Add

pub returns-in-Minus : goal.returns-in-Minus
returns-in-Minus c = λ at. subst (λ x. IsOperator 1 (symbol_at at x) binary.Sub) (sym c.in-Minus.is) is_Sub

pub returns-in-Star : goal.returns-in-Star
returns-in-Star c = λ at. subst (λ x. IsOperator 0 (symbol_at at x) binary.Mul) (sym c.in-Star.is) is_Mul

pub returns-in-Slash : goal.returns-in-Slash
returns-in-Slash c = λ at. subst (λ x. IsOperator 0 (symbol_at at x) binary.Div) (sym c.in-Slash.is) is_Div

pub returns-in-Percent : goal.returns-in-Percent
returns-in-Percent c = λ at. subst (λ x. IsOperator 0 (symbol_at at x) binary.Rem) (sym c.in-Percent.is) is_Rem
