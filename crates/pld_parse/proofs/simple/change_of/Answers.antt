use Rattle.std.proofs.Common.{subst, sym}
use Rattle.pld_ast.specs.declared.tree.BinOp.TheVariants as binary
use Rattle.pld_grammar.specs.Symbols.{symbol_at}
use Rattle.pld_grammar.specs.Grammar.{by_Add, by_Sub, by_Mul, by_Div, by_Rem, by_And, by_Or, by_Xor, by_Shl, by_Shr}
use Rattle.pld_parse.specs.declared.simple.Change.TheVariants.{Set, Update, Count}
use Rattle.pld_parse.specs.Reading.{IsChange, set, update, up, down}
use Rattle.pld_parse.proofs.simple.change_of.Goals as goal

pub returns-in-Assign : goal.returns-in-Assign
returns-in-Assign c = λ at. subst (λ x. IsChange (symbol_at at x) Set) (sym c.in-Assign.is) set

pub returns-in-PlusAssign : goal.returns-in-PlusAssign
returns-in-PlusAssign c = λ at. subst (λ x. IsChange (symbol_at at x) (Update binary.Add)) (sym c.in-PlusAssign.is) (update by_Add)

pub returns-in-MinusAssign : goal.returns-in-MinusAssign
returns-in-MinusAssign c = λ at. subst (λ x. IsChange (symbol_at at x) (Update binary.Sub)) (sym c.in-MinusAssign.is) (update by_Sub)

pub returns-in-StarAssign : goal.returns-in-StarAssign
returns-in-StarAssign c = λ at. subst (λ x. IsChange (symbol_at at x) (Update binary.Mul)) (sym c.in-StarAssign.is) (update by_Mul)

pub returns-in-SlashAssign : goal.returns-in-SlashAssign
returns-in-SlashAssign c = λ at. subst (λ x. IsChange (symbol_at at x) (Update binary.Div)) (sym c.in-SlashAssign.is) (update by_Div)

pub returns-in-PercentAssign : goal.returns-in-PercentAssign
returns-in-PercentAssign c = λ at. subst (λ x. IsChange (symbol_at at x) (Update binary.Rem)) (sym c.in-PercentAssign.is) (update by_Rem)

pub returns-in-AndAssign : goal.returns-in-AndAssign
returns-in-AndAssign c = λ at. subst (λ x. IsChange (symbol_at at x) (Update binary.And)) (sym c.in-AndAssign.is) (update by_And)

pub returns-in-OrAssign : goal.returns-in-OrAssign
returns-in-OrAssign c = λ at. subst (λ x. IsChange (symbol_at at x) (Update binary.Or)) (sym c.in-OrAssign.is) (update by_Or)

pub returns-in-XorAssign : goal.returns-in-XorAssign
returns-in-XorAssign c = λ at. subst (λ x. IsChange (symbol_at at x) (Update binary.Xor)) (sym c.in-XorAssign.is) (update by_Xor)

pub returns-in-ShlAssign : goal.returns-in-ShlAssign
returns-in-ShlAssign c = λ at. subst (λ x. IsChange (symbol_at at x) (Update binary.Shl)) (sym c.in-ShlAssign.is) (update by_Shl)

pub returns-in-ShrAssign : goal.returns-in-ShrAssign
returns-in-ShrAssign c = λ at. subst (λ x. IsChange (symbol_at at x) (Update binary.Shr)) (sym c.in-ShrAssign.is) (update by_Shr)

pub returns-in-PlusPlus : goal.returns-in-PlusPlus
returns-in-PlusPlus c = λ at. subst (λ x. IsChange (symbol_at at x) (Count binary.Add)) (sym c.in-PlusPlus.is) up

pub returns-in-MinusMinus : goal.returns-in-MinusMinus
returns-in-MinusMinus c = λ at. subst (λ x. IsChange (symbol_at at x) (Count binary.Sub)) (sym c.in-MinusMinus.is) down
