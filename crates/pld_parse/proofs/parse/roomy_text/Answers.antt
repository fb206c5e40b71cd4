use Rattle.std.proofs.Common.{Some, None, subst}
use Rattle.pld_grammar.specs.Symbols.{symbols}
use Rattle.pld_parse.specs.declared.nesting.TheConstants.{MAX_DEPTH}
use Rattle.pld_grammar.specs.Machine.{start}
use Rattle.pld_grammar.specs.Fault.{Syntactic}
use Rattle.pld_parse.specs.Reading.{Failed, whole_text}
use Rattle.pld_parse.proofs.Nestings.{text_within, roomy_told}
use Rattle.pld_parse.proofs.parse.roomy_text.Goals as goal

pub fault_at-fault-requires : goal.fault_at-fault-requires
fault_at-fault-requires c = text_within c.args.tokens.now c.in-Err-At.left (subst (λ e. Failed whole_text (symbols c.args.tokens.now) e) c.in-Err-At.field-0-is c.in-Err-At.ensures start)

pub returns-in-Ok-clause-found : goal.returns-in-Ok-clause-found
returns-in-Ok-clause-found c = (c.in-Ok.ensures.0, roomy_told MAX_DEPTH c.args.tokens.now None c.requires c.in-Ok.ensures.1)

pub returns-in-Err-At-clause-fault : goal.returns-in-Err-At-clause-fault
returns-in-Err-At-clause-fault c = record {
  kind = Syntactic;
  left = c.in-Err-At.left;
  is = roomy_told MAX_DEPTH c.args.tokens.now (Some c.in-Err-At.left) c.requires (subst (λ e. Failed whole_text (symbols c.args.tokens.now) e) c.in-Err-At.field-0-is c.in-Err-At.ensures start);
  kind_is = c.fault_at-fault.ensures.kind;
  line_is = c.fault_at-fault.ensures.line;
  column_is = c.fault_at-fault.ensures.column;
}
