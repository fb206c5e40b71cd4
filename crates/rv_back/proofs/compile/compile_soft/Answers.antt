use Rattle.std.proofs.Common.{◌≡◌, sym, ◌∙◌, subst}
use Rattle.pld_base.specs.Process.{WritesWords}
use Rattle.pld_kahn.specs.Realises.{Realises}
use Rattle.pld_ast.specs.Meaning.{trace}
use Rattle.pld_ast.specs.Resolve.{program_of}
use Rattle.image_form.specs.Spelling.{form_in, IsForm}
use Rattle.pld_image.specs.Processes.{process_of}
use Rattle.pld_image.specs.Traps.{NeverTraps}
use Rattle.rv_back.specs.Form.{soft_form, IsShort}
use Rattle.rv_back.proofs.Whole.{whole_form}
use Rattle.rv_back.proofs.Worded.{words_short}
use Rattle.rv_back.proofs.compile.compile_soft.Goals as goal

form_is : (c : goal.After-image_of) → form_in c.image_of.result ≡ soft_form c.args.checked.now
form_is c = c.image_of.ensures ∙ whole_form c.args.checked.now c.operator.result.now _ _ _ c.operator.ensures.value c.in_ok-instructions.ensures c.as_slice.ensures.value c.in_ok-words.ensures

pub of-requires : goal.of-requires
of-requires c = subst IsForm (sym (form_is c)) (c.words_keep_the_meaning.ensures.in_range (program_of c.args.checked.now) c.operator.ensures.sound)

pub returns-clause-form : goal.returns-clause-form
returns-clause-form c = c.of.ensures ∙ form_is c.before.before

pub returns-clause-short : goal.returns-clause-short
returns-clause-short c = subst IsShort (sym (returns-clause-form c)) (words_short (program_of c.args.checked.now) c.operator.ensures.sound)

pub returns-clause-realises : goal.returns-clause-realises
returns-clause-realises c = subst (λ i. Realises (process_of i) (trace (program_of c.args.checked.now))) (sym (returns-clause-form c)) (c.words_keep_the_meaning.ensures.realises (program_of c.args.checked.now) c.operator.ensures.sound)

pub returns-clause-never_traps : goal.returns-clause-never_traps
returns-clause-never_traps c = subst NeverTraps (sym (returns-clause-form c)) (c.words_keep_the_meaning.ensures.never_traps (program_of c.args.checked.now) c.operator.ensures.sound)

pub returns-clause-writes_words : goal.returns-clause-writes_words
returns-clause-writes_words c = subst (λ i. WritesWords (process_of i)) (sym (returns-clause-form c)) (c.words_keep_the_meaning.ensures.writes_words (program_of c.args.checked.now) c.operator.ensures.sound)
