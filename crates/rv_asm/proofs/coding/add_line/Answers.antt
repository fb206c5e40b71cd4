use Rattle.std.proofs.Common.{sym, subst}
use Rattle.std.specs.Prelude.{All}
use Rattle.std.proofs.lemmas.List.Elements.{All-push}
use Rattle.image_form.specs.Spelling.{IsCode}
use Rattle.rv_asm.proofs.coding.add_line.Goals as goal

pub returns-in-Ok-push-clause-words : goal.returns-in-Ok-push-clause-words
returns-in-Ok-push-clause-words c =
    subst (λ xs. All IsCode xs) (sym c.in-Ok-push.ensures.items) (All-push IsCode c.args.code.now.items c.word_of.result c.requires.words c.word_of.ensures.code)
