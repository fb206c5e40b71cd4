use Rattle.std.proofs.Common.{ap, ◌∙◌, true, false}
use Rattle.pld_script.specs.Grammar.{kind_of_words}
use Rattle.pld_script.proofs.Wording.{kind_comment, kind_word}
use Rattle.pld_script.proofs.line.kind_of.Goals as goal

pub returns-then-is_comment : goal.returns-then-is_comment
returns-then-is_comment c = kind_comment c.without_blanks-rest.result.now c.without_blanks-rest.ensures.begins (cc) ∙ ap kind_of_words c.without_blanks-rest.ensures.words

pub returns-then-opens_text : goal.returns-then-opens_text
returns-then-opens_text c =
    kind_word c.without_blanks-rest.result.now c.in-Some.first.now _ true c.without_blanks-rest.ensures.begins (cc) c.in-Some.ensures.words (cc) ∙ ap kind_of_words c.without_blanks-rest.ensures.words

pub returns-else-opens_text : goal.returns-else-opens_text
returns-else-opens_text c =
    kind_word c.without_blanks-rest.result.now c.in-Some.first.now _ false c.without_blanks-rest.ensures.begins (cc) c.in-Some.ensures.words (cc) ∙ ap kind_of_words c.without_blanks-rest.ensures.words
