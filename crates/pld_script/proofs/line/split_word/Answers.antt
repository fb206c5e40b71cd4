use Rattle.std.proofs.Common.{◌<◌, length, sym, ◌∙◌, arith}
use Rattle.std.proofs.lemmas.Bool.Decides.{nat_tests}
use Rattle.pld_script.proofs.Wording.{words-first}
use Rattle.pld_script.proofs.line.split_word.Goals as goal

pub returns-clause-words : goal.returns-clause-words
returns-clause-words c =
    let some : 0 < length c.without_blanks-rest.result.now = grind (arith, nat_tests) in
    rw (c.split_at.ensures.front, c.split_at.ensures.back)
    (sym c.without_blanks-rest.ensures.words
    ∙ words-first c.without_blanks-rest.result.now c.word_len.result some (c.without_blanks-rest.ensures.begins some) c.word_len.ensures.within c.word_len.ensures.before c.word_len.ensures.found)
