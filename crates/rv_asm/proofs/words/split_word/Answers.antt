use Rattle.std.proofs.Common.{◌≡◌, ap, sym, ◌∙◌}
use Rattle.std.specs.Prelude.{slice_get, Some}
use Rattle.std.proofs.lemmas.Bool.{ne_eqb}
use Rattle.std.specs.Option.{option_copied}
use Rattle.rv_asm.proofs.Wording.{split_at_word, apart_false}
use Rattle.rv_asm.proofs.words.split_word.Goals as goal

pub returns : goal.returns
returns c =
    let rest = c.without_blanks-rest.result.now in
    let b = c.in-Some.first.now in
    let e : slice_get rest 0 ≡ Some b = sym c.first.ensures.value ∙ ap option_copied c.in-Some.is in
    rw (c.split_at-2.ensures.front, c.split_at-2.ensures.back)
    (sym c.without_blanks-rest.ensures.words
    ∙ split_at_word rest b c.word_length.result e (apart_false b (c.without_blanks-rest.ensures.begins b e) (ne_eqb b 44 c.if-first-eq44.false) (ne_eqb b 35 c.if-first-eq35.false)) c.word_length.ensures.value)
