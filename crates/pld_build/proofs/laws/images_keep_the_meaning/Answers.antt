use Rattle.pld_base.specs.Process.{WritesWords}
use Rattle.pld_kahn.specs.Realises.{Realises}
use Rattle.pld_ast.specs.Resolve.{program_of}
use Rattle.pld_build.specs.Images.{meaning_of}
use Rattle.pld_build.proofs.Meanings.{of_image}
use Rattle.pld_build.proofs.laws.images_keep_the_meaning.Goals as goal

pub returns-clause-realises : goal.returns-clause-realises
returns-clause-realises c = λ s sound. of_image (λ p. Realises p (meaning_of s)) s
    (c.words_keep_the_meaning.ensures.realises (program_of s.operator) sound) (c.tables_keep_the_meaning.ensures.realises (program_of s.operator) sound)

pub returns-clause-writes_words : goal.returns-clause-writes_words
returns-clause-writes_words c = λ s sound. of_image WritesWords s
    (c.words_keep_the_meaning.ensures.writes_words (program_of s.operator) sound) (c.tables_keep_the_meaning.ensures.writes_words (program_of s.operator) sound)
