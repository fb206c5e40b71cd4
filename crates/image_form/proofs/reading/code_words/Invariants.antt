use Rattle.std.proofs.Common.{◌≡◌, ◌-◌, []}
use Rattle.image_form.specs.Reading.{many, code_at}
use Rattle.image_form.proofs.reading.code_words.Given as goal

abbrev pub invariant-loop : goal.invariant-loop
invariant-loop l = many (λ before. code_at) (l.count - l.counter) l.words.items l.rest ≡ many (λ before. code_at) l.count [] l.bytes
