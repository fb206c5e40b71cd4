use Rattle.pld_lex.proofs.Reading.{text_reads}
use Rattle.pld_lex.proofs.laws.texts_read_as_their_tokens.Goals as goal

pub returns : goal.returns
returns c = text_reads
