use Rattle.pld_lex.proofs.Spans.{some_of, within_of}
use Rattle.pld_lex.proofs.piece.first_piece.Goals as goal

pub returns-clause-some : goal.returns-clause-some
returns-clause-some c = some_of c.args.text.now c.piece_at.result c.piece_at.ensures c.requires

pub returns-clause-within : goal.returns-clause-within
returns-clause-within c = within_of c.args.text.now c.piece_at.result c.piece_at.ensures c.requires
