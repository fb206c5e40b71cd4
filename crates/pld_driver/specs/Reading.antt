-- How a text is taken, piece by piece.
use Rattle.std.specs.Prelude.{◌≡◌, ◌+◌, ◌<◌, ◌≤◌, ℕ, List, [], ◌++◌, length, true, false}
use Rattle.std.specs.Io.KnownBytes.{IsAtEnd}
use Rattle.pld_io.specs.Outside.{SourceState, Gives, GivesUntilFault}
use Rattle.pld_driver.specs.declared.session.Piece.{Piece}
use Rattle.pld_driver.specs.declared.session.Piece.TheVariants as piece

-- how many bytes a session's text may have
unfoldable pub limit : ℕ
limit = 16777216

-- A source is at its end: its last take said so. Where it tells what remains, that is nothing.
pub record IsEnded (source : SourceState) : Type 0 where
  pub said : source.ended ≡ true
  pub remaining : IsAtEnd source.remaining

-- how one piece is taken
abbrev pub Takes : SourceState → SourceState → ℕ → List ℕ → List ℕ → Piece → Type 0
Takes before after most old new piece.Some =
    (bytes : List ℕ) × (new ≡ old ++ bytes) × (0 < length bytes) × (length new ≤ most + 1) × Gives before after bytes × (after.ended ≡ false)
Takes before after most old new piece.End = (new ≡ old) × Gives before after [] × IsEnded after
Takes before after most old new piece.Fault = (new ≡ old) × GivesUntilFault before after [] × (after.ended ≡ false)
Takes before after most old new piece.NoMemory = (new ≡ old) × Gives before after []
