-- Edits of the words of inputs.
use Rattle.std.specs.Prelude.{Bool, true, false}
use Rattle.pld_script.specs.declared.statement.Edit.{Edit}
use Rattle.pld_script.specs.declared.statement.Edit.TheVariants.{Feed, Clear}

-- whether an edit is one of an input's words, and not of the design
abbrev pub is_of_words : Edit → Bool
is_of_words (Feed name words) = true
is_of_words (Clear name) = true
is_of_words edit = false
