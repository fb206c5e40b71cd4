-- A design with the texts of its operators and the words of its inputs.
use Rattle.std.specs.Prelude.{◌≡◌, ◌≤◌, ℕ, List, [], ◌∷◌, length, map, if◌then◌else◌}
use Rattle.std.specs.Str.{bytes_eq}
use Rattle.std.specs.List.{All}
use Rattle.pld_source.specs.Reading.{reading, Reads}
use Rattle.pld_ast.specs.Resolve.{program_of}
use Rattle.pld_graph.specs.Design.{Design, fresh, inputs}
use Rattle.pld_graph.specs.declared.parts.OperatorEntry.{OperatorEntry}
use Rattle.pld_draft.specs.declared.parts.Source.{Source}
use Rattle.pld_draft.specs.declared.parts.Feed.{Feed}

pub record DraftState : Type 0 where
  pub design : Design
  -- of each operator, in the order of declaration
  pub sources : List Source
  -- of each input, in the order of declaration
  pub feeds : List Feed

-- a draft of a tree of this depth, without operators
abbrev pub at_first : ℕ → DraftState
at_first depth = record { design = fresh depth; sources = []; feeds = [] }

-- the words of an input; none where there is no such input
abbrev pub words_of : List ℕ → List Feed → List ℕ
words_of name [] = []
words_of name (f ∷ fs) = if bytes_eq f.name name then f.words else words_of name fs

-- the operator is the one that the text is read as
abbrev pub IsRead : Source → Type 0
IsRead s = reading s.text ≡ Reads s.operator

-- how many ports an operator has
pub record Ports : Type 0 where
  pub ins : ℕ
  pub outs : ℕ

abbrev pub entry_ports : OperatorEntry → Ports
entry_ports o = record { ins = o.ins; outs = o.outs }

abbrev pub source_ports : Source → Ports
source_ports s = record { ins = (program_of s.operator).ins; outs = (program_of s.operator).outs }

abbrev pub feed_name : Feed → List ℕ
feed_name f = f.name

-- each operator has its source, which is read from its text, and has its ports; each input has its feed, of at most
-- 65,536 words
pub record IsKept (d : DraftState) : Type 0 where
  pub ports : map entry_ports d.design.operators ≡ map source_ports d.sources
  pub read : All IsRead d.sources
  pub feeds : map feed_name d.feeds ≡ inputs d.design.channels
  pub few : All (λ f. length f.words ≤ 65536) d.feeds
