-- Edits of a draft: what each makes of it, and when it is refused.
use Rattle.std.specs.Prelude.{◌≡◌, ℕ, ◌+◌, nat_le, Bool, List, [], ◌∷◌, ◌++◌, length, filter, remove, slice_set, slice_index_or, Option, Some, None, Result, Ok, Err, if◌then◌else◌}
use Rattle.std.specs.Str.{bytes_eq}
use Rattle.pld_base.specs.declared.event.End.{End}
use Rattle.pld_base.specs.declared.event.Kind.{Kind}
use Rattle.pld_ast.specs.declared.tree.Operator.{Operator}
use Rattle.pld_ast.specs.Resolve.{program_of}
use Rattle.pld_graph.specs.declared.parts.Cut.{Cut}
use Rattle.pld_graph.specs.declared.parts.GraphFault.{GraphFault}
use Rattle.pld_graph.specs.declared.parts.GraphFault.TheVariants.{UnknownOperator, NotLinked}
use Rattle.pld_graph.specs.Design.{Design, place_of, is_input}
use Rattle.pld_graph.specs.Edits.{add_refusal, with_operator, replaced, removed, connected, with_input, with_output, disconnected, pinned, unpinned, repaged, patterned, windowed}
use Rattle.pld_source.specs.Reading.{Reading, Faulty, Reads, reading}
use Rattle.pld_draft.specs.declared.parts.Source.{Source}
use Rattle.pld_draft.specs.declared.parts.Feed.{Feed}
use Rattle.pld_draft.specs.declared.parts.EditRefusal.{EditRefusal}
use Rattle.pld_draft.specs.declared.parts.EditRefusal.TheVariants as refusal
use Rattle.pld_draft.specs.declared.parts.EditFault.{EditFault}
use Rattle.pld_draft.specs.declared.parts.EditFault.TheVariants.{Refused, NoMemory}
use Rattle.pld_script.specs.declared.statement.Edit.{Edit}
use Rattle.pld_script.specs.declared.statement.Edit.TheVariants as says
use Rattle.pld_draft.specs.Draft.{DraftState, words_of}

abbrev pub Edited : Type 0
Edited = Result DraftState EditRefusal

-- the draft with the edited design, unless the edit is refused
abbrev pub by_design : Result Design GraphFault → (Design → DraftState) → Edited
by_design (Ok design) with = Ok (with design)
by_design (Err f) with = Err (refusal.Graph f)

abbrev pub with_design : DraftState → Design → DraftState
with_design d design = record d { design = design }

abbrev pub source : Kind → List ℕ → Operator → Source
source kind text operator = record { kind = kind; text = text; operator = operator }

-- ---- op: the name is free and there is room for an operator; the text is an operator's

abbrev pub declared : List ℕ → Source → DraftState → DraftState
declared name s d = record {
  design = with_operator (record { name = name; ins = (program_of s.operator).ins; outs = (program_of s.operator).outs; pin = None }) d.design;
  sources = d.sources ++ s ∷ [];
  feeds = d.feeds;
}

abbrev pub op_read : List ℕ → Kind → List ℕ → DraftState → Reading → Edited
op_read name kind text d (Faulty f) = Err (refusal.Source f)
op_read name kind text d (Reads operator) = Ok (declared name (source kind text operator) d)

abbrev pub op_unless : Option GraphFault → List ℕ → Kind → List ℕ → DraftState → Edited
op_unless (Some f) name kind text d = Err (refusal.Graph f)
op_unless None name kind text d = op_read name kind text d (reading text)

abbrev pub op : List ℕ → Kind → List ℕ → DraftState → Edited
op name kind text d = op_unless (add_refusal name d.design) name kind text d

-- ---- replace: the operator is there; the text is an operator's; no channel stands at a port that it lacks

abbrev pub with_source : ℕ → Source → DraftState → Design → DraftState
with_source k s d design = record d { design = design; sources = slice_set d.sources k s }

abbrev pub replace_read : ℕ → List ℕ → Kind → List ℕ → DraftState → Reading → Edited
replace_read k name kind text d (Faulty f) = Err (refusal.Source f)
replace_read k name kind text d (Reads operator) =
    by_design (replaced name (program_of operator).ins (program_of operator).outs d.design) (with_source k (source kind text operator) d)

abbrev pub replace_at : Option ℕ → List ℕ → Kind → List ℕ → DraftState → Edited
replace_at None name kind text d = Err (refusal.Graph UnknownOperator)
replace_at (Some k) name kind text d = replace_read k name kind text d (reading text)

abbrev pub replace : List ℕ → Kind → List ℕ → DraftState → Edited
replace name kind text d = replace_at (place_of name d.design) name kind text d

-- ---- remove, connect, disconnect, input, output, pin, unpin, pages, levels, window: as in the design

-- the feeds of the inputs that the design has
abbrev pub standing : Design → List Feed → List Feed
standing design feeds = filter (λ f. is_input f.name design.channels) feeds

abbrev pub remove_at : List ℕ → DraftState → Option ℕ → Edited
remove_at name d None = Err (refusal.Graph UnknownOperator)
remove_at name d (Some k) = by_design (removed name d.design) (λ design. record { design = design; sources = remove d.sources k; feeds = standing design d.feeds })

abbrev pub remove_operator : List ℕ → DraftState → Edited
remove_operator name d = remove_at name d (place_of name d.design)

abbrev pub connect : End → End → DraftState → Edited
connect from to d = by_design (connected from to d.design) (with_design d)

-- the input's channel goes with its words
abbrev pub disconnect : Cut → DraftState → Edited
disconnect what d = by_design (disconnected what d.design) (λ design. record d { design = design; feeds = standing design d.feeds })

-- an input has no words yet
abbrev pub input : List ℕ → End → DraftState → Edited
input name to d = by_design (with_input name to d.design) (λ design. record d { design = design; feeds = d.feeds ++ (record { name = name; words = [] }) ∷ [] })

abbrev pub output : End → List ℕ → DraftState → Edited
output from name d = by_design (with_output from name d.design) (with_design d)

abbrev pub pin : List ℕ → ℕ → DraftState → Edited
pin name leaf d = by_design (pinned name leaf d.design) (with_design d)

abbrev pub unpin : List ℕ → DraftState → Edited
unpin name d = by_design (unpinned name d.design) (with_design d)

abbrev pub pages : ℕ → DraftState → Edited
pages depth d = by_design (repaged depth d.design) (with_design d)

abbrev pub levels : List Bool → DraftState → Edited
levels two d = by_design (patterned two d.design) (with_design d)

-- never refused
abbrev pub window : ℕ → DraftState → Edited
window size d = by_design (Ok (windowed size d.design)) (with_design d)

-- ---- feed and clear: the input is there

-- the place of an input's feed
abbrev pub place_from : ℕ → List ℕ → List Feed → Option ℕ
place_from n name [] = None
place_from n name (f ∷ fs) = if bytes_eq f.name name then Some n else place_from (n + 1) name fs

abbrev pub no_feed : Feed
no_feed = record { name = []; words = [] }

abbrev pub feed_at : List Feed → ℕ → Feed
feed_at feeds k = slice_index_or feeds k no_feed

abbrev pub with_words_at : Option ℕ → (List ℕ → List ℕ) → List Feed → List Feed
with_words_at None change feeds = feeds
with_words_at (Some k) change feeds = slice_set feeds k (record (feed_at feeds k) { words = change (feed_at feeds k).words })

-- the feeds, with that of one input changed
abbrev pub with_words : List ℕ → (List ℕ → List ℕ) → List Feed → List Feed
with_words name change feeds = with_words_at (place_from 0 name feeds) change feeds

abbrev pub if_input : List ℕ → DraftState → Edited → Edited
if_input name d fed = if is_input name d.design.channels then fed else Err (refusal.Graph NotLinked)

-- words behind those that the input has, 65,536 at most
abbrev pub feed : List ℕ → List ℕ → DraftState → Edited
feed name words d = if_input name d (
    if nat_le (length (words_of name d.feeds) + length words) 65536
    then Ok (record d { feeds = with_words name (λ old. old ++ words) d.feeds })
    else Err refusal.TooManyWords)

abbrev pub clear : List ℕ → DraftState → Edited
clear name d = if_input name d (Ok (record d { feeds = with_words name (λ old. []) d.feeds }))

-- ---- any edit

abbrev pub edited : Edit → DraftState → Edited
edited (says.Op name kind text) d = op name kind text d
edited (says.Replace name kind text) d = replace name kind text d
edited (says.Remove name) d = remove_operator name d
edited (says.Connect from to) d = connect from to d
edited (says.Disconnect what) d = disconnect what d
edited (says.Input name to) d = input name to d
edited (says.Output from name) d = output from name d
edited (says.Pin name leaf) d = pin name leaf d
edited (says.Unpin name) d = unpin name d
edited (says.Pages depth) d = pages depth d
edited (says.Levels two) d = levels two d
edited (says.Window size) d = window size d
edited (says.Feed name words) d = feed name words d
edited (says.Clear name) d = clear name d

-- the answer of an edit: Ok exactly where it isn't refused; a refused edit, and one for which memory is wanting, leaves the draft as it was
abbrev pub Tries : {X : Type 0} → Result X EditFault → Edited → DraftState → DraftState → Type 0
Tries (Ok _) edited old new = edited ≡ Ok new
Tries (Err (Refused why)) edited old new = (edited ≡ Err why) × (new ≡ old)
Tries (Err NoMemory) edited old new = new ≡ old
