-- What is said to a statement, and what the session holds then.
use Rattle.std.specs.Prelude.{ℕ, ◌+◌, ◌==◌, Bool, true, false, ◌&&◌, nat_le, nat_lt, List, [], ◌∷◌, length, Option, Some, None, Ok, Err, if◌then◌else◌, slice_index_or}
use Rattle.pld_base.specs.declared.event.End.{End}
use Rattle.image_form.specs.Spelling.{Form, Soft, bytes_of}
use Rattle.pld_graph.specs.declared.parts.OperatorEntry.{OperatorEntry}
use Rattle.net_switch.specs.declared.packet.Row.{Row}
use Rattle.pld_graph.specs.declared.parts.GraphFault.TheVariants.{UnknownOperator}
use Rattle.pld_graph.specs.Design.{place_of, open_port}
use Rattle.pld_place.specs.Placing.{pages}
use Rattle.pld_draft.specs.declared.parts.Source.{Source}
use Rattle.pld_draft.specs.declared.parts.EditRefusal.{EditRefusal}
use Rattle.pld_draft.specs.declared.parts.EditRefusal.TheVariants as why
use Rattle.pld_draft.specs.Draft.{DraftState}
use Rattle.pld_draft.specs.Edits.{Edited, edited}
use Rattle.pld_build.specs.Images.{compiles}
use Rattle.pld_reply.specs.declared.refusals.Refusal.{Refusal}
use Rattle.pld_reply.specs.declared.refusals.Refusal.TheVariants as refusal
use Rattle.pld_reply.specs.Refusals.{refused_reply}
use Rattle.pld_reply.specs.Replies.{ok_reply, built_reply, image_reply, stats_reply}
use Rattle.pld_reply.specs.declared.tables.PlacedPage.{PlacedPage}
use Rattle.pld_reply.specs.Tables.{tables_reply}
use Rattle.fabric_core.specs.declared.counts.Counts.{Counts}
use Rattle.fabric_core.specs.declared.fabric.Record.{Record}
use Rattle.fabric_run.specs.Trees.{tree_setup}
use Rattle.fabric_plan.specs.Standing.{standing_rows}
use Rattle.pld_script.specs.declared.statement.Statement.{Statement}
use Rattle.pld_script.specs.declared.statement.Statement.TheVariants as says
use Rattle.pld_script.specs.declared.statement.Edit.{Edit}
use Rattle.pld_script.specs.Edits.{is_of_words}
use Rattle.pld_script.specs.Statements.{Placed}
use Rattle.pld_driver.specs.Walk.{Answered, Step, Says, Runs}
use Rattle.pld_session.specs.States.{State, images, leaves, tables, with_pairs}
use Rattle.pld_session.specs.Runs.{ran_reply, end_of, counts_of}

-- the statement is refused, and nothing changes
abbrev pub refuses : State → ℕ → Refusal → Answered State
refuses st number why = record { reply = refused_reply number why; refused = true; permits = 0; next = st }

-- the statement is accepted, and this is held then
abbrev pub accepts : State → Answered State
accepts st = record { reply = ok_reply; refused = false; permits = 0; next = st }

-- ---- edits

-- why an edit is refused
abbrev pub refusal_of : EditRefusal → Refusal
refusal_of (why.Graph f) = refusal.Graph f
refusal_of (why.Source f) = refusal.Source f
refusal_of why.TooManyWords = refusal.TooManyWords

-- no rows stand in a tree of another depth
abbrev pub rows_behind : State → DraftState → List (Option Row)
rows_behind st draft = if draft.design.depth == st.draft.design.depth then st.standing else []

-- an edit is accepted even where it changes nothing
abbrev pub edits_to : State → ℕ → Bool → Edited → Answered State
edits_to st number built (Ok draft) = accepts (record st { draft = draft; built = built; standing = rows_behind st draft })
edits_to st number built (Err f) = refuses st number (refusal_of f)

-- a build is wanted behind an edit of the design, and not behind one of an input's words
abbrev pub edits : State → ℕ → Edit → Answered State
edits st number edit = edits_to st number (is_of_words edit && st.built) (edited edit st.draft)

-- ---- build: there is an operator, every port is in a channel, and there are pages enough

abbrev pub builds_closed : State → ℕ → Answered State
builds_closed st number =
    if nat_lt (pages st.draft.design) (length st.draft.sources)
    then refuses st number (refusal.TooFewPages (length st.draft.sources) (pages st.draft.design))
    else record {
      reply = built_reply (length st.draft.sources) (compiles st.compiled st.draft.sources);
      refused = false;
      permits = compiles st.compiled st.draft.sources;
      next = record st { built = true; compiled = with_pairs st.compiled st.draft };
    }

abbrev pub builds_if : State → ℕ → Option End → Answered State
builds_if st number (Some end) = refuses st number (refusal.OpenPort (record { end = end }))
builds_if st number None = builds_closed st number

abbrev pub builds : State → ℕ → Answered State
builds st number = if nat_le (length st.draft.sources) 0 then refuses st number refusal.Empty else builds_if st number (open_port st.draft.design)

-- ---- dump image: there is a build, and the operator is there

-- stands for an image that isn't there
abbrev pub no_image : Form
no_image = Soft 0 0 []

abbrev pub dumps_at : State → ℕ → List ℕ → Option ℕ → Answered State
dumps_at st number name None = refuses st number (refusal.Graph UnknownOperator)
dumps_at st number name (Some k) =
    record { reply = image_reply name (bytes_of (slice_index_or (images st.draft) k no_image)); refused = false; permits = 0; next = st }

abbrev pub dumps : State → ℕ → List ℕ → Answered State
dumps st number name = if st.built then dumps_at st number name (place_of name st.draft.design) else refuses st number refusal.NotBuilt

-- ---- dump tables: there is a build

-- each operator with its leaf and its kind
abbrev pub pages_from : List ℕ → List OperatorEntry → List Source → List PlacedPage
pages_from [] operators sources = []
pages_from (leaf ∷ leaves) [] sources = []
pages_from (leaf ∷ leaves) (o ∷ operators) [] = []
pages_from (leaf ∷ leaves) (o ∷ operators) (s ∷ sources) = record { leaf = record { 0 = leaf }; name = o.name; kind = s.kind } ∷ pages_from leaves operators sources

abbrev pub placed_pages : DraftState → List PlacedPage
placed_pages d = pages_from (leaves d) d.design.operators d.sources

abbrev pub dumps_tables : State → ℕ → Answered State
dumps_tables st number =
    if st.built
    then record { reply = tables_reply (placed_pages st.draft) (tables st.draft); refused = false; permits = 0; next = st }
    else refuses st number refusal.NotBuilt

-- ---- stats: a run was made

abbrev pub tells_counts : State → ℕ → Option Counts → Answered State
tells_counts st number None = refuses st number refusal.NotRun
tells_counts st number (Some counts) = record { reply = stats_reply counts; refused = false; permits = 0; next = st }

abbrev pub stats : State → ℕ → Answered State
stats st number = tells_counts st number st.counted

-- ---- run: there is a build, and fewer than 64 runs were made

abbrev pub most_runs : ℕ
most_runs = 64

-- the rows that the leaves hold at the run's end stand for the next run
abbrev pub after_run : State → Record → State
after_run st run = record st {
  standing = standing_rows (tree_setup run.plan) (end_of run);
  runs = st.runs + 1;
  counted = Some (counts_of run);
}

abbrev pub ran : State → Record → Answered State
ran st run = record { reply = ran_reply st.draft run; refused = false; permits = 0; next = after_run st run }

abbrev pub runs_built : State → ℕ → Step State Record
runs_built st number = if nat_lt st.runs most_runs then Runs (ran st) else Says (refuses st number refusal.TooManyRuns)

abbrev pub runs : State → ℕ → Step State Record
runs st number = if st.built then runs_built st number else Says (refuses st number refusal.NotBuilt)

-- nothing is said, and nothing changes
abbrev pub says_nothing : State → Answered State
says_nothing st = record { reply = []; refused = false; permits = 0; next = st }

-- ---- any statement

abbrev pub answer_to : State → ℕ → Option Statement → Step State Record
answer_to st number None = Says (refuses st number refusal.BadLine)
answer_to st number (Some (says.Edit edit)) = Says (edits st number edit)
answer_to st number (Some says.Build) = Says (builds st number)
answer_to st number (Some says.Run) = runs st number
answer_to st number (Some (says.DumpImage name)) = Says (dumps st number name)
answer_to st number (Some says.DumpTables) = Says (dumps_tables st number)
answer_to st number (Some says.Stats) = Says (stats st number)
answer_to st number (Some says.Quit) = Says (says_nothing st)

abbrev pub answer : State → Placed → Step State Record
answer st placed = answer_to st placed.number placed.said
