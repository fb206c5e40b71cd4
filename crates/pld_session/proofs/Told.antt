-- The answers to edits, joined from their parts.
use Rattle.std.proofs.Common.{◌≡◌, ℕ, zero, suc, ◌+◌, ◌<◌, ◌≤◌, Bool, true, false, true≢false, ◌&&◌, List, [], ◌∷◌, length, map, arith, Option, Some, None, Result, Ok, Err, refl, sym, ap, ◌∙◌, subst}
use Rattle.std.specs.Prelude.{nat_le, nat_lt, IfOk, slice_index_or, if◌then◌else◌}
use Rattle.pld_script.specs.declared.statement.Edit.{Edit}
use Rattle.pld_script.specs.declared.statement.Edit.TheVariants as says
use Rattle.pld_script.specs.Edits.{is_of_words}
use Rattle.pld_draft.specs.declared.parts.EditFault.{EditFault}
use Rattle.pld_draft.specs.declared.parts.EditFault.TheVariants.{Refused, NoMemory}
use Rattle.pld_draft.specs.declared.parts.EditRefusal.{EditRefusal}
use Rattle.pld_draft.specs.Draft.{DraftState, words_of}
use Rattle.pld_draft.specs.Edits.{Edited, edited}
use Rattle.std.proofs.lemmas.Bool.Decides.{nat_tests}
use Rattle.pld_driver.specs.Walk.{Answered}
use Rattle.pld_driver.specs.Moments.{IsAnswer, Spends, Took}
use Rattle.pld_driver.specs.declared.engine.Bench.{Bench}
use Rattle.pld_script.specs.declared.statement.Statement.TheVariants as statement
use Rattle.fabric_core.specs.declared.fabric.Record.{Record}
use Rattle.pld_reply.specs.Refusals.{refused_reply}
use Rattle.pld_reply.specs.declared.refusals.Refusal.TheVariants as refusal
use Rattle.net_switch.specs.declared.packet.Row.{Row}
use Rattle.pld_reply.specs.declared.tables.PlacedPage.{PlacedPage}
use Rattle.pld_reply.specs.Replies.{image_reply, built_reply}
use Rattle.pld_reply.specs.Tables.{tables_reply}
use Rattle.image_form.specs.Spelling.{Form, bytes_of}
use Rattle.pld_graph.specs.Design.{Design, place_of, is_input, open_port}
use Rattle.pld_place.specs.Placing.{pages, placed}
use Rattle.pld_link.specs.Rows.{rows}
use Rattle.pld_graph.specs.Sound.{IsSound}
use Rattle.pld_draft.specs.declared.parts.Source.{Source}
use Rattle.pld_draft.specs.Draft.{IsKept, entry_ports, source_ports}
use Rattle.pld_build.specs.Images.{image_of, compiles}
use Rattle.pld_runner.specs.Orders.{Order}
use Rattle.pld_session.specs.Runs.{FitsRun}
use Rattle.pld_session.specs.Answers.{answer_to, builds, builds_if, builds_closed, edits, edits_to, dumps, dumps_at, dumps_tables, placed_pages, no_image, refuses}
use Rattle.pld_session.specs.States.{State, BuildValue, IsBuild, images, tables, with_pairs}
use Rattle.pld_session.specs.Steps.{Tells, TellsEdit, Makes}

-- the answer to an edit
pub edit_told : {X : Type 0} (done : Result X EditFault) (edit : Edit) (st : State) (number : ℕ) (reply : List ℕ) (refused : Bool) (next : State)
    → Makes done edit st next → TellsEdit number done reply refused → Tells (edits st number edit) reply refused next
edit_told (Ok x) edit st number reply refused next made told =
    subst (λ e. Tells (edits_to st number (is_of_words edit && st.built) e) reply refused next) (sym made.0) (told.0, told.1, made.1)
edit_told (Err (Refused why)) edit st number reply refused next made told =
    subst (λ e. Tells (edits_to st number (is_of_words edit && st.built) e) reply refused next) (sym made.0) (told.0, told.1, made.1)
edit_told (Err NoMemory) edit st number reply refused next made told = absurd told

abbrev known : DraftState → Edited → DraftState
known d (Ok new) = new
known d (Err why) = d

abbrev is_made : Edited → Bool
is_made (Ok new) = true
is_made (Err why) = false

-- an edit that is made where a test holds
if_made : (P : DraftState → Type 0) (b : Bool) (d made new : DraftState) (why : EditRefusal) → (if b then Ok made else Err why) ≡ Ok new → P made → P new
if_made P true d made new why e h = subst P (ap (known d) e) h
if_made P false d made new why e h = absurd (true≢false (sym (ap is_made e)))

if_both : (P : DraftState → Type 0) (b c : Bool) (d made new : DraftState) (why other : EditRefusal) → (if b then (if c then Ok made else Err why) else Err other) ≡ Ok new → P made → P new
if_both P true c d made new why other e h = if_made P c d made new why e h
if_both P false c d made new why other e h = absurd (true≢false (sym (ap is_made e)))

-- the same design, with the same sources
abbrev SameDesign : DraftState → DraftState → Type 0
SameDesign d new = (new.sources ≡ d.sources) × (new.design ≡ d.design)

-- other words of an input leave the design and its sources
designs_stay : (edit : Edit) (d new : DraftState) → is_of_words edit ≡ true → edited edit d ≡ Ok new → SameDesign d new
designs_stay (says.Op name kind text) d new w e = absurd (true≢false (sym w))
designs_stay (says.Replace name kind text) d new w e = absurd (true≢false (sym w))
designs_stay (says.Remove name) d new w e = absurd (true≢false (sym w))
designs_stay (says.Connect from to) d new w e = absurd (true≢false (sym w))
designs_stay (says.Disconnect what) d new w e = absurd (true≢false (sym w))
designs_stay (says.Input name to) d new w e = absurd (true≢false (sym w))
designs_stay (says.Output from name) d new w e = absurd (true≢false (sym w))
designs_stay (says.Pin name leaf) d new w e = absurd (true≢false (sym w))
designs_stay (says.Unpin name) d new w e = absurd (true≢false (sym w))
designs_stay (says.Pages depth) d new w e = absurd (true≢false (sym w))
designs_stay (says.Window window) d new w e = absurd (true≢false (sym w))
designs_stay (says.Levels levels) d new w e = absurd (true≢false (sym w))
designs_stay (says.Feed name words) d new w e = if_both (SameDesign d) (is_input name d.design.channels) (nat_le (length (words_of name d.feeds) + length words) 65536) d _ new _ _ e (refl, refl)
designs_stay (says.Clear name) d new w e = if_made (SameDesign d) (is_input name d.design.channels) d _ new _ e (refl, refl)

-- a build stays one behind an edit of an input's words
pub build_stays : (edit : Edit) (d new : DraftState) (made : BuildValue) → is_of_words edit ≡ true → edited edit d ≡ Ok new → IsBuild d made → IsBuild new made
build_stays edit d new made w e b =
    let same = designs_stay edit d new w e in
    record {
      images = b.images ∙ ap (map image_of) (sym same.0);
      leaves = b.leaves ∙ ap placed (sym same.1);
      tables = b.tables ∙ ap (λ g. rows g (placed g)) (sym same.1);
      can = record {
        an_operator = subst (λ ss. 1 ≤ length ss) (sym same.0) b.can.an_operator;
        closed = subst (λ g. open_port g ≡ None) (sym same.1) b.can.closed;
        enough = subst (λ ss. length ss ≤ pages new.design) (sym same.0) (subst (λ g. length d.sources ≤ pages g) (sym same.1) b.can.enough);
      };
    }

any_default : {X : Type 0} (xs : List X) (k : ℕ) (x y : X) → k < length xs → slice_index_or xs k x ≡ slice_index_or xs k y
any_default [] k x y l = absurd (omega (arith, l))
any_default (z ∷ zs) zero x y l = refl
any_default (z ∷ zs) (suc k) x y l = any_default zs k x y (omega (arith, l))

-- what holds of an answer, by what is known of it
pub if_ok : {A E : Type 0} {P Q : A → Type 0} (r : Result A E) → ((x : A) → P x → Q x) → IfOk r P → IfOk r Q
if_ok (Ok x) f h = f x h
if_ok (Err e) f h = tt

-- an image is told
pub dump_told : (st : State) (number : ℕ) (name : List ℕ) (k : ℕ) (form : Form) (reply : List ℕ) → st.built ≡ true → place_of name st.draft.design ≡ Some k → k < length (images st.draft)
    → form ≡ slice_index_or (images st.draft) k form → reply ≡ image_reply name (bytes_of form) → Tells (dumps st number name) reply false st
dump_told st number name k form reply built place within is said =
    let A : Bool → Option ℕ → Answered State = λ b p. if b then dumps_at st number name p else refuses st number refusal.NotBuilt in
    let same : dumps st number name ≡ dumps_at st number name (Some k) = ap (λ b. A b (place_of name st.draft.design)) built ∙ ap (A true) place in
    let form_is : form ≡ slice_index_or (images st.draft) k no_image = is ∙ any_default (images st.draft) k form no_image within in
    subst (λ a. Tells a reply false st) (sym same) (said ∙ ap (λ f. image_reply name (bytes_of f)) form_is, refl, refl)

many : {X Y : Type 0} (f : X → Y) (xs : List X) → length (map f xs) ≡ length xs
many f [] = refl
many f (x ∷ xs) = ap suc (many f xs)

-- there is a source for each operator
pub sources_many : (d : DraftState) → IsKept d → length d.sources ≡ length d.design.operators
sources_many d h = sym (many source_ports d.sources) ∙ ap length (sym h.ports) ∙ many entry_ports d.design.operators

-- there are at most 63 sources
pub few_sources : (d : DraftState) (design : Design) (sources : List Source) → design ≡ d.design → sources ≡ d.sources → IsKept d → IsSound design → length sources ≤ 63
few_sources d design sources e f h s =
    let few : length d.design.operators ≤ 63 = subst (λ x. length x.operators ≤ 63) e s.operators in
    omega (arith, ap length f, sources_many d h, few)

-- there is an image for each operator
pub images_many : (d : DraftState) (made : BuildValue) → IsKept d → IsBuild d made → length made.images ≡ length d.design.operators
images_many d made k b = ap length b.images ∙ many image_of d.sources ∙ sources_many d k

-- the pages and rows are told
pub tables_told : (st : State) (number : ℕ) (pages : List PlacedPage) (rows : List (Option Row)) (reply : List ℕ) → st.built ≡ true → pages ≡ placed_pages st.draft → rows ≡ tables st.draft
    → reply ≡ tables_reply pages rows → Tells (dumps_tables st number) reply false st
tables_told st number pages rows reply built same all said =
    let A : Bool → Answered State = λ b. if b then record { reply = tables_reply (placed_pages st.draft) (tables st.draft); refused = false; permits = 0; next = st } else refuses st number refusal.NotBuilt in
    subst (λ a. Tells a reply false st) (sym (ap A built)) (said ∙ ap (λ p. tables_reply p rows) same ∙ ap (tables_reply (placed_pages st.draft)) all, refl, refl)

-- ---- builds

above : (n m : ℕ) → m ≤ n → nat_lt n m ≡ false
above n m h = grind (arith, nat_tests, h)

under : (n m : ℕ) → n < m → nat_lt n m ≡ true
under n m h = grind (arith, nat_tests, h)

module _ (st : State) (number : ℕ) (some : nat_le (length st.draft.sources) 0 ≡ false) (closed : open_port st.draft.design ≡ None) where
  abbrev done : Answered State
  done = record {
    reply = built_reply (length st.draft.sources) (compiles st.compiled st.draft.sources);
    refused = false;
    permits = compiles st.compiled st.draft.sources;
    next = record st { built = true; compiled = with_pairs st.compiled st.draft };
  }

  abbrev few : Answered State
  few = refuses st number (refusal.TooFewPages (length st.draft.sources) (pages st.draft.design))

  closed_is : builds st number ≡ builds_closed st number
  closed_is = ap (λ b. if b then refuses st number refusal.Empty else builds_if st number (open_port st.draft.design)) some ∙ ap (builds_if st number) closed

  done_is : length st.draft.sources ≤ pages st.draft.design → builds st number ≡ done
  done_is enough = closed_is ∙ ap (λ b. if b then few else done) (above (pages st.draft.design) (length st.draft.sources) enough)

  few_is : pages st.draft.design < length st.draft.sources → builds st number ≡ few
  few_is lack = closed_is ∙ ap (λ b. if b then few else done) (under (pages st.draft.design) (length st.draft.sources) lack)

  -- a build that isn't done has spent no more than its permits
  pub build_spends : (old new : ℕ) → length st.draft.sources ≤ pages st.draft.design → old ≤ new → new ≤ old + compiles st.compiled st.draft.sources → Spends old new (builds st number).permits
  build_spends old new enough least most = subst (λ (a : Answered State). Spends old new a.permits) (sym (done_is enough)) (least, most)

  -- there are more operators than pages
  pub build_refused : (order : Order) (operators leaves : ℕ) (old new : Bench Record) (reply : List ℕ) (refused : Bool) (next : State) → next ≡ st → pages st.draft.design < length st.draft.sources → operators ≡ length st.draft.sources → leaves ≡ pages st.draft.design
      → new.records.items ≡ old.records.items → new.permits ≡ old.permits → (refused ≡ true) × (reply ≡ refused_reply number (refusal.TooFewPages operators leaves))
      → Took (answer_to st number (Some statement.Build)) (FitsRun order st) old new reply refused next
  build_refused order operators leaves old new reply refused next same lack o p records permits told =
      subst (λ (a : Answered State). IsAnswer a old.permits new.permits reply refused next × (new.records.items ≡ old.records.items)) (sym (few_is lack)) (
        record {
          says = told.1 ∙ ap (λ n. refused_reply number (refusal.TooFewPages n leaves)) o ∙ ap (λ n. refused_reply number (refusal.TooFewPages (length st.draft.sources) n)) p;
          flag = told.0;
          state = same;
          spent = omega (arith, permits);
        },
        records,
      )
