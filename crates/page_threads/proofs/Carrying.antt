-- What a worker knows of the page that it carries, and of the run's end.
use Rattle.std.proofs.Common.{◌≡◌, ℕ, List, [], ◌∷◌, ◌++◌, ◌<◌, Option, Some, None, map, refl, ap, sym, ◌∙◌, subst, append-nil}
use Rattle.std.specs.Prelude.{is_some, IsSome, IfSome, if◌then◌else◌}
use Rattle.std.proofs.lemmas.List.{map-append}
use Rattle.fabric_lock.specs.History.{Begins, entries_of}
use Rattle.fabric_lock.proofs.Histories.{entries-append}
use Rattle.fabric_run.specs.declared.entry.Entry.{Entry}
use Rattle.fabric_run.specs.declared.entry.Entry.TheVariants.{Take}
use Rattle.fabric_run.specs.Entries.{entry_of, stored, IsEntry}
use Rattle.fabric_run.specs.Plan.{PlanValue}
use Rattle.fabric_run.specs.declared.row.Outcome.{Outcome}
use Rattle.fabric_run.specs.Replay.{outcome, replay, IsLegal}
use Rattle.fabric_run.specs.Trees.{tree_setup}
use Rattle.fabric_core.specs.declared.page.Page.{Page}
use Rattle.fabric_core.specs.Runs.{RunValue, noted, words_of}
use Rattle.fabric_core.specs.Holding.{Holds, Brings}
use Rattle.page_threads.specs.Work.{IsNoted, EndsOver, run_by}
use Rattle.page_threads.proofs.Journals.{seat_in, stored_seat, stays_held, none_before, nothing_after}

-- a run with one entry more is noted under that entry's seat
pub noted_by : (run later : RunValue) (e : Entry) (seat : ℕ) → later ≡ noted run e → IsEntry e → seat_in e ≡ seat → IsNoted seat (words_of run) (words_of later)
noted_by run later e seat is fits whose = (stored e, ap words_of is ∙ map-append stored run.journal (e ∷ []), stored_seat e fits ∙ whose)

-- a Take, if it was made
pub taken_by : (o : Option Page) (run later : RunValue) (seat leaf : ℕ) → seat < 16 → leaf < 256 → later ≡ (if is_some o then noted run (Take seat leaf) else run) → IfSome o (λ page. (page.leaf ≡ leaf) × Holds later seat page)
    → IfSome o (λ page. IsNoted seat (words_of run) (words_of later) × Holds later seat page)
taken_by None run later seat leaf s l is h = h
taken_by (Some page) run later seat leaf s l is h = (noted_by run later (Take seat leaf) seat is (s, l) refl, h.1)

append_same : (xs ys : List ℕ) → xs ++ ys ≡ xs → ys ≡ []
append_same [] ys e = e
append_same (x ∷ xs) ys e = append_same xs ys (cc)

-- what came after the seat's last look is of other seats
rest_of_others : (seat : ℕ) (seen rest own : List ℕ) → own ≡ entries_of seat seen → entries_of seat (seen ++ rest) ≡ own → entries_of seat rest ≡ []
rest_of_others seat seen rest own a b = append_same (entries_of seat seen) (entries_of seat rest) (sym (entries-append seat seen rest) ∙ (b ∙ a))

-- the run that these words stand for
run_is : (run : RunValue) (plan : PlanValue) (words : List ℕ) → run.plan ≡ plan → words_of run ≡ words → map entry_of (words_of run) ≡ run.journal → run_by plan words ≡ run
run_is run plan words p w same = sym (ap (λ (q : PlanValue). run_by q words) p) ∙ sym (ap (run_by run.plan) w) ∙ ap (λ (j : List Entry). (let n : RunValue = record { plan = run.plan; journal = j } in n)) same

-- a seat that carries a page finds it in the run as it was
pub brings_later : (run : RunValue) (plan : PlanValue) (seen own : List ℕ) (seat number : ℕ) (page : Page) → Brings (run_by plan seen) seat page → run.plan ≡ plan → map entry_of (words_of run) ≡ run.journal → IsLegal (tree_setup run.plan) run.journal → Begins (words_of run) seen → own ≡ entries_of seat seen → entries_of seat (words_of run) ≡ own → number ≡ seat
    → Brings run number page
brings_later run plan seen own seat number page b p same legal begins a here n =
    let rest = begins.0 in
    let is : words_of run ≡ seen ++ rest = begins.1 in
    let by : run_by plan (seen ++ rest) ≡ run = run_is run plan (seen ++ rest) p is same in
    let none = rest_of_others seat seen rest own a (ap (entries_of seat) (sym is) ∙ here) in
    let law : IsLegal (tree_setup plan) (map entry_of (seen ++ rest)) = subst (λ (r : RunValue). IsLegal (tree_setup r.plan) r.journal) (sym by) legal in
    let held : Holds run seat b.before = subst (λ (r : RunValue). Holds r seat b.before) by (stays_held plan seen rest seat b.before law none b.holds) in
    record { before = b.before; holds = subst (λ k. Holds run k b.before) (sym n) held; turned = b.turned }

-- a legal journal whose words begin with some that end over has no other words
pub ends_there : (run : RunValue) (words : List ℕ) → IsLegal (tree_setup run.plan) run.journal → map entry_of (words_of run) ≡ run.journal → Begins (words_of run) words → EndsOver run.plan (map entry_of words) → EndsOver run.plan run.journal
ends_there run words legal same begins ends =
    let rest = begins.0 in
    let split : map entry_of words ++ map entry_of rest ≡ run.journal = sym (map-append entry_of words rest) ∙ sym (ap (map entry_of) begins.1) ∙ same in
    let none : map entry_of rest ≡ [] = nothing_after (tree_setup run.plan) (map entry_of words) (map entry_of rest) (subst (IsLegal (tree_setup run.plan)) (sym split) legal) ends.is_over in
    let all : map entry_of words ≡ run.journal = sym (append-nil (map entry_of words)) ∙ ap (λ (x : List Entry). map entry_of words ++ x) (sym none) ∙ split in
    subst (EndsOver run.plan) all ends

-- a run that is over has the journal of one
pub over_now : (run : RunValue) (o : Option Outcome) → o ≡ outcome (tree_setup run.plan) (replay (tree_setup run.plan) run.journal) → IsSome o → IsLegal (tree_setup run.plan) run.journal → EndsOver run.plan run.journal
over_now run o is some legal = record { is_legal = legal; is_over = subst IsSome is some; first = λ k small. none_before (tree_setup run.plan) run.journal legal k small }
