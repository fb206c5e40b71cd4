-- Journals that grow by an entry, and what holds after each legal one.
use Rattle.std.proofs.Common.{◌≡◌, ℕ, true, List, [], ◌∷◌, ◌++◌, refl, sym, subst}
use Rattle.fabric_run.specs.World.{Setup, State, start}
use Rattle.fabric_run.specs.Replay.{after, run, replay, may, IsLegalFrom, IsLegal}
use Rattle.fabric_run.specs.declared.entry.Entry.{Entry}
use Rattle.fabric_keeps.specs.Facts.{RunsWell}
use Rattle.fabric_keeps.specs.Links.{IsSound}
use Rattle.fabric_keeps.specs.Whole.{IsWhole}
use Rattle.fabric_keeps.proofs.Whole.{whole_keeps}
use Rattle.fabric_keeps.proofs.Starting.{start_whole}

pub run_more : {S : Type 0} (setup : Setup S) (st : State S) (es : List Entry) (e : Entry) → run setup st (es ++ e ∷ []) ≡ after setup (run setup st es) e
run_more setup st [] e = refl
run_more setup st (f ∷ es) e = run_more setup (after setup st f) es e

pub legal_more : {S : Type 0} (setup : Setup S) (st : State S) (es : List Entry) (e : Entry) → IsLegalFrom setup st es → may setup (run setup st es) e ≡ true → IsLegalFrom setup st (es ++ e ∷ [])
legal_more setup st [] e l m = (m, tt)
legal_more setup st (f ∷ es) e l m = (l.0, legal_more setup (after setup st f) es e l.1 m)

whole_from : {S : Type 0} (setup : Setup S) (most : ℕ) (done es : List Entry) → IsSound setup → RunsWell setup most → IsLegal setup done → IsLegalFrom setup (replay setup done) es → IsWhole setup (replay setup done) → IsWhole setup (run setup (replay setup done) es)
whole_from setup most done [] sound w l m h = h
whole_from {S = S} setup most done (e ∷ es) sound w l m h =
    let next : replay setup (done ++ e ∷ []) ≡ after setup (replay setup done) e = run_more setup (start setup) done e in
    subst (λ (x : State S). IsWhole setup (run setup x es)) next
    (whole_from setup most (done ++ e ∷ []) es sound w (legal_more setup (start setup) done e l m.0) (subst (λ (x : State S). IsLegalFrom setup x es) (sym next) m.1)
    (subst (IsWhole setup) (sym next) (whole_keeps setup (replay setup done) e sound (w.carries done l) m.0 h)))

pub run_whole : {S : Type 0} (setup : Setup S) (most : ℕ) (es : List Entry) → IsSound setup → RunsWell setup most → IsLegal setup es → IsWhole setup (replay setup es)
run_whole setup most es sound w l = whole_from setup most [] es sound w tt l (start_whole setup sound w.begins)
