-- The states of legal journals.
use Rattle.std.proofs.Common.{◌≡◌, ℕ, ◌+◌, ◌*◌, ◌<◌, ◌≤◌, ◌⊎◌, true, false, List, [], ◌∷◌, ◌++◌, length, refl, ap, sym, ◌∙◌, subst}
use Rattle.std.specs.List.{count_by}
use Rattle.fabric_run.specs.World.{Setup, State, start, ready, changes}
use Rattle.fabric_run.specs.declared.entry.Entry.{Entry}
use Rattle.fabric_run.specs.Replay.{after, run, replay, may, IsLegalFrom, IsLegal, is_still}
use Rattle.fabric_keeps.specs.Measure.{owed, used, enough}
use Rattle.fabric_keeps.specs.Facts.{Carries, Steady, Facts, IsKept, is_old, Gains, RunsWell}
use Rattle.fabric_keeps.proofs.Starting.{start_steady}
use Rattle.fabric_keeps.proofs.Steady.{steady_keeps}
use Rattle.fabric_keeps.proofs.Legal.{run_more, legal_more}
use Rattle.fabric_ends.proofs.Gaining.{progress, few_rounds, run_keeps}

pub record IsReachable {S : Type 0} (setup : Setup S) (st : State S) : Type 0 where
  pub entries : List Entry
  pub legal : IsLegal setup entries
  pub ends : replay setup entries ≡ st
  pub steady : Steady setup st

facts_of : {S : Type 0} (setup : Setup S) (most : ℕ) (st : State S) → RunsWell setup most → IsReachable setup st → Facts setup most st
facts_of {S = S} setup most st w r = record {
  carries = subst (λ (x : State S). Carries setup (ready setup x)) r.ends (w.carries r.entries r.legal);
  back = r.steady.back;
  page = r.steady.page;
  heavy = r.steady.heavy;
  aged = subst (λ (x : State S). count_by (is_old most x.rounds) (setup.net.under x.carrier) ≡ 0) r.ends (w.aged r.entries r.legal);
  stamped = r.steady.stamped;
}

next_reachable : {S : Type 0} (setup : Setup S) (most : ℕ) (st : State S) (e : Entry) → RunsWell setup most → IsReachable setup st → may setup st e ≡ true → IsReachable setup (after setup st e)
next_reachable {S = S} setup most st e w r m = record {
  entries = r.entries ++ e ∷ [];
  legal = legal_more setup (start setup) r.entries e r.legal (subst (λ (x : State S). may setup x e ≡ true) (sym r.ends) m);
  ends = run_more setup (start setup) r.entries e ∙ ap (λ (x : State S). after setup x e) r.ends;
  steady = steady_keeps setup st e r.steady (facts_of setup most st w r).carries m;
}

pub reachable_kept : {S : Type 0} (setup : Setup S) (most : ℕ) → RunsWell setup most → IsKept setup most (IsReachable setup)
reachable_kept setup most w = record { some = w.some; facts = λ st r. facts_of setup most st w r; keeps = λ st e r m. next_reachable setup most st e w r m }

pub start_reachable : {S : Type 0} (setup : Setup S) (most : ℕ) → RunsWell setup most → IsReachable setup (start setup)
start_reachable setup most w = record { entries = []; legal = tt; ends = refl; steady = start_steady setup w.begins }

pub window_uses : {S : Type 0} (setup : Setup S) (most : ℕ) (es fs : List Entry) → RunsWell setup most → IsLegal setup es → IsLegalFrom setup (replay setup es) fs → 1 ≤ most → (replay setup es).rounds + most + 1 ≤ (run setup (replay setup es) fs).rounds
    → (is_still setup (run setup (replay setup es) fs) ≡ true) ⊎ Gains setup (replay setup es) (run setup (replay setup es) fs)
window_uses setup most es fs w l m some r =
    let k : IsKept setup most (IsReachable setup) = reachable_kept setup most w in
    progress setup most (IsReachable setup) k (replay setup es) fs (run_keeps setup most (IsReachable setup) k (start setup) es (start_reachable setup most w) l) m some r

pub rounds_enough : {S : Type 0} (setup : Setup S) (most : ℕ) (es : List Entry) (events steps pages : ℕ) → RunsWell setup most → IsLegal setup es → 1 ≤ most
    → owed setup (start setup) ≡ 2 * length (changes setup) → used setup (replay setup es) ≤ 3 * events + steps + pages → is_still setup (replay setup es) ≡ false
    → (replay setup es).rounds < enough most events (length (changes setup)) steps pages
rounds_enough setup most es events steps pages w l some begin bound moving =
    few_rounds setup most (IsReachable setup) (reachable_kept setup most w) es events steps pages (start_reachable setup most w) l some begin bound moving
