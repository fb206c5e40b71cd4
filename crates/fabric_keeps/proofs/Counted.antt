-- How many rounds were made.
use Rattle.std.proofs.Common.{◌≡◌, ℕ, ◌+◌, Bool, true, false, refl, ap, Option, Some, None}
use Rattle.pld_image.specs.declared.page.TurnEnd.{TurnEnd}
use Rattle.pld_image.specs.declared.page.TurnEnd.TheVariants.{AtRead, AtWrite, Ended, Limit}
use Rattle.fabric_run.specs.Turns.{Turned, turn}
use Rattle.fabric_run.specs.World.{Setup, State, PageState, round, read_given, write_given, given_at, given}
use Rattle.fabric_keeps.proofs.Steps.{ready_keeps}

read_given_rounds : {S : Type 0} (setup : Setup S) (st : State S) (i : ℕ) (p : PageState) (t : Turned) (j : ℕ) (o : Option ℕ) → (read_given setup st i p t j o).rounds ≡ st.rounds
read_given_rounds setup st i p t j None = refl
read_given_rounds setup st i p t j (Some w) = refl

write_given_rounds : {S : Type 0} (setup : Setup S) (st : State S) (i : ℕ) (p : PageState) (t : Turned) (k w : ℕ) (b : Bool) → (write_given setup st i p t k w b).rounds ≡ st.rounds
write_given_rounds setup st i p t k w true = refl
write_given_rounds setup st i p t k w false = refl

given_at_rounds : {S : Type 0} (setup : Setup S) (st : State S) (i : ℕ) (p : PageState) (t : Turned) (end : TurnEnd) → (given_at setup st i p t end).rounds ≡ st.rounds
given_at_rounds setup st i p t (AtRead j) = read_given_rounds setup st i p t j.0 _
given_at_rounds setup st i p t (AtWrite k w) = write_given_rounds setup st i p t k.0 w _
given_at_rounds setup st i p t Ended = refl
given_at_rounds setup st i p t Limit = refl

pub given_rounds : {S : Type 0} (setup : Setup S) (st : State S) (i : ℕ) (o : Option PageState) → (given setup st i o).rounds ≡ st.rounds
given_rounds setup st i None = refl
given_rounds setup st i (Some p) = given_at_rounds setup st i p (turn p.core) (turn p.core).end

pub net_rounds : {S : Type 0} (setup : Setup S) (st : State S) → (round setup st).rounds ≡ st.rounds + 1
net_rounds setup st = ap (λ (n : ℕ). n + 1) (ready_keeps setup st).rounds
