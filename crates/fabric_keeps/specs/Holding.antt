-- Pages that are out.
use Rattle.std.specs.Prelude.{◌≡◌, ◌≢◌, ℕ, List, [], ◌∷◌, Some}
use Rattle.fabric_run.specs.declared.entry.Entry.{Entry}
use Rattle.fabric_run.specs.declared.entry.Entry.TheVariants.{Give}
use Rattle.fabric_run.specs.World.{State, PageState}

-- the page on a leaf is held by this seat, with the core, the steps and the end of p
pub record IsOutWith {S : Type 0} (st : State S) (seat leaf : ℕ) (p : PageState) : Type 0 where
  pub page : PageState
  pub there : st.pages leaf ≡ Some page
  pub held : page.holder ≡ Some seat
  pub core : page.core ≡ p.core
  pub steps : page.steps ≡ p.steps
  pub end : page.end ≡ p.end

-- the seat doesn't give this page back
abbrev pub GivesNone : ℕ → ℕ → List Entry → Type 0
GivesNone seat leaf [] = Unit {0}
GivesNone seat leaf (e ∷ es) = (e ≢ Give seat leaf) × GivesNone seat leaf es
