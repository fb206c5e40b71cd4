-- All that each legal entry keeps, in one.
use Rattle.std.proofs.Common.{◌≡◌, ℕ, ◌+◌, List, [], ◌++◌, refl, sym, ◌∙◌, Option, Some, None, subst, true}
use Rattle.pld_base.specs.declared.event.Event.{Event}
use Rattle.pld_base.specs.Channels.{OperatorNode, family_of}
use Rattle.pld_image.specs.Cores.{Core, next}
use Rattle.pld_image.specs.declared.page.TurnEnd.{TurnEnd}
use Rattle.pld_image.specs.declared.page.TurnEnd.TheVariants.{AtWrite}
use Rattle.fabric_run.specs.Turns.{turn}
use Rattle.fabric_run.specs.World.{Setup, State, PageState, ready, core_at}
use Rattle.fabric_run.specs.declared.entry.Entry.{Entry}
use Rattle.fabric_run.specs.Replay.{may, after}
use Rattle.fabric_keeps.specs.Facts.{Carries}
use Rattle.fabric_keeps.specs.Links.{IsSound}
use Rattle.hot_swap.specs.Paths.{Leads}
use Rattle.fabric_keeps.specs.Paths.{PathAt, IsTraced}
use Rattle.fabric_keeps.specs.Whole.{IsWhole}
use Rattle.hot_swap.proofs.Walks.{leads_append}
use Rattle.fabric_keeps.proofs.Walks.{turn_leads, turn_ends, EndsAt}
use Rattle.fabric_keeps.proofs.Steady.{steady_keeps}
use Rattle.fabric_keeps.proofs.Traced.{entry_traced}
use Rattle.fabric_keeps.proofs.WorldKeeps.{PortsFit}
use Rattle.fabric_keeps.proofs.Configures.{world_keeps}

same_page : (p q : PageState) → Some p ≡ Some q → p ≡ q
same_page p q e = cc

none_page : (p : PageState) → None ≡ Some p → ⊥
none_page p e = cc

-- a page has a core and a path to where it is
pub record HasPath {S : Type 0} (setup : Setup S) (st : State S) (i : ℕ) (p : PageState) : Type 0 where
  pub core : Core
  pub there : core_at setup i ≡ Some core
  pub path : Leads next core p.steps (family_of st.history (OperatorNode (setup.number i))) p.core

has_path_at : {S : Type 0} (setup : Setup S) (st : State S) (i : ℕ) (p : PageState) (co : Option Core) → core_at setup i ≡ co → st.pages i ≡ Some p → PathAt co (st.pages i) (family_of st.history (OperatorNode (setup.number i))) → HasPath setup st i p
has_path_at setup st i p None f e h = absurd (none_page p (sym h.0 ∙ e))
has_path_at setup st i p (Some c) f e h =
    let s : h.0 ≡ p = same_page h.0 p (sym h.1 ∙ e) in
    record { core = c; there = f; path = subst (λ (x : PageState). Leads next c x.steps (family_of st.history (OperatorNode (setup.number i))) x.core) s h.2 }

pub has_path : {S : Type 0} (setup : Setup S) (st : State S) (i : ℕ) (p : PageState) → st.pages i ≡ Some p → IsTraced setup st → HasPath setup st i p
has_path setup st i p e t = has_path_at setup st i p (core_at setup i) refl e (t.pages i)

pub ports_fit : {S : Type 0} (setup : Setup S) (st : State S) → IsSound setup → IsTraced setup st → PortsFit setup st
ports_fit setup st sound t i p k w e end =
    let h : HasPath setup st i p = has_path setup st i p e t in
    let es : List Event = family_of st.history (OperatorNode (setup.number i)) in
    let l : Leads next h.core (p.steps + (turn p.core).steps) (es ++ []) (turn p.core).core = leads_append next h.core p.core (turn p.core).core p.steps (turn p.core).steps es [] h.path (turn_leads p.core) in
    let n : EndsAt (AtWrite k w) (turn p.core).core = subst (λ (x : TurnEnd). EndsAt x (turn p.core).core) end (turn_ends p.core) in
    sound.page_writes i h.core (turn p.core).core _ _ k.0 w n.0 h.there l n.1

pub no_host_page : (co : Option Core) (o : Option PageState) (es : List Event) → co ≡ None → PathAt co o es → o ≡ None
no_host_page None o es e h = h.0
no_host_page (Some c) o es e h = absurd (let x : Some c ≡ None = e in cc)

pub whole_keeps : {S : Type 0} (setup : Setup S) (st : State S) (e : Entry) → IsSound setup → Carries setup (ready setup st) → may setup st e ≡ true → IsWhole setup st → IsWhole setup (after setup st e)
whole_keeps setup st e sound c m h = record {
  world = world_keeps setup st e sound m (no_host_page (core_at setup 0) (st.pages 0) _ sound.host (h.traced.pages 0)) h.steady.back c (ports_fit setup st sound h.traced) h.world;
  traced = entry_traced setup sound.apart st e h.traced;
  steady = steady_keeps setup st e h.steady c m;
}
