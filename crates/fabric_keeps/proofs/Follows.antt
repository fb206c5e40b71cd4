-- The events of a run follow the traces of its network; what stands at rest is at rest there.
use Rattle.std.proofs.Common.{◌≡◌, ℕ, List, [], ◌∷◌, ◌++◌, refl, ap, sym, ◌∙◌, Option, Some, None, subst}
use Rattle.pld_base.specs.Prefix.{IsPrefixOf}
use Rattle.pld_base.specs.Process.{Inputs, Trace, Returned, Starved}
use Rattle.pld_base.specs.Events.{words_read}
use Rattle.pld_base.specs.declared.event.Event.{Event}
use Rattle.pld_base.specs.declared.event.Event.TheVariants.{Write}
use Rattle.pld_base.specs.Machine.{Move, Reads, Writes, Stops, run as run_machine, standing, moved as moved_machine, machine}
use Rattle.pld_base.specs.Channels.{OperatorNode, InputNode, OutputNode, Wiring, family_of, AfterEach, KeepsWindow}
use Rattle.pld_kahn.specs.Network.{IsKahnNetwork}
use Rattle.pld_kahn.specs.Rest.{FollowsTraces, IsReached}
use Rattle.pld_kahn.proofs.Reached.{each_follows}
use Rattle.pld_image.specs.Cores.{Core, next}
use Rattle.fabric_run.specs.World.{Setup, State, PageState, core_at}
use Rattle.hot_swap.specs.Paths.{Leads}
use Rattle.hot_swap.proofs.Walks.{fed_first}
use Rattle.fabric_keeps.specs.Paths.{PathAt, IsTraced, page_process, page_network}
use Rattle.fabric_keeps.specs.Links.{IsSound}
use Rattle.hot_swap.proofs.Walks.{added, after_events, path_run}
use Rattle.fabric_keeps.proofs.Traced.{append_none}

abbrev no_more : Inputs
no_more port = []

fed_none : (es : List Event) → fed_first es no_more ≡ words_read es
fed_none es = λ t. λ port. append_none (words_read es port) t

-- a page's own trace, with as many turns as its path has moves, and some more
pub own_run : (c d : Core) (n : ℕ) (es : List Event) (l : Leads next c n es d) (k : ℕ) → machine next c (words_read es) (added l.moves k) ≡ after_events es (run_machine next k d no_more)
own_run c d n es l k = ap (λ (ins : Inputs). machine next c ins (added l.moves k)) (sym (fed_none es)) ∙ path_run next l.moves k c d n es no_more l.path

page_follows : (co : Option Core) (o : Option PageState) (es : List Event) → PathAt co o es → (turns : ℕ) × IsPrefixOf es (page_process co (words_read es) turns).events
page_follows None o es h = (0, record { rest = []; joined = append_none es ∙ h.1 })
page_follows (Some c) o es h =
    let l : Leads next c h.0.steps es h.0.core = h.2 in
    (added l.moves 0, record { rest = (run_machine next 0 h.0.core no_more).events; joined = sym (ap (λ (t : Trace). t.events) (own_run c h.0.core h.0.steps es l 0)) })

number_follows : {S : Type 0} (setup : Setup S) (st : State S) (k : ℕ) (o : Option Core) → IsSound setup → setup.image k ≡ o → IsTraced setup st
    → (turns : ℕ) × IsPrefixOf (family_of st.history (OperatorNode k)) (page_process (setup.image k) (words_read (family_of st.history (OperatorNode k))) turns).events
number_follows setup st k None sound e h = (0, record { rest = _; joined = ap (λ (es : List Event). es ++ (page_process (setup.image k) (words_read (family_of st.history (OperatorNode k))) 0).events) (h.nobody k e) })
number_follows setup st k (Some c) sound e h =
    subst (λ (n : ℕ). (turns : ℕ) × IsPrefixOf (family_of st.history (OperatorNode n)) (page_process (setup.image n) (words_read (family_of st.history (OperatorNode n))) turns).events) (sound.number k c e)
    (page_follows (core_at setup (setup.leaf_of k)) (st.pages (setup.leaf_of k)) (family_of st.history (OperatorNode (setup.number (setup.leaf_of k)))) (h.pages (setup.leaf_of k)))

pub follows : {S : Type 0} (setup : Setup S) (wiring : Wiring) (st : State S) → IsSound setup → IsTraced setup st → FollowsTraces (page_network setup wiring) (family_of st.history)
follows setup wiring st sound h (OperatorNode k) = number_follows setup st k (setup.image k) sound refl h
follows setup wiring st sound h (InputNode k) = (0, h.inputs k)
follows setup wiring st sound h (OutputNode j) = (0, record { rest = []; joined = append_none (family_of st.history (OutputNode j)) ∙ h.outputs j })

-- THE EVENTS of a run, with a window that was kept after each of them, are reached
pub run_reached : {S : Type 0} (setup : Setup S) (wiring : Wiring) (st : State S) → IsSound setup → IsKahnNetwork (page_network setup wiring) → IsTraced setup st → AfterEach (KeepsWindow setup.window wiring) st.history → IsReached setup.window (page_network setup wiring) (family_of st.history)
run_reached setup wiring st sound k h w =
    record { history = st.history; each_consistent = each_follows setup.window (page_network setup wiring) k st.history w (follows setup wiring st sound h); ends_here = refl }

-- where a core stands, its own trace ends
pub starved_at : (c d : Core) (n : ℕ) (es : List Event) (j : ℕ) (after : ℕ → Core) → Leads next c n es d → next d ≡ Reads j after → (turns : ℕ) × (machine next c (words_read es) turns ≡ record { events = es; end = Starved j })
starved_at c d n es j after l e =
    (added l.moves 0, own_run c d n es l 0 ∙ (ap (λ (m : Move Core). after_events es (standing m no_more)) e ∙ ap (λ (xs : List Event). record { events = xs; end = Starved j }) (append_none es)))

pub returned_at : (c d : Core) (n : ℕ) (es : List Event) → Leads next c n es d → next d ≡ Stops → (turns : ℕ) × (machine next c (words_read es) turns ≡ record { events = es; end = Returned })
returned_at c d n es l e =
    (added l.moves 0, own_run c d n es l 0 ∙ (ap (λ (m : Move Core). after_events es (standing m no_more)) e ∙ ap (λ (xs : List Event). record { events = xs; end = Returned }) (append_none es)))

pub writes_at : (c d : Core) (n : ℕ) (es : List Event) (k w : ℕ) (after : Core) → Leads next c n es d → next d ≡ Writes k w after → (turns : ℕ) × IsPrefixOf (es ++ Write (record { 0 = k }) w ∷ []) (machine next c (words_read es) turns).events
writes_at c d n es k w after l e =
    let t : machine next c (words_read es) (added l.moves 1) ≡ after_events es (moved_machine (Writes k w after) no_more (run_machine next 0)) =
    own_run c d n es l 1 ∙ ap (λ (m : Move Core). after_events es (moved_machine m no_more (run_machine next 0))) e in
    (added l.moves 1, record { rest = (run_machine next 0 after no_more).events; joined = joined_at es (Write (record { 0 = k }) w) (run_machine next 0 after no_more).events ∙ sym (ap (λ (x : Trace). x.events) t) })
  where
    joined_at : (xs : List Event) (e : Event) (ys : List Event) → (xs ++ e ∷ []) ++ ys ≡ xs ++ e ∷ ys
    joined_at [] e ys = refl
    joined_at (x ∷ xs) e ys = ap (λ (zs : List Event). x ∷ zs) (joined_at xs e ys)
