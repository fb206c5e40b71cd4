-- What a run shows after a legal journal.
use Rattle.std.proofs.Common.{◌≡◌, ℕ, ◌+◌, ◌*◌, ◌^◌, ◌<◌, ◌≤◌, Bool, true, false, List, [], ◌∷◌, ◌++◌, Option, Some, None, refl, ap, subst, arith}
use Rattle.std.specs.Prelude.{◌&&◌, nat_lt, is_some, if◌then◌else◌}
use Rattle.std.proofs.lemmas.Bool.Decides.{nat_tests}
use Rattle.net_tree.specs.Links.{sum_to}
use Rattle.pld_base.specs.Process.{Process}
use Rattle.pld_base.specs.Channels.{OperatorNode, OutputNode, KeepsWindow, AfterEach, family_of}
use Rattle.pld_base.specs.declared.event.Event.{Event}
use Rattle.pld_kahn.specs.Network.{Network}
use Rattle.pld_kahn.specs.Rest.{IsReached}
use Rattle.pld_kahn.proofs.Reached.{each_follows}
use Rattle.hot_swap.specs.Paths.{Leads}
use Rattle.hot_swap.proofs.Walks.{leads_append}
use Rattle.pld_image.specs.Cores.{Core, next}
use Rattle.pld_image.specs.declared.page.TurnEnd.{TurnEnd}
use Rattle.pld_image.specs.declared.page.TurnEnd.TheVariants.{AtRead, AtWrite, Ended, Limit}
use Rattle.fabric_run.specs.declared.entry.Entry.{Entry}
use Rattle.fabric_run.specs.declared.row.Blocked.{Blocked}
use Rattle.fabric_run.specs.Turns.{turn}
use Rattle.fabric_run.specs.World.{Carrier, Setup, State, PageState, start, start_page, core_at}
use Rattle.fabric_run.specs.Plan.{PlanValue, setup_of}
use Rattle.fabric_run.specs.Replay.{blocked_by, page_blocked, after, run, replay, IsLegal, IsLegalFrom}
use Rattle.fabric_run.specs.Shown.{shown}
use Rattle.fabric_keeps.specs.Facts.{RunsWell}
use Rattle.fabric_keeps.specs.Links as links
use Rattle.fabric_keeps.specs.Links.{is_linked_in}
use Rattle.fabric_keeps.specs.Paths.{page_network}
use Rattle.fabric_keeps.specs.Whole.{IsWhole}
use Rattle.fabric_keeps.proofs.Base.{both, all_zero}
use Rattle.fabric_keeps.proofs.Configures.{windows_of}
use Rattle.fabric_keeps.proofs.Follows.{follows}
use Rattle.fabric_keeps.proofs.Legal.{run_whole}
use Rattle.fabric_keeps.proofs.Walks.{turn_leads, turn_ends, EndsAt}
use Rattle.fabric_keeps.proofs.Whole.{HasPath, has_path, ports_fit}
use Rattle.fabric_ends.specs.Planned.{IsDesign, network}
use Rattle.fabric_ends.proofs.Carrying.{reads_words}
use Rattle.fabric_ends.proofs.Promised.{links_sound, images_kahn, carried}
use Rattle.fabric_pages.specs.Slots.{outside}
use Rattle.fabric_pages.specs.Counted.{gives_of, one_page, IsCounted}
use Rattle.fabric_pages.proofs.Counting.{counted_next}
use Rattle.pld_reply.specs.Sizes.{HasOuts, HasBytePorts}

-- Rounds, and the words of outputs.

start_outside : (o : Option Core) → outside (start_page o) ≡ 0
start_outside None = refl
start_outside (Some c) = refl

start_gives : (o : Option Core) → gives_of (start_page o) + outside (start_page o) ≤ 4 * one_page (start_page o)
start_gives None = omega arith
start_gives (Some c) = omega arith

module _ {S : Type 0} (setup : Setup S) where
  abbrev pages : ℕ
  pages = sum_to setup.size (λ i. one_page (start_page (core_at setup i)))

  start_counted : IsCounted setup pages 0 (start setup)
  start_counted =
      let none : sum_to setup.size (λ i. outside (start_page (core_at setup i))) ≡ 0 = all_zero setup.size (λ i. outside (start_page (core_at setup i))) (λ i l. start_outside (core_at setup i)) in
      record {
        pages = omega arith;
        each = λ i. start_gives (core_at setup i);
        rounds = omega arith;
        before = λ l. omega (arith, none);
        last = λ l. omega (arith, none);
        outs = λ j. omega arith;
      }

  counted_from : (entries : ℕ) (st : State S) (journal : List Entry) → IsLegalFrom setup st journal → IsCounted setup pages entries st → (n : ℕ) × IsCounted setup pages n (run setup st journal)
  counted_from entries st [] legal c = (entries, c)
  counted_from entries st (e ∷ journal) legal c = counted_from (entries + 1) (after setup st e) journal legal.1 (counted_next setup pages entries st e c legal.0)

  counted : (journal : List Entry) → IsLegal setup journal → (n : ℕ) × IsCounted setup pages n (replay setup journal)
  counted journal legal = counted_from 0 (start setup) journal legal start_counted

-- Ports at which pages stand.

port_below : (j : ℕ) (b : Bool) → nat_lt j 8 && b ≡ true → j < 2 ^ 8
port_below j b e = (let t : nat_lt j 8 ≡ true = (both (nat_lt j 8) b e).0 in grind (arith, nat_tests))

some_same : {X : Type 0} (x y : X) → Some x ≡ Some y → x ≡ y
some_same x y e = cc

none_some : {X : Type 0} (x : X) → None ≡ Some x → ⊥
none_some x e = cc

module _ {S : Type 0} (setup : Setup S) (st : State S) (sound : links.IsSound setup) (w : IsWhole setup st) where
  reads_fit : (i : ℕ) (p : PageState) (j : ℕ) → st.pages i ≡ Some p → (turn p.core).end ≡ AtRead (record { 0 = j }) → is_linked_in setup.tables i j ≡ true
  reads_fit i p j e end =
      let h : HasPath setup st i p = has_path setup st i p e w.traced in
      let es : List Event = family_of st.history (OperatorNode (setup.number i)) in
      let l : Leads next h.core (p.steps + (turn p.core).steps) (es ++ []) (turn p.core).core = leads_append next h.core p.core (turn p.core).core p.steps (turn p.core).steps es [] h.path (turn_leads p.core) in
      let n : EndsAt (AtRead (record { 0 = j })) (turn p.core).core = subst (λ (x : TurnEnd). EndsAt x (turn p.core).core) end (turn_ends p.core) in
      sound.page_reads i h.core (turn p.core).core _ _ j n.0 h.there l n.1

  by_end : (i : ℕ) (p : PageState) (end : Option TurnEnd) (at : Blocked) → st.pages i ≡ Some p → p.end ≡ end → blocked_by end ≡ Some at → at.port.0 < 2 ^ 8
  by_end i p None at e f b = absurd (none_some at b)
  by_end i p (Some (AtRead j)) at e f b =
      let s : j.0 < 2 ^ 8 = port_below j.0 _ (reads_fit i p j.0 e (ap (λ t. t.end) ((w.steady.page i p e).at_read j f))) in
      subst (λ (x : Blocked). x.port.0 < 2 ^ 8) (some_same _ at b) s
  by_end i p (Some (AtWrite k word)) at e f b =
      let s : k.0 < 2 ^ 8 = port_below k.0 _ (ports_fit setup st sound w.traced i p k word e (ap (λ t. t.end) ((w.steady.page i p e).at_write k word f))) in
      subst (λ (x : Blocked). x.port.0 < 2 ^ 8) (some_same _ at b) s
  by_end i p (Some Ended) at e f b = absurd (none_some at b)
  by_end i p (Some Limit) at e f b = absurd (none_some at b)

  by_page : (i : ℕ) (o : Option PageState) (at : Blocked) → st.pages i ≡ o → page_blocked o ≡ Some at → at.port.0 < 2 ^ 8
  by_page i None at e b = absurd (none_some at b)
  by_page i (Some p) at e b = by_end i p p.end at e refl b

  byte_ports : HasBytePorts (shown setup st)
  byte_ports k at b = go (is_some (setup.image k)) b
    where
      go : (t : Bool) → page_blocked (if t then st.pages (setup.leaf_of k) else None) ≡ Some at → at.port.0 < 2 ^ 8
      go true h = by_page (setup.leaf_of k) (st.pages (setup.leaf_of k)) at refl h
      go false h = absurd (none_some at h)

module _ {S : Type 0} (net : Carrier S) (plan : PlanValue) (operators : List Process) (most : ℕ) (journal : List Entry) (design : IsDesign plan operators) (well : RunsWell (setup_of net plan) most) (legal : IsLegal (setup_of net plan) journal) where
  abbrev setup : Setup S
  setup = setup_of net plan

  abbrev st : State S
  st = replay setup journal

  sound : links.IsSound setup
  sound = links_sound net plan operators design

  whole : IsWhole setup st
  whole = run_whole setup most journal sound well legal

  abbrev images : Network
  images = page_network setup (links.wiring_of setup)

  reached : IsReached plan.window images (family_of st.history)
  reached =
      let windows : AfterEach (KeepsWindow plan.window images.wiring) st.history = windows_of setup st whole.world in
      record {
        history = st.history;
        each_consistent = each_follows plan.window images (images_kahn net plan operators design) st.history windows (follows setup images.wiring st sound whole.traced);
        ends_here = refl;
      }

  pub has_outs : HasOuts plan.rounds (shown (setup_of net plan) (replay (setup_of net plan) journal))
  has_outs =
      let c = (counted setup journal legal).1 in
      record {
        made = c.rounds;
        few = λ k. omega (arith, c.outs k, c.rounds);
        words = λ k. reads_words plan.window images (network plan operators) (carried net plan operators design) (family_of st.history) reached (OutputNode k) 0;
      }

  pub has_byte_ports : HasBytePorts (shown (setup_of net plan) (replay (setup_of net plan) journal))
  has_byte_ports = byte_ports setup st sound whole
