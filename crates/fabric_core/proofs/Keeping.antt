-- What holds of a run that is kept, and how it goes on.
use Rattle.std.proofs.Common.{◌≡◌, ℕ, zero, suc, ◌+◌, ◌^◌, ◌<◌, ◌≤◌, Bool, true, false, List, [], ◌∷◌, ◌++◌, length, refl, ap, sym, ◌∙◌, arith, Option, Some, None, subst, length-append}
use Rattle.std.proofs.Common.{lit≤}
use Rattle.std.specs.Prelude.{◌&&◌, nat_lt}
use Rattle.std.proofs.lemmas.Bool.Decides.{nat_tests}
use Rattle.net_tree.specs.Links.{Links}
use Rattle.pld_base.specs.declared.event.PortNo.{PortNo}
use Rattle.pld_base.specs.declared.event.Event.{Event}
use Rattle.pld_base.specs.Channels.{OperatorNode, family_of}
use Rattle.pld_image.specs.declared.page.TurnEnd.{TurnEnd}
use Rattle.pld_image.specs.declared.page.TurnEnd.TheVariants.{AtRead, AtWrite, Ended, Limit}
use Rattle.fabric_run.specs.declared.entry.Entry.{Entry}
use Rattle.fabric_run.specs.Turns.{turn}
use Rattle.fabric_run.specs.Plan.{PlanValue, IsSound, size_of}
use Rattle.fabric_run.specs.World.{Setup, State, PageState, start}
use Rattle.fabric_run.specs.Replay.{may, after, replay}
use Rattle.fabric_keeps.specs.Links as links
use Rattle.fabric_keeps.specs.Links.{is_linked_in, is_linked_out}
use Rattle.hot_swap.specs.Paths.{Leads}
use Rattle.fabric_keeps.proofs.Base.{both}
use Rattle.fabric_keeps.specs.Whole.{IsWhole}
use Rattle.fabric_keeps.proofs.Legal.{run_more, legal_more}
use Rattle.hot_swap.proofs.Walks.{leads_append}
use Rattle.fabric_keeps.proofs.Walks.{turn_leads, turn_ends, EndsAt}
use Rattle.fabric_keeps.proofs.Whole.{HasPath, has_path, ports_fit}
use Rattle.fabric_run.specs.Trees.{tree_setup}
use Rattle.fabric_pages.specs.declared.slot.PageSlot.{PageSlot}
use Rattle.fabric_pages.specs.Slots.{IsPlaceOf}
use Rattle.fabric_pages.specs.Counted.{IsCounted}
use Rattle.fabric_pages.proofs.Counting.{has_room, counted_next}
use Rattle.fabric_core.specs.declared.board.Board.{Board}
use Rattle.fabric_core.specs.Boards.{Shows, HaveRoom, HostFits, SlotsFit, IsPort}
use Rattle.fabric_core.specs.Runs.{room}
use Rattle.fabric_core.specs.Kept.{IsKept}
use Rattle.fabric_tree.proofs.Closing as closing
use Rattle.pld_image.specs.Cores.{next}

pub pow_few : (d : ℕ) → d ≤ 6 → 2 ^ d ≤ 64
pow_few zero l = lit≤ tt
pow_few (suc zero) l = lit≤ tt
pow_few (suc (suc zero)) l = lit≤ tt
pow_few (suc (suc (suc zero))) l = lit≤ tt
pow_few (suc (suc (suc (suc zero)))) l = lit≤ tt
pow_few (suc (suc (suc (suc (suc zero))))) l = lit≤ tt
pow_few (suc (suc (suc (suc (suc (suc zero)))))) l = lit≤ tt
pow_few (suc (suc (suc (suc (suc (suc (suc d))))))) l = absurd (omega arith)

pub size_few : (plan : PlanValue) → IsSound plan → size_of plan ≤ 64
size_few plan sound = pow_few plan.depth sound.depth.1

-- Ports at which pages stand.

port_below : (j : ℕ) (b : Bool) → nat_lt j 8 && b ≡ true → j < 8
port_below j b e = (let t : nat_lt j 8 ≡ true = (both (nat_lt j 8) b e).0 in grind (arith, nat_tests))

module _ (setup : Setup Links) (st : State Links) (sound : links.IsSound setup) (w : IsWhole setup st) where
  reads_fit : (i : ℕ) (p : PageState) (k : PortNo) → st.pages i ≡ Some p → (turn p.core).end ≡ AtRead k → is_linked_in setup.tables i k.0 ≡ true
  reads_fit i p k e end =
      let h : HasPath setup st i p = has_path setup st i p e w.traced in
      let es : List Event = family_of st.history (OperatorNode (setup.number i)) in
      let l : Leads next h.core (p.steps + (turn p.core).steps) (es ++ []) (turn p.core).core = leads_append next h.core p.core (turn p.core).core p.steps (turn p.core).steps es [] h.path (turn_leads p.core) in
      let n : EndsAt (AtRead k) (turn p.core).core = subst (λ (x : TurnEnd). EndsAt x (turn p.core).core) end (turn_ends p.core) in
      sound.page_reads i h.core (turn p.core).core _ _ k.0 n.0 h.there l n.1

  pub page_ports : (i : ℕ) (p : PageState) (end : Option TurnEnd) → st.pages i ≡ Some p → p.end ≡ end → IsPort end
  page_ports i p None e f = tt
  page_ports i p (Some (AtRead k)) e f =
      port_below k.0 _ (reads_fit i p k e (ap (λ t. t.end) ((w.steady.page i p e).at_read k f)))
  page_ports i p (Some (AtWrite k word)) e f =
      port_below k.0 _ (ports_fit setup st sound w.traced i p k word e (ap (λ t. t.end) ((w.steady.page i p e).at_write k word f)))
  page_ports i p (Some Ended) e f = tt
  page_ports i p (Some Limit) e f = tt

module _ (plan : PlanValue) (journal : List Entry) (b : Board) (k : IsKept plan journal b) where
  abbrev setup : Setup Links
  setup = tree_setup plan

  abbrev now : State Links
  now = replay (tree_setup plan) journal

  pub sound : links.IsSound (tree_setup plan)
  sound = closing.sound plan k.sound

  pub whole : IsWhole (tree_setup plan) (replay (tree_setup plan) journal)
  whole = closing.whole plan k.sound journal k.legal

  pub host_fits : HostFits plan b
  host_fits = record { inputs = k.shows.host.inputs; outputs = k.shows.host.outputs; few = k.sound.hosts }

  place_ports : (i : ℕ) (slot : PageSlot) (o : Option PageState) → now.pages i ≡ o → IsPlaceOf slot o → slot.there ≡ true → IsPort slot.end
  place_ports i slot None e h there = absurd (let x : true ≡ false = sym there ∙ h in cc)
  place_ports i slot (Some p) e h there = subst IsPort (sym h.end) (page_ports setup now sound whole i p p.end e refl)

  pub slots_fit : SlotsFit b
  slots_fit = record {
    same = k.shows.pages.many ∙ k.shows.net.size;
    few = omega (arith, k.shows.pages.many, size_few plan k.sound);
    ports = λ i slot e there. place_ports i slot (now.pages i) refl (k.shows.pages.each i slot e) there;
  }

  -- the next entry
  pub next_kept : (e : Entry) (b' : Board) → may setup now e ≡ true → Shows setup (after setup now e) b' → HaveRoom (plan.rounds + 1) b' → IsKept plan (journal ++ e ∷ []) b'
  next_kept e b' m s r =
      let same : replay setup (journal ++ e ∷ []) ≡ after setup now e = run_more setup (start setup) journal e in
      record {
        sound = k.sound;
        legal = legal_more setup (start setup) journal e k.legal m;
        shows = subst (λ (x : State Links). Shows setup x b') (sym same) s;
        counted = subst (λ (x : State Links). IsCounted setup (length plan.pages) (length (journal ++ e ∷ [])) x) (sym same)
            (subst (λ (n : ℕ). IsCounted setup (length plan.pages) n (after setup now e)) (let f : length journal + 1 ≡ length (journal ++ e ∷ []) = omega (arith, length-append journal (e ∷ [])) in f)
            (counted_next setup (length plan.pages) (length journal) now e k.counted m));
        rooms = r;
      }

  -- there is room for it
  pub next_fits : (e : Entry) → may setup now e ≡ true → length journal < room plan
  next_fits e m = has_room setup (length plan.pages) (length journal) now e k.counted m
