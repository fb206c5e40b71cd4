-- What a board keeps goes on showing the state of the run.
use Rattle.std.proofs.Common.{◌≡◌, ℕ, ◌<◌, Bool, true, false, List, length, refl, ap, sym, ◌∙◌, Option, Some, None, subst}
use Rattle.std.specs.Prelude.{if◌then◌else◌, is_some}
use Rattle.net_tree.specs.Links.{Links}
use Rattle.leaf_port.specs.Leaf.{LeafState, wrote, took, can_write, next_word}
use Rattle.pld_base.specs.declared.event.Event.{Event}
use Rattle.pld_base.specs.declared.event.Event.TheVariants.{Read, Write}
use Rattle.pld_base.specs.Events.{words_read}
use Rattle.pld_base.specs.Channels.{NodeEvent, OperatorNode, InputNode, OutputNode, family_of}
use Rattle.pld_image.specs.Cores.{Core, after_read, after_write}
use Rattle.pld_image.specs.declared.page.TurnEnd.{TurnEnd}
use Rattle.pld_image.specs.declared.page.TurnEnd.TheVariants.{AtRead, AtWrite, Ended, Limit}
use Rattle.fabric_run.specs.Turns.{turn}
use Rattle.fabric_run.specs.World.{Setup, State, PageState, placed, returned, happened, given, given_at, read_given, write_given}
use Rattle.leaf_net.specs.Net.{NetState, net_size, leaf_at, written, read_at}
use Rattle.leaf_net.proofs.Showing.{stays, writes, reads}
use Rattle.fabric_pages.specs.declared.pages.Pages.{Pages}
use Rattle.fabric_pages.specs.Slots.{ShowsPages}
use Rattle.fabric_core.specs.Words.{OutWords}
use Rattle.fabric_core.specs.declared.board.Board.{Board}
use Rattle.fabric_core.specs.Boards.{Shows, ShowsHost}

-- The host's part.

-- events of pages, and none, change nothing of it
pub host_stays : (setup : Setup Links) (st st' : State Links) (sent : List ℕ) (outs : List OutWords) → st'.history ≡ st.history → ShowsHost setup st sent outs → ShowsHost setup st' sent outs
host_stays setup st st' sent outs e h = record {
  inputs = h.inputs;
  sends = λ k l. h.sends k l ∙ ap (λ (x : List NodeEvent). length (family_of x (InputNode k))) (sym e);
  outputs = h.outputs;
  gets = λ j l. h.gets j l ∙ ap (λ (x : List NodeEvent). words_read (family_of x (OutputNode j)) 0) (sym e);
}

page_event : (setup : Setup Links) (st : State Links) (sent : List ℕ) (outs : List OutWords) (i number : ℕ) (leaf : LeafState) (event : Event) → ShowsHost setup st sent outs → ShowsHost setup (happened st i leaf (OperatorNode number) event) sent outs
page_event setup st sent outs i number leaf event h = record {
  inputs = h.inputs;
  sends = λ k l. h.sends k l;
  outputs = h.outputs;
  gets = λ j l. h.gets j l;
}

-- Pages.

abbrev with_pages : State Links → (ℕ → Option PageState) → State Links
with_pages st pages = record st { pages = pages }

module _ (setup : Setup Links) (st : State Links) (b : Board) (s : Shows setup st b) where
  -- pages alone change
  pub pages_change : (pages : ℕ → Option PageState) (kept : Pages) (lively : ℕ) → ShowsPages setup.size pages kept → Shows setup (with_pages st pages) (record b { pages = kept; lively = lively })
  pages_change pages kept lively h = record {
    net = stays setup st (with_pages st pages) b.net refl refl refl refl refl refl s.net;
    pages = h;
    host = host_stays setup st (with_pages st pages) b.sent.items b.outs.items refl s.host;
  }

  -- a page has read, or written
  pub page_reads : (pages : ℕ → Option PageState) (kept : Pages) (lively leaf port number word : ℕ) → leaf < net_size b.net → ShowsPages setup.size pages kept
      → Shows setup (happened (with_pages st pages) leaf (took (st.leaves leaf) port) (OperatorNode number) (Read (record { 0 = port }) word)) (record b { net = read_at b.net leaf port; pages = kept; lively = lively })
  page_reads pages kept lively leaf port number word l h = record {
    net = reads setup (with_pages st pages) b.net leaf port (OperatorNode number) (Read (record { 0 = port }) word) l (stays setup st (with_pages st pages) b.net refl refl refl refl refl refl s.net);
    pages = h;
    host = page_event setup (with_pages st pages) b.sent.items b.outs.items leaf number (took (st.leaves leaf) port) (Read (record { 0 = port }) word) (host_stays setup st (with_pages st pages) b.sent.items b.outs.items refl s.host);
  }

  pub page_writes : (pages : ℕ → Option PageState) (kept : Pages) (lively leaf port number word : ℕ) → leaf < net_size b.net → ShowsPages setup.size pages kept
      → Shows setup (happened (with_pages st pages) leaf (wrote (st.leaves leaf) port word) (OperatorNode number) (Write (record { 0 = port }) word)) (record b { net = written b.net leaf port word; pages = kept; lively = lively })
  page_writes pages kept lively leaf port number word l h = record {
    net = writes setup (with_pages st pages) b.net leaf port word (OperatorNode number) (Write (record { 0 = port }) word) l (stays setup st (with_pages st pages) b.net refl refl refl refl refl refl s.net);
    pages = h;
    host = page_event setup (with_pages st pages) b.sent.items b.outs.items leaf number (wrote (st.leaves leaf) port word) (Write (record { 0 = port }) word) (host_stays setup st (with_pages st pages) b.sent.items b.outs.items refl s.host);
  }

  -- a page comes home from a turn that ended at a read
  pub read_done : (leaf port word lively : ℕ) (p : PageState) (core : Core) (n : NetState) (kept : Pages) → leaf < net_size b.net → Some word ≡ next_word (leaf_at b.net leaf) port
      → n ≡ (if is_some (next_word (leaf_at b.net leaf) port) then read_at b.net leaf port else b.net) → core ≡ after_read (turn p.core).core word → ShowsPages setup.size (placed st.pages leaf (returned p (turn p.core) core None)) kept
      → Shows setup (read_given setup st leaf p (turn p.core) port (next_word (st.leaves leaf) port)) (record b { net = n; pages = kept; lively = lively })
  read_done leaf port word lively p core n kept l there is after h =
      let found : next_word (st.leaves leaf) port ≡ Some word = ap (λ (x : LeafState). next_word x port) (sym (s.net.leaves leaf l)) ∙ sym there in
      let same : n ≡ read_at b.net leaf port = is ∙ ap (λ (o : Option ℕ). if is_some o then read_at b.net leaf port else b.net) (sym there) in
      subst (λ (o : Option ℕ). Shows setup (read_given setup st leaf p (turn p.core) port o) (record b { net = n; pages = kept; lively = lively })) (sym found)
      (subst (λ (m : NetState). Shows setup (read_given setup st leaf p (turn p.core) port (Some word)) (record b { net = m; pages = kept; lively = lively })) (sym same)
      (page_reads (placed st.pages leaf (returned p (turn p.core) (after_read (turn p.core).core word) None)) kept lively leaf port (setup.number leaf) word l
      (subst (λ (x : Core). ShowsPages setup.size (placed st.pages leaf (returned p (turn p.core) x None)) kept) after h)))

  pub read_waits : (leaf port lively : ℕ) (p : PageState) (core : Core) (n : NetState) (kept : Pages) → leaf < net_size b.net → None ≡ next_word (leaf_at b.net leaf) port
      → n ≡ (if is_some (next_word (leaf_at b.net leaf) port) then read_at b.net leaf port else b.net) → core ≡ (turn p.core).core → ShowsPages setup.size (placed st.pages leaf (returned p (turn p.core) core (Some (AtRead (record { 0 = port }))))) kept
      → Shows setup (read_given setup st leaf p (turn p.core) port (next_word (st.leaves leaf) port)) (record b { net = n; pages = kept; lively = lively })
  read_waits leaf port lively p core n kept l there is after h =
      let found : next_word (st.leaves leaf) port ≡ None = ap (λ (x : LeafState). next_word x port) (sym (s.net.leaves leaf l)) ∙ sym there in
      let same : n ≡ b.net = is ∙ ap (λ (o : Option ℕ). if is_some o then read_at b.net leaf port else b.net) (sym there) in
      subst (λ (o : Option ℕ). Shows setup (read_given setup st leaf p (turn p.core) port o) (record b { net = n; pages = kept; lively = lively })) (sym found)
      (subst (λ (m : NetState). Shows setup (read_given setup st leaf p (turn p.core) port None) (record b { net = m; pages = kept; lively = lively })) (sym same)
      (pages_change (placed st.pages leaf (returned p (turn p.core) (turn p.core).core (Some (AtRead (record { 0 = port }))))) kept lively
      (subst (λ (x : Core). ShowsPages setup.size (placed st.pages leaf (returned p (turn p.core) x (Some (AtRead (record { 0 = port }))))) kept) after h)))

  -- and from one that ended at a write
  pub write_done : (leaf port word lively : ℕ) (p : PageState) (core : Core) (n : NetState) (kept : Pages) → leaf < net_size b.net → true ≡ can_write (leaf_at b.net leaf) port
      → n ≡ (if can_write (leaf_at b.net leaf) port then written b.net leaf port word else b.net) → core ≡ after_write (turn p.core).core → ShowsPages setup.size (placed st.pages leaf (returned p (turn p.core) core None)) kept
      → Shows setup (write_given setup st leaf p (turn p.core) port word (can_write (st.leaves leaf) port)) (record b { net = n; pages = kept; lively = lively })
  write_done leaf port word lively p core n kept l may is after h =
      let found : can_write (st.leaves leaf) port ≡ true = ap (λ (x : LeafState). can_write x port) (sym (s.net.leaves leaf l)) ∙ sym may in
      let same : n ≡ written b.net leaf port word = is ∙ ap (λ (t : Bool). if t then written b.net leaf port word else b.net) (sym may) in
      subst (λ (t : Bool). Shows setup (write_given setup st leaf p (turn p.core) port word t) (record b { net = n; pages = kept; lively = lively })) (sym found)
      (subst (λ (m : NetState). Shows setup (write_given setup st leaf p (turn p.core) port word true) (record b { net = m; pages = kept; lively = lively })) (sym same)
      (page_writes (placed st.pages leaf (returned p (turn p.core) (after_write (turn p.core).core) None)) kept lively leaf port (setup.number leaf) word l
      (subst (λ (x : Core). ShowsPages setup.size (placed st.pages leaf (returned p (turn p.core) x None)) kept) after h)))

  pub write_waits : (leaf port word lively : ℕ) (p : PageState) (core : Core) (n : NetState) (kept : Pages) → leaf < net_size b.net → false ≡ can_write (leaf_at b.net leaf) port
      → n ≡ (if can_write (leaf_at b.net leaf) port then written b.net leaf port word else b.net) → core ≡ (turn p.core).core → ShowsPages setup.size (placed st.pages leaf (returned p (turn p.core) core (Some (AtWrite (record { 0 = port }) word)))) kept
      → Shows setup (write_given setup st leaf p (turn p.core) port word (can_write (st.leaves leaf) port)) (record b { net = n; pages = kept; lively = lively })
  write_waits leaf port word lively p core n kept l may is after h =
      let found : can_write (st.leaves leaf) port ≡ false = ap (λ (x : LeafState). can_write x port) (sym (s.net.leaves leaf l)) ∙ sym may in
      let same : n ≡ b.net = is ∙ ap (λ (t : Bool). if t then written b.net leaf port word else b.net) (sym may) in
      subst (λ (t : Bool). Shows setup (write_given setup st leaf p (turn p.core) port word t) (record b { net = n; pages = kept; lively = lively })) (sym found)
      (subst (λ (m : NetState). Shows setup (write_given setup st leaf p (turn p.core) port word false) (record b { net = m; pages = kept; lively = lively })) (sym same)
      (pages_change (placed st.pages leaf (returned p (turn p.core) (turn p.core).core (Some (AtWrite (record { 0 = port }) word)))) kept lively
      (subst (λ (x : Core). ShowsPages setup.size (placed st.pages leaf (returned p (turn p.core) x (Some (AtWrite (record { 0 = port }) word)))) kept) after h)))

  -- a page comes home from any turn
  pub given_by : (leaf : ℕ) (p : PageState) (end : TurnEnd) (b' : Board) → st.pages leaf ≡ Some p → end ≡ (turn p.core).end → Shows setup (given_at setup st leaf p (turn p.core) end) b' → Shows setup (given setup st leaf (st.pages leaf)) b'
  given_by leaf p end b' there is h =
      subst (λ (o : Option PageState). Shows setup (given setup st leaf o) b') (sym there) (subst (λ (e : TurnEnd). Shows setup (given_at setup st leaf p (turn p.core) e) b') is h)

  pub end_done : (leaf lively : ℕ) (p : PageState) (core : Core) (kept : Pages) → core ≡ (turn p.core).core → ShowsPages setup.size (placed st.pages leaf (returned p (turn p.core) core (Some Ended))) kept
      → Shows setup (given_at setup st leaf p (turn p.core) Ended) (record b { pages = kept; lively = lively })
  end_done leaf lively p core kept after h =
      pages_change (placed st.pages leaf (returned p (turn p.core) (turn p.core).core (Some Ended))) kept lively (subst (λ (x : Core). ShowsPages setup.size (placed st.pages leaf (returned p (turn p.core) x (Some Ended))) kept) after h)

  pub limit_done : (leaf lively : ℕ) (p : PageState) (core : Core) (kept : Pages) → core ≡ (turn p.core).core → ShowsPages setup.size (placed st.pages leaf (returned p (turn p.core) core None)) kept
      → Shows setup (given_at setup st leaf p (turn p.core) Limit) (record b { pages = kept; lively = lively })
  limit_done leaf lively p core kept after h =
      pages_change (placed st.pages leaf (returned p (turn p.core) (turn p.core).core None)) kept lively (subst (λ (x : Core). ShowsPages setup.size (placed st.pages leaf (returned p (turn p.core) x None)) kept) after h)
