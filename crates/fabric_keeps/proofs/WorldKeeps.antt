-- Each legal entry keeps the account, the side facts and the windows.
use Rattle.std.proofs.Common.{◌≡◌, ℕ, zero, suc, ◌+◌, ◌<◌, ◌≤◌, Bool, true, false, List, [], refl, ap, sym, ◌∙◌, arith, Option, Some, None, subst, inl, inr}
use Rattle.std.specs.Prelude.{if◌then◌else◌, ◌==◌, nat_lt}
use Rattle.std.specs.List.{sum_by}
use Rattle.net_switch.specs.declared.packet.Packet.{Packet}
use Rattle.leaf_port.specs.declared.tables.ConfigEntry.{ConfigEntry}
use Rattle.leaf_port.specs.Leaf.{LeafState, out_port, in_port, can_write, next_word, wrote, took, offered}
use Rattle.net_tree.specs.Links.{sum_to}
use Rattle.channel_account.specs.Network.{put, node_wrote, node_took}
use Rattle.channel_account.specs.Network.{Accounted}
use Rattle.pld_base.specs.declared.event.PortNo.{PortNo}
use Rattle.channel_account.proofs.Steps.{Balanced, write_keeps, read_keeps}
use Rattle.pld_base.specs.declared.event.Event.TheVariants.{Read, Write}
use Rattle.pld_image.specs.declared.page.TurnEnd.{TurnEnd}
use Rattle.pld_image.specs.declared.page.TurnEnd.TheVariants.{AtRead, AtWrite, Ended, Limit}
use Rattle.fabric_run.specs.Turns.{Turned, turn}
use Rattle.fabric_run.specs.World.{Rows, Setup, State, PageState, placed, each_to, happened, next_feed, sent_by, send, received_by, receive, hosted, is_configured, taken_in, entry_for, entries_after, offer_of, arrived, moved, round, read_given, write_given, given_at, given, ready}
use Rattle.fabric_run.specs.Replay.{is_held_by, may, after}
use Rattle.fabric_run.specs.declared.entry.Entry.{Entry}
use Rattle.fabric_run.specs.declared.entry.Entry.TheVariants.{Take, Give, Net as NetEntry}
use Rattle.net_switch.specs.Switch.{weighs}
use Rattle.fabric_keeps.specs.Facts.{Carries}
use Rattle.fabric_keeps.specs.Links.{is_linked_in, is_linked_out, is_body_for, IsAt, out_node, in_node, node_port, net_node, net_of, IsSound, IsRunning}
use Rattle.fabric_keeps.proofs.Base.{both, lt_true, sum_le, sum_zero, placed_here, placed_other}
use Rattle.fabric_keeps.proofs.Base.{same_or}
use Rattle.fabric_keeps.proofs.Steps.{ready_keeps}
use Rattle.fabric_keeps.proofs.Accounting.{nodes_same, round_accounted}
use Rattle.fabric_keeps.specs.Parts.{BeforeRound, next_offer}
use Rattle.fabric_keeps.proofs.AtLeaf.{took_at, wrote_at, delivered_at, round_at, stray, not_stray, offer_stray}
use Rattle.fabric_keeps.proofs.Happening.{write_happened, read_happened}
use Rattle.fabric_keeps.proofs.Windows.{read_window, write_window}

placed_at : (window : ℕ) (tables : Rows) (leaves : ℕ → LeafState) (i : ℕ) (s : LeafState) (size : ℕ) → IsAt window tables i s → ((x : ℕ) → x < size → IsAt window tables x (leaves x)) → (x : ℕ) → x < size → IsAt window tables x (placed leaves i s x)
placed_at window tables leaves i s size h a x l =
    elim (same_or x i (x == i) refl) [
      | inl e ↦ subst (λ (y : ℕ). IsAt window tables y (placed leaves i s x)) (sym e) (subst (IsAt window tables i) (sym (ap (placed leaves i s) e ∙ placed_here leaves i s)) h)
      | inr n ↦ subst (IsAt window tables x) (sym (placed_other leaves i s x n)) (a x l)
    ]

-- the account of each channel, and the window of both its ends
pub balanced : {S : Type 0} (setup : Setup S) (st : State S) → IsRunning setup st → Balanced setup.window setup.tables (net_of setup st)
balanced setup st h e link = (h.accounted e link).account

pub accounted : {S : Type 0} (setup : Setup S) (st : State S) → IsSound setup → ((i : ℕ) → i < setup.size → IsAt setup.window setup.tables i (st.leaves i)) → Balanced setup.window setup.tables (net_of setup st) → Accounted setup.window setup.tables (net_of setup st)
accounted setup st sound at a e link =
    let b = sound.below e link in
    record { from_window = (at e.from b.0).width; to_window = (at e.to b.1).width; account = a e link }

-- a write, and a read
pub write_world : {S : Type 0} (setup : Setup S) (st : State S) (i k w : ℕ) → IsSound setup → i < setup.size → is_linked_out setup.tables i k ≡ true → can_write (st.leaves i) k ≡ true
    → IsRunning setup st → IsRunning setup (happened st i (wrote (st.leaves i) k w) (out_node setup.number i k) (Write (record { 0 = node_port i k }) w))
write_world setup st i k w sound l linked can h =
    let credit : 0 < (out_port (st.leaves i) k).credits = lt_true 0 (out_port (st.leaves i) k).credits can in
    let below : k < 8 = lt_true k 8 (both (nat_lt k 8) _ linked).0 in
    let at : (x : ℕ) → x < setup.size → IsAt setup.window setup.tables x (placed st.leaves i (wrote (st.leaves i) k w) x) =
    placed_at setup.window setup.tables st.leaves i (wrote (st.leaves i) k w) setup.size (wrote_at setup.window setup.tables i (st.leaves i) k w linked (h.leaf i l)) h.leaf in
    record {
      accounted = accounted setup (happened st i (wrote (st.leaves i) k w) (out_node setup.number i k) (Write (record { 0 = node_port i k }) w)) sound at
          (nodes_same setup.window setup.tables setup.size (put (net_node setup st) i (node_wrote k w (net_node setup st i))) (net_node setup (happened st i (wrote (st.leaves i) k w) (out_node setup.number i k) (Write (record { 0 = node_port i k }) w))) (setup.net.under st.carrier) sound.below
          (λ x _. write_happened setup sound.apart st i k w x)
          (write_keeps setup.window setup.tables (net_of setup st) i k w (omega (arith, (h.leaf i l).outs)) credit (λ e link. (h.accounted e link).from_window) (balanced setup st h)));
      leaf = at;
      for_ends = h.for_ends;
      no_entries = h.no_entries;
      window = write_window setup st i k w sound (balanced setup st h) credit h.window;
    }

pub read_world : {S : Type 0} (setup : Setup S) (st : State S) (i j w : ℕ) → IsSound setup → i < setup.size → next_word (st.leaves i) j ≡ Some w
    → IsRunning setup st → IsRunning setup (happened st i (took (st.leaves i) j) (in_node setup.number i j) (Read (record { 0 = node_port i j }) w))
read_world setup st i j w sound l word h =
    let linked : is_linked_in setup.tables i j ≡ true = (h.leaf i l).full j (in_port (st.leaves i) j).next w word in
    let below : j < 8 = lt_true j 8 (both (nat_lt j 8) _ linked).0 in
    let at : (x : ℕ) → x < setup.size → IsAt setup.window setup.tables x (placed st.leaves i (took (st.leaves i) j) x) =
    placed_at setup.window setup.tables st.leaves i (took (st.leaves i) j) setup.size (took_at setup.window setup.tables i (st.leaves i) j w word (h.leaf i l)) h.leaf in
    record {
      accounted = accounted setup (happened st i (took (st.leaves i) j) (in_node setup.number i j) (Read (record { 0 = node_port i j }) w)) sound at
          (nodes_same setup.window setup.tables setup.size (put (net_node setup st) i (node_took j w (net_node setup st i))) (net_node setup (happened st i (took (st.leaves i) j) (in_node setup.number i j) (Read (record { 0 = node_port i j }) w))) (setup.net.under st.carrier) sound.below
          (λ x _. read_happened setup sound.apart st i j w x)
          (read_keeps setup.window setup.tables (net_of setup st) i j w (omega (arith, (h.leaf i l).ins)) word (λ e link. (h.accounted e link).to_window) (balanced setup st h)));
      leaf = at;
      for_ends = h.for_ends;
      no_entries = h.no_entries;
      window = read_window setup st i j w sound (balanced setup st h) linked word h.window;
    }

-- The host's part.

each_below : {A : Type 0} (P : A → Type 0) (n : ℕ) (go : ℕ → A → A) (x : A) → ((k : ℕ) (y : A) → k < n → P y → P (go k y)) → P x → P (each_to n go x)
each_below P zero go x h p = p
each_below P (suc n) go x h p = h n (each_to n go x) (omega arith) (each_below P n go x (λ k y l. h k y (omega arith)) p)

send_world : {S : Type 0} (setup : Setup S) (st : State S) (k : ℕ) (o : Option ℕ) (b : Bool) → IsSound setup → is_linked_out setup.tables 0 k ≡ true → can_write (st.leaves 0) k ≡ b → IsRunning setup st → IsRunning setup (sent_by st k o b)
send_world setup st k None b sound linked can h = h
send_world setup st k (Some w) false sound linked can h = h
send_world setup st k (Some w) true sound linked can h = write_world setup st 0 k w sound sound.some linked can h

receive_world : {S : Type 0} (setup : Setup S) (st : State S) (j : ℕ) (o : Option ℕ) → IsSound setup → next_word (st.leaves 0) j ≡ o → IsRunning setup st → IsRunning setup (received_by st j o)
receive_world setup st j None sound word h = h
receive_world setup st j (Some w) sound word h = read_world setup st 0 j w sound sound.some word h

pub hosted_world : {S : Type 0} (setup : Setup S) (st : State S) → IsSound setup → IsRunning setup st → IsRunning setup (hosted setup st)
hosted_world setup st sound h =
    each_below (IsRunning setup) setup.outputs receive (each_to setup.inputs (send setup) st) (λ j x l p. receive_world setup x j (next_word (x.leaves 0) j) sound refl p)
    (each_below (IsRunning setup) setup.inputs (send setup) st (λ k x l p. send_world setup x k (next_feed setup x k) (can_write (x.leaves 0) k) sound (sound.inputs k l) refl p) h)

ready_world_at : {S : Type 0} (setup : Setup S) (st : State S) (b : Bool) → IsSound setup → IsRunning setup st → IsRunning setup (if b then hosted setup st else st)
ready_world_at setup st true sound h = hosted_world setup st sound h
ready_world_at setup st false sound h = h

-- Parts 2 to 4.

entry_none : (i : ℕ) (es : List ConfigEntry) → es ≡ [] → entry_for i es ≡ None
entry_none zero es e = ap (entry_for 0) e
entry_none (suc i) es e = refl

entries_none : (back : Option Packet) → entries_after back [] ≡ []
entries_none None = refl
entries_none (Some p) = refl

pub moved_world : {S : Type 0} (setup : Setup S) (st : State S) → IsSound setup → ((i : ℕ) → i < setup.size → (st.leaves i).back ≡ None) → Carries setup st → IsRunning setup st → IsRunning setup (moved setup st)
moved_world setup st sound back c h =
    let size : ℕ = setup.size in
    let arrival : ℕ → Option Packet = λ i. setup.net.arrival st.carrier i in
    let none : sum_to size (λ i. weighs (stray setup.tables) (arrival i)) ≡ 0 = omega (arith, c.came (stray setup.tables), h.for_ends) in
    let fits : (i : ℕ) → i < size → (p : Packet) → arrival i ≡ Some p → is_body_for setup.tables p.to.0 p.body ≡ true =
    λ i l p e. not_stray setup.tables p (sym (ap (weighs (stray setup.tables)) e) ∙ sum_zero size (λ j. weighs (stray setup.tables) (arrival j)) none i l) in
    let same : (i : ℕ) → offer_of setup st i ≡ offered (taken_in (st.leaves i) (arrival i)) st.rounds None =
    λ i. ap (offered (taken_in (st.leaves i) (arrival i)) st.rounds) (entry_none i st.entries h.no_entries) in
    let before : BeforeRound setup.window setup.tables size st.rounds (net_node setup st) arrival = record {
      below = sound.below;
      at = h.leaf;
      back = back;
      fits = fits;
      then_at = λ i l p e to. delivered_at setup.window setup.tables i (st.leaves i) p.body (subst (λ (x : ℕ). is_body_for setup.tables x p.body ≡ true) to (fits i l p e)) (h.leaf i l);
    } in
    let goes : (g : Packet → ℕ) → sum_by g (setup.net.under (moved setup st).carrier) ≡ sum_by g c.kept + sum_to size (λ i. weighs g (next_offer st.rounds (net_node setup st) arrival i)) =
    λ g. c.goes g ∙ ap (λ (f : ℕ → LeafState × Option Packet). sum_by g c.kept + sum_to size (λ i. weighs g (f i).1)) (let p : (λ (i : ℕ). offer_of setup st i) ≡ (λ (i : ℕ). offered (taken_in (st.leaves i) (arrival i)) st.rounds None) = λ t. λ i. same i t in p) in
    let at : (i : ℕ) → i < size → IsAt setup.window setup.tables i (offer_of setup st i).0 =
    λ i l. subst (λ (x : LeafState × Option Packet). IsAt setup.window setup.tables i x.0) (sym (same i)) (round_at setup.window setup.tables i (st.leaves i) (arrival i) st.rounds (fits i l) (h.leaf i l)) in
    record {
      accounted = accounted setup (moved setup st) sound at
          (round_accounted setup.window setup.tables size st.rounds (net_node setup st) (net_node setup (moved setup st)) arrival c.kept (setup.net.under st.carrier) (setup.net.under (moved setup st).carrier) before c.came goes
          (λ i l. ap (λ (x : LeafState × Option Packet). record (net_node setup st i) { leaf = x.0 }) (same i)) (balanced setup st h));
      leaf = at;
      for_ends = (
          let some : sum_to size (λ i. weighs (stray setup.tables) (next_offer st.rounds (net_node setup st) arrival i)) ≤ sum_to size (λ i. weighs (stray setup.tables) (arrival i)) =
          sum_le size (λ i. weighs (stray setup.tables) (next_offer st.rounds (net_node setup st) arrival i)) (λ i. weighs (stray setup.tables) (arrival i)) (λ i l. offer_stray setup.window setup.tables i (st.leaves i) (arrival i) st.rounds (back i l) (fits i l) (h.leaf i l)) in
          let all : sum_by (stray setup.tables) (setup.net.under (moved setup st).carrier) ≡ 0 = omega (arith, goes (stray setup.tables), c.came (stray setup.tables), h.for_ends) in
          all);
      no_entries = ap (entries_after (arrived setup st 0).back) h.no_entries ∙ entries_none (arrived setup st 0).back;
      window = h.window;
    }

pub round_world : {S : Type 0} (setup : Setup S) (st : State S) → IsSound setup → ((i : ℕ) → i < setup.size → (st.leaves i).back ≡ None) → Carries setup (ready setup st) → IsRunning setup st → IsRunning setup (round setup st)
round_world setup st sound back c h =
    moved_world setup (ready setup st) sound (λ i l. (ready_keeps setup st).back i ∙ back i l) c (ready_world_at setup st (is_configured setup st) sound h)

-- Takes and Gives.

pub pages_world : {S : Type 0} (setup : Setup S) (st : State S) (pages : ℕ → Option PageState) → IsRunning setup st → IsRunning setup (record st { pages = pages })
pages_world setup st pages h = record { accounted = h.accounted; leaf = h.leaf; for_ends = h.for_ends; no_entries = h.no_entries; window = h.window }

-- the ports that a page writes at have channels
abbrev pub PortsFit : {S : Type 0} → Setup S → State S → Type 0
PortsFit setup st = (i : ℕ) (p : PageState) (k : PortNo) (w : ℕ) → st.pages i ≡ Some p → (turn p.core).end ≡ AtWrite k w → is_linked_out setup.tables i k.0 ≡ true

give_read : {S : Type 0} (setup : Setup S) (st : State S) (i : ℕ) (p : PageState) (t : Turned) (j : ℕ) (o : Option ℕ) → IsSound setup → suc i < setup.size → next_word (st.leaves (suc i)) j ≡ o → IsRunning setup st → IsRunning setup (read_given setup st (suc i) p t j o)
give_read setup st i p t j None sound l word h = pages_world setup st _ h
give_read setup st i p t j (Some w) sound l word h = read_world setup (record st { pages = _ }) (suc i) j w sound l word (pages_world setup st _ h)

give_write : {S : Type 0} (setup : Setup S) (st : State S) (i : ℕ) (p : PageState) (t : Turned) (k w : ℕ) (b : Bool) → IsSound setup → suc i < setup.size → is_linked_out setup.tables (suc i) k ≡ true → can_write (st.leaves (suc i)) k ≡ b → IsRunning setup st → IsRunning setup (write_given setup st (suc i) p t k w b)
give_write setup st i p t k w false sound l linked can h = pages_world setup st _ h
give_write setup st i p t k w true sound l linked can h = write_world setup (record st { pages = _ }) (suc i) k w sound l linked can (pages_world setup st _ h)

give_at : {S : Type 0} (setup : Setup S) (st : State S) (i : ℕ) (p : PageState) (t : Turned) (end : TurnEnd) → IsSound setup → suc i < setup.size → ((k : PortNo) (w : ℕ) → end ≡ AtWrite k w → is_linked_out setup.tables (suc i) k.0 ≡ true) → IsRunning setup st → IsRunning setup (given_at setup st (suc i) p t end)
give_at setup st i p t (AtRead j) sound l fit h = give_read setup st i p t j.0 (next_word (st.leaves (suc i)) j.0) sound l refl h
give_at setup st i p t (AtWrite k w) sound l fit h = give_write setup st i p t k.0 w (can_write (st.leaves (suc i)) k.0) sound l (fit k w refl) refl h
give_at setup st i p t Ended sound l fit h = pages_world setup st _ h
give_at setup st i p t Limit sound l fit h = pages_world setup st _ h

given_world : {S : Type 0} (setup : Setup S) (st : State S) (i : ℕ) (o : Option PageState) → IsSound setup → suc i < setup.size → st.pages (suc i) ≡ o → PortsFit setup st → IsRunning setup st → IsRunning setup (given setup st (suc i) o)
given_world setup st i None sound l e fit h = h
given_world setup st i (Some p) sound l e fit h = give_at setup st i p (turn p.core) (turn p.core).end sound l (λ k w t. fit (suc i) p k w e t) h

none_held : (seat : ℕ) (o : Option PageState) → o ≡ None → is_held_by seat o ≡ true → ⊥
none_held seat o e h = (let x : false ≡ true = sym (ap (is_held_by seat) e) ∙ h in cc)

-- THE WORLD is kept by each legal entry: no page stands at leaf 0, no leaf has a packet to send back, and the carrier loses none
pub entry_world : {S : Type 0} (setup : Setup S) (st : State S) (e : Entry) → IsSound setup → may setup st e ≡ true → st.pages 0 ≡ None → ((i : ℕ) → i < setup.size → (st.leaves i).back ≡ None) → Carries setup (ready setup st) → PortsFit setup st
    → IsRunning setup st → IsRunning setup (after setup st e)
entry_world setup st (Take seat leaf) sound m host back c fit h = pages_world setup st _ h
entry_world setup st (Give seat zero) sound m host back c fit h = absurd (none_held seat (st.pages 0) host (both (nat_lt 0 setup.size) _ m).1)
entry_world setup st (Give seat (suc i)) sound m host back c fit h = given_world setup st i (st.pages (suc i)) sound (lt_true (suc i) setup.size (both (nat_lt (suc i) setup.size) _ m).0) refl fit h
entry_world setup st (NetEntry seat) sound m host back c fit h = round_world setup st sound back c h
