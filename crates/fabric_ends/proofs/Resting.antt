-- A still state's events are a rest family.
use Rattle.std.proofs.Common.{◌≡◌, ℕ, zero, suc, ◌+◌, ◌%◌, ◌<◌, ◌≤◌, ◌&&◌, not, Bool, true, false, cond, List, [], ◌∷◌, ◌++◌, length, sum, refl, ap, sym, ◌∙◌, arith, length-append, Option, Some, None, subst, inl, inr}
use Rattle.std.specs.Prelude.{if◌then◌else◌, ◌==◌, is_none, is_some, slice_index_or, slice_get}
use Rattle.std.specs.List.{sum_by, count_by}
use Rattle.std.proofs.lemmas.Bool.Decides.{nat_tests}
use Rattle.channel_account.specs.Account.{Numbered, Channel, IsAccount, in_slots, numbered}
use Rattle.std.proofs.lemmas.List.Sums.{sum_by-cons}
use Rattle.net_switch.specs.declared.packet.Packet.{Packet}
use Rattle.leaf_port.specs.Ports.{InState, fresh_in}
use Rattle.leaf_port.specs.declared.ports.Waiting.{Waiting}
use Rattle.leaf_port.specs.Leaf.{LeafState, in_port, out_port, is_idle, is_owed, owed_from, can_write, next_word}
use Rattle.channel_account.specs.Network.{Ends, channel, words_for, credits_for, words_of}
use Rattle.pld_base.specs.Prefix.{IsPrefixOf}
use Rattle.pld_base.specs.Events.{words_read, words_written}
use Rattle.pld_base.specs.Process.{Trace, Returned, Starved}
use Rattle.pld_base.specs.declared.event.Event.{Event}
use Rattle.pld_base.specs.declared.event.Event.TheVariants.{Write}
use Rattle.pld_base.specs.Channels.{Node, OperatorNode, InputNode, OutputNode, OutPort, Wiring, Family, family_of, words_from, written_words, KeepsWindow, IsFull}
use Rattle.pld_kahn.specs.Network.{Network, IsKahnNetwork, sends}
use Rattle.pld_kahn.specs.Rest.{HasEnded, IsAtEmpty, IsAtFull, IsAtRest, Returns, At_empty, At_full, IsRestFamily}
use Rattle.pld_kahn.proofs.Reached.{reached_consistent}
use Rattle.pld_image.specs.Cores.{Core}
use Rattle.pld_image.specs.declared.page.TurnEnd.{TurnEnd}
use Rattle.pld_image.specs.declared.page.TurnEnd.TheVariants.{AtRead, AtWrite, Ended, Limit}
use Rattle.fabric_run.specs.Turns.{Turned, turn, stopped}
use Rattle.fabric_run.specs.World.{Setup, State, PageState, next_feed, core_at}
use Rattle.fabric_run.specs.Replay.{is_blocked, is_page_still, is_none_left, is_still}
use Rattle.fabric_keeps.specs.Links.{is_linked_in, is_linked_out, out_node, in_node, node_port, net_of, source, source_at, wiring_of, IsSound, IsRunning}
use Rattle.fabric_keeps.specs.Paths.{PathAt, IsTraced, page_process, page_network}
use Rattle.fabric_keeps.proofs.Base.{same_eq, differ, both, not_true, eq_same}
use Rattle.fabric_keeps.proofs.Calm.{Calm, PagesStill, calm_of, configured}
use Rattle.fabric_keeps.proofs.Accounting.{LinkedIn, LinkedOut, linked_in, linked_out}
use Rattle.fabric_keeps.proofs.AtLeaf.{in_of_link}
use Rattle.fabric_keeps.proofs.Windows.{wiring_in, linked_source, window_now}
use Rattle.fabric_keeps.proofs.Walks.{EndsAt, turn_ends}
use Rattle.fabric_keeps.proofs.Traced.{append_none, next_left}
use Rattle.std.proofs.lemmas.Bool.{cases_lt}
use Rattle.fabric_keeps.proofs.Follows.{run_reached, starved_at, returned_at, writes_at}
use Rattle.fabric_keeps.specs.Facts.{Steady}
use Rattle.fabric_keeps.specs.Whole.{IsWorld, Configuring, Running, IsWhole}
use Rattle.fabric_keeps.proofs.Whole.{HasPath, has_path, ports_fit}

-- what holds between entries, once the new rows stand
pub record IsRun {S : Type 0} (setup : Setup S) (st : State S) : Type 0 where
  pub world : IsRunning setup st
  pub traced : IsTraced setup st
  pub steady : Steady setup st

abbrev has_number : ℕ → Numbered → Bool
has_number n x = x.0 == n

-- no word has the number of an empty slot
slots_past : (os : List (Option ℕ)) (n m : ℕ) → m < n → count_by (has_number m) (in_slots n os) ≡ 0
slots_past [] n m l = refl
slots_past (None ∷ os) n m l = slots_past os (n + 1) m (omega arith)
slots_past (Some w ∷ os) n m l =
    let z : (n == m) ≡ false = differ n m (λ e. omega arith) in
    let y : (let k : ℕ = cond (has_number m (n, w)) 1 0 in k ≡ 0) = rw z refl in
    omega (arith, sum_by-cons (λ (y : Numbered). cond (has_number m y) 1 0) (n, w) (in_slots (n + 1) os), slots_past os (n + 1) m (omega arith), y)

slot_none : (os : List (Option ℕ)) (n i m : ℕ) → slice_index_or os i None ≡ None → m ≡ n + i → count_by (has_number m) (in_slots n os) ≡ 0
slot_none [] n i m e f = refl
slot_none (None ∷ os) n zero m e f = slots_past os (n + 1) m (omega arith)
slot_none (Some w ∷ os) n zero m e f = absurd (let x : Some w ≡ None = e in cc)
slot_none (None ∷ os) n (suc i) m e f = slot_none os (n + 1) i m e (omega arith)
slot_none (Some w ∷ os) n (suc i) m e f =
    let z : (n == m) ≡ false = differ n m (λ s. omega arith) in
    let y : (let k : ℕ = cond (has_number m (n, w)) 1 0 in k ≡ 0) = rw z refl in
    omega (arith, sum_by-cons (λ (y : Numbered). cond (has_number m y) 1 0) (n, w) (in_slots (n + 1) os), slot_none os (n + 1) i m e (omega arith), y)

-- where nothing waits or is under way, and the slot of the next number is empty, every word has been read
unread_at : (window : ℕ) (c : Channel) (a : IsAccount window c) (unread : List ℕ) → a.unread ≡ unread → c.box ≡ [] → c.wire ≡ [] → slice_index_or c.slots c.in_next None ≡ None → unread ≡ []
unread_at window c a [] e b w s = refl
unread_at window c a (x ∷ xs) e b w s =
    let m : ℕ = length c.read % window in
    let f : Numbered → ℕ = λ (y : Numbered). cond (has_number m y) 1 0 in
    let none : sum_by f (in_slots 0 c.slots) ≡ 0 = slot_none c.slots 0 c.in_next m s (sym a.in_next ∙ omega arith) in
    let once : sum_by f (c.box ++ c.wire ++ in_slots 0 c.slots) ≡ sum_by f (numbered window (length c.read) (x ∷ xs)) = a.once f ∙ ap (λ (us : List ℕ). sum_by f (numbered window (length c.read) us)) e in
    let left : sum_by f (c.box ++ c.wire ++ in_slots 0 c.slots) ≡ sum_by f (in_slots 0 c.slots) = ap (λ (bs : List Numbered). sum_by f (bs ++ c.wire ++ in_slots 0 c.slots)) b ∙ ap (λ (ws : List Numbered). sum_by f (ws ++ in_slots 0 c.slots)) w in
    let z : (m == m) ≡ true = same_eq m m refl in
    let one : f (m, x) ≡ 1 = rw z refl in
    absurd (omega (arith, sum_by-cons f (m, x) (numbered window (length c.read + 1) xs)))

pub none_unread : (window : ℕ) (c : Channel) (a : IsAccount window c) → c.box ≡ [] → c.wire ≡ [] → slice_index_or c.slots c.in_next None ≡ None → a.unread ≡ []
none_unread window c a b w s = unread_at window c a a.unread refl b w s

-- What a calm state says of a channel.

left_none : (ps : List Packet) → is_none_left ps ≡ true → ps ≡ []
left_none [] e = refl
left_none (p ∷ ps) e = absurd (let x : false ≡ true = e in cc)

box_none : (box : List Waiting) → length box ≡ 0 → box ≡ []
box_none [] e = refl
box_none (w ∷ ws) e = absurd (omega arith)

idle_box : (s : LeafState) → is_idle s ≡ true → s.box ≡ []
idle_box s e =
    let a = both (is_none s.back && is_none (owed_from 0 s.ins)) (length s.box == 0) e in
    box_none s.box (eq_same (length s.box) 0 a.1)

freed_none : (d : InState) → d.freed ≡ 0 → (n : ℕ) (qs : List InState) (j : ℕ) → is_none (owed_from n qs) ≡ true → (slice_index_or qs j d).freed ≡ 0
freed_none d z n [] j e = z
freed_none d z n (q ∷ qs) j e = freed_at n q qs j (is_owed q) refl e (λ i h. freed_none d z (n + 1) qs i h)
  where
    freed_at : (n : ℕ) (q : InState) (qs : List InState) (j : ℕ) (b : Bool) → is_owed q ≡ b → is_none (if b then Some n else owed_from (n + 1) qs) ≡ true
        → ((i : ℕ) → is_none (owed_from (n + 1) qs) ≡ true → (slice_index_or qs i d).freed ≡ 0) → (slice_index_or (q ∷ qs) j d).freed ≡ 0
    freed_at n q qs j true t e ih = absurd (let x : false ≡ true = e in cc)
    freed_at n q qs zero false t e ih = grind (arith, nat_tests)
    freed_at n q qs (suc j) false t e ih = ih j e

idle_freed : (s : LeafState) (j : ℕ) → is_idle s ≡ true → (in_port s j).freed ≡ 0
idle_freed s j e =
    let a = both (is_none s.back && is_none (owed_from 0 s.ins)) (length s.box == 0) e in
    freed_none (fresh_in s.window) refl 0 s.ins j (both (is_none s.back) (is_none (owed_from 0 s.ins)) a.0).1

-- no channel comes to a port that isn't linked
wiring_none : {S : Type 0} (setup : Setup S) (i j : ℕ) → IsSound setup → is_linked_in setup.tables i j ≡ false → wiring_of setup (in_node setup.number i j) (node_port i j) ≡ None
wiring_none setup zero j sound h = ap (λ (b : Bool). if b then source setup.number (setup.tables 0 (8 + j)) else None) h
wiring_none setup (suc i) j sound h = by_core (core_at setup (suc i)) refl
  where
    by_core : (o : Option Core) → core_at setup (suc i) ≡ o → wiring_of setup (OperatorNode (setup.number (suc i))) j ≡ None
    by_core None e = ap (λ (x : Option Core). if is_some x then source_at setup.number setup.tables (setup.leaf_of (setup.number (suc i))) j else None) e
    by_core (Some c) e =
        ap (λ (x : Option Core). if is_some x then source_at setup.number setup.tables (setup.leaf_of (setup.number (suc i))) j else None) e
        ∙ (ap (λ (m : ℕ). source_at setup.number setup.tables m j) (sound.leaf (suc i) c e) ∙ ap (λ (b : Bool). if b then source setup.number (setup.tables (suc i) (8 + j)) else None) h)

-- an in-port at which no word is there: all that was written has been read
pub all_read_at : {S : Type 0} (setup : Setup S) (st : State S) (i j : ℕ) (b : Bool) → IsSound setup → IsRunning setup st → Calm setup st → is_linked_in setup.tables i j ≡ b → next_word (st.leaves i) j ≡ None
    → words_read (family_of st.history (in_node setup.number i j)) (node_port i j) ≡ written_words (wiring_of setup) (family_of st.history) (in_node setup.number i j) (node_port i j)
all_read_at setup st i j true sound w c h none =
    let l : LinkedIn setup.tables i j = linked_in setup.tables i j h in
    let e : Ends = record { from = l.from; out = l.out; to = i; inn = j } in
    let a : IsAccount setup.window (channel (net_of setup st) e) = (w.accounted e l.link).account in
    let below = sound.below e l.link in
    let fam : Family = family_of st.history in
    let box : (channel (net_of setup st) e).box ≡ [] = ap (words_of l.out) (idle_box (st.leaves l.from) (c.idle l.from below.0)) in
    let wire : (channel (net_of setup st) e).wire ≡ [] = ap (words_for i j) (left_none (setup.net.under st.carrier) c.packets) in
    let unread : a.unread ≡ [] = none_unread setup.window (channel (net_of setup st) e) a box wire none in
    let same : words_written (fam (out_node setup.number l.from l.out)) (node_port l.from l.out) ≡ words_read (fam (in_node setup.number i j)) (node_port i j) = a.written ∙ (ap (λ (us : List ℕ). words_read (fam (in_node setup.number i j)) (node_port i j) ++ us) unread ∙ append_none (words_read (fam (in_node setup.number i j)) (node_port i j))) in
    sym (ap (λ (o : Option OutPort). words_from o (λ (n : Node). words_written (fam n))) (wiring_in setup i j sound h ∙ linked_source setup i j h l) ∙ same)
all_read_at setup st i j false sound w c h none =
    let fam : Family = family_of st.history in
    let k : KeepsWindow setup.window (wiring_of setup) fam = window_now setup.window (wiring_of setup) st.history w.window in
    let empty : written_words (wiring_of setup) fam (in_node setup.number i j) (node_port i j) ≡ [] =
    ap (λ (o : Option OutPort). words_from o (λ (n : Node). words_written (fam n))) (wiring_none setup i j sound h) in
    prefix_none (words_read (fam (in_node setup.number i j)) (node_port i j)) (written_words (wiring_of setup) fam (in_node setup.number i j) (node_port i j)) (k.in_order (in_node setup.number i j) (node_port i j)) empty
  where
    prefix_none : (xs ys : List ℕ) → IsPrefixOf xs ys → ys ≡ [] → xs ≡ ys
    prefix_none [] ys p e = sym e
    prefix_none (x ∷ xs) ys p e = absurd (let y : x ∷ (xs ++ p.rest) ≡ [] = p.joined ∙ e in cc)

-- an out-port with no credit: a whole window is unread
pub full_at : {S : Type 0} (setup : Setup S) (st : State S) (i k : ℕ) → IsSound setup → IsRunning setup st → Calm setup st → is_linked_out setup.tables i k ≡ true → can_write (st.leaves i) k ≡ false
    → IsFull setup.window (wiring_of setup) (family_of st.history) (out_node setup.number i k) (node_port i k)
full_at setup st i k sound w c h can =
    let l : LinkedOut setup.tables i k = linked_out setup.tables i k h in
    let e : Ends = record { from = i; out = k; to = l.to; inn = l.inn } in
    let a : IsAccount setup.window (channel (net_of setup st) e) = (w.accounted e l.link).account in
    let below = sound.below e l.link in
    let fam : Family = family_of st.history in
    let linked : is_linked_in setup.tables l.to l.inn ≡ true = in_of_link setup.tables e l.link in
    let m : LinkedIn setup.tables l.to l.inn = record { from = i; out = k; link = l.link; row = l.link.to_row } in
    let joined : wiring_of setup (in_node setup.number l.to l.inn) (node_port l.to l.inn) ≡ Some (record { node = out_node setup.number i k; port = node_port i k }) = wiring_in setup l.to l.inn sound linked ∙ linked_source setup l.to l.inn linked m in
    let credits : (out_port (st.leaves i) k).credits ≡ 0 = grind (arith, nat_tests) in
    let returning : sum (credits_for i k (setup.net.under st.carrier)) ≡ 0 = ap (λ (ps : List Packet). sum (credits_for i k ps)) (left_none (setup.net.under st.carrier) c.packets) in
    let freed : (in_port (st.leaves l.to) l.inn).freed ≡ 0 = idle_freed (st.leaves l.to) l.inn (c.idle l.to below.1) in
    let total : (out_port (st.leaves i) k).credits + sum (credits_for i k (setup.net.under st.carrier)) + (in_port (st.leaves l.to) l.inn).freed + length a.unread ≡ setup.window = a.total in
    let words : length (words_written (fam (out_node setup.number i k)) (node_port i k)) ≡ length (words_read (fam (in_node setup.number l.to l.inn)) (node_port l.to l.inn)) + length a.unread = ap length a.written ∙ length-append (words_read (fam (in_node setup.number l.to l.inn)) (node_port l.to l.inn)) a.unread in
    let same : length (written_words (wiring_of setup) fam (in_node setup.number l.to l.inn) (node_port l.to l.inn)) ≡ length (words_written (fam (out_node setup.number i k)) (node_port i k)) = ap (λ (o : Option OutPort). length (words_from o (λ (n : Node). words_written (fam n)))) joined in
    record { reader = in_node setup.number l.to l.inn; reader_port = node_port l.to l.inn; joined = joined; unread = omega arith }

-- Each node of a still state is at rest.

-- where a page stands, by how its last Give ended
abbrev pub StandsBy : ℕ → Network → Family → ℕ → Option TurnEnd → Type 0
StandsBy window net fam n None = ⊥
StandsBy window net fam n (Some (AtRead p)) = IsAtEmpty net fam (OperatorNode n) p.0
StandsBy window net fam n (Some (AtWrite p w)) = IsAtFull window net fam (OperatorNode n) p.0
StandsBy window net fam n (Some Ended) = HasEnded net fam (OperatorNode n) Returned
StandsBy window net fam n (Some Limit) = ⊥

page_stands : {S : Type 0} (setup : Setup S) (st : State S) (i : ℕ) (p : PageState) (end : Option TurnEnd) → IsSound setup → IsRun setup st → Calm setup st → st.pages (suc i) ≡ Some p → p.end ≡ end → is_blocked (st.leaves (suc i)) end ≡ true
    → (h : HasPath setup st (suc i) p) → StandsBy setup.window (page_network setup (wiring_of setup)) (family_of st.history) (setup.number (suc i)) end
page_stands setup st i p None sound w c e f b h = let x : false ≡ true = b in cc
page_stands setup st i p (Some Limit) sound w c e f b h = let x : false ≡ true = b in cc
page_stands setup st i p (Some Ended) sound w c e f b h =
    let fam : Family = family_of st.history in
    let node : Node = OperatorNode (setup.number (suc i)) in
    let r = returned_at h.core p.core p.steps (fam node) h.path ((w.steady.page (suc i) p e).at_end f) in
    let same : page_process (core_at setup (suc i)) (words_read (fam node)) r.0 ≡ record { events = fam node; end = Returned } = ap (λ (o : Option Core). page_process o (words_read (fam node)) r.0) h.there ∙ r.1 in
    record { turns = r.0; events = ap (λ (t : Trace). t.events) same; end_is = ap (λ (t : Trace). t.end) same }
page_stands setup st i p (Some (AtRead j)) sound w c e f b h =
    let fam : Family = family_of st.history in
    let node : Node = OperatorNode (setup.number (suc i)) in
    let n : EndsAt (AtRead j) p.core = subst (λ (t : Turned). EndsAt t.end t.core) ((w.steady.page (suc i) p e).at_read j f) (turn_ends p.core) in
    let r = starved_at h.core p.core p.steps (fam node) j.0 n.0 h.path n.1 in
    let same : page_process (core_at setup (suc i)) (words_read (fam node)) r.0 ≡ record { events = fam node; end = Starved j.0 } = ap (λ (o : Option Core). page_process o (words_read (fam node)) r.0) h.there ∙ r.1 in
    record {
      starved = record { turns = r.0; events = ap (λ (t : Trace). t.events) same; end_is = ap (λ (t : Trace). t.end) same };
      all_read = all_read_at setup st (suc i) j.0 (is_linked_in setup.tables (suc i) j.0) sound w.world c refl (none_of (next_word (st.leaves (suc i)) j.0) b);
    }
  where
    none_of : (o : Option ℕ) → is_none o ≡ true → o ≡ None
    none_of None e = refl
    none_of (Some x) e = absurd (let y : false ≡ true = e in cc)
page_stands setup st i p (Some (AtWrite k v)) sound w c e f b h =
    let fam : Family = family_of st.history in
    let node : Node = OperatorNode (setup.number (suc i)) in
    let t : turn p.core ≡ stopped p.core (AtWrite k v) = (w.steady.page (suc i) p e).at_write k v f in
    let n : EndsAt (AtWrite k v) p.core = subst (λ (x : Turned). EndsAt x.end x.core) t (turn_ends p.core) in
    let r = writes_at h.core p.core p.steps (fam node) k.0 v n.0 h.path n.1 in
    let linked : is_linked_out setup.tables (suc i) k.0 ≡ true = ports_fit setup st sound w.traced (suc i) p k v e (ap (λ (x : Turned). x.end) t) in
    record {
      turns = r.0;
      word = v;
      next = subst (λ (o : Option Core). IsPrefixOf (fam node ++ Write (record { 0 = k.0 }) v ∷ []) (page_process o (words_read (fam node)) r.0).events) (sym h.there) r.1;
      full = full_at setup st (suc i) k.0 sound w.world c linked (not_true (can_write (st.leaves (suc i)) k.0) b);
    }

stands_rest : (window : ℕ) (net : Network) (fam : Family) (n : ℕ) (end : Option TurnEnd) → StandsBy window net fam n end → IsAtRest window net fam (OperatorNode n)
stands_rest window net fam n None h = absurd h
stands_rest window net fam n (Some (AtRead p)) h = At_empty p.0 h
stands_rest window net fam n (Some (AtWrite p w)) h = At_full p.0 h
stands_rest window net fam n (Some Ended) h = Returns h
stands_rest window net fam n (Some Limit) h = absurd h

-- where no page is
pub none_ended : {S : Type 0} (wiring : Wiring) (setup : Setup S) (st : State S) (k : ℕ) → setup.image k ≡ None → family_of st.history (OperatorNode k) ≡ [] → HasEnded (page_network setup wiring) (family_of st.history) (OperatorNode k) Returned
none_ended wiring setup st k e h =
    let fam : Family = family_of st.history in
    let same : page_process (setup.image k) (words_read (fam (OperatorNode k))) 0 ≡ record { events = []; end = Returned } = ap (λ (o : Option Core). page_process o (words_read (fam (OperatorNode k))) 0) e in
    record { turns = 0; events = ap (λ (t : Trace). t.events) same ∙ sym h; end_is = ap (λ (t : Trace). t.end) same }

some_page : (co : Option Core) (o : Option PageState) (es : List Event) (c : Core) → co ≡ Some c → PathAt co o es → (p : PageState) × (o ≡ Some p)
some_page None o es c e h = absurd (let x : None ≡ Some c = e in cc)
some_page (Some d) o es c e h = (h.0, h.1)

-- the page on a leaf
pub record LeafStands {S : Type 0} (setup : Setup S) (st : State S) (m : ℕ) : Type 0 where
  pub page : PageState
  pub there : st.pages m ≡ Some page
  pub stands : StandsBy setup.window (page_network setup (wiring_of setup)) (family_of st.history) (setup.number m) page.end

pub leaf_stands : {S : Type 0} (setup : Setup S) (st : State S) (m : ℕ) (core : Core) → IsSound setup → IsRun setup st → Calm setup st → PagesStill setup st → core_at setup m ≡ Some core → LeafStands setup st m
leaf_stands setup st zero core sound w c s e = absurd (let x : None ≡ Some core = sym sound.host ∙ e in cc)
leaf_stands setup st (suc i) core sound w c s e =
    let o = some_page (core_at setup (suc i)) (st.pages (suc i)) _ core e (w.traced.pages (suc i)) in
    let p : PageState = o.0 in
    let still : is_page_still (st.leaves (suc i)) (st.pages (suc i)) ≡ true = s (suc i) (sound.leaves (suc i) core e) in
    record {
      page = p;
      there = o.1;
      stands = page_stands setup st i p p.end sound w c o.1 refl (subst (λ (x : Option PageState). is_page_still (st.leaves (suc i)) x ≡ true) o.1 still) (has_path setup st (suc i) p o.1 w.traced);
    }

operator_rest : {S : Type 0} (setup : Setup S) (st : State S) (k : ℕ) (co : Option Core) → IsSound setup → IsRun setup st → Calm setup st → PagesStill setup st → setup.image k ≡ co
    → IsAtRest setup.window (page_network setup (wiring_of setup)) (family_of st.history) (OperatorNode k)
operator_rest setup st k None sound w c s e = Returns (none_ended (wiring_of setup) setup st k e (w.traced.nobody k e))
operator_rest setup st k (Some core) sound w c s e =
    let n : setup.number (setup.leaf_of k) ≡ k = sound.number k core e in
    let l : LeafStands setup st (setup.leaf_of k) = leaf_stands setup st (setup.leaf_of k) core sound w c s (ap setup.image n ∙ e) in
    subst (λ (x : ℕ). IsAtRest setup.window (page_network setup (wiring_of setup)) (family_of st.history) (OperatorNode x)) n
    (stands_rest setup.window (page_network setup (wiring_of setup)) (family_of st.history) (setup.number (setup.leaf_of k)) l.page.end l.stands)

-- an input: all sent, or a full channel
sent_all : (es : List Event) (feed : List ℕ) → IsPrefixOf es (sends feed) → slice_get feed (length es) ≡ None → es ≡ sends feed
sent_all [] [] p e = refl
sent_all [] (x ∷ feed) p e = absurd (let y : Some x ≡ None = e in cc)
sent_all (d ∷ es) [] p e = absurd (let y : d ∷ (es ++ p.rest) ≡ [] = p.joined in cc)
sent_all (d ∷ es) (x ∷ feed) p e =
    let j : d ∷ (es ++ p.rest) ≡ Write (record { 0 = 0 }) x ∷ sends feed = p.joined in
    let h : d ≡ Write (record { 0 = 0 }) x = cc in
    let t : es ++ p.rest ≡ sends feed = cc in
    ap (λ (z : Event). z ∷ es) h ∙ ap (λ (zs : List Event). Write (record { 0 = 0 }) x ∷ zs) (sent_all es feed (record { rest = p.rest; joined = t }) e)

next_sent : (es : List Event) (feed : List ℕ) (w : ℕ) → IsPrefixOf es (sends feed) → slice_get feed (length es) ≡ Some w → IsPrefixOf (es ++ Write (record { 0 = 0 }) w ∷ []) (sends feed)
next_sent es feed w p e = next_left es p.rest feed w p.joined e

input_rest_at : {S : Type 0} (setup : Setup S) (st : State S) (k : ℕ) (o : Option ℕ) (b : Bool) → IsSound setup → IsRun setup st → Calm setup st → k < setup.inputs → next_feed setup st k ≡ o → can_write (st.leaves 0) k ≡ b → not (is_some o && b) ≡ true
    → IsAtRest setup.window (page_network setup (wiring_of setup)) (family_of st.history) (InputNode k)
input_rest_at setup st k None b sound w c l e f h =
    Returns (record { turns = 0; events = sym (sent_all (family_of st.history (InputNode k)) (setup.feed k) (w.traced.inputs k) e); end_is = refl })
input_rest_at setup st k (Some v) false sound w c l e f h =
    At_full 0 (record { turns = 0; word = v; next = next_sent (family_of st.history (InputNode k)) (setup.feed k) v (w.traced.inputs k) e; full = full_at setup st 0 k sound w.world c (sound.inputs k l) f })
input_rest_at setup st k (Some v) true sound w c l e f h = absurd (let x : false ≡ true = h in cc)

beyond_input : {S : Type 0} (setup : Setup S) (st : State S) (k : ℕ) → IsSound setup → IsRun setup st → setup.inputs ≤ k → IsAtRest setup.window (page_network setup (wiring_of setup)) (family_of st.history) (InputNode k)
beyond_input setup st k sound w l =
    let none : slice_get (setup.feed k) (length (family_of st.history (InputNode k))) ≡ None = ap (λ (ws : List ℕ). slice_get ws (length (family_of st.history (InputNode k)))) (sound.feeds k l) ∙ get_none (length (family_of st.history (InputNode k))) in
    Returns (record { turns = 0; events = sym (sent_all (family_of st.history (InputNode k)) (setup.feed k) (w.traced.inputs k) none); end_is = refl })
  where
    get_none : (n : ℕ) → (let xs : List ℕ = [] in slice_get xs n ≡ None)
    get_none n = refl

-- an output: all that was written has been read
output_rest : {S : Type 0} (setup : Setup S) (st : State S) (j : ℕ) → IsRun setup st
    → words_read (family_of st.history (OutputNode j)) 0 ≡ written_words (wiring_of setup) (family_of st.history) (OutputNode j) 0
    → IsAtRest setup.window (page_network setup (wiring_of setup)) (family_of st.history) (OutputNode j)
output_rest setup st j w e = At_empty 0 (record { starved = record { turns = 0; events = sym (w.traced.outputs j); end_is = refl }; all_read = e })

unlinked_read : {S : Type 0} (setup : Setup S) (st : State S) (j : ℕ) → IsRunning setup st → is_linked_in setup.tables 0 j ≡ false → words_read (family_of st.history (OutputNode j)) 0 ≡ written_words (wiring_of setup) (family_of st.history) (OutputNode j) 0
unlinked_read setup st j w h =
    let fam : Family = family_of st.history in
    let k : KeepsWindow setup.window (wiring_of setup) fam = window_now setup.window (wiring_of setup) st.history w.window in
    let empty : written_words (wiring_of setup) fam (OutputNode j) 0 ≡ [] = ap (λ (o : Option OutPort). words_from o (λ (n : Node). words_written (fam n))) (ap (λ (b : Bool). if b then source setup.number (setup.tables 0 (8 + j)) else None) h) in
    prefix_none (words_read (fam (OutputNode j)) 0) (written_words (wiring_of setup) fam (OutputNode j) 0) (k.in_order (OutputNode j) 0) empty
  where
    prefix_none : (xs ys : List ℕ) → IsPrefixOf xs ys → ys ≡ [] → xs ≡ ys
    prefix_none [] ys p e = sym e
    prefix_none (x ∷ xs) ys p e = absurd (let y : x ∷ (xs ++ p.rest) ≡ [] = p.joined ∙ e in cc)

no_word : (o : Option ℕ) → not (is_some o) ≡ true → o ≡ None
no_word None e = refl
no_word (Some x) e = absurd (let y : false ≡ true = e in cc)

pub node_rest : {S : Type 0} (setup : Setup S) (st : State S) → IsSound setup → IsRun setup st → Calm setup st → PagesStill setup st → (node : Node) → IsAtRest setup.window (page_network setup (wiring_of setup)) (family_of st.history) node
node_rest setup st sound w c s (OperatorNode k) = operator_rest setup st k (setup.image k) sound w c s refl
node_rest setup st sound w c s (InputNode k) =
    elim (cases_lt k setup.inputs) [
      | inl l ↦ input_rest_at setup st k (next_feed setup st k) (can_write (st.leaves 0) k) sound w c l refl refl (c.hosts.inputs k l)
      | inr l ↦ beyond_input setup st k sound w l
    ]
node_rest setup st sound w c s (OutputNode j) =
    elim (cases_lt j setup.outputs) [
      | inl l ↦ output_rest setup st j w (all_read_at setup st 0 j (is_linked_in setup.tables 0 j) sound w.world c refl (no_word (next_word (st.leaves 0) j) (c.hosts.outputs j l)))
      | inr l ↦ output_rest setup st j w (unlinked_read setup st j w.world (sound.outputs j l))
    ]

-- where a state is still, the new rows stand
pub run_of : {S : Type 0} (setup : Setup S) (st : State S) → IsWhole setup st → Calm setup st → IsRun setup st
run_of setup st w c = by_world w.world
  where
    by_world : IsWorld setup st → IsRun setup st
    by_world (Configuring e h) = absurd (let x : false ≡ true = sym e ∙ configured setup st c.entries c.packets in cc)
    by_world (Running h) = record { world = h; traced = w.traced; steady = w.steady }

-- THE REST of a run: where a state is still, its events are the network's rest family
pub rest_family : {S : Type 0} (setup : Setup S) (st : State S) → IsSound setup → IsKahnNetwork (page_network setup (wiring_of setup)) → IsWhole setup st → is_still setup st ≡ true → IsRestFamily setup.window (page_network setup (wiring_of setup)) (family_of st.history)
rest_family setup st sound kahn w e =
    let c = calm_of setup st e in
    let run : IsRun setup st = run_of setup st w c.0 in
    let r = run_reached setup (wiring_of setup) st sound kahn w.traced run.world.window in
    record {
      consistent = reached_consistent setup.window (page_network setup (wiring_of setup)) (family_of st.history) r;
      at_rest = node_rest setup st sound run c.0 c.1;
      reached = r;
    }
