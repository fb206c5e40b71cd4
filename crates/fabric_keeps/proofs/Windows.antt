-- Each event keeps the window of each channel.
use Rattle.std.proofs.Common.{◌≡◌, ℕ, zero, suc, ◌+◌, ◌<◌, ◌≤◌, Bool, true, false, List, [], ◌∷◌, ◌++◌, length, sum, refl, ap, sym, ◌∙◌, arith, length-append, Option, Some, None, subst}
use Rattle.std.specs.Prelude.{if◌then◌else◌, is_some}
use Rattle.leaf_port.specs.Leaf.{next_word, out_port}
use Rattle.channel_account.specs.Account.{IsAccount}
use Rattle.channel_account.proofs.Channels.{took_keeps}
use Rattle.channel_account.specs.Network.{Ends, channel}
use Rattle.channel_account.proofs.Steps.{Balanced}
use Rattle.pld_base.specs.Prefix.{IsPrefixOf}
use Rattle.pld_base.specs.Events.{words_read, words_written}
use Rattle.pld_base.specs.declared.event.Event.TheVariants.{Read, Write}
use Rattle.pld_base.specs.Channels.{Node, OperatorNode, InputNode, OutputNode, OutPort, Wiring, NodeEvent, Family, family_of, words_from, written_words, KeepsWindow, AfterEach}
use Rattle.pld_base.proofs.Histories.{read_keeps_window, write_keeps_window}
use Rattle.pld_image.specs.Cores.{Core}
use Rattle.fabric_run.specs.World.{Setup, State, core_at}
use Rattle.fabric_keeps.specs.Links.{is_linked_in, out_node, in_node, node_port, net_of, source, source_at, wiring_of, IsSound}
use Rattle.fabric_keeps.proofs.Accounting.{LinkedIn, linked_in}

none_some : {X : Type 0} (x : X) → None ≡ Some x → ⊥
none_some x e = cc

-- a page with its core
pub some_core : (o : Option Core) → is_some o ≡ true → (c : Core) × (o ≡ Some c)
some_core None e = absurd (let x : false ≡ true = e in cc)
some_core (Some c) e = (c, refl)

pub wiring_in : {S : Type 0} (setup : Setup S) (i j : ℕ) → IsSound setup → is_linked_in setup.tables i j ≡ true → wiring_of setup (in_node setup.number i j) (node_port i j) ≡ source_at setup.number setup.tables i j
wiring_in setup zero j sound h = refl
wiring_in setup (suc i) j sound h =
    let there : is_some (core_at setup (suc i)) ≡ true = sound.readers i j h in
    let c = some_core (core_at setup (suc i)) there in
    ap (λ (b : Bool). if b then source_at setup.number setup.tables (setup.leaf_of (setup.number (suc i))) j else None) there
    ∙ ap (λ (m : ℕ). source_at setup.number setup.tables m j) (sound.leaf (suc i) c.0 c.1)

pub linked_source : {S : Type 0} (setup : Setup S) (m j : ℕ) → is_linked_in setup.tables m j ≡ true → (l : LinkedIn setup.tables m j) → source_at setup.number setup.tables m j ≡ Some (record { node = out_node setup.number l.from l.out; port = node_port l.from l.out })
linked_source setup m j h l =
    ap (λ (b : Bool). if b then source setup.number (setup.tables m (8 + j)) else None) h ∙ ap (source setup.number) l.row

some_out : (a b : OutPort) → Some a ≡ Some b → a ≡ b
some_out a b e = cc

operator_same : (a i : ℕ) → OperatorNode a ≡ OperatorNode i → a ≡ i
operator_same a i e = cc

input_same : (b k : ℕ) → InputNode b ≡ InputNode k → b ≡ k
input_same b k e = cc

pub out_same : {S : Type 0} (setup : Setup S) (a b i k : ℕ) → IsSound setup → out_node setup.number a b ≡ out_node setup.number i k → node_port a b ≡ node_port i k → (a ≡ i) × (b ≡ k)
out_same setup zero b zero k sound e f = (refl, input_same b k e)
out_same setup zero b (suc i) k sound e f = absurd (let x : InputNode b ≡ OperatorNode (setup.number (suc i)) = e in cc)
out_same setup (suc a) b zero k sound e f = absurd (let x : OperatorNode (setup.number (suc a)) ≡ InputNode k = e in cc)
out_same setup (suc a) b (suc i) k sound e f = (sound.apart (suc a) (suc i) (operator_same (setup.number (suc a)) (setup.number (suc i)) e), f)

-- a history, and the family that it ends with
start_window : (wiring : Wiring) (node : Node) (port : ℕ) (o : Option OutPort) → IsPrefixOf [] (words_from o (λ (n : Node). words_written (family_of [] n)))
start_window wiring node port None = record { rest = []; joined = refl }
start_window wiring node port (Some out) = record { rest = []; joined = refl }

start_within : (window : ℕ) (o : Option OutPort) → length (words_from o (λ (n : Node). words_written (family_of [] n))) ≤ window
start_within window None = omega arith
start_within window (Some out) = omega arith

pub window_now : (window : ℕ) (wiring : Wiring) (history : List NodeEvent) → AfterEach (KeepsWindow window wiring) history → KeepsWindow window wiring (family_of history)
window_now window wiring [] h = record { in_order = λ n p. start_window wiring n p (wiring n p); within = λ n p. omega (arith, start_within window (wiring n p)) }
window_now window wiring (e ∷ es) h = h.1

pub read_window : {S : Type 0} (setup : Setup S) (st : State S) (i j w : ℕ) → IsSound setup → Balanced setup.window setup.tables (net_of setup st) → is_linked_in setup.tables i j ≡ true → next_word (st.leaves i) j ≡ Some w
    → AfterEach (KeepsWindow setup.window (wiring_of setup)) st.history → AfterEach (KeepsWindow setup.window (wiring_of setup)) ((record { node = in_node setup.number i j; event = Read (record { 0 = node_port i j }) w }) ∷ st.history)
read_window setup st i j w sound a h word k =
    let l : LinkedIn setup.tables i j = linked_in setup.tables i j h in
    let e : Ends = record { from = l.from; out = l.out; to = i; inn = j } in
    let b = took_keeps setup.window w (channel (net_of setup st) e) word (a e l.link) in
    let fam : Family = family_of st.history in
    let wire : wiring_of setup (in_node setup.number i j) (node_port i j) ≡ Some (record { node = out_node setup.number l.from l.out; port = node_port l.from l.out }) = wiring_in setup i j sound h ∙ linked_source setup i j h l in
    let first : IsPrefixOf (words_read (fam (in_node setup.number i j)) (node_port i j) ++ w ∷ []) (words_written (fam (out_node setup.number l.from l.out)) (node_port l.from l.out)) = record { rest = b.unread; joined = sym b.written } in
    let next : IsPrefixOf (words_read (fam (in_node setup.number i j)) (node_port i j) ++ w ∷ []) (written_words (wiring_of setup) fam (in_node setup.number i j) (node_port i j)) =
    subst (λ (o : Option OutPort). IsPrefixOf (words_read (fam (in_node setup.number i j)) (node_port i j) ++ w ∷ []) (words_from o (λ (n : Node). words_written (fam n)))) (sym wire) first in
    (k, read_keeps_window setup.window (wiring_of setup) st.history (window_now setup.window (wiring_of setup) st.history k) (in_node setup.number i j) (node_port i j) w next)

room_at : {S : Type 0} (setup : Setup S) (st : State S) (i k m j : ℕ) (b : Bool) → IsSound setup → Balanced setup.window setup.tables (net_of setup st) → 0 < (out_port (st.leaves i) k).credits → is_linked_in setup.tables m j ≡ b
    → (if b then source setup.number (setup.tables m (8 + j)) else None) ≡ Some (record { node = out_node setup.number i k; port = node_port i k })
    → length (words_written (family_of st.history (out_node setup.number i k)) (node_port i k)) < setup.window + length (words_read (family_of st.history (in_node setup.number m j)) (node_port m j))
room_at setup st i k m j false sound a c h e = absurd (none_some _ e)
room_at setup st i k m j true sound a c h e =
    let l : LinkedIn setup.tables m j = linked_in setup.tables m j h in
    let x : OutPort = record { node = out_node setup.number l.from l.out; port = node_port l.from l.out } in
    let y : OutPort = record { node = out_node setup.number i k; port = node_port i k } in
    let f : x ≡ y = some_out x y (sym (ap (source setup.number) l.row) ∙ e) in
    let s : (l.from ≡ i) × (l.out ≡ k) = out_same setup l.from l.out i k sound (ap (λ (z : OutPort). z.node) f) (ap (λ (z : OutPort). z.port) f) in
    let g : Ends = record { from = l.from; out = l.out; to = m; inn = j } in
    let acc : IsAccount setup.window (channel (net_of setup st) g) = a g l.link in
    let credits : (out_port (st.leaves l.from) l.out).credits ≡ (out_port (st.leaves i) k).credits = ap (λ (z : ℕ). (out_port (st.leaves z) l.out).credits) s.0 ∙ ap (λ (z : ℕ). (out_port (st.leaves i) z).credits) s.1 in
    let total : (out_port (st.leaves l.from) l.out).credits + sum (channel (net_of setup st) g).returning + (channel (net_of setup st) g).freed + length acc.unread ≡ setup.window = acc.total in
    let words : length (words_written (family_of st.history (out_node setup.number l.from l.out)) (node_port l.from l.out)) ≡ length (words_read (family_of st.history (in_node setup.number m j)) (node_port m j)) + length acc.unread = ap length acc.written ∙ length-append (words_read (family_of st.history (in_node setup.number m j)) (node_port m j)) acc.unread in
    let same : length (words_written (family_of st.history (out_node setup.number l.from l.out)) (node_port l.from l.out)) ≡ length (words_written (family_of st.history (out_node setup.number i k)) (node_port i k)) = ap (λ (z : OutPort). length (words_written (family_of st.history z.node) z.port)) f in
    omega arith

-- the leaf of a numbered page isn't the host's
room_on : {S : Type 0} (setup : Setup S) (st : State S) (i k n q m : ℕ) (c : Core) → IsSound setup → Balanced setup.window setup.tables (net_of setup st) → 0 < (out_port (st.leaves i) k).credits → setup.image n ≡ Some c → setup.number m ≡ n
    → source_at setup.number setup.tables m q ≡ Some (record { node = out_node setup.number i k; port = node_port i k })
    → length (words_written (family_of st.history (out_node setup.number i k)) (node_port i k)) < setup.window + length (words_read (family_of st.history (OperatorNode n)) q)
room_on setup st i k n q zero c sound a credit there number e =
    absurd (none_some c (sym sound.host ∙ (ap setup.image number ∙ there)))
room_on setup st i k n q (suc m) c sound a credit there number e =
    subst (λ (x : ℕ). length (words_written (family_of st.history (out_node setup.number i k)) (node_port i k)) < setup.window + length (words_read (family_of st.history (OperatorNode x)) q)) number
    (room_at setup st i k (suc m) q (is_linked_in setup.tables (suc m) q) sound a credit refl e)

room_by : {S : Type 0} (setup : Setup S) (st : State S) (i k n q : ℕ) (o : Option Core) → IsSound setup → Balanced setup.window setup.tables (net_of setup st) → 0 < (out_port (st.leaves i) k).credits → setup.image n ≡ o
    → (if is_some o then source_at setup.number setup.tables (setup.leaf_of n) q else None) ≡ Some (record { node = out_node setup.number i k; port = node_port i k })
    → length (words_written (family_of st.history (out_node setup.number i k)) (node_port i k)) < setup.window + length (words_read (family_of st.history (OperatorNode n)) q)
room_by setup st i k n q None sound a credit there e = absurd (none_some _ e)
room_by setup st i k n q (Some c) sound a credit there e = room_on setup st i k n q (setup.leaf_of n) c sound a credit there (sound.number n c there) e

room : {S : Type 0} (setup : Setup S) (st : State S) (i k : ℕ) (b : Node) (q : ℕ) → IsSound setup → Balanced setup.window setup.tables (net_of setup st) → 0 < (out_port (st.leaves i) k).credits
    → wiring_of setup b q ≡ Some (record { node = out_node setup.number i k; port = node_port i k }) → length (words_written (family_of st.history (out_node setup.number i k)) (node_port i k)) < setup.window + length (words_read (family_of st.history b) q)
room setup st i k (OperatorNode n) q sound a c e = room_by setup st i k n q (setup.image n) sound a c refl e
room setup st i k (InputNode n) q sound a c e = absurd (none_some _ e)
room setup st i k (OutputNode j) zero sound a c e = room_at setup st i k 0 j (is_linked_in setup.tables 0 j) sound a c refl e
room setup st i k (OutputNode j) (suc q) sound a c e = absurd (none_some _ e)

pub write_window : {S : Type 0} (setup : Setup S) (st : State S) (i k w : ℕ) → IsSound setup → Balanced setup.window setup.tables (net_of setup st) → 0 < (out_port (st.leaves i) k).credits
    → AfterEach (KeepsWindow setup.window (wiring_of setup)) st.history → AfterEach (KeepsWindow setup.window (wiring_of setup)) ((record { node = out_node setup.number i k; event = Write (record { 0 = node_port i k }) w }) ∷ st.history)
write_window setup st i k w sound a c h =
    let fam : Family = family_of st.history in (
      h,
      write_keeps_window setup.window (wiring_of setup) st.history (window_now setup.window (wiring_of setup) st.history h) (out_node setup.number i k) (node_port i k) w
          (λ b q e. subst (λ (o : Option OutPort). length (words_from o (λ (n : Node). words_written (fam n))) < setup.window + length (words_read (fam b) q)) (sym e) (room setup st i k b q sound a c e)),
    )
