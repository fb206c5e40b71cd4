-- The moves of leaves keep the accounts.
use Rattle.std.proofs.Common.{◌≡◌, ℕ, zero, suc, ◌+◌, ◌*◌, ◌%◌, ◌<◌, Bool, true, false, List, [], ◌∷◌, ◌++◌, length, sum, replicate, refl, ap, sym, ◌∙◌, arith, Option, Some, None, subst}
use Rattle.std.specs.Prelude.{slice_index_or, slice_get, if◌then◌else◌, ◌==◌, IsSome}
use Rattle.std.specs.List.{sum_by}
use Rattle.std.proofs.lemmas.Bool.Decides.{nat_tests}
use Rattle.std.proofs.lemmas.Nat.{mod-mul-add}
use Rattle.net_switch.specs.declared.packet.Row.{Row}
use Rattle.net_switch.specs.declared.packet.Stamp.{Stamp}
use Rattle.net_switch.specs.declared.packet.Packet.{Packet}
use Rattle.net_switch.specs.declared.packet.Body.{Body}
use Rattle.net_switch.specs.declared.packet.Body.TheVariants.{Data, Credit, Config}
use Rattle.leaf_port.specs.declared.ports.OutPort.{OutPort}
use Rattle.leaf_port.specs.declared.ports.Waiting.{Waiting}
use Rattle.leaf_port.specs.declared.tables.ConfigEntry.{ConfigEntry}
use Rattle.leaf_port.specs.Ports.{InState, fresh_in}
use Rattle.leaf_port.specs.Leaf.{LeafState, IsLeaf, row_of, with_row, out_port, in_port, fresh_out, can_write, next_word, delivered, accepted, offered, offer_first, offer_new, offer_own, offer_word, offer_credit, to_other_end, injected, owed_from, CanArrive}
use Rattle.leaf_port.proofs.Offers.{owed_is}
use Rattle.leaf_port.proofs.Leaves.{owed_within}
use Rattle.channel_account.specs.Account.{Numbered, SameItems, in_slots, IsAccount}
use Rattle.channel_account.specs.Network.{Rows, Node, Net, Ends, OutHalf, InHalf, out_half, in_half, joined, channel, IsLink, Accounted, IsLinked, IsFresh, SamePackets, data_packet, credit_packet, put, node_wrote, node_took, with_leaf, words_for, credits_for, packet_words, packet_credits, body_words, body_credits, joins, under_after, under_left}
use Rattle.channel_account.specs.Moves.{Move, Writes, Reads, Offers, Accepts, Carries, May, after, MayArrive, IsReadInOrder}
use Rattle.channel_account.proofs.Steps.{Balanced, permute_keeps, write_keeps, read_keeps, data_keeps, credit_keeps, offer_word_keeps, offer_credit_keeps, data_may, credit_may, out_stays, in_stays, halves, under_keeps}

balanced : (window : ℕ) (tables : Rows) (n : Net) → Accounted window tables n → Balanced window tables n
balanced window tables n a e l = (a e l).account

window_at : (nodes : ℕ → Node) (leaf : ℕ) (nd : Node) (x : ℕ) (b : Bool) → (x == leaf) ≡ b → nd.leaf.window ≡ (nodes leaf).leaf.window → (if b then nd else nodes x).leaf.window ≡ (nodes x).leaf.window
window_at nodes leaf nd x true e h = let same : x ≡ leaf = grind (arith, nat_tests) in h ∙ ap (λ (y : ℕ). (nodes y).leaf.window) (sym same)
window_at nodes leaf nd x false e h = refl

-- a change of one leaf keeps the windows
changed : (window : ℕ) (tables : Rows) (n : Net) (leaf : ℕ) (nd : Node) (under : List Packet) → nd.leaf.window ≡ (n.nodes leaf).leaf.window → Accounted window tables n → Balanced window tables (record { nodes = put n.nodes leaf nd; under = under }) → Accounted window tables (record { nodes = put n.nodes leaf nd; under = under })
changed window tables n leaf nd under h a b e l = record {
  from_window = window_at n.nodes leaf nd e.from (e.from == leaf) refl h ∙ (a e l).from_window;
  to_window = window_at n.nodes leaf nd e.to (e.to == leaf) refl h ∙ (a e l).to_window;
  account = b e l;
}

pub carry : (window : ℕ) (tables : Rows) (n : Net) (under : List Packet) → SamePackets under n.under → Accounted window tables n → Accounted window tables (record n { under = under })
carry window tables n under same a e l = record {
  from_window = (a e l).from_window;
  to_window = (a e l).to_window;
  account = permute_keeps window tables n under same (balanced window tables n a) e l;
}

pub write : (window : ℕ) (tables : Rows) (n : Net) (leaf k w : ℕ) → k < length (n.nodes leaf).leaf.outs → can_write (n.nodes leaf).leaf k ≡ true → Accounted window tables n → Accounted window tables (record n { nodes = put n.nodes leaf (node_wrote k w (n.nodes leaf)) })
write window tables n leaf k w l can a =
    let credit : 0 < (out_port (n.nodes leaf).leaf k).credits = grind (arith, nat_tests) in
    changed window tables n leaf (node_wrote k w (n.nodes leaf)) n.under refl a (write_keeps window tables n leaf k w l credit (λ e m. (a e m).from_window) (balanced window tables n a))

pub read : (window : ℕ) (tables : Rows) (n : Net) (leaf j w : ℕ) → j < length (n.nodes leaf).leaf.ins → next_word (n.nodes leaf).leaf j ≡ Some w → Accounted window tables n → Accounted window tables (record n { nodes = put n.nodes leaf (node_took j w (n.nodes leaf)) })
read window tables n leaf j w l word a =
    changed window tables n leaf (node_took j w (n.nodes leaf)) n.under refl a (read_keeps window tables n leaf j w l word (λ e m. (a e m).to_window) (balanced window tables n a))

-- a change of a leaf that changes no channel's end, while what is under way stays
apart : (window : ℕ) (tables : Rows) (n : Net) (leaf : ℕ) (s : LeafState) (under : List Packet) → s.outs ≡ (n.nodes leaf).leaf.outs → s.ins ≡ (n.nodes leaf).leaf.ins → s.box ≡ (n.nodes leaf).leaf.box → s.window ≡ (n.nodes leaf).leaf.window
    → ((e : Ends) → SameItems (words_for e.to e.inn under) (words_for e.to e.inn n.under)) → ((e : Ends) → sum (credits_for e.from e.out under) ≡ sum (credits_for e.from e.out n.under))
    → Accounted window tables n → Accounted window tables (record { nodes = put n.nodes leaf (with_leaf (n.nodes leaf) s); under = under })
apart window tables n leaf s under outs ins box win words credits a = changed window tables n leaf (with_leaf (n.nodes leaf) s) under win a (λ e l. (
    let o : (k : ℕ) → out_half (with_leaf (n.nodes leaf) s) k ≡ out_half (n.nodes leaf) k = λ k. rw (outs, box) refl in
    let i : (j : ℕ) → in_half (with_leaf (n.nodes leaf) s) j ≡ in_half (n.nodes leaf) j = λ j. rw (ins, win) refl in
    halves window _ _ _ _ _ _ (out_stays n.nodes leaf (with_leaf (n.nodes leaf) s) e.from e.out (o e.out)) (in_stays n.nodes leaf (with_leaf (n.nodes leaf) s) e.to e.inn (i e.inn))
    (under_keeps window _ _ _ _ _ _ (words e) (credits e) (a e l).account)))

-- a packet to be sent back comes to its place, or leaves it
back_keeps : (window : ℕ) (tables : Rows) (n : Net) (leaf : ℕ) (back : Option Packet) → Accounted window tables n → Accounted window tables (record n { nodes = put n.nodes leaf (with_leaf (n.nodes leaf) (record (n.nodes leaf).leaf { back = back })) })
back_keeps window tables n leaf back a = apart window tables n leaf (record (n.nodes leaf).leaf { back = back }) n.under refl refl refl refl (λ e f. refl) (λ e. refl) a

-- a packet that brings a row brings no word and no credit
row_words : (m j : ℕ) (p : Packet) (slot : ℕ) (row : Option Row) → p.body ≡ Config slot row → packet_words m j p ≡ []
row_words m j p slot row e = row_words_at (p.to.0 == m)
  where
    row_words_at : (b : Bool) → (if b then body_words j p.body else []) ≡ []
    row_words_at true = rw e refl
    row_words_at false = refl

row_credits : (m k : ℕ) (p : Packet) (slot : ℕ) (row : Option Row) → p.body ≡ Config slot row → packet_credits m k p ≡ []
row_credits m k p slot row e = row_credits_at (p.to.0 == m)
  where
    row_credits_at : (b : Bool) → (if b then body_credits k p.body else []) ≡ []
    row_credits_at true = rw e refl
    row_credits_at false = refl

no_row_words : (m j : ℕ) (p : Packet) (ps : List Packet) (slot : ℕ) (row : Option Row) → p.body ≡ Config slot row → words_for m j (p ∷ ps) ≡ words_for m j ps
no_row_words m j p ps slot row e = ap (λ (xs : List Numbered). xs ++ words_for m j ps) (row_words m j p slot row e)

no_row_credits : (m k : ℕ) (p : Packet) (ps : List Packet) (slot : ℕ) (row : Option Row) → p.body ≡ Config slot row → credits_for m k (p ∷ ps) ≡ credits_for m k ps
no_row_credits m k p ps slot row e = ap (λ (xs : List ℕ). xs ++ credits_for m k ps) (row_credits m k p slot row e)

-- a row arrives
config_keeps : (window : ℕ) (tables : Rows) (n : Net) (leaf slot : ℕ) (row : Option Row) (p : Packet) (rest : List Packet) → p.body ≡ Config slot row → Accounted window tables (record n { under = p ∷ rest }) → Accounted window tables (record { nodes = put n.nodes leaf (with_leaf (n.nodes leaf) (with_row (n.nodes leaf).leaf slot row)); under = rest })
config_keeps window tables n leaf slot row p rest e a = apart window tables (record n { under = p ∷ rest }) leaf (with_row (n.nodes leaf).leaf slot row) rest refl refl refl refl
    (λ g f. ap (λ (xs : List Numbered). sum_by f xs) (sym (no_row_words g.to g.inn p rest slot row e)))
    (λ g. ap (λ (xs : List ℕ). sum xs) (sym (no_row_credits g.from g.out p rest slot row e))) a

-- a packet arrives at its leaf
delivered_keeps : (window : ℕ) (tables : Rows) (n : Net) (leaf : ℕ) (stamp : Stamp) (body : Body) (rest : List Packet) → length (n.nodes leaf).leaf.outs ≡ 8 → length (n.nodes leaf).leaf.ins ≡ 8 → CanArrive (n.nodes leaf).leaf body
    → SamePackets n.under ((let p : Packet = record { stamp = stamp; to = record { 0 = leaf }; body = body } in p) ∷ rest) → Accounted window tables n
    → Accounted window tables (record { nodes = put n.nodes leaf (with_leaf (n.nodes leaf) (delivered (n.nodes leaf).leaf body)); under = rest })
delivered_keeps window tables n leaf stamp (Data j number word) rest outs ins can same a =
    changed window tables n leaf (with_leaf (n.nodes leaf) (delivered (n.nodes leaf).leaf (Data j number word))) rest refl a
    (data_keeps window tables n leaf j.0 number word stamp rest (omega (arith, ins, can.0)) same (balanced window tables n a))
delivered_keeps window tables n leaf stamp (Credit k count) rest outs ins can same a =
    changed window tables n leaf (with_leaf (n.nodes leaf) (delivered (n.nodes leaf).leaf (Credit k count))) rest refl a
    (credit_keeps window tables n leaf k.0 count stamp rest (omega (arith, outs, can.0)) same (balanced window tables n a))
delivered_keeps window tables n leaf stamp (Config slot row) rest outs ins can same a =
    let p : Packet = record { stamp = stamp; to = record { 0 = leaf }; body = Config slot row } in
    config_keeps window tables n leaf slot row p rest refl (carry window tables n (p ∷ rest) (λ f. sym (same f)) a)

accept_at : (window : ℕ) (tables : Rows) (n : Net) (leaf : ℕ) (p : Packet) (rest : List Packet) (b : Bool) → (p.to.0 == (n.nodes leaf).leaf.own) ≡ b → (n.nodes leaf).leaf.own ≡ leaf → length (n.nodes leaf).leaf.outs ≡ 8 → length (n.nodes leaf).leaf.ins ≡ 8
    → (p.to.0 ≡ (n.nodes leaf).leaf.own → CanArrive (n.nodes leaf).leaf p.body) → SamePackets n.under (p ∷ rest) → Accounted window tables n
    → Accounted window tables (record { nodes = put n.nodes leaf (with_leaf (n.nodes leaf) (if b then delivered (n.nodes leaf).leaf p.body else record (n.nodes leaf).leaf { back = Some p })); under = if b then rest else p ∷ rest })
accept_at window tables n leaf p rest true e own outs ins can same a =
    let here : p.to.0 ≡ (n.nodes leaf).leaf.own = grind (arith, nat_tests) in
    let to : p.to.0 ≡ leaf = here ∙ own in
    let q : p ≡ (let r : Packet = record { stamp = p.stamp; to = record { 0 = leaf }; body = p.body } in r) = ap (λ (m : ℕ). (let r : Packet = record { stamp = p.stamp; to = record { 0 = m }; body = p.body } in r)) to in
    delivered_keeps window tables n leaf p.stamp p.body rest outs ins (can here) (subst (λ (r : Packet). SamePackets n.under (r ∷ rest)) q same) a
accept_at window tables n leaf p rest false e own outs ins can same a =
    back_keeps window tables (record n { under = p ∷ rest }) leaf (Some p) (carry window tables n (p ∷ rest) (λ f. sym (same f)) a)

-- a packet arrives
pub accept : (window : ℕ) (tables : Rows) (n : Net) (leaf : ℕ) (p : Packet) (rest : List Packet) → (n.nodes leaf).leaf.own ≡ leaf → IsLeaf (n.nodes leaf).leaf → (p.to.0 ≡ (n.nodes leaf).leaf.own → CanArrive (n.nodes leaf).leaf p.body) → SamePackets n.under (p ∷ rest) → Accounted window tables n
    → Accounted window tables (record { nodes = put n.nodes leaf (with_leaf (n.nodes leaf) (accepted (n.nodes leaf).leaf p)); under = under_left (n.nodes leaf).leaf p rest })
accept window tables n leaf p rest own h can same a = accept_at window tables n leaf p rest (p.to.0 == (n.nodes leaf).leaf.own) refl own h.outs h.ins can same a

-- freed room is offered
credit_offered : (window : ℕ) (tables : Rows) (n : Net) (leaf round j : ℕ) (o : Option Row) → row_of (n.nodes leaf).leaf (8 + j) ≡ o → IsSome o → j < 8 → 0 < (in_port (n.nodes leaf).leaf j).freed → length (n.nodes leaf).leaf.ins ≡ 8 → IsLinked tables leaf (n.nodes leaf).leaf → Accounted window tables n
    → Accounted window tables (record { nodes = put n.nodes leaf (with_leaf (n.nodes leaf) (offer_credit (n.nodes leaf).leaf round j).0); under = joins (to_other_end (n.nodes leaf).leaf round (λ k. Credit k (in_port (n.nodes leaf).leaf j).freed) o) n.under })
credit_offered window tables n leaf round j None e some l freed ins linked a = cc
credit_offered window tables n leaf round j (Some r) e some l freed ins linked a =
    let s : LeafState = (n.nodes leaf).leaf in
    let stamp : Stamp = record { round = record { 0 = round }; source = record { 0 = s.own } } in
    changed window tables n leaf (with_leaf (n.nodes leaf) (offer_credit s round j).0) (credit_packet stamp r.leaf.0 r.port.0 (in_port s j).freed ∷ n.under) refl a
    (offer_credit_keeps window tables n leaf r.leaf.0 r.port.0 j stamp (omega (arith, ins)) (linked.owed j r l freed e) (balanced window tables n a))

-- the head of the outbox is offered
word_offered : (window : ℕ) (tables : Rows) (n : Net) (leaf round : ℕ) (w : Waiting) (ws : List Waiting) (o : Option Row) → row_of (n.nodes leaf).leaf w.port ≡ o → IsSome o → w.port < 8 → (n.nodes leaf).leaf.box ≡ w ∷ ws → IsLinked tables leaf (n.nodes leaf).leaf → Accounted window tables n
    → Accounted window tables (record { nodes = put n.nodes leaf (with_leaf (n.nodes leaf) (record (n.nodes leaf).leaf { box = ws })); under = joins (to_other_end (n.nodes leaf).leaf round (λ j. Data j w.number w.word) o) n.under })
word_offered window tables n leaf round w ws None e some l box linked a = cc
word_offered window tables n leaf round w ws (Some r) e some l box linked a =
    let s : LeafState = (n.nodes leaf).leaf in
    let stamp : Stamp = record { round = record { 0 = round }; source = record { 0 = s.own } } in
    changed window tables n leaf (with_leaf (n.nodes leaf) (record s { box = ws })) (data_packet stamp r.leaf.0 r.port.0 w.number w.word ∷ n.under) refl a
    (offer_word_keeps window tables n leaf r.leaf.0 r.port.0 w ws stamp (linked.waiting 0 w r (ap (λ (b : List Waiting). slice_get b 0) box) e) box (balanced window tables n a))

-- nothing is offered, or a row
same_keeps : (window : ℕ) (tables : Rows) (n : Net) (leaf : ℕ) → Accounted window tables n → Accounted window tables (record n { nodes = put n.nodes leaf (with_leaf (n.nodes leaf) (n.nodes leaf).leaf) })
same_keeps window tables n leaf a = apart window tables n leaf (n.nodes leaf).leaf n.under refl refl refl refl (λ e f. refl) (λ e. refl) a

row_offered : (window : ℕ) (tables : Rows) (n : Net) (leaf slot : ℕ) (row : Option Row) (p : Packet) → p.body ≡ Config slot row → Accounted window tables n → Accounted window tables (record { nodes = put n.nodes leaf (with_leaf (n.nodes leaf) (n.nodes leaf).leaf); under = p ∷ n.under })
row_offered window tables n leaf slot row p e a = apart window tables n leaf (n.nodes leaf).leaf (p ∷ n.under) refl refl refl refl
    (λ g f. ap (λ (xs : List Numbered). sum_by f xs) (no_row_words g.to g.inn p n.under slot row e))
    (λ g. ap (λ (xs : List ℕ). sum xs) (no_row_credits g.from g.out p n.under slot row e)) a

word_at : (window : ℕ) (tables : Rows) (n : Net) (leaf round : ℕ) (box : List Waiting) → (n.nodes leaf).leaf.box ≡ box → IsLeaf (n.nodes leaf).leaf → IsLinked tables leaf (n.nodes leaf).leaf → Accounted window tables n
    → Accounted window tables (record { nodes = put n.nodes leaf (with_leaf (n.nodes leaf) (offer_word (n.nodes leaf).leaf round box).0); under = joins (offer_word (n.nodes leaf).leaf round box).1 n.under })
word_at window tables n leaf round [] e h linked a = same_keeps window tables n leaf a
word_at window tables n leaf round (w ∷ ws) e h linked a =
    let at : slice_get (n.nodes leaf).leaf.box 0 ≡ Some w = ap (λ (b : List Waiting). slice_get b 0) e in
    word_offered window tables n leaf round w ws (row_of (n.nodes leaf).leaf w.port) refl (h.waiting 0 w at).row (h.waiting 0 w at).port e linked a

own_at : (window : ℕ) (tables : Rows) (n : Net) (leaf round : ℕ) (o : Option ℕ) → owed_from 0 (n.nodes leaf).leaf.ins ≡ o → IsLeaf (n.nodes leaf).leaf → IsLinked tables leaf (n.nodes leaf).leaf → Accounted window tables n
    → Accounted window tables (record { nodes = put n.nodes leaf (with_leaf (n.nodes leaf) (offer_own (n.nodes leaf).leaf round o).0); under = joins (offer_own (n.nodes leaf).leaf round o).1 n.under })
own_at window tables n leaf round None e h linked a = word_at window tables n leaf round (n.nodes leaf).leaf.box refl h linked a
own_at window tables n leaf round (Some j) e h linked a =
    let l : j < 8 = omega (arith, owed_within 0 (n.nodes leaf).leaf.ins j e, h.ins) in
    let freed : 0 < (in_port (n.nodes leaf).leaf j).freed = owed_is 0 (n.nodes leaf).leaf.ins j j (fresh_in (n.nodes leaf).leaf.window) e (omega arith) in
    credit_offered window tables n leaf round j (row_of (n.nodes leaf).leaf (8 + j)) refl (h.owed j l freed) l freed h.ins linked a

new_at : (window : ℕ) (tables : Rows) (n : Net) (leaf round : ℕ) (config : Option ConfigEntry) → IsLeaf (n.nodes leaf).leaf → IsLinked tables leaf (n.nodes leaf).leaf → Accounted window tables n
    → Accounted window tables (record { nodes = put n.nodes leaf (with_leaf (n.nodes leaf) (offer_new (n.nodes leaf).leaf round config).0); under = joins (offer_new (n.nodes leaf).leaf round config).1 n.under })
new_at window tables n leaf round None h linked a = own_at window tables n leaf round (owed_from 0 (n.nodes leaf).leaf.ins) refl h linked a
new_at window tables n leaf round (Some entry) h linked a = row_offered window tables n leaf entry.slot entry.row (injected (n.nodes leaf).leaf.own round entry.leaf.0 (Config entry.slot entry.row)) refl a

first_at : (window : ℕ) (tables : Rows) (n : Net) (leaf round : ℕ) (config : Option ConfigEntry) (back : Option Packet) → IsLeaf (n.nodes leaf).leaf → IsLinked tables leaf (n.nodes leaf).leaf → Accounted window tables n
    → Accounted window tables (record { nodes = put n.nodes leaf (with_leaf (n.nodes leaf) (offer_first (n.nodes leaf).leaf round config back).0); under = under_after back (offer_first (n.nodes leaf).leaf round config back).1 n.under })
first_at window tables n leaf round config None h linked a = new_at window tables n leaf round config h linked a
first_at window tables n leaf round config (Some p) h linked a = back_keeps window tables n leaf None a

-- a leaf offers a packet, or none
pub offer : (window : ℕ) (tables : Rows) (n : Net) (leaf round : ℕ) (config : Option ConfigEntry) → IsLeaf (n.nodes leaf).leaf → IsLinked tables leaf (n.nodes leaf).leaf → Accounted window tables n
    → Accounted window tables (record { nodes = put n.nodes leaf (with_leaf (n.nodes leaf) (offered (n.nodes leaf).leaf round config).0); under = under_after (n.nodes leaf).leaf.back (offered (n.nodes leaf).leaf round config).1 n.under })
offer window tables n leaf round config h linked a = first_at window tables n leaf round config (n.nodes leaf).leaf.back h linked a

-- what is under way may arrive
pub may_data : (window : ℕ) (tables : Rows) (n : Net) (e : Ends) (number word : ℕ) (stamp : Stamp) (rest : List Packet) → IsLink tables e → Accounted window tables n → SamePackets n.under (data_packet stamp e.to e.inn number word ∷ rest) → CanArrive (n.nodes e.to).leaf (Data (record { 0 = e.inn }) number word)
may_data window tables n e number word stamp rest link a same = data_may window tables n e number word stamp rest link (a e link).to_window (balanced window tables n a) same

pub may_credit : (window : ℕ) (tables : Rows) (n : Net) (e : Ends) (count : ℕ) (stamp : Stamp) (rest : List Packet) → IsLink tables e → Accounted window tables n → SamePackets n.under (credit_packet stamp e.from e.out count ∷ rest) → CanArrive (n.nodes e.from).leaf (Credit (record { 0 = e.out }) count)
may_credit window tables n e count stamp rest link a same = credit_may window tables n e count stamp rest link (a e link).from_window (balanced window tables n a) same

-- as a run begins
no_slots : (n k : ℕ) → in_slots k (replicate n None) ≡ []
no_slots zero k = refl
no_slots (suc n) k = no_slots n (k + 1)

long : (n : ℕ) → length (replicate n (let o : Option ℕ = None in o)) ≡ n
long zero = refl
long (suc n) = omega (arith, long n)

zero_mod : (n : ℕ) → 0 < n → 0 % n ≡ 0
zero_mod n l = let e : (0 * n + 0) % n ≡ 0 = mod-mul-add 0 n 0 l in (let z : 0 * n + 0 ≡ 0 = omega arith in ap (λ (k : ℕ). k % n) (sym z) ∙ e)

nth : {X : Type 0} (n i : ℕ) (x d : X) → i < n → slice_index_or (replicate n x) i d ≡ x
nth {X} zero i x d l = absurd (omega arith)
nth {X} (suc n) zero x d l = refl
nth {X} (suc n) (suc i) x d l = nth {X = X} n i x d (omega arith)

fresh_account : (window : ℕ) (o : OutHalf) (i : InHalf) → 0 < window → o ≡ (let x : OutHalf = record { credits = window; out_next = 0; box = []; written = [] } in x) → i ≡ (let x : InHalf = record { slots = replicate window None; in_next = 0; freed = 0; read = [] } in x) → IsAccount window (joined o i [] [])
fresh_account window o i some p q = rw (p, q) (record {
  unread = [];
  written = refl;
  once = λ f. ap (λ (xs : List Numbered). sum_by f xs) (no_slots window 0);
  total = omega arith;
  out_next = sym (zero_mod window some);
  in_next = sym (zero_mod window some);
  slots = long window;
  some = some;
})

fresh_out_half : (window : ℕ) (n : Node) (k : ℕ) → IsFresh window n → k < 8 → out_half n k ≡ (let x : OutHalf = record { credits = window; out_next = 0; box = []; written = [] } in x)
fresh_out_half window n k h l =
    let p : out_port n.leaf k ≡ fresh_out window = ap (λ (os : List OutPort). slice_index_or os k (record { credits = 0; next = 0 })) h.outs ∙ nth 8 k (fresh_out window) (record { credits = 0; next = 0 }) l in
    rw (p, h.box, h.written k) refl

fresh_in_half : (window : ℕ) (n : Node) (j : ℕ) → IsFresh window n → j < 8 → in_half n j ≡ (let x : InHalf = record { slots = replicate window None; in_next = 0; freed = 0; read = [] } in x)
fresh_in_half window n j h l =
    let p : in_port n.leaf j ≡ fresh_in window = ap (λ (qs : List InState). slice_index_or qs j (fresh_in n.leaf.window)) h.ins ∙ nth 8 j (fresh_in window) (fresh_in n.leaf.window) l in
    rw (p, h.read j) refl

pub begins : (window : ℕ) (tables : Rows) (nodes : ℕ → Node) → 0 < window → ((e : Ends) → IsLink tables e → IsFresh window (nodes e.from) × IsFresh window (nodes e.to)) → Accounted window tables (record { nodes = nodes; under = [] })
begins window tables nodes some h e l = record {
  from_window = (h e l).0.width;
  to_window = (h e l).1.width;
  account = fresh_account window (out_half (nodes e.from) e.out) (in_half (nodes e.to) e.inn) some (fresh_out_half window (nodes e.from) e.out (h e l).0 l.out) (fresh_in_half window (nodes e.to) e.inn (h e l).1 l.inn);
}

-- each move keeps the account of each channel
pub keeps : (window : ℕ) (tables : Rows) (n : Net) (m : Move) → Accounted window tables n → May tables n m → Accounted window tables (after n m)
keeps window tables n (Writes leaf port word) a may = write window tables n leaf port word may.0 may.1 a
keeps window tables n (Reads leaf port word) a may = read window tables n leaf port word may.0 may.1 a
keeps window tables n (Offers leaf round config) a may = offer window tables n leaf round config may.0 may.1 a
keeps window tables n (Accepts leaf p rest) a may = accept window tables n leaf p rest may.own may.sound may.arrives may.under a
keeps window tables n (Carries under) a may = carry window tables n under may a

pub arrives : (window : ℕ) (tables : Rows) (n : Net) (e : Ends) → IsLink tables e → Accounted window tables n → MayArrive n e
arrives window tables n e link a = record {
  word = λ number w stamp rest same. may_data window tables n e number w stamp rest link a same;
  credit = λ count stamp rest same. may_credit window tables n e count stamp rest link a same;
}

pub words : (window : ℕ) (tables : Rows) (n : Net) (e : Ends) → IsLink tables e → Accounted window tables n → IsReadInOrder window n e
words window tables n e link a =
    let c : IsAccount window (channel n e) = (a e link).account in
    record { unread = c.unread; written = c.written; few = omega (arith, c.total) }
