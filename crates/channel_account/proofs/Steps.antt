-- Each move of a network keeps the account of every channel.
use Rattle.std.proofs.Common.{◌≡◌, ℕ, ◌+◌, ◌<◌, ◌≤◌, ◌≢◌, ◌⊎◌, Bool, true, false, cond, List, [], ◌∷◌, ◌++◌, length, sum, refl, ap, sym, ◌∙◌, arith, Option, Some, None, subst, inl, inr, is_some}
use Rattle.std.specs.Prelude.{slice_index_or, slice_set, if◌then◌else◌, ◌==◌}
use Rattle.std.specs.List.{count_by, sum_by}
use Rattle.std.proofs.lemmas.List.Sums.{sum_by-cons, sum_by-append}
use Rattle.net_switch.specs.declared.packet.Row.{Row}
use Rattle.net_switch.specs.declared.packet.Stamp.{Stamp}
use Rattle.net_switch.specs.declared.packet.Packet.{Packet}
use Rattle.net_switch.specs.declared.packet.Body.TheVariants.{Data, Credit}
use Rattle.leaf_port.specs.declared.ports.Waiting.{Waiting}
use Rattle.leaf_port.specs.Ports.{credited as credited_in}
use Rattle.leaf_port.specs.Leaf.{out_port, in_port, delivered, CanArrive, boxed}
use Rattle.leaf_port.proofs.Keeps.{boxed-cons}
use Rattle.channel_account.specs.Account.{Numbered, SameItems, in_slots, IsAccount}
use Rattle.channel_account.proofs.Counts.{one, count-append, count-cons}
use Rattle.channel_account.proofs.Channels.{moved, wrote_keeps, took_keeps, moved_keeps, arrived_keeps, returned_keeps, credited_keeps, MayArrive, may_arrive, credit_fits}
use Rattle.channel_account.specs.Network.{Rows, Node, Net, Ends, OutHalf, InHalf, out_half, in_half, joined, channel, IsLink, SamePackets, data_packet, credit_packet, put, row_to, node_wrote, node_took, with_leaf, words_of, words_for, credits_for, packet_words, packet_credits}
use Rattle.channel_account.proofs.Halves.{same_true, true_same, false_other, wrote_out, wrote_out_other, wrote_in, took_in, took_in_other, took_out, out_written, in_taken, in_arrived, data_in, data_in_other, out_credited, credit_out, credit_out_other, out_sent, sent_out, sent_out_other, in_returned, returned_in, returned_in_other}

-- the account of each channel
abbrev pub Balanced : ℕ → Rows → Net → Type 0
Balanced window tables n = (e : Ends) → IsLink tables e → IsAccount window (channel n e)

-- what is counted of the words under way
pub words_weigh : (f : Numbered → ℕ) (m j : ℕ) (ps : List Packet) → sum_by f (words_for m j ps) ≡ sum_by (λ (p : Packet). sum_by f (packet_words m j p)) ps
words_weigh f m j [] = refl
words_weigh f m j (p ∷ ps) =
    count-append f (packet_words m j p) (words_for m j ps) ∙ (ap (λ (n : ℕ). sum_by f (packet_words m j p) + n) (words_weigh f m j ps) ∙ sym (sum_by-cons (λ (p : Packet). sum_by f (packet_words m j p)) p ps))

pub credits_weigh : (m k : ℕ) (ps : List Packet) → sum (credits_for m k ps) ≡ sum_by (λ (p : Packet). sum (packet_credits m k p)) ps
credits_weigh m k [] = refl
credits_weigh m k (p ∷ ps) =
    sum_by-append (λ (x : ℕ). x) (packet_credits m k p) (credits_for m k ps) ∙ (ap (λ (n : ℕ). sum (packet_credits m k p) + n) (credits_weigh m k ps) ∙ sym (sum_by-cons (λ (p : Packet). sum (packet_credits m k p)) p ps))

words_same : (m j : ℕ) (ps qs : List Packet) → SamePackets ps qs → SameItems (words_for m j ps) (words_for m j qs)
words_same m j ps qs same f = words_weigh f m j ps ∙ (same (λ (p : Packet). sum_by f (packet_words m j p)) ∙ sym (words_weigh f m j qs))

credits_same : (m k : ℕ) (ps qs : List Packet) → SamePackets ps qs → sum (credits_for m k ps) ≡ sum (credits_for m k qs)
credits_same m k ps qs same = credits_weigh m k ps ∙ (same (λ (p : Packet). sum (packet_credits m k p)) ∙ sym (credits_weigh m k qs))

-- the ends stay, and between them nothing is lost or made
pub under_keeps : (window : ℕ) (o : OutHalf) (i : InHalf) (w v : List Numbered) (r s : List ℕ) → SameItems v w → sum s ≡ sum r → IsAccount window (joined o i w r) → IsAccount window (joined o i v s)
under_keeps window o i w v r s same e a =
    let b : IsAccount window (moved o.box v (joined o i w r)) = moved_keeps window o.box v (joined o i w r) (λ f. ap (λ (n : ℕ). sum_by f o.box + n) (same f)) a in
    record {
      unread = b.unread;
      written = b.written;
      once = b.once;
      total = ap (λ (n : ℕ). o.credits + n + i.freed + length b.unread) e ∙ b.total;
      out_next = b.out_next;
      in_next = b.in_next;
      slots = b.slots;
      some = b.some;
    }

-- packets change their places
pub permute_keeps : (window : ℕ) (tables : Rows) (n : Net) (under : List Packet) → SamePackets under n.under → Balanced window tables n → Balanced window tables (record n { under = under })
permute_keeps window tables n under same a e link =
    under_keeps window (out_half (n.nodes e.from) e.out) (in_half (n.nodes e.to) e.inn) _ _ _ _ (words_same e.to e.inn under n.under same) (credits_same e.from e.out under n.under same) (a e link)

-- a half at a leaf, after a change of one leaf
out_put_at : (nodes : ℕ → Node) (leaf : ℕ) (n : Node) (x k i : ℕ) (F : OutHalf → OutHalf) (b c : Bool) → (x == leaf) ≡ b → (i == k) ≡ c → out_half n k ≡ F (out_half (nodes leaf) k) → (i ≢ k → out_half n i ≡ out_half (nodes leaf) i)
    → ((x ≡ leaf) × (i ≡ k) × (out_half (if b then n else nodes x) i ≡ F (out_half (nodes x) i))) ⊎ (((x ≡ leaf) × (i ≡ k) → ⊥) × (out_half (if b then n else nodes x) i ≡ out_half (nodes x) i))
out_put_at nodes leaf n x k i F true true e f hit other =
    let p : x ≡ leaf = true_same x leaf e in
    let q : i ≡ k = true_same i k f in
    inl (p, q, ap (out_half n) q ∙ (hit ∙ (ap (λ (j : ℕ). F (out_half (nodes leaf) j)) (sym q) ∙ ap (λ (y : ℕ). F (out_half (nodes y) i)) (sym p))))
out_put_at nodes leaf n x k i F true false e f hit other =
    let p : x ≡ leaf = true_same x leaf e in
    let q : i ≢ k = false_other i k f in
    inr (λ h. q h.1, other q ∙ ap (λ (y : ℕ). out_half (nodes y) i) (sym p))
out_put_at nodes leaf n x k i F false c e f hit other = inr (λ h. false_other x leaf e h.0, refl)

pub out_put : (nodes : ℕ → Node) (leaf : ℕ) (n : Node) (x k i : ℕ) (F : OutHalf → OutHalf) → out_half n k ≡ F (out_half (nodes leaf) k) → (i ≢ k → out_half n i ≡ out_half (nodes leaf) i)
    → ((x ≡ leaf) × (i ≡ k) × (out_half (put nodes leaf n x) i ≡ F (out_half (nodes x) i))) ⊎ (((x ≡ leaf) × (i ≡ k) → ⊥) × (out_half (put nodes leaf n x) i ≡ out_half (nodes x) i))
out_put nodes leaf n x k i F hit other = out_put_at nodes leaf n x k i F (x == leaf) (i == k) refl refl hit other

in_put_at : (nodes : ℕ → Node) (leaf : ℕ) (n : Node) (x k i : ℕ) (F : InHalf → InHalf) (b c : Bool) → (x == leaf) ≡ b → (i == k) ≡ c → in_half n k ≡ F (in_half (nodes leaf) k) → (i ≢ k → in_half n i ≡ in_half (nodes leaf) i)
    → ((x ≡ leaf) × (i ≡ k) × (in_half (if b then n else nodes x) i ≡ F (in_half (nodes x) i))) ⊎ (((x ≡ leaf) × (i ≡ k) → ⊥) × (in_half (if b then n else nodes x) i ≡ in_half (nodes x) i))
in_put_at nodes leaf n x k i F true true e f hit other =
    let p : x ≡ leaf = true_same x leaf e in
    let q : i ≡ k = true_same i k f in
    inl (p, q, ap (in_half n) q ∙ (hit ∙ (ap (λ (j : ℕ). F (in_half (nodes leaf) j)) (sym q) ∙ ap (λ (y : ℕ). F (in_half (nodes y) i)) (sym p))))
in_put_at nodes leaf n x k i F true false e f hit other =
    let p : x ≡ leaf = true_same x leaf e in
    let q : i ≢ k = false_other i k f in
    inr (λ h. q h.1, other q ∙ ap (λ (y : ℕ). in_half (nodes y) i) (sym p))
in_put_at nodes leaf n x k i F false c e f hit other = inr (λ h. false_other x leaf e h.0, refl)

pub in_put : (nodes : ℕ → Node) (leaf : ℕ) (n : Node) (x k i : ℕ) (F : InHalf → InHalf) → in_half n k ≡ F (in_half (nodes leaf) k) → (i ≢ k → in_half n i ≡ in_half (nodes leaf) i)
    → ((x ≡ leaf) × (i ≡ k) × (in_half (put nodes leaf n x) i ≡ F (in_half (nodes x) i))) ⊎ (((x ≡ leaf) × (i ≡ k) → ⊥) × (in_half (put nodes leaf n x) i ≡ in_half (nodes x) i))
in_put nodes leaf n x k i F hit other = in_put_at nodes leaf n x k i F (x == leaf) (i == k) refl refl hit other

in_stays_at : (nodes : ℕ → Node) (leaf : ℕ) (n : Node) (x i : ℕ) (b : Bool) → (x == leaf) ≡ b → in_half n i ≡ in_half (nodes leaf) i → in_half (if b then n else nodes x) i ≡ in_half (nodes x) i
in_stays_at nodes leaf n x i true e h = h ∙ ap (λ (y : ℕ). in_half (nodes y) i) (sym (true_same x leaf e))
in_stays_at nodes leaf n x i false e h = refl

pub in_stays : (nodes : ℕ → Node) (leaf : ℕ) (n : Node) (x i : ℕ) → in_half n i ≡ in_half (nodes leaf) i → in_half (put nodes leaf n x) i ≡ in_half (nodes x) i
in_stays nodes leaf n x i h = in_stays_at nodes leaf n x i (x == leaf) refl h

out_stays_at : (nodes : ℕ → Node) (leaf : ℕ) (n : Node) (x i : ℕ) (b : Bool) → (x == leaf) ≡ b → out_half n i ≡ out_half (nodes leaf) i → out_half (if b then n else nodes x) i ≡ out_half (nodes x) i
out_stays_at nodes leaf n x i true e h = h ∙ ap (λ (y : ℕ). out_half (nodes y) i) (sym (true_same x leaf e))
out_stays_at nodes leaf n x i false e h = refl

pub out_stays : (nodes : ℕ → Node) (leaf : ℕ) (n : Node) (x i : ℕ) → out_half n i ≡ out_half (nodes leaf) i → out_half (put nodes leaf n x) i ≡ out_half (nodes x) i
out_stays nodes leaf n x i h = out_stays_at nodes leaf n x i (x == leaf) refl h

-- the account with each half replaced by an equal one
pub halves : (window : ℕ) (o o' : OutHalf) (i i' : InHalf) (w : List Numbered) (r : List ℕ) → o' ≡ o → i' ≡ i → IsAccount window (joined o i w r) → IsAccount window (joined o' i' w r)
halves window o o' i i' w r p q a =
    subst (λ (x : OutHalf). IsAccount window (joined x i' w r)) (sym p) (subst (λ (x : InHalf). IsAccount window (joined o x w r)) (sym q) a)

-- a write
pub write_keeps : (window : ℕ) (tables : Rows) (n : Net) (leaf k w : ℕ) → k < length (n.nodes leaf).leaf.outs → 0 < (out_port (n.nodes leaf).leaf k).credits → ((e : Ends) → IsLink tables e → (n.nodes e.from).leaf.window ≡ window) → Balanced window tables n → Balanced window tables (record n { nodes = put n.nodes leaf (node_wrote k w (n.nodes leaf)) })
write_keeps window tables n leaf k w l credit wn a e link =
    let wire : List Numbered = words_for e.to e.inn n.under in
    let ret : List ℕ = credits_for e.from e.out n.under in
    let i : in_half (put n.nodes leaf (node_wrote k w (n.nodes leaf)) e.to) e.inn ≡ in_half (n.nodes e.to) e.inn = in_stays n.nodes leaf (node_wrote k w (n.nodes leaf)) e.to e.inn (wrote_in (n.nodes leaf) k w e.inn) in
    elim (out_put n.nodes leaf (node_wrote k w (n.nodes leaf)) e.from k e.out (out_written (n.nodes leaf).leaf.window w) (wrote_out (n.nodes leaf) k w l) (wrote_out_other (n.nodes leaf) k w e.out)) [
      | inl h ↦ (
          let c : 0 < (out_port (n.nodes e.from).leaf e.out).credits = subst (λ (x : ℕ). 0 < (out_port (n.nodes x).leaf e.out).credits) (sym h.0) (subst (λ (x : ℕ). 0 < (out_port (n.nodes leaf).leaf x).credits) (sym h.1) credit) in
          let lw : (n.nodes leaf).leaf.window ≡ window = ap (λ (x : ℕ). (n.nodes x).leaf.window) (sym h.0) ∙ wn e link in
          let hit : out_half (put n.nodes leaf (node_wrote k w (n.nodes leaf)) e.from) e.out ≡ out_written window w (out_half (n.nodes e.from) e.out) = h.2 ∙ ap (λ (v : ℕ). out_written v w (out_half (n.nodes e.from) e.out)) lw in
          halves window _ _ _ _ wire ret hit i (wrote_keeps window w (channel n e) c (a e link)))
      | inr h ↦ halves window _ _ _ _ wire ret h.1 i (a e link)
    ]

-- a read
pub read_keeps : (window : ℕ) (tables : Rows) (n : Net) (leaf j w : ℕ) → j < length (n.nodes leaf).leaf.ins → slice_index_or (in_port (n.nodes leaf).leaf j).slots (in_port (n.nodes leaf).leaf j).next None ≡ Some w → ((e : Ends) → IsLink tables e → (n.nodes e.to).leaf.window ≡ window) → Balanced window tables n → Balanced window tables (record n { nodes = put n.nodes leaf (node_took j w (n.nodes leaf)) })
read_keeps window tables n leaf j w l word wn a e link =
    let wire : List Numbered = words_for e.to e.inn n.under in
    let ret : List ℕ = credits_for e.from e.out n.under in
    let o : out_half (put n.nodes leaf (node_took j w (n.nodes leaf)) e.from) e.out ≡ out_half (n.nodes e.from) e.out = out_stays n.nodes leaf (node_took j w (n.nodes leaf)) e.from e.out (took_out (n.nodes leaf) j w e.out) in
    elim (in_put n.nodes leaf (node_took j w (n.nodes leaf)) e.to j e.inn (in_taken (n.nodes leaf).leaf.window w) (took_in (n.nodes leaf) j w l) (took_in_other (n.nodes leaf) j w e.inn)) [
      | inl h ↦ (
          let f : InHalf → Option ℕ = λ (x : InHalf). slice_index_or x.slots x.in_next None in
          let c : f (in_half (n.nodes e.to) e.inn) ≡ Some w = ap (λ (x : ℕ). f (in_half (n.nodes x) e.inn)) h.0 ∙ (ap (λ (x : ℕ). f (in_half (n.nodes leaf) x)) h.1 ∙ word) in
          let lw : (n.nodes leaf).leaf.window ≡ window = ap (λ (x : ℕ). (n.nodes x).leaf.window) (sym h.0) ∙ wn e link in
          let hit : in_half (put n.nodes leaf (node_took j w (n.nodes leaf)) e.to) e.inn ≡ in_taken window w (in_half (n.nodes e.to) e.inn) = h.2 ∙ ap (λ (v : ℕ). in_taken v w (in_half (n.nodes e.to) e.inn)) lw in
          halves window _ _ _ _ wire ret o hit (took_keeps window w (channel n e) c (a e link)))
      | inr h ↦ halves window _ _ _ _ wire ret o h.1 (a e link)
    ]

-- what a packet brings to a channel
no_words_at : (m j : ℕ) (stamp : Stamp) (to i number word : ℕ) (b c : Bool) → (to == m) ≡ b → (i == j) ≡ c → ((m ≡ to) × (j ≡ i) → ⊥) → packet_words m j (record { stamp = stamp; to = record { 0 = to }; body = Data (record { 0 = i }) number word }) ≡ []
no_words_at m j stamp to i number word true true e f h = absurd (h (sym (true_same to m e), sym (true_same i j f)))
no_words_at m j stamp to i number word true false e f h = rw (e, f) refl
no_words_at m j stamp to i number word false c e f h = rw e refl

no_words : (m j : ℕ) (stamp : Stamp) (to i number word : ℕ) → ((m ≡ to) × (j ≡ i) → ⊥) → packet_words m j (record { stamp = stamp; to = record { 0 = to }; body = Data (record { 0 = i }) number word }) ≡ []
no_words m j stamp to i number word h = no_words_at m j stamp to i number word (to == m) (i == j) refl refl h

some_words : (m j : ℕ) (stamp : Stamp) (to i number word : ℕ) → m ≡ to → j ≡ i → packet_words m j (record { stamp = stamp; to = record { 0 = to }; body = Data (record { 0 = i }) number word }) ≡ (number, word) ∷ []
some_words m j stamp to i number word p q = rw (same_true to m (sym p), same_true i j (sym q)) refl

no_credits_at : (m k : ℕ) (stamp : Stamp) (to i count : ℕ) (b c : Bool) → (to == m) ≡ b → (i == k) ≡ c → ((m ≡ to) × (k ≡ i) → ⊥) → packet_credits m k (record { stamp = stamp; to = record { 0 = to }; body = Credit (record { 0 = i }) count }) ≡ []
no_credits_at m k stamp to i count true true e f h = absurd (h (sym (true_same to m e), sym (true_same i k f)))
no_credits_at m k stamp to i count true false e f h = rw (e, f) refl
no_credits_at m k stamp to i count false c e f h = rw e refl

no_credits : (m k : ℕ) (stamp : Stamp) (to i count : ℕ) → ((m ≡ to) × (k ≡ i) → ⊥) → packet_credits m k (record { stamp = stamp; to = record { 0 = to }; body = Credit (record { 0 = i }) count }) ≡ []
no_credits m k stamp to i count h = no_credits_at m k stamp to i count (to == m) (i == k) refl refl h

some_credits : (m k : ℕ) (stamp : Stamp) (to i count : ℕ) → m ≡ to → k ≡ i → packet_credits m k (record { stamp = stamp; to = record { 0 = to }; body = Credit (record { 0 = i }) count }) ≡ count ∷ []
some_credits m k stamp to i count p q = rw (same_true to m (sym p), same_true i k (sym q)) refl

data_no_credits_at : (m k : ℕ) (stamp : Stamp) (to i number word : ℕ) (b : Bool) → (to == m) ≡ b → packet_credits m k (record { stamp = stamp; to = record { 0 = to }; body = Data (record { 0 = i }) number word }) ≡ []
data_no_credits_at m k stamp to i number word true e = rw e refl
data_no_credits_at m k stamp to i number word false e = rw e refl

data_no_credits : (m k : ℕ) (stamp : Stamp) (to i number word : ℕ) → packet_credits m k (record { stamp = stamp; to = record { 0 = to }; body = Data (record { 0 = i }) number word }) ≡ []
data_no_credits m k stamp to i number word = data_no_credits_at m k stamp to i number word (to == m) refl

credit_no_words_at : (m k : ℕ) (stamp : Stamp) (to i count : ℕ) (b : Bool) → (to == m) ≡ b → packet_words m k (record { stamp = stamp; to = record { 0 = to }; body = Credit (record { 0 = i }) count }) ≡ []
credit_no_words_at m k stamp to i count true e = rw e refl
credit_no_words_at m k stamp to i count false e = rw e refl

credit_no_words : (m k : ℕ) (stamp : Stamp) (to i count : ℕ) → packet_words m k (record { stamp = stamp; to = record { 0 = to }; body = Credit (record { 0 = i }) count }) ≡ []
credit_no_words m k stamp to i count = credit_no_words_at m k stamp to i count (to == m) refl

-- a word arrives at its leaf
pub data_keeps : (window : ℕ) (tables : Rows) (n : Net) (leaf j number word : ℕ) (stamp : Stamp) (rest : List Packet) → j < length (n.nodes leaf).leaf.ins → SamePackets n.under (data_packet stamp leaf j number word ∷ rest) → Balanced window tables n → Balanced window tables (record { nodes = put n.nodes leaf (with_leaf (n.nodes leaf) (delivered (n.nodes leaf).leaf (Data (record { 0 = j }) number word))); under = rest })
data_keeps window tables n leaf j number word stamp rest l same a e link =
    let p : Packet = data_packet stamp leaf j number word in
    let nd : Node = with_leaf (n.nodes leaf) (delivered (n.nodes leaf).leaf (Data (record { 0 = j }) number word)) in
    let o : out_half (put n.nodes leaf nd e.from) e.out ≡ out_half (n.nodes e.from) e.out = out_stays n.nodes leaf nd e.from e.out refl in
    let w : SameItems (words_for e.to e.inn n.under) (words_for e.to e.inn (p ∷ rest)) = words_same e.to e.inn n.under (p ∷ rest) same in
    let c : sum (credits_for e.from e.out n.under) ≡ sum (credits_for e.from e.out (p ∷ rest)) = credits_same e.from e.out n.under (p ∷ rest) same in
    let c0 : credits_for e.from e.out (p ∷ rest) ≡ credits_for e.from e.out rest = ap (λ (xs : List ℕ). xs ++ credits_for e.from e.out rest) (data_no_credits e.from e.out stamp leaf j number word) in
    let c' : sum (credits_for e.from e.out rest) ≡ sum (credits_for e.from e.out n.under) = sym (c ∙ ap (λ (xs : List ℕ). sum xs) c0) in
    elim (in_put n.nodes leaf nd e.to j e.inn (in_arrived (number, word)) (data_in (n.nodes leaf) (record { 0 = j }) number word l) (data_in_other (n.nodes leaf) (record { 0 = j }) number word e.inn)) [
      | inl h ↦ (
          let x : words_for e.to e.inn (p ∷ rest) ≡ (number, word) ∷ words_for e.to e.inn rest = ap (λ (xs : List Numbered). xs ++ words_for e.to e.inn rest) (some_words e.to e.inn stamp leaf j number word h.0 h.1) in
          let w' : SameItems (words_for e.to e.inn n.under) ((number, word) ∷ words_for e.to e.inn rest) = λ f. w f ∙ ap (λ (xs : List Numbered). sum_by f xs) x in
          let b : IsAccount window (joined (out_half (n.nodes e.from) e.out) (in_arrived (number, word) (in_half (n.nodes e.to) e.inn)) (words_for e.to e.inn rest) (credits_for e.from e.out n.under)) = arrived_keeps window (channel n e) (number, word) (words_for e.to e.inn rest) (a e link) w' in
          halves window _ _ _ _ _ _ o h.2 (under_keeps window _ _ _ _ _ _ (λ f. refl) c' b))
      | inr h ↦ (
          let x : words_for e.to e.inn (p ∷ rest) ≡ words_for e.to e.inn rest = ap (λ (xs : List Numbered). xs ++ words_for e.to e.inn rest) (no_words e.to e.inn stamp leaf j number word h.0) in
          let w' : SameItems (words_for e.to e.inn rest) (words_for e.to e.inn n.under) = λ f. sym (w f ∙ ap (λ (xs : List Numbered). sum_by f xs) x) in
          halves window _ _ _ _ _ _ o h.1 (under_keeps window _ _ _ _ _ _ w' c' (a e link)))
    ]

-- a credit arrives at its leaf
pub credit_keeps : (window : ℕ) (tables : Rows) (n : Net) (leaf k count : ℕ) (stamp : Stamp) (rest : List Packet) → k < length (n.nodes leaf).leaf.outs → SamePackets n.under (credit_packet stamp leaf k count ∷ rest) → Balanced window tables n → Balanced window tables (record { nodes = put n.nodes leaf (with_leaf (n.nodes leaf) (delivered (n.nodes leaf).leaf (Credit (record { 0 = k }) count))); under = rest })
credit_keeps window tables n leaf k count stamp rest l same a e link =
    let p : Packet = credit_packet stamp leaf k count in
    let nd : Node = with_leaf (n.nodes leaf) (delivered (n.nodes leaf).leaf (Credit (record { 0 = k }) count)) in
    let i : in_half (put n.nodes leaf nd e.to) e.inn ≡ in_half (n.nodes e.to) e.inn = in_stays n.nodes leaf nd e.to e.inn refl in
    let w : SameItems (words_for e.to e.inn n.under) (words_for e.to e.inn (p ∷ rest)) = words_same e.to e.inn n.under (p ∷ rest) same in
    let c : sum (credits_for e.from e.out n.under) ≡ sum (credits_for e.from e.out (p ∷ rest)) = credits_same e.from e.out n.under (p ∷ rest) same in
    let w0 : words_for e.to e.inn (p ∷ rest) ≡ words_for e.to e.inn rest = ap (λ (xs : List Numbered). xs ++ words_for e.to e.inn rest) (credit_no_words e.to e.inn stamp leaf k count) in
    let w' : SameItems (words_for e.to e.inn rest) (words_for e.to e.inn n.under) = λ f. sym (w f ∙ ap (λ (xs : List Numbered). sum_by f xs) w0) in
    elim (out_put n.nodes leaf nd e.from k e.out (out_credited count) (credit_out (n.nodes leaf) (record { 0 = k }) count l) (credit_out_other (n.nodes leaf) (record { 0 = k }) count e.out)) [
      | inl h ↦ (
          let x : credits_for e.from e.out (p ∷ rest) ≡ count ∷ credits_for e.from e.out rest = ap (λ (xs : List ℕ). xs ++ credits_for e.from e.out rest) (some_credits e.from e.out stamp leaf k count h.0 h.1) in
          let c' : sum (credits_for e.from e.out n.under) ≡ count + sum (credits_for e.from e.out rest) = c ∙ (ap (λ (xs : List ℕ). sum xs) x ∙ sum_by-cons (λ (y : ℕ). y) count (credits_for e.from e.out rest)) in
          let b : IsAccount window (joined (out_credited count (out_half (n.nodes e.from) e.out)) (in_half (n.nodes e.to) e.inn) (words_for e.to e.inn n.under) (credits_for e.from e.out rest)) = credited_keeps window (channel n e) count (credits_for e.from e.out rest) (a e link) c' in
          halves window _ _ _ _ _ _ h.2 i (under_keeps window _ _ _ _ _ _ w' refl b))
      | inr h ↦ (
          let x : credits_for e.from e.out (p ∷ rest) ≡ credits_for e.from e.out rest = ap (λ (xs : List ℕ). xs ++ credits_for e.from e.out rest) (no_credits e.from e.out stamp leaf k count h.0) in
          let c' : sum (credits_for e.from e.out rest) ≡ sum (credits_for e.from e.out n.under) = sym (c ∙ ap (λ (xs : List ℕ). sum xs) x) in
          halves window _ _ _ _ _ _ h.1 i (under_keeps window _ _ _ _ _ _ w' c' (a e link)))
    ]

abbrev leaf_of : Option Row → ℕ
leaf_of None = 0
leaf_of (Some r) = r.leaf.0

abbrev port_of : Option Row → ℕ
port_of None = 0
port_of (Some r) = r.port.0

row_leaf : (a b c d : ℕ) (o : Option Row) → o ≡ row_to a b → o ≡ row_to c d → a ≡ c
row_leaf a b c d o e f = ap leaf_of (sym e ∙ f)

row_port : (a b c d : ℕ) (o : Option Row) → o ≡ row_to a b → o ≡ row_to c d → b ≡ d
row_port a b c d o e f = ap port_of (sym e ∙ f)

-- the same end has the same other end
pub same_to : (tables : Rows) (e g : Ends) → IsLink tables e → IsLink tables g → e.from ≡ g.from → e.out ≡ g.out → (e.to ≡ g.to) × (e.inn ≡ g.inn)
same_to tables e g l m p q =
    let h : tables e.from e.out ≡ row_to g.to g.inn = ap (λ (x : ℕ). tables x e.out) p ∙ (ap (λ (x : ℕ). tables g.from x) q ∙ m.from_row) in
    (row_leaf e.to e.inn g.to g.inn (tables e.from e.out) l.from_row h, row_port e.to e.inn g.to g.inn (tables e.from e.out) l.from_row h)

pub same_from : (tables : Rows) (e g : Ends) → IsLink tables e → IsLink tables g → e.to ≡ g.to → e.inn ≡ g.inn → (e.from ≡ g.from) × (e.out ≡ g.out)
same_from tables e g l m p q =
    let h : tables e.to (8 + e.inn) ≡ row_to g.from g.out = ap (λ (x : ℕ). tables x (8 + e.inn)) p ∙ (ap (λ (x : ℕ). tables g.to (8 + x)) q ∙ m.to_row) in
    (row_leaf e.from e.out g.from g.out (tables e.to (8 + e.inn)) l.to_row h, row_port e.from e.out g.from g.out (tables e.to (8 + e.inn)) l.to_row h)

-- the head of an outbox is offered
pub offer_word_keeps : (window : ℕ) (tables : Rows) (n : Net) (leaf m j : ℕ) (x : Waiting) (ws : List Waiting) (stamp : Stamp) → IsLink tables (record { from = leaf; out = x.port; to = m; inn = j }) → (n.nodes leaf).leaf.box ≡ x ∷ ws → Balanced window tables n → Balanced window tables (record { nodes = put n.nodes leaf (with_leaf (n.nodes leaf) (record (n.nodes leaf).leaf { box = ws })); under = data_packet stamp m j x.number x.word ∷ n.under })
offer_word_keeps window tables n leaf m j x ws stamp lk box a e link =
    let g : Ends = record { from = leaf; out = x.port; to = m; inn = j } in
    let p : Packet = data_packet stamp m j x.number x.word in
    let nd : Node = with_leaf (n.nodes leaf) (record (n.nodes leaf).leaf { box = ws }) in
    let i : in_half (put n.nodes leaf nd e.to) e.inn ≡ in_half (n.nodes e.to) e.inn = in_stays n.nodes leaf nd e.to e.inn refl in
    let c : credits_for e.from e.out (p ∷ n.under) ≡ credits_for e.from e.out n.under = ap (λ (xs : List ℕ). xs ++ credits_for e.from e.out n.under) (data_no_credits e.from e.out stamp m j x.number x.word) in
    let c' : sum (credits_for e.from e.out (p ∷ n.under)) ≡ sum (credits_for e.from e.out n.under) = ap (λ (xs : List ℕ). sum xs) c in
    let sent : (out_half nd x.port ≡ out_sent (words_of x.port ws) (out_half (n.nodes leaf) x.port)) × ((out_half (n.nodes leaf) x.port).box ≡ (x.number, x.word) ∷ words_of x.port ws) = sent_out (n.nodes leaf) x ws box in
    elim (out_put n.nodes leaf nd e.from x.port e.out (out_sent (words_of x.port ws)) sent.0 (sent_out_other (n.nodes leaf) x ws e.out box)) [
      | inl h ↦ (
          let to : (e.to ≡ m) × (e.inn ≡ j) = same_to tables e g link lk h.0 h.1 in
          let w : words_for e.to e.inn (p ∷ n.under) ≡ (x.number, x.word) ∷ words_for e.to e.inn n.under = ap (λ (xs : List Numbered). xs ++ words_for e.to e.inn n.under) (some_words e.to e.inn stamp m j x.number x.word to.0 to.1) in
          let b : (out_half (n.nodes e.from) e.out).box ≡ (x.number, x.word) ∷ words_of x.port ws = ap (λ (y : ℕ). (out_half (n.nodes y) e.out).box) h.0 ∙ (ap (λ (y : ℕ). (out_half (n.nodes leaf) y).box) h.1 ∙ sent.1) in
          let k : (f : Numbered → ℕ) → sum_by f (words_of x.port ws) + sum_by f (words_for e.to e.inn (p ∷ n.under)) ≡ sum_by f (out_half (n.nodes e.from) e.out).box + sum_by f (words_for e.to e.inn n.under) = λ f. (
          let u : sum_by f (words_for e.to e.inn (p ∷ n.under)) ≡ one f (x.number, x.word) + sum_by f (words_for e.to e.inn n.under) = ap (λ (xs : List Numbered). sum_by f xs) w ∙ count-cons f (x.number, x.word) (words_for e.to e.inn n.under) in
          let v : sum_by f (out_half (n.nodes e.from) e.out).box ≡ one f (x.number, x.word) + sum_by f (words_of x.port ws) = ap (λ (xs : List Numbered). sum_by f xs) b ∙ count-cons f (x.number, x.word) (words_of x.port ws) in
          omega arith) in
          let r : IsAccount window (joined (out_sent (words_of x.port ws) (out_half (n.nodes e.from) e.out)) (in_half (n.nodes e.to) e.inn) (words_for e.to e.inn (p ∷ n.under)) (credits_for e.from e.out n.under)) = moved_keeps window (words_of x.port ws) (words_for e.to e.inn (p ∷ n.under)) (channel n e) k (a e link) in
          halves window _ _ _ _ _ _ h.2 i (under_keeps window _ _ _ _ _ _ (λ f. refl) c' r))
      | inr h ↦ (
          let w : words_for e.to e.inn (p ∷ n.under) ≡ words_for e.to e.inn n.under = ap (λ (xs : List Numbered). xs ++ words_for e.to e.inn n.under) (no_words e.to e.inn stamp m j x.number x.word (λ t. h.0 (same_from tables e g link lk t.0 t.1))) in
          halves window _ _ _ _ _ _ h.1 i (under_keeps window _ _ _ _ _ _ (λ f. ap (λ (xs : List Numbered). sum_by f xs) w) c' (a e link)))
    ]

-- freed room is offered
pub offer_credit_keeps : (window : ℕ) (tables : Rows) (n : Net) (leaf m k j : ℕ) (stamp : Stamp) → j < length (n.nodes leaf).leaf.ins → IsLink tables (record { from = m; out = k; to = leaf; inn = j }) → Balanced window tables n → Balanced window tables (record { nodes = put n.nodes leaf (with_leaf (n.nodes leaf) (record (n.nodes leaf).leaf { ins = slice_set (n.nodes leaf).leaf.ins j (credited_in (in_port (n.nodes leaf).leaf j)) })); under = credit_packet stamp m k (in_port (n.nodes leaf).leaf j).freed ∷ n.under })
offer_credit_keeps window tables n leaf m k j stamp l lk a e link =
    let g : Ends = record { from = m; out = k; to = leaf; inn = j } in
    let count : ℕ = (in_port (n.nodes leaf).leaf j).freed in
    let p : Packet = credit_packet stamp m k count in
    let nd : Node = with_leaf (n.nodes leaf) (record (n.nodes leaf).leaf { ins = slice_set (n.nodes leaf).leaf.ins j (credited_in (in_port (n.nodes leaf).leaf j)) }) in
    let o : out_half (put n.nodes leaf nd e.from) e.out ≡ out_half (n.nodes e.from) e.out = out_stays n.nodes leaf nd e.from e.out refl in
    let w : words_for e.to e.inn (p ∷ n.under) ≡ words_for e.to e.inn n.under = ap (λ (xs : List Numbered). xs ++ words_for e.to e.inn n.under) (credit_no_words e.to e.inn stamp m k count) in
    let w' : SameItems (words_for e.to e.inn (p ∷ n.under)) (words_for e.to e.inn n.under) = λ f. ap (λ (xs : List Numbered). sum_by f xs) w in
    elim (in_put n.nodes leaf nd e.to j e.inn in_returned (returned_in (n.nodes leaf) j l) (returned_in_other (n.nodes leaf) j e.inn)) [
      | inl h ↦ (
          let from : (e.from ≡ m) × (e.out ≡ k) = same_from tables e g link lk h.0 h.1 in
          let c : credits_for e.from e.out (p ∷ n.under) ≡ count ∷ credits_for e.from e.out n.under = ap (λ (xs : List ℕ). xs ++ credits_for e.from e.out n.under) (some_credits e.from e.out stamp m k count from.0 from.1) in
          let s : sum (credits_for e.from e.out (p ∷ n.under)) ≡ count + sum (credits_for e.from e.out n.under) = ap (λ (xs : List ℕ). sum xs) c ∙ sum_by-cons (λ (y : ℕ). y) count (credits_for e.from e.out n.under) in
          let f : (in_half (n.nodes e.to) e.inn).freed ≡ count = ap (λ (y : ℕ). (in_half (n.nodes y) e.inn).freed) h.0 ∙ ap (λ (y : ℕ). (in_half (n.nodes leaf) y).freed) h.1 in
          let t : sum (credits_for e.from e.out (p ∷ n.under)) ≡ sum (credits_for e.from e.out n.under) + (in_half (n.nodes e.to) e.inn).freed = omega arith in
          let r : IsAccount window (joined (out_half (n.nodes e.from) e.out) (in_returned (in_half (n.nodes e.to) e.inn)) (words_for e.to e.inn n.under) (credits_for e.from e.out (p ∷ n.under))) = returned_keeps window (channel n e) (credits_for e.from e.out (p ∷ n.under)) t (a e link) in
          halves window _ _ _ _ _ _ o h.2 (under_keeps window _ _ _ _ _ _ w' refl r))
      | inr h ↦ (
          let c : credits_for e.from e.out (p ∷ n.under) ≡ credits_for e.from e.out n.under = ap (λ (xs : List ℕ). xs ++ credits_for e.from e.out n.under) (no_credits e.from e.out stamp m k count (λ t. h.0 (same_to tables e g link lk t.0 t.1))) in
          halves window _ _ _ _ _ _ o h.1 (under_keeps window _ _ _ _ _ _ w' (ap (λ (xs : List ℕ). sum xs) c) (a e link)))
    ]

length-in_slots_at : (o : Option ℕ) (os : List (Option ℕ)) (n : ℕ) → length (in_slots (n + 1) os) ≡ count_by is_some os → length (in_slots n (o ∷ os)) ≡ count_by is_some (o ∷ os)
length-in_slots_at None os n h = h ∙ (let e : count_by is_some (None ∷ os) ≡ 0 + count_by is_some os = sum_by-cons (λ (x : Option ℕ). cond (is_some x) 1 0) None os in omega arith)
length-in_slots_at (Some w) os n h =
    let e : count_by is_some (Some w ∷ os) ≡ 1 + count_by is_some os = sum_by-cons (λ (x : Option ℕ). cond (is_some x) 1 0) (Some w) os in
    let l : length ((n, w) ∷ in_slots (n + 1) os) ≡ length (in_slots (n + 1) os) + 1 = omega arith in
    l ∙ omega arith

length-in_slots : (os : List (Option ℕ)) (n : ℕ) → length (in_slots n os) ≡ count_by is_some os
length-in_slots [] n = refl
length-in_slots (o ∷ os) n = length-in_slots_at o os n (length-in_slots os (n + 1))

-- a word that is under way may arrive: what `Leaf::accept` asks
pub data_may : (window : ℕ) (tables : Rows) (n : Net) (e : Ends) (number word : ℕ) (stamp : Stamp) (rest : List Packet) → IsLink tables e → (n.nodes e.to).leaf.window ≡ window → Balanced window tables n → SamePackets n.under (data_packet stamp e.to e.inn number word ∷ rest) → CanArrive (n.nodes e.to).leaf (Data (record { 0 = e.inn }) number word)
data_may window tables n e number word stamp rest link wn a same =
    let p : Packet = data_packet stamp e.to e.inn number word in
    let w : SameItems (words_for e.to e.inn n.under) (words_for e.to e.inn (p ∷ rest)) = words_same e.to e.inn n.under (p ∷ rest) same in
    let x : words_for e.to e.inn (p ∷ rest) ≡ (number, word) ∷ words_for e.to e.inn rest = ap (λ (xs : List Numbered). xs ++ words_for e.to e.inn rest) (some_words e.to e.inn stamp e.to e.inn number word refl refl) in
    let w' : SameItems (words_for e.to e.inn n.under) ((number, word) ∷ words_for e.to e.inn rest) = λ f. w f ∙ ap (λ (xs : List Numbered). sum_by f xs) x in
    let may : MayArrive window (channel n e) (number, word) = may_arrive window (channel n e) (number, word) (words_for e.to e.inn rest) (a e link) w' in
    let room : length (in_slots 0 (in_port (n.nodes e.to).leaf e.inn).slots) + (in_port (n.nodes e.to).leaf e.inn).freed < window = may.room in
    (link.inn, omega (arith, wn, may.number), may.empty, omega (arith, wn, room, length-in_slots (in_port (n.nodes e.to).leaf e.inn).slots 0))

length-words_at : (k : ℕ) (w : Waiting) (ws : List Waiting) (b : Bool) → (w.port == k) ≡ b → length (words_of k ws) ≡ boxed k ws → length (if b then (w.number, w.word) ∷ words_of k ws else words_of k ws) ≡ boxed k (w ∷ ws)
length-words_at k w ws true e h =
    let o : (let z : ℕ = cond (w.port == k) 1 0 in z ≡ 1) = rw e refl in
    let l : length ((w.number, w.word) ∷ words_of k ws) ≡ length (words_of k ws) + 1 = omega arith in
    l ∙ omega (arith, boxed-cons k w ws)
length-words_at k w ws false e h =
    let o : (let z : ℕ = cond (w.port == k) 1 0 in z ≡ 0) = rw e refl in
    h ∙ omega (arith, boxed-cons k w ws)

length-words : (k : ℕ) (ws : List Waiting) → length (words_of k ws) ≡ boxed k ws
length-words k [] = refl
length-words k (w ∷ ws) = length-words_at k w ws (w.port == k) refl (length-words k ws)

-- a credit that is under way may arrive
pub credit_may : (window : ℕ) (tables : Rows) (n : Net) (e : Ends) (count : ℕ) (stamp : Stamp) (rest : List Packet) → IsLink tables e → (n.nodes e.from).leaf.window ≡ window → Balanced window tables n → SamePackets n.under (credit_packet stamp e.from e.out count ∷ rest) → CanArrive (n.nodes e.from).leaf (Credit (record { 0 = e.out }) count)
credit_may window tables n e count stamp rest link wn a same =
    let p : Packet = credit_packet stamp e.from e.out count in
    let c : sum (credits_for e.from e.out n.under) ≡ sum (credits_for e.from e.out (p ∷ rest)) = credits_same e.from e.out n.under (p ∷ rest) same in
    let x : credits_for e.from e.out (p ∷ rest) ≡ count ∷ credits_for e.from e.out rest = ap (λ (xs : List ℕ). xs ++ credits_for e.from e.out rest) (some_credits e.from e.out stamp e.from e.out count refl refl) in
    let c' : sum (credits_for e.from e.out n.under) ≡ count + sum (credits_for e.from e.out rest) = c ∙ (ap (λ (xs : List ℕ). sum xs) x ∙ sum_by-cons (λ (y : ℕ). y) count (credits_for e.from e.out rest)) in
    let fits : count + (out_port (n.nodes e.from).leaf e.out).credits + length (words_of e.out (n.nodes e.from).leaf.box) ≤ window = credit_fits window (channel n e) count (credits_for e.from e.out rest) (a e link) c' in
    (link.out, omega (arith, wn, fits, length-words e.out (n.nodes e.from).leaf.box))
