-- The host's part of a round.
use Rattle.std.proofs.Common.{◌≡◌, ◌≢◌, ℕ, zero, suc, ◌+◌, ◌<◌, ◌≤◌, Bool, true, false, List, [], ◌∷◌, ◌++◌, length, refl, ap, sym, ◌∙◌, arith, Option, Some, None, subst, inl, inr, length-append}
use Rattle.std.specs.Prelude.{◌==◌, if◌then◌else◌, is_some, slice_get, slice_set, slice_index_or, IsSome}
use Rattle.std.proofs.lemmas.List.{get_or-set_same, get_or-set_other}
use Rattle.std.proofs.Math.ListN.{length-set}
use Rattle.net_switch.specs.declared.packet.Row.{Row}
use Rattle.net_tree.specs.Links.{Links}
use Rattle.leaf_port.specs.Leaf.{LeafState, fresh, row_of, wrote, took, can_write, next_word}
use Rattle.pld_base.specs.declared.event.Event.TheVariants.{Read, Write}
use Rattle.pld_base.specs.Channels.{InputNode, OutputNode, family_of}
use Rattle.fabric_run.specs.World.{Setup, State, happened, each_to, send, sent_by, receive, received_by, next_feed, hosted, ready, is_configured}
use Rattle.fabric_run.specs.Plan.{PlanValue}
use Rattle.leaf_net.specs.Net.{NetState, net_size, leaf_at, written, read_at}
use Rattle.leaf_net.specs.Shown.{Shows as NetShows}
use Rattle.leaf_net.proofs.Showing.{writes, reads}
use Rattle.fabric_keeps.proofs.Base.{same_or, same_eq, differ}
use Rattle.fabric_pages.specs.Slots.{ShowsPages}
use Rattle.fabric_pages.proofs.Counting.{out_more}
use Rattle.fabric_core.specs.Words.{OutWords}
use Rattle.fabric_core.specs.declared.board.Board.{Board}
use Rattle.fabric_core.specs.Boards.{Shows, ShowsHost, out_in, no_words, HostHasRows, HasSpace}

-- Rows stay.

rows_set : (xs : List LeafState) (s d : LeafState) (slot : ℕ) → s.rows ≡ (slice_index_or xs 0 d).rows → row_of (slice_index_or (slice_set xs 0 s) 0 d) slot ≡ row_of (slice_index_or xs 0 d) slot
rows_set [] s d slot e = refl
rows_set (x ∷ xs) s d slot e = ap (λ (rows : List (Option Row)). slice_index_or rows slot None) e

same_rows : (plan : PlanValue) (n m : NetState) → ((slot : ℕ) → row_of (leaf_at m 0) slot ≡ row_of (leaf_at n 0) slot) → HostHasRows plan n → HostHasRows plan m
same_rows plan n m e h = record {
  inputs = λ k l. ((h.inputs k l).0, subst IsSome (sym (e k)) (h.inputs k l).1);
  outputs = λ j l. ((h.outputs j l).0, subst IsSome (sym (e (8 + j))) (h.outputs j l).1);
}

pub rows_written : (plan : PlanValue) (n m : NetState) (port word : ℕ) (t : Bool) → m ≡ (if t then written n 0 port word else n) → HostHasRows plan n → HostHasRows plan m
rows_written plan n m port word true e h = same_rows plan n m (λ slot. ap (λ (x : NetState). row_of (leaf_at x 0) slot) e ∙ rows_set n.leaves (wrote (leaf_at n 0) port word) (fresh 0 0) slot refl) h
rows_written plan n m port word false e h = same_rows plan n m (λ slot. ap (λ (x : NetState). row_of (leaf_at x 0) slot) e) h

pub rows_read : (plan : PlanValue) (n m : NetState) (port : ℕ) (t : Bool) → m ≡ (if t then read_at n 0 port else n) → HostHasRows plan n → HostHasRows plan m
rows_read plan n m port true e h = same_rows plan n m (λ slot. ap (λ (x : NetState). row_of (leaf_at x 0) slot) e ∙ rows_set n.leaves (took (leaf_at n 0) port) (fresh 0 0) slot refl) h
rows_read plan n m port false e h = same_rows plan n m (λ slot. ap (λ (x : NetState). row_of (leaf_at x 0) slot) e) h

-- what is there doesn't depend on what stands for nothing
pub any_default : {X : Type 0} (xs : List X) (k : ℕ) (a b : X) → k < length xs → slice_index_or xs k a ≡ slice_index_or xs k b
any_default [] k a b l = absurd (omega arith)
any_default (x ∷ xs) zero a b l = refl
any_default (x ∷ xs) (suc k) a b l = any_default xs k a b (omega arith)

-- Words of outputs.

module _ (outs outs' : List OutWords) (j word : ℕ) (o : OutWords) (is : outs' ≡ slice_set outs j (record o { words = o.words ++ word ∷ [] })) (here : j < length outs) (read : o ≡ slice_index_or outs j o) where
  put_same : out_in outs' j ≡ record o { words = o.words ++ word ∷ [] }
  put_same = ap (λ (xs : List OutWords). slice_index_or xs j no_words) is ∙ get_or-set_same outs j (record o { words = o.words ++ word ∷ [] }) no_words here

  put_other : (i : ℕ) → i ≢ j → out_in outs' i ≡ out_in outs i
  put_other i ne = ap (λ (xs : List OutWords). slice_index_or xs i no_words) is ∙ get_or-set_other outs j i (record o { words = o.words ++ word ∷ [] }) no_words ne

  was : o ≡ out_in outs j
  was = read ∙ any_default outs j o no_words here

  pub put_many : length outs' ≡ length outs
  put_many = ap length is ∙ length-set outs j (record o { words = o.words ++ word ∷ [] })

  pub put_words : (i : ℕ) → (out_in outs' i).words ≡ (out_in outs i).words ++ (if j == i then word ∷ [] else [])
  put_words i =
      elim (same_or i j (i == j) refl) [
        | inl s ↦ (
            let t : (j == i) ≡ true = same_eq j i (sym s) in
            ap (λ (k : ℕ). (out_in outs' k).words) s ∙ ap (λ (x : OutWords). x.words) put_same ∙ ap (λ (x : OutWords). x.words ++ word ∷ []) was ∙ ap (λ (k : ℕ). (out_in outs k).words ++ word ∷ []) (sym s) ∙ ap (λ (b : Bool). (out_in outs i).words ++ (if b then word ∷ [] else [])) (sym t))
        | inr ne ↦ (
            let t : (j == i) ≡ false = differ j i (λ (s : j ≡ i). ne (sym s)) in
            ap (λ (x : OutWords). x.words) (put_other i ne) ∙ sym (append_none (out_in outs i).words) ∙ ap (λ (b : Bool). (out_in outs i).words ++ (if b then word ∷ [] else [])) (sym t))
      ]
    where
      append_none : (xs : List ℕ) → xs ++ [] ≡ xs
      append_none [] = refl
      append_none (x ∷ xs) = ap (λ l. x ∷ l) (append_none xs)

  pub put_room : (i : ℕ) → (out_in outs' i).room ≡ (out_in outs i).room
  put_room i =
      elim (same_or i j (i == j) refl) [
        | inl s ↦ ap (λ (k : ℕ). (out_in outs' k).room) s ∙ ap (λ (x : OutWords). x.room) put_same ∙ ap (λ (x : OutWords). x.room) was ∙ ap (λ (k : ℕ). (out_in outs k).room) (sym s)
        | inr ne ↦ ap (λ (x : OutWords). x.room) (put_other i ne)
      ]

  pub put_space : HasSpace j outs → HasSpace (j + 1) outs'
  put_space h i l m =
      let same : out_in outs' i ≡ out_in outs i = put_other i (λ (s : i ≡ j). omega arith) in
      omega (arith, h i (omega arith) (omega (arith, put_many)), ap (λ (x : OutWords). length x.words) same, ap (λ (x : OutWords). x.room) same)

  pub put_rooms : (most : ℕ) → ((i : ℕ) → i < length outs → most ≤ (out_in outs i).room) → (i : ℕ) → i < length outs' → most ≤ (out_in outs' i).room
  put_rooms most h i l = omega (arith, h i (omega (arith, put_many)), put_room i)

-- An input writes a word.

module _ (setup : Setup Links) (st : State Links) (b : Board) (s : Shows setup st b) where
  sends_more : (k word : ℕ) (leaf : LeafState) (sent' : List ℕ) → k < setup.inputs → sent' ≡ slice_set b.sent.items k (slice_index_or b.sent.items k 0 + 1)
      → ShowsHost setup (happened st 0 leaf (InputNode k) (Write (record { 0 = 0 }) word)) sent' b.outs.items
  sends_more k word leaf sent' l is = record {
    inputs = ap length is ∙ length-set b.sent.items k (slice_index_or b.sent.items k 0 + 1) ∙ s.host.inputs;
    sends = λ i m. ap (λ (xs : List ℕ). slice_index_or xs i 0) is ∙ (
        elim (same_or i k (i == k) refl) [
          | inl e ↦ ap (λ (x : ℕ). slice_index_or (slice_set b.sent.items k (slice_index_or b.sent.items k 0 + 1)) x 0) e ∙ get_or-set_same b.sent.items k (slice_index_or b.sent.items k 0 + 1) 0 (omega (arith, s.host.inputs))
              ∙ ap (λ (n : ℕ). n + 1) (s.host.sends k l) ∙ longer i k e
          | inr ne ↦ get_or-set_other b.sent.items k i (slice_index_or b.sent.items k 0 + 1) 0 ne ∙ s.host.sends i m
              ∙ ap (λ (t : Bool). length (if t then family_of st.history (InputNode i) ++ Write (record { 0 = 0 }) word ∷ [] else family_of st.history (InputNode i))) (sym (differ k i (λ (e : k ≡ i). ne (sym e))))
        ]);
    outputs = s.host.outputs;
    gets = λ i m. s.host.gets i m;
  }
    where
      longer : (i k : ℕ) → i ≡ k → length (family_of st.history (InputNode k)) + 1 ≡ length (family_of ((record { node = InputNode k; event = Write (record { 0 = 0 }) word }) ∷ st.history) (InputNode i))
      longer i k e =
          sym (length-append (family_of st.history (InputNode k)) (Write (record { 0 = 0 }) word ∷ []))
          ∙ ap (λ (x : ℕ). length (family_of st.history (InputNode x) ++ Write (record { 0 = 0 }) word ∷ [])) (sym e)
          ∙ ap (λ (t : Bool). length (if t then family_of st.history (InputNode i) ++ Write (record { 0 = 0 }) word ∷ [] else family_of st.history (InputNode i))) (sym (same_eq k i (sym e)))

  -- where it has a word and a credit
  pub send_done : (k word : ℕ) (b' : Board) → 0 < net_size b.net → k < setup.inputs → Some word ≡ slice_get (setup.feed k) (slice_index_or b.sent.items k 0) → true ≡ can_write (leaf_at b.net 0) k
      → b'.net ≡ (if can_write (leaf_at b.net 0) k then written b.net 0 k word else b.net) → b'.pages ≡ b.pages → b'.sent.items ≡ slice_set b.sent.items k (slice_index_or b.sent.items k 0 + 1) → b'.outs.items ≡ b.outs.items
      → Shows setup (send setup k st) b'
  send_done k word b' some l there may net pages sent outs =
      let feed : next_feed setup st k ≡ Some word = ap (slice_get (setup.feed k)) (sym (s.host.sends k l)) ∙ sym there in
      let credit : can_write (st.leaves 0) k ≡ true = ap (λ (x : LeafState). can_write x k) (sym (s.net.leaves 0 some)) ∙ sym may in
      let same : b'.net ≡ written b.net 0 k word = net ∙ ap (λ (t : Bool). if t then written b.net 0 k word else b.net) (sym may) in
      subst (λ (o : Option ℕ). Shows setup (sent_by st k o (can_write (st.leaves 0) k)) b') (sym feed)
      (subst (λ (t : Bool). Shows setup (sent_by st k (Some word) t) b') (sym credit)
      (record {
        net = subst (NetShows setup (happened st 0 (wrote (st.leaves 0) k word) (InputNode k) (Write (record { 0 = 0 }) word))) (sym same) (writes setup st b.net 0 k word (InputNode k) (Write (record { 0 = 0 }) word) some s.net);
        pages = subst (ShowsPages setup.size st.pages) (sym pages) s.pages;
        host = subst (λ (outs : List OutWords). ShowsHost setup (happened st 0 (wrote (st.leaves 0) k word) (InputNode k) (Write (record { 0 = 0 }) word)) b'.sent.items outs) (sym outs) (sends_more k word (wrote (st.leaves 0) k word) b'.sent.items l sent);
      }))

  -- where it has none
  pub send_none : (k : ℕ) → k < setup.inputs → None ≡ slice_get (setup.feed k) (slice_index_or b.sent.items k 0) → Shows setup (send setup k st) b
  send_none k l there =
      let feed : next_feed setup st k ≡ None = ap (slice_get (setup.feed k)) (sym (s.host.sends k l)) ∙ sym there in
      subst (λ (o : Option ℕ). Shows setup (sent_by st k o (can_write (st.leaves 0) k)) b) (sym feed) s

  -- where it has no credit
  pub send_waits : (k word : ℕ) (b' : Board) → 0 < net_size b.net → false ≡ can_write (leaf_at b.net 0) k
      → b'.net ≡ (if can_write (leaf_at b.net 0) k then written b.net 0 k word else b.net) → b'.pages ≡ b.pages → b'.sent.items ≡ b.sent.items → b'.outs.items ≡ b.outs.items
      → Shows setup (send setup k st) b'
  send_waits k word b' some may net pages sent outs =
      let credit : can_write (st.leaves 0) k ≡ false = ap (λ (x : LeafState). can_write x k) (sym (s.net.leaves 0 some)) ∙ sym may in
      let same : b'.net ≡ b.net = net ∙ ap (λ (t : Bool). if t then written b.net 0 k word else b.net) (sym may) in
      subst (λ (t : Bool). Shows setup (sent_by st k (next_feed setup st k) t) b') (sym credit) (by (next_feed setup st k) (record {
        net = subst (NetShows setup st) (sym same) s.net;
        pages = subst (ShowsPages setup.size st.pages) (sym pages) s.pages;
        host = subst (λ (outs : List OutWords). ShowsHost setup st b'.sent.items outs) (sym outs) (subst (λ (sent : List ℕ). ShowsHost setup st sent b.outs.items) (sym sent) s.host);
      }))
    where
      by : (o : Option ℕ) → Shows setup st b' → Shows setup (sent_by st k o false) b'
      by None h = h
      by (Some w) h = h

  -- An output reads a word.
  gets_more : (j word : ℕ) (leaf : LeafState) (outs' : List OutWords) → length outs' ≡ length b.outs.items → ((i : ℕ) → (out_in outs' i).words ≡ (out_in b.outs.items i).words ++ (if j == i then word ∷ [] else []))
      → ShowsHost setup (happened st 0 leaf (OutputNode j) (Read (record { 0 = 0 }) word)) b.sent.items outs'
  gets_more j word leaf outs' many words = record {
    inputs = s.host.inputs;
    sends = λ k l. s.host.sends k l;
    outputs = many ∙ s.host.outputs;
    gets = λ i l. words i ∙ ap (λ (xs : List ℕ). xs ++ (if j == i then word ∷ [] else [])) (s.host.gets i l) ∙ sym (out_more st j word i);
  }

  pub receive_done : (j word : ℕ) (b' : Board) → 0 < net_size b.net → Some word ≡ next_word (leaf_at b.net 0) j
      → b'.net ≡ (if is_some (next_word (leaf_at b.net 0) j) then read_at b.net 0 j else b.net) → b'.pages ≡ b.pages → b'.sent.items ≡ b.sent.items
      → length b'.outs.items ≡ length b.outs.items → ((i : ℕ) → (out_in b'.outs.items i).words ≡ (out_in b.outs.items i).words ++ (if j == i then word ∷ [] else []))
      → Shows setup (receive j st) b'
  receive_done j word b' some there net pages sent many words =
      let found : next_word (st.leaves 0) j ≡ Some word = ap (λ (x : LeafState). next_word x j) (sym (s.net.leaves 0 some)) ∙ sym there in
      let same : b'.net ≡ read_at b.net 0 j = net ∙ ap (λ (o : Option ℕ). if is_some o then read_at b.net 0 j else b.net) (sym there) in
      subst (λ (o : Option ℕ). Shows setup (received_by st j o) b') (sym found)
      (record {
        net = subst (NetShows setup (happened st 0 (took (st.leaves 0) j) (OutputNode j) (Read (record { 0 = 0 }) word))) (sym same) (reads setup st b.net 0 j (OutputNode j) (Read (record { 0 = 0 }) word) some s.net);
        pages = subst (ShowsPages setup.size st.pages) (sym pages) s.pages;
        host = subst (λ (sent : List ℕ). ShowsHost setup (happened st 0 (took (st.leaves 0) j) (OutputNode j) (Read (record { 0 = 0 }) word)) sent b'.outs.items) (sym sent) (gets_more j word (took (st.leaves 0) j) b'.outs.items many words);
      })

  pub receive_none : (j : ℕ) (b' : Board) → 0 < net_size b.net → None ≡ next_word (leaf_at b.net 0) j
      → b'.net ≡ (if is_some (next_word (leaf_at b.net 0) j) then read_at b.net 0 j else b.net) → b'.pages ≡ b.pages → b'.sent.items ≡ b.sent.items → b'.outs.items ≡ b.outs.items
      → Shows setup (receive j st) b'
  receive_none j b' some there net pages sent outs =
      let found : next_word (st.leaves 0) j ≡ None = ap (λ (x : LeafState). next_word x j) (sym (s.net.leaves 0 some)) ∙ sym there in
      let same : b'.net ≡ b.net = net ∙ ap (λ (o : Option ℕ). if is_some o then read_at b.net 0 j else b.net) (sym there) in
      subst (λ (o : Option ℕ). Shows setup (received_by st j o) b') (sym found) (record {
        net = subst (NetShows setup st) (sym same) s.net;
        pages = subst (ShowsPages setup.size st.pages) (sym pages) s.pages;
        host = subst (λ (outs : List OutWords). ShowsHost setup st b'.sent.items outs) (sym outs) (subst (λ (sent : List ℕ). ShowsHost setup st sent b.outs.items) (sym sent) s.host);
      })

-- Loops over inputs and outputs.

pub each_more : (setup : Setup Links) (go : ℕ → State Links → State Links) (n : ℕ) (st : State Links) (b : Board) → Shows setup (go n (each_to n go st)) b → Shows setup (each_to (n + 1) go st) b
each_more setup go n st b h = subst (λ (m : ℕ). Shows setup (each_to m go st) b) (let e : suc n ≡ n + 1 = omega arith in e) h

pub each_all : (setup : Setup Links) (go : ℕ → State Links → State Links) (n m : ℕ) (st : State Links) (b : Board) → n ≡ m → Shows setup (each_to n go st) b → Shows setup (each_to m go st) b
each_all setup go n m st b e h = subst (λ (k : ℕ). Shows setup (each_to k go st) b) e h

-- what the host has done is ready
pub ready_if : (setup : Setup Links) (st : State Links) (b : Board) (t : Bool) → is_configured setup st ≡ t → Shows setup (if t then hosted setup st else st) b → Shows setup (ready setup st) b
ready_if setup st b t e h = subst (λ (x : Bool). Shows setup (if x then hosted setup st else st) b) (sym e) h
