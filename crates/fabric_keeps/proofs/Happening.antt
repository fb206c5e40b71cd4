-- An event, as the network sees it.
use Rattle.std.proofs.Common.{◌≡◌, ℕ, zero, suc, Bool, true, false, List, [], ◌∷◌, ◌++◌, refl, ap, sym, ◌∙◌, arith}
use Rattle.std.specs.Prelude.{if◌then◌else◌, ◌==◌}
use Rattle.leaf_port.specs.Leaf.{LeafState, wrote, took}
use Rattle.channel_account.specs.Network.{Node as NetNode, put, node_wrote, node_took}
use Rattle.pld_base.specs.Events.{words_read, words_written}
use Rattle.pld_base.specs.declared.event.Event.{Event}
use Rattle.pld_base.specs.declared.event.Event.TheVariants.{Read, Write}
use Rattle.pld_base.specs.Channels.{OperatorNode, InputNode, OutputNode, family_of, same_node}
use Rattle.pld_base.proofs.Events.{words_read-append, words_written-append}
use Rattle.fabric_run.specs.World.{Setup, State, happened}
use Rattle.fabric_keeps.specs.Links.{out_node, in_node, node_port, net_node}
use Rattle.fabric_keeps.proofs.Base.{same_eq, differ, eq_same}

append_none : {X : Type 0} (xs : List X) → xs ++ [] ≡ xs
append_none {X} [] = refl
append_none {X} (x ∷ xs) = ap (λ (t : List X). x ∷ t) (append_none {X = X} xs)

abbrev with_event : Bool → List Event → Event → List Event
with_event b es e = if b then es ++ e ∷ [] else es

if_append : (b : Bool) (xs : List ℕ) (w : ℕ) → xs ++ (if b then w ∷ [] else []) ≡ (if b then xs ++ w ∷ [] else xs)
if_append true xs w = refl
if_append false xs w = append_none xs

write_written : (b : Bool) (es : List Event) (p w q : ℕ) → words_written (with_event b es (Write (record { 0 = p }) w)) q ≡ (if b then (if p == q then words_written es q ++ w ∷ [] else words_written es q) else words_written es q)
write_written true es p w q = words_written-append es (Write (record { 0 = p }) w ∷ []) q ∙ if_append (p == q) (words_written es q) w
write_written false es p w q = refl

write_read : (b : Bool) (es : List Event) (p w q : ℕ) → words_read (with_event b es (Write (record { 0 = p }) w)) q ≡ words_read es q
write_read true es p w q = words_read-append es (Write (record { 0 = p }) w ∷ []) q ∙ append_none (words_read es q)
write_read false es p w q = refl

read_read : (b : Bool) (es : List Event) (p w q : ℕ) → words_read (with_event b es (Read (record { 0 = p }) w)) q ≡ (if b then (if p == q then words_read es q ++ w ∷ [] else words_read es q) else words_read es q)
read_read true es p w q = words_read-append es (Read (record { 0 = p }) w ∷ []) q ∙ if_append (p == q) (words_read es q) w
read_read false es p w q = refl

read_written : (b : Bool) (es : List Event) (p w q : ℕ) → words_written (with_event b es (Read (record { 0 = p }) w)) q ≡ words_written es q
read_written true es p w q = words_written-append es (Read (record { 0 = p }) w ∷ []) q ∙ append_none (words_written es q)
read_written false es p w q = refl

-- whose event it is: port k of leaf i, seen from port q of leaf x
abbrev added : ℕ → ℕ → ℕ → ℕ → List ℕ → ℕ → List ℕ
added i k x q words w = if x == i then (if q == k then words ++ w ∷ [] else words) else words

flip : (a b : ℕ) → (a == b) ≡ (b == a)
flip a b = flip_at (b == a) refl
  where
    flip_at : (t : Bool) → (b == a) ≡ t → (a == b) ≡ t
    flip_at true e = same_eq a b (sym (eq_same b a e))
    flip_at false e = differ a b (λ s. (let x : (b == a) ≡ true = same_eq b a (sym s) in let y : false ≡ true = sym e ∙ x in cc))

same_port : (t : Bool) (words : List ℕ) (w : ℕ) → (if t then (if true then words ++ w ∷ [] else words) else words) ≡ (if true then (if t then words ++ w ∷ [] else words) else words)
same_port true words w = refl
same_port false words w = refl

-- numbers of leaves differ as the leaves do
abbrev pub Apart : {S : Type 0} → Setup S → Type 0
Apart setup = (i j : ℕ) → setup.number i ≡ setup.number j → i ≡ j

same_number : {S : Type 0} (setup : Setup S) → Apart setup → (i x : ℕ) → (setup.number i == setup.number x) ≡ (x == i)
same_number setup apart i x = at (x == i) refl
  where
    at : (t : Bool) → (x == i) ≡ t → (setup.number i == setup.number x) ≡ t
    at true e = same_eq (setup.number i) (setup.number x) (ap setup.number (sym (eq_same x i e)))
    at false e = differ (setup.number i) (setup.number x) (λ s. (let y : (x == i) ≡ true = same_eq x i (sym (apart i x s)) in let z : false ≡ true = sym e ∙ y in cc))

wrote_written : {S : Type 0} (setup : Setup S) → Apart setup → (st : State S) (i k w x q : ℕ)
    → words_written (with_event (same_node (out_node setup.number i k) (out_node setup.number x q)) (family_of st.history (out_node setup.number x q)) (Write (record { 0 = node_port i k }) w)) (node_port x q)
    ≡ added i k x q (words_written (family_of st.history (out_node setup.number x q)) (node_port x q)) w
wrote_written setup apart st zero k w zero q =
    write_written (k == q) (family_of st.history (InputNode q)) 0 w 0 ∙ (ap (λ (t : Bool). if t then words_written (family_of st.history (InputNode q)) 0 ++ w ∷ [] else words_written (family_of st.history (InputNode q)) 0) (flip k q))
wrote_written setup apart st zero k w (suc x) q = let e : (suc x == 0) ≡ false = differ (suc x) 0 (λ s. omega arith) in rw e refl
wrote_written setup apart st (suc i) k w zero q = let e : (0 == suc i) ≡ false = differ 0 (suc i) (λ s. omega arith) in rw e refl
wrote_written setup apart st (suc i) k w (suc x) q =
    let es : List Event = family_of st.history (OperatorNode (setup.number (suc x))) in
    write_written (setup.number (suc i) == setup.number (suc x)) es k w q
    ∙ ap (λ (t : Bool). if t then (if k == q then words_written es q ++ w ∷ [] else words_written es q) else words_written es q) (same_number setup apart (suc i) (suc x))
    ∙ ap (λ (t : Bool). if (suc x == suc i) then (if t then words_written es q ++ w ∷ [] else words_written es q) else words_written es q) (flip k q)

wrote_read : {S : Type 0} (setup : Setup S) (st : State S) (i k w x q : ℕ)
    → words_read (with_event (same_node (out_node setup.number i k) (in_node setup.number x q)) (family_of st.history (in_node setup.number x q)) (Write (record { 0 = node_port i k }) w)) (node_port x q)
    ≡ words_read (family_of st.history (in_node setup.number x q)) (node_port x q)
wrote_read setup st i k w x q = write_read (same_node (out_node setup.number i k) (in_node setup.number x q)) (family_of st.history (in_node setup.number x q)) (node_port i k) w (node_port x q)

took_read : {S : Type 0} (setup : Setup S) → Apart setup → (st : State S) (i k w x q : ℕ)
    → words_read (with_event (same_node (in_node setup.number i k) (in_node setup.number x q)) (family_of st.history (in_node setup.number x q)) (Read (record { 0 = node_port i k }) w)) (node_port x q)
    ≡ added i k x q (words_read (family_of st.history (in_node setup.number x q)) (node_port x q)) w
took_read setup apart st zero k w zero q =
    read_read (k == q) (family_of st.history (OutputNode q)) 0 w 0 ∙ (ap (λ (t : Bool). if t then words_read (family_of st.history (OutputNode q)) 0 ++ w ∷ [] else words_read (family_of st.history (OutputNode q)) 0) (flip k q))
took_read setup apart st zero k w (suc x) q = let e : (suc x == 0) ≡ false = differ (suc x) 0 (λ s. omega arith) in rw e refl
took_read setup apart st (suc i) k w zero q = let e : (0 == suc i) ≡ false = differ 0 (suc i) (λ s. omega arith) in rw e refl
took_read setup apart st (suc i) k w (suc x) q =
    let es : List Event = family_of st.history (OperatorNode (setup.number (suc x))) in
    read_read (setup.number (suc i) == setup.number (suc x)) es k w q
    ∙ ap (λ (t : Bool). if t then (if k == q then words_read es q ++ w ∷ [] else words_read es q) else words_read es q) (same_number setup apart (suc i) (suc x))
    ∙ ap (λ (t : Bool). if (suc x == suc i) then (if t then words_read es q ++ w ∷ [] else words_read es q) else words_read es q) (flip k q)

took_written : {S : Type 0} (setup : Setup S) (st : State S) (i k w x q : ℕ)
    → words_written (with_event (same_node (in_node setup.number i k) (out_node setup.number x q)) (family_of st.history (out_node setup.number x q)) (Read (record { 0 = node_port i k }) w)) (node_port x q)
    ≡ words_written (family_of st.history (out_node setup.number x q)) (node_port x q)
took_written setup st i k w x q = read_written (same_node (in_node setup.number i k) (out_node setup.number x q)) (family_of st.history (out_node setup.number x q)) (node_port i k) w (node_port x q)

node_is : (s t : LeafState) (a b c d : ℕ → List ℕ) → s ≡ t → ((k : ℕ) → a k ≡ b k) → ((j : ℕ) → c j ≡ d j) → (let n : NetNode = record { leaf = s; written = a; read = c } in let m : NetNode = record { leaf = t; written = b; read = d } in n ≡ m)
node_is s t a b c d e f g =
    let p : a ≡ b = λ i. λ k. f k i in
    let q : c ≡ d = λ i. λ j. g j i in
    ap (λ (x : LeafState). record { leaf = x; written = a; read = c }) e ∙ (ap (λ (x : ℕ → List ℕ). record { leaf = t; written = x; read = c }) p ∙ ap (λ (x : ℕ → List ℕ). record { leaf = t; written = b; read = x }) q)

-- a write is the network's write
pub write_happened : {S : Type 0} (setup : Setup S) → Apart setup → (st : State S) (i k w : ℕ) (x : ℕ)
    → net_node setup (happened st i (wrote (st.leaves i) k w) (out_node setup.number i k) (Write (record { 0 = node_port i k }) w)) x ≡ put (net_node setup st) i (node_wrote k w (net_node setup st i)) x
write_happened setup apart st i k w x =
    node_is _ _ _ _ _ _ refl (λ q. wrote_written setup apart st i k w x q) (λ q. wrote_read setup st i k w x q) ∙ by_test (x == i) refl
  where
    by_test : (t : Bool) → (x == i) ≡ t
        → (let n : NetNode = record { leaf = if t then wrote (st.leaves i) k w else st.leaves x; written = λ q. if t then (if q == k then (net_node setup st x).written q ++ w ∷ [] else (net_node setup st x).written q) else (net_node setup st x).written q; read = (net_node setup st x).read } in
        n ≡ (if t then node_wrote k w (net_node setup st i) else net_node setup st x))
    by_test true e =
        let s : x ≡ i = eq_same x i e in
        ap (λ (y : ℕ). record { leaf = wrote (st.leaves i) k w; written = λ q. if q == k then (net_node setup st y).written q ++ w ∷ [] else (net_node setup st y).written q; read = (net_node setup st y).read }) s
    by_test false e = refl

-- a read is the network's read
pub read_happened : {S : Type 0} (setup : Setup S) → Apart setup → (st : State S) (i k w : ℕ) (x : ℕ)
    → net_node setup (happened st i (took (st.leaves i) k) (in_node setup.number i k) (Read (record { 0 = node_port i k }) w)) x ≡ put (net_node setup st) i (node_took k w (net_node setup st i)) x
read_happened setup apart st i k w x =
    node_is _ _ _ _ _ _ refl (λ q. took_written setup st i k w x q) (λ q. took_read setup apart st i k w x q) ∙ by_test (x == i) refl
  where
    by_test : (t : Bool) → (x == i) ≡ t
        → (let n : NetNode = record { leaf = if t then took (st.leaves i) k else st.leaves x; written = (net_node setup st x).written; read = λ q. if t then (if q == k then (net_node setup st x).read q ++ w ∷ [] else (net_node setup st x).read q) else (net_node setup st x).read q } in
        n ≡ (if t then node_took k w (net_node setup st i) else net_node setup st x))
    by_test true e =
        let s : x ≡ i = eq_same x i e in
        ap (λ (y : ℕ). record { leaf = took (st.leaves i) k; written = (net_node setup st y).written; read = λ q. if q == k then (net_node setup st y).read q ++ w ∷ [] else (net_node setup st y).read q }) s
    by_test false e = refl
