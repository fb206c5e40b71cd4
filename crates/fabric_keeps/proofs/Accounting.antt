-- A round keeps the account of every channel.
use Rattle.std.proofs.Common.{◌≡◌, ℕ, zero, suc, ◌+◌, ◌<◌, ◌≢◌, not, Bool, true, false, cond, List, [], ◌∷◌, ◌++◌, length, get_or, refl, ap, sym, ◌∙◌, arith, Option, Some, None, subst}
use Rattle.std.specs.Prelude.{if◌then◌else◌, ◌==◌, nat_lt}
use Rattle.std.specs.List.{sum_by}
use Rattle.std.proofs.lemmas.Bool.Decides.{nat_tests}
use Rattle.std.proofs.lemmas.List.Sums.{sum_by-cons, sum_by-append}
use Rattle.net_switch.specs.declared.packet.Row.{Row}
use Rattle.net_switch.specs.declared.packet.Stamp.{Stamp}
use Rattle.net_switch.specs.declared.packet.Packet.{Packet}
use Rattle.net_switch.specs.declared.packet.Body.{Body}
use Rattle.net_switch.specs.declared.packet.Body.TheVariants.{Data, Credit, Config}
use Rattle.leaf_port.specs.declared.ports.Waiting.{Waiting}
use Rattle.leaf_port.specs.Leaf.{LeafState, in_port, row_of, delivered, owed_from, to_other_end, offer_word, offer_own, offer_new, offer_first, offered}
use Rattle.leaf_port.specs.Ports.{fresh_in}
use Rattle.channel_account.specs.Network.{Node, Ends, out_half, in_half, joined, IsLink, put, row_to, with_leaf, words_for, credits_for, SamePackets}
use Rattle.channel_account.proofs.Steps.{Balanced, permute_keeps, data_keeps, credit_keeps, offer_word_keeps, offer_credit_keeps}
use Rattle.channel_account.specs.Account.{IsAccount}
use Rattle.net_tree.specs.Links.{sum_to}
use Rattle.fabric_run.specs.World.{Rows, taken_in}
use Rattle.net_switch.specs.Switch.{weighs}
use Rattle.fabric_keeps.specs.Links.{is_row, is_from_end, is_to_end, is_linked_in, is_linked_out, is_body_for, IsAt}
use Rattle.fabric_keeps.specs.Parts.{BeforeRound, next_node, next_offer}
use Rattle.fabric_keeps.proofs.Base.{both, eq_same, same_eq, differ, lt_true}
use Rattle.fabric_keeps.proofs.LeafRound.{IsOwed, owed_there, delivered_back}

-- the channel that a test has found
row_is : (o : Option Row) (m j : ℕ) → is_row o m j ≡ true → o ≡ row_to m j
row_is None m j e = absurd (let x : false ≡ true = e in cc)
row_is (Some row) m j e =
    let a = both (row.leaf.0 == m) _ e in
    ap (λ (x : ℕ). Some (record { leaf = record { 0 = x }; port = row.port })) (eq_same row.leaf.0 m a.0)
    ∙ ap (λ (x : ℕ). Some (record { leaf = record { 0 = m }; port = record { 0 = x } })) (eq_same row.port.0 j a.1)

pub record LinkedIn (tables : Rows) (m j : ℕ) : Type 0 where
  pub from : ℕ
  pub out : ℕ
  pub link : IsLink tables (record { from = from; out = out; to = m; inn = j })
  pub row : tables m (8 + j) ≡ row_to from out

pub record LinkedOut (tables : Rows) (m k : ℕ) : Type 0 where
  pub to : ℕ
  pub inn : ℕ
  pub link : IsLink tables (record { from = m; out = k; to = to; inn = inn })
  pub row : tables m k ≡ row_to to inn

in_at : (tables : Rows) (m j : ℕ) (o : Option Row) → tables m (8 + j) ≡ o → j < 8 → is_from_end tables m j o ≡ true → LinkedIn tables m j
in_at tables m j None e l h = absurd (let x : false ≡ true = h in cc)
in_at tables m j (Some row) e l h =
    let a = both (nat_lt row.port.0 8) _ h in
    record { from = row.leaf.0; out = row.port.0; link = record { out = lt_true row.port.0 8 a.0; inn = l; from_row = row_is (tables row.leaf.0 row.port.0) m j a.1; to_row = e }; row = e }

pub linked_in : (tables : Rows) (m j : ℕ) → is_linked_in tables m j ≡ true → LinkedIn tables m j
linked_in tables m j h =
    let a = both (nat_lt j 8) _ h in
    in_at tables m j (tables m (8 + j)) refl (lt_true j 8 a.0) a.1

out_at : (tables : Rows) (m k : ℕ) (o : Option Row) → tables m k ≡ o → k < 8 → is_to_end tables m k o ≡ true → LinkedOut tables m k
out_at tables m k None e l h = absurd (let x : false ≡ true = h in cc)
out_at tables m k (Some row) e l h =
    let a = both (nat_lt row.port.0 8) _ h in
    record { to = row.leaf.0; inn = row.port.0; link = record { out = l; inn = lt_true row.port.0 8 a.0; from_row = e; to_row = row_is (tables row.leaf.0 (8 + row.port.0)) m k a.1 }; row = e }

pub linked_out : (tables : Rows) (m k : ℕ) → is_linked_out tables m k ≡ true → LinkedOut tables m k
linked_out tables m k h =
    let a = both (nat_lt k 8) _ h in
    out_at tables m k (tables m k) refl (lt_true k 8 a.0) a.1

-- the account looks at each node by itself
pub nodes_same : (window : ℕ) (tables : Rows) (size : ℕ) (nodes nodes' : ℕ → Node) (under : List Packet) → ((e : Ends) → IsLink tables e → (e.from < size) × (e.to < size)) → ((x : ℕ) → x < size → nodes' x ≡ nodes x)
    → Balanced window tables (record { nodes = nodes; under = under }) → Balanced window tables (record { nodes = nodes'; under = under })
nodes_same window tables size nodes nodes' under below same a e link =
    let b = below e link in
    subst (λ (x : Node). IsAccount window (joined (out_half x e.out) (in_half (nodes' e.to) e.inn) (words_for e.to e.inn under) (credits_for e.from e.out under))) (sym (same e.from b.0))
    (subst (λ (x : Node). IsAccount window (joined (out_half (nodes e.from) e.out) (in_half x e.inn) (words_for e.to e.inn under) (credits_for e.from e.out under))) (sym (same e.to b.1)) (a e link))

put_here : (nodes : ℕ → Node) (i : ℕ) (n : Node) → put nodes i n i ≡ n
put_here nodes i n = rw (same_eq i i refl) refl

put_other : (nodes : ℕ → Node) (i : ℕ) (n : Node) (x : ℕ) → x ≢ i → put nodes i n x ≡ nodes x
put_other nodes i n x h = rw (differ x i h) refl

put_twice : (nodes : ℕ → Node) (i : ℕ) (a b : Node) (x : ℕ) → put (put nodes i a) i b x ≡ put nodes i b x
put_twice nodes i a b x = twice (x == i)
  where
    twice : (t : Bool) → (if t then b else (if t then a else nodes x)) ≡ (if t then b else nodes x)
    twice true = refl
    twice false = refl

abbrev pub some_of : Option Packet → List Packet
some_of None = []
some_of (Some p) = p ∷ []

some_weigh : (f : Packet → ℕ) (o : Option Packet) → sum_by f (some_of o) ≡ weighs f o
some_weigh f None = refl
some_weigh f (Some p) = sum_by-cons f p [] ∙ omega arith

abbrev Below : Rows → ℕ → Type 0
Below tables size = (e : Ends) → IsLink tables e → (e.from < size) × (e.to < size)

abbrev At : ℕ → Rows → (ℕ → Node) → ℕ → LeafState → List Packet → Type 0
At window tables nodes i s under = Balanced window tables (record { nodes = put nodes i (with_leaf (nodes i) s); under = under })

-- a change of the leaf's other fields
same_keeps : (window : ℕ) (tables : Rows) (size : ℕ) (nodes : ℕ → Node) (i : ℕ) (s : LeafState) (under : List Packet) → Below tables size → (nodes i).leaf ≡ s → Balanced window tables (record { nodes = nodes; under = under }) → At window tables nodes i s under
same_keeps window tables size nodes i s under b e a =
    nodes_same window tables size nodes (put nodes i (with_leaf (nodes i) s)) under b (λ x l. same_at x (x == i) refl) a
  where
    same_at : (x : ℕ) (t : Bool) → (x == i) ≡ t → (if t then with_leaf (nodes i) s else nodes x) ≡ nodes x
    same_at x true h = ap (with_leaf (nodes i)) (sym e) ∙ ap nodes (sym (eq_same x i h))
    same_at x false h = refl

word_keeps : (window : ℕ) (tables : Rows) (size : ℕ) (nodes : ℕ → Node) (i r : ℕ) (rest : List Packet) (box : List Waiting) → Below tables size → IsAt window tables i (nodes i).leaf → (nodes i).leaf.box ≡ box
    → Balanced window tables (record { nodes = nodes; under = rest }) → At window tables nodes i (offer_word (nodes i).leaf r box).0 (some_of (offer_word (nodes i).leaf r box).1 ++ rest)
word_keeps window tables size nodes i r rest [] b at e a = same_keeps window tables size nodes i (nodes i).leaf rest b refl a
word_keeps window tables size nodes i r rest (w ∷ ws) b at e a =
    let s : LeafState = (nodes i).leaf in
    let test : Waiting → ℕ = λ (x : Waiting). cond (not (is_linked_out tables i x.port)) 1 0 in
    let z : sum_by test (w ∷ ws) ≡ 0 = ap (λ (xs : List Waiting). sum_by test xs) (sym e) ∙ at.waiting in
    let y : test w ≡ 0 = omega (arith, sum_by-cons test w ws) in
    let k : LinkedOut tables i w.port = linked_out tables i w.port (passed (is_linked_out tables i w.port) y) in
    let row : row_of s w.port ≡ row_to k.to k.inn = at.rows w.port ∙ k.row in
    let stamp : Stamp = record { round = record { 0 = r }; source = record { 0 = s.own } } in
    subst (λ (o : Option Row). At window tables nodes i (record s { box = ws }) (some_of (to_other_end s r (λ j. Data j w.number w.word) o) ++ rest)) (sym row)
    (offer_word_keeps window tables (record { nodes = nodes; under = rest }) i k.to k.inn w ws stamp k.link e a)
  where
    passed : (t : Bool) → (let n : ℕ = cond (not t) 1 0 in n ≡ 0) → t ≡ true
    passed true h = refl
    passed false h = absurd (omega arith)

own_keeps : (window : ℕ) (tables : Rows) (size : ℕ) (nodes : ℕ → Node) (i r : ℕ) (rest : List Packet) (o : Option ℕ) → Below tables size → IsAt window tables i (nodes i).leaf → owed_from 0 (nodes i).leaf.ins ≡ o
    → Balanced window tables (record { nodes = nodes; under = rest }) → At window tables nodes i (offer_own (nodes i).leaf r o).0 (some_of (offer_own (nodes i).leaf r o).1 ++ rest)
own_keeps window tables size nodes i r rest None b at e a = word_keeps window tables size nodes i r rest (nodes i).leaf.box b at refl a
own_keeps window tables size nodes i r rest (Some j) b at e a =
    let s : LeafState = (nodes i).leaf in
    let w : IsOwed 0 s.ins j = owed_there 0 s.ins j e in
    let place : j ≡ w.place = w.at ∙ omega arith in
    let here : j < length s.ins = omega (arith, w.there) in
    let some : 0 < (in_port s j).freed = subst (λ (x : ℕ). 0 < (get_or s.ins x (fresh_in s.window)).freed) (sym place) (w.some (fresh_in s.window)) in
    let k : LinkedIn tables i j = linked_in tables i j (at.owed j some) in
    let row : row_of s (8 + j) ≡ row_to k.from k.out = at.rows (8 + j) ∙ k.row in
    let stamp : Stamp = record { round = record { 0 = r }; source = record { 0 = s.own } } in
    subst (λ (x : Option Row). At window tables nodes i (offer_own s r (Some j)).0 (some_of (to_other_end s r (λ p. Credit p (in_port s j).freed) x) ++ rest)) (sym row)
    (offer_credit_keeps window tables (record { nodes = nodes; under = rest }) i k.from k.out j stamp here k.link a)

-- the offer of a leaf that sends nothing back
new_keeps : (window : ℕ) (tables : Rows) (size : ℕ) (nodes : ℕ → Node) (i r : ℕ) (rest : List Packet) → Below tables size → IsAt window tables i (nodes i).leaf
    → Balanced window tables (record { nodes = nodes; under = rest }) → At window tables nodes i (offer_new (nodes i).leaf r None).0 (some_of (offer_new (nodes i).leaf r None).1 ++ rest)
new_keeps window tables size nodes i r rest b at a = own_keeps window tables size nodes i r rest (owed_from 0 (nodes i).leaf.ins) b at refl a

-- what comes to its own leaf
body_keeps : (window : ℕ) (tables : Rows) (nodes : ℕ → Node) (i : ℕ) (stamp : Stamp) (body : Body) (rest under : List Packet) → IsAt window tables i (nodes i).leaf → is_body_for tables i body ≡ true
    → SamePackets under (record { stamp = stamp; to = record { 0 = i }; body = body } ∷ rest)
    → Balanced window tables (record { nodes = nodes; under = under }) → At window tables nodes i (delivered (nodes i).leaf body) rest
body_keeps window tables nodes i stamp (Data j number word) rest under at f same a =
    let l : j.0 < 8 = lt_true j.0 8 (both (nat_lt j.0 8) _ f).0 in
    data_keeps window tables (record { nodes = nodes; under = under }) i j.0 number word stamp rest (omega (arith, at.ins)) same a
body_keeps window tables nodes i stamp (Credit k count) rest under at f same a =
    let l : k.0 < 8 = lt_true k.0 8 (both (nat_lt k.0 8) _ f).0 in
    credit_keeps window tables (record { nodes = nodes; under = under }) i k.0 count stamp rest (omega (arith, at.outs)) same a
body_keeps window tables nodes i stamp (Config slot row) rest under at f same a = absurd (let x : false ≡ true = f in cc)

-- a leaf in a round: what came is taken, and something is offered
pub leaf_keeps : (window : ℕ) (tables : Rows) (size : ℕ) (nodes : ℕ → Node) (i r : ℕ) (rest under : List Packet) (o : Option Packet) → Below tables size → IsAt window tables i (nodes i).leaf → (nodes i).leaf.back ≡ None
    → ((p : Packet) → o ≡ Some p → is_body_for tables p.to.0 p.body ≡ true) → ((p : Packet) → o ≡ Some p → p.to.0 ≡ i → IsAt window tables i (delivered (nodes i).leaf p.body)) → SamePackets under (some_of o ++ rest)
    → Balanced window tables (record { nodes = nodes; under = under }) → At window tables nodes i (offered (taken_in (nodes i).leaf o) r None).0 (some_of (offered (taken_in (nodes i).leaf o) r None).1 ++ rest)
leaf_keeps window tables size nodes i r rest under None b at back f d same a =
    let s : LeafState = (nodes i).leaf in
    subst (λ (x : Option Packet). At window tables nodes i (offer_first s r None x).0 (some_of (offer_first s r None x).1 ++ rest)) (sym back)
    (new_keeps window tables size nodes i r rest b at (permute_keeps window tables (record { nodes = nodes; under = under }) rest (λ g. sym (same g)) a))
leaf_keeps window tables size nodes i r rest under (Some p) b at back f d same a = packet_keeps (p.to.0 == (nodes i).leaf.own) refl
  where
    packet_keeps : (own : Bool) → (p.to.0 == (nodes i).leaf.own) ≡ own
        → (let s1 : LeafState = if own then delivered (nodes i).leaf p.body else record (nodes i).leaf { back = Some p } in At window tables nodes i (offered s1 r None).0 (some_of (offered s1 r None).1 ++ rest))
    packet_keeps true e =
        let to : p.to.0 ≡ i = eq_same p.to.0 (nodes i).leaf.own e ∙ at.own in
        let s1 : LeafState = delivered (nodes i).leaf p.body in
        let n1 : Node = with_leaf (nodes i) s1 in
        let mid : ℕ → Node = put nodes i n1 in
        let fits : is_body_for tables i p.body ≡ true = subst (λ (x : ℕ). is_body_for tables x p.body ≡ true) to (f p refl) in
        let here : SamePackets under (record { stamp = p.stamp; to = record { 0 = i }; body = p.body } ∷ rest) = subst (λ (x : ℕ). SamePackets under (record { stamp = p.stamp; to = record { 0 = x }; body = p.body } ∷ rest)) to same in
        let a1 : At window tables nodes i s1 rest = body_keeps window tables nodes i p.stamp p.body rest under at fits here a in
        let m : mid i ≡ n1 = put_here nodes i n1 in
        let at1 : IsAt window tables i (mid i).leaf = subst (λ (x : Node). IsAt window tables i x.leaf) (sym m) (d p refl to) in
        let a2 : At window tables mid i (offer_new (mid i).leaf r None).0 (some_of (offer_new (mid i).leaf r None).1 ++ rest) = new_keeps window tables size mid i r rest b at1 a1 in
        let a3 : Balanced window tables (record { nodes = put mid i (with_leaf n1 (offer_new s1 r None).0); under = some_of (offer_new s1 r None).1 ++ rest }) =
        subst (λ (x : Node). Balanced window tables (record { nodes = put mid i (with_leaf x (offer_new x.leaf r None).0); under = some_of (offer_new x.leaf r None).1 ++ rest })) m a2 in
        let a4 : At window tables nodes i (offer_new s1 r None).0 (some_of (offer_new s1 r None).1 ++ rest) =
        nodes_same window tables size (put mid i (with_leaf n1 (offer_new s1 r None).0)) (put nodes i (with_leaf (nodes i) (offer_new s1 r None).0)) (some_of (offer_new s1 r None).1 ++ rest) b
        (λ x l. sym (put_twice nodes i n1 (with_leaf n1 (offer_new s1 r None).0) x)) a3 in
        subst (λ (x : Option Packet). At window tables nodes i (offer_first s1 r None x).0 (some_of (offer_first s1 r None x).1 ++ rest)) (sym (delivered_back (nodes i).leaf p.body ∙ back)) a4
    packet_keeps false e =
        same_keeps window tables size nodes i (record (nodes i).leaf { back = None }) (p ∷ rest) b (ap (λ (x : Option Packet). record (nodes i).leaf { back = x }) back)
        (permute_keeps window tables (record { nodes = nodes; under = under }) (p ∷ rest) (λ g. sym (same g)) a)

-- All leaves, one after another.

abbrev packets_to : (ℕ → Option Packet) → ℕ → List Packet
packets_to f zero = []
packets_to f (suc m) = some_of (f m) ++ packets_to f m

abbrev span : (ℕ → Option Packet) → ℕ → ℕ → List Packet
span f zero m = []
span f (suc k) m = some_of (f m) ++ span f k (m + 1)

to_weigh : (g : Packet → ℕ) (f : ℕ → Option Packet) (m : ℕ) → sum_by g (packets_to f m) ≡ sum_to m (λ i. weighs g (f i))
to_weigh g f zero = refl
to_weigh g f (suc m) = omega (arith, sum_by-append g (some_of (f m)) (packets_to f m), some_weigh g (f m), to_weigh g f m)

span_weigh : (g : Packet → ℕ) (f : ℕ → Option Packet) (k m : ℕ) → sum_to m (λ i. weighs g (f i)) + sum_by g (span f k m) ≡ sum_to (m + k) (λ i. weighs g (f i))
span_weigh g f zero m = (let e : m + 0 ≡ m = omega arith in omega (arith, ap (λ (n : ℕ). sum_to n (λ i. weighs g (f i))) e))
span_weigh g f (suc k) m =
    let e : m + 1 ≡ suc m = omega arith in
    let h : sum_to (m + 1) (λ i. weighs g (f i)) ≡ sum_to m (λ i. weighs g (f i)) + weighs g (f m) = ap (λ (n : ℕ). sum_to n (λ i. weighs g (f i))) e in
    let d : m + 1 + k ≡ m + suc k = omega arith in
    omega (arith, sum_by-append g (some_of (f m)) (span f k (m + 1)), some_weigh g (f m), span_weigh g f k (m + 1), ap (λ (n : ℕ). sum_to n (λ i. weighs g (f i))) d)

abbrev mixed : (ℕ → Node) → (ℕ → Node) → ℕ → ℕ → Node
mixed old new m x = if nat_lt x m then new x else old x

mixed_next : (old new : ℕ → Node) (m x : ℕ) → mixed old new (m + 1) x ≡ put (mixed old new m) m (new m) x
mixed_next old new m x = at (x == m) refl
  where
    at : (t : Bool) → (x == m) ≡ t → (if nat_lt x (m + 1) then new x else old x) ≡ (if t then new m else (if nat_lt x m then new x else old x))
    at true e =
        let s : x ≡ m = eq_same x m e in
        let y : nat_lt x (m + 1) ≡ true = grind (arith, nat_tests) in
        rw y (ap new s)
    at false e =
        let n : x ≢ m = λ s. (let y : (x == m) ≡ true = same_eq x m s in cc) in
        let y : nat_lt x (m + 1) ≡ nat_lt x m = grind (arith, nat_tests) in
        rw y refl

mixed_here : (old new : ℕ → Node) (m : ℕ) → mixed old new m m ≡ old m
mixed_here old new m = (let y : nat_lt m m ≡ false = grind (arith, nat_tests) in rw y refl)

stages : (window : ℕ) (tables : Rows) (size r : ℕ) (old : ℕ → Node) (arrival : ℕ → Option Packet) (kept : List Packet) → BeforeRound window tables size r old arrival → (k m : ℕ) → m + k ≡ size
    → Balanced window tables (record { nodes = mixed old (next_node r old arrival) m; under = kept ++ (packets_to (next_offer r old arrival) m ++ span arrival k m) })
    → Balanced window tables (record { nodes = mixed old (next_node r old arrival) size; under = kept ++ (packets_to (next_offer r old arrival) size ++ []) })
stages window tables size r old arrival kept h zero m e a =
    let s : m ≡ size = (let z : m + 0 ≡ m = omega arith in sym z ∙ e) in
    subst (λ (x : ℕ). Balanced window tables (record { nodes = mixed old (next_node r old arrival) x; under = kept ++ (packets_to (next_offer r old arrival) x ++ []) })) s a
stages window tables size r old arrival kept h (suc k) m e a =
    let new : ℕ → Node = next_node r old arrival in
    let offer : ℕ → Option Packet = next_offer r old arrival in
    let nodes : ℕ → Node = mixed old new m in
    let l : m < size = omega arith in
    let here : nodes m ≡ old m = mixed_here old new m in
    let rest : List Packet = kept ++ (packets_to offer m ++ span arrival k (m + 1)) in
    let under : List Packet = kept ++ (packets_to offer m ++ span arrival (suc k) m) in
    let same : SamePackets under (some_of (arrival m) ++ rest) = λ g. omega (arith, sum_by-append g kept (packets_to offer m ++ span arrival (suc k) m), sum_by-append g (packets_to offer m) (span arrival (suc k) m), sum_by-append g (some_of (arrival m)) (span arrival k (m + 1)), sum_by-append g (some_of (arrival m)) rest, sum_by-append g kept (packets_to offer m ++ span arrival k (m + 1)), sum_by-append g (packets_to offer m) (span arrival k (m + 1))) in
    let step : At window tables nodes m (offered (taken_in (nodes m).leaf (arrival m)) r None).0 (some_of (offered (taken_in (nodes m).leaf (arrival m)) r None).1 ++ rest) =
    leaf_keeps window tables size nodes m r rest under (arrival m) h.below
    (subst (λ (x : Node). IsAt window tables m x.leaf) (sym here) (h.at m l)) (ap (λ (x : Node). x.leaf.back) here ∙ h.back m l) (h.fits m l)
    (λ p t u. subst (λ (x : Node). IsAt window tables m (delivered x.leaf p.body)) (sym here) (h.then_at m l p t u)) same a in
    let step1 : Balanced window tables (record { nodes = put nodes m (new m); under = some_of (offer m) ++ rest }) =
    subst (λ (x : Node). Balanced window tables (record { nodes = put nodes m (with_leaf x (offered (taken_in x.leaf (arrival m)) r None).0); under = some_of (offered (taken_in x.leaf (arrival m)) r None).1 ++ rest })) here step in
    let step2 : Balanced window tables (record { nodes = mixed old new (m + 1); under = some_of (offer m) ++ rest }) =
    nodes_same window tables size (put nodes m (new m)) (mixed old new (m + 1)) (some_of (offer m) ++ rest) h.below (λ x _. mixed_next old new m x) step1 in
    let n : m + 1 ≡ suc m = omega arith in
    let step3 : Balanced window tables (record { nodes = mixed old new (m + 1); under = kept ++ (packets_to offer (m + 1) ++ span arrival k (m + 1)) }) =
    permute_keeps window tables (record { nodes = mixed old new (m + 1); under = some_of (offer m) ++ rest }) (kept ++ (packets_to offer (m + 1) ++ span arrival k (m + 1)))
    (λ g. (let w : sum_by g (packets_to offer (m + 1)) ≡ sum_by g (some_of (offer m) ++ packets_to offer m) = ap (λ (x : ℕ). sum_by g (packets_to offer x)) n in
    omega (arith, sum_by-append g kept (packets_to offer (m + 1) ++ span arrival k (m + 1)), sum_by-append g (packets_to offer (m + 1)) (span arrival k (m + 1)), sum_by-append g (some_of (offer m)) (packets_to offer m), sum_by-append g (some_of (offer m)) rest, sum_by-append g kept (packets_to offer m ++ span arrival k (m + 1)), sum_by-append g (packets_to offer m) (span arrival k (m + 1))))) step2 in
    stages window tables size r old arrival kept h k (m + 1) (omega arith) step3

-- the whole of parts 2 to 4
pub round_accounted : (window : ℕ) (tables : Rows) (size r : ℕ) (old new' : ℕ → Node) (arrival : ℕ → Option Packet) (kept before after : List Packet) → BeforeRound window tables size r old arrival
    → ((g : Packet → ℕ) → sum_by g before ≡ sum_by g kept + sum_to size (λ i. weighs g (arrival i)))
    → ((g : Packet → ℕ) → sum_by g after ≡ sum_by g kept + sum_to size (λ i. weighs g (next_offer r old arrival i)))
    → ((i : ℕ) → i < size → new' i ≡ next_node r old arrival i)
    → Balanced window tables (record { nodes = old; under = before }) → Balanced window tables (record { nodes = new'; under = after })
round_accounted window tables size r old new' arrival kept before after h came goes is a =
    let new : ℕ → Node = next_node r old arrival in
    let offer : ℕ → Option Packet = next_offer r old arrival in
    let zero_size : 0 + size ≡ size = omega arith in
    let a0 : Balanced window tables (record { nodes = old; under = kept ++ ([] ++ span arrival size 0) }) =
    permute_keeps window tables (record { nodes = old; under = before }) (kept ++ ([] ++ span arrival size 0))
    (λ g. omega (arith, came g, sum_by-append g kept (span arrival size 0), span_weigh g arrival size 0, ap (λ (x : ℕ). sum_to x (λ i. weighs g (arrival i))) zero_size)) a in
    let a1 : Balanced window tables (record { nodes = mixed old new 0; under = kept ++ ([] ++ span arrival size 0) }) =
    nodes_same window tables size old (mixed old new 0) (kept ++ ([] ++ span arrival size 0)) h.below (λ x l. none_below x) a0 in
    let a2 : Balanced window tables (record { nodes = mixed old new size; under = kept ++ (packets_to offer size ++ []) }) = stages window tables size r old arrival kept h size 0 (omega arith) a1 in
    let a3 : Balanced window tables (record { nodes = new'; under = kept ++ (packets_to offer size ++ []) }) =
    nodes_same window tables size (mixed old new size) new' (kept ++ (packets_to offer size ++ [])) h.below (λ x l. is x l ∙ sym (all_below x l)) a2 in
    permute_keeps window tables (record { nodes = new'; under = kept ++ (packets_to offer size ++ []) }) after
    (λ g. omega (arith, goes g, sum_by-append g kept (packets_to offer size ++ []), sum_by-append g (packets_to offer size) [], to_weigh g offer size)) a3
  where
    none_below : (x : ℕ) → (if nat_lt x 0 then next_node r old arrival x else old x) ≡ old x
    none_below x = (let y : nat_lt x 0 ≡ false = grind (arith, nat_tests) in rw y refl)

    all_below : (x : ℕ) → x < size → (if nat_lt x size then next_node r old arrival x else old x) ≡ next_node r old arrival x
    all_below x l = (let y : nat_lt x size ≡ true = grind (arith, nat_tests) in rw y refl)
