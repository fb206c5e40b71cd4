-- What each change of a leaf does to the halves of its channels.
use Rattle.std.proofs.Common.{◌≡◌, ℕ, ◌+◌, ◌-◌, ◌%◌, ◌<◌, ◌≢◌, Bool, true, false, List, [], ◌∷◌, ◌++◌, length, refl, ap, sym, ◌∙◌, arith, Option, Some, None}
use Rattle.std.specs.Prelude.{slice_index_or, slice_set, if◌then◌else◌, ◌==◌}
use Rattle.std.proofs.lemmas.Bool.Decides.{nat_tests}
use Rattle.std.proofs.lemmas.List.{get_or-set_same, get_or-set_other}
use Rattle.leaf_port.specs.declared.ports.OutPort.{OutPort}
use Rattle.leaf_port.specs.Ports.{InState, fresh_in, taken, filled_at, credited}
use Rattle.leaf_port.specs.declared.ports.Waiting.{Waiting}
use Rattle.leaf_port.specs.Leaf.{out_port, in_port, wrote, took, delivered}
use Rattle.pld_base.specs.declared.event.PortNo.{PortNo}
use Rattle.net_switch.specs.declared.packet.Body.TheVariants.{Data, Credit}
use Rattle.channel_account.specs.Account.{Numbered}
use Rattle.channel_account.specs.Network.{Node, OutHalf, InHalf, out_half, in_half, words_of, node_wrote, node_took, with_leaf}

pub same_true : (a b : ℕ) → a ≡ b → (a == b) ≡ true
same_true a b e = grind (arith, nat_tests)

pub other_false : (a b : ℕ) → a ≢ b → (a == b) ≡ false
other_false a b e = grind (arith, nat_tests)

pub true_same : (a b : ℕ) → (a == b) ≡ true → a ≡ b
true_same a b e = grind (arith, nat_tests)

pub false_other : (a b : ℕ) → (a == b) ≡ false → a ≢ b
false_other a b e = grind (arith, nat_tests)

push_if : {X : Type 0} (b : Bool) (x : X) (xs ys : List X) → (if b then x ∷ xs else xs) ++ ys ≡ (if b then x ∷ (xs ++ ys) else xs ++ ys)
push_if {X} true x xs ys = refl
push_if {X} false x xs ys = refl

if_push : {X : Type 0} (b : Bool) (x : X) (xs ys zs : List X) → xs ≡ ys ++ zs → (if b then x ∷ xs else xs) ≡ (if b then x ∷ ys else ys) ++ zs
if_push {X} true x xs ys zs e = ap (λ (t : List X). x ∷ t) e
if_push {X} false x xs ys zs e = e

pub words_push : (k : ℕ) (ws : List Waiting) (x : Waiting) → words_of k (ws ++ x ∷ []) ≡ words_of k ws ++ (if x.port == k then (x.number, x.word) ∷ [] else [])
words_push k [] x = refl
words_push k (w ∷ ws) x = if_push (w.port == k) (w.number, w.word) (words_of k (ws ++ x ∷ [])) (words_of k ws) (if x.port == k then (x.number, x.word) ∷ [] else []) (words_push k ws x)

append_none : {X : Type 0} (xs : List X) → xs ++ [] ≡ xs
append_none {X} [] = refl
append_none {X} (x ∷ xs) = ap (λ (t : List X). x ∷ t) (append_none {X = X} xs)

out_is : (c d n m : ℕ) (b a : List Numbered) (w v : List ℕ) → c ≡ d → n ≡ m → b ≡ a → w ≡ v → (let x : OutHalf = record { credits = c; out_next = n; box = b; written = w } in let y : OutHalf = record { credits = d; out_next = m; box = a; written = v } in x ≡ y)
out_is c d n m b a w v p q r s =
    ap (λ (k : ℕ). record { credits = k; out_next = n; box = b; written = w }) p
    ∙ (ap (λ (k : ℕ). record { credits = d; out_next = k; box = b; written = w }) q
    ∙ (ap (λ (k : List Numbered). record { credits = d; out_next = m; box = k; written = w }) r
    ∙ ap (λ (k : List ℕ). record { credits = d; out_next = m; box = a; written = k }) s))

in_is : (s t : List (Option ℕ)) (n m f g : ℕ) (r q : List ℕ) → s ≡ t → n ≡ m → f ≡ g → r ≡ q → (let x : InHalf = record { slots = s; in_next = n; freed = f; read = r } in let y : InHalf = record { slots = t; in_next = m; freed = g; read = q } in x ≡ y)
in_is s t n m f g r q a b c d =
    ap (λ (k : List (Option ℕ)). record { slots = k; in_next = n; freed = f; read = r }) a
    ∙ (ap (λ (k : ℕ). record { slots = t; in_next = k; freed = f; read = r }) b
    ∙ (ap (λ (k : ℕ). record { slots = t; in_next = m; freed = k; read = r }) c
    ∙ ap (λ (k : List ℕ). record { slots = t; in_next = m; freed = g; read = k }) d))

-- a write
abbrev pub out_written : ℕ → ℕ → OutHalf → OutHalf
out_written window w o = record { credits = o.credits - 1; out_next = (o.out_next + 1) % window; box = o.box ++ (o.out_next, w) ∷ []; written = o.written ++ w ∷ [] }

pub wrote_out : (n : Node) (k w : ℕ) → k < length n.leaf.outs → out_half (node_wrote k w n) k ≡ out_written n.leaf.window w (out_half n k)
wrote_out n k w l =
    let o : OutPort = record { credits = (out_port n.leaf k).credits - 1; next = ((out_port n.leaf k).next + 1) % n.leaf.window } in
    let p : out_port (wrote n.leaf k w) k ≡ o = get_or-set_same n.leaf.outs k o _ l in
    let z : (k == k) ≡ true = same_true k k refl in
    out_is _ _ _ _ _ _ _ _
    (ap (λ (x : OutPort). x.credits) p)
    (ap (λ (x : OutPort). x.next) p)
    (words_push k n.leaf.box (record { port = k; number = (out_port n.leaf k).next; word = w }) ∙ rw z refl)
    (rw z refl)

pub wrote_out_other : (n : Node) (k w i : ℕ) → i ≢ k → out_half (node_wrote k w n) i ≡ out_half n i
wrote_out_other n k w i ne =
    let p : out_port (wrote n.leaf k w) i ≡ out_port n.leaf i = get_or-set_other n.leaf.outs k i _ _ ne in
    let z : (k == i) ≡ false = other_false k i (λ e. ne (sym e)) in
    out_is _ _ _ _ _ _ _ _
    (ap (λ (x : OutPort). x.credits) p)
    (ap (λ (x : OutPort). x.next) p)
    (words_push i n.leaf.box (record { port = k; number = (out_port n.leaf k).next; word = w }) ∙ rw z (append_none (words_of i n.leaf.box)))
    (let y : (i == k) ≡ false = other_false i k ne in rw y refl)

pub wrote_in : (n : Node) (k w j : ℕ) → in_half (node_wrote k w n) j ≡ in_half n j
wrote_in n k w j = in_is _ _ _ _ _ _ _ _ refl refl refl refl

-- a read
abbrev pub in_taken : ℕ → ℕ → InHalf → InHalf
in_taken window w i = record { slots = slice_set i.slots i.in_next None; in_next = (i.in_next + 1) % window; freed = i.freed + 1; read = i.read ++ w ∷ [] }

pub took_in : (n : Node) (j w : ℕ) → j < length n.leaf.ins → in_half (node_took j w n) j ≡ in_taken n.leaf.window w (in_half n j)
took_in n j w l =
    let q : InState = taken n.leaf.window (in_port n.leaf j) in
    let p : in_port (took n.leaf j) j ≡ q = get_or-set_same n.leaf.ins j q _ l in
    let z : (j == j) ≡ true = same_true j j refl in
    in_is _ _ _ _ _ _ _ _
    (ap (λ (x : InState). x.slots) p)
    (ap (λ (x : InState). x.next) p)
    (ap (λ (x : InState). x.freed) p)
    (rw z refl)

pub took_in_other : (n : Node) (j w i : ℕ) → i ≢ j → in_half (node_took j w n) i ≡ in_half n i
took_in_other n j w i ne =
    let p : in_port (took n.leaf j) i ≡ in_port n.leaf i = get_or-set_other n.leaf.ins j i _ _ ne in
    let z : (j == i) ≡ false = other_false j i (λ e. ne (sym e)) in
    in_is _ _ _ _ _ _ _ _
    (ap (λ (x : InState). x.slots) p)
    (ap (λ (x : InState). x.next) p)
    (ap (λ (x : InState). x.freed) p)
    (let y : (i == j) ≡ false = other_false i j ne in rw y refl)

pub took_out : (n : Node) (j w k : ℕ) → out_half (node_took j w n) k ≡ out_half n k
took_out n j w k = out_is _ _ _ _ _ _ _ _ refl refl refl refl

-- a word arrives
abbrev pub in_arrived : Numbered → InHalf → InHalf
in_arrived x i = record i { slots = slice_set i.slots x.0 (Some x.1) }

pub data_in : (n : Node) (j : PortNo) (number word : ℕ) → j.0 < length n.leaf.ins → in_half (with_leaf n (delivered n.leaf (Data j number word))) j.0 ≡ in_arrived (number, word) (in_half n j.0)
data_in n j number word l =
    let q : InState = filled_at number word (in_port n.leaf j.0) in
    let p : in_port (delivered n.leaf (Data j number word)) j.0 ≡ q = get_or-set_same n.leaf.ins j.0 q _ l in
    in_is _ _ _ _ _ _ _ _ (ap (λ (x : InState). x.slots) p) (ap (λ (x : InState). x.next) p) (ap (λ (x : InState). x.freed) p) refl

pub data_in_other : (n : Node) (j : PortNo) (number word i : ℕ) → i ≢ j.0 → in_half (with_leaf n (delivered n.leaf (Data j number word))) i ≡ in_half n i
data_in_other n j number word i ne =
    let p : in_port (delivered n.leaf (Data j number word)) i ≡ in_port n.leaf i = get_or-set_other n.leaf.ins j.0 i _ _ ne in
    in_is _ _ _ _ _ _ _ _ (ap (λ (x : InState). x.slots) p) (ap (λ (x : InState). x.next) p) (ap (λ (x : InState). x.freed) p) refl

-- a credit arrives
abbrev pub out_credited : ℕ → OutHalf → OutHalf
out_credited count o = record o { credits = o.credits + count }

pub credit_out : (n : Node) (k : PortNo) (count : ℕ) → k.0 < length n.leaf.outs → out_half (with_leaf n (delivered n.leaf (Credit k count))) k.0 ≡ out_credited count (out_half n k.0)
credit_out n k count l =
    let o : OutPort = record (out_port n.leaf k.0) { credits = (out_port n.leaf k.0).credits + count } in
    let p : out_port (delivered n.leaf (Credit k count)) k.0 ≡ o = get_or-set_same n.leaf.outs k.0 o _ l in
    out_is _ _ _ _ _ _ _ _ (ap (λ (x : OutPort). x.credits) p) (ap (λ (x : OutPort). x.next) p) refl refl

pub credit_out_other : (n : Node) (k : PortNo) (count i : ℕ) → i ≢ k.0 → out_half (with_leaf n (delivered n.leaf (Credit k count))) i ≡ out_half n i
credit_out_other n k count i ne =
    let p : out_port (delivered n.leaf (Credit k count)) i ≡ out_port n.leaf i = get_or-set_other n.leaf.outs k.0 i _ _ ne in
    out_is _ _ _ _ _ _ _ _ (ap (λ (x : OutPort). x.credits) p) (ap (λ (x : OutPort). x.next) p) refl refl

-- the head of the outbox is offered
abbrev pub out_sent : List Numbered → OutHalf → OutHalf
out_sent box o = record o { box = box }

pub sent_out : (n : Node) (x : Waiting) (ws : List Waiting) → n.leaf.box ≡ x ∷ ws → (out_half (with_leaf n (record n.leaf { box = ws })) x.port ≡ out_sent (words_of x.port ws) (out_half n x.port)) × ((out_half n x.port).box ≡ (x.number, x.word) ∷ words_of x.port ws)
sent_out n x ws e =
    let z : (x.port == x.port) ≡ true = same_true x.port x.port refl in
    (refl, ap (words_of x.port) e ∙ rw z refl)

pub sent_out_other : (n : Node) (x : Waiting) (ws : List Waiting) (i : ℕ) → n.leaf.box ≡ x ∷ ws → i ≢ x.port → out_half (with_leaf n (record n.leaf { box = ws })) i ≡ out_half n i
sent_out_other n x ws i e ne =
    let z : (x.port == i) ≡ false = other_false x.port i (λ s. ne (sym s)) in
    let b : words_of i n.leaf.box ≡ words_of i ws = ap (words_of i) e ∙ rw z refl in
    out_is _ _ _ _ _ _ _ _ refl refl (sym b) refl

-- freed room is offered
abbrev pub in_returned : InHalf → InHalf
in_returned i = record i { freed = 0 }

pub returned_in : (n : Node) (j : ℕ) → j < length n.leaf.ins → in_half (with_leaf n (record n.leaf { ins = slice_set n.leaf.ins j (credited (in_port n.leaf j)) })) j ≡ in_returned (in_half n j)
returned_in n j l =
    let q : InState = credited (in_port n.leaf j) in
    let p : slice_index_or (slice_set n.leaf.ins j q) j (fresh_in n.leaf.window) ≡ q = get_or-set_same n.leaf.ins j q _ l in
    in_is _ _ _ _ _ _ _ _ (ap (λ (x : InState). x.slots) p) (ap (λ (x : InState). x.next) p) (ap (λ (x : InState). x.freed) p) refl

pub returned_in_other : (n : Node) (j i : ℕ) → i ≢ j → in_half (with_leaf n (record n.leaf { ins = slice_set n.leaf.ins j (credited (in_port n.leaf j)) })) i ≡ in_half n i
returned_in_other n j i ne =
    let p : slice_index_or (slice_set n.leaf.ins j (credited (in_port n.leaf j))) i (fresh_in n.leaf.window) ≡ in_port n.leaf i = get_or-set_other n.leaf.ins j i _ _ ne in
    in_is _ _ _ _ _ _ _ _ (ap (λ (x : InState). x.slots) p) (ap (λ (x : InState). x.next) p) (ap (λ (x : InState). x.freed) p) refl
