-- Each entry keeps that the events of pages and hosts are what these do.
use Rattle.std.proofs.Common.{◌≡◌, ℕ, ◌+◌, ◌≢◌, Bool, true, false, List, [], ◌∷◌, ◌++◌, length, refl, ap, sym, ◌∙◌, arith, Option, Some, None, subst, inl, inr}
use Rattle.std.specs.Prelude.{if◌then◌else◌, ◌==◌, slice_get}
use Rattle.leaf_port.specs.Leaf.{LeafState, can_write, next_word, wrote, took}
use Rattle.pld_base.specs.Prefix.{IsPrefixOf}
use Rattle.pld_base.specs.Events.{words_read}
use Rattle.pld_base.specs.declared.event.Event.{Event}
use Rattle.pld_base.specs.declared.event.Event.TheVariants.{Read, Write}
use Rattle.pld_base.specs.Channels.{OperatorNode, InputNode, OutputNode, family_of}
use Rattle.pld_base.proofs.Events.{words_read-append}
use Rattle.pld_kahn.specs.Network.{sends, receives}
use Rattle.pld_image.specs.Cores.{Core, next}
use Rattle.pld_image.specs.declared.page.TurnEnd.{TurnEnd}
use Rattle.pld_image.specs.declared.page.TurnEnd.TheVariants.{AtRead, AtWrite, Ended, Limit}
use Rattle.fabric_run.specs.Turns.{turn}
use Rattle.fabric_run.specs.World.{Setup, State, PageState, placed, each_to, start_page, happened, next_feed, sent_by, send, received_by, receive, hosted, is_configured, after_net, read_given, write_given, given_at, given, out_to, ready, core_at}
use Rattle.fabric_run.specs.declared.entry.Entry.{Entry}
use Rattle.fabric_run.specs.declared.entry.Entry.TheVariants.{Take, Give, Net}
use Rattle.fabric_run.specs.Replay.{after}
use Rattle.hot_swap.specs.Paths.{Leads}
use Rattle.fabric_keeps.specs.Paths.{PathAt, IsTraced}
use Rattle.fabric_keeps.proofs.Base.{eq_same, same_eq, differ, placed_here, placed_other}
use Rattle.fabric_keeps.proofs.Base.{same_or}
use Rattle.fabric_keeps.proofs.Steps.{each_keeps}
use Rattle.pld_base.specs.declared.event.PortNo.{PortNo}
use Rattle.fabric_keeps.proofs.Happening.{Apart}
use Rattle.hot_swap.proofs.Walks.{leads_append, leads_here}
use Rattle.fabric_keeps.proofs.Walks.{turn_leads, turn_ends, EndsAt, read_leads, write_leads}

pub append_none : {X : Type 0} (xs : List X) → xs ++ [] ≡ xs
append_none {X} [] = refl
append_none {X} (x ∷ xs) = ap (λ (t : List X). x ∷ t) (append_none {X = X} xs)

-- a host's send
write_same : (a b : ℕ) (es fs : List Event) → Write (record { 0 = 0 }) a ∷ es ≡ Write (record { 0 = 0 }) b ∷ fs → (a ≡ b) × (es ≡ fs)
write_same a b es fs e = (let x : Write (record { 0 = 0 }) a ≡ Write (record { 0 = 0 }) b = cc in (cc), cc)

tail_same : (d e : Event) (es fs : List Event) → d ∷ es ≡ e ∷ fs → es ≡ fs
tail_same d e es fs h = cc

some_word : (a b : ℕ) → Some a ≡ Some b → a ≡ b
some_word a b e = cc

-- what is left begins with the next word
pub next_left : (es more : List Event) (feed : List ℕ) (w : ℕ) → es ++ more ≡ sends feed → slice_get feed (length es) ≡ Some w → IsPrefixOf (es ++ Write (record { 0 = 0 }) w ∷ []) (sends feed)
next_left [] more [] w e g = absurd (let x : None ≡ Some w = g in cc)
next_left [] more (x ∷ feed) w e g =
    let s : x ≡ w = some_word x w g in
    record { rest = sends feed; joined = ap (λ (y : ℕ). Write (record { 0 = 0 }) y ∷ sends feed) (sym s) }
next_left (d ∷ es) more [] w e g = absurd (let x : d ∷ (es ++ more) ≡ [] = e in cc)
next_left (d ∷ es) more (x ∷ feed) w e g =
    let t : es ++ more ≡ sends feed = tail_same d (Write (record { 0 = 0 }) x) (es ++ more) (sends feed) e in
    let h : d ≡ Write (record { 0 = 0 }) x = (let y : d ∷ (es ++ more) ≡ Write (record { 0 = 0 }) x ∷ sends feed = e in cc) in
    let p : IsPrefixOf (es ++ Write (record { 0 = 0 }) w ∷ []) (sends feed) = next_left es more feed w t g in
    record { rest = p.rest; joined = ap (λ (ys : List Event). d ∷ ys) p.joined ∙ ap (λ (z : Event). z ∷ sends feed) h }

-- the family after an event
abbrev with_event : Bool → List Event → Event → List Event
with_event b es e = if b then es ++ e ∷ [] else es

input_at : (es : List Event) (feed : List ℕ) (w : ℕ) (b : Bool) → IsPrefixOf es (sends feed) → (b ≡ true → slice_get feed (length es) ≡ Some w) → IsPrefixOf (with_event b es (Write (record { 0 = 0 }) w)) (sends feed)
input_at es feed w true p h = next_left es p.rest feed w p.joined (h refl)
input_at es feed w false p h = p

output_at : (es : List Event) (w : ℕ) (b : Bool) → es ≡ receives (words_read es 0) → with_event b es (Read (record { 0 = 0 }) w) ≡ receives (words_read (with_event b es (Read (record { 0 = 0 }) w)) 0)
output_at es w true e =
    ap (λ (xs : List Event). xs ++ Read (record { 0 = 0 }) w ∷ []) e ∙ (sym (map_append (words_read es 0) w) ∙ ap receives (sym (words_read-append es (Read (record { 0 = 0 }) w ∷ []) 0)))
  where
    map_append : (xs : List ℕ) (w : ℕ) → receives (xs ++ w ∷ []) ≡ receives xs ++ Read (record { 0 = 0 }) w ∷ []
    map_append [] w = refl
    map_append (x ∷ xs) w = ap (λ (ys : List Event). Read (record { 0 = 0 }) x ∷ ys) (map_append xs w)
output_at es w false e = e

sent_traced : {S : Type 0} (setup : Setup S) (st : State S) (k : ℕ) (o : Option ℕ) (b : Bool) → next_feed setup st k ≡ o → IsTraced setup st → IsTraced setup (sent_by st k o b)
sent_traced setup st k None b e h = h
sent_traced setup st k (Some w) false e h = h
sent_traced setup st k (Some w) true e h = record {
  pages = h.pages;
  nobody = h.nobody;
  inputs = λ q. input_at (family_of st.history (InputNode q)) (setup.feed q) w (k == q) (h.inputs q) (λ t. ap (λ (x : ℕ). next_feed setup st x) (sym (eq_same k q t)) ∙ e);
  outputs = h.outputs;
}

received_traced : {S : Type 0} (setup : Setup S) (st : State S) (j : ℕ) (o : Option ℕ) → IsTraced setup st → IsTraced setup (received_by st j o)
received_traced setup st j None h = h
received_traced setup st j (Some w) h = record {
  pages = h.pages;
  nobody = h.nobody;
  inputs = h.inputs;
  outputs = λ q. output_at (family_of st.history (OutputNode q)) w (j == q) (h.outputs q);
}

hosted_traced : {S : Type 0} (setup : Setup S) (st : State S) → IsTraced setup st → IsTraced setup (hosted setup st)
hosted_traced setup st h =
    each_keeps (IsTraced setup) setup.outputs receive (each_to setup.inputs (send setup) st) (λ j x p. received_traced setup x j (next_word (x.leaves 0) j) p)
    (each_keeps (IsTraced setup) setup.inputs (send setup) st (λ k x p. sent_traced setup x k (next_feed setup x k) (can_write (x.leaves 0) k) refl p) h)

ready_traced : {S : Type 0} (setup : Setup S) (st : State S) (b : Bool) → IsTraced setup st → IsTraced setup (if b then hosted setup st else st)
ready_traced setup st true h = hosted_traced setup st h
ready_traced setup st false h = h

-- pages that go out, and a Net
out_path : (c : Option Core) (o : Option PageState) (es : List Event) (seat : ℕ) → PathAt c o es → PathAt c (out_to seat o) es
out_path None o es seat h = (ap (out_to seat) h.0, h.1)
out_path (Some c) o es seat h = (record h.0 { holder = Some seat }, ap (out_to seat) h.1, h.2)

net_path : (c : Option Core) (o : Option PageState) (es : List Event) → PathAt c o es → PathAt c (after_net o) es
net_path None o es h = (ap after_net h.0, h.1)
net_path (Some c) o es h = (record h.0 { gives = 0 }, ap after_net h.1, h.2)

same_page : (p q : PageState) → Some p ≡ Some q → p ≡ q
same_page p q e = cc

none_page : (p : PageState) → None ≡ Some p → ⊥
none_page p e = cc

-- the page at a leaf goes on to another core by an event, or by none
page_path : (co : Option Core) (o : Option PageState) (es more : List Event) (p q : PageState) → PathAt co o es → o ≡ Some p → ((c : Core) → Leads next c p.steps es p.core → Leads next c q.steps (es ++ more) q.core) → PathAt co (Some q) (es ++ more)
page_path None o es more p q h e go = absurd (none_page p (sym h.0 ∙ e))
page_path (Some c) o es more p q h e go =
    let s : h.0 ≡ p = same_page h.0 p (sym h.1 ∙ e) in
    (q, refl, go c (subst (λ (x : PageState). Leads next c x.steps es x.core) s h.2))

-- every other leaf stays
other_path : {S : Type 0} (setup : Setup S) (st : State S) (i : ℕ) (q : PageState) (es : List Event) → IsTraced setup st → PathAt (core_at setup i) (Some q) es → (fam : ℕ → List Event) → fam i ≡ es → ((j : ℕ) → j ≢ i → fam j ≡ family_of st.history (OperatorNode (setup.number j)))
    → (j : ℕ) → PathAt (core_at setup j) (placed st.pages i (Some q) j) (fam j)
other_path setup st i q es h p fam here there j =
    elim (same_or j i (j == i) refl) [
      | inl e ↦ subst (λ (x : ℕ). PathAt (core_at setup x) (placed st.pages i (Some q) x) (fam x)) (sym e)
          (subst (λ (x : Option PageState). PathAt (core_at setup i) x (fam i)) (sym (placed_here st.pages i (Some q))) (subst (PathAt (core_at setup i) (Some q)) (sym here) p))
      | inr n ↦ subst (λ (x : Option PageState). PathAt (core_at setup j) x (fam j)) (sym (placed_other st.pages i (Some q) j n)) (subst (PathAt (core_at setup j) (st.pages j)) (sym (there j n)) (h.pages j))
    ]

-- a Give with no event
silent : {S : Type 0} (setup : Setup S) (st : State S) (i : ℕ) (p q : PageState) → IsTraced setup st → st.pages i ≡ Some p → q.core ≡ (turn p.core).core → q.steps ≡ p.steps + (turn p.core).steps → IsTraced setup (record st { pages = placed st.pages i (Some q) })
silent setup st i p q h e core steps =
    let es : List Event = family_of st.history (OperatorNode (setup.number i)) in
    let path : PathAt (core_at setup i) (Some q) (es ++ []) = page_path (core_at setup i) (st.pages i) es [] p q (h.pages i) e (λ c l. (
    let all : Leads next c (p.steps + (turn p.core).steps) (es ++ []) (turn p.core).core = leads_append next c p.core (turn p.core).core p.steps (turn p.core).steps es [] l (turn_leads p.core) in
    subst (λ (x : Core). Leads next c q.steps (es ++ []) x) (sym core) (subst (λ (n : ℕ). Leads next c n (es ++ []) (turn p.core).core) (sym steps) all))) in
    record {
      pages = other_path setup st i q (es ++ []) h path (λ j. family_of st.history (OperatorNode (setup.number j))) (sym (append_none es)) (λ j n. refl);
      nobody = h.nobody;
      inputs = h.inputs;
      outputs = h.outputs;
    }

-- a page has a number that is a page's
not_other : {S : Type 0} (setup : Setup S) (st : State S) (i k : ℕ) (p : PageState) → IsTraced setup st → st.pages i ≡ Some p → setup.image k ≡ None → setup.number i ≢ k
not_other setup st i k p h e none s = absurd (none_page p (sym (nowhere (core_at setup i) (st.pages i) _ (ap setup.image s ∙ none) (h.pages i)) ∙ e))
  where
    nowhere : (co : Option Core) (o : Option PageState) (es : List Event) → co ≡ None → PathAt co o es → o ≡ None
    nowhere None o es f q = q.0
    nowhere (Some c) o es f q = absurd (let x : Some c ≡ None = f in cc)

-- a Give with an event
spoken : {S : Type 0} (setup : Setup S) → Apart setup → (st : State S) (i : ℕ) (p q : PageState) (leaf : LeafState) (v : Event) → IsTraced setup st → st.pages i ≡ Some p → Leads next (turn p.core).core 0 (v ∷ []) q.core → q.steps ≡ p.steps + (turn p.core).steps
    → IsTraced setup (happened (record st { pages = placed st.pages i (Some q) }) i leaf (OperatorNode (setup.number i)) v)
spoken setup apart st i p q leaf v h e last steps =
    let es : List Event = family_of st.history (OperatorNode (setup.number i)) in
    let path : PathAt (core_at setup i) (Some q) (es ++ v ∷ []) = page_path (core_at setup i) (st.pages i) es (v ∷ []) p q (h.pages i) e (λ c l. (
    let some : Leads next p.core ((turn p.core).steps + 0) ([] ++ v ∷ []) q.core = leads_append next p.core (turn p.core).core q.core (turn p.core).steps 0 [] (v ∷ []) (turn_leads p.core) last in
    let all : Leads next c (p.steps + ((turn p.core).steps + 0)) (es ++ v ∷ []) q.core = leads_append next c p.core q.core p.steps ((turn p.core).steps + 0) es (v ∷ []) l some in
    let n : p.steps + ((turn p.core).steps + 0) ≡ q.steps = omega (arith, steps) in
    subst (λ (x : ℕ). Leads next c x (es ++ v ∷ []) q.core) n all)) in
    record {
      pages = other_path setup st i q (es ++ v ∷ []) h path (λ j. with_event (setup.number i == setup.number j) (family_of st.history (OperatorNode (setup.number j))) v)
          (ap (λ (b : Bool). with_event b es v) (same_eq (setup.number i) (setup.number i) refl)) (λ j n. ap (λ (b : Bool). with_event b (family_of st.history (OperatorNode (setup.number j))) v) (differ (setup.number i) (setup.number j) (λ s. n (sym (apart i j s)))));
      nobody = λ k none. ap (λ (b : Bool). with_event b (family_of st.history (OperatorNode k)) v) (differ (setup.number i) k (not_other setup st i k p h e none)) ∙ h.nobody k none;
      inputs = h.inputs;
      outputs = h.outputs;
    }

read_traced : {S : Type 0} (setup : Setup S) → Apart setup → (st : State S) (i : ℕ) (p : PageState) (j : PortNo) (o : Option ℕ) → IsTraced setup st → st.pages i ≡ Some p → (turn p.core).end ≡ AtRead j → IsTraced setup (read_given setup st i p (turn p.core) j.0 o)
read_traced setup apart st i p j None h e t = silent setup st i p _ h e refl refl
read_traced setup apart st i p j (Some w) h e t =
    spoken setup apart st i p _ (took (st.leaves i) j.0) (Read (record { 0 = j.0 }) w) h e (read_leads (turn p.core).core j w (subst (λ (x : TurnEnd). EndsAt x (turn p.core).core) t (turn_ends p.core))) refl

write_traced : {S : Type 0} (setup : Setup S) → Apart setup → (st : State S) (i : ℕ) (p : PageState) (k : PortNo) (w : ℕ) (b : Bool) → IsTraced setup st → st.pages i ≡ Some p → (turn p.core).end ≡ AtWrite k w → IsTraced setup (write_given setup st i p (turn p.core) k.0 w b)
write_traced setup apart st i p k w false h e t = silent setup st i p _ h e refl refl
write_traced setup apart st i p k w true h e t =
    spoken setup apart st i p _ (wrote (st.leaves i) k.0 w) (Write (record { 0 = k.0 }) w) h e (write_leads (turn p.core).core k w (subst (λ (x : TurnEnd). EndsAt x (turn p.core).core) t (turn_ends p.core))) refl

given_at_traced : {S : Type 0} (setup : Setup S) → Apart setup → (st : State S) (i : ℕ) (p : PageState) (end : TurnEnd) → IsTraced setup st → st.pages i ≡ Some p → (turn p.core).end ≡ end → IsTraced setup (given_at setup st i p (turn p.core) end)
given_at_traced setup apart st i p (AtRead j) h e t = read_traced setup apart st i p j (next_word (st.leaves i) j.0) h e t
given_at_traced setup apart st i p (AtWrite k w) h e t = write_traced setup apart st i p k w (can_write (st.leaves i) k.0) h e t
given_at_traced setup apart st i p Ended h e t = silent setup st i p _ h e refl refl
given_at_traced setup apart st i p Limit h e t = silent setup st i p _ h e refl refl

given_traced : {S : Type 0} (setup : Setup S) → Apart setup → (st : State S) (i : ℕ) (o : Option PageState) → st.pages i ≡ o → IsTraced setup st → IsTraced setup (given setup st i o)
given_traced setup apart st i None e h = h
given_traced setup apart st i (Some p) e h = given_at_traced setup apart st i p (turn p.core).end h e refl

taken_traced : {S : Type 0} (setup : Setup S) (st : State S) (seat i j : ℕ) → PathAt (core_at setup j) (st.pages j) (family_of st.history (OperatorNode (setup.number j))) → PathAt (core_at setup j) (placed st.pages i (out_to seat (st.pages i)) j) (family_of st.history (OperatorNode (setup.number j)))
taken_traced setup st seat i j h =
    elim (same_or j i (j == i) refl) [
      | inl e ↦ subst (λ (x : Option PageState). PathAt (core_at setup j) x (family_of st.history (OperatorNode (setup.number j)))) (sym (ap (placed st.pages i (out_to seat (st.pages i))) e ∙ (placed_here st.pages i (out_to seat (st.pages i)) ∙ ap (λ (k : ℕ). out_to seat (st.pages k)) (sym e))))
          (out_path (core_at setup j) (st.pages j) (family_of st.history (OperatorNode (setup.number j))) seat h)
      | inr n ↦ subst (λ (x : Option PageState). PathAt (core_at setup j) x (family_of st.history (OperatorNode (setup.number j)))) (sym (placed_other st.pages i (out_to seat (st.pages i)) j n)) h
    ]

pub entry_traced : {S : Type 0} (setup : Setup S) → Apart setup → (st : State S) (e : Entry) → IsTraced setup st → IsTraced setup (after setup st e)
entry_traced setup apart st (Take seat leaf) h = record { pages = λ j. taken_traced setup st seat leaf j (h.pages j); nobody = h.nobody; inputs = h.inputs; outputs = h.outputs }
entry_traced setup apart st (Give seat leaf) h = given_traced setup apart st leaf (st.pages leaf) refl h
entry_traced {S = S} setup apart st (Net seat) h =
    let x : State S = ready setup st in
    let r : IsTraced setup x = ready_traced setup st (is_configured setup st) h in
    record { pages = λ j. net_path (core_at setup j) (x.pages j) (family_of x.history (OperatorNode (setup.number j))) (r.pages j); nobody = r.nobody; inputs = r.inputs; outputs = r.outputs }

pub start_path : (c : Option Core) → PathAt c (start_page c) []
start_path None = (refl, refl)
start_path (Some c) = (_, refl, leads_here next c)
