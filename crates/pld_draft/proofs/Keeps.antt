-- Each operator keeps its source, and its source's ports; each input keeps its feed.
use Rattle.std.proofs.Common.{◌≡◌, ℕ, zero, suc, ◌+◌, ◌-◌, ◌<◌, ◌≤◌, Bool, true, false, true≢false, not, List, length, take, arith, [], ◌∷◌, ◌++◌, map, filter, Option, Some, None, unwrap_or, Result, Ok, Err, refl, sym, ap, subst, ◌∙◌, if◌then◌else◌, length-append}
use Rattle.std.specs.Prelude.{bytes_eq, slice_set, remove, MatchResult}
use Rattle.std.specs.List.{All, cons_option}
use Rattle.std.proofs.lemmas.List.{append-nil, map-append, map-set}
use Rattle.std.proofs.lemmas.List.Elements.{All-push, All-set, All-head, All-tail, All-cons, All-filter, filter_map-append}
use Rattle.pld_base.specs.declared.event.End.{End}
use Rattle.pld_base.specs.declared.memory.Refused.{Refused}
use Rattle.pld_base.specs.declared.memory.Refused.TheVariants as refused
use Rattle.pld_graph.specs.declared.parts.Channel.{Channel}
use Rattle.pld_graph.specs.declared.parts.Cut.{Cut}
use Rattle.pld_graph.specs.declared.parts.FromEnd.TheVariants as from_end
use Rattle.pld_graph.specs.declared.parts.ToEnd.TheVariants as to_end
use Rattle.pld_graph.specs.declared.parts.GraphFault.{GraphFault}
use Rattle.pld_graph.specs.declared.parts.OperatorEntry.{OperatorEntry}
use Rattle.pld_graph.specs.Parts.{from_input, stands_at, is_cut, is_of}
use Rattle.pld_graph.specs.Design.{Design, inputs, is_input, operator_at, place_of}
use Rattle.pld_graph.specs.Sound.{IsSound}
use Rattle.pld_graph.specs.Edits.{unless, at_place, replaced_at, with_operator, with_channel, add_refusal, added, replaced, removed, connected, with_input, with_output, disconnected, pinned, unpinned, Edits, Tries}
use Rattle.pld_draft.specs.declared.parts.Source.{Source}
use Rattle.pld_draft.specs.declared.parts.Feed.{Feed}
use Rattle.pld_draft.specs.Draft.{IsKept, IsRead, Ports, entry_ports, source_ports, feed_name, words_of}
use Rattle.pld_draft.specs.Edits.{standing, place_from, feed_at, with_words_at, with_words}
use Rattle.pld_draft.proofs.Inputs.{feeds_left}

many : {X Y : Type 0} (f : X → Y) (xs : List X) → length (map f xs) ≡ length xs
many f [] = refl
many f (x ∷ xs) = ap suc (many f xs)

map-remove : {X Y : Type 0} (f : X → Y) (xs : List X) (k : ℕ) → map f (remove xs k) ≡ remove (map f xs) k
map-remove f [] zero = refl
map-remove f [] (suc k) = refl
map-remove f (x ∷ xs) zero = refl
map-remove f (x ∷ xs) (suc k) = ap (λ l. f x ∷ l) (map-remove f xs k)

remove_read : (ss : List Source) (k : ℕ) → All IsRead ss → All IsRead (remove ss k)
remove_read [] zero h = h
remove_read [] (suc k) h = h
remove_read (s ∷ ss) zero h = All-tail IsRead s ss h
remove_read (s ∷ ss) (suc k) h = All-cons IsRead s (remove ss k) (All-head IsRead s ss h) (remove_read ss k (All-tail IsRead s ss h))

abbrev ports : Design → List Ports
ports d = map entry_ports d.operators

-- what stands in an answer
abbrev known : Design → Result Design GraphFault → Design
known d (Ok e) = e
known d (Err f) = d

abbrev is_known : Result Design GraphFault → Bool
is_known (Ok e) = true
is_known (Err f) = false

-- an edit that isn't refused makes the design that it would make
made : (o : Option GraphFault) (d new : Design) → unless o d ≡ Ok new → d ≡ new
made None d new e = ap (known d) e
made (Some f) d new e = absurd (true≢false (sym (ap is_known e)))

-- a part of the design stays, if it does in the design that the edit would make
tried : {X Y : Type 0} (part : Design → Y) (r : Result X (Refused GraphFault)) (o : Option GraphFault) (d old new : Design) → Tries r (unless o d) old new → part d ≡ part old → part new ≡ part old
tried part (Ok x) o d old new h same = ap part (sym (made o d new h)) ∙ same
tried part (Err (refused.Fault f)) o d old new h same = ap part h.1
tried part (Err refused.NoMemory) o d old new h same = ap part h.1

edited : {X Y : Type 0} (part : Design → Y) (r : Result X GraphFault) (o : Option GraphFault) (d old new : Design) → Edits r (unless o d) old new → part d ≡ part old → part new ≡ part old
edited part (Ok x) o d old new h same = ap part (sym (made o d new h)) ∙ same
edited part (Err f) o d old new h same = ap part h.1

-- an operator's pin makes no difference
pin_same : (os : List OperatorEntry) (k : ℕ) (pin : Option ℕ) → map entry_ports (slice_set os k (record (operator_at os k) { pin = pin })) ≡ map entry_ports os
pin_same [] k pin = refl
pin_same (o ∷ os) zero pin = refl
pin_same (o ∷ os) (suc k) pin = ap (λ rest. entry_ports o ∷ rest) (pin_same os k pin)

abbrev with_pin : Design → Option ℕ → ℕ → Design
with_pin d pin k = record d { operators = slice_set d.operators k (record (operator_at d.operators k) { pin = pin }) }

placed : {X Y : Type 0} (part : Design → Y) (r : Result X GraphFault) (place : Option ℕ) (o : ℕ → Option GraphFault) (pin : Option ℕ) (old new : Design)
    → Edits r (at_place place (λ k. unless (o k) (with_pin old pin k))) old new → ((k : ℕ) → part (with_pin old pin k) ≡ part old) → part new ≡ part old
placed part (Ok x) None o pin old new h same = absurd (true≢false (sym (ap is_known h)))
placed part (Err f) None o pin old new h same = ap part h.1
placed part r (Some k) o pin old new h same = edited part r (o k) (with_pin old pin k) old new h (same k)

abbrev names : Design → List (List ℕ)
names d = inputs d.channels

abbrev HasFewWords : Feed → Type 0
HasFewWords f = length f.words ≤ 65536

abbrev Kept : Design → List Source → List Feed → Type 0
Kept design sources feeds = IsKept (record { design = design; sources = sources; feeds = feeds })

keeps : (old new : Design) (sources : List Source) (feeds : List Feed) → ports new ≡ ports old → names new ≡ names old → Kept old sources feeds → Kept new sources feeds
keeps old new sources feeds same same_names h = record { ports = same ∙ h.ports; read = h.read; feeds = h.feeds ∙ sym same_names; few = h.few }

-- a channel from a port is no input
port_added : (c : Channel) (cs : List Channel) → from_input c.from ≡ None → inputs (cs ++ c ∷ []) ≡ inputs cs
port_added c cs e = filter_map-append (λ x. from_input x.from) cs (c ∷ []) ∙ ap (λ o. inputs cs ++ cons_option o []) e ∙ append-nil (inputs cs)

pub connect_kept : {X : Type 0} (r : Result X (Refused GraphFault)) (from to : End) (old new : Design) (sources : List Source) (feeds : List Feed) → Tries r (connected from to old) old new → Kept old sources feeds → Kept new sources feeds
connect_kept r from to old new sources feeds h k = keeps old new sources feeds (tried ports r _ _ old new h refl) (tried names r _ _ old new h (port_added _ old.channels refl)) k

pub output_kept : {X : Type 0} (r : Result X (Refused GraphFault)) (name : List ℕ) (from : End) (old new : Design) (sources : List Source) (feeds : List Feed) → Tries r (with_output from name old) old new → Kept old sources feeds → Kept new sources feeds
output_kept r name from old new sources feeds h k = keeps old new sources feeds (tried ports r _ _ old new h refl) (tried names r _ _ old new h (port_added _ old.channels refl)) k

pub pin_kept : {X : Type 0} (r : Result X GraphFault) (name : List ℕ) (leaf : ℕ) (old new : Design) (sources : List Source) (feeds : List Feed) → Edits r (pinned name leaf old) old new → Kept old sources feeds → Kept new sources feeds
pin_kept r name leaf old new sources feeds h k =
    keeps old new sources feeds (placed ports r (place_of name old) _ (Some leaf) old new h (λ j. pin_same old.operators j (Some leaf))) (placed names r (place_of name old) _ (Some leaf) old new h (λ j. refl)) k

pub unpin_kept : {X : Type 0} (r : Result X GraphFault) (name : List ℕ) (old new : Design) (sources : List Source) (feeds : List Feed) → Edits r (unpinned name old) old new → Kept old sources feeds → Kept new sources feeds
unpin_kept r name old new sources feeds h k =
    keeps old new sources feeds (placed ports r (place_of name old) (λ j. None) None old new h (λ j. pin_same old.operators j None)) (placed names r (place_of name old) (λ j. None) None old new h (λ j. refl)) k

-- an input more, and a feed without words behind the others
pub input_kept : (name : List ℕ) (to : End) (old new : Design) (f : Feed) (sources : List Source) (feeds feeds' : List Feed) → with_input name to old ≡ Ok new → feeds' ≡ feeds ++ f ∷ [] → f.name ≡ name → f.words ≡ [] → Kept old sources feeds → Kept new sources feeds'
input_kept name to old new f sources feeds feeds' is pushed e w h =
    let c : Channel = record { from = from_end.Input name; to = to_end.Port to } in
    let more : names (with_channel c old) ≡ names old ++ name ∷ [] = filter_map-append (λ x. from_input x.from) old.channels (c ∷ []) in
    subst (λ fs. Kept new sources fs) (sym pushed) (subst (λ d. Kept d sources (feeds ++ f ∷ [])) (made _ (with_channel c old) new is) (record {
      ports = h.ports;
      read = h.read;
      feeds = map-append feed_name feeds (f ∷ []) ∙ ap (λ n. map feed_name feeds ++ n ∷ []) e ∙ ap (λ ns. ns ++ name ∷ []) h.feeds ∙ sym more;
      few = All-push HasFewWords feeds f h.few (subst (λ ws. length ws ≤ 65536) (sym w) (omega arith));
    }))

-- channels fewer, and the feeds of the inputs that are left
pub disconnect_kept : (what : Cut) (old new : Design) (sources : List Source) (feeds feeds' : List Feed) → disconnected what old ≡ Ok new → feeds' ≡ standing new feeds → IsSound old → Kept old sources feeds → Kept new sources feeds'
disconnect_kept what old new sources feeds feeds' is stand sound h =
    let p : Channel → Bool = λ c. not (is_cut what c) in
    let less : Design = record old { channels = filter p old.channels } in
    subst (λ fs. Kept new sources fs) (sym stand) (subst (λ d. Kept d sources (standing d feeds)) (made _ less new is) (record {
      ports = h.ports;
      read = h.read;
      feeds = feeds_left p old feeds sound h.feeds;
      few = All-filter (λ f. is_input f.name less.channels) HasFewWords feeds h.few;
    }))

-- a source behind the others, for an operator behind the others
pub op_kept : (name : List ℕ) (ins outs : ℕ) (old new : Design) (s : Source) (sources sources' : List Source) (feeds : List Feed) → added name ins outs old ≡ Ok new → sources' ≡ sources ++ s ∷ [] → ins ≡ (source_ports s).ins → outs ≡ (source_ports s).outs → IsRead s → Kept old sources feeds → Kept new sources' feeds
op_kept name ins outs old new s sources sources' feeds is pushed e f read h =
    let o : OperatorEntry = record { name = name; ins = ins; outs = outs; pin = None } in
    let same : entry_ports o ≡ source_ports s = ap (λ i. record { ins = i; outs = outs }) e ∙ ap (λ i. record { ins = (source_ports s).ins; outs = i }) f in
    subst (λ ss. Kept new ss feeds) (sym pushed) (subst (λ d. Kept d (sources ++ s ∷ []) feeds) (made (add_refusal name old) (with_operator o old) new is) (record {
      ports = map-append entry_ports old.operators (o ∷ []) ∙ ap (λ p. map entry_ports old.operators ++ p ∷ []) same ∙ ap (λ ps. ps ++ source_ports s ∷ []) h.ports ∙ sym (map-append source_ports sources (s ∷ []));
      read = All-push IsRead sources s h.read read;
      feeds = h.feeds;
      few = h.few;
    }))

take_front : {X : Type 0} (xs : List X) (x : X) → take (length xs) (xs ++ x ∷ []) ≡ xs
take_front [] x = refl
take_front (y ∷ xs) x = ap (λ l. y ∷ l) (take_front xs x)

length_more : {X : Type 0} (xs : List X) (x : X) → length (xs ++ x ∷ []) ≡ suc (length xs)
length_more [] x = refl
length_more (y ∷ xs) x = ap suc (length_more xs x)

-- what was pushed is taken off again
pub popped : {X : Type 0} (xs vs ys : List X) (x : X) (n : ℕ) → vs ≡ xs ++ x ∷ [] → n ≡ length vs → ys ≡ take (n - 1) vs → ys ≡ xs
popped xs vs ys x n e l h =
    let m : n - 1 ≡ length xs = omega (arith, l, ap length e, length_more xs x) in
    h ∙ ap (λ k. take k vs) m ∙ ap (λ zs. take (length xs) zs) e ∙ take_front xs x

-- nothing has changed
pub undone_kept : (old new : Design) (sources sources' : List Source) (feeds : List Feed) → new ≡ old → sources' ≡ sources → Kept old sources feeds → Kept new sources' feeds
undone_kept old new sources sources' feeds d s h = subst (λ x. Kept x sources' feeds) (sym d) (subst (λ x. Kept old x feeds) (sym s) h)

-- another source in an operator's place
pub replace_kept : (name : List ℕ) (ins outs k : ℕ) (old new : Design) (s : Source) (sources : List Source) (feeds : List Feed)
    → replaced name ins outs old ≡ Ok new → place_of name old ≡ Some k → ins ≡ (source_ports s).ins → outs ≡ (source_ports s).outs → IsRead s → Kept old sources feeds → Kept new (slice_set sources k s) feeds
replace_kept name ins outs k old new s sources feeds is place e f read h =
    let o : OperatorEntry = record (operator_at old.operators k) { ins = ins; outs = outs } in
    let same : entry_ports o ≡ source_ports s = ap (λ i. record { ins = i; outs = outs }) e ∙ ap (λ i. record { ins = (source_ports s).ins; outs = i }) f in
    let there : replaced_at name ins outs old k ≡ Ok new = sym (ap (λ p. at_place p (replaced_at name ins outs old)) place) ∙ is in
    subst (λ d. Kept d (slice_set sources k s) feeds) (made _ (record old { operators = slice_set old.operators k o }) new there) (record {
      ports = map-set entry_ports old.operators k o ∙ ap (λ p. slice_set (map entry_ports old.operators) k p) same ∙ ap (λ ps. slice_set ps k (source_ports s)) h.ports ∙ sym (map-set source_ports sources k s);
      read = All-set IsRead sources k s read h.read;
      feeds = h.feeds;
      few = h.few;
    })

-- an operator and its source less, channels fewer, and the feeds of the inputs that are left
pub remove_kept : (name : List ℕ) (k : ℕ) (old new : Design) (sources sources' : List Source) (feeds feeds' : List Feed)
    → removed name old ≡ Ok new → place_of name old ≡ Some k → sources' ≡ remove sources k → feeds' ≡ standing new feeds → IsSound old → Kept old sources feeds → Kept new sources' feeds'
remove_kept name k old new sources sources' feeds feeds' is place less stand sound h =
    let p : Channel → Bool = λ c. not (stands_at (is_of name) c) in
    let rest : ℕ → Design = λ j. record old { operators = remove old.operators j; channels = filter p old.channels } in
    let there : at_place (Some k) (λ j. Ok (rest j)) ≡ Ok new = sym (ap (λ o. at_place o (λ j. Ok (rest j))) place) ∙ is in
    let d_is : rest k ≡ new = ap (known old) there in
    subst (λ fs. Kept new sources' fs) (sym stand) (subst (λ ss. Kept new ss (standing new feeds)) (sym less) (subst (λ d. Kept d (remove sources k) (standing d feeds)) d_is (record {
      ports = map-remove entry_ports old.operators k ∙ ap (λ ps. remove ps k) h.ports ∙ sym (map-remove source_ports sources k);
      read = remove_read sources k h.read;
      feeds = feeds_left p old feeds sound h.feeds;
      few = All-filter (λ f. is_input f.name (filter p old.channels)) HasFewWords feeds h.few;
    })))

-- there is a source at an operator's place
pub within : (k : ℕ) (d : Design) (sources : List Source) (feeds : List Feed) → k < length d.operators → Kept d sources feeds → k < length sources
within k d sources feeds l h = omega (arith, l, many entry_ports d.operators, ap length h.ports, many source_ports sources)

-- a feed keeps its name
name_same : (fs : List Feed) (k : ℕ) (ws : List ℕ) → map feed_name (slice_set fs k (record (feed_at fs k) { words = ws })) ≡ map feed_name fs
name_same [] k ws = refl
name_same (f ∷ fs) zero ws = refl
name_same (f ∷ fs) (suc k) ws = ap (λ rest. f.name ∷ rest) (name_same fs k ws)

abbrev is_there : Option ℕ → Bool
is_there None = false
is_there (Some k) = true

abbrev HasWordsAt : ℕ → List ℕ → List Feed → ℕ → Type 0
HasWordsAt n ws fs k = (j : ℕ) × (n + j ≡ k) × (ws ≡ (feed_at fs j).words)

found_one : (n k : ℕ) (f : Feed) (fs : List Feed) (ws : List ℕ) (o : Option ℕ) (b : Bool) → (o ≡ Some k → HasWordsAt (n + 1) ws fs k) → (if b then Some n else o) ≡ Some k → HasWordsAt n (if b then f.words else ws) (f ∷ fs) k
found_one n k f fs ws o true rest e =
    let is : n ≡ k = ap (λ x. unwrap_or x 0) e in
    (0, omega (arith, is), refl)
found_one n k f fs ws o false rest e = let r = rest e in (suc r.0, omega (arith, r.1), r.2)

found : (n k : ℕ) (name : List ℕ) (fs : List Feed) → place_from n name fs ≡ Some k → HasWordsAt n (words_of name fs) fs k
found n k name [] e = absurd (true≢false (sym (ap is_there e)))
found n k name (f ∷ fs) e = found_one n k f fs (words_of name fs) (place_from (n + 1) name fs) (bytes_eq f.name name) (found (n + 1) k name fs) e

-- the words of the feed at the place of its name
words_there : (k : ℕ) (name : List ℕ) (fs : List Feed) → place_from 0 name fs ≡ Some k → words_of name fs ≡ (feed_at fs k).words
words_there k name fs e =
    let r = found 0 k name fs e in
    let j : r.0 ≡ k = omega (arith, r.1) in
    subst (λ i. words_of name fs ≡ (feed_at fs i).words) j r.2

changed_at : (name : List ℕ) (change : List ℕ → List ℕ) (design : Design) (sources : List Source) (feeds : List Feed) (o : Option ℕ) → place_from 0 name feeds ≡ o → length (change (words_of name feeds)) ≤ 65536 → Kept design sources feeds → Kept design sources (with_words_at o change feeds)
changed_at name change design sources feeds None e few h = h
changed_at name change design sources feeds (Some k) e few h =
    let here : length (change (feed_at feeds k).words) ≤ 65536 = subst (λ ws. length (change ws) ≤ 65536) (words_there k name feeds e) few in
    record {
      ports = h.ports;
      read = h.read;
      feeds = name_same feeds k (change (feed_at feeds k).words) ∙ h.feeds;
      few = All-set HasFewWords feeds k (record (feed_at feeds k) { words = change (feed_at feeds k).words }) here h.few;
    }

-- the words of one input are changed
pub words_kept : (name : List ℕ) (change : List ℕ → List ℕ) (design : Design) (sources : List Source) (feeds feeds' : List Feed) → feeds' ≡ with_words name change feeds → length (change (words_of name feeds)) ≤ 65536 → Kept design sources feeds → Kept design sources feeds'
words_kept name change design sources feeds feeds' e few h = subst (λ fs. Kept design sources fs) (sym e) (changed_at name change design sources feeds (place_from 0 name feeds) refl few h)

-- words were appended, if there was memory
pub feed_kept : {X E : Type 0} (r : Result X E) (name words : List ℕ) (design : Design) (sources : List Source) (feeds feeds' : List Feed)
    → MatchResult r (λ x. feeds' ≡ with_words name (λ old. old ++ words) feeds) (λ e. feeds' ≡ feeds) → length (words_of name feeds) + length words ≤ 65536 → Kept design sources feeds → Kept design sources feeds'
feed_kept (Ok x) name words design sources feeds feeds' h few k = words_kept name (λ old. old ++ words) design sources feeds feeds' h (omega (arith, few, length-append (words_of name feeds) words)) k
feed_kept (Err e) name words design sources feeds feeds' h few k = subst (λ fs. Kept design sources fs) (sym h) k
