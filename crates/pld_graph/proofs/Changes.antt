-- The graph's fields, when an edit has changed them, are those of a sound design.
use Rattle.std.proofs.Common.{◌≡◌, ℕ, ◌<◌, Bool, true, false, true≢false, not, List, [], ◌∷◌, ◌++◌, length, refl, sym, ◌∙◌, Some, None, subst, filter}
use Rattle.std.specs.Prelude.{bytes_eq, nat_le, slice_set, remove, Result, Ok, Err, MatchResult}
use Rattle.std.specs.List.{list_any}
use Rattle.std.proofs.lemmas.Slice.Eq.{bytes_eq-Decides}
use Rattle.pld_base.specs.declared.event.End.{End}
use Rattle.pld_graph.specs.declared.parts.Channel.{Channel}
use Rattle.pld_graph.specs.declared.parts.OperatorEntry.{OperatorEntry}
use Rattle.pld_graph.specs.declared.parts.GraphFault.TheVariants.{NameTaken, TooMany}
use Rattle.pld_graph.specs.Parts.{stands_at, is_of, is_lost}
use Rattle.pld_graph.specs.Design.{Design, is_named, is_linked, is_called, place_from, operator_at}
use Rattle.pld_graph.specs.Edits.{when, first_fault, is_leaf, is_rival}
use Rattle.pld_graph.specs.Sound.{IsSound}
use Rattle.pld_graph.proofs.Sounds.{add_sound, replace_sound, unpin_sound, pin_sound, cut_sound, drop_sound, found_here, linked_fails, none_left}
use Rattle.pld_graph.proofs.Refusals.{when_none, first_none}

-- an operator more, if there was memory
pub add_kept : {E : Type 0} (d v : Design) (name : List ℕ) (ins outs : ℕ) (os : List OperatorEntry) (r : Result (Unit {0}) E) → d ≡ v → first_fault (when (is_named name v) NameTaken ∷ when (nat_le 63 (length v.operators)) TooMany ∷ []) ≡ None
    → MatchResult r (λ _. os ≡ d.operators ++ (record { name = name; ins = ins; outs = outs; pin = None }) ∷ []) (λ _. os ≡ d.operators) → IsSound d → IsSound (record d { operators = os })
add_kept d v name ins outs os (Err e) same free h s = subst (λ x. IsSound (record d { operators = x })) (sym h) s
add_kept d v name ins outs os (Ok u) same free h s =
    let here = subst (λ t. first_fault (when (is_named name t) NameTaken ∷ when (nat_le 63 (length t.operators)) TooMany ∷ []) ≡ None) (sym same) free in
    let a = first_none (when (is_named name d) NameTaken) (when (nat_le 63 (length d.operators)) TooMany ∷ []) here in
    let b = first_none (when (nat_le 63 (length d.operators)) TooMany) [] a.1 in
    subst (λ x. IsSound (record d { operators = x })) (sym h) (add_sound d name ins outs (when_none (nat_le 63 (length d.operators)) TooMany b.0) (when_none (is_named name d) NameTaken a.0) s)

-- a port's operator isn't the one that was found by another name
other_name : (a name op : List ℕ) (b : Bool) → bytes_eq a op ≡ b → bytes_eq a name ≡ true → bytes_eq op name ≡ false → b ≡ false
other_name a name op false h here other = refl
other_name a name op true h here other = absurd (true≢false (sym (subst (λ n. bytes_eq n name ≡ true) ((bytes_eq-Decides a op).0 h) here) ∙ other))

-- an operator less, and channels fewer
pub remove_kept : (d : Design) (name : List ℕ) (k : ℕ) (os : List OperatorEntry) (cs : List Channel) → k < length d.operators → Some k ≡ place_from 0 name d.operators → os ≡ remove d.operators k → cs ≡ filter (λ c. not (stands_at (is_of name) c)) d.channels → IsSound d → IsSound (record d { operators = os; channels = cs })
remove_kept d name k os cs within place e f s =
    let p : Channel → Bool = λ c. not (stands_at (is_of name) c) in
    let found = found_here k name d.operators (sym place) in
    let others : (z : End) → is_linked (filter p d.channels) z ≡ true → is_called z.op (operator_at d.operators k) ≡ false = λ z h.
    other_name (operator_at d.operators k).name name z.op _ refl found (linked_fails (is_of name) (filter p d.channels) z h (none_left (stands_at (is_of name)) d.channels)) in
    let less : IsSound (record d { operators = remove d.operators k; channels = filter p d.channels }) = drop_sound (record d { channels = filter p d.channels }) k within others (cut_sound d p s) in
    subst (λ x. IsSound (record d { operators = x; channels = cs })) (sym e) (subst (λ x. IsSound (record d { operators = remove d.operators k; channels = x })) (sym f) less)

pub cut_kept : (d : Design) (p : Channel → Bool) (cs : List Channel) → cs ≡ filter p d.channels → IsSound d → IsSound (record d { channels = cs })
cut_kept d p cs f s = subst (λ x. IsSound (record d { channels = x })) (sym f) (cut_sound d p s)

-- other counts of an operator
pub replace_kept : (d : Design) (name : List ℕ) (k ins outs : ℕ) (os : List OperatorEntry) → k < length d.operators → Some k ≡ place_from 0 name d.operators → list_any (stands_at (is_lost name ins outs)) d.channels ≡ false
    → os ≡ slice_set d.operators k (record (operator_at d.operators k) { ins = ins; outs = outs }) → IsSound d → IsSound (record d { operators = os })
replace_kept d name k ins outs os within place lost e s =
    subst (λ x. IsSound (record d { operators = x })) (sym e) (replace_sound d name k ins outs within (found_here k name d.operators (sym place)) lost s)

pub unpin_kept : (d : Design) (k : ℕ) (os : List OperatorEntry) → k < length d.operators → os ≡ slice_set d.operators k (record (operator_at d.operators k) { pin = None }) → IsSound d → IsSound (record d { operators = os })
unpin_kept d k os within e s = subst (λ x. IsSound (record d { operators = x })) (sym e) (unpin_sound d k within s)

pub pin_kept : (d : Design) (name : List ℕ) (k leaf : ℕ) (os : List OperatorEntry) → k < length d.operators → Some k ≡ place_from 0 name d.operators → is_leaf d.depth leaf ≡ true → list_any (is_rival name leaf) d.operators ≡ false
    → os ≡ slice_set d.operators k (record (operator_at d.operators k) { pin = Some leaf }) → IsSound d → IsSound (record d { operators = os })
pin_kept d name k leaf os within place is rivals e s =
    subst (λ x. IsSound (record d { operators = x })) (sym e) (pin_sound d name k leaf within (found_here k name d.operators (sym place)) is rivals s)
