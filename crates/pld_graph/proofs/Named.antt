-- What is found in a map from names, and what changes of it make of the list of its operators.
use Rattle.std.proofs.Common.{◌≡◌, ℕ, zero, suc, ◌+◌, Bool, true, false, cond, List, [], ◌∷◌, ◌++◌, map, take, drop, Option, None, Some, refl, sym, ap, ◌∙◌, slice_get, position}
use Rattle.std.specs.Prelude.{bytes_eq, slice_set, remove, ◌||◌}
use Rattle.std.specs.List.{find, list_any, position_from}
use Rattle.std.specs.Option.{option_map}
use Rattle.std.specs.Map.{keys_of, values_of, lookup}
use Rattle.std.proofs.lemmas.Cmp.{nat_list_eq_equiv}
use Rattle.std.proofs.lemmas.Slice.Eq.{bytes_eq-Decides}
use Rattle.std.proofs.lemmas.Option.{none-some, same_Some}
use Rattle.std.proofs.lemmas.List.{map-append}
use Rattle.std.proofs.lemmas.Iterator.Adapters.{position_from-zero}
use Rattle.indexmap.specs.IndexMap.{insert_entry, set_value_at}
use Rattle.indexmap.proofs.MapLemmas.{Missing-position, insert_entry-absent}
use Rattle.pld_graph.specs.declared.parts.OperatorEntry.{OperatorEntry}
use Rattle.pld_graph.specs.declared.operators.Counts.{Counts}
use Rattle.pld_graph.specs.Design.{place_from, is_called, operator_at}
use Rattle.pld_graph.specs.Entries.{entry_of, listed}

abbrev Entries : Type 0
Entries = List (List ℕ × Counts)

placed_from : (n : ℕ) (name : List ℕ) (es : Entries) → place_from n name (listed es) ≡ position_from (bytes_eq name) n (keys_of es)
placed_from n name [] = refl
placed_from n name (e ∷ es) = λ i. cond (nat_list_eq_equiv.symm e.0 name i) (Some n) (placed_from (n + 1) name es i)

-- a name's place
pub placed : (name : List ℕ) (es : Entries) → position (bytes_eq name) (keys_of es) ≡ place_from 0 name (listed es)
placed name es = position_from-zero (bytes_eq name) (keys_of es) ∙ sym (placed_from 0 name es)

found_by : (name : List ℕ) (e : List ℕ × Counts) (b : Bool) (x : Option OperatorEntry) (y : Option Counts) → bytes_eq name e.0 ≡ b → x ≡ option_map (λ v. entry_of (name, v)) y
    → cond b (Some (entry_of e)) x ≡ option_map (λ v. entry_of (name, v)) (cond b (Some e.1) y)
found_by name e true x y same h = ap (λ n. Some (entry_of (n, e.1))) (sym ((bytes_eq-Decides name e.0).0 same))
found_by name e false x y same h = h

-- the operator of a name
pub found : (name : List ℕ) (es : Entries) → find (is_called name) (listed es) ≡ option_map (λ v. entry_of (name, v)) (lookup (bytes_eq name) es)
found name [] = refl
found name (e ∷ es) =
    ap (λ b. cond b (Some (entry_of e)) (find (is_called name) (listed es))) (nat_list_eq_equiv.symm e.0 name)
    ∙ found_by name e (bytes_eq name e.0) _ _ refl (found name es)

-- a new name goes last
pub pushed : (name : List ℕ) (v : Counts) (es fs : Entries) → place_from 0 name (listed es) ≡ None → fs ≡ insert_entry bytes_eq es name v → listed fs ≡ listed es ++ entry_of (name, v) ∷ []
pushed name v es fs new is =
    let missing = Missing-position (bytes_eq name) es (placed name es ∙ new) in
    ap listed (is ∙ insert_entry-absent bytes_eq name v es missing.absent) ∙ map-append entry_of es ((name, v) ∷ [])

-- other counts at a place
pub set_listed : (f : Counts → Counts) (g : OperatorEntry → OperatorEntry) → ((e : List ℕ × Counts) → entry_of (e.0, f e.1) ≡ g (entry_of e))
    → (es : Entries) (k : ℕ) (x : Counts) → slice_get (values_of es) k ≡ Some x → listed (set_value_at es k (f x)) ≡ slice_set (listed es) k (g (operator_at (listed es) k))
set_listed f g alike [] k x e = absurd (none-some x e)
set_listed f g alike (d ∷ es) zero x e = ap (λ o. o ∷ listed es) (ap (λ v. entry_of (d.0, f v)) (sym (same_Some d.1 x e)) ∙ alike d)
set_listed f g alike (d ∷ es) (suc k) x e = ap (λ os. entry_of d ∷ os) (set_listed f g alike es k x e)

map-take : {X Y : Type 0} (f : X → Y) (k : ℕ) (xs : List X) → map f (take k xs) ≡ take k (map f xs)
map-take f zero xs = refl
map-take f (suc k) [] = refl
map-take f (suc k) (x ∷ xs) = ap (λ ys. f x ∷ ys) (map-take f k xs)

map-drop : {X Y : Type 0} (f : X → Y) (k : ℕ) (xs : List X) → map f (drop k xs) ≡ drop k (map f xs)
map-drop f zero xs = refl
map-drop f (suc k) [] = refl
map-drop f (suc k) (x ∷ xs) = map-drop f k xs

pub map-remove : {X Y : Type 0} (f : X → Y) (xs : List X) (k : ℕ) → map f (remove xs k) ≡ remove (map f xs) k
map-remove f xs k = map-append f (take k xs) (drop (suc k) xs) ∙ (λ i. map-take f k xs i ++ map-drop f (suc k) xs i)

pub got : (es : Entries) (k : ℕ) (e : List ℕ × Counts) → slice_get es k ≡ Some e → entry_of e ≡ operator_at (listed es) k
got [] k e g = absurd (none-some e g)
got (d ∷ es) zero e g = ap entry_of (sym (same_Some d e g))
got (d ∷ es) (suc k) e g = got es k e g

pub any_listed : (test : OperatorEntry → Bool) (es : Entries) → list_any (λ e. test (entry_of e)) es ≡ list_any test (listed es)
any_listed test [] = refl
any_listed test (e ∷ es) = ap (λ b. test (entry_of e) || b) (any_listed test es)

pub any_value : (test : Counts → Bool) (es : Entries) → list_any test (values_of es) ≡ list_any (λ e. test e.1) es
any_value test [] = refl
any_value test (e ∷ es) = ap (λ b. test e.1 || b) (any_value test es)
