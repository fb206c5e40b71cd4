-- What is found among kept images, and what changes of the map make of them.
use Rattle.std.proofs.Common.{◌≡◌, Bool, true, false, true≢false, cond, not, ◌&&◌, ◌||◌, List, [], ◌∷◌, ◌++◌, map, Option, None, Some, is_some, refl, sym, ap, ◌∙◌, if◌then◌else◌}
use Rattle.std.specs.Prelude.{Result, Ok, Err, OnOk}
use Rattle.std.specs.List.{list_any}
use Rattle.std.specs.Map.{lookup}
use Rattle.std.proofs.lemmas.List.{map-append}
use Rattle.std.proofs.lemmas.Cmp.{nat_list_eq_equiv}
use Rattle.indexmap.specs.IndexMap.{insert_entry}
use Rattle.indexmap.specs.IndexSet.{insert_key}
use Rattle.indexmap.proofs.MapLemmas.{absent_from_lookup, insert_entry-absent}
use Rattle.pld_base.specs.declared.event.Kind.{Kind}
use Rattle.pld_base.specs.declared.event.Kind.TheVariants.{Soft, Hard}
use Rattle.image_form.specs.Spelling.{Form}
use Rattle.build_cache.specs.declared.key.Key.{Key}
use Rattle.build_cache.specs.declared.key.Stored.{Stored}
use Rattle.build_cache.specs.Pairs.{Pair, Kept, same_kind, same_pair, image_under, is_among, kept_pairs}
use Rattle.build_cache.specs.Keys.{asked, stored, one_pair}
use Rattle.build_cache.specs.Entries.{kept}

abbrev Entries : Type 0
Entries = List (Stored × Form)

abbrev same_stored : Stored → Stored → Bool
same_stored a b = same_pair (stored a) (stored b)

-- the image under a pair
pub under : (p : Pair) (es : Entries) → lookup (λ s. same_pair p (stored s)) es ≡ image_under p (kept es)
under p [] = refl
under p (e ∷ es) = ap (λ o. cond (same_pair p (stored e.0)) (Some e.1) o) (under p es)

some_or : {V : Type 0} (b : Bool) (v : V) (o : Option V) → is_some (cond b (Some v) o) ≡ (b || is_some o)
some_or true v o = refl
some_or false v o = refl

-- a pair is there
pub there : (p : Pair) (es : Entries) → is_some (lookup (λ s. same_pair p (stored s)) es) ≡ is_among p (kept_pairs (kept es))
there p [] = refl
there p (e ∷ es) = some_or (same_pair p (stored e.0)) e.1 (lookup (λ s. same_pair p (stored s)) es) ∙ ap (λ b. same_pair p (stored e.0) || b) (there p es)

-- a pair that isn't kept goes last
pub put_last : (k : Stored) (v : Form) (es fs : Entries) → image_under (stored k) (kept es) ≡ None → fs ≡ insert_entry same_stored es k v → kept fs ≡ kept es ++ (stored k, v) ∷ []
put_last k v es fs new is =
    ap kept (is ∙ insert_entry-absent same_stored k v es (absent_from_lookup (same_stored k) es (under (stored k) es ∙ new)))
    ∙ map-append (λ e. (stored e.0, e.1)) es ((k, v) ∷ [])

none_first : {V : Type 0} (b : Bool) (v : V) (o : Option V) → cond b (Some v) o ≡ None → (b ≡ false) × (o ≡ None)
none_first true v o e = absurd (true≢false (ap is_some e))
none_first false v o e = (refl, e)

kind_itself : (k : Kind) → same_kind k k ≡ true
kind_itself Soft = refl
kind_itself Hard = refl

pub same_itself : (p : Pair) → same_pair p p ≡ true
same_itself p = λ i. kind_itself p.kind i && nat_list_eq_equiv.refl p.text i

-- the last one is found
pub found_last : (p : Pair) (v : Form) (xs : Kept) → image_under p xs ≡ None → image_under p (xs ++ (p, v) ∷ []) ≡ Some v
found_last p v [] new = ap (λ b. cond b (Some v) None) (same_itself p)
found_last p v (x ∷ xs) new =
    let h = none_first (same_pair p x.0) x.1 (image_under p xs) new in
    ap (λ b. cond b (Some x.1) (image_under p (xs ++ (p, v) ∷ []))) h.0 ∙ found_last p v xs h.1

turned : (p q : Pair) (b : Bool) → same_pair q p ≡ b → same_pair p q ≡ false → b ≡ false
turned p q false e h = refl
turned p q true e h = absurd (true≢false (sym (same_itself p) ∙ ap (same_pair p) (sym (one_pair q p e)) ∙ h))

-- and others as before
pub others_stay : (p q : Pair) (v : Form) (xs : Kept) → same_pair p q ≡ false → image_under q (xs ++ (p, v) ∷ []) ≡ image_under q xs
others_stay p q v [] h = ap (λ b. cond b (Some v) None) (turned p q (same_pair q p) refl h)
others_stay p q v (x ∷ xs) h = ap (λ o. cond (same_pair q x.0) (Some x.1) o) (others_stay p q v xs h)

-- a key among keys
pub among_keys : (k : Key) (ks : List Key) → list_any (λ x. same_pair (asked k) (asked x)) ks ≡ is_among (asked k) (map asked ks)
among_keys k [] = refl
among_keys k (x ∷ xs) = ap (λ b. same_pair (asked k) (asked x) || b) (among_keys k xs)

noted_by : (k : Key) (ks : List Key) (b new : Bool) → new ≡ not b → map asked (if b then ks else ks ++ k ∷ []) ≡ (if new then map asked ks ++ asked k ∷ [] else map asked ks)
noted_by k ks true new e = sym (ap (λ n. if n then map asked ks ++ asked k ∷ [] else map asked ks) e)
noted_by k ks false new e = map-append asked ks (k ∷ []) ∙ sym (ap (λ n. if n then map asked ks ++ asked k ∷ [] else map asked ks) e)

-- the keys after one was noted
pub noted : (k : Key) (ks ls : List Key) (new : Bool) → new ≡ not (list_any (λ x. same_pair (asked k) (asked x)) ks) → ls ≡ insert_key (λ a b. same_pair (asked a) (asked b)) ks k
    → map asked ls ≡ (if new then map asked ks ++ asked k ∷ [] else map asked ks)
noted k ks ls new e is = ap (map asked) is ∙ noted_by k ks (list_any (λ x. same_pair (asked k) (asked x)) ks) new e

-- what holds after a success, by what is known of it
pub on_ok : {A E : Type 0} {P Q : Type 0} (r : Result A E) → (P → Q) → OnOk r P → OnOk r Q
on_ok (Ok x) f h = f h
on_ok (Err e) f h = tt
