-- Sources of one pair of kind and text have one image, so a kept image is that of each source of its pair.
use Rattle.std.proofs.Common.{◌≡◌, ℕ, zero, suc, ◌<◌, Bool, true, false, true≢false, cond, ◌||◌, List, [], ◌∷◌, ◌++◌, length, map, All, Bor, Option, None, Some, is_some, refl, sym, ap, ◌∙◌, subst, arith}
use Rattle.std.specs.Prelude.{slice_index_or, option_copied, IsSome, Result, Ok, Err, OnOk, OnErr}
use Rattle.std.specs.List.{AllByRecursion}
use Rattle.std.proofs.lemmas.Option.{none-some, same_Some}
use Rattle.std.proofs.lemmas.List.{map-append, length-map}
use Rattle.std.proofs.lemmas.List.Folds.{list_any-append}
use Rattle.std.proofs.lemmas.List.Elements.{All-from_recursion, All-weaker}
use Rattle.image_form.specs.Spelling.{Form}
use Rattle.pld_base.specs.declared.event.Kind.{Kind}
use Rattle.pld_ast.specs.declared.tree.Operator.{Operator}
use Rattle.pld_source.specs.Reading.{Reading, Faulty, Reads, reading}
use Rattle.par_build.specs.Jobs.{image_by}
use Rattle.build_cache.specs.Pairs.{Pair, Kept, same_pair, image_under, is_among, kept_pairs, pair_at, misses, missed, IsFirstMiss}
use Rattle.build_cache.specs.Keys.{one_pair}
use Rattle.build_cache.proofs.Kepts.{same_itself}
use Rattle.pld_draft.specs.declared.parts.Source.{Source}
use Rattle.pld_draft.specs.Draft.{IsRead}
use Rattle.pld_build.specs.Images.{image_of, pair_of, KeepsImages}

abbrev operator_in : Operator → Reading → Operator
operator_in o (Faulty f) = o
operator_in o (Reads p) = p

kind_in : Pair → Kind
kind_in p = p.kind

text_in : Pair → List ℕ
text_in p = p.text

-- one pair has one image
pub one_image : (a b : Source) → pair_of a ≡ pair_of b → IsRead a → IsRead b → image_of a ≡ image_of b
unfolding image_of kind_in text_in
one_image a b e p q =
    let kinds : a.kind ≡ b.kind = ap kind_in e in
    let texts : a.text ≡ b.text = ap text_in e in
    let operators : a.operator ≡ b.operator = ap (operator_in a.operator) (sym p ∙ ap reading texts ∙ q) in
    ap (λ k. image_by k a.operator) kinds ∙ ap (image_by b.kind) operators

keeps_by : (s : Source) (image : Form) (old new : Kept) → KeepsImages old → IsRead s → image ≡ image_of s → image_under (pair_of s) new ≡ Some image
    → ((p : Pair) → same_pair (pair_of s) p ≡ false → image_under p new ≡ image_under p old)
    → (t : Source) → IsRead t → (f : Form) → image_under (pair_of t) new ≡ Some f → (b : Bool) → same_pair (pair_of s) (pair_of t) ≡ b → f ≡ image_of t
keeps_by s image old new keeps read is found others t this f e true h =
    let one : pair_of s ≡ pair_of t = one_pair (pair_of s) (pair_of t) h in
    same_Some f image (sym e ∙ ap (λ p. image_under p new) (sym one) ∙ found) ∙ is ∙ one_image s t one read this
keeps_by s image old new keeps read is found others t this f e false h = keeps t this f (sym (others (pair_of t) h) ∙ e)

-- one image more is kept
pub keeps_more : (s : Source) (image : Form) (old new : Kept) → KeepsImages old → IsRead s → image ≡ image_of s → image_under (pair_of s) new ≡ Some image
    → ((p : Pair) → same_pair (pair_of s) p ≡ false → image_under p new ≡ image_under p old) → KeepsImages new
keeps_more s image old new keeps read is found others = λ t this f e. keeps_by s image old new keeps read is found others t this f e (same_pair (pair_of s) (pair_of t)) refl

-- where nothing is kept
pub keeps_none : KeepsImages []
keeps_none = λ s read f e. absurd (none-some f e)

some_or : {V : Type 0} (b : Bool) (v : V) (o : Option V) → is_some (cond b (Some v) o) ≡ (b || is_some o)
some_or true v o = refl
some_or false v o = refl

-- a pair that is there has an image
pub there : (p : Pair) (kept : Kept) → is_some (image_under p kept) ≡ is_among p (kept_pairs kept)
there p [] = refl
there p (e ∷ es) = some_or (same_pair p e.0) e.1 (image_under p es) ∙ ap (λ b. same_pair p e.0 || b) (there p es)

none_of : {V : Type 0} (o : Option V) → is_some o ≡ false → o ≡ None
none_of None e = refl
none_of (Some v) e = absurd (true≢false e)

-- and another one has none
pub not_there : (p : Pair) (kept : Kept) → is_among p (kept_pairs kept) ≡ false → image_under p kept ≡ None
not_there p kept e = none_of (image_under p kept) (there p kept ∙ e)

some_copied : (r : Option (Bor Form)) → is_some (option_copied r) ≡ true → IsSome r
some_copied None e = absurd (true≢false (sym e))
some_copied (Some x) e = refl

-- a source's kind with a text, which will be the source's
abbrev pub pair_with : Source → List ℕ → Pair
pair_with s text = record { kind = s.kind; text = text }

-- a source's image is found
pub is_found : (s : Source) (text : List ℕ) (kept : Kept) (pairs : List Pair) (r : Option (Bor Form)) → text ≡ s.text → kept_pairs kept ≡ pairs → option_copied r ≡ image_under (pair_with s text) kept
    → is_among (pair_of s) pairs ≡ true → IsSome r
is_found s text kept pairs r same view e h =
    some_copied r (ap is_some e ∙ there (pair_with s text) kept ∙ ap (is_among (pair_with s text)) view ∙ ap (λ t. is_among (pair_with s t) pairs) same ∙ h)

-- and is its own
pub found_image : (s : Source) (text : List ℕ) (kept : Kept) (r : Option (Bor Form)) (x : Bor Form) → text ≡ s.text → KeepsImages kept → IsRead s → option_copied r ≡ image_under (pair_with s text) kept → r ≡ Some x
    → x.now ≡ image_of s
found_image s text kept r x same keeps read e is = keeps s read x.now (ap (λ t. image_under (pair_with s t) kept) (sym same) ∙ sym e ∙ ap option_copied is)

-- an image may be put under a pair that isn't there
pub may_put : (s : Source) (text : List ℕ) (kept : Kept) (pairs : List Pair) → text ≡ s.text → kept_pairs kept ≡ pairs → is_among (pair_of s) pairs ≡ false → image_under (pair_with s text) kept ≡ None
may_put s text kept pairs same view h = not_there (pair_with s text) kept (ap (is_among (pair_with s text)) view ∙ ap (λ t. is_among (pair_with s t) pairs) same ∙ h)

-- then images are kept as before
pub put_keeps : {A E : Type 0} (r : Result A E) (s : Source) (text : List ℕ) (image : Form) (old new : Kept) → text ≡ s.text → KeepsImages old → IsRead s → image ≡ image_of s
    → OnOk r (image_under (pair_with s text) new ≡ Some image) → OnOk r ((p : Pair) → same_pair (pair_with s text) p ≡ false → image_under p new ≡ image_under p old) → OnErr r (new ≡ old) → KeepsImages new
put_keeps (Ok x) s text image old new same keeps read is found others stays =
    keeps_more s image old new keeps read is (ap (λ t. image_under (pair_with s t) new) (sym same) ∙ found) (λ p h. others p (ap (λ t. same_pair (pair_with s t) p) same ∙ h))
put_keeps (Err e) s text image old new same keeps read is found others stays = subst KeepsImages (sym stays) keeps

-- and the pair goes last
pub put_last : {A E : Type 0} (r : Result A E) (s : Source) (text : List ℕ) (image : Form) (old new : Kept) (pairs : List Pair) → text ≡ s.text → kept_pairs old ≡ pairs
    → OnOk r (new ≡ old ++ (pair_with s text, image) ∷ []) → OnOk r (kept_pairs new ≡ pairs ++ pair_of s ∷ [])
put_last (Ok x) s text image old new pairs same view e =
    ap kept_pairs e ∙ map-append (λ p. p.0) old ((pair_with s text, image) ∷ []) ∙ ap (λ ps. ps ++ pair_with s text ∷ []) view ∙ ap (λ t. pairs ++ pair_with s t ∷ []) same
put_last (Err e) s text image old new pairs same view is = tt

or_true : (a b : Bool) → b ≡ true → (a || b) ≡ true
or_true true b e = refl
or_true false b e = e

among : (ss : List Source) (k : ℕ) (d : Source) → k < length ss → is_among (pair_of (slice_index_or ss k d)) (map pair_of ss) ≡ true
among [] k d l = absurd (omega (arith, l))
among (s ∷ ss) zero d l = ap (λ b. b || is_among (pair_of s) (map pair_of ss)) (same_itself (pair_of s))
among (s ∷ ss) (suc k) d l = or_true (same_pair (pair_of (slice_index_or ss k d)) (pair_of s)) _ (among ss k d (omega (arith, l)))

-- what the misses cover, for all pairs
abbrev pub Covered : Type 0
Covered = (kept ps : List Pair) (p : Pair) → (is_among p kept || is_among p (map (pair_at ps) (misses kept ps))) ≡ (is_among p kept || is_among p ps)

-- with the missed ones each pair is kept
pub all_kept : (kept : List Pair) (ss : List Source) (now : List Pair) → now ≡ kept ++ missed kept (map pair_of ss) → Covered → All (λ s. is_among (pair_of s) now ≡ true) ss
all_kept kept ss now e covered = λ k d l.
    let p : Pair = pair_of (slice_index_or ss k d) in
    ap (is_among p) e ∙ list_any-append (same_pair p) kept (missed kept (map pair_of ss)) ∙ covered kept (map pair_of ss) p ∙ or_true (is_among p kept) (is_among p (map pair_of ss)) (among ss k d l)

-- misses are places of sources
pub all_within : (kept : List Pair) (ss : List Source) → ((kept ps : List Pair) → AllByRecursion (IsFirstMiss kept ps) (misses kept ps)) → All (λ k. k < length ss) (misses kept (map pair_of ss))
all_within kept ss sound =
    let ps = map pair_of ss in
    All-weaker (IsFirstMiss kept ps) (λ k. k < length ss) (λ k m. let w = m.within in let n = length-map ss pair_of in omega (arith, w, n)) (misses kept ps)
    (All-from_recursion (IsFirstMiss kept ps) (misses kept ps) (sound kept ps))
