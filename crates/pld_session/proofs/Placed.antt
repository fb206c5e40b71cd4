-- Each operator with its leaf and its kind.
use Rattle.std.proofs.Common.{◌≡◌, ℕ, zero, suc, ◌+◌, ◌<◌, List, [], ◌∷◌, ◌++◌, length, map, take, refl, sym, ap, ◌∙◌, arith}
use Rattle.std.specs.Prelude.{slice_index_or}
use Rattle.pld_graph.specs.declared.parts.OperatorEntry.{OperatorEntry}
use Rattle.pld_base.specs.declared.event.PageId.{PageId}
use Rattle.pld_draft.specs.declared.parts.Source.{Source}
use Rattle.pld_reply.specs.declared.tables.PlacedPage.{PlacedPage}
use Rattle.pld_session.specs.Answers.{pages_from}

abbrev page : PageId → OperatorEntry → Source → PlacedPage
page leaf o s = record { leaf = leaf; name = o.name; kind = s.kind }

next : (k : ℕ) → k + 1 ≡ suc k
next k = omega arith

-- one page more
more : (ps : List PageId) (os : List OperatorEntry) (ss : List Source) (k : ℕ) (p : PageId) (o : OperatorEntry) (s : Source) → k < length ps → k < length os → k < length ss
    → pages_from (take (suc k) (map (λ x. x.0) ps)) (take (suc k) os) (take (suc k) ss)
    ≡ pages_from (take k (map (λ x. x.0) ps)) (take k os) (take k ss) ++ page (slice_index_or ps k p) (slice_index_or os k o) (slice_index_or ss k s) ∷ []
more [] os ss k p o s a b c = absurd (omega (arith, a))
more (x ∷ ps) [] ss k p o s a b c = absurd (omega (arith, b))
more (x ∷ ps) (y ∷ os) [] k p o s a b c = absurd (omega (arith, c))
more (x ∷ ps) (y ∷ os) (z ∷ ss) zero p o s a b c = refl
more (x ∷ ps) (y ∷ os) (z ∷ ss) (suc k) p o s a b c = ap (λ l. page x y z ∷ l) (more ps os ss k p o s (omega (arith, a)) (omega (arith, b)) (omega (arith, c)))

pub pages_more : (ps : List PageId) (os : List OperatorEntry) (ss : List Source) (k : ℕ) (p : PageId) (o : OperatorEntry) (s : Source) (pages pages' : List PlacedPage) (new : PlacedPage)
    → k < length ps → k < length os → k < length ss
    → pages ≡ pages_from (take k (map (λ x. x.0) ps)) (take k os) (take k ss) → pages' ≡ pages ++ new ∷ [] → new ≡ page (slice_index_or ps k p) (slice_index_or os k o) (slice_index_or ss k s)
    → pages' ≡ pages_from (take (k + 1) (map (λ x. x.0) ps)) (take (k + 1) os) (take (k + 1) ss)
pages_more ps os ss k p o s pages pages' new a b c had put is =
    put ∙ ap (λ l. l ++ new ∷ []) had ∙ ap (λ x. pages_from (take k (map (λ x. x.0) ps)) (take k os) (take k ss) ++ x ∷ []) is
    ∙ sym (more ps os ss k p o s a b c) ∙ ap (λ n. pages_from (take n (map (λ x. x.0) ps)) (take n os) (take n ss)) (sym (next k))
