-- What a board keeps: for each leaf the channels with an end there.
use Rattle.std.proofs.Common.{◌≡◌, ℕ, ◌+◌, ◌<◌, ◌≤◌, List, [], length, map, swap, sym, ap, subst, ◌∙◌, arith}
use Rattle.std.specs.Prelude.{nat_lt, slice_index_or}
use Rattle.std.proofs.lemmas.List.{get_or-map, length-map}
use Rattle.std.proofs.lemmas.List.Edits.{length-swap}
use Rattle.std.proofs.lemmas.List.Sums.{count_by-le-length, length-filter}
use Rattle.pld_place.specs.declared.ends.Ends.{Ends}
use Rattle.pld_place.specs.Exchanges.{total, exchanged, traded, lowers}
use Rattle.pld_place.specs.Touching.{Standing, touches, touching_at, IsBoard}
use Rattle.pld_place.proofs.Trading.{swapped_at, traded_within, map_swapped}
use Rattle.pld_place.proofs.Gains.{told_by_two, touching_moved}

pub few_at : (channels : List Ends) (leaves : List ℕ) (leaf : ℕ) → length channels ≤ 256 → length (touching_at channels leaves leaf) ≤ 256
few_at channels leaves leaf few = omega (arith, few, length-filter (touches leaves leaf) channels, count_by-le-length (touches leaves leaf) channels)

-- a row of a board
pub row_is : {R : Type 0} (f : R → List Ends) (s : Standing) (rows : List R) (row d : R) (leaf : ℕ) → IsBoard s (map f rows) → leaf ≤ s.last → row ≡ slice_index_or rows leaf d → f row ≡ touching_at s.channels s.leaves leaf
row_is f s rows row d leaf board most is =
    let all = board.all in
    let within : leaf < length rows = omega (arith, most, all, length-map rows f) in
    ap f is ∙ sym (get_or-map f rows leaf d [] within) ∙ board.at leaf most

pub row_few : {R : Type 0} (f : R → List Ends) (s v : Standing) (rows : List R) (row : R) (out : List Ends) (leaf : ℕ) → s ≡ v → IsBoard s (map f rows) → leaf ≤ v.last → row ≡ slice_index_or rows leaf row → out ≡ f row → length out ≤ 256
row_few f s v rows row out leaf seen board most is told =
    let within : leaf ≤ s.last = subst (λ x. leaf ≤ x.last) (sym seen) most in
    subst (λ r. length r ≤ 256) (sym (told ∙ row_is f s rows row row leaf board within is)) (few_at s.channels s.leaves leaf board.few)

-- the two rows tell whether an exchange lowers the sum
pub two_rows_tell : (channels : List Ends) (leaves one two : List ℕ) (row other : List Ends) (a b before before' after after' : ℕ) → 1 ≤ a → a < b → one ≡ leaves → two ≡ leaves
    → row ≡ touching_at channels leaves a → other ≡ touching_at channels leaves b
    → after ≡ total row (exchanged a b one) → after' ≡ total other (exchanged a b two) → before ≡ total row one → before' ≡ total other two
    → nat_lt (after + after') (before + before') ≡ lowers channels leaves a b
two_rows_tell channels leaves one two row other a b before before' after after' first order g g' at_a at_b e e' f f' =
    (λ i. nat_lt ((e ∙ (λ j. total (at_a j) (exchanged a b (g j)))) i + (e' ∙ (λ j. total (at_b j) (exchanged a b (g' j)))) i) ((f ∙ (λ j. total (at_a j) (g j))) i + (f' ∙ (λ j. total (at_b j) (g' j))) i))
    ∙ told_by_two channels leaves a b first order

-- an exchange of two leaves exchanges their rows
pub board_exchanged : (s : Standing) (rows rows' : List (List Ends)) (a b : ℕ) → IsBoard s rows → 1 ≤ a → a < b → b ≤ s.last → rows' ≡ swap rows a b → IsBoard (record s { leaves = exchanged a b s.leaves }) rows'
board_exchanged s rows rows' a b board first order most e =
    let all = board.all in
    record {
      few = board.few;
      deep = board.deep;
      all = ap length e ∙ length-swap rows a b ∙ board.all;
      at = λ leaf within.
          ap (λ r. slice_index_or r leaf []) e
          ∙ swapped_at rows a b [] (omega (arith, order, most, all)) (omega (arith, most, all)) leaf
          ∙ board.at (traded a b leaf) (traded_within a b s.last leaf (omega (arith, order, most)) most within)
          ∙ sym (touching_moved s.channels s.leaves a b leaf first order);
    }

pub board_moved : {R : Type 0} (f : R → List Ends) (s v : Standing) (rows rows' : List R) (leaves : List ℕ) (a b : ℕ) → s ≡ v → IsBoard s (map f rows) → 1 ≤ a → a < b → b ≤ v.last
    → leaves ≡ exchanged a b s.leaves → rows' ≡ swap rows a b → IsBoard (record s { leaves = leaves }) (map f rows')
board_moved f s v rows rows' leaves a b seen board first order most moved there =
    let within : b ≤ s.last = subst (λ x. b ≤ x.last) (sym seen) most in
    subst (λ l. IsBoard (record s { leaves = l }) (map f rows')) (sym moved)
    (board_exchanged s (map f rows) (map f rows') a b board first order within (ap (map f) there ∙ map_swapped f rows a b))
