use Rattle.std.proofs.Common.{◌≡◌, ℕ, ◌<◌, length, []}
use Rattle.std.specs.Prelude.{slice_index_or, map}
use Rattle.pld_place.specs.Placing.{numbers}
use Rattle.pld_place.specs.Touching.{touching_at}
use Rattle.pld_place.proofs.board.Board.new.Given as goal

abbrev pub invariant-loop-leaf : goal.invariant-loop-leaf
invariant-loop-leaf l =
    (length l.rows.items ≡ l.leaf)
    × ((j : ℕ) → j < l.leaf → slice_index_or (map (λ row. row.items) l.rows.items) j [] ≡ touching_at l.channels.items (numbers l.leaves.items) j)
