-- How far apart two leaves of a tree of switches stand.
use Rattle.std.specs.Prelude.{ℕ, zero, suc, ◌+◌, ◌*◌, ◌/◌, ◌==◌, if◌then◌else◌}

-- the level of the lowest switch over two leaves, of n levels at most; 0 where they are one leaf
abbrev pub level_over : ℕ → ℕ → ℕ → ℕ
level_over zero a b = 0
level_over (suc n) a b = if a == b then 0 else 1 + level_over n (a / 2) (b / 2)

-- how many links lie between two leaves: up to the lowest switch over both, and down again; a tree has at most six levels
unfoldable pub distance : ℕ → ℕ → ℕ
distance a b = 2 * level_over 6 a b
