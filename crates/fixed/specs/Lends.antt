-- What the elements end as, where they are lent to be written.
use Rattle.std.specs.Prelude.{List, length}
use Rattle.std.specs.List.{refill}
use Rattle.std.specs.Borrow.{Lends, Fml, RattleType, MutBor, Array}
use Rattle.fixed.specs.contracts.Fixed.{the_row}

-- once the borrow r ends, the elements are those that r shows last; their number stays
abbrev pub lends_slice : (T : RattleType) → MutBor (List T.Denot) → MutBor (List T.Denot) → Fml
lends_slice T f r = Lends (the_row T) (Array T 0) f r (refill (length f.now) f.now)
