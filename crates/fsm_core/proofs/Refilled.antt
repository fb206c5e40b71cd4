-- Elements that were lent, and came back in the same number.
use Rattle.std.proofs.Common.{◌≡◌, List, [], ◌∷◌, ◌++◌, length, take, drop, refl, sym, ap, ◌∙◌}
use Rattle.std.specs.List.{refill}

take_front : {X : Type 0} (ws ys : List X) → take (length ws) (ws ++ ys) ≡ ws
take_front [] ys = refl
take_front (w ∷ ws) ys = ap (λ l. w ∷ l) (take_front ws ys)

pub refill_is : {X : Type 0} (xs ws : List X) → length ws ≡ length xs → refill (length xs) xs ws ≡ ws
refill_is xs ws e = ap (λ n. take n (ws ++ drop (length ws) xs)) (sym e) ∙ take_front ws (drop (length ws) xs)
