-- The first open port, one port further.
use Rattle.std.proofs.Common.{◌≡◌, ℕ, ◌+◌, suc, Some, List, true, if◌then◌else◌, ap, ◌∙◌}
use Rattle.pld_base.specs.declared.event.Side.{Side}
use Rattle.pld_graph.specs.declared.parts.Channel.{Channel}
use Rattle.pld_graph.specs.Design.{is_linked, port, open_among}

pub linked_step : (cs : List Channel) (name : List ℕ) (side : Side) (k m n : ℕ) → m ≡ suc n → is_linked cs (port name side k) ≡ true → open_among cs name side k m ≡ open_among cs name side (k + 1) n
linked_step cs name side k m n more linked =
    ap (λ j. open_among cs name side k j) more ∙ ap (λ b. if b then open_among cs name side (k + 1) n else Some (port name side k)) linked
