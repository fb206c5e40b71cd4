use Rattle.std.proofs.Common.{◌≡◌, ◌++◌, ◌*◌, string_bytes}
use Rattle.std.specs.Prelude.{codes, decimal}
use Rattle.pld_script.specs.Chain.{texts_below}
use Rattle.pld_script.proofs.chain.put_sevens.Given as goal

abbrev pub invariant-loop-i : goal.invariant-loop-i
invariant-loop-i l = string_bytes l.text ≡ string_bytes l.fn.text ++ texts_below (λ i. codes " " ++ decimal (7 * i)) l.i
