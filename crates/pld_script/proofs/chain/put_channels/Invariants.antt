use Rattle.std.proofs.Common.{◌≡◌, ◌++◌, ◌+◌, string_bytes}
use Rattle.pld_script.specs.Chain.{texts_below, connect_line}
use Rattle.pld_script.proofs.chain.put_channels.Given as goal

abbrev pub invariant-loop-i : goal.invariant-loop-i
invariant-loop-i l = string_bytes l.text ≡ string_bytes l.fn.text ++ texts_below (λ i. connect_line (i + 1)) l.i
