use Rattle.std.proofs.Common.{◌≤◌, length}
use Rattle.pld_parse.specs.declared.nesting.TheConstants.{MAX_DEPTH}
use Rattle.pld_parse.proofs.Nestings.{left_within}
use Rattle.pld_parse.proofs.parse.cut_fault.Goals as goal

pub fault_at-requires : goal.fault_at-requires
fault_at-requires c =
    let w = left_within MAX_DEPTH c.args.tokens.now c.args.left c.requires.crowded in
    let a : 1 ≤ c.args.left = w.0 in
    let b : c.args.left ≤ length c.args.tokens.now = w.1 in
    b
