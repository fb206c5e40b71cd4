use Rattle.std.proofs.Common.{◌≡◌, map}
use Rattle.pld_ast.specs.Resolve.{declared_in, program_of}
use Rattle.pld_mean.specs.Vars.{state_of, sizes_of, sizes_in}
use Rattle.pld_mean.proofs.Blocks.{Done, Turned}
use Rattle.pld_mean.proofs.exec.+exec.Given as goal

abbrev pub invariant-block-loop-s : goal.invariant-block-loop-s
invariant-block-loop-s l = record {
  so_far : Done (program_of l.op) (declared_in l.op) l.turns l.body l.s-index (state_of (map (λ v. v.items) l.ins) l.initial.vars) (state_of (map (λ v. v.items) l.ins) l.vars);
  sized : sizes_of l.vars ≡ sizes_in (program_of l.op);
  same : sizes_of l.vars ≡ sizes_of l.initial.vars;
}

abbrev pub invariant-statement-loop-turn : goal.invariant-statement-loop-turn
invariant-statement-loop-turn l = record {
  so_far : Turned (program_of l.op) (declared_in l.op) l.turns l.e l.a l._turn (state_of (map (λ v. v.items) l.ins) l.initial.vars) (state_of (map (λ v. v.items) l.ins) l.vars);
  sized : sizes_of l.vars ≡ sizes_in (program_of l.op);
  same : sizes_of l.vars ≡ sizes_of l.initial.vars;
}
