use Rattle.std.proofs.Common.{◌≡◌, ℕ, List, map, drop}
use Rattle.std.specs.Str.{bytes_eq}
use Rattle.std.specs.Map.{lookup}
use Rattle.pld_check.specs.Scopes.{declared_from}
use Rattle.pld_check.proofs.scope.declare_all.Given as goal

abbrev pub invariant-loop-declaration : goal.invariant-loop-declaration
invariant-loop-declaration g l = record {
  rest : (q : List ℕ) → declared_from (lookup (bytes_eq q) l.by_name.entries) q (map g.D.Declaration.mention (drop l.declaration-index l.declarations)) ≡ declared_from (lookup (bytes_eq q) l.initial.by_name.entries) q (map g.D.Declaration.mention l.declarations);
}
