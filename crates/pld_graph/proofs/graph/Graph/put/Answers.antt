use Rattle.std.proofs.Common.{◌≡◌, false, sym, subst}
use Rattle.std.specs.List.{list_any}
use Rattle.pld_graph.specs.Parts.{same_from, same_to}
use Rattle.pld_graph.proofs.Frees.{from_free, to_free}
use Rattle.pld_graph.proofs.graph.Graph.put.Goals as goal

pub push-requires-clause-from_free : goal.push-requires-clause-from_free
push-requires-clause-from_free c = subst (λ d. list_any (λ x. same_from c.args.from x.from) d.channels ≡ false) (sym c.self.view_is) (from_free c.args.from c.args.to c.args.self.now c.requires)

pub push-requires-clause-to_free : goal.push-requires-clause-to_free
push-requires-clause-to_free c = subst (λ d. list_any (λ x. same_to c.args.to x.to) d.channels ≡ false) (sym c.self.view_is) (to_free c.args.from c.args.to c.args.self.now c.requires)
