use Rattle.std.proofs.Common.{Some, sym, ap, ◌∙◌}
use Rattle.std.specs.List.{find}
use Rattle.std.specs.Option.{option_map}
use Rattle.pld_graph.specs.Design.{is_called}
use Rattle.pld_graph.specs.Entries.{entry_of}
use Rattle.pld_graph.proofs.Named.{found}
use Rattle.pld_graph.proofs.operators.Operators.called.Goals as goal

pub returns-in-Some : goal.returns-in-Some
returns-in-Some c = ap Some c.entry.ensures ∙ ap (option_map (λ v. entry_of (c.args.name.now, v))) c.in-Some.ensures.value ∙ sym (found c.args.name.now c.self.inside.by_name.entries) ∙ ap (find (is_called c.args.name.now)) c.self.view_is

pub returns-in-None : goal.returns-in-None
returns-in-None c = ap (option_map (λ v. entry_of (c.args.name.now, v))) c.in-None.ensures.value ∙ sym (found c.args.name.now c.self.inside.by_name.entries) ∙ ap (find (is_called c.args.name.now)) c.self.view_is
