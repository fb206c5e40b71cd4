use Rattle.std.proofs.Common.{ap, sym, ◌∙◌, ◌||◌}
use Rattle.std.specs.Prelude.{bytes_eq}
use Rattle.std.specs.List.{list_any}
use Rattle.pld_graph.specs.Parts.{to_output, passes}
use Rattle.pld_graph.proofs.Ended.{hosts}
use Rattle.pld_graph.proofs.channels.Channels.has_host.Goals as goal

pub returns-then-is_input : goal.returns-then-is_input
returns-then-is_input c =
    let name = c.args.name.now in
    let out = list_any (λ d. passes (λ n. bytes_eq n name) (to_output d.to)) c.args.self.now in
    c.if-is_input.true ∙ ap (λ b. b || out) (sym c.if-is_input.true ∙ c.is_input.ensures) ∙ hosts name c.args.self.now

pub returns-else-is_input : goal.returns-else-is_input
returns-else-is_input c =
    let name = c.args.name.now in
    let out = list_any (λ d. passes (λ n. bytes_eq n name) (to_output d.to)) c.args.self.now in
    c.is_some.ensures ∙ c.to_slot.ensures.found ∙ ap (list_any (λ d. passes (λ n. bytes_eq n name) (to_output d.to))) c.self.view_is
    ∙ ap (λ b. b || out) (sym c.if-is_input.false ∙ c.is_input.ensures) ∙ hosts name c.args.self.now
