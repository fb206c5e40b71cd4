use Rattle.std.proofs.Common.{◌≡◌, ℕ, List, ◌++◌, length, length-append, ap, ◌∙◌, Option, arith}
use Rattle.net_tree.specs.Links.{Links}
use Rattle.fabric_run.specs.declared.row.Outcome.{Outcome}
use Rattle.fabric_core.specs.Runs.{setup_for, state_of}
use Rattle.fabric_run.specs.Replay.{outcome, blocked}
use Rattle.fabric_run.specs.World.{Setup, State, out_at}
use Rattle.fabric_run.specs.Reply.{outcome_line, at_lines, out_line, lines_below, name_in}
use Rattle.pld_reply.proofs.Replying.{on_ok, joins}
use Rattle.pld_reply.proofs.Filling.{on_err_of}
use Rattle.pld_reply.proofs.runs.put_run.Goals as goal

pub returns-clause-text : goal.returns-clause-text
returns-clause-text c =
    let setup : Setup Links = setup_for c.args.fabric.now in
    let st : State Links = state_of c.args.fabric.now in
    let text : Option Outcome → ℕ → ℕ → ℕ → List ℕ = λ end rounds n k.
    c.args.reply.now.items ++ (outcome_line end rounds ++ (at_lines (name_in c.args.names.now) (outcome setup st) (blocked setup st) n ++ lines_below (λ j. out_line (name_in c.args.outputs.now j) (out_at st j)) k)) in
    on_ok c.put_outs.result c.put_outs.ensures.text (λ e.
    joins _ _ _ _ _ _ _ c.in_ok-put_outcome.ensures.text c.in_ok-put_ports.ensures.text e
    ∙ ap (λ x. text x c.counts.result.rounds (length c.args.names.now) (length c.args.outputs.now)) c.over.ensures
    ∙ ap (λ x. text (outcome setup st) x (length c.args.names.now) (length c.args.outputs.now)) c.counts.ensures.rounds
    ∙ ap (λ x. text (outcome setup st) st.rounds x (length c.args.outputs.now)) c.requires.names
    ∙ ap (λ x. text (outcome setup st) st.rounds (length c.args.fabric.now.plan.pages) x) c.requires.outputs)

pub returns-clause-full : goal.returns-clause-full
returns-clause-full c =
    let setup : Setup Links = setup_for c.args.fabric.now in
    let st : State Links = state_of c.args.fabric.now in
    let first : Option Outcome → ℕ → List ℕ = outcome_line in
    let ports : ℕ → List ℕ = at_lines (name_in c.args.names.now) (outcome setup st) (blocked setup st) in
    let words : ℕ → List ℕ = lines_below (λ j. out_line (name_in c.args.outputs.now j) (out_at st j)) in
    let begun : first c.over.result c.counts.result.rounds ≡ first (outcome setup st) st.rounds =
    ap (λ x. first x c.counts.result.rounds) c.over.ensures ∙ ap (first (outcome setup st)) c.counts.ensures.rounds in
    let pages : ports (length c.args.names.now) ≡ ports (length c.args.fabric.now.plan.pages) = ap ports c.requires.names in
    let outs : words (length c.args.outputs.now) ≡ words c.args.fabric.now.plan.outs = ap words c.requires.outputs in
    on_err_of c.put_outs.result c.put_outs.ensures.full (λ full. omega (
      arith,
      full,
      c.in_ok-put_outcome.ensures.room,
      c.in_ok-put_ports.ensures.room,
      ap length c.in_ok-put_outcome.ensures.text,
      ap length c.in_ok-put_ports.ensures.text,
      length-append c.args.reply.now.items (first c.over.result c.counts.result.rounds),
      length-append c.put_outcome.new.reply.items (ports (length c.args.names.now)),
      length-append (first (outcome setup st) st.rounds) (ports (length c.args.fabric.now.plan.pages) ++ words c.args.fabric.now.plan.outs),
      length-append (ports (length c.args.fabric.now.plan.pages)) (words c.args.fabric.now.plan.outs),
      ap length begun,
      ap length pages,
      ap length outs,
      c.args.reply.now.ok.0,
      c.put_outcome.new.reply.ok.0,
      c.put_ports.new.reply.ok.0,
    ))
