use Rattle.std.proofs.Common.{ℕ, List, ◌++◌, codes, decimal, length, ap, ◌∙◌, Option}
use Rattle.fabric_run.specs.declared.row.Outcome.{Outcome}
use Rattle.fabric_run.specs.Replay.{outcome}
use Rattle.fabric_run.specs.World.{out_at}
use Rattle.fabric_core.specs.Runs.{setup_for, state_of}
use Rattle.pld_reply.specs.Summary.{outcome_word, word_sum}
use Rattle.pld_reply.proofs.Replying.{on_ok, joins_seven}
use Rattle.pld_reply.proofs.summary.put_summary.Goals as goal

pub returns : goal.returns
returns c =
    let head : List ℕ = (((codes "big " ++ decimal c.args.number) ++ codes " compiled ") ++ decimal c.args.permits) ++ codes " " in
    let text : Option Outcome → List ℕ → List ℕ = λ end words. c.args.reply.now.items ++ ((((((head ++ outcome_word end) ++ codes " words ") ++ decimal (length words)) ++ codes " sum ") ++ decimal (word_sum words)) ++ codes "\n") in
    on_ok c.put_words_summed.result c.put_words_summed.ensures (λ e.
    joins_seven _ _ _ _ _ _ _ _ _ _ _ _ _ _ _ _ _ _ _
    c.in_ok-put_text.ensures.text c.in_ok-put_number.ensures.text c.in_ok-put_text-2.ensures.text c.in_ok-put_number-2.ensures.text c.in_ok-put_text-3.ensures.text c.in_ok-put_outcome_word.ensures e
    ∙ ap (λ end. text end c.out.result.now) c.over.ensures ∙ ap (λ words. text (outcome (setup_for c.args.fabric.now) (state_of c.args.fabric.now)) words) c.out.ensures)
