use Rattle.pld_session.proofs.Recorded.{texts_plain, line_summed, line_broken, text_of_script, was_fine}
use Rattle.pld_session.proofs.large.run_large.Goals as goal

pub summed-requires : goal.summed-requires
summed-requires c =
    let made = text_of_script c.args.rounds c.args.number c.from.result c.in_ok-text.text.items c.args.bench.now c.run_text.new.bench.permits c.run_text.new.bench.records.items c.in_ok-run_text.field-0
    c.in_ok-text.ensures c.from.ensures c.in_ok-run_text.ensures.ok in
    texts_plain _ _ _ _ _ (was_fine _ _ _ _ _ _ c.in-Fine.is made)

pub returns-in-Fine-clause-ok : goal.returns-in-Fine-clause-ok
returns-in-Fine-clause-ok c =
    let made = text_of_script c.args.rounds c.args.number c.from.result c.in_ok-text.text.items c.args.bench.now c.run_text.new.bench.permits c.run_text.new.bench.records.items c.in_ok-run_text.field-0
    c.in_ok-text.ensures c.from.ensures c.in_ok-run_text.ensures.ok in
    line_summed (λ v. v.items) c.summed.result c.args.rounds c.args.number c.args.bench.now _ _ _ (was_fine _ _ _ _ _ _ c.in-Fine.is made) c.summed.ensures.permits c.summed.ensures.line

pub returns-in-Fine-clause-err : goal.returns-in-Fine-clause-err
returns-in-Fine-clause-err c =
    let made = text_of_script c.args.rounds c.args.number c.from.result c.in_ok-text.text.items c.args.bench.now c.run_text.new.bench.permits c.run_text.new.bench.records.items c.in_ok-run_text.field-0
    c.in_ok-text.ensures c.from.ensures c.in_ok-run_text.ensures.ok in
    line_broken c.summed.result c.args.rounds c.args.number c.args.bench.now c.summed.new.bench _ _ _ made c.summed.ensures.permits
