use Rattle.std.proofs.Common.{subst, rules}
use Rattle.std.specs.List.{All}
use Rattle.pld_base.specs.Words.{IsWord}
use Rattle.pld_session.proofs.Running.{Laws, IsReady, runnable, means}
use Rattle.pld_session.proofs.runs.built_designs_run.Goals as goal

pub returns : goal.returns
returns c =
    let d = c.args.draft.now in
    let laws : Laws = record {
      meaning = c.images_keep_the_meaning.ensures.realises;
      words = c.images_keep_the_meaning.ensures.writes_words;
      cores = c.cores_are_processes.ensures;
      forms = c.images_are_forms.ensures.in_range;
      ins = c.images_are_forms.ensures.ins;
      outs = c.images_are_forms.ensures.outs;
      place = c.operators_have_leaves.ensures;
    } in
    let ready : IsReady c.args.rounds d c.args.build.now c.args.standing.now = record {
      a_round = c.requires.some;
      kept = c.sources.ensures.kept;
      design = search rules;
      built = c.requires.built;
      stands = c.requires.standing;
      processes = search rules;
      sound = search rules;
      words = subst (λ x. All (All IsWord) x) c.requires.feeds c.requires.words;
    } in
    record {
      runnable = runnable laws c.args.rounds d c.args.build.now c.args.standing.now ready;
      means = means laws c.args.rounds d c.args.build.now c.args.standing.now ready;
    }
