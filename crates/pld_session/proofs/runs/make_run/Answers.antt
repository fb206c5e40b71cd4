use Rattle.std.proofs.Common.{◌≡◌, ◌<◌, ◌^◌, ◌≤◌, ◌+◌, ◌++◌, ℕ, List, length, sym, ap, ◌∙◌, subst, arith, rules}
use Rattle.std.specs.Prelude.{vec_len, vec_capacity}
use Rattle.fabric_run.specs.Plan.{PlanValue}
use Rattle.fabric_run.specs.Reply.{name_in, reply}
use Rattle.fabric_run.specs.Shown.{shown}
use Rattle.fabric_ends.specs.Planned.{IsDesign}
use Rattle.fabric_core.specs.Runs.{setup_for, state_of}
use Rattle.fabric_core.specs.declared.fabric.Record.{Record}
use Rattle.pld_reply.specs.Sizes.{AreShort, run_room}
use Rattle.pld_session.specs.Runs.{counts_of}
use Rattle.pld_session.proofs.Making.{ok_by, on_ok, recorded}
use Rattle.pld_session.proofs.Running.{same_counts}
use Rattle.pld_session.proofs.runs.make_run.Goals as goal

pub unwrap-requires : goal.unwrap-requires
unwrap-requires g c =
    let run = c.in_ok-fabric.fabric in
    let same : run.plan ≡ c.args.fabric.plan = c.in_ok-fabric.ensures.plan in
    let operators = c.requires.design.0 in
    let design : IsDesign run.plan operators = subst (λ (p : PlanValue). IsDesign p operators) (sym same) c.requires.design.1 in
    let legal = c.is_legal.ensures.legal in
    let has = c.runs_have_outs.ensures.outs run.plan operators run.journal design legal in
    let ports = c.runs_have_outs.ensures.ports run.plan operators run.journal design legal in
    let rounds : run.plan.rounds < 2 ^ 64 = subst (λ (p : PlanValue). p.rounds < 2 ^ 64) (sym same) c.take_room.ensures.rounds in
    let names : List (List ℕ) = c.deref-3.result.now in
    let outs : List (List ℕ) = c.deref-4.result.now in
    let short : AreShort (name_in names) = subst (λ (l : List (List ℕ)). AreShort (name_in l)) (c.deref.ensures.value ∙ sym c.deref-3.ensures.value) c.are_short.ensures in
    let few : AreShort (name_in outs) = subst (λ (l : List (List ℕ)). AreShort (name_in l)) (c.deref-2.ensures.value ∙ sym c.deref-4.ensures.value) c.are_short-2.ensures in
    let most = c.run_replies_are_short.ensures (name_in names) (name_in outs) (length run.plan.pages) run.plan.outs run.plan.rounds (shown (setup_for run) (state_of run)) short few rounds has ports in
    let room : vec_len c.take_room.new.reply + run_room (length run.plan.pages) run.plan.outs run.plan.rounds ≤ vec_capacity c.take_room.new.reply =
    subst (λ (p : PlanValue). vec_len c.take_room.new.reply + run_room (length p.pages) p.outs p.rounds ≤ vec_capacity c.take_room.new.reply) (sym same) c.in-Ok.ensures.reply in
    ok_by c.put_run.result c.put_run.ensures.full (λ full. omega (arith, full, most, room))

pub returns-clause-made : goal.returns-clause-made
returns-clause-made g c =
    let fabric = c.in_ok-fabric.fabric in
    let run : Record = record { plan = fabric.plan; journal = fabric.journal } in
    let text : List (List ℕ) → List (List ℕ) → List ℕ = λ x y. reply (name_in x) (name_in y) (length fabric.plan.pages) fabric.plan.outs (shown (setup_for fabric) (state_of fabric)) in
    let empty = c.take_room.ensures.same.1 ∙ c.requires.empty in
    record {
      run = run;
      planned = c.in_ok-fabric.ensures.plan;
      legal = c.is_legal.ensures.legal;
      over = c.in_ok-fabric.ensures.over;
      ordered = c.in_ok-fabric.ensures.ordered;
      last = recorded c.args.records.now.items c.take_room.new.records.items c.push.new.self.items c.finish.result run c.push.result c.unwrap-2.result c.unwrap-2.ensures c.push.ensures.items c.take_room.ensures.same.0 c.finish.ensures.plan c.finish.ensures.journal;
      says =
          on_ok c.put_run.result c.unwrap.result c.unwrap.ensures c.put_run.ensures.text
          ∙ ap (λ l. l ++ text c.deref-3.result.now c.deref-4.result.now) empty ∙ ap (λ x. text x c.deref-4.result.now) c.deref-3.ensures.value ∙ ap (text c.args.names.now.operators.items) c.deref-4.ensures.value;
      rows = c.leave_rows.ensures.rows;
      counted = same_counts c.counts-counts.result (counts_of run) c.counts-counts.ensures.rounds c.counts-counts.ensures.packets c.counts-counts.ensures.deflected c.counts-counts.ensures.configs;
    }
