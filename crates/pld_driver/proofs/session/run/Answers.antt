use Rattle.std.proofs.Common.{length, take, ◌≤◌, ◌<◌, arith, ap, sym, ◌∙◌}
use Rattle.pld_driver.specs.Reading.{limit}
use Rattle.pld_driver.specs.Moments.{point_of}
use Rattle.pld_driver.proofs.Walks.{Goes-refl}
use Rattle.pld_driver.proofs.Endings.{first_point, open_took, same_took, fault_took, open_ends, open_all, is_open_flow, open_ready, last_ends, last_ready, open_outcome, open_memory, read_fault, too_long, last_outcome, limit_small, text_small, front_small, init_took, init_none, init_ready, ready_still}
use Rattle.pld_driver.proofs.session.run.Goals as goal

pub pieces-init : goal.pieces-init
pieces-init g c = record {
  most = c.most-most.ensures;
  took = init_took _ c.new-text.result.items c.new-text.ensures.items;
  within = omega (arith, ap length c.new-text.ensures.items);
  all = record { goes = Goes-refl _ _ _ (take limit c.new-text.result.items) _ (omega arith); none = init_none c.new-text.result.items c.new-text.ensures.items };
  ready = init_ready c.new-text.result.items c.new.result _ c.requires.permits c.new.ensures.line c.new.ensures.seen c.new.ensures.in_text;
}

pub take_piece-requires-clause-small : goal.take_piece-requires-clause-small
take_piece-requires-clause-small g c = limit_small _ c.most-most.ensures

pub answer_whole-last-requires-clause-ready : goal.answer_whole-last-requires-clause-ready
answer_whole-last-requires-clause-ready g c =
    last_ready c.pieces.text.items c.take_piece.new.text.items c.as_slice-bytes.result.now c.pieces.place _ c.in-End.ensures.takes.0 c.as_slice-bytes.ensures.value (omega (arith, c.pieces.text.ok.0)) c.pieces.invariant.ready

pub answer_whole-last-requires-clause-short : goal.answer_whole-last-requires-clause-short
answer_whole-last-requires-clause-short g c =
    let h : length c.pieces.text.items ≤ limit = omega (arith, c.pieces.text.ok.0) in
    text_small c.as_slice-bytes.result.now c.pieces.text.items (c.as_slice-bytes.ensures.value ∙ c.in-End.ensures.takes.0) h

pub returns-in-End : goal.returns-in-End
returns-in-End g c =
    let h : length c.pieces.text.items ≤ limit = omega (arith, c.pieces.text.ok.0) in
    record {
      outcome = rw c.status.ensures (last_outcome _ _ _ c.args.bench.now _ _ _ c.pieces.text.items
          (point_of c.answer_whole-last.new.engine c.answer_whole-last.new.bench (g.K.Sink.state c.answer_whole-last.new.sink) c.answer_whole-last.new.place) c.answer_whole-last.result
          (record { records = c.requires.records; permits = c.requires.permits })
          (same_took _ _ _ c.pieces.text.items c.pieces.invariant.took c.in-End.ensures.takes.1) c.in-End.ensures.takes.2 h
          (last_ends _ _ c.pieces.text.items c.take_piece.new.text.items c.as_slice-bytes.result.now _ (point_of c.pieces.engine c.pieces.bench (g.K.Sink.state c.pieces.sink) c.pieces.place)
          (point_of c.answer_whole-last.new.engine c.answer_whole-last.new.bench (g.K.Sink.state c.answer_whole-last.new.sink) c.answer_whole-last.new.place) c.answer_whole-last.result
          c.in-End.ensures.takes.0 c.as_slice-bytes.ensures.value h c.pieces.invariant.all.goes c.answer_whole-last.ensures.ends));
    }

pub returns-in-Fault : goal.returns-in-Fault
returns-in-Fault g c =
    let h : length c.pieces.text.items ≤ limit = omega (arith, c.pieces.text.ok.0) in
    record {
      outcome = read_fault _ _ _ c.args.bench.now _ _ _ c.pieces.text.items (point_of c.pieces.engine c.pieces.bench (g.K.Sink.state c.pieces.sink) c.pieces.place)
          (record { records = c.requires.records; permits = c.requires.permits }) (fault_took _ _ _ c.pieces.text.items c.pieces.invariant.took c.in-Fault.ensures.takes.1) c.in-Fault.ensures.takes.2 h c.pieces.invariant.all;
    }

pub returns-in-NoMemory : goal.returns-in-NoMemory
returns-in-NoMemory g c =
    record {
      outcome = open_memory _ _ _ c.args.bench.now _ _ _ c.pieces.text.items (point_of c.pieces.engine c.pieces.bench (g.K.Sink.state c.pieces.sink) c.pieces.place)
          (record { records = c.requires.records; permits = c.requires.permits }) (same_took _ _ _ c.pieces.text.items c.pieces.invariant.took c.in-NoMemory.ensures.takes.1) c.pieces.invariant.all.goes;
    }

pub answer_whole-flow-requires-clause-ready : goal.answer_whole-flow-requires-clause-ready
answer_whole-flow-requires-clause-ready g c =
    open_ready _ _ c.most-most.result c.pieces.text.items c.take_piece.new.text.items c.front-bytes.result.now c.pieces.place _ c.most-most.ensures (omega (arith, c.pieces.text.ok.0)) c.in-Some.ensures.takes (cc) c.pieces.invariant.ready

pub answer_whole-flow-requires-clause-short : goal.answer_whole-flow-requires-clause-short
answer_whole-flow-requires-clause-short g c = front_small c.front-bytes.result.now c.take_piece.new.text.items (cc)

pub pieces-preserved : goal.pieces-preserved
pieces-preserved g c = record {
  most = c.most-most.ensures;
  took = open_took _ _ _ c.most-most.result c.pieces.text.items c.take_piece.new.text.items c.pieces.invariant.took c.in-Some.ensures.takes;
  within = c.in-Some.ensures.takes.3;
  all = open_all g.E.Engine.step g.E.Engine.fits (g.S.Source.state c.pieces.source) (g.S.Source.state c.take_piece.new.source) c.most-most.result c.pieces.text.items c.take_piece.new.text.items c.front-bytes.result.now
      (first_point c.args.engine.now c.args.bench.now (g.K.Sink.state c.args.sink.now)) (point_of c.pieces.engine c.pieces.bench (g.K.Sink.state c.pieces.sink) c.pieces.place)
      (point_of c.answer_whole-flow.new.engine c.answer_whole-flow.new.bench (g.K.Sink.state c.answer_whole-flow.new.sink) c.answer_whole-flow.new.place) c.answer_whole-flow.result
      c.most-most.ensures (omega (arith, c.pieces.text.ok.0)) c.in-Some.ensures.takes (cc) c.pieces.invariant.all.goes c.answer_whole-flow.ensures.ends (is_open_flow c.answer_whole-flow.result (cc));
  ready = ready_still c.take_piece.new.text.items c.front-bytes.result.now c.answer_whole-flow.new.place _ (cc) (c.answer_whole-flow.ensures.ready (is_open_flow c.answer_whole-flow.result (cc)));
}

pub returns-then-not-is_open : goal.returns-then-not-is_open
returns-then-not-is_open g c =
    record {
      outcome = rw c.status-then-not-is_open.ensures (open_outcome _ _ _ c.args.bench.now _ _ _ c.take_piece.new.text.items
          (point_of c.answer_whole-flow.new.engine c.answer_whole-flow.new.bench (g.K.Sink.state c.answer_whole-flow.new.sink) c.answer_whole-flow.new.place) c.answer_whole-flow.result
          (record { records = c.requires.records; permits = c.requires.permits })
          (open_took _ _ _ c.most-most.result c.pieces.text.items c.take_piece.new.text.items c.pieces.invariant.took c.in-Some.ensures.takes)
          (open_ends _ _ _ _ c.most-most.result c.pieces.text.items c.take_piece.new.text.items c.front-bytes.result.now _ (point_of c.pieces.engine c.pieces.bench (g.K.Sink.state c.pieces.sink) c.pieces.place)
          (point_of c.answer_whole-flow.new.engine c.answer_whole-flow.new.bench (g.K.Sink.state c.answer_whole-flow.new.sink) c.answer_whole-flow.new.place) c.answer_whole-flow.result
          c.most-most.ensures (omega (arith, c.pieces.text.ok.0)) c.in-Some.ensures.takes (cc) c.pieces.invariant.all.goes c.answer_whole-flow.ensures.ends) (cc));
    }

pub returns : goal.returns
returns g c =
    let h : limit < length c.pieces.text.items = omega (arith, c.pieces.text.ok.0) in
    record {
      outcome = too_long _ _ _ c.args.bench.now _ _ _ c.pieces.text.items (point_of c.pieces.engine c.pieces.bench (g.K.Sink.state c.pieces.sink) c.pieces.place)
          (record { records = c.requires.records; permits = c.requires.permits }) c.pieces.invariant.took h c.pieces.invariant.all;
    }
