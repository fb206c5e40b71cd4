-- How a session ends.
use Rattle.std.proofs.Common.{◌≡◌, ◌⊎◌, ℕ, ◌+◌, ◌-◌, ◌<◌, ◌≤◌, Bool, true, false, ◌||◌, List, [], ◌∷◌, ◌++◌, length, take, drop, Option, Some, All, refl, sym, ap, ◌∙◌, append_assoc, append-nil, subst, arith, inl, inr, length-append, ◌^◌, lit<, IsSome}
use Rattle.std.proofs.lemmas.List.Elements.{All-append, All-cons, All-nil}
use Rattle.std.proofs.lemmas.List.{take-append-drop, drop-append-le, take_all, length-take}
use Rattle.std.proofs.Math.Seq.{take-append-add}
use Rattle.pld_io.specs.Outside.{SourceState, SinkState, Gives, GivesUntilFault, Accepts, AcceptsUntilFault}
use Rattle.pld_script.specs.declared.statement.Statement.TheVariants.{Quit}
use Rattle.pld_script.specs.declared.scan.Scan.{Scan}
use Rattle.pld_script.proofs.Scanning.{Scanned-append, Scanned-new}
use Rattle.pld_script.specs.Statements.{Placed, statements, statements_at, MayFollow, HoldsNone, Scanned}
use Rattle.pld_driver.specs.Walk.{Step, Says, Runs, Walked, passed, said, after, walk, session, transcript, is_quit, has_quit}
use Rattle.pld_driver.specs.Moments.{Took, Broke, Held, Point, Goes, Cuts, Breaks, Comes, AnswersAll, QuitsAt, Reaches, Ends, IsReady, is_open, done_status, status_of}
use Rattle.pld_driver.specs.Outcome.{Moment, moment_of, Outcome, StatusSays, IsTaken, IsExact, IsReadThrough, Begins, AreFirst, IsCutShort, IsBrokenOff, WroteAll, WritesPart, WritesFront}
use Rattle.pld_driver.specs.Reading.{Takes, limit, IsEnded}
use Rattle.pld_driver.specs.declared.engine.Bench.{Bench}
use Rattle.pld_driver.specs.declared.session.Piece.TheVariants as piece
use Rattle.pld_driver.specs.declared.answers.Place.{Place}
use Rattle.pld_driver.specs.declared.answers.Flow.{Flow}
use Rattle.pld_driver.specs.declared.answers.Flow.TheVariants as flow
use Rattle.pld_driver.specs.declared.answers.Stop.TheVariants as stop
use Rattle.pld_driver.specs.declared.status.Status.{Status}
use Rattle.pld_driver.specs.declared.status.Status.TheVariants.{Fine, SomeRefused, Usage, ReadFault, WriteFault, NoMemory, TooLong}
use Rattle.pld_driver.proofs.Puts.{Accepts-trans, Accepts-until, Gives-nil, Gives-trans, Gives-until}
use Rattle.pld_driver.proofs.Walks.{join, walk-append, walk_bare, Bare, or_none, pick, no_quit, has_quit-append, Goes-trans, one_step, one_quit}

-- the moment before the first byte
abbrev pub first_point : {S R : Type 0} → S → Bench R → SinkState → Point S R
first_point state bench sink = record { held = record { state = state; bench = bench; sink = sink }; number = 1; start = 0; refused = false }

-- Nothing was spent, and nothing has run.
pub record IsNew {R : Type 0} (bench : Bench R) : Type 0 where
  pub records : bench.records.items ≡ []
  pub permits : bench.permits ≡ 0

-- ---- a session whose first statements were answered

-- what is left of the session behind them
session_is : {S R : Type 0} (step : S → Placed → Step S R) (Fits : S → R → Type 0) (ended : Bool) (text : List ℕ) (s : S) (b : Bench R) (w : SinkState) (at : Point S R)
    (goes : Goes step Fits ended text (first_point s b w) at) (e : Bool) (bytes : List ℕ) (later : List Placed) (extra new : List R)
    → statements e bytes ≡ goes.done ++ later → new ≡ goes.added ++ extra
    → session step s bytes e new ≡ join (walk step s goes.done goes.added) (walk step at.held.state later extra)
session_is step Fits ended text s b w at goes e bytes later extra new p q =
    ap (λ l. walk step s l new) p ∙ ap (λ r. walk step s (goes.done ++ later) r) q
    ∙ walk-append step s at.held.state goes.done later goes.added extra goes.left goes.end

records_of : {S R : Type 0} (step : S → Placed → Step S R) (Fits : S → R → Type 0) (ended : Bool) (text : List ℕ) (s : S) (b : Bench R) (w : SinkState) (at : Point S R)
    (goes : Goes step Fits ended text (first_point s b w) at) → IsNew b → at.held.bench.records.items ≡ goes.added ++ []
records_of step Fits ended text s b w at goes none = goes.records ∙ ap (λ l. l ++ goes.added) none.records ∙ sym (append-nil goes.added)

-- The records are those of the runs.
pub record Settled {S R : Type 0} (Fits : S → R → Type 0) (all : Walked S R) : Type 0 where
  pub fit : All (λ run. Fits run.0 run.1) all.runs
  pub used : all.left ≡ []

settle : {S R : Type 0} (Fits : S → R → Type 0) (all w v : Walked S R) → all ≡ join w v → All (λ run. Fits run.0 run.1) w.runs → All (λ run. Fits run.0 run.1) v.runs → v.left ≡ [] → Settled Fits all
settle {S} {R} Fits all w v e p q r =
    let P : Walked S R → Type 0 = λ x. Settled Fits x in
    subst P (sym e) (record { fit = All-append (λ run. Fits run.0 run.1) w.runs v.runs p q; used = r })

bare_fits : {S R : Type 0} (Fits : S → R → Type 0) (v : Walked S R) → Bare v → All (λ run. Fits run.0 run.1) v.runs
bare_fits {S} {R} Fits v b = let P : List (S × R) → Type 0 = λ l. All (λ run. Fits run.0 run.1) l in subst P (sym b.runs) (All-nil _)

-- All statements were answered, up to a `quit` or to the last; `quits` says which.
record Whole {S R : Type 0} (Fits : S → R → Type 0) (before after : Moment R) (all : Walked S R) (found quits refused : Bool) : Type 0 where
  fit : All (λ run. Fits run.0 run.1) all.runs
  wrote : WroteAll before after all
  quit : found ≡ quits
  flag : all.refused ≡ refused

all_answered : {S R : Type 0} (step : S → Placed → Step S R) (Fits : S → R → Type 0) (ended : Bool) (text : List ℕ) (s : S) (b : Bench R) (w : SinkState) (at : Point S R)
    (goes : Goes step Fits ended text (first_point s b w) at) → IsNew b → HoldsNone ended (drop at.start text) → (lo ln : SourceState)
    → Whole Fits (moment_of lo w b) (moment_of ln at.held.sink at.held.bench) (session step s text ended at.held.bench.records.items) (has_quit (statements ended text)) false at.refused
all_answered {S} {R} step Fits ended text s b w at goes none rest lo ln =
    let m : MayFollow ended ended [] = record { end = λ q. q; none = λ q. refl } in
    let behind : statements_at ended at.number (drop at.start text ++ []) ≡ [] = ap (statements_at ended at.number) (append-nil (drop at.start text)) ∙ rest at.number in
    let all : statements ended text ≡ goes.done ++ [] = ap (statements ended) (sym (append-nil text)) ∙ goes.cut ended [] m ∙ ap (λ l. goes.done ++ l) behind in
    let d = walk step s goes.done goes.added in
    let e : session step s text ended at.held.bench.records.items ≡ join d (walk step at.held.state [] []) =
    session_is step Fits ended text s b w at goes ended text [] [] at.held.bench.records.items all (records_of step Fits ended text s b w at goes none) in
    let P : Walked S R → Type 0 = λ x. Accepts w at.held.sink x.out in
    let Q : List ℕ → Type 0 = λ x. Accepts w at.held.sink x in
    let permits : (session step s text ended at.held.bench.records.items).permits ≡ d.permits + 0 = ap (λ x. x.permits) e in
    let settled = settle Fits (session step s text ended at.held.bench.records.items) d (walk step at.held.state [] []) e goes.fit (All-nil _) refl in
    record {
      fit = settled.fit;
      wrote = record { out = subst P (sym e) (subst Q (sym (append-nil d.out)) goes.put); whole = ap (λ x. x.whole) e; none_left = settled.used; permits = omega (arith, goes.permits, none.permits, permits) };
      quit = ap has_quit all ∙ has_quit-append goes.done [] ∙ or_none (has_quit goes.done) ∙ no_quit step s at.held.state goes.done goes.added goes.end;
      flag = ap (λ x. x.refused) e ∙ or_none d.refused ∙ sym goes.refused;
    }

or_true : (b : Bool) → (b || true) ≡ true
or_true true = refl
or_true false = refl

-- a `quit` comes next, whatever follows
quit_comes : {S R : Type 0} (step : S → Placed → Step S R) (Fits : S → R → Type 0) (ended : Bool) (text : List ℕ) (s : S) (b : Bench R) (w : SinkState) (at : Point S R)
    → QuitsAt step Fits ended text (first_point s b w) at → IsNew b → (lo ln : SourceState) (e : Bool) (more bytes : List ℕ) → MayFollow ended e more → bytes ≡ text ++ more
    → Whole Fits (moment_of lo w b) (moment_of ln at.held.sink at.held.bench) (session step s bytes e at.held.bench.records.items) (has_quit (statements e bytes)) true at.refused
quit_comes {S} {R} step Fits ended text s b w at quits none lo ln e more bytes m is =
    let goes = quits.goes in
    let c = quits.comes e more m in
    let quit : Placed = record { number = quits.number; said = Some Quit } in
    let all : statements e bytes ≡ goes.done ++ (quit ∷ c.0) = ap (statements e) is ∙ goes.cut e more m ∙ ap (λ l. goes.done ++ l) c.1 in
    let d = walk step s goes.done goes.added in
    let v = walk step at.held.state (quit ∷ c.0) [] in
    let j : session step s bytes e at.held.bench.records.items ≡ join d v =
    session_is step Fits ended text s b w at goes e bytes (quit ∷ c.0) [] at.held.bench.records.items all (records_of step Fits ended text s b w at goes none) in
    let P : Walked S R → Type 0 = λ x. Accepts w at.held.sink x.out in
    let Q : List ℕ → Type 0 = λ x. Accepts w at.held.sink x in
    let permits : (session step s bytes e at.held.bench.records.items).permits ≡ d.permits + 0 = ap (λ x. x.permits) j in
    let settled = settle Fits (session step s bytes e at.held.bench.records.items) d v j goes.fit (All-nil _) refl in
    record {
      fit = settled.fit;
      wrote = record { out = subst P (sym j) (subst Q (sym (append-nil d.out)) goes.put); whole = ap (λ x. x.whole) j; none_left = settled.used; permits = omega (arith, goes.permits, none.permits, permits) };
      quit = ap has_quit all ∙ has_quit-append goes.done (quit ∷ c.0) ∙ or_true (has_quit goes.done);
      flag = ap (λ x. x.refused) j ∙ or_none d.refused ∙ sym goes.refused;
    }

-- ---- a session that stops at a statement

-- What the statement at which it stops has come to: its record, if it left one, what its reply begins with, and the permits that were spent.
record StopsAt {S R : Type 0} (Fits : S → R → Type 0) (old new : Bench R) (behind : List R → Walked S R) (begin : List ℕ) : Type 0 where
  extra : List R
  grown : new.records.items ≡ old.records.items ++ extra
  fit : All (λ run. Fits run.0 run.1) (behind extra).runs
  left : (behind extra).left ≡ []
  rest : List ℕ
  out : (behind extra).out ≡ begin ++ rest
  few : new.permits ≤ old.permits + (behind extra).permits

stop_quit : {S R : Type 0} (b : Bool) (Fits : S → R → Type 0) (old new : Bench R) (f : List R → Walked S R) (begin : List ℕ) → b ≡ false
    → StopsAt Fits old new f begin → StopsAt Fits old new (λ extra. pick b extra (f extra)) begin
stop_quit true Fits old new f begin e h = cc
stop_quit false Fits old new f begin e h = h

took_stop : {S R : Type 0} (x : Step S R) (Fits : S → R → Type 0) (s : S) (old new : Bench R) (reply : List ℕ) (refused : Bool) (next : S) (f : S → List R → Walked S R) → ((n : S) → Bare (f n []))
    → Took x (Fits s) old new reply refused next → StopsAt Fits old new (λ extra. after x s extra f) reply
took_stop (Says told) Fits s old new reply refused next f bare (g, n) =
    let b = bare told.next in
    record {
      extra = [];
      grown = n ∙ sym (append-nil old.records.items);
      fit = bare_fits Fits (said told (f told.next [])) (record { runs = b.runs; left = b.left });
      left = b.left;
      rest = (f told.next []).out;
      out = ap (λ l. l ++ (f told.next []).out) (sym g.says);
      few = omega (arith, g.spent);
    }
took_stop (Runs answer) Fits s old new reply refused next f bare (run, l, g) =
    let b = bare (answer run).next in
    record {
      extra = run ∷ [];
      grown = l.last;
      fit = All-cons (λ r. Fits r.0 r.1) (s, run) (f (answer run).next []).runs l.fit (bare_fits Fits (f (answer run).next []) b);
      left = b.left;
      rest = (f (answer run).next []).out;
      out = ap (λ l. l ++ (f (answer run).next []).out) (sym g.says);
      few = omega (arith, g.spent);
    }

broke_stop : {S R : Type 0} (x : Step S R) (Fits : S → R → Type 0) (s : S) (old new : Bench R) (f : S → List R → Walked S R) → ((n : S) → Bare (f n [])) → Broke x old new
    → StopsAt Fits old new (λ extra. after x s extra f) []
broke_stop (Says told) Fits s old new f bare (n, few) =
    let b = bare told.next in
    record {
      extra = [];
      grown = n ∙ sym (append-nil old.records.items);
      fit = bare_fits Fits (said told (f told.next [])) (record { runs = b.runs; left = b.left });
      left = b.left;
      rest = told.reply ++ (f told.next []).out;
      out = refl;
      few = omega (arith, few.1);
    }
broke_stop (Runs answer) Fits s old new f bare (n, same) = record {
  extra = [];
  grown = n ∙ sym (append-nil old.records.items);
  fit = All-nil _;
  left = refl;
  rest = [];
  out = refl;
  few = omega (arith, same);
}

-- What was written is a front of what the session writes, and no more permits were spent.
-- `Put` tells what was put.
record Front {S R : Type 0} (Fits : S → R → Type 0) (Put : List ℕ → Type 0) (missing : List ℕ) (permits : ℕ) (all : Walked S R) : Type 0 where
  settled : Settled Fits all
  begin : List ℕ
  rest : List ℕ
  out : all.out ≡ begin ++ (missing ++ rest)
  put : Put begin
  few : permits ≤ all.permits

front_of : {S R : Type 0} (step : S → Placed → Step S R) (Fits : S → R → Type 0) (ended : Bool) (text : List ℕ) (s : S) (b new : Bench R) (w : SinkState) (Put : List ℕ → Type 0) (at : Point S R)
    (goes : Goes step Fits ended text (first_point s b w) at) → IsNew b → (placed : Placed) (part missing : List ℕ) → Comes ended text at placed → is_quit placed.said ≡ false
    → ((later : List Placed) → StopsAt Fits at.held.bench new (λ extra. after (step at.held.state placed) at.held.state extra (λ n r. walk step n later r)) (part ++ missing))
    → Put ((walk step s goes.done goes.added).out ++ part) → (e : Bool) (more bytes : List ℕ) → MayFollow ended e more → bytes ≡ text ++ more
    → Front Fits Put missing new.permits (session step s bytes e new.records.items)
front_of {S} {R} step Fits ended text s b new w Put at goes none placed part missing comes quit stops put e more bytes m is =
    let c = comes e more m in
    let all : statements e bytes ≡ goes.done ++ (placed ∷ c.0) = ap (statements e) is ∙ goes.cut e more m ∙ ap (λ l. goes.done ++ l) c.1 in
    let t : StopsAt Fits at.held.bench new (λ extra. walk step at.held.state (placed ∷ c.0) extra) (part ++ missing) =
    stop_quit (is_quit placed.said) Fits at.held.bench new (λ extra. after (step at.held.state placed) at.held.state extra (λ n r. walk step n c.0 r)) (part ++ missing) quit (stops c.0) in
    let d = walk step s goes.done goes.added in
    let v = walk step at.held.state (placed ∷ c.0) t.extra in
    let records : new.records.items ≡ goes.added ++ t.extra = t.grown ∙ ap (λ l. l ++ t.extra) (goes.records ∙ ap (λ l. l ++ goes.added) none.records) in
    let j : session step s bytes e new.records.items ≡ join d v = session_is step Fits ended text s b w at goes e bytes (placed ∷ c.0) t.extra new.records.items all records in
    let permits : (session step s bytes e new.records.items).permits ≡ d.permits + v.permits = ap (λ x. x.permits) j in
    record {
      settled = settle Fits (session step s bytes e new.records.items) d v j goes.fit t.fit t.left;
      begin = d.out ++ part;
      rest = t.rest;
      out = ap (λ x. x.out) j ∙ ap (λ l. d.out ++ l) (t.out ∙ append_assoc part missing t.rest) ∙ sym (append_assoc d.out part (missing ++ t.rest));
      put = put;
      few = omega (arith, permits, t.few, goes.permits, none.permits);
    }

cut_front : {S R : Type 0} (step : S → Placed → Step S R) (Fits : S → R → Type 0) (ended : Bool) (text : List ℕ) (s : S) (b : Bench R) (w : SinkState) (at : Point S R) (to : Held S R)
    (goes : Goes step Fits ended text (first_point s b w) at) → IsNew b → (placed : Placed) → Comes ended text at placed → is_quit placed.said ≡ false
    → (cuts : Cuts step Fits placed at.held to) → (e : Bool) (more bytes : List ℕ) → MayFollow ended e more → bytes ≡ text ++ more
    → Front Fits (AcceptsUntilFault w to.sink) cuts.missing to.bench.permits (session step s bytes e to.bench.records.items)
cut_front {S} {R} step Fits ended text s b w at to goes none placed comes quit cuts e more bytes m is =
    front_of step Fits ended text s b to.bench w (AcceptsUntilFault w to.sink) at goes none placed cuts.part cuts.missing comes quit
    (λ later. took_stop (step at.held.state placed) Fits at.held.state at.held.bench to.bench (cuts.part ++ cuts.missing) cuts.refused to.state (λ n r. walk step n later r) (λ n. walk_bare step n later) cuts.took)
    (Accepts-until w at.held.sink to.sink (walk step s goes.done goes.added).out cuts.part goes.put cuts.put) e more bytes m is

break_front : {S R : Type 0} (step : S → Placed → Step S R) (Fits : S → R → Type 0) (ended : Bool) (text : List ℕ) (s : S) (b : Bench R) (w : SinkState) (at : Point S R) (to : Held S R)
    (goes : Goes step Fits ended text (first_point s b w) at) → IsNew b → (placed : Placed) → Comes ended text at placed → is_quit placed.said ≡ false
    → Breaks step placed at.held to → (e : Bool) (more bytes : List ℕ) → MayFollow ended e more → bytes ≡ text ++ more
    → Front Fits (Accepts w to.sink) [] to.bench.permits (session step s bytes e to.bench.records.items)
break_front {S} {R} step Fits ended text s b w at to goes none placed comes quit breaks e more bytes m is =
    front_of step Fits ended text s b to.bench w (Accepts w to.sink) at goes none placed [] [] comes quit
    (λ later. broke_stop (step at.held.state placed) Fits at.held.state at.held.bench to.bench (λ n r. walk step n later r) (λ n. walk_bare step n later) breaks.broke)
    (Accepts-trans w at.held.sink to.sink (walk step s goes.done goes.added).out [] goes.put breaks.put) e more bytes m is

-- where no statement was begun, too
same_front : {S R : Type 0} (step : S → Placed → Step S R) (Fits : S → R → Type 0) (ended : Bool) (text : List ℕ) (s : S) (b : Bench R) (w : SinkState) (at : Point S R)
    (goes : Goes step Fits ended text (first_point s b w) at) → IsNew b → (e : Bool) (more bytes : List ℕ) → MayFollow ended e more → bytes ≡ text ++ more
    → Front Fits (Accepts w at.held.sink) [] at.held.bench.permits (session step s bytes e at.held.bench.records.items)
same_front step Fits ended text s b w at goes none e more bytes m is =
    let later = statements_at e at.number (drop at.start text ++ more) in
    let d = walk step s goes.done goes.added in
    let v = walk step at.held.state later [] in
    let bare = walk_bare step at.held.state later in
    let j : session step s bytes e at.held.bench.records.items ≡ join d v =
    session_is step Fits ended text s b w at goes e bytes later [] at.held.bench.records.items (ap (statements e) is ∙ goes.cut e more m) (records_of step Fits ended text s b w at goes none) in
    let permits : (session step s bytes e at.held.bench.records.items).permits ≡ d.permits + v.permits = ap (λ x. x.permits) j in
    record {
      settled = settle Fits (session step s bytes e at.held.bench.records.items) d v j goes.fit (bare_fits Fits v bare) bare.left;
      begin = d.out;
      rest = v.out;
      out = ap (λ x. x.out) j;
      put = goes.put;
      few = omega (arith, permits, goes.permits, none.permits);
    }

-- ---- a text that grows

may_follow : (e : Bool) (more : List ℕ) → MayFollow false e more
may_follow e more = record { end = λ q. cc; none = λ q. cc }

Goes-append : {S R : Type 0} (step : S → Placed → Step S R) (Fits : S → R → Type 0) (text more : List ℕ) (from to : Point S R) → Goes step Fits false text from to → Goes step Fits false (text ++ more) from to
Goes-append step Fits text more from to goes = record {
  done = goes.done;
  added = goes.added;
  in_order = goes.in_order;
  within = omega (arith, goes.within, length-append {A = ℕ});
  lines = goes.lines;
  cut = λ e rest m.
      ap (λ l. statements_at e from.number (l ++ rest)) (drop-append-le from.start text more (omega (arith, goes.within, goes.in_order)))
      ∙ ap (statements_at e from.number) (append_assoc (drop from.start text) more rest)
      ∙ goes.cut e (more ++ rest) (may_follow e (more ++ rest))
      ∙ ap (λ l. goes.done ++ statements_at e to.number l) (sym (ap (λ l. l ++ rest) (drop-append-le to.start text more goes.within) ∙ append_assoc (drop to.start text) more rest));
  records = goes.records;
  permits = goes.permits;
  left = goes.left;
  end = goes.end;
  fit = goes.fit;
  put = goes.put;
  refused = goes.refused;
}

Goes-ended : {S R : Type 0} (step : S → Placed → Step S R) (Fits : S → R → Type 0) (text : List ℕ) (from to : Point S R) → Goes step Fits false text from to → Goes step Fits true text from to
Goes-ended step Fits text from to goes = record {
  done = goes.done;
  added = goes.added;
  in_order = goes.in_order;
  within = goes.within;
  lines = goes.lines;
  cut = λ e rest m. goes.cut e rest (may_follow e rest);
  records = goes.records;
  permits = goes.permits;
  left = goes.left;
  end = goes.end;
  fit = goes.fit;
  put = goes.put;
  refused = goes.refused;
}

IsReady-append : (text more : List ℕ) (place : Place) (permits : ℕ) → IsReady text place permits → IsReady (text ++ more) place permits
IsReady-append text more place permits r =
    let P : List ℕ → Type 0 = λ l. Scanned l place.scan.line place.scan.seen place.scan.in_text in
    record {
      within = omega (arith, r.within, length-append {A = ℕ});
      lines = r.lines;
      few = r.few;
      scanned = subst P (sym (drop-append-le place.start text more r.within)) (Scanned-append (drop place.start text) more place.scan.line place.scan.seen place.scan.in_text r.scanned);
    }

-- the front of a text that grew
grown : (most : ℕ) (old new piece : List ℕ) → length old ≤ most → new ≡ old ++ piece → take most new ≡ take most old ++ take (most - length old) piece
grown most old new piece h e =
    let n : length old + (most - length old) ≡ most = omega arith in
    ap (take most) e ∙ ap (λ m. take m (old ++ piece)) (sym n) ∙ take-append-add old piece (most - length old) ∙ ap (λ l. l ++ take (most - length old) piece) (sym (take_all most old h))

Goes-grown : {S R : Type 0} (step : S → Placed → Step S R) (Fits : S → R → Type 0) (most : ℕ) (old new piece : List ℕ) (from to : Point S R) → length old ≤ most → new ≡ old ++ piece
    → Goes step Fits false (take most old) from to → Goes step Fits false (take most new) from to
Goes-grown {S} {R} step Fits most old new piece from to h e goes =
    let P : List ℕ → Type 0 = λ l. Goes step Fits false l from to in
    subst P (sym (grown most old new piece h e)) (Goes-append step Fits (take most old) (take (most - length old) piece) from to goes)

IsReady-grown : (most : ℕ) (old new piece : List ℕ) (place : Place) (permits : ℕ) → length old ≤ most → new ≡ old ++ piece → IsReady (take most old) place permits → IsReady (take most new) place permits
IsReady-grown most old new piece place permits h e r =
    let P : List ℕ → Type 0 = λ l. IsReady l place permits in
    subst P (sym (grown most old new piece h e)) (IsReady-append (take most old) (take (most - length old) piece) place permits r)

-- what was answered before, and then this
reaches_after : {S R : Type 0} (step : S → Placed → Step S R) (Fits : S → R → Type 0) (ended : Bool) (text : List ℕ) (from mid : Point S R) (Of : Placed → Held S R → Type 0) → Goes step Fits ended text from mid
    → Reaches step Fits ended text mid Of → Reaches step Fits ended text from Of
reaches_after step Fits ended text from mid Of goes r =
    record { at = r.at; placed = r.placed; goes = Goes-trans step Fits ended text from mid r.at goes r.goes; comes = r.comes; no_quit = r.no_quit; holds = r.holds }

Ends-after : {S R : Type 0} (step : S → Placed → Step S R) (Fits : S → R → Type 0) (ended : Bool) (text : List ℕ) (from mid to : Point S R) (f : Flow) → Goes step Fits ended text from mid
    → Ends step Fits ended text mid to f → Ends step Fits ended text from to f
Ends-after step Fits ended text from mid to flow.Open goes e = record { goes = Goes-trans step Fits ended text from mid to goes e.goes; none = e.none }
Ends-after step Fits ended text from mid to flow.Quits goes e = record { number = e.number; goes = Goes-trans step Fits ended text from mid to goes e.goes; comes = e.comes }
Ends-after step Fits ended text from mid to (flow.Stopped stop.WriteFault) goes e = reaches_after step Fits ended text from mid (λ placed held. Cuts step Fits placed held to.held) goes e
Ends-after step Fits ended text from mid to (flow.Stopped stop.NoMemory) goes (inl e) = inl (Goes-trans step Fits ended text from mid to goes e)
Ends-after step Fits ended text from mid to (flow.Stopped stop.NoMemory) goes (inr e) = inr (reaches_after step Fits ended text from mid (λ placed held. Breaks step placed held to.held) goes e)

-- ---- how far a session came that stopped

-- what a text begins with
begins : {S R : Type 0} (step : S → Placed → Step S R) (Fits : S → R → Type 0) (ended : Bool) (text : List ℕ) (s : S) (b : Bench R) (w : SinkState) (at : Point S R)
    (goes : Goes step Fits ended text (first_point s b w) at) (begun : List Placed)
    → ((e : Bool) (more : List ℕ) → MayFollow ended e more → Begins begun (statements_at e at.number (drop at.start text ++ more)))
    → (e : Bool) (more bytes : List ℕ) → MayFollow ended e more → bytes ≡ text ++ more → Begins (goes.done ++ begun) (statements e bytes)
begins step Fits ended text s b w at goes begun comes e more bytes m is =
    let c = comes e more m in
    (c.0, ap (statements e) is ∙ goes.cut e more m ∙ ap (λ l. goes.done ++ l) c.1 ∙ sym (append_assoc goes.done begun c.0))

none_begun : {S R : Type 0} (ended : Bool) (text : List ℕ) (at : Point S R) (e : Bool) (more : List ℕ) → MayFollow ended e more → Begins [] (statements_at e at.number (drop at.start text ++ more))
none_begun ended text at e more m = (statements_at e at.number (drop at.start text ++ more), refl)

parts : (text : List ℕ) → text ≡ take limit text ++ drop limit text
parts text = sym (take-append-drop limit text)

alone : (text : List ℕ) → text ≡ text ++ []
alone text = sym (append-nil text)

at_end : MayFollow true true []
at_end = record { end = λ q. q; none = λ q. refl }

not_both : {A : Type 0} (b : Bool) → b ≡ true → b ≡ false → A
not_both true p q = cc
not_both false p q = cc

open_first : (source : SourceState) (text : List ℕ) (these : List Placed) → ((e : Bool) (more bytes : List ℕ) → MayFollow false e more → bytes ≡ take limit text ++ more → Begins these (statements e bytes))
    → AreFirst source text these
open_first source text these h = record {
  read = h true (drop limit text) text (may_follow true (drop limit text)) (parts text);
  whole = λ _. h false [] (take limit text) (may_follow false []) (alone (take limit text));
}

last_first : (source : SourceState) (text : List ℕ) (these : List Placed) → IsEnded source → ((e : Bool) (more bytes : List ℕ) → MayFollow true e more → bytes ≡ text ++ more → Begins these (statements e bytes))
    → AreFirst source text these
last_first source text these end h = record { read = h true [] text at_end (alone text); whole = λ n. not_both source.ended end.said n }

-- the first statements with the records of all: those of the others are left
walk_part : {S R : Type 0} (step : S → Placed → Step S R) (s s' : S) (done : List Placed) (added extra : List R) → (walk step s done added).left ≡ [] → (walk step s done added).end ≡ Some s'
    → walk step s done (added ++ extra) ≡ join (walk step s done added) (passed s' extra)
walk_part step s s' done added extra l e = ap (λ x. walk step s x (added ++ extra)) (sym (append-nil done)) ∙ walk-append step s s' done [] added extra l e

some_end : {S : Type 0} (x : Option S) (y : S) → x ≡ Some y → IsSome x
some_end x y e = let P : Option _ → Type 0 = λ o. IsSome o in subst P (sym e) refl

cut_short : {S R : Type 0} (step : S → Placed → Step S R) (Fits : S → R → Type 0) (ended : Bool) (text : List ℕ) (s : S) (b : Bench R) (w : SinkState) (at : Point S R) (to : Held S R)
    (goes : Goes step Fits ended text (first_point s b w) at) → IsNew b → (placed : Placed) → is_quit placed.said ≡ false → Cuts step Fits placed at.held to
    → (lo ln : SourceState) (taken : List ℕ) → AreFirst ln taken (goes.done ++ placed ∷ []) → IsCutShort step s (moment_of lo w b) (moment_of ln to.sink to.bench) taken
cut_short {S} {R} step Fits ended text s b w at to goes none placed quit cuts lo ln taken first =
    let reply = cuts.part ++ cuts.missing in
    let one = one_quit (is_quit placed.said) Fits at.held.bench.records.items to.bench.records.items at.held.bench.permits to.bench.permits reply cuts.refused to.state
    (λ added. after (step at.held.state placed) at.held.state added passed) quit
    (one_step (step at.held.state placed) Fits at.held.state at.held.bench to.bench reply cuts.refused to.state cuts.took) in
    let d = walk step s goes.done goes.added in
    let v = walk step at.held.state (placed ∷ []) one.added in
    let records : to.bench.records.items ≡ goes.added ++ one.added = one.grown ∙ ap (λ l. l ++ one.added) (goes.records ∙ ap (λ l. l ++ goes.added) none.records) in
    let both : walk step s (goes.done ++ placed ∷ []) to.bench.records.items ≡ join d v =
    ap (walk step s (goes.done ++ placed ∷ [])) records ∙ walk-append step s at.held.state goes.done (placed ∷ []) goes.added one.added goes.left goes.end in
    let before : (walk step s goes.done to.bench.records.items).out ≡ d.out =
    ap (λ r. (walk step s goes.done r).out) records ∙ ap (λ x. x.out) (walk_part step s at.held.state goes.done goes.added one.added goes.left goes.end) ∙ append-nil d.out in
    let spent : to.bench.permits ≡ at.held.bench.permits + v.permits = one.permits in
    let permits : (walk step s (goes.done ++ placed ∷ []) to.bench.records.items).permits ≡ d.permits + v.permits = ap (λ x. x.permits) both in
    let P : List ℕ → Type 0 = λ l. AcceptsUntilFault w to.sink (l ++ cuts.part) in
    record {
      done = goes.done;
      last = placed;
      first = first;
      answered = some_end _ to.state (ap (λ x. x.end) both ∙ one.end);
      none_left = ap (λ x. x.left) both ∙ one.left;
      permits = omega (arith, spent, permits, goes.permits, none.permits);
      part = cuts.part;
      missing = cuts.missing;
      some = cuts.some;
      out = ap (λ x. x.out) both ∙ ap (λ l. d.out ++ l) one.out ∙ ap (λ l. l ++ reply) (sym before);
      put = subst P (sym before) (Accepts-until w at.held.sink to.sink d.out cuts.part goes.put cuts.put);
    }

broke_least : {S R : Type 0} (x : Step S R) (old new : Bench R) → Broke x old new → old.permits ≤ new.permits
broke_least (Says told) old new (n, few) = few.0
broke_least (Runs answer) old new (n, same) = omega (arith, same)

-- it leaves no record
broke_none : {S R : Type 0} (x : Step S R) (old new : Bench R) → Broke x old new → new.records.items ≡ old.records.items
broke_none (Says told) old new (n, few) = n
broke_none (Runs answer) old new (n, same) = n

empty : {A : Type 0} (xs : List A) → length xs ≡ 0 → xs ≡ []
empty [] e = refl
empty (x ∷ xs) e = cc

none_more : {A : Type 0} (xs ys zs : List A) → ys ≡ xs ++ zs → ys ≡ xs → zs ≡ []
none_more xs ys zs grown same = empty zs (omega (arith, ap length grown, ap length same, length-append xs zs))

broken_off : {S R : Type 0} (step : S → Placed → Step S R) (Fits : S → R → Type 0) (ended : Bool) (text : List ℕ) (s : S) (b : Bench R) (w : SinkState) (at : Point S R) (to : Held S R)
    (goes : Goes step Fits ended text (first_point s b w) at) → IsNew b → (placed : Placed) → is_quit placed.said ≡ false → Breaks step placed at.held to
    → (lo ln : SourceState) (taken : List ℕ) → AreFirst ln taken (goes.done ++ placed ∷ []) → IsBrokenOff step s (moment_of lo w b) (moment_of ln to.sink to.bench) taken
broken_off {S} {R} step Fits ended text s b w at to goes none placed quit breaks lo ln taken first =
    let t : StopsAt Fits at.held.bench to.bench (λ extra. walk step at.held.state (placed ∷ []) extra) [] =
    stop_quit (is_quit placed.said) Fits at.held.bench to.bench (λ extra. after (step at.held.state placed) at.held.state extra (λ n r. walk step n [] r)) [] quit
    (broke_stop (step at.held.state placed) Fits at.held.state at.held.bench to.bench (λ n r. walk step n [] r) (λ n. walk_bare step n []) breaks.broke) in
    let d = walk step s goes.done goes.added in
    let v = walk step at.held.state (placed ∷ []) t.extra in
    let records : to.bench.records.items ≡ goes.added ++ t.extra = t.grown ∙ ap (λ l. l ++ t.extra) (goes.records ∙ ap (λ l. l ++ goes.added) none.records) in
    let both : walk step s (goes.done ++ placed ∷ []) to.bench.records.items ≡ join d v =
    ap (walk step s (goes.done ++ placed ∷ [])) records ∙ walk-append step s at.held.state goes.done (placed ∷ []) goes.added t.extra goes.left goes.end in
    let front : walk step s goes.done to.bench.records.items ≡ join d (passed at.held.state t.extra) =
    ap (walk step s goes.done) records ∙ walk_part step s at.held.state goes.done goes.added t.extra goes.left goes.end in
    let permits : (walk step s (goes.done ++ placed ∷ []) to.bench.records.items).permits ≡ d.permits + v.permits = ap (λ x. x.permits) both in
    let fewer : (walk step s goes.done to.bench.records.items).permits ≡ d.permits + 0 = ap (λ x. x.permits) front in
    let few : to.bench.permits ≤ at.held.bench.permits + v.permits = t.few in
    let least : at.held.bench.permits ≤ to.bench.permits = broke_least (step at.held.state placed) at.held.bench to.bench breaks.broke in
    let P : List ℕ → Type 0 = λ l. Accepts w to.sink l in
    record {
      done = goes.done;
      begun = placed ∷ [];
      one = omega arith;
      first = first;
      answered = some_end _ at.held.state (ap (λ x. x.end) front);
      put = subst P (sym (ap (λ x. x.out) front)) (Accepts-trans w at.held.sink to.sink d.out [] goes.put breaks.put);
      none_left = ap (λ x. x.left) front ∙ none_more at.held.bench.records.items to.bench.records.items t.extra t.grown (broke_none (step at.held.state placed) at.held.bench to.bench breaks.broke);
      least = omega (arith, least, fewer, goes.permits, none.permits);
      most = omega (arith, few, permits, goes.permits, none.permits);
    }

-- where no statement was begun
broken_between : {S R : Type 0} (step : S → Placed → Step S R) (Fits : S → R → Type 0) (ended : Bool) (text : List ℕ) (s : S) (b : Bench R) (w : SinkState) (at : Point S R)
    (goes : Goes step Fits ended text (first_point s b w) at) → IsNew b
    → (lo ln : SourceState) (taken : List ℕ) → AreFirst ln taken (goes.done ++ []) → IsBrokenOff step s (moment_of lo w b) (moment_of ln at.held.sink at.held.bench) taken
broken_between {S} {R} step Fits ended text s b w at goes none lo ln taken first =
    let d = walk step s goes.done goes.added in
    let front : walk step s goes.done at.held.bench.records.items ≡ d = ap (walk step s goes.done) (records_of step Fits ended text s b w at goes none ∙ append-nil goes.added) in
    let both : walk step s (goes.done ++ []) at.held.bench.records.items ≡ d = ap (λ l. walk step s l at.held.bench.records.items) (append-nil goes.done) ∙ front in
    let permits : (walk step s (goes.done ++ []) at.held.bench.records.items).permits ≡ d.permits = ap (λ x. x.permits) both in
    let fewer : (walk step s goes.done at.held.bench.records.items).permits ≡ d.permits = ap (λ x. x.permits) front in
    let P : List ℕ → Type 0 = λ l. Accepts w at.held.sink l in
    record {
      done = goes.done;
      begun = [];
      one = omega arith;
      first = first;
      answered = some_end _ at.held.state (ap (λ x. x.end) front ∙ goes.end);
      put = subst P (sym (ap (λ x. x.out) front)) goes.put;
      none_left = ap (λ x. x.left) front ∙ goes.left;
      least = omega (arith, fewer, goes.permits, none.permits);
      most = omega (arith, permits, goes.permits, none.permits);
    }

-- ---- the outcomes

part_of : {S R : Type 0} (Fits : S → R → Type 0) (w written : SinkState) (missing : List ℕ) (permits : ℕ) (all : Walked S R) → Front Fits (AcceptsUntilFault w written) missing permits all → 0 < length missing → WritesPart w written all.out
part_of Fits w written missing permits all f some = (f.begin, missing ++ f.rest, f.out, omega (arith, some, length-append {A = ℕ}), f.put)

front_in : {S R : Type 0} (Fits : S → R → Type 0) (w written : SinkState) (missing : List ℕ) (permits : ℕ) (all : Walked S R) → Front Fits (Accepts w written) missing permits all → WritesFront w written all.out
front_in Fits w written missing permits all f = (f.begin, missing ++ f.rest, f.out, f.put)

-- no take failed
taken_done : (lo ln : SourceState) (taken : List ℕ) (flag : Bool) → Gives lo ln taken → IsTaken lo ln taken (done_status flag)
taken_done lo ln taken true took = took
taken_done lo ln taken false took = took

tells_done : {S R : Type 0} (step : S → Placed → Step S R) (s : S) (before after : Moment R) (taken : List ℕ) (flag : Bool)
    → IsReadThrough after.source taken → WroteAll before after (session step s taken true after.bench.records.items) → (session step s taken true after.bench.records.items).refused ≡ flag
    → StatusSays step s before after taken (done_status flag)
tells_done step s before after taken true read wrote e = (read, wrote, e)
tells_done step s before after taken false read wrote e = (read, wrote, e)

-- where no memory was left, and no statement was begun
pub open_memory : {S R : Type 0} (step : S → Placed → Step S R) (Fits : S → R → Type 0) (s : S) (b : Bench R) (lo ln : SourceState) (w : SinkState) (text : List ℕ) (to : Point S R) → IsNew b → Gives lo ln text
    → Goes step Fits false (take limit text) (first_point s b w) to → Outcome step Fits s (moment_of lo w b) (moment_of ln to.held.sink to.held.bench) NoMemory
open_memory step Fits s b lo ln w text to none took goes =
    let f = λ (e : Bool). same_front step Fits false (take limit text) s b w to goes none e (drop limit text) text (may_follow e (drop limit text)) (parts text) in
    let all = λ (e : Bool). session step s text e to.held.bench.records.items in
    record {
      taken = text;
      took = took;
      fit = (f true).settled.fit;
      told = (
        broken_between step Fits false (take limit text) s b w to goes none lo ln text (open_first ln text _ (begins step Fits false (take limit text) s b w to goes [] (none_begun false (take limit text) to))),
        front_in Fits w to.held.sink [] to.held.bench.permits (all true) (f true),
        (λ _. front_in Fits w to.held.sink [] to.held.bench.permits (all false) (f false)),
      );
    }

-- in the midst of the text
pub open_outcome : {S R : Type 0} (step : S → Placed → Step S R) (Fits : S → R → Type 0) (s : S) (b : Bench R) (lo ln : SourceState) (w : SinkState) (text : List ℕ) (to : Point S R) (f : Flow) → IsNew b → Gives lo ln text
    → Ends step Fits false (take limit text) (first_point s b w) to f → is_open f ≡ false
    → Outcome step Fits s (moment_of lo w b) (moment_of ln to.held.sink to.held.bench) (status_of f to.refused)
open_outcome step Fits s b lo ln w text to flow.Open none took ends shut = cc
open_outcome step Fits s b lo ln w text to flow.Quits none took ends shut =
    let front = take limit text in
    let q = quit_comes step Fits false front s b w to ends none lo ln true (drop limit text) text (may_follow true (drop limit text)) (parts text) in
    let h = quit_comes step Fits false front s b w to ends none lo ln false [] front (may_follow false []) (alone front) in
    record {
      taken = text;
      took = taken_done lo ln text to.refused took;
      fit = q.fit;
      told = tells_done step s (moment_of lo w b) (moment_of ln to.held.sink to.held.bench) text to.refused (inr h.quit) q.wrote q.flag;
    }
open_outcome step Fits s b lo ln w text to (flow.Stopped stop.WriteFault) none took r shut =
    let f = λ (e : Bool). cut_front step Fits false (take limit text) s b w r.at to.held r.goes none r.placed r.comes r.no_quit r.holds e (drop limit text) text (may_follow e (drop limit text)) (parts text) in
    let k = cut_front step Fits false (take limit text) s b w r.at to.held r.goes none r.placed r.comes r.no_quit r.holds false [] (take limit text) (may_follow false []) (alone (take limit text)) in
    let all = λ (e : Bool). session step s text e to.held.bench.records.items in
    record {
      taken = text;
      took = took;
      fit = (f true).settled.fit;
      told = (
        cut_short step Fits false (take limit text) s b w r.at to.held r.goes none r.placed r.no_quit r.holds lo ln text
            (open_first ln text _ (begins step Fits false (take limit text) s b w r.at r.goes (r.placed ∷ []) r.comes)),
        part_of Fits w to.held.sink r.holds.missing to.held.bench.permits (all true) (f true) r.holds.some,
        (λ _. part_of Fits w to.held.sink r.holds.missing to.held.bench.permits (all false) (f false) r.holds.some),
        (λ _. part_of Fits w to.held.sink r.holds.missing to.held.bench.permits (session step s (take limit text) false to.held.bench.records.items) k r.holds.some),
      );
    }
open_outcome step Fits s b lo ln w text to (flow.Stopped stop.NoMemory) none took (inl goes) shut = open_memory step Fits s b lo ln w text to none took goes
open_outcome step Fits s b lo ln w text to (flow.Stopped stop.NoMemory) none took (inr r) shut =
    let f = λ (e : Bool). break_front step Fits false (take limit text) s b w r.at to.held r.goes none r.placed r.comes r.no_quit r.holds e (drop limit text) text (may_follow e (drop limit text)) (parts text) in
    let all = λ (e : Bool). session step s text e to.held.bench.records.items in
    record {
      taken = text;
      took = took;
      fit = (f true).settled.fit;
      told = (
        broken_off step Fits false (take limit text) s b w r.at to.held r.goes none r.placed r.no_quit r.holds lo ln text
            (open_first ln text _ (begins step Fits false (take limit text) s b w r.at r.goes (r.placed ∷ []) r.comes)),
        front_in Fits w to.held.sink [] to.held.bench.permits (all true) (f true),
        (λ _. front_in Fits w to.held.sink [] to.held.bench.permits (all false) (f false)),
      );
    }

-- where the source failed, or the text is too long: all whole statements before were answered

pub read_fault : {S R : Type 0} (step : S → Placed → Step S R) (Fits : S → R → Type 0) (s : S) (b : Bench R) (lo ln : SourceState) (w : SinkState) (text : List ℕ) (at : Point S R) → IsNew b → GivesUntilFault lo ln text → ln.ended ≡ false
    → length text ≤ limit → AnswersAll step Fits false (take limit text) (first_point s b w) at → Outcome step Fits s (moment_of lo w b) (moment_of ln at.held.sink at.held.bench) ReadFault
read_fault {S} {R} step Fits s b lo ln w text at none took on h all =
    let a = all_answered step Fits false (take limit text) s b w at all.goes none all.none lo ln in
    let t = same_front step Fits false (take limit text) s b w at all.goes none true (drop limit text) text (may_follow true (drop limit text)) (parts text) in
    let P : List ℕ → Type 0 = λ l. (has_quit (statements false l) ≡ false) × WroteAll (moment_of lo w b) (moment_of ln at.held.sink at.held.bench) (session step s l false at.held.bench.records.items) in
    record { taken = text; took = took; fit = t.settled.fit; told = let q = subst P (take_all limit text h) (a.quit, a.wrote) in (h, on, q.0, q.1) }

pub too_long : {S R : Type 0} (step : S → Placed → Step S R) (Fits : S → R → Type 0) (s : S) (b : Bench R) (lo ln : SourceState) (w : SinkState) (text : List ℕ) (at : Point S R) → IsNew b → Gives lo ln text → limit < length text
    → AnswersAll step Fits false (take limit text) (first_point s b w) at → Outcome step Fits s (moment_of lo w b) (moment_of ln at.held.sink at.held.bench) TooLong
too_long step Fits s b lo ln w text at none took h all =
    let a = all_answered step Fits false (take limit text) s b w at all.goes none all.none lo ln in
    let t = same_front step Fits false (take limit text) s b w at all.goes none true (drop limit text) text (may_follow true (drop limit text)) (parts text) in
    record { taken = text; took = took; fit = t.settled.fit; told = (h, a.quit, a.wrote) }

-- at the end of the text
pub last_outcome : {S R : Type 0} (step : S → Placed → Step S R) (Fits : S → R → Type 0) (s : S) (b : Bench R) (lo ln : SourceState) (w : SinkState) (text : List ℕ) (to : Point S R) (f : Flow) → IsNew b → Gives lo ln text → IsEnded ln
    → length text ≤ limit → Ends step Fits true text (first_point s b w) to f
    → Outcome step Fits s (moment_of lo w b) (moment_of ln to.held.sink to.held.bench) (status_of f to.refused)
last_outcome step Fits s b lo ln w text to flow.Open none took end h all =
    let a = all_answered step Fits true text s b w to all.goes none all.none lo ln in
    record {
      taken = text;
      took = taken_done lo ln text to.refused took;
      fit = a.fit;
      told = tells_done step s (moment_of lo w b) (moment_of ln to.held.sink to.held.bench) text to.refused (inl (end, h)) a.wrote a.flag;
    }
last_outcome step Fits s b lo ln w text to flow.Quits none took end h quits =
    let q = quit_comes step Fits true text s b w to quits none lo ln true [] text at_end (alone text) in
    record {
      taken = text;
      took = taken_done lo ln text to.refused took;
      fit = q.fit;
      told = tells_done step s (moment_of lo w b) (moment_of ln to.held.sink to.held.bench) text to.refused (inl (end, h)) q.wrote q.flag;
    }
last_outcome step Fits s b lo ln w text to (flow.Stopped stop.WriteFault) none took end h r =
    let f = cut_front step Fits true text s b w r.at to.held r.goes none r.placed r.comes r.no_quit r.holds true [] text at_end (alone text) in
    record {
      taken = text;
      took = took;
      fit = f.settled.fit;
      told = (
        cut_short step Fits true text s b w r.at to.held r.goes none r.placed r.no_quit r.holds lo ln text
            (last_first ln text _ end (begins step Fits true text s b w r.at r.goes (r.placed ∷ []) r.comes)),
        part_of Fits w to.held.sink r.holds.missing to.held.bench.permits (session step s text true to.held.bench.records.items) f r.holds.some,
        (λ n. not_both ln.ended end.said n),
        (λ k. absurd (omega arith)),
      );
    }
last_outcome step Fits s b lo ln w text to (flow.Stopped stop.NoMemory) none took end h (inl goes) =
    let f = same_front step Fits true text s b w to goes none true [] text at_end (alone text) in
    record {
      taken = text;
      took = took;
      fit = f.settled.fit;
      told = (
        broken_between step Fits true text s b w to goes none lo ln text (last_first ln text _ end (begins step Fits true text s b w to goes [] (none_begun true text to))),
        front_in Fits w to.held.sink [] to.held.bench.permits (session step s text true to.held.bench.records.items) f,
        (λ n. not_both ln.ended end.said n),
      );
    }
last_outcome step Fits s b lo ln w text to (flow.Stopped stop.NoMemory) none took end h (inr r) =
    let f = break_front step Fits true text s b w r.at to.held r.goes none r.placed r.comes r.no_quit r.holds true [] text at_end (alone text) in
    record {
      taken = text;
      took = took;
      fit = f.settled.fit;
      told = (
        broken_off step Fits true text s b w r.at to.held r.goes none r.placed r.no_quit r.holds lo ln text
            (last_first ln text _ end (begins step Fits true text s b w r.at r.goes (r.placed ∷ []) r.comes)),
        front_in Fits w to.held.sink [] to.held.bench.permits (session step s text true to.held.bench.records.items) f,
        (λ n. not_both ln.ended end.said n),
      );
    }

-- ---- the loop over the pieces

pub open_took : (lo mid ln : SourceState) (most : ℕ) (old new : List ℕ) → Gives lo mid old → Takes mid ln most old new piece.Some → Gives lo ln new
open_took lo mid ln most old new a (bytes', e, some, within, b, on) = let P : List ℕ → Type 0 = λ l. Gives lo ln l in subst P (sym e) (Gives-trans lo mid ln old bytes' a b)

pub fault_took : (lo mid ln : SourceState) (text : List ℕ) → Gives lo mid text → GivesUntilFault mid ln [] → GivesUntilFault lo ln text
fault_took lo mid ln text a b = let P : List ℕ → Type 0 = λ l. GivesUntilFault lo ln l in subst P (append-nil text) (Gives-until lo mid ln text [] a b)

pub same_took : (lo mid ln : SourceState) (text : List ℕ) → Gives lo mid text → Gives mid ln [] → Gives lo ln text
same_took lo mid ln text a b = let P : List ℕ → Type 0 = λ l. Gives lo ln l in subst P (append-nil text) (Gives-trans lo mid ln text [] a b)

pub open_ends : {S R : Type 0} (step : S → Placed → Step S R) (Fits : S → R → Type 0) (lo ln : SourceState) (most : ℕ) (old new bytes : List ℕ) (from mid to : Point S R) (f : Flow) → most ≡ limit → length old ≤ most
    → Takes lo ln most old new piece.Some → bytes ≡ take limit new → Goes step Fits false (take limit old) from mid → Ends step Fits false bytes mid to f → Ends step Fits false (take limit new) from to f
open_ends {S} {R} step Fits lo ln most old new bytes from mid to f m h (bytes', e, some, within, took, on) b goes ends =
    let P : List ℕ → Type 0 = λ l. Ends step Fits false l mid to f in
    let h' : length old ≤ limit = rw (← m) h in
    Ends-after step Fits false (take limit new) from mid to f (Goes-grown step Fits limit old new bytes' from mid h' e goes) (subst P b ends)

pub open_all : {S R : Type 0} (step : S → Placed → Step S R) (Fits : S → R → Type 0) (lo ln : SourceState) (most : ℕ) (old new bytes : List ℕ) (from mid to : Point S R) (f : Flow) → most ≡ limit → length old ≤ most
    → Takes lo ln most old new piece.Some → bytes ≡ take limit new → Goes step Fits false (take limit old) from mid → Ends step Fits false bytes mid to f → f ≡ flow.Open → AnswersAll step Fits false (take limit new) from to
open_all {S} {R} step Fits lo ln most old new bytes from mid to f m h takes b goes ends is =
    let Q : Flow → Type 0 = λ x. Ends step Fits false (take limit new) from to x in
    subst Q is (open_ends step Fits lo ln most old new bytes from mid to f m h takes b goes ends)

pub is_open_flow : (f : Flow) → is_open f ≡ true → f ≡ flow.Open
is_open_flow flow.Open e = refl
is_open_flow flow.Quits e = cc
is_open_flow (flow.Stopped reason) e = cc

pub open_ready : (lo ln : SourceState) (most : ℕ) (old new bytes : List ℕ) (place : Place) (permits : ℕ) → most ≡ limit → length old ≤ most → Takes lo ln most old new piece.Some → bytes ≡ take limit new
    → IsReady (take limit old) place permits → IsReady bytes place permits
open_ready lo ln most old new bytes place permits m h (bytes', e, some, within, took, on) b r =
    let P : List ℕ → Type 0 = λ l. IsReady l place permits in
    let h' : length old ≤ limit = rw (← m) h in
    subst P (sym b) (IsReady-grown limit old new bytes' place permits h' e r)

pub last_ends : {S R : Type 0} (step : S → Placed → Step S R) (Fits : S → R → Type 0) (old new bytes : List ℕ) (from mid to : Point S R) (f : Flow) → new ≡ old → bytes ≡ new → length old ≤ limit
    → Goes step Fits false (take limit old) from mid → Ends step Fits true bytes mid to f → Ends step Fits true old from to f
last_ends {S} {R} step Fits old new bytes from mid to f e b h goes ends =
    let P : List ℕ → Type 0 = λ l. Ends step Fits true l mid to f in
    let T : List ℕ → Type 0 = λ l. Goes step Fits false l from mid in
    Ends-after step Fits true old from mid to f (Goes-ended step Fits old from mid (subst T (take_all limit old h) goes)) (subst P (b ∙ e) ends)

pub last_ready : (old new bytes : List ℕ) (place : Place) (permits : ℕ) → new ≡ old → bytes ≡ new → length old ≤ limit → IsReady (take limit old) place permits → IsReady bytes place permits
last_ready old new bytes place permits e b h r = let P : List ℕ → Type 0 = λ l. IsReady l place permits in subst P (take_all limit old h ∙ sym (b ∙ e)) r

pub limit_small : (most : ℕ) → most ≡ limit → most < 2 ^ 40
unfolding limit
limit_small most e = rw e (lit< tt)

no_text : (text : List ℕ) → text ≡ [] → take limit text ≡ []
no_text text e = take_all limit text (omega (arith, ap length e)) ∙ e

pub init_took : (lo : SourceState) (text : List ℕ) → text ≡ [] → Gives lo lo text
init_took lo text e = let P : List ℕ → Type 0 = λ l. Gives lo lo l in subst P (sym e) (Gives-nil lo)

pub init_none : (text : List ℕ) → text ≡ [] → HoldsNone false (drop 0 (take limit text))
init_none text e number = ap (λ l. statements_at false number (drop 0 l)) (no_text text e)

pub init_ready : (text : List ℕ) (scan : Scan) (permits : ℕ) → permits ≡ 0 → scan.line ≡ 0 → scan.seen ≡ 0 → scan.in_text ≡ false
    → IsReady (take limit text) (record { start = 0; number = 1; refused = false; scan = scan }) permits
init_ready text scan permits none a b c =
    let t = take limit text in
    let P : ℕ → Type 0 = λ x. Scanned t x scan.seen scan.in_text in
    let Q : ℕ → Type 0 = λ x. Scanned t 0 x scan.in_text in
    let T : Bool → Type 0 = λ x. Scanned t 0 0 x in
    record {
      within = omega arith;
      lines = omega arith;
      few = omega (arith, none);
      scanned = subst P (sym a) (subst Q (sym b) (subst T (sym c) (Scanned-new t)));
    }

pub ready_still : (text bytes : List ℕ) (place : Place) (permits : ℕ) → bytes ≡ take limit text → IsReady bytes place permits → IsReady (take limit text) place permits
ready_still text bytes place permits e r = let P : List ℕ → Type 0 = λ l. IsReady l place permits in subst P e r

pub front_small : (bytes text : List ℕ) → bytes ≡ take limit text → length bytes < 2 ^ 40
front_small bytes text e = let most : limit < 2 ^ 40 = limit_small limit refl in rw e (omega (arith, length-take {A = ℕ}))

pub text_small : (bytes text : List ℕ) → bytes ≡ text → length text ≤ limit → length bytes < 2 ^ 40
text_small bytes text e h = let most : limit < 2 ^ 40 = limit_small limit refl in rw e (omega arith)

-- ---- exactly where

no_part : (old new : SinkState) (whole : List ℕ) → new.put ≡ old.put ++ whole → WritesPart old new whole → ⊥
no_part old new whole a (front, rest, e, some, q) =
    omega (arith, ap length a, ap length q.put, ap length e, length-append old.put whole, length-append old.put front, length-append front rest, some)

-- the text was read, and the source failed
no_fault : {A : Type 0} (source : SourceState) (taken : List ℕ) → IsReadThrough source taken → length taken ≤ limit → source.ended ≡ false → has_quit (statements false taken) ≡ false → A
no_fault source taken (inl (end, h)) few on none = not_both source.ended end.said on
no_fault source taken (inr q) few on none = not_both (has_quit (statements false taken)) (sym (ap (λ l. has_quit (statements false l)) (take_all limit taken few)) ∙ q) none

-- the text was read, and is too long
not_long : {A : Type 0} (source : SourceState) (taken : List ℕ) → IsReadThrough source taken → limit < length taken → has_quit (statements false (take limit taken)) ≡ false → A
not_long source taken (inl (end, h)) more none = absurd (omega (arith, more, h))
not_long source taken (inr q) more none = not_both (has_quit (statements false (take limit taken))) q none

pub exact_of : {S R : Type 0} (step : S → Placed → Step S R) (s : S) (before after : Moment R) (taken : List ℕ) (result : Status) → StatusSays step s before after taken result → IsExact step s before after taken result
exact_of {S} {R} step s before after taken result told = record {
  fine = λ read wrote flag. fine result told read wrote flag;
  some_refused = λ read wrote flag. refused result told read wrote flag;
  too_long = λ more none wrote. long result told more none wrote;
}
  where
    fine : (r : Status) → StatusSays step s before after taken r → IsReadThrough after.source taken → after.sink.put ≡ before.sink.put ++ transcript step s taken true after.bench.records.items
        → (session step s taken true after.bench.records.items).refused ≡ false → (r ≡ Fine) ⊎ (r ≡ NoMemory)
    fine Fine told read wrote flag = inl refl
    fine SomeRefused told read wrote flag = not_both (session step s taken true after.bench.records.items).refused told.2 flag
    fine Usage told read wrote flag = absurd told
    fine ReadFault told read wrote flag = no_fault after.source taken read told.0 told.1 told.2
    fine WriteFault told read wrote flag = absurd (no_part before.sink after.sink (transcript step s taken true after.bench.records.items) wrote told.1)
    fine NoMemory told read wrote flag = inr refl
    fine TooLong told read wrote flag = not_long after.source taken read told.0 told.1

    refused : (r : Status) → StatusSays step s before after taken r → IsReadThrough after.source taken → after.sink.put ≡ before.sink.put ++ transcript step s taken true after.bench.records.items
        → (session step s taken true after.bench.records.items).refused ≡ true → (r ≡ SomeRefused) ⊎ (r ≡ NoMemory)
    refused Fine told read wrote flag = not_both (session step s taken true after.bench.records.items).refused flag told.2
    refused SomeRefused told read wrote flag = inl refl
    refused Usage told read wrote flag = absurd told
    refused ReadFault told read wrote flag = no_fault after.source taken read told.0 told.1 told.2
    refused WriteFault told read wrote flag = absurd (no_part before.sink after.sink (transcript step s taken true after.bench.records.items) wrote told.1)
    refused NoMemory told read wrote flag = inr refl
    refused TooLong told read wrote flag = not_long after.source taken read told.0 told.1

    long : (r : Status) → StatusSays step s before after taken r → limit < length taken → has_quit (statements false (take limit taken)) ≡ false
        → after.sink.put ≡ before.sink.put ++ transcript step s (take limit taken) false after.bench.records.items → (r ≡ TooLong) ⊎ (r ≡ NoMemory)
    long Fine told more none wrote = not_long after.source taken told.0 more none
    long SomeRefused told more none wrote = not_long after.source taken told.0 more none
    long Usage told more none wrote = absurd told
    long ReadFault told more none wrote = absurd (omega (arith, told.0, more))
    long WriteFault told more none wrote = absurd (no_part before.sink after.sink (transcript step s (take limit taken) false after.bench.records.items) wrote (told.3 more))
    long NoMemory told more none wrote = inr refl
    long TooLong told more none wrote = inl refl
