-- How what a session makes of its statements is put together.
use Rattle.std.proofs.Common.{◌≡◌, ℕ, ◌+◌, ◌-◌, ◌≤◌, Bool, true, false, ◌||◌, List, [], ◌∷◌, ◌++◌, length, take, drop, Option, Some, None, All, refl, sym, ap, ◌∙◌, append_assoc, append-nil, subst, arith, inl, inr, add_assoc, zero-add, add-zero}
use Rattle.std.proofs.lemmas.List.Elements.{All-append, All-cons, All-nil}
use Rattle.std.proofs.lemmas.List.{drop-drop, length-drop, length-take, take_all, drop_all, take-append-drop, take-append-le, drop-append-le}
use Rattle.pld_io.specs.Outside.{Accepts}
use Rattle.pld_script.specs.Lines.{lines}
use Rattle.pld_driver.proofs.Puts.{Accepts-trans, Accepts-nil}
use Rattle.pld_script.specs.declared.statement.Statement.{Statement}
use Rattle.pld_script.specs.declared.statement.Statement.TheVariants as says
use Rattle.pld_script.specs.declared.scan.Scan.{Scan}
use Rattle.pld_script.proofs.Scanning.{Scanned-new}
use Rattle.pld_script.specs.Statements.{Placed, statements_at, MayFollow, IsFirst, HoldsNone, HoldsOne, IsNext, Scanned}
use Rattle.pld_script.specs.declared.next.Next.{Next}
use Rattle.pld_script.specs.declared.next.Next.TheVariants as next
use Rattle.pld_driver.specs.declared.answers.Given.{Given}
use Rattle.pld_driver.specs.declared.answers.Flow.TheVariants as flow
use Rattle.pld_driver.specs.declared.answers.Place.{Place}
use Rattle.pld_driver.specs.declared.answers.Stop.{Stop}
use Rattle.pld_driver.specs.declared.answers.Stop.TheVariants.{WriteFault, NoMemory}
use Rattle.pld_driver.specs.declared.engine.Bench.{Bench}
use Rattle.pld_driver.specs.Walk.{Answered, Step, Says, Runs, Walked, passed, stopped, said, ran, after, walk, is_quit, has_quit}
use Rattle.pld_driver.specs.Moments.{Took, Point, Goes, Answers, Comes, Stops, Ends, IsGiven, given_of, IsReady}

-- one session's statements, and then those of another
abbrev pub join : {S R : Type 0} → Walked S R → Walked S R → Walked S R
join w v = record { out = w.out ++ v.out; refused = w.refused || v.refused; permits = w.permits + v.permits; runs = w.runs ++ v.runs; left = v.left; end = v.end; whole = v.whole }

or_assoc : (a b c : Bool) → (a || (b || c)) ≡ ((a || b) || c)
or_assoc true b c = refl
or_assoc false b c = refl

pub or_none : (b : Bool) → (b || false) ≡ b
or_none true = refl
or_none false = refl

-- with these three in place of its own
abbrev with_three : {S R : Type 0} → Walked S R → List ℕ → Bool → ℕ → Walked S R
with_three w out refused permits = record { out = out; refused = refused; permits = permits; runs = w.runs; left = w.left; end = w.end; whole = w.whole }

said_join : {S R : Type 0} (given : Answered S) (w v : Walked S R) → said given (join w v) ≡ join (said given w) v
said_join {S} {R} given w v =
    let j : Walked S R = join w v in
    let P : List ℕ → Walked S R = λ o. with_three j o (given.refused || (w.refused || v.refused)) (given.permits + (w.permits + v.permits)) in
    let Q : Bool → Walked S R = λ b. with_three j ((given.reply ++ w.out) ++ v.out) b (given.permits + (w.permits + v.permits)) in
    let T : ℕ → Walked S R = λ k. with_three j ((given.reply ++ w.out) ++ v.out) ((given.refused || w.refused) || v.refused) k in
    ap P (sym (append_assoc given.reply w.out v.out)) ∙ ap Q (or_assoc given.refused w.refused v.refused) ∙ ap T (sym (add_assoc given.permits w.permits v.permits))

none_join : {S R : Type 0} (s : S) (records : List R) (v : Walked S R) → v ≡ join (passed s records) v
none_join {S} {R} s records v =
    let T : ℕ → Walked S R = λ k. with_three v v.out v.refused k in
    ap T (sym (zero-add v.permits))

-- the statement that comes is a `quit`, or it isn't
abbrev pub pick : {S R : Type 0} → Bool → List R → Walked S R → Walked S R
pick {S} {R} b records w = elim b as (λ _. Walked S R) [ true ↦ stopped true records | false ↦ w ]

by_quit : {S R : Type 0} (b : Bool) (records records' : List R) (w w' v : Walked S R) (s : S) → (w.left ≡ [] → w.end ≡ Some s → w' ≡ join w v)
    → (pick b records w).left ≡ [] → (pick b records w).end ≡ Some s → pick b records' w' ≡ join (pick b records w) v
by_quit true records records' w w' v s h l e = cc
by_quit false records records' w w' v s h l e = h l e

by_step : {S R : Type 0} (x : Step S R) (s s' : S) (added more : List R) (v : Walked S R) (f f' : S → List R → Walked S R)
    → ((n : S) (r : List R) → (f n r).left ≡ [] → (f n r).end ≡ Some s' → f' n (r ++ more) ≡ join (f n r) v)
    → (after x s added f).left ≡ [] → (after x s added f).end ≡ Some s' → after x s (added ++ more) f' ≡ join (after x s added f) v
by_step (Says given) s s' added more v f f' h l e = ap (said given) (h given.next added l e) ∙ said_join given (f given.next added) v
by_step (Runs answer) s s' [] more v f f' h l e = cc
by_step (Runs answer) s s' (run ∷ added) more v f f' h l e =
    ap (λ w. ran s run w) (ap (said (answer run)) (h (answer run).next added l e) ∙ said_join (answer run) (f (answer run).next added) v)

some_is : {S : Type 0} (a b : S) → Some a ≡ Some b → a ≡ b
some_is a b e = cc

-- Where all of the first statements were answered with all of the first records, the others go on from there.
pub walk-append : {S R : Type 0} (step : S → Placed → Step S R) (s s' : S) (done later : List Placed) (added more : List R)
    → (walk step s done added).left ≡ [] → (walk step s done added).end ≡ Some s'
    → walk step s (done ++ later) (added ++ more) ≡ join (walk step s done added) (walk step s' later more)
walk-append step s s' [] later added more l e =
    ap (λ r. walk step s later (r ++ more)) l ∙ ap (λ t. walk step t later more) (some_is s s' e) ∙ none_join s added (walk step s' later more)
walk-append step s s' (placed ∷ done) later added more l e =
    by_quit (is_quit placed.said) added (added ++ more) _ _ (walk step s' later more) s'
    (by_step (step s placed) s s' added more (walk step s' later more) (λ n r. walk step n done r) (λ n r. walk step n (done ++ later) r)
    (λ n r p q. walk-append step n s' done later r more p q))
    l e

-- Without records no run is begun.
pub record Bare {S R : Type 0} (w : Walked S R) : Type 0 where
  pub runs : w.runs ≡ []
  pub left : w.left ≡ []

bare_step : {S R : Type 0} (x : Step S R) (s : S) (f : S → List R → Walked S R) → ((n : S) → Bare (f n [])) → Bare (after x s [] f)
bare_step (Says given) s f h = let b = h given.next in record { runs = b.runs; left = b.left }
bare_step (Runs answer) s f h = record { runs = refl; left = refl }

bare_quit : {S R : Type 0} (b : Bool) (w : Walked S R) → Bare w → Bare (pick b [] w)
bare_quit true w h = record { runs = refl; left = refl }
bare_quit false w h = h

pub walk_bare : {S R : Type 0} (step : S → Placed → Step S R) (s : S) (later : List Placed) → Bare (walk step s later [])
walk_bare step s [] = record { runs = refl; left = refl }
walk_bare step s (placed ∷ later) = bare_quit (is_quit placed.said) _ (bare_step (step s placed) s (λ n r. walk step n later r) (λ n. walk_bare step n later))

-- Where statements lead to a state, none of them is a `quit`.
no_quit_step : {S R : Type 0} (x : Step S R) (s s' : S) (added : List R) (f : S → List R → Walked S R) (quits : Bool)
    → ((n : S) (r : List R) → (f n r).end ≡ Some s' → quits ≡ false) → (after x s added f).end ≡ Some s' → quits ≡ false
no_quit_step (Says given) s s' added f quits h e = h given.next added e
no_quit_step (Runs answer) s s' [] f quits h e = cc
no_quit_step (Runs answer) s s' (run ∷ added) f quits h e = h (answer run).next added e

no_quit_pick : {S R : Type 0} (b quits : Bool) (records : List R) (w : Walked S R) (s : S) → (w.end ≡ Some s → quits ≡ false) → (pick b records w).end ≡ Some s → (b || quits) ≡ false
no_quit_pick true quits records w s h e = cc
no_quit_pick false quits records w s h e = h e

pub no_quit : {S R : Type 0} (step : S → Placed → Step S R) (s s' : S) (done : List Placed) (added : List R) → (walk step s done added).end ≡ Some s' → has_quit done ≡ false
no_quit step s s' [] added e = refl
no_quit step s s' (placed ∷ done) added e =
    no_quit_pick (is_quit placed.said) (has_quit done) added _ s'
    (no_quit_step (step s placed) s s' added (λ n r. walk step n done r) (has_quit done) (λ n r q. no_quit step n s' done r q)) e

pub has_quit-append : (a b : List Placed) → has_quit (a ++ b) ≡ (has_quit a || has_quit b)
has_quit-append [] b = refl
has_quit-append (placed ∷ a) b = ap (λ x. is_quit placed.said || x) (has_quit-append a b) ∙ or_assoc (is_quit placed.said) (has_quit a) (has_quit b)

-- ---- from one moment to another

pub Goes-refl : {S R : Type 0} (step : S → Placed → Step S R) (Fits : S → R → Type 0) (ended : Bool) (text : List ℕ) (at : Point S R) → at.start ≤ length text → Goes step Fits ended text at at
Goes-refl step Fits ended text at h = record {
  done = [];
  added = [];
  in_order = omega arith;
  within = h;
  lines = omega arith;
  cut = λ e more m. refl;
  records = sym (append-nil at.held.bench.records.items);
  permits = sym (add-zero at.held.bench.permits);
  left = refl;
  end = refl;
  fit = All-nil _;
  put = Accepts-nil at.held.sink;
  refused = sym (or_none at.refused);
}

pub Goes-trans : {S R : Type 0} (step : S → Placed → Step S R) (Fits : S → R → Type 0) (ended : Bool) (text : List ℕ) (from mid to : Point S R)
    → Goes step Fits ended text from mid → Goes step Fits ended text mid to → Goes step Fits ended text from to
Goes-trans {S} {R} step Fits ended text from mid to a b =
    let w = walk step from.held.state a.done a.added in
    let v = walk step mid.held.state b.done b.added in
    let e : walk step from.held.state (a.done ++ b.done) (a.added ++ b.added) ≡ join w v = walk-append step from.held.state mid.held.state a.done b.done a.added b.added a.left a.end in
    let F : S × R → Type 0 = λ run. Fits run.0 run.1 in
    let P : Walked S R → Type 0 = λ x. All F x.runs in
    let Q : Walked S R → Type 0 = λ x. Accepts from.held.sink to.held.sink x.out in
    record {
      done = a.done ++ b.done;
      added = a.added ++ b.added;
      in_order = omega (arith, a.in_order, b.in_order);
      within = b.within;
      lines = omega (arith, a.lines, b.lines);
      cut = λ f more m. a.cut f more m ∙ ap (λ l. a.done ++ l) (b.cut f more m) ∙ sym (append_assoc a.done b.done _);
      records = b.records ∙ ap (λ l. l ++ b.added) a.records ∙ append_assoc from.held.bench.records.items a.added b.added;
      permits = b.permits ∙ ap (λ k. k + v.permits) a.permits ∙ add_assoc from.held.bench.permits w.permits v.permits ∙ ap (λ x. from.held.bench.permits + x.permits) (sym e);
      left = ap (λ x. x.left) e ∙ b.left;
      end = ap (λ x. x.end) e ∙ b.end;
      fit = subst P (sym e) (All-append F w.runs v.runs a.fit b.fit);
      put = subst Q (sym e) (Accepts-trans from.held.sink mid.held.sink to.held.sink w.out v.out a.put b.put);
      refused = b.refused ∙ ap (λ x. x || v.refused) a.refused ∙ sym (or_assoc from.refused w.refused v.refused) ∙ ap (λ x. from.refused || x.refused) (sym e);
    }

-- What a session of one statement is: with the record that it has left it leads to the next state.
pub record IsOne {S R : Type 0} (Fits : S → R → Type 0) (old new : List R) (spent_old spent_new : ℕ) (reply : List ℕ) (refused : Bool) (next : S) (behind : List R → Walked S R) : Type 0 where
  pub added : List R
  pub grown : new ≡ old ++ added
  pub permits : spent_new ≡ spent_old + (behind added).permits
  pub left : (behind added).left ≡ []
  pub end : (behind added).end ≡ Some next
  pub fit : All (λ run. Fits run.0 run.1) (behind added).runs
  pub out : (behind added).out ≡ reply
  pub flag : (behind added).refused ≡ refused

pub one_step : {S R : Type 0} (x : Step S R) (Fits : S → R → Type 0) (state : S) (old new : Bench R) (reply : List ℕ) (refused : Bool) (next : S) → Took x (Fits state) old new reply refused next
    → IsOne Fits old.records.items new.records.items old.permits new.permits reply refused next (λ added. after x state added passed)
one_step (Says told) Fits state old new reply refused next (g, n) = record {
  added = [];
  grown = n ∙ sym (append-nil old.records.items);
  permits = g.spent ∙ ap (λ k. old.permits + k) (sym (add-zero told.permits));
  left = refl;
  end = ap Some (sym g.state);
  fit = All-nil _;
  out = append-nil told.reply ∙ sym g.says;
  flag = or_none told.refused ∙ sym g.flag;
}
one_step (Runs answer) Fits state old new reply refused next (run, l, g) = record {
  added = run ∷ [];
  grown = l.last;
  permits = g.spent ∙ ap (λ k. old.permits + k) (sym (add-zero (answer run).permits));
  left = refl;
  end = ap Some (sym g.state);
  fit = All-cons (λ r. Fits r.0 r.1) (state, run) [] l.fit (All-nil _);
  out = append-nil (answer run).reply ∙ sym g.says;
  flag = or_none (answer run).refused ∙ sym g.flag;
}

pub one_quit : {S R : Type 0} (b : Bool) (Fits : S → R → Type 0) (old new : List R) (spent_old spent_new : ℕ) (reply : List ℕ) (refused : Bool) (next : S) (f : List R → Walked S R) → b ≡ false
    → IsOne Fits old new spent_old spent_new reply refused next f → IsOne Fits old new spent_old spent_new reply refused next (λ added. pick b added (f added))
one_quit true Fits old new spent_old spent_new reply refused next f e h = cc
one_quit false Fits old new spent_old spent_new reply refused next f e h = h

pub Goes-one : {S R : Type 0} (step : S → Placed → Step S R) (Fits : S → R → Type 0) (ended : Bool) (text : List ℕ) (from to : Point S R) (told : Option Statement) (blank own used : ℕ) (flag : Bool)
    → IsFirst ended (drop from.start text) told blank own used → from.start ≤ length text → is_quit told ≡ false
    → Answers step Fits (record { number = from.number + blank; said = told }) from.held to.held flag
    → to.number ≡ from.number + blank + own → to.start ≡ from.start + used → to.refused ≡ (from.refused || flag)
    → Goes step Fits ended text from to
Goes-one {S} {R} step Fits ended text from to told blank own used flag first h quit a n s r =
    let placed : Placed = record { number = from.number + blank; said = told } in
    let one = one_quit (is_quit told) Fits from.held.bench.records.items to.held.bench.records.items from.held.bench.permits to.held.bench.permits a.reply flag to.held.state
    (λ added. after (step from.held.state placed) from.held.state added passed) quit
    (one_step (step from.held.state placed) Fits from.held.state from.held.bench to.held.bench a.reply flag to.held.state a.took) in
    let P : List ℕ → Type 0 = λ l. Accepts from.held.sink to.held.sink l in
    record {
      done = placed ∷ [];
      added = one.added;
      in_order = omega arith;
      within = omega (arith, first.within, length-drop {A = ℕ});
      lines = omega (arith, first.counts);
      cut = λ e more m. first.first from.number e more m
          ∙ ap (λ l. placed ∷ statements_at e (from.number + blank + own) (l ++ more)) (drop-drop used from.start text)
          ∙ ap (λ k. placed ∷ statements_at e k (drop (from.start + used) text ++ more)) (sym n)
          ∙ ap (λ k. placed ∷ statements_at e to.number (drop k text ++ more)) (sym s);
      records = one.grown;
      permits = one.permits;
      left = one.left;
      end = one.end;
      fit = one.fit;
      put = subst P (sym one.out) a.put;
      refused = r ∙ ap (λ x. from.refused || x) (sym one.flag);
    }

-- the statement that comes next
pub comes_first : {S R : Type 0} (ended : Bool) (text : List ℕ) (at : Point S R) (told : Option Statement) (blank own used : ℕ)
    → IsFirst ended (drop at.start text) told blank own used → Comes ended text at (record { number = at.number + blank; said = told })
comes_first ended text at told blank own used first e more m = (_, first.first at.number e more m)

pub HoldsNone-nil : (ended : Bool) (text : List ℕ) (start : ℕ) → length text ≤ start → HoldsNone ended (drop start text)
HoldsNone-nil ended text start h number = ap (statements_at ended number) (drop_all start text h)

-- a front of a front
front_of : (rest : List ℕ) (end n : ℕ) → n ≤ length (take end rest) → take n (take end rest) ≡ take n rest
front_of rest end n h = sym (take-append-le n (take end rest) (drop end rest) h) ∙ ap (take n) (take-append-drop end rest)

not_ended : false ≡ true → ⊥
not_ended e = cc

-- the first statement of a front is that of the whole
IsFirst-take : (rest : List ℕ) (end : ℕ) (told : Option Statement) (blank own used : ℕ) → IsFirst false (take end rest) told blank own used → IsFirst false rest told blank own used
IsFirst-take rest end told blank own used f = record {
  within = omega (arith, f.within, length-take {A = ℕ});
  some = f.some;
  counts = f.counts;
  own_lines = f.own_lines ∙ ap (λ l. length (lines true l)) (front_of rest end used f.within);
  least = λ n p. let P : List ℕ → Type 0 = λ l. HoldsNone false l in subst P (front_of rest end n (omega (arith, f.within))) (f.least n p);
  whole =
      elim f.whole [
        | inl one ↦ let P : List ℕ → Type 0 = λ l. HoldsOne l in inl (subst P (front_of rest end used f.within) one)
        | inr t ↦ absurd (not_ended t.0)
      ];
  first = λ number e more m.
      let front = take end rest in
      let back = drop end rest in
      let m' : MayFollow false e (back ++ more) = record { end = λ q. cc; none = λ q. cc } in
      let whole : front ++ back ≡ rest = take-append-drop end rest in
      let cut : drop used front ++ back ≡ drop used rest = sym (drop-append-le used front back f.within) ∙ ap (drop used) whole in
      ap (λ l. statements_at e number (l ++ more)) (sym whole)
      ∙ ap (statements_at e number) (append_assoc front back more)
      ∙ f.first number e (back ++ more) m'
      ∙ ap (λ l. record { number = number + blank; said = told } ∷ statements_at e (number + blank + own) l) (sym (append_assoc (drop used front) back more) ∙ ap (λ l. l ++ more) cut);
}

pub given_open : (told : Next) (rest : List ℕ) (end : ℕ) (scan : Scan) (given : Option Given) → IsNext false (take end rest) told → HoldsOne (take end rest) → given ≡ given_of told → IsGiven false rest scan given
given_open told rest end scan given h one e = let P : Option Given → Type 0 = λ x. IsGiven false rest scan x in subst P (sym e) (by_next told h)
  where
    by_next : (n : Next) → IsNext false (take end rest) n → IsGiven false rest scan (given_of n)
    by_next (next.Statement found) f = IsFirst-take rest end (Some found.statement) found.blank found.lines found.used f
    by_next (next.BadLine skipped) f = IsFirst-take rest end None skipped.blank skipped.lines skipped.used f
    by_next next.More f = absurd (one 0 (f.1 0))
    by_next next.End f = cc

-- ---- the loop over the statements of a text

rest_is : (bytes : List ℕ) (at : ℕ) → take (length bytes - at) (drop at bytes) ≡ drop at bytes
rest_is bytes at = take_all (length bytes - at) (drop at bytes) (omega (arith, length-drop {A = ℕ}))

pub first_rest : (ended : Bool) (bytes : List ℕ) (at : ℕ) (told : Option Statement) (blank own used : ℕ)
    → IsFirst ended (take (length bytes - at) (drop at bytes)) told blank own used → IsFirst ended (drop at bytes) told blank own used
first_rest ended bytes at told blank own used f = let P : List ℕ → Type 0 = λ l. IsFirst ended l told blank own used in subst P (rest_is bytes at) f

pub none_rest : (ended : Bool) (bytes : List ℕ) (at : ℕ) → HoldsNone ended (take (length bytes - at) (drop at bytes)) → HoldsNone ended (drop at bytes)
none_rest ended bytes at h = let P : List ℕ → Type 0 = λ l. HoldsNone ended l in subst P (rest_is bytes at) h

quit_is : (told : Option Statement) → is_quit told ≡ true → told ≡ Some says.Quit
quit_is None h = cc
quit_is (Some (says.Edit edit)) h = cc
quit_is (Some says.Build) h = cc
quit_is (Some says.Run) h = cc
quit_is (Some (says.DumpImage name)) h = cc
quit_is (Some says.DumpTables) h = cc
quit_is (Some says.Stats) h = cc
quit_is (Some says.Quit) h = refl

pub ends_quit : {S R : Type 0} (step : S → Placed → Step S R) (Fits : S → R → Type 0) (ended : Bool) (text : List ℕ) (from at : Point S R) (told : Option Statement) (blank own used : ℕ)
    → Goes step Fits ended text from at → IsFirst ended (take (length text - at.start) (drop at.start text)) told blank own used → is_quit told ≡ true
    → Ends step Fits ended text from at flow.Quits
ends_quit step Fits ended text from at told blank own used goes first quit =
    let P : Option Statement → Type 0 = λ x. Comes ended text at (record { number = at.number + blank; said = x }) in
    record {
      number = at.number + blank;
      goes = goes;
      comes = subst P (quit_is told quit) (comes_first ended text at told blank own used (first_rest ended text at.start told blank own used first));
    }

pub ends_stop : {S R : Type 0} (step : S → Placed → Step S R) (Fits : S → R → Type 0) (ended : Bool) (text : List ℕ) (from at to : Point S R) (told : Option Statement) (blank own used : ℕ) (stop : Stop)
    → Goes step Fits ended text from at → IsFirst ended (take (length text - at.start) (drop at.start text)) told blank own used → is_quit told ≡ false
    → Stops step Fits (record { number = at.number + blank; said = told }) at.held to.held stop
    → Ends step Fits ended text from to (flow.Stopped stop)
ends_stop step Fits ended text from at to told blank own used WriteFault goes first quit s = record {
  at = at;
  placed = record { number = at.number + blank; said = told };
  goes = goes;
  comes = comes_first ended text at told blank own used (first_rest ended text at.start told blank own used first);
  no_quit = quit;
  holds = s;
}
ends_stop step Fits ended text from at to told blank own used NoMemory goes first quit s = inr (record {
  at = at;
  placed = record { number = at.number + blank; said = told };
  goes = goes;
  comes = comes_first ended text at told blank own used (first_rest ended text at.start told blank own used first);
  no_quit = quit;
  holds = s;
})

pub goes_on : {S R : Type 0} (step : S → Placed → Step S R) (Fits : S → R → Type 0) (ended : Bool) (text : List ℕ) (from at to : Point S R) (told : Option Statement) (blank own used : ℕ) (flag : Bool)
    → Goes step Fits ended text from at → IsFirst ended (take (length text - at.start) (drop at.start text)) told blank own used → at.start ≤ length text → is_quit told ≡ false
    → Answers step Fits (record { number = at.number + blank; said = told }) at.held to.held flag
    → to.number ≡ at.number + blank + own → to.start ≡ at.start + used → to.refused ≡ (at.refused || flag)
    → Goes step Fits ended text from to
goes_on step Fits ended text from at to told blank own used flag goes first h quit a n s r =
    Goes-trans step Fits ended text from at to goes
    (Goes-one step Fits ended text at to told blank own used flag (first_rest ended text at.start told blank own used first) h quit a n s r)

pub ready_on : (ended : Bool) (text : List ℕ) (place : Place) (told : Option Statement) (blank own used : ℕ) (flag : Bool) (scan : Scan) (old new : ℕ) → IsReady text place old
    → IsFirst ended (take (length text - place.start) (drop place.start text)) told blank own used → new ≤ old + 64
    → scan.line ≡ 0 → scan.seen ≡ 0 → scan.in_text ≡ false
    → IsReady text (record { start = place.start + used; number = place.number + blank + own; refused = flag; scan = scan }) new
ready_on ended text place told blank own used flag scan old new r first few a b c =
    let f = first_rest ended text place.start told blank own used first in
    let P : ℕ → Type 0 = λ x. Scanned (drop (place.start + used) text) x scan.seen scan.in_text in
    let Q : ℕ → Type 0 = λ x. Scanned (drop (place.start + used) text) 0 x scan.in_text in
    let T : Bool → Type 0 = λ x. Scanned (drop (place.start + used) text) 0 0 x in
    record {
      within = omega (arith, r.within, f.within, length-drop {A = ℕ});
      lines = omega (arith, r.lines, f.counts);
      few = omega (arith, r.few, f.some, few);
      scanned = subst P (sym a) (subst Q (sym b) (subst T (sym c) (Scanned-new (drop (place.start + used) text))));
    }
