use Rattle.std.proofs.Common.{ℕ, ◌+◌, ◌<◌, arith, length}
use Rattle.std.proofs.lemmas.List.{length-take, length-drop}
use Rattle.pld_script.proofs.Scanning.{scan_on, scan_found, scan_none, scan_end}
use Rattle.pld_script.proofs.scan.Scan.find.Goals as goal

pub returns-then-end-bytes : goal.returns-then-end-bytes
returns-then-end-bytes c =
    scan_none c.args.bytes.now c.loop-self.self.line c.loop-self.self.seen c.line_end.result c.loop-self.self.in_text c.loop-self.invariant c.if-end-bytes.true c.line_end.ensures.before

pub returns-in-None : goal.returns-in-None
returns-in-None c =
    let h : c.loop-self.self.seen + c.line_end.result < length c.args.bytes.now = omega (arith, length-take {A = ℕ}, length-drop {A = ℕ}) in (
      omega arith,
      scan_found c.args.bytes.now c.loop-self.self.line c.loop-self.self.seen c.line_end.result c.loop-self.self.in_text c.loop-self.invariant h c.line_end.ensures.before
          (c.line_end.ensures.found (omega (arith, length-take {A = ℕ}, length-drop {A = ℕ}))) (cc),
    )

pub loop-self-preserved : goal.loop-self-preserved
loop-self-preserved c =
    let h : c.loop-self.self.seen + c.line_end.result < length c.args.bytes.now = omega (arith, length-take {A = ℕ}, length-drop {A = ℕ}) in
    scan_on c.args.bytes.now c.loop-self.self.line c.loop-self.self.seen c.line_end.result c.loop-self.self.in_text c.in-Some.in_text c.loop-self.invariant h c.line_end.ensures.before
    (c.line_end.ensures.found (omega (arith, length-take {A = ℕ}, length-drop {A = ℕ}))) (cc)

pub returns : goal.returns
returns c = scan_end c.args.bytes.now c.loop-self.self.line c.loop-self.self.seen c.loop-self.self.in_text c.loop-self.invariant c.loop-self-test.false
