use Rattle.std.proofs.Common.{◌≡◌, ℕ, List, false, not, sym, ap, ◌∙◌, subst}
use Rattle.std.specs.Prelude.{◌==◌, Err}
use Rattle.std.specs.Str.{bytes_eq}
use Rattle.std.specs.Map.{lookup}
use Rattle.rv_asm.specs.Words.{lines_of}
use Rattle.rv_asm.specs.Coding.{Labels, code_of, first_label}
use Rattle.rv_asm.specs.Assembly.{instructions, lines_in, IfFault}
use Rattle.rv_asm.specs.declared.written.Line.{Line}
use Rattle.rv_asm.proofs.Joining.{op_told, op_faults, has_some}
use Rattle.rv_asm.proofs.assembling.op_behind.Goals as goal

pub returns-in-Err-clause-value : goal.returns-in-Err-clause-value
returns-in-Err-clause-value c =
    let n : ℕ = c.args.head.next in
    let lines : List Line = c.in_ok-lines.lines.items in
    let labels : Labels = λ q. lookup (bytes_eq q) c.in-Ok.labels.entries in
    let some : (instructions lines == 0) ≡ false = has_some _ _ (c.has_instruction.ensures ∙ ap (λ (xs : List Line). not (instructions xs == 0)) c.as_slice.ensures.value) c.if-not-has_instruction.false in
    let are : (q : List ℕ) → labels q ≡ first_label q n 0 lines = λ q. c.in-Ok.ensures q ∙ ap (λ (xs : List Line). first_label q n 0 xs) c.as_slice-2.ensures.value in
    op_faults (c.args.head.ins, c.args.head.outs) n (lines_in n (lines_of c.args.head.behind.now)) lines c.in_ok-lines.ensures.value labels some are c.in-Err.refused
    (subst (λ (xs : List Line). IfFault c.in-Err.refused (λ f. code_of labels n 0 xs ≡ Err f)) c.as_slice-3.ensures.value c.in-Err.ensures.value)

pub returns-clause-value : goal.returns-clause-value
returns-clause-value c =
    let n : ℕ = c.args.head.next in
    let lines : List Line = c.in_ok-lines.lines.items in
    let labels : Labels = λ q. lookup (bytes_eq q) c.in-Ok.labels.entries in
    let some : (instructions lines == 0) ≡ false = has_some _ _ (c.has_instruction.ensures ∙ ap (λ (xs : List Line). not (instructions xs == 0)) c.as_slice.ensures.value) c.if-not-has_instruction.false in
    let are : (q : List ℕ) → labels q ≡ first_label q n 0 lines = λ q. c.in-Ok.ensures q ∙ ap (λ (xs : List Line). first_label q n 0 xs) c.as_slice-2.ensures.value in
    op_told (c.args.head.ins, c.args.head.outs) n (lines_in n (lines_of c.args.head.behind.now)) lines c.in_ok-lines.ensures.value labels some are c.in-Ok-code_of_lines.code.items
    (ap (λ (xs : List Line). code_of labels n 0 xs) (sym c.as_slice-3.ensures.value) ∙ c.in-Ok-code_of_lines.ensures.value)
