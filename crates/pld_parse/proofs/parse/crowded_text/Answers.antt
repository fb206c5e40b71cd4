use Rattle.std.proofs.Common.{◌-◌, ◌≤◌, Some, None, length, take, subst, refl, arith}
use Rattle.pld_grammar.specs.Symbols.{symbols}
use Rattle.pld_parse.specs.declared.nesting.TheConstants.{MAX_DEPTH}
use Rattle.pld_grammar.specs.Machine.{start}
use Rattle.pld_parse.specs.Reading.{Failed, whole_text}
use Rattle.pld_parse.proofs.Nestings.{left_within, front_told, short_within}
use Rattle.pld_parse.proofs.parse.crowded_text.Goals as goal

pub overflow_sub-front : goal.overflow_sub-front
overflow_sub-front c = (left_within MAX_DEPTH c.args.tokens.now c.args.left c.requires).0

pub slice_bounds-front-count : goal.slice_bounds-front-count
slice_bounds-front-count c =
    let w = left_within MAX_DEPTH c.args.tokens.now c.args.left c.requires in
    let a : 1 ≤ c.args.left = w.0 in
    let b : c.args.left ≤ length c.args.tokens.now = w.1 in
    omega arith

pub cut_fault-requires-clause-told : goal.cut_fault-requires-clause-told
cut_fault-requires-clause-told c =
    let w = left_within MAX_DEPTH c.args.tokens.now c.args.left c.requires in
    let a : 1 ≤ c.args.left = w.0 in
    let b : c.args.left ≤ length c.args.tokens.now = w.1 in
    front_told MAX_DEPTH c.args.tokens.now (take (length c.args.tokens.now - (c.args.left - 1)) c.args.tokens.now) c.args.left (length c.args.tokens.now - (c.args.left - 1)) None c.requires refl (omega arith) c.in-Ok.ensures.1

pub cut_fault-requires-in-Err-At-clause-within : goal.cut_fault-requires-in-Err-At-clause-within
cut_fault-requires-in-Err-At-clause-within c =
    let w = left_within MAX_DEPTH c.args.tokens.now c.args.left c.requires in
    let a : 1 ≤ c.args.left = w.0 in
    let b : c.args.left ≤ length c.args.tokens.now = w.1 in
    let s : c.in-Err-At.short ≤ length c.args.tokens.now - (c.args.left - 1) = short_within c.args.tokens.now (take (length c.args.tokens.now - (c.args.left - 1)) c.args.tokens.now) c.args.left (length c.args.tokens.now - (c.args.left - 1)) c.in-Err-At.short refl (omega arith) (subst (λ e. Failed whole_text (symbols (take (length c.args.tokens.now - (c.args.left - 1)) c.args.tokens.now)) e) c.in-Err-At.field-0-is c.in-Err-At.ensures start) in
    omega arith

pub cut_fault-requires-in-Err-At-clause-told : goal.cut_fault-requires-in-Err-At-clause-told
cut_fault-requires-in-Err-At-clause-told c =
    let w = left_within MAX_DEPTH c.args.tokens.now c.args.left c.requires in
    let a : 1 ≤ c.args.left = w.0 in
    let b : c.args.left ≤ length c.args.tokens.now = w.1 in
    front_told MAX_DEPTH c.args.tokens.now (take (length c.args.tokens.now - (c.args.left - 1)) c.args.tokens.now) c.args.left (length c.args.tokens.now - (c.args.left - 1)) (Some c.in-Err-At.short) c.requires refl (omega arith) (subst (λ e. Failed whole_text (symbols (take (length c.args.tokens.now - (c.args.left - 1)) c.args.tokens.now)) e) c.in-Err-At.field-0-is c.in-Err-At.ensures start)
