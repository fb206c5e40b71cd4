use Rattle.std.proofs.Common.{map, ap, ◌∙◌}
use Rattle.pld_ast.specs.Resolve.{declared_in, program_of, type_of, place_in}
use Rattle.pld_mean.specs.Vars.{state_of}
use Rattle.pld_mean.proofs.Evals.{unary_value, binary_value, cast_value, element_value}
use Rattle.pld_mean.proofs.eval.+eval.Goals as goal

pub returns-in-Unary : goal.returns-in-Unary
returns-in-Unary t c = λ ins. unary_value (program_of c.args.op.now) (declared_in c.args.op.now) (state_of ins c.args.vars.now) c.args.e.now _ _ c.in-Unary.o _ _ c.in-Unary.is c.get-in-Unary.ensures (c.eval-in-Unary.ensures ins) c.apply_one.ensures

pub returns-in-Cast : goal.returns-in-Cast
returns-in-Cast t c = λ ins. cast_value (program_of c.args.op.now) (declared_in c.args.op.now) (state_of ins c.args.vars.now) c.args.e.now _ _ _ _ c.in-Cast.is c.get-in-Cast.ensures (c.eval-in-Cast.ensures ins)

pub returns-in-Binary : goal.returns-in-Binary
returns-in-Binary t c = λ ins.
    let d = declared_in c.args.op.now in
    binary_value (program_of c.args.op.now) d (state_of ins c.args.vars.now) c.args.e.now _ _ _ _ c.in-Binary.o c.type_in-s.result c.type_in-t.result c.eval-in-Binary.result c.eval-in-Binary-2.result _ c.in-Binary.is (c.type_in-s.ensures ∙ ap (type_of d) c.get-in-Binary.ensures) (c.type_in-t.ensures ∙ ap (type_of d) c.get-in-Binary-2.ensures) c.get-in-Binary-3.ensures c.get-in-Binary-4.ensures (c.eval-in-Binary.ensures ins) (c.eval-in-Binary-2.ensures ins) c.apply.ensures

pub returns-in-Element : goal.returns-in-Element
returns-in-Element t c = λ ins.
    element_value (program_of c.args.op.now) (declared_in c.args.op.now) (state_of ins c.args.vars.now) c.args.e.now _ _ c.in-Element.u c.place_of-t.result c.eval.result c.element.result c.in-Element.is c.get.ensures (c.place_of-t.ensures.value ∙ ap (λ xs. place_in (map (λ a. a.name) xs) c.in-Element.u.name) c.as_slice-in-Element.ensures) (c.eval.ensures ins) c.element.ensures
