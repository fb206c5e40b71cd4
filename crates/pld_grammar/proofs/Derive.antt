-- What the machine accepts is in the grammar.
use Rattle.std.proofs.Common.{ℕ, zero, suc, ◌<◌, ◌≤◌, ◌≡◌, refl, sym, ap, subst, List, [], ◌∷◌, ◌++◌, length, arith}
use Rattle.pld_ast.specs.declared.tree.Ty.{Ty}
use Rattle.pld_ast.specs.declared.tree.Ty.TheVariants.{Int, Uint}
use Rattle.pld_ast.specs.declared.tree.BinOp.{BinOp}
use Rattle.pld_ast.specs.declared.tree.BinOp.TheVariants as binary
use Rattle.pld_grammar.specs.Symbols.{Symbol}
use Rattle.pld_grammar.specs.Symbols as token
use Rattle.pld_base.specs.declared.event.Side.{Side}
use Rattle.pld_base.specs.declared.event.Side.TheVariants as side
use Rattle.pld_ast.specs.declared.tree.Used.{Used}
use Rattle.pld_ast.specs.declared.tree.Expr.{Expr}
use Rattle.pld_ast.specs.declared.tree.Target.{Target}
use Rattle.pld_ast.specs.declared.tree.Target.TheVariants as target
use Rattle.pld_ast.specs.declared.tree.Stmt.{Stmt}
use Rattle.pld_ast.specs.declared.tree.Stmt.TheVariants.{Assign, Read, Write, If, While, Return}
use Rattle.pld_ast.specs.declared.tree.Port.{Port}
use Rattle.pld_ast.specs.declared.tree.Operator.{Operator}
use Rattle.pld_grammar.specs.Rewritings.{one_step, updated, one, Declared, AScalar, AnArray}
use Rattle.pld_grammar.specs.Grammar.{IsType, signed, unsigned, IsAssignment, by_Add, by_Sub, by_Mul, by_Div, by_Rem, by_And, by_Or, by_Xor, by_Shl, by_Shr, Expression, IsTarget, scalar, cell, Simple, assign, update, increment, decrement, Statement, simple, read, write, choice, loop, for, return, IfStatement, if_only, if_else, block, else_if, Block, braces, Statements, none, then, Direction, input, output, MorePorts, last, next, Ports, no_ports, some_ports, Declaration, plain, initial, array, Body, statements, declare, Syntax, operator, port_of, scalar_of, array_of, operator_of}
use Rattle.pld_grammar.specs.Machine.{Needs, Exactly, Operand, InBlock, AfterIf, AfterElse, AfterTarget, AfterElement, AfterSimple, AfterSimpleElement, AfterAssign, ALength, for_rest, InBody, AfterVariable, FirstPort, NextPort, AfterPort, AName, AnOpen, AClose, ACloseBracket, AnOpenBrace, AComma, ASemicolon, start, if_rest}
use Rattle.pld_grammar.proofs.Accept.{Accepts}
use Rattle.pld_grammar.proofs.Values.{get_close, get_close_bracket, get_open, get_open_brace, get_comma, get_semicolon, get_void, get_length, get_name, ExpressionFound, an_expression}

record TargetFound (x : Used) (ts : List Symbol) (ns : Needs) (go : Needs) : Type 0 where
  rest : List Symbol
  place : Target
  found : IsTarget (token.Ident x ∷ ts) rest place
  left : Accepts rest go
  shorter : length rest ≤ length ts

a_cell : (x : Used) (ts : List Symbol) (ns go : Needs) → Accepts ts (Operand ∷ Exactly ACloseBracket ∷ go) → TargetFound x (token.OpenBracket ∷ ts) ns go
a_cell x ts ns go a =
    let p : ExpressionFound ts (Exactly ACloseBracket ∷ go) = an_expression ts (Exactly ACloseBracket ∷ go) a in
    let p-shorter : length p.rest < length ts = p.shorter in
    let c = get_close_bracket p.rest go p.left in
    let v : length p.rest ≡ suc (length c.0) = ap length c.1 in
    record { rest = c.0; place = target.Element x p.tree; found = cell (subst (λ y. Expression ts y p.tree) c.1 p.found); left = c.2; shorter = omega arith }

a_scalar : (x : Used) (ts : List Symbol) (ns go : Needs) → Accepts ts go → TargetFound x ts ns go
a_scalar x ts ns go a = record { rest = ts; place = target.Scalar x; found = scalar; left = a; shorter = omega arith }

a_target : (x : Used) (ts : List Symbol) (ns : Needs) → Accepts ts (AfterTarget ∷ ns) → TargetFound x ts ns (AfterElement ∷ ns)
a_target x [] ns a = absurd (cc a)
a_target x (token.OpenBracket ∷ ts) ns a = a_cell x ts ns (AfterElement ∷ ns) a
a_target x (t ∷ ts) ns a = a_scalar x (t ∷ ts) ns (AfterElement ∷ ns) a

a_simple_target : (x : Used) (ts : List Symbol) (ns : Needs) → Accepts ts (AfterSimple ∷ ns) → TargetFound x ts ns (AfterSimpleElement ∷ ns)
a_simple_target x [] ns a = absurd (cc a)
a_simple_target x (token.OpenBracket ∷ ts) ns a = a_cell x ts ns (AfterSimpleElement ∷ ns) a
a_simple_target x (t ∷ ts) ns a = a_scalar x (t ∷ ts) ns (AfterSimpleElement ∷ ns) a

data ChangeCase (ts : List Symbol) (ns : Needs) : Type 0 where
  to_value : (rest : List Symbol) → ts ≡ token.Assign ∷ rest → Accepts rest (Operand ∷ ns) → ChangeCase ts ns
  by_value : (t : Symbol) (o : BinOp) (rest : List Symbol) → IsAssignment t o → ts ≡ t ∷ rest → Accepts rest (Operand ∷ ns) → ChangeCase ts ns
  by_one : (rest : List Symbol) → ts ≡ token.PlusPlus ∷ rest → Accepts rest ns → ChangeCase ts ns
  less_one : (rest : List Symbol) → ts ≡ token.MinusMinus ∷ rest → Accepts rest ns → ChangeCase ts ns

change_case : (ts : List Symbol) (ns : Needs) → Accepts ts (AfterSimpleElement ∷ ns) → ChangeCase ts ns
change_case [] ns a = absurd (cc a)
change_case (token.Assign ∷ ts) ns a = to_value ts refl a
change_case (token.PlusPlus ∷ ts) ns a = by_one ts refl a
change_case (token.MinusMinus ∷ ts) ns a = less_one ts refl a
change_case (token.PlusAssign ∷ ts) ns a = by_value token.PlusAssign binary.Add ts by_Add refl a
change_case (token.MinusAssign ∷ ts) ns a = by_value token.MinusAssign binary.Sub ts by_Sub refl a
change_case (token.StarAssign ∷ ts) ns a = by_value token.StarAssign binary.Mul ts by_Mul refl a
change_case (token.SlashAssign ∷ ts) ns a = by_value token.SlashAssign binary.Div ts by_Div refl a
change_case (token.PercentAssign ∷ ts) ns a = by_value token.PercentAssign binary.Rem ts by_Rem refl a
change_case (token.AndAssign ∷ ts) ns a = by_value token.AndAssign binary.And ts by_And refl a
change_case (token.OrAssign ∷ ts) ns a = by_value token.OrAssign binary.Or ts by_Or refl a
change_case (token.XorAssign ∷ ts) ns a = by_value token.XorAssign binary.Xor ts by_Xor refl a
change_case (token.ShlAssign ∷ ts) ns a = by_value token.ShlAssign binary.Shl ts by_Shl refl a
change_case (token.ShrAssign ∷ ts) ns a = by_value token.ShrAssign binary.Shr ts by_Shr refl a
change_case (_ ∷ ts) ns a = absurd a

record SimpleFound (ts behind : List Symbol) (ns : Needs) : Type 0 where
  rest : List Symbol
  step : Stmt
  found : Simple ts rest step
  left : Accepts rest ns
  shorter : length rest < length behind

a_change : (ts behind : List Symbol) (x : Target) (ns : Needs) → IsTarget ts behind x → ChangeCase behind ns → SimpleFound ts behind ns
a_change ts behind x ns t (to_value rest s a) =
    let e : ExpressionFound rest ns = an_expression rest ns a in
    let e-shorter : length e.rest < length rest = e.shorter in
    let w : length behind ≡ suc (length rest) = ap length s in
    record { rest = e.rest; step = Assign x e.tree; found = assign (subst (λ y. IsTarget ts y x) s t) e.found; left = e.left; shorter = omega arith }
a_change ts behind x ns t (by_value u o rest i s a) =
    let e : ExpressionFound rest ns = an_expression rest ns a in
    let e-shorter : length e.rest < length rest = e.shorter in
    let w : length behind ≡ suc (length rest) = ap length s in
    record { rest = e.rest; step = updated x o e.tree; found = update (subst (λ y. IsTarget ts y x) s t) i e.found; left = e.left; shorter = omega arith }
a_change ts behind x ns t (by_one rest s a) =
    let w : length behind ≡ suc (length rest) = ap length s in
    record { rest = rest; step = updated x binary.Add one; found = increment (subst (λ y. IsTarget ts y x) s t); left = a; shorter = omega arith }
a_change ts behind x ns t (less_one rest s a) =
    let w : length behind ≡ suc (length rest) = ap length s in
    record { rest = rest; step = updated x binary.Sub one; found = decrement (subst (λ y. IsTarget ts y x) s t); left = a; shorter = omega arith }

a_simple : (x : Used) (ts : List Symbol) (ns : Needs) → Accepts ts (AfterSimple ∷ ns) → SimpleFound (token.Ident x ∷ ts) (token.Ident x ∷ ts) ns
a_simple x ts ns a =
    let p : TargetFound x ts ns (AfterSimpleElement ∷ ns) = a_simple_target x ts ns a in
    let p-shorter : length p.rest ≤ length ts = p.shorter in
    let q : SimpleFound (token.Ident x ∷ ts) p.rest ns = a_change (token.Ident x ∷ ts) p.rest p.place ns p.found (change_case p.rest ns p.left) in
    let q-shorter : length q.rest < length p.rest = q.shorter in
    record { rest = q.rest; step = q.step; found = q.found; left = q.left; shorter = omega arith }

data ElementCase (ts : List Symbol) (ns : Needs) : Type 0 where
  an_assign : (rest : List Symbol) → ts ≡ token.Assign ∷ rest → Accepts rest (AfterAssign ∷ ns) → ElementCase ts ns
  some_change : Accepts ts (AfterSimpleElement ∷ Exactly ASemicolon ∷ ns) → ElementCase ts ns

element_case : (ts : List Symbol) (ns : Needs) → Accepts ts (AfterElement ∷ ns) → ElementCase ts ns
element_case [] ns a = absurd (cc a)
element_case (token.Assign ∷ ts) ns a = an_assign ts refl a
element_case (_ ∷ ts) ns a = some_change a

record StatementFound (ts : List Symbol) (ns : Needs) : Type 0 where
  rest : List Symbol
  step : List Stmt
  found : Statement ts rest step
  left : Accepts rest (InBlock ∷ ns)
  shorter : length rest < length ts

record StatementsFound (ts : List Symbol) (ns : Needs) : Type 0 where
  rest : List Symbol
  steps : List Stmt
  found : Statements ts (token.CloseBrace ∷ rest) steps
  left : Accepts rest ns
  shorter : length rest < length ts

record IfFound (ts : List Symbol) (ns : Needs) : Type 0 where
  rest : List Symbol
  step : Stmt
  found : IfStatement (token.If ∷ ts) rest step
  left : Accepts rest (InBlock ∷ ns)
  shorter : length rest < length ts

record ConditionFound (ts : List Symbol) (ns : Needs) : Type 0 where
  inner : List Symbol
  mid : List Symbol
  rest : List Symbol
  condition : Expr
  body : List Stmt
  opened : ts ≡ token.Open ∷ inner
  found : Expression inner (token.Close ∷ mid) condition
  found_body : Block mid rest body
  left : Accepts rest ns
  shorter : length rest < length ts

data AssignCase (ts : List Symbol) (ns : Needs) : Type 0 where
  a_read : (rest : List Symbol) → ts ≡ token.Read ∷ rest → Accepts rest (Exactly AnOpen ∷ Exactly AName ∷ Exactly AClose ∷ Exactly ASemicolon ∷ ns) → AssignCase ts ns
  a_value : Accepts ts (Operand ∷ Exactly ASemicolon ∷ ns) → AssignCase ts ns

assign_case : (ts : List Symbol) (ns : Needs) → Accepts ts (AfterAssign ∷ ns) → AssignCase ts ns
assign_case [] ns a = absurd (cc a)
assign_case (token.Read ∷ ts) ns a = a_read ts refl a
assign_case (_ ∷ ts) ns a = a_value a

an_assignment : (ts behind : List Symbol) (x : Target) (ns : Needs) → IsTarget ts (token.Assign ∷ behind) x → length behind < length ts → AssignCase behind (InBlock ∷ ns) → StatementFound ts ns
an_assignment ts behind x ns t l (a_value a) =
    let e : ExpressionFound behind (Exactly ASemicolon ∷ InBlock ∷ ns) = an_expression behind (Exactly ASemicolon ∷ InBlock ∷ ns) a in
    let e-shorter : length e.rest < length behind = e.shorter in
    let c = get_semicolon e.rest (InBlock ∷ ns) e.left in
    let w : length e.rest ≡ suc (length c.0) = ap length c.1 in
    record { rest = c.0; step = one_step (Assign x e.tree); found = simple (assign t (subst (λ y. Expression behind y e.tree) c.1 e.found)); left = c.2; shorter = omega arith }
an_assignment ts behind x ns t l (a_read rest s a) =
    let w : length behind ≡ suc (length rest) = ap length s in
    let c1 = get_open rest (Exactly AName ∷ Exactly AClose ∷ Exactly ASemicolon ∷ InBlock ∷ ns) a in
    let w1 : length rest ≡ suc (length c1.0) = ap length c1.1 in
    let c2 = get_name c1.0 (Exactly AClose ∷ Exactly ASemicolon ∷ InBlock ∷ ns) c1.2 in
    let w2 : length c1.0 ≡ suc (length c2.1) = ap length c2.2 in
    let c3 = get_close c2.1 (Exactly ASemicolon ∷ InBlock ∷ ns) c2.3 in
    let w3 : length c2.1 ≡ suc (length c3.0) = ap length c3.1 in
    let c4 = get_semicolon c3.0 (InBlock ∷ ns) c3.2 in
    let w4 : length c3.0 ≡ suc (length c4.0) = ap length c4.1 in
    let q : behind ≡ token.Read ∷ token.Open ∷ token.Ident c2.0 ∷ token.Close ∷ token.Semicolon ∷ c4.0 = cc (s, c1.1, c2.2, c3.1, c4.1) in
    record { rest = c4.0; step = one_step (Read x c2.0); found = read (subst (λ y. IsTarget ts (token.Assign ∷ y) x) q t); left = c4.2; shorter = omega arith }

changed : (ts behind : List Symbol) (ns : Needs) → length behind ≤ length ts → SimpleFound ts behind (Exactly ASemicolon ∷ InBlock ∷ ns) → StatementFound ts ns
changed ts behind ns l p =
    let p-shorter : length p.rest < length behind = p.shorter in
    let c = get_semicolon p.rest (InBlock ∷ ns) p.left in
    let w : length p.rest ≡ suc (length c.0) = ap length c.1 in
    record { rest = c.0; step = one_step p.step; found = simple (subst (λ y. Simple ts y p.step) c.1 p.found); left = c.2; shorter = omega arith }

from_element : (ts behind : List Symbol) (x : Target) (ns : Needs) → IsTarget ts behind x → length behind ≤ length ts → ElementCase behind (InBlock ∷ ns) → StatementFound ts ns
from_element ts behind x ns t l (an_assign rest s a) =
    let w : length behind ≡ suc (length rest) = ap length s in
    an_assignment ts rest x ns (subst (λ y. IsTarget ts y x) s t) (omega arith) (assign_case rest (InBlock ∷ ns) a)
from_element ts behind x ns t l (some_change a) = changed ts behind ns l (a_change ts behind x (Exactly ASemicolon ∷ InBlock ∷ ns) t (change_case behind (Exactly ASemicolon ∷ InBlock ∷ ns) a))

a_write : (ts : List Symbol) (ns : Needs) → Accepts ts (Exactly AnOpen ∷ Exactly AName ∷ Exactly AComma ∷ Operand ∷ Exactly AClose ∷ Exactly ASemicolon ∷ InBlock ∷ ns) → StatementFound (token.Write ∷ ts) ns
a_write ts ns a =
    let c1 = get_open ts (Exactly AName ∷ Exactly AComma ∷ Operand ∷ Exactly AClose ∷ Exactly ASemicolon ∷ InBlock ∷ ns) a in
    let w1 : length ts ≡ suc (length c1.0) = ap length c1.1 in
    let c2 = get_name c1.0 (Exactly AComma ∷ Operand ∷ Exactly AClose ∷ Exactly ASemicolon ∷ InBlock ∷ ns) c1.2 in
    let w2 : length c1.0 ≡ suc (length c2.1) = ap length c2.2 in
    let c3 = get_comma c2.1 (Operand ∷ Exactly AClose ∷ Exactly ASemicolon ∷ InBlock ∷ ns) c2.3 in
    let w3 : length c2.1 ≡ suc (length c3.0) = ap length c3.1 in
    let e : ExpressionFound c3.0 (Exactly AClose ∷ Exactly ASemicolon ∷ InBlock ∷ ns) = an_expression c3.0 (Exactly AClose ∷ Exactly ASemicolon ∷ InBlock ∷ ns) c3.2 in
    let e-shorter : length e.rest < length c3.0 = e.shorter in
    let c4 = get_close e.rest (Exactly ASemicolon ∷ InBlock ∷ ns) e.left in
    let w4 : length e.rest ≡ suc (length c4.0) = ap length c4.1 in
    let c5 = get_semicolon c4.0 (InBlock ∷ ns) c4.2 in
    let w5 : length c4.0 ≡ suc (length c5.0) = ap length c5.1 in
    let q : ts ≡ token.Open ∷ token.Ident c2.0 ∷ token.Comma ∷ c3.0 = cc (c1.1, c2.2, c3.1) in
    let r : e.rest ≡ token.Close ∷ token.Semicolon ∷ c5.0 = cc (c4.1, c5.1) in
    record { rest = c5.0; step = one_step (Write c2.0 e.tree); found = subst (λ y. Statement (token.Write ∷ y) c5.0 (one_step (Write c2.0 e.tree))) (sym q) (write (subst (λ y. Expression c3.0 y e.tree) r e.found)); left = c5.2; shorter = omega arith }

a_return : (ts : List Symbol) (ns : Needs) → Accepts ts (Exactly ASemicolon ∷ InBlock ∷ ns) → StatementFound (token.Return ∷ ts) ns
a_return ts ns a =
    let c = get_semicolon ts (InBlock ∷ ns) a in
    let w : length ts ≡ suc (length c.0) = ap length c.1 in
    record { rest = c.0; step = one_step Return; found = subst (λ y. Statement (token.Return ∷ y) c.0 (one_step Return)) (sym c.1) return; left = c.2; shorter = omega arith }

abbrev StatementsAll : ℕ → Type 0
StatementsAll n = (ts : List Symbol) (ns : Needs) → length ts ≤ n → Accepts ts (InBlock ∷ ns) → StatementsFound ts ns

abbrev IfAll : ℕ → Type 0
IfAll n = (ts : List Symbol) (ns : Needs) → length ts ≤ n → Accepts ts (if_rest ns) → IfFound ts ns

a_condition : (n : ℕ) → StatementsAll n → (ts : List Symbol) (ns : Needs) → length ts ≤ suc n → Accepts ts (Exactly AnOpen ∷ Operand ∷ Exactly AClose ∷ Exactly AnOpenBrace ∷ InBlock ∷ ns) → ConditionFound ts ns
a_condition n h ts ns b a =
    let c1 = get_open ts (Operand ∷ Exactly AClose ∷ Exactly AnOpenBrace ∷ InBlock ∷ ns) a in
    let w1 : length ts ≡ suc (length c1.0) = ap length c1.1 in
    let e : ExpressionFound c1.0 (Exactly AClose ∷ Exactly AnOpenBrace ∷ InBlock ∷ ns) = an_expression c1.0 (Exactly AClose ∷ Exactly AnOpenBrace ∷ InBlock ∷ ns) c1.2 in
    let e-shorter : length e.rest < length c1.0 = e.shorter in
    let c2 = get_close e.rest (Exactly AnOpenBrace ∷ InBlock ∷ ns) e.left in
    let w2 : length e.rest ≡ suc (length c2.0) = ap length c2.1 in
    let c3 = get_open_brace c2.0 (InBlock ∷ ns) c2.2 in
    let w3 : length c2.0 ≡ suc (length c3.0) = ap length c3.1 in
    let s : StatementsFound c3.0 ns = h c3.0 ns (omega arith) c3.2 in
    let s-shorter : length s.rest < length c3.0 = s.shorter in
    record {
      inner = c1.0;
      mid = c2.0;
      rest = s.rest;
      condition = e.tree;
      body = s.steps;
      opened = c1.1;
      found = subst (λ y. Expression c1.0 y e.tree) c2.1 e.found;
      found_body = subst (λ y. Block y s.rest s.steps) (sym c3.1) (braces s.found);
      left = s.left;
      shorter = omega arith;
    }

data ElseCase (ts : List Symbol) (ns : Needs) : Type 0 where
  an_else_block : (rest : List Symbol) → ts ≡ token.Else ∷ token.OpenBrace ∷ rest → Accepts rest (InBlock ∷ InBlock ∷ ns) → ElseCase ts ns
  an_else_if : (rest : List Symbol) → ts ≡ token.Else ∷ token.If ∷ rest → Accepts rest (if_rest ns) → ElseCase ts ns
  no_else : Accepts ts (InBlock ∷ ns) → ElseCase ts ns

else_case : (ts : List Symbol) (ns : Needs) → Accepts ts (AfterIf ∷ ns) → ElseCase ts ns
else_case [] ns a = absurd (cc a)
else_case (token.Else ∷ ts) ns a = inside ts a
  where
    inside : (ts : List Symbol) → Accepts ts (AfterElse ∷ ns) → ElseCase (token.Else ∷ ts) ns
    inside [] a = absurd (cc a)
    inside (token.OpenBrace ∷ ts) a = an_else_block ts refl a
    inside (token.If ∷ ts) a = an_else_if ts refl a
    inside (_ ∷ ts) a = absurd a
else_case (_ ∷ ts) ns a = no_else a

an_if : (n : ℕ) → StatementsAll n → IfAll n → (ts : List Symbol) (ns : Needs) → length ts ≤ suc n → (p : ConditionFound ts (AfterIf ∷ ns)) → ElseCase p.rest ns → IfFound ts ns
an_if n h i ts ns b p (no_else a) =
    record { rest = p.rest; step = If p.condition p.body []; found = subst (λ y. IfStatement (token.If ∷ y) p.rest (If p.condition p.body [])) (sym p.opened) (if_only p.found p.found_body); left = a; shorter = p.shorter }
an_if n h i ts ns b p (an_else_block rest s a) =
    let p-shorter : length p.rest < length ts = p.shorter in
    let w : length p.rest ≡ suc (suc (length rest)) = ap length s in
    let q : StatementsFound rest (InBlock ∷ ns) = h rest (InBlock ∷ ns) (omega arith) a in
    let q-shorter : length q.rest < length rest = q.shorter in
    record {
      rest = q.rest;
      step = If p.condition p.body q.steps;
      found = subst (λ y. IfStatement (token.If ∷ y) q.rest (If p.condition p.body q.steps)) (sym p.opened)
          (if_else p.found (subst (λ y. Block p.mid y p.body) s p.found_body) (block (braces q.found)));
      left = q.left;
      shorter = omega arith;
    }
an_if n h i ts ns b p (an_else_if rest s a) =
    let p-shorter : length p.rest < length ts = p.shorter in
    let w : length p.rest ≡ suc (suc (length rest)) = ap length s in
    let q : IfFound rest ns = i rest ns (omega arith) a in
    let q-shorter : length q.rest < length rest = q.shorter in
    record {
      rest = q.rest;
      step = If p.condition p.body (one_step q.step);
      found = subst (λ y. IfStatement (token.If ∷ y) q.rest (If p.condition p.body (one_step q.step))) (sym p.opened)
          (if_else p.found (subst (λ y. Block p.mid y p.body) s p.found_body) (else_if q.found));
      left = q.left;
      shorter = omega arith;
    }

if_step : (n : ℕ) → StatementsAll n → IfAll n → IfAll (suc n)
if_step n h i ts ns b a =
    let p : ConditionFound ts (AfterIf ∷ ns) = a_condition n h ts (AfterIf ∷ ns) b a in
    an_if n h i ts ns b p (else_case p.rest ns p.left)

a_statement : (n : ℕ) → StatementsAll n → (ts : List Symbol) (ns : Needs) → length ts ≤ suc n → StatementFound ts ns → StatementsFound ts ns
a_statement n h ts ns b p =
    let p-shorter : length p.rest < length ts = p.shorter in
    let q : StatementsFound p.rest ns = h p.rest ns (omega arith) p.left in
    let q-shorter : length q.rest < length p.rest = q.shorter in
    record { rest = q.rest; steps = p.step ++ q.steps; found = then p.found q.found; left = q.left; shorter = omega arith }

from_if : (ts : List Symbol) (ns : Needs) → IfFound ts ns → StatementFound (token.If ∷ ts) ns
from_if ts ns p =
    let p-shorter : length p.rest < length ts = p.shorter in
    record { rest = p.rest; step = one_step p.step; found = choice p.found; left = p.left; shorter = omega arith }

from_loop : (ts : List Symbol) (ns : Needs) → ConditionFound ts (InBlock ∷ ns) → StatementFound (token.While ∷ ts) ns
from_loop ts ns p =
    let p-shorter : length p.rest < length ts = p.shorter in
    record { rest = p.rest; step = one_step (While p.condition p.body); found = subst (λ y. Statement (token.While ∷ y) p.rest (one_step (While p.condition p.body))) (sym p.opened) (loop p.found p.found_body); left = p.left; shorter = omega arith }

from_target : (x : Used) (ts : List Symbol) (ns : Needs) → TargetFound x ts (InBlock ∷ ns) (AfterElement ∷ InBlock ∷ ns) → StatementFound (token.Ident x ∷ ts) ns
from_target x ts ns p =
    let p-shorter : length p.rest ≤ length ts = p.shorter in
    from_element (token.Ident x ∷ ts) p.rest p.place ns p.found (omega arith) (element_case p.rest (InBlock ∷ ns) p.left)

record NamedFound (ts : List Symbol) (ns : Needs) : Type 0 where
  rest : List Symbol
  step : Stmt
  found : Simple ts rest step
  left : Accepts rest ns
  shorter : length rest < length ts

a_named : (ts : List Symbol) (ns : Needs) → Accepts ts (Exactly AName ∷ AfterSimple ∷ ns) → NamedFound ts ns
a_named ts ns a =
    let c = get_name ts (AfterSimple ∷ ns) a in
    let p : SimpleFound (token.Ident c.0 ∷ c.1) (token.Ident c.0 ∷ c.1) ns = a_simple c.0 c.1 ns c.3 in
    let p-shorter : length p.rest < suc (length c.1) = p.shorter in
    let w : length ts ≡ suc (length c.1) = ap length c.2 in
    record { rest = p.rest; step = p.step; found = subst (λ y. Simple y p.rest p.step) (sym c.2) p.found; left = p.left; shorter = omega arith }

a_for : (n : ℕ) → StatementsAll n → (ts : List Symbol) (ns : Needs) → length ts ≤ n → Accepts ts (for_rest ns) → StatementFound (token.For ∷ ts) ns
a_for n h ts ns b a =
    let n4 : Needs = Exactly AnOpenBrace ∷ InBlock ∷ InBlock ∷ ns in
    let n3 : Needs = Exactly AName ∷ AfterSimple ∷ Exactly AClose ∷ Exactly AnOpenBrace ∷ InBlock ∷ InBlock ∷ ns in
    let n2 : Needs = Operand ∷ Exactly ASemicolon ∷ Exactly AName ∷ AfterSimple ∷ Exactly AClose ∷ Exactly AnOpenBrace ∷ InBlock ∷ InBlock ∷ ns in
    let c1 = get_open ts (Exactly AName ∷ AfterSimple ∷ Exactly ASemicolon ∷ Operand ∷ Exactly ASemicolon ∷ Exactly AName ∷ AfterSimple ∷ Exactly AClose ∷ Exactly AnOpenBrace ∷ InBlock ∷ InBlock ∷ ns) a in
    let w1 : length ts ≡ suc (length c1.0) = ap length c1.1 in
    let p : NamedFound c1.0 (Exactly ASemicolon ∷ Operand ∷ Exactly ASemicolon ∷ Exactly AName ∷ AfterSimple ∷ Exactly AClose ∷ Exactly AnOpenBrace ∷ InBlock ∷ InBlock ∷ ns) = a_named c1.0 _ c1.2 in
    let p-shorter : length p.rest < length c1.0 = p.shorter in
    let c2 = get_semicolon p.rest n2 p.left in
    let w2 : length p.rest ≡ suc (length c2.0) = ap length c2.1 in
    let e : ExpressionFound c2.0 (Exactly ASemicolon ∷ Exactly AName ∷ AfterSimple ∷ Exactly AClose ∷ Exactly AnOpenBrace ∷ InBlock ∷ InBlock ∷ ns) = an_expression c2.0 _ c2.2 in
    let e-shorter : length e.rest < length c2.0 = e.shorter in
    let c3 = get_semicolon e.rest n3 e.left in
    let w3 : length e.rest ≡ suc (length c3.0) = ap length c3.1 in
    let q : NamedFound c3.0 (Exactly AClose ∷ Exactly AnOpenBrace ∷ InBlock ∷ InBlock ∷ ns) = a_named c3.0 _ c3.2 in
    let q-shorter : length q.rest < length c3.0 = q.shorter in
    let c4 = get_close q.rest n4 q.left in
    let w4 : length q.rest ≡ suc (length c4.0) = ap length c4.1 in
    let c5 = get_open_brace c4.0 (InBlock ∷ InBlock ∷ ns) c4.2 in
    let w5 : length c4.0 ≡ suc (length c5.0) = ap length c5.1 in
    let s : StatementsFound c5.0 (InBlock ∷ ns) = h c5.0 (InBlock ∷ ns) (omega arith) c5.2 in
    let s-shorter : length s.rest < length c5.0 = s.shorter in
    let result : List Stmt = p.step ∷ one_step (While e.tree (s.steps ++ one_step q.step)) in
    record {
      rest = s.rest;
      step = result;
      found = subst (λ y. Statement (token.For ∷ y) s.rest result) (sym c1.1)
          (for (subst (λ y. Simple c1.0 y p.step) c2.1 p.found) (subst (λ y. Expression c2.0 y e.tree) c3.1 e.found) (subst (λ y. Simple c3.0 y q.step) c4.1 q.found) (subst (λ y. Block y s.rest s.steps) (sym c5.1) (braces s.found)));
      left = s.left;
      shorter = omega arith;
    }

statements_step : (n : ℕ) → StatementsAll n → IfAll n → StatementsAll (suc n)
statements_step n h i [] ns b a = absurd (cc a)
statements_step n h i (token.CloseBrace ∷ ts) ns b a = record { rest = ts; steps = []; found = none; left = a; shorter = omega arith }
statements_step n h i (token.Ident x ∷ ts) ns b a = a_statement n h (token.Ident x ∷ ts) ns b (from_target x ts ns (a_target x ts (InBlock ∷ ns) a))
statements_step n h i (token.Write ∷ ts) ns b a = a_statement n h (token.Write ∷ ts) ns b (a_write ts ns a)
statements_step n h i (token.If ∷ ts) ns b a = a_statement n h (token.If ∷ ts) ns b (from_if ts ns (i ts ns (omega arith) a))
statements_step n h i (token.While ∷ ts) ns b a = a_statement n h (token.While ∷ ts) ns b (from_loop ts ns (a_condition n h ts (InBlock ∷ ns) (omega arith) a))
statements_step n h i (token.For ∷ ts) ns b a = a_statement n h (token.For ∷ ts) ns b (a_for n h ts ns (omega arith) a)
statements_step n h i (token.Return ∷ ts) ns b a = a_statement n h (token.Return ∷ ts) ns b (a_return ts ns a)
statements_step n h i (_ ∷ ts) ns b a = absurd a

statements_none : StatementsAll zero
statements_none [] ns b a = absurd (cc a)
statements_none (t ∷ ts) ns b a = absurd (omega arith)

if_none : IfAll zero
if_none [] ns b a = absurd (cc a)
if_none (t ∷ ts) ns b a = absurd (omega arith)

both_all : (n : ℕ) → StatementsAll n × IfAll n
both_all zero = (statements_none, if_none)
both_all (suc n) = let h : StatementsAll n × IfAll n = both_all n in (statements_step n h.0 h.1, if_step n h.0 h.1)

the_statements : (ts : List Symbol) (ns : Needs) → Accepts ts (InBlock ∷ ns) → StatementsFound ts ns
the_statements ts ns a = (both_all (length ts)).0 ts ns (omega arith) a

record PortsFound (ts : List Symbol) (ns : Needs) : Type 0 where
  rest : List Symbol
  ports : List Port
  found : Ports ts rest ports
  left : Accepts rest ns

record MorePortsFound (ts : List Symbol) (ns : Needs) : Type 0 where
  rest : List Symbol
  ports : List Port
  found : MorePorts ts rest ports
  left : Accepts rest ns

data PortCase (ts : List Symbol) (ns : Needs) : Type 0 where
  a_port : (d : Symbol) (out : Side) (rest : List Symbol) → Direction d out → ts ≡ d ∷ rest → Accepts rest (Exactly AName ∷ AfterPort ∷ ns) → PortCase ts ns

port_case : (ts : List Symbol) (ns : Needs) → Accepts ts (NextPort ∷ ns) → PortCase ts ns
port_case [] ns a = absurd (cc a)
port_case (token.In ∷ ts) ns a = a_port token.In side.In ts input refl a
port_case (token.Out ∷ ts) ns a = a_port token.Out side.Out ts output refl a
port_case (_ ∷ ts) ns a = absurd a

a_next : (n : ℕ) → ((ts : List Symbol) (ns : Needs) → length ts ≤ n → Accepts ts (AfterPort ∷ ns) → MorePortsFound ts ns) → (ts : List Symbol) (ns : Needs) → length ts ≤ n → PortCase ts ns → MorePortsFound (token.Comma ∷ ts) ns
a_next n h ts ns b (a_port d out rest i s a) =
    let w : length ts ≡ suc (length rest) = ap length s in
    let c = get_name rest (AfterPort ∷ ns) a in
    let w1 : length rest ≡ suc (length c.1) = ap length c.2 in
    let p : MorePortsFound c.1 ns = h c.1 ns (omega arith) c.3 in
    let q : ts ≡ d ∷ token.Ident c.0 ∷ c.1 = cc (s, c.2) in
    record { rest = p.rest; ports = port_of c.0 out ∷ p.ports; found = subst (λ y. MorePorts (token.Comma ∷ y) p.rest (port_of c.0 out ∷ p.ports)) (sym q) (next i p.found); left = p.left }

more_ports : (n : ℕ) (ts : List Symbol) (ns : Needs) → length ts ≤ n → Accepts ts (AfterPort ∷ ns) → MorePortsFound ts ns
more_ports n [] ns b a = absurd (cc a)
more_ports zero (t ∷ ts) ns b a = absurd (omega arith)
more_ports (suc n) (token.Close ∷ ts) ns b a = record { rest = ts; ports = []; found = last; left = a }
more_ports (suc n) (token.Comma ∷ ts) ns b a = a_next n (more_ports n) ts ns (omega arith) (port_case ts ns a)
more_ports (suc n) (_ ∷ ts) ns b a = absurd a

first_of_ports : (ts : List Symbol) (ns : Needs) → PortCase ts ns → PortsFound ts ns
first_of_ports ts ns (a_port d out rest i s a) =
    let c = get_name rest (AfterPort ∷ ns) a in
    let p : MorePortsFound c.1 ns = more_ports (length c.1) c.1 ns (omega arith) c.3 in
    let q : ts ≡ d ∷ token.Ident c.0 ∷ c.1 = cc (s, c.2) in
    record { rest = p.rest; ports = port_of c.0 out ∷ p.ports; found = subst (λ y. Ports y p.rest (port_of c.0 out ∷ p.ports)) (sym q) (some_ports i p.found); left = p.left }

the_ports : (ts : List Symbol) (ns : Needs) → Accepts ts (FirstPort ∷ ns) → PortsFound ts ns
the_ports [] ns a = absurd (cc a)
the_ports (token.Close ∷ ts) ns a = record { rest = ts; ports = []; found = no_ports; left = a }
the_ports (token.In ∷ ts) ns a = first_of_ports (token.In ∷ ts) ns (a_port token.In side.In ts input refl a)
the_ports (token.Out ∷ ts) ns a = first_of_ports (token.Out ∷ ts) ns (a_port token.Out side.Out ts output refl a)
the_ports (_ ∷ ts) ns a = absurd a

record BodyFound (ts : List Symbol) (ns : Needs) : Type 0 where
  rest : List Symbol
  variables : List Declared
  steps : List Stmt
  found : Body ts (token.CloseBrace ∷ rest) variables steps
  left : Accepts rest ns

record DeclarationFound (t : Symbol) (ts : List Symbol) (ns : Needs) : Type 0 where
  rest : List Symbol
  declared : Declared
  initializer : List Stmt
  found : Declaration (t ∷ ts) rest declared initializer
  left : Accepts rest ns
  shorter : length rest < length ts

data VariableCase (ts : List Symbol) (ns : Needs) : Type 0 where
  no_value : (rest : List Symbol) → ts ≡ token.Semicolon ∷ rest → Accepts rest ns → VariableCase ts ns
  with_length : (rest : List Symbol) → ts ≡ token.OpenBracket ∷ rest → Accepts rest (Exactly ALength ∷ Exactly ACloseBracket ∷ Exactly ASemicolon ∷ ns) → VariableCase ts ns
  with_value : (rest : List Symbol) → ts ≡ token.Assign ∷ rest → Accepts rest (Operand ∷ Exactly ASemicolon ∷ ns) → VariableCase ts ns

variable_case : (ts : List Symbol) (ns : Needs) → Accepts ts (AfterVariable ∷ ns) → VariableCase ts ns
variable_case [] ns a = absurd (cc a)
variable_case (token.Semicolon ∷ ts) ns a = no_value ts refl a
variable_case (token.Assign ∷ ts) ns a = with_value ts refl a
variable_case (token.OpenBracket ∷ ts) ns a = with_length ts refl a
variable_case (_ ∷ ts) ns a = absurd a

a_variable : (t : Symbol) (ty : Ty) (x : Used) (ts : List Symbol) (ns : Needs) → IsType t ty → VariableCase ts ns → DeclarationFound t (token.Ident x ∷ ts) ns
a_variable t ty x ts ns i (no_value rest s a) =
    let w : length ts ≡ suc (length rest) = ap length s in
    record { rest = rest; declared = AScalar (scalar_of x ty); initializer = []; found = subst (λ y. Declaration (t ∷ token.Ident x ∷ y) rest (AScalar (scalar_of x ty)) []) (sym s) (plain i); left = a; shorter = omega arith }
a_variable t ty x ts ns i (with_value rest s a) =
    let w : length ts ≡ suc (length rest) = ap length s in
    let e : ExpressionFound rest (Exactly ASemicolon ∷ ns) = an_expression rest (Exactly ASemicolon ∷ ns) a in
    let e-shorter : length e.rest < length rest = e.shorter in
    let c = get_semicolon e.rest ns e.left in
    let v : length e.rest ≡ suc (length c.0) = ap length c.1 in
    record { rest = c.0; declared = AScalar (scalar_of x ty); initializer = one_step (Assign (target.Scalar x) e.tree); found = subst (λ y. Declaration (t ∷ token.Ident x ∷ y) c.0 (AScalar (scalar_of x ty)) (one_step (Assign (target.Scalar x) e.tree))) (sym s) (initial i (subst (λ y. Expression rest y e.tree) c.1 e.found)); left = c.2; shorter = omega arith }
a_variable t ty x ts ns i (with_length rest s a) =
    let w : length ts ≡ suc (length rest) = ap length s in
    let c1 = get_length rest (Exactly ACloseBracket ∷ Exactly ASemicolon ∷ ns) a in
    let w1 : length rest ≡ suc (length c1.2) = ap length c1.3 in
    let c2 = get_close_bracket c1.2 (Exactly ASemicolon ∷ ns) c1.4 in
    let w2 : length c1.2 ≡ suc (length c2.0) = ap length c2.1 in
    let c3 = get_semicolon c2.0 ns c2.2 in
    let w3 : length c2.0 ≡ suc (length c3.0) = ap length c3.1 in
    let v : Declared = AnArray (array_of x ty (suc c1.0)) in
    let q : ts ≡ token.OpenBracket ∷ token.Number (suc c1.0) c1.1 ∷ token.CloseBracket ∷ token.Semicolon ∷ c3.0 = cc (s, c1.3, c2.1, c3.1) in
    record { rest = c3.0; declared = v; initializer = []; found = subst (λ y. Declaration (t ∷ token.Ident x ∷ y) c3.0 v []) (sym q) (array i); left = c3.2; shorter = omega arith }

a_declaration : (t : Symbol) (ty : Ty) (ts : List Symbol) (ns : Needs) → IsType t ty → Accepts ts (Exactly AName ∷ AfterVariable ∷ ns) → DeclarationFound t ts ns
a_declaration t ty ts ns i a =
    let c = get_name ts (AfterVariable ∷ ns) a in
    subst (λ y. DeclarationFound t y ns) (sym c.2) (a_variable t ty c.0 c.1 ns i (variable_case c.1 ns c.3))

from_statements : (ts : List Symbol) (ns : Needs) → Accepts ts (InBlock ∷ ns) → BodyFound ts ns
from_statements ts ns a =
    let p : StatementsFound ts ns = the_statements ts ns a in
    record { rest = p.rest; variables = []; steps = p.steps; found = statements p.found; left = p.left }

abbrev BodyAll : ℕ → Type 0
BodyAll n = (ts : List Symbol) (ns : Needs) → length ts ≤ n → Accepts ts (InBody ∷ ns) → BodyFound ts ns

declared_first : (n : ℕ) → BodyAll n → (t : Symbol) (ts : List Symbol) (ns : Needs) → length ts ≤ n → DeclarationFound t ts (InBody ∷ ns) → BodyFound (t ∷ ts) ns
declared_first n h t ts ns b d =
    let d-shorter : length d.rest < length ts = d.shorter in
    let p : BodyFound d.rest ns = h d.rest ns (omega arith) d.left in
    record { rest = p.rest; variables = d.declared ∷ p.variables; steps = d.initializer ++ p.steps; found = declare d.found p.found; left = p.left }

body_all : (n : ℕ) → BodyAll n
body_all n [] ns b a = absurd (cc a)
body_all zero (t ∷ ts) ns b a = absurd (omega arith)
body_all (suc n) (token.Int ∷ ts) ns b a = declared_first n (body_all n) token.Int ts ns (omega arith) (a_declaration token.Int Int ts (InBody ∷ ns) signed a)
body_all (suc n) (token.Uint ∷ ts) ns b a = declared_first n (body_all n) token.Uint ts ns (omega arith) (a_declaration token.Uint Uint ts (InBody ∷ ns) unsigned a)
body_all (suc n) (t ∷ ts) ns b a = from_statements (t ∷ ts) ns a

ended : (ts : List Symbol) → Accepts ts [] → ts ≡ []
ended [] a = refl
ended (t ∷ ts) a = absurd a

-- what is accepted is an operator
pub accepts-syntax : (ts : List Symbol) → Accepts ts start → (op : Operator) × Syntax ts op
accepts-syntax ts a =
    let c1 = get_void ts (Exactly AName ∷ Exactly AnOpen ∷ FirstPort ∷ Exactly AnOpenBrace ∷ InBody ∷ []) a in
    let c2 = get_name c1.0 (Exactly AnOpen ∷ FirstPort ∷ Exactly AnOpenBrace ∷ InBody ∷ []) c1.2 in
    let c3 = get_open c2.1 (FirstPort ∷ Exactly AnOpenBrace ∷ InBody ∷ []) c2.3 in
    let p : PortsFound c3.0 (Exactly AnOpenBrace ∷ InBody ∷ []) = the_ports c3.0 (Exactly AnOpenBrace ∷ InBody ∷ []) c3.2 in
    let c4 = get_open_brace p.rest (InBody ∷ []) p.left in
    let b : BodyFound c4.0 [] = body_all (length c4.0) c4.0 [] (omega arith) c4.2 in
    let e : b.rest ≡ [] = ended b.rest b.left in
    let q : ts ≡ token.Void ∷ token.Ident c2.0 ∷ token.Open ∷ c3.0 = cc (c1.1, c2.2, c3.1) in
    let op : Operator = operator_of c2.0 p.ports b.variables b.steps in
    (op, subst (λ y. Syntax y op) (sym q) (operator (subst (λ y. Ports c3.0 y p.ports) c4.1 p.found) (subst (λ y. Body c4.0 (token.CloseBrace ∷ y) b.variables b.steps) e b.found)))
