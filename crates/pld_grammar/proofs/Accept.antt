-- What is in the grammar is met by the machine.
use Rattle.std.proofs.Common.{ℕ, ◌≡◌, refl, List, [], ◌∷◌, Option, Some, None}
use Rattle.pld_ast.specs.declared.tree.BinOp.{BinOp}
use Rattle.pld_ast.specs.declared.tree.UnOp.{UnOp}
use Rattle.pld_grammar.specs.Symbols.{Symbol}
use Rattle.pld_grammar.specs.Symbols as token
use Rattle.pld_ast.specs.declared.tree.Expr.{Expr}
use Rattle.pld_ast.specs.declared.tree.Target.{Target}
use Rattle.pld_ast.specs.declared.tree.Stmt.{Stmt}
use Rattle.pld_ast.specs.declared.tree.Port.{Port}
use Rattle.pld_ast.specs.declared.tree.Operator.{Operator}
use Rattle.pld_grammar.specs.Rewritings.{Declared}
use Rattle.pld_grammar.specs.Grammar.{signed, unsigned, IsOperator, is_OrElse, is_AndAlso, is_Or, is_Xor, is_And, is_Eq, is_Ne, is_Lt, is_Le, is_Gt, is_Ge, is_Shl, is_Shr, is_Add, is_Sub, is_Mul, is_Div, is_Rem, IsPrefix, is_neg, is_plus, is_complement, is_not, IsAssignment, by_Add, by_Sub, by_Mul, by_Div, by_Rem, by_And, by_Or, by_Xor, by_Shl, by_Shr, Level, operand, chain, Tail, end, more, Prefix, unary_form, cast, number, variable, element, group, Expression, IsTarget, scalar, cell, Simple, assign, update, increment, decrement, Statement, simple, read, write, choice, loop, for, return, IfStatement, if_only, if_else, Otherwise, block, else_if, Block, braces, Statements, none, then, input, output, MorePorts, last, next, Ports, no_ports, some_ports, Declaration, plain, initial, array, Body, statements, declare, Syntax, operator}
use Rattle.pld_grammar.specs.Machine.{Needs, Exactly, Operand, After, AfterName, AfterOpen, InBlock, AfterIf, AfterElse, AfterTarget, AfterElement, AfterSimple, AfterSimpleElement, AfterAssign, InBody, FirstPort, AfterPort, AName, AClose, ACloseBracket, AnOpenBrace, ASemicolon, after_token, start}

abbrev pub IfNeeds : Option Needs → (Needs → Type 0) → Type 0
IfNeeds None P = ⊥
IfNeeds (Some ns) P = P ns

-- the tokens meet just this
abbrev pub Accepts : List Symbol → Needs → Type 0
Accepts [] ns = ns ≡ []
Accepts (t ∷ ts) ns = IfNeeds (after_token ns t) (Accepts ts)

-- no bracket comes
abbrev pub NoBracket : List Symbol → Type 0
NoBracket (token.OpenBracket ∷ ts) = ⊥
NoBracket _ = Unit {0}

abbrev pub NoElse : List Symbol → Type 0
NoElse (token.Else ∷ ts) = ⊥
NoElse _ = Unit {0}

operator-no_bracket : {k : ℕ} {t : Symbol} {o : BinOp} → IsOperator k t o → (ts : List Symbol) → NoBracket (t ∷ ts)
operator-no_bracket is_OrElse ts = tt
operator-no_bracket is_AndAlso ts = tt
operator-no_bracket is_Or ts = tt
operator-no_bracket is_Xor ts = tt
operator-no_bracket is_And ts = tt
operator-no_bracket is_Eq ts = tt
operator-no_bracket is_Ne ts = tt
operator-no_bracket is_Lt ts = tt
operator-no_bracket is_Le ts = tt
operator-no_bracket is_Gt ts = tt
operator-no_bracket is_Ge ts = tt
operator-no_bracket is_Shl ts = tt
operator-no_bracket is_Shr ts = tt
operator-no_bracket is_Add ts = tt
operator-no_bracket is_Sub ts = tt
operator-no_bracket is_Mul ts = tt
operator-no_bracket is_Div ts = tt
operator-no_bracket is_Rem ts = tt

operator-accepts : {k : ℕ} {t : Symbol} {o : BinOp} → IsOperator k t o → (ts : List Symbol) (ns : Needs) → Accepts ts (Operand ∷ ns) → Accepts (t ∷ ts) (After ∷ ns)
operator-accepts is_OrElse ts ns a = a
operator-accepts is_AndAlso ts ns a = a
operator-accepts is_Or ts ns a = a
operator-accepts is_Xor ts ns a = a
operator-accepts is_And ts ns a = a
operator-accepts is_Eq ts ns a = a
operator-accepts is_Ne ts ns a = a
operator-accepts is_Lt ts ns a = a
operator-accepts is_Le ts ns a = a
operator-accepts is_Gt ts ns a = a
operator-accepts is_Ge ts ns a = a
operator-accepts is_Shl ts ns a = a
operator-accepts is_Shr ts ns a = a
operator-accepts is_Add ts ns a = a
operator-accepts is_Sub ts ns a = a
operator-accepts is_Mul ts ns a = a
operator-accepts is_Div ts ns a = a
operator-accepts is_Rem ts ns a = a

prefix_token-accepts : {t : Symbol} {o : UnOp} → IsPrefix t o → (ts : List Symbol) (ns : Needs) → Accepts ts (Operand ∷ ns) → Accepts (t ∷ ts) (Operand ∷ ns)
prefix_token-accepts is_neg ts ns a = a
prefix_token-accepts is_plus ts ns a = a
prefix_token-accepts is_complement ts ns a = a
prefix_token-accepts is_not ts ns a = a

tail-no_bracket : {l : ℕ} {a e : Expr} {ts rest : List Symbol} → Tail l a ts rest e → NoBracket rest → NoBracket ts
tail-no_bracket end h = h
tail-no_bracket (more i b t) h = operator-no_bracket i _

after_name : (ts : List Symbol) (ns : Needs) → NoBracket ts → Accepts ts (After ∷ ns) → Accepts ts (AfterName ∷ ns)
after_name [] ns h a = absurd (cc a)
after_name (token.OpenBracket ∷ ts) ns h a = absurd h
after_name (_ ∷ ts) ns h a = a

opened : (ts : List Symbol) (ns : Needs) → Accepts ts (Operand ∷ Exactly AClose ∷ After ∷ ns) → Accepts ts (AfterOpen ∷ ns)
opened [] ns a = absurd (cc a)
opened (token.Int ∷ ts) ns a = absurd a
opened (token.Uint ∷ ts) ns a = absurd a
opened (_ ∷ ts) ns a = a

mutual
  level-accepts : {l : ℕ} {ts rest : List Symbol} {e : Expr} → Level l ts rest e → NoBracket rest → (ns : Needs) → Accepts rest (After ∷ ns) → Accepts ts (Operand ∷ ns)
  level-accepts (operand p) h ns a = prefix-accepts p h ns a
  level-accepts (chain p t) h ns a = level-accepts p (tail-no_bracket t h) ns (tail-accepts t h ns a)

  tail-accepts : {l : ℕ} {ts rest : List Symbol} {b e : Expr} → Tail l b ts rest e → NoBracket rest → (ns : Needs) → Accepts rest (After ∷ ns) → Accepts ts (After ∷ ns)
  tail-accepts end h ns a = a
  tail-accepts (more i p t) h ns a = operator-accepts i _ ns (level-accepts p (tail-no_bracket t h) ns (tail-accepts t h ns a))

  prefix-accepts : {ts rest : List Symbol} {e : Expr} → Prefix ts rest e → NoBracket rest → (ns : Needs) → Accepts rest (After ∷ ns) → Accepts ts (Operand ∷ ns)
  prefix-accepts (unary_form i p) h ns a = prefix_token-accepts i _ ns (prefix-accepts p h ns a)
  prefix-accepts (cast signed p) h ns a = prefix-accepts p h ns a
  prefix-accepts (cast unsigned p) h ns a = prefix-accepts p h ns a
  prefix-accepts number h ns a = a
  prefix-accepts (variable {ts = ts}) h ns a = after_name ts ns h a
  prefix-accepts (element p) h ns a = level-accepts p tt (Exactly ACloseBracket ∷ After ∷ ns) a
  prefix-accepts (group {ts = ts} p) h ns a = opened ts ns (level-accepts p tt (Exactly AClose ∷ After ∷ ns) a)

pub expression-accepts : {ts rest : List Symbol} {e : Expr} → Expression ts rest e → NoBracket rest → (ns : Needs) → Accepts rest (After ∷ ns) → Accepts ts (Operand ∷ ns)
expression-accepts p h ns a = level-accepts p h ns a

assigned : (ts : List Symbol) (ns : Needs) → Accepts ts (Operand ∷ Exactly ASemicolon ∷ ns) → Accepts ts (AfterAssign ∷ ns)
assigned [] ns a = absurd (cc a)
assigned (token.Read ∷ ts) ns a = absurd a
assigned (_ ∷ ts) ns a = a

after_if : (ts : List Symbol) (ns : Needs) → NoElse ts → Accepts ts (InBlock ∷ ns) → Accepts ts (AfterIf ∷ ns)
after_if [] ns h a = absurd (cc a)
after_if (token.Else ∷ ts) ns h a = absurd h
after_if (_ ∷ ts) ns h a = a

pub after_element : (ts : List Symbol) (ns : Needs) → NoBracket ts → Accepts ts (AfterElement ∷ ns) → Accepts ts (AfterTarget ∷ ns)
after_element [] ns h a = absurd (cc a)
after_element (token.OpenBracket ∷ ts) ns h a = absurd h
after_element (_ ∷ ts) ns h a = a

after_simple : (ts : List Symbol) (ns : Needs) → NoBracket ts → Accepts ts (AfterSimpleElement ∷ ns) → Accepts ts (AfterSimple ∷ ns)
after_simple [] ns h a = absurd (cc a)
after_simple (token.OpenBracket ∷ ts) ns h a = absurd h
after_simple (_ ∷ ts) ns h a = a

target-accepts : {ts rest : List Symbol} {x : Target} → IsTarget ts rest x → NoBracket rest → (ns : Needs) → Accepts rest (AfterElement ∷ InBlock ∷ ns) → Accepts ts (InBlock ∷ ns)
target-accepts (scalar {ts = ts}) h ns a = after_element ts (InBlock ∷ ns) h a
target-accepts (cell p) h ns a = expression-accepts p tt (Exactly ACloseBracket ∷ AfterElement ∷ InBlock ∷ ns) a

simple_target-accepts : {ts rest : List Symbol} {x : Target} → IsTarget ts rest x → NoBracket rest → (ns : Needs) → Accepts rest (AfterSimpleElement ∷ ns) → Accepts ts (Exactly AName ∷ AfterSimple ∷ ns)
simple_target-accepts (scalar {ts = ts}) h ns a = after_simple ts ns h a
simple_target-accepts (cell p) h ns a = expression-accepts p tt (Exactly ACloseBracket ∷ AfterSimpleElement ∷ ns) a

assignment-no_bracket : {t : Symbol} {o : BinOp} → IsAssignment t o → (ts : List Symbol) → NoBracket (t ∷ ts)
assignment-no_bracket by_Add ts = tt
assignment-no_bracket by_Sub ts = tt
assignment-no_bracket by_Mul ts = tt
assignment-no_bracket by_Div ts = tt
assignment-no_bracket by_Rem ts = tt
assignment-no_bracket by_And ts = tt
assignment-no_bracket by_Or ts = tt
assignment-no_bracket by_Xor ts = tt
assignment-no_bracket by_Shl ts = tt
assignment-no_bracket by_Shr ts = tt

assignment-element : {t : Symbol} {o : BinOp} → IsAssignment t o → (ts : List Symbol) (ns : Needs) → Accepts ts (Operand ∷ Exactly ASemicolon ∷ ns) → Accepts (t ∷ ts) (AfterElement ∷ ns)
assignment-element by_Add ts ns a = a
assignment-element by_Sub ts ns a = a
assignment-element by_Mul ts ns a = a
assignment-element by_Div ts ns a = a
assignment-element by_Rem ts ns a = a
assignment-element by_And ts ns a = a
assignment-element by_Or ts ns a = a
assignment-element by_Xor ts ns a = a
assignment-element by_Shl ts ns a = a
assignment-element by_Shr ts ns a = a

assignment-simple : {t : Symbol} {o : BinOp} → IsAssignment t o → (ts : List Symbol) (ns : Needs) → Accepts ts (Operand ∷ ns) → Accepts (t ∷ ts) (AfterSimpleElement ∷ ns)
assignment-simple by_Add ts ns a = a
assignment-simple by_Sub ts ns a = a
assignment-simple by_Mul ts ns a = a
assignment-simple by_Div ts ns a = a
assignment-simple by_Rem ts ns a = a
assignment-simple by_And ts ns a = a
assignment-simple by_Or ts ns a = a
assignment-simple by_Xor ts ns a = a
assignment-simple by_Shl ts ns a = a
assignment-simple by_Shr ts ns a = a

-- as a statement
alone-accepts : {ts rest : List Symbol} {s : Stmt} → Simple ts (token.Semicolon ∷ rest) s → (ns : Needs) → Accepts rest (InBlock ∷ ns) → Accepts ts (InBlock ∷ ns)
alone-accepts (assign {mid = mid} x p) ns a = target-accepts x tt ns (assigned mid (InBlock ∷ ns) (expression-accepts p tt (Exactly ASemicolon ∷ InBlock ∷ ns) a))
alone-accepts (update {mid = mid} x i p) ns a = target-accepts x (assignment-no_bracket i mid) ns (assignment-element i mid (InBlock ∷ ns) (expression-accepts p tt (Exactly ASemicolon ∷ InBlock ∷ ns) a))
alone-accepts (increment x) ns a = target-accepts x tt ns a
alone-accepts (decrement x) ns a = target-accepts x tt ns a

-- in the head of a `for`
simple-accepts : {ts rest : List Symbol} {s : Stmt} → Simple ts rest s → NoBracket rest → (ns : Needs) → Accepts rest (After ∷ ns) → Accepts rest ns → Accepts ts (Exactly AName ∷ AfterSimple ∷ ns)
simple-accepts (assign x p) h ns a b = simple_target-accepts x tt ns (expression-accepts p h ns a)
simple-accepts (update {mid = mid} x i p) h ns a b = simple_target-accepts x (assignment-no_bracket i mid) ns (assignment-simple i mid ns (expression-accepts p h ns a))
simple-accepts (increment x) h ns a b = simple_target-accepts x tt ns b
simple-accepts (decrement x) h ns a b = simple_target-accepts x tt ns b

pub target-no_else : {ts rest : List Symbol} {x : Target} → IsTarget ts rest x → NoElse ts
target-no_else scalar = tt
target-no_else (cell p) = tt

pub if-no_else : {ts rest : List Symbol} {s : Stmt} → IfStatement ts rest s → NoElse ts
if-no_else (if_only p b) = tt
if-no_else (if_else p b c) = tt

pub statement-no_else : {ts rest : List Symbol} {s : List Stmt} → Statement ts rest s → NoElse ts
statement-no_else (simple (assign x p)) = target-no_else x
statement-no_else (simple (update x i p)) = target-no_else x
statement-no_else (simple (increment x)) = target-no_else x
statement-no_else (simple (decrement x)) = target-no_else x
statement-no_else (for x p y b) = tt
statement-no_else (read x) = target-no_else x
statement-no_else (write p) = tt
statement-no_else (choice p) = if-no_else p
statement-no_else (loop p b) = tt
statement-no_else return = tt

pub statements-no_else : {ts rest : List Symbol} {b : List Stmt} → Statements ts rest b → NoElse rest → NoElse ts
statements-no_else none h = h
statements-no_else (then s b) h = statement-no_else s

else_block : {ts rest : List Symbol} {b : List Stmt} → Block ts rest b → (ns : Needs) → Accepts ts (Exactly AnOpenBrace ∷ InBlock ∷ InBlock ∷ ns) → Accepts ts (AfterElse ∷ ns)
else_block (braces b) ns a = a

mutual
  statement-accepts : {ts rest : List Symbol} {s : List Stmt} → Statement ts rest s → NoElse rest → (ns : Needs) → Accepts rest (InBlock ∷ ns) → Accepts ts (InBlock ∷ ns)
  statement-accepts (simple p) h ns a = alone-accepts p ns a
  statement-accepts (read x) h ns a = target-accepts x tt ns a
  statement-accepts (for x p y b) h ns a =
      let w = block-accepts b (InBlock ∷ ns) a in
      let v = simple-accepts y tt (Exactly AClose ∷ Exactly AnOpenBrace ∷ InBlock ∷ InBlock ∷ ns) w w in
      let u = expression-accepts p tt (Exactly ASemicolon ∷ Exactly AName ∷ AfterSimple ∷ Exactly AClose ∷ Exactly AnOpenBrace ∷ InBlock ∷ InBlock ∷ ns) v in
      simple-accepts x tt (Exactly ASemicolon ∷ Operand ∷ Exactly ASemicolon ∷ Exactly AName ∷ AfterSimple ∷ Exactly AClose ∷ Exactly AnOpenBrace ∷ InBlock ∷ InBlock ∷ ns) u u
  statement-accepts (write p) h ns a = expression-accepts p tt (Exactly AClose ∷ Exactly ASemicolon ∷ InBlock ∷ ns) a
  statement-accepts (choice p) h ns a = (if-accepts p h ns a).0
  statement-accepts (loop p b) h ns a = expression-accepts p tt (Exactly AClose ∷ Exactly AnOpenBrace ∷ InBlock ∷ InBlock ∷ ns) (block-accepts b (InBlock ∷ ns) a)
  statement-accepts return h ns a = a

  if-accepts : {ts rest : List Symbol} {s : Stmt} → IfStatement ts rest s → NoElse rest → (ns : Needs) → Accepts rest (InBlock ∷ ns) → Accepts ts (InBlock ∷ ns) × Accepts ts (AfterElse ∷ ns)
  if-accepts (if_only {rest = rest} p b) h ns a =
      let w = expression-accepts p tt (Exactly AClose ∷ Exactly AnOpenBrace ∷ InBlock ∷ AfterIf ∷ ns) (block-accepts b (AfterIf ∷ ns) (after_if rest ns h a)) in (w, w)
  if-accepts (if_else p b o) h ns a =
      let w = expression-accepts p tt (Exactly AClose ∷ Exactly AnOpenBrace ∷ InBlock ∷ AfterIf ∷ ns) (block-accepts b (AfterIf ∷ ns) (otherwise-accepts o h ns a)) in (w, w)

  otherwise-accepts : {ts rest : List Symbol} {b : List Stmt} → Otherwise ts rest b → NoElse rest → (ns : Needs) → Accepts rest (InBlock ∷ ns) → Accepts ts (AfterElse ∷ ns)
  otherwise-accepts (block b) h ns a = else_block b ns (block-accepts b (InBlock ∷ ns) a)
  otherwise-accepts (else_if p) h ns a = (if-accepts p h ns a).1

  block-accepts : {ts rest : List Symbol} {b : List Stmt} → Block ts rest b → (ns : Needs) → Accepts rest ns → Accepts ts (Exactly AnOpenBrace ∷ InBlock ∷ ns)
  block-accepts (braces b) ns a = statements-accepts b tt ns a

  statements-accepts : {ts rest : List Symbol} {b : List Stmt} → Statements ts rest b → NoElse rest → (ns : Needs) → Accepts rest (InBlock ∷ ns) → Accepts ts (InBlock ∷ ns)
  statements-accepts none h ns a = a
  statements-accepts (then s b) h ns a = statement-accepts s (statements-no_else b h) ns (statements-accepts b h ns a)

more_ports-accepts : {ts rest : List Symbol} {ps : List Port} → MorePorts ts rest ps → (ns : Needs) → Accepts rest ns → Accepts ts (AfterPort ∷ ns)
more_ports-accepts last ns a = a
more_ports-accepts (next input p) ns a = more_ports-accepts p ns a
more_ports-accepts (next output p) ns a = more_ports-accepts p ns a

ports-accepts : {ts rest : List Symbol} {ps : List Port} → Ports ts rest ps → (ns : Needs) → Accepts rest ns → Accepts ts (FirstPort ∷ ns)
ports-accepts no_ports ns a = a
ports-accepts (some_ports input p) ns a = more_ports-accepts p ns a
ports-accepts (some_ports output p) ns a = more_ports-accepts p ns a

declaration-accepts : {ts rest : List Symbol} {v : Declared} {f : List Stmt} → Declaration ts rest v f → (ns : Needs) → Accepts rest (InBody ∷ ns) → Accepts ts (InBody ∷ ns)
declaration-accepts (plain signed) ns a = a
declaration-accepts (plain unsigned) ns a = a
declaration-accepts (array signed) ns a = a
declaration-accepts (array unsigned) ns a = a
declaration-accepts (initial signed p) ns a = expression-accepts p tt (Exactly ASemicolon ∷ InBody ∷ ns) a
declaration-accepts (initial unsigned p) ns a = expression-accepts p tt (Exactly ASemicolon ∷ InBody ∷ ns) a

in_body : (ts : List Symbol) (ns : Needs) → Accepts ts (InBlock ∷ ns) → Accepts ts (InBody ∷ ns)
in_body [] ns a = absurd (cc a)
in_body (token.Int ∷ ts) ns a = absurd a
in_body (token.Uint ∷ ts) ns a = absurd a
in_body (_ ∷ ts) ns a = a

body-accepts : {ts rest : List Symbol} {vs : List Declared} {b : List Stmt} → Body ts rest vs b → NoElse rest → (ns : Needs) → Accepts rest (InBlock ∷ ns) → Accepts ts (InBody ∷ ns)
body-accepts (statements {ts = ts} s) h ns a = in_body ts ns (statements-accepts s h ns a)
body-accepts (declare d b) h ns a = declaration-accepts d ns (body-accepts b h ns a)

-- what is in the grammar is accepted
pub syntax-accepts : {ts : List Symbol} {op : Operator} → Syntax ts op → Accepts ts start
syntax-accepts (operator p b) = ports-accepts p (Exactly AnOpenBrace ∷ InBody ∷ []) (body-accepts b tt [] refl)
