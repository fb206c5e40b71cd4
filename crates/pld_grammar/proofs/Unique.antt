-- A list of tokens has at most one operator.
use Rattle.std.proofs.Common.{ℕ, zero, suc, ◌≤◌, ◌≡◌, refl, sym, ◌∙◌, ap, subst, List, [], ◌∷◌, ◌++◌, arith}
use Rattle.pld_ast.specs.declared.tree.Ty.{Ty}
use Rattle.pld_ast.specs.declared.tree.BinOp.{BinOp}
use Rattle.pld_ast.specs.declared.tree.BinOp.TheVariants as binary
use Rattle.pld_ast.specs.declared.tree.UnOp.{UnOp}
use Rattle.pld_grammar.specs.Symbols.{Symbol}
use Rattle.pld_grammar.specs.Symbols as token
use Rattle.pld_base.specs.declared.event.Side.{Side}
use Rattle.pld_ast.specs.declared.tree.Used.{Used}
use Rattle.pld_ast.specs.declared.tree.Expr.{Expr}
use Rattle.pld_ast.specs.declared.tree.Expr.TheVariants.{Lit, Var, Element, Unary, Binary, Cast}
use Rattle.pld_ast.specs.declared.tree.Target.{Target}
use Rattle.pld_ast.specs.declared.tree.Target.TheVariants as target
use Rattle.pld_ast.specs.declared.tree.Stmt.{Stmt}
use Rattle.pld_ast.specs.declared.tree.Stmt.TheVariants.{Assign, Read, Write, If, While, Return}
use Rattle.pld_ast.specs.declared.tree.Port.{Port}
use Rattle.pld_ast.specs.declared.tree.Operator.{Operator}
use Rattle.pld_grammar.specs.Rewritings.{one_step, updated, one, Declared, AScalar, AnArray}
use Rattle.pld_grammar.specs.Grammar.{IsType, signed, unsigned, IsOperator, is_OrElse, is_AndAlso, is_Or, is_Xor, is_And, is_Eq, is_Ne, is_Lt, is_Le, is_Gt, is_Ge, is_Shl, is_Shr, is_Add, is_Sub, is_Mul, is_Div, is_Rem, IsPrefix, is_neg, is_plus, is_complement, is_not, IsAssignment, by_Add, by_Sub, by_Mul, by_Div, by_Rem, by_And, by_Or, by_Xor, by_Shl, by_Shr, Level, operand, chain, Tail, end, more, Prefix, unary_form, cast, number, variable, element, group, Expression, IsTarget, scalar, cell, Simple, assign, update, increment, decrement, Statement, simple, read, write, choice, loop, for, return, IfStatement, if_only, if_else, Otherwise, block, else_if, Block, braces, Statements, none, then, Direction, input, output, MorePorts, last, next, Ports, no_ports, some_ports, Declaration, plain, initial, array, Body, statements, declare, Syntax, operator, port_of, scalar_of, array_of, operator_of}
use Rattle.pld_grammar.proofs.Accept.{NoBracket, NoElse}
use Rattle.pld_grammar.proofs.Accept.{statements-no_else}
use Rattle.pld_grammar.proofs.Values.{NoOperator, same_operator}

operator-no_bracket : {k : ℕ} {t : Symbol} {o : BinOp} → IsOperator k t o → (ts : List Symbol) → NoBracket (t ∷ ts)
operator-no_bracket is_OrElse ts = tt
operator-no_bracket is_AndAlso ts = tt
operator-no_bracket is_Or ts = tt
operator-no_bracket is_Xor ts = tt
operator-no_bracket is_And ts = tt
operator-no_bracket is_Eq ts = tt
operator-no_bracket is_Ne ts = tt
operator-no_bracket is_Lt ts = tt
operator-no_bracket is_Le ts = tt
operator-no_bracket is_Gt ts = tt
operator-no_bracket is_Ge ts = tt
operator-no_bracket is_Shl ts = tt
operator-no_bracket is_Shr ts = tt
operator-no_bracket is_Add ts = tt
operator-no_bracket is_Sub ts = tt
operator-no_bracket is_Mul ts = tt
operator-no_bracket is_Div ts = tt
operator-no_bracket is_Rem ts = tt

assignment-no_bracket : {t : Symbol} {o : BinOp} → IsAssignment t o → (ts : List Symbol) → NoBracket (t ∷ ts)
assignment-no_bracket by_Add ts = tt
assignment-no_bracket by_Sub ts = tt
assignment-no_bracket by_Mul ts = tt
assignment-no_bracket by_Div ts = tt
assignment-no_bracket by_Rem ts = tt
assignment-no_bracket by_And ts = tt
assignment-no_bracket by_Or ts = tt
assignment-no_bracket by_Xor ts = tt
assignment-no_bracket by_Shl ts = tt
assignment-no_bracket by_Shr ts = tt

one_assignment : {t : Symbol} {o o' : BinOp} → IsAssignment t o → IsAssignment t o' → o ≡ o'
one_assignment by_Add by_Add = refl
one_assignment by_Sub by_Sub = refl
one_assignment by_Mul by_Mul = refl
one_assignment by_Div by_Div = refl
one_assignment by_Rem by_Rem = refl
one_assignment by_And by_And = refl
one_assignment by_Or by_Or = refl
one_assignment by_Xor by_Xor = refl
one_assignment by_Shl by_Shl = refl
one_assignment by_Shr by_Shr = refl

one_prefix : {t : Symbol} {o o' : UnOp} → IsPrefix t o → IsPrefix t o' → o ≡ o'
one_prefix is_neg is_neg = refl
one_prefix is_plus is_plus = refl
one_prefix is_complement is_complement = refl
one_prefix is_not is_not = refl

record Ends (l : ℕ) (ts : List Symbol) : Type 0 where
  operators : NoOperator l ts
  bracket : NoBracket ts

abbrev NoType : List Symbol → Type 0
NoType (token.Int ∷ ts) = ⊥
NoType (token.Uint ∷ ts) = ⊥
NoType _ = Unit {0}

-- both are one
record Same {A B : Type 0} (r r' : A) (e e' : B) : Type 0 where
  rest : r ≡ r'
  value : e ≡ e'

weaker : (l : ℕ) (ts : List Symbol) → NoOperator (suc l) ts → NoOperator l ts
weaker l [] h = tt
weaker l (t ∷ ts) h = λ k o i. let w : suc l ≤ k = h k o i in omega arith

tail-ends : {l : ℕ} {a e : Expr} {ts r : List Symbol} → Tail l a ts r e → Ends (suc l) r → Ends l ts
tail-ends {l = l} (end {ts = ts}) h = record { operators = weaker l ts h.operators; bracket = h.bracket }
tail-ends {l = l} (more j p t) h = let w : l ≤ l = omega arith in record { operators = λ k o i. same_operator j i w; bracket = operator-no_bracket j _ }

prefix-no_type : {ts r : List Symbol} {e : Expr} → Prefix ts r e → NoType ts
prefix-no_type (unary_form is_neg p) = tt
prefix-no_type (unary_form is_plus p) = tt
prefix-no_type (unary_form is_complement p) = tt
prefix-no_type (unary_form is_not p) = tt
prefix-no_type (cast i p) = tt
prefix-no_type number = tt
prefix-no_type variable = tt
prefix-no_type (element p) = tt
prefix-no_type (group p) = tt

mutual
  level-no_type : {l : ℕ} {ts r : List Symbol} {e : Expr} → Level l ts r e → NoType ts
  level-no_type (operand p) = prefix-no_type p
  level-no_type (chain p t) = level-no_type p

record Prefixed (o : UnOp) (ts r : List Symbol) (e : Expr) : Type 0 where
  inner : Expr
  is : e ≡ Unary o inner
  found : Prefix ts r inner

of_prefix : {t : Symbol} {o : UnOp} {ts r : List Symbol} {e : Expr} → IsPrefix t o → Prefix (t ∷ ts) r e → Prefixed o ts r e
of_prefix i (unary_form {e = e} j p) = record { inner = e; is = ap (λ x. Unary x e) (one_prefix j i); found = p }
of_prefix i (cast j p) = elim i [ ]
of_prefix i number = elim i [ ]
of_prefix i variable = elim i [ ]
of_prefix i (element p) = elim i [ ]
of_prefix i (group p) = elim i [ ]

of_number : {n : ℕ} {u : Ty} {ts r : List Symbol} {e : Expr} → Prefix (token.Number n u ∷ ts) r e → Same ts r (Lit n u) e
of_number number = record { rest = refl; value = refl }
of_number (unary_form i p) = elim i [ ]

of_variable : {x : Used} {ts r : List Symbol} {e : Expr} → Prefix (token.Ident x ∷ ts) r e → NoBracket ts → Same ts r (Var x) e
of_variable variable h = record { rest = refl; value = refl }
of_variable (element p) h = absurd h
of_variable (unary_form i p) h = elim i [ ]

record Index (x : Used) (ts r : List Symbol) (e : Expr) : Type 0 where
  inner : Expr
  is : e ≡ Element x inner
  found : Level 10 ts (token.CloseBracket ∷ r) inner

of_element : {x : Used} {ts r : List Symbol} {e : Expr} → Prefix (token.Ident x ∷ token.OpenBracket ∷ ts) r e → NoBracket r → Index x ts r e
of_element variable h = absurd h
of_element (unary_form i p) h = elim i [ ]
of_element (element {e = e} p) h = record { inner = e; is = refl; found = p }

of_group : {ts r : List Symbol} {e : Expr} → Prefix (token.Open ∷ ts) r e → NoType ts → Level 10 ts (token.Close ∷ r) e
of_group (cast signed p) h = absurd h
of_group (cast unsigned p) h = absurd h
of_group (group p) h = p
of_group (unary_form i p) h = elim i [ ]

record Casting (ty : Ty) (ts r : List Symbol) (e : Expr) : Type 0 where
  inner : Expr
  is : e ≡ Cast ty inner
  found : Prefix ts r inner

of_cast : {t : Symbol} {ty : Ty} {ts r : List Symbol} {e : Expr} → IsType t ty → Prefix (token.Open ∷ t ∷ token.Close ∷ ts) r e → Casting ty ts r e
of_cast signed (cast signed p) = record { inner = _; is = refl; found = p }
of_cast unsigned (cast unsigned p) = record { inner = _; is = refl; found = p }
of_cast j (unary_form i p) = elim i [ ]
of_cast signed (group p) = absurd (level-no_type p)
of_cast unsigned (group p) = absurd (level-no_type p)

of_zero : {ts r : List Symbol} {e : Expr} → Level zero ts r e → Prefix ts r e
of_zero (operand p) = p

record Chain (l : ℕ) (ts r : List Symbol) (e : Expr) : Type 0 where
  mid : List Symbol
  first : Expr
  found : Level l ts mid first
  more : Tail l first mid r e

of_suc : {l : ℕ} {ts r : List Symbol} {e : Expr} → Level (suc l) ts r e → Chain l ts r e
of_suc (chain {mid = m} {a = a} p t) = record { mid = m; first = a; found = p; more = t }

of_end : {l : ℕ} {a : Expr} {ts r : List Symbol} {e : Expr} → Tail l a ts r e → NoOperator (suc l) ts → Same ts r a e
of_end end h = record { rest = refl; value = refl }
of_end {l = l} (more {o = o} i p q) h = let w : suc l ≤ l = h l o i in absurd (omega arith)

record More (l : ℕ) (a : Expr) (o : BinOp) (ts r : List Symbol) (e : Expr) : Type 0 where
  mid : List Symbol
  second : Expr
  found : Level l ts mid second
  more : Tail l (Binary o a second) mid r e

one_operator : {l l' : ℕ} {t : Symbol} {o o' : BinOp} → IsOperator l t o → IsOperator l' t o' → o ≡ o'
one_operator is_OrElse is_OrElse = refl
one_operator is_AndAlso is_AndAlso = refl
one_operator is_Or is_Or = refl
one_operator is_Xor is_Xor = refl
one_operator is_And is_And = refl
one_operator is_Eq is_Eq = refl
one_operator is_Ne is_Ne = refl
one_operator is_Lt is_Lt = refl
one_operator is_Le is_Le = refl
one_operator is_Gt is_Gt = refl
one_operator is_Ge is_Ge = refl
one_operator is_Shl is_Shl = refl
one_operator is_Shr is_Shr = refl
one_operator is_Add is_Add = refl
one_operator is_Sub is_Sub = refl
one_operator is_Mul is_Mul = refl
one_operator is_Div is_Div = refl
one_operator is_Rem is_Rem = refl

of_more : {l : ℕ} {a : Expr} {t : Symbol} {o : BinOp} {ts r : List Symbol} {e : Expr} → Tail l a (t ∷ ts) r e → IsOperator l t o → NoOperator (suc l) r → More l a o ts r e
of_more {l = l} {o = o} end i h = let w : suc l ≤ l = h l o i in absurd (omega arith)
of_more {l = l} {a = a} {o = o} {r = r} {e = e} (more {mid = m} {b = b} i' p q) i h =
    record { mid = m; second = b; found = p; more = subst (λ x. Tail l (Binary x a b) m r e) (one_operator i' i) q }

no_close : {k : ℕ} {o : BinOp} → IsOperator k token.Close o → ⊥
no_close i = elim i [ ]

ends_close : (ts : List Symbol) → Ends 10 (token.Close ∷ ts)
ends_close ts = record { operators = λ k o i. absurd (no_close i); bracket = tt }

no_close_bracket : {k : ℕ} {o : BinOp} → IsOperator k token.CloseBracket o → ⊥
no_close_bracket i = elim i [ ]

ends_close_bracket : (ts : List Symbol) → Ends 10 (token.CloseBracket ∷ ts)
ends_close_bracket ts = record { operators = λ k o i. absurd (no_close_bracket i); bracket = tt }

no_semicolon : {k : ℕ} {o : BinOp} → IsOperator k token.Semicolon o → ⊥
no_semicolon i = elim i [ ]

ends_semicolon : (ts : List Symbol) → Ends 10 (token.Semicolon ∷ ts)
ends_semicolon ts = record { operators = λ k o i. absurd (no_semicolon i); bracket = tt }

tail_from : {l : ℕ} {a a' : Expr} {ts ts' r : List Symbol} {e : Expr} → Same ts ts' a a' → Tail l a' ts' r e → Tail l a ts r e
tail_from {l = l} {a = a} {a' = a'} {ts = ts} {ts' = ts'} {r = r} {e = e} s q = subst (λ x. Tail l x ts r e) (sym s.value) (subst (λ x. Tail l a' x r e) (sym s.rest) q)

level_from : {l : ℕ} {ts ts' r : List Symbol} {e : Expr} → ts ≡ ts' → Level l ts' r e → Level l ts r e
level_from {l = l} {r = r} {e = e} s q = subst (λ x. Level l x r e) (sym s) q

mutual
  same_level : {l : ℕ} {ts r r' : List Symbol} {e e' : Expr} → Level l ts r e → Level l ts r' e' → Ends l r → Ends l r' → Same r r' e e'
  same_level (operand p) q h g = same_prefix p (of_zero q) h.bracket g.bracket
  same_level (chain p t) q h g =
      let c = of_suc q in
      let s = same_level p c.found (tail-ends t h) (tail-ends c.more g) in
      same_tail t (tail_from s c.more) h g

  same_tail : {l : ℕ} {a : Expr} {ts r r' : List Symbol} {e e' : Expr} → Tail l a ts r e → Tail l a ts r' e' → Ends (suc l) r → Ends (suc l) r' → Same r r' e e'
  same_tail end q h g = of_end q h.operators
  same_tail {a = a} (more {o = o} i p t) q h g =
      let c = of_more q i g.operators in
      let s = same_level p c.found (tail-ends t h) (tail-ends c.more g) in
      same_tail t (tail_from (record { rest = s.rest; value = ap (λ x. Binary o a x) s.value }) c.more) h g

  same_prefix : {ts r r' : List Symbol} {e e' : Expr} → Prefix ts r e → Prefix ts r' e' → NoBracket r → NoBracket r' → Same r r' e e'
  same_prefix (unary_form {o = o} i p) q h g = let c = of_prefix i q in let s = same_prefix p c.found h g in record { rest = s.rest; value = ap (Unary o) s.value ∙ sym c.is }
  same_prefix (cast {ty = ty} i p) q h g = let c = of_cast i q in let s = same_prefix p c.found h g in record { rest = s.rest; value = ap (Cast ty) s.value ∙ sym c.is }
  same_prefix number q h g = of_number q
  same_prefix variable q h g = of_variable q h
  same_prefix (element {x = x} p) q h g = let c = of_element q g in let s = same_level p c.found (ends_close_bracket _) (ends_close_bracket _) in record { rest = cc s.rest; value = ap (Element x) s.value ∙ sym c.is }
  same_prefix (group p) q h g = let s = same_level p (of_group q (level-no_type p)) (ends_close _) (ends_close _) in record { rest = cc s.rest; value = s.value }

same_expression : {ts r r' : List Symbol} {e e' : Expr} → Expression ts r e → Expression ts r' e' → Ends 10 r → Ends 10 r' → Same r r' e e'
same_expression p q h g = same_level p q h g

-- what a part may begin with
abbrev StartsOperand : List Symbol → Type 0
StartsOperand (token.Minus ∷ ts) = Unit {0}
StartsOperand (token.Plus ∷ ts) = Unit {0}
StartsOperand (token.Tilde ∷ ts) = Unit {0}
StartsOperand (token.Bang ∷ ts) = Unit {0}
StartsOperand (token.Open ∷ ts) = Unit {0}
StartsOperand (token.Number n u ∷ ts) = Unit {0}
StartsOperand (token.Ident n ∷ ts) = Unit {0}
StartsOperand _ = ⊥

abbrev StartsName : List Symbol → Type 0
StartsName (token.Ident n ∷ ts) = Unit {0}
StartsName _ = ⊥

abbrev StartsIf : List Symbol → Type 0
StartsIf (token.If ∷ ts) = Unit {0}
StartsIf _ = ⊥

abbrev StartsBrace : List Symbol → Type 0
StartsBrace (token.OpenBrace ∷ ts) = Unit {0}
StartsBrace _ = ⊥

abbrev IsClosed : List Symbol → Type 0
IsClosed (token.CloseBrace ∷ ts) = Unit {0}
IsClosed _ = ⊥

abbrev NoClose : List Symbol → Type 0
NoClose (token.CloseBrace ∷ ts) = ⊥
NoClose _ = Unit {0}

closed-no_else : (ts : List Symbol) → IsClosed ts → NoElse ts
closed-no_else [] h = tt
closed-no_else (token.CloseBrace ∷ ts) h = tt
closed-no_else (_ ∷ ts) h = absurd h

closed_open : (ts : List Symbol) → IsClosed ts → NoClose ts → ⊥
closed_open [] h g = h
closed_open (token.CloseBrace ∷ ts) h g = g
closed_open (_ ∷ ts) h g = h

prefix-starts : {ts r : List Symbol} {e : Expr} → Prefix ts r e → StartsOperand ts
prefix-starts (unary_form is_neg p) = tt
prefix-starts (unary_form is_plus p) = tt
prefix-starts (unary_form is_complement p) = tt
prefix-starts (unary_form is_not p) = tt
prefix-starts (cast i p) = tt
prefix-starts number = tt
prefix-starts variable = tt
prefix-starts (element p) = tt
prefix-starts (group p) = tt

mutual
  level-starts : {l : ℕ} {ts r : List Symbol} {e : Expr} → Level l ts r e → StartsOperand ts
  level-starts (operand p) = prefix-starts p
  level-starts (chain p t) = level-starts p

target-starts : {ts r : List Symbol} {x : Target} → IsTarget ts r x → StartsName ts
target-starts scalar = tt
target-starts (cell p) = tt

simple-starts : {ts r : List Symbol} {s : Stmt} → Simple ts r s → StartsName ts
simple-starts (assign x p) = target-starts x
simple-starts (update x i p) = target-starts x
simple-starts (increment x) = target-starts x
simple-starts (decrement x) = target-starts x

if-starts : {ts r : List Symbol} {s : Stmt} → IfStatement ts r s → StartsIf ts
if-starts (if_only p b) = tt
if-starts (if_else p b o) = tt

block-starts : {ts r : List Symbol} {b : List Stmt} → Block ts r b → StartsBrace ts
block-starts (braces s) = tt

target-no_close : {ts r : List Symbol} {x : Target} → IsTarget ts r x → NoClose ts
target-no_close scalar = tt
target-no_close (cell p) = tt

target-no_type : {ts r : List Symbol} {x : Target} → IsTarget ts r x → NoType ts
target-no_type scalar = tt
target-no_type (cell p) = tt

statement-no_close : {ts r : List Symbol} {s : List Stmt} → Statement ts r s → NoClose ts
statement-no_close (simple (assign x p)) = target-no_close x
statement-no_close (simple (update x i p)) = target-no_close x
statement-no_close (simple (increment x)) = target-no_close x
statement-no_close (simple (decrement x)) = target-no_close x
statement-no_close (for x p y b) = tt
statement-no_close (read x) = target-no_close x
statement-no_close (write p) = tt
statement-no_close (choice (if_only p b)) = tt
statement-no_close (choice (if_else p b o)) = tt
statement-no_close (loop p b) = tt
statement-no_close return = tt

statement-no_type : {ts r : List Symbol} {s : List Stmt} → Statement ts r s → NoType ts
statement-no_type (simple (assign x p)) = target-no_type x
statement-no_type (simple (update x i p)) = target-no_type x
statement-no_type (simple (increment x)) = target-no_type x
statement-no_type (simple (decrement x)) = target-no_type x
statement-no_type (for x p y b) = tt
statement-no_type (read x) = target-no_type x
statement-no_type (write p) = tt
statement-no_type (choice (if_only p b)) = tt
statement-no_type (choice (if_else p b o)) = tt
statement-no_type (loop p b) = tt
statement-no_type return = tt

closed-no_type : (ts : List Symbol) → IsClosed ts → NoType ts
closed-no_type [] h = tt
closed-no_type (token.CloseBrace ∷ ts) h = tt
closed-no_type (_ ∷ ts) h = absurd h

statements-no_type : {ts r : List Symbol} {b : List Stmt} → Statements ts r b → IsClosed r → NoType ts
statements-no_type (none {ts = ts}) h = closed-no_type ts h
statements-no_type (then s b) h = statement-no_type s

record CellForm (x : Used) (ts r : List Symbol) (p : Target) : Type 0 where
  inner : Expr
  is : p ≡ target.Element x inner
  found : Expression ts (token.CloseBracket ∷ r) inner

of_scalar : {x : Used} {ts r : List Symbol} {p : Target} → IsTarget (token.Ident x ∷ ts) r p → NoBracket ts → Same ts r (target.Scalar x) p
of_scalar scalar h = record { rest = refl; value = refl }
of_scalar (cell p) h = absurd h

of_cell : {x : Used} {ts r : List Symbol} {p : Target} → IsTarget (token.Ident x ∷ token.OpenBracket ∷ ts) r p → NoBracket r → CellForm x ts r p
of_cell scalar h = absurd h
of_cell (cell {e = e} p) h = record { inner = e; is = refl; found = p }

same_target : {ts r r' : List Symbol} {p p' : Target} → IsTarget ts r p → IsTarget ts r' p' → NoBracket r → NoBracket r' → Same r r' p p'
same_target scalar q h g = of_scalar q h
same_target (cell {x = x} p) q h g = let c = of_cell q g in let s = same_expression p c.found (ends_close_bracket _) (ends_close_bracket _) in record { rest = cc s.rest; value = ap (target.Element x) s.value ∙ sym c.is }

no_assign : {o : BinOp} {A : Type 0} → IsAssignment token.Assign o → A
no_assign i = elim i [ ]

no_up : {o : BinOp} {A : Type 0} → IsAssignment token.PlusPlus o → A
no_up i = elim i [ ]

no_down : {o : BinOp} {A : Type 0} → IsAssignment token.MinusMinus o → A
no_down i = elim i [ ]

assignment_at : {t u : Symbol} {o : BinOp} → u ≡ t → IsAssignment u o → IsAssignment t o
assignment_at {o = o} e i = subst (λ y. IsAssignment y o) e i

same_simple : {ts r r' : List Symbol} {s s' : Stmt} → Simple ts r s → Simple ts r' s' → Ends 10 r → Ends 10 r' → Same r r' s s'
same_simple (assign x p) (assign x' p') h g =
    let t = same_target x x' tt tt in
    let s = same_expression p (level_from (cc t.rest) p') h g in
    record { rest = s.rest; value = cc (t.value, s.value) }
same_simple (assign x p) (update {t = u} {mid = m} x' i p') h g = let t = same_target x x' tt (assignment-no_bracket i m) in let e : u ≡ token.Assign = cc t.rest in no_assign (assignment_at e i)
same_simple (assign x p) (increment x') h g = let t = same_target x x' tt tt in absurd (cc t.rest)
same_simple (assign x p) (decrement x') h g = let t = same_target x x' tt tt in absurd (cc t.rest)
same_simple (update {t = u} {mid = m} x i p) (assign x' p') h g = let t = same_target x x' (assignment-no_bracket i m) tt in let e : u ≡ token.Assign = cc t.rest in no_assign (assignment_at e i)
same_simple (update {t = u} {o = o} {mid = m} {x = x} {e = e} y i p) (update {t = u'} {o = o'} {mid = m'} {x = x'} {e = e'} y' i' p') h g =
    let t = same_target y y' (assignment-no_bracket i m) (assignment-no_bracket i' m') in
    let w : u ≡ u' = cc t.rest in
    let k : o ≡ o' = one_assignment (assignment_at w i) i' in
    let v : m ≡ m' = cc t.rest in
    let s = same_expression p (level_from v p') h g in
    record { rest = s.rest; value = ap (λ y. updated y o e) t.value ∙ ap (λ y. updated x' y e) k ∙ ap (λ y. updated x' o' y) s.value }
same_simple (update {t = u} {mid = m} x i p) (increment x') h g = let t = same_target x x' (assignment-no_bracket i m) tt in let e : u ≡ token.PlusPlus = cc t.rest in no_up (assignment_at e i)
same_simple (update {t = u} {mid = m} x i p) (decrement x') h g = let t = same_target x x' (assignment-no_bracket i m) tt in let e : u ≡ token.MinusMinus = cc t.rest in no_down (assignment_at e i)
same_simple (increment x) (assign x' p') h g = let t = same_target x x' tt tt in absurd (cc t.rest)
same_simple (increment x) (update {t = u} {mid = m} x' i p') h g = let t = same_target x x' tt (assignment-no_bracket i m) in let e : u ≡ token.PlusPlus = cc t.rest in no_up (assignment_at e i)
same_simple (increment x) (increment x') h g = let t = same_target x x' tt tt in record { rest = cc t.rest; value = ap (λ y. updated y binary.Add one) t.value }
same_simple (increment x) (decrement x') h g = let t = same_target x x' tt tt in absurd (cc t.rest)
same_simple (decrement x) (assign x' p') h g = let t = same_target x x' tt tt in absurd (cc t.rest)
same_simple (decrement x) (update {t = u} {mid = m} x' i p') h g = let t = same_target x x' tt (assignment-no_bracket i m) in let e : u ≡ token.MinusMinus = cc t.rest in no_down (assignment_at e i)
same_simple (decrement x) (increment x') h g = let t = same_target x x' tt tt in absurd (cc t.rest)
same_simple (decrement x) (decrement x') h g = let t = same_target x x' tt tt in record { rest = cc t.rest; value = ap (λ y. updated y binary.Sub one) t.value }

abbrev Reading : Used → List Symbol → List Symbol
Reading p r = token.Assign ∷ token.Read ∷ token.Open ∷ token.Ident p ∷ token.Close ∷ token.Semicolon ∷ r

-- a read is no other assignment
read_simple : {ts r r' : List Symbol} {x : Target} {p : Used} {s : Stmt} {A : Type 0} → IsTarget ts (Reading p r) x → Simple ts r' s → A
read_simple {r = r} {p = p} x (assign {mid = m} x' q) = let t = same_target x x' tt tt in let e : m ≡ token.Read ∷ token.Open ∷ token.Ident p ∷ token.Close ∷ token.Semicolon ∷ r = cc t.rest in absurd (subst StartsOperand e (level-starts q))
read_simple x (update {t = u} {mid = m} x' i q) = let t = same_target x x' tt (assignment-no_bracket i m) in let e : u ≡ token.Assign = cc t.rest in no_assign (assignment_at e i)
read_simple x (increment x') = let t = same_target x x' tt tt in absurd (cc t.rest)
read_simple x (decrement x') = let t = same_target x x' tt tt in absurd (cc t.rest)

data NameForm (ts r : List Symbol) (s : List Stmt) : Type 0 where
  simple_form : (a : Stmt) → s ≡ one_step a → Simple ts (token.Semicolon ∷ r) a → NameForm ts r s
  read_form : (x : Target) (p : Used) → s ≡ one_step (Read x p) → IsTarget ts (Reading p r) x → NameForm ts r s

of_name : {n : Used} {ts r : List Symbol} {s : List Stmt} → Statement (token.Ident n ∷ ts) r s → NameForm (token.Ident n ∷ ts) r s
of_name (simple {s = a} p) = simple_form a refl p
of_name (read {x = x} {p = p} t) = read_form x p refl t
of_name (choice p) = absurd (if-starts p)

as_name : {ts m r : List Symbol} {x : Target} {s : List Stmt} → IsTarget ts m x → Statement ts r s → NameForm ts r s
as_name scalar q = of_name q
as_name (cell p) q = of_name q

as_simple : {ts m r : List Symbol} {a : Stmt} {s : List Stmt} → Simple ts m a → Statement ts r s → NameForm ts r s
as_simple (assign x p) q = as_name x q
as_simple (update x i p) q = as_name x q
as_simple (increment x) q = as_name x q
as_simple (decrement x) q = as_name x q

same_alone : {ts r r' : List Symbol} {a : Stmt} {s : List Stmt} → Simple ts (token.Semicolon ∷ r) a → NameForm ts r' s → Same r r' (one_step a) s
same_alone p (simple_form b i q) = let t = same_simple p q (ends_semicolon _) (ends_semicolon _) in record { rest = cc t.rest; value = cc (t.value, i) }
same_alone p (read_form x n i t) = read_simple t p

same_read : {ts r r' : List Symbol} {x : Target} {q : Used} {s : List Stmt} → IsTarget ts (Reading q r) x → NameForm ts r' s → Same r r' (one_step (Read x q)) s
same_read x (simple_form b i p) = read_simple x p
same_read x (read_form x' q i x'') = let t = same_target x x'' tt tt in record { rest = cc t.rest; value = cc (t.rest, t.value, i) }

record ForForm (ts r : List Symbol) (s : List Stmt) : Type 0 where
  test : List Symbol
  last_part : List Symbol
  mid : List Symbol
  first : Stmt
  step : Stmt
  condition : Expr
  body : List Stmt
  is : s ≡ first ∷ one_step (While condition (body ++ one_step step))
  found : Simple ts (token.Semicolon ∷ test) first
  found_test : Expression test (token.Semicolon ∷ last_part) condition
  found_step : Simple last_part (token.Close ∷ mid) step
  found_body : Block mid r body

of_for : {ts r : List Symbol} {s : List Stmt} → Statement (token.For ∷ token.Open ∷ ts) r s → ForForm ts r s
of_for (simple p) = absurd (simple-starts p)
of_for (read x) = absurd (target-starts x)
of_for (choice p) = absurd (if-starts p)
of_for (for {test = t} {last = l} {mid = m} {a = a} {s = s} {c = c} {body = b} x p y q) = record { test = t; last_part = l; mid = m; first = a; step = s; condition = c; body = b; is = refl; found = x; found_test = p; found_step = y; found_body = q }

record WriteForm (q : Used) (ts r : List Symbol) (s : List Stmt) : Type 0 where
  inner : Expr
  is : s ≡ one_step (Write q inner)
  found : Expression ts (token.Close ∷ token.Semicolon ∷ r) inner

of_write : {q : Used} {ts r : List Symbol} {s : List Stmt} → Statement (token.Write ∷ token.Open ∷ token.Ident q ∷ token.Comma ∷ ts) r s → WriteForm q ts r s
of_write (simple p) = absurd (simple-starts p)
of_write (read x) = absurd (target-starts x)
of_write (write {e = e} p) = record { inner = e; is = refl; found = p }
of_write (choice p) = absurd (if-starts p)

record LoopForm (ts r : List Symbol) (s : List Stmt) : Type 0 where
  mid : List Symbol
  condition : Expr
  body : List Stmt
  is : s ≡ one_step (While condition body)
  found : Expression ts (token.Close ∷ mid) condition
  found_body : Block mid r body

of_loop : {ts r : List Symbol} {s : List Stmt} → Statement (token.While ∷ token.Open ∷ ts) r s → LoopForm ts r s
of_loop (simple p) = absurd (simple-starts p)
of_loop (read x) = absurd (target-starts x)
of_loop (choice p) = absurd (if-starts p)
of_loop (loop {mid = m} {c = c} {body = b} p q) = record { mid = m; condition = c; body = b; is = refl; found = p; found_body = q }

of_return : {ts r : List Symbol} {s : List Stmt} → Statement (token.Return ∷ token.Semicolon ∷ ts) r s → Same ts r (one_step Return) s
of_return (simple p) = absurd (simple-starts p)
of_return (read x) = absurd (target-starts x)
of_return (choice p) = absurd (if-starts p)
of_return return = record { rest = refl; value = refl }

record IfOnly (ts r : List Symbol) (s : List Stmt) : Type 0 where
  step : Stmt
  is : s ≡ one_step step
  found : IfStatement ts r step

of_if : {ts r : List Symbol} {s : List Stmt} → Statement (token.If ∷ ts) r s → IfOnly (token.If ∷ ts) r s
of_if (simple p) = absurd (simple-starts p)
of_if (read x) = absurd (target-starts x)
of_if (choice {s = s} p) = record { step = s; is = refl; found = p }

as_if : {ts r r' : List Symbol} {s : Stmt} {s' : List Stmt} → IfStatement ts r s → Statement ts r' s' → IfOnly ts r' s'
as_if (if_only p b) q = of_if q
as_if (if_else p b o) q = of_if q

data IfTail (between r : List Symbol) (c : Expr) (a : List Stmt) (s : Stmt) : Type 0 where
  alone : between ≡ r → s ≡ If c a [] → IfTail between r c a s
  with_else : (m : List Symbol) (b : List Stmt) → between ≡ token.Else ∷ m → Otherwise m r b → s ≡ If c a b → IfTail between r c a s

record IfForm (ts r : List Symbol) (s : Stmt) : Type 0 where
  mid : List Symbol
  between : List Symbol
  condition : Expr
  body : List Stmt
  found : Expression ts (token.Close ∷ mid) condition
  found_body : Block mid between body
  tail : IfTail between r condition body s

of_if_form : {ts r : List Symbol} {s : Stmt} → IfStatement (token.If ∷ token.Open ∷ ts) r s → IfForm ts r s
of_if_form {r = r} (if_only {mid = m} {c = c} {a = a} p q) = record { mid = m; between = r; condition = c; body = a; found = p; found_body = q; tail = alone refl refl }
of_if_form (if_else {mid = m} {between = w} {c = c} {a = a} {b = b} p q o) = record { mid = m; between = token.Else ∷ w; condition = c; body = a; found = p; found_body = q; tail = with_else w b refl o refl }

of_block : {ts r : List Symbol} {b : List Stmt} → Otherwise (token.OpenBrace ∷ ts) r b → Block (token.OpenBrace ∷ ts) r b
of_block (block p) = p
of_block (else_if p) = absurd (if-starts p)

as_block : {ts r r' : List Symbol} {b b' : List Stmt} → Block ts r b → Otherwise ts r' b' → Block ts r' b'
as_block (braces s) q = of_block q

record ElseIf (ts r : List Symbol) (b : List Stmt) : Type 0 where
  step : Stmt
  is : b ≡ one_step step
  found : IfStatement ts r step

of_else_if : {ts r : List Symbol} {b : List Stmt} → Otherwise (token.If ∷ ts) r b → ElseIf (token.If ∷ ts) r b
of_else_if (block p) = absurd (block-starts p)
of_else_if (else_if {s = s} p) = record { step = s; is = refl; found = p }

as_else_if : {ts r r' : List Symbol} {s : Stmt} {b : List Stmt} → IfStatement ts r s → Otherwise ts r' b → ElseIf ts r' b
as_else_if (if_only p b) q = of_else_if q
as_else_if (if_else p b o) q = of_else_if q

of_braces : {ts r : List Symbol} {b : List Stmt} → Block (token.OpenBrace ∷ ts) r b → Statements ts (token.CloseBrace ∷ r) b
of_braces (braces s) = s

of_none : {ts r : List Symbol} {b : List Stmt} → Statements ts r b → IsClosed ts → Same ts r [] b
of_none none h = record { rest = refl; value = refl }
of_none {ts = ts} (then s b) h = absurd (closed_open ts h (statement-no_close s))

record ThenForm (ts r : List Symbol) (b : List Stmt) : Type 0 where
  mid : List Symbol
  step : List Stmt
  steps : List Stmt
  is : b ≡ step ++ steps
  found : Statement ts mid step
  more : Statements mid r steps

of_then : {ts r : List Symbol} {b : List Stmt} → Statements ts r b → NoClose ts → IsClosed r → ThenForm ts r b
of_then {ts = ts} none h g = absurd (closed_open ts g h)
of_then (then {mid = m} {a = s} {b = b} p q) h g = record { mid = m; step = s; steps = b; is = refl; found = p; more = q }

simple_from : {ts ts' r : List Symbol} {b : Stmt} → ts ≡ ts' → Simple ts' r b → Simple ts r b
simple_from {r = r} {b = b} s q = subst (λ x. Simple x r b) (sym s) q

block_from : {ts ts' r : List Symbol} {b : List Stmt} → ts ≡ ts' → Block ts' r b → Block ts r b
block_from {r = r} {b = b} s q = subst (λ x. Block x r b) (sym s) q

mutual
  same_statement : {ts r r' : List Symbol} {s s' : List Stmt} → Statement ts r s → Statement ts r' s' → NoElse r → NoElse r' → Same r r' s s'
  same_statement (simple p) q h g = same_alone p (as_simple p q)
  same_statement (read x) q h g = same_read x (as_name x q)
  same_statement (for x p y b) q h g =
      let c = of_for q in
      let s = same_simple x c.found (ends_semicolon _) (ends_semicolon _) in
      let t = same_expression p (level_from (cc s.rest) c.found_test) (ends_semicolon _) (ends_semicolon _) in
      let v = same_simple y (simple_from (cc t.rest) c.found_step) (ends_close _) (ends_close _) in
      let w = same_block b (block_from (cc v.rest) c.found_body) in
      record { rest = w.rest; value = cc (s.value, t.value, v.value, w.value, c.is) }
  same_statement (write p) q h g = let c = of_write q in let s = same_expression p c.found (ends_close _) (ends_close _) in record { rest = cc s.rest; value = cc (s.value, c.is) }
  same_statement (choice p) q h g = let c = as_if p q in let s = same_if p c.found h g in record { rest = s.rest; value = cc (s.value, c.is) }
  same_statement (loop p b) q h g =
      let c = of_loop q in
      let s = same_expression p c.found (ends_close _) (ends_close _) in
      let t = same_block b (block_from (cc s.rest) c.found_body) in
      record { rest = t.rest; value = cc (s.value, t.value, c.is) }
  same_statement return q h g = of_return q

  same_if : {ts r r' : List Symbol} {s s' : Stmt} → IfStatement ts r s → IfStatement ts r' s' → NoElse r → NoElse r' → Same r r' s s'
  same_if {r' = r'} {s' = s'} (if_only {rest = r} {c = e} {a = a} p b) q h g =
      let c = of_if_form q in
      let s = same_expression p c.found (ends_close _) (ends_close _) in
      let t = same_block b (block_from (cc s.rest) c.found_body) in
      elim c.tail [
        | alone i j ↦ record { rest = t.rest ∙ i; value = cc (s.value, t.value, j) }
        | with_else m o i w j ↦ absurd (subst NoElse (t.rest ∙ i) h)
      ]
  same_if {r' = r'} {s' = s'} (if_else {between = m} {c = e} {a = a} {b = d} p b o) q h g =
      let c = of_if_form q in
      let s = same_expression p c.found (ends_close _) (ends_close _) in
      let t = same_block b (block_from (cc s.rest) c.found_body) in
      elim c.tail [
        | alone i j ↦ absurd (subst NoElse (sym (t.rest ∙ i)) g)
        | with_else m' d' i w j ↦
            let e : m ≡ m' = cc (t.rest ∙ i) in
            let u = same_otherwise o (subst (λ x. Otherwise x r' d') (sym e) w) h g in
            record { rest = u.rest; value = cc (s.value, t.value, u.value, j) }
      ]

  same_otherwise : {ts r r' : List Symbol} {b b' : List Stmt} → Otherwise ts r b → Otherwise ts r' b' → NoElse r → NoElse r' → Same r r' b b'
  same_otherwise (block b) q h g = same_block b (as_block b q)
  same_otherwise (else_if p) q h g =
      let c = as_else_if p q in
      let s = same_if p c.found h g in
      record { rest = s.rest; value = cc (s.value, c.is) }

  same_block : {ts r r' : List Symbol} {b b' : List Stmt} → Block ts r b → Block ts r' b' → Same r r' b b'
  same_block (braces s) q = let t = same_statements s (of_braces q) tt tt in record { rest = cc t.rest; value = t.value }

  same_statements : {ts r r' : List Symbol} {b b' : List Stmt} → Statements ts r b → Statements ts r' b' → IsClosed r → IsClosed r' → Same r r' b b'
  same_statements none q h g = of_none q h
  same_statements {r = r} {r' = r'} (then s b) q h g =
      let c = of_then q (statement-no_close s) g in
      let t = same_statement s c.found (statements-no_else b (closed-no_else _ h)) (statements-no_else c.more (closed-no_else _ g)) in
      let u = same_statements b (subst (λ x. Statements x r' c.steps) (sym t.rest) c.more) h g in
      record { rest = u.rest; value = cc (t.value, u.value, c.is) }

one_type : {t : Symbol} {ty ty' : Ty} → IsType t ty → IsType t ty' → ty ≡ ty'
one_type signed signed = refl
one_type unsigned unsigned = refl

record SameDeclaration (r r' : List Symbol) (v v' : Declared) (f f' : List Stmt) : Type 0 where
  rest : r ≡ r'
  declared : v ≡ v'
  initializer : f ≡ f'

of_plain : {t : Symbol} {ty : Ty} {n : Used} {ts r : List Symbol} {v : Declared} {f : List Stmt} → IsType t ty → Declaration (t ∷ token.Ident n ∷ token.Semicolon ∷ ts) r v f → SameDeclaration ts r (AScalar (scalar_of n ty)) v [] f
of_plain {n = n} i (plain j) = record { rest = refl; declared = ap (λ x. AScalar (scalar_of n x)) (one_type i j); initializer = refl }

of_array : {t : Symbol} {ty : Ty} {n : Used} {len : ℕ} {u : Ty} {ts r : List Symbol} {v : Declared} {f : List Stmt} → IsType t ty → Declaration (t ∷ token.Ident n ∷ token.OpenBracket ∷ token.Number (suc len) u ∷ token.CloseBracket ∷ token.Semicolon ∷ ts) r v f
    → SameDeclaration ts r (AnArray (array_of n ty (suc len))) v [] f
of_array {n = n} {len = len} i (array j) = record { rest = refl; declared = ap (λ x. AnArray (array_of n x (suc len))) (one_type i j); initializer = refl }

record InitialForm (ty : Ty) (n : Used) (ts r : List Symbol) (v : Declared) (f : List Stmt) : Type 0 where
  value : Expr
  declared : AScalar (scalar_of n ty) ≡ v
  initializer : one_step (Assign (target.Scalar n) value) ≡ f
  found : Expression ts (token.Semicolon ∷ r) value

of_initial : {t : Symbol} {ty : Ty} {n : Used} {ts r : List Symbol} {v : Declared} {f : List Stmt} → IsType t ty → Declaration (t ∷ token.Ident n ∷ token.Assign ∷ ts) r v f → InitialForm ty n ts r v f
of_initial {n = n} i (initial {e = e} j p) = record { value = e; declared = ap (λ x. AScalar (scalar_of n x)) (one_type i j); initializer = refl; found = p }

same_declaration : {ts r r' : List Symbol} {v v' : Declared} {f f' : List Stmt} → Declaration ts r v f → Declaration ts r' v' f' → SameDeclaration r r' v v' f f'
same_declaration (plain i) q = of_plain i q
same_declaration (array i) q = of_array i q
same_declaration (initial {x = n} i p) q =
    let c = of_initial i q in
    let s = same_expression p c.found (ends_semicolon _) (ends_semicolon _) in
    record { rest = cc s.rest; declared = c.declared; initializer = ap (λ x. one_step (Assign (target.Scalar n) x)) s.value ∙ c.initializer }

typed : {ts r : List Symbol} {v : Declared} {f : List Stmt} → Declaration ts r v f → NoType ts → ⊥
typed (plain signed) h = h
typed (plain unsigned) h = h
typed (array signed) h = h
typed (array unsigned) h = h
typed (initial signed p) h = h
typed (initial unsigned p) h = h

record SameBody (r r' : List Symbol) (v v' : List Declared) (b b' : List Stmt) : Type 0 where
  rest : r ≡ r'
  variables : v ≡ v'
  steps : b ≡ b'

of_statements : {ts r r' : List Symbol} {b b' : List Stmt} {vs : List Declared} → Statements ts r b → Body ts r' vs b' → IsClosed r → IsClosed r' → SameBody r r' [] vs b b'
of_statements s (statements q) h g = let t = same_statements s q h g in record { rest = t.rest; variables = refl; steps = t.value }
of_statements s (declare d q) h g = absurd (typed d (statements-no_type s h))

record DeclareForm (ts r : List Symbol) (vs : List Declared) (b : List Stmt) : Type 0 where
  mid : List Symbol
  first : Declared
  initializer : List Stmt
  others : List Declared
  steps : List Stmt
  variables_is : first ∷ others ≡ vs
  steps_is : initializer ++ steps ≡ b
  found : Declaration ts mid first initializer
  more : Body mid r others steps

of_declare : {ts m r : List Symbol} {v : Declared} {f : List Stmt} {vs : List Declared} {b : List Stmt} → Declaration ts m v f → Body ts r vs b → IsClosed r → DeclareForm ts r vs b
of_declare d (statements s) h = absurd (typed d (statements-no_type s h))
of_declare d (declare {mid = m} {v = v} {vs = vs} {a = f} {b = b} e q) h = record { mid = m; first = v; initializer = f; others = vs; steps = b; variables_is = refl; steps_is = refl; found = e; more = q }

same_body : {ts r r' : List Symbol} {vs vs' : List Declared} {b b' : List Stmt} → Body ts r vs b → Body ts r' vs' b' → IsClosed r → IsClosed r' → SameBody r r' vs vs' b b'
same_body (statements s) q h g = of_statements s q h g
same_body {r' = r'} (declare d p) q h g =
    let c = of_declare d q g in
    let s = same_declaration d c.found in
    let t = same_body p (subst (λ x. Body x r' c.others c.steps) (sym s.rest) c.more) h g in
    record { rest = t.rest; variables = cc (s.declared, t.variables, c.variables_is); steps = cc (s.initializer, t.steps, c.steps_is) }

one_direction : {d : Symbol} {out out' : Side} → Direction d out → Direction d out' → out ≡ out'
one_direction input input = refl
one_direction output output = refl

record NextForm (out : Side) (n : Used) (ts r : List Symbol) (ps : List Port) : Type 0 where
  others : List Port
  is : port_of n out ∷ others ≡ ps
  found : MorePorts ts r others

of_last : {ts r : List Symbol} {ps : List Port} → MorePorts (token.Close ∷ ts) r ps → Same ts r [] ps
of_last last = record { rest = refl; value = refl }

of_next : {d : Symbol} {out : Side} {n : Used} {ts r : List Symbol} {ps : List Port} → Direction d out → MorePorts (token.Comma ∷ d ∷ token.Ident n ∷ ts) r ps → NextForm out n ts r ps
of_next {n = n} i (next {ps = ps} j p) = record { others = ps; is = ap (λ x. port_of n x ∷ ps) (one_direction i j); found = p }

same_more : {ts r r' : List Symbol} {ps ps' : List Port} → MorePorts ts r ps → MorePorts ts r' ps' → Same r r' ps ps'
same_more last q = of_last q
same_more (next {side = out} {x = n} i p) q = let c = of_next i q in let s = same_more p c.found in record { rest = s.rest; value = ap (λ x. port_of n out ∷ x) s.value ∙ c.is }

of_no_ports : {ts r : List Symbol} {ps : List Port} → Ports (token.Close ∷ ts) r ps → Same ts r [] ps
of_no_ports no_ports = record { rest = refl; value = refl }
of_no_ports (some_ports i p) = elim i [ ]

of_some_ports : {d : Symbol} {out : Side} {n : Used} {ts r : List Symbol} {ps : List Port} → Direction d out → Ports (d ∷ token.Ident n ∷ ts) r ps → NextForm out n ts r ps
of_some_ports i no_ports = elim i [ ]
of_some_ports {n = n} i (some_ports {ps = ps} j p) = record { others = ps; is = ap (λ x. port_of n x ∷ ps) (one_direction i j); found = p }

same_ports : {ts r r' : List Symbol} {ps ps' : List Port} → Ports ts r ps → Ports ts r' ps' → Same r r' ps ps'
same_ports no_ports q = of_no_ports q
same_ports (some_ports {side = out} {x = n} i p) q = let c = of_some_ports i q in let s = same_more p c.found in record { rest = s.rest; value = ap (λ x. port_of n out ∷ x) s.value ∙ c.is }

record OperatorForm (n : Used) (ts : List Symbol) (op : Operator) : Type 0 where
  mid : List Symbol
  ports : List Port
  variables : List Declared
  steps : List Stmt
  is : operator_of n ports variables steps ≡ op
  found : Ports ts (token.OpenBrace ∷ mid) ports
  found_body : Body mid (token.CloseBrace ∷ []) variables steps

of_operator : {n : Used} {ts : List Symbol} {op : Operator} → Syntax (token.Void ∷ token.Ident n ∷ token.Open ∷ ts) op → OperatorForm n ts op
of_operator (operator {mid = m} {ps = ps} {vs = vs} {b = b} p q) = record { mid = m; ports = ps; variables = vs; steps = b; is = refl; found = p; found_body = q }

-- a list of tokens has at most one operator
pub one_syntax : {ts : List Symbol} {op op' : Operator} → Syntax ts op → Syntax ts op' → op ≡ op'
one_syntax (operator {x = n} {vs = vs} {b = body} p b) q =
    let c = of_operator q in
    let s = same_ports p c.found in
    let t = same_body b (subst (λ x. Body x (token.CloseBrace ∷ []) c.variables c.steps) (cc s.rest) c.found_body) tt tt in
    ap (λ x. operator_of n x vs body) s.value ∙ ap (λ x. operator_of n c.ports x body) t.variables
    ∙ ap (λ x. operator_of n c.ports c.variables x) t.steps ∙ c.is
