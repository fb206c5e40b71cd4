-- The grammar: one case per form, one level per precedence. Each relation says that the first list
-- begins with such a part, and that the second list is what follows it.
use Rattle.std.specs.Prelude.{ℕ, zero, suc, List, [], ◌∷◌, ◌++◌}
use Rattle.pld_ast.specs.declared.tree.Ty.{Ty}
use Rattle.pld_ast.specs.declared.tree.Ty.TheVariants.{Int, Uint}
use Rattle.pld_ast.specs.declared.tree.BinOp.{BinOp}
use Rattle.pld_ast.specs.declared.tree.BinOp.TheVariants as binary
use Rattle.pld_ast.specs.declared.tree.UnOp.{UnOp}
use Rattle.pld_ast.specs.declared.tree.UnOp.TheVariants as unary
use Rattle.pld_grammar.specs.Symbols.{Symbol}
use Rattle.pld_grammar.specs.Symbols as token
use Rattle.pld_base.specs.declared.event.Side.{Side}
use Rattle.pld_base.specs.declared.event.Side.TheVariants as side
use Rattle.pld_ast.specs.declared.tree.Used.{Used}
use Rattle.pld_ast.specs.declared.tree.Expr.{Expr}
use Rattle.pld_ast.specs.declared.tree.Expr.TheVariants.{Lit, Var, Element, Unary, Binary, Cast}
use Rattle.pld_ast.specs.declared.tree.Target.{Target}
use Rattle.pld_ast.specs.declared.tree.Target.TheVariants as target
use Rattle.pld_ast.specs.declared.tree.Stmt.{Stmt}
use Rattle.pld_ast.specs.declared.tree.Stmt.TheVariants.{Assign, Read, Write, If, While, Return}
use Rattle.pld_ast.specs.declared.tree.Port.{Port}
use Rattle.pld_ast.specs.declared.tree.Scalar.{Scalar}
use Rattle.pld_ast.specs.declared.tree.Array.{Array}
use Rattle.pld_ast.specs.declared.tree.Operator.{Operator}
use Rattle.pld_grammar.specs.Rewritings.{one_step, updated, one, Declared, AScalar, AnArray, scalars_of, arrays_of}

-- a type's name
pub data IsType : Symbol → Ty → Type 0 where
  signed : IsType token.Int Int
  unsigned : IsType token.Uint Uint

-- a binary operator, and its level, the tightest first
pub data IsOperator : ℕ → Symbol → BinOp → Type 0 where
  is_OrElse : IsOperator 9 token.OrOr binary.OrElse
  is_AndAlso : IsOperator 8 token.AndAnd binary.AndAlso
  is_Or : IsOperator 7 token.Bar binary.Or
  is_Xor : IsOperator 6 token.Hat binary.Xor
  is_And : IsOperator 5 token.Ampersand binary.And
  is_Eq : IsOperator 4 token.EqualEqual binary.Eq
  is_Ne : IsOperator 4 token.NotEqual binary.Ne
  is_Lt : IsOperator 3 token.Less binary.Lt
  is_Le : IsOperator 3 token.LessEqual binary.Le
  is_Gt : IsOperator 3 token.Greater binary.Gt
  is_Ge : IsOperator 3 token.GreaterEqual binary.Ge
  is_Shl : IsOperator 2 token.ShiftLeft binary.Shl
  is_Shr : IsOperator 2 token.ShiftRight binary.Shr
  is_Add : IsOperator 1 token.Plus binary.Add
  is_Sub : IsOperator 1 token.Minus binary.Sub
  is_Mul : IsOperator 0 token.Star binary.Mul
  is_Div : IsOperator 0 token.Slash binary.Div
  is_Rem : IsOperator 0 token.Percent binary.Rem

-- a prefix
pub data IsPrefix : Symbol → UnOp → Type 0 where
  is_neg : IsPrefix token.Minus unary.Neg
  is_plus : IsPrefix token.Plus unary.Plus
  is_complement : IsPrefix token.Tilde unary.BitNot
  is_not : IsPrefix token.Bang unary.Not

-- an operator of an assignment
pub data IsAssignment : Symbol → BinOp → Type 0 where
  by_Add : IsAssignment token.PlusAssign binary.Add
  by_Sub : IsAssignment token.MinusAssign binary.Sub
  by_Mul : IsAssignment token.StarAssign binary.Mul
  by_Div : IsAssignment token.SlashAssign binary.Div
  by_Rem : IsAssignment token.PercentAssign binary.Rem
  by_And : IsAssignment token.AndAssign binary.And
  by_Or : IsAssignment token.OrAssign binary.Or
  by_Xor : IsAssignment token.XorAssign binary.Xor
  by_Shl : IsAssignment token.ShlAssign binary.Shl
  by_Shr : IsAssignment token.ShrAssign binary.Shr

-- Level l: an expression whose operators outside brackets are of the levels below l, the tightest first.
-- Tail l a: what follows the expression a at level l.
mutual
  pub data Level : ℕ → List Symbol → List Symbol → Expr → Type 0 where
    operand : {ts rest : List Symbol} {e : Expr} → Prefix ts rest e → Level zero ts rest e
    chain : {l : ℕ} {ts mid rest : List Symbol} {a e : Expr} → Level l ts mid a → Tail l a mid rest e → Level (suc l) ts rest e

  pub data Tail : ℕ → Expr → List Symbol → List Symbol → Expr → Type 0 where
    end : {l : ℕ} {a : Expr} {ts : List Symbol} → Tail l a ts ts a
    more : {l : ℕ} {a : Expr} {t : Symbol} {o : BinOp} {ts mid rest : List Symbol} {b e : Expr}
        → IsOperator l t o → Level l ts mid b → Tail l (Binary o a b) mid rest e → Tail l a (t ∷ ts) rest e

  pub data Prefix : List Symbol → List Symbol → Expr → Type 0 where
    unary_form : {t : Symbol} {o : UnOp} {ts rest : List Symbol} {e : Expr} → IsPrefix t o → Prefix ts rest e → Prefix (t ∷ ts) rest (Unary o e)
    cast : {t : Symbol} {ty : Ty} {ts rest : List Symbol} {e : Expr} → IsType t ty → Prefix ts rest e → Prefix (token.Open ∷ t ∷ token.Close ∷ ts) rest (Cast ty e)
    number : {n : ℕ} {u : Ty} {ts : List Symbol} → Prefix (token.Number n u ∷ ts) ts (Lit n u)
    variable : {x : Used} {ts : List Symbol} → Prefix (token.Ident x ∷ ts) ts (Var x)
    element : {x : Used} {ts rest : List Symbol} {e : Expr} → Level 10 ts (token.CloseBracket ∷ rest) e → Prefix (token.Ident x ∷ token.OpenBracket ∷ ts) rest (Element x e)
    group : {ts rest : List Symbol} {e : Expr} → Level 10 ts (token.Close ∷ rest) e → Prefix (token.Open ∷ ts) rest e

abbrev pub Expression : List Symbol → List Symbol → Expr → Type 0
Expression ts rest e = Level 10 ts rest e

pub data IsTarget : List Symbol → List Symbol → Target → Type 0 where
  scalar : {x : Used} {ts : List Symbol} → IsTarget (token.Ident x ∷ ts) ts (target.Scalar x)
  cell : {x : Used} {ts rest : List Symbol} {e : Expr} → Expression ts (token.CloseBracket ∷ rest) e → IsTarget (token.Ident x ∷ token.OpenBracket ∷ ts) rest (target.Element x e)

-- what stands alone as a statement and in the head of a `for`
pub data Simple : List Symbol → List Symbol → Stmt → Type 0 where
  assign : {ts mid rest : List Symbol} {x : Target} {e : Expr} → IsTarget ts (token.Assign ∷ mid) x → Expression mid rest e → Simple ts rest (Assign x e)
  update : {t : Symbol} {o : BinOp} {ts mid rest : List Symbol} {x : Target} {e : Expr} → IsTarget ts (t ∷ mid) x → IsAssignment t o → Expression mid rest e → Simple ts rest (updated x o e)
  increment : {ts rest : List Symbol} {x : Target} → IsTarget ts (token.PlusPlus ∷ rest) x → Simple ts rest (updated x binary.Add one)
  decrement : {ts rest : List Symbol} {x : Target} → IsTarget ts (token.MinusMinus ∷ rest) x → Simple ts rest (updated x binary.Sub one)

mutual
  pub data Statement : List Symbol → List Symbol → List Stmt → Type 0 where
    simple : {ts rest : List Symbol} {s : Stmt} → Simple ts (token.Semicolon ∷ rest) s → Statement ts rest (one_step s)
    read : {ts rest : List Symbol} {x : Target} {p : Used} → IsTarget ts (token.Assign ∷ token.Read ∷ token.Open ∷ token.Ident p ∷ token.Close ∷ token.Semicolon ∷ rest) x → Statement ts rest (one_step (Read x p))
    write : {ts rest : List Symbol} {p : Used} {e : Expr} → Expression ts (token.Close ∷ token.Semicolon ∷ rest) e → Statement (token.Write ∷ token.Open ∷ token.Ident p ∷ token.Comma ∷ ts) rest (one_step (Write p e))
    choice : {ts rest : List Symbol} {s : Stmt} → IfStatement ts rest s → Statement ts rest (one_step s)
    loop : {ts mid rest : List Symbol} {c : Expr} {body : List Stmt} → Expression ts (token.Close ∷ mid) c → Block mid rest body → Statement (token.While ∷ token.Open ∷ ts) rest (one_step (While c body))
    for : {ts test last mid rest : List Symbol} {a s : Stmt} {c : Expr} {body : List Stmt} → Simple ts (token.Semicolon ∷ test) a → Expression test (token.Semicolon ∷ last) c → Simple last (token.Close ∷ mid) s → Block mid rest body
        → Statement (token.For ∷ token.Open ∷ ts) rest (a ∷ one_step (While c (body ++ one_step s)))
    return : {rest : List Symbol} → Statement (token.Return ∷ token.Semicolon ∷ rest) rest (one_step Return)

  pub data IfStatement : List Symbol → List Symbol → Stmt → Type 0 where
    if_only : {ts mid rest : List Symbol} {c : Expr} {a : List Stmt} → Expression ts (token.Close ∷ mid) c → Block mid rest a → IfStatement (token.If ∷ token.Open ∷ ts) rest (If c a [])
    if_else : {ts mid between rest : List Symbol} {c : Expr} {a b : List Stmt} → Expression ts (token.Close ∷ mid) c → Block mid (token.Else ∷ between) a → Otherwise between rest b → IfStatement (token.If ∷ token.Open ∷ ts) rest (If c a b)

  pub data Otherwise : List Symbol → List Symbol → List Stmt → Type 0 where
    block : {ts rest : List Symbol} {b : List Stmt} → Block ts rest b → Otherwise ts rest b
    else_if : {ts rest : List Symbol} {s : Stmt} → IfStatement ts rest s → Otherwise ts rest (one_step s)

  pub data Block : List Symbol → List Symbol → List Stmt → Type 0 where
    braces : {ts rest : List Symbol} {b : List Stmt} → Statements ts (token.CloseBrace ∷ rest) b → Block (token.OpenBrace ∷ ts) rest b

  pub data Statements : List Symbol → List Symbol → List Stmt → Type 0 where
    none : {ts : List Symbol} → Statements ts ts []
    then : {ts mid rest : List Symbol} {a b : List Stmt} → Statement ts mid a → Statements mid rest b → Statements ts rest (a ++ b)

pub data Direction : Symbol → Side → Type 0 where
  input : Direction token.In side.In
  output : Direction token.Out side.Out

abbrev pub port_of : Used → Side → Port
port_of x s = record { name = x.name; side = s; at = x.at }

abbrev pub scalar_of : Used → Ty → Scalar
scalar_of x t = record { name = x.name; ty = t; at = x.at }

abbrev pub array_of : Used → Ty → ℕ → Array
array_of x t n = record { name = x.name; ty = t; len = n; at = x.at }

-- the ports after the first, with the bracket that closes the list
pub data MorePorts : List Symbol → List Symbol → List Port → Type 0 where
  last : {ts : List Symbol} → MorePorts (token.Close ∷ ts) ts []
  next : {d : Symbol} {side : Side} {x : Used} {ts rest : List Symbol} {ps : List Port} → Direction d side → MorePorts ts rest ps → MorePorts (token.Comma ∷ d ∷ token.Ident x ∷ ts) rest (port_of x side ∷ ps)

pub data Ports : List Symbol → List Symbol → List Port → Type 0 where
  no_ports : {ts : List Symbol} → Ports (token.Close ∷ ts) ts []
  some_ports : {d : Symbol} {side : Side} {x : Used} {ts rest : List Symbol} {ps : List Port} → Direction d side → MorePorts ts rest ps → Ports (d ∷ token.Ident x ∷ ts) rest (port_of x side ∷ ps)

-- a declaration, with the assignment that its initializer means; an array has at least one word
pub data Declaration : List Symbol → List Symbol → Declared → List Stmt → Type 0 where
  plain : {t : Symbol} {ty : Ty} {x : Used} {rest : List Symbol} → IsType t ty → Declaration (t ∷ token.Ident x ∷ token.Semicolon ∷ rest) rest (AScalar (scalar_of x ty)) []
  initial : {t : Symbol} {ty : Ty} {x : Used} {ts rest : List Symbol} {e : Expr} → IsType t ty → Expression ts (token.Semicolon ∷ rest) e
      → Declaration (t ∷ token.Ident x ∷ token.Assign ∷ ts) rest (AScalar (scalar_of x ty)) (one_step (Assign (target.Scalar x) e))
  array : {t : Symbol} {ty u : Ty} {x : Used} {len : ℕ} {rest : List Symbol} → IsType t ty
      → Declaration (t ∷ token.Ident x ∷ token.OpenBracket ∷ token.Number (suc len) u ∷ token.CloseBracket ∷ token.Semicolon ∷ rest) rest (AnArray (array_of x ty (suc len))) []

pub data Body : List Symbol → List Symbol → List Declared → List Stmt → Type 0 where
  statements : {ts rest : List Symbol} {b : List Stmt} → Statements ts rest b → Body ts rest [] b
  declare : {ts mid rest : List Symbol} {v : Declared} {vs : List Declared} {a b : List Stmt} → Declaration ts mid v a → Body mid rest vs b → Body ts rest (v ∷ vs) (a ++ b)

abbrev pub operator_of : Used → List Port → List Declared → List Stmt → Operator
operator_of x ps vs b = record { name = x.name; at = x.at; ports = ps; scalars = scalars_of vs; arrays = arrays_of vs; body = b }

-- the tokens are the operator's
pub data Syntax : List Symbol → Operator → Type 0 where
  operator : {x : Used} {ts mid : List Symbol} {ps : List Port} {vs : List Declared} {b : List Stmt} → Ports ts (token.OpenBrace ∷ mid) ps → Body mid (token.CloseBrace ∷ []) vs b
      → Syntax (token.Void ∷ token.Ident x ∷ token.Open ∷ ts) (operator_of x ps vs b)
