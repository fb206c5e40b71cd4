-- What the reader's functions find, each at the front of some tokens.
use Rattle.std.specs.Prelude.{ℕ, suc, ◌<◌, ◌≤◌, ◌≡◌, List, [], ◌∷◌, ◌++◌, length, Option, Some, None}
use Rattle.pld_ast.specs.declared.tree.Ty.{Ty}
use Rattle.pld_ast.specs.declared.tree.Ty.TheVariants as ty
use Rattle.pld_ast.specs.declared.tree.UnOp.{UnOp}
use Rattle.pld_ast.specs.declared.tree.UnOp.TheVariants as unary
use Rattle.pld_ast.specs.declared.tree.BinOp.{BinOp}
use Rattle.pld_ast.specs.declared.tree.Expr.{Expr}
use Rattle.pld_ast.specs.declared.tree.Expr.TheVariants.{Unary, Cast}
use Rattle.pld_ast.specs.declared.tree.Stmt.TheVariants as stmt
use Rattle.pld_ast.specs.declared.tree.Used.{Used}
use Rattle.pld_ast.specs.declared.tree.Target.{Target}
use Rattle.pld_ast.specs.declared.tree.Stmt.{Stmt}
use Rattle.pld_ast.specs.declared.tree.BinOp.TheVariants as binary
use Rattle.pld_base.specs.declared.event.Side.{Side}
use Rattle.pld_base.specs.declared.event.Side.TheVariants as side
use Rattle.pld_ast.specs.declared.tree.Port.{Port}
use Rattle.pld_ast.specs.declared.tree.Array.{Array}
use Rattle.pld_grammar.specs.Symbols.{Symbol}
use Rattle.pld_grammar.specs.Symbols as token
use Rattle.pld_grammar.specs.Grammar.{IsOperator, Level, Expression, IsAssignment, IsTarget, Simple, Statement, Statements, Declaration, Body, port_of, array_of}
use Rattle.pld_grammar.specs.Machine as machine
use Rattle.pld_grammar.specs.Rewritings.{one_step, Declared, scalars_of, arrays_of}
use Rattle.pld_grammar.specs.Machine.{Needs, Exactly, Operand, After, AfterTarget, AfterElement, AfterSimple, AfterSimpleElement, InBlock, InBody, AfterVariable, FirstPort, NextPort, start, after_token}
use Rattle.pld_parse.specs.declared.token.Mark.{Mark}
use Rattle.pld_parse.specs.declared.token.Mark.TheVariants as mark
use Rattle.pld_parse.specs.declared.token.Stuck.{Stuck}
use Rattle.pld_parse.specs.declared.prefix.PrefixForm.{PrefixForm}
use Rattle.pld_parse.specs.declared.statement.Arm.{Arm}
use Rattle.pld_parse.specs.declared.operator.Declarations.{Declarations}
use Rattle.pld_parse.specs.declared.simple.Change.{Change}
use Rattle.pld_parse.specs.declared.simple.Change.TheVariants.{Set, Update, Count}
use Rattle.pld_parse.specs.declared.prefix.PrefixForm.TheVariants.{Sign, CastTo}
use Rattle.pld_parse.specs.declared.token.Stuck.TheVariants.{NoMemory, At}

-- goes on with what has to be met, unless a token can't come, where it and n tokens follow
abbrev pub stuck_at : Option Needs → ℕ → (Needs → Option ℕ) → Option ℕ
stuck_at None n go = Some (suc n)
stuck_at (Some ns) n go = go ns

-- how many tokens are left at the first that may not come, whatever the brackets; None where the tokens are all that has to be met
abbrev pub stuck : List Symbol → Needs → Option ℕ
stuck [] [] = None
stuck [] (n ∷ ns) = Some 0
stuck (t ∷ ts) ns = stuck_at (after_token ns t) (length ts) (stuck ts)

-- whatever follows, the tokens are stuck where the reader is
abbrev pub Failed : (Needs → Needs) → List Symbol → Stuck → Type 0
Failed before ts NoMemory = Unit {0}
Failed before ts (At n) = (ns : Needs) → stuck ts (before ns) ≡ Some n

-- The part v was read: whatever follows, the tokens are stuck where what is behind it is.
pub record Parsed {V : Type 0} (Part : List Symbol → List Symbol → V → Type 0) (before after : Needs → Needs) (ts rest : List Symbol) (v : V) : Type 0 where
  pub found : Part ts rest v
  pub goes : (ns : Needs) → stuck ts (before ns) ≡ stuck rest (after ns)
  pub shorter : length rest < length ts

abbrev pub symbol_of_mark : Mark → Symbol
symbol_of_mark mark.Void = token.Void
symbol_of_mark mark.Open = token.Open
symbol_of_mark mark.Close = token.Close
symbol_of_mark mark.OpenBracket = token.OpenBracket
symbol_of_mark mark.CloseBracket = token.CloseBracket
symbol_of_mark mark.OpenBrace = token.OpenBrace
symbol_of_mark mark.CloseBrace = token.CloseBrace
symbol_of_mark mark.Comma = token.Comma
symbol_of_mark mark.Semicolon = token.Semicolon
symbol_of_mark mark.Assign = token.Assign
symbol_of_mark mark.Else = token.Else
symbol_of_mark mark.If = token.If
symbol_of_mark mark.Read = token.Read
symbol_of_mark mark.For = token.For

-- ts doesn't begin with this mark
abbrev pub BeginsOtherwise : Mark → List Symbol → Type 0
BeginsOtherwise m ts = (rest : List Symbol) → ts ≡ symbol_of_mark m ∷ rest → ⊥

-- a mark that the grammar ever asks for alone
abbrev pub IsAskedFor : Mark → Type 0
IsAskedFor mark.OpenBracket = ⊥
IsAskedFor mark.CloseBrace = ⊥
IsAskedFor mark.Else = ⊥
IsAskedFor mark.If = ⊥
IsAskedFor mark.Read = ⊥
IsAskedFor mark.For = ⊥
IsAskedFor _ = Unit {0}

-- this mark has to come
abbrev pub exactly : Mark → Needs → Needs
exactly mark.Void ns = Exactly machine.AVoid ∷ ns
exactly mark.Open ns = Exactly machine.AnOpen ∷ ns
exactly mark.Close ns = Exactly machine.AClose ∷ ns
exactly mark.CloseBracket ns = Exactly machine.ACloseBracket ∷ ns
exactly mark.OpenBrace ns = Exactly machine.AnOpenBrace ∷ ns
exactly mark.Comma ns = Exactly machine.AComma ∷ ns
exactly mark.Semicolon ns = Exactly machine.ASemicolon ∷ ns
exactly mark.Assign ns = Exactly machine.AnAssign ∷ ns
exactly _ ns = ns

abbrev pub a_name : Needs → Needs
a_name ns = Exactly machine.AName ∷ ns

-- an expression has to come, and the rest of one may come
abbrev pub operand : Needs → Needs
operand ns = Operand ∷ ns

abbrev pub after : Needs → Needs
after ns = After ∷ ns

abbrev pub symbol_of_type : Ty → Symbol
symbol_of_type ty.Int = token.Int
symbol_of_type ty.Uint = token.Uint

abbrev pub symbol_of_sign : UnOp → Symbol
symbol_of_sign unary.Neg = token.Minus
symbol_of_sign unary.Plus = token.Plus
symbol_of_sign unary.BitNot = token.Tilde
symbol_of_sign unary.Not = token.Bang

-- no type begins the tokens
abbrev pub NoType : List Symbol → Type 0
NoType (token.Int ∷ ts) = ⊥
NoType (token.Uint ∷ ts) = ⊥
NoType _ = Unit {0}

-- no prefix operator begins the tokens
abbrev pub NoPrefix : List Symbol → Type 0
NoPrefix (token.Minus ∷ ts) = ⊥
NoPrefix (token.Plus ∷ ts) = ⊥
NoPrefix (token.Tilde ∷ ts) = ⊥
NoPrefix (token.Bang ∷ ts) = ⊥
NoPrefix (token.Open ∷ ts) = NoType ts
NoPrefix _ = Unit {0}

-- a prefix operator, and what follows it
abbrev pub written : PrefixForm → List Symbol → List Symbol
written (Sign o) ts = symbol_of_sign o ∷ ts
written (CastTo t) ts = token.Open ∷ symbol_of_type t ∷ token.Close ∷ ts

abbrev pub applied : PrefixForm → Expr → Expr
applied (Sign o) e = Unary o e
applied (CastTo t) e = Cast t e

-- all of them, from the outermost on
abbrev pub all_written : List PrefixForm → List Symbol → List Symbol
all_written [] ts = ts
all_written (f ∷ fs) ts = written f (all_written fs ts)

abbrev pub all_applied : List PrefixForm → Expr → Expr
all_applied [] e = e
all_applied (f ∷ fs) e = applied f (all_applied fs e)

-- no index begins the tokens
abbrev pub NoBracket : List Symbol → Type 0
NoBracket (token.OpenBracket ∷ ts) = ⊥
NoBracket _ = Unit {0}

-- no operator of a level below l begins the tokens
abbrev pub NoOperator : ℕ → List Symbol → Type 0
NoOperator l [] = Unit {0}
NoOperator l (t ∷ ts) = (k : ℕ) (o : BinOp) → IsOperator k t o → l ≤ k

-- no operator of the level l begins the tokens
abbrev pub NoOperatorAt : ℕ → List Symbol → Type 0
NoOperatorAt l ts = (t : Symbol) (o : BinOp) (rest : List Symbol) → ts ≡ t ∷ rest → IsOperator l t o → ⊥

-- the tokens begin with an operator of the level l
pub record BeginsWithOperator (l : ℕ) (ts : List Symbol) (o : BinOp) (rest : List Symbol) : Type 0 where
  pub token : Symbol
  pub is : IsOperator l token o
  pub split : ts ≡ token ∷ rest

abbrev pub LevelPart : ℕ → List Symbol → List Symbol → Expr → Type 0
LevelPart l ts rest e = Level l ts rest e × NoOperator l rest

-- an expression and the mark behind it
abbrev pub ClosedPart : Mark → List Symbol → List Symbol → Expr → Type 0
ClosedPart m ts rest e = Expression ts (symbol_of_mark m ∷ rest) e

abbrev pub closing : Mark → Needs → Needs
closing m ns = Operand ∷ exactly m ns

abbrev pub on : Needs → Needs
on ns = ns

-- behind the name x stands the rest of the target t: in a statement of its own, and in the head of a `for`
pub record TargetRead (x : Used) (ts rest : List Symbol) (t : Target) : Type 0 where
  pub found : IsTarget (token.Ident x ∷ ts) rest t
  pub alone : (ns : Needs) → stuck ts (AfterTarget ∷ ns) ≡ stuck rest (AfterElement ∷ ns)
  pub within : (ns : Needs) → stuck ts (AfterSimple ∷ ns) ≡ stuck rest (AfterSimpleElement ∷ ns)
  pub shorter : length rest ≤ length ts

abbrev pub after_target : Needs → Needs
after_target ns = AfterTarget ∷ ns

abbrev pub after_simple : Needs → Needs
after_simple ns = AfterSimple ∷ ns

abbrev pub TargetFailed : List Symbol → Stuck → Type 0
TargetFailed ts e = Failed after_target ts e × Failed after_simple ts e

-- a token that changes a target
pub data IsChange : Symbol → Change → Type 0 where
  set : IsChange token.Assign Set
  update : {t : Symbol} {o : BinOp} → IsAssignment t o → IsChange t (Update o)
  up : IsChange token.PlusPlus (Count binary.Add)
  down : IsChange token.MinusMinus (Count binary.Sub)

pub record BeginsWithChange (ts : List Symbol) (c : Change) (rest : List Symbol) : Type 0 where
  pub token : Symbol
  pub is : IsChange token c
  pub split : ts ≡ token ∷ rest

abbrev pub changing : Mark → Needs → Needs
changing m ns = AfterSimpleElement ∷ exactly m ns

-- behind the target t stands what makes the simple statement s, and the mark behind it
pub record Changed (t : Target) (m : Mark) (ts rest : List Symbol) (s : Stmt) : Type 0 where
  pub found : (whole : List Symbol) → IsTarget whole ts t → Simple whole (symbol_of_mark m ∷ rest) s
  pub goes : (ns : Needs) → stuck ts (AfterSimpleElement ∷ exactly m ns) ≡ stuck rest ns
  pub shorter : length rest < length ts

-- a simple statement and the mark behind it
abbrev pub SimplePart : Mark → List Symbol → List Symbol → Stmt → Type 0
SimplePart m ts rest s = Simple ts (symbol_of_mark m ∷ rest) s

abbrev pub simply : Mark → Needs → Needs
simply m ns = Exactly machine.AName ∷ AfterSimple ∷ exactly m ns

-- `= read` doesn't begin the tokens
abbrev pub NoRead : List Symbol → Type 0
NoRead ts = (rest : List Symbol) → ts ≡ token.Assign ∷ token.Read ∷ rest → ⊥

abbrev pub after_element : Needs → Needs
after_element ns = AfterElement ∷ ns

-- behind the target t of a statement stands what makes the statement s
pub record Assigned (t : Target) (ts rest : List Symbol) (s : Stmt) : Type 0 where
  pub found : (whole : List Symbol) → IsTarget whole ts t → Statement whole rest (one_step s)
  pub goes : (ns : Needs) → stuck ts (AfterElement ∷ ns) ≡ stuck rest ns
  pub shorter : length rest < length ts

abbrev pub in_block : Needs → Needs
in_block ns = InBlock ∷ ns

abbrev pub StatementPart : List Symbol → List Symbol → Stmt → Type 0
StatementPart ts rest s = Statement ts rest (one_step s)

-- a test in brackets and an open brace, where ns has to be met behind it
abbrev pub testing : Needs → Needs
testing ns = Exactly machine.AnOpen ∷ Operand ∷ Exactly machine.AClose ∷ Exactly machine.AnOpenBrace ∷ ns

pub record TestRead (ts rest : List Symbol) (c : Expr) : Type 0 where
  pub inner : List Symbol
  pub opened : ts ≡ token.Open ∷ inner
  pub found : Expression inner (token.Close ∷ token.OpenBrace ∷ rest) c
  pub goes : (ns : Needs) → stuck ts (testing ns) ≡ stuck rest ns
  pub shorter : length rest < length ts

-- the head of a `for` and an open brace
abbrev pub heading : Needs → Needs
heading ns = Exactly machine.AnOpen ∷ simply mark.Semicolon (closing mark.Semicolon (simply mark.Close (Exactly machine.AnOpenBrace ∷ ns)))

pub record HeadRead (ts rest : List Symbol) (a : Stmt) (c : Expr) (s : Stmt) : Type 0 where
  pub head : List Symbol
  pub test : List Symbol
  pub last : List Symbol
  pub opened : ts ≡ token.Open ∷ head
  pub first : Simple head (token.Semicolon ∷ test) a
  pub tested : Expression test (token.Semicolon ∷ last) c
  pub step : Simple last (token.Close ∷ token.OpenBrace ∷ rest) s
  pub goes : (ns : Needs) → stuck ts (heading ns) ≡ stuck rest ns
  pub shorter : length rest < length ts

-- statements and the brace behind them
abbrev pub BlockPart : List Symbol → List Symbol → List Stmt → Type 0
BlockPart ts rest b = Statements ts (token.CloseBrace ∷ rest) b

-- a block with both braces
abbrev pub bracing : Needs → Needs
bracing ns = Exactly machine.AnOpenBrace ∷ InBlock ∷ ns

-- a statement was read, and what it means was added to a list
pub record Added (old new : List Stmt) (ts rest : List Symbol) : Type 0 where
  pub steps : List Stmt
  pub is : new ≡ old ++ steps
  pub found : Statement ts rest steps
  pub goes : (ns : Needs) → stuck ts (InBlock ∷ ns) ≡ stuck rest (InBlock ∷ ns)
  pub shorter : length rest < length ts

-- an `if` behind these arms, each of which has it in its else block
abbrev pub chained : List Arm → Stmt → Stmt
chained [] s = s
chained (a ∷ more) s = stmt.If a.test a.body (one_step (chained more s))

abbrev pub symbol_of_side : Side → Symbol
symbol_of_side side.In = token.In
symbol_of_side side.Out = token.Out

abbrev pub a_port : Needs → Needs
a_port ns = NextPort ∷ ns

-- a port was read, and added to a list
pub record PortAdded (old new : List Port) (ts rest : List Symbol) : Type 0 where
  pub side : Side
  pub name : Used
  pub split : ts ≡ symbol_of_side side ∷ token.Ident name ∷ rest
  pub is : new ≡ old ++ port_of name side ∷ []

abbrev pub some_ports : Needs → Needs
some_ports ns = FirstPort ∷ ns

-- the tokens begin with the number n
pub record BeginsWithNumber (n : ℕ) (ts rest : List Symbol) : Type 0 where
  pub unit : Ty
  pub split : ts ≡ token.Number n unit ∷ rest

abbrev pub NoNumber : List Symbol → Type 0
NoNumber ts = (n : ℕ) (t : Ty) (rest : List Symbol) → ts ≡ token.Number n t ∷ rest → ⊥

-- the tokens begin with a number other than zero
pub record BeginsWithLength (n : ℕ) (ts rest : List Symbol) : Type 0 where
  pub less : ℕ
  pub unit : Ty
  pub is : n ≡ suc less
  pub split : ts ≡ token.Number (suc less) unit ∷ rest

-- behind the open bracket of an array's length
abbrev pub sizing : Needs → Needs
sizing ns = Exactly machine.ALength ∷ Exactly machine.ACloseBracket ∷ Exactly machine.ASemicolon ∷ ns

pub record ArrayAdded (t : Ty) (x : Used) (old new : List Array) (ts rest : List Symbol) : Type 0 where
  pub less : ℕ
  pub unit : Ty
  pub split : ts ≡ token.Number (suc less) unit ∷ token.CloseBracket ∷ token.Semicolon ∷ rest
  pub is : new ≡ old ++ array_of x t (suc less) ∷ []

-- behind the type of a declaration, and behind its name
abbrev pub declaring : Needs → Needs
declaring ns = Exactly machine.AName ∷ AfterVariable ∷ ns

abbrev pub after_variable : Needs → Needs
after_variable ns = AfterVariable ∷ ns

-- the declaration of x, of which ts stands behind the name, was added to others
pub record VariableAdded (t : Ty) (x : Used) (old new : Declarations) (ts rest : List Symbol) : Type 0 where
  pub variable : Declared
  pub steps : List Stmt
  pub found : Declaration (symbol_of_type t ∷ token.Ident x ∷ ts) rest variable steps
  pub scalars : new.scalars ≡ old.scalars ++ scalars_of (variable ∷ [])
  pub arrays : new.arrays ≡ old.arrays ++ arrays_of (variable ∷ [])
  pub body : new.body ≡ old.body ++ steps
  pub goes : (ns : Needs) → stuck ts (AfterVariable ∷ ns) ≡ stuck rest ns
  pub shorter : length rest < length ts

-- the declaration of which ts stands behind the type was added to others
pub record DeclarationAdded (t : Ty) (old new : Declarations) (ts rest : List Symbol) : Type 0 where
  pub variable : Declared
  pub steps : List Stmt
  pub found : Declaration (symbol_of_type t ∷ ts) rest variable steps
  pub scalars : new.scalars ≡ old.scalars ++ scalars_of (variable ∷ [])
  pub arrays : new.arrays ≡ old.arrays ++ arrays_of (variable ∷ [])
  pub body : new.body ≡ old.body ++ steps
  pub goes : (ns : Needs) → stuck ts (declaring ns) ≡ stuck rest ns
  pub shorter : length rest < length ts

abbrev pub in_body : Needs → Needs
in_body ns = InBody ∷ ns

-- declarations, behind which statements follow
pub record DeclarationsRead (ts rest : List Symbol) (made : Declarations) : Type 0 where
  pub variables : List Declared
  pub found : (last : List Symbol) (b : List Stmt) → Statements rest last b → Body ts last variables (made.body ++ b)
  pub scalars : made.scalars ≡ scalars_of variables
  pub arrays : made.arrays ≡ arrays_of variables
  pub goes : (ns : Needs) → stuck ts (InBody ∷ ns) ≡ stuck rest (InBlock ∷ ns)

-- declarations and statements, and the brace behind them
pub record ContentsRead (ts rest : List Symbol) (made : Declarations) : Type 0 where
  pub variables : List Declared
  pub found : Body ts (token.CloseBrace ∷ rest) variables made.body
  pub scalars : made.scalars ≡ scalars_of variables
  pub arrays : made.arrays ≡ arrays_of variables
  pub goes : (ns : Needs) → stuck ts (InBody ∷ ns) ≡ stuck rest ns

-- a whole text
abbrev pub whole_text : Needs → Needs
whole_text ns = start
