-- What may still come after the tokens so far, as a list of what has to be met.
use Rattle.std.specs.Prelude.{ℕ, suc, ◌&&◌, Bool, true, false, List, [], ◌∷◌, length, Option, Some, None, nat_le, if◌then◌else◌}
use Rattle.pld_grammar.specs.Symbols.{Symbol}
use Rattle.pld_grammar.specs.Fault.{open_after}
use Rattle.pld_grammar.specs.Symbols as token

-- a token that has to come
pub data Mark : Type 0 where
  AName : Mark
  AnAssign : Mark
  AnOpen : Mark
  AClose : Mark
  ACloseBracket : Mark
  AnOpenBrace : Mark
  AComma : Mark
  ASemicolon : Mark
  AVoid : Mark
  ALength : Mark

abbrev pub is_mark : Mark → Symbol → Bool
is_mark AName (token.Ident n) = true
is_mark AnAssign token.Assign = true
is_mark AnOpen token.Open = true
is_mark AClose token.Close = true
is_mark ACloseBracket token.CloseBracket = true
is_mark AnOpenBrace token.OpenBrace = true
is_mark AComma token.Comma = true
is_mark ASemicolon token.Semicolon = true
is_mark AVoid token.Void = true
is_mark ALength (token.Number (suc n) u) = true
is_mark _ _ = false

pub data Need : Type 0 where
  -- this token
  Exactly : Mark → Need
  -- an expression, of which nothing has come; and what may follow one, or a name, or an open bracket in it
  Operand : Need
  After : Need
  AfterName : Need
  AfterOpen : Need
  -- statements and the brace that closes them; the same behind an `if` without `else`; what follows `else`
  InBlock : Need
  AfterIf : Need
  AfterElse : Need
  -- what follows a name that begins a statement, and what follows its `=`
  AfterTarget : Need
  AfterElement : Need
  AfterSimple : Need
  AfterSimpleElement : Need
  AfterAssign : Need
  -- declarations and then as InBlock; what follows a declared name
  InBody : Need
  AfterVariable : Need
  -- what follows the bracket before the ports, a comma between them, a port
  FirstPort : Need
  NextPort : Need
  AfterPort : Need

abbrev pub Needs : Type 0
Needs = List Need

abbrev pub if_rest : Needs → Needs
if_rest ns = Exactly AnOpen ∷ Operand ∷ Exactly AClose ∷ Exactly AnOpenBrace ∷ InBlock ∷ AfterIf ∷ ns

abbrev pub for_rest : Needs → Needs
for_rest ns = Exactly AnOpen ∷ Exactly AName ∷ AfterSimple ∷ Exactly ASemicolon ∷ Operand ∷ Exactly ASemicolon ∷ Exactly AName ∷ AfterSimple ∷ Exactly AClose ∷ Exactly AnOpenBrace ∷ InBlock ∷ InBlock ∷ ns

abbrev pub operand_needs : Symbol → Needs → Option Needs
operand_needs token.Minus ns = Some (Operand ∷ ns)
operand_needs token.Plus ns = Some (Operand ∷ ns)
operand_needs token.Tilde ns = Some (Operand ∷ ns)
operand_needs token.Bang ns = Some (Operand ∷ ns)
operand_needs token.Open ns = Some (AfterOpen ∷ ns)
operand_needs (token.Number n u) ns = Some (After ∷ ns)
operand_needs (token.Ident x) ns = Some (AfterName ∷ ns)
operand_needs _ ns = None

abbrev pub open_needs : Symbol → Needs → Option Needs
open_needs token.Int ns = Some (Exactly AClose ∷ Operand ∷ ns)
open_needs token.Uint ns = Some (Exactly AClose ∷ Operand ∷ ns)
open_needs t ns = operand_needs t (Exactly AClose ∷ After ∷ ns)

-- an operator, or what else comes here
abbrev pub after_needs : Symbol → Needs → Option Needs → Option Needs
after_needs token.OrOr ns other = Some (Operand ∷ ns)
after_needs token.AndAnd ns other = Some (Operand ∷ ns)
after_needs token.Bar ns other = Some (Operand ∷ ns)
after_needs token.Hat ns other = Some (Operand ∷ ns)
after_needs token.Ampersand ns other = Some (Operand ∷ ns)
after_needs token.EqualEqual ns other = Some (Operand ∷ ns)
after_needs token.NotEqual ns other = Some (Operand ∷ ns)
after_needs token.Less ns other = Some (Operand ∷ ns)
after_needs token.LessEqual ns other = Some (Operand ∷ ns)
after_needs token.Greater ns other = Some (Operand ∷ ns)
after_needs token.GreaterEqual ns other = Some (Operand ∷ ns)
after_needs token.ShiftLeft ns other = Some (Operand ∷ ns)
after_needs token.ShiftRight ns other = Some (Operand ∷ ns)
after_needs token.Plus ns other = Some (Operand ∷ ns)
after_needs token.Minus ns other = Some (Operand ∷ ns)
after_needs token.Star ns other = Some (Operand ∷ ns)
after_needs token.Slash ns other = Some (Operand ∷ ns)
after_needs token.Percent ns other = Some (Operand ∷ ns)
after_needs _ ns other = other

abbrev pub name_needs : Symbol → Needs → Option Needs → Option Needs
name_needs token.OpenBracket ns other = Some (Operand ∷ Exactly ACloseBracket ∷ After ∷ ns)
name_needs t ns other = after_needs t ns other

abbrev pub block_needs : Symbol → Needs → Option Needs
block_needs token.CloseBrace ns = Some ns
block_needs (token.Ident x) ns = Some (AfterTarget ∷ InBlock ∷ ns)
block_needs token.Write ns = Some (Exactly AnOpen ∷ Exactly AName ∷ Exactly AComma ∷ Operand ∷ Exactly AClose ∷ Exactly ASemicolon ∷ InBlock ∷ ns)
block_needs token.If ns = Some (if_rest ns)
block_needs token.While ns = Some (Exactly AnOpen ∷ Operand ∷ Exactly AClose ∷ Exactly AnOpenBrace ∷ InBlock ∷ InBlock ∷ ns)
block_needs token.For ns = Some (for_rest ns)
block_needs token.Return ns = Some (Exactly ASemicolon ∷ InBlock ∷ ns)
block_needs _ ns = None

abbrev pub if_needs : Symbol → Needs → Option Needs
if_needs token.Else ns = Some (AfterElse ∷ ns)
if_needs t ns = block_needs t ns

abbrev pub else_needs : Symbol → Needs → Option Needs
else_needs token.OpenBrace ns = Some (InBlock ∷ InBlock ∷ ns)
else_needs token.If ns = Some (if_rest ns)
else_needs _ ns = None

-- what changes a target in a `for`, and in a statement of its own
abbrev pub change_needs : Symbol → Needs → Option Needs
change_needs token.Assign ns = Some (Operand ∷ ns)
change_needs token.PlusPlus ns = Some ns
change_needs token.MinusMinus ns = Some ns
change_needs token.PlusAssign ns = Some (Operand ∷ ns)
change_needs token.MinusAssign ns = Some (Operand ∷ ns)
change_needs token.StarAssign ns = Some (Operand ∷ ns)
change_needs token.SlashAssign ns = Some (Operand ∷ ns)
change_needs token.PercentAssign ns = Some (Operand ∷ ns)
change_needs token.AndAssign ns = Some (Operand ∷ ns)
change_needs token.OrAssign ns = Some (Operand ∷ ns)
change_needs token.XorAssign ns = Some (Operand ∷ ns)
change_needs token.ShlAssign ns = Some (Operand ∷ ns)
change_needs token.ShrAssign ns = Some (Operand ∷ ns)
change_needs _ ns = None

abbrev pub element_needs : Symbol → Needs → Option Needs
element_needs token.Assign ns = Some (AfterAssign ∷ ns)
element_needs t ns = change_needs t (Exactly ASemicolon ∷ ns)

abbrev pub target_needs : Symbol → Needs → Option Needs
target_needs token.OpenBracket ns = Some (Operand ∷ Exactly ACloseBracket ∷ AfterElement ∷ ns)
target_needs t ns = element_needs t ns

abbrev pub simple_needs : Symbol → Needs → Option Needs
simple_needs token.OpenBracket ns = Some (Operand ∷ Exactly ACloseBracket ∷ AfterSimpleElement ∷ ns)
simple_needs t ns = change_needs t ns

abbrev pub assign_needs : Symbol → Needs → Option Needs
assign_needs token.Read ns = Some (Exactly AnOpen ∷ Exactly AName ∷ Exactly AClose ∷ Exactly ASemicolon ∷ ns)
assign_needs t ns = operand_needs t (Exactly ASemicolon ∷ ns)

abbrev pub body_needs : Symbol → Needs → Option Needs
body_needs token.Int ns = Some (Exactly AName ∷ AfterVariable ∷ InBody ∷ ns)
body_needs token.Uint ns = Some (Exactly AName ∷ AfterVariable ∷ InBody ∷ ns)
body_needs t ns = block_needs t ns

abbrev pub variable_needs : Symbol → Needs → Option Needs
variable_needs token.Semicolon ns = Some ns
variable_needs token.Assign ns = Some (Operand ∷ Exactly ASemicolon ∷ ns)
variable_needs token.OpenBracket ns = Some (Exactly ALength ∷ Exactly ACloseBracket ∷ Exactly ASemicolon ∷ ns)
variable_needs _ ns = None

abbrev pub next_port : Symbol → Needs → Option Needs
next_port token.In ns = Some (Exactly AName ∷ AfterPort ∷ ns)
next_port token.Out ns = Some (Exactly AName ∷ AfterPort ∷ ns)
next_port _ ns = None

abbrev pub first_port : Symbol → Needs → Option Needs
first_port token.Close ns = Some ns
first_port t ns = next_port t ns

abbrev pub after_port : Symbol → Needs → Option Needs
after_port token.Close ns = Some ns
after_port token.Comma ns = Some (NextPort ∷ ns)
after_port _ ns = None

-- what has to be met after one token more, where that token may come
abbrev pub after_token : Needs → Symbol → Option Needs
after_token [] t = None
after_token (Exactly m ∷ ns) t = if is_mark m t then Some ns else None
after_token (Operand ∷ ns) t = operand_needs t ns
after_token (After ∷ ns) t = after_needs t ns (after_token ns t)
after_token (AfterName ∷ ns) t = name_needs t ns (after_token ns t)
after_token (AfterOpen ∷ ns) t = open_needs t ns
after_token (InBlock ∷ ns) t = block_needs t ns
after_token (AfterIf ∷ ns) t = if_needs t ns
after_token (AfterElse ∷ ns) t = else_needs t ns
after_token (AfterTarget ∷ ns) t = target_needs t ns
after_token (AfterElement ∷ ns) t = element_needs t ns
after_token (AfterSimple ∷ ns) t = simple_needs t ns
after_token (AfterSimpleElement ∷ ns) t = change_needs t ns
after_token (AfterAssign ∷ ns) t = assign_needs t ns
after_token (InBody ∷ ns) t = body_needs t ns
after_token (AfterVariable ∷ ns) t = variable_needs t ns
after_token (FirstPort ∷ ns) t = first_port t ns
after_token (NextPort ∷ ns) t = next_port t ns
after_token (AfterPort ∷ ns) t = after_port t ns

-- an opening bracket, or a keyword behind which one has to be opened
abbrev pub crowds : Symbol → Bool
crowds token.Open = true
crowds token.OpenBracket = true
crowds token.OpenBrace = true
crowds token.If = true
crowds token.Else = true
crowds token.While = true
crowds token.For = true
crowds token.Read = true
crowds token.Write = true
crowds _ = false

-- whether a token takes a bracket too many, where d are open
abbrev pub is_crowded : ℕ → ℕ → Symbol → Bool
is_crowded limit d t = crowds t && nat_le limit d

pub data Verdict : Type 0 where
  Fine : Verdict
  -- the fault stands at the token with this many tokens from it on; with 0 it stands after the text
  Wrong : ℕ → Verdict
  TooDeep : ℕ → Verdict

abbrev pub met : Needs → Verdict
met [] = Fine
met (n ∷ ns) = Wrong 0

-- goes on, unless a token can't come or takes a bracket too many, where it and n tokens follow
abbrev pub at_token : Option Needs → Bool → ℕ → (Needs → Verdict) → Verdict
at_token None crowded n go = Wrong (suc n)
at_token (Some ns) true n go = TooDeep (suc n)
at_token (Some ns) false n go = go ns

-- the first token that may not come, of those that follow where d brackets are open and this has to be met
abbrev pub verdict : ℕ → List Symbol → ℕ → Needs → Verdict
verdict limit [] d ns = met ns
verdict limit (t ∷ ts) d ns = at_token (after_token ns t) (is_crowded limit d t) (length ts) (verdict limit ts (open_after d t))

abbrev pub start : Needs
start = Exactly AVoid ∷ Exactly AName ∷ Exactly AnOpen ∷ FirstPort ∷ Exactly AnOpenBrace ∷ InBody ∷ []
