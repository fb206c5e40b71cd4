-- The machine's verdict is the fault.
use Rattle.std.proofs.Common.{ℕ, zero, suc, pred, ◌<◌, ◌≤◌, ◌≡◌, refl, sym, ap, subst, List, [], ◌∷◌, ◌++◌, length, Option, Some, None, ◌&&◌, Bool, true, false, cond, nat_le, arith, append_assoc}
use Rattle.pld_grammar.specs.Symbols.{Symbol}
use Rattle.pld_grammar.specs.Symbols as token
use Rattle.pld_ast.specs.declared.tree.Ty.TheVariants.{Int}
use Rattle.pld_grammar.specs.Verdicts.{Says}
use Rattle.pld_grammar.specs.Fault.{open_after, IsNarrow, HasNarrowContinuation, syntax, nesting, behind}
use Rattle.pld_grammar.specs.Machine.{Mark, Needs, Exactly, Operand, After, AfterName, AfterOpen, InBlock, AfterIf, AfterElse, AfterTarget, AfterElement, AfterSimple, AfterSimpleElement, AfterAssign, ALength, for_rest, change_needs, element_needs, simple_needs, InBody, AfterVariable, FirstPort, NextPort, AfterPort, AName, AnAssign, AnOpen, AClose, ACloseBracket, AnOpenBrace, AComma, ASemicolon, AVoid, is_mark, after_token, start, if_rest, name_needs, after_needs, open_needs, operand_needs, crowds, is_crowded, block_needs, if_needs, else_needs, target_needs, assign_needs, body_needs, variable_needs, next_port, first_port, after_port, Verdict, Fine, Wrong, TooDeep, at_token, verdict}
use Rattle.pld_grammar.proofs.Accept.{Accepts, IfNeeds, syntax-accepts}
use Rattle.std.proofs.lemmas.Bool.{leb-true, leb-false}
use Rattle.pld_grammar.proofs.Derive.{accepts-syntax}

abbrev a_name : Symbol
a_name = token.Ident (record { name = 120 ∷ []; at = record { line = 1; column = 1 } })

abbrev mark_token : Mark → Symbol
mark_token AName = a_name
mark_token AnAssign = token.Assign
mark_token AnOpen = token.Open
mark_token AClose = token.Close
mark_token ACloseBracket = token.CloseBracket
mark_token AnOpenBrace = token.OpenBrace
mark_token AComma = token.Comma
mark_token ASemicolon = token.Semicolon
mark_token AVoid = token.Void
mark_token ALength = token.Number 1 Int

-- the shortest tokens that meet this
abbrev completion : Needs → List Symbol
completion [] = []
completion (Exactly m ∷ ns) = mark_token m ∷ completion ns
completion (Operand ∷ ns) = token.Number 0 Int ∷ completion ns
completion (After ∷ ns) = completion ns
completion (AfterName ∷ ns) = completion ns
completion (AfterOpen ∷ ns) = token.Number 0 Int ∷ token.Close ∷ completion ns
completion (InBlock ∷ ns) = token.CloseBrace ∷ completion ns
completion (AfterIf ∷ ns) = token.CloseBrace ∷ completion ns
completion (AfterElse ∷ ns) = token.OpenBrace ∷ token.CloseBrace ∷ token.CloseBrace ∷ completion ns
completion (AfterTarget ∷ ns) = token.Assign ∷ token.Number 0 Int ∷ token.Semicolon ∷ completion ns
completion (AfterElement ∷ ns) = token.Assign ∷ token.Number 0 Int ∷ token.Semicolon ∷ completion ns
completion (AfterSimple ∷ ns) = token.PlusPlus ∷ completion ns
completion (AfterSimpleElement ∷ ns) = token.PlusPlus ∷ completion ns
completion (AfterAssign ∷ ns) = token.Number 0 Int ∷ token.Semicolon ∷ completion ns
completion (InBody ∷ ns) = token.CloseBrace ∷ completion ns
completion (AfterVariable ∷ ns) = token.Semicolon ∷ completion ns
completion (FirstPort ∷ ns) = token.Close ∷ completion ns
completion (NextPort ∷ ns) = token.In ∷ a_name ∷ token.Close ∷ completion ns
completion (AfterPort ∷ ns) = token.Close ∷ completion ns

-- a token has to come next
abbrev IsExact : Needs → Type 0
IsExact (Exactly m ∷ ns) = Unit {0}
IsExact _ = ⊥

-- what may follow an expression is no part of one
abbrev IsFit : Needs → Type 0
IsFit [] = Unit {0}
IsFit (Operand ∷ ns) = IsExact ns × IsFit ns
IsFit (After ∷ ns) = IsExact ns × IsFit ns
IsFit (AfterName ∷ ns) = IsExact ns × IsFit ns
IsFit (AfterOpen ∷ ns) = IsExact ns × IsFit ns
IsFit (AfterSimple ∷ ns) = IsExact ns × IsFit ns
IsFit (AfterSimpleElement ∷ ns) = IsExact ns × IsFit ns
IsFit (_ ∷ ns) = IsFit ns

marked : (m : Mark) (ts : List Symbol) (ns : Needs) → Accepts ts ns → Accepts (mark_token m ∷ ts) (Exactly m ∷ ns)
marked AName ts ns a = a
marked AnAssign ts ns a = a
marked AnOpen ts ns a = a
marked AClose ts ns a = a
marked ACloseBracket ts ns a = a
marked AnOpenBrace ts ns a = a
marked AComma ts ns a = a
marked ASemicolon ts ns a = a
marked AVoid ts ns a = a
marked ALength ts ns a = a

-- behind an expression what has to come may come
skipped : (ns : Needs) → IsExact ns → (ts : List Symbol) → Accepts ts ns → Accepts ts (After ∷ ns) × Accepts ts (AfterName ∷ ns)
skipped [] e ts a = absurd e
skipped (Exactly m ∷ ns) e [] a = absurd (cc a)
skipped (Exactly AName ∷ ns) e (token.Ident x ∷ ts) a = (a, a)
skipped (Exactly AnAssign ∷ ns) e (token.Assign ∷ ts) a = (a, a)
skipped (Exactly AnOpen ∷ ns) e (token.Open ∷ ts) a = (a, a)
skipped (Exactly AClose ∷ ns) e (token.Close ∷ ts) a = (a, a)
skipped (Exactly ACloseBracket ∷ ns) e (token.CloseBracket ∷ ts) a = (a, a)
skipped (Exactly AnOpenBrace ∷ ns) e (token.OpenBrace ∷ ts) a = (a, a)
skipped (Exactly AComma ∷ ns) e (token.Comma ∷ ts) a = (a, a)
skipped (Exactly ASemicolon ∷ ns) e (token.Semicolon ∷ ts) a = (a, a)
skipped (Exactly AVoid ∷ ns) e (token.Void ∷ ts) a = (a, a)
skipped (Exactly ALength ∷ ns) e (token.Number (suc n) u ∷ ts) a = (a, a)
skipped (Exactly m ∷ ns) e (t ∷ ts) a = absurd a
skipped (_ ∷ ns) e ts a = absurd e

completed : (ns : Needs) → IsFit ns → Accepts (completion ns) ns
completed [] f = refl
completed (Exactly m ∷ ns) f = marked m (completion ns) ns (completed ns f)
completed (Operand ∷ ns) f = (skipped ns f.0 (completion ns) (completed ns f.1)).0
completed (After ∷ ns) f = (skipped ns f.0 (completion ns) (completed ns f.1)).0
completed (AfterName ∷ ns) f = (skipped ns f.0 (completion ns) (completed ns f.1)).1
completed (AfterOpen ∷ ns) f = (skipped ns f.0 (completion ns) (completed ns f.1)).0
completed (InBlock ∷ ns) f = completed ns f
completed (AfterIf ∷ ns) f = completed ns f
completed (AfterElse ∷ ns) f = completed ns f
completed (AfterTarget ∷ ns) f = completed ns f
completed (AfterElement ∷ ns) f = completed ns f
completed (AfterSimple ∷ ns) f = completed ns f.1
completed (AfterSimpleElement ∷ ns) f = completed ns f.1
completed (AfterAssign ∷ ns) f = completed ns f
completed (InBody ∷ ns) f = completed ns f
completed (AfterVariable ∷ ns) f = completed ns f
completed (FirstPort ∷ ns) f = completed ns f
completed (NextPort ∷ ns) f = completed ns f
completed (AfterPort ∷ ns) f = completed ns f

abbrev IfThere : Option Needs → (Needs → Type 0) → Type 0
IfThere None P = Unit {0}
IfThere (Some ns) P = P ns

-- what has to be met can be met within the limit
record IsGood (limit d : ℕ) (ns : Needs) : Type 0 where
  fit : IsFit ns
  narrow : IsNarrow limit d (completion ns)

-- t takes no bracket too many, where d are open
abbrev Roomy : ℕ → ℕ → Symbol → Type 0
Roomy limit d token.Open = suc d ≤ limit
Roomy limit d token.OpenBracket = suc d ≤ limit
Roomy limit d token.OpenBrace = suc d ≤ limit
Roomy limit d token.If = suc d ≤ limit
Roomy limit d token.Else = suc d ≤ limit
Roomy limit d token.While = suc d ≤ limit
Roomy limit d token.For = suc d ≤ limit
Roomy limit d token.Read = suc d ≤ limit
Roomy limit d token.Write = suc d ≤ limit
Roomy limit d _ = Unit {0}

abbrev GoesOn : ℕ → ℕ → Symbol → Needs → Type 0
GoesOn limit d t ns = Roomy limit d t → IsGood limit (open_after d t) ns

down : (limit d : ℕ) → d ≤ limit → pred d ≤ limit
down limit zero l = l
down limit (suc d) l = omega arith

step_operand : (limit d : ℕ) (ns : Needs) (t : Symbol) → IsExact ns → IsFit ns → IsNarrow limit d (completion ns) → d ≤ limit → IfThere (operand_needs t ns) (GoesOn limit d t)
step_operand limit d ns token.Minus e f n l = λ b. record { fit = (e, f); narrow = (l, n) }
step_operand limit d ns token.Plus e f n l = λ b. record { fit = (e, f); narrow = (l, n) }
step_operand limit d ns token.Tilde e f n l = λ b. record { fit = (e, f); narrow = (l, n) }
step_operand limit d ns token.Bang e f n l = λ b. record { fit = (e, f); narrow = (l, n) }
step_operand limit d ns token.Open e f n l = λ b. record { fit = (e, f); narrow = (omega arith, (l, n)) }
step_operand limit d ns (token.Number k u) e f n l = λ b. record { fit = (e, f); narrow = n }
step_operand limit d ns (token.Ident k) e f n l = λ b. record { fit = (e, f); narrow = n }
step_operand limit d ns _ e f n l = tt

step_open : (limit d : ℕ) (ns : Needs) (t : Symbol) → IsExact ns → IsFit ns → IsNarrow limit (pred d) (completion ns) → d ≤ limit → IfThere (open_needs t ns) (GoesOn limit d t)
step_open limit d ns token.Int e f n l = λ b. record { fit = (e, f); narrow = (down limit d l, (down limit d l, n)) }
step_open limit d ns token.Uint e f n l = λ b. record { fit = (e, f); narrow = (down limit d l, (down limit d l, n)) }
step_open limit d ns token.Minus e f n l = step_operand limit d (Exactly AClose ∷ After ∷ ns) token.Minus tt (e, f) (down limit d l, n) l
step_open limit d ns token.Plus e f n l = step_operand limit d (Exactly AClose ∷ After ∷ ns) token.Plus tt (e, f) (down limit d l, n) l
step_open limit d ns token.Tilde e f n l = step_operand limit d (Exactly AClose ∷ After ∷ ns) token.Tilde tt (e, f) (down limit d l, n) l
step_open limit d ns token.Bang e f n l = step_operand limit d (Exactly AClose ∷ After ∷ ns) token.Bang tt (e, f) (down limit d l, n) l
step_open limit d ns token.Open e f n l = step_operand limit d (Exactly AClose ∷ After ∷ ns) token.Open tt (e, f) (down limit d l, n) l
step_open limit d ns (token.Number k u) e f n l = step_operand limit d (Exactly AClose ∷ After ∷ ns) (token.Number k u) tt (e, f) (down limit d l, n) l
step_open limit d ns (token.Ident k) e f n l = step_operand limit d (Exactly AClose ∷ After ∷ ns) (token.Ident k) tt (e, f) (down limit d l, n) l
step_open limit d ns _ e f n l = tt

step_after : (limit d : ℕ) (ns : Needs) (t : Symbol) (other : Option Needs) → IsExact ns → IsFit ns → IsNarrow limit d (completion ns) → d ≤ limit
    → IfThere other (GoesOn limit d t) → IfThere (after_needs t ns other) (GoesOn limit d t)
step_after limit d ns token.OrOr other e f n l o = λ b. record { fit = (e, f); narrow = (l, n) }
step_after limit d ns token.AndAnd other e f n l o = λ b. record { fit = (e, f); narrow = (l, n) }
step_after limit d ns token.Bar other e f n l o = λ b. record { fit = (e, f); narrow = (l, n) }
step_after limit d ns token.Hat other e f n l o = λ b. record { fit = (e, f); narrow = (l, n) }
step_after limit d ns token.Ampersand other e f n l o = λ b. record { fit = (e, f); narrow = (l, n) }
step_after limit d ns token.EqualEqual other e f n l o = λ b. record { fit = (e, f); narrow = (l, n) }
step_after limit d ns token.NotEqual other e f n l o = λ b. record { fit = (e, f); narrow = (l, n) }
step_after limit d ns token.Less other e f n l o = λ b. record { fit = (e, f); narrow = (l, n) }
step_after limit d ns token.LessEqual other e f n l o = λ b. record { fit = (e, f); narrow = (l, n) }
step_after limit d ns token.Greater other e f n l o = λ b. record { fit = (e, f); narrow = (l, n) }
step_after limit d ns token.GreaterEqual other e f n l o = λ b. record { fit = (e, f); narrow = (l, n) }
step_after limit d ns token.ShiftLeft other e f n l o = λ b. record { fit = (e, f); narrow = (l, n) }
step_after limit d ns token.ShiftRight other e f n l o = λ b. record { fit = (e, f); narrow = (l, n) }
step_after limit d ns token.Plus other e f n l o = λ b. record { fit = (e, f); narrow = (l, n) }
step_after limit d ns token.Minus other e f n l o = λ b. record { fit = (e, f); narrow = (l, n) }
step_after limit d ns token.Star other e f n l o = λ b. record { fit = (e, f); narrow = (l, n) }
step_after limit d ns token.Slash other e f n l o = λ b. record { fit = (e, f); narrow = (l, n) }
step_after limit d ns token.Percent other e f n l o = λ b. record { fit = (e, f); narrow = (l, n) }
step_after limit d ns _ other e f n l o = o

step_name : (limit d : ℕ) (ns : Needs) (t : Symbol) (other : Option Needs) → IsExact ns → IsFit ns → IsNarrow limit d (completion ns) → d ≤ limit
    → IfThere other (GoesOn limit d t) → IfThere (name_needs t ns other) (GoesOn limit d t)
step_name limit d ns token.OpenBracket other e f n l o = λ b. record { fit = (tt, (e, f)); narrow = (omega arith, (l, n)) }
step_name limit d ns token.OrOr other e f n l o = λ b. record { fit = (e, f); narrow = (l, n) }
step_name limit d ns token.AndAnd other e f n l o = λ b. record { fit = (e, f); narrow = (l, n) }
step_name limit d ns token.Bar other e f n l o = λ b. record { fit = (e, f); narrow = (l, n) }
step_name limit d ns token.Hat other e f n l o = λ b. record { fit = (e, f); narrow = (l, n) }
step_name limit d ns token.Ampersand other e f n l o = λ b. record { fit = (e, f); narrow = (l, n) }
step_name limit d ns token.EqualEqual other e f n l o = λ b. record { fit = (e, f); narrow = (l, n) }
step_name limit d ns token.NotEqual other e f n l o = λ b. record { fit = (e, f); narrow = (l, n) }
step_name limit d ns token.Less other e f n l o = λ b. record { fit = (e, f); narrow = (l, n) }
step_name limit d ns token.LessEqual other e f n l o = λ b. record { fit = (e, f); narrow = (l, n) }
step_name limit d ns token.Greater other e f n l o = λ b. record { fit = (e, f); narrow = (l, n) }
step_name limit d ns token.GreaterEqual other e f n l o = λ b. record { fit = (e, f); narrow = (l, n) }
step_name limit d ns token.ShiftLeft other e f n l o = λ b. record { fit = (e, f); narrow = (l, n) }
step_name limit d ns token.ShiftRight other e f n l o = λ b. record { fit = (e, f); narrow = (l, n) }
step_name limit d ns token.Plus other e f n l o = λ b. record { fit = (e, f); narrow = (l, n) }
step_name limit d ns token.Minus other e f n l o = λ b. record { fit = (e, f); narrow = (l, n) }
step_name limit d ns token.Star other e f n l o = λ b. record { fit = (e, f); narrow = (l, n) }
step_name limit d ns token.Slash other e f n l o = λ b. record { fit = (e, f); narrow = (l, n) }
step_name limit d ns token.Percent other e f n l o = λ b. record { fit = (e, f); narrow = (l, n) }
step_name limit d ns _ other e f n l o = o

good_if : (limit d : ℕ) (ns : Needs) → IsFit ns → IsNarrow limit (pred d) (completion ns) → d ≤ limit → suc d ≤ limit → IsGood limit d (if_rest ns)
good_if limit d ns f n l b = record { fit = (tt, f); narrow = (omega arith, (omega arith, (l, (omega arith, (l, (down limit d l, n)))))) }

good_for : (limit d : ℕ) (ns : Needs) → IsFit ns → IsNarrow limit (pred d) (completion ns) → d ≤ limit → suc d ≤ limit → IsGood limit d (for_rest ns)
good_for limit d ns f n l b = record { fit = (tt, (tt, (tt, f))); narrow = (omega arith, (omega arith, (omega arith, (omega arith, (omega arith, (omega arith, (omega arith, (omega arith, (l, (omega arith, (l, (down limit d l, n)))))))))))) }

step_block : (limit d : ℕ) (ns : Needs) (t : Symbol) → IsFit ns → IsNarrow limit (pred d) (completion ns) → d ≤ limit → IfThere (block_needs t ns) (GoesOn limit d t)
step_block limit d ns token.CloseBrace f n l = λ b. record { fit = f; narrow = n }
step_block limit d ns (token.Ident x) f n l = λ b. record { fit = f; narrow = (l, (l, (l, (down limit d l, n)))) }
step_block limit d ns token.Write f n l = λ b. record { fit = (tt, f); narrow = (omega arith, (omega arith, (omega arith, (omega arith, (l, (l, (down limit d l, n))))))) }
step_block limit d ns token.If f n l = λ b. good_if limit d ns f n l b
step_block limit d ns token.While f n l = λ b. record { fit = (tt, f); narrow = (omega arith, (omega arith, (l, (omega arith, (l, (down limit d l, n)))))) }
step_block limit d ns token.For f n l = λ b. good_for limit d ns f n l b
step_block limit d ns token.Return f n l = λ b. record { fit = f; narrow = (l, (down limit d l, n)) }
step_block limit d ns _ f n l = tt

step_else : (limit d : ℕ) (ns : Needs) (t : Symbol) → IsFit ns → IsNarrow limit (pred d) (completion ns) → d ≤ limit → IfThere (else_needs t ns) (GoesOn limit d t)
step_else limit d ns token.OpenBrace f n l = λ b. record { fit = f; narrow = (l, (down limit d l, n)) }
step_else limit d ns token.If f n l = λ b. good_if limit d ns f n l b
step_else limit d ns _ f n l = tt

mark_depth : (m : Mark) (t : Symbol) (d : ℕ) → is_mark m t ≡ true → open_after d (mark_token m) ≡ open_after d t
mark_depth AName (token.Ident x) d h = refl
mark_depth AnAssign token.Assign d h = refl
mark_depth AnOpen token.Open d h = refl
mark_depth AClose token.Close d h = refl
mark_depth ACloseBracket token.CloseBracket d h = refl
mark_depth AnOpenBrace token.OpenBrace d h = refl
mark_depth AComma token.Comma d h = refl
mark_depth ASemicolon token.Semicolon d h = refl
mark_depth AVoid token.Void d h = refl
mark_depth ALength (token.Number (suc n) u) d h = refl
mark_depth _ _ d h = absurd (cc h)

step_exact : (limit d : ℕ) (m : Mark) (ns : Needs) (t : Symbol) (b : Bool) → is_mark m t ≡ b → IsFit ns → IsNarrow limit (open_after d (mark_token m)) (completion ns) → IfThere (cond b (Some ns) None) (GoesOn limit d t)
step_exact limit d m ns t true h f n = λ b. record { fit = f; narrow = subst (λ x. IsNarrow limit x (completion ns)) (mark_depth m t d h) n }
step_exact limit d m ns t false h f n = tt

step_if : (limit d : ℕ) (ns : Needs) (t : Symbol) → IsFit ns → IsNarrow limit (pred d) (completion ns) → d ≤ limit → IfThere (if_needs t ns) (GoesOn limit d t)
step_if limit d ns token.Else f n l = λ b. record { fit = f; narrow = (omega arith, (l, (down limit d l, n))) }
step_if limit d ns token.CloseBrace f n l = step_block limit d ns token.CloseBrace f n l
step_if limit d ns (token.Ident x) f n l = step_block limit d ns (token.Ident x) f n l
step_if limit d ns token.Write f n l = step_block limit d ns token.Write f n l
step_if limit d ns token.If f n l = step_block limit d ns token.If f n l
step_if limit d ns token.For f n l = step_block limit d ns token.For f n l
step_if limit d ns token.While f n l = step_block limit d ns token.While f n l
step_if limit d ns token.Return f n l = step_block limit d ns token.Return f n l
step_if limit d ns _ f n l = tt

step_body : (limit d : ℕ) (ns : Needs) (t : Symbol) → IsFit ns → IsNarrow limit (pred d) (completion ns) → d ≤ limit → IfThere (body_needs t ns) (GoesOn limit d t)
step_body limit d ns token.Int f n l = λ b. record { fit = f; narrow = (l, (l, (down limit d l, n))) }
step_body limit d ns token.Uint f n l = λ b. record { fit = f; narrow = (l, (l, (down limit d l, n))) }
step_body limit d ns token.CloseBrace f n l = step_block limit d ns token.CloseBrace f n l
step_body limit d ns (token.Ident x) f n l = step_block limit d ns (token.Ident x) f n l
step_body limit d ns token.Write f n l = step_block limit d ns token.Write f n l
step_body limit d ns token.If f n l = step_block limit d ns token.If f n l
step_body limit d ns token.For f n l = step_block limit d ns token.For f n l
step_body limit d ns token.While f n l = step_block limit d ns token.While f n l
step_body limit d ns token.Return f n l = step_block limit d ns token.Return f n l
step_body limit d ns _ f n l = tt

step_change : (limit d : ℕ) (ns : Needs) (t : Symbol) → IsExact ns → IsFit ns → IsNarrow limit d (completion ns) → d ≤ limit → IfThere (change_needs t ns) (GoesOn limit d t)
step_change limit d ns token.Assign e f n l = λ b. record { fit = (e, f); narrow = (l, n) }
step_change limit d ns token.PlusPlus e f n l = λ b. record { fit = f; narrow = n }
step_change limit d ns token.MinusMinus e f n l = λ b. record { fit = f; narrow = n }
step_change limit d ns token.PlusAssign e f n l = λ b. record { fit = (e, f); narrow = (l, n) }
step_change limit d ns token.MinusAssign e f n l = λ b. record { fit = (e, f); narrow = (l, n) }
step_change limit d ns token.StarAssign e f n l = λ b. record { fit = (e, f); narrow = (l, n) }
step_change limit d ns token.SlashAssign e f n l = λ b. record { fit = (e, f); narrow = (l, n) }
step_change limit d ns token.PercentAssign e f n l = λ b. record { fit = (e, f); narrow = (l, n) }
step_change limit d ns token.AndAssign e f n l = λ b. record { fit = (e, f); narrow = (l, n) }
step_change limit d ns token.OrAssign e f n l = λ b. record { fit = (e, f); narrow = (l, n) }
step_change limit d ns token.XorAssign e f n l = λ b. record { fit = (e, f); narrow = (l, n) }
step_change limit d ns token.ShlAssign e f n l = λ b. record { fit = (e, f); narrow = (l, n) }
step_change limit d ns token.ShrAssign e f n l = λ b. record { fit = (e, f); narrow = (l, n) }
step_change limit d ns _ e f n l = tt

step_element : (limit d : ℕ) (ns : Needs) (t : Symbol) → IsFit ns → IsNarrow limit d (completion ns) → d ≤ limit → IfThere (element_needs t ns) (GoesOn limit d t)
step_element limit d ns token.Assign f n l = λ b. record { fit = f; narrow = (l, (l, n)) }
step_element limit d ns token.PlusPlus f n l = step_change limit d (Exactly ASemicolon ∷ ns) token.PlusPlus tt f (l, n) l
step_element limit d ns token.MinusMinus f n l = step_change limit d (Exactly ASemicolon ∷ ns) token.MinusMinus tt f (l, n) l
step_element limit d ns token.PlusAssign f n l = step_change limit d (Exactly ASemicolon ∷ ns) token.PlusAssign tt f (l, n) l
step_element limit d ns token.MinusAssign f n l = step_change limit d (Exactly ASemicolon ∷ ns) token.MinusAssign tt f (l, n) l
step_element limit d ns token.StarAssign f n l = step_change limit d (Exactly ASemicolon ∷ ns) token.StarAssign tt f (l, n) l
step_element limit d ns token.SlashAssign f n l = step_change limit d (Exactly ASemicolon ∷ ns) token.SlashAssign tt f (l, n) l
step_element limit d ns token.PercentAssign f n l = step_change limit d (Exactly ASemicolon ∷ ns) token.PercentAssign tt f (l, n) l
step_element limit d ns token.AndAssign f n l = step_change limit d (Exactly ASemicolon ∷ ns) token.AndAssign tt f (l, n) l
step_element limit d ns token.OrAssign f n l = step_change limit d (Exactly ASemicolon ∷ ns) token.OrAssign tt f (l, n) l
step_element limit d ns token.XorAssign f n l = step_change limit d (Exactly ASemicolon ∷ ns) token.XorAssign tt f (l, n) l
step_element limit d ns token.ShlAssign f n l = step_change limit d (Exactly ASemicolon ∷ ns) token.ShlAssign tt f (l, n) l
step_element limit d ns token.ShrAssign f n l = step_change limit d (Exactly ASemicolon ∷ ns) token.ShrAssign tt f (l, n) l
step_element limit d ns _ f n l = tt

step_target : (limit d : ℕ) (ns : Needs) (t : Symbol) → IsFit ns → IsNarrow limit d (completion ns) → d ≤ limit → IfThere (target_needs t ns) (GoesOn limit d t)
step_target limit d ns token.OpenBracket f n l = λ b. record { fit = (tt, f); narrow = (omega arith, (l, (l, (l, (l, n))))) }
step_target limit d ns token.Assign f n l = step_element limit d ns token.Assign f n l
step_target limit d ns token.PlusPlus f n l = step_element limit d ns token.PlusPlus f n l
step_target limit d ns token.MinusMinus f n l = step_element limit d ns token.MinusMinus f n l
step_target limit d ns token.PlusAssign f n l = step_element limit d ns token.PlusAssign f n l
step_target limit d ns token.MinusAssign f n l = step_element limit d ns token.MinusAssign f n l
step_target limit d ns token.StarAssign f n l = step_element limit d ns token.StarAssign f n l
step_target limit d ns token.SlashAssign f n l = step_element limit d ns token.SlashAssign f n l
step_target limit d ns token.PercentAssign f n l = step_element limit d ns token.PercentAssign f n l
step_target limit d ns token.AndAssign f n l = step_element limit d ns token.AndAssign f n l
step_target limit d ns token.OrAssign f n l = step_element limit d ns token.OrAssign f n l
step_target limit d ns token.XorAssign f n l = step_element limit d ns token.XorAssign f n l
step_target limit d ns token.ShlAssign f n l = step_element limit d ns token.ShlAssign f n l
step_target limit d ns token.ShrAssign f n l = step_element limit d ns token.ShrAssign f n l
step_target limit d ns _ f n l = tt

step_simple : (limit d : ℕ) (ns : Needs) (t : Symbol) → IsExact ns → IsFit ns → IsNarrow limit d (completion ns) → d ≤ limit → IfThere (simple_needs t ns) (GoesOn limit d t)
step_simple limit d ns token.OpenBracket e f n l = λ b. record { fit = (tt, (e, f)); narrow = (omega arith, (l, (l, n))) }
step_simple limit d ns token.Assign e f n l = step_change limit d ns token.Assign e f n l
step_simple limit d ns token.PlusPlus e f n l = step_change limit d ns token.PlusPlus e f n l
step_simple limit d ns token.MinusMinus e f n l = step_change limit d ns token.MinusMinus e f n l
step_simple limit d ns token.PlusAssign e f n l = step_change limit d ns token.PlusAssign e f n l
step_simple limit d ns token.MinusAssign e f n l = step_change limit d ns token.MinusAssign e f n l
step_simple limit d ns token.StarAssign e f n l = step_change limit d ns token.StarAssign e f n l
step_simple limit d ns token.SlashAssign e f n l = step_change limit d ns token.SlashAssign e f n l
step_simple limit d ns token.PercentAssign e f n l = step_change limit d ns token.PercentAssign e f n l
step_simple limit d ns token.AndAssign e f n l = step_change limit d ns token.AndAssign e f n l
step_simple limit d ns token.OrAssign e f n l = step_change limit d ns token.OrAssign e f n l
step_simple limit d ns token.XorAssign e f n l = step_change limit d ns token.XorAssign e f n l
step_simple limit d ns token.ShlAssign e f n l = step_change limit d ns token.ShlAssign e f n l
step_simple limit d ns token.ShrAssign e f n l = step_change limit d ns token.ShrAssign e f n l
step_simple limit d ns _ e f n l = tt

step_assign : (limit d : ℕ) (ns : Needs) (t : Symbol) → IsFit ns → IsNarrow limit d (completion ns) → d ≤ limit → IfThere (assign_needs t ns) (GoesOn limit d t)
step_assign limit d ns token.Read f n l = λ b. record { fit = f; narrow = (omega arith, (omega arith, (l, (l, n)))) }
step_assign limit d ns token.Minus f n l = step_operand limit d (Exactly ASemicolon ∷ ns) token.Minus tt f (l, n) l
step_assign limit d ns token.Plus f n l = step_operand limit d (Exactly ASemicolon ∷ ns) token.Plus tt f (l, n) l
step_assign limit d ns token.Tilde f n l = step_operand limit d (Exactly ASemicolon ∷ ns) token.Tilde tt f (l, n) l
step_assign limit d ns token.Bang f n l = step_operand limit d (Exactly ASemicolon ∷ ns) token.Bang tt f (l, n) l
step_assign limit d ns token.Open f n l = step_operand limit d (Exactly ASemicolon ∷ ns) token.Open tt f (l, n) l
step_assign limit d ns (token.Number k u) f n l = step_operand limit d (Exactly ASemicolon ∷ ns) (token.Number k u) tt f (l, n) l
step_assign limit d ns (token.Ident k) f n l = step_operand limit d (Exactly ASemicolon ∷ ns) (token.Ident k) tt f (l, n) l
step_assign limit d ns _ f n l = tt

step_variable : (limit d : ℕ) (ns : Needs) (t : Symbol) → IsFit ns → IsNarrow limit d (completion ns) → d ≤ limit → IfThere (variable_needs t ns) (GoesOn limit d t)
step_variable limit d ns token.Semicolon f n l = λ b. record { fit = f; narrow = n }
step_variable limit d ns token.Assign f n l = λ b. record { fit = (tt, f); narrow = (l, (l, n)) }
step_variable limit d ns token.OpenBracket f n l = λ b. record { fit = f; narrow = (omega arith, (l, (l, n))) }
step_variable limit d ns _ f n l = tt

step_next : (limit d : ℕ) (ns : Needs) (t : Symbol) → IsFit ns → IsNarrow limit (pred d) (completion ns) → d ≤ limit → IfThere (next_port t ns) (GoesOn limit d t)
step_next limit d ns token.In f n l = λ b. record { fit = f; narrow = (l, (down limit d l, n)) }
step_next limit d ns token.Out f n l = λ b. record { fit = f; narrow = (l, (down limit d l, n)) }
step_next limit d ns _ f n l = tt

step_first : (limit d : ℕ) (ns : Needs) (t : Symbol) → IsFit ns → IsNarrow limit (pred d) (completion ns) → d ≤ limit → IfThere (first_port t ns) (GoesOn limit d t)
step_first limit d ns token.Close f n l = λ b. record { fit = f; narrow = n }
step_first limit d ns token.In f n l = λ b. record { fit = f; narrow = (l, (down limit d l, n)) }
step_first limit d ns token.Out f n l = λ b. record { fit = f; narrow = (l, (down limit d l, n)) }
step_first limit d ns _ f n l = tt

step_port : (limit d : ℕ) (ns : Needs) (t : Symbol) → IsFit ns → IsNarrow limit (pred d) (completion ns) → d ≤ limit → IfThere (after_port t ns) (GoesOn limit d t)
step_port limit d ns token.Close f n l = λ b. record { fit = f; narrow = n }
step_port limit d ns token.Comma f n l = λ b. record { fit = f; narrow = (l, (l, (down limit d l, n))) }
step_port limit d ns _ f n l = tt

-- one token more, after which the brackets that are open and the one that has to be opened are within the limit
step : (limit d : ℕ) (ns : Needs) (t : Symbol) → IsFit ns → IsNarrow limit d (completion ns) → d ≤ limit → IfThere (after_token ns t) (GoesOn limit d t)
step limit d [] t f n l = tt
step limit d (Exactly m ∷ ns) t f n l = step_exact limit d m ns t (is_mark m t) refl f n.1
step limit d (Operand ∷ ns) t f n l = step_operand limit d ns t f.0 f.1 n.1 l
step limit d (After ∷ ns) t f n l = step_after limit d ns t (after_token ns t) f.0 f.1 n l (step limit d ns t f.1 n l)
step limit d (AfterName ∷ ns) t f n l = step_name limit d ns t (after_token ns t) f.0 f.1 n l (step limit d ns t f.1 n l)
step limit d (AfterOpen ∷ ns) t f n l = step_open limit d ns t f.0 f.1 n.1.1 l
step limit d (InBlock ∷ ns) t f n l = step_block limit d ns t f n.1 l
step limit d (AfterIf ∷ ns) t f n l = step_if limit d ns t f n.1 l
step limit d (AfterElse ∷ ns) t f n l = step_else limit d ns t f n.1.1.1 l
step limit d (AfterTarget ∷ ns) t f n l = step_target limit d ns t f n.1.1.1 l
step limit d (AfterElement ∷ ns) t f n l = step_element limit d ns t f n.1.1.1 l
step limit d (AfterSimple ∷ ns) t f n l = step_simple limit d ns t f.0 f.1 n.1 l
step limit d (AfterSimpleElement ∷ ns) t f n l = step_change limit d ns t f.0 f.1 n.1 l
step limit d (AfterAssign ∷ ns) t f n l = step_assign limit d ns t f n.1.1 l
step limit d (InBody ∷ ns) t f n l = step_body limit d ns t f n.1 l
step limit d (AfterVariable ∷ ns) t f n l = step_variable limit d ns t f n.1 l
step limit d (FirstPort ∷ ns) t f n l = step_first limit d ns t f n.1 l
step limit d (NextPort ∷ ns) t f n l = step_next limit d ns t f n.1.1.1 l
step limit d (AfterPort ∷ ns) t f n l = step_port limit d ns t f n.1 l

-- what has to be met begins with an open bracket
abbrev IsOpening : Needs → Type 0
IsOpening (Exactly AnOpen ∷ ns) = Unit {0}
IsOpening (AfterElse ∷ ns) = Unit {0}
IsOpening _ = ⊥

abbrev IsKeyword : Symbol → Type 0
IsKeyword token.If = Unit {0}
IsKeyword token.Else = Unit {0}
IsKeyword token.While = Unit {0}
IsKeyword token.For = Unit {0}
IsKeyword token.Read = Unit {0}
IsKeyword token.Write = Unit {0}
IsKeyword _ = ⊥

keyword_operand : (t : Symbol) (ns : Needs) → IsKeyword t → IfThere (operand_needs t ns) IsOpening
keyword_operand token.If ns h = tt
keyword_operand token.Else ns h = tt
keyword_operand token.While ns h = tt
keyword_operand token.For ns h = tt
keyword_operand token.Read ns h = tt
keyword_operand token.Write ns h = tt
keyword_operand _ ns h = absurd h

keyword_open : (t : Symbol) (ns : Needs) → IsKeyword t → IfThere (open_needs t ns) IsOpening
keyword_open token.If ns h = tt
keyword_open token.Else ns h = tt
keyword_open token.While ns h = tt
keyword_open token.For ns h = tt
keyword_open token.Read ns h = tt
keyword_open token.Write ns h = tt
keyword_open _ ns h = absurd h

keyword_block : (t : Symbol) (ns : Needs) → IsKeyword t → IfThere (block_needs t ns) IsOpening
keyword_block token.If ns h = tt
keyword_block token.Else ns h = tt
keyword_block token.While ns h = tt
keyword_block token.For ns h = tt
keyword_block token.Read ns h = tt
keyword_block token.Write ns h = tt
keyword_block _ ns h = absurd h

keyword_if : (t : Symbol) (ns : Needs) → IsKeyword t → IfThere (if_needs t ns) IsOpening
keyword_if token.If ns h = tt
keyword_if token.Else ns h = tt
keyword_if token.While ns h = tt
keyword_if token.For ns h = tt
keyword_if token.Read ns h = tt
keyword_if token.Write ns h = tt
keyword_if _ ns h = absurd h

keyword_else : (t : Symbol) (ns : Needs) → IsKeyword t → IfThere (else_needs t ns) IsOpening
keyword_else token.If ns h = tt
keyword_else token.Else ns h = tt
keyword_else token.While ns h = tt
keyword_else token.For ns h = tt
keyword_else token.Read ns h = tt
keyword_else token.Write ns h = tt
keyword_else _ ns h = absurd h

keyword_change : (t : Symbol) (ns : Needs) → IsKeyword t → IfThere (change_needs t ns) IsOpening
keyword_change token.If ns h = tt
keyword_change token.Else ns h = tt
keyword_change token.While ns h = tt
keyword_change token.For ns h = tt
keyword_change token.Read ns h = tt
keyword_change token.Write ns h = tt
keyword_change _ ns h = absurd h

keyword_element : (t : Symbol) (ns : Needs) → IsKeyword t → IfThere (element_needs t ns) IsOpening
keyword_element token.If ns h = tt
keyword_element token.Else ns h = tt
keyword_element token.While ns h = tt
keyword_element token.For ns h = tt
keyword_element token.Read ns h = tt
keyword_element token.Write ns h = tt
keyword_element _ ns h = absurd h

keyword_target : (t : Symbol) (ns : Needs) → IsKeyword t → IfThere (target_needs t ns) IsOpening
keyword_target token.If ns h = tt
keyword_target token.Else ns h = tt
keyword_target token.While ns h = tt
keyword_target token.For ns h = tt
keyword_target token.Read ns h = tt
keyword_target token.Write ns h = tt
keyword_target _ ns h = absurd h

keyword_simple : (t : Symbol) (ns : Needs) → IsKeyword t → IfThere (simple_needs t ns) IsOpening
keyword_simple token.If ns h = tt
keyword_simple token.Else ns h = tt
keyword_simple token.While ns h = tt
keyword_simple token.For ns h = tt
keyword_simple token.Read ns h = tt
keyword_simple token.Write ns h = tt
keyword_simple _ ns h = absurd h

keyword_assign : (t : Symbol) (ns : Needs) → IsKeyword t → IfThere (assign_needs t ns) IsOpening
keyword_assign token.If ns h = tt
keyword_assign token.Else ns h = tt
keyword_assign token.While ns h = tt
keyword_assign token.For ns h = tt
keyword_assign token.Read ns h = tt
keyword_assign token.Write ns h = tt
keyword_assign _ ns h = absurd h

keyword_body : (t : Symbol) (ns : Needs) → IsKeyword t → IfThere (body_needs t ns) IsOpening
keyword_body token.If ns h = tt
keyword_body token.Else ns h = tt
keyword_body token.While ns h = tt
keyword_body token.For ns h = tt
keyword_body token.Read ns h = tt
keyword_body token.Write ns h = tt
keyword_body _ ns h = absurd h

keyword_variable : (t : Symbol) (ns : Needs) → IsKeyword t → IfThere (variable_needs t ns) IsOpening
keyword_variable token.If ns h = tt
keyword_variable token.Else ns h = tt
keyword_variable token.While ns h = tt
keyword_variable token.For ns h = tt
keyword_variable token.Read ns h = tt
keyword_variable token.Write ns h = tt
keyword_variable _ ns h = absurd h

keyword_next : (t : Symbol) (ns : Needs) → IsKeyword t → IfThere (next_port t ns) IsOpening
keyword_next token.If ns h = tt
keyword_next token.Else ns h = tt
keyword_next token.While ns h = tt
keyword_next token.For ns h = tt
keyword_next token.Read ns h = tt
keyword_next token.Write ns h = tt
keyword_next _ ns h = absurd h

keyword_first : (t : Symbol) (ns : Needs) → IsKeyword t → IfThere (first_port t ns) IsOpening
keyword_first token.If ns h = tt
keyword_first token.Else ns h = tt
keyword_first token.While ns h = tt
keyword_first token.For ns h = tt
keyword_first token.Read ns h = tt
keyword_first token.Write ns h = tt
keyword_first _ ns h = absurd h

keyword_port : (t : Symbol) (ns : Needs) → IsKeyword t → IfThere (after_port t ns) IsOpening
keyword_port token.If ns h = tt
keyword_port token.Else ns h = tt
keyword_port token.While ns h = tt
keyword_port token.For ns h = tt
keyword_port token.Read ns h = tt
keyword_port token.Write ns h = tt
keyword_port _ ns h = absurd h

keyword_after : (t : Symbol) (ns : Needs) (other : Option Needs) → IfThere other IsOpening → IsKeyword t → IfThere (after_needs t ns other) IsOpening
keyword_after token.If ns other o h = o
keyword_after token.Else ns other o h = o
keyword_after token.While ns other o h = o
keyword_after token.For ns other o h = o
keyword_after token.Read ns other o h = o
keyword_after token.Write ns other o h = o
keyword_after _ ns other o h = absurd h

keyword_name : (t : Symbol) (ns : Needs) (other : Option Needs) → IfThere other IsOpening → IsKeyword t → IfThere (name_needs t ns other) IsOpening
keyword_name token.If ns other o h = o
keyword_name token.Else ns other o h = o
keyword_name token.While ns other o h = o
keyword_name token.For ns other o h = o
keyword_name token.Read ns other o h = o
keyword_name token.Write ns other o h = o
keyword_name _ ns other o h = absurd h

mark_keyword : (m : Mark) (t : Symbol) → is_mark m t ≡ true → IsKeyword t → ⊥
mark_keyword AName (token.Ident x) h i = i
mark_keyword AnAssign token.Assign h i = i
mark_keyword AnOpen token.Open h i = i
mark_keyword AClose token.Close h i = i
mark_keyword ACloseBracket token.CloseBracket h i = i
mark_keyword AnOpenBrace token.OpenBrace h i = i
mark_keyword AComma token.Comma h i = i
mark_keyword ASemicolon token.Semicolon h i = i
mark_keyword AVoid token.Void h i = i
mark_keyword ALength (token.Number (suc n) u) h i = i
mark_keyword _ _ h i = absurd (cc h)

keyword_exact : (m : Mark) (t : Symbol) (ns : Needs) (b : Bool) → is_mark m t ≡ b → IsKeyword t → IfThere (cond b (Some ns) None) IsOpening
keyword_exact m t ns true e h = absurd (mark_keyword m t e h)
keyword_exact m t ns false e h = tt

-- behind a keyword a bracket has to come
keyword : (ns : Needs) (t : Symbol) → IsKeyword t → IfThere (after_token ns t) IsOpening
keyword [] t h = tt
keyword (Exactly m ∷ ns) t h = keyword_exact m t ns (is_mark m t) refl h
keyword (Operand ∷ ns) t h = keyword_operand t ns h
keyword (After ∷ ns) t h = keyword_after t ns (after_token ns t) (keyword ns t h) h
keyword (AfterName ∷ ns) t h = keyword_name t ns (after_token ns t) (keyword ns t h) h
keyword (AfterOpen ∷ ns) t h = keyword_open t ns h
keyword (InBlock ∷ ns) t h = keyword_block t ns h
keyword (AfterIf ∷ ns) t h = keyword_if t ns h
keyword (AfterElse ∷ ns) t h = keyword_else t ns h
keyword (AfterTarget ∷ ns) t h = keyword_target t ns h
keyword (AfterElement ∷ ns) t h = keyword_element t ns h
keyword (AfterSimple ∷ ns) t h = keyword_simple t ns h
keyword (AfterSimpleElement ∷ ns) t h = keyword_change t ns h
keyword (AfterAssign ∷ ns) t h = keyword_assign t ns h
keyword (InBody ∷ ns) t h = keyword_body t ns h
keyword (AfterVariable ∷ ns) t h = keyword_variable t ns h
keyword (FirstPort ∷ ns) t h = keyword_first t ns h
keyword (NextPort ∷ ns) t h = keyword_next t ns h
keyword (AfterPort ∷ ns) t h = keyword_port t ns h

opens_bracket : (limit d : ℕ) (ns : Needs) (ts : List Symbol) → Accepts ts (Exactly AnOpen ∷ ns) → IsNarrow limit d ts → suc d ≤ limit
opens_bracket limit d ns [] a n = absurd (cc a)
opens_bracket limit d ns (token.Open ∷ ts) a n = n.0
opens_bracket limit d ns (_ ∷ ts) a n = absurd a

opens_else : (limit d : ℕ) (ns : Needs) (ts : List Symbol) → Accepts ts (AfterElse ∷ ns) → IsNarrow limit d ts → suc d ≤ limit
opens_else limit d ns [] a n = absurd (cc a)
opens_else limit d ns (token.OpenBrace ∷ ts) a n = n.0
opens_else limit d ns (token.If ∷ ts) a n = opens_bracket limit d (Operand ∷ Exactly AClose ∷ Exactly AnOpenBrace ∷ InBlock ∷ AfterIf ∷ ns) ts a n.1
opens_else limit d ns (_ ∷ ts) a n = absurd a

opens_first : (limit d : ℕ) (ns : Needs) (ts : List Symbol) → IsOpening ns → Accepts ts ns → IsNarrow limit d ts → suc d ≤ limit
opens_first limit d (Exactly AnOpen ∷ ns) ts o a n = opens_bracket limit d ns ts a n
opens_first limit d (AfterElse ∷ ns) ts o a n = opens_else limit d ns ts a n
opens_first limit d _ ts o a n = absurd o

data Crowding (t : Symbol) : Type 0 where
  a_keyword : IsKeyword t → ((d : ℕ) → open_after d t ≡ d) → Crowding t
  a_bracket : ((d : ℕ) → open_after d t ≡ suc d) → Crowding t

crowding : (t : Symbol) → crowds t ≡ true → Crowding t
crowding token.Open h = a_bracket (λ d. refl)
crowding token.OpenBracket h = a_bracket (λ d. refl)
crowding token.OpenBrace h = a_bracket (λ d. refl)
crowding token.If h = a_keyword tt (λ d. refl)
crowding token.Else h = a_keyword tt (λ d. refl)
crowding token.While h = a_keyword tt (λ d. refl)
crowding token.For h = a_keyword tt (λ d. refl)
crowding token.Read h = a_keyword tt (λ d. refl)
crowding token.Write h = a_keyword tt (λ d. refl)
crowding _ h = absurd (cc h)

-- what is accepted within the limit has room for the bracket that a token takes
room : (limit d : ℕ) (ns ns' : Needs) (t : Symbol) (more : List Symbol) → after_token ns t ≡ Some ns' → Accepts more ns' → IsNarrow limit d (t ∷ more) → Crowding t → suc d ≤ limit
room limit d ns ns' t more e a n (a_bracket f) = subst (λ x. x ≤ limit) (f d) n.0
room limit d ns ns' t more e a n (a_keyword k f) = opens_first limit d ns' more (subst (λ o. IfThere o IsOpening) e (keyword ns t k)) a (subst (λ x. IsNarrow limit x more) (f d) n.1)

not_crowding : (limit d : ℕ) (t : Symbol) → crowds t ≡ false → Roomy limit d t
not_crowding limit d token.Open h = absurd (cc h)
not_crowding limit d token.OpenBracket h = absurd (cc h)
not_crowding limit d token.OpenBrace h = absurd (cc h)
not_crowding limit d token.If h = absurd (cc h)
not_crowding limit d token.Else h = absurd (cc h)
not_crowding limit d token.While h = absurd (cc h)
not_crowding limit d token.For h = absurd (cc h)
not_crowding limit d token.Read h = absurd (cc h)
not_crowding limit d token.Write h = absurd (cc h)
not_crowding limit d _ h = tt

roomy_below : (limit d : ℕ) (t : Symbol) → suc d ≤ limit → Roomy limit d t
roomy_below limit d token.Open h = h
roomy_below limit d token.OpenBracket h = h
roomy_below limit d token.OpenBrace h = h
roomy_below limit d token.If h = h
roomy_below limit d token.Else h = h
roomy_below limit d token.While h = h
roomy_below limit d token.For h = h
roomy_below limit d token.Read h = h
roomy_below limit d token.Write h = h
roomy_below limit d _ h = tt

roomy : (limit d : ℕ) (t : Symbol) (c e : Bool) → crowds t ≡ c → nat_le limit d ≡ e → (c && e) ≡ false → Roomy limit d t
roomy limit d t false e p q h = not_crowding limit d t p
roomy limit d t true false p q h = roomy_below limit d t (let w : d < limit = leb-false _ _ q in omega arith)
roomy limit d t true true p q h = absurd (cc h)

crowded : (limit d : ℕ) (t : Symbol) (c e : Bool) → crowds t ≡ c → nat_le limit d ≡ e → (c && e) ≡ true → (crowds t ≡ true) × (limit ≤ d)
crowded limit d t false e p q h = absurd (cc h)
crowded limit d t true false p q h = absurd (cc h)
crowded limit d t true true p q h = (p, leb-true _ _ q)

open_roomy : (limit d : ℕ) (t : Symbol) → Roomy limit d t → d ≤ limit → open_after d t ≤ limit
open_roomy limit d token.Open r l = r
open_roomy limit d token.OpenBracket r l = r
open_roomy limit d token.OpenBrace r l = r
open_roomy limit d token.Close r l = down limit d l
open_roomy limit d token.CloseBracket r l = down limit d l
open_roomy limit d token.CloseBrace r l = down limit d l
open_roomy limit d _ r l = l

abbrev Narrowly : ℕ → ℕ → Needs → List Symbol → Type 0
Narrowly limit d ns before = (more : List Symbol) × Accepts (before ++ more) ns × IsNarrow limit d (before ++ more)

pub data Judged (limit d : ℕ) (ns : Needs) (ts : List Symbol) : Verdict → Type 0 where
  fine : Accepts ts ns → IsNarrow limit d ts → Judged limit d ns ts Fine
  wrong : (before : List Symbol) (t : Symbol) (after : List Symbol) → ts ≡ before ++ t ∷ after → Narrowly limit d ns before → ((more : List Symbol) → Accepts (before ++ t ∷ more) ns → ⊥) → Judged limit d ns ts (Wrong (suc (length after)))
  deep : (before : List Symbol) (t : Symbol) (after : List Symbol) → ts ≡ before ++ t ∷ after → Narrowly limit d ns before
      → ((more : List Symbol) → Accepts (before ++ t ∷ more) ns → IsNarrow limit d (before ++ t ∷ more) → ⊥) → (more : List Symbol) → Accepts (before ++ t ∷ more) ns → Judged limit d ns ts (TooDeep (suc (length after)))
  unfinished : Narrowly limit d ns ts → (Accepts ts ns → ⊥) → Judged limit d ns ts (Wrong 0)

goes_on : (ns ns' : Needs) (t : Symbol) (ts : List Symbol) → after_token ns t ≡ Some ns' → Accepts ts ns' → Accepts (t ∷ ts) ns
goes_on ns ns' t ts e a = subst (λ o. IfNeeds o (Accepts ts)) (sym e) a

came_from : (ns ns' : Needs) (t : Symbol) (ts : List Symbol) → after_token ns t ≡ Some ns' → Accepts (t ∷ ts) ns → Accepts ts ns'
came_from ns ns' t ts e a = subst (λ o. IfNeeds o (Accepts ts)) e a

one_before : (limit d : ℕ) (ns ns' : Needs) (t : Symbol) (ts : List Symbol) (v : Verdict) → after_token ns t ≡ Some ns' → open_after d t ≤ limit → Judged limit (open_after d t) ns' ts v → Judged limit d ns (t ∷ ts) v
one_before limit d ns ns' t ts v e l (fine a n) = fine (goes_on ns ns' t ts e a) (l, n)
one_before limit d ns ns' t ts v e l (wrong before u after s w x) =
    wrong (t ∷ before) u after (ap (λ y. t ∷ y) s) (w.0, goes_on ns ns' t (before ++ w.0) e w.1, (l, w.2)) (λ more a. x more (came_from ns ns' t (before ++ u ∷ more) e a))
one_before limit d ns ns' t ts v e l (deep before u after s w x more y) =
    deep (t ∷ before) u after (ap (λ y. t ∷ y) s) (w.0, goes_on ns ns' t (before ++ w.0) e w.1, (l, w.2))
    (λ more a n. x more (came_from ns ns' t (before ++ u ∷ more) e a) n.1) more (goes_on ns ns' t (before ++ u ∷ more) e y)
one_before limit d ns ns' t ts v e l (unfinished w x) = unfinished (w.0, goes_on ns ns' t (ts ++ w.0) e w.1, (l, w.2)) (λ a. x (came_from ns ns' t ts e a))

abbrev JudgedAll : ℕ → List Symbol → Type 0
JudgedAll limit ts = (d : ℕ) (ns : Needs) → IsFit ns → IsNarrow limit d (completion ns) → d ≤ limit → Judged limit d ns ts (verdict limit ts d ns)

narrow_more : (limit big d : ℕ) (ts : List Symbol) → limit ≤ big → IsNarrow limit d ts → IsNarrow big d ts
narrow_more limit big d [] h n = tt
narrow_more limit big d (t ∷ ts) h n = let w : open_after d t ≤ limit = n.0 in (omega arith, narrow_more limit big (open_after d t) ts h n.1)

steps_to : (limit d : ℕ) (ns ns' : Needs) (t : Symbol) → IsFit ns → IsNarrow limit d (completion ns) → d ≤ limit → after_token ns t ≡ Some ns' → GoesOn limit d t ns'
steps_to limit d ns ns' t f n l e = subst (λ o. IfThere o (GoesOn limit d t)) e (step limit d ns t f n l)

stays_fit : (limit d : ℕ) (ns ns' : Needs) (t : Symbol) → IsFit ns → IsNarrow limit d (completion ns) → d ≤ limit → after_token ns t ≡ Some ns' → IsFit ns'
stays_fit limit d ns ns' t f n l e =
    let g : IsGood (suc limit) (open_after d t) ns' = steps_to (suc limit) d ns ns' t f (narrow_more limit (suc limit) d (completion ns) (omega arith) n) (omega arith) e (roomy_below (suc limit) d t (omega arith)) in
    g.fit

judged_test : (limit d : ℕ) (ns ns' : Needs) (t : Symbol) (ts : List Symbol) → IsFit ns → IsNarrow limit d (completion ns) → d ≤ limit → after_token ns t ≡ Some ns' → JudgedAll limit ts
    → (b : Bool) → is_crowded limit d t ≡ b → Judged limit d ns (t ∷ ts) (at_token (Some ns') b (length ts) (verdict limit ts (open_after d t)))
judged_test limit d ns ns' t ts f n l e h false c =
    let r : Roomy limit d t = roomy limit d t (crowds t) (nat_le limit d) refl refl c in
    let q : IsGood limit (open_after d t) ns' = steps_to limit d ns ns' t f n l e r in
    one_before limit d ns ns' t ts (verdict limit ts (open_after d t) ns') e (open_roomy limit d t r l) (h (open_after d t) ns' q.fit q.narrow (open_roomy limit d t r l))
judged_test limit d ns ns' t ts f n l e h true c =
    let k = crowded limit d t (crowds t) (nat_le limit d) refl refl c in
    deep [] t ts refl (completion ns, completed ns f, n)
    (λ more a x.
    let w : suc d ≤ limit = room limit d ns ns' t more e (came_from ns ns' t more e a) x (crowding t k.0) in
    let v : limit ≤ d = k.1 in absurd (omega arith))
    (completion ns') (goes_on ns ns' t (completion ns') e (completed ns' (stays_fit limit d ns ns' t f n l e)))

judged_at : (limit d : ℕ) (ns : Needs) (t : Symbol) (ts : List Symbol) → IsFit ns → IsNarrow limit d (completion ns) → d ≤ limit → JudgedAll limit ts
    → (o : Option Needs) → after_token ns t ≡ o → Judged limit d ns (t ∷ ts) (at_token o (is_crowded limit d t) (length ts) (verdict limit ts (open_after d t)))
judged_at limit d ns t ts f n l h None e = wrong [] t ts refl (completion ns, completed ns f, n) (λ more a. subst (λ o. IfNeeds o (Accepts more)) e a)
judged_at limit d ns t ts f n l h (Some ns') e = judged_test limit d ns ns' t ts f n l e h (is_crowded limit d t) refl

pub judged : (limit : ℕ) (ts : List Symbol) → JudgedAll limit ts
judged limit [] d [] f n l = fine refl tt
judged limit [] d (m ∷ ns) f n l = unfinished (completion (m ∷ ns), completed (m ∷ ns) f, n) (λ a. absurd (cc a))
judged limit (t ∷ ts) d ns f n l = judged_at limit d ns t ts f n l (judged limit ts) (after_token ns t) refl

narrowly : (limit : ℕ) (before : List Symbol) → Narrowly limit 0 start before → HasNarrowContinuation limit before
narrowly limit before w = let p = accepts-syntax (before ++ w.0) w.1 in (w.0, p.0, p.1, w.2)

one_more : (before : List Symbol) (t : Symbol) (more : List Symbol) → (before ++ t ∷ []) ++ more ≡ before ++ t ∷ more
one_more before t more = append_assoc before (t ∷ []) more

said : (limit : ℕ) (ts : List Symbol) (v : Verdict) → Judged limit 0 start ts v → Says limit ts v
said limit ts v (fine a n) = (accepts-syntax ts a, n)
said limit ts v (wrong before t after s w x) =
    syntax before t after (record { split = s; until = narrowly limit before w; here = λ c. x c.0 (subst (λ y. Accepts y start) (one_more before t c.0) (syntax-accepts c.2)) })
    (λ c. x c.0 (subst (λ y. Accepts y start) (one_more before t c.0) (syntax-accepts c.2)))
said limit ts v (deep before t after s w x more y) =
    nesting before t after (record {
      split = s;
      until = narrowly limit before w;
      here = λ c. x c.0 (subst (λ y. Accepts y start) (one_more before t c.0) (syntax-accepts c.2)) (subst (IsNarrow limit 0) (one_more before t c.0) c.3);
    })
    (let p = accepts-syntax ((before ++ t ∷ []) ++ more) (subst (λ y. Accepts y start) (sym (one_more before t more)) y) in (more, p.0, p.1))
said limit ts v (unfinished w x) = behind (narrowly limit ts w) (λ op c. x (syntax-accepts c))

pub verdict_says : (limit : ℕ) (ts : List Symbol) → 1 ≤ limit → Says limit ts (verdict limit ts 0 start)
verdict_says limit ts l = said limit ts (verdict limit ts 0 start) (judged limit ts 0 start tt (omega arith, (omega arith, (l, (omega arith, (l, (omega arith, tt)))))) (omega arith))
