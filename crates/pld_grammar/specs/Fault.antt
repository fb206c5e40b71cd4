-- Where the grammar is left.
use Rattle.std.specs.Prelude.{ℕ, suc, pred, ◌≤◌, ◌≡◌, List, [], ◌∷◌, ◌++◌, length}
use Rattle.pld_grammar.specs.Symbols.{Symbol}
use Rattle.pld_grammar.specs.Symbols as token
use Rattle.pld_ast.specs.declared.tree.Operator.{Operator}
use Rattle.pld_grammar.specs.Grammar.{Syntax}

-- the brackets that are open after a token
abbrev pub open_after : ℕ → Symbol → ℕ
open_after d token.Open = suc d
open_after d token.OpenBracket = suc d
open_after d token.OpenBrace = suc d
open_after d token.Close = pred d
open_after d token.CloseBracket = pred d
open_after d token.CloseBrace = pred d
open_after d _ = d

-- no more brackets than the limit are open at once, where d are open before
abbrev pub IsNarrow : ℕ → ℕ → List Symbol → Type 0
IsNarrow limit d [] = Unit {0}
IsNarrow limit d (t ∷ ts) = (open_after d t ≤ limit) × IsNarrow limit (open_after d t) ts

-- tokens that make these a text of the grammar
abbrev pub HasContinuation : List Symbol → Type 0
HasContinuation ts = (more : List Symbol) × (op : Operator) × Syntax (ts ++ more) op

abbrev pub HasNarrowContinuation : ℕ → List Symbol → Type 0
HasNarrowContinuation limit ts = (more : List Symbol) × (op : Operator) × Syntax (ts ++ more) op × IsNarrow limit 0 (ts ++ more)

-- t is the first token after which there is no narrow continuation
pub record IsFirst (limit : ℕ) (ts before : List Symbol) (t : Symbol) (after : List Symbol) : Type 0 where
  pub split : ts ≡ before ++ t ∷ after
  pub until : HasNarrowContinuation limit before
  pub here : ¬ HasNarrowContinuation limit (before ++ t ∷ [])

pub data Kind : Type 0 where
  Syntactic : Kind
  Nesting : Kind

-- The fault of this kind stands at the n-th token from the end of the text, and at 0 it stands behind the text.
pub data IsFault (limit : ℕ) (ts : List Symbol) : Kind → ℕ → Type 0 where
  syntax : (before : List Symbol) (t : Symbol) (after : List Symbol) → IsFirst limit ts before t after → ¬ HasContinuation (before ++ t ∷ []) → IsFault limit ts Syntactic (suc (length after))
  nesting : (before : List Symbol) (t : Symbol) (after : List Symbol) → IsFirst limit ts before t after → HasContinuation (before ++ t ∷ []) → IsFault limit ts Nesting (suc (length after))
  behind : HasNarrowContinuation limit ts → ((op : Operator) → ¬ Syntax ts op) → IsFault limit ts Syntactic 0
