-- Expressions that the machine accepts are in the grammar.
use Rattle.std.proofs.Common.{ℕ, zero, suc, ◌<◌, ◌≤◌, ◌≡◌, ◌⊎◌, inl, inr, refl, sym, ap, subst, List, [], ◌∷◌, length, arith}
use Rattle.pld_ast.specs.declared.tree.Ty.{Ty}
use Rattle.pld_ast.specs.declared.tree.Ty.TheVariants.{Int, Uint}
use Rattle.pld_ast.specs.declared.tree.BinOp.{BinOp}
use Rattle.pld_ast.specs.declared.tree.BinOp.TheVariants as binary
use Rattle.pld_ast.specs.declared.tree.UnOp.{UnOp}
use Rattle.pld_ast.specs.declared.tree.UnOp.TheVariants as unary
use Rattle.pld_grammar.specs.Symbols.{Symbol}
use Rattle.pld_grammar.specs.Symbols as token
use Rattle.pld_ast.specs.declared.tree.Used.{Used}
use Rattle.pld_ast.specs.declared.tree.Expr.{Expr}
use Rattle.pld_ast.specs.declared.tree.Expr.TheVariants.{Lit, Var, Element, Unary, Binary, Cast}
use Rattle.pld_grammar.specs.Grammar.{IsType, signed, unsigned, IsOperator, is_OrElse, is_AndAlso, is_Or, is_Xor, is_And, is_Eq, is_Ne, is_Lt, is_Le, is_Gt, is_Ge, is_Shl, is_Shr, is_Add, is_Sub, is_Mul, is_Div, is_Rem, IsPrefix, is_neg, is_plus, is_complement, is_not, Level, operand, chain, Tail, end, more, Prefix, unary_form, cast, number, variable, element, group, Expression}
use Rattle.pld_grammar.specs.Machine.{Needs, Exactly, Operand, After, AfterName, AfterOpen, ALength, AName, AnAssign, AnOpen, AClose, ACloseBracket, AnOpenBrace, AComma, ASemicolon, AVoid}
use Rattle.pld_grammar.proofs.Accept.{Accepts}

-- no operator of a level below l comes
abbrev pub NoOperator : ℕ → List Symbol → Type 0
NoOperator l [] = Unit {0}
NoOperator l (t ∷ ts) = (k : ℕ) (o : BinOp) → IsOperator k t o → l ≤ k

pub data AtToken (ts : List Symbol) : Type 0 where
  an_operator : (k : ℕ) (o : BinOp) (t : Symbol) (rest : List Symbol) → IsOperator k t o → ts ≡ t ∷ rest → AtToken ts
  no_operator : ((l : ℕ) → NoOperator l ts) → AtToken ts

abbrev pub IsOperatorToken : Symbol → Type 0
IsOperatorToken token.OrOr = Unit {0}
IsOperatorToken token.AndAnd = Unit {0}
IsOperatorToken token.Bar = Unit {0}
IsOperatorToken token.Hat = Unit {0}
IsOperatorToken token.Ampersand = Unit {0}
IsOperatorToken token.EqualEqual = Unit {0}
IsOperatorToken token.NotEqual = Unit {0}
IsOperatorToken token.Less = Unit {0}
IsOperatorToken token.LessEqual = Unit {0}
IsOperatorToken token.Greater = Unit {0}
IsOperatorToken token.GreaterEqual = Unit {0}
IsOperatorToken token.ShiftLeft = Unit {0}
IsOperatorToken token.ShiftRight = Unit {0}
IsOperatorToken token.Plus = Unit {0}
IsOperatorToken token.Minus = Unit {0}
IsOperatorToken token.Star = Unit {0}
IsOperatorToken token.Slash = Unit {0}
IsOperatorToken token.Percent = Unit {0}
IsOperatorToken _ = ⊥

pub operator_token : {k : ℕ} {t : Symbol} {o : BinOp} → IsOperator k t o → IsOperatorToken t
operator_token is_OrElse = tt
operator_token is_AndAlso = tt
operator_token is_Or = tt
operator_token is_Xor = tt
operator_token is_And = tt
operator_token is_Eq = tt
operator_token is_Ne = tt
operator_token is_Lt = tt
operator_token is_Le = tt
operator_token is_Gt = tt
operator_token is_Ge = tt
operator_token is_Shl = tt
operator_token is_Shr = tt
operator_token is_Add = tt
operator_token is_Sub = tt
operator_token is_Mul = tt
operator_token is_Div = tt
operator_token is_Rem = tt

pub at_token : (ts : List Symbol) → AtToken ts
at_token [] = no_operator (λ l. tt)
at_token (token.OrOr ∷ ts) = an_operator 9 binary.OrElse token.OrOr ts is_OrElse refl
at_token (token.AndAnd ∷ ts) = an_operator 8 binary.AndAlso token.AndAnd ts is_AndAlso refl
at_token (token.Bar ∷ ts) = an_operator 7 binary.Or token.Bar ts is_Or refl
at_token (token.Hat ∷ ts) = an_operator 6 binary.Xor token.Hat ts is_Xor refl
at_token (token.Ampersand ∷ ts) = an_operator 5 binary.And token.Ampersand ts is_And refl
at_token (token.EqualEqual ∷ ts) = an_operator 4 binary.Eq token.EqualEqual ts is_Eq refl
at_token (token.NotEqual ∷ ts) = an_operator 4 binary.Ne token.NotEqual ts is_Ne refl
at_token (token.Less ∷ ts) = an_operator 3 binary.Lt token.Less ts is_Lt refl
at_token (token.LessEqual ∷ ts) = an_operator 3 binary.Le token.LessEqual ts is_Le refl
at_token (token.Greater ∷ ts) = an_operator 3 binary.Gt token.Greater ts is_Gt refl
at_token (token.GreaterEqual ∷ ts) = an_operator 3 binary.Ge token.GreaterEqual ts is_Ge refl
at_token (token.ShiftLeft ∷ ts) = an_operator 2 binary.Shl token.ShiftLeft ts is_Shl refl
at_token (token.ShiftRight ∷ ts) = an_operator 2 binary.Shr token.ShiftRight ts is_Shr refl
at_token (token.Plus ∷ ts) = an_operator 1 binary.Add token.Plus ts is_Add refl
at_token (token.Minus ∷ ts) = an_operator 1 binary.Sub token.Minus ts is_Sub refl
at_token (token.Star ∷ ts) = an_operator 0 binary.Mul token.Star ts is_Mul refl
at_token (token.Slash ∷ ts) = an_operator 0 binary.Div token.Slash ts is_Div refl
at_token (token.Percent ∷ ts) = an_operator 0 binary.Rem token.Percent ts is_Rem refl
at_token (_ ∷ ts) = no_operator (λ l k o i. absurd (operator_token i))

pub eq_or_less : (a b : ℕ) → a ≤ b → (a ≡ b) ⊎ (suc a ≤ b)
eq_or_less zero zero h = inl refl
eq_or_less zero (suc b) h = inr (omega arith)
eq_or_less (suc a) zero h = absurd (omega arith)
eq_or_less (suc a) (suc b) h = elim (eq_or_less a b (omega arith)) [ inl e ↦ inl (ap suc e) | inr e ↦ inr (omega arith) ]

pub record PrefixFound (ts : List Symbol) (ns : Needs) : Type 0 where
  pub rest : List Symbol
  pub tree : Expr
  pub found : Prefix ts rest tree
  pub left : Accepts rest (After ∷ ns)
  pub shorter : length rest < length ts

pub record LevelFound (l : ℕ) (ts : List Symbol) (ns : Needs) : Type 0 where
  pub rest : List Symbol
  pub tree : Expr
  pub found : Level l ts rest tree
  pub left : Accepts rest (After ∷ ns)
  pub shorter : length rest < length ts
  pub ends : NoOperator l rest

pub record TailFound (l : ℕ) (a : Expr) (ts : List Symbol) (ns : Needs) : Type 0 where
  pub rest : List Symbol
  pub tree : Expr
  pub found : Tail l a ts rest tree
  pub left : Accepts rest (After ∷ ns)
  pub shorter : length rest ≤ length ts
  pub ends : NoOperator (suc l) rest

abbrev pub PrefixAll : ℕ → Type 0
PrefixAll n = (ts : List Symbol) (ns : Needs) → length ts ≤ n → Accepts ts (Operand ∷ ns) → PrefixFound ts ns

abbrev pub LevelAll : ℕ → ℕ → Type 0
LevelAll l n = (ts : List Symbol) (ns : Needs) → length ts ≤ n → Accepts ts (Operand ∷ ns) → LevelFound l ts ns

pub operator_accepts : {k : ℕ} {t : Symbol} {o : BinOp} → IsOperator k t o → (ts : List Symbol) (ns : Needs) → Accepts (t ∷ ts) (After ∷ ns) → Accepts ts (Operand ∷ ns)
operator_accepts is_OrElse ts ns a = a
operator_accepts is_AndAlso ts ns a = a
operator_accepts is_Or ts ns a = a
operator_accepts is_Xor ts ns a = a
operator_accepts is_And ts ns a = a
operator_accepts is_Eq ts ns a = a
operator_accepts is_Ne ts ns a = a
operator_accepts is_Lt ts ns a = a
operator_accepts is_Le ts ns a = a
operator_accepts is_Gt ts ns a = a
operator_accepts is_Ge ts ns a = a
operator_accepts is_Shl ts ns a = a
operator_accepts is_Shr ts ns a = a
operator_accepts is_Add ts ns a = a
operator_accepts is_Sub ts ns a = a
operator_accepts is_Mul ts ns a = a
operator_accepts is_Div ts ns a = a
operator_accepts is_Rem ts ns a = a

pub same_operator : {k k' : ℕ} {o o' : BinOp} {t : Symbol} {l : ℕ} → IsOperator k t o → IsOperator k' t o' → l ≤ k → l ≤ k'
same_operator is_OrElse is_OrElse g = g
same_operator is_AndAlso is_AndAlso g = g
same_operator is_Or is_Or g = g
same_operator is_Xor is_Xor g = g
same_operator is_And is_And g = g
same_operator is_Eq is_Eq g = g
same_operator is_Ne is_Ne g = g
same_operator is_Lt is_Lt g = g
same_operator is_Le is_Le g = g
same_operator is_Gt is_Gt g = g
same_operator is_Ge is_Ge g = g
same_operator is_Shl is_Shl g = g
same_operator is_Shr is_Shr g = g
same_operator is_Add is_Add g = g
same_operator is_Sub is_Sub g = g
same_operator is_Mul is_Mul g = g
same_operator is_Div is_Div g = g
same_operator is_Rem is_Rem g = g

abbrev pub TailAll : (l m : ℕ) → Type 0
TailAll l m = (ts : List Symbol) (a : Expr) (ns : Needs) → length ts ≤ m → Accepts ts (After ∷ ns) → NoOperator l ts → TailFound l a ts ns

pub tail_on : (l n m : ℕ) → LevelAll l n → TailAll l m → m < n → (ts : List Symbol) (a : Expr) (ns : Needs) → length ts ≤ suc m → Accepts ts (After ∷ ns)
    → (o : BinOp) (t : Symbol) (rest : List Symbol) → IsOperator l t o → ts ≡ t ∷ rest → TailFound l a ts ns
tail_on l n m h again c ts a ns b d o t rest i s =
    let d' : Accepts (t ∷ rest) (After ∷ ns) = subst (λ x. Accepts x (After ∷ ns)) s d in
    let w : length ts ≡ suc (length rest) = ap length s in
    let p : LevelFound l rest ns = h rest ns (omega arith) (operator_accepts i rest ns d') in
    let p-shorter : length p.rest < length rest = p.shorter in
    let q : TailFound l (Binary o a p.tree) p.rest ns = again p.rest (Binary o a p.tree) ns (omega arith) p.left p.ends in
    let q-shorter : length q.rest ≤ length p.rest = q.shorter in
    record { rest = q.rest; tree = q.tree; found = subst (λ x. Tail l a x q.rest q.tree) (sym s) (more i p.found q.found); left = q.left; shorter = omega arith; ends = q.ends }

pub tail_step : (l n m : ℕ) → LevelAll l n → TailAll l m → m < n → TailAll l (suc m)
tail_step l n m h again c ts a ns b d e = go (at_token ts)
  where
    stop : NoOperator (suc l) ts → TailFound l a ts ns
    stop f = record { rest = ts; tree = a; found = end; left = d; shorter = omega arith; ends = f }

    go : AtToken ts → TailFound l a ts ns
    go (no_operator f) = stop (f (suc l))
    go (an_operator k o t rest i s) =
        elim (eq_or_less l k (let e' : NoOperator l (t ∷ rest) = subst (NoOperator l) s e in e' k o i)) [
          | inl f ↦ tail_on l n m h again c ts a ns b d o t rest (subst (λ x. IsOperator x t o) (sym f) i) s
          | inr f ↦ stop (subst (NoOperator (suc l)) (sym s) (λ k' o' i'. same_operator i i' f))
        ]

pub tail_none : (l : ℕ) → TailAll l zero
tail_none l [] a ns b d e = absurd (cc d)
tail_none l (t ∷ ts) a ns b d e = absurd (omega arith)

pub tail_all : (l n : ℕ) → LevelAll l n → (m : ℕ) → m ≤ n → TailAll l m
tail_all l n h zero c = tail_none l
tail_all l n h (suc m) c = tail_step l n m h (tail_all l n h m (omega arith)) (omega arith)

pub level_all : (n : ℕ) → PrefixAll n → (l : ℕ) → LevelAll l n
level_all n h zero ts ns b a =
    let r : PrefixFound ts ns = h ts ns b a in
    record { rest = r.rest; tree = r.tree; found = operand r.found; left = r.left; shorter = r.shorter; ends = all r.rest }
  where
    all : (ts : List Symbol) → NoOperator 0 ts
    all [] = tt
    all (t ∷ ts) = λ k o i. omega arith
level_all n h (suc l) ts ns b a =
    let r : LevelFound l ts ns = level_all n h l ts ns b a in
    let r-shorter : length r.rest < length ts = r.shorter in
    let q : TailFound l r.tree r.rest ns = tail_all l n (level_all n h l) n (omega arith) r.rest r.tree ns (omega arith) r.left r.ends in
    let q-shorter : length q.rest ≤ length r.rest = q.shorter in
    record { rest = q.rest; tree = q.tree; found = chain r.found q.found; left = q.left; shorter = omega arith; ends = q.ends }

-- a token that has to come is there
pub get_close : (ts : List Symbol) (ns : Needs) → Accepts ts (Exactly AClose ∷ ns) → (rest : List Symbol) × (ts ≡ token.Close ∷ rest) × Accepts rest ns
get_close [] ns a = absurd (cc a)
get_close (token.Close ∷ ts) ns a = (ts, refl, a)
get_close (_ ∷ ts) ns a = absurd a

pub get_close_bracket : (ts : List Symbol) (ns : Needs) → Accepts ts (Exactly ACloseBracket ∷ ns) → (rest : List Symbol) × (ts ≡ token.CloseBracket ∷ rest) × Accepts rest ns
get_close_bracket [] ns a = absurd (cc a)
get_close_bracket (token.CloseBracket ∷ ts) ns a = (ts, refl, a)
get_close_bracket (_ ∷ ts) ns a = absurd a

pub get_open : (ts : List Symbol) (ns : Needs) → Accepts ts (Exactly AnOpen ∷ ns) → (rest : List Symbol) × (ts ≡ token.Open ∷ rest) × Accepts rest ns
get_open [] ns a = absurd (cc a)
get_open (token.Open ∷ ts) ns a = (ts, refl, a)
get_open (_ ∷ ts) ns a = absurd a

pub get_open_brace : (ts : List Symbol) (ns : Needs) → Accepts ts (Exactly AnOpenBrace ∷ ns) → (rest : List Symbol) × (ts ≡ token.OpenBrace ∷ rest) × Accepts rest ns
get_open_brace [] ns a = absurd (cc a)
get_open_brace (token.OpenBrace ∷ ts) ns a = (ts, refl, a)
get_open_brace (_ ∷ ts) ns a = absurd a

pub get_comma : (ts : List Symbol) (ns : Needs) → Accepts ts (Exactly AComma ∷ ns) → (rest : List Symbol) × (ts ≡ token.Comma ∷ rest) × Accepts rest ns
get_comma [] ns a = absurd (cc a)
get_comma (token.Comma ∷ ts) ns a = (ts, refl, a)
get_comma (_ ∷ ts) ns a = absurd a

pub get_semicolon : (ts : List Symbol) (ns : Needs) → Accepts ts (Exactly ASemicolon ∷ ns) → (rest : List Symbol) × (ts ≡ token.Semicolon ∷ rest) × Accepts rest ns
get_semicolon [] ns a = absurd (cc a)
get_semicolon (token.Semicolon ∷ ts) ns a = (ts, refl, a)
get_semicolon (_ ∷ ts) ns a = absurd a

pub get_assign : (ts : List Symbol) (ns : Needs) → Accepts ts (Exactly AnAssign ∷ ns) → (rest : List Symbol) × (ts ≡ token.Assign ∷ rest) × Accepts rest ns
get_assign [] ns a = absurd (cc a)
get_assign (token.Assign ∷ ts) ns a = (ts, refl, a)
get_assign (_ ∷ ts) ns a = absurd a

pub get_void : (ts : List Symbol) (ns : Needs) → Accepts ts (Exactly AVoid ∷ ns) → (rest : List Symbol) × (ts ≡ token.Void ∷ rest) × Accepts rest ns
get_void [] ns a = absurd (cc a)
get_void (token.Void ∷ ts) ns a = (ts, refl, a)
get_void (_ ∷ ts) ns a = absurd a

pub get_length : (ts : List Symbol) (ns : Needs) → Accepts ts (Exactly ALength ∷ ns) → (n : ℕ) × (u : Ty) × (rest : List Symbol) × (ts ≡ token.Number (suc n) u ∷ rest) × Accepts rest ns
get_length [] ns a = absurd (cc a)
get_length (token.Number zero u ∷ ts) ns a = absurd a
get_length (token.Number (suc n) u ∷ ts) ns a = (n, u, ts, refl, a)
get_length (_ ∷ ts) ns a = absurd a

pub get_name : (ts : List Symbol) (ns : Needs) → Accepts ts (Exactly AName ∷ ns) → (x : Used) × (rest : List Symbol) × (ts ≡ token.Ident x ∷ rest) × Accepts rest ns
get_name [] ns a = absurd (cc a)
get_name (token.Ident x ∷ ts) ns a = (x, ts, refl, a)
get_name (_ ∷ ts) ns a = absurd a

-- behind a whole expression
pub no_after : (ts : List Symbol) (ns : Needs) → NoOperator 10 ts → Accepts ts (After ∷ ns) → Accepts ts ns
no_after [] ns h a = absurd (cc a)
no_after (token.OrOr ∷ ts) ns h a = let w : 10 ≤ 9 = h 9 binary.OrElse is_OrElse in absurd (omega arith)
no_after (token.AndAnd ∷ ts) ns h a = let w : 10 ≤ 8 = h 8 binary.AndAlso is_AndAlso in absurd (omega arith)
no_after (token.Bar ∷ ts) ns h a = let w : 10 ≤ 7 = h 7 binary.Or is_Or in absurd (omega arith)
no_after (token.Hat ∷ ts) ns h a = let w : 10 ≤ 6 = h 6 binary.Xor is_Xor in absurd (omega arith)
no_after (token.Ampersand ∷ ts) ns h a = let w : 10 ≤ 5 = h 5 binary.And is_And in absurd (omega arith)
no_after (token.EqualEqual ∷ ts) ns h a = let w : 10 ≤ 4 = h 4 binary.Eq is_Eq in absurd (omega arith)
no_after (token.NotEqual ∷ ts) ns h a = let w : 10 ≤ 4 = h 4 binary.Ne is_Ne in absurd (omega arith)
no_after (token.Less ∷ ts) ns h a = let w : 10 ≤ 3 = h 3 binary.Lt is_Lt in absurd (omega arith)
no_after (token.LessEqual ∷ ts) ns h a = let w : 10 ≤ 3 = h 3 binary.Le is_Le in absurd (omega arith)
no_after (token.Greater ∷ ts) ns h a = let w : 10 ≤ 3 = h 3 binary.Gt is_Gt in absurd (omega arith)
no_after (token.GreaterEqual ∷ ts) ns h a = let w : 10 ≤ 3 = h 3 binary.Ge is_Ge in absurd (omega arith)
no_after (token.ShiftLeft ∷ ts) ns h a = let w : 10 ≤ 2 = h 2 binary.Shl is_Shl in absurd (omega arith)
no_after (token.ShiftRight ∷ ts) ns h a = let w : 10 ≤ 2 = h 2 binary.Shr is_Shr in absurd (omega arith)
no_after (token.Plus ∷ ts) ns h a = let w : 10 ≤ 1 = h 1 binary.Add is_Add in absurd (omega arith)
no_after (token.Minus ∷ ts) ns h a = let w : 10 ≤ 1 = h 1 binary.Sub is_Sub in absurd (omega arith)
no_after (token.Star ∷ ts) ns h a = let w : 10 ≤ 0 = h 0 binary.Mul is_Mul in absurd (omega arith)
no_after (token.Slash ∷ ts) ns h a = let w : 10 ≤ 0 = h 0 binary.Div is_Div in absurd (omega arith)
no_after (token.Percent ∷ ts) ns h a = let w : 10 ≤ 0 = h 0 binary.Rem is_Rem in absurd (omega arith)
no_after (_ ∷ ts) ns h a = a

pub data OpenCase (ts : List Symbol) (ns : Needs) : Type 0 where
  a_cast : (t : Symbol) (ty : Ty) (rest : List Symbol) → IsType t ty → ts ≡ t ∷ rest → Accepts rest (Exactly AClose ∷ Operand ∷ ns) → OpenCase ts ns
  a_group : Accepts ts (Operand ∷ Exactly AClose ∷ After ∷ ns) → OpenCase ts ns

pub open_case : (ts : List Symbol) (ns : Needs) → Accepts ts (AfterOpen ∷ ns) → OpenCase ts ns
open_case [] ns a = absurd (cc a)
open_case (token.Int ∷ ts) ns a = a_cast token.Int Int ts signed refl a
open_case (token.Uint ∷ ts) ns a = a_cast token.Uint Uint ts unsigned refl a
open_case (_ ∷ ts) ns a = a_group a

pub data NameCase (ts : List Symbol) (ns : Needs) : Type 0 where
  an_index : (rest : List Symbol) → ts ≡ token.OpenBracket ∷ rest → Accepts rest (Operand ∷ Exactly ACloseBracket ∷ After ∷ ns) → NameCase ts ns
  no_index : Accepts ts (After ∷ ns) → NameCase ts ns

pub name_case : (ts : List Symbol) (ns : Needs) → Accepts ts (AfterName ∷ ns) → NameCase ts ns
name_case [] ns a = absurd (cc a)
name_case (token.OpenBracket ∷ ts) ns a = an_index ts refl a
name_case (_ ∷ ts) ns a = no_index a

pub opened_case : (n : ℕ) → PrefixAll n → (ts : List Symbol) (ns : Needs) → length ts ≤ n → OpenCase ts ns → PrefixFound (token.Open ∷ ts) ns
opened_case n h ts ns b (a_cast t ty rest i s a) =
    let c = get_close rest (Operand ∷ ns) a in
    let w : length ts ≡ suc (length rest) = ap length s in
    let v : length rest ≡ suc (length c.0) = ap length c.1 in
    let p : PrefixFound c.0 ns = h c.0 ns (omega arith) c.2 in
    let p-shorter : length p.rest < length c.0 = p.shorter in
    record { rest = p.rest; tree = Cast ty p.tree; found = subst (λ x. Prefix (token.Open ∷ x) p.rest (Cast ty p.tree)) (sym s) (subst (λ x. Prefix (token.Open ∷ t ∷ x) p.rest (Cast ty p.tree)) (sym c.1) (cast i p.found)); left = p.left; shorter = omega arith }
opened_case n h ts ns b (a_group a) =
    let p : LevelFound 10 ts (Exactly AClose ∷ After ∷ ns) = level_all n h 10 ts (Exactly AClose ∷ After ∷ ns) b a in
    let p-shorter : length p.rest < length ts = p.shorter in
    let c = get_close p.rest (After ∷ ns) (no_after p.rest (Exactly AClose ∷ After ∷ ns) p.ends p.left) in
    let w : length p.rest ≡ suc (length c.0) = ap length c.1 in
    record { rest = c.0; tree = p.tree; found = group (subst (λ x. Level 10 ts x p.tree) c.1 p.found); left = c.2; shorter = omega arith }

pub named_case : (n : ℕ) → PrefixAll n → (x : Used) (ts : List Symbol) (ns : Needs) → length ts ≤ n → NameCase ts ns → PrefixFound (token.Ident x ∷ ts) ns
named_case n h x ts ns b (no_index a) = record { rest = ts; tree = Var x; found = variable; left = a; shorter = omega arith }
named_case n h x ts ns b (an_index rest s a) =
    let w : length ts ≡ suc (length rest) = ap length s in
    let p : LevelFound 10 rest (Exactly ACloseBracket ∷ After ∷ ns) = level_all n h 10 rest (Exactly ACloseBracket ∷ After ∷ ns) (omega arith) a in
    let p-shorter : length p.rest < length rest = p.shorter in
    let c = get_close_bracket p.rest (After ∷ ns) (no_after p.rest (Exactly ACloseBracket ∷ After ∷ ns) p.ends p.left) in
    let v : length p.rest ≡ suc (length c.0) = ap length c.1 in
    record { rest = c.0; tree = Element x p.tree; found = subst (λ y. Prefix (token.Ident x ∷ y) c.0 (Element x p.tree)) (sym s) (element (subst (λ y. Level 10 rest y p.tree) c.1 p.found)); left = c.2; shorter = omega arith }

pub with_prefix : (t : Symbol) (o : UnOp) (ts : List Symbol) (ns : Needs) → IsPrefix t o → PrefixFound ts ns → PrefixFound (t ∷ ts) ns
with_prefix t o ts ns i p =
    let p-shorter : length p.rest < length ts = p.shorter in
    record { rest = p.rest; tree = Unary o p.tree; found = unary_form i p.found; left = p.left; shorter = omega arith }

pub prefix_step : (n : ℕ) → PrefixAll n → PrefixAll (suc n)
prefix_step n h [] ns b a = absurd (cc a)
prefix_step n h (token.Minus ∷ ts) ns b a = with_prefix token.Minus unary.Neg ts ns is_neg (h ts ns (omega arith) a)
prefix_step n h (token.Plus ∷ ts) ns b a = with_prefix token.Plus unary.Plus ts ns is_plus (h ts ns (omega arith) a)
prefix_step n h (token.Tilde ∷ ts) ns b a = with_prefix token.Tilde unary.BitNot ts ns is_complement (h ts ns (omega arith) a)
prefix_step n h (token.Bang ∷ ts) ns b a = with_prefix token.Bang unary.Not ts ns is_not (h ts ns (omega arith) a)
prefix_step n h (token.Open ∷ ts) ns b a = opened_case n h ts ns (omega arith) (open_case ts ns a)
prefix_step n h (token.Number k u ∷ ts) ns b a = record { rest = ts; tree = Lit k u; found = number; left = a; shorter = omega arith }
prefix_step n h (token.Ident x ∷ ts) ns b a = named_case n h x ts ns (omega arith) (name_case ts ns a)
prefix_step n h (_ ∷ ts) ns b a = absurd a

pub prefix_none : PrefixAll zero
prefix_none [] ns b a = absurd (cc a)
prefix_none (t ∷ ts) ns b a = absurd (omega arith)

pub prefix_all : (n : ℕ) → PrefixAll n
prefix_all zero = prefix_none
prefix_all (suc n) = prefix_step n (prefix_all n)

-- a whole expression, behind which its context goes on
pub record ExpressionFound (ts : List Symbol) (ns : Needs) : Type 0 where
  pub rest : List Symbol
  pub tree : Expr
  pub found : Expression ts rest tree
  pub left : Accepts rest ns
  pub shorter : length rest < length ts

pub an_expression : (ts : List Symbol) (ns : Needs) → Accepts ts (Operand ∷ ns) → ExpressionFound ts ns
an_expression ts ns a =
    let p : LevelFound 10 ts ns = level_all (length ts) (prefix_all (length ts)) 10 ts ns (omega arith) a in
    record { rest = p.rest; tree = p.tree; found = p.found; left = no_after p.rest ns p.ends p.left; shorter = p.shorter }
