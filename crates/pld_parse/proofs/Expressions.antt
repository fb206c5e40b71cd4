-- Expressions, read level by level.
use Rattle.std.proofs.Common.{ℕ, zero, suc, ◌≤◌, ◌<◌, ◌≡◌, ◌⊎◌, inl, inr, refl, sym, ◌∙◌, ap, subst, List, [], ◌∷◌, length, Some, arith}
use Rattle.pld_ast.specs.declared.tree.Used.{Used}
use Rattle.pld_ast.specs.declared.tree.BinOp.{BinOp}
use Rattle.pld_ast.specs.declared.tree.BinOp.TheVariants as binary
use Rattle.pld_ast.specs.declared.tree.Expr.{Expr}
use Rattle.pld_ast.specs.declared.tree.Expr.TheVariants.{Lit, Var, Element, Binary}
use Rattle.std.proofs.lemmas.List.{length-map}
use Rattle.pld_base.specs.declared.event.Place.{Place}
use Rattle.pld_ast.specs.declared.tree.Ty.{Ty}
use Rattle.pld_lex.specs.declared.token.Token.{Token}
use Rattle.pld_lex.specs.declared.token.TokenKind.{TokenKind}
use Rattle.pld_lex.specs.declared.token.TokenKind.TheVariants as kind
use Rattle.pld_grammar.specs.Symbols.{Symbol, symbol_at, symbol_of, symbols}
use Rattle.pld_grammar.specs.Symbols as token
use Rattle.pld_grammar.specs.Grammar.{IsOperator, is_OrElse, is_AndAlso, is_Or, is_Xor, is_And, is_Eq, is_Ne, is_Lt, is_Le, is_Gt, is_Ge, is_Shl, is_Shr, is_Add, is_Sub, is_Mul, is_Div, is_Rem, Level, operand, chain, Tail, end, more, Prefix, number, variable, element, group, Expression}
use Rattle.pld_grammar.specs.Machine as machine
use Rattle.pld_grammar.specs.Machine.{Needs, Exactly, Operand, After, AfterName, AfterOpen, AClose}
use Rattle.pld_parse.specs.declared.token.Mark.{Mark}
use Rattle.pld_parse.specs.declared.token.Mark.TheVariants as mark
use Rattle.pld_parse.specs.declared.token.Stuck.{Stuck}
use Rattle.pld_parse.specs.declared.token.Stuck.TheVariants.{NoMemory, At}
use Rattle.pld_parse.specs.declared.prefix.PrefixForm.{PrefixForm}
use Rattle.pld_parse.specs.Reading.{stuck, Failed, Parsed, symbol_of_mark, BeginsOtherwise, IsAskedFor, exactly, after, NoType, NoPrefix, all_written, all_applied, NoOperator, NoOperatorAt, BeginsWithOperator, LevelPart, ClosedPart, closing, on}
use Rattle.pld_parse.specs.Reading as read
use Rattle.pld_parse.proofs.Prefixes.{all_go, all_found, all_longer}

-- a fault behind is the fault
pub failed_by : (before before' : Needs → Needs) (ts ts' : List Symbol) (e : Stuck) → ((ns : Needs) → (ns' : Needs) × (stuck ts (before ns) ≡ stuck ts' (before' ns'))) → Failed before' ts' e → Failed before ts e
failed_by before before' ts ts' NoMemory f h = tt
failed_by before before' ts ts' (At n) f h = λ ns. let w = f ns in w.1 ∙ h w.0

operated : (k : ℕ) (t : Symbol) (o : BinOp) (ts : List Symbol) (ns : Needs) → IsOperator k t o → stuck (t ∷ ts) (After ∷ ns) ≡ stuck ts (Operand ∷ ns)
operated k t o ts ns is_OrElse = refl
operated k t o ts ns is_AndAlso = refl
operated k t o ts ns is_Or = refl
operated k t o ts ns is_Xor = refl
operated k t o ts ns is_And = refl
operated k t o ts ns is_Eq = refl
operated k t o ts ns is_Ne = refl
operated k t o ts ns is_Lt = refl
operated k t o ts ns is_Le = refl
operated k t o ts ns is_Gt = refl
operated k t o ts ns is_Ge = refl
operated k t o ts ns is_Shl = refl
operated k t o ts ns is_Shr = refl
operated k t o ts ns is_Add = refl
operated k t o ts ns is_Sub = refl
operated k t o ts ns is_Mul = refl
operated k t o ts ns is_Div = refl
operated k t o ts ns is_Rem = refl

-- the value is read so far, and rest begins with an operator of the level k or a looser one, or with none
pub record Reached (k : ℕ) (ts : List Symbol) (value : Expr) (rest : List Symbol) : Type 0 where
  pub goes : (ns : Needs) → stuck ts (Operand ∷ ns) ≡ stuck rest (After ∷ ns)
  pub found : (last : List Symbol) (e : Expr) → Tail k value rest last e → Level (suc k) ts last e
  pub ends : NoOperator k rest
  pub shorter : length rest < length ts

pub reached_first : (k : ℕ) (ts rest : List Symbol) (v : Expr) → Parsed (LevelPart k) read.operand after ts rest v → Reached k ts v rest
reached_first k ts rest v p = record { goes = p.goes; found = λ last e t. chain p.found.0 t; ends = p.found.1; shorter = p.shorter }

operator_goes : (k : ℕ) (ts rest more_tokens : List Symbol) (v : Expr) (o : BinOp) → Reached k ts v rest → BeginsWithOperator k rest o more_tokens → (ns : Needs) → stuck ts (Operand ∷ ns) ≡ stuck more_tokens (Operand ∷ ns)
operator_goes k ts rest m v o r b ns = r.goes ns ∙ ap (λ x. stuck x (After ∷ ns)) b.split ∙ operated k b.token o m ns b.is

pub reached_more : (k : ℕ) (ts rest m behind : List Symbol) (v w : Expr) (o : BinOp) → Reached k ts v rest → BeginsWithOperator k rest o m → Parsed (LevelPart k) read.operand after m behind w → Reached k ts (Binary o v w) behind
reached_more k ts rest m behind v w o r b p =
    let a : length rest < length ts = r.shorter in
    let c : length behind < length m = p.shorter in
    let d : length rest ≡ suc (length m) = ap length b.split in
    record {
      goes = λ ns. operator_goes k ts rest m v o r b ns ∙ p.goes ns;
      found = λ last e t. r.found last e (subst (λ x. Tail k v x last e) (sym b.split) (more b.is p.found.0 t));
      ends = p.found.1;
      shorter = omega arith;
    }

pub reached_wrong : (k : ℕ) (ts rest m : List Symbol) (v : Expr) (o : BinOp) (e : Stuck) → Reached k ts v rest → BeginsWithOperator k rest o m → Failed read.operand m e → Failed read.operand ts e
reached_wrong k ts rest m v o e r b f = failed_by read.operand read.operand ts m e (λ ns. (ns, operator_goes k ts rest m v o r b ns)) f

eq_or_less : (a b : ℕ) → a ≤ b → (a ≡ b) ⊎ (suc a ≤ b)
eq_or_less zero zero h = inl refl
eq_or_less zero (suc b) h = inr (omega arith)
eq_or_less (suc a) zero h = absurd (omega arith)
eq_or_less (suc a) (suc b) h = elim (eq_or_less a b (omega arith)) [ inl e ↦ inl (ap suc e) | inr e ↦ inr (omega arith) ]

no_operator_up_to : (k : ℕ) (ts : List Symbol) → NoOperator k ts → NoOperatorAt k ts → NoOperator (suc k) ts
no_operator_up_to k [] h g = tt
no_operator_up_to k (t ∷ ts) h g = λ j o i. elim (eq_or_less k j (h j o i)) [ inl e ↦ absurd (g t o ts refl (subst (λ x. IsOperator x t o) (sym e) i)) | inr w ↦ w ]

pub reached_end : (k : ℕ) (ts rest : List Symbol) (v : Expr) → Reached k ts v rest → NoOperatorAt k rest → Parsed (LevelPart (suc k)) read.operand after ts rest v
reached_end k ts rest v r h = record { found = (r.found rest v end, no_operator_up_to k rest r.ends h); goes = r.goes; shorter = r.shorter }

any_operator : (ts : List Symbol) → NoOperator 0 ts
any_operator [] = tt
any_operator (t ∷ ts) = λ k o i. omega arith

pub with_prefixes : (fs : List PrefixForm) (ts mid rest : List Symbol) (v : Expr) → ts ≡ all_written fs mid → Parsed Prefix read.operand after mid rest v → Parsed (LevelPart 0) read.operand after ts rest (all_applied fs v)
with_prefixes fs ts mid rest v s p =
    let a : length rest < length mid = p.shorter in
    let b : length ts ≡ length (all_written fs mid) = ap length s in
    record {
      found = (operand (subst (λ x. Prefix x rest (all_applied fs v)) (sym s) (all_found fs mid rest v p.found)), any_operator rest);
      goes = λ ns. ap (λ x. stuck x (Operand ∷ ns)) s ∙ all_go fs mid ns ∙ p.goes ns;
      shorter = omega (arith, all_longer fs mid);
    }

pub prefixes_wrong : (fs : List PrefixForm) (ts mid : List Symbol) (e : Stuck) → ts ≡ all_written fs mid → Failed read.operand mid e → Failed read.operand ts e
prefixes_wrong fs ts mid e s f = failed_by read.operand read.operand ts mid e (λ ns. (ns, ap (λ x. stuck x (Operand ∷ ns)) s ∙ all_go fs mid ns)) f

-- behind a whole expression
whole : (ts : List Symbol) → NoOperator 10 ts → (m : machine.Mark) (ns : Needs) → stuck ts (After ∷ Exactly m ∷ ns) ≡ stuck ts (Exactly m ∷ ns)
whole [] h m ns = refl
whole (token.OrOr ∷ ts) h m ns = let w : 10 ≤ 9 = h 9 binary.OrElse is_OrElse in absurd (omega arith)
whole (token.AndAnd ∷ ts) h m ns = let w : 10 ≤ 8 = h 8 binary.AndAlso is_AndAlso in absurd (omega arith)
whole (token.Bar ∷ ts) h m ns = let w : 10 ≤ 7 = h 7 binary.Or is_Or in absurd (omega arith)
whole (token.Hat ∷ ts) h m ns = let w : 10 ≤ 6 = h 6 binary.Xor is_Xor in absurd (omega arith)
whole (token.Ampersand ∷ ts) h m ns = let w : 10 ≤ 5 = h 5 binary.And is_And in absurd (omega arith)
whole (token.EqualEqual ∷ ts) h m ns = let w : 10 ≤ 4 = h 4 binary.Eq is_Eq in absurd (omega arith)
whole (token.NotEqual ∷ ts) h m ns = let w : 10 ≤ 4 = h 4 binary.Ne is_Ne in absurd (omega arith)
whole (token.Less ∷ ts) h m ns = let w : 10 ≤ 3 = h 3 binary.Lt is_Lt in absurd (omega arith)
whole (token.LessEqual ∷ ts) h m ns = let w : 10 ≤ 3 = h 3 binary.Le is_Le in absurd (omega arith)
whole (token.Greater ∷ ts) h m ns = let w : 10 ≤ 3 = h 3 binary.Gt is_Gt in absurd (omega arith)
whole (token.GreaterEqual ∷ ts) h m ns = let w : 10 ≤ 3 = h 3 binary.Ge is_Ge in absurd (omega arith)
whole (token.ShiftLeft ∷ ts) h m ns = let w : 10 ≤ 2 = h 2 binary.Shl is_Shl in absurd (omega arith)
whole (token.ShiftRight ∷ ts) h m ns = let w : 10 ≤ 2 = h 2 binary.Shr is_Shr in absurd (omega arith)
whole (token.Plus ∷ ts) h m ns = let w : 10 ≤ 1 = h 1 binary.Add is_Add in absurd (omega arith)
whole (token.Minus ∷ ts) h m ns = let w : 10 ≤ 1 = h 1 binary.Sub is_Sub in absurd (omega arith)
whole (token.Star ∷ ts) h m ns = let w : 10 ≤ 0 = h 0 binary.Mul is_Mul in absurd (omega arith)
whole (token.Slash ∷ ts) h m ns = let w : 10 ≤ 0 = h 0 binary.Div is_Div in absurd (omega arith)
whole (token.Percent ∷ ts) h m ns = let w : 10 ≤ 0 = h 0 binary.Rem is_Rem in absurd (omega arith)
whole (_ ∷ ts) h m ns = refl

whole_before : (ts : List Symbol) → NoOperator 10 ts → (m : Mark) → IsAskedFor m → (ns : Needs) → stuck ts (After ∷ exactly m ns) ≡ stuck ts (exactly m ns)
whole_before ts h mark.Void i ns = whole ts h machine.AVoid ns
whole_before ts h mark.Open i ns = whole ts h machine.AnOpen ns
whole_before ts h mark.Close i ns = whole ts h machine.AClose ns
whole_before ts h mark.CloseBracket i ns = whole ts h machine.ACloseBracket ns
whole_before ts h mark.OpenBrace i ns = whole ts h machine.AnOpenBrace ns
whole_before ts h mark.Comma i ns = whole ts h machine.AComma ns
whole_before ts h mark.Semicolon i ns = whole ts h machine.ASemicolon ns
whole_before ts h mark.Assign i ns = whole ts h machine.AnAssign ns
whole_before ts h _ i ns = absurd i

pub taken : (m : Mark) (ts : List Symbol) → IsAskedFor m → (ns : Needs) → stuck (symbol_of_mark m ∷ ts) (exactly m ns) ≡ stuck ts ns
taken mark.Void ts i ns = refl
taken mark.Open ts i ns = refl
taken mark.Close ts i ns = refl
taken mark.CloseBracket ts i ns = refl
taken mark.OpenBrace ts i ns = refl
taken mark.Comma ts i ns = refl
taken mark.Semicolon ts i ns = refl
taken mark.Assign ts i ns = refl
taken _ ts i ns = absurd i

pub closed_by : (m : Mark) (ts mid rest : List Symbol) (v : Expr) → IsAskedFor m → Parsed (LevelPart 10) read.operand after ts mid v → mid ≡ symbol_of_mark m ∷ rest → Parsed (ClosedPart m) (closing m) on ts rest v
closed_by m ts mid rest v i p s =
    let a : length mid < length ts = p.shorter in
    let b : length mid ≡ suc (length rest) = ap length s in
    record {
      found = subst (λ x. Expression ts x v) s p.found.0;
      goes = λ ns. p.goes (exactly m ns) ∙ whole_before mid p.found.1 m i ns ∙ ap (λ x. stuck x (exactly m ns)) s ∙ taken m rest i ns;
      shorter = omega arith;
    }

pub value_wrong : (m : Mark) (ts : List Symbol) (e : Stuck) → Failed read.operand ts e → Failed (closing m) ts e
value_wrong m ts e f = failed_by (closing m) read.operand ts ts e (λ ns. (exactly m ns, refl)) f

pub not_closed : (m : Mark) (ts mid : List Symbol) (v : Expr) (e : Stuck) → IsAskedFor m → Parsed (LevelPart 10) read.operand after ts mid v → Failed (exactly m) mid e → Failed (closing m) ts e
not_closed m ts mid v e i p f = failed_by (closing m) (exactly m) ts mid e (λ ns. (ns, p.goes (exactly m ns) ∙ whole_before mid p.found.1 m i ns)) f

no_index : (ts : List Symbol) → BeginsOtherwise mark.OpenBracket ts → (ns : Needs) → stuck ts (AfterName ∷ ns) ≡ stuck ts (After ∷ ns)
no_index [] h ns = refl
no_index (token.OpenBracket ∷ ts) h ns = absurd (h ts refl)
no_index (_ ∷ ts) h ns = refl

pub a_variable : (x : Used) (ts : List Symbol) → BeginsOtherwise mark.OpenBracket ts → Parsed Prefix read.operand after (token.Ident x ∷ ts) ts (Var x)
a_variable x ts h = record { found = variable; goes = λ ns. no_index ts h ns; shorter = omega arith }

pub an_element : (x : Used) (ts inner rest : List Symbol) (v : Expr) → ts ≡ token.OpenBracket ∷ inner → Parsed (ClosedPart mark.CloseBracket) (closing mark.CloseBracket) on inner rest v → Parsed Prefix read.operand after (token.Ident x ∷ ts) rest (Element x v)
an_element x ts inner rest v s p =
    let a : length rest < length inner = p.shorter in
    let b : length ts ≡ suc (length inner) = ap length s in
    record {
      found = subst (λ y. Prefix (token.Ident x ∷ y) rest (Element x v)) (sym s) (element p.found);
      goes = λ ns. ap (λ y. stuck (token.Ident x ∷ y) (Operand ∷ ns)) s ∙ p.goes (After ∷ ns);
      shorter = omega arith;
    }

pub index_wrong : (x : Used) (ts inner : List Symbol) (e : Stuck) → ts ≡ token.OpenBracket ∷ inner → Failed (closing mark.CloseBracket) inner e → Failed read.operand (token.Ident x ∷ ts) e
index_wrong x ts inner e s f = failed_by read.operand (closing mark.CloseBracket) (token.Ident x ∷ ts) inner e (λ ns. (After ∷ ns, ap (λ y. stuck (token.Ident x ∷ y) (Operand ∷ ns)) s)) f

opened : (ts : List Symbol) → NoType ts → (ns : Needs) → stuck ts (AfterOpen ∷ ns) ≡ stuck ts (Operand ∷ Exactly AClose ∷ After ∷ ns)
opened [] h ns = refl
opened (token.Int ∷ ts) h ns = absurd h
opened (token.Uint ∷ ts) h ns = absurd h
opened (_ ∷ ts) h ns = refl

pub a_group : (ts rest : List Symbol) (v : Expr) → NoType ts → Parsed (ClosedPart mark.Close) (closing mark.Close) on ts rest v → Parsed Prefix read.operand after (token.Open ∷ ts) rest v
a_group ts rest v h p =
    let a : length rest < length ts = p.shorter in
    record { found = group p.found; goes = λ ns. opened ts h ns ∙ p.goes (After ∷ ns); shorter = omega arith }

pub group_wrong : (ts : List Symbol) (e : Stuck) → NoType ts → Failed (closing mark.Close) ts e → Failed read.operand (token.Open ∷ ts) e
group_wrong ts e h f = failed_by read.operand (closing mark.Close) (token.Open ∷ ts) ts e (λ ns. (After ∷ ns, opened ts h ns)) f

one_level : (k l : ℕ) (t : Symbol) (o p : BinOp) → IsOperator k t o → IsOperator l t p → k ≡ l
one_level k l t o p is_OrElse is_OrElse = refl
one_level k l t o p is_AndAlso is_AndAlso = refl
one_level k l t o p is_Or is_Or = refl
one_level k l t o p is_Xor is_Xor = refl
one_level k l t o p is_And is_And = refl
one_level k l t o p is_Eq is_Eq = refl
one_level k l t o p is_Ne is_Ne = refl
one_level k l t o p is_Lt is_Lt = refl
one_level k l t o p is_Le is_Le = refl
one_level k l t o p is_Gt is_Gt = refl
one_level k l t o p is_Ge is_Ge = refl
one_level k l t o p is_Shl is_Shl = refl
one_level k l t o p is_Shr is_Shr = refl
one_level k l t o p is_Add is_Add = refl
one_level k l t o p is_Sub is_Sub = refl
one_level k l t o p is_Mul is_Mul = refl
one_level k l t o p is_Div is_Div = refl
one_level k l t o p is_Rem is_Rem = refl

pub other_level : (k l : ℕ) (ts more_tokens : List Symbol) (s : Symbol) (o : BinOp) → ts ≡ s ∷ more_tokens → IsOperator k s o → (k ≡ l → ⊥) → NoOperatorAt l ts
other_level k l ts m s o e i h t p rest f j = let g : s ≡ t = cc (e, f) in h (one_level k l t o p (subst (λ x. IsOperator k x o) g i) j)

pub first_level : (k n : ℕ) (ts rest : List Symbol) (v : Expr) → n ≡ 0 → Parsed (LevelPart 0) read.operand after ts rest v → Parsed (LevelPart n) read.operand after ts rest v
first_level k n ts rest v e p = subst (λ x. Parsed (LevelPart x) read.operand after ts rest v) (sym e) p

pub levels_end : (k n : ℕ) (ts rest : List Symbol) (v : Expr) → suc k ≡ n → Reached k ts v rest → NoOperatorAt k rest → Parsed (LevelPart n) read.operand after ts rest v
levels_end k n ts rest v e r h = subst (λ x. Parsed (LevelPart x) read.operand after ts rest v) e (reached_end k ts rest v r h)

a_number : (ts rest : List Symbol) (n : ℕ) (t : Ty) → ts ≡ token.Number n t ∷ rest → Parsed Prefix read.operand after ts rest (Lit n t)
a_number ts rest n t s = subst (λ x. Parsed Prefix read.operand after x rest (Lit n t)) (sym s) (record { found = number; goes = λ ns. refl; shorter = omega arith })

no_operand_at : (at : Place) (k : TokenKind) (rest : List Symbol) (ns : Needs) → ((n : ℕ) (t : Ty) → k ≡ kind.Number n t → ⊥) → ((x : List ℕ) → k ≡ kind.Ident x → ⊥) → (k ≡ kind.Open → ⊥) → NoPrefix (symbol_at at k ∷ rest)
    → stuck (symbol_at at k ∷ rest) (Operand ∷ ns) ≡ Some (suc (length rest))
no_operand_at at (kind.Number n t) rest ns a b c h = absurd (a n t refl)
no_operand_at at (kind.Ident x) rest ns a b c h = absurd (b x refl)
no_operand_at at kind.Open rest ns a b c h = absurd (c refl)
no_operand_at at kind.Minus rest ns a b c h = absurd h
no_operand_at at kind.Plus rest ns a b c h = absurd h
no_operand_at at kind.Tilde rest ns a b c h = absurd h
no_operand_at at kind.Bang rest ns a b c h = absurd h
no_operand_at at _ rest ns a b c h = refl

pub no_operand : (ts : List Token) (at : Place) (k : TokenKind) (rest : List Symbol) → symbols ts ≡ symbol_at at k ∷ rest → ((n : ℕ) (t : Ty) → k ≡ kind.Number n t → ⊥) → ((x : List ℕ) → k ≡ kind.Ident x → ⊥) → (k ≡ kind.Open → ⊥) → NoPrefix (symbols ts)
    → (ns : Needs) → stuck (symbols ts) (Operand ∷ ns) ≡ Some (length ts)
no_operand ts at k rest s a b c h ns =
    ap (λ x. stuck x (Operand ∷ ns)) s ∙ no_operand_at at k rest ns a b c (subst NoPrefix s h) ∙ ap (λ x. Some (length x)) (sym s) ∙ ap Some (length-map ts symbol_of)

pub a_number_at : (ts rest : List Symbol) (at : Place) (k : TokenKind) (n : ℕ) (t : Ty) → ts ≡ symbol_at at k ∷ rest → k ≡ kind.Number n t → Parsed Prefix read.operand after ts rest (Lit n t)
a_number_at ts rest at k n t s e = a_number ts rest n t (s ∙ ap (λ x. symbol_at at x ∷ rest) e)

pub prefixes_shorter : (fs : List PrefixForm) (ts mid : List Symbol) → ts ≡ all_written fs mid → length mid ≤ length ts
prefixes_shorter fs ts mid s = subst (λ x. length mid ≤ length x) (sym s) (all_longer fs mid)
