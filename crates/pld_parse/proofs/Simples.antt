-- Statements without a block.
use Rattle.std.proofs.Common.{suc, ◌≤◌, ◌<◌, ◌≡◌, refl, sym, ◌∙◌, ap, subst, List, [], ◌∷◌, length, arith}
use Rattle.pld_ast.specs.declared.tree.BinOp.{BinOp}
use Rattle.pld_ast.specs.declared.tree.BinOp.TheVariants as binary
use Rattle.pld_ast.specs.declared.tree.Used.{Used}
use Rattle.pld_ast.specs.declared.tree.Expr.{Expr}
use Rattle.pld_ast.specs.declared.tree.Target.{Target}
use Rattle.pld_ast.specs.declared.tree.Target.TheVariants as target
use Rattle.pld_ast.specs.declared.tree.Stmt.{Stmt}
use Rattle.pld_ast.specs.declared.tree.Stmt.TheVariants.{Assign, Read, Write}
use Rattle.pld_grammar.specs.Symbols.{Symbol}
use Rattle.pld_grammar.specs.Symbols as token
use Rattle.pld_grammar.specs.Rewritings.{one_step, updated, one}
use Rattle.pld_grammar.specs.Grammar.{IsAssignment, by_Add, by_Sub, by_Mul, by_Div, by_Rem, by_And, by_Or, by_Xor, by_Shl, by_Shr, Expression, IsTarget, scalar, cell, Simple, Statement}
use Rattle.pld_grammar.specs.Grammar as grammar
use Rattle.pld_grammar.specs.Machine.{Needs, Exactly, Operand, AfterTarget, AfterElement, AfterSimple, AfterSimpleElement, InBlock, ASemicolon}
use Rattle.pld_parse.specs.declared.token.Mark.{Mark}
use Rattle.pld_parse.specs.declared.token.Mark.TheVariants as mark
use Rattle.pld_parse.specs.declared.token.Stuck.{Stuck}
use Rattle.pld_parse.specs.declared.simple.Change.TheVariants.{Set, Update, Count}
use Rattle.pld_parse.specs.Reading.{stuck, Failed, Parsed, symbol_of_mark, BeginsOtherwise, IsAskedFor, exactly, ClosedPart, closing, on, TargetRead, after_target, after_simple, TargetFailed, IsChange, set, update, up, down, BeginsWithChange, changing, Changed, SimplePart, simply, NoRead, after_element, Assigned, in_block, StatementPart}
use Rattle.pld_parse.proofs.Expressions.{failed_by, taken}

scalar_alone : (ts : List Symbol) → BeginsOtherwise mark.OpenBracket ts → (ns : Needs) → stuck ts (AfterTarget ∷ ns) ≡ stuck ts (AfterElement ∷ ns)
scalar_alone [] h ns = refl
scalar_alone (token.OpenBracket ∷ ts) h ns = absurd (h ts refl)
scalar_alone (_ ∷ ts) h ns = refl

scalar_within : (ts : List Symbol) → BeginsOtherwise mark.OpenBracket ts → (ns : Needs) → stuck ts (AfterSimple ∷ ns) ≡ stuck ts (AfterSimpleElement ∷ ns)
scalar_within [] h ns = refl
scalar_within (token.OpenBracket ∷ ts) h ns = absurd (h ts refl)
scalar_within (_ ∷ ts) h ns = refl

pub a_scalar : (x : Used) (ts : List Symbol) → BeginsOtherwise mark.OpenBracket ts → TargetRead x ts ts (target.Scalar x)
a_scalar x ts h = record { found = scalar; alone = λ ns. scalar_alone ts h ns; within = λ ns. scalar_within ts h ns; shorter = omega arith }

pub a_cell : (x : Used) (ts inner rest : List Symbol) (v : Expr) → ts ≡ token.OpenBracket ∷ inner → Parsed (ClosedPart mark.CloseBracket) (closing mark.CloseBracket) on inner rest v → TargetRead x ts rest (target.Element x v)
a_cell x ts inner rest v s p =
    let a : length rest < length inner = p.shorter in
    let b : length ts ≡ suc (length inner) = ap length s in
    record {
      found = subst (λ y. IsTarget (token.Ident x ∷ y) rest (target.Element x v)) (sym s) (cell p.found);
      alone = λ ns. ap (λ y. stuck y (AfterTarget ∷ ns)) s ∙ p.goes (AfterElement ∷ ns);
      within = λ ns. ap (λ y. stuck y (AfterSimple ∷ ns)) s ∙ p.goes (AfterSimpleElement ∷ ns);
      shorter = omega arith;
    }

of_set : {t : Symbol} → IsChange t Set → t ≡ token.Assign
of_set set = refl

of_update : {t : Symbol} {o : BinOp} → IsChange t (Update o) → IsAssignment t o
of_update (update i) = i

data Counting (t : Symbol) (o : BinOp) : Type 0 where
  by_one : t ≡ token.PlusPlus → o ≡ binary.Add → Counting t o
  less_one : t ≡ token.MinusMinus → o ≡ binary.Sub → Counting t o

of_count : {t : Symbol} {o : BinOp} → IsChange t (Count o) → Counting t o
of_count up = by_one refl refl
of_count down = less_one refl refl

set_goes : (m : Mark) (ts more : List Symbol) → BeginsWithChange ts Set more → (ns : Needs) → stuck ts (AfterSimpleElement ∷ exactly m ns) ≡ stuck more (Operand ∷ exactly m ns)
set_goes m ts more b ns = ap (λ y. stuck y (AfterSimpleElement ∷ exactly m ns)) (b.split ∙ ap (λ t. t ∷ more) (of_set b.is))

assignment_goes : (t : Symbol) (o : BinOp) (ts : List Symbol) (ns : Needs) → IsAssignment t o → stuck (t ∷ ts) (AfterSimpleElement ∷ ns) ≡ stuck ts (Operand ∷ ns)
assignment_goes t o ts ns by_Add = refl
assignment_goes t o ts ns by_Sub = refl
assignment_goes t o ts ns by_Mul = refl
assignment_goes t o ts ns by_Div = refl
assignment_goes t o ts ns by_Rem = refl
assignment_goes t o ts ns by_And = refl
assignment_goes t o ts ns by_Or = refl
assignment_goes t o ts ns by_Xor = refl
assignment_goes t o ts ns by_Shl = refl
assignment_goes t o ts ns by_Shr = refl

update_goes : (m : Mark) (o : BinOp) (ts more : List Symbol) → BeginsWithChange ts (Update o) more → (ns : Needs) → stuck ts (AfterSimpleElement ∷ exactly m ns) ≡ stuck more (Operand ∷ exactly m ns)
update_goes m o ts more b ns = ap (λ y. stuck y (AfterSimpleElement ∷ exactly m ns)) b.split ∙ assignment_goes b.token o more (exactly m ns) (of_update b.is)

count_goes : (m : Mark) (o : BinOp) (ts more : List Symbol) → BeginsWithChange ts (Count o) more → (ns : Needs) → stuck ts (AfterSimpleElement ∷ exactly m ns) ≡ stuck more (exactly m ns)
count_goes m o ts more b ns = elim (of_count b.is) [
  | by_one e f ↦ ap (λ y. stuck y (AfterSimpleElement ∷ exactly m ns)) (b.split ∙ ap (λ t. t ∷ more) e)
  | less_one e f ↦ ap (λ y. stuck y (AfterSimpleElement ∷ exactly m ns)) (b.split ∙ ap (λ t. t ∷ more) e)
]

pub set_wrong : (m : Mark) (ts more : List Symbol) (e : Stuck) → BeginsWithChange ts Set more → Failed (closing m) more e → Failed (changing m) ts e
set_wrong m ts more e b f = failed_by (changing m) (closing m) ts more e (λ ns. (ns, set_goes m ts more b ns)) f

pub update_wrong : (m : Mark) (o : BinOp) (ts more : List Symbol) (e : Stuck) → BeginsWithChange ts (Update o) more → Failed (closing m) more e → Failed (changing m) ts e
update_wrong m o ts more e b f = failed_by (changing m) (closing m) ts more e (λ ns. (ns, update_goes m o ts more b ns)) f

pub count_wrong : (m : Mark) (o : BinOp) (ts more : List Symbol) (e : Stuck) → BeginsWithChange ts (Count o) more → Failed (exactly m) more e → Failed (changing m) ts e
count_wrong m o ts more e b f = failed_by (changing m) (exactly m) ts more e (λ ns. (ns, count_goes m o ts more b ns)) f

pub is_set : (t : Target) (m : Mark) (ts more rest : List Symbol) (v : Expr) → BeginsWithChange ts Set more → Parsed (ClosedPart m) (closing m) on more rest v → Changed t m ts rest (Assign t v)
is_set t m ts more rest v b p =
    let s : ts ≡ token.Assign ∷ more = b.split ∙ ap (λ x. x ∷ more) (of_set b.is) in
    let a : length rest < length more = p.shorter in
    let c : length ts ≡ suc (length more) = ap length s in
    record {
      found = λ whole x. grammar.assign (subst (λ y. IsTarget whole y t) s x) p.found;
      goes = λ ns. set_goes m ts more b ns ∙ p.goes ns;
      shorter = omega arith;
    }

pub is_updated : (t : Target) (m : Mark) (o : BinOp) (ts more rest : List Symbol) (v : Expr) → BeginsWithChange ts (Update o) more → Parsed (ClosedPart m) (closing m) on more rest v → Changed t m ts rest (updated t o v)
is_updated t m o ts more rest v b p =
    let a : length rest < length more = p.shorter in
    let c : length ts ≡ suc (length more) = ap length b.split in
    record {
      found = λ whole x. grammar.update (subst (λ y. IsTarget whole y t) b.split x) (of_update b.is) p.found;
      goes = λ ns. update_goes m o ts more b ns ∙ p.goes ns;
      shorter = omega arith;
    }

counted_found : (t : Target) (m : Mark) (o : BinOp) (ts more rest whole : List Symbol) → BeginsWithChange ts (Count o) more → more ≡ symbol_of_mark m ∷ rest → IsTarget whole ts t → Simple whole (symbol_of_mark m ∷ rest) (updated t o one)
counted_found t m o ts more rest whole b e x = elim (of_count b.is) [
  | by_one f g ↦
      let s : ts ≡ token.PlusPlus ∷ symbol_of_mark m ∷ rest = b.split ∙ ap (λ y. y ∷ more) f ∙ ap (λ y. token.PlusPlus ∷ y) e in
      subst (λ y. Simple whole (symbol_of_mark m ∷ rest) (updated t y one)) (sym g) (grammar.increment (subst (λ y. IsTarget whole y t) s x))
  | less_one f g ↦
      let s : ts ≡ token.MinusMinus ∷ symbol_of_mark m ∷ rest = b.split ∙ ap (λ y. y ∷ more) f ∙ ap (λ y. token.MinusMinus ∷ y) e in
      subst (λ y. Simple whole (symbol_of_mark m ∷ rest) (updated t y one)) (sym g) (grammar.decrement (subst (λ y. IsTarget whole y t) s x))
]

pub is_counted : (t : Target) (m : Mark) (o : BinOp) (ts more rest : List Symbol) → IsAskedFor m → BeginsWithChange ts (Count o) more → more ≡ symbol_of_mark m ∷ rest → Changed t m ts rest (updated t o one)
is_counted t m o ts more rest i b e =
    let a : length more ≡ suc (length rest) = ap length e in
    let c : length ts ≡ suc (length more) = ap length b.split in
    record {
      found = λ whole x. counted_found t m o ts more rest whole b e x;
      goes = λ ns. count_goes m o ts more b ns ∙ ap (λ y. stuck y (exactly m ns)) e ∙ taken m rest i ns;
      shorter = omega arith;
    }

pub simple_target_wrong : (m : Mark) (x : Used) (ts more : List Symbol) (e : Stuck) → ts ≡ token.Ident x ∷ more → TargetFailed more e → Failed (simply m) ts e
simple_target_wrong m x ts more e s f = failed_by (simply m) after_simple ts more e (λ ns. (exactly m ns, ap (λ y. stuck y (simply m ns)) s)) f.1

simple_goes : (m : Mark) (x : Used) (t : Target) (ts more behind : List Symbol) → ts ≡ token.Ident x ∷ more → TargetRead x more behind t → (ns : Needs) → stuck ts (simply m ns) ≡ stuck behind (changing m ns)
simple_goes m x t ts more behind s r ns = ap (λ y. stuck y (simply m ns)) s ∙ r.within (exactly m ns)

pub a_simple : (m : Mark) (x : Used) (t : Target) (ts more behind rest : List Symbol) (v : Stmt) → ts ≡ token.Ident x ∷ more → TargetRead x more behind t → Changed t m behind rest v → Parsed (SimplePart m) (simply m) on ts rest v
a_simple m x t ts more behind rest v s r c =
    let a : length rest < length behind = c.shorter in
    let b : length behind ≤ length more = r.shorter in
    let d : length ts ≡ suc (length more) = ap length s in
    record {
      found = subst (λ y. Simple y (symbol_of_mark m ∷ rest) v) (sym s) (c.found (token.Ident x ∷ more) r.found);
      goes = λ ns. simple_goes m x t ts more behind s r ns ∙ c.goes ns;
      shorter = omega arith;
    }

pub simple_wrong : (m : Mark) (x : Used) (t : Target) (ts more behind : List Symbol) (e : Stuck) → ts ≡ token.Ident x ∷ more → TargetRead x more behind t → Failed (changing m) behind e → Failed (simply m) ts e
simple_wrong m x t ts more behind e s r f = failed_by (simply m) (changing m) ts behind e (λ ns. (ns, simple_goes m x t ts more behind s r ns)) f

-- what is no read goes on as a change
no_read : (ts : List Symbol) → NoRead ts → (ns : Needs) → stuck ts (AfterElement ∷ ns) ≡ stuck ts (AfterSimpleElement ∷ Exactly ASemicolon ∷ ns)
no_read [] h ns = refl
no_read (token.Assign ∷ []) h ns = refl
no_read (token.Assign ∷ token.Read ∷ ts) h ns = absurd (h ts refl)
no_read (token.Assign ∷ _ ∷ ts) h ns = refl
no_read (_ ∷ ts) h ns = refl

pub assigned_change : (t : Target) (ts rest : List Symbol) (v : Stmt) → NoRead ts → Changed t mark.Semicolon ts rest v → Assigned t ts rest v
assigned_change t ts rest v h c = record { found = λ whole x. grammar.simple (c.found whole x); goes = λ ns. no_read ts h ns ∙ c.goes ns; shorter = c.shorter }

pub assigned_wrong : (ts : List Symbol) (e : Stuck) → NoRead ts → Failed (changing mark.Semicolon) ts e → Failed after_element ts e
assigned_wrong ts e h f = failed_by after_element (changing mark.Semicolon) ts ts e (λ ns. (ns, no_read ts h ns)) f

pub is_read : (t : Target) (p : Used) (ts rest : List Symbol) → ts ≡ token.Open ∷ token.Ident p ∷ token.Close ∷ token.Semicolon ∷ rest → Assigned t (token.Assign ∷ token.Read ∷ ts) rest (Read t p)
is_read t p ts rest s =
    let a : length ts ≡ suc (suc (suc (suc (length rest)))) = ap length s in
    record { found = λ whole x. grammar.read (subst (λ y. IsTarget whole (token.Assign ∷ token.Read ∷ y) t) s x); goes = λ ns. ap (λ y. stuck (token.Assign ∷ token.Read ∷ y) (AfterElement ∷ ns)) s; shorter = omega arith }

pub read_from : (t : Target) (ts more rest : List Symbol) (v : Stmt) → ts ≡ token.Assign ∷ token.Read ∷ more → Assigned t (token.Assign ∷ token.Read ∷ more) rest v → Assigned t ts rest v
read_from t ts more rest v s a = subst (λ y. Assigned t y rest v) (sym s) a

pub read_wrong : (ts more : List Symbol) (e : Stuck) → ts ≡ token.Assign ∷ token.Read ∷ more → Failed after_element (token.Assign ∷ token.Read ∷ more) e → Failed after_element ts e
read_wrong ts more e s f = subst (λ y. Failed after_element y e) (sym s) f

pub target_wrong : (x : Used) (ts : List Symbol) (e : Stuck) → TargetFailed ts e → Failed in_block (token.Ident x ∷ ts) e
target_wrong x ts e f = failed_by in_block after_target (token.Ident x ∷ ts) ts e (λ ns. (InBlock ∷ ns, refl)) f.0

pub an_assignment : (x : Used) (t : Target) (ts behind rest : List Symbol) (v : Stmt) → TargetRead x ts behind t → Assigned t behind rest v → Parsed StatementPart in_block in_block (token.Ident x ∷ ts) rest v
an_assignment x t ts behind rest v r a =
    let b : length behind ≤ length ts = r.shorter in
    let c : length rest < length behind = a.shorter in
    record { found = a.found (token.Ident x ∷ ts) r.found; goes = λ ns. r.alone (InBlock ∷ ns) ∙ a.goes (InBlock ∷ ns); shorter = omega arith }

pub assignment_wrong : (x : Used) (t : Target) (ts behind : List Symbol) (e : Stuck) → TargetRead x ts behind t → Failed after_element behind e → Failed in_block (token.Ident x ∷ ts) e
assignment_wrong x t ts behind e r f = failed_by in_block after_element (token.Ident x ∷ ts) behind e (λ ns. (InBlock ∷ ns, r.alone (InBlock ∷ ns))) f

abbrev pub written_head : Used → List Symbol → List Symbol
written_head p more = token.Open ∷ token.Ident p ∷ token.Comma ∷ more

pub a_write : (p : Used) (ts more behind rest : List Symbol) (v : Expr) → ts ≡ written_head p more → Parsed (ClosedPart mark.Close) (closing mark.Close) on more behind v → behind ≡ token.Semicolon ∷ rest → Parsed StatementPart in_block in_block (token.Write ∷ ts) rest (Write p v)
a_write p ts more behind rest v s q r =
    let a : length behind < length more = q.shorter in
    let b : length behind ≡ suc (length rest) = ap length r in
    let c : length ts ≡ suc (suc (suc (length more))) = ap length s in
    record {
      found = subst (λ y. Statement (token.Write ∷ y) rest (one_step (Write p v))) (sym s) (grammar.write (subst (λ y. Expression more (token.Close ∷ y) v) r q.found));
      goes = λ ns. ap (λ y. stuck (token.Write ∷ y) (InBlock ∷ ns)) s ∙ q.goes (Exactly ASemicolon ∷ InBlock ∷ ns) ∙ ap (λ y. stuck y (Exactly ASemicolon ∷ InBlock ∷ ns)) r;
      shorter = omega arith;
    }

pub write_unended : (p : Used) (ts more behind : List Symbol) (v : Expr) (e : Stuck) → ts ≡ written_head p more → Parsed (ClosedPart mark.Close) (closing mark.Close) on more behind v → Failed (exactly mark.Semicolon) behind e → Failed in_block (token.Write ∷ ts) e
write_unended p ts more behind v e s q f = failed_by in_block (exactly mark.Semicolon) (token.Write ∷ ts) behind e (λ ns. (InBlock ∷ ns, ap (λ y. stuck (token.Write ∷ y) (InBlock ∷ ns)) s ∙ q.goes (Exactly ASemicolon ∷ InBlock ∷ ns))) f
