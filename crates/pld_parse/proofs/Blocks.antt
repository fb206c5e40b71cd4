-- Statements with blocks.
use Rattle.std.proofs.Common.{suc, ◌≤◌, ◌<◌, ◌≡◌, refl, sym, ◌∙◌, ap, subst, List, [], ◌∷◌, ◌++◌, length, arith, append_assoc, append-nil}
use Rattle.pld_ast.specs.declared.tree.Expr.{Expr}
use Rattle.pld_ast.specs.declared.tree.Stmt.{Stmt}
use Rattle.pld_ast.specs.declared.tree.Stmt.TheVariants.{If, While, Return}
use Rattle.pld_base.specs.declared.event.Place.{Place}
use Rattle.pld_lex.specs.declared.token.TokenKind.{TokenKind}
use Rattle.pld_lex.specs.declared.token.TokenKind.TheVariants as kind
use Rattle.pld_grammar.specs.Symbols.{Symbol, symbol_at}
use Rattle.pld_grammar.specs.Symbols as token
use Rattle.pld_grammar.specs.Rewritings.{one_step}
use Rattle.pld_grammar.specs.Grammar.{Expression, Simple, Statement, Statements, Block, IfStatement, if_only, if_else, else_if, braces, none, then}
use Rattle.pld_grammar.specs.Grammar as grammar
use Rattle.pld_grammar.specs.Machine.{Needs, Exactly, AfterIf, AfterElse, InBlock, AnOpenBrace, if_rest}
use Rattle.pld_parse.specs.declared.token.Mark.TheVariants as mark
use Rattle.pld_parse.specs.declared.token.Stuck.{Stuck}
use Rattle.pld_parse.specs.declared.statement.Arm.{Arm}
use Rattle.pld_parse.specs.Reading.{stuck, Failed, Parsed, BeginsOtherwise, exactly, ClosedPart, closing, on, SimplePart, simply, in_block, StatementPart, testing, TestRead, heading, HeadRead, BlockPart, bracing, Added, chained}
use Rattle.pld_parse.proofs.Expressions.{failed_by}

-- ---- tests and the heads of `for`

test_goes : (ts inner mid : List Symbol) (c : Expr) → ts ≡ token.Open ∷ inner → Parsed (ClosedPart mark.Close) (closing mark.Close) on inner mid c → (ns : Needs) → stuck ts (testing ns) ≡ stuck mid (Exactly AnOpenBrace ∷ ns)
test_goes ts inner mid c s p ns = ap (λ y. stuck y (testing ns)) s ∙ p.goes (Exactly AnOpenBrace ∷ ns)

pub a_test : (ts inner mid rest : List Symbol) (c : Expr) → ts ≡ token.Open ∷ inner → Parsed (ClosedPart mark.Close) (closing mark.Close) on inner mid c → mid ≡ token.OpenBrace ∷ rest → TestRead ts rest c
a_test ts inner mid rest c s p r =
    let a : length mid < length inner = p.shorter in
    let b : length mid ≡ suc (length rest) = ap length r in
    let d : length ts ≡ suc (length inner) = ap length s in
    record {
      inner = inner;
      opened = s;
      found = subst (λ y. Expression inner (token.Close ∷ y) c) r p.found;
      goes = λ ns. test_goes ts inner mid c s p ns ∙ ap (λ y. stuck y (Exactly AnOpenBrace ∷ ns)) r;
      shorter = omega arith;
    }

pub test_unended : (ts inner mid : List Symbol) (c : Expr) (e : Stuck) → ts ≡ token.Open ∷ inner → Parsed (ClosedPart mark.Close) (closing mark.Close) on inner mid c → Failed (exactly mark.OpenBrace) mid e → Failed testing ts e
test_unended ts inner mid c e s p f = failed_by testing (exactly mark.OpenBrace) ts mid e (λ ns. (ns, test_goes ts inner mid c s p ns)) f

abbrev after_start : Needs → Needs
after_start ns = closing mark.Semicolon (simply mark.Close (Exactly AnOpenBrace ∷ ns))

abbrev after_test : Needs → Needs
after_test ns = simply mark.Close (Exactly AnOpenBrace ∷ ns)

start_goes : (ts head t1 : List Symbol) (a : Stmt) → ts ≡ token.Open ∷ head → Parsed (SimplePart mark.Semicolon) (simply mark.Semicolon) on head t1 a → (ns : Needs) → stuck ts (heading ns) ≡ stuck t1 (after_start ns)
start_goes ts head t1 a s p ns = ap (λ y. stuck y (heading ns)) s ∙ p.goes (after_start ns)

pub start_wrong : (ts head : List Symbol) (e : Stuck) → ts ≡ token.Open ∷ head → Failed (simply mark.Semicolon) head e → Failed heading ts e
start_wrong ts head e s f = failed_by heading (simply mark.Semicolon) ts head e (λ ns. (after_start ns, ap (λ y. stuck y (heading ns)) s)) f

pub head_test_wrong : (ts head t1 : List Symbol) (a : Stmt) (e : Stuck) → ts ≡ token.Open ∷ head → Parsed (SimplePart mark.Semicolon) (simply mark.Semicolon) on head t1 a → Failed (closing mark.Semicolon) t1 e → Failed heading ts e
head_test_wrong ts head t1 a e s p f = failed_by heading (closing mark.Semicolon) ts t1 e (λ ns. (after_test ns, start_goes ts head t1 a s p ns)) f

pub step_wrong : (ts head t1 t2 : List Symbol) (a : Stmt) (c : Expr) (e : Stuck) → ts ≡ token.Open ∷ head → Parsed (SimplePart mark.Semicolon) (simply mark.Semicolon) on head t1 a → Parsed (ClosedPart mark.Semicolon) (closing mark.Semicolon) on t1 t2 c
    → Failed (simply mark.Close) t2 e → Failed heading ts e
step_wrong ts head t1 t2 a c e s p q f = failed_by heading (simply mark.Close) ts t2 e (λ ns. (Exactly AnOpenBrace ∷ ns, start_goes ts head t1 a s p ns ∙ q.goes (after_test ns))) f

head_goes : (ts head t1 t2 t3 : List Symbol) (a : Stmt) (c : Expr) (d : Stmt) → ts ≡ token.Open ∷ head → Parsed (SimplePart mark.Semicolon) (simply mark.Semicolon) on head t1 a → Parsed (ClosedPart mark.Semicolon) (closing mark.Semicolon) on t1 t2 c
    → Parsed (SimplePart mark.Close) (simply mark.Close) on t2 t3 d → (ns : Needs) → stuck ts (heading ns) ≡ stuck t3 (Exactly AnOpenBrace ∷ ns)
head_goes ts head t1 t2 t3 a c d s p q r ns = start_goes ts head t1 a s p ns ∙ q.goes (after_test ns) ∙ r.goes (Exactly AnOpenBrace ∷ ns)

pub head_unended : (ts head t1 t2 t3 : List Symbol) (a : Stmt) (c : Expr) (d : Stmt) (e : Stuck) → ts ≡ token.Open ∷ head → Parsed (SimplePart mark.Semicolon) (simply mark.Semicolon) on head t1 a → Parsed (ClosedPart mark.Semicolon) (closing mark.Semicolon) on t1 t2 c
    → Parsed (SimplePart mark.Close) (simply mark.Close) on t2 t3 d → Failed (exactly mark.OpenBrace) t3 e → Failed heading ts e
head_unended ts head t1 t2 t3 a c d e s p q r f = failed_by heading (exactly mark.OpenBrace) ts t3 e (λ ns. (ns, head_goes ts head t1 t2 t3 a c d s p q r ns)) f

pub a_head : (ts head t1 t2 t3 rest : List Symbol) (a : Stmt) (c : Expr) (d : Stmt) → ts ≡ token.Open ∷ head → Parsed (SimplePart mark.Semicolon) (simply mark.Semicolon) on head t1 a → Parsed (ClosedPart mark.Semicolon) (closing mark.Semicolon) on t1 t2 c
    → Parsed (SimplePart mark.Close) (simply mark.Close) on t2 t3 d → t3 ≡ token.OpenBrace ∷ rest → HeadRead ts rest a c d
a_head ts head t1 t2 t3 rest a c d s p q r u =
    let l1 : length t1 < length head = p.shorter in
    let l2 : length t2 < length t1 = q.shorter in
    let l3 : length t3 < length t2 = r.shorter in
    let l4 : length t3 ≡ suc (length rest) = ap length u in
    let l5 : length ts ≡ suc (length head) = ap length s in
    record {
      head = head;
      test = t1;
      last = t2;
      opened = s;
      first = p.found;
      tested = q.found;
      step = subst (λ y. Simple t2 (token.Close ∷ y) d) u r.found;
      goes = λ ns. head_goes ts head t1 t2 t3 a c d s p q r ns ∙ ap (λ y. stuck y (Exactly AnOpenBrace ∷ ns)) u;
      shorter = omega arith;
    }

-- ---- chains of arms

chained_more : (arms : List Arm) (a : Arm) (s : Stmt) → chained (arms ++ a ∷ []) s ≡ chained arms (If a.test a.body (one_step s))
chained_more [] a s = refl
chained_more (b ∷ arms) a s = ap (λ x. If b.test b.body (one_step x)) (chained_more arms a s)

pub chain_more : (arms left : List Arm) (a : Arm) (s v : Stmt) → chained arms s ≡ v → arms ≡ left ++ a ∷ [] → chained left (If a.test a.body (one_step s)) ≡ v
chain_more arms left a s v h e = sym (chained_more left a s) ∙ ap (λ x. chained x s) (sym e) ∙ h

-- ---- blocks

-- the statements of a block that were read so far
pub record BlockReached (ts : List Symbol) (body : List Stmt) (rest : List Symbol) : Type 0 where
  pub found : (last : List Symbol) (b : List Stmt) → Statements rest last b → Statements ts last (body ++ b)
  pub goes : (ns : Needs) → stuck ts (InBlock ∷ ns) ≡ stuck rest (InBlock ∷ ns)
  pub within : length rest ≤ length ts

pub nothing_reached : (ts : List Symbol) (body : List Stmt) → body ≡ [] → BlockReached ts body ts
nothing_reached ts body e = record { found = λ last b s. subst (λ x. Statements ts last (x ++ b)) (sym e) s; goes = λ ns. refl; within = omega arith }

pub one_more : (ts rest behind : List Symbol) (old new : List Stmt) → BlockReached ts old rest → Added old new rest behind → BlockReached ts new behind
one_more ts rest behind old new r a =
    let c : length rest ≤ length ts = r.within in
    let d : length behind < length rest = a.shorter in
    record {
      found = λ last b s. subst (λ x. Statements ts last x) (sym (append_assoc old a.steps b) ∙ ap (λ x. x ++ b) (sym a.is)) (r.found last (a.steps ++ b) (then a.found s));
      goes = λ ns. r.goes ns ∙ a.goes ns;
      within = omega arith;
    }

pub one_wrong : (ts rest : List Symbol) (old : List Stmt) (e : Stuck) → BlockReached ts old rest → Failed in_block rest e → Failed in_block ts e
one_wrong ts rest old e r f = failed_by in_block in_block ts rest e (λ ns. (ns, r.goes ns)) f

pub all_reached : (ts rest behind : List Symbol) (body : List Stmt) → BlockReached ts body rest → rest ≡ token.CloseBrace ∷ behind → Parsed BlockPart in_block on ts behind body
all_reached ts rest behind body r s =
    let a : length rest ≤ length ts = r.within in
    let b : length rest ≡ suc (length behind) = ap length s in
    record {
      found = subst (λ x. Statements ts x body) s (subst (λ x. Statements ts rest x) (append-nil body) (r.found rest [] none));
      goes = λ ns. r.goes ns ∙ ap (λ x. stuck x (InBlock ∷ ns)) s;
      shorter = omega arith;
    }

pub a_block : (ts inner rest : List Symbol) (b : List Stmt) → ts ≡ token.OpenBrace ∷ inner → Parsed BlockPart in_block on inner rest b → Parsed Block bracing on ts rest b
a_block ts inner rest b s p =
    let a : length rest < length inner = p.shorter in
    let c : length ts ≡ suc (length inner) = ap length s in
    record { found = subst (λ y. Block y rest b) (sym s) (braces p.found); goes = λ ns. ap (λ y. stuck y (bracing ns)) s ∙ p.goes ns; shorter = omega arith }

pub block_wrong : (ts inner : List Symbol) (e : Stuck) → ts ≡ token.OpenBrace ∷ inner → Failed in_block inner e → Failed bracing ts e
block_wrong ts inner e s f = failed_by bracing in_block ts inner e (λ ns. (ns, ap (λ y. stuck y (bracing ns)) s)) f

pub one_added : (old new : List Stmt) (ts rest : List Symbol) (s : Stmt) → new ≡ old ++ s ∷ [] → Parsed StatementPart in_block in_block ts rest s → Added old new ts rest
one_added old new ts rest s e p = record { steps = one_step s; is = e; found = p.found; goes = p.goes; shorter = p.shorter }

-- ---- if

-- behind `if` stand these arms, and then what stands behind an `if` again
pub record IfReached (ts : List Symbol) (arms : List Arm) (rest : List Symbol) : Type 0 where
  pub found : (last : List Symbol) (s : Stmt) → IfStatement (token.If ∷ rest) last s → IfStatement (token.If ∷ ts) last (chained arms s)
  pub goes : (ns : Needs) → stuck ts (if_rest ns) ≡ stuck rest (if_rest ns)
  pub within : length rest ≤ length ts

pub no_arms : (ts : List Symbol) (arms : List Arm) → arms ≡ [] → IfReached ts arms ts
no_arms ts arms e = record { found = λ last s i. subst (λ x. IfStatement (token.If ∷ ts) last (chained x s)) (sym e) i; goes = λ ns. refl; within = omega arith }

arm_goes : (ts rest inner end : List Symbol) (arms : List Arm) (c : Expr) (b : List Stmt) → IfReached ts arms rest → TestRead rest inner c → Parsed BlockPart in_block on inner end b → (ns : Needs) → stuck ts (if_rest ns) ≡ stuck end (AfterIf ∷ ns)
arm_goes ts rest inner end arms c b r t p ns = r.goes ns ∙ t.goes (InBlock ∷ AfterIf ∷ ns) ∙ p.goes (AfterIf ∷ ns)

pub test_wrong : (ts rest : List Symbol) (arms : List Arm) (e : Stuck) → IfReached ts arms rest → Failed testing rest e → Failed in_block (token.If ∷ ts) e
test_wrong ts rest arms e r f = failed_by in_block testing (token.If ∷ ts) rest e (λ ns. (InBlock ∷ AfterIf ∷ ns, r.goes ns)) f

pub arm_wrong : (ts rest inner : List Symbol) (arms : List Arm) (c : Expr) (e : Stuck) → IfReached ts arms rest → TestRead rest inner c → Failed in_block inner e → Failed in_block (token.If ∷ ts) e
arm_wrong ts rest inner arms c e r t f = failed_by in_block in_block (token.If ∷ ts) inner e (λ ns. (AfterIf ∷ ns, r.goes ns ∙ t.goes (InBlock ∷ AfterIf ∷ ns))) f

arm_block : (inner end : List Symbol) (b : List Stmt) → Parsed BlockPart in_block on inner end b → Block (token.OpenBrace ∷ inner) end b
arm_block inner end b p = braces p.found

if_from : (rest inner last : List Symbol) (c : Expr) (s : Stmt) (t : TestRead rest inner c) → IfStatement (token.If ∷ token.Open ∷ t.inner) last s → IfStatement (token.If ∷ rest) last s
if_from rest inner last c s t i = subst (λ y. IfStatement (token.If ∷ y) last s) (sym t.opened) i

no_else : (ts : List Symbol) → BeginsOtherwise mark.Else ts → (ns : Needs) → stuck ts (AfterIf ∷ ns) ≡ stuck ts (InBlock ∷ ns)
no_else [] h ns = refl
no_else (token.Else ∷ ts) h ns = absurd (h ts refl)
no_else (_ ∷ ts) h ns = refl

pub an_if : (ts rest inner end : List Symbol) (arms : List Arm) (c : Expr) (b : List Stmt) → IfReached ts arms rest → TestRead rest inner c → Parsed BlockPart in_block on inner end b → BeginsOtherwise mark.Else end
    → Parsed StatementPart in_block in_block (token.If ∷ ts) end (chained arms (If c b []))
an_if ts rest inner end arms c b r t p h =
    let l1 : length rest ≤ length ts = r.within in
    let l2 : length inner < length rest = t.shorter in
    let l3 : length end < length inner = p.shorter in
    record {
      found = grammar.choice (r.found end (If c b []) (if_from rest inner end c (If c b []) t (if_only t.found (arm_block inner end b p))));
      goes = λ ns. arm_goes ts rest inner end arms c b r t p ns ∙ no_else end h ns;
      shorter = omega arith;
    }

no_if : (ts : List Symbol) → BeginsOtherwise mark.If ts → (ns : Needs) → stuck ts (AfterElse ∷ ns) ≡ stuck ts (Exactly AnOpenBrace ∷ InBlock ∷ InBlock ∷ ns)
no_if [] h ns = refl
no_if (token.OpenBrace ∷ ts) h ns = refl
no_if (token.If ∷ ts) h ns = absurd (h ts refl)
no_if (_ ∷ ts) h ns = refl

else_goes : (ts rest inner end more : List Symbol) (arms : List Arm) (c : Expr) (b : List Stmt) → IfReached ts arms rest → TestRead rest inner c → Parsed BlockPart in_block on inner end b → end ≡ token.Else ∷ more → (ns : Needs) → stuck ts (if_rest ns) ≡ stuck more (AfterElse ∷ ns)
else_goes ts rest inner end more arms c b r t p s ns = arm_goes ts rest inner end arms c b r t p ns ∙ ap (λ y. stuck y (AfterIf ∷ ns)) s

pub else_wrong : (ts rest inner end more : List Symbol) (arms : List Arm) (c : Expr) (b : List Stmt) (e : Stuck) → IfReached ts arms rest → TestRead rest inner c → Parsed BlockPart in_block on inner end b → end ≡ token.Else ∷ more → BeginsOtherwise mark.If more → Failed bracing more e
    → Failed in_block (token.If ∷ ts) e
else_wrong ts rest inner end more arms c b e r t p s h f = failed_by in_block bracing (token.If ∷ ts) more e (λ ns. (InBlock ∷ ns, else_goes ts rest inner end more arms c b r t p s ns ∙ no_if more h ns)) f

pub an_else : (ts rest inner end more last : List Symbol) (arms : List Arm) (c : Expr) (b d : List Stmt) → IfReached ts arms rest → TestRead rest inner c → Parsed BlockPart in_block on inner end b → end ≡ token.Else ∷ more → BeginsOtherwise mark.If more → Parsed Block bracing on more last d
    → Parsed StatementPart in_block in_block (token.If ∷ ts) last (chained arms (If c b d))
an_else ts rest inner end more last arms c b d r t p s h q =
    let l1 : length rest ≤ length ts = r.within in
    let l2 : length inner < length rest = t.shorter in
    let l3 : length end < length inner = p.shorter in
    let l4 : length end ≡ suc (length more) = ap length s in
    let l5 : length last < length more = q.shorter in
    record {
      found = grammar.choice (r.found last (If c b d) (if_from rest inner last c (If c b d) t (if_else t.found (subst (λ y. Block (token.OpenBrace ∷ inner) y b) s (arm_block inner end b p)) (grammar.block q.found))));
      goes = λ ns. else_goes ts rest inner end more arms c b r t p s ns ∙ no_if more h ns ∙ q.goes (InBlock ∷ ns);
      shorter = omega arith;
    }

pub next_arm : (ts rest inner end more next : List Symbol) (old new : List Arm) (a : Arm) → IfReached ts old rest → TestRead rest inner a.test → Parsed BlockPart in_block on inner end a.body → end ≡ token.Else ∷ more → more ≡ token.If ∷ next → new ≡ old ++ a ∷ []
    → IfReached ts new next
next_arm ts rest inner end more next old new a r t p s u e =
    let l1 : length rest ≤ length ts = r.within in
    let l2 : length inner < length rest = t.shorter in
    let l3 : length end < length inner = p.shorter in
    let l4 : length end ≡ suc (length more) = ap length s in
    let l5 : length more ≡ suc (length next) = ap length u in
    record {
      found = λ last v i. subst (λ x. IfStatement (token.If ∷ ts) last x) (sym (chained_more old a v) ∙ ap (λ x. chained x v) (sym e))
          (r.found last (If a.test a.body (one_step v)) (if_from rest inner last a.test (If a.test a.body (one_step v)) t
          (if_else t.found (subst (λ y. Block (token.OpenBrace ∷ inner) y a.body) (s ∙ ap (λ y. token.Else ∷ y) u) (arm_block inner end a.body p)) (else_if i))));
      goes = λ ns. else_goes ts rest inner end more old a.test a.body r t p s ns ∙ ap (λ y. stuck y (AfterElse ∷ ns)) u;
      within = omega arith;
    }

-- ---- while and for

pub a_while : (ts inner rest : List Symbol) (c : Expr) (b : List Stmt) → TestRead ts inner c → Parsed BlockPart in_block on inner rest b → Parsed StatementPart in_block in_block (token.While ∷ ts) rest (While c b)
a_while ts inner rest c b t p =
    let l1 : length inner < length ts = t.shorter in
    let l2 : length rest < length inner = p.shorter in
    record {
      found = subst (λ y. Statement (token.While ∷ y) rest (one_step (While c b))) (sym t.opened) (grammar.loop t.found (braces p.found));
      goes = λ ns. t.goes (InBlock ∷ InBlock ∷ ns) ∙ p.goes (InBlock ∷ ns);
      shorter = omega arith;
    }

pub while_test_wrong : (ts : List Symbol) (e : Stuck) → Failed testing ts e → Failed in_block (token.While ∷ ts) e
while_test_wrong ts e f = failed_by in_block testing (token.While ∷ ts) ts e (λ ns. (InBlock ∷ InBlock ∷ ns, refl)) f

pub while_block_wrong : (ts inner : List Symbol) (c : Expr) (e : Stuck) → TestRead ts inner c → Failed in_block inner e → Failed in_block (token.While ∷ ts) e
while_block_wrong ts inner c e t f = failed_by in_block in_block (token.While ∷ ts) inner e (λ ns. (InBlock ∷ ns, t.goes (InBlock ∷ InBlock ∷ ns))) f

pub a_for : (ts inner rest : List Symbol) (old mid new turn b : List Stmt) (a : Stmt) (c : Expr) (s : Stmt) → HeadRead ts inner a c s → Parsed BlockPart in_block on inner rest b → turn ≡ b ++ s ∷ [] → mid ≡ old ++ a ∷ [] → new ≡ mid ++ While c turn ∷ []
    → Added old new (token.For ∷ ts) rest
a_for ts inner rest old mid new turn b a c s h p e f g =
    let l1 : length inner < length ts = h.shorter in
    let l2 : length rest < length inner = p.shorter in
    record {
      steps = a ∷ one_step (While c (b ++ one_step s));
      is = g ∙ ap (λ x. x ++ While c turn ∷ []) f ∙ append_assoc old (a ∷ []) (While c turn ∷ []) ∙ ap (λ x. old ++ a ∷ While c x ∷ []) e;
      found = subst (λ y. Statement (token.For ∷ y) rest (a ∷ one_step (While c (b ++ one_step s)))) (sym h.opened) (grammar.for h.first h.tested h.step (braces p.found));
      goes = λ ns. h.goes (InBlock ∷ InBlock ∷ ns) ∙ p.goes (InBlock ∷ ns);
      shorter = omega arith;
    }

pub head_wrong : (ts : List Symbol) (e : Stuck) → Failed heading ts e → Failed in_block (token.For ∷ ts) e
head_wrong ts e f = failed_by in_block heading (token.For ∷ ts) ts e (λ ns. (InBlock ∷ InBlock ∷ ns, refl)) f

pub for_block_wrong : (ts inner : List Symbol) (a : Stmt) (c : Expr) (s : Stmt) (e : Stuck) → HeadRead ts inner a c s → Failed in_block inner e → Failed in_block (token.For ∷ ts) e
for_block_wrong ts inner a c s e h f = failed_by in_block in_block (token.For ∷ ts) inner e (λ ns. (InBlock ∷ ns, h.goes (InBlock ∷ InBlock ∷ ns))) f

-- ---- return

return_read : (mid rest : List Symbol) → mid ≡ token.Semicolon ∷ rest → Parsed StatementPart in_block in_block (token.Return ∷ mid) rest Return
return_read mid rest s =
    let a : length mid ≡ suc (length rest) = ap length s in
    record { found = subst (λ y. Statement (token.Return ∷ y) rest (one_step Return)) (sym s) grammar.return; goes = λ ns. ap (λ y. stuck (token.Return ∷ y) (InBlock ∷ ns)) s; shorter = omega arith }

pub a_return : (ts mid rest : List Symbol) (at : Place) (k : TokenKind) → ts ≡ symbol_at at k ∷ mid → k ≡ kind.Return → mid ≡ token.Semicolon ∷ rest → Parsed StatementPart in_block in_block ts rest Return
a_return ts mid rest at k s e r = subst (λ y. Parsed StatementPart in_block in_block y rest Return) (sym (s ∙ ap (λ x. symbol_at at x ∷ mid) e)) (return_read mid rest r)
