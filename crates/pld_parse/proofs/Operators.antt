-- Ports, declarations, and whole operators.
use Rattle.std.proofs.Common.{ℕ, zero, suc, ◌<◌, ◌≡◌, refl, sym, ◌∙◌, ap, subst, List, [], ◌∷◌, ◌++◌, length, Some, None, arith, append_assoc, append-nil}
use Rattle.std.proofs.lemmas.List.{length-map}
use Rattle.pld_base.specs.declared.event.Side.{Side}
use Rattle.pld_base.specs.declared.event.Side.TheVariants as side
use Rattle.pld_ast.specs.declared.tree.Ty.{Ty}
use Rattle.pld_ast.specs.declared.tree.Ty.TheVariants as ty
use Rattle.pld_ast.specs.declared.tree.Used.{Used}
use Rattle.pld_ast.specs.declared.tree.Expr.{Expr}
use Rattle.pld_ast.specs.declared.tree.Target.TheVariants as target
use Rattle.pld_ast.specs.declared.tree.Stmt.{Stmt}
use Rattle.pld_ast.specs.declared.tree.Stmt.TheVariants.{Assign}
use Rattle.pld_ast.specs.declared.tree.Port.{Port}
use Rattle.pld_ast.specs.declared.tree.Array.{Array}
use Rattle.pld_ast.specs.declared.tree.Operator.{Operator}
use Rattle.pld_lex.specs.declared.token.Token.{Token}
use Rattle.pld_grammar.specs.Symbols.{Symbol, symbol_of, symbols}
use Rattle.pld_grammar.specs.Symbols as token
use Rattle.pld_grammar.specs.Rewritings.{one_step, Declared, AScalar, AnArray, scalars_of, arrays_of}
use Rattle.pld_grammar.specs.Grammar.{IsType, signed, unsigned, Direction, input, output, port_of, scalar_of, array_of, operator_of, Expression, Statements, Declaration, Body, MorePorts, last, next, Ports, no_ports, Syntax}
use Rattle.pld_grammar.specs.Grammar as grammar
use Rattle.pld_grammar.specs.Machine.{Needs, Exactly, InBlock, InBody, AfterVariable, FirstPort, NextPort, AfterPort, AName, AClose, ACloseBracket, AnOpenBrace, ASemicolon, ALength, start}
use Rattle.pld_parse.specs.declared.token.Mark.TheVariants as mark
use Rattle.pld_parse.specs.declared.token.Stuck.{Stuck}
use Rattle.pld_parse.specs.declared.operator.Declarations.{Declarations}
use Rattle.pld_parse.specs.Reading.{stuck, Failed, Parsed, BeginsOtherwise, exactly, ClosedPart, closing, on, symbol_of_type, NoType, in_block, BlockPart, symbol_of_side, a_port, PortAdded, some_ports, NoNumber, BeginsWithNumber, BeginsWithLength, sizing, ArrayAdded, declaring, after_variable, VariableAdded, DeclarationAdded, in_body, DeclarationsRead, ContentsRead, whole_text}
use Rattle.pld_parse.proofs.Expressions.{failed_by}

-- ---- ports

side_is : (s : Side) → Direction (symbol_of_side s) s
side_is side.In = input
side_is side.Out = output

side_goes : (s : Side) (x : Used) (ts : List Symbol) (ns : Needs) → stuck (symbol_of_side s ∷ token.Ident x ∷ ts) (NextPort ∷ ns) ≡ stuck ts (AfterPort ∷ ns)
side_goes side.In x ts ns = refl
side_goes side.Out x ts ns = refl

side_before : (s : Side) (ts : List Symbol) (ns : Needs) → stuck (symbol_of_side s ∷ ts) (NextPort ∷ ns) ≡ stuck ts (Exactly AName ∷ AfterPort ∷ ns)
side_before side.In ts ns = refl
side_before side.Out ts ns = refl

pub port_unnamed : (s : Side) (ts rest : List Symbol) (n : ℕ) → ts ≡ symbol_of_side s ∷ rest → ((ns : Needs) → stuck rest (Exactly AName ∷ ns) ≡ Some n) → (ns : Needs) → stuck ts (NextPort ∷ ns) ≡ Some n
port_unnamed s ts rest n e h ns = ap (λ y. stuck y (NextPort ∷ ns)) e ∙ side_before s rest ns ∙ h (AfterPort ∷ ns)

pub port_read : (s : Side) (x : Used) (old new : List Port) (ts mid rest : List Symbol) → ts ≡ symbol_of_side s ∷ mid → mid ≡ token.Ident x ∷ rest → new ≡ old ++ port_of x s ∷ [] → PortAdded old new ts rest
port_read s x old new ts mid rest e f g = record { side = s; name = x; split = e ∙ ap (λ y. symbol_of_side s ∷ y) f; is = g }

port_goes : (old new : List Port) (ts rest : List Symbol) → PortAdded old new ts rest → (ns : Needs) → stuck ts (NextPort ∷ ns) ≡ stuck rest (AfterPort ∷ ns)
port_goes old new ts rest p ns = ap (λ y. stuck y (NextPort ∷ ns)) p.split ∙ side_goes p.side p.name rest ns

-- the ports that were read so far
pub record PortsReached (ts : List Symbol) (ports : List Port) (rest : List Symbol) : Type 0 where
  pub found : (end : List Symbol) (ps : List Port) → MorePorts rest end ps → Ports ts end (ports ++ ps)
  pub goes : (ns : Needs) → stuck ts (FirstPort ∷ ns) ≡ stuck rest (AfterPort ∷ ns)
  pub shorter : length rest < length ts

no_close_first : (ts : List Symbol) → BeginsOtherwise mark.Close ts → (ns : Needs) → stuck ts (FirstPort ∷ ns) ≡ stuck ts (NextPort ∷ ns)
no_close_first [] h ns = refl
no_close_first (token.Close ∷ ts) h ns = absurd (h ts refl)
no_close_first (_ ∷ ts) h ns = refl

pub first_wrong : (ts : List Symbol) (e : Stuck) → BeginsOtherwise mark.Close ts → Failed a_port ts e → Failed some_ports ts e
first_wrong ts e h f = failed_by some_ports a_port ts ts e (λ ns. (ns, no_close_first ts h ns)) f

pub first_reached : (ts rest : List Symbol) (old new : List Port) → old ≡ [] → BeginsOtherwise mark.Close ts → PortAdded old new ts rest → PortsReached ts new rest
first_reached ts rest old new o h p =
    let n : new ≡ port_of p.name p.side ∷ [] = p.is ∙ ap (λ x. x ++ port_of p.name p.side ∷ []) o in
    let l : length ts ≡ suc (suc (length rest)) = ap length p.split in
    record {
      found = λ end ps m. subst (λ x. Ports ts end (x ++ ps)) (sym n) (subst (λ y. Ports y end (port_of p.name p.side ∷ ps)) (sym p.split) (grammar.some_ports (side_is p.side) m));
      goes = λ ns. no_close_first ts h ns ∙ port_goes old new ts rest p ns;
      shorter = omega arith;
    }

pub next_wrong : (ts rest more : List Symbol) (ports : List Port) (e : Stuck) → PortsReached ts ports rest → rest ≡ token.Comma ∷ more → Failed a_port more e → Failed some_ports ts e
next_wrong ts rest more ports e r s f = failed_by some_ports a_port ts more e (λ ns. (ns, r.goes ns ∙ ap (λ y. stuck y (AfterPort ∷ ns)) s)) f

next_found : (rest more behind end : List Symbol) (old new ps : List Port) (p : PortAdded old new more behind) → rest ≡ token.Comma ∷ more → MorePorts behind end ps → MorePorts rest end (port_of p.name p.side ∷ ps)
next_found rest more behind end old new ps p s m =
    let e : rest ≡ token.Comma ∷ symbol_of_side p.side ∷ token.Ident p.name ∷ behind = s ∙ ap (λ y. token.Comma ∷ y) p.split in
    subst (λ y. MorePorts y end (port_of p.name p.side ∷ ps)) (sym e) (next (side_is p.side) m)

pub next_reached : (ts rest more behind : List Symbol) (old new : List Port) → PortsReached ts old rest → rest ≡ token.Comma ∷ more → PortAdded old new more behind → PortsReached ts new behind
next_reached ts rest more behind old new r s p =
    let a : length rest < length ts = r.shorter in
    let b : length rest ≡ suc (length more) = ap length s in
    let c : length more ≡ suc (suc (length behind)) = ap length p.split in
    record {
      found = λ end ps m. subst (λ x. Ports ts end x) (sym (append_assoc old (port_of p.name p.side ∷ []) ps) ∙ ap (λ x. x ++ ps) (sym p.is)) (r.found end (port_of p.name p.side ∷ ps) (next_found rest more behind end old new ps p s m));
      goes = λ ns. r.goes ns ∙ ap (λ y. stuck y (AfterPort ∷ ns)) s ∙ port_goes old new more behind p ns;
      shorter = omega arith;
    }

no_comma : (ts : List Symbol) → BeginsOtherwise mark.Comma ts → (ns : Needs) → stuck ts (AfterPort ∷ ns) ≡ stuck ts (Exactly AClose ∷ ns)
no_comma [] h ns = refl
no_comma (token.Close ∷ ts) h ns = refl
no_comma (token.Comma ∷ ts) h ns = absurd (h ts refl)
no_comma (_ ∷ ts) h ns = refl

pub ports_unended : (ts rest : List Symbol) (ports : List Port) (e : Stuck) → PortsReached ts ports rest → BeginsOtherwise mark.Comma rest → Failed (exactly mark.Close) rest e → Failed some_ports ts e
ports_unended ts rest ports e r h f = failed_by some_ports (exactly mark.Close) ts rest e (λ ns. (ns, r.goes ns ∙ no_comma rest h ns)) f

pub ports_read : (ts rest behind : List Symbol) (ports : List Port) → PortsReached ts ports rest → rest ≡ token.Close ∷ behind → Parsed Ports some_ports on ts behind ports
ports_read ts rest behind ports r s =
    let a : length rest < length ts = r.shorter in
    let b : length rest ≡ suc (length behind) = ap length s in
    record {
      found = subst (λ x. Ports ts behind x) (append-nil ports) (r.found behind [] (subst (λ y. MorePorts y behind []) (sym s) last));
      goes = λ ns. r.goes ns ∙ ap (λ y. stuck y (AfterPort ∷ ns)) s;
      shorter = omega arith;
    }

pub no_ports_read : (ts rest : List Symbol) (ports : List Port) → ports ≡ [] → ts ≡ token.Close ∷ rest → Parsed Ports some_ports on ts rest ports
no_ports_read ts rest ports e s =
    let b : length ts ≡ suc (length rest) = ap length s in
    record {
      found = subst (λ x. Ports ts rest x) (sym e) (subst (λ y. Ports y rest []) (sym s) no_ports);
      goes = λ ns. ap (λ y. stuck y (FirstPort ∷ ns)) s;
      shorter = omega arith;
    }

-- ---- arrays

no_length : (ts : List Symbol) → NoNumber ts → (ns : Needs) → stuck ts (Exactly ALength ∷ ns) ≡ Some (length ts)
no_length [] h ns = refl
no_length (token.Number n t ∷ ts) h ns = absurd (h n t ts refl)
no_length (_ ∷ ts) h ns = refl

pub no_length_here : (ts : List Token) → NoNumber (symbols ts) → (ns : Needs) → stuck (symbols ts) (Exactly ALength ∷ ns) ≡ Some (length ts)
no_length_here ts h ns = no_length (symbols ts) h ns ∙ ap Some (length-map ts symbol_of)

pub zero_length : (ts : List Token) (rest : List Symbol) (n : ℕ) → BeginsWithNumber n (symbols ts) rest → n ≡ 0 → (ns : Needs) → stuck (symbols ts) (Exactly ALength ∷ ns) ≡ Some (length ts)
zero_length ts rest n b e ns =
    let s : symbols ts ≡ token.Number 0 b.unit ∷ rest = b.split ∙ ap (λ x. token.Number x b.unit ∷ rest) e in
    ap (λ y. stuck y (Exactly ALength ∷ ns)) s ∙ ap (λ y. Some (length y)) (sym s) ∙ ap Some (length-map ts symbol_of)

pub a_length : (ts rest : List Symbol) (n : ℕ) → BeginsWithNumber n ts rest → (n ≡ 0 → ⊥) → BeginsWithLength n ts rest
a_length ts rest zero b h = absurd (h refl)
a_length ts rest (suc n) b h = record { less = n; unit = b.unit; is = refl; split = b.split }

length_goes : (n : ℕ) (ts rest : List Symbol) → BeginsWithLength n ts rest → (ns : Needs) → stuck ts (sizing ns) ≡ stuck rest (Exactly ACloseBracket ∷ Exactly ASemicolon ∷ ns)
length_goes n ts rest b ns = ap (λ y. stuck y (sizing ns)) b.split

pub bracket_missing : (n : ℕ) (ts rest : List Symbol) (e : Stuck) → BeginsWithLength n ts rest → Failed (exactly mark.CloseBracket) rest e → Failed sizing ts e
bracket_missing n ts rest e b f = failed_by sizing (exactly mark.CloseBracket) ts rest e (λ ns. (Exactly ASemicolon ∷ ns, length_goes n ts rest b ns)) f

pub array_unended : (n : ℕ) (ts mid rest : List Symbol) (e : Stuck) → BeginsWithLength n ts mid → mid ≡ token.CloseBracket ∷ rest → Failed (exactly mark.Semicolon) rest e → Failed sizing ts e
array_unended n ts mid rest e b s f = failed_by sizing (exactly mark.Semicolon) ts rest e (λ ns. (ns, length_goes n ts mid b ns ∙ ap (λ y. stuck y (Exactly ACloseBracket ∷ Exactly ASemicolon ∷ ns)) s)) f

pub array_read : (n : ℕ) (t : Ty) (x : Used) (old new : List Array) (ts m1 m2 rest : List Symbol) → BeginsWithLength n ts m1 → m1 ≡ token.CloseBracket ∷ m2 → m2 ≡ token.Semicolon ∷ rest → new ≡ old ++ array_of x t n ∷ [] → ArrayAdded t x old new ts rest
array_read n t x old new ts m1 m2 rest b s u e =
    record { less = b.less; unit = b.unit; split = b.split ∙ ap (λ y. token.Number (suc b.less) b.unit ∷ y) (s ∙ ap (λ y. token.CloseBracket ∷ y) u); is = e ∙ ap (λ z. old ++ array_of x t z ∷ []) b.is }

-- ---- declarations

type_is : (t : Ty) → IsType (symbol_of_type t) t
type_is ty.Int = signed
type_is ty.Uint = unsigned

no_initializer : (ts : List Symbol) → BeginsOtherwise mark.OpenBracket ts → BeginsOtherwise mark.Assign ts → (ns : Needs) → stuck ts (AfterVariable ∷ ns) ≡ stuck ts (Exactly ASemicolon ∷ ns)
no_initializer [] h g ns = refl
no_initializer (token.Semicolon ∷ ts) h g ns = refl
no_initializer (token.OpenBracket ∷ ts) h g ns = absurd (h ts refl)
no_initializer (token.Assign ∷ ts) h g ns = absurd (g ts refl)
no_initializer (_ ∷ ts) h g ns = refl

pub scalar_unended : (ts : List Symbol) (e : Stuck) → BeginsOtherwise mark.OpenBracket ts → BeginsOtherwise mark.Assign ts → Failed (exactly mark.Semicolon) ts e → Failed after_variable ts e
scalar_unended ts e h g f = failed_by after_variable (exactly mark.Semicolon) ts ts e (λ ns. (ns, no_initializer ts h g ns)) f

pub a_plain : (t : Ty) (x : Used) (old new : Declarations) (ts rest : List Symbol) → ts ≡ token.Semicolon ∷ rest → new.scalars ≡ old.scalars ++ scalar_of x t ∷ [] → new.arrays ≡ old.arrays → new.body ≡ old.body → VariableAdded t x old new ts rest
a_plain t x old new ts rest s a b c =
    let l : length ts ≡ suc (length rest) = ap length s in
    record {
      variable = AScalar (scalar_of x t);
      steps = [];
      found = subst (λ y. Declaration (symbol_of_type t ∷ token.Ident x ∷ y) rest (AScalar (scalar_of x t)) []) (sym s) (grammar.plain (type_is t));
      scalars = a;
      arrays = b ∙ sym (append-nil old.arrays);
      body = c ∙ sym (append-nil old.body);
      goes = λ ns. ap (λ y. stuck y (AfterVariable ∷ ns)) s;
      shorter = omega arith;
    }

pub initializer_wrong : (ts more : List Symbol) (e : Stuck) → ts ≡ token.Assign ∷ more → Failed (closing mark.Semicolon) more e → Failed after_variable ts e
initializer_wrong ts more e s f = failed_by after_variable (closing mark.Semicolon) ts more e (λ ns. (ns, ap (λ y. stuck y (AfterVariable ∷ ns)) s)) f

pub an_initial : (t : Ty) (x : Used) (old new : Declarations) (ts more rest : List Symbol) (v : Expr) → ts ≡ token.Assign ∷ more → Parsed (ClosedPart mark.Semicolon) (closing mark.Semicolon) on more rest v
    → new.scalars ≡ old.scalars ++ scalar_of x t ∷ [] → new.arrays ≡ old.arrays → new.body ≡ old.body ++ Assign (target.Scalar x) v ∷ [] → VariableAdded t x old new ts rest
an_initial t x old new ts more rest v s p a b c =
    let l : length ts ≡ suc (length more) = ap length s in
    let m : length rest < length more = p.shorter in
    record {
      variable = AScalar (scalar_of x t);
      steps = one_step (Assign (target.Scalar x) v);
      found = subst (λ y. Declaration (symbol_of_type t ∷ token.Ident x ∷ y) rest (AScalar (scalar_of x t)) (one_step (Assign (target.Scalar x) v))) (sym s) (grammar.initial (type_is t) p.found);
      scalars = a;
      arrays = b ∙ sym (append-nil old.arrays);
      body = c;
      goes = λ ns. ap (λ y. stuck y (AfterVariable ∷ ns)) s ∙ p.goes ns;
      shorter = omega arith;
    }

pub declared_scalar : (t : Ty) (x : Used) (old new : Declarations) (ts mid rest : List Symbol) → ts ≡ token.Ident x ∷ mid → VariableAdded t x old new mid rest → DeclarationAdded t old new ts rest
declared_scalar t x old new ts mid rest s v =
    let l : length ts ≡ suc (length mid) = ap length s in
    let m : length rest < length mid = v.shorter in
    record {
      variable = v.variable;
      steps = v.steps;
      found = subst (λ y. Declaration (symbol_of_type t ∷ y) rest v.variable v.steps) (sym s) v.found;
      scalars = v.scalars;
      arrays = v.arrays;
      body = v.body;
      goes = λ ns. ap (λ y. stuck y (declaring ns)) s ∙ v.goes ns;
      shorter = omega arith;
    }

pub scalar_wrong : (x : Used) (ts mid : List Symbol) (e : Stuck) → ts ≡ token.Ident x ∷ mid → Failed after_variable mid e → Failed declaring ts e
scalar_wrong x ts mid e s f = failed_by declaring after_variable ts mid e (λ ns. (ns, ap (λ y. stuck y (declaring ns)) s)) f

pub declared_array : (t : Ty) (x : Used) (old new : Declarations) (ts mid more rest : List Symbol) → ts ≡ token.Ident x ∷ mid → mid ≡ token.OpenBracket ∷ more → ArrayAdded t x old.arrays new.arrays more rest → new.scalars ≡ old.scalars → new.body ≡ old.body → DeclarationAdded t old new ts rest
declared_array t x old new ts mid more rest s u a b c =
    let e : ts ≡ token.Ident x ∷ token.OpenBracket ∷ token.Number (suc a.less) a.unit ∷ token.CloseBracket ∷ token.Semicolon ∷ rest = s ∙ ap (λ y. token.Ident x ∷ y) (u ∙ ap (λ y. token.OpenBracket ∷ y) a.split) in
    let l : length ts ≡ suc (suc (suc (suc (suc (length rest))))) = ap length e in
    record {
      variable = AnArray (array_of x t (suc a.less));
      steps = [];
      found = subst (λ y. Declaration (symbol_of_type t ∷ y) rest (AnArray (array_of x t (suc a.less))) []) (sym e) (grammar.array (type_is t));
      scalars = b ∙ sym (append-nil old.scalars);
      arrays = a.is;
      body = c ∙ sym (append-nil old.body);
      goes = λ ns. ap (λ y. stuck y (declaring ns)) e;
      shorter = omega arith;
    }

pub array_wrong : (x : Used) (ts mid more : List Symbol) (e : Stuck) → ts ≡ token.Ident x ∷ mid → mid ≡ token.OpenBracket ∷ more → Failed sizing more e → Failed declaring ts e
array_wrong x ts mid more e s u f = failed_by declaring sizing ts more e (λ ns. (ns, ap (λ y. stuck y (declaring ns)) (s ∙ ap (λ y. token.Ident x ∷ y) u))) f

-- the declarations that were read so far
pub record DeclarationsReached (ts : List Symbol) (made : Declarations) (rest : List Symbol) : Type 0 where
  pub variables : List Declared
  pub found : (end : List Symbol) (vs : List Declared) (b : List Stmt) → Body rest end vs b → Body ts end (variables ++ vs) (made.body ++ b)
  pub scalars : made.scalars ≡ scalars_of variables
  pub arrays : made.arrays ≡ arrays_of variables
  pub goes : (ns : Needs) → stuck ts (InBody ∷ ns) ≡ stuck rest (InBody ∷ ns)

pub none_declared : (ts : List Symbol) (made : Declarations) → made.scalars ≡ [] → made.arrays ≡ [] → made.body ≡ [] → DeclarationsReached ts made ts
none_declared ts made a b c = record { variables = []; found = λ end vs s h. subst (λ x. Body ts end vs (x ++ s)) (sym c) h; scalars = a; arrays = b; goes = λ ns. refl }

scalars_join : (vs : List Declared) (v : Declared) → scalars_of (vs ++ v ∷ []) ≡ scalars_of vs ++ scalars_of (v ∷ [])
scalars_join [] v = refl
scalars_join (AScalar s ∷ vs) v = ap (λ x. s ∷ x) (scalars_join vs v)
scalars_join (AnArray a ∷ vs) v = scalars_join vs v

arrays_join : (vs : List Declared) (v : Declared) → arrays_of (vs ++ v ∷ []) ≡ arrays_of vs ++ arrays_of (v ∷ [])
arrays_join [] v = refl
arrays_join (AScalar s ∷ vs) v = arrays_join vs v
arrays_join (AnArray a ∷ vs) v = ap (λ x. a ∷ x) (arrays_join vs v)

type_goes : (t : Ty) (ts : List Symbol) (ns : Needs) → stuck (symbol_of_type t ∷ ts) (InBody ∷ ns) ≡ stuck ts (declaring (InBody ∷ ns))
type_goes ty.Int ts ns = refl
type_goes ty.Uint ts ns = refl

pub one_declared : (t : Ty) (ts rest more behind : List Symbol) (old new : Declarations) → DeclarationsReached ts old rest → rest ≡ symbol_of_type t ∷ more → DeclarationAdded t old new more behind → DeclarationsReached ts new behind
one_declared t ts rest more behind old new r s d = record {
  variables = r.variables ++ d.variable ∷ [];
  found = λ end vs b h.
      subst (λ x. Body ts end x (new.body ++ b)) (sym (append_assoc r.variables (d.variable ∷ []) vs))
      (subst (λ x. Body ts end (r.variables ++ d.variable ∷ vs) x) (sym (append_assoc old.body d.steps b) ∙ ap (λ x. x ++ b) (sym d.body))
      (r.found end (d.variable ∷ vs) (d.steps ++ b) (grammar.declare (subst (λ y. Declaration y behind d.variable d.steps) (sym s) d.found) h)));
  scalars = d.scalars ∙ ap (λ x. x ++ scalars_of (d.variable ∷ [])) r.scalars ∙ sym (scalars_join r.variables d.variable);
  arrays = d.arrays ∙ ap (λ x. x ++ arrays_of (d.variable ∷ [])) r.arrays ∙ sym (arrays_join r.variables d.variable);
  goes = λ ns. r.goes ns ∙ ap (λ y. stuck y (InBody ∷ ns)) s ∙ type_goes t more ns ∙ d.goes (InBody ∷ ns);
}

pub declaration_wrong : (t : Ty) (ts rest more : List Symbol) (made : Declarations) (e : Stuck) → DeclarationsReached ts made rest → rest ≡ symbol_of_type t ∷ more → Failed declaring more e → Failed in_body ts e
declaration_wrong t ts rest more made e r s f = failed_by in_body declaring ts more e (λ ns. (InBody ∷ ns, r.goes ns ∙ ap (λ y. stuck y (InBody ∷ ns)) s ∙ type_goes t more ns)) f

no_type : (ts : List Symbol) → NoType ts → (ns : Needs) → stuck ts (InBody ∷ ns) ≡ stuck ts (InBlock ∷ ns)
no_type [] h ns = refl
no_type (token.Int ∷ ts) h ns = absurd h
no_type (token.Uint ∷ ts) h ns = absurd h
no_type (_ ∷ ts) h ns = refl

pub all_declared : (ts rest : List Symbol) (made : Declarations) → DeclarationsReached ts made rest → NoType rest → DeclarationsRead ts rest made
all_declared ts rest made r h = record {
  variables = r.variables;
  found = λ end b s. subst (λ x. Body ts end x (made.body ++ b)) (append-nil r.variables) (r.found end [] b (grammar.statements s));
  scalars = r.scalars;
  arrays = r.arrays;
  goes = λ ns. r.goes ns ∙ no_type rest h ns;
}

-- ---- whole operators

pub statements_wrong : (ts rest : List Symbol) (made : Declarations) (e : Stuck) → DeclarationsRead ts rest made → Failed in_block rest e → Failed in_body ts e
statements_wrong ts rest made e r f = failed_by in_body in_block ts rest e (λ ns. (ns, r.goes ns)) f

pub contents_read : (ts mid rest : List Symbol) (old new : Declarations) (b : List Stmt) → DeclarationsRead ts mid old → Parsed BlockPart in_block on mid rest b → new.scalars ≡ old.scalars → new.arrays ≡ old.arrays → new.body ≡ old.body ++ b → ContentsRead ts rest new
contents_read ts mid rest old new b r p e f g = record {
  variables = r.variables;
  found = subst (λ x. Body ts (token.CloseBrace ∷ rest) r.variables x) (sym g) (r.found (token.CloseBrace ∷ rest) b p.found);
  scalars = e ∙ r.scalars;
  arrays = f ∙ r.arrays;
  goes = λ ns. r.goes ns ∙ p.goes ns;
}

abbrev pub header : Used → List Symbol → List Symbol
header x ts = token.Void ∷ token.Ident x ∷ token.Open ∷ ts

abbrev ported : Needs
ported = Exactly AnOpenBrace ∷ InBody ∷ []

pub ports_wrong : (x : Used) (ts rest : List Symbol) (e : Stuck) → ts ≡ header x rest → Failed some_ports rest e → Failed whole_text ts e
ports_wrong x ts rest e s f = failed_by whole_text some_ports ts rest e (λ ns. (ported, ap (λ y. stuck y start) s)) f

ports_go : (x : Used) (ts mid rest : List Symbol) (ps : List Port) → ts ≡ header x mid → Parsed Ports some_ports on mid rest ps → stuck ts start ≡ stuck rest ported
ports_go x ts mid rest ps s p = ap (λ y. stuck y start) s ∙ p.goes ported

pub brace_missing : (x : Used) (ts mid rest : List Symbol) (ps : List Port) (e : Stuck) → ts ≡ header x mid → Parsed Ports some_ports on mid rest ps → Failed (exactly mark.OpenBrace) rest e → Failed whole_text ts e
brace_missing x ts mid rest ps e s p f = failed_by whole_text (exactly mark.OpenBrace) ts rest e (λ ns. (InBody ∷ [], ports_go x ts mid rest ps s p)) f

brace_goes : (x : Used) (ts mid rest inner : List Symbol) (ps : List Port) → ts ≡ header x mid → Parsed Ports some_ports on mid rest ps → rest ≡ token.OpenBrace ∷ inner → stuck ts start ≡ stuck inner (InBody ∷ [])
brace_goes x ts mid rest inner ps s p u = ports_go x ts mid rest ps s p ∙ ap (λ y. stuck y ported) u

pub contents_wrong : (x : Used) (ts mid rest inner : List Symbol) (ps : List Port) (e : Stuck) → ts ≡ header x mid → Parsed Ports some_ports on mid rest ps → rest ≡ token.OpenBrace ∷ inner → Failed in_body inner e → Failed whole_text ts e
contents_wrong x ts mid rest inner ps e s p u f = failed_by whole_text in_body ts inner e (λ ns. ([], brace_goes x ts mid rest inner ps s p u)) f

text_goes : (x : Used) (ts mid rest inner behind : List Symbol) (ps : List Port) (made : Declarations) → ts ≡ header x mid → Parsed Ports some_ports on mid rest ps → rest ≡ token.OpenBrace ∷ inner → ContentsRead inner behind made → stuck ts start ≡ stuck behind []
text_goes x ts mid rest inner behind ps made s p u c = brace_goes x ts mid rest inner ps s p u ∙ c.goes []

too_long : (ts more : List Symbol) (t : Symbol) → ts ≡ t ∷ more → stuck ts [] ≡ Some (length ts)
too_long ts more t e = subst (λ y. stuck y [] ≡ Some (length y)) (sym e) refl

pub text_too_long : (x : Used) (ts mid rest inner more : List Symbol) (t : Symbol) (behind : List Token) (ps : List Port) (made : Declarations) → ts ≡ header x mid → Parsed Ports some_ports on mid rest ps → rest ≡ token.OpenBrace ∷ inner → ContentsRead inner (symbols behind) made
    → symbols behind ≡ t ∷ more → (ns : Needs) → stuck ts start ≡ Some (length behind)
text_too_long x ts mid rest inner more t behind ps made s p u c h ns = text_goes x ts mid rest inner (symbols behind) ps made s p u c ∙ too_long (symbols behind) more t h ∙ ap Some (length-map behind symbol_of)

pub operator_read : (x : Used) (ts mid rest inner : List Symbol) (behind : List Token) (ps : List Port) (made : Declarations) (op : Operator) → ts ≡ header x mid → Parsed Ports some_ports on mid rest ps → rest ≡ token.OpenBrace ∷ inner → ContentsRead inner (symbols behind) made → symbols behind ≡ []
    → op ≡ record { name = x.name; at = x.at; ports = ps; scalars = made.scalars; arrays = made.arrays; body = made.body } → Syntax ts op × stuck ts start ≡ None
operator_read x ts mid rest inner behind ps made op s p u c q o =
    let f : op ≡ operator_of x ps c.variables made.body = o ∙ ap (λ y. record { name = x.name; at = x.at; ports = ps; scalars = y; arrays = made.arrays; body = made.body }) c.scalars
    ∙ ap (λ y. record { name = x.name; at = x.at; ports = ps; scalars = scalars_of c.variables; arrays = y; body = made.body }) c.arrays in (
      subst (λ y. Syntax ts y) (sym f) (subst (λ y. Syntax y (operator_of x ps c.variables made.body)) (sym s)
          (grammar.operator (subst (λ y. Ports mid y ps) u p.found) (subst (λ y. Body inner (token.CloseBrace ∷ y) c.variables made.body) q c.found))),
      text_goes x ts mid rest inner (symbols behind) ps made s p u c ∙ ap (λ y. stuck y []) q,
    )
