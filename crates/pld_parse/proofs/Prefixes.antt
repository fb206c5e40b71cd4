-- Prefix operators, read and applied.
use Rattle.std.proofs.Common.{◌≤◌, ◌<◌, ◌≡◌, refl, sym, ◌∙◌, ap, List, [], ◌∷◌, ◌++◌, length, arith}
use Rattle.pld_ast.specs.declared.tree.Ty.{Ty}
use Rattle.pld_ast.specs.declared.tree.Ty.TheVariants as ty
use Rattle.pld_ast.specs.declared.tree.UnOp.{UnOp}
use Rattle.pld_ast.specs.declared.tree.UnOp.TheVariants as unary
use Rattle.pld_ast.specs.declared.tree.Expr.{Expr}
use Rattle.pld_grammar.specs.Symbols.{Symbol}
use Rattle.pld_grammar.specs.Symbols as token
use Rattle.pld_grammar.specs.Grammar.{IsType, signed, unsigned, IsPrefix, is_neg, is_plus, is_complement, is_not, Prefix, unary_form, cast}
use Rattle.pld_grammar.specs.Machine.{Needs, Operand}
use Rattle.pld_parse.specs.declared.token.Mark.TheVariants as mark
use Rattle.pld_parse.specs.declared.prefix.PrefixForm.{PrefixForm}
use Rattle.pld_parse.specs.declared.prefix.PrefixForm.TheVariants.{Sign, CastTo}
use Rattle.pld_parse.specs.Reading.{stuck, BeginsOtherwise, symbol_of_type, symbol_of_sign, NoPrefix, written, applied, all_written, all_applied}

pub no_prefix : (ts : List Symbol) → ((o : UnOp) (rest : List Symbol) → ts ≡ symbol_of_sign o ∷ rest → ⊥) → BeginsOtherwise mark.Open ts → NoPrefix ts
no_prefix [] h g = tt
no_prefix (token.Minus ∷ ts) h g = h unary.Neg ts refl
no_prefix (token.Plus ∷ ts) h g = h unary.Plus ts refl
no_prefix (token.Tilde ∷ ts) h g = h unary.BitNot ts refl
no_prefix (token.Bang ∷ ts) h g = h unary.Not ts refl
no_prefix (token.Open ∷ ts) h g = absurd (g ts refl)
no_prefix (_ ∷ ts) h g = tt

pub all_written_more : (fs : List PrefixForm) (f : PrefixForm) (ts : List Symbol) → all_written (fs ++ f ∷ []) ts ≡ all_written fs (written f ts)
all_written_more [] f ts = refl
all_written_more (g ∷ fs) f ts = ap (written g) (all_written_more fs f ts)

pub all_applied_more : (fs : List PrefixForm) (f : PrefixForm) (e : Expr) → all_applied (fs ++ f ∷ []) e ≡ all_applied fs (applied f e)
all_applied_more [] f e = refl
all_applied_more (g ∷ fs) f e = ap (applied g) (all_applied_more fs f e)

written_goes : (f : PrefixForm) (ts : List Symbol) (ns : Needs) → stuck (written f ts) (Operand ∷ ns) ≡ stuck ts (Operand ∷ ns)
written_goes (Sign unary.Neg) ts ns = refl
written_goes (Sign unary.Plus) ts ns = refl
written_goes (Sign unary.BitNot) ts ns = refl
written_goes (Sign unary.Not) ts ns = refl
written_goes (CastTo ty.Int) ts ns = refl
written_goes (CastTo ty.Uint) ts ns = refl

pub all_go : (fs : List PrefixForm) (ts : List Symbol) (ns : Needs) → stuck (all_written fs ts) (Operand ∷ ns) ≡ stuck ts (Operand ∷ ns)
all_go [] ts ns = refl
all_go (f ∷ fs) ts ns = written_goes f (all_written fs ts) ns ∙ all_go fs ts ns

type_is : (t : Ty) → IsType (symbol_of_type t) t
type_is ty.Int = signed
type_is ty.Uint = unsigned

sign_is : (o : UnOp) → IsPrefix (symbol_of_sign o) o
sign_is unary.Neg = is_neg
sign_is unary.Plus = is_plus
sign_is unary.BitNot = is_complement
sign_is unary.Not = is_not

written_found : (f : PrefixForm) (ts rest : List Symbol) (e : Expr) → Prefix ts rest e → Prefix (written f ts) rest (applied f e)
written_found (Sign o) ts rest e p = unary_form (sign_is o) p
written_found (CastTo t) ts rest e p = cast (type_is t) p

pub all_found : (fs : List PrefixForm) (ts rest : List Symbol) (e : Expr) → Prefix ts rest e → Prefix (all_written fs ts) rest (all_applied fs e)
all_found [] ts rest e p = p
all_found (f ∷ fs) ts rest e p = written_found f (all_written fs ts) rest (all_applied fs e) (all_found fs ts rest e p)

pub written_longer : (f : PrefixForm) (ts : List Symbol) → length ts < length (written f ts)
written_longer (Sign o) ts = omega arith
written_longer (CastTo t) ts = omega arith

pub all_longer : (fs : List PrefixForm) (ts : List Symbol) → length ts ≤ length (all_written fs ts)
all_longer [] ts = omega arith
all_longer (f ∷ fs) ts = omega (arith, all_longer fs ts, written_longer f (all_written fs ts))

pub prefixes_more : (fs gs : List PrefixForm) (f : PrefixForm) (ts rest behind : List Symbol) → ts ≡ all_written fs rest → rest ≡ written f behind → gs ≡ fs ++ f ∷ [] → ts ≡ all_written gs behind
prefixes_more fs gs f ts rest behind a b c = a ∙ ap (all_written fs) b ∙ sym (all_written_more fs f behind) ∙ ap (λ x. all_written x behind) (sym c)

pub apply_more : (fs gs : List PrefixForm) (f : PrefixForm) (e v : Expr) → all_applied fs e ≡ v → fs ≡ gs ++ f ∷ [] → all_applied gs (applied f e) ≡ v
apply_more fs gs f e v a b = sym (all_applied_more gs f e) ∙ ap (λ x. all_applied x e) (sym b) ∙ a
