-- Marks at the front of tokens.
use Rattle.std.proofs.Common.{◌≡◌, refl, ◌∙◌, ap, List, [], ◌∷◌, length, Option, Some, None}
use Rattle.std.proofs.lemmas.List.{length-map}
use Rattle.pld_lex.specs.declared.token.Token.{Token}
use Rattle.pld_grammar.specs.Symbols.{Symbol, symbol_of, symbols}
use Rattle.pld_grammar.specs.Symbols as token
use Rattle.pld_grammar.specs.Machine.{Needs}
use Rattle.pld_parse.specs.declared.token.Mark.{Mark}
use Rattle.pld_parse.specs.declared.token.Mark.TheVariants as mark
use Rattle.pld_parse.specs.Reading.{stuck, symbol_of_mark, BeginsOtherwise, IsAskedFor, exactly}

abbrev mark_in : Symbol → Option Mark
mark_in token.Void = Some mark.Void
mark_in token.Open = Some mark.Open
mark_in token.Close = Some mark.Close
mark_in token.OpenBracket = Some mark.OpenBracket
mark_in token.CloseBracket = Some mark.CloseBracket
mark_in token.OpenBrace = Some mark.OpenBrace
mark_in token.CloseBrace = Some mark.CloseBrace
mark_in token.Comma = Some mark.Comma
mark_in token.Semicolon = Some mark.Semicolon
mark_in token.Assign = Some mark.Assign
mark_in token.Else = Some mark.Else
mark_in token.If = Some mark.If
mark_in token.Read = Some mark.Read
mark_in token.For = Some mark.For
mark_in _ = None

its_mark : (m : Mark) → mark_in (symbol_of_mark m) ≡ Some m
its_mark mark.Void = refl
its_mark mark.Open = refl
its_mark mark.Close = refl
its_mark mark.OpenBracket = refl
its_mark mark.CloseBracket = refl
its_mark mark.OpenBrace = refl
its_mark mark.CloseBrace = refl
its_mark mark.Comma = refl
its_mark mark.Semicolon = refl
its_mark mark.Assign = refl
its_mark mark.Else = refl
its_mark mark.If = refl
its_mark mark.Read = refl
its_mark mark.For = refl

one_mark : (m n : Mark) → symbol_of_mark m ≡ symbol_of_mark n → m ≡ n
one_mark m n e = cc (its_mark m, its_mark n, ap mark_in e)

pub empty_otherwise : (ts : List Symbol) (m : Mark) → ts ≡ [] → BeginsOtherwise m ts
empty_otherwise ts m e rest s = cc

pub no_mark_otherwise : (ts more : List Symbol) (s : Symbol) (m : Mark) → ts ≡ s ∷ more → ((n : Mark) → s ≡ symbol_of_mark n → ⊥) → BeginsOtherwise m ts
no_mark_otherwise ts more s m e h rest g = h m (cc (e, g))

pub other_mark_otherwise : (ts more : List Symbol) (s : Symbol) (m n : Mark) → ts ≡ s ∷ more → s ≡ symbol_of_mark n → (n ≡ m → ⊥) → BeginsOtherwise m ts
other_mark_otherwise ts more s m n e g h rest i = h (one_mark n m (cc (e, g, i)))

pub mark_missing : (m : Mark) (ts : List Symbol) → IsAskedFor m → BeginsOtherwise m ts → (ns : Needs) → stuck ts (exactly m ns) ≡ Some (length ts)
mark_missing mark.Void [] a h ns = refl
mark_missing mark.Void (token.Void ∷ ts) a h ns = absurd (h ts refl)
mark_missing mark.Void (_ ∷ ts) a h ns = refl
mark_missing mark.Open [] a h ns = refl
mark_missing mark.Open (token.Open ∷ ts) a h ns = absurd (h ts refl)
mark_missing mark.Open (_ ∷ ts) a h ns = refl
mark_missing mark.Close [] a h ns = refl
mark_missing mark.Close (token.Close ∷ ts) a h ns = absurd (h ts refl)
mark_missing mark.Close (_ ∷ ts) a h ns = refl
mark_missing mark.CloseBracket [] a h ns = refl
mark_missing mark.CloseBracket (token.CloseBracket ∷ ts) a h ns = absurd (h ts refl)
mark_missing mark.CloseBracket (_ ∷ ts) a h ns = refl
mark_missing mark.OpenBrace [] a h ns = refl
mark_missing mark.OpenBrace (token.OpenBrace ∷ ts) a h ns = absurd (h ts refl)
mark_missing mark.OpenBrace (_ ∷ ts) a h ns = refl
mark_missing mark.Comma [] a h ns = refl
mark_missing mark.Comma (token.Comma ∷ ts) a h ns = absurd (h ts refl)
mark_missing mark.Comma (_ ∷ ts) a h ns = refl
mark_missing mark.Semicolon [] a h ns = refl
mark_missing mark.Semicolon (token.Semicolon ∷ ts) a h ns = absurd (h ts refl)
mark_missing mark.Semicolon (_ ∷ ts) a h ns = refl
mark_missing mark.Assign [] a h ns = refl
mark_missing mark.Assign (token.Assign ∷ ts) a h ns = absurd (h ts refl)
mark_missing mark.Assign (_ ∷ ts) a h ns = refl
mark_missing _ ts a h ns = absurd a

pub mark_missing_here : (m : Mark) (ts : List Token) → IsAskedFor m → BeginsOtherwise m (symbols ts) → (ns : Needs) → stuck (symbols ts) (exactly m ns) ≡ Some (length ts)
mark_missing_here m ts a h ns = mark_missing m (symbols ts) a h ns ∙ ap Some (length-map ts symbol_of)
