-- A reading and what it says of its text.
use Rattle.std.proofs.Common.{◌≡◌, ℕ, ◌≤◌, List, Option, Some, None, refl, sym, ap, ◌∙◌, subst, arith}
use Rattle.std.specs.Prelude.{Result, Ok, Err, MatchResult}
use Rattle.pld_base.specs.declared.memory.Refused.{Refused}
use Rattle.pld_base.specs.declared.memory.Refused.TheVariants.{Fault, NoMemory}
use Rattle.pld_base.specs.declared.event.Place.{Place}
use Rattle.pld_base.specs.declared.fault.FaultKind.{FaultKind}
use Rattle.pld_base.specs.declared.fault.SourceFault.{SourceFault}
use Rattle.pld_ast.specs.declared.tree.Operator.{Operator}
use Rattle.pld_lex.specs.declared.token.Token.{Token}
use Rattle.pld_lex.specs.Lexed.{Found, IfFault, lexed, fault_at}
use Rattle.pld_grammar.specs.Symbols.{symbols}
use Rattle.pld_grammar.specs.Grammar.{Syntax}
use Rattle.pld_grammar.specs.Fault.{IsNarrow, Kind, Syntactic, Nesting}
use Rattle.pld_grammar.specs.Machine.{Verdict, Fine, Wrong, TooDeep, verdict, start}
use Rattle.pld_grammar.specs.Verdicts.{Says}
use Rattle.pld_grammar.proofs.Parse.{no_fault, one_fault}
use Rattle.pld_grammar.proofs.Unique.{one_syntax}
use Rattle.pld_check.specs.Faults.{check_fault, Refuses}
use Rattle.pld_parse.specs.Faults.{Tells, IsFaultOf, place_of, fault_kind}
use Rattle.pld_source.specs.Reading.{Reading, Faulty, Reads, reading, behind, syntax_fault, named, parsed, verdict_on, said_on, read_tokens}
use Rattle.pld_source.specs.Faults.{IsTextOf, IsReadAs, HasFault, In_tokens, In_syntax, In_names}

-- a text of the grammar is read by its operator
parsed_as : (ts : List Token) (past : Place) (op : Operator) (v : Verdict) (said : Says 32 (symbols ts) v) → Syntax (symbols ts) op → IsNarrow 32 0 (symbols ts) → parsed ts past v said ≡ named op (check_fault op)
parsed_as ts past op Fine said s w = ap (λ o. named o (check_fault o)) (one_syntax said.0.1 s)
parsed_as ts past op (Wrong n) said s w = absurd (no_fault 32 n Syntactic (symbols ts) op said s w)
parsed_as ts past op (TooDeep n) said s w = absurd (no_fault 32 n Nesting (symbols ts) op said s w)

-- a fault is told by its kind and its place
same_fault : (ts : List Token) (past : Place) (f : SourceFault) (tells : Tells 32 ts past f) (k : Kind) (n : ℕ) → (k ≡ tells.kind) × (n ≡ tells.left) → syntax_fault ts past k n ≡ f
same_fault ts past f tells k n same =
    ap (λ x. syntax_fault ts past x n) same.0 ∙ ap (λ x. syntax_fault ts past tells.kind x) same.1
    ∙ (λ i. record { kind = sym tells.kind_is i; line = sym tells.line_is i; column = sym tells.column_is i })

parsed_wrong : (ts : List Token) (past : Place) (f : SourceFault) (v : Verdict) (said : Says 32 (symbols ts) v) → Tells 32 ts past f → parsed ts past v said ≡ Faulty f
parsed_wrong ts past f Fine said tells = absurd (no_fault 32 tells.left tells.kind (symbols ts) said.0.0 tells.is said.0.1 said.1)
parsed_wrong ts past f (Wrong n) said tells = ap Faulty (same_fault ts past f tells Syntactic n (one_fault 32 n tells.left Syntactic tells.kind (symbols ts) said tells.is))
parsed_wrong ts past f (TooDeep n) said tells = ap Faulty (same_fault ts past f tells Nesting n (one_fault 32 n tells.left Nesting tells.kind (symbols ts) said tells.is))

-- ---- from the text to its reading

read_as : (text : List ℕ) (ts : List Token) → lexed text ≡ Ok ts → reading text ≡ read_tokens (behind text) (Ok ts)
unfolding reading
read_as text ts e = ap (read_tokens (behind text)) e

pub text_named : (text : List ℕ) (ts : List Token) (op : Operator) → lexed text ≡ Ok ts → Syntax (symbols ts) op → IsNarrow 32 0 (symbols ts) → reading text ≡ named op (check_fault op)
text_named text ts op e s w = read_as text ts e ∙ parsed_as ts (behind text) op (verdict_on ts) (said_on ts) s w

pub text_read : (text : List ℕ) (ts : List Token) (op : Operator) → lexed text ≡ Ok ts → Syntax (symbols ts) op → IsNarrow 32 0 (symbols ts) → check_fault op ≡ None → reading text ≡ Reads op
text_read text ts op e s w n = text_named text ts op e s w ∙ ap (named op) n

pub text_misnamed : (text : List ℕ) (ts : List Token) (op : Operator) (f : SourceFault) → lexed text ≡ Ok ts → Syntax (symbols ts) op → IsNarrow 32 0 (symbols ts) → check_fault op ≡ Some f → reading text ≡ Faulty f
text_misnamed text ts op f e s w n = text_named text ts op e s w ∙ ap (named op) n

pub text_wrong : (text : List ℕ) (ts : List Token) (f : SourceFault) → lexed text ≡ Ok ts → Tells 32 ts (behind text) f → reading text ≡ Faulty f
text_wrong text ts f e tells = read_as text ts e ∙ parsed_wrong ts (behind text) f (verdict_on ts) (said_on ts) tells

pub text_unspelled : (text : List ℕ) (f : SourceFault) → lexed text ≡ Err f → reading text ≡ Faulty f
unfolding reading
text_unspelled text f e = ap (read_tokens (behind text)) e

pub all_read : (text : List ℕ) (op : Operator) → IsReadAs text op → reading text ≡ Reads op
all_read text op h = text_read text h.is.tokens op h.is.spelled h.is.syntax h.is.narrow h.named

pub all_faulty : (text : List ℕ) (f : SourceFault) → HasFault text f → reading text ≡ Faulty f
all_faulty text f (In_tokens e) = text_unspelled text f e
all_faulty text f (In_syntax ts e tells) = text_wrong text ts f e tells
all_faulty text f (In_names op is n) = text_misnamed text is.tokens op f is.spelled is.syntax is.narrow n

-- ---- from the reading to its text

abbrev Said : List ℕ → Reading → Type 0
Said text (Faulty f) = HasFault text f
Said text (Reads op) = IsReadAs text op

named_said : (text : List ℕ) (op : Operator) → IsTextOf text op → (found : Option SourceFault) → check_fault op ≡ found → Said text (named op found)
named_said text op is None e = record { is = is; named = e }
named_said text op is (Some f) e = In_names op is e

parsed_said : (text : List ℕ) (ts : List Token) → lexed text ≡ Ok ts → (v : Verdict) (said : Says 32 (symbols ts) v) → Said text (parsed ts (behind text) v said)
parsed_said text ts e Fine said = named_said text said.0.0 (record { tokens = ts; spelled = e; syntax = said.0.1; narrow = said.1 }) (check_fault said.0.0) refl
parsed_said text ts e (Wrong n) said = In_syntax ts e (record { kind = Syntactic; left = n; is = said; kind_is = refl; line_is = refl; column_is = refl })
parsed_said text ts e (TooDeep n) said = In_syntax ts e (record { kind = Nesting; left = n; is = said; kind_is = refl; line_is = refl; column_is = refl })

found_said : (text : List ℕ) (found : Found) → lexed text ≡ found → Said text (read_tokens (behind text) found)
found_said text (Ok ts) e = parsed_said text ts e (verdict_on ts) (said_on ts)
found_said text (Err f) e = In_tokens e

reading_said : (text : List ℕ) → Said text (reading text)
unfolding reading
reading_said text = found_said text (lexed text) refl

pub reading_reads : (text : List ℕ) (op : Operator) → reading text ≡ Reads op → IsReadAs text op
reading_reads text op e = subst (Said text) e (reading_said text)

pub reading_faulty : (text : List ℕ) (f : SourceFault) → reading text ≡ Faulty f → HasFault text f
reading_faulty text f e = subst (Said text) e (reading_said text)

-- ---- what the parts of the reader answer

pub checked_so : (op scoped : Operator) → scoped ≡ op → (r : Result Operator (Refused SourceFault)) → MatchResult r (λ checked. (checked ≡ scoped) × (check_fault scoped ≡ None)) (λ e. Refuses e (check_fault scoped))
    → MatchResult r (λ checked. (checked ≡ op) × (check_fault op ≡ None)) (λ e. IfFault e (λ f. check_fault op ≡ Some f))
checked_so op scoped is (Ok checked) h = (h.0 ∙ is, ap check_fault (sym is) ∙ h.1)
checked_so op scoped is (Err (Fault f)) h = ap check_fault (sym is) ∙ h
checked_so op scoped is (Err NoMemory) h = absurd h

pub checked_read : (text : List ℕ) (ts : List Token) (op : Operator) → lexed text ≡ Ok ts → Syntax (symbols ts) op → IsNarrow 32 0 (symbols ts) → (r : Result Operator (Refused SourceFault))
    → MatchResult r (λ checked. (checked ≡ op) × (check_fault op ≡ None)) (λ e. IfFault e (λ f. check_fault op ≡ Some f)) → MatchResult r (λ checked. reading text ≡ Reads checked) (λ e. IfFault e (λ f. reading text ≡ Faulty f))
checked_read text ts op e s w (Ok checked) h = subst (λ x. reading text ≡ Reads x) (sym h.0) (text_read text ts op e s w h.1)
checked_read text ts op e s w (Err (Fault f)) h = text_misnamed text ts op f e s w h
checked_read text ts op e s w (Err NoMemory) h = tt

pub refused_read : (text : List ℕ) (ts : List Token) (past : Place) → lexed text ≡ Ok ts → past ≡ behind text → (e : Refused SourceFault) → IsFaultOf 32 ts past e → IfFault e (λ f. reading text ≡ Faulty f)
refused_read text ts past spelled is (Fault f) h = text_wrong text ts f spelled (subst (λ p. Tells 32 ts p f) is h)
refused_read text ts past spelled is NoMemory h = tt

pub unspelled_read : (text : List ℕ) (e : Refused SourceFault) → IfFault e (λ f. lexed text ≡ Err f) → IfFault e (λ f. reading text ≡ Faulty f)
unspelled_read text (Fault f) h = text_unspelled text f h
unspelled_read text NoMemory h = tt
