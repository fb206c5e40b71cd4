-- Where a text opens a bracket too many, and what its verdict is.
use Rattle.std.proofs.Common.{ℕ, zero, suc, pred, ◌+◌, ◌-◌, ◌≤◌, ◌<◌, ◌≡◌, ◌⊎◌, inl, inr, refl, sym, ◌∙◌, ap, subst, List, [], ◌∷◌, length, take, Option, Some, None, Bool, true, false, cond, nat_le, arith}
use Rattle.std.proofs.lemmas.Bool.{leb-false}
use Rattle.std.proofs.lemmas.List.{length-map}
use Rattle.pld_base.specs.declared.event.Place.{Place}
use Rattle.pld_base.specs.declared.fault.SourceFault.{SourceFault}
use Rattle.pld_lex.specs.declared.token.Token.{Token}
use Rattle.pld_grammar.specs.Symbols.{Symbol, symbol_of, symbols}
use Rattle.pld_grammar.specs.Symbols as token
use Rattle.pld_grammar.specs.Fault.{Kind, Syntactic, Nesting, IsFault, IsNarrow, open_after}
use Rattle.pld_grammar.specs.Machine.{Needs, Verdict, Fine, Wrong, TooDeep, after_token, is_crowded, at_token, verdict, start}
use Rattle.pld_grammar.specs.Verdicts.{Says}
use Rattle.pld_parse.specs.Reading.{stuck, stuck_at}
use Rattle.pld_parse.specs.Faults.{crowded_at, Tells, verdict_of, Judges, told, plain}

-- ---- the search for the first crowded token

pub crowded_here : (most d : ℕ) (t : Symbol) (ts all : List Symbol) → all ≡ t ∷ ts → is_crowded most d t ≡ true → crowded_at most d all ≡ Some (length all)
crowded_here most d t ts all e h = subst (λ x. crowded_at most d x ≡ Some (length x)) (sym e) (ap (λ b. cond b (Some (suc (length ts))) (crowded_at most (open_after d t) ts)) h)

pub crowded_behind : (most d : ℕ) (t : Symbol) (ts all : List Symbol) → all ≡ t ∷ ts → is_crowded most d t ≡ false → crowded_at most d all ≡ crowded_at most (open_after d t) ts
crowded_behind most d t ts all e h = ap (crowded_at most d) e ∙ ap (λ b. cond b (Some (suc (length ts))) (crowded_at most (open_after d t) ts)) h

pub none_crowded : (most d : ℕ) (ts : List Symbol) → ts ≡ [] → crowded_at most d ts ≡ None
none_crowded most d ts e = ap (crowded_at most d) e

below : (most d : ℕ) → nat_le most d ≡ false → suc d ≤ most
below most d h = let w : d < most = leb-false _ _ h in omega arith

down : (most d : ℕ) → d ≤ most → pred d ≤ most
down most zero l = l
down most (suc d) l = omega arith

-- a token that takes no bracket too many leaves no more open
pub open_within : (most d : ℕ) (t : Symbol) → is_crowded most d t ≡ false → d ≤ most → open_after d t ≤ most
open_within most d token.Open h l = below most d h
open_within most d token.OpenBracket h l = below most d h
open_within most d token.OpenBrace h l = below most d h
open_within most d token.Close h l = down most d l
open_within most d token.CloseBracket h l = down most d l
open_within most d token.CloseBrace h l = down most d l
open_within most d _ h l = l

crowded_case : (most d : ℕ) (t : Symbol) (ts : List Symbol) (o : Option ℕ) (b : Bool) → is_crowded most d t ≡ b → crowded_at most d (t ∷ ts) ≡ o
    → ((is_crowded most d t ≡ true) × (o ≡ Some (suc (length ts)))) ⊎ ((is_crowded most d t ≡ false) × (crowded_at most (open_after d t) ts ≡ o))
crowded_case most d t ts o true e h = inl (e, sym h ∙ crowded_here most d t ts (t ∷ ts) refl e)
crowded_case most d t ts o false e h = inr (e, sym (crowded_behind most d t ts (t ∷ ts) refl e) ∙ h)

pub crowded_within : (most d : ℕ) (ts : List Symbol) (k : ℕ) → crowded_at most d ts ≡ Some k → (1 ≤ k) × (k ≤ length ts)
crowded_within most d [] k h = absurd (cc h)
crowded_within most d (t ∷ ts) k h = elim (crowded_case most d t ts (Some k) (is_crowded most d t) refl h) [
  | inl w ↦ let v : k ≡ suc (length ts) = cc (w.1) in (omega arith, omega arith)
  | inr w ↦
      let v : (1 ≤ k) × (k ≤ length ts) = crowded_within most (open_after d t) ts k w.1 in
      let a : 1 ≤ k = v.0 in
      let b : k ≤ length ts = v.1 in
      (a, omega arith)
]

-- ---- verdicts

plain_at : (o : Option Needs) (n : ℕ) (b : Bool) (go : Needs → Verdict) (go' : Needs → Option ℕ) → b ≡ false → ((ns : Needs) → go ns ≡ plain (go' ns)) → at_token o b n go ≡ plain (stuck_at o n go')
plain_at None n b go go' e h = refl
plain_at (Some ns) n false go go' e h = h ns
plain_at (Some ns) n true go go' e h = absurd (cc e)

-- tokens of which none takes a bracket too many
pub verdict_plain : (most d : ℕ) (ts : List Symbol) (ns : Needs) → crowded_at most d ts ≡ None → verdict most ts d ns ≡ plain (stuck ts ns)
verdict_plain most d [] [] h = refl
verdict_plain most d [] (n ∷ ns) h = refl
verdict_plain most d (t ∷ ts) ns h = elim (crowded_case most d t ts None (is_crowded most d t) refl h) [
  | inl w ↦ absurd (cc (w.1))
  | inr w ↦ plain_at (after_token ns t) (length ts) (is_crowded most d t) (verdict most ts (open_after d t)) (stuck ts) w.0 (λ ms. verdict_plain most (open_after d t) ts ms w.1)
]

end_told : (ns : Needs) (k : ℕ) → TooDeep k ≡ told (stuck [] ns) k
end_told [] k = refl
end_told (n ∷ ns) k = refl

last_at : (o : Option Needs) (k : ℕ) (b : Bool) (n : ℕ) (go : Needs → Verdict) → b ≡ true → k ≡ suc n → at_token o b n go ≡ told (stuck_at o 0 (stuck [])) k
last_at None k b n go e f = ap Wrong (let w : suc n ≡ 0 + k = omega arith in w)
last_at (Some ns) k true n go e f = ap TooDeep (sym f) ∙ end_told ns k
last_at (Some ns) k false n go e f = absurd (cc e)

more_at : (o : Option Needs) (k : ℕ) (b : Bool) (n m : ℕ) (go : Needs → Verdict) (go' : Needs → Option ℕ) → b ≡ false → m + k ≡ suc n → ((ns : Needs) → go ns ≡ told (go' ns) k) → at_token o b n go ≡ told (stuck_at o m go') k
more_at None k b n m go go' e f h = ap Wrong (sym f)
more_at (Some ns) k false n m go go' e f h = h ns
more_at (Some ns) k true n m go go' e f h = absurd (cc e)

length_take : (m : ℕ) (ts : List Symbol) → m ≤ length ts → length (take m ts) ≡ m
length_take zero ts h = refl
length_take (suc m) [] h = absurd (omega arith)
length_take (suc m) (t ∷ ts) h = ap suc (length_take m ts (omega arith))

told_now : (most d : ℕ) (t : Symbol) (ts : List Symbol) (ns : Needs) (k m : ℕ) → m ≡ 1 → k ≡ suc (length ts) → is_crowded most d t ≡ true → verdict most (t ∷ ts) d ns ≡ told (stuck (take m (t ∷ ts)) ns) k
told_now most d t ts ns k m a b c = subst (λ x. verdict most (t ∷ ts) d ns ≡ told (stuck (take x (t ∷ ts)) ns) k) (sym a) (last_at (after_token ns t) k (is_crowded most d t) (length ts) (verdict most ts (open_after d t)) c b)

told_later : (most d : ℕ) (t : Symbol) (ts : List Symbol) (ns : Needs) (k m n : ℕ) → m ≡ suc n → is_crowded most d t ≡ false → n + k ≡ suc (length ts) → n ≤ length ts
    → ((ms : Needs) → verdict most ts (open_after d t) ms ≡ told (stuck (take n ts) ms) k) → verdict most (t ∷ ts) d ns ≡ told (stuck (take m (t ∷ ts)) ns) k
told_later most d t ts ns k m n a c f l again =
    let q : length (take n ts) + k ≡ suc (length ts) = ap (λ x. x + k) (length_take n ts l) ∙ f in
    subst (λ x. verdict most (t ∷ ts) d ns ≡ told (stuck (take x (t ∷ ts)) ns) k) (sym a)
    (more_at (after_token ns t) k (is_crowded most d t) (length ts) (length (take n ts)) (verdict most ts (open_after d t)) (stuck (take n ts)) c q again)

-- tokens of which the one with k left takes a bracket too many
pub verdict_told : (most d : ℕ) (ts : List Symbol) (ns : Needs) (k m : ℕ) → crowded_at most d ts ≡ Some k → m + k ≡ suc (length ts) → verdict most ts d ns ≡ told (stuck (take m ts) ns) k
verdict_told most d [] ns k m h e = absurd (cc h)
verdict_told most d (t ∷ ts) ns k m h e = elim (crowded_case most d t ts (Some k) (is_crowded most d t) refl h) [
  | inl w ↦ let v : k ≡ suc (length ts) = cc (w.1) in told_now most d t ts ns k m (omega arith) v w.0
  | inr w ↦
      let v : (1 ≤ k) × (k ≤ length ts) = crowded_within most (open_after d t) ts k w.1 in
      let a : 1 ≤ k = v.0 in
      let b : k ≤ length ts = v.1 in
      let f : (m - 1) + k ≡ suc (length ts) = omega arith in
      told_later most d t ts ns k m (m - 1) (omega arith) w.0 f (omega arith) (λ ms. verdict_told most (open_after d t) ts ms k (m - 1) w.1 f)
]

stuck_within_at : (o : Option Needs) (n k : ℕ) (go : Needs → Option ℕ) → stuck_at o n go ≡ Some k → ((ns : Needs) → go ns ≡ Some k → k ≤ n) → k ≤ suc n
stuck_within_at None n k go e h = let w : suc n ≡ k = cc e in omega arith
stuck_within_at (Some ns) n k go e h = let w : k ≤ n = h ns e in omega arith

pub stuck_within : (ts : List Symbol) (ns : Needs) (k : ℕ) → stuck ts ns ≡ Some k → k ≤ length ts
stuck_within [] [] k e = absurd (cc e)
stuck_within [] (n ∷ ns) k e = let w : 0 ≡ k = cc e in omega arith
stuck_within (t ∷ ts) ns k e = stuck_within_at (after_token ns t) (length ts) k (stuck ts) e (λ ms f. stuck_within ts ms k f)

pub take_symbols : (n : ℕ) (ts : List Token) → symbols (take n ts) ≡ take n (symbols ts)
take_symbols zero ts = refl
take_symbols (suc n) [] = refl
take_symbols (suc n) (t ∷ ts) = ap (λ x. symbol_of t ∷ x) (take_symbols n ts)

-- ---- what the reader tells

fault_told : (most n : ℕ) (k : Kind) (ts : List Symbol) → Says most ts (verdict most ts 0 start) → verdict most ts 0 start ≡ verdict_of k n → IsFault most ts k n
fault_told most n Syntactic ts s e = subst (Says most ts) e s
fault_told most n Nesting ts s e = subst (Says most ts) e s

pub tells : (most : ℕ) (ts : List Token) (behind : Place) (f : SourceFault) → Says most (symbols ts) (verdict most (symbols ts) 0 start) → Judges most ts behind f → Tells most ts behind f
tells most ts behind f s j = record { kind = j.kind; left = j.left; is = fault_told most j.left j.kind (symbols ts) s j.is; kind_is = j.kind_is; line_is = j.line_is; column_is = j.column_is }

pub narrow_told : (most : ℕ) (ts : List Symbol) → Says most ts (verdict most ts 0 start) → verdict most ts 0 start ≡ Fine → IsNarrow most 0 ts
narrow_told most ts s e = (subst (Says most ts) e s).1

-- ---- what the code cites, over tokens

pub left_within : (most : ℕ) (ts : List Token) (k : ℕ) → crowded_at most 0 (symbols ts) ≡ Some k → (1 ≤ k) × (k ≤ length ts)
left_within most ts k h = subst (λ n. (1 ≤ k) × (k ≤ n)) (length-map ts symbol_of) (crowded_within most 0 (symbols ts) k h)

pub front_told : (most : ℕ) (ts front : List Token) (k n : ℕ) (o : Option ℕ) → crowded_at most 0 (symbols ts) ≡ Some k → front ≡ take n ts → n + k ≡ suc (length ts) → stuck (symbols front) start ≡ o → verdict most (symbols ts) 0 start ≡ told o k
front_told most ts front k n o h f e s =
    let g : symbols front ≡ take n (symbols ts) = ap symbols f ∙ take_symbols n ts in
    let l : n + k ≡ suc (length (symbols ts)) = e ∙ ap suc (sym (length-map ts symbol_of)) in
    verdict_told most 0 (symbols ts) start k n h l ∙ ap (λ x. told (stuck x start) k) (sym g) ∙ ap (λ x. told x k) s

pub short_within : (ts front : List Token) (k n short : ℕ) → front ≡ take n ts → n ≤ length ts → stuck (symbols front) start ≡ Some short → short ≤ n
short_within ts front k n short f l s =
    let a : short ≤ length (symbols front) = stuck_within (symbols front) start short s in
    let b : length (symbols front) ≡ length front = length-map front symbol_of in
    let c : length front ≡ length (take n ts) = ap length f in
    let d : length (take n ts) ≡ n = taken n ts l in
    omega arith
  where
    taken : (m : ℕ) (us : List Token) → m ≤ length us → length (take m us) ≡ m
    taken zero us h = refl
    taken (suc m) [] h = absurd (omega arith)
    taken (suc m) (u ∷ us) h = ap suc (taken m us (omega arith))

pub text_within : (ts : List Token) (n : ℕ) → stuck (symbols ts) start ≡ Some n → n ≤ length ts
text_within ts n s = subst (λ x. n ≤ x) (length-map ts symbol_of) (stuck_within (symbols ts) start n s)

pub roomy_told : (most : ℕ) (ts : List Token) (o : Option ℕ) → crowded_at most 0 (symbols ts) ≡ None → stuck (symbols ts) start ≡ o → verdict most (symbols ts) 0 start ≡ plain o
roomy_told most ts o h s = verdict_plain most 0 (symbols ts) start h ∙ ap plain s
