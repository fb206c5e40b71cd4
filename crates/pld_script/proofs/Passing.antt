-- What a reader of lines has passed, and the first statement at which it stops.
use Rattle.std.proofs.Common.{◌≡◌, ◌⊎◌, ℕ, ◌+◌, ◌-◌, ◌<◌, ◌≤◌, Bool, true, false, List, [], ◌∷◌, ◌++◌, length, take, drop, Option, Some, None, refl, sym, ap, ◌∙◌, append_assoc, append-nil, subst, arith, inl, inr, length-append, zero, suc}
use Rattle.std.proofs.lemmas.List.{take_all, drop_all, length-drop}
use Rattle.std.proofs.lemmas.Bool.{cases_lt}
use Rattle.std.proofs.Math.Seq.{take-add}
use Rattle.pld_script.specs.Lines.{lines}
use Rattle.pld_script.specs.Grammar.{kind_of, closes_text, line_statement, text_statement}
use Rattle.pld_script.specs.declared.line.LineKind.TheVariants.{Skipped, Opens, Single}
use Rattle.pld_script.specs.declared.statement.Statement.{Statement}
use Rattle.pld_script.specs.declared.next.Next.{Next}
use Rattle.pld_script.specs.Statements.{Placed, statements_from, statements_at, text_of, MayFollow, HoldsNone, IsFirst, FirstsAreOne, IsNext, IsLine, HasPassed, Reads, next_of}
use Rattle.pld_script.proofs.Lining.{no_lines}
use Rattle.pld_script.proofs.Reading.{next_lines, rest_of, text_of-append}
use Rattle.pld_script.proofs.Scanning.{open_none, from_skipped, from_opens, from_single}

-- ---- one line more

one_line : (ended : Bool) (bytes line : List ℕ) (used : ℕ) → IsLine ended bytes line used → lines true (take used bytes) ≡ line ∷ []
one_line ended bytes line used h =
    elim h.cut [
      | inl c ↦ ap (lines true) (sym (append-nil (take used bytes))) ∙ c true []
      | inr t ↦
          let m : MayFollow ended true [] = record { end = λ q. refl; none = λ q. refl } in
          let all : length bytes ≤ used = omega (arith, t.1) in
          ap (lines true) (take_all used bytes all ∙ sym (append-nil bytes)) ∙ h.first true [] m
          ∙ ap (λ l. line ∷ lines true l) (append-nil (drop used bytes) ∙ drop_all used bytes all)
    ]

-- the lines of a front of a line
line_front : (ended : Bool) (bytes line : List ℕ) (used k : ℕ) → IsLine ended bytes line used → k ≤ used
    → (lines false (take k bytes) ≡ []) ⊎ (lines false (take k bytes) ≡ line ∷ [])
line_front ended bytes line used k h p =
    elim (cases_lt k used) [
      | inl q ↦ inl (h.least k q)
      | inr q ↦
          let same : k ≡ used = omega arith in
          elim h.cut [
            | inl c ↦ inr (ap (λ m. lines false (take m bytes)) same ∙ ap (lines false) (sym (append-nil (take used bytes))) ∙ c false [])
            | inr t ↦
                let all : length bytes ≤ used = omega (arith, t.1) in
                inl (ap (λ m. lines false (take m bytes)) same ∙ ap (lines false) (take_all used bytes all) ∙ t.2)
          ]
    ]

-- what was passed, and then more bytes
cut_of : (ended : Bool) (bytes : List ℕ) (blank : ℕ) (begun : List (List ℕ)) (at : ℕ) (h : HasPassed ended bytes blank begun at) → at < length bytes
    → (e : Bool) (more : List ℕ) → lines e (take at bytes ++ more) ≡ h.passed ++ lines e more
cut_of ended bytes blank begun at h p e more =
    elim h.cut [
      | inl c ↦ c e more
      | inr t ↦ absurd (omega (arith, t.1))
    ]

-- the statements of a front within the next line
front_statements : (ended : Bool) (bytes : List ℕ) (blank : ℕ) (begun : List (List ℕ)) (at k : ℕ) → HasPassed ended bytes blank begun at → at < length bytes → (number : ℕ)
    → statements_at false number (take (at + k) bytes) ≡ statements_from false (number + blank) begun (lines false (take k (drop at bytes)))
front_statements ended bytes blank begun at k h p number =
    ap (statements_at false number) (take-add at k bytes)
    ∙ ap (statements_from false number []) (cut_of ended bytes blank begun at h p false (take k (drop at bytes)))
    ∙ h.walks number false (lines false (take k (drop at bytes)))

-- no statement in a front of the next line
least_line : (ended : Bool) (bytes : List ℕ) (blank : ℕ) (begun : List (List ℕ)) (at used : ℕ) (line : List ℕ) → HasPassed ended bytes blank begun at → at < length bytes
    → IsLine ended (drop at bytes) line used → (n : ℕ) → n < at + used → HoldsNone false (take n bytes)
least_line ended bytes blank begun at used line h p l n q =
    elim (cases_lt at n) [
      | inl more ↦ λ number.
          let same : n ≡ at + (n - at) = omega arith in
          ap (λ m. statements_at false number (take m bytes)) same
          ∙ front_statements ended bytes blank begun at (n - at) h p number
          ∙ ap (statements_from false (number + blank) begun) (l.least (n - at) (omega arith))
          ∙ open_none begun (number + blank)
      | inr few ↦ h.least n (omega arith)
    ]

all_lines : (ended : Bool) (bytes : List ℕ) (blank : ℕ) (begun : List (List ℕ)) (at used : ℕ) (line : List ℕ) (h : HasPassed ended bytes blank begun at) → at < length bytes
    → IsLine ended (drop at bytes) line used → lines true (take (at + used) bytes) ≡ h.passed ++ line ∷ []
all_lines ended bytes blank begun at used line h p l =
    ap (lines true) (take-add at used bytes) ∙ cut_of ended bytes blank begun at h p true (take used (drop at bytes))
    ∙ ap (λ ls. h.passed ++ ls) (one_line ended (drop at bytes) line used l)

none_by : (ls line : List (List ℕ)) (number : ℕ) (begun : List (List ℕ)) → (ls ≡ []) ⊎ (ls ≡ line) → statements_from false number begun line ≡ [] → statements_from false number begun ls ≡ []
none_by ls line number begun (inl e) h = ap (statements_from false number begun) e ∙ open_none begun number
none_by ls line number begun (inr e) h = ap (statements_from false number begun) e ∙ h

-- A line that ends no statement was passed.
passes : (ended : Bool) (bytes : List ℕ) (blank blank' : ℕ) (begun begun' : List (List ℕ)) (at used : ℕ) (line : List ℕ) → HasPassed ended bytes blank begun at → at < length bytes
    → IsLine ended (drop at bytes) line used → blank + length begun + 1 ≡ blank' + length begun'
    → ((number : ℕ) (e : Bool) (ls : List (List ℕ)) → statements_from e (number + blank) begun (line ∷ ls) ≡ statements_from e (number + blank') begun' ls)
    → HasPassed ended bytes blank' begun' (at + used)
passes ended bytes blank blank' begun begun' at used line h p l n step = record {
  passed = h.passed ++ line ∷ [];
  count = omega (arith, h.count, n, length-append {A = List ℕ});
  all = all_lines ended bytes blank begun at used line h p l;
  cut =
      elim l.cut [
        | inl c ↦ inl (λ e more.
            ap (λ x. lines e (x ++ more)) (take-add at used bytes)
            ∙ ap (lines e) (append_assoc (take at bytes) (take used (drop at bytes)) more)
            ∙ cut_of ended bytes blank begun at h p e (take used (drop at bytes) ++ more)
            ∙ ap (λ ls. h.passed ++ ls) (c e more)
            ∙ sym (append_assoc h.passed (line ∷ []) (lines e more)))
        | inr t ↦ inr (t.0, omega (arith, t.1, length-drop {A = ℕ}))
      ];
  walks = λ number e ls. ap (statements_from e number []) (append_assoc h.passed (line ∷ []) ls) ∙ h.walks number e (line ∷ ls) ∙ step number e ls;
  least = λ n q number.
      elim (cases_lt at n) [
        | inl more ↦
            let same : n ≡ at + (n - at) = omega arith in
            ap (λ m. statements_at false number (take m bytes)) same
            ∙ front_statements ended bytes blank begun at (n - at) h p number
            ∙ none_by (lines false (take (n - at) (drop at bytes))) (line ∷ []) (number + blank) begun (line_front ended (drop at bytes) line used (n - at) l (omega arith))
            (step number false [] ∙ open_none begun' (number + blank'))
        | inr few ↦ h.least n (omega arith) number
      ];
}

least_zero : (n : ℕ) (bytes : List ℕ) → n ≤ 0 → HoldsNone false (take n bytes)
least_zero zero bytes h = λ number. refl
least_zero (suc n) bytes h = absurd (omega arith)

-- at the first byte
pub passed_new : (ended : Bool) (bytes : List ℕ) → HasPassed ended bytes 0 [] 0
passed_new ended bytes = record {
  passed = [];
  count = refl;
  all = refl;
  cut = inl (λ e more. refl);
  walks = λ number e ls. ap (λ n. statements_from e n [] ls) (omega arith);
  least = λ n h. least_zero n bytes h;
}

more_bytes : (ended : Bool) (bytes line : List ℕ) (at used : ℕ) → IsLine ended (drop at bytes) line used → at < length bytes
more_bytes ended bytes line at used h = omega (arith, h.within, h.some, length-drop {A = ℕ})

-- ---- the reader

pub reads_new : (ended : Bool) (bytes : List ℕ) → Reads ended bytes 0 [] 0
reads_new ended bytes = record {
  within = omega arith;
  counts = omega arith;
  front = passed_new ended bytes;
  same = λ number e more m. ap (λ n. statements_from e n [] (lines e (bytes ++ more))) (omega arith);
}

reads_on : (ended : Bool) (bytes : List ℕ) (blank blank' : ℕ) (begun begun' : List (List ℕ)) (at used : ℕ) (line : List ℕ) → Reads ended bytes blank begun at
    → IsLine ended (drop at bytes) line used → blank + length begun + 1 ≡ blank' + length begun'
    → ((number : ℕ) (e : Bool) (ls : List (List ℕ)) → statements_from e (number + blank) begun (line ∷ ls) ≡ statements_from e (number + blank') begun' ls)
    → Reads ended bytes blank' begun' (at + used)
reads_on ended bytes blank blank' begun begun' at used line r h n step = record {
  within = omega (arith, h.within, h.some, length-drop {A = ℕ});
  counts = omega (arith, h.some, r.counts, n);
  front = passes ended bytes blank blank' begun begun' at used line r.front (more_bytes ended bytes line at used h) h n step;
  same = λ number e more m.
      r.same number e more m
      ∙ ap (statements_from e (number + blank) begun) (next_lines ended bytes line at used h e more m)
      ∙ step number e (lines e (drop (at + used) bytes ++ more));
}

line_here : (ended : Bool) (bytes line : List ℕ) (at used : ℕ) → IsLine ended (take (length bytes - at) (drop at bytes)) line used → IsLine ended (drop at bytes) line used
line_here ended bytes line at used h = let P : List ℕ → Type 0 = λ l. IsLine ended l line used in subst P (rest_of bytes at) h

pub reads_skipped : (ended : Bool) (bytes : List ℕ) (blank at used : ℕ) (line : List ℕ) → Reads ended bytes blank [] at
    → IsLine ended (take (length bytes - at) (drop at bytes)) line used → kind_of line ≡ Skipped → Reads ended bytes (blank + 1) [] (at + used)
reads_skipped ended bytes blank at used line r h is =
    reads_on ended bytes blank (blank + 1) [] [] at used line r (line_here ended bytes line at used h) (omega arith)
    (λ number e ls. from_skipped e (number + blank) line ls is ∙ ap (λ n. statements_from e n [] ls) (omega arith))

pub reads_opens : (ended : Bool) (bytes : List ℕ) (blank at used : ℕ) (line : List ℕ) → Reads ended bytes blank [] at
    → IsLine ended (take (length bytes - at) (drop at bytes)) line used → kind_of line ≡ Opens → Reads ended bytes blank (line ∷ []) (at + used)
reads_opens ended bytes blank at used line r h is =
    reads_on ended bytes blank blank [] (line ∷ []) at used line r (line_here ended bytes line at used h) (omega arith) (λ number e ls. from_opens e (number + blank) line ls is)

text_more : (c e : Bool) (number : ℕ) (head line : List ℕ) (text ls : List (List ℕ)) → closes_text line ≡ c → c ≡ false
    → statements_from e number (head ∷ text) (line ∷ ls) ≡ statements_from e number (head ∷ (text ++ line ∷ [])) ls
text_more true e number head line text ls is other = cc
text_more false e number head line text ls is other = rw is refl

pub reads_text : (ended : Bool) (bytes : List ℕ) (blank : ℕ) (head line : List ℕ) (text : List (List ℕ)) (at used : ℕ)
    → Reads ended bytes blank (head ∷ text) at → IsLine ended (drop at bytes) line used → closes_text line ≡ false
    → Reads ended bytes blank (head ∷ (text ++ line ∷ [])) (at + used)
reads_text ended bytes blank head line text at used r h other =
    reads_on ended bytes blank blank (head ∷ text) (head ∷ (text ++ line ∷ [])) at used line r h (omega (arith, length-append {A = List ℕ}))
    (λ number e ls. text_more (closes_text line) e (number + blank) head line text ls refl other)

-- one more line of the text
pub reads_text_at : (ended : Bool) (bytes : List ℕ) (blank : ℕ) (head line : List ℕ) (at used count : ℕ) (old mid new : List ℕ)
    → (text : List (List ℕ)) × Reads ended bytes blank (head ∷ text) at × (old ≡ text_of text) × (count ≡ length text + 1)
    → IsLine ended (take (length bytes - at) (drop at bytes)) line used → closes_text line ≡ false
    → mid ≡ old ++ line → new ≡ mid ++ 10 ∷ []
    → (text : List (List ℕ)) × Reads ended bytes blank (head ∷ text) (at + used) × (new ≡ text_of text) × (count + 1 ≡ length text + 1)
reads_text_at ended bytes blank head line at used count old mid new s h other m n = (
  s.0 ++ line ∷ [],
  reads_text ended bytes blank head line s.0 at used s.1 (line_here ended bytes line at used h) other,
  n ∙ ap (λ l. l ++ 10 ∷ []) m ∙ append_assoc old line (10 ∷ []) ∙ ap (λ l. l ++ (line ++ 10 ∷ [])) s.2 ∙ sym (text_of-append s.0 line),
  omega (arith, s.3, length-append {A = List ℕ}),
)

-- ---- the first statement

cons_some : (p : Placed) (ps xs : List Placed) → xs ≡ p ∷ ps → xs ≡ [] → ⊥
cons_some p ps xs e n = cc

-- A line ends the statement.
first_ends : (ended : Bool) (bytes : List ℕ) (blank own : ℕ) (begun : List (List ℕ)) (at used : ℕ) (line : List ℕ) (said : Option Statement) → Reads ended bytes blank begun at
    → IsLine ended (drop at bytes) line used → own ≡ length begun + 1
    → ((number : ℕ) (e : Bool) (ls : List (List ℕ)) → statements_from e number begun (line ∷ ls) ≡ record { number = number; said = said } ∷ statements_from e (number + own) [] ls)
    → IsFirst ended bytes said blank own (at + used)
first_ends ended bytes blank own begun at used line said r h n ends =
    let p = more_bytes ended bytes line at used h in
    let all = all_lines ended bytes blank begun at used line r.front p h in
    record {
      within = omega (arith, h.within, h.some, length-drop {A = ℕ});
      some = omega (arith, h.some);
      counts = omega (arith, h.some, r.counts, n);
      own_lines = omega (arith, ap length all, r.front.count, n, length-append {A = List ℕ});
      least = least_line ended bytes blank begun at used line r.front p h;
      whole =
          elim h.cut [
            | inl c ↦ inl (λ number none.
                cons_some (record { number = number + blank; said = said }) (statements_from false (number + blank + own) [] []) (statements_at false number (take (at + used) bytes))
                (front_statements ended bytes blank begun at used r.front p number
                ∙ ap (statements_from false (number + blank) begun) (ap (lines false) (sym (append-nil (take used (drop at bytes)))) ∙ c false [])
                ∙ ends (number + blank) false []) none)
            | inr t ↦ inr (t.0, omega (arith, t.1, length-drop {A = ℕ}))
          ];
      first = λ number e more m.
          r.same number e more m
          ∙ ap (statements_from e (number + blank) begun) (next_lines ended bytes line at used h e more m)
          ∙ ends (number + blank) e (lines e (drop (at + used) bytes ++ more));
    }

-- how it is told
told_first : (ended : Bool) (bytes : List ℕ) (said : Option Statement) (blank own used : ℕ) (next : Next) → IsFirst ended bytes said blank own used → next ≡ next_of said blank own used → IsNext ended bytes next
told_first ended bytes None blank own used next f e = let P : Next → Type 0 = λ x. IsNext ended bytes x in subst P (sym e) f
told_first ended bytes (Some statement) blank own used next f e = let P : Next → Type 0 = λ x. IsNext ended bytes x in subst P (sym e) f

pub single_first : (ended : Bool) (bytes : List ℕ) (blank at used : ℕ) (line : List ℕ) (said : Option Statement) (next : Next) → Reads ended bytes blank [] at
    → IsLine ended (take (length bytes - at) (drop at bytes)) line used → kind_of line ≡ Single → said ≡ line_statement line → next ≡ next_of said blank 1 (at + used) → IsNext ended bytes next
single_first ended bytes blank at used line said next r h is s e =
    let P : Option Statement → Type 0 = λ x. IsFirst ended bytes x blank 1 (at + used) in
    told_first ended bytes said blank 1 (at + used) next
    (subst P (sym s) (first_ends ended bytes blank 1 [] at used line (line_statement line) r (line_here ended bytes line at used h) refl (λ number f ls. from_single f number line ls is))) e

text_ends : (c e : Bool) (number : ℕ) (head line : List ℕ) (text ls : List (List ℕ)) → closes_text line ≡ c → c ≡ true
    → statements_from e number (head ∷ text) (line ∷ ls) ≡ record { number = number; said = text_statement head (text_of text) } ∷ statements_from e (number + (2 + length text)) [] ls
text_ends true e number head line text ls is other = rw is refl
text_ends false e number head line text ls is other = cc

pub text_first : (ended : Bool) (bytes : List ℕ) (blank : ℕ) (head line : List ℕ) (at used count : ℕ) (body : List ℕ) (said : Option Statement) (next : Next)
    → (text : List (List ℕ)) × Reads ended bytes blank (head ∷ text) at × (body ≡ text_of text) × (count ≡ length text + 1)
    → IsLine ended (take (length bytes - at) (drop at bytes)) line used → closes_text line ≡ true → said ≡ text_statement head body → next ≡ next_of said blank (count + 1) (at + used) → IsNext ended bytes next
text_first ended bytes blank head line at used count body said next s h is t e =
    let P : Option Statement → Type 0 = λ x. IsFirst ended bytes x blank (count + 1) (at + used) in
    let own : count + 1 ≡ 2 + length s.0 = omega (arith, s.3) in
    told_first ended bytes said blank (count + 1) (at + used) next
    (subst P (sym (t ∙ ap (text_statement head) s.2)) (first_ends ended bytes blank (count + 1) (head ∷ s.0) at used line (text_statement head (text_of s.0)) s.1 (line_here ended bytes line at used h) (omega (arith, s.3))
    (λ number f ls. text_ends (closes_text line) f number head line s.0 ls refl is
    ∙ ap (λ n. record { number = number; said = text_statement head (text_of s.0) } ∷ statements_from f (number + n) [] ls) (sym own)))) e

-- a text without its end
pub open_first : (ended : Bool) (bytes : List ℕ) (blank : ℕ) (head : List ℕ) (at count : ℕ) (body : List ℕ) (next : Next) → ended ≡ true
    → (text : List (List ℕ)) × Reads ended bytes blank (head ∷ text) at × (body ≡ text_of text) × (count ≡ length text + 1)
    → lines ended (take (length bytes - at) (drop at bytes)) ≡ [] → next ≡ next_of None blank count at → IsNext ended bytes next
open_first ended bytes blank head at count body next end s none e =
    let r = s.1 in
    let Q : Bool → Type 0 = λ x. lines x (drop at bytes) ≡ [] in
    let behind : lines true (drop at bytes) ≡ [] = subst Q end (ap (lines ended) (sym (rest_of bytes at)) ∙ none) in
    let all : length (drop at bytes) ≡ 0 = no_lines (drop at bytes) behind in
    let here : at ≡ length bytes = omega (arith, all, r.within, length-drop {A = ℕ}) in
    let rest : drop at bytes ≡ [] = drop_all at bytes (omega (arith, here)) in
    told_first ended bytes None blank count at next (record {
      within = r.within;
      some = omega (arith, r.counts);
      counts = omega (arith, r.counts, s.3);
      own_lines = omega (arith, ap length r.front.all, r.front.count, s.3);
      least = λ n p. r.front.least n (omega arith);
      whole = inr (end, here);
      first = λ number f more m.
          let g : f ≡ true = m.end end in
          let nothing : drop at bytes ++ more ≡ [] = ap (λ l. l ++ more) rest ∙ m.none end in
          let T : Bool → Type 0 = λ x. statements_from x (number + blank) (head ∷ s.0) (lines x []) ≡ record { number = number + blank; said = None } ∷ statements_from x (number + blank + count) [] (lines x []) in
          r.same number f more m
          ∙ ap (λ l. statements_from f (number + blank) (head ∷ s.0) (lines f l)) nothing
          ∙ subst T (sym g) refl
          ∙ ap (λ l. record { number = number + blank; said = None } ∷ statements_from f (number + blank + count) [] (lines f l)) (sym nothing);
    }) e

-- ---- it is told in one way

abbrev said_of : List Placed → Option Statement
said_of [] = None
said_of (p ∷ ps) = p.said

abbrev number_of : List Placed → ℕ
number_of [] = 0
number_of (p ∷ ps) = p.number

no_less : (ended : Bool) (bytes : List ℕ) (said said' : Option Statement) (blank own used blank' own' used' : ℕ)
    → IsFirst ended bytes said blank own used → IsFirst ended bytes said' blank' own' used' → used < used' → ⊥
no_less ended bytes said said' blank own used blank' own' used' f g p =
    elim f.whole [
      | inl one ↦ one 0 (g.least used p 0)
      | inr t ↦ absurd (omega (arith, t.1, g.within))
    ]

pub one_first : FirstsAreOne
one_first ended bytes said said' blank own used blank' own' used' f g =
    let m : MayFollow ended ended [] = record { end = λ q. q; none = λ q. refl } in
    let same = sym (f.first 0 ended [] m) ∙ g.first 0 ended [] m in
    let number : 0 + blank ≡ 0 + blank' = ap number_of same in
    let b : blank ≡ blank' = omega (arith, number) in
    let u : used ≡ used' =
    elim (cases_lt used used') [
      | inl p ↦ absurd (no_less ended bytes said said' blank own used blank' own' used' f g p)
      | inr p ↦ elim (cases_lt used' used) [
        | inl q ↦ absurd (no_less ended bytes said' said blank' own' used' blank own used g f q)
        | inr q ↦ omega arith
      ]
    ] in
    let ls : length (lines true (take used bytes)) ≡ length (lines true (take used' bytes)) = ap (λ n. length (lines true (take n bytes))) u in
    (ap said_of same, b, omega (arith, f.own_lines, g.own_lines, ls, b), u)
