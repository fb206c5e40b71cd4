-- How many words a text can give, and what is known of an operator that it gives.
use Rattle.std.proofs.Common.{◌≡◌, ℕ, suc, ◌+◌, ◌*◌, ◌<◌, ◌≤◌, Bool, true, false, cond, List, [], ◌∷◌, length, refl, sym, ap, subst, ◌∙◌, arith, Option, Some, None}
use Rattle.std.specs.Prelude.{◌==◌, ◌&&◌, ◌-◌, nat_le, nat_lt, codes, Result, Ok, Err, All, IfOk, MatchResult}
use Rattle.pld_base.specs.declared.memory.Refused.{Refused}
use Rattle.pld_base.specs.declared.memory.Refused.TheVariants.{Fault, NoMemory}
use Rattle.image_form.specs.Spelling.{IsCode, IsForm, Soft}
use Rattle.rv_asm.specs.declared.assembling.AsmOp.{AsmOp}
use Rattle.std.specs.Str.{bytes_eq}
use Rattle.std.proofs.lemmas.Bool.{leb-true, ltb-false, le-ltb}
use Rattle.std.proofs.lemmas.Bool.Decides.{nat_tests}
use Rattle.pld_base.specs.declared.fault.FaultKind.{FaultKind}
use Rattle.pld_base.specs.declared.fault.SourceFault.{SourceFault}
use Rattle.rv_isa.specs.Spelling.{spelling}
use Rattle.rv_text.specs.Forms.{instr_of}
use Rattle.rv_text.specs.declared.form.Form.{Form}
use Rattle.rv_asm.specs.Words.{lines_of, onto, words_of}
use Rattle.rv_asm.specs.Numbers.{of_both}
use Rattle.rv_asm.specs.Forms.{line_in, ports_in, ports_by, port_count, is_empty_line}
use Rattle.rv_asm.specs.Coding.{Labels, Words, coded, in_front, code_of, first_label, stands_before}
use Rattle.rv_asm.specs.Assembly.{Op, line_before, lines_in, instructions, op_of, op_with, behind_ports, from_line, assembled, op_in, IfFault}
use Rattle.rv_asm.specs.declared.written.Line.{Line}
use Rattle.rv_asm.specs.declared.written.Line.TheVariants as line

-- the bytes of lines with their line ends
abbrev total : List (List ℕ) → ℕ
total [] = 0
total (l ∷ ls) = suc (length l) + total ls

onto_total : (b : ℕ) (ls : List (List ℕ)) (n : ℕ) → total ls ≤ suc n → total (onto b ls) ≤ suc (suc n)
onto_total b [] n h = omega arith
onto_total b (l ∷ ls) n h = omega arith

lines_total : (text : List ℕ) → total (lines_of text) ≤ suc (length text)
lines_total [] = omega arith
lines_total (b ∷ text) = by (b == 10) (lines_total text)
  where
    by : (t : Bool) → total (lines_of text) ≤ suc (length text) → total (cond t ([] ∷ lines_of text) (onto b (lines_of text))) ≤ suc (suc (length text))
    by true h = omega arith
    by false h = onto_total b (lines_of text) (length text) h

-- a line of an instruction isn't empty
instruction_long : (l : List ℕ) (x : Line) → line_in l ≡ Some x → instructions (x ∷ []) ≤ length l
instruction_long [] x e = let same : line.Empty ≡ x = cc in subst (λ y. instructions (y ∷ []) ≤ 0) same (omega arith)
instruction_long (b ∷ l) line.Empty e = omega arith
instruction_long (b ∷ l) (line.Label name) e = omega arith
instruction_long (b ∷ l) (line.Instruction written) e = omega arith

instructions_cons : (x : Line) (xs : List Line) → instructions (x ∷ xs) ≡ instructions (x ∷ []) + instructions xs
instructions_cons line.Empty xs = omega arith
instructions_cons (line.Label name) xs = omega arith
instructions_cons (line.Instruction written) xs = omega arith

one_at_most : (x : Line) → instructions (x ∷ []) ≤ 1
one_at_most line.Empty = omega arith
one_at_most (line.Label name) = omega arith
one_at_most (line.Instruction written) = omega arith

one_more : (a i n t m : ℕ) → i ≤ 1 → i ≤ n → 2 * m ≤ t → a ≡ i + m → 2 * a ≤ suc n + t
one_more a i n t m h k l e = omega arith

few_instructions : (n : ℕ) (ls : List (List ℕ)) (lines : List Line) → lines_in n ls ≡ Ok lines → 2 * instructions lines ≤ total ls
few_instructions n [] lines e = let same : [] ≡ lines = cc in subst (λ xs. 2 * instructions xs ≤ 0) same (omega arith)
few_instructions n (l ∷ ls) lines e = by (line_in l) refl (lines_in (suc n) ls) (λ xs q. few_instructions (suc n) ls xs q) e
  where
    by : (o : Option Line) → line_in l ≡ o → (r : Result (List Line) SourceFault) → ((xs : List Line) → r ≡ Ok xs → 2 * instructions xs ≤ total ls) → line_before n o r ≡ Ok lines → 2 * instructions lines ≤ suc (length l) + total ls
    by None q r h k = cc
    by (Some x) q (Err fault) h k = cc
    by (Some x) q (Ok xs) h k =
        let same : x ∷ xs ≡ lines = cc in
        let most : 2 * instructions (x ∷ xs) ≤ suc (length l) + total ls = one_more (instructions (x ∷ xs)) (instructions (x ∷ [])) (length l) (total ls) (instructions xs) (one_at_most x) (instruction_long l x q) (h xs refl) (instructions_cons x xs) in
        subst (λ ys. 2 * instructions ys ≤ suc (length l) + total ls) same most

-- each instruction gives a word
code_length : (labels : Labels) (n k : ℕ) (lines : List Line) (ws : List ℕ) → code_of labels n k lines ≡ Ok ws → length ws ≡ instructions lines
code_length labels n k [] ws e = let same : [] ≡ ws = cc in ap length (sym same)
code_length labels n k (line.Empty ∷ lines) ws e = code_length labels (suc n) k lines ws e
code_length labels n k (line.Label name ∷ lines) ws e = by (stands_before n (labels name)) _ (λ q. code_length labels (suc n) k lines ws q) e
  where
    by : (t : Bool) (f : SourceFault) → (code_of labels (suc n) k lines ≡ Ok ws → length ws ≡ instructions lines) → cond t (Err f) (code_of labels (suc n) k lines) ≡ Ok ws → length ws ≡ instructions lines
    by true f h q = cc
    by false f h q = h q
code_length labels n k (line.Instruction written ∷ lines) ws e = by (coded labels k written) (code_of labels (suc n) (suc k) lines) (λ vs q. code_length labels (suc n) (suc k) lines vs q) e
  where
    by : (o : Result Form FaultKind) (r : Words) → ((vs : List ℕ) → r ≡ Ok vs → length vs ≡ instructions lines) → in_front n o r ≡ Ok ws → length ws ≡ suc (instructions lines)
    by (Err kind) r h q = cc
    by (Ok f) (Err fault) h q = cc
    by (Ok f) (Ok vs) h q = let same : spelling (instr_of f) ∷ vs ≡ ws = cc in ap length (sym same) ∙ ap suc (h vs refl)

-- what is known of an operator that so many bytes of lines give
pub record IsShort (op : Op) (bytes : ℕ) : Type 0 where
  pub ins : op.ins ≤ 8
  pub outs : op.outs ≤ 8
  pub some : 1 ≤ length op.code
  pub few : 2 * length op.code + 2 ≤ bytes

count_small : (word : List ℕ) (n : ℕ) → port_count word ≡ Some n → n ≤ 8
count_small [] n e = cc
count_small (b ∷ []) n e = by (nat_le 48 b) refl (nat_le b 56) refl e
  where
    by : (t : Bool) → nat_le 48 b ≡ t → (u : Bool) → nat_le b 56 ≡ u → cond (t && u) (Some (b - 48)) None ≡ Some n → n ≤ 8
    by true q true r h = let same : b - 48 ≡ n = cc in let low = leb-true b 56 r in omega (arith, same, low)
    by true q false r h = cc
    by false q u r h = cc
count_small (b ∷ c ∷ word) n e = cc

both_small : (o q : Option ℕ) (p : ℕ × ℕ) → ((n : ℕ) → o ≡ Some n → n ≤ 8) → ((n : ℕ) → q ≡ Some n → n ≤ 8) → of_both (λ i o. (i, o)) o q ≡ Some p → (p.0 ≤ 8) × (p.1 ≤ 8)
both_small None q p h k e = cc
both_small (Some i) None p h k e = cc
both_small (Some i) (Some o) p h k e =
    let same : (i, o) ≡ p = cc in
    subst (λ x. (x.0 ≤ 8) × (x.1 ≤ 8)) same (h i refl, k o refl)

ports_small : (words : List (List ℕ)) (p : ℕ × ℕ) → ports_by words ≡ Some p → (p.0 ≤ 8) × (p.1 ≤ 8)
ports_small [] p e = cc
ports_small (a ∷ []) p e = cc
ports_small (a ∷ b ∷ []) p e = cc
ports_small (a ∷ b ∷ c ∷ []) p e = by (bytes_eq a (codes "ports")) e
  where
    by : (t : Bool) → cond t (of_both (λ i o. (i, o)) (port_count b) (port_count c)) None ≡ Some p → (p.0 ≤ 8) × (p.1 ≤ 8)
    by true q = both_small (port_count b) (port_count c) p (count_small b) (count_small c) q
    by false q = cc
ports_small (a ∷ b ∷ c ∷ d ∷ words) p e = cc

ports_long : (l : List ℕ) (p : ℕ × ℕ) → ports_in l ≡ Some p → 1 ≤ length l
ports_long [] p e = cc
ports_long (b ∷ l) p e = omega arith

of_lines : (p : ℕ × ℕ) (n : ℕ) (ls : List (List ℕ)) (op : Op) → (p.0 ≤ 8) × (p.1 ≤ 8) → op_with p n (lines_in n ls) ≡ Ok op → IsShort op (2 + total ls)
of_lines p n ls op h e = by (lines_in n ls) (few_instructions n ls) e
  where
    last : (lines : List Line) (r : Words) → (0 < instructions lines) → 2 * instructions lines ≤ total ls → ((ws : List ℕ) → r ≡ Ok ws → length ws ≡ instructions lines) → op_of p r ≡ Ok op → IsShort op (2 + total ls)
    last lines (Err fault) some k l q = cc
    last lines (Ok ws) some k l q =
        let same : record { ins = p.0; outs = p.1; code = ws } ≡ op = cc in
        let long = l ws refl in
        subst (λ x. IsShort x (2 + total ls)) same (record { ins = h.0; outs = h.1; some = omega (arith, some, long); few = omega (arith, k, long) })

    counted : (lines : List Line) (t : Bool) (f : SourceFault) → (instructions lines == 0) ≡ t → 2 * instructions lines ≤ total ls → cond t (Err f) (op_of p (code_of (λ name. first_label name n 0 lines) n 0 lines)) ≡ Ok op → IsShort op (2 + total ls)
    counted lines true f z k q = cc
    counted lines false f z k q = last lines (code_of (λ name. first_label name n 0 lines) n 0 lines) (grind (arith, nat_tests)) k (code_length (λ name. first_label name n 0 lines) n 0 lines) q

    by : (r : Result (List Line) SourceFault) → ((lines : List Line) → r ≡ Ok lines → 2 * instructions lines ≤ total ls) → op_with p n r ≡ Ok op → IsShort op (2 + total ls)
    by (Err fault) k q = cc
    by (Ok lines) k q = counted lines (instructions lines == 0) _ refl (k lines refl) q

longer : (op : Op) (m n : ℕ) → m ≤ n → IsShort op m → IsShort op n
longer op m n h s = record { ins = s.ins; outs = s.outs; some = s.some; few = omega (arith, s.few, h) }

of_text : (n : ℕ) (ls : List (List ℕ)) (op : Op) → from_line n ls ≡ Ok op → IsShort op (total ls)
of_text n [] op e = cc
of_text n (l ∷ ls) op e = by (is_empty_line l) (λ q. of_text (suc n) ls op q) e
  where
    behind : (o : Option (ℕ × ℕ)) → ports_in l ≡ o → behind_ports n o ls ≡ Ok op → IsShort op (suc (length l) + total ls)
    behind None k q = cc
    behind (Some p) k q = longer op (2 + total ls) (suc (length l) + total ls) (omega (arith, ports_long l p k)) (of_lines p (suc n) ls op (ports_small (words_of l) p k) q)

    by : (t : Bool) → (from_line (suc n) ls ≡ Ok op → IsShort op (total ls)) → cond t (from_line (suc n) ls) (behind_ports n (ports_in l) ls) ≡ Ok op → IsShort op (suc (length l) + total ls)
    by true h q = longer op (total ls) (suc (length l) + total ls) (omega arith) (h q)
    by false h q = behind (ports_in l) refl q

-- an operator that a text spells has at most 32,767 words
pub short_op : (text : List ℕ) (op : Op) → assembled text ≡ Ok op → (op.ins ≤ 8) × (op.outs ≤ 8) × (1 ≤ length op.code) × (length op.code ≤ 32767)
short_op text op e = by (nat_lt 65536 (length text)) _ refl e
  where
    by : (t : Bool) (f : SourceFault) → nat_lt 65536 (length text) ≡ t → cond t (Err f) (from_line 1 (lines_of text)) ≡ Ok op → (op.ins ≤ 8) × (op.outs ≤ 8) × (1 ≤ length op.code) × (length op.code ≤ 32767)
    by true f k q = cc
    by false f k q =
        let s = of_text 1 (lines_of text) op q in
        let l = lines_total text in
        let m = ltb-false 65536 (length text) k in
        (s.ins, s.outs, s.some, omega (arith, s.few, l, m))

-- ---- what `assemble` tells

pub assembled_as : (text : List ℕ) (r : Result Op SourceFault) → nat_lt 65536 (length text) ≡ false → from_line 1 (lines_of text) ≡ r → assembled text ≡ r
assembled_as text r short e = rw short e

pub form_told : (text : List ℕ) (r : Result AsmOp (Refused SourceFault)) (Q : Refused SourceFault → Type 0) → MatchResult r (λ op. assembled text ≡ Ok (op_in op)) Q → IfOk r (λ op. All IsCode op.code.items) → IfOk r (λ op. IsForm (Soft op.ins op.outs op.code.items))
form_told text (Ok op) Q h w = let s = short_op text (op_in op) h in (s.0, s.1, s.2, s.3, w)
form_told text (Err e) Q h w = tt

-- what is told of the lines behind the head is told of the text
pub behind_head : (text : List ℕ) (x : Result Op SourceFault) (r : Result AsmOp (Refused SourceFault)) → (65536 < length text → ⊥) → from_line 1 (lines_of text) ≡ x → MatchResult r (λ op. x ≡ Ok (op_in op)) (λ e. IfFault e (λ f. x ≡ Err f))
    → MatchResult r (λ op. assembled text ≡ Ok (op_in op)) (λ e. IfFault e (λ f. assembled text ≡ Err f))
behind_head text x (Ok op) short e h = assembled_as text (Ok (op_in op)) (le-ltb 65536 (length text) (omega (arith, short))) (e ∙ h)
behind_head text x (Err (Fault f)) short e h = assembled_as text (Err f) (le-ltb 65536 (length text) (omega (arith, short))) (e ∙ h)
behind_head text x (Err NoMemory) short e h = tt
