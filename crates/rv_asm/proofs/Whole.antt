-- A printed operator is read back.
use Rattle.std.proofs.Common.{◌≡◌, ℕ, zero, suc, ◌+◌, ◌-◌, ◌*◌, ◌<◌, ◌≤◌, true, false, cond, List, [], ◌∷◌, ◌++◌, length, get_or, map, refl, sym, ap, ◌∙◌, arith, subst, Option, Some, None, append_assoc}
use Rattle.std.specs.Prelude.{◌==◌, nat_le, codes, decimal, Ok, Err, IfSome, IsSome, is_some}
use Rattle.pld_base.specs.declared.memory.Refused.{Refused}
use Rattle.pld_base.specs.declared.memory.Refused.TheVariants.{Fault, NoMemory}
use Rattle.std.specs.List.{flat_map}
use Rattle.std.proofs.lemmas.Bool.{le-ltb}
use Rattle.std.proofs.lemmas.Bool.Decides.{nat_tests}
use Rattle.std.proofs.lemmas.Fmt.{decimal_digit}
use Rattle.std.proofs.lemmas.List.{length-append}
use Rattle.pld_base.specs.declared.fault.SourceFault.{SourceFault}
use Rattle.rv_isa.specs.Reading.{decoded}
use Rattle.rv_isa.specs.Spelling.{spelling, IsInstr}
use Rattle.rv_isa.specs.declared.instr.Instr.{Instr}
use Rattle.rv_text.specs.Forms.{form_of, instr_of}
use Rattle.rv_text.specs.declared.form.Form.{Form}
use Rattle.rv_asm.specs.Words.{lines_of}
use Rattle.rv_asm.specs.Numbers.{of_both}
use Rattle.rv_asm.specs.Forms.{ports_in, ports_by, port_count, is_empty_line, has_no_word}
use Rattle.rv_asm.specs.Coding.{Labels, in_front, code_of, first_label}
use Rattle.rv_asm.specs.Assembly.{Op, line_before, lines_in, instructions, op_of, op_with, behind_ports, from_line, assembled, IfFault}
use Rattle.rv_asm.specs.Printing.{shown_instr, word_line, ports_line, printed, IsSpelled}
use Rattle.rv_asm.specs.declared.written.Line.{Line}
use Rattle.rv_asm.specs.declared.written.Line.TheVariants as line
use Rattle.rv_asm.proofs.Lining.{HasNoEnd, lines-line}
use Rattle.rv_asm.proofs.Plain.{IsWord, HasWords, one_word, spaced_on}
use Rattle.rv_asm.proofs.Rereading.{HasRanges, of_form, written_as, coded_back, Reads, reads}

-- each word is that of an instruction
abbrev pub AllSpelled : List ℕ → Type 0
AllSpelled [] = Unit {0}
AllSpelled (w ∷ ws) = IsSpelled w × AllSpelled ws

-- the printed line of a word, without its line end
abbrev pub text_for : ℕ → List ℕ
text_for w = shown_instr (decoded w)

-- what is known of the line of a word, with the form that it has
pub record Line_of (w : ℕ) (text : List ℕ) : Type 0 where
  pub form : Form
  pub reads : Reads text form
  pub ranges : HasRanges form
  pub word : spelling (instr_of form) ≡ w

pub line_of : (w : ℕ) → IsSpelled w → Line_of w (text_for w)
line_of w s =
    let f = of_form s.instr s.ranges in
    record {
      form = form_of s.instr;
      reads = subst (λ t. Reads t (form_of s.instr)) (sym (ap shown_instr s.read)) (reads (form_of s.instr) f.0);
      ranges = f.0;
      word = ap spelling f.1 ∙ s.word;
    }

-- ---- the lines behind that of the ports

behind_line : (l text : List ℕ) → HasNoEnd l → lines_of ((l ++ 10 ∷ []) ++ text) ≡ l ∷ lines_of text
behind_line l text h = ap lines_of (append_assoc l (10 ∷ []) text) ∙ lines-line l text h

pub lines_all : (ws : List ℕ) → AllSpelled ws → lines_of (flat_map word_line ws) ≡ map text_for ws
lines_all [] h = refl
lines_all (w ∷ ws) h = behind_line (text_for w) (flat_map word_line ws) (line_of w h.0).reads.ends ∙ ap (λ ls. text_for w ∷ ls) (lines_all ws h.1)

-- what stands in the lines: lines that are instructions, whose words are these
pub record Stands (number : ℕ) (ls : List (List ℕ)) (ws : List ℕ) : Type 0 where
  pub lines : List Line
  pub read : lines_in number ls ≡ Ok lines
  pub count : instructions lines ≡ length ws
  pub code : (labels : Labels) (n k : ℕ) → code_of labels n k lines ≡ Ok ws

pub stands : (number : ℕ) (ws : List ℕ) → AllSpelled ws → Stands number (map text_for ws) ws
stands number [] h = record { lines = []; read = refl; count = refl; code = λ labels n k. refl }
stands number (w ∷ ws) h =
    let l = line_of w h.0 in
    let s = stands (suc number) ws h.1 in
    record {
      lines = line.Instruction (written_as l.form) ∷ s.lines;
      read = ap (λ o. line_before number o (lines_in (suc number) (map text_for ws))) l.reads.back ∙ ap (line_before number (Some (line.Instruction (written_as l.form)))) s.read;
      count = ap suc s.count;
      code = λ labels n k.
          ap (λ o. in_front n o (code_of labels (suc n) (suc k) s.lines)) (coded_back labels k l.form l.ranges)
          ∙ ap (in_front n (Ok l.form)) (s.code labels (suc n) (suc k))
          ∙ ap (λ v. Ok (v ∷ ws)) l.word;
    }

-- ---- the line of the ports

abbrev ports_text : (i o : ℕ) → List ℕ
ports_text i o = codes "ports" ++ 32 ∷ (((48 + i) ∷ []) ++ 32 ∷ ((48 + o) ∷ []))

digit_word : (n : ℕ) → n ≤ 8 → IsWord ((48 + n) ∷ [])
digit_word n h = record { plain = grind (arith, nat_tests); some = omega arith }

ports_words : (i o : ℕ) → i ≤ 8 → o ≤ 8 → HasWords (ports_text i o) (codes "ports" ∷ ((48 + i) ∷ []) ∷ ((48 + o) ∷ []) ∷ [])
ports_words i o h k = spaced_on (codes "ports") (((48 + i) ∷ []) ++ 32 ∷ ((48 + o) ∷ [])) (((48 + i) ∷ []) ∷ ((48 + o) ∷ []) ∷ []) (record { plain = refl; some = omega arith })
    (spaced_on ((48 + i) ∷ []) ((48 + o) ∷ []) (((48 + o) ∷ []) ∷ []) (digit_word i h) (one_word ((48 + o) ∷ []) (digit_word o k)))

ports_shown : (i o : ℕ) (rest : List ℕ) → i ≤ 8 → o ≤ 8 → ports_line i o ++ rest ≡ (ports_text i o ++ 10 ∷ []) ++ rest
ports_shown i o rest h k =
    let a : decimal i ≡ (48 + i) ∷ [] = decimal_digit i (omega (arith, h)) in
    let b : decimal o ≡ (48 + o) ∷ [] = decimal_digit o (omega (arith, k)) in
    ap (λ x. (codes "ports " ++ x ++ codes " " ++ decimal o ++ codes "\n") ++ rest) a
    ∙ ap (λ y. (codes "ports " ++ ((48 + i) ∷ []) ++ codes " " ++ y ++ codes "\n") ++ rest) b

count_back : (n : ℕ) → n ≤ 8 → port_count ((48 + n) ∷ []) ≡ Some n
count_back n h =
    let low : nat_le 48 (48 + n) ≡ true = grind (arith, nat_tests) in
    let high : nat_le (48 + n) 56 ≡ true = grind (arith, nat_tests) in
    let back : 48 + n - 48 ≡ n = omega arith in
    rw low (rw high (ap Some back))

ports_back : (i o : ℕ) → i ≤ 8 → o ≤ 8 → ports_in (ports_text i o) ≡ Some (i, o)
ports_back i o h k =
    ap ports_by (ports_words i o h k).0
    ∙ ap (λ x. of_both (λ i o. (i, o)) x (port_count ((48 + o) ∷ []))) (count_back i h)
    ∙ ap (of_both (λ i o. (i, o)) (Some i)) (count_back o k)

-- ---- the whole

texts_length : (ws : List ℕ) → AllSpelled ws → length (flat_map word_line ws) ≤ 22 * length ws
texts_length [] h = omega arith
texts_length (w ∷ ws) h =
    let a = (line_of w h.0).reads.short in
    let b = texts_length ws h.1 in
    simp length-append (omega (arith, a, b))

pub line_short : (w : ℕ) → IsSpelled w → length (word_line w) ≤ 22
line_short w s = let a = (line_of w s).reads.short in simp length-append (omega (arith, a))

pub printed_short : (op : Op) → op.ins ≤ 8 → op.outs ≤ 8 → AllSpelled op.code → length (printed op) ≤ 10 + 22 * length op.code
printed_short op h k s =
    let e : printed op ≡ (ports_text op.ins op.outs ++ 10 ∷ []) ++ flat_map word_line op.code = ports_shown op.ins op.outs (flat_map word_line op.code) h k in
    let a = texts_length op.code s in
    let n : length (printed op) ≡ 10 + length (flat_map word_line op.code) = ap length e ∙ length-append (ports_text op.ins op.outs ++ 10 ∷ []) (flat_map word_line op.code) in
    omega (arith, a, n)

-- the operator of lines that stand for its words
op_back : (op : Op) (number : ℕ) → Stands number (map text_for op.code) op.code → 1 ≤ length op.code → op_with (op.ins, op.outs) number (lines_in number (map text_for op.code)) ≡ Ok op
op_back op number s some =
    let none : (instructions s.lines == 0) ≡ false = grind (arith, nat_tests, s.count) in
    ap (op_with (op.ins, op.outs) number) s.read ∙ rw none (ap (op_of (op.ins, op.outs)) (s.code (λ name. first_label name number 0 s.lines) number 0))

pub printed_back : (op : Op) → op.ins ≤ 8 → op.outs ≤ 8 → 1 ≤ length op.code → length op.code ≤ 2900 → AllSpelled op.code → assembled (printed op) ≡ Ok op
printed_back op h k some few s =
    let short : length (printed op) ≤ 65536 = omega (arith, printed_short op h k s, few) in
    let words = ports_words op.ins op.outs h k in
    let e : lines_of (printed op) ≡ ports_text op.ins op.outs ∷ map text_for op.code =
    ap lines_of (ports_shown op.ins op.outs (flat_map word_line op.code) h k)
    ∙ behind_line (ports_text op.ins op.outs) (flat_map word_line op.code) words.1
    ∙ ap (λ ls. ports_text op.ins op.outs ∷ ls) (lines_all op.code s) in
    let full : is_empty_line (ports_text op.ins op.outs) ≡ false = ap has_no_word words.0 in
    rw (le-ltb 65536 (length (printed op)) short)
    (ap (from_line 1) e
    ∙ ap (λ t. cond t (from_line 2 (map text_for op.code)) (behind_ports 1 (ports_in (ports_text op.ins op.outs)) (map text_for op.code))) full
    ∙ ap (λ p. behind_ports 1 p (map text_for op.code)) (ports_back op.ins op.outs h k)
    ∙ op_back op 2 (stands 2 op.code s) some)

-- ---- what the law's functions tell

pub spelled_told : (w : ℕ) (o : Option Instr) → o ≡ decoded w → IfSome o (λ i. spelling i ≡ w) → IfSome o IsInstr → IsSome (decoded w) → IsSpelled w
spelled_told w None e s r h = let k : false ≡ true = subst (λ x. is_some x ≡ true) (sym e) h in cc
spelled_told w (Some i) e s r h = record { instr = i; read = sym e; ranges = r; word = s }

pub all_spelled : (ws : List ℕ) → ((k : ℕ) → k < length ws → IsSpelled (get_or ws k 0)) → AllSpelled ws
all_spelled [] h = tt
all_spelled (w ∷ ws) h = (h 0 (omega arith), all_spelled ws (λ k q. h (suc k) (omega (arith, q))))

pub lines_short : (ws : List ℕ) → AllSpelled ws → (k d : ℕ) → k < length ws → length (word_line (get_or ws k d)) ≤ 22
lines_short [] s k d h = absurd (omega arith)
lines_short (w ∷ ws) s zero d h = line_short w s.0
lines_short (w ∷ ws) s (suc k) d h = lines_short ws s.1 k d (omega (arith, h))

pub one_op : (text : List ℕ) (a b : Op) → assembled text ≡ Ok b → assembled text ≡ Ok a → a ≡ b
one_op text a b e f = cc

pub no_fault : (text : List ℕ) (b : Op) → assembled text ≡ Ok b → (e : Refused SourceFault) → IfFault e (λ f. assembled text ≡ Err f) → e ≡ NoMemory
no_fault text b e (Fault f) h = cc
no_fault text b e NoMemory h = refl
