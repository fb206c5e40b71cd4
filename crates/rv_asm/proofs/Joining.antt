-- The parts of an assembly, as the code joins them.
use Rattle.std.proofs.Common.{◌≡◌, ℕ, suc, ◌+◌, ◌<◌, Bool, true, false, not, get_or, List, [], ◌∷◌, ◌++◌, length, drop, refl, sym, ap, ◌∙◌, append_assoc, Some, None}
use Rattle.std.specs.Prelude.{◌==◌, Result, Ok, Err, is_some}
use Rattle.std.proofs.lemmas.List.{drop_more}
use Rattle.std.proofs.Math.Path.{fun_ext}
use Rattle.std.proofs.Math.Numerals.{add-one}
use Rattle.pld_base.specs.declared.fault.FaultKind.TheVariants.{BadAsm}
use Rattle.pld_base.specs.declared.fault.SourceFault.{SourceFault}
use Rattle.pld_base.specs.declared.memory.Refused.{Refused}
use Rattle.pld_base.specs.declared.memory.Refused.TheVariants.{Fault, NoMemory}
use Rattle.image_form.specs.Spelling.{IsCode}
use Rattle.rv_isa.specs.Reading.{decoded}
use Rattle.rv_isa.specs.declared.instr.Instr.{Instr}
use Rattle.rv_isa.proofs.Spelled.{spelled}
use Rattle.rv_isa.specs.Spelling.{spelling, IsInstr}
use Rattle.rv_text.specs.Forms.{instr_of}
use Rattle.rv_text.specs.declared.form.Form.{Form}
use Rattle.rv_asm.specs.Coding.{Labels, Words, fault_at, first_label, coded, code_of, in_front, led}
use Rattle.rv_asm.specs.Assembly.{instructions, op_of, op_with, after_lines, line_before, lines_in, IfFault}
use Rattle.rv_asm.specs.Words.{lines_of}
use Rattle.rv_asm.specs.Forms.{line_in}
use Rattle.rv_asm.specs.declared.written.Written.{Written}
use Rattle.rv_asm.specs.declared.written.Line.TheVariants as line
use Rattle.rv_asm.specs.declared.written.Line.{Line}

module _ (ports : ℕ × ℕ) (n : ℕ) (r : Result (List Line) SourceFault) (lines : List Line) (read : r ≡ Ok lines) where
  pub op_none : (instructions lines == 0) ≡ true → op_with ports n r ≡ Err (fault_at (n + length lines) BadAsm)
  op_none none = ap (op_with ports n) read ∙ rw none refl

  module _ (labels : Labels) (some : (instructions lines == 0) ≡ false) (are : (q : List ℕ) → labels q ≡ first_label q n 0 lines) where
    by_code : (c : Words) → code_of labels n 0 lines ≡ c → op_with ports n r ≡ op_of ports c
    by_code c e = ap (op_with ports n) read ∙ rw some (ap (λ l. op_of ports (code_of l n 0 lines)) (sym (fun_ext are)) ∙ ap (op_of ports) e)

    pub op_told : (ws : List ℕ) → code_of labels n 0 lines ≡ Ok ws → op_with ports n r ≡ Ok (record { ins = ports.0; outs = ports.1; code = ws })
    op_told ws e = by_code (Ok ws) e

    pub op_fault : (f : SourceFault) → code_of labels n 0 lines ≡ Err f → op_with ports n r ≡ Err f
    op_fault f e = by_code (Err f) e

-- one line more
pub line_joined : (n : ℕ) (l : Line) (xs : List Line) (r : Result (List Line) SourceFault) → after_lines (xs ++ l ∷ []) r ≡ after_lines xs (line_before n (Some l) r)
line_joined n l xs (Ok ls) = ap Ok (append_assoc xs (l ∷ []) ls)
line_joined n l xs (Err f) = refl

-- one word more
pub word_joined : (n : ℕ) (f : Form) (ws : List ℕ) (r : Words) → led (ws ++ spelling (instr_of f) ∷ []) r ≡ led ws (in_front n (Ok f) r)
word_joined n f ws (Ok vs) = ap Ok (append_assoc ws (spelling (instr_of f) ∷ []) vs)
word_joined n f ws (Err fault) = refl

-- a line that is taken, and one that has no form
module _ (number first : ℕ) (all rest bytes behind : List ℕ) (old : List Line) (cut : lines_of rest ≡ bytes ∷ lines_of behind) (told : after_lines old (lines_in number (lines_of rest)) ≡ lines_in first (lines_of all)) where
  pub line_taken : (l : Line) (new : List Line) → Some l ≡ line_in bytes → new ≡ old ++ l ∷ [] → after_lines new (lines_in (number + 1) (lines_of behind)) ≡ lines_in first (lines_of all)
  line_taken l new is pushed =
      ap (λ xs. after_lines xs (lines_in (number + 1) (lines_of behind))) pushed
      ∙ ap (λ n. after_lines (old ++ l ∷ []) (lines_in n (lines_of behind))) (add-one number)
      ∙ line_joined number l old (lines_in (suc number) (lines_of behind))
      ∙ ap (λ o. after_lines old (line_before number o (lines_in (suc number) (lines_of behind)))) is
      ∙ ap (λ ls. after_lines old (lines_in number ls)) (sym cut)
      ∙ told

  pub line_refused : None ≡ line_in bytes → lines_in first (lines_of all) ≡ Err (fault_at number BadAsm)
  line_refused is = sym told ∙ ap (λ ls. after_lines old (lines_in number ls)) cut ∙ ap (λ o. after_lines old (line_before number o (lines_in (suc number) (lines_of behind)))) (sym is)

-- an instruction whose word is taken
pub word_taken : (labels : Labels) (n k : ℕ) (w : Written) (f : Form) (word : ℕ) (old new : List ℕ) → Ok f ≡ coded labels k w → word ≡ spelling (instr_of f) → new ≡ old ++ word ∷ []
    → (rest : List Line) → led new (code_of labels (suc n) (k + 1) rest) ≡ led old (code_of labels n k (line.Instruction w ∷ rest))
word_taken labels n k w f word old new is made pushed rest =
    ap (λ xs. led xs (code_of labels (suc n) (k + 1) rest)) (pushed ∙ ap (λ v. old ++ v ∷ []) made)
    ∙ ap (λ m. led (old ++ spelling (instr_of f) ∷ []) (code_of labels (suc n) m rest)) (add-one k)
    ∙ word_joined n f old (code_of labels (suc n) (suc k) rest)
    ∙ ap (λ o. led old (in_front n o (code_of labels (suc n) (suc k) rest))) is

-- the word of an instruction in its ranges is code
pub code_word : (i : Instr) (w : ℕ) → w ≡ spelling i → IsInstr i → IsCode w
code_word i w e r = ap (λ x. is_some (decoded x)) e ∙ ap is_some (spelled i r)

-- the fault of a line is that of the lines
pub fault_told : (labels : Labels) (n k first i : ℕ) (all : List Line) (x : Line) (old : List ℕ) (e : Refused SourceFault) → IfFault e (λ f. (rest : List Line) → code_of labels n k (x ∷ rest) ≡ Err f) → drop i all ≡ x ∷ drop (i + 1) all
    → led old (code_of labels n k (drop i all)) ≡ code_of labels first 0 all → IfFault e (λ f. code_of labels first 0 all ≡ Err f)
fault_told labels n k first i all x old (Fault f) h d told = sym told ∙ ap (λ l. led old (code_of labels n k l)) d ∙ ap (led old) (h (drop (i + 1) all))
fault_told labels n k first i all x old NoMemory h d told = tt

-- the fault of the code is that of the operator
pub op_faults : (ports : ℕ × ℕ) (n : ℕ) (r : Result (List Line) SourceFault) (lines : List Line) → r ≡ Ok lines → (labels : Labels) → (instructions lines == 0) ≡ false → ((q : List ℕ) → labels q ≡ first_label q n 0 lines)
    → (e : Refused SourceFault) → IfFault e (λ f. code_of labels n 0 lines ≡ Err f) → IfFault e (λ f. op_with ports n r ≡ Err f)
op_faults ports n r lines read labels some are (Fault f) h = op_fault ports n r lines read labels some are f h
op_faults ports n r lines read labels some are NoMemory h = tt

-- the line at which a loop stands
pub line_at : (all : List Line) (i : ℕ) (x : Line) → x ≡ get_or all i x → i < length all → drop i all ≡ x ∷ drop (i + 1) all
line_at all i x is lt = drop_more all i x lt ∙ ap (λ (y : Line). y ∷ drop (i + 1) all) (sym is)

-- the words of one line more
pub words_go : (labels : Labels) (n k m first i : ℕ) (all : List Line) (x : Line) (old new : List ℕ) → ((rest : List Line) → led new (code_of labels (suc n) m rest) ≡ led old (code_of labels n k (x ∷ rest))) → drop i all ≡ x ∷ drop (i + 1) all
    → led old (code_of labels n k (drop i all)) ≡ code_of labels first 0 all → led new (code_of labels (n + 1) m (drop (i + 1) all)) ≡ code_of labels first 0 all
words_go labels n k m first i all x old new added d told =
    ap (λ (l : ℕ). led new (code_of labels l m (drop (i + 1) all))) (add-one n) ∙ (added (drop (i + 1) all) ∙ (ap (λ (ls : List Line). led old (code_of labels n k ls)) (sym d) ∙ told))

-- an instruction is there where none isn't told
pub has_some : (told none : Bool) → told ≡ not none → told ≡ true → none ≡ false
has_some told false e f = refl
has_some told true e f = absurd (let g : true ≡ false = sym f ∙ e in cc)
