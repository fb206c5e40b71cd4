-- The code of a whole operator.
use Rattle.std.proofs.Common.{◌≡◌, ℕ, List, [], ◌∷◌, ◌++◌, length, map, ap, ◌∙◌, arith}
use Rattle.pld_ast.specs.declared.tree.Stmt.{Stmt}
use Rattle.pld_ast.specs.declared.tree.Operator.{Operator}
use Rattle.pld_ast.specs.Resolve.{block_in, declared_in, program_of}
use Rattle.pld_ast.specs.Nodes.{action_nodes}
use Rattle.pld_ast.specs.Sound.{IsSound}
use Rattle.rv_isa.specs.declared.instr.Instr.{Instr}
use Rattle.rv_isa.specs.declared.instr.Instr.TheVariants.{Ebreak}
use Rattle.rv_back.specs.Code.{prologue, soft_code}
use Rattle.rv_isa.specs.Spelling.{spelling}
use Rattle.image_form.specs.Spelling.{Soft}
use Rattle.rv_back.specs.Form.{HasRoom, HasSpace, soft_form, block_code}
use Rattle.rv_back.proofs.Parts.{joins}

module _ (op : Operator) where
  pub has_room : IsSound (program_of op) → HasRoom op
  has_room h = record { ins = h.ins; outs = h.outs; scalars = h.scalars; words = h.words }

  pub has_space : (code0 code1 : List Instr) (body : List Stmt) → IsSound (program_of op) → code0 ≡ [] → code1 ≡ code0 ++ prologue → body ≡ op.body → HasSpace code1 (block_in (declared_in op) body)
  has_space code0 code1 body h e0 e1 e =
      let l : length code1 ≡ 4 = ap length (e1 ∙ ap (λ x. x ++ prologue) e0) in
      let n : action_nodes (block_in (declared_in op) body) ≡ action_nodes (program_of op).body = ap (λ x. action_nodes (block_in (declared_in op) x)) e in
      omega (arith, h.nodes, l, n)

  pub whole_code : (code0 code1 code2 code3 : List Instr) (body : List Stmt) → code0 ≡ [] → code1 ≡ code0 ++ prologue → body ≡ op.body
      → code2 ≡ code1 ++ block_code op body → code3 ≡ code2 ++ Ebreak ∷ [] → code3 ≡ soft_code (program_of op)
  whole_code code0 code1 code2 code3 body e0 h1 e h2 h3 =
      joins code0 code1 code3 _ _ h1 (joins code1 code2 code3 _ _ h2 h3)
      ∙ ap (λ x. x ++ (prologue ++ (block_code op body ++ Ebreak ∷ []))) e0
      ∙ ap (λ x. prologue ++ (block_code op x ++ Ebreak ∷ [])) e

-- the image of the words of its code is the operator's, which the compiler takes behind a reference
pub whole_form : (op op' : Operator) (code code' : List Instr) (words : List ℕ) → op' ≡ op → code ≡ soft_code (program_of op') → code' ≡ code → words ≡ map spelling code'
    → Soft (program_of op).ins (program_of op).outs words ≡ soft_form op
whole_form op op' code code' words e h k w =
    ap (Soft (program_of op).ins (program_of op).outs) (w ∙ ap (map spelling) (k ∙ h ∙ ap (λ o. soft_code (program_of o)) e))
