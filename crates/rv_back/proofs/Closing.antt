-- The code of choices, loops and lists of statements: a jump is written after the code that it passes.
use Rattle.std.proofs.Common.{◌≡◌, ℕ, ◌+◌, ◌-◌, ◌*◌, ◌<◌, ◌≤◌, List, [], ◌∷◌, ◌++◌, length, sym, ap, ◌∙◌, subst, arith, append_assoc, length-append, drop, get_or}
use Rattle.std.specs.Prelude.{slice_set, min, pos}
use Rattle.std.proofs.Math.Seq.{set-append_seam}
use Rattle.std.proofs.lemmas.List.{drop_more}
use Rattle.pld_ast.specs.declared.tree.Expr.{Expr}
use Rattle.pld_ast.specs.declared.tree.Stmt.{Stmt}
use Rattle.pld_ast.specs.declared.tree.Stmt.TheVariants.{If, While}
use Rattle.pld_ast.specs.declared.tree.Operator.{Operator}
use Rattle.pld_ast.specs.Nodes.{value_nodes, action_nodes}
use Rattle.pld_ast.specs.Resolve.{value_in, action_in, block_in, declared_in, program_of}
use Rattle.pld_ast.proofs.Views.{action_in-If, action_in-While}
use Rattle.rv_isa.specs.declared.instr.Instr.{Instr}
use Rattle.rv_isa.specs.declared.instr.Instr.TheVariants.{Bne, Jal}
use Rattle.rv_back.specs.Code.{neg_of, choose_code, repeat_code, action_code}
use Rattle.rv_back.specs.Form.{HasSpace, jump_on, jump_back, open_test, expr_code, stmt_code, block_code}
use Rattle.rv_back.proofs.Lengths.{value_short, action_short}

two_writes : (c a b : List Instr) (z x y i j : Instr)
    → slice_set (slice_set (c ++ z ∷ x ∷ (a ++ y ∷ b)) (length c + 1) i) (length c + 2 + length a) j ≡ c ++ z ∷ i ∷ (a ++ j ∷ b)
two_writes c a b z x y i j =
    let n1 : length c + 1 ≡ length (c ++ z ∷ []) = omega (arith, length-append c (z ∷ [])) in
    let n2 : length c + 2 + length a ≡ length (c ++ z ∷ i ∷ a) = omega (arith, length-append c (z ∷ i ∷ a)) in
    ap (λ l. slice_set (slice_set l (length c + 1) i) (length c + 2 + length a) j) (sym (append_assoc c (z ∷ []) (x ∷ (a ++ y ∷ b))))
    ∙ ap (λ n. slice_set (slice_set ((c ++ z ∷ []) ++ x ∷ (a ++ y ∷ b)) n i) (length c + 2 + length a) j) n1
    ∙ ap (λ l. slice_set l (length c + 2 + length a) j) (set-append_seam (c ++ z ∷ []) x (a ++ y ∷ b) i ∙ append_assoc c (z ∷ []) (i ∷ (a ++ y ∷ b)) ∙ sym (append_assoc c (z ∷ i ∷ a) (y ∷ b)))
    ∙ ap (λ n. slice_set ((c ++ z ∷ i ∷ a) ++ y ∷ b) n j) n2
    ∙ set-append_seam (c ++ z ∷ i ∷ a) y b j
    ∙ append_assoc c (z ∷ i ∷ a) (j ∷ b)

one_write : (c a : List Instr) (z x j i : Instr) → slice_set (c ++ z ∷ x ∷ (a ++ j ∷ [])) (length c + 1) i ≡ c ++ z ∷ i ∷ (a ++ j ∷ [])
one_write c a z x j i =
    let n1 : length c + 1 ≡ length (c ++ z ∷ []) = omega (arith, length-append c (z ∷ [])) in
    ap (λ l. slice_set l (length c + 1) i) (sym (append_assoc c (z ∷ []) (x ∷ (a ++ j ∷ []))))
    ∙ ap (λ n. slice_set ((c ++ z ∷ []) ++ x ∷ (a ++ j ∷ [])) n i) n1
    ∙ set-append_seam (c ++ z ∷ []) x (a ++ j ∷ []) i ∙ append_assoc c (z ∷ []) (i ∷ (a ++ j ∷ []))

-- the code with the jumps of a choice told
closed_choice : (base e a b c1 c2 c3 c4 c5 : List Instr) → length base + length e + length a + length b + 4 ≤ 12005
    → c1 ≡ base ++ e → c2 ≡ c1 ++ open_test → c3 ≡ c2 ++ a → c4 ≡ c3 ++ jump_on 0 ∷ [] → c5 ≡ c4 ++ b
    → slice_set (slice_set c5 (length c1 + 1) (jump_on (length c3 - length c1))) (length c3) (jump_on (length c5 - length c3)) ≡ base ++ choose_code e a b
closed_choice base e a b c1 c2 c3 c4 c5 space e1 e2 e3 e4 e5 =
    let l1 = ap length e1 ∙ length-append base e in
    let l2 = ap length e2 ∙ length-append c1 open_test in
    let l3 = ap length e3 ∙ length-append c2 a in
    let l4 = ap length e4 ∙ length-append c3 (jump_on 0 ∷ []) in
    let l5 = ap length e5 ∙ length-append c4 b in
    let i = jump_on (length c3 - length c1) in
    let j = jump_on (length c5 - length c3) in
    let at2 : length c3 ≡ length c1 + 2 + length a = omega (arith, l1, l2, l3) in
    let all : c5 ≡ (((c1 ++ open_test) ++ a) ++ jump_on 0 ∷ []) ++ b = e5 ∙ ap (λ l. l ++ b) (e4 ∙ ap (λ l. l ++ jump_on 0 ∷ []) (e3 ∙ ap (λ l. l ++ a) e2)) in
    let flat : (((c1 ++ open_test) ++ a) ++ jump_on 0 ∷ []) ++ b ≡ c1 ++ Bne 10 0 (pos 8) ∷ jump_on 0 ∷ (a ++ jump_on 0 ∷ b) = simp append_assoc in
    let d1 : 4 * min (length c3 - length c1) 12005 ≡ 4 * (length a + 1 + 1) = omega (arith, l1, l2, l3, space) in
    let d2 : 4 * min (length c5 - length c3) 12005 ≡ 4 * (length b + 1) = omega (arith, l4, l5, space) in
    ap (λ l. slice_set (slice_set l (length c1 + 1) i) (length c3) j) (all ∙ flat)
    ∙ ap (λ n. slice_set (slice_set (c1 ++ Bne 10 0 (pos 8) ∷ jump_on 0 ∷ (a ++ jump_on 0 ∷ b)) (length c1 + 1) i) n j) at2
    ∙ two_writes c1 a b (Bne 10 0 (pos 8)) (jump_on 0) (jump_on 0) i j
    ∙ ap (λ l. l ++ Bne 10 0 (pos 8) ∷ i ∷ (a ++ j ∷ b)) e1
    ∙ append_assoc base e (Bne 10 0 (pos 8) ∷ i ∷ (a ++ j ∷ b))
    ∙ ap (λ n. base ++ (e ++ Bne 10 0 (pos 8) ∷ Jal 0 (pos n) ∷ (a ++ j ∷ b))) d1
    ∙ ap (λ n. base ++ (e ++ Bne 10 0 (pos 8) ∷ Jal 0 (pos (4 * (length a + 1 + 1))) ∷ (a ++ Jal 0 (pos n) ∷ b))) d2

-- the code with the jumps of a loop told
closed_loop : (base e a c1 c2 c3 : List Instr) → length base + length e + length a + 4 ≤ 12005
    → c1 ≡ base ++ e → c2 ≡ c1 ++ open_test → c3 ≡ c2 ++ a
    → slice_set (c3 ++ jump_back (length c3 - length base) ∷ []) (length c1 + 1) (jump_on (length c3 - length c1)) ≡ base ++ repeat_code e a
closed_loop base e a c1 c2 c3 space e1 e2 e3 =
    let l1 = ap length e1 ∙ length-append base e in
    let l2 = ap length e2 ∙ length-append c1 open_test in
    let l3 = ap length e3 ∙ length-append c2 a in
    let i = jump_on (length c3 - length c1) in
    let j = jump_back (length c3 - length base) in
    let all : c3 ++ j ∷ [] ≡ ((c1 ++ open_test) ++ a) ++ j ∷ [] = ap (λ l. l ++ j ∷ []) (e3 ∙ ap (λ l. l ++ a) e2) in
    let flat : ((c1 ++ open_test) ++ a) ++ j ∷ [] ≡ c1 ++ Bne 10 0 (pos 8) ∷ jump_on 0 ∷ (a ++ j ∷ []) = simp append_assoc in
    let d1 : 4 * min (length c3 - length c1) 12005 ≡ 4 * (length a + 1 + 1) = omega (arith, l1, l2, l3, space) in
    let d2 : 4 * min (length c3 - length base) 12005 ≡ 4 * (length e + 2 + length a) = omega (arith, l1, l2, l3, space) in
    ap (λ l. slice_set l (length c1 + 1) i) (all ∙ flat)
    ∙ one_write c1 a (Bne 10 0 (pos 8)) (jump_on 0) j i
    ∙ ap (λ l. l ++ Bne 10 0 (pos 8) ∷ i ∷ (a ++ j ∷ [])) e1
    ∙ append_assoc base e (Bne 10 0 (pos 8) ∷ i ∷ (a ++ j ∷ []))
    ∙ ap (λ n. base ++ (e ++ Bne 10 0 (pos 8) ∷ Jal 0 (pos n) ∷ (a ++ j ∷ []))) d1
    ∙ ap (λ n. base ++ (e ++ Bne 10 0 (pos 8) ∷ Jal 0 (pos (4 * (length a + 1 + 1))) ∷ (a ++ Jal 0 (neg_of n) ∷ []))) d2

module _ (op : Operator) where
  value_length : (e : Expr) → length (expr_code op e) ≤ 8 * value_nodes (value_in (declared_in op) e)
  value_length e = value_short (program_of op).lengths (value_in (declared_in op) e)

  block_length : (body : List Stmt) → length (block_code op body) ≤ 12 * action_nodes (block_in (declared_in op) body)
  block_length body = action_short (program_of op).lengths (block_in (declared_in op) body)

  stmt_length : (s : Stmt) → length (stmt_code op s) ≤ 12 * action_nodes (action_in (declared_in op) s)
  stmt_length s = action_short (program_of op).lengths (action_in (declared_in op) s)

  as_chosen : (test : Expr) (a b : List Stmt) (s : Stmt) → s ≡ If test a b → choose_code (expr_code op test) (block_code op a) (block_code op b) ≡ stmt_code op s
  as_chosen test a b s is = sym (ap (action_code (program_of op).lengths) (ap (action_in (declared_in op)) is ∙ action_in-If (declared_in op) test a b))

  as_looped : (test : Expr) (a : List Stmt) (s : Stmt) → s ≡ While test a → repeat_code (expr_code op test) (block_code op a) ≡ stmt_code op s
  as_looped test a s is = sym (ap (action_code (program_of op).lengths) (ap (action_in (declared_in op)) is ∙ action_in-While (declared_in op) test a))

  chosen_nodes : (test : Expr) (a b : List Stmt) (s : Stmt) → s ≡ If test a b → action_nodes (action_in (declared_in op) s) ≡ 1 + value_nodes (value_in (declared_in op) test) + action_nodes (block_in (declared_in op) a) + action_nodes (block_in (declared_in op) b)
  chosen_nodes test a b s is = ap action_nodes (ap (action_in (declared_in op)) is ∙ action_in-If (declared_in op) test a b)

  looped_nodes : (test : Expr) (a : List Stmt) (s : Stmt) → s ≡ While test a → action_nodes (action_in (declared_in op) s) ≡ 1 + value_nodes (value_in (declared_in op) test) + action_nodes (block_in (declared_in op) a)
  looped_nodes test a s is = ap action_nodes (ap (action_in (declared_in op)) is ∙ action_in-While (declared_in op) test a)

  abbrev pub Emits : List Instr → List Stmt → List Instr → Type 0
  Emits code body after = HasSpace code (block_in (declared_in op) body) → after ≡ code ++ block_code op body

  pub choice_code : (base c1 c2 c3 c4 c5 c6 : List Instr) (test : Expr) (a b a' b' : List Stmt) (s : Stmt) (tested first : ℕ) → s ≡ If test a b → a' ≡ a → b' ≡ b
      → c1 ≡ base ++ expr_code op test → tested ≡ length c1 → c2 ≡ c1 ++ open_test → Emits c2 a' c3 → first ≡ length c3 → c4 ≡ c3 ++ jump_on 0 ∷ [] → Emits c4 b' c5
      → c6 ≡ slice_set (slice_set c5 (tested + 1) (jump_on (first - tested))) first (jump_on (length c5 - first))
      → HasSpace base (action_in (declared_in op) s) → c6 ≡ base ++ stmt_code op s
  choice_code base c1 c2 c3 c4 c5 c6 test a b a' b' s tested first is ea eb e1 m1 e2 e3 m2 e4 e5 e6 space =
      let n = chosen_nodes test a b s is in
      let l1 = ap length e1 ∙ length-append base (expr_code op test) in
      let l2 = ap length e2 ∙ length-append c1 open_test in
      let na = ap (λ x. action_nodes (block_in (declared_in op) x)) ea in
      let nb = ap (λ x. action_nodes (block_in (declared_in op) x)) eb in
      let e3' = e3 (omega (arith, space, n, l1, l2, value_length test, na)) in
      let l3 = ap length e3' ∙ length-append c2 (block_code op a') in
      let l4 = ap length e4 ∙ length-append c3 (jump_on 0 ∷ []) in
      let e5' = e5 (omega (arith, space, n, l1, l2, l3, l4, value_length test, block_length a', na, nb)) in
      let all = closed_choice base (expr_code op test) (block_code op a') (block_code op b') c1 c2 c3 c4 c5 (omega (arith, space, n, na, nb, value_length test, block_length a', block_length b')) e1 e2 e3' e4 e5' in
      e6 ∙ ap (λ x. slice_set (slice_set c5 (x + 1) (jump_on (first - x))) first (jump_on (length c5 - first))) m1
      ∙ ap (λ x. slice_set (slice_set c5 (length c1 + 1) (jump_on (x - length c1))) x (jump_on (length c5 - x))) m2
      ∙ all ∙ ap (λ x. base ++ choose_code (expr_code op test) (block_code op x) (block_code op b')) ea
      ∙ ap (λ x. base ++ choose_code (expr_code op test) (block_code op a) (block_code op x)) eb
      ∙ ap (λ x. base ++ x) (as_chosen test a b s is)

  pub loop_code : (base c1 c2 c3 c4 : List Instr) (test : Expr) (a a' : List Stmt) (s : Stmt) (start tested : ℕ) → s ≡ While test a → a' ≡ a → start ≡ length base
      → c1 ≡ base ++ expr_code op test → tested ≡ length c1 → c2 ≡ c1 ++ open_test → Emits c2 a' c3
      → c4 ≡ slice_set (c3 ++ jump_back (length c3 - start) ∷ []) (tested + 1) (jump_on (length c3 - tested))
      → HasSpace base (action_in (declared_in op) s) → c4 ≡ base ++ stmt_code op s
  loop_code base c1 c2 c3 c4 test a a' s start tested is ea m0 e1 m1 e2 e3 e4 space =
      let n = looped_nodes test a s is in
      let l1 = ap length e1 ∙ length-append base (expr_code op test) in
      let l2 = ap length e2 ∙ length-append c1 open_test in
      let na = ap (λ x. action_nodes (block_in (declared_in op) x)) ea in
      let e3' = e3 (omega (arith, space, n, l1, l2, value_length test, na)) in
      e4 ∙ ap (λ x. slice_set (c3 ++ jump_back (length c3 - x) ∷ []) (tested + 1) (jump_on (length c3 - tested))) m0
      ∙ ap (λ x. slice_set (c3 ++ jump_back (length c3 - length base) ∷ []) (x + 1) (jump_on (length c3 - x))) m1
      ∙ closed_loop base (expr_code op test) (block_code op a') c1 c2 c3 (omega (arith, space, n, na, value_length test, block_length a')) e1 e2 e3'
      ∙ ap (λ x. base ++ repeat_code (expr_code op test) (block_code op x)) ea
      ∙ ap (λ x. base ++ x) (as_looped test a s is)

  -- one statement more of a list
  pub one_more : (initial code after : List Instr) (body : List Stmt) (i : ℕ) (s : Stmt) → i < length body → s ≡ get_or body i s
      → (HasSpace initial (block_in (declared_in op) body) → (code ++ block_code op (drop i body) ≡ initial ++ block_code op body) × HasSpace code (block_in (declared_in op) (drop i body)))
      → (HasSpace code (action_in (declared_in op) s) → after ≡ code ++ stmt_code op s)
      → HasSpace initial (block_in (declared_in op) body) → (after ++ block_code op (drop (i + 1) body) ≡ initial ++ block_code op body) × HasSpace after (block_in (declared_in op) (drop (i + 1) body))
  one_more initial code after body i s lt is so_far emits space =
      let before = so_far space in
      let step : drop i body ≡ s ∷ drop (i + 1) body = drop_more body i s lt ∙ ap (λ x. x ∷ drop (i + 1) body) (sym is) in
      let room : HasSpace code (block_in (declared_in op) (s ∷ drop (i + 1) body)) = subst (λ x. HasSpace code (block_in (declared_in op) x)) step before.1 in
      let e = emits (omega (arith, room)) in
      let l = ap length e ∙ length-append code (stmt_code op s) in
      (ap (λ x. x ++ block_code op (drop (i + 1) body)) e ∙ append_assoc code (stmt_code op s) (block_code op (drop (i + 1) body)) ∙ ap (λ x. code ++ block_code op x) (sym step) ∙ before.0, omega (arith, room, l, stmt_length s))
