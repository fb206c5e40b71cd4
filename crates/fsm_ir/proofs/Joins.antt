-- The blocks of choices, loops and lists of statements.
use Rattle.std.proofs.Common.{◌≡◌, ℕ, zero, suc, ◌+◌, ◌-◌, ◌^◌, ◌<◌, ◌≤◌, List, [], ◌∷◌, ◌++◌, length, get_or, map, drop, refl, sym, ap, ◌∙◌, subst, arith, append_assoc, length-append}
use Rattle.std.proofs.Math.ListN.{set}
use Rattle.std.proofs.lemmas.List.{append-nil, drop_more}
use Rattle.std.specs.Prelude.{min}
use Rattle.fsm_core.specs.declared.micro.Micro.{Micro}
use Rattle.fsm_core.specs.declared.micro.Next.{Next}
use Rattle.fsm_core.specs.declared.micro.Next.TheVariants.{Goto, Branch, End}
use Rattle.pld_ast.specs.declared.tree.Stmt.{Stmt}
use Rattle.pld_ast.specs.declared.tree.Stmt.TheVariants.{If, While}
use Rattle.pld_ast.specs.declared.tree.Expr.{Expr}
use Rattle.pld_ast.specs.Program.{Value, Action, Skip, Then, Choose, Repeat}
use Rattle.pld_ast.specs.Resolve.{Names, value_in, action_in, block_in}
use Rattle.pld_ast.proofs.Views.{action_in-If, action_in-While}
use Rattle.fsm_ir.specs.declared.block.Block.{Block}
use Rattle.fsm_ir.specs.Blocks.{Piece, piece, Made, followed, temps_in, reg_of, value_micros, emit}
use Rattle.fsm_ir.specs.Building.{piece_in, grown, closed, set_next, aimed, after, HasTemps, IsPut, HasSpace}
use Rattle.fsm_ir.proofs.Sizes.{temps_small, emit_small}

-- ---- a block goes on elsewhere

pub aim_found : (xs : List Block) (k : ℕ) (b : Block) (nx : Next) → k < length xs → b ≡ get_or xs k b → map piece_in (set xs k (record { micros = b.micros; next = nx })) ≡ set_next (map piece_in xs) k nx
aim_found [] k b nx h is = absurd (omega arith)
aim_found (x ∷ xs) zero b nx h is = ap (λ y. piece y.micros.items nx ∷ map piece_in xs) is
aim_found (x ∷ xs) (suc k) b nx h is = ap (λ l. piece_in x ∷ l) (aim_found xs k b nx (omega arith) is)

pub aim_missing : (xs : List Block) (k : ℕ) (nx : Next) → length xs ≤ k → map piece_in xs ≡ set_next (map piece_in xs) k nx
aim_missing [] k nx h = refl
aim_missing (x ∷ xs) zero nx h = absurd (omega arith)
aim_missing (x ∷ xs) (suc k) nx h = ap (λ l. piece_in x ∷ l) (aim_missing xs k nx (omega arith))

seam : (a : List Piece) (b : Piece) (bs : List Piece) (nx : Next) → set_next (a ++ b ∷ bs) (length a) nx ≡ a ++ piece b.micros nx ∷ bs
seam [] b bs nx = refl
seam (x ∷ a) b bs nx = ap (λ l. x ∷ l) (seam a b bs nx)

seam_at : (a : List Piece) (b : Piece) (bs : List Piece) (k : ℕ) (nx : Next) → k ≡ length a → set_next (a ++ b ∷ bs) k nx ≡ a ++ piece b.micros nx ∷ bs
seam_at a b bs k nx e = ap (λ n. set_next (a ++ b ∷ bs) n nx) e ∙ seam a b bs nx

-- ---- lists of statements

pub nothing_after : (m : Made) → after m Skip ≡ m
nothing_after m = ap (λ l. let n : Made = record { ended = l; current = m.current; temps = m.temps } in n) (append-nil m.ended)

then_after : (m : Made) (a b : Action) → after m (Then a b) ≡ after (after m a) b
then_after m a b = by (emit a m.current (length m.ended) m.temps)
  where
    by : (p : Made) → followed m (followed p (emit b p.current (length m.ended + length p.ended) p.temps)) ≡ followed (followed m p) (emit b p.current (length (m.ended ++ p.ended)) p.temps)
    by p =
        ap (λ n. followed m (followed p (emit b p.current n p.temps))) (sym (length-append m.ended p.ended))
        ∙ ap (λ l. let n : Made = record { ended = l; current = (emit b p.current (length (m.ended ++ p.ended)) p.temps).current; temps = (emit b p.current (length (m.ended ++ p.ended)) p.temps).temps } in n) (sym (append_assoc m.ended p.ended (emit b p.current (length (m.ended ++ p.ended)) p.temps).ended))

space_first : (m : Made) (a b : Action) → HasSpace m (Then a b) → HasSpace m a
space_first m a b h = record { registers = omega (arith, h.registers); blocks = omega (arith, h.blocks) }

space_rest : (m : Made) (a b : Action) → HasSpace m (Then a b) → HasSpace (after m a) b
space_rest m a b h =
    let s = emit_small a m.current (length m.ended) m.temps in
    let l = length-append m.ended (emit a m.current (length m.ended) m.temps).ended in
    record { registers = omega (arith, h.registers, s.few_temps); blocks = omega (arith, h.blocks, s.few_blocks, l) }

-- one statement more of a list
pub one_more : (d : Names) (m0 m1 m2 : Made) (body : List Stmt) (i : ℕ) (s : Stmt) → i < length body → s ≡ get_or body i s
    → (HasSpace m0 (block_in d body) → (after m1 (block_in d (drop i body)) ≡ after m0 (block_in d body)) × HasSpace m1 (block_in d (drop i body)))
    → (HasSpace m1 (action_in d s) → m2 ≡ after m1 (action_in d s))
    → HasSpace m0 (block_in d body) → (after m2 (block_in d (drop (i + 1) body)) ≡ after m0 (block_in d body)) × HasSpace m2 (block_in d (drop (i + 1) body))
one_more d m0 m1 m2 body i s lt is so_far puts space =
    let before = so_far space in
    let rest = block_in d (drop (i + 1) body) in
    let step : drop i body ≡ s ∷ drop (i + 1) body = drop_more body i s lt ∙ ap (λ x. x ∷ drop (i + 1) body) (sym is) in
    let room : HasSpace m1 (Then (action_in d s) rest) = subst (λ x. HasSpace m1 (block_in d x)) step before.1 in
    let e = puts (space_first m1 (action_in d s) rest room) in
    (ap (λ m. after m rest) e ∙ sym (then_after m1 (action_in d s) rest) ∙ ap (λ x. after m1 (block_in d x)) (sym step) ∙ before.0, subst (λ m. HasSpace m rest) (sym e) (space_rest m1 (action_in d s) rest room))

-- ---- a choice

chosen_list : (e p q : List Piece) (c pc qc : List Micro) (g h : Next) (n k : ℕ) → n ≡ length e + 1 + length p → k ≡ length e
    → set_next (set_next (((((e ++ piece c End ∷ []) ++ p) ++ piece pc End ∷ []) ++ q) ++ piece qc g ∷ []) n g) k h ≡ e ++ piece c h ∷ (p ++ piece pc g ∷ (q ++ piece qc g ∷ []))
chosen_list e p q c pc qc g h n k en ek =
    let rest = q ++ piece qc g ∷ [] in
    let flat : ((((e ++ piece c End ∷ []) ++ p) ++ piece pc End ∷ []) ++ q) ++ piece qc g ∷ [] ≡ (e ++ piece c End ∷ p) ++ piece pc End ∷ rest = simp append_assoc in
    let again : (e ++ piece c End ∷ p) ++ piece pc g ∷ rest ≡ e ++ piece c End ∷ (p ++ piece pc g ∷ rest) = simp append_assoc in
    let at : n ≡ length (e ++ piece c End ∷ p) = let l = length-append e (piece c End ∷ p) in omega (arith, l, en) in
    ap (λ l. set_next (set_next l n g) k h) flat
    ∙ ap (λ l. set_next l k h) (seam_at (e ++ piece c End ∷ p) (piece pc End) rest n g at ∙ again)
    ∙ seam_at e (piece c End) (p ++ piece pc g ∷ rest) k h ek

abbrev number_of : Made → ℕ
number_of m = min (length m.ended) (2 ^ 32 - 1)

module _ (v : Value) (a b : Action) (m0 : Made) where
  abbrev k : ℕ
  k = length m0.ended

  abbrev t : ℕ
  t = m0.temps + temps_in v

  abbrev c : List Micro
  c = m0.current ++ value_micros v m0.temps

  abbrev x2 : Made
  x2 = closed (grown m0 (value_micros v m0.temps) t) End

  abbrev p : Made
  p = emit a [] (k + 1) t

  abbrev x4 : Made
  x4 = closed (followed x2 p) End

  abbrev q : Made
  q = emit b [] (k + 1 + length p.ended + 1) p.temps

  x4_long : length x4.ended ≡ k + 1 + length p.ended + 1
  x4_long =
      let i = length-append ((m0.ended ++ piece c End ∷ []) ++ p.ended) (piece p.current End ∷ []) in
      let j = length-append (m0.ended ++ piece c End ∷ []) p.ended in
      let l = length-append m0.ended (piece c End ∷ []) in
      omega (arith, i, j, l)

  pub choose_put : (m1 m2 m3 m4 m5 m6 m7 m8 : Made) (r n1 n2 n3 n4 z : ℕ)
      → (HasTemps m0 v → IsPut v m0 m1 r) → n1 ≡ number_of m1 → m2 ≡ closed m1 End → n2 ≡ number_of m2 → (HasSpace m2 a → m3 ≡ after m2 a)
      → n3 ≡ number_of m3 → m4 ≡ closed m3 End → n4 ≡ number_of m4 → (HasSpace m4 b → m5 ≡ after m4 b)
      → z ≡ min (number_of m5 + 1) (2 ^ 32 - 1) → m6 ≡ closed m5 (Goto z) → m7 ≡ aimed m6 n3 (Goto z) → m8 ≡ aimed m7 n1 (Branch r n2 n4)
      → HasSpace m0 (Choose v a b) → m8 ≡ after m0 (Choose v a b)
  choose_put m1 m2 m3 m4 m5 m6 m7 m8 r n1 n2 n3 n4 z h1 h2 h3 h4 h5 h6 h7 h8 h9 h10 h11 h12 h13 space =
      let put = h1 (omega (arith, space.registers, temps_small v)) in
      let e2 : m2 ≡ x2 = h3 ∙ ap (λ m. closed m End) put.made in
      let l1 : length m1.ended ≡ k = ap (λ m. length m.ended) put.made in
      let l2 : length m2.ended ≡ k + 1 = ap (λ m. length m.ended) e2 ∙ length-append m0.ended (piece c End ∷ []) in
      let t2 : m2.temps ≡ t = ap (λ m. m.temps) e2 in
      let e3 : m3 ≡ followed x2 p = h5 (record { registers = omega (arith, t2, space.registers, temps_small v); blocks = omega (arith, l2, space.blocks) }) ∙ ap (λ m. after m a) e2 ∙ ap (λ n. followed x2 (emit a [] n t)) (length-append m0.ended (piece c End ∷ [])) in
      let l3 : length m3.ended ≡ k + 1 + length p.ended = ap (λ m. length m.ended) e3 ∙ length-append (m0.ended ++ piece c End ∷ []) p.ended ∙ ap (λ n. n + length p.ended) (length-append m0.ended (piece c End ∷ [])) in
      let e4 : m4 ≡ x4 = h7 ∙ ap (λ m. closed m End) e3 in
      let l4 : length m4.ended ≡ k + 1 + length p.ended + 1 = ap (λ m. length m.ended) e4 ∙ x4_long in
      let t4 : m4.temps ≡ p.temps = ap (λ m. m.temps) e4 in
      let ps = emit_small a [] (k + 1) t in
      let qs = emit_small b [] (k + 1 + length p.ended + 1) p.temps in
      let e5 : m5 ≡ followed x4 q = h9 (record { registers = omega (arith, t4, ps.few_temps, space.registers, temps_small v); blocks = omega (arith, l4, ps.few_blocks, space.blocks) }) ∙ ap (λ m. after m b) e4 ∙ ap (λ n. followed x4 (emit b [] n p.temps)) x4_long in
      let l5 : length m5.ended ≡ k + 1 + length p.ended + 1 + length q.ended = ap (λ m. length m.ended) e5 ∙ length-append x4.ended q.ended ∙ ap (λ n. n + length q.ended) x4_long in
      let a1 : n1 ≡ k = omega (arith, h2, l1, space.blocks) in
      let a2 : n2 ≡ k + 1 = omega (arith, h4, l2, space.blocks) in
      let a3 : n3 ≡ k + 1 + length p.ended = omega (arith, h6, l3, ps.few_blocks, space.blocks) in
      let a4 : n4 ≡ k + 1 + length p.ended + 1 = omega (arith, h8, l4, ps.few_blocks, space.blocks) in
      let az : z ≡ k + 1 + length p.ended + 1 + length q.ended + 1 = omega (arith, h10, l5, ps.few_blocks, qs.few_blocks, space.blocks) in
      let whole : List Piece → Made = λ l. record { ended = l; current = []; temps = q.temps } in
      h13 ∙ ap (λ m. aimed m n1 (Branch r n2 n4)) (h12 ∙ ap (λ m. aimed m n3 (Goto z)) (h11 ∙ ap (λ m. closed m (Goto z)) e5))
      ∙ ap whole (chosen_list m0.ended p.ended q.ended c p.current q.current (Goto z) (Branch r n2 n4) n3 n1 a3 a1)
      ∙ ap (λ x. whole (m0.ended ++ piece c (Branch x n2 n4) ∷ (p.ended ++ piece p.current (Goto z) ∷ (q.ended ++ piece q.current (Goto z) ∷ [])))) put.register
      ∙ ap (λ x. whole (m0.ended ++ piece c (Branch (reg_of v m0.temps) x n4) ∷ (p.ended ++ piece p.current (Goto z) ∷ (q.ended ++ piece q.current (Goto z) ∷ [])))) a2
      ∙ ap (λ x. whole (m0.ended ++ piece c (Branch (reg_of v m0.temps) (k + 1) x) ∷ (p.ended ++ piece p.current (Goto z) ∷ (q.ended ++ piece q.current (Goto z) ∷ [])))) a4
      ∙ ap (λ x. whole (m0.ended ++ piece c (Branch (reg_of v m0.temps) (k + 1) (k + 1 + length p.ended + 1)) ∷ (p.ended ++ piece p.current (Goto x) ∷ (q.ended ++ piece q.current (Goto x) ∷ [])))) az

pub choice_is : (d : Names) (s : Stmt) (e : Expr) (a b a' b' : List Stmt) → s ≡ If e a b → a' ≡ a → b' ≡ b → Choose (value_in d e) (block_in d a') (block_in d b') ≡ action_in d s
choice_is d s e a b a' b' is ea eb =
    ap (λ x. Choose (value_in d e) (block_in d x) (block_in d b')) ea ∙ ap (λ x. Choose (value_in d e) (block_in d a) (block_in d x)) eb ∙ sym (ap (action_in d) is ∙ action_in-If d e a b)

-- ---- a loop

looped_list : (e p : List Piece) (c h pc : List Micro) (g x : Next) (k : ℕ) → k ≡ length e + 1
    → set_next ((((e ++ piece c g ∷ []) ++ piece h End ∷ []) ++ p) ++ piece pc g ∷ []) k x ≡ e ++ piece c g ∷ piece h x ∷ (p ++ piece pc g ∷ [])
looped_list e p c h pc g x k ek =
    let rest = p ++ piece pc g ∷ [] in
    let flat : (((e ++ piece c g ∷ []) ++ piece h End ∷ []) ++ p) ++ piece pc g ∷ [] ≡ (e ++ piece c g ∷ []) ++ piece h End ∷ rest = simp append_assoc in
    let again : (e ++ piece c g ∷ []) ++ piece h x ∷ rest ≡ e ++ piece c g ∷ piece h x ∷ rest = simp append_assoc in
    let at : k ≡ length (e ++ piece c g ∷ []) = let l = length-append e (piece c g ∷ []) in omega (arith, l, ek) in
    ap (λ l. set_next l k x) flat ∙ seam_at (e ++ piece c g ∷ []) (piece h End) rest k x at ∙ again

module _ (v : Value) (a : Action) (m0 : Made) where
  abbrev k0 : ℕ
  k0 = length m0.ended

  abbrev t0 : ℕ
  t0 = m0.temps + temps_in v

  abbrev into : Made
  into = closed m0 (Goto (k0 + 1))

  abbrev head : Made
  head = closed (grown into (value_micros v m0.temps) t0) End

  abbrev body : Made
  body = emit a [] (k0 + 1 + 1) t0

  head_long : length head.ended ≡ k0 + 1 + 1
  head_long =
      let i = length-append (m0.ended ++ piece m0.current (Goto (k0 + 1)) ∷ []) (piece (value_micros v m0.temps) End ∷ []) in
      let j = length-append m0.ended (piece m0.current (Goto (k0 + 1)) ∷ []) in
      omega (arith, i, j)

  pub repeat_put : (m1 m2 m3 m4 m5 m6 : Made) (r s n z : ℕ)
      → s ≡ min (number_of m0 + 1) (2 ^ 32 - 1) → m1 ≡ closed m0 (Goto s) → (HasTemps m1 v → IsPut v m1 m2 r) → m3 ≡ closed m2 End → n ≡ number_of m3
      → (HasSpace m3 a → m4 ≡ after m3 a) → m5 ≡ closed m4 (Goto s) → z ≡ number_of m5 → m6 ≡ aimed m5 s (Branch r n z)
      → HasSpace m0 (Repeat v a) → m6 ≡ after m0 (Repeat v a)
  repeat_put m1 m2 m3 m4 m5 m6 r s n z h1 h2 h3 h4 h5 h6 h7 h8 h9 space =
      let is_s : s ≡ k0 + 1 = omega (arith, h1, space.blocks) in
      let e1 : m1 ≡ into = h2 ∙ ap (λ i. closed m0 (Goto i)) is_s in
      let t1 : m1.temps ≡ m0.temps = ap (λ m. m.temps) e1 in
      let put = h3 (omega (arith, space.registers, temps_small v, t1)) in
      let e2 : m2 ≡ grown into (value_micros v m0.temps) t0 = put.made ∙ ap (λ m. grown m (value_micros v m.temps) (m.temps + temps_in v)) e1 in
      let e3 : m3 ≡ head = h4 ∙ ap (λ m. closed m End) e2 in
      let t3 : m3.temps ≡ t0 = ap (λ m. m.temps) e3 in
      let l3 : length m3.ended ≡ k0 + 1 + 1 = ap (λ m. length m.ended) e3 ∙ head_long in
      let e4 : m4 ≡ followed head body = h6 (record { registers = omega (arith, t3, space.registers, temps_small v); blocks = omega (arith, l3, space.blocks) }) ∙ ap (λ m. after m a) e3 ∙ ap (λ i. followed head (emit a [] i t0)) head_long in
      let e5 : m5 ≡ closed (followed head body) (Goto (k0 + 1)) = h7 ∙ ap (λ i. closed m4 (Goto i)) is_s ∙ ap (λ m. closed m (Goto (k0 + 1))) e4 in
      let l5 : length m5.ended ≡ k0 + 1 + 1 + length body.ended + 1 = ap (λ m. length m.ended) e5 ∙ (let i = length-append (head.ended ++ body.ended) (piece body.current (Goto (k0 + 1)) ∷ []) in let j = length-append head.ended body.ended in let w = head_long in let goal : length ((head.ended ++ body.ended) ++ piece body.current (Goto (k0 + 1)) ∷ []) ≡ k0 + 1 + 1 + length body.ended + 1 = omega (arith, i, j, w) in goal) in
      let ps = emit_small a [] (k0 + 1 + 1) t0 in
      let an : n ≡ k0 + 1 + 1 = omega (arith, h5, l3, space.blocks) in
      let az : z ≡ k0 + 1 + 1 + length body.ended + 1 = omega (arith, h8, l5, ps.few_blocks, space.blocks) in
      let whole : List Piece → Made = λ l. record { ended = l; current = []; temps = body.temps } in
      let g : Next = Goto (k0 + 1) in
      h9 ∙ ap (λ m. aimed m s (Branch r n z)) e5
      ∙ ap whole (looped_list m0.ended body.ended m0.current (value_micros v m0.temps) body.current g (Branch r n z) s is_s)
      ∙ ap (λ x. whole (m0.ended ++ piece m0.current g ∷ piece (value_micros v m0.temps) (Branch x n z) ∷ (body.ended ++ piece body.current g ∷ []))) (put.register ∙ ap (reg_of v) t1)
      ∙ ap (λ x. whole (m0.ended ++ piece m0.current g ∷ piece (value_micros v m0.temps) (Branch (reg_of v m0.temps) x z) ∷ (body.ended ++ piece body.current g ∷ []))) an
      ∙ ap (λ x. whole (m0.ended ++ piece m0.current g ∷ piece (value_micros v m0.temps) (Branch (reg_of v m0.temps) (k0 + 1 + 1) x) ∷ (body.ended ++ piece body.current g ∷ []))) az

pub loop_is : (d : Names) (s : Stmt) (e : Expr) (a a' : List Stmt) → s ≡ While e a → a' ≡ a → Repeat (value_in d e) (block_in d a') ≡ action_in d s
loop_is d s e a a' is ea = ap (λ x. Repeat (value_in d e) (block_in d x)) ea ∙ sym (ap (action_in d) is ∙ action_in-While d e a)
