-- How many registers and blocks an action takes.
use Rattle.std.proofs.Common.{ℕ, ◌+◌, ◌*◌, ◌≤◌, List, [], ◌∷◌, ◌++◌, length, arith, length-append}
use Rattle.fsm_core.specs.declared.micro.Micro.{Micro}
use Rattle.fsm_core.specs.declared.micro.Next.TheVariants.{Goto}
use Rattle.pld_ast.specs.Program.{Operation1, Keep, Negate, Flip, IsZero, Value, Number, Scalar, Element, Op1, Op2, Action, Skip, Then, Assign, Store, Read, ReadInto, Write, Choose, Repeat, Return}
use Rattle.pld_ast.specs.Nodes.{value_nodes, action_nodes}
use Rattle.fsm_ir.specs.Blocks.{piece, Made, temps_in, reg_of, value_micros, op1_temps, choose_make, repeat_make, emit}

op1_small : (o : Operation1) → op1_temps o ≤ 1
op1_small Keep = omega arith
op1_small Negate = omega arith
op1_small Flip = omega arith
op1_small IsZero = omega arith

-- at most one temporary for each node
pub temps_small : (v : Value) → temps_in v ≤ value_nodes v
temps_small (Number v) = omega arith
temps_small (Scalar s) = omega arith
temps_small (Element u e) = omega (arith, temps_small e)
temps_small (Op1 o a) = omega (arith, temps_small a, op1_small o)
temps_small (Op2 o a b) = omega (arith, temps_small a, temps_small b)

-- at most one temporary and three blocks for each node
pub record IsSmall (p : Made) (t nodes : ℕ) : Type 0 where
  pub few_temps : p.temps ≤ t + nodes
  pub few_blocks : length p.ended ≤ 3 * nodes

pub emit_small : (a : Action) (c : List Micro) (k t : ℕ) → IsSmall (emit a c k t) t (action_nodes a)
emit_small Skip c k t = record { few_temps = omega arith; few_blocks = omega arith }
emit_small (Then a b) c k t = by (emit a c k t) (emit_small a c k t) (λ d n s. emit_small b d n s)
  where
    by : (p : Made) → IsSmall p t (action_nodes a) → ((d : List Micro) (n s : ℕ) → IsSmall (emit b d n s) s (action_nodes b)) → IsSmall (record { ended = p.ended ++ (emit b p.current (k + length p.ended) p.temps).ended; current = (emit b p.current (k + length p.ended) p.temps).current; temps = (emit b p.current (k + length p.ended) p.temps).temps }) t (action_nodes a + action_nodes b)
    by p h rest =
        let q = rest p.current (k + length p.ended) p.temps in
        let l = length-append p.ended (emit b p.current (k + length p.ended) p.temps).ended in
        record { few_temps = omega (arith, h.few_temps, q.few_temps); few_blocks = omega (arith, h.few_blocks, q.few_blocks, l) }
emit_small (Assign s e) c k t = record { few_temps = omega (arith, temps_small e); few_blocks = omega arith }
emit_small (Store u i e) c k t = record { few_temps = omega (arith, temps_small i, temps_small e); few_blocks = omega arith }
emit_small (Read s p) c k t = record { few_temps = omega arith; few_blocks = omega arith }
emit_small (ReadInto u i p) c k t = record { few_temps = omega (arith, temps_small i); few_blocks = omega arith }
emit_small (Write p e) c k t = record { few_temps = omega (arith, temps_small e); few_blocks = omega arith }
emit_small (Choose e a b) c k t = by (emit a [] (k + 1) (t + temps_in e)) (emit_small a [] (k + 1) (t + temps_in e)) (λ n s. emit_small b [] n s)
  where
    by : (p : Made) → IsSmall p (t + temps_in e) (action_nodes a) → ((n s : ℕ) → IsSmall (emit b [] n s) s (action_nodes b)) → IsSmall (choose_make (c ++ value_micros e t) (reg_of e t) k p (emit b [])) t (1 + value_nodes e + action_nodes a + action_nodes b)
    by p h rest =
        let q = emit b [] (k + 1 + length p.ended + 1) p.temps in
        let z = k + 1 + length p.ended + 1 + length q.ended + 1 in
        let r = rest (k + 1 + length p.ended + 1) p.temps in
        let l1 = length-append p.ended (piece p.current (Goto z) ∷ (q.ended ++ piece q.current (Goto z) ∷ [])) in
        let l2 = length-append q.ended (piece q.current (Goto z) ∷ []) in
        record { few_temps = omega (arith, h.few_temps, r.few_temps, temps_small e); few_blocks = omega (arith, h.few_blocks, r.few_blocks, l1, l2) }
emit_small (Repeat e a) c k t = by (emit a [] (k + 1 + 1) (t + temps_in e)) (emit_small a [] (k + 1 + 1) (t + temps_in e))
  where
    by : (p : Made) → IsSmall p (t + temps_in e) (action_nodes a) → IsSmall (repeat_make c (value_micros e t) (reg_of e t) k p) t (1 + value_nodes e + action_nodes a)
    by p h = let l = length-append p.ended (piece p.current (Goto (k + 1)) ∷ []) in record { few_temps = omega (arith, h.few_temps, temps_small e); few_blocks = omega (arith, h.few_blocks, l) }
emit_small Return c k t = record { few_temps = omega arith; few_blocks = omega arith }
