-- States, put one after the other as the code does it, are those of the table.
use Rattle.std.proofs.Common.{◌≡◌, ℕ, zero, suc, ◌+◌, ◌<◌, ◌≤◌, List, [], ◌∷◌, ◌++◌, length, map, refl, sym, ap, ◌∙◌, arith, append_assoc, length-append}
use Rattle.std.specs.Prelude.{slice_index}
use Rattle.std.proofs.lemmas.List.{map-append, length-map}
use Rattle.fsm_core.specs.declared.micro.Micro.{Micro}
use Rattle.fsm_core.specs.declared.micro.Next.{Next}
use Rattle.fsm_core.specs.declared.micro.Next.TheVariants.{Goto, Branch, End}
use Rattle.fsm_core.specs.declared.micro.State.{State}
use Rattle.fsm_core.specs.Machine.{Stage}
use Rattle.fsm_core.specs.Table.{Plan, IsNext, stage_in}
use Rattle.fsm_sched.specs.Rule.{scheduled}
use Rattle.pld_ast.specs.Program.{Program}
use Rattle.pld_ast.specs.Sound.{IsSound}
use Rattle.fsm_ir.specs.declared.block.Block.{Block}
use Rattle.fsm_ir.specs.Blocks.{Piece, whole, blocks_of}
use Rattle.fsm_ir.specs.Building.{piece_in}
use Rattle.fsm_back.specs.declared.sequence.Sequence.{Sequence}
use Rattle.fsm_back.specs.Table.{stage, chained, first_in, next_in, laid, states_of, gen_hard}
use Rattle.fsm_back.specs.Sequences.{Scheduled, sequence_in, schedule_of, schedule_in, count_states, starts, laid_all, onward}
use Rattle.fsm_back.proofs.Realised.{length-chained}
use Rattle.fsm_back.proofs.Ranges.{Each, total, length_laid, IsBlock, all_made, table_in_range}

-- ---- the states of a block

one_state : (m : List Micro) (rest : List (List Micro)) (i : ℕ) (nx : Next) → chained i (m ∷ rest) nx ≡ stage m (onward (length rest) (i + 1) nx) ∷ chained (i + 1) rest nx
one_state m [] i nx = refl
one_state m (s ∷ rest) i nx = refl

pub step_states : (states : List State) (s : State) (rest : List (List Micro)) (n at : ℕ) (nx : Next) → s.next ≡ onward n at nx → n ≡ length rest → at ≡ length states + 1
    → map stage_in (states ++ s ∷ []) ++ chained (length (states ++ s ∷ [])) rest nx ≡ map stage_in states ++ chained (length states) (s.micros.items ∷ rest) nx
step_states states s rest n at nx goes_on en ea =
    let more = length-append states (s ∷ []) in
    let here : s.next ≡ onward (length rest) (length states + 1) nx = goes_on ∙ ap (λ x. onward x at nx) en ∙ ap (λ x. onward (length rest) x nx) ea in
    ap (λ l. l ++ chained (length (states ++ s ∷ [])) rest nx) (map-append stage_in states (s ∷ []))
    ∙ append_assoc (map stage_in states) (stage_in s ∷ []) (chained (length (states ++ s ∷ [])) rest nx)
    ∙ ap (λ k. map stage_in states ++ stage_in s ∷ chained k rest nx) more
    ∙ ap (λ x. map stage_in states ++ stage s.micros.items x ∷ chained (length states + 1) rest nx) here
    ∙ ap (λ l. map stage_in states ++ l) (sym (one_state s.micros.items rest (length states) nx))

-- ---- all blocks

pub step_length : (old new : List State) (b : Scheduled) (nx : Next) → map stage_in new ≡ map stage_in old ++ chained (length old) b.states nx → length new ≡ length old + length b.states
step_length old new b nx h =
    let l1 = length-map new stage_in in
    let l2 = length-map old stage_in in
    let l3 = ap length h ∙ length-append (map stage_in old) (chained (length old) b.states nx) in
    omega (arith, l1, l2, l3, length-chained (length old) b.states nx)

pub step_blocks : (old new : List State) (b : Scheduled) (rest : List Scheduled) (f : ℕ → ℕ) (nx : Next) → map stage_in new ≡ map stage_in old ++ chained (length old) b.states nx → nx ≡ next_in f b.next
    → map stage_in new ++ laid_all f (length new) rest ≡ map stage_in old ++ laid_all f (length old) (b ∷ rest)
step_blocks old new b rest f nx h e =
    ap (λ k. map stage_in new ++ laid_all f k rest) (step_length old new b nx h)
    ∙ ap (λ l. l ++ laid_all f (length old + length b.states) rest) h
    ∙ append_assoc (map stage_in old) (chained (length old) b.states nx) (laid_all f (length old + length b.states) rest)
    ∙ ap (λ x. map stage_in old ++ (chained (length old) b.states x ++ laid_all f (length old + length b.states) rest)) e

-- ---- the table

schedules_are : (blocks : List Block) → map schedule_in blocks ≡ map schedule_of (map piece_in blocks)
schedules_are [] = refl
schedules_are (b ∷ blocks) = ap (λ l. schedule_in b ∷ l) (schedules_are blocks)

count_is : (bs : List Piece) → count_states (map schedule_of bs) ≡ total bs
count_is [] = refl
count_is (b ∷ bs) = ap (λ n. length (scheduled b.micros) + n) (count_is bs)

starts_first : (bs : List Piece) (i j : ℕ) → j < length bs → slice_index (starts i (map schedule_of bs)) j ≡ i + first_in bs j
starts_first [] i j h = absurd (omega arith)
starts_first (b ∷ bs) i zero h = let e : i ≡ i + 0 = omega arith in e
starts_first (b ∷ bs) i (suc j) h = let r = starts_first bs (i + length (scheduled b.micros)) j (omega arith) in omega (arith, r)

next_same : (f g : ℕ → ℕ) (registers count : ℕ) (nx : Next) → ((j : ℕ) → j < count → f j ≡ g j) → IsNext registers count nx → next_in f nx ≡ next_in g nx
next_same f g registers count (Goto j) h k = ap Goto (h j k)
next_same f g registers count (Branch r i j) h k = ap (λ x. Branch r x (f j)) (h i k.1) ∙ ap (Branch r (g i)) (h j k.2)
next_same f g registers count End h k = refl

module _ (g : Program) (sound : IsSound g) where
  abbrev count : ℕ
  count = length (blocks_of g)

  laid_as : (f first : ℕ → ℕ) (i : ℕ) (bs : List Piece) → ((j : ℕ) → j < count → f j ≡ first j) → Each (IsBlock g sound) bs → laid_all f i (map schedule_of bs) ≡ laid first i bs
  laid_as f first i [] h k = refl
  laid_as f first i (b ∷ bs) h k =
      ap (λ x. chained i (scheduled b.micros) x ++ laid_all f (i + length (scheduled b.micros)) (map schedule_of bs)) (next_same f first (gen_hard g).registers count b.next h k.0.goes_on)
      ∙ ap (λ l. chained i (scheduled b.micros) (next_in first b.next) ++ l) (laid_as f first (i + length (scheduled b.micros)) bs h k.1)

  -- the blocks as the code has scheduled them
  pub are_scheduled : (blocks blocks' : List Block) (all : List Sequence) → map piece_in blocks ≡ blocks_of g → blocks' ≡ blocks → map sequence_in all ≡ map schedule_in blocks' → map sequence_in all ≡ map schedule_of (blocks_of g)
  are_scheduled blocks blocks' all h e k = k ∙ ap (map schedule_in) e ∙ schedules_are blocks ∙ ap (map schedule_of) h

  pub few_states : (all all' : List Sequence) → all' ≡ all → map sequence_in all ≡ map schedule_of (blocks_of g) → count_states (map sequence_in all') ≤ 65535
  few_states all all' e h =
      let few = (table_in_range g sound).few_states in
      let n = ap (λ l. count_states (map sequence_in l)) e ∙ ap count_states h ∙ count_is (blocks_of g) in
      omega (arith, few, n, length_laid (first_in (blocks_of g)) 0 (blocks_of g))

  pub states_are : (firsts firsts' : List ℕ) (all all' : List Sequence) (states : List Stage) → map sequence_in all ≡ map schedule_of (blocks_of g) → all' ≡ all → firsts ≡ starts 0 (map sequence_in all') → firsts' ≡ firsts → states ≡ laid_all (slice_index firsts') 0 (map sequence_in all) → states ≡ states_of (blocks_of g)
  states_are firsts firsts' all all' states h e k d s =
      let firsts_are = d ∙ k ∙ ap (λ l. starts 0 (map sequence_in l)) e ∙ ap (starts 0) h in
      s ∙ ap (λ x. laid_all (slice_index x) 0 (map sequence_in all)) firsts_are ∙ ap (laid_all (slice_index (starts 0 (map schedule_of (blocks_of g)))) 0) h
      ∙ laid_as (slice_index (starts 0 (map schedule_of (blocks_of g)))) (first_in (blocks_of g)) 0 (blocks_of g) (λ j lt. let r = starts_first (blocks_of g) 0 j lt in omega (arith, r)) (all_made g sound)

  pub table_is : (ins outs registers : ℕ) (arrays : List ℕ) (states : List Stage) → ins ≡ g.ins → outs ≡ g.outs → arrays ≡ g.lengths → registers ≡ (whole g).temps → states ≡ states_of (blocks_of g) → (let t : Plan = record { ins = ins; outs = outs; arrays = arrays; registers = registers; states = states } in t) ≡ gen_hard g
  table_is ins outs registers arrays states e1 e2 e3 e4 e5 =
      let make : ℕ → ℕ → List ℕ → ℕ → List Stage → Plan = λ a b c d e. record { ins = a; outs = b; arrays = c; registers = d; states = e } in
      ap (λ x. make x outs arrays registers states) e1 ∙ ap (λ x. make g.ins x arrays registers states) e2 ∙ ap (λ x. make g.ins g.outs x registers states) e3 ∙ ap (λ x. make g.ins g.outs g.lengths x states) e4 ∙ ap (make g.ins g.outs g.lengths (whole g).temps) e5
