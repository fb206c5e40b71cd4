-- An image's core comes to no port but its own.
use Rattle.std.proofs.Common.{◌≡◌, ℕ, zero, suc, ◌+◌, ◌-◌, ◌*◌, ◌/◌, ◌%◌, ◌<◌, ◌≤◌, ◌&&◌, Bool, true, false, List, [], ◌∷◌, map, refl, ap, sym, ◌∙◌, arith, Option, Some, None, subst, slice_get}
use Rattle.std.specs.Prelude.{ℤ, if◌then◌else◌, nat_eq, nat_le, nat_lt, All}
use Rattle.std.proofs.lemmas.Bool.Decides.{nat_tests}
use Rattle.std.proofs.lemmas.Option.{slice_get_within, get_or_from_slice_get}
use Rattle.std.proofs.lemmas.List.Elements.{All-get_or}
use Rattle.pld_base.specs.declared.event.Event.{Event}
use Rattle.pld_base.specs.Machine.{Move, Steps, Reads, Writes, Stops}
use Rattle.rv_isa.specs.declared.instr.Instr.{Instr}
use Rattle.rv_isa.specs.declared.instr.Instr.TheVariants.{Lui, Auipc, Jal, Jalr, Beq, Bne, Blt, Bge, Bltu, Bgeu, Lb, Lh, Lw, Lbu, Lhu, Sb, Sh, Sw, Addi, Slti, Sltiu, Xori, Ori, Andi, Slli, Srli, Srai, Add, Sub, Sll, Slt, Sltu, Xor, Srl, Sra, Or, And, Mul, Mulh, Mulhsu, Mulhu, Div, Divu, Rem, Remu, Fence, Ecall, Ebreak}
use Rattle.rv_core.specs.Bytes.{is_in_ram, byte_found, half_found, sign_extended_if}
use Rattle.rv_core.specs.Code.{instr_or_ecall}
use Rattle.rv_core.specs.Machine as soft
use Rattle.rv_core.specs.Machine.{Where, InRam, AtPort, Nowhere, Code, place_of, load, store, gives_if, branch_if, branched, act, act_if, fetched, soft_step, reg, address_of, next, jump}
use Rattle.pld_base.specs.Words.{less_signed, less_unsigned}
use Rattle.rv_core.specs.Process as soft_process
use Rattle.fsm_core.specs.declared.micro.Micro.{Micro}
use Rattle.fsm_core.specs.declared.micro.Fields.{Fields}
use Rattle.fsm_core.specs.declared.micro.Fields.TheVariants as fields
use Rattle.fsm_core.specs.Fields.{fields_of}
use Rattle.fsm_core.specs.Shapes.{Cells, Stream, Quiet, Takes, Gives, shape_of, stream_of, stream_in, or_else}
use Rattle.fsm_core.specs.Machine as hard
use Rattle.fsm_core.specs.Process as hard_process
use Rattle.fsm_core.specs.Table.{Plan, IsMicroBy, IsMicro, IsStage, IsTable}
use Rattle.fsm_core.proofs.StreamKinds.{stream_fields, stream_by_fields}
use Rattle.image_form.specs.Spelling.{Form, IsForm}
use Rattle.image_form.specs.Spelling as form
use Rattle.pld_image.specs.Cores as cores
use Rattle.pld_image.specs.Cores.{Core, lifted}
use Rattle.hot_swap.specs.Paths.{PathBy, Path, Leads}
use Rattle.pld_image.specs.Ports.{KeepsPorts}

-- a move at a port below these counts, or at none
abbrev MoveBelow : {S : Type 0} → (ins outs : ℕ) → Move S → Type 0
MoveBelow ins outs (Steps after) = Unit {0}
MoveBelow ins outs (Reads port after) = port < ins
MoveBelow ins outs (Writes port word after) = port < outs
MoveBelow ins outs Stops = Unit {0}

-- A core that moves as its machine does stays a core of machines
module _ {S : Type 0} (core : S → Core) (own : S → Move S) (told : (s : S) → cores.next (core s) ≡ lifted core (own s)) where
  went : (mv : Move S) (G : Core → ℕ → List Event → Type 0) (R : Type 0) (n : ℕ) (es : List Event) → ((s : S) (m : ℕ) (rest : List Event) → G (core s) m rest → R) → PathBy (lifted core mv) G n es → R
  went (Steps after) G R n es f p = f after p.0 es p.2
  went (Reads port after) G R n es f p = f (after p.0) n p.1 p.3
  went (Writes port word after) G R n es f p = f after n p.0 p.2
  went Stops G R n es f p = absurd p

  stays : (k : ℕ) (s : S) (n : ℕ) (es : List Event) (d : Core) → Path cores.next k (core s) n es d → (t : S) × (d ≡ core t)
  stays zero s n es d p = (s, sym p.0)
  stays (suc k) s n es d p =
      went (own s) (λ a m rest. Path cores.next k a m rest d) ((t : S) × (d ≡ core t)) n es (λ t m rest q. stays k t m rest d q)
      (subst (λ (mv : Move Core). PathBy mv (λ a m rest. Path cores.next k a m rest d) n es) (told s) p)

  below_read : (ins outs : ℕ) (mv : Move S) (j : ℕ) (then_ : ℕ → Core) → MoveBelow ins outs mv → lifted core mv ≡ Reads j then_ → j < ins
  below_read ins outs (Steps after) j then_ b e = absurd (let x : Steps (core after) ≡ Reads j then_ = e in cc)
  below_read ins outs (Reads port after) j then_ b e = (let x : port ≡ j = cc in subst (λ (n : ℕ). n < ins) x b)
  below_read ins outs (Writes port word after) j then_ b e = absurd (let x : Writes port word (core after) ≡ Reads j then_ = e in cc)
  below_read ins outs Stops j then_ b e = absurd (let x : Stops ≡ Reads j then_ = e in cc)

  below_write : (ins outs : ℕ) (mv : Move S) (k w : ℕ) (then_ : Core) → MoveBelow ins outs mv → lifted core mv ≡ Writes k w then_ → k < outs
  below_write ins outs (Steps after) k w then_ b e = absurd (let x : Steps (core after) ≡ Writes k w then_ = e in cc)
  below_write ins outs (Reads port after) k w then_ b e = absurd (let x : Reads port (λ v. core (after v)) ≡ Writes k w then_ = e in cc)
  below_write ins outs (Writes port word after) k w then_ b e = (let x : port ≡ k = cc in subst (λ (n : ℕ). n < outs) x b)
  below_write ins outs Stops k w then_ b e = absurd (let x : Stops ≡ Writes k w then_ = e in cc)

  module _ (ins outs : ℕ) (below : (s : S) → MoveBelow ins outs (own s)) (s : S) (d : Core) (n : ℕ) (es : List Event) (leads : Leads cores.next (core s) n es d) where
    there : (t : S) × (d ≡ core t)
    there = stays leads.moves s n es d leads.path

    moves_so : cores.next d ≡ lifted core (own there.0)
    moves_so = ap cores.next there.1 ∙ told there.0

    reads_below : (j : ℕ) (then_ : ℕ → Core) → cores.next d ≡ Reads j then_ → j < ins
    reads_below j then_ e = below_read ins outs (own there.0) j then_ (below there.0) (sym moves_so ∙ e)

    writes_below : (k w : ℕ) (then_ : Core) → cores.next d ≡ Writes k w then_ → k < outs
    writes_below k w then_ e = below_write ins outs (own there.0) k w then_ (below there.0) (sym moves_so ∙ e)

-- The softcore.

abbrev StepBelow : (ins outs : ℕ) → soft.Step → Type 0
StepBelow ins outs (soft.Went m) = Unit {0}
StepBelow ins outs (soft.AtRead port rd) = port < ins
StepBelow ins outs (soft.AtWrite port word) = port < outs
StepBelow ins outs soft.Ended = Unit {0}
StepBelow ins outs soft.Trapped = Unit {0}

abbrev PlaceBelow : ℕ → Where → Type 0
PlaceBelow count (InRam w) = Unit {0}
PlaceBelow count (AtPort p) = p < count
PlaceBelow count Nowhere = Unit {0}

at_port : (base count address : ℕ) → base ≤ address → address < base + 4 * count → (address - base) / 4 < count
at_port base count address low high = omega arith

place_by : (base count address : ℕ) (a b low high : Bool) → nat_le base address ≡ low → nat_lt address (base + 4 * count) ≡ high
    → PlaceBelow count (if a then (if b then InRam ((address - 0x20000) / 4) else (if low && high then AtPort ((address - base) / 4) else Nowhere)) else Nowhere)
place_by base count address false b low high e f = tt
place_by base count address true true low high e f = tt
place_by base count address true false false high e f = tt
place_by base count address true false true false e f = tt
place_by base count address true false true true e f = (let l : base ≤ address = grind (arith, nat_tests) in let h : address < base + 4 * count = grind (arith, nat_tests) in at_port base count address l h)

place_below : (base count address : ℕ) → PlaceBelow count (place_of base count address)
place_below base count address = place_by base count address (nat_eq (address % 4) 0) (nat_le 0x20000 address && nat_lt address 0x30000) (nat_le base address) (nat_lt address (base + 4 * count)) refl refl

load_below : (ins outs : ℕ) (at : Where) (m : soft.Machine) (rd : ℕ) → PlaceBelow ins at → StepBelow ins outs (load at m rd)
load_below ins outs (InRam w) m rd h = tt
load_below ins outs (AtPort p) m rd h = h
load_below ins outs Nowhere m rd h = tt

store_below : (ins outs : ℕ) (at : Where) (m : soft.Machine) (v : ℕ) → PlaceBelow outs at → StepBelow ins outs (store at m v)
store_below ins outs (InRam w) m v h = tt
store_below ins outs (AtPort p) m v h = h
store_below ins outs Nowhere m v h = tt

gives_if_below : (ins outs : ℕ) (m : soft.Machine) (rd : ℕ) (o : Option ℕ) → StepBelow ins outs (gives_if m rd o)
gives_if_below ins outs m rd None = tt
gives_if_below ins outs m rd (Some v) = tt

branch_below : (ins outs : ℕ) (holds : Bool) (imm : ℤ) (m : soft.Machine) → StepBelow ins outs (branch_if holds imm m)
branch_below ins outs true imm m = tt
branch_below ins outs false imm m = tt

branched_below : (ins outs : ℕ) (same : Bool) (m : soft.Machine) (imm : ℤ) → StepBelow ins outs (if same then soft.Went (next m) else soft.Went (jump m imm))
branched_below ins outs true m imm = tt
branched_below ins outs false m imm = tt

either_below : (ins outs : ℕ) (fits : Bool) (m : soft.Machine) → StepBelow ins outs (if fits then soft.Went m else soft.Trapped)
either_below ins outs true m = tt
either_below ins outs false m = tt

act_below : (ins outs : ℕ) (i : Instr) (m : soft.Machine) → StepBelow ins outs (act ins outs i m)
act_below ins outs (Lui rd imm) m = tt
act_below ins outs (Auipc rd imm) m = tt
act_below ins outs (Jal rd imm) m = tt
act_below ins outs (Jalr rd a imm) m = tt
act_below ins outs (Beq a b imm) m = branch_below ins outs (nat_eq (reg m a) (reg m b)) imm m
act_below ins outs (Bne a b imm) m = branched_below ins outs (nat_eq (reg m a) (reg m b)) m imm
act_below ins outs (Blt a b imm) m = branch_below ins outs (nat_eq (less_signed (reg m a) (reg m b)) 1) imm m
act_below ins outs (Bge a b imm) m = branch_below ins outs (nat_eq (less_signed (reg m a) (reg m b)) 0) imm m
act_below ins outs (Bltu a b imm) m = branch_below ins outs (nat_eq (less_unsigned (reg m a) (reg m b)) 1) imm m
act_below ins outs (Bgeu a b imm) m = branch_below ins outs (nat_eq (less_unsigned (reg m a) (reg m b)) 0) imm m
act_below ins outs (Lb rd a imm) m = gives_if_below ins outs m rd (sign_extended_if 8 (byte_found m.ram (address_of m a imm)))
act_below ins outs (Lh rd a imm) m = gives_if_below ins outs m rd (sign_extended_if 16 (half_found m.ram (address_of m a imm)))
act_below ins outs (Lw rd a imm) m = load_below ins outs (place_of 0x8000_0000 ins (address_of m a imm)) m rd (place_below 0x8000_0000 ins (address_of m a imm))
act_below ins outs (Lbu rd a imm) m = gives_if_below ins outs m rd (byte_found m.ram (address_of m a imm))
act_below ins outs (Lhu rd a imm) m = gives_if_below ins outs m rd (half_found m.ram (address_of m a imm))
act_below ins outs (Sb a b imm) m = either_below ins outs (is_in_ram (address_of m a imm)) _
act_below ins outs (Sh a b imm) m = either_below ins outs (nat_eq (address_of m a imm % 2) 0 && is_in_ram (address_of m a imm)) _
act_below ins outs (Sw a b imm) m = store_below ins outs (place_of 0x8000_0100 outs (address_of m a imm)) m (reg m b) (place_below 0x8000_0100 outs (address_of m a imm))
act_below ins outs (Addi rd a imm) m = tt
act_below ins outs (Slti rd a imm) m = tt
act_below ins outs (Sltiu rd a imm) m = tt
act_below ins outs (Xori rd a imm) m = tt
act_below ins outs (Ori rd a imm) m = tt
act_below ins outs (Andi rd a imm) m = tt
act_below ins outs (Slli rd a by) m = tt
act_below ins outs (Srli rd a by) m = tt
act_below ins outs (Srai rd a by) m = tt
act_below ins outs (Add rd a b) m = tt
act_below ins outs (Sub rd a b) m = tt
act_below ins outs (Sll rd a b) m = tt
act_below ins outs (Slt rd a b) m = tt
act_below ins outs (Sltu rd a b) m = tt
act_below ins outs (Xor rd a b) m = tt
act_below ins outs (Srl rd a b) m = tt
act_below ins outs (Sra rd a b) m = tt
act_below ins outs (Or rd a b) m = tt
act_below ins outs (And rd a b) m = tt
act_below ins outs (Mul rd a b) m = tt
act_below ins outs (Mulh rd a b) m = tt
act_below ins outs (Mulhsu rd a b) m = tt
act_below ins outs (Mulhu rd a b) m = tt
act_below ins outs (Div rd a b) m = tt
act_below ins outs (Divu rd a b) m = tt
act_below ins outs (Rem rd a b) m = tt
act_below ins outs (Remu rd a b) m = tt
act_below ins outs (Fence rd a imm) m = tt
act_below ins outs Ecall m = tt
act_below ins outs Ebreak m = tt

act_if_below : (ins outs : ℕ) (o : Option Instr) (m : soft.Machine) → StepBelow ins outs (act_if ins outs o m)
act_if_below ins outs None m = tt
act_if_below ins outs (Some i) m = act_below ins outs i m

soft_move_below : (ins outs : ℕ) (s : soft.Step) (m : soft.Machine) → StepBelow ins outs s → MoveBelow ins outs (soft_process.move_of s m)
soft_move_below ins outs (soft.Went n) m h = tt
soft_move_below ins outs (soft.AtRead p rd) m h = h
soft_move_below ins outs (soft.AtWrite p w) m h = h
soft_move_below ins outs soft.Ended m h = tt
soft_move_below ins outs soft.Trapped m h = tt

soft_below : (code : Code) (ins outs : ℕ) (m : soft.Machine) → MoveBelow ins outs (soft_process.soft_next code ins outs m)
soft_below code ins outs m = soft_move_below ins outs (soft_step code ins outs m) m (act_if_below ins outs (fetched code m.pc) m)

soft_moves : (code : List Instr) (ins outs : ℕ) (m : soft.Machine) → cores.next (cores.Soft code ins outs m) ≡ lifted (cores.Soft code ins outs) (soft_process.soft_next (slice_get code) ins outs m)
unfolding cores.next
soft_moves code ins outs m = refl

-- The hardware page.

abbrev StreamBelow : (ins outs : ℕ) → Stream → Type 0
StreamBelow ins outs Quiet = Unit {0}
StreamBelow ins outs (Takes p) = p < ins
StreamBelow ins outs (Gives p a) = p < outs

fields_below : (t : Plan) (f : Fields) (m : Micro) → IsMicroBy f t m → StreamBelow t.ins t.outs (stream_fields f m)
fields_below t fields.Sets m h = tt
fields_below t fields.Sets1 m h = tt
fields_below t fields.Sets2 m h = tt
fields_below t fields.Loads m h = tt
fields_below t fields.Stores m h = tt
fields_below t fields.Reads m h = h.3
fields_below t fields.Writes m h = h.3

or_else_below : (ins outs : ℕ) (a b : Stream) → StreamBelow ins outs a → StreamBelow ins outs b → StreamBelow ins outs (or_else a b)
or_else_below ins outs Quiet b h k = k
or_else_below ins outs (Takes p) b h k = h
or_else_below ins outs (Gives p a) b h k = h

stream_below : (t : Plan) (ms : List Micro) → ((i : ℕ) (m : Micro) → slice_get ms i ≡ Some m → IsMicro t m) → StreamBelow t.ins t.outs (stream_in ms)
stream_below t [] h = tt
stream_below t (m ∷ ms) h =
    or_else_below t.ins t.outs (stream_of (shape_of m)) (stream_in ms)
    (subst (λ (s : Stream). StreamBelow t.ins t.outs s) (sym (stream_by_fields m)) (fields_below t (fields_of m.op) m (h 0 m refl)))
    (stream_below t ms (λ i n e. h (suc i) n e))

abbrev HardBelow : (ins outs : ℕ) → hard.Step → Type 0
HardBelow ins outs (hard.Went m) = Unit {0}
HardBelow ins outs (hard.AtRead port) = port < ins
HardBelow ins outs (hard.AtWrite port word) = port < outs
HardBelow ins outs hard.Ended = Unit {0}

by_stream_below : (ins outs : ℕ) (a : Stream) (l : List ℕ) (s : hard.Stage) (c : Cells) → StreamBelow ins outs a → HardBelow ins outs (hard.by_stream a l s c)
by_stream_below ins outs Quiet l s c h = tt
by_stream_below ins outs (Takes p) l s c h = h
by_stream_below ins outs (Gives p a) l s c h = h

all_at : {A : Type 0} (P : A → Type 0) (xs : List A) (i : ℕ) (x : A) → All P xs → slice_get xs i ≡ Some x → P x
all_at P xs i x all e = subst P (get_or_from_slice_get xs i x x e) (All-get_or P xs i x (slice_get_within xs i x e) all)

if_over : (ins outs : ℕ) (over : Bool) (s : hard.Step) → HardBelow ins outs s → HardBelow ins outs (if over then hard.Ended else s)
if_over ins outs true s h = tt
if_over ins outs false s h = h

stage_below : (t : Plan) (s : hard.Stage) (c : Cells) → IsStage t s → HardBelow t.ins t.outs (hard.stage_step t.arrays s c)
stage_below t s c h =
    if_over t.ins t.outs (hard.is_over s.micros s.next) (hard.by_stream (stream_in s.micros) t.arrays s c)
    (by_stream_below t.ins t.outs (stream_in s.micros) t.arrays s c (stream_below t s.micros (λ i m e. all_at (IsMicro t) s.micros i m h.micros e)))

found_below : (t : Plan) (o : Option hard.Stage) (c : Cells) → ((s : hard.Stage) → o ≡ Some s → IsStage t s) → HardBelow t.ins t.outs (hard.step_at t.arrays o c)
found_below t None c h = tt
found_below t (Some s) c h = stage_below t s c (h s refl)

at_below : (t : Plan) (at : Option ℕ) (c : Cells) → IsTable t → HardBelow t.ins t.outs (hard.step_at t.arrays (hard.stage_at (slice_get t.states) at) c)
at_below t None c h = tt
at_below t (Some i) c h = found_below t (slice_get t.states i) c (λ s e. all_at (IsStage t) t.states i s h.states e)

hard_move_below : (code : hard.Code) (l : List ℕ) (ins outs : ℕ) (s : hard.Step) (m : hard.Machine) → HardBelow ins outs s → MoveBelow ins outs (hard_process.move_of code l s m)
hard_move_below code l ins outs (hard.Went n) m h = tt
hard_move_below code l ins outs (hard.AtRead p) m h = h
hard_move_below code l ins outs (hard.AtWrite p w) m h = h
hard_move_below code l ins outs hard.Ended m h = tt

hard_below : (t : Plan) → IsTable t → (m : hard.Machine) → MoveBelow t.ins t.outs (hard_process.hard_next (slice_get t.states) t.arrays m)
hard_below t h m = hard_move_below (slice_get t.states) t.arrays t.ins t.outs (hard.hard_step (slice_get t.states) t.arrays m) m (at_below t m.at m.cells h)

hard_moves : (t : Plan) (m : hard.Machine) → cores.next (cores.Hard t m) ≡ lifted (cores.Hard t) (hard_process.hard_next (slice_get t.states) t.arrays m)
unfolding cores.next
hard_moves t m = refl

soft_loaded : (ins outs : ℕ) (code : List ℕ) → cores.load (form.Soft ins outs code) ≡ cores.Soft (map instr_or_ecall code) ins outs soft.at_start
unfolding cores.load
soft_loaded ins outs code = refl

hard_loaded : (t : Plan) → cores.load (form.Hard t) ≡ cores.Hard t hard.at_start
unfolding cores.load
hard_loaded t = refl

-- BOTH KINDS of image keep to their ports
pub keeps_ports : (f : Form) → IsForm f → KeepsPorts f
keeps_ports (form.Soft ins outs code) h = record {
  reads = λ d n es j then_ leads e. reads_below (cores.Soft (map instr_or_ecall code) ins outs) (soft_process.soft_next (slice_get (map instr_or_ecall code)) ins outs) (soft_moves (map instr_or_ecall code) ins outs) ins outs (soft_below (slice_get (map instr_or_ecall code)) ins outs)
      soft.at_start d n es (subst (λ (c : Core). Leads cores.next c n es d) (soft_loaded ins outs code) leads) j then_ e;
  writes = λ d n es k w then_ leads e. writes_below (cores.Soft (map instr_or_ecall code) ins outs) (soft_process.soft_next (slice_get (map instr_or_ecall code)) ins outs) (soft_moves (map instr_or_ecall code) ins outs) ins outs (soft_below (slice_get (map instr_or_ecall code)) ins outs)
      soft.at_start d n es (subst (λ (c : Core). Leads cores.next c n es d) (soft_loaded ins outs code) leads) k w then_ e;
}
keeps_ports (form.Hard t) h = record {
  reads = λ d n es j then_ leads e. reads_below (cores.Hard t) (hard_process.hard_next (slice_get t.states) t.arrays) (hard_moves t) t.ins t.outs (hard_below t h)
      hard.at_start d n es (subst (λ (c : Core). Leads cores.next c n es d) (hard_loaded t) leads) j then_ e;
  writes = λ d n es k w then_ leads e. writes_below (cores.Hard t) (hard_process.hard_next (slice_get t.states) t.arrays) (hard_moves t) t.ins t.outs (hard_below t h)
      hard.at_start d n es (subst (λ (c : Core). Leads cores.next c n es d) (hard_loaded t) leads) k w then_ e;
}
