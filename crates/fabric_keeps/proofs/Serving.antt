-- The ports at which pages and the host read and write have rows.
use Rattle.std.proofs.Common.{◌≡◌, ℕ, ◌+◌, ◌<◌, true, List, [], ◌++◌, ap, sym, ◌∙◌, Option, Some, None, IsSome, subst}
use Rattle.std.specs.Prelude.{is_some}
use Rattle.pld_base.specs.declared.event.PortNo.{PortNo}
use Rattle.pld_base.specs.declared.event.Event.{Event}
use Rattle.pld_base.specs.Channels.{OperatorNode, family_of}
use Rattle.net_switch.specs.declared.packet.Row.{Row}
use Rattle.leaf_port.specs.Leaf.{row_of}
use Rattle.channel_account.specs.Network.{row_to}
use Rattle.pld_image.specs.declared.page.TurnEnd.{TurnEnd}
use Rattle.pld_image.specs.declared.page.TurnEnd.TheVariants.{AtRead, AtWrite}
use Rattle.fabric_run.specs.Turns.{turn}
use Rattle.fabric_run.specs.World.{Setup, State, PageState}
use Rattle.fabric_keeps.specs.Links.{is_linked_in, is_linked_out, IsSound, IsRunning}
use Rattle.hot_swap.specs.Paths.{Leads}
use Rattle.fabric_keeps.specs.Paths.{IsTraced}
use Rattle.fabric_keeps.specs.Whole.{IsWorld, Configuring, Running, IsWhole}
use Rattle.fabric_keeps.proofs.Accounting.{LinkedIn, LinkedOut, linked_in, linked_out}
use Rattle.hot_swap.proofs.Walks.{leads_append}
use Rattle.fabric_keeps.proofs.Walks.{turn_leads, turn_ends, EndsAt}
use Rattle.fabric_keeps.proofs.Whole.{HasPath, has_path, ports_fit}
use Rattle.pld_image.specs.Cores.{next}

none_some : {X : Type 0} (x : X) → None ≡ Some x → ⊥
none_some x e = cc

-- while a page is out, the new rows stand
pub out_running : {S : Type 0} (setup : Setup S) (st : State S) (i seat : ℕ) (p : PageState) → IsWorld setup st → st.pages i ≡ Some p → p.holder ≡ Some seat → IsRunning setup st
out_running setup st i seat p (Configuring busy h) e held = absurd (none_some seat (sym (h.home i p e) ∙ held))
out_running setup st i seat p (Running h) e held = h

some_row : (o : Option Row) (a b : ℕ) → o ≡ row_to a b → IsSome o
some_row o a b e = ap (λ (x : Option Row). is_some x) e

in_row : {S : Type 0} (setup : Setup S) (st : State S) (i j : ℕ) → IsRunning setup st → i < setup.size → is_linked_in setup.tables i j ≡ true → (j < 8) × IsSome (row_of (st.leaves i) (8 + j))
in_row setup st i j h l linked =
    let k : LinkedIn setup.tables i j = linked_in setup.tables i j linked in
    (k.link.inn, some_row (row_of (st.leaves i) (8 + j)) k.from k.out ((h.leaf i l).rows (8 + j) ∙ k.row))

out_row : {S : Type 0} (setup : Setup S) (st : State S) (i k : ℕ) → IsRunning setup st → i < setup.size → is_linked_out setup.tables i k ≡ true → (k < 8) × IsSome (row_of (st.leaves i) k)
out_row setup st i k h l linked =
    let o : LinkedOut setup.tables i k = linked_out setup.tables i k linked in
    (o.link.out, some_row (row_of (st.leaves i) k) o.to o.inn ((h.leaf i l).rows k ∙ o.row))

reads_fit : {S : Type 0} (setup : Setup S) (st : State S) → IsSound setup → IsTraced setup st → (i : ℕ) (p : PageState) (k : PortNo) → st.pages i ≡ Some p → (turn p.core).end ≡ AtRead k → is_linked_in setup.tables i k.0 ≡ true
reads_fit setup st sound t i p k e end =
    let h : HasPath setup st i p = has_path setup st i p e t in
    let es : List Event = family_of st.history (OperatorNode (setup.number i)) in
    let l : Leads next h.core (p.steps + (turn p.core).steps) (es ++ []) (turn p.core).core = leads_append next h.core p.core (turn p.core).core p.steps (turn p.core).steps es [] h.path (turn_leads p.core) in
    let n : EndsAt (AtRead k) (turn p.core).core = subst (λ (x : TurnEnd). EndsAt x (turn p.core).core) end (turn_ends p.core) in
    sound.page_reads i h.core (turn p.core).core _ _ k.0 n.0 h.there l n.1

-- the port at which a page that is out comes to stand
pub read_has_row : {S : Type 0} (setup : Setup S) (st : State S) (i seat : ℕ) (p : PageState) (k : PortNo) → IsSound setup → IsWhole setup st → i < setup.size → st.pages i ≡ Some p → p.holder ≡ Some seat → (turn p.core).end ≡ AtRead k → (k.0 < 8) × IsSome (row_of (st.leaves i) (8 + k.0))
read_has_row setup st i seat p k sound w l e held end =
    in_row setup st i k.0 (out_running setup st i seat p w.world e held) l (reads_fit setup st sound w.traced i p k e end)

pub write_has_row : {S : Type 0} (setup : Setup S) (st : State S) (i seat : ℕ) (p : PageState) (k : PortNo) (word : ℕ) → IsSound setup → IsWhole setup st → i < setup.size → st.pages i ≡ Some p → p.holder ≡ Some seat → (turn p.core).end ≡ AtWrite k word → (k.0 < 8) × IsSome (row_of (st.leaves i) k.0)
write_has_row setup st i seat p k word sound w l e held end =
    out_row setup st i k.0 (out_running setup st i seat p w.world e held) l (ports_fit setup st sound w.traced i p k word e end)

-- the host's ports
pub input_has_row : {S : Type 0} (setup : Setup S) (st : State S) (k : ℕ) → IsSound setup → IsRunning setup st → k < setup.inputs → (k < 8) × IsSome (row_of (st.leaves 0) k)
input_has_row setup st k sound h l = out_row setup st 0 k h sound.some (sound.inputs k l)

pub output_has_row : {S : Type 0} (setup : Setup S) (st : State S) (j : ℕ) → IsSound setup → IsRunning setup st → j < setup.outputs → (j < 8) × IsSome (row_of (st.leaves 0) (8 + j))
output_has_row setup st j sound h l = in_row setup st 0 j h sound.some (sound.gets j l)
