-- Where nothing is left to move, but for pages.
use Rattle.std.proofs.Common.{◌≡◌, ℕ, ◌<◌, not, true, false, cond, List, [], ◌∷◌, length, refl, arith}
use Rattle.std.specs.List.{sum_by, count_by}
use Rattle.std.proofs.lemmas.List.Sums.{sum_by-cons}
use Rattle.net_switch.specs.declared.packet.Packet.{Packet}
use Rattle.leaf_port.specs.declared.tables.ConfigEntry.{ConfigEntry}
use Rattle.leaf_port.specs.Leaf.{is_idle}
use Rattle.fabric_run.specs.World.{Setup, State, all_to, is_config, unaccepted, is_configured}
use Rattle.fabric_run.specs.Replay.{is_none_left, is_page_still, can_send, can_receive, is_still}
use Rattle.fabric_keeps.proofs.Base.{both, and_of, all_below, below_all, same_eq}
use Rattle.fabric_keeps.proofs.Steps.{HostRests}

-- lists with nothing in them
pub none_sum : (ps : List Packet) (f : Packet → ℕ) → is_none_left ps ≡ true → sum_by f ps ≡ 0
none_sum [] f e = refl
none_sum (p ∷ ps) f e = absurd (let x : false ≡ true = e in cc)

pub sum_none : (ps : List Packet) → sum_by (λ (p : Packet). 1) ps ≡ 0 → is_none_left ps ≡ true
sum_none [] e = refl
sum_none (p ∷ ps) e = absurd (omega (arith, sum_by-cons (λ (q : Packet). 1) p ps))

-- all that is still but the pages
pub record Calm {S : Type 0} (setup : Setup S) (st : State S) : Type 0 where
  pub entries : is_none_left st.entries ≡ true
  pub packets : is_none_left (setup.net.under st.carrier) ≡ true
  pub idle : (i : ℕ) → i < setup.size → is_idle (st.leaves i) ≡ true
  pub hosts : HostRests setup st

abbrev pub PagesStill : {S : Type 0} → Setup S → State S → Type 0
PagesStill setup st = (i : ℕ) → i < setup.size → is_page_still (st.leaves i) (st.pages i) ≡ true

pub still_of : {S : Type 0} (setup : Setup S) (st : State S) → Calm setup st → PagesStill setup st → is_still setup st ≡ true
still_of setup st c p =
    and_of _ _ c.entries (and_of _ _ c.packets (and_of _ _ (below_all setup.size (λ i. is_idle (st.leaves i)) c.idle)
    (and_of _ _ (below_all setup.inputs (λ k. not (can_send setup st k)) c.hosts.inputs) (and_of _ _ (below_all setup.outputs (λ j. not (can_receive st j)) c.hosts.outputs)
    (below_all setup.size (λ i. is_page_still (st.leaves i) (st.pages i)) p)))))

pub calm_of : {S : Type 0} (setup : Setup S) (st : State S) → is_still setup st ≡ true → Calm setup st × PagesStill setup st
calm_of setup st e =
    let a = both (is_none_left st.entries) _ e in
    let b = both (is_none_left (setup.net.under st.carrier)) _ a.1 in
    let c = both (all_to setup.size (λ i. is_idle (st.leaves i))) _ b.1 in
    let d = both (all_to setup.inputs (λ k. not (can_send setup st k))) _ c.1 in
    let f = both (all_to setup.outputs (λ j. not (can_receive st j))) _ d.1 in (
      record {
        entries = a.0;
        packets = b.0;
        idle = all_below setup.size (λ i. is_idle (st.leaves i)) c.0;
        hosts = record { inputs = all_below setup.inputs (λ k. not (can_send setup st k)) d.0; outputs = all_below setup.outputs (λ j. not (can_receive st j)) f.0 };
      },
      all_below setup.size (λ i. is_page_still (st.leaves i) (st.pages i)) f.1,
    )

pub configured : {S : Type 0} (setup : Setup S) (st : State S) → is_none_left st.entries ≡ true → is_none_left (setup.net.under st.carrier) ≡ true → is_configured setup st ≡ true
configured setup st e f =
    let z : count_by is_config (setup.net.under st.carrier) ≡ 0 = none_sum (setup.net.under st.carrier) (λ (p : Packet). cond (is_config p) 1 0) f in
    same_eq (unaccepted setup st) 0 (omega (arith, no_entries st.entries e, z))
  where
    no_entries : (es : List ConfigEntry) → is_none_left es ≡ true → length es ≡ 0
    no_entries [] h = refl
    no_entries (x ∷ xs) h = absurd (let y : false ≡ true = h in cc)
