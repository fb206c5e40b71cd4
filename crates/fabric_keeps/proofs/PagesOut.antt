-- A page that is out stays as it is until its Give.
use Rattle.std.proofs.Common.{◌≡◌, ◌≢◌, ℕ, Bool, true, false, List, [], ◌∷◌, refl, ap, sym, ◌∙◌, Option, Some, None, inl, inr}
use Rattle.std.specs.Prelude.{◌==◌, nat_lt, is_none}
use Rattle.leaf_port.specs.Leaf.{next_word, can_write}
use Rattle.pld_image.specs.declared.page.TurnEnd.{TurnEnd}
use Rattle.pld_image.specs.declared.page.TurnEnd.TheVariants.{AtRead, AtWrite, Ended, Limit}
use Rattle.fabric_run.specs.Turns.{turn}
use Rattle.fabric_run.specs.World.{Setup, State, PageState, is_configured, after_net, ready, read_given, write_given, given_at, given, out_to}
use Rattle.fabric_run.specs.Replay.{is_ready, is_held_by, is_seat, goes_on, may, after, run, IsLegalFrom}
use Rattle.fabric_run.specs.declared.entry.Entry.{Entry}
use Rattle.fabric_run.specs.declared.entry.Entry.TheVariants.{Take, Give, Net}
use Rattle.fabric_keeps.specs.Holding.{IsOutWith, GivesNone}
use Rattle.fabric_keeps.proofs.Base.{both, eq_same, placed_other}
use Rattle.fabric_keeps.proofs.Base.{same_or}
use Rattle.fabric_keeps.proofs.Steps.{ready_keeps}

some_same : {X : Type 0} (x y : X) → Some x ≡ Some y → x ≡ y
some_same x y e = cc

none_some : {X : Type 0} (x : X) → None ≡ Some x → ⊥
none_some x e = cc

-- an entry at another leaf
given_elsewhere : {S : Type 0} (setup : Setup S) (st : State S) (i leaf : ℕ) (o : Option PageState) → leaf ≢ i → (given setup st i o).pages leaf ≡ st.pages leaf
given_elsewhere setup st i leaf None n = refl
given_elsewhere setup st i leaf (Some p) n = at (turn p.core).end
  where
    read : (j : ℕ) (o : Option ℕ) → (read_given setup st i p (turn p.core) j o).pages leaf ≡ st.pages leaf
    read j None = placed_other st.pages i _ leaf n
    read j (Some w) = placed_other st.pages i _ leaf n

    write : (k w : ℕ) (b : Bool) → (write_given setup st i p (turn p.core) k w b).pages leaf ≡ st.pages leaf
    write k w false = placed_other st.pages i _ leaf n
    write k w true = placed_other st.pages i _ leaf n

    at : (end : TurnEnd) → (given_at setup st i p (turn p.core) end).pages leaf ≡ st.pages leaf
    at (AtRead j) = read j.0 (next_word (st.leaves i) j.0)
    at (AtWrite k w) = write k.0 w (can_write (st.leaves i) k.0)
    at Ended = placed_other st.pages i _ leaf n
    at Limit = placed_other st.pages i _ leaf n

held_ready : (o : Option PageState) (p : PageState) (seat : ℕ) → o ≡ Some p → p.holder ≡ Some seat → is_ready o ≡ true → ⊥
held_ready None p seat e h r = none_some p e
held_ready (Some q) p seat e h r =
    let s : q.holder ≡ Some seat = ap (λ (x : PageState). x.holder) (some_same q p e) ∙ h in
    let z : is_none q.holder ≡ true = (both (is_none q.holder) _ r).0 in
    let y : false ≡ true = sym (ap (λ (x : Option ℕ). is_none x) s) ∙ z in cc

held_by : (o : Option PageState) (p : PageState) (seat other : ℕ) → o ≡ Some p → p.holder ≡ Some seat → is_held_by other o ≡ true → seat ≡ other
held_by None p seat other e h r = absurd (none_some p e)
held_by (Some q) p seat other e h r =
    let s : q.holder ≡ Some seat = ap (λ (x : PageState). x.holder) (some_same q p e) ∙ h in
    eq_same seat other (sym (ap (is_seat other) s) ∙ r)

pub entry_holds : {S : Type 0} (setup : Setup S) (st : State S) (e : Entry) (seat leaf : ℕ) (p : PageState) → may setup st e ≡ true → e ≢ Give seat leaf → IsOutWith st seat leaf p → IsOutWith (after setup st e) seat leaf p
entry_holds setup st (Take other i) seat leaf p m n h =
    elim (same_or leaf i (leaf == i) refl) [
      | inl s ↦ (
          let a = both (goes_on setup st) _ m in
          let b = both (nat_lt i setup.size) _ a.1 in
          let d = both (is_configured setup st) _ b.1 in
          absurd (held_ready (st.pages i) h.page seat (ap st.pages (sym s) ∙ h.there) h.held d.1))
      | inr t ↦ record { page = h.page; there = placed_other st.pages i (out_to other (st.pages i)) leaf t ∙ h.there; held = h.held; core = h.core; steps = h.steps; end = h.end }
    ]
entry_holds setup st (Give other i) seat leaf p m n h =
    elim (same_or leaf i (leaf == i) refl) [
      | inl s ↦ (
          let a = both (nat_lt i setup.size) _ m in
          let t : seat ≡ other = held_by (st.pages i) h.page seat other (ap st.pages (sym s) ∙ h.there) h.held a.1 in
          absurd (n (ap (λ (x : ℕ). Give x i) (sym t) ∙ ap (λ (x : ℕ). Give seat x) (sym s))))
      | inr t ↦ record { page = h.page; there = given_elsewhere setup st i leaf (st.pages i) t ∙ h.there; held = h.held; core = h.core; steps = h.steps; end = h.end }
    ]
entry_holds {S = S} setup st (Net other) seat leaf p m n h =
    let x : State S = ready setup st in
    let pages : x.pages leaf ≡ st.pages leaf = ap (λ (f : ℕ → Option PageState). f leaf) (ready_keeps setup st).pages in
    record { page = record h.page { gives = 0 }; there = ap after_net (pages ∙ h.there); held = h.held; core = h.core; steps = h.steps; end = h.end }

pub run_holds : {S : Type 0} (setup : Setup S) (st : State S) (es : List Entry) (seat leaf : ℕ) (p : PageState) → IsLegalFrom setup st es → GivesNone seat leaf es → IsOutWith st seat leaf p → IsOutWith (run setup st es) seat leaf p
run_holds setup st [] seat leaf p l n h = h
run_holds setup st (e ∷ es) seat leaf p l n h = run_holds setup (after setup st e) es seat leaf p l.1 n.1 (entry_holds setup st e seat leaf p l.0 n.0 h)
