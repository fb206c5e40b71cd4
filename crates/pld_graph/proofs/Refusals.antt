-- What it tells that an edit isn't refused.
use Rattle.std.proofs.Common.{◌≡◌, ℕ, ◌<◌, Bool, true, false, true≢false, ◌&&◌, not, List, [], ◌∷◌, length, refl, ap, sym, arith, subst, Option, Some, None, is_none}
use Rattle.std.specs.Prelude.{◌||◌, nat_le, bytes_eq}
use Rattle.std.proofs.lemmas.Slice.Eq.{bytes_eq-Decides}
use Rattle.std.proofs.lemmas.Bool.Decides.{nat_tests}
use Rattle.pld_base.specs.declared.event.End.{End}
use Rattle.pld_base.specs.declared.event.Side.{Side}
use Rattle.pld_base.specs.declared.event.Side.TheVariants.{In, Out}
use Rattle.pld_graph.specs.declared.parts.FromEnd.TheVariants as from_end
use Rattle.pld_graph.specs.declared.parts.ToEnd.TheVariants as to_end
use Rattle.pld_graph.specs.declared.parts.GraphFault.{GraphFault}
use Rattle.pld_graph.specs.declared.parts.GraphFault.TheVariants.{NameTaken, TooMany}
use Rattle.pld_graph.specs.Parts.{same_side}
use Rattle.pld_graph.specs.Design.{Design, inputs, outputs, is_named, is_linked, has_port}
use Rattle.pld_graph.specs.Edits.{when, first_fault, unknown, misdirected, lacking, taken, full, host_refusal, with_channel}
use Rattle.pld_graph.specs.Sound.{IsSound}
use Rattle.pld_graph.proofs.Sounds.{put_sound}

pub when_none : (b : Bool) (f : GraphFault) → when b f ≡ None → b ≡ false
when_none true f e = absurd (true≢false (ap (λ o. not (is_none o)) e))
when_none false f e = refl

pub first_none : (o : Option GraphFault) (rest : List (Option GraphFault)) → first_fault (o ∷ rest) ≡ None → (o ≡ None) × (first_fault rest ≡ None)
first_none None rest e = (refl, e)
first_none (Some f) rest e = absurd (true≢false (ap (λ o. not (is_none o)) e))

not_false : (b : Bool) → not b ≡ false → b ≡ true
not_false true e = refl
not_false false e = absurd (true≢false e)

and_true : (a b : Bool) → a ≡ true → b ≡ true → (a && b) ≡ true
and_true true b p q = q
and_true false b p q = absurd (true≢false (sym p))

pub connect_sound : (d : Design) (from to : End) → first_fault (unknown from d ∷ unknown to d ∷ misdirected Out from ∷ misdirected In to ∷ lacking from d ∷ lacking to d ∷ taken from d ∷ taken to d ∷ full d ∷ []) ≡ None → IsSound d → IsSound (with_channel (record { from = from_end.Port from; to = to_end.Port to }) d)
connect_sound d from to e s =
    let r9 : List (Option GraphFault) = full d ∷ [] in
    let r8 = taken to d ∷ r9 in
    let r7 = taken from d ∷ r8 in
    let r6 = lacking to d ∷ r7 in
    let r5 = lacking from d ∷ r6 in
    let r4 = misdirected In to ∷ r5 in
    let r3 = misdirected Out from ∷ r4 in
    let r2 = unknown to d ∷ r3 in
    let e2 = (first_none (unknown from d) r2 e).1 in
    let e3 = (first_none (unknown to d) r3 e2).1 in
    let out = first_none (misdirected Out from) r4 e3 in
    let into = first_none (misdirected In to) r5 out.1 in
    let p = first_none (lacking from d) r6 into.1 in
    let q = first_none (lacking to d) r7 p.1 in
    let a = first_none (taken from d) r8 q.1 in
    let b = first_none (taken to d) r9 a.1 in
    let f = first_none (full d) [] b.1 in
    let ins = s.inputs in
    let outs = s.outputs in
    put_sound d (record { from = from_end.Port from; to = to_end.Port to })
    (not_false (has_port d.operators from) (when_none _ _ p.0))
    (not_false (has_port d.operators to) (when_none _ _ q.0))
    (when_none _ TooMany f.0)
    (omega (arith, ins))
    (omega (arith, outs))
    (and_true (same_side from.side Out) (same_side to.side In) (not_false _ (when_none _ _ out.0)) (not_false _ (when_none _ _ into.0)))
    (ap not (when_none (is_linked d.channels from) _ a.0))
    (ap not (when_none (is_linked d.channels to) _ b.0))
    (λ m h. absurd (true≢false (sym h)))
    s

pub record Hosts (name : List ℕ) (side : Side) (e : End) (count : ℕ) (d : Design) : Type 0 where
  pub unnamed : is_named name d ≡ false
  pub sides : same_side e.side side ≡ true
  pub there : has_port d.operators e ≡ true
  pub free : is_linked d.channels e ≡ false
  pub few : count < 8
  pub room : nat_le 256 (length d.channels) ≡ false

hosts : (name : List ℕ) (side : Side) (e : End) (count : ℕ) (d : Design) → host_refusal name side e count d ≡ None → Hosts name side e count d
hosts name side e count d h =
    let r7 : List (Option GraphFault) = full d ∷ [] in
    let r6 = when (nat_le 8 count) TooMany ∷ r7 in
    let r5 = taken e d ∷ r6 in
    let r4 = lacking e d ∷ r5 in
    let r3 = misdirected side e ∷ r4 in
    let r2 = unknown e d ∷ r3 in
    let n = first_none (when (is_named name d) NameTaken) r2 h in
    let e3 = (first_none (unknown e d) r3 n.1).1 in
    let m = first_none (misdirected side e) r4 e3 in
    let p = first_none (lacking e d) r5 m.1 in
    let t = first_none (taken e d) r6 p.1 in
    let c = first_none (when (nat_le 8 count) TooMany) r7 t.1 in
    let f = first_none (full d) [] c.1 in
    let most = when_none (nat_le 8 count) TooMany c.0 in
    record {
      unnamed = when_none (is_named name d) NameTaken n.0;
      sides = not_false (same_side e.side side) (when_none _ _ m.0);
      there = not_false (has_port d.operators e) (when_none _ _ p.0);
      free = when_none (is_linked d.channels e) _ t.0;
      few = grind (arith, nat_tests, most);
      room = when_none (nat_le 256 (length d.channels)) TooMany f.0;
    }

or_none : (b : Bool) → (b || false) ≡ true → b ≡ true
or_none true e = refl
or_none false e = e

own_name : (d : Design) (name m : List ℕ) → is_named name d ≡ false → bytes_eq name m ≡ true → is_named m d ≡ false
own_name d name m free h = subst (λ n. is_named n d ≡ false) ((bytes_eq-Decides name m).0 h) free

pub input_sound : (d : Design) (name : List ℕ) (to : End) → host_refusal name In to (length (inputs d.channels)) d ≡ None → IsSound d → IsSound (with_channel (record { from = from_end.Input name; to = to_end.Port to }) d)
input_sound d name to e s =
    let h = hosts name In to (length (inputs d.channels)) d e in
    let few = h.few in
    let outs = s.outputs in
    put_sound d (record { from = from_end.Input name; to = to_end.Port to }) refl h.there h.room (omega (arith, few)) (omega (arith, outs)) h.sides refl (ap not h.free) (λ m here. own_name d name m h.unnamed (or_none (bytes_eq name m) here)) s

pub output_sound : (d : Design) (name : List ℕ) (from : End) → host_refusal name Out from (length (outputs d.channels)) d ≡ None → IsSound d → IsSound (with_channel (record { from = from_end.Port from; to = to_end.Output name }) d)
output_sound d name from e s =
    let h = hosts name Out from (length (outputs d.channels)) d e in
    let few = h.few in
    let ins = s.inputs in
    put_sound d (record { from = from_end.Port from; to = to_end.Output name }) h.there refl h.room (omega (arith, ins)) (omega (arith, few)) (and_true (same_side from.side Out) true h.sides refl) (ap not h.free) refl (λ m here. own_name d name m h.unnamed here) s
