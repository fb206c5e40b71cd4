-- An image that keeps up with its operator realises it.
use Rattle.std.proofs.Common.{◌≡◌, ◌≢◌, ℕ, ◌+◌, ◌≤◌, List, refl, sym, ap, ◌∙◌, arith}
use Rattle.pld_base.specs.Prefix.{IsPrefixOf}
use Rattle.pld_base.specs.Process.{AreWords, TraceEnd, Returned, Starved, Cut, Process, IsProcess, Inputs}
use Rattle.pld_base.proofs.Prefixes.{prefix_of_eq, prefix_trans}
use Rattle.pld_base.specs.declared.event.Event.{Event}
use Rattle.pld_kahn.specs.Realises.{CanEnd, Realises, KeepsUp}

module _ (image operator : Process) (grows : IsProcess image) (keeps : KeepsUp image operator) (ins : Inputs) (words : AreWords ins) where
  -- where the operator isn't cut after t turns, the image has stopped for good
  stopped : (t m : ℕ) → (operator ins t).end ≢ Cut → (keeps ins words t).0 ≤ m → image ins m ≡ operator ins t
  stopped t m uncut le =
      let k = keeps ins words t in
      grows.uncut ins k.0 m le (λ c. uncut (sym (ap (λ x. x.end) k.1) ∙ c)) ∙ k.1

  image_within : (m : ℕ) → IsPrefixOf (image ins m).events (operator ins m).events
  image_within m = go (operator ins m).end refl
    where
      later : (operator ins m).end ≢ Cut → IsPrefixOf (image ins m).events (operator ins m).events
      later uncut =
          let n = m + (keeps ins words m).0 in
          prefix_trans (grows.more_turns ins m n (omega arith)) (prefix_of_eq (ap (λ x. x.events) (stopped m n uncut (omega arith))))

      go : (end : TraceEnd) → (operator ins m).end ≡ end → IsPrefixOf (image ins m).events (operator ins m).events
      go Returned is = later (λ c. let e : Returned ≡ Cut = sym is ∙ c in cc)
      go (Starved p) is = later (λ c. let e : Starved p ≡ Cut = sym is ∙ c in cc)
      go Cut is =
          let k = keeps ins words m in
          prefix_trans (grows.more_turns ins m k.0 (k.2 is)) (prefix_of_eq (ap (λ x. x.events) k.1))

  -- where the image has stopped, the operator has
  same_end : (m : ℕ) → (image ins m).end ≢ Cut → operator ins m ≡ image ins m
  same_end m halted = go (operator ins m).end refl
    where
      later : (operator ins m).end ≢ Cut → operator ins m ≡ image ins m
      later uncut =
          let n = m + (keeps ins words m).0 in
          sym (stopped m n uncut (omega arith)) ∙ grows.uncut ins m n (omega arith) halted

      go : (end : TraceEnd) → (operator ins m).end ≡ end → operator ins m ≡ image ins m
      go Returned is = later (λ c. let e : Returned ≡ Cut = sym is ∙ c in cc)
      go (Starved p) is = later (λ c. let e : Starved p ≡ Cut = sym is ∙ c in cc)
      go Cut is = let k = keeps ins words m in sym k.1 ∙ grows.uncut ins m k.0 (k.2 is) halted

  ends_alike : (events : List Event) (end : TraceEnd) → end ≢ Cut → CanEnd image ins events end → CanEnd operator ins events end
  ends_alike events end uncut c =
      let same = same_end c.0 (λ cut. uncut (sym c.2 ∙ cut)) in
      (c.0, ap (λ x. x.events) same ∙ c.1, ap (λ x. x.end) same ∙ c.2)

  ends_too : (events : List Event) (end : TraceEnd) → CanEnd operator ins events end → CanEnd image ins events end
  ends_too events end c =
      let k = keeps ins words c.0 in
      (k.0, ap (λ x. x.events) k.1 ∙ c.1, ap (λ x. x.end) k.1 ∙ c.2)

pub keeping_up_realises : (image operator : Process) → IsProcess image → KeepsUp image operator → Realises image operator
keeping_up_realises image operator grows keeps =
    record {
      within = λ ins words moves. (moves, image_within image operator grows keeps ins words moves);
      covers = λ ins words turns. let k = keeps ins words turns in (k.0, prefix_of_eq (ap (λ x. x.events) (sym k.1)));
      returns = λ ins words events. (ends_alike image operator grows keeps ins words events Returned (λ e. cc), ends_too image operator grows keeps ins words events Returned);
      starves = λ ins words events port. (ends_alike image operator grows keeps ins words events (Starved port) (λ e. cc), ends_too image operator grows keeps ins words events (Starved port));
    }
