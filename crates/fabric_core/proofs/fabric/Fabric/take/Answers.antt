use Rattle.std.proofs.Common.{◌≡◌, ℕ, ◌+◌, ◌<◌, true, [], ◌∷◌, ◌++◌, map, subst, sym, ap, ◌∙◌, arith, refl, None}
use Rattle.std.specs.Vec.{vec_len, vec_capacity}
use Rattle.fabric_run.specs.declared.entry.Entry.{Entry}
use Rattle.fabric_run.specs.declared.entry.Entry.TheVariants.{Take}
use Rattle.fabric_run.specs.Entries.{stored, entry_of}
use Rattle.fabric_run.specs.Replay.{may, replay}
use Rattle.fabric_run.specs.Trees.{tree_setup}
use Rattle.fabric_core.specs.declared.page.Page.{Page}
use Rattle.fabric_core.specs.Runs.{RunValue, is_legal, noted}
use Rattle.fabric_core.specs.Holding.{Holds}
use Rattle.fabric_core.specs.Kept.{IsKept}
use Rattle.fabric_core.proofs.Storing.{pushed}
use Rattle.fabric_core.proofs.Noting.{run_of, has_room, noted_view, next_inside, taken_holds}
use Rattle.fabric_core.proofs.Making.{few_counts, home_core, Takable, takable}
use Rattle.fabric_core.proofs.fabric.Fabric.take.Goals as goal

pub returns-then-not-may_take-clause-legal : goal.returns-then-not-may_take-clause-legal
returns-then-not-may_take-clause-legal c = sym (c.may_take.ensures c.args.seat) ∙ c.if-not-may_take.true

pub take-core-requires-clause-home : goal.take-core-requires-clause-home
take-core-requires-clause-home c =
    let plan = c.self.inside.plan in
    let words = c.self.inside.journal.items in
    let b = c.self.inside.board in
    let k : IsKept plan (map entry_of words) b = c.self.invariant.0 in
    let setup = tree_setup plan in
    let st = replay (tree_setup plan) (map entry_of words) in
    let m : may setup st (Take c.args.seat c.args.leaf) ≡ true = subst (λ (r : RunValue). is_legal r (Take c.args.seat c.args.leaf) ≡ true) (sym c.self.view_is) (sym (c.may_take.ensures c.args.seat) ∙ c.if-not-may_take.false) in
    home_core plan (map entry_of words) b k c.args.seat c.args.leaf m

pub take-core-requires-clause-few : goal.take-core-requires-clause-few
take-core-requires-clause-few c =
    let plan = c.self.inside.plan in
    let words = c.self.inside.journal.items in
    let b = c.self.inside.board in
    let k : IsKept plan (map entry_of words) b = c.self.invariant.0 in
    let setup = tree_setup plan in
    let st = replay (tree_setup plan) (map entry_of words) in
    few_counts plan (map entry_of words) b k

pub invariant_of-self : goal.invariant_of-self
invariant_of-self c =
    let plan = c.self.inside.plan in
    let words = c.self.inside.journal.items in
    let b = c.self.inside.board in
    let k : IsKept plan (map entry_of words) b = c.self.invariant.0 in
    let setup = tree_setup plan in
    let st = replay (tree_setup plan) (map entry_of words) in
    let e : Entry = Take c.args.seat c.args.leaf in
    let fits : (c.args.seat < 16) × (c.args.leaf < 256) = (c.requires, omega arith) in
    let m : may setup st e ≡ true = subst (λ (r : RunValue). is_legal r e ≡ true) (sym c.self.view_is) (sym (c.may_take.ensures c.args.seat) ∙ c.if-not-may_take.false) in
    let t : Takable plan (map entry_of words) b k c.args.leaf = takable plan (map entry_of words) b k c.args.seat c.args.leaf m in
    let lt : vec_len c.self.inside.journal < vec_capacity c.self.inside.journal = omega (arith, has_room plan words words b b (vec_capacity c.self.inside.journal) (vec_capacity c.self.inside.journal) c.self.inside.configs e c.self.invariant fits m, c.self.inside.journal.ok.0) in
    let is : c.push.new.self.items ≡ words ++ stored e ∷ [] = pushed _ _ _ _ (c.push.ensures.succeeds lt) c.push.ensures.items ∙ ap (λ (n : ℕ). words ++ n ∷ []) c.store.ensures in
    next_inside plan words c.push.new.self.items b c.take-core.new.self (vec_capacity c.self.inside.journal) (vec_capacity c.push.new.self) c.self.inside.configs e c.self.invariant fits m is
    (omega (arith, c.push.ensures.capacity)) (c.take-core.ensures.shows setup st t.page k.shows t.there t.home) (c.take-core.ensures.room (plan.rounds + 1) k.rooms)

pub returns-clause-legal : goal.returns-clause-legal
returns-clause-legal c = sym (c.may_take.ensures c.args.seat) ∙ c.if-not-may_take.false

pub returns-clause-run : goal.returns-clause-run
returns-clause-run c =
    let plan = c.self.inside.plan in
    let words = c.self.inside.journal.items in
    let b = c.self.inside.board in
    let k : IsKept plan (map entry_of words) b = c.self.invariant.0 in
    let setup = tree_setup plan in
    let st = replay (tree_setup plan) (map entry_of words) in
    let e : Entry = Take c.args.seat c.args.leaf in
    let fits : (c.args.seat < 16) × (c.args.leaf < 256) = (c.requires, omega arith) in
    let m : may setup st e ≡ true = subst (λ (r : RunValue). is_legal r e ≡ true) (sym c.self.view_is) (sym (c.may_take.ensures c.args.seat) ∙ c.if-not-may_take.false) in
    let lt : vec_len c.self.inside.journal < vec_capacity c.self.inside.journal = omega (arith, has_room plan words words b b (vec_capacity c.self.inside.journal) (vec_capacity c.self.inside.journal) c.self.inside.configs e c.self.invariant fits m, c.self.inside.journal.ok.0) in
    let is : c.push.new.self.items ≡ words ++ stored e ∷ [] = pushed _ _ _ _ (c.push.ensures.succeeds lt) c.push.ensures.items ∙ ap (λ (n : ℕ). words ++ n ∷ []) c.store.ensures in
    subst (λ (r : RunValue). run_of plan c.push.new.self.items ≡ noted r e) c.self.view_is
    (noted_view plan words c.push.new.self.items b b (vec_capacity c.self.inside.journal) (vec_capacity c.push.new.self) c.self.inside.configs e c.self.invariant fits m is)

pub returns-clause-page : goal.returns-clause-page
returns-clause-page c =
    let plan = c.self.inside.plan in
    let words = c.self.inside.journal.items in
    let b = c.self.inside.board in
    let k : IsKept plan (map entry_of words) b = c.self.invariant.0 in
    let setup = tree_setup plan in
    let st = replay (tree_setup plan) (map entry_of words) in
    let e : Entry = Take c.args.seat c.args.leaf in
    let fits : (c.args.seat < 16) × (c.args.leaf < 256) = (c.requires, omega arith) in
    let m : may setup st e ≡ true = subst (λ (r : RunValue). is_legal r e ≡ true) (sym c.self.view_is) (sym (c.may_take.ensures c.args.seat) ∙ c.if-not-may_take.false) in
    let t : Takable plan (map entry_of words) b k c.args.leaf = takable plan (map entry_of words) b k c.args.seat c.args.leaf m in
    let page : Page = record { leaf = c.args.leaf; core = c.take-core.result; end = None } in
    let lt : vec_len c.self.inside.journal < vec_capacity c.self.inside.journal = omega (arith, has_room plan words words b b (vec_capacity c.self.inside.journal) (vec_capacity c.self.inside.journal) c.self.inside.configs e c.self.invariant fits m, c.self.inside.journal.ok.0) in
    let is : c.push.new.self.items ≡ words ++ stored e ∷ [] = pushed _ _ _ _ (c.push.ensures.succeeds lt) c.push.ensures.items ∙ ap (λ (n : ℕ). words ++ n ∷ []) c.store.ensures in (
      refl,
      subst (λ (r : RunValue). Holds r c.args.seat page) (sym (noted_view plan words c.push.new.self.items b b (vec_capacity c.self.inside.journal) (vec_capacity c.push.new.self) c.self.inside.configs e c.self.invariant fits m is))
          (taken_holds plan (map entry_of words) b k c.args.seat c.args.leaf page t refl (c.take-core.ensures.core setup st t.page k.shows t.there t.home)),
    )
