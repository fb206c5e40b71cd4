use Rattle.std.proofs.Common.{◌≡◌, ℕ, ◌+◌, ◌<◌, true, [], ◌∷◌, ◌++◌, map, subst, sym, ap, ◌∙◌, arith}
use Rattle.std.specs.Vec.{vec_len, vec_capacity}
use Rattle.std.specs.Prelude.{is_some}
use Rattle.fabric_run.specs.declared.entry.Entry.{Entry}
use Rattle.fabric_run.specs.declared.entry.Entry.TheVariants.{Give}
use Rattle.fabric_run.specs.Entries.{stored, entry_of}
use Rattle.fabric_run.specs.Replay.{may, replay}
use Rattle.fabric_run.specs.Trees.{tree_setup}
use Rattle.fabric_core.specs.Runs.{RunValue, noted}
use Rattle.fabric_core.specs.Holding.{Brings}
use Rattle.fabric_core.specs.Kept.{IsKept}
use Rattle.fabric_core.proofs.Storing.{pushed}
use Rattle.fabric_core.proofs.Keeping.{size_few}
use Rattle.fabric_core.proofs.Noting.{run_of, has_room, noted_view, next_inside}
use Rattle.fabric_core.proofs.Making.{can_give, page_at, not_ended, core_after, end_after, may_give, leaf_inside}
use Rattle.fabric_core.proofs.fabric.Fabric.give.Goals as goal

pub give-requires : goal.give-requires
give-requires c =
    let plan = c.self.inside.plan in
    let words = c.self.inside.journal.items in
    let b = c.self.inside.board in
    let k : IsKept plan (map entry_of words) b = c.self.invariant.0 in
    let setup = tree_setup plan in
    let st = replay (tree_setup plan) (map entry_of words) in
    let h : Brings (run_of plan words) c.args.seat c.args.page = subst (λ (r : RunValue). Brings r c.args.seat c.args.page) (sym c.self.view_is) c.requires.page in
    can_give plan (map entry_of words) b k c.args.seat c.args.page h c.in-Some.end c.in-Some.is

pub invariant_of-self : goal.invariant_of-self
invariant_of-self c =
    let plan = c.self.inside.plan in
    let words = c.self.inside.journal.items in
    let b = c.self.inside.board in
    let k : IsKept plan (map entry_of words) b = c.self.invariant.0 in
    let setup = tree_setup plan in
    let st = replay (tree_setup plan) (map entry_of words) in
    let h : Brings (run_of plan words) c.args.seat c.args.page = subst (λ (r : RunValue). Brings r c.args.seat c.args.page) (sym c.self.view_is) c.requires.page in
    let e : Entry = Give c.args.seat c.args.page.leaf in
    let fits : (c.args.seat < 16) × (c.args.page.leaf < 256) = (c.requires.seat, omega (arith, leaf_inside plan (map entry_of words) b k c.args.seat c.args.page h, size_few plan k.sound)) in
    let m : may setup st e ≡ true = may_give plan (map entry_of words) b k c.args.seat c.args.page h in
    let lt : vec_len c.self.inside.journal < vec_capacity c.self.inside.journal = omega (arith, has_room plan words words b b (vec_capacity c.self.inside.journal) (vec_capacity c.self.inside.journal) c.self.inside.configs e c.self.invariant fits m, c.self.inside.journal.ok.0) in
    let is : c.push.new.self.items ≡ words ++ stored e ∷ [] = pushed _ _ _ _ (c.push.ensures.succeeds lt) c.push.ensures.items ∙ ap (λ (n : ℕ). words ++ n ∷ []) c.store.ensures in
    next_inside plan words c.push.new.self.items b c.give.new.self (vec_capacity c.self.inside.journal) (vec_capacity c.push.new.self) c.self.inside.configs e c.self.invariant fits m is
    (omega (arith, c.push.ensures.capacity))
    (c.give.ensures.shows setup st h.holds.state k.shows (page_at plan (map entry_of words) b k c.args.seat c.args.page h) (ap (λ o. is_some o) h.holds.held) (not_ended plan (map entry_of words) b k c.args.seat c.args.page h) (core_after plan (map entry_of words) b k c.args.seat c.args.page h) (end_after plan (map entry_of words) b k c.args.seat c.args.page h c.in-Some.end c.in-Some.is))
    (c.give.ensures.room (plan.rounds + 1) k.rooms)

pub returns : goal.returns
returns c =
    let plan = c.self.inside.plan in
    let words = c.self.inside.journal.items in
    let b = c.self.inside.board in
    let k : IsKept plan (map entry_of words) b = c.self.invariant.0 in
    let setup = tree_setup plan in
    let st = replay (tree_setup plan) (map entry_of words) in
    let h : Brings (run_of plan words) c.args.seat c.args.page = subst (λ (r : RunValue). Brings r c.args.seat c.args.page) (sym c.self.view_is) c.requires.page in
    let e : Entry = Give c.args.seat c.args.page.leaf in
    let fits : (c.args.seat < 16) × (c.args.page.leaf < 256) = (c.requires.seat, omega (arith, leaf_inside plan (map entry_of words) b k c.args.seat c.args.page h, size_few plan k.sound)) in
    let m : may setup st e ≡ true = may_give plan (map entry_of words) b k c.args.seat c.args.page h in
    let lt : vec_len c.self.inside.journal < vec_capacity c.self.inside.journal = omega (arith, has_room plan words words b b (vec_capacity c.self.inside.journal) (vec_capacity c.self.inside.journal) c.self.inside.configs e c.self.invariant fits m, c.self.inside.journal.ok.0) in
    let is : c.push.new.self.items ≡ words ++ stored e ∷ [] = pushed _ _ _ _ (c.push.ensures.succeeds lt) c.push.ensures.items ∙ ap (λ (n : ℕ). words ++ n ∷ []) c.store.ensures in
    subst (λ (r : RunValue). run_of plan c.push.new.self.items ≡ noted r e) c.self.view_is
    (noted_view plan words c.push.new.self.items b b (vec_capacity c.self.inside.journal) (vec_capacity c.push.new.self) c.self.inside.configs e c.self.invariant fits m is)
