use Rattle.std.proofs.Common.{◌≡◌, ℕ, ◌+◌, ◌<◌, true, [], ◌∷◌, ◌++◌, map, subst, sym, ap, ◌∙◌, arith}
use Rattle.std.specs.Vec.{vec_len, vec_capacity}
use Rattle.fabric_run.specs.declared.entry.Entry.{Entry}
use Rattle.fabric_run.specs.declared.entry.Entry.TheVariants.{Net}
use Rattle.fabric_run.specs.Entries.{stored, entry_of}
use Rattle.fabric_run.specs.World.{ready}
use Rattle.fabric_run.specs.Replay.{may, replay}
use Rattle.fabric_run.specs.Trees.{tree_setup}
use Rattle.fabric_core.specs.Runs.{RunValue, is_legal, noted}
use Rattle.fabric_core.specs.Kept.{IsKept}
use Rattle.fabric_core.proofs.Storing.{pushed}
use Rattle.fabric_core.proofs.Noting.{run_of, has_room, noted_view, next_inside}
use Rattle.fabric_core.proofs.Making.{host_rows, has_space, can_round}
use Rattle.fabric_core.proofs.fabric.Fabric.net.Goals as goal

pub make_ready-requires-clause-rows : goal.make_ready-requires-clause-rows
make_ready-requires-clause-rows c =
    let plan = c.self.inside.plan in
    let words = c.self.inside.journal.items in
    let b = c.self.inside.board in
    let k : IsKept plan (map entry_of words) b = c.self.invariant.0 in
    let setup = tree_setup plan in
    let st = replay (tree_setup plan) (map entry_of words) in
    host_rows plan (map entry_of words) b k

pub make_ready-requires-clause-room : goal.make_ready-requires-clause-room
make_ready-requires-clause-room c =
    let plan = c.self.inside.plan in
    let words = c.self.inside.journal.items in
    let b = c.self.inside.board in
    let k : IsKept plan (map entry_of words) b = c.self.invariant.0 in
    let setup = tree_setup plan in
    let st = replay (tree_setup plan) (map entry_of words) in
    has_space plan (map entry_of words) b k

pub round-requires : goal.round-requires
round-requires c =
    let plan = c.self.inside.plan in
    let words = c.self.inside.journal.items in
    let b = c.self.inside.board in
    let k : IsKept plan (map entry_of words) b = c.self.invariant.0 in
    let setup = tree_setup plan in
    let st = replay (tree_setup plan) (map entry_of words) in
    let e : Entry = Net c.args.seat in
    let m : may setup st e ≡ true = subst (λ (r : RunValue). is_legal r e ≡ true) (sym c.self.view_is) (sym (c.may_net.ensures c.args.seat) ∙ c.if-not-may_net.false) in
    can_round plan (map entry_of words) b k c.args.seat c.make_ready.new.self m (c.make_ready.ensures.shows st k.shows)

pub invariant_of-self : goal.invariant_of-self
invariant_of-self c =
    let plan = c.self.inside.plan in
    let words = c.self.inside.journal.items in
    let b = c.self.inside.board in
    let k : IsKept plan (map entry_of words) b = c.self.invariant.0 in
    let setup = tree_setup plan in
    let st = replay (tree_setup plan) (map entry_of words) in
    let e : Entry = Net c.args.seat in
    let fits : c.args.seat < 16 = c.requires in
    let m : may setup st e ≡ true = subst (λ (r : RunValue). is_legal r e ≡ true) (sym c.self.view_is) (sym (c.may_net.ensures c.args.seat) ∙ c.if-not-may_net.false) in
    let lt : vec_len c.self.inside.journal < vec_capacity c.self.inside.journal = omega (arith, has_room plan words words b b (vec_capacity c.self.inside.journal) (vec_capacity c.self.inside.journal) c.self.inside.configs e c.self.invariant fits m, c.self.inside.journal.ok.0) in
    let is : c.push.new.self.items ≡ words ++ stored e ∷ [] = pushed _ _ _ _ (c.push.ensures.succeeds lt) c.push.ensures.items ∙ ap (λ (n : ℕ). words ++ n ∷ []) c.store.ensures in
    next_inside plan words c.push.new.self.items b c.round.new.self (vec_capacity c.self.inside.journal) (vec_capacity c.push.new.self) c.self.inside.configs e c.self.invariant fits m is
    (omega (arith, c.push.ensures.capacity))
    (c.round.ensures.shows setup (ready setup st) (c.make_ready.ensures.shows st k.shows)) (c.round.ensures.room (plan.rounds + 1) (c.make_ready.ensures.room (plan.rounds + 1) k.rooms))

pub returns-clause-run : goal.returns-clause-run
returns-clause-run c =
    let plan = c.self.inside.plan in
    let words = c.self.inside.journal.items in
    let b = c.self.inside.board in
    let k : IsKept plan (map entry_of words) b = c.self.invariant.0 in
    let setup = tree_setup plan in
    let st = replay (tree_setup plan) (map entry_of words) in
    let e : Entry = Net c.args.seat in
    let fits : c.args.seat < 16 = c.requires in
    let m : may setup st e ≡ true = subst (λ (r : RunValue). is_legal r e ≡ true) (sym c.self.view_is) (sym (c.may_net.ensures c.args.seat) ∙ c.if-not-may_net.false) in
    let lt : vec_len c.self.inside.journal < vec_capacity c.self.inside.journal = omega (arith, has_room plan words words b b (vec_capacity c.self.inside.journal) (vec_capacity c.self.inside.journal) c.self.inside.configs e c.self.invariant fits m, c.self.inside.journal.ok.0) in
    let is : c.push.new.self.items ≡ words ++ stored e ∷ [] = pushed _ _ _ _ (c.push.ensures.succeeds lt) c.push.ensures.items ∙ ap (λ (n : ℕ). words ++ n ∷ []) c.store.ensures in
    subst (λ (r : RunValue). run_of plan c.push.new.self.items ≡ noted r e) c.self.view_is
    (noted_view plan words c.push.new.self.items b b (vec_capacity c.self.inside.journal) (vec_capacity c.push.new.self) c.self.inside.configs e c.self.invariant fits m is)
