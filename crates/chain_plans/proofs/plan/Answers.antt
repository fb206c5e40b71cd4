use Rattle.std.proofs.Common.{◌≡◌, ℕ, Bool, List, [], ◌∷◌, ◌++◌, ap, sym, ◌∙◌, subst}
use Rattle.net_switch.specs.declared.packet.Pattern.{Pattern}
use Rattle.image_form.specs.Spelling.{IsForm}
use Rattle.fabric_run.specs.Plan.{IsSound}
use Rattle.chain_plans.specs.Chains.{plain}
use Rattle.chain_plans.proofs.Sound.{chain_sound, plan_is}
use Rattle.chain_plans.proofs.plan.Goals as goal

pub new-requires-2 : goal.new-requires-2
new-requires-2 c =
    let pattern : c.plain.result ≡ plain = ap (λ (two : List Bool). (let p : Pattern = record { two = two } in p)) c.plain.ensures in
    let feeds : c.push.new.self.items ≡ c.args.words.items ∷ [] = c.in_ok-push.ensures.items ∙ (ap (λ (xs : List (List ℕ)). xs ++ c.of.result ∷ []) c.in_ok-feeds.ensures.items ∙ ap (λ (w : List ℕ). w ∷ []) c.of.ensures) in
    subst IsSound
    (sym (plan_is c.args.n c.args.image.now c.args.words.items c.args.rounds c.plain.result c.in_ok-pages.pages.items c.new.result.items c.in_ok-rows.rows.items c.push.new.self.items pattern c.in_ok-pages.ensures c.new.ensures.items c.in_ok-rows.ensures feeds))
    (chain_sound c.args.n c.requires.some c.requires.most c.args.image.now (subst IsForm c.form-form.ensures.value c.form-form.ensures.in_range) c.requires.ports c.args.words.items c.requires.few c.requires.words c.args.rounds c.requires.some_rounds c.requires.few_rounds)

pub returns : goal.returns
returns c =
    let pattern : c.plain.result ≡ plain = ap (λ (two : List Bool). (let p : Pattern = record { two = two } in p)) c.plain.ensures in
    let feeds : c.push.new.self.items ≡ c.args.words.items ∷ [] = c.in_ok-push.ensures.items ∙ (ap (λ (xs : List (List ℕ)). xs ++ c.of.result ∷ []) c.in_ok-feeds.ensures.items ∙ ap (λ (w : List ℕ). w ∷ []) c.of.ensures) in
    c.new-2.ensures ∙ plan_is c.args.n c.args.image.now c.args.words.items c.args.rounds c.plain.result c.in_ok-pages.pages.items c.new.result.items c.in_ok-rows.rows.items c.push.new.self.items pattern c.in_ok-pages.ensures c.new.ensures.items c.in_ok-rows.ensures feeds
