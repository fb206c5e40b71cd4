use Rattle.std.proofs.Common.{◌≡◌, ℕ, ◌<◌, List, length, Some, sym, ap, ◌∙◌, subst, rules}
use Rattle.std.specs.Prelude.{slice_get}
use Rattle.std.proofs.lemmas.List.Elements.{All-push}
use Rattle.std.specs.List.{All}
use Rattle.pld_base.specs.Words.{IsWord}
use Rattle.pld_graph.specs.Design.{inputs}
use Rattle.pld_draft.specs.Draft.{words_of}
use Rattle.pld_session.proofs.Gathered.{found_more, is_there}
use Rattle.pld_session.proofs.runs.feeds.Goals.{in-Some+in_ok-feed_of+in_ok-push, in_default}
use Rattle.pld_session.proofs.runs.feeds.Goals as goal

pub loop-k-preserved : goal.loop-k-preserved
loop-k-preserved c =
    let xs = inputs c.args.draft.now.design.channels in
    elim c.match-input_at.branch [
      | in-Some+in_ok-feed_of+in_ok-push w ↦ (
          let found : slice_get xs c.loop-k.k ≡ Some w.in-Some.name = search rules in
          let pushed = ap (λ v. v.items) w.feeds-is ∙ w.in_ok-push.ensures.items in (
            found_more (λ name. words_of name c.args.draft.now.feeds) xs c.loop-k.k w.in-Some.name c.loop-k.feeds.items c.match-input_at.feeds.items _ found c.loop-k.invariant.0 w.in_ok-feed_of.ensures.value pushed,
            subst (λ (ys : List (List ℕ)). All (All IsWord) ys) (sym pushed) (All-push (All IsWord) c.loop-k.feeds.items _ c.loop-k.invariant.1 w.in_ok-feed_of.ensures.words),
          ))
      | in_default w ↦ (let l : c.loop-k.k < length xs = search rules in absurd (is_there xs c.loop-k.k l (search rules)))
    ]
