use Rattle.std.proofs.Common.{◌≡◌, ◌∙◌, ap, arith, length}
use Rattle.pld_draft.specs.Draft.{words_of}
use Rattle.pld_draft.proofs.Keeps.{feed_kept}
use Rattle.pld_draft.proofs.draft.Draft.feed.Goals as goal

pub invariant_of-self : goal.invariant_of-self
invariant_of-self c =
    let has : length c.words_in-has.result.now ≡ length (words_of c.args.name c.self.inside.feeds.items) =
    ap length c.words_in-has.ensures ∙ ap (λ fs. length (words_of c.args.name fs)) c.as_slice.ensures.value in
    feed_kept _ _ _ _ _ _ _ c.append.ensures
    (omega (arith, has, c.if-has-len.false, c.len-else-len-gt-FEED_WORDS.ensures, c.if-len-gt-FEED_WORDS.false, c.len.ensures))
    c.self.invariant

pub invariant_of-self-2 : goal.invariant_of-self-2
invariant_of-self-2 c =
    let has : length c.words_in-has.result.now ≡ length (words_of c.args.name c.self.inside.feeds.items) =
    ap length c.words_in-has.ensures ∙ ap (λ fs. length (words_of c.args.name fs)) c.as_slice.ensures.value in
    feed_kept _ _ _ _ _ _ _ c.append.ensures
    (omega (arith, has, c.if-has-len.false, c.len-else-len-gt-FEED_WORDS.ensures, c.if-len-gt-FEED_WORDS.false, c.len.ensures))
    c.self.invariant
