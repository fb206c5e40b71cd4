-- Sums of words.
use Rattle.std.proofs.Common.{◌≡◌, ℕ, ◌+◌, ◌<◌, ◌%◌, ◌^◌, List, length, take, sym, ap, ◌∙◌}
use Rattle.std.specs.Prelude.{slice_index_or}
use Rattle.std.specs.List.{sum}
use Rattle.std.proofs.Math.Nat.{mod-add-mod}
use Rattle.std.proofs.lemmas.List.Sums.{sum_by_more}
use Rattle.pld_reply.specs.Summary.{word_sum}

-- a word more
pub one_more : (words : List ℕ) (i d total : ℕ) → i < length words → total ≡ word_sum (take i words) → (total + slice_index_or words i d) % 2 ^ 32 ≡ word_sum (take (i + 1) words)
one_more words i d total within is =
    ap (λ t. (t + slice_index_or words i d) % 2 ^ 32) is ∙ mod-add-mod (sum (take i words)) (2 ^ 32) (slice_index_or words i d) ∙ ap (λ s. s % 2 ^ 32) (sym (sum_by_more (λ x. x) words i d within))
