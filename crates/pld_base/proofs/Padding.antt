-- A text in the front of a field of 32 zeros.
use Rattle.std.proofs.Common.{◌≡◌, ◌≤◌, ◌-◌, ◌+◌, ℕ, Bool, List, ◌++◌, length, take, drop, ap, ◌∙◌, arith}
use Rattle.std.specs.Prelude.{replicate}
use Rattle.std.proofs.lemmas.List.{length-append, length-replicate, drop-replicate}
use Rattle.std.proofs.Math.Seq.{take-append_seam, drop-append_seam}

pub in_front : (test : List ℕ → Bool) (answer : Bool) (text text' zeros : List ℕ) → zeros ≡ replicate 32 0 → text' ≡ text → length text ≤ 32 → test text ≡ answer
    → (length text ≤ 32) × (length (text' ++ drop (length text) zeros) ≡ 32)
    × (drop (length text) (text' ++ drop (length text) zeros) ≡ replicate (32 - length text) 0)
    × (test (take (length text) (text' ++ drop (length text) zeros)) ≡ answer)
in_front test answer text text' zeros z e within holds =
    let rest : drop (length text) zeros ≡ replicate (32 - length text) 0 = ap (λ l. drop (length text) l) z ∙ drop-replicate (length text) 32 0 in
    let whole : text' ++ drop (length text) zeros ≡ text ++ replicate (32 - length text) 0 = ap (λ l. l ++ drop (length text) zeros) e ∙ ap (λ l. text ++ l) rest in
    let long : length (text ++ replicate (32 - length text) 0) ≡ 32 = length-append text _ ∙ ap (λ n. length text + n) (length-replicate (32 - length text) 0) ∙ omega arith in (
      within,
      ap length whole ∙ long,
      ap (λ l. drop (length text) l) whole ∙ drop-append_seam text _,
      ap (λ l. test (take (length text) l)) whole ∙ ap test (take-append_seam text _) ∙ holds,
    )
