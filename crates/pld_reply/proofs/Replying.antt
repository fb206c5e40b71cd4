-- The reply to a run, joined from its lines.
use Rattle.std.proofs.Common.{◌≡◌, ℕ, ◌≤◌, List, ◌++◌, ap, ◌∙◌, arith}
use Rattle.std.specs.Prelude.{Result, Ok, Err, OnOk}
use Rattle.std.proofs.lemmas.List.{append_assoc}
use Rattle.fabric_run.specs.Reply.{lines_below}

pub on_ok : {A E : Type 0} {P Q : Type 0} (r : Result A E) → OnOk r P → (P → Q) → OnOk r Q
on_ok (Ok x) h f = f h
on_ok (Err e) h f = tt

-- lines that were written up to the last one
pub all_lines : (old new : List ℕ) (line : ℕ → List ℕ) (n k : ℕ) → k ≤ n → n ≤ k → new ≡ old ++ lines_below line k → new ≡ old ++ lines_below line n
all_lines old new line n k most least e = e ∙ ap (λ (i : ℕ). old ++ lines_below line i) (let s : k ≡ n = omega arith in s)

pub joins : (old one two three a b c : List ℕ) → one ≡ old ++ a → two ≡ one ++ b → three ≡ two ++ c → three ≡ old ++ (a ++ (b ++ c))
joins old one two three a b c e f g = g ∙ ap (λ l. l ++ c) (f ∙ ap (λ l. l ++ b) e) ∙ (let h : ((old ++ a) ++ b) ++ c ≡ old ++ (a ++ (b ++ c)) = simp append_assoc in h)

pub joins_four : (old one two three four a b c d : List ℕ) → one ≡ old ++ a → two ≡ one ++ b → three ≡ two ++ c → four ≡ three ++ d → four ≡ old ++ (((a ++ b) ++ c) ++ d)
joins_four old one two three four a b c d e f g h = h ∙ ap (λ l. l ++ d) (g ∙ ap (λ l. l ++ c) (f ∙ ap (λ l. l ++ b) e)) ∙ (let k : (((old ++ a) ++ b) ++ c) ++ d ≡ old ++ (((a ++ b) ++ c) ++ d) = simp append_assoc in k)

pub joins_five : (old n1 n2 n3 n4 n5 a b c d e : List ℕ) → n1 ≡ old ++ a → n2 ≡ n1 ++ b → n3 ≡ n2 ++ c → n4 ≡ n3 ++ d → n5 ≡ n4 ++ e → n5 ≡ old ++ ((((a ++ b) ++ c) ++ d) ++ e)
joins_five old n1 n2 n3 n4 n5 a b c d e p1 p2 p3 p4 p5 =
    p5 ∙ ap (λ l. l ++ e) (p4 ∙ ap (λ l. l ++ d) (p3 ∙ ap (λ l. l ++ c) (p2 ∙ ap (λ l. l ++ b) p1)))
    ∙ (let k : ((((old ++ a) ++ b) ++ c) ++ d) ++ e ≡ old ++ ((((a ++ b) ++ c) ++ d) ++ e) = simp append_assoc in k)

pub joins_seven : (old n1 n2 n3 n4 n5 n6 n7 a b c d e f g h i j k : List ℕ) → n1 ≡ old ++ a → n2 ≡ n1 ++ b → n3 ≡ n2 ++ c → n4 ≡ n3 ++ d → n5 ≡ n4 ++ e → n6 ≡ n5 ++ f → n7 ≡ n6 ++ ((((g ++ h) ++ i) ++ j) ++ k)
    → n7 ≡ old ++ ((((((((((a ++ b) ++ c) ++ d) ++ e) ++ f) ++ g) ++ h) ++ i) ++ j) ++ k)
joins_seven old n1 n2 n3 n4 n5 n6 n7 a b c d e f g h i j k p1 p2 p3 p4 p5 p6 p7 =
    p7 ∙ ap (λ l. l ++ ((((g ++ h) ++ i) ++ j) ++ k)) (p6 ∙ ap (λ l. l ++ f) (p5 ∙ ap (λ l. l ++ e) (p4 ∙ ap (λ l. l ++ d) (p3 ∙ ap (λ l. l ++ c) (p2 ∙ ap (λ l. l ++ b) p1)))))
    ∙ (let m : ((((((old ++ a) ++ b) ++ c) ++ d) ++ e) ++ f) ++ ((((g ++ h) ++ i) ++ j) ++ k) ≡ old ++ ((((((((((a ++ b) ++ c) ++ d) ++ e) ++ f) ++ g) ++ h) ++ i) ++ j) ++ k) = simp append_assoc in m)

pub joins_nine : (old n1 n2 n3 n4 n5 n6 n7 n8 n9 a b c d e f g h i : List ℕ) → n1 ≡ old ++ a → n2 ≡ n1 ++ b → n3 ≡ n2 ++ c → n4 ≡ n3 ++ d → n5 ≡ n4 ++ e → n6 ≡ n5 ++ f → n7 ≡ n6 ++ g → n8 ≡ n7 ++ h → n9 ≡ n8 ++ i
    → n9 ≡ old ++ ((((((((a ++ b) ++ c) ++ d) ++ e) ++ f) ++ g) ++ h) ++ i)
joins_nine old n1 n2 n3 n4 n5 n6 n7 n8 n9 a b c d e f g h i p1 p2 p3 p4 p5 p6 p7 p8 p9 =
    p9 ∙ ap (λ l. l ++ i) (p8 ∙ ap (λ l. l ++ h) (p7 ∙ ap (λ l. l ++ g) (p6 ∙ ap (λ l. l ++ f) (p5 ∙ ap (λ l. l ++ e) (p4 ∙ ap (λ l. l ++ d) (p3 ∙ ap (λ l. l ++ c) (p2 ∙ ap (λ l. l ++ b) p1)))))))
    ∙ (let k : ((((((((old ++ a) ++ b) ++ c) ++ d) ++ e) ++ f) ++ g) ++ h) ++ i ≡ old ++ ((((((((a ++ b) ++ c) ++ d) ++ e) ++ f) ++ g) ++ h) ++ i) = simp append_assoc in k)
