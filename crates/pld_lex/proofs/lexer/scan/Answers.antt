use Rattle.std.proofs.Common.{◌≡◌, ◌<◌, ◌≤◌, ◌+◌, ◌-◌, suc, List, ℕ, length, drop, take, sym, ap, subst, ◌∙◌, arith}
use Rattle.std.proofs.lemmas.List.{length-drop, length-take-le}
use Rattle.std.proofs.Math.Seq.{take-length}
use Rattle.pld_lex.specs.Lexed.{place_after, joined, scan}
use Rattle.pld_lex.proofs.Scans.{drop_on, turn, line_within, column_within}
use Rattle.pld_lex.proofs.lexer.scan.Goals as goal

pub loop-start-preserved : goal.loop-start-preserved
loop-start-preserved c =
    let text = c.args.text.now in
    let s = c.loop-start.start in
    let bytes : List ℕ = take (length text - s) (drop s text) in
    let whole : bytes ≡ drop s text = ap (λ k. take k (drop s text)) (sym (length-drop s text)) ∙ take-length (drop s text) in
    let p = c.in-Ok.piece in
    let n = p.length in
    let i = c.loop-start.invariant in
    let left : length bytes ≡ length text - s = ap length whole ∙ length-drop s text in
    let on : s < length text = c.loop-start-test.true in
    let w : n ≤ length bytes = c.in-Ok.ensures.within in
    let l : length (take n bytes) ≡ n = length-take-le n bytes w in
    record {
      told = turn s c.loop-start.at c.place_after-at.result bytes (drop (s + n) text) p c.loop-start.tokens.items c.add.new.tokens.items _
          (omega (arith, left, on)) (sym c.first_piece.ensures.value ∙ c.in-Ok.is) c.in-Ok.ensures.some c.in-Ok-add.ensures (ap (λ b. joined c.loop-start.tokens.items (scan 0 s c.loop-start.at b)) whole ∙ i.told) c.place_after-at.ensures (drop_on s n text ∙ ap (λ b. drop n b) (sym whole));
      within = omega (arith, w, left, on);
      line = subst (λ a. a.line ≤ suc (s + n)) (sym c.place_after-at.ensures) (subst (λ k. (place_after c.loop-start.at (take n bytes)).line ≤ suc (s + k)) l (line_within c.loop-start.at (take n bytes) s i.line));
      column = subst (λ a. a.column ≤ suc (s + n)) (sym c.place_after-at.ensures) (subst (λ k. (place_after c.loop-start.at (take n bytes)).column ≤ suc (s + k)) l (column_within c.loop-start.at (take n bytes) s i.column));
    }
