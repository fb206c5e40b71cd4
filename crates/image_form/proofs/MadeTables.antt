-- A table, by the steps of its reading.
use Rattle.std.proofs.Common.{◌≡◌, ℕ, List, [], length, Ok, refl, sym, ap, ◌∙◌}
use Rattle.image_form.specs.declared.stop.Stop.{Stop}
use Rattle.image_form.specs.declared.stop.Stop.TheVariants as stop
use Rattle.fsm_core.specs.Machine.{Stage}
use Rattle.image_form.specs.Reading.{Read, Fails, many, word_in}
use Rattle.image_form.specs.Tables.{length_at, state_at, table_at}

abbrev states_of : (ins outs k registers count : ℕ) → List ℕ → Read (List Stage)
states_of ins outs k registers count bytes = many (λ before. state_at (record { ins = ins; outs = outs; arrays = k; registers = registers; states = count })) count [] bytes

pub table_by : (ins outs : ℕ) (bytes : List ℕ) (k n : ℕ) (r1 : List ℕ) (arrays r2 : List ℕ) (registers : ℕ) (r3 : List ℕ) (count : ℕ) (r4 : List ℕ) {x : List Stage × List ℕ}
    → word_in 0 16 bytes ≡ Ok (n, r1) → many length_at n [] r1 ≡ Ok (arrays, r2) → word_in 64 65535 r2 ≡ Ok (registers, r3) → word_in 1 65535 r3 ≡ Ok (count, r4)
    → k ≡ length arrays → states_of ins outs k registers count r4 ≡ Ok x
    → table_at ins outs bytes ≡ Ok (record { ins = ins; outs = outs; arrays = arrays; registers = registers; states = x.0 }, x.1)
unfolding table_at
table_by ins outs bytes k n r1 arrays r2 registers r3 count r4 a b c d e f =
    let g = ap (λ (j : ℕ). states_of ins outs j registers count r4) (sym e) ∙ f in
    rw (a, b, c, d, g) refl

pub table_fails : (e : Stop) (ins outs : ℕ) (bytes : List ℕ) (k n : ℕ) (r1 : List ℕ) (arrays r2 : List ℕ) (registers : ℕ) (r3 : List ℕ) (count : ℕ) (r4 : List ℕ)
    → word_in 0 16 bytes ≡ Ok (n, r1) → many length_at n [] r1 ≡ Ok (arrays, r2) → word_in 64 65535 r2 ≡ Ok (registers, r3) → word_in 1 65535 r3 ≡ Ok (count, r4)
    → k ≡ length arrays → Fails e (states_of ins outs k registers count r4) → Fails e (table_at ins outs bytes)
unfolding table_at
table_fails stop.Memory ins outs bytes k n r1 arrays r2 registers r3 count r4 a b c d e f = tt
table_fails (stop.BadField bad) ins outs bytes k n r1 arrays r2 registers r3 count r4 a b c d e f =
    let g = ap (λ (j : ℕ). states_of ins outs j registers count r4) (sym e) ∙ f in
    rw (a, b, c, d, g) refl
