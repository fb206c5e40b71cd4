-- How long the parts of the reply to a run are.
use Rattle.std.proofs.Common.{◌≡◌, ℕ, zero, suc, ◌+◌, ◌*◌, ◌^◌, ◌<◌, ◌≤◌, List, [], ◌∷◌, ◌++◌, length, length-append, Option, Some, None, refl, arith}
use Rattle.std.specs.Prelude.{decimal, codes}
use Rattle.std.specs.List.{All}
use Rattle.std.proofs.lemmas.Fmt.{length-decimal-le}
use Rattle.std.proofs.lemmas.List.Elements.{All-head, All-tail}
use Rattle.std.proofs.Math.Nat.{mul-suc}
use Rattle.pld_base.specs.declared.event.Side.{Side}
use Rattle.pld_base.specs.declared.event.Side.TheVariants.{In, Out}
use Rattle.pld_base.specs.Words.{IsWord}
use Rattle.fabric_run.specs.declared.row.Outcome.{Outcome}
use Rattle.fabric_run.specs.declared.row.Outcome.TheVariants.{Done, Stalled, Spent}
use Rattle.fabric_run.specs.declared.row.Blocked.{Blocked}
use Rattle.fabric_run.specs.Shown.{Shown}
use Rattle.fabric_run.specs.Reply.{outcome_line, port_text, at_line, at_lines, spaced, out_line, lines_below, reply}
use Rattle.pld_reply.specs.Sizes.{AreShort, HasOuts, HasBytePorts, run_room}

long : (n : ℕ) → n < 2 ^ 64 → length (decimal n) ≤ 20
long n h = length-decimal-le 20 n (omega arith) (omega arith) h

of_word : (n : ℕ) → n < 2 ^ 32 → length (decimal n) ≤ 10
of_word n h = length-decimal-le 10 n (omega arith) (omega arith) (omega arith)

of_port : (n : ℕ) → n < 2 ^ 8 → length (decimal n) ≤ 3
of_port n h = length-decimal-le 3 n (omega arith) (omega arith) (omega arith)

of_outcome : (end : Option Outcome) (rounds : ℕ) → rounds < 2 ^ 64 → length (outcome_line end rounds) ≤ 27
of_outcome None rounds h = omega arith
of_outcome (Some Done) rounds h = omega arith
of_outcome (Some Stalled) rounds h = omega arith
of_outcome (Some Spent) rounds h = omega (arith, length-append (decimal rounds) (10 ∷ []), long rounds h)

of_place : (side : Side) (port : ℕ) → port < 2 ^ 8 → length (port_text side port) ≤ 11
of_place In port h = omega (arith, length-append (decimal port) (codes " empty"), of_port port h)
of_place Out port h = omega (arith, length-append (decimal port) (codes " full"), of_port port h)

of_at : (name : List ℕ) (o : Option Blocked) → length name ≤ 32 → ((at : Blocked) → o ≡ Some at → at.port.0 < 2 ^ 8) → length (at_line name o) ≤ 47
of_at name None h small = omega arith
of_at name (Some at) h small =
    let place = port_text at.side at.port.0 in
    omega (arith, length-append (name ++ place) (10 ∷ []), length-append name place, of_place at.side at.port.0 (small at refl))

of_words : (words : List ℕ) → All IsWord words → length (spaced words) ≤ 11 * length words
of_words [] all = omega arith
of_words (w ∷ words) all =
    omega (arith, length-append (32 ∷ decimal w) (spaced words), of_word w (All-head IsWord w words all), of_words words (All-tail IsWord w words all))

of_out : (name words : List ℕ) (rounds : ℕ) → length name ≤ 32 → length words ≤ rounds → rounds < 2 ^ 64 → All IsWord words → length (out_line name words) ≤ 58 + 11 * rounds
of_out name words rounds short few small all =
    let count = 32 ∷ decimal (length words) in
    omega (arith, length-append ((name ++ count) ++ spaced words) (10 ∷ []), length-append (name ++ count) (spaced words), length-append name count, long (length words) (omega arith), of_words words all)

of_lines : (line : ℕ → List ℕ) (most n : ℕ) → ((k : ℕ) → length (line k) ≤ most) → length (lines_below line n) ≤ most * n
of_lines line most zero h = omega arith
of_lines line most (suc n) h = omega (arith, length-append (lines_below line n) (line n), mul-suc most n, of_lines line most n h, h n)

of_ports : (names : ℕ → List ℕ) (end : Option Outcome) (ports : ℕ → Option Blocked) (n : ℕ) → AreShort names → ((k : ℕ) (at : Blocked) → ports k ≡ Some at → at.port.0 < 2 ^ 8) → length (at_lines names end ports n) ≤ 47 * n
of_ports names None ports n short small = omega arith
of_ports names (Some Done) ports n short small = omega arith
of_ports names (Some Spent) ports n short small = omega arith
of_ports names (Some Stalled) ports n short small = of_lines (λ k. at_line (names k) (ports k)) 47 n (λ k. of_at (names k) (ports k) (short k) (small k))

pub reply_is_short : (names outputs : ℕ → List ℕ) (operators outs rounds : ℕ) (s : Shown) → AreShort names → AreShort outputs → rounds < 2 ^ 64 → HasOuts rounds s → HasBytePorts s → length (reply names outputs operators outs s) ≤ run_room operators outs rounds
reply_is_short names outputs operators outs rounds s short short' small has ports =
    let first = outcome_line s.outcome s.rounds in
    let at = at_lines names s.outcome s.port operators in
    let line : ℕ → List ℕ = λ k. out_line (outputs k) (s.words k) in
    let words = lines_below line outs in
    omega (
      arith,
      length-append first (at ++ words),
      length-append at words,
      of_outcome s.outcome s.rounds (omega (arith, has.made, small)),
      of_ports names s.outcome s.port operators short ports,
      of_lines line (58 + 11 * rounds) outs (λ k. of_out (outputs k) (s.words k) rounds (short' k) (has.few k) small (has.words k)),
    )
