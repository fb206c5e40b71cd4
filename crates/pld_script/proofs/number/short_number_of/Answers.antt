use Rattle.std.proofs.Common.{rules, ◌<◌, ◌≡◌, nat_le, length, arith, true}
use Rattle.std.proofs.lemmas.Bool.Decides.{nat_tests}
use Rattle.pld_script.proofs.Counting.{short_value}
use Rattle.pld_script.proofs.number.short_number_of.Goals as goal

pub overflow_cast-result : goal.overflow_cast-result
overflow_cast-result c =
    let small : c.in_ok-number.field-0 < 1000 = (short_value c.args.word.now c.in_ok-number.field-0 (omega arith) c.in_ok-number.ensures).0 in
    search rules

pub returns : goal.returns
returns c =
    let short : nat_le (length c.args.word.now) 3 ≡ true = grind (arith, nat_tests) in
    rw short ((short_value c.args.word.now c.in_ok-number.field-0 (omega arith) c.in_ok-number.ensures).1)
