use Rattle.std.proofs.Common.{rules, ◌≡◌, ◌++◌, string_bytes}
use Rattle.pld_script.specs.Chain.{before_number, behind_number, operator_text}
use Rattle.pld_script.proofs.Joining.{joins_four}
use Rattle.pld_script.proofs.chain.put_operator.Goals as goal

pub returns : goal.returns
unfolding operator_text
returns c =
    let before : string_bytes c.push_str.new.self ≡ string_bytes c.put_op.new.text ++ before_number = search rules in
    let behind : string_bytes c.push_str-2.new.self ≡ string_bytes c.put_number.new.text ++ behind_number = search rules in
    joins_four _ _ _ _ _ _ _ _ _ c.in_ok-put_op.ensures before c.in_ok-put_number.ensures behind
