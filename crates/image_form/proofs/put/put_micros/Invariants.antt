use Rattle.std.proofs.Common.{◌≡◌, ◌++◌, take}
use Rattle.std.specs.List.{flat_map}
use Rattle.image_form.specs.Spelling.{micro_bytes}
use Rattle.image_form.proofs.put.put_micros.Given as goal

abbrev pub invariant-loop-m : goal.invariant-loop-m
invariant-loop-m l = l.out.items ≡ l.initial.out.items ++ flat_map micro_bytes (take l.m-index l.micros)
