use Rattle.std.proofs.Common.{◌≡◌, ◌++◌, drop, string_bytes}
use Rattle.std.specs.List.{flat_map}
use Rattle.asm_list.specs.Listing.{word_line}
use Rattle.asm_list.proofs.answers.put_words.Given as goal

abbrev pub invariant-loop-word : goal.invariant-loop-word
invariant-loop-word l = string_bytes l.said ++ flat_map word_line (drop l.word-index l.words) ≡ string_bytes l.initial.said ++ flat_map word_line l.words
