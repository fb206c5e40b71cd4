-- The words of a sound program's code do what its instructions do.
use Rattle.std.proofs.Common.{◌≡◌, ◌≢◌, ℕ, zero, suc, ◌≤◌, List, [], ◌∷◌, length, map, refl, sym, ap, subst, arith}
use Rattle.std.proofs.Math.Path.{fun_ext}
use Rattle.std.proofs.lemmas.List.{length-map}
use Rattle.std.proofs.lemmas.List.Elements.{All-nil, All-cons}
use Rattle.std.specs.Prelude.{slice_get, All, is_some}
use Rattle.std.specs.List.{AllByRecursion}
use Rattle.pld_base.specs.Pages.{Trapped as HasTrapped}
use Rattle.pld_base.specs.Process.{Inputs, Process, AreWords, WritesWords}
use Rattle.pld_kahn.specs.Realises.{Realises}
use Rattle.rv_isa.specs.Spelling.{spelling, IsInstr}
use Rattle.rv_isa.specs.declared.instr.Instr.{Instr}
use Rattle.rv_isa.proofs.Spelled.{spelled}
use Rattle.rv_core.specs.Machine.{Code}
use Rattle.rv_core.specs.Page.{standing, page_on}
use Rattle.rv_core.specs.Process.{soft_process, page_after}
use Rattle.rv_core.specs.Code.{code_of_words, word_process}
use Rattle.rv_core.proofs.Decoded.{same_process}
use Rattle.image_form.specs.Spelling.{Soft, IsCode, IsForm}
use Rattle.pld_image.specs.Traps.{WordsNeverTrap}
use Rattle.pld_ast.specs.Program.{Program}
use Rattle.pld_ast.specs.Sound.{IsSound}
use Rattle.pld_ast.specs.Meaning.{trace}
use Rattle.rv_back.specs.Code.{soft_code}
use Rattle.rv_back.proofs.Lengths.{program_short}
use Rattle.rv_back.proofs.Ranged.{code_ranged}
use Rattle.rv_back.proofs.Realised.{code_realises, code_never_traps, code_writes_words}

-- each word is the word of an instruction
words_decode : (code : List Instr) → AllByRecursion IsInstr code → All IsCode (map spelling code)
words_decode [] h = All-nil IsCode
words_decode (i ∷ is) h = All-cons IsCode (spelling i) (map spelling is) (ap is_some (spelled i h.0)) (words_decode is h.1)

at_place : (code : List Instr) → AllByRecursion IsInstr code → (k : ℕ) → code_of_words (map spelling code) k ≡ slice_get code k
at_place [] h k = refl
at_place (i ∷ is) h zero = spelled i h.0
at_place (i ∷ is) h (suc k) = at_place is h.1 k

same_code : (code : List Instr) → AllByRecursion IsInstr code → code_of_words (map spelling code) ≡ slice_get code
same_code code h = fun_ext (at_place code h)

module _ (g : Program) (sound : IsSound g) where
  abbrev words : List ℕ
  words = map spelling (soft_code g)

  pub words_short : length words ≤ 12005
  words_short = omega (arith, length-map (soft_code g) spelling, program_short g.lengths g.body 1000 sound.nodes)

  some_words : 1 ≤ length words
  some_words = omega arith

  pub words_in_range : IsForm (Soft g.ins g.outs words)
  words_in_range = (sound.ins, sound.outs, some_words, (let short = words_short in omega arith), words_decode (soft_code g) (code_ranged g sound))

  same : word_process words g.ins g.outs ≡ soft_process (soft_code g) g.ins g.outs
  same = same_process (soft_code g) g.ins g.outs (code_ranged g sound)

  pub words_realise : Realises (word_process words g.ins g.outs) (trace g)
  words_realise = subst (λ (p : Process). Realises p (trace g)) (sym same) (code_realises g sound)

  pub words_never_trap : WordsNeverTrap words g.ins g.outs
  words_never_trap =
      subst (λ (code : Code). (feed : Inputs) → AreWords feed → (moves : ℕ) → standing code g.ins g.outs (page_after code g.ins g.outs moves (page_on feed)) ≢ HasTrapped) (sym (same_code (soft_code g) (code_ranged g sound))) (code_never_traps g sound)

  pub words_write_words : WritesWords (word_process words g.ins g.outs)
  words_write_words = subst WritesWords (sym same) (code_writes_words g sound)
