-- Where a core stands at a state, and what its step is then.
use Rattle.std.proofs.Common.{◌≡◌, ℕ, zero, suc, ◌<◌, List, [], ◌∷◌, length, get_or, map, Option, Some, Bool, true, false, refl, sym, ap, ◌∙◌, arith}
use Rattle.std.specs.Prelude.{slice_get, if◌then◌else◌}
use Rattle.std.proofs.lemmas.List.{get_or-map}
use Rattle.fsm_core.specs.declared.micro.State.{State}
use Rattle.fsm_core.specs.declared.stand.Stand.{Stand}
use Rattle.fsm_core.specs.declared.stand.Stand.TheVariants as stand
use Rattle.fsm_core.specs.Stands.{stand_by, stand_of}
use Rattle.fsm_core.specs.Shapes.{Cells, Stream, Quiet, Takes, Gives, stream_in}
use Rattle.fsm_core.specs.Machine.{Stage, Step, Ended, is_over, by_stream, step_at, stage_at, hard_step}
use Rattle.fsm_core.specs.Table.{stage_in}
use Rattle.fsm_core.proofs.CoreSteps.{stage_found}

pub over_is : (s : State) → is_over s.micros.items s.next ≡ true → stand.Over ≡ stand_of s
over_is s over = sym (ap (λ b. stand_by b (stream_in s.micros.items)) over)

told : (s : State) (a : Stream) → is_over s.micros.items s.next ≡ false → stream_in s.micros.items ≡ a → stand_of s ≡ stand_by false a
told s a over stream = ap (λ b. stand_by b (stream_in s.micros.items)) over ∙ ap (stand_by false) stream

pub quiet_is : (s : State) → is_over s.micros.items s.next ≡ false → stream_in s.micros.items ≡ Quiet → stand.Quiet ≡ stand_of s
quiet_is s over stream = sym (told s Quiet over stream)

pub takes_is : (s : State) (p : ℕ) → is_over s.micros.items s.next ≡ false → stream_in s.micros.items ≡ Takes p → stand.Takes p ≡ stand_of s
takes_is s p over stream = sym (told s (Takes p) over stream)

pub gives_is : (s : State) (p a : ℕ) → is_over s.micros.items s.next ≡ false → stream_in s.micros.items ≡ Gives p a → stand.Gives p a ≡ stand_of s
gives_is s p a over stream = sym (told s (Gives p a) over stream)

pub stand_found : (states : List State) (stands : List Stand) (i : ℕ) (d : Stand) (s : State) → stands ≡ map stand_of states → i < length states → d ≡ get_or stands i d → d ≡ stand_of (get_or states i s)
stand_found states stands i d s all lt is = is ∙ ap (λ x. get_or x i d) all ∙ get_or-map stand_of states i s d lt

-- there is a state with this number
pub found : (xs : List State) (i : ℕ) → i < length xs → (s : State) × (s ≡ get_or xs i s)
found [] i lt = absurd (omega arith)
found (x ∷ xs) zero lt = (x, refl)
found (x ∷ xs) (suc i) lt = found xs i (omega arith)

-- the step of a core that stands so
abbrev pub stood : Stand → List ℕ → Stage → Cells → Step
stood stand.Over l s c = Ended
stood stand.Quiet l s c = by_stream Quiet l s c
stood (stand.Takes p) l s c = by_stream (Takes p) l s c
stood (stand.Gives p a) l s c = by_stream (Gives p a) l s c

stood_by : (over : Bool) (a : Stream) (l : List ℕ) (s : Stage) (c : Cells) → (if over then Ended else by_stream a l s c) ≡ stood (stand_by over a) l s c
stood_by true a l s c = refl
stood_by false Quiet l s c = refl
stood_by false (Takes p) l s c = refl
stood_by false (Gives p a) l s c = refl

pub step_stands : (states : List State) (l : List ℕ) (at : Option ℕ) (x : Cells) (i : ℕ) (s : State) (d : Stand) → at ≡ Some i → i < length states → s ≡ get_or states i s → d ≡ stand_of (get_or states i s) → hard_step (slice_get (map stage_in states)) l (record { at = at; cells = x }) ≡ stood d l (stage_in s) x
step_stands states l at x i s d h lt is e =
    ap (λ p. step_at l (stage_at (slice_get (map stage_in states)) p) x) h ∙ ap (λ o. step_at l o x) (stage_found states i s lt is)
    ∙ stood_by (is_over s.micros.items s.next) (stream_in s.micros.items) l (stage_in s) x ∙ ap (λ y. stood y l (stage_in s) x) (sym (e ∙ ap stand_of (sym is)))

gives_by : (over : Bool) (st : Stream) (p a : ℕ) → stand.Gives p a ≡ stand_by over st → st ≡ Gives p a
gives_by true st p a e = absurd (let no : ⊥ = cc e in no)
gives_by false Quiet p a e = absurd (let no : ⊥ = cc e in no)
gives_by false (Takes q) p a e = absurd (let no : ⊥ = cc e in no)
gives_by false (Gives q b) p a e = let port : q ≡ p = cc e in let reg : b ≡ a = cc e in (λ i. Gives (port i) (reg i))

pub gives_told : (s : State) (p a : ℕ) → stand.Gives p a ≡ stand_of s → stream_in s.micros.items ≡ Gives p a
gives_told s p a e = gives_by (is_over s.micros.items s.next) (stream_in s.micros.items) p a e
