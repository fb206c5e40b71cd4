-- The words of a list of events.
use Rattle.std.specs.Prelude.{ℕ, ◌==◌, List, [], ◌∷◌, if◌then◌else◌}
use Rattle.pld_base.specs.declared.event.Event.{Event}
use Rattle.pld_base.specs.declared.event.Event.TheVariants.{Read, Write}

-- the words read at a port, in order
abbrev pub words_read : List Event → ℕ → List ℕ
words_read [] port = []
words_read (Read p word ∷ events) port =
    if p.0 == port then word ∷ words_read events port else words_read events port
words_read (Write p word ∷ events) port = words_read events port

-- the words written at a port, in order
abbrev pub words_written : List Event → ℕ → List ℕ
words_written [] port = []
words_written (Read p word ∷ events) port = words_written events port
words_written (Write p word ∷ events) port =
    if p.0 == port then word ∷ words_written events port else words_written events port
