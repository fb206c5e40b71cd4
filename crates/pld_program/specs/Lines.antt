-- What standard error says of the way in which a session ended.
use Rattle.std.specs.Prelude.{ℕ, ◌⊎◌, List, [], codes}
use Rattle.pld_io.specs.Outside.{SinkState, Accepts}
use Rattle.pld_driver.specs.Outcome.{WritesPart}
use Rattle.pld_driver.specs.declared.status.Status.{Status}
use Rattle.pld_driver.specs.declared.status.Status.TheVariants.{Fine, SomeRefused, Usage, ReadFault, WriteFault, NoMemory, TooLong}

-- a line with its end, or nothing
abbrev pub line_of : Status → List ℕ
line_of Fine = []
line_of SomeRefused = []
line_of Usage = codes "pld: usage: pld plain|work --workers K|big N [--rounds N]\n"
line_of ReadFault = codes "pld: read fault\n"
line_of WriteFault = codes "pld: write fault\n"
line_of NoMemory = codes "pld: out of memory\n"
line_of TooLong = codes "pld: session text too long\n"

-- The whole line was put, or a part of it that isn't all, and then the sink failed.
abbrev pub PutsLine : SinkState → SinkState → List ℕ → Type 0
PutsLine old new line = Accepts old new line ⊎ WritesPart old new line
