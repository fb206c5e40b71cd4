-- The numbers of the statuses.
use Rattle.std.specs.Prelude.{ℕ}
use Rattle.pld_driver.specs.declared.status.Status.{Status}
use Rattle.pld_driver.specs.declared.status.Status.TheVariants.{Fine, SomeRefused, Usage, ReadFault, WriteFault, NoMemory, TooLong}

-- the number with which a status is told
abbrev pub number_of : Status → ℕ
number_of Fine = 0
number_of SomeRefused = 1
number_of Usage = 2
number_of ReadFault = 3
number_of WriteFault = 4
number_of NoMemory = 5
number_of TooLong = 6
