-- What structs of the code stand for.
use Rattle.image_form.specs.declared.micros.Limits.{Limits}
use Rattle.image_form.specs.declared.reading.Header.{Header}
use Rattle.image_form.specs.Reading.{Header as Head}
use Rattle.image_form.specs.Tables.{Bounds}

abbrev pub bounds_in : Limits → Bounds
bounds_in l = record { ins = l.ins; outs = l.outs; arrays = l.arrays; registers = l.registers; states = l.states }

abbrev pub header_in : Header → Head
header_in h = record { kind = h.kind; ins = h.ins; outs = h.outs }
