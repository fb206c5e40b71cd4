-- Networks of processes that are joined by channels.
use Rattle.std.specs.Prelude.{ℕ, List, [], map, slice_index_or}
use Rattle.pld_base.specs.Process.{Returned, Starved, Process, IsProcess, idle}
use Rattle.pld_base.specs.Channels.{Node, OperatorNode, InputNode, OutputNode, Wiring, IsPointToPoint}
use Rattle.pld_base.specs.declared.event.Event.{Event}
use Rattle.pld_base.specs.declared.event.Event.TheVariants.{Read, Write}

-- what each operator does, which words each input has, and which ports are joined
pub record Network : Type 0 where
  pub operator : ℕ → Process
  pub feed : ℕ → List ℕ
  pub wiring : Wiring

-- each operator is a process with blocking reads, and no out-port is in two channels
pub record IsKahnNetwork (net : Network) : Type 0 where
  pub processes : (number : ℕ) → IsProcess (net.operator number)
  pub point_to_point : IsPointToPoint net.wiring

-- the events of an input that sends these words, and of an output that receives them
abbrev pub sends : List ℕ → List Event
sends words = map (λ word. Write (record { 0 = 0 }) word) words

abbrev pub receives : List ℕ → List Event
receives words = map (λ word. Read (record { 0 = 0 }) word) words

-- an input writes its words and returns, and an output reads for ever
abbrev pub process_of : Network → Node → Process
process_of net (OperatorNode number) = net.operator number
process_of net (InputNode number) = λ ins turns. record { events = sends (net.feed number); end = Returned }
process_of net (OutputNode number) = λ ins turns. record { events = receives (ins 0); end = Starved 0 }

-- the network of a finite design; beyond its lists stand operators that return at once and inputs with no words
abbrev pub network_of : List Process → List (List ℕ) → Wiring → Network
network_of operators feeds wiring =
    record { operator = λ number. slice_index_or operators number idle; feed = λ number. slice_index_or feeds number []; wiring = wiring }
