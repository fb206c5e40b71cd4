-- Designs that can be run.
use Rattle.std.specs.Prelude.{◌≡◌, ℕ, ◌≤◌, ◌<◌, ◌^◌, List, length, Some, None, slice_get, slice_index_or}
use Rattle.std.specs.List.{All, AllByRecursion}
use Rattle.pld_base.specs.Words.{IsWord}
use Rattle.pld_base.specs.Machine.{machine}
use Rattle.pld_base.specs.Process.{Process, IsProcess, WritesWords, idle}
use Rattle.pld_kahn.specs.Realises.{Realises}
use Rattle.pld_graph.specs.Design.{Design, inputs, operator_at, open_port}
use Rattle.pld_graph.specs.Sound.{IsSound}
use Rattle.image_form.specs.Spelling.{Form, IsForm}
use Rattle.pld_image.specs.Cores.{load, next}
use Rattle.pld_image.specs.Ports.{ins_of, outs_of}
use Rattle.pld_link.specs.Seats.{IsPlacement}
use Rattle.fabric_plan.specs.Plans.{Given}
use Rattle.fabric_plan.specs.Standing.{AreStanding}

-- each operator has a leaf of its own in the design's tree
pub record ArePlaced (d : Design) (leaves : List ℕ) : Type 0 where
  pub placement : IsPlacement d leaves
  pub within : All (λ leaf. leaf < 2 ^ d.depth) leaves

-- each operator has an image in range, with its counts of ports
pub record HaveImages (d : Design) (images : List Form) : Type 0 where
  pub many : length images ≡ length d.operators
  pub forms : All IsForm images
  pub ins : (k : ℕ) (image : Form) → slice_get images k ≡ Some image → ins_of image ≡ (operator_at d.operators k).ins
  pub outs : (k : ℕ) (image : Form) → slice_get images k ≡ Some image → outs_of image ≡ (operator_at d.operators k).outs

-- each input has its words
pub record AreFed (d : Design) (feeds : List (List ℕ)) : Type 0 where
  pub many : length feeds ≡ length (inputs d.channels)
  pub short : All (λ feed. length feed ≤ 65536) feeds
  pub words : All (All IsWord) feeds

-- the operators mean these processes, and each image does what its operator means
pub record KeepMeaning (images : List Form) (operators : List Process) : Type 0 where
  pub many : length operators ≡ length images
  pub processes : AllByRecursion IsProcess operators
  pub realise : (k : ℕ) (image : Form) → slice_get images k ≡ Some image → Realises (machine next (load image)) (slice_index_or operators k idle)
  pub write : (k : ℕ) (image : Form) → slice_get images k ≡ Some image → WritesWords (machine next (load image))

-- a sound design, each of whose ports is in a channel, with all that its run is given
pub record IsRunnable (d : Design) (given : Given) : Type 0 where
  pub sound : IsSound d
  pub closed : open_port d ≡ None
  pub an_operator : 1 ≤ length d.operators
  pub placed : ArePlaced d given.leaves
  pub images : HaveImages d given.images
  pub fed : AreFed d given.feeds
  pub before : AreStanding d.depth given.before
  pub a_round : 1 ≤ given.rounds
