use Rattle.fabric_keeps.specs.Links.{wiring_of}
use Rattle.fabric_keeps.proofs.Configures.{accounted_of, windows_of}
use Rattle.fabric_keeps.proofs.Follows.{follows, run_reached}
use Rattle.fabric_ends.proofs.Resting.{rest_family}
use Rattle.fabric_ends.proofs.rest.rest_is_the_networks.Goals as goal

pub returns : goal.returns
returns g c = record {
  account = λ setup st sound w. accounted_of setup st sound w.world;
  window = λ setup st w. windows_of setup st w.world;
  traces = λ setup st sound w. follows setup (wiring_of setup) st sound w.traced;
  reached = λ setup st sound kahn w. run_reached setup (wiring_of setup) st sound kahn w.traced (windows_of setup st w.world);
  rest = λ setup st sound kahn w s. rest_family setup st sound kahn w s;
}
