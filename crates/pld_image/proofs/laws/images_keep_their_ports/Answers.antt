use Rattle.pld_image.proofs.Ports.{keeps_ports}
use Rattle.pld_image.proofs.laws.images_keep_their_ports.Goals as goal

pub returns : goal.returns
returns c = keeps_ports
