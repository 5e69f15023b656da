-- `edf::read_pixel` meets its contract. A slice of u8 holds bytes.
use Rattle.delivery.proofs.Planes.{octets_all}
use Rattle.edf.proofs.read_pixel.Goals as goal

pub returns : goal.returns
returns c = (c.read_pixel.ensures, octets_all c.args.file.now (λ k. (c.shared_slice_known-1.given k).fits))
