-- `edf::write` meets its contract. The frame's numbers are i64, and a slice of u8 holds bytes.
use mir.Syntax.{w64}
use mir.Val.{SFits}
use borrow.Author.Rules.{rules}
use Rattle.delivery.proofs.Planes.{octets_all}
use Rattle.frame.proofs.FileLengths.{fits_file}
use Rattle.edf.proofs.write.Goals as goal

pub returns : goal.returns
returns c =
    let sequence-fits : SFits w64 c.args.frame.sequence = search rules in
    let memory-fits : SFits w64 c.args.frame.memory = search rules in
    let octets = octets_all c.args.pixels.now (λ k. (c.shared_slice_known-2-1.given k).fits) in
    record { result_value = (c.write.ensures.result_value, c.write.ensures.out_after); sfits = (sequence-fits, memory-fits, octets, fits_file _ _ _) }
