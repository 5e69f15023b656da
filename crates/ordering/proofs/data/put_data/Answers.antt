-- `ordering::data::put_data` meets its contract.
use native.Mathlib.Omega.{arith}
use Rattle.append.proofs.Appending.{within_then, within_is, within_more}
use Rattle.frame.proofs.PixelLengths.{data_length}
use Rattle.ordering.proofs.StoredOrder.{data_is}
use Rattle.ordering.proofs.data.put_data.Goals as goal

pub put_pixels-requires : goal.put_pixels-requires
put_pixels-requires c =
    record { f_value = c.requires.f_value; room = omega (arith, data_length c.args.f c.args.pixels.now c.requires.f_value.1) }

pub append_repeated-requires : goal.append_repeated-requires
append_repeated-requires c = omega (arith, data_length c.args.f c.args.pixels.now c.requires.f_value.1, c.filling.ensures)

pub returns : goal.returns
returns c =
    let size = data_length c.args.f c.args.pixels.now c.requires.f_value.1 in
    within_is (data_is c.args.f c.args.pixels.now c.requires.f_value.1 c.filling.result c.filling.ensures)
    (within_more (omega (arith, size, c.filling.ensures)) (within_then c.put_pixels.ensures c.append_repeated.ensures))
