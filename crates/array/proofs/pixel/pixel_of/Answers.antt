-- `array::pixel::pixel_of` meets its contract: the bits at the place of the element.
use mathlib.Core.Path.{ap, ◌∙◌}
use Rattle.raster.specs.Element.{element_bits}
use Rattle.raster.specs.Pixels.{pixel_of}
use Rattle.description.specs.Shape.{array_type}
use Rattle.array.specs.Delivery.{pixel_at}
use Rattle.array.proofs.pixel.pixel_of.Goals as goal

pub returns : goal.returns
unfolding pixel_at
returns c =
    let t = array_type c.args.d in
    c.pixel_by.ensures
    ∙ ap (pixel_of t.class t.width) (c.bits_of.ensures.value ∙ ap (element_bits t c.args.d.byteorder c.args.d.offset) c.place_of-at.ensures.element)
