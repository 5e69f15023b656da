-- `array::read::sample_described` meets its contract.
use mathlib.Core.Path.{sym, ◌∙◌}
use Rattle.array.proofs.ReadLaws.{sample_refused, sample_is}
use Rattle.array.proofs.read.sample_described.Goals as goal

pub returns-then-not-is_index : goal.returns-then-not-is_index
returns-then-not-is_index c =
    sample_refused c.args.d c.args.src.now c.args.i1 c.args.i2 c.args.i3 (sym c.is_index.ensures ∙ c.if-not-is_index.true)

pub pixel_of-requires : goal.pixel_of-requires
pixel_of-requires c =
    record { valid_array = c.requires; i3_value = sym c.is_index.ensures ∙ c.if-not-is_index.false }

pub returns : goal.returns
returns c =
    sample_is c.args.d c.args.src.now c.args.i1 c.args.i2 c.args.i3 (sym c.is_index.ensures ∙ c.if-not-is_index.false)
    c.pixel_of.ensures
