use lib.Ieee.{binary64, of_int}
use mathlib.Core.Bool.{false}
use lib.Ieee.Back.{round_whole}
use Rattle.scaling.proofs.scale.exactly.Goals as goal

pub returns : goal.returns
unfolding of_int
returns c = round_whole binary64 false c.args.c c.requires
