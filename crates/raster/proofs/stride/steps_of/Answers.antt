-- `raster::stride::steps_of` meets its contract: the lines of the three indices in the order of the configuration.
use mathlib.Core.Path.{◌∙◌}
use Rattle.raster.proofs.StepLaws.{steps_along-lines, lines_fit}
use Rattle.raster.proofs.stride.steps_of.Goals as goal

pub steps_along-requires : goal.steps_along-requires
steps_along-requires c =
    let both = lines_fit c.args.width c.args.configuration c.args.dim1 c.args.dim2 c.args.dim3 c.order_of-o.result c.line_of-x.result c.line_of-y.result c.line_of-z.result
    c.order_of-o.ensures c.line_of-x.ensures c.line_of-y.ensures c.line_of-z.ensures c.requires.le_configuration.1 c.requires.le_dim1.0 c.requires.le_dim1.1 c.requires.le_dim1.2 c.requires.dim3_bound in record { le_dim = both.0; z_bound = both.1 }

pub returns : goal.returns
returns c =
    c.steps_along.ensures ∙ steps_along-lines c.args.width c.args.configuration c.args.dim1 c.args.dim2 c.args.dim3 c.order_of-o.result c.line_of-x.result c.line_of-y.result c.line_of-z.result
    c.order_of-o.ensures c.line_of-x.ensures c.line_of-y.ensures c.line_of-z.ensures
