-- What every description keeps that a block's fields give, with the size of the block's data: what delivery goes by.
use Rattle.std.specs.Prelude.{◌≡◌, ◌⊎◌, ℕ, ◌*◌, ◌≤◌, ◌<◌}
use Rattle.raster.specs.Axis.{configurations}
use Rattle.raster.specs.Position.{product}
use Rattle.description.specs.Limits.{most_dims, dim_limit}
use Rattle.description.specs.Shape.{array_type, array_dims}
use Rattle.description.specs.declared.Description.{Description}

pub record ValidArray (d : Description) (size : ℕ) : Type 0 where
  -- The codes of the type and of the byte order are those of words.
  pub type_known : (1 ≤ d.datatype) × (d.datatype ≤ 10)
  pub order_known : (1 ≤ d.byteorder) × (d.byteorder ≤ 2)
  pub at_least_one : 1 ≤ d.n
  pub few : d.n ≤ most_dims
  -- "Dim_1 to Dim_3 | 1 to 1,048,576", or "With no Dim_1, N is 1 and Dim_1 is 0"; those past N are 1.
  pub some1 : (1 ≤ d.dim1) ⊎ ((d.dim1 ≡ 0) × (d.n ≡ 1))
  pub some2 : 1 ≤ d.dim2
  pub some3 : 1 ≤ d.dim3
  pub most : (d.dim1 ≤ dim_limit) × (d.dim2 ≤ dim_limit) × (d.dim3 ≤ dim_limit)
  pub past2 : d.n < 2 → d.dim2 ≡ 1
  pub past3 : d.n < 3 → d.dim3 ≡ 1
  -- "1 to 2^N N!"
  pub configured : (1 ≤ d.configuration) × (d.configuration ≤ configurations d.n)
  -- The data holds the array.
  pub stored : product (array_dims d) * (array_type d).width ≤ size
