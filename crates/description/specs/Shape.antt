-- The type, Dims and order of indices of a description.
use Rattle.std.specs.Prelude.{List, [], ◌∷◌, ℕ, take}
use Rattle.raster.specs.Axis.{Axis, order_of}
use Rattle.raster.specs.Types.{DataType, type_of}
use Rattle.description.specs.declared.Description.{Description}

abbrev pub array_type : Description → DataType
array_type d = type_of d.datatype

abbrev pub array_dims : Description → List ℕ
array_dims d = take d.n (d.dim1 ∷ d.dim2 ∷ d.dim3 ∷ [])

abbrev pub array_order : Description → List Axis
array_order d = order_of d.n d.configuration
