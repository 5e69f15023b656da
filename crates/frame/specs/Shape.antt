-- Three dimensions, and those of a frame.
use Rattle.std.specs.Prelude.{◌≡◌, List, [], ◌∷◌, ℕ, ◌≤◌, ◌<◌, take}
use Rattle.frame.specs.File.{frame_dims}
use Rattle.description.specs.Limits.{dim_limit}
use Rattle.frame.specs.declared.Frame.{Frame}
use Rattle.frame.specs.declared.dims.Shape.{Shape}

abbrev pub shape_dims : Shape → List ℕ
shape_dims s = s.dim1 ∷ s.dim2 ∷ s.dim3 ∷ []

-- The sizes that dimensions and elements have.
pub record Small (s : Shape) : Type 0 where
  pub some1 : 1 ≤ s.dim1
  pub some2 : 1 ≤ s.dim2
  pub some3 : 1 ≤ s.dim3
  pub few1 : s.dim1 ≤ dim_limit
  pub few2 : s.dim2 ≤ dim_limit
  pub few3 : s.dim3 ≤ dim_limit

-- The dimensions of a frame, with 1 past the last.
pub record IsShape (f : Frame) (s : Shape) : Type 0 where
  pub dims : take f.n (shape_dims s) ≡ frame_dims f
  pub second : f.n < 2 → s.dim2 ≡ 1
  pub third : f.n < 3 → s.dim3 ≡ 1
  pub small : Small s
