-- The order of elements exchanged.
use Rattle.std.specs.Prelude.{false, List, ℕ, ◌-◌, ◌/◌}
use Rattle.raster.specs.Strided.{turned, row_of}

-- Sixteen bytes as elements of w bytes, the last of them first.
abbrev pub exchanged : ℕ → List ℕ → List ℕ
exchanged w l = row_of (turned false) w l (16 - w) 0 w (16 / w)
