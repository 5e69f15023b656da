-- The main theorems about arrays, stated of the calls as Main states them: one pixel and the array are one thing seen twice, in any file, in
-- either byte order; and an array that is stored as it is delivered.
use Rattle.scan.specs.Outcome.{Outcome}
use Rattle.std.specs.Prelude.{ℕ, Ok}
use Rattle.raster.specs.declared.Pixel.{Pixel}
use mathlib.Core.Path.{◌≡◌, ◌∙◌}
use mathlib.Core.Bool.{true}
use mathlib.Core.List.{List}
use Prim.Native.Nat.{ℕ, ◌+◌, ◌*◌, ◌≤◌, ◌<◌}
use native.Mathlib.Omega.{arith}
use lib.ListN.{length, take, drop}
-- ---- Answers of the calls
use Rattle.description.specs.declared.Description.{Description}
use Rattle.stored.specs.declared.StoredArray.{StoredArray}
-- ---- Definitions
use Rattle.scan.specs.Byte.{part_of}
use Rattle.raster.specs.Bytes.{number_of}
use Rattle.raster.specs.Pixels.{pixel_of}
use Rattle.raster.specs.Position.{product}
use Rattle.description.specs.Shape.{array_type, array_dims}
use Rattle.edf.specs.Calls.{Puts, Describe, ReadArray, Stores, ReadPixel}
-- ---- Laws
use Rattle.edf.proofs.CallLaws.{with_room, delivered-length, delivered_pixel}
use Rattle.edf.proofs.CallLaws.{stored_description, stored_long, stored_within, part_long}

module _ (s : List ℕ) (block order : ℕ) (d : Description) (before after : List ℕ) (n : ℕ)
    (describe : Describe s block (Ok d)) (read : ReadArray s block order before (Ok n) after) where
  -- The bytes delivered are as many as the description says, and `read_pixel` gives the value of those at its index.
  pub array_length : n ≡ product (array_dims d) * (array_type d).width
  array_length = delivered-length s block order describe read

  pub pixel_of_array : {i1 i2 i3 : ℕ} {r : Outcome Pixel} → i1 < d.dim1 → i2 < d.dim2 → i3 < d.dim3 → ReadPixel s block i1 i2 i3 r
      → let w = (array_type d).width in
      let bytes = take w (drop (w * (i1 + d.dim1 * (i2 + d.dim2 * i3))) (take n after)) in
      r ≡ Ok (pixel_of (array_type d).class w (number_of order bytes))
  pixel_of_array {i1} {i2} {i3} {r} h1 h2 h3 c =
      (c.answers ∙ delivered_pixel s block order describe read c.octets i1 i2 i3 h1 h2 h3)

module _ (s : List ℕ) (block order : ℕ) (a : StoredArray) (call : Stores s block order (Ok a)) where
  -- The description of a stored array is that of `describe`; the span is as long as it says, and lies inside the file.
  pub stored_describes : {r : Outcome Description} → Describe s block r → r ≡ Ok a.description
  stored_describes {r} c = (c.answers ∙ stored_description call)

  pub stored_span : (a.span.length ≡ product (array_dims a.description) * (array_type a.description).width)
      × (a.span.offset + a.span.length ≤ length s)
  stored_span = (stored_long call, stored_within call)

  -- Where the answer says that the array is stored as it is delivered, `read_array` gives the bytes there.
  pub stored_reads : a.delivered ≡ true → {before after : List ℕ} {r : Outcome ℕ} → a.span.length ≤ length before
      → ReadArray s block order before r after → Puts (part_of s a.span) before r after
  stored_reads same h c = with_room (call.delivers same) (omega (arith, part_long call)) c
