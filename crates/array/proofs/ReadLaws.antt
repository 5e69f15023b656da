-- The array of a block of a file and one pixel of it: by the view of the block, its description and its data.
use Rattle.std.specs.Prelude.{Ok, Err}
use Rattle.scan.specs.Outcome.{Outcome, refused, require}
use mathlib.Core.Path.{◌≡◌, refl, sym, subst}
use mathlib.Core.Bool.{true, false}
use mathlib.Core.List.{List}
use Prim.Native.Nat.{ℕ, ◌+◌, ◌≤◌}
use borrow.Author.Tests.{le-leb}
use lib.ListN.{length}
use Rattle.scan.specs.Buffer.{length_written, buffer_after}
use Rattle.scan.specs.Byte.{part_of}
use Rattle.scan.specs.declared.Error.{Error}
use Rattle.text.proofs.Buffers.{of_equal}
use Rattle.keyword.specs.Keyword.{View, view_of}
use Rattle.keyword.specs.Viewing.{view_at}
use Rattle.keyword.specs.declared.Block.{Block}
use Rattle.keyword.proofs.Views.{view_inside}
use Rattle.raster.specs.Strided.{Octets}
use Rattle.raster.specs.declared.Pixel.{Pixel}
use Rattle.raster.proofs.Stored.{octets_part}
use Rattle.description.specs.Describe.{description_in}
use Rattle.description.specs.Valid.{ValidArray}
use Rattle.description.specs.declared.Description.{Description}
use Rattle.description.proofs.DescribedLaws.{step_ok, check_ok, same_ok, block_valid}
use Rattle.strides.proofs.RowLaws.{length_element}
use Rattle.array.specs.Delivery.{Array, data_of, array_of, is_order, delivered, array_in, is_index, pixel_at, pixel_in}
use Rattle.array.specs.Reading.{delivered_in, sampled_in}

-- ---- By a description

module _ (d : Description) (l : List ℕ) where
  pub bad_order : (asked : ℕ) → is_order asked ≡ false → delivered_in d l asked ≡ refused 24 0
  unfolding delivered_in
  bad_order asked e = rw e

  pub good_order : (asked : ℕ) → is_order asked ≡ true → Ok (delivered d asked l) ≡ delivered_in d l asked
  unfolding delivered_in
  good_order asked e = rw e

  module _ (i1 i2 i3 : ℕ) where
    pub sample_refused : is_index d i1 i2 i3 ≡ false → refused 23 0 ≡ sampled_in d l i1 i2 i3
    unfolding sampled_in
    sample_refused e = rw e

    pub sample_is : is_index d i1 i2 i3 ≡ true → {p : Pixel} → p ≡ pixel_at d l i1 i2 i3 → Ok p ≡ sampled_in d l i1 i2 i3
    unfolding sampled_in
    sample_is e q = rw (e, q)

-- In an error the buffer is as it was.
pub unwritten : {o : Outcome (List ℕ)} {x : Error} → Err x ≡ o → (out : List ℕ)
    → (Err x ≡ length_written o out) × (out ≡ buffer_after o out)
unfolding length_written buffer_after
unwritten {o} {x} e out = of_equal out (Err x) o e (refl, refl)

module _ (s : List ℕ) where
  -- ---- The data of a block

  pub data_part : (b : Block) → b.row.start + b.row.header + b.row.size ≤ length s
      → part_of s (record { offset = b.row.start + b.row.header; length = b.row.size }) ≡ data_of s (view_at s b)
  unfolding part_of view_at
  data_part b h = rw (le-leb (b.row.start + b.row.header + b.row.size) (length s) h)

  module _ (k : ℕ) where
    pub row_inside : (b : Block) → Ok (view_at s b) ≡ view_of s k → b.row.start + b.row.header + b.row.size ≤ length s
    unfolding view_at
    row_inside b e = (view_inside s k (view_at s b) (sym e)).0

    -- ---- By the view of a block and its description

    pub no_block : {x : Error} → Err x ≡ view_of s k → Err x ≡ array_of s k
    unfolding array_of
    no_block e = rw (← e)

    module _ (v : View) (e : Ok v ≡ view_of s k) where
      pub no_description : {x : Error} → Err x ≡ description_in v → Err x ≡ array_of s k
      unfolding array_of
      no_description f = rw (← e, ← f)

      module _ {d : Description} (f : Ok d ≡ description_in v) where
        pub array_is : Ok (record { description = d; bytes = data_of s v }) ≡ array_of s k
        unfolding array_of
        array_is = rw (← e, ← f)

        pub array_valid : {l : List ℕ} → l ≡ data_of s v → ValidArray d (length l)
        array_valid {l} g =
            let inside = (view_inside s k v (sym e)).0 in
            let size = length_element v.row.size s (v.row.start + v.row.header) inside in
            rw (g, size) (block_valid v d (sym f))

    -- ---- By its array

    module _ {x : Error} (e : Err x ≡ array_of s k) where
      pub no_array : (asked : ℕ) → Err x ≡ array_in s k asked
      unfolding array_in
      no_array asked = rw (← e)

      pub no_pixel : (i1 i2 i3 : ℕ) → Err x ≡ pixel_in s k i1 i2 i3
      unfolding pixel_in
      no_pixel i1 i2 i3 = rw (← e)

    -- The code holds the bytes of the data as l.
    module _ {a : Array} (e : Ok a ≡ array_of s k) {l : List ℕ} (g : l ≡ a.bytes) where
      pub array_by : (asked : ℕ) → delivered_in a.description l asked ≡ array_in s k asked
      unfolding array_in delivered_in
      array_by asked = rw (← e, g)

      pub pixel_by : (i1 i2 i3 : ℕ) {x : Outcome Pixel} → x ≡ sampled_in a.description l i1 i2 i3 → x ≡ pixel_in s k i1 i2 i3
      unfolding pixel_in sampled_in
      pixel_by i1 i2 i3 q = rw (← e) (rw g at q)

    -- ---- What is known of an array that is answered

    pub array_seen : (a : Array) → array_of s k ≡ Ok a
        → ValidArray a.description (length a.bytes) × (Octets s → Octets a.bytes)
    unfolding array_of
    array_seen a e =
        let p = step_ok (view_of s k) _ a e in
        let v = p.0 in
        let q = step_ok (description_in v) (λ (d : Description). Ok (record { description = d; bytes = data_of s v })) a p.2 in
        subst (λ (x : Array). ValidArray x.description (length x.bytes) × (Octets s → Octets x.bytes)) (same_ok q.2)
        (array_valid v (sym p.1) (sym q.1) refl, octets_part (v.row.start + v.row.header) v.row.size s)

    -- and of the bytes that are written of it.
    pub array_written : (asked : ℕ) (a : Array) (w : List ℕ) → array_of s k ≡ Ok a → array_in s k asked ≡ Ok w
        → delivered a.description asked a.bytes ≡ w
    unfolding array_in
    array_written asked a w e f =
        let d = delivered a.description asked a.bytes in
        let p = check_ok (require (is_order asked) 24 0) (Ok d) w (rw e at f) in
        same_ok p.2
