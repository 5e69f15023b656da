-- A block that two files share has the same array: every byte that is delivered, and every pixel. It is stored where the block's data is.
use Rattle.std.specs.Prelude.{Some, Ok, slice_get}
use mathlib.Core.Path.{◌≡◌, sym, ap, ◌∙◌}
use mathlib.Core.List.{List}
use Prim.Native.Nat.{ℕ, ◌+◌}
use native.Mathlib.Omega.{arith}
use lib.ListN.{take, drop}
use lib.Seq.{drop-drop}
use Rattle.scan.proofs.Cases.{by_test, by_outcome}
use Rattle.header.proofs.Leading.{part_between}
use Rattle.blocks.specs.declared.Row.{Row}
use Rattle.blocks.proofs.Complete.{opened_complete}
use Rattle.locality.specs.Moved.{moved_row, map_outcome}
use Rattle.locality.proofs.Outcomes.{map_same}
use Rattle.locality.proofs.Rows.{span_unmoved}
use Rattle.keyword.specs.Keyword.{View, view_of}
use Rattle.keyword.specs.Shared.{SharedBlock}
use Rattle.keyword.proofs.Shared.{moved_view, view_moved}
use Rattle.keyword.proofs.SharedValues.{same_moved}
use Rattle.keyword.proofs.Views.{view_seen}
use Rattle.description.specs.Describe.{description_in}
use Rattle.description.specs.declared.Description.{Description}
use Rattle.array.specs.Delivery.{data_of, is_order, array_of, array_in, pixel_in}
use Rattle.stored.specs.Stored.{stored_with, stored_array}
use Rattle.stored.specs.declared.StoredArray.{StoredArray}
use Rattle.independence.specs.Moved.{moved_array}
use Rattle.independence.proofs.Descriptions.{description_moved}

-- What follows the first m of m + n bytes.
rest_same : (a b m n : ℕ) (s t : List ℕ) → take (m + n) (drop a s) ≡ take (m + n) (drop b t) → take n (drop (a + m) s) ≡ take n (drop (b + m) t)
rest_same a b m n s t e =
    let of : (c : ℕ) (l : List ℕ) → take n (drop (c + m) l) ≡ drop m (take (m + n) (drop c l)) =
    λ c l. ap (take n) (sym (drop-drop m c l)) ∙ part_between m n (drop c l) in
    of a s ∙ ap (drop m) e ∙ sym (of b t)

module _ (n : ℕ) {s t : List ℕ} {k j : ℕ} {row : Row} (b : SharedBlock s t k j row (moved_row n row)) where
  -- The view has the block's row.
  view_row : (v : View) → view_of s k ≡ Ok v → v.row ≡ row
  view_row v e =
      let x = view_seen s k v e in
      let o : Ok x.rows ≡ Ok b.rows = sym x.opens ∙ opened_complete s b.file.partition in
      let p : x.rows ≡ b.rows = cc in
      let q : Some v.row ≡ Some row = sym x.at ∙ ap (λ (l : List Row). slice_get l k) p ∙ b.at in
      cc

  data_shared : (v : View) → view_of s k ≡ Ok v → data_of t (moved_view n v) ≡ data_of s v
  data_shared v e = rw (view_row v e) (sym (rest_same row.start (n + row.start) row.header row.size s t b.bytes))

  pub array_shared : array_of t j ≡ array_of s k
  unfolding array_of
  array_shared =
      rw (view_moved n b)
      (by_outcome (view_of s k) (λ v e. rw (e, description_moved n v, data_shared v e)) (λ x e. rw e))

  pub delivered_shared : (asked : ℕ) → array_in t j asked ≡ array_in s k asked
  unfolding array_in
  delivered_shared asked = rw array_shared

  pub pixel_shared : (i1 i2 i3 : ℕ) → pixel_in t j i1 i2 i3 ≡ pixel_in s k i1 i2 i3
  unfolding pixel_in
  pixel_shared i1 i2 i3 = rw array_shared

  -- ---- Where it is stored

  stored_with_lem : (offset : ℕ) (d : Description) (asked : ℕ) → stored_with (n + offset) d asked ≡ map_outcome (moved_array n) (stored_with offset d asked)
  unfolding stored_with
  stored_with_lem offset d asked = by_test (is_order asked) (λ t. rw t) (λ f. rw f)

  pub stored_moved : (asked : ℕ) → stored_array t j asked ≡ map_outcome (moved_array n) (stored_array s k asked)
  unfolding stored_array
  stored_moved asked =
      rw (view_moved n b)
      (by_outcome (view_of s k)
      (λ v e.
      let z : n + v.row.start + v.row.header ≡ n + (v.row.start + v.row.header) = omega arith in
      rw (e, description_moved n v, z)
      (by_outcome (description_in v) (λ d f. rw f (stored_with_lem (v.row.start + v.row.header) d asked)) (λ x f. rw f)))
      (λ x e. rw e))

array_unmoved : (a : StoredArray) → moved_array 0 a ≡ a
array_unmoved a = λ i. record { description = a.description; span = span_unmoved a.span i; delivered = a.delivered }

pub stored_same : {s t : List ℕ} {k j : ℕ} {row : Row} → SharedBlock s t k j row row → (asked : ℕ) → stored_array t j asked ≡ stored_array s k asked
stored_same {s} {k = k} b asked = stored_moved 0 (same_moved b) asked ∙ map_same (moved_array 0) array_unmoved (stored_array s k asked)
