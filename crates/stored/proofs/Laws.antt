-- The stored array of a block, by the block's view and its description.
use Rattle.std.specs.Prelude.{Ok, Err}
use Rattle.scan.specs.Outcome.{Outcome, require, ◌>>=◌, ◌>>◌}
use mathlib.Core.Path.{◌≡◌, refl, sym, ap, subst, ◌∙◌}
use mathlib.Core.Bool.{Bool, true, false}
use mathlib.Core.List.{List}
use Prim.Native.Nat.{ℕ, ◌+◌, ◌*◌, ◌≤◌}
use native.Mathlib.Omega.{arith}
use borrow.Author.Tests.{le-leb}
use lib.ListN.{length, take, drop}
use lib.Seq.{take-take}
use Rattle.scan.specs.Byte.{part_of}
use Rattle.scan.specs.declared.Error.{Error}
use Rattle.scan.proofs.Cases.{ok-failed}
use Rattle.keyword.specs.Keyword.{View, view_of}
use Rattle.keyword.proofs.Views.{view_inside}
use Rattle.raster.specs.Position.{product}
use Rattle.raster.specs.Strided.{Octets}
use Rattle.raster.proofs.Stored.{octets_part}
use Rattle.description.specs.Describe.{description_in, description_of}
use Rattle.description.specs.Shape.{array_type, array_dims}
use Rattle.description.specs.declared.Description.{Description}
use Rattle.description.proofs.DescribedLaws.{step_ok, check_ok, same_ok, block_valid}
use Rattle.array.specs.Delivery.{data_of, is_order, delivered, array_in}
use Rattle.array.proofs.ReadLaws.{no_block, no_description, no_array, array_is, array_valid}
use Rattle.stored.specs.Stored.{stored_with, stored_array, Delivers}
use Rattle.stored.specs.declared.StoredArray.{StoredArray}
use Rattle.stored.proofs.Kept.{front-delivered}

same-failed : {A : Type 0} {x y : Error} → ◌≡◌ {A = Outcome A} (Err x) (Err y) → x ≡ y
same-failed e = cc

-- ---- What an answer says about delivery: both have made the same check of the order

says : (s : List ℕ) (k asked : ℕ) (a : StoredArray) (w : List ℕ) (test : Bool) (r : Outcome StoredArray)
    → r ≡ (require test 24 0 >> Ok a) → array_in s k asked ≡ (require test 24 0 >> Ok w)
    → (a.delivered ≡ true → w ≡ part_of s a.span) → Delivers s k asked r
says s k asked a w true (Ok x) e f g =
    let q : x ≡ a = same_ok e in
    λ h. f ∙ ap Ok (g (ap (λ (y : StoredArray). y.delivered) (sym q) ∙ h)) ∙ ap (λ (y : StoredArray). Ok (part_of s y.span)) (sym q)
says s k asked a w true (Err x) e f g = absurd (ok-failed (sym e))
says s k asked a w false (Ok x) e f g = absurd (ok-failed e)
says s k asked a w false (Err x) e f g = f ∙ ap Err (sym (same-failed e))

module _ (s : List ℕ) (k asked : ℕ) where
  pub unseen : {x : Error} → Err x ≡ view_of s k → (Err x ≡ stored_array s k asked) × (array_in s k asked ≡ Err x)
  unfolding stored_array
  unseen e = (rw (← e) refl, sym (no_array s k (no_block s k e) asked))

  module _ (v : View) (e : Ok v ≡ view_of s k) where
    pub undescribed : {x : Error} → Err x ≡ description_in v → (Err x ≡ stored_array s k asked) × (array_in s k asked ≡ Err x)
    unfolding stored_array
    undescribed f = (rw (← e, ← f) refl, sym (no_array s k (no_description s k v e f) asked))

    module _ (d : Description) (f : Ok d ≡ description_in v) where
      -- Where the data of the block starts.
      abbrev start : ℕ
      start = v.row.start + v.row.header

      pub with_description : stored_with start d asked ≡ stored_array s k asked
      unfolding stored_array
      with_description = rw (← e, ← f) refl

      array_given : array_in s k asked ≡ (require (is_order asked) 24 0 >> Ok (delivered d asked (data_of s v)))
      unfolding array_in
      array_given = rw (← array_is s k v e f) refl

      front : (n : ℕ) → n ≤ v.row.size → take n (data_of s v) ≡ part_of s (record { offset = start; length = n })
      unfolding part_of
      front n h =
          let inside = (view_inside s k v (sym e)).0 in
          rw (le-leb (start + n) (length s) (omega arith)) (take-take n v.row.size (drop start s) h)

      pub delivers : Octets s → (r : Outcome StoredArray) → r ≡ stored_with start d asked → Delivers s k asked r
      unfolding stored_with
      delivers octets r g =
          let n = product (array_dims d) * (array_type d).width in
          says s k asked _ (delivered d asked (data_of s v)) (is_order asked) r g array_given
          (λ same.
          front-delivered d asked (data_of s v) (array_valid s k v e f refl) (octets_part start v.row.size s octets) same
          ∙ front n (block_valid v d (sym f)).stored)

  -- ---- What is known of a stored array that is answered

  -- Its description is the block's, its span is as long as the description says, and inside the file.
  pub stored_seen : (a : StoredArray) → stored_array s k asked ≡ Ok a
      → (description_of s k ≡ Ok a.description)
      × ((a.span.length ≡ product (array_dims a.description) * (array_type a.description).width)
      × (a.span.offset + a.span.length ≤ length s))
  unfolding stored_array stored_with description_of
  stored_seen a e =
      let p = step_ok (view_of s k) _ a e in
      let v = p.0 in
      let q = step_ok (description_in v) (λ (d : Description). stored_with (v.row.start + v.row.header) d asked) a p.2 in
      let t = check_ok (require (is_order asked) 24 0) _ a q.2 in
      let inside = (view_inside s k v p.1).0 in
      let held = (block_valid v q.0 q.1).stored in
      subst
      (λ (x : StoredArray).
      (description_of s k ≡ Ok x.description)
      × ((x.span.length ≡ product (array_dims x.description) * (array_type x.description).width)
      × (x.span.offset + x.span.length ≤ length s)))
      (same_ok t.2) (ap (λ (o : Outcome View). o >>= description_in) p.1 ∙ q.1, (refl, omega arith))
