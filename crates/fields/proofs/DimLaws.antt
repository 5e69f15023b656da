-- The Dims: those that are read are those that are found, by the grammar.
use Rattle.std.specs.Prelude.{Ok}
use Rattle.scan.specs.Outcome.{present}
use mathlib.Core.Path.{◌≡◌, refl, sym, ap, ◌∙◌}
use mathlib.Core.List.{List, [], ◌∷◌, ◌++◌, map, append_assoc, append-nil}
use Prim.Native.Nat.{ℕ}
use Rattle.scan.specs.Byte.{ascii}
use Rattle.scan.proofs.Cases.{ok-failed}
use Rattle.scan.proofs.Finds.{by_finds}
use Rattle.text.specs.Number.{whole_number}
use Rattle.lexical.proofs.WholeLaws.{whole_sound}
use Rattle.blocks.specs.declared.Row.{Row}
use Rattle.description.specs.Describe.{Values, dims_of}
use Rattle.description.specs.Fields.{in_range, or_empty}
use Rattle.description.specs.Limits.{dim_limit}
use Rattle.description.specs.Parts.{dims_after}
use Rattle.description.proofs.DescribedLaws.{step_ok, same_ok}
use Rattle.description.proofs.DimLaws.{dims_from_none}
use Rattle.fields.specs.Field.{DimsFound, missing, found, DimsAre, none_found, some-found}
use Rattle.fields.proofs.FieldLaws.{ReadsFields, range_sound}
use Rattle.fields.proofs.Present.{present_some}

module _ {s : List ℕ} {rows : List Row} {row : Row} {look : Values} (reads : ReadsFields s rows row look) where
  -- The Dims of the keys from `name` on, after those in front that were read.
  after_sound : (front name : List ℕ) (names : List (List ℕ)) {dims : List ℕ} → dims_after front (map look (name ∷ names)) ≡ Ok dims
      → (ds : List ℕ) × DimsFound s rows row (name ∷ names) ds × (dims ≡ or_empty (front ++ ds))
  unfolding dims_after
  after_sound front name [] {dims} e =
      by_finds (reads name).finds
      (λ v q h. absurd (ok-failed (sym (rw q at e))))
      (λ q n. ([], missing n, rw (append-nil front) (sym (same_ok (rw q at e)))))
  after_sound front name (next ∷ rest) {dims} e =
      by_finds (reads name).finds
      (λ v q h.
      let read = in_range 1 dim_limit (whole_number v) in
      let p = step_ok (present read 18 4) (λ (d : ℕ). dims_after (front ++ (d ∷ [])) (map look (next ∷ rest))) dims (rw q at e) in
      let r = range_sound 1 dim_limit (whole_number v) (present_some 18 4 read p.1) in
      let m = after_sound (front ++ (p.0 ∷ [])) next rest p.2 in
      (p.0 ∷ m.0, found h (whole_sound v r.0) r.1 r.2 m.1, m.2 ∙ ap or_empty (append_assoc front (p.0 ∷ []) m.0)))
      (λ q n. ([], missing n, rw (append-nil front) (sym (same_ok (rw q at e)))))

  found_are : {ds : List ℕ} → DimsFound s rows row (ascii "Dim_1" ∷ ascii "Dim_2" ∷ ascii "Dim_3" ∷ ascii "Dim_4" ∷ []) ds
      → DimsAre s rows row (or_empty ds)
  found_are (missing n) = none_found n
  found_are (found h w a b rest) = some-found (found h w a b rest)

  pub dims_say : {dims : List ℕ} → dims_of look ≡ Ok dims → DimsAre s rows row dims
  dims_say e =
      let m = after_sound [] (ascii "Dim_1") (ascii "Dim_2" ∷ ascii "Dim_3" ∷ ascii "Dim_4" ∷ []) (dims_from_none look refl ∙ e) in
      rw m.2 (found_are m.1)
