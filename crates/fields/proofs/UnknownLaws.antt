-- Fields 1 to 3: their codes by the grammar, or 17 at the first whose word is unknown.
use Rattle.std.specs.Prelude.{Ok}
use Rattle.scan.specs.Outcome.{Outcome, error_at, refused, ◌>>=◌}
use mathlib.Core.Path.{◌≡◌, refl, sym, ap, subst}
use mathlib.Core.List.{List}
use mathlib.Core.Logic.{◌↔◌}
use Prim.Native.Nat.{ℕ}
use Rattle.scan.specs.Byte.{ascii}
use Rattle.scan.specs.declared.Error.{Error}
use Rattle.scan.proofs.Cases.{ok-failed}
use Rattle.blocks.specs.declared.Row.{Row}
use Rattle.raster.specs.Types.{type_words, order_words, compression_words}
use Rattle.origins.specs.Fields.{by_name}
use Rattle.description.specs.Describe.{Values, words_of}
use Rattle.description.specs.declared.words.Words.{Words}
use Rattle.description.proofs.DescribedLaws.{same_ok}
use Rattle.fields.specs.Field.{FieldHas, TypeIs, OrderIs, CompressionIs, UnknownField, datatype, byteorder, compression}
use Rattle.fields.proofs.FieldLaws.{ReadsFields, WordSays, known, unknown, word_says, not_both}
use Rattle.fields.proofs.Spared.{Spares17, spared}

-- What the outcome of the three says.
data WordsSay (s : List ℕ) (rows : List Row) (row : Row) : Outcome Words → Type 0 where
  all_known : {w : Words} → TypeIs s rows row w.datatype → OrderIs s rows row w.byteorder → CompressionIs s rows row w.compression
      → WordsSay s rows row (Ok w)
  one-unknown : {k : ℕ} → UnknownField s rows row k → WordsSay s rows row (refused 17 k)

module _ {s : List ℕ} {rows : List Row} {row : Row} where
  join : {a b c : Outcome ℕ} → WordSays (FieldHas s rows row (ascii "DataType")) 1 type_words 7 a
      → WordSays (FieldHas s rows row (ascii "ByteOrder")) 2 order_words 1 b
      → WordSays (FieldHas s rows row (ascii "Compression")) 3 compression_words 1 c
      → WordsSay s rows row (a >>= λ x. b >>= λ y. c >>= λ z. Ok (record { datatype = x; byteorder = y; compression = z }))
  join (unknown u) b c = one-unknown (datatype u)
  join (known x) (unknown u) c = one-unknown (byteorder x u)
  join (known x) (known y) (unknown u) = one-unknown (compression x y u)
  join (known x) (known y) (known z) = all_known x y z

  module _ {look : Values} (reads : ReadsFields s rows row look) where
    words_say : WordsSay s rows row (words_of (by_name look))
    unfolding words_of
    words_say =
        join (word_says (reads (ascii "DataType")) 1 type_words 7)
        (word_says (reads (ascii "ByteOrder")) 2 order_words 1)
        (word_says (reads (ascii "Compression")) 3 compression_words 1)

    -- Their codes.
    pub words_known : {w : Words} → words_of (by_name look) ≡ Ok w
        → TypeIs s rows row w.datatype × OrderIs s rows row w.byteorder × CompressionIs s rows row w.compression
    words_known {w} = go words_say
      where
        go : {o : Outcome Words} → WordsSay s rows row o → o ≡ Ok w
            → TypeIs s rows row w.datatype × OrderIs s rows row w.byteorder × CompressionIs s rows row w.compression
        go (all_known x y z) e = rw (← same_ok e) (x, y, z)
        go (one-unknown u) e = absurd (ok-failed (sym e))

    -- Not all known and one unknown,
    none-unknown : {t o c k : ℕ} → TypeIs s rows row t → OrderIs s rows row o → CompressionIs s rows row c → UnknownField s rows row k → ⊥
    none-unknown x y z (datatype u) = not_both (reads (ascii "DataType")) x u
    none-unknown x y z (byteorder t u) = not_both (reads (ascii "ByteOrder")) y u
    none-unknown x y z (compression t o u) = not_both (reads (ascii "Compression")) z u

    -- and one field is the first.
    one-first : {j k : ℕ} → UnknownField s rows row j → UnknownField s rows row k → j ≡ k
    one-first (datatype u) (datatype v) = refl
    one-first (datatype u) (byteorder x v) = absurd (not_both (reads (ascii "DataType")) x u)
    one-first (datatype u) (compression x y v) = absurd (not_both (reads (ascii "DataType")) x u)
    one-first (byteorder x u) (datatype v) = absurd (not_both (reads (ascii "DataType")) x v)
    one-first (byteorder x u) (byteorder y v) = refl
    one-first (byteorder x u) (compression y z v) = absurd (not_both (reads (ascii "ByteOrder")) z u)
    one-first (compression x y u) (datatype v) = absurd (not_both (reads (ascii "DataType")) x v)
    one-first (compression x y u) (byteorder z v) = absurd (not_both (reads (ascii "ByteOrder")) y v)
    one-first (compression x y u) (compression z w v) = refl

    -- Before steps that do not give 17, the three give it exactly for the first unknown word.
    pub unknown-first : {A : Type 0} (rest : Words → Outcome A) → ((w : Words) → Spares17 (rest w)) → {k : ℕ}
        → (words_of (by_name look) >>= rest ≡ refused 17 k) ↔ UnknownField s rows row k
    unknown-first {A} rest spare {k} = (sound words_say, complete words_say)
      where
        sound : {o : Outcome Words} → WordsSay s rows row o → o >>= rest ≡ refused 17 k → UnknownField s rows row k
        sound (all_known {w = w} x y z) e = absurd (spared (rest w) (spare w) e)
        sound (one-unknown {k = j} u) e =
            let q : error_at 17 j ≡ error_at 17 k = cc in
            subst (UnknownField s rows row) (ap (λ (x : Error). x.position) q) u

        complete : {o : Outcome Words} → WordsSay s rows row o → UnknownField s rows row k → o >>= rest ≡ refused 17 k
        complete (all_known x y z) u = absurd (none-unknown x y z u)
        complete (one-unknown v) u = ap (λ (j : ℕ). refused 17 j) (one-first v u)
