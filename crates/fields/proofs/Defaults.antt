-- A description takes the default of each field that is missing, and the value of each that is found.
use mathlib.Core.Path.{◌≡◌, refl, sym, ap, subst, ◌∙◌}
use mathlib.Core.List.{List}
use Prim.Native.Nat.{ℕ}
use lib.IntN.{ℤ, pos}
use lib.ListN.{length, get_or}
use Rattle.scan.specs.Byte.{ascii}
use Rattle.lexical.specs.Whole.{IsWhole}
use Rattle.header.specs.Entry.{Entry}
use Rattle.blocks.specs.Values.{Absent}
use Rattle.blocks.specs.declared.Row.{Row}
use Rattle.keyword.specs.declared.Origin.{Origin}
use Rattle.keyword.specs.declared.Origin.TheVariants as origin
use Rattle.description.specs.declared.Description.{Description}
use Rattle.fields.specs.Field.{IsWord, WordIs, NumberIs, WholeIs, FieldHas, DimsFound, DimsAre, FieldsAre, TakesDefaults, TakesValues}
use Rattle.fields.proofs.KeywordLaws.{one-keyword}
use Rattle.fields.proofs.ReadLaws.{lacks_absent}

-- ---- One field

module _ {Has : List ℕ → Type 0} where
  word_default : {words : List (List ℕ)} {default code : ℕ} → WordIs Has words default code → Absent Has → code ≡ default
  word_default (WordIs.absent m) n = refl
  word_default (WordIs.given h w) n = absurd (n _ h)

  number_default : {most default n : ℕ} → NumberIs Has most default n → Absent Has → n ≡ default
  number_default (NumberIs.absent m) n = refl
  number_default (NumberIs.given h w low high) n = absurd (n _ h)

  whole_default : {default z : ℤ} → WholeIs Has default z → Absent Has → z ≡ default
  whole_default (WholeIs.absent m) n = refl
  whole_default (WholeIs.given h w) n = absurd (n _ h)

  module _ (one : (v w : List ℕ) → Has v → Has w → v ≡ w) where
    word_value : {words : List (List ℕ)} {default code : ℕ} → WordIs Has words default code → (v : List ℕ) → Has v → IsWord words code v
    word_value (WordIs.absent m) v h = absurd (m v h)
    word_value {words = words} {code = code} (WordIs.given {v = w} k q) v h = subst (IsWord words code) (one w v k h) q

    number-value : {most default n : ℕ} → NumberIs Has most default n → (v : List ℕ) → Has v → IsWhole v (pos n)
    number-value (NumberIs.absent m) v h = absurd (m v h)
    number-value {n = n} (NumberIs.given {v = w} k q low high) v h = subst (λ (l : List ℕ). IsWhole l (pos n)) (one w v k h) q

    whole_value : {default z : ℤ} → WholeIs Has default z → (v : List ℕ) → Has v → IsWhole v z
    whole_value (WholeIs.absent m) v h = absurd (m v h)
    whole_value {z = z} (WholeIs.given {v = w} k q) v h = subst (λ (l : List ℕ). IsWhole l z) (one w v k h) q

-- ---- The fields of a block

module _ {s : List ℕ} {rows : List Row} {row : Row} where
  one_field : {name : List ℕ} (v w : List ℕ) → FieldHas s rows row name v → FieldHas s rows row name w → v ≡ w
  one_field v w f g = sym f.value_is ∙ ap (λ (e : Entry). e.value) (one-keyword f.keyword g.keyword) ∙ g.value_is

  module _ {d : Description} (f : FieldsAre s rows row d) where
    dims_default : Absent (FieldHas s rows row (ascii "Dim_1")) → (d.n ≡ 1) × (d.dim1 ≡ 0)
    dims_default n = go f.dims_are f.n_is f.dim1_is
      where
        go : {ds : List ℕ} → DimsAre s rows row ds → d.n ≡ length ds → d.dim1 ≡ get_or ds 0 1 → (d.n ≡ 1) × (d.dim1 ≡ 0)
        go (DimsAre.none_found m) p q = (p, q)
        go (DimsAre.some-found (DimsFound.found h w low high rest)) p q = absurd (n _ h)

    dim1-value : (v : List ℕ) → FieldHas s rows row (ascii "Dim_1") v → IsWhole v (pos d.dim1)
    dim1-value v h = go f.dims_are f.dim1_is
      where
        go : {ds : List ℕ} → DimsAre s rows row ds → d.dim1 ≡ get_or ds 0 1 → IsWhole v (pos d.dim1)
        go (DimsAre.none_found m) q = absurd (m v h)
        go (DimsAre.some-found (DimsFound.found {v = w} k a low high rest)) q = rw (q, sym (one_field w v k h)) a

    pub takes_defaults : TakesDefaults (λ name o. Absent (FieldHas s rows row name)) d
    takes_defaults = record {
      datatype = word_default f.datatype;
      byteorder = word_default f.byteorder;
      compression = word_default f.compression;
      dims = dims_default;
      configuration = number_default f.configuration;
      orientation = number_default f.orientation;
      offset = whole_default f.offset;
    }

    -- No header in reach has a field whose origin is default.
    pub assumes_defaults : TakesDefaults (λ name o. o ≡ origin.Default) d
    assumes_defaults = record {
      datatype = λ e. takes_defaults.datatype (lacks_absent.0 (f.origins.datatype.default.0 e));
      byteorder = λ e. takes_defaults.byteorder (lacks_absent.0 (f.origins.byteorder.default.0 e));
      compression = λ e. takes_defaults.compression (lacks_absent.0 (f.origins.compression.default.0 e));
      dims = λ e. takes_defaults.dims (lacks_absent.0 (f.origins.dims.default.0 e));
      configuration = λ e. takes_defaults.configuration (lacks_absent.0 (f.origins.configuration.default.0 e));
      orientation = λ e. takes_defaults.orientation (lacks_absent.0 (f.origins.orientation.default.0 e));
      offset = λ e. takes_defaults.offset (lacks_absent.0 (f.origins.offset.default.0 e));
    }

    pub takes_values : TakesValues (FieldHas s rows row) d
    takes_values = record {
      datatype = word_value one_field f.datatype;
      byteorder = word_value one_field f.byteorder;
      compression = word_value one_field f.compression;
      dim1 = dim1-value;
      configuration = number-value one_field f.configuration;
      orientation = number-value one_field f.orientation;
      offset = whole_value one_field f.offset;
    }

-- ---- By other words for missing and found

pub defaults_by : {M N : List ℕ → Origin → Type 0} {d : Description} → ((name : List ℕ) (o : Origin) → M name o → N name o) → TakesDefaults N d
    → TakesDefaults M d
defaults_by f t = record {
  datatype = λ m. t.datatype (f _ _ m);
  byteorder = λ m. t.byteorder (f _ _ m);
  compression = λ m. t.compression (f _ _ m);
  dims = λ m. t.dims (f _ _ m);
  configuration = λ m. t.configuration (f _ _ m);
  orientation = λ m. t.orientation (f _ _ m);
  offset = λ m. t.offset (f _ _ m);
}

pub values_by : {M N : List ℕ → List ℕ → Type 0} {d : Description} → ((name v : List ℕ) → M name v → N name v) → TakesValues N d → TakesValues M d
values_by f t = record {
  datatype = λ v m. t.datatype v (f _ v m);
  byteorder = λ v m. t.byteorder v (f _ v m);
  compression = λ v m. t.compression v (f _ v m);
  dim1 = λ v m. t.dim1 v (f _ v m);
  configuration = λ v m. t.configuration v (f _ v m);
  orientation = λ v m. t.orientation v (f _ v m);
  offset = λ v m. t.offset v (f _ v m);
}
