-- The origin of a keyword and of each field: those that are found out are those of the grammar.
use Rattle.std.specs.Prelude.{Option, None, Some, slice_get}
use mathlib.Core.Path.{◌≡◌, refl, sym}
use mathlib.Core.Bool.{Bool, cond}
use mathlib.Core.List.{List}
use Prim.Native.Nat.{ℕ, ◌≤◌}
use lib.ListN.{length}
use Rattle.scan.specs.Byte.{ascii}
use Rattle.scan.proofs.Decides.{Decides, holds, fails}
use Rattle.scan.proofs.Finds.{Finds, found, missing}
use Rattle.text.specs.Key.{key_of}
use Rattle.header.specs.Entry.{Entry}
use Rattle.blocks.specs.Counting.{is_edf_key}
use Rattle.blocks.specs.Grammar.{Partition}
use Rattle.blocks.specs.Limits.{file_limit}
use Rattle.blocks.specs.declared.Row.{Row}
use Rattle.keyword.specs.Origin.{origin_by, origin_in}
use Rattle.keyword.specs.declared.Origin.{Origin}
use Rattle.keyword.specs.declared.Origin.TheVariants as origin
use Rattle.origins.specs.Fields.{by_name}
use Rattle.origins.specs.Origins.{FieldOrigins, origins_in}
use Rattle.origins.proofs.LetterLaws.{own_general, own_default, general_default}
use Rattle.fields.specs.Keyword.{HeaderHas, Inherits, HasKeyword, LacksKeyword}
use Rattle.fields.specs.Origin.{OwnHas, GeneralHas, ComesFrom, EachOrigin, OriginsAre}
use Rattle.fields.proofs.HeaderLaws.{finds_in_header, row_headed, general_headed}
use Rattle.fields.proofs.KeywordLaws.{shared, inherits_decides, in_reach, lacks, view_here}

module _ {s : List ℕ} {rows : List Row} {row : Row} {name : List ℕ} where
  -- ---- By what the headers have

  from_own : OwnHas s rows row name → ComesFrom s rows row name origin.Own
  from_own h = record {
    own = (λ e. h, λ x. refl);
    general = (λ e. absurd (own_general e), λ x. absurd (x.0 h));
    default = (λ e. absurd (own_default e), λ n. absurd (n h.0 (HasKeyword.own h.1)));
  }

  from_general : (OwnHas s rows row name → ⊥) → GeneralHas s rows row name → ComesFrom s rows row name origin.General
  from_general n g = record {
    own = (λ e. absurd (own_general (sym e)), λ x. absurd (n x));
    general = (λ e. (n, g), λ x. refl);
    default = (
      λ e. absurd (general_default e),
      λ m. absurd (m g.1.0 (HasKeyword.general (λ e h. n (e, h)) g.0 g.1.1)),
    );
  }

  from_nowhere : LacksKeyword s rows row name → ComesFrom s rows row name origin.Default
  from_nowhere n = record {
    own = (λ e. absurd (own_default (sym e)), λ x. absurd (n x.0 (HasKeyword.own x.1)));
    general = (
      λ e. absurd (general_default (sym e)),
      λ x. absurd (n x.1.1.0 (HasKeyword.general (λ e h. x.0 (e, h)) x.1.0 x.1.1.1)),
    );
    default = (λ e. n, λ m. refl);
  }

  from_headers : {own general : Option Entry} {b : Bool} → Finds (HeaderHas s row.start (key_of name)) own
      → Decides (Inherits rows row (key_of name)) b → (Inherits rows row (key_of name) → Finds (HeaderHas s 0 (key_of name)) general)
      → ComesFrom s rows row name (origin_by own (cond b general None))
  from_headers (found x) d g = from_own (_, x)
  from_headers (missing n) (holds i) g = inherited (g i)
    where
      inherited : {general : Option Entry} → Finds (HeaderHas s 0 (key_of name)) general → ComesFrom s rows row name (origin_by None general)
      inherited (found x) = from_general (λ h. n h.0 h.1) (i, (_, x))
      inherited (missing m) = from_nowhere (lacks n (λ j. m))
  from_headers (missing n) (fails k) g = from_nowhere (lacks n (λ i. absurd (k i)))

-- ---- The seven

pub each_by : {P : List ℕ → Origin → Type 0} (from : List ℕ → Origin) → ((name : List ℕ) → P name (from name)) → EachOrigin P (by_name from)
each_by from h = record {
  datatype = h (ascii "DataType");
  byteorder = h (ascii "ByteOrder");
  compression = h (ascii "Compression");
  dims = h (ascii "Dim_1");
  configuration = h (ascii "DataRasterConfiguration");
  orientation = h (ascii "RasterOrientation");
  offset = h (ascii "DataValueOffset");
}

pub each_map : {P Q : List ℕ → Origin → Type 0} {o : FieldOrigins} → ((name : List ℕ) (x : Origin) → P name x → Q name x)
    → EachOrigin P o → EachOrigin Q o
each_map f e = record {
  datatype = f _ _ e.datatype;
  byteorder = f _ _ e.byteorder;
  compression = f _ _ e.compression;
  dims = f _ _ e.dims;
  configuration = f _ _ e.configuration;
  orientation = f _ _ e.orientation;
  offset = f _ _ e.offset;
}

-- ---- A block of a file with a partition

module _ {s : List ℕ} {rows : List Row} (small : length s ≤ file_limit) (p : Partition s rows) (b : ℕ) {row : Row}
    (at : slice_get rows b ≡ Some row) where
  pub comes_from : (name : List ℕ) → ComesFrom s rows row name (origin_in (view_here small p b at) name)
  unfolding origin_in
  comes_from name =
      let k = key_of name in
      rw (in_reach (is_edf_key k) (shared rows row) k p.first_header.entries)
      (from_headers (finds_in_header (row_headed p b at)) (inherits_decides rows row k)
      (λ i. finds_in_header (general_headed p i.first_is i.general)))

  pub origins_are : OriginsAre s rows row (origins_in (view_here small p b at))
  origins_are = each_by (origin_in (view_here small p b at)) comes_from
