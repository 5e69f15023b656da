-- The fields of a block's array, Dim_1 for the Dims: one of something for each.
use Rattle.std.specs.Prelude.{List, ℕ, Option}
use Rattle.scan.specs.Byte.{ascii}
use Rattle.keyword.specs.Trace.{Trace, trace_of}
use Rattle.keyword.specs.declared.Traced.{Traced}
use Rattle.origins.specs.declared.Fields.{Fields}

-- By the names of the fields.
abbrev pub by_name : {A : Type 0} → (List ℕ → A) → Fields A
by_name f =
    record {
      datatype = f (ascii "DataType");
      byteorder = f (ascii "ByteOrder");
      compression = f (ascii "Compression");
      dims = f (ascii "Dim_1");
      configuration = f (ascii "DataRasterConfiguration");
      orientation = f (ascii "RasterOrientation");
      offset = f (ascii "DataValueOffset");
    }

-- Of each of the fields.
abbrev pub each : {A B : Type 0} → (A → B) → Fields A → Fields B
each f x =
    record {
      datatype = f x.datatype;
      byteorder = f x.byteorder;
      compression = f x.compression;
      dims = f x.dims;
      configuration = f x.configuration;
      orientation = f x.orientation;
      offset = f x.offset;
    }

-- Fields that were found in the file s.
abbrev pub found : List ℕ → Fields Traced → Fields Trace
found s f = each (trace_of s) f

-- Their values.
abbrev pub FieldValues : Type 0
FieldValues = Fields (Option (List ℕ))

abbrev pub found_values : List ℕ → Fields Traced → FieldValues
found_values s f = each (λ (t : Trace). t.value) (found s f)
