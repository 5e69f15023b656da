-- The description that a written file gives: "What the writer makes reads back as the same description".
use Rattle.std.specs.Prelude.{pos, get_or}
use Rattle.keyword.specs.declared.Origin.TheVariants as origin
use Rattle.origins.specs.Origins.{FieldOrigins}
use Rattle.description.specs.declared.Description.{Description}
use Rattle.frame.specs.File.{frame_dims}
use Rattle.frame.specs.declared.Frame.{Frame}

-- "a file of our writer has own for all but Compression, RasterOrientation and DataValueOffset" (02, No. 1)
abbrev pub written_origins : FieldOrigins
written_origins =
    record {
      datatype = origin.Own;
      byteorder = origin.Own;
      compression = origin.Default;
      dims = origin.Own;
      configuration = origin.Own;
      orientation = origin.Default;
      offset = origin.Default;
    }

-- "the first n Dims with 1 past n", no orientation and no offset.
abbrev pub description_for : Frame → Description
description_for f =
    record {
      datatype = f.datatype;
      byteorder = f.byteorder;
      compression = 1;
      n = f.n;
      dim1 = get_or (frame_dims f) 0 1;
      dim2 = get_or (frame_dims f) 1 1;
      dim3 = get_or (frame_dims f) 2 1;
      configuration = f.configuration;
      orientation = 1;
      offset = pos 0;
      origins = written_origins;
    }
