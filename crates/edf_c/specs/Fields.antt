-- The records that a call for C gets or gives field by field.
use Rattle.std.specs.Prelude.{ℕ, ℤ}
use Rattle.scan.specs.declared.Span.{Span}
use Rattle.frame.specs.declared.Frame.{Frame}

-- The span of an offset and a length.
abbrev pub span_of : ℕ → ℕ → Span
span_of offset length = record { offset = offset; length = length }

-- The frame with these fields.
abbrev pub frame_of : ℤ → ℕ → ℤ → ℕ → ℕ → ℕ → ℕ → ℕ → ℕ → ℕ → Frame
frame_of sequence instance memory datatype byteorder n dim1 dim2 dim3 configuration =
    record {
      sequence = sequence;
      instance = instance;
      memory = memory;
      datatype = datatype;
      byteorder = byteorder;
      n = n;
      dim1 = dim1;
      dim2 = dim2;
      dim3 = dim3;
      configuration = configuration;
    }
