-- An image with its actual height.
use Rattle.std.specs.Prelude.{ℕ}
use Rattle.t85_core.specs.declared.header.Header.{Header}
use Rattle.t85_core.specs.declared.header.SizedImage as declared
use Rattle.t85_core.specs.Header.{Fields}
use Rattle.t85_core.specs.Options.{fields_of}

-- An image: its header, and the actual height.
pub record SizedImage : Type 0 where
  pub fields : Fields
  pub height : ℕ

abbrev pub sized : Fields → ℕ → SizedImage
sized h height = record { fields = h; height = height }

-- from a header
abbrev pub sized_by : Header → ℕ → SizedImage
sized_by header height = sized (fields_of header) height

-- from the struct
abbrev pub sized_of : declared.SizedImage → SizedImage
sized_of image = sized_by image.header image.height
