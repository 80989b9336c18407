-- The results of an encoder of whole images.
use Rattle.std.specs.Prelude.{ℕ, ◌/◌, ◌≡◌, ◌≤◌, ◌<◌, Bool, List, length, Option}
use Rattle.std.specs.Io.KnownBytes.{Appends, Consumes}
use Rattle.pbm_core.specs.Image.{RowFault}
use Rattle.pbm_core.specs.declared.fault.PbmFault.{PbmFault}
use Rattle.raster_core.specs.Raster.{Raster}
use Rattle.t85_core.specs.Jbg.{Settings, jbg, jbg_up_to}
use Rattle.t85_core.specs.Encode.{IsBeginning, Layout, raster_of, BeginsWith}
use Rattle.t85_core.specs.States.Passage.{Passage}
use Rattle.t85_core.specs.Private.EncodeRows.{ReadsRows, EndsInRow}

-- All rows of an image were read, and this text of their raster was written.
pub record ImageCoded (layout : Layout) (whole : Raster → List ℕ) (passage : Passage) : Type 0 where
  pub rows : List (List Bool)
  pub many : length rows ≡ layout.height
  pub read : ReadsRows layout.form layout.width passage.input passage.input_after rows
  pub appended : Appends passage.output passage.output_after (whole (raster_of layout.width rows))

-- Some rows are missing. For each image that begins with the rows read, the bytes written are a prefix of this text and
-- include the stripes whose rows are complete.
pub record ImageShort (s : Settings) (layout : Layout) (up_to : Raster → ℕ → List ℕ) (whole : Raster → List ℕ) (passage : Passage) (fault : PbmFault) : Type 0 where
  pub rows : List (List Bool)
  pub few : length rows < layout.height
  pub mid : Option (List ℕ)
  pub read : ReadsRows layout.form layout.width passage.input mid rows
  pub part : EndsInRow layout.form layout.width mid passage.input_after fault
  pub bytes : List ℕ
  pub holds : (raster : Raster) → BeginsWith layout.width layout.height rows raster → IsBeginning (up_to raster (length rows / s.stripe_rows)) bytes
  pub begins : (raster : Raster) → BeginsWith layout.width layout.height rows raster → IsBeginning bytes (whole raster)
  pub appended : Appends passage.output passage.output_after bytes

-- The same for the whole stream.
abbrev pub JbgShort : Settings → Layout → Passage → PbmFault → Type 0
JbgShort s layout = ImageShort s layout (jbg_up_to s) (jbg s)

-- Only the rows of an image were read. For each image that begins with them, the bytes written are a prefix
-- of this text.
pub record ImageRefused (layout : Layout) (whole : Raster → List ℕ) (passage : Passage) : Type 0 where
  pub rows : List (List Bool)
  pub few : length rows ≤ layout.height
  pub read : ReadsRows layout.form layout.width passage.input passage.input_after rows
  pub bytes : List ℕ
  pub begins : (raster : Raster) → BeginsWith layout.width layout.height rows raster → IsBeginning bytes (whole raster)
  pub appended : Appends passage.output passage.output_after bytes

-- The same if bytes that end within a row may have been read after them.
pub record ImageFront (layout : Layout) (whole : Raster → List ℕ) (passage : Passage) : Type 0 where
  pub rows : List (List Bool)
  pub few : length rows ≤ layout.height
  pub mid : Option (List ℕ)
  pub read : ReadsRows layout.form layout.width passage.input mid rows
  pub part : List ℕ
  pub part_taken : Consumes mid passage.input_after part
  pub fault : PbmFault
  pub short : RowFault layout.form layout.width part fault
  pub bytes : List ℕ
  pub begins : (raster : Raster) → BeginsWith layout.width layout.height rows raster → IsBeginning bytes (whole raster)
  pub appended : Appends passage.output passage.output_after bytes
