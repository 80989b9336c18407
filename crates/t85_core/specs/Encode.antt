-- The effect of `encode` on its input and output.
use Rattle.std.specs.Prelude.{ℕ, ◌≡◌, Bool, List, ◌++◌, length, Option, ◌/◌, ◌≢◌, ◌≤◌, ◌<◌, ⊤, true, take, IfSome, Result, OnOk, IfErr, IsErrOf, false}
use Rattle.t85_core.specs.Jbg.{Settings, is_low, jbg, jbg_up_to}
use Rattle.std.specs.Io.KnownBytes.{Appends, Consumes, Keeps}
use Rattle.t85_core.specs.Change.{Change}
use Rattle.pbm_core.specs.declared.form.Form.{Form}
use Rattle.pbm_core.specs.Image.{AreRows, HoldsRows, RowFault, HasRowFault}
use Rattle.pbm_core.specs.declared.fault.PbmFault.{PbmFault}
use Rattle.pbm_core.specs.declared.fault.PbmFault.TheVariants as pbm
use Rattle.raster_core.specs.Raster.{Raster, IsRaster, height}
use Rattle.t85_core.specs.declared.fault.Fault.{Fault}
use Rattle.t85_core.specs.declared.fault.Fault.TheVariants.{Write, AnnouncedLow, Pbm}
use Rattle.t85_core.specs.Denotes.{Denotes}
use Rattle.t85_core.specs.Failures.{CountsBoth, CountsWrite}
use Rattle.pbm_core.specs.declared.size.Size.{Size}

-- The rows of an image in an input: their form, width and number.
pub record Layout : Type 0 where
  pub form : Form
  pub width : ℕ
  pub height : ℕ

abbrev pub layout_of : Form → ℕ → ℕ → Layout
layout_of form width height = record { form = form; width = width; height = height }

-- those of an image of this size
abbrev pub layout_for : Form → Size → Layout
layout_for form size = layout_of form size.width size.height

-- a prefix of bytes
pub record IsBeginning (front bytes : List ℕ) : Type 0 where
  pub rest : List ℕ
  pub bytes_are : bytes ≡ front ++ rest

-- rows of this width as a raster
abbrev pub raster_of : ℕ → List (List Bool) → Raster
raster_of width rows = record { width = width; rows = rows }

-- the errors of missing rows, and of a failed write
abbrev pub IsEncodeFault : Fault → Type 0
IsEncodeFault (Pbm pbm.Truncated) = ⊤
IsEncodeFault (Pbm pbm.Read) = ⊤
IsEncodeFault (Pbm pbm.BadDigit) = ⊤
IsEncodeFault Write = ⊤
IsEncodeFault fault = ⊥

-- a raster of this size whose first rows are these
pub record BeginsWith (width height' : ℕ) (rows : List (List Bool)) (raster : Raster) : Type 0 where
  pub proper : IsRaster raster
  pub width_is : raster.width ≡ width
  pub height_is : height raster ≡ height'
  pub first : take (length rows) raster.rows ≡ rows

-- the whole stream of these rows was written, and denotes them
pub record WritesCode (s : Settings) (layout : Layout) (body : List ℕ) (old new : Option (List ℕ)) : Type 0 where
  pub rows : List (List Bool)
  pub rest : List ℕ
  pub holds : HoldsRows layout.form body layout.width rows rest
  pub many : length rows ≡ layout.height
  pub appends : Appends old new (jbg s (raster_of layout.width rows))
  pub denotes : Denotes (jbg s (raster_of layout.width rows)) (raster_of layout.width rows)

-- The text contains the header, the comment and each stripe whose rows were all read, and is a prefix of the whole stream.
pub record HoldsStripes (s : Settings) (raster : Raster) (count : ℕ) (text : List ℕ) : Type 0 where
  pub holds : IsBeginning (jbg_up_to s raster (count / s.stripe_rows)) text
  pub begins : IsBeginning text (jbg s raster)

-- The rows have this error: the input ended, could not be read, or has a byte that is not a digit. The output is a prefix of
-- the stream of each raster that begins with the rows read.
pub record WritesCodeBegun (s : Settings) (layout : Layout) (body : List ℕ) (fault : PbmFault) (old new : Option (List ℕ)) : Type 0 where
  pub rows : List (List Bool)
  pub rest : List ℕ
  pub holds : HoldsRows layout.form body layout.width rows rest
  pub few : length rows < layout.height
  pub part : HasRowFault layout.form layout.width rest fault
  pub text : List ℕ
  pub begun : (raster : Raster) → BeginsWith layout.width layout.height rows raster → HoldsStripes s raster (length rows) text
  pub appends : Appends old new text

-- The output is a prefix of the stream of each raster that begins with the rows in these bytes. The bytes behind these rows end
-- within a row.
pub record WritesCodeFront (s : Settings) (layout : Layout) (body : List ℕ) (old new : Option (List ℕ)) : Type 0 where
  pub rows : List (List Bool)
  pub rest : List ℕ
  pub holds : HoldsRows layout.form body layout.width rows rest
  pub few : length rows ≤ layout.height
  pub fault : PbmFault
  pub part : RowFault layout.form layout.width rest fault
  pub text : List ℕ
  pub begins : (raster : Raster) → BeginsWith layout.width layout.height rows raster → IsBeginning text (jbg s raster)
  pub appends : Appends old new text

-- The bytes are exactly the rows of an image.
pub record AreAllRows (form : Form) (width height' : ℕ) (bytes : List ℕ) : Type 0 where
  pub rows : List (List Bool)
  pub are_rows : AreRows form width bytes rows
  pub many : length rows ≡ height'

-- The effect of `encode` for these settings and an image whose rows are in the input, on the known bytes and the count of
-- failures of each device.
pub record Encode (s : Settings) (layout : Layout) (input output : Change) (answer : Result (Unit {0}) Fault) : Type 0 where
  -- an announced height that is too low is reported before anything else, with nothing read and nothing written
  pub low : IsErrOf answer AnnouncedLow → (is_low s layout.height ≡ true) × Keeps input.old.bytes input.new.bytes × Keeps output.old.bytes output.new.bytes
  pub not_low : OnOk answer (is_low s layout.height ≡ false)
  pub told_if_low : IfErr answer (λ f. f ≢ AnnouncedLow → is_low s layout.height ≡ false)
  pub whole : OnOk answer (IfSome input.old.bytes (λ body. WritesCode s layout body output.old.bytes output.new.bytes))
  pub taken : OnOk answer ((given : List ℕ) × Consumes input.old.bytes input.new.bytes given × AreAllRows layout.form layout.width layout.height given)
  pub short : (fault : PbmFault) → fault ≢ pbm.Read → IsErrOf answer (Pbm fault) → IfSome input.old.bytes (λ body. WritesCodeBegun s layout body fault output.old.bytes output.new.bytes)
  -- a read failed, and the bytes up to there end within the rows
  pub unread : IsErrOf answer (Pbm pbm.Read) → (given : List ℕ) × Consumes input.old.bytes input.new.bytes given × WritesCodeBegun s layout given pbm.Truncated output.old.bytes output.new.bytes
  -- for every result, with exactly the consumed bytes: a write failed, possibly after a failed read
  pub front : (given : List ℕ) × Consumes input.old.bytes input.new.bytes given × WritesCodeFront s layout given output.old.bytes output.new.bytes
  pub among : IfErr answer (λ f. f ≢ AnnouncedLow → IsEncodeFault f)
  pub reads : CountsBoth input.old.failures input.new.failures answer
  pub writes : CountsWrite output.old.failures output.new.failures answer
