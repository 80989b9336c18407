-- The meaning of status 0, in terms of the engine's definitions.
use Rattle.std.specs.Prelude.{ℕ, ◌≡◌, Bool, List, length, take, flat_map}
use Rattle.std.specs.Int.{div_ceil}
use Rattle.pbm_core.specs.Image.{HoldsRows}
use Rattle.pbm_core.specs.declared.form.Form.TheVariants.{Raw}
use Rattle.raster_core.specs.Packed.{packed_row}
use Rattle.raster_core.specs.Raster.{Raster, height}
use Rattle.t85_core.specs.Denotes.{Denotes}
use Rattle.t85_core.specs.Encode.{HoldsStripes}
use Rattle.t85_core.specs.Jbg.{jbg}
use Rattle.t85_core.specs.Outcome.{pbm_text}
use Rattle.t85_core.specs.RowImage.{MayCome, Image}
use Rattle.libt85.specs.Decoded.{DecodesImage}
use Rattle.libt85.specs.DecodedRows.{DecodesRows}
use Rattle.libt85.specs.Encoded.{EncodingCall, EncodesImage, settings_chosen}
use Rattle.libt85.specs.Delivered.{lending, lined}
use Rattle.libt85.specs.Encoder.{EncoderHold, HasCome}

-- the one raster that a stream denotes
pub record IsOnly (stream : List ℕ) (raster : Raster) : Type 0 where
  pub denotes : Denotes stream raster
  pub only : (other : Raster) → Denotes stream other → other ≡ raster

-- the image of the one raster that the stream denotes is written
abbrev pub DecodedIsImage : Type 0
DecodedIsImage =
    (stream : List ℕ) (limit window : ℕ) (old new : List ℕ) (written : ℕ) → DecodesImage stream limit window (lending old new written 0)
    → (raster : Raster) × IsOnly stream raster × (take written new ≡ pbm_text raster)

-- its rows are
abbrev pub DecodedAreRows : Type 0
DecodedAreRows =
    (stream : List ℕ) (limit stride window : ℕ) (old new : List ℕ) (written : ℕ) → DecodesRows stream limit stride window (lending old new written 0)
    → (raster : Raster) × IsOnly stream raster × (written ≡ height raster)
    × (lined (height raster) (div_ceil raster.width 8) stride new ≡ flat_map packed_row raster.rows)

-- The stream is the code of the caller's rows, and these are the one raster that it denotes: so decoding returns them again,
-- for every limit, window and buffer that allow it.
pub record IsStreamOf (call : EncodingCall) (rows stream : List ℕ) : Type 0 where
  pub raster : Raster
  pub rest : List ℕ
  pub holds : HoldsRows Raw (lined call.height (div_ceil call.width 8) call.stride rows) call.width raster.rows rest
  pub width_is : raster.width ≡ call.width
  pub height_is : height raster ≡ call.height
  pub stream_is : stream ≡ jbg (settings_chosen call.choice call.comment) raster
  pub is_only : IsOnly stream raster

abbrev pub EncodedIsStream : Type 0
EncodedIsStream =
    (call : EncodingCall) (rows old new : List ℕ) (written : ℕ) → EncodesImage call rows (lending old new written 0)
    → IsStreamOf call rows (take written new)

-- The bytes written for an image whose rows are passed one by one are a prefix of the stream of each image that is still
-- possible, and include each stripe whose rows were all received.
abbrev pub SentIsFront : Type 0
SentIsFront =
    (image : Image) (hold : EncoderHold) (rows : List (List Bool)) (sent : List ℕ) (raster : Raster) → HasCome image hold rows sent → MayCome image rows raster
    → HoldsStripes image.settings raster (length rows) sent
