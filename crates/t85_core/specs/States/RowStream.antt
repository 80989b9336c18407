-- The output for a stream after some rows, and the stripes of it whose rows are complete.
use Rattle.std.specs.Prelude.{ℕ, ◌*◌, ◌≡◌, ◌≤◌, ◌<◌, Bool, List, length, Option}
use Rattle.std.specs.List.{AllByRecursion}
use Rattle.raster_core.specs.Raster.{Raster, height}
use Rattle.t85_core.specs.Encode.{IsBeginning, HoldsStripes}
use Rattle.t85_core.specs.Jbg.{jbg, jbg_up_to}
use Rattle.t85_core.specs.RowImage.{Image, MayCome, SameNames, naming}
use Rattle.t85_core.specs.States.Written.{EncoderStart}
use Rattle.t85_core.specs.States.Looked.{CourseAt}
use Rattle.t85_core.specs.States.Sent.{Origin, Sends}

-- The bytes written so far are a prefix of the stream of each raster that may still come.
pub record StreamCut (image : Image) (rows : List (List Bool)) (origin : Origin) (text : Option (List ℕ)) : Type 0 where
  pub bytes : List ℕ
  pub sent : Sends origin text bytes
  pub begins : (raster : Raster) → MayCome image rows raster → IsBeginning bytes (jbg image.settings raster)

-- The same, and they include each stripe whose rows are complete.
pub record StreamFront (image : Image) (rows : List (List Bool)) (origin : Origin) (text : Option (List ℕ)) : Type 0 where
  pub bytes : List ℕ
  pub sent : Sends origin text bytes
  pub begun : (raster : Raster) → MayCome image rows raster → HoldsStripes image.settings raster (length rows) bytes

-- The rows so far have this width and are this many, at most as many as the image may have.
pub record HaveCome (width limit : ℕ) (rows : List (List Bool)) (count : ℕ) : Type 0 where
  pub many : count ≡ length rows
  pub few : length rows ≤ limit
  pub wide : AllByRecursion (λ row. length row ≡ width) rows

-- The stream before stripe i, and the state carried to stripe i.
pub record FrontStands (image : Image) (i : ℕ) (rows : List (List Bool)) (at : EncoderStart) (front : List ℕ) : Type 0 where
  pub front_is : (raster : Raster) → MayCome image rows raster → front ≡ jbg_up_to image.settings raster i
  pub course : (raster : Raster) → MayCome image rows raster → i * image.settings.stripe_rows < height raster → CourseAt image.settings raster i at

-- Stripes 0 to i - 1 are complete. The stream before stripe i, and the state carried to it, for any names of later stripes.
pub record StripesWhole (image : Image) (i : ℕ) (rows : List (List Bool)) (at : EncoderStart) (front : List ℕ) : Type 0 where
  pub many : length rows ≡ i * image.settings.stripe_rows
  pub stripe_is : at.stripe ≡ i
  pub stands : (names : List (Option ℕ)) → SameNames i image.settings.named names → FrontStands (naming image names) i rows at front
