-- The effects of the steps of an encoder in a C caller's struct.
use Rattle.std.specs.Prelude.{ℕ, ◌≡◌, ◌≢◌, ◌<◌, Bool, List, [], Option, Some}
use Rattle.pbm_core.specs.declared.size.Size.{Size}
use Rattle.raster_core.specs.Window.{current_place, held}
use Rattle.raster_core.specs.declared.window.Window.{Window}
use Rattle.t85_core.specs.Jbg.{Settings, head_of}
use Rattle.t85_core.specs.RowNumbers.{row_numbers}
use Rattle.t85_core.specs.States.ByRow.{IsPlan, MayGoOn, Stands, plan_of, view_of}
use Rattle.t85_core.specs.RowImage.{Image, image_of}
use Rattle.t85_core.specs.States.Sent.{here}
use Rattle.t85_core.specs.States.RowSteps.{IsGoing}
use Rattle.t85_core.specs.declared.encoding.by_row.RowEncoder.{RowEncoder}
use Rattle.t85_core.specs.declared.encoding.learning.Learning.{Learning}
use Rattle.libt85.specs.Encoder.{HasBeenEnded, HasCome, EncoderIsNotBegun, OfEach, encoder_hold, numbers_of_encoder, settings_kept, without_comment}
use Rattle.libt85.specs.declared.encoder.T85Encoder.{T85Encoder}

-- the settings of the stream, and the context states and counts for the image
pub record KeepsChoices (d d' : T85Encoder) : Type 0 where
  pub version : d'.version ≡ d.version
  pub next : d'.next ≡ d.next
  pub width : d'.width ≡ d.width
  pub height : d'.height ≡ d.height
  pub settings : settings_kept d' ≡ settings_kept d
  pub learning : d'.learning ≡ d.learning

-- The engine's encoder is the one whose numbers are in the struct, whatever image is encoded.
abbrev pub ResumesEach : T85Encoder → RowEncoder → Type 0
ResumesEach d e = (window : List ℕ) (image : Image) (rows : List (List Bool)) (sent : List ℕ) (k : HasCome image (encoder_hold d window) rows sent) (l : Learning) → view_of e l ≡ view_of k.engine l

-- The engine's encoder continues from the numbers in the struct.
pub record GoesOnFrom (d : T85Encoder) (e : RowEncoder) : Type 0 where
  pub ready : MayGoOn e
  pub going : IsGoing e
  pub width_is : e.size.width ≡ d.width
  pub limit_is : e.size.height ≡ d.height
  pub plan_is : IsPlan (image_of (settings_kept d) d.width d.height) (plan_of e)
  pub numbers_are : row_numbers e ≡ numbers_of_encoder d
  pub resumes : ResumesEach d e

-- no calls for an image leave the struct like this
abbrev pub IsOfNone : T85Encoder → Type 0
IsOfNone d = (window : List ℕ) → OfEach (encoder_hold d window) (λ image rows sent. ⊥)

-- A struct awaits the next row, or the end.
pub record AwaitsCall (d : T85Encoder) (e : RowEncoder) : Type 0 where
  pub version_is : d.version ≡ 1
  pub next_is : d.next ≡ 1
  pub place_to : d.place < 3
  pub goes_on : GoesOnFrom d e

-- It does not, and this is its status.
pub record IsIdle (d : T85Encoder) (status : ℕ) : Type 0 where
  pub some : status ≢ 0
  pub none : IsOfNone d
  pub ended : HasBeenEnded d → status ≡ 54
  pub not_begun : EncoderIsNotBegun d → status ≡ 53

-- a call is rejected with this status, if that is its first error for a struct that accepts rows
pub record RefusesCall (d : T85Encoder) (refusal : Option ℕ) (status : ℕ) : Type 0 where
  pub some : status ≢ 0
  pub first : (window : List ℕ) → OfEach (encoder_hold d window) (λ image rows sent. refusal ≡ Some status)
  pub ended : HasBeenEnded d → status ≡ 54
  pub not_begun : EncoderIsNotBegun d → status ≡ 53

-- The numbers of a started encoder are in a struct, and these bytes were written, which are the head of the stream.
pub record HasBegun (s : Settings) (size : Size) (d : T85Encoder) (window : Window) (bytes : List ℕ) : Type 0 where
  pub version_is : d.version ≡ 1
  pub next_is : d.next ≡ 1
  pub width_is : d.width ≡ size.width
  pub limit_is : d.height ≡ size.height
  pub settings_are : settings_kept d ≡ without_comment s
  pub engine : RowEncoder
  pub ready : MayGoOn engine
  pub numbers_are : numbers_of_encoder d ≡ row_numbers engine
  pub place_is : d.place ≡ current_place window
  pub stands : Stands (image_of s size.width size.height) [] (view_of engine d.learning) (held window) (here (Some [])) (Some bytes)
  pub head_is : bytes ≡ head_of s size.width size.height
