-- A decoder in pieces that is stored as numbers between calls.
use Rattle.std.specs.Prelude.{ℕ, ◌≡◌, ◌≤◌, Bool, List, ◌++◌, length, take}
use Rattle.qm_core.specs.Place.{Estimate}
use Rattle.raster_core.specs.Packed.{rows_at}
use Rattle.t85_core.specs.declared.fault.Fault.{Fault}
use Rattle.t85_core.specs.declared.header.Header.{Header}
use Rattle.t85_core.specs.declared.pieces.Outcome.TheVariants as outcome
use Rattle.t85_core.specs.declared.pieces.PieceDecoder.{PieceDecoder}
use Rattle.t85_core.specs.declared.pieces.Progress.{Progress}
use Rattle.t85_core.specs.Lent.{decoder_view}
use Rattle.t85_core.specs.Numbers.{ArePieceNumbers}
use Rattle.t85_core.specs.Options.{fields_of}
use Rattle.t85_core.specs.Feeds.{HasFed, held_bytes}
use Rattle.t85_core.specs.Pieces.{HandsOut, HoldsImage, MayFollow, StreamGoesOn, given_with}
use Rattle.examples.specs.declared.kept.KeptDecoder.{KeptDecoder}

-- the state between two calls
pub record Between : Type 0 where
  pub header : Header
  pub kept : KeptDecoder
  pub memory : List ℕ
  pub learned : List Estimate

abbrev pub between_calls : Header → KeptDecoder → List ℕ → List Estimate → Between
between_calls header kept memory learned = record { header = header; kept = kept; memory = memory; learned = learned }

-- The state is that of a decoder that can continue. It has consumed these bytes, and returned these rows, packed.
pub record IsKept (b : Between) (text out : List ℕ) : Type 0 where
  pub decoder : PieceDecoder
  pub stream_is : fields_of decoder.image.header ≡ fields_of b.header
  pub numbers_are : ArePieceNumbers b.kept.numbers decoder
  pub has : HasFed (decoder_view decoder (rows_at b.kept.place b.header.xd b.memory) b.learned) (held_bytes b.kept.held) text out

-- the current row of the memory
abbrev pub row_kept : Between → List ℕ
row_kept b = (rows_at b.kept.place b.header.xd b.memory).current

-- The result of a call: the next numbers, or the image, whatever follows the piece.
pub record KeptOn (old new : Between) (piece : List ℕ) (is_all : Bool) (progress : Progress) : Type 0 where
  pub bound : progress.taken ≤ length piece
  pub all : progress.outcome ≡ outcome.More → progress.taken ≡ length piece
  pub goes_on : StreamGoesOn progress.outcome → (text out : List ℕ) → IsKept old text out → IsKept new (text ++ take progress.taken piece) (out ++ given_with progress.outcome (row_kept new))
  pub done : (height : ℕ) → progress.outcome ≡ outcome.Done height → (text out rest : List ℕ) → IsKept old text out → MayFollow is_all rest → HoldsImage (fields_of old.header) ((text ++ piece) ++ rest) height out
  pub broken : (fault : Fault) → progress.outcome ≡ outcome.Broken fault → (text out rest : List ℕ) → IsKept old text out → MayFollow is_all rest → HandsOut (fields_of old.header) ((text ++ piece) ++ rest) new.kept.numbers.height fault out
