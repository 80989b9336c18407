-- The preconditions of the steps of decoding a row, and their effect on its position and on the decoder.
use Rattle.std.specs.Prelude.{ℕ, ◌≡◌, ◌≤◌, ◌<◌, true, false, List, length, Result, OnOk, OnErr}
use Rattle.std.specs.Int.{div_ceil}
use Rattle.qm_core.specs.Decoder.{has_stopped}
use Rattle.qm_core.specs.declared.decoder.Decoder.{Decoder}
use Rattle.raster_core.specs.Packed.{SameAbove}
use Rattle.raster_core.specs.Window.{current_place, held, memory_of, width_of}
use Rattle.raster_core.specs.declared.place.RowPlace.{RowPlace}
use Rattle.raster_core.specs.declared.shape.Kept.{Kept}
use Rattle.raster_core.specs.declared.shape.Shape.{Shape}
use Rattle.raster_core.specs.declared.window.Window.{Window}

-- a row of a window may be coded or decoded in this shape
abbrev pub MayCodeRow : Shape → Kept → Window → Type 0
MayCodeRow shape kept window = (width_of window ≡ shape.width) × (1 ≤ shape.width)

-- it may be decoded from its position on
abbrev pub MayGoOnRow : Shape → Kept → RowPlace → Window → Decoder → Type 0
MayGoOnRow shape kept place window d = (width_of window ≡ shape.width) × (place.done < shape.width) × (has_stopped d ≡ false)

-- A row may be decoded from its position on: if its pixels have begun, the decoder has not stopped.
abbrev pub MayGoOnIn : Shape → Kept → RowPlace → Decoder → Type 0
MayGoOnIn shape kept place d = (place.done < shape.width) × (place.is_begun ≡ true → has_stopped d ≡ false)

-- it was decoded with the same offset, or an error left `kept` unchanged and a position inside the row
abbrev pub LeavesPlace : {T E : Type 0} → Shape → Kept → Kept → RowPlace → Result T E → Type 0
LeavesPlace shape kept kept' place' result = OnOk result (kept'.offset ≡ kept.offset) × OnErr result (kept' ≡ kept) × OnErr result (place'.done < shape.width)

-- some pixels of a row are left, and these bytes have room for the row
abbrev pub IsPartOf : Shape → RowPlace → List ℕ → Type 0
IsPartOf shape place current = (place.done < shape.width) × (length current ≡ div_ceil shape.width 8)

-- everything in a window except the current row is unchanged
abbrev pub DecodesCurrent : Window → Window → Type 0
DecodesCurrent old new = SameAbove (held old) (held new) × (current_place new ≡ current_place old) × (memory_of new ≡ memory_of old)

-- Either a decoder that has not stopped decoded `count` runs of pixels, or nothing was done.
abbrev pub SkipsSoMany : ℕ → Decoder → Decoder → Type 0
SkipsSoMany count d d' = (has_stopped d' ≡ has_stopped d) × (1 ≤ count → has_stopped d ≡ false) × (count ≡ 0 → d' ≡ d)
