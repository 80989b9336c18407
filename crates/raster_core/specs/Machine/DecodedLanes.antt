-- The effect of decoding pixels whose contexts were computed four at a time, in lanes.
use Rattle.std.specs.Prelude.{ℕ, ◌+◌, ◌≡◌, ◌≤◌, ◌<◌, false, Result, IfOk, IfErr}
use Rattle.qm_core.specs.Source.{Pulls}
use Rattle.qm_core.specs.Decoder.{DecoderState}
use Rattle.qm_core.specs.Reads.{reader_state}
use Rattle.qm_core.specs.declared.source.CodeBytes.{Ghosts}
use Rattle.qm_core.specs.declared.source.Pulled.{Pulled}
use Rattle.qm_core.specs.declared.reader.Reader.{Reader}
use Rattle.raster_core.specs.Machine.Decoded.{Along, ByteAround, StopsAlong}
use Rattle.raster_core.specs.Machine.Lanes.{HasAround}
use Rattle.raster_core.specs.declared.place.Pause.{Pause}

-- The inputs of the three-line template with a nominal adaptive pixel, from pixel n of a byte on: the lanes of the rows above, the last pixels.
pub record LanesAround : Type 0 where
  pub lanes : ℕ
  pub past : ℕ
  pub n : ℕ

abbrev pub lanes_around : (lanes past n : ℕ) → LanesAround
lanes_around lanes past n = record { lanes = lanes; past = past; n = n }

-- these lanes are those of `count` pixels of a byte, from pixel n on
pub record AreLanesOf (lanes : ℕ) (b : ByteAround) (n count : ℕ) : Type 0 where
  pub three_line : b.mode.two_line ≡ false
  pub nominal : b.offset ≡ 0
  pub within : n + count ≤ 8
  pub around_is : HasAround lanes b.second b.above n count

-- `count` more pixels of a byte were decoded, with these lanes.
pub record AlongMore {S : Type 0} (pull : S → Pulled → S → Type 0) (a : LanesAround) (mid : DecoderState S) (count past' : ℕ) (new : DecoderState S) : Type 0 where
  pub any : (b : ByteAround) (old : DecoderState S) → AreLanesOf a.lanes b a.n count → Along pull b old a.n a.past mid → Along pull b old (a.n + count) past' new

-- the source stopped at one of them
pub record StopsMore {S : Type 0} (pull : S → Pulled → S → Type 0) (a : LanesAround) (mid : DecoderState S) (count : ℕ) (pause : Pause) (new : DecoderState S) : Type 0 where
  pub any : (b : ByteAround) (old : DecoderState S) → AreLanesOf a.lanes b a.n count → Along pull b old a.n a.past mid → StopsAlong pull b old 8 pause new

-- The effect of decoding pixels with these lanes.
abbrev pub DecodesLanes : {S : Type 0} (source : Ghosts S) (a : LanesAround) (count : ℕ) (r r' : Reader S) (result : Result ℕ Pause) → Type 0
DecodesLanes source a count r r' result =
    IfOk result (λ past. AlongMore (Pulls source.gives source.failed) a (reader_state r) count past (reader_state r'))
    × IfErr result (λ pause. (pause.count < a.n + count) × StopsMore (Pulls source.gives source.failed) a (reader_state r) count pause (reader_state r'))
