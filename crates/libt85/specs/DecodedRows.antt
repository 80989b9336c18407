-- The result of `t85_decode_rows`, and its effect on the caller's memory.
use Rattle.std.specs.Prelude.{ℕ, ◌+◌, ◌*◌, ◌≡◌, ◌≤◌, ◌<◌, ◌⊎◌, Bool, List, length, take, drop, flat_map, None}
use Rattle.std.specs.Int.{div_ceil}
use Rattle.std.specs.List.{AllByRecursion}
use Rattle.raster_core.specs.Packed.{packed_row}
use Rattle.t85_core.specs.Header.{Fields}
use Rattle.t85_core.specs.Laws.{HasOutcome}
use Rattle.t85_core.specs.Outcome.{pbm_rows}
use Rattle.libt85.specs.declared.lined_sink.LinedSink.{LinedSink}
use Rattle.libt85.specs.Decoded.{Opens, window_bytes, RefusesByHeader, RefusesHeight}
use Rattle.libt85.specs.Delivered.{Lending, RefusesLending, fault_status, lined, outside}

-- `fit` rows fit, each `stride` bytes after the one before: all of the image's, or one more would not fit.
pub record HaveRoom (wanted row stride room fit : ℕ) : Type 0 where
  pub to : fit ≤ wanted
  pub each : (y : ℕ) → y < fit → y * stride + row ≤ room
  pub most : fit < wanted → room < fit * stride + row

-- A consumer of rows that has received nothing of an image of this size.
pub record HasTakenNothing (h : Fields) (height : ℕ) (s : LinedSink) : Type 0 where
  pub row : s.row ≡ div_ceil h.xd 8
  pub no_row : s.y ≡ 0
  pub fresh : s.failures ≡ 0
  pub unspilled : s.spilled ≡ None
  pub room : HaveRoom height s.row s.stride (length s.bytes.now) s.fit

-- the number of rows that fit, and their layout
pub record Placing : Type 0 where
  pub fit : ℕ
  pub row : ℕ
  pub stride : ℕ

-- The rows fit and were written, and the status is this one.
pub record FitsRows (rows : List (List Bool)) (status : ℕ) (p : Placing) (memory : List ℕ) (written answer : ℕ) : Type 0 where
  pub fits : length rows ≤ p.fit
  pub written_is : written ≡ length rows
  pub stands : lined (length rows) p.row p.stride memory ≡ flat_map packed_row rows
  pub answer_is : answer ≡ status

-- There are more rows than fit, and the first of them were written.
pub record IsFullOfRows (rows : List (List Bool)) (p : Placing) (memory : List ℕ) (written answer : ℕ) : Type 0 where
  pub more : p.fit < length rows
  pub written_is : written ≡ p.fit
  pub stands : lined p.fit p.row p.stride memory ≡ flat_map packed_row (take p.fit rows)
  pub answer_is : answer ≡ 18

-- The rows of the outcome of a body are written: of the image that it denotes, or those that it determines before its error.
-- Bytes outside of the rows that fit are unchanged.
pub record DeliversRows (h : Fields) (height : ℕ) (body : List ℕ) (stride : ℕ) (l : Lending) : Type 0 where
  pub outcome : HasOutcome h height body
  pub rows : List (List Bool)
  pub rows_are : outcome.text ≡ pbm_rows h.xd height rows
  pub wide : AllByRecursion (λ row. length row ≡ h.xd) rows
  pub fit : ℕ
  pub room : HaveRoom height (div_ceil h.xd 8) stride (length l.old) fit
  pub kept : outside fit (div_ceil h.xd 8) stride l.new ≡ outside fit (div_ceil h.xd 8) stride l.old
  pub delivers : (let p : Placing = record { fit = fit; row = div_ceil h.xd 8; stride = stride } in FitsRows rows (fault_status outcome.fault) p l.new l.written l.answer ⊎
      IsFullOfRows rows p l.new l.written l.answer)

-- the rows would overlap
pub record RefusesStride (stream : List ℕ) (limit stride : ℕ) (l : Lending) : Type 0 where
  pub opens : Opens stream
  pub within : opens.height ≤ limit
  pub close : stride < div_ceil opens.header.xd 8
  pub refuses : RefusesLending 51 l

-- the window is shorter than three rows
pub record RefusesRowsWindow (stream : List ℕ) (limit stride window : ℕ) (l : Lending) : Type 0 where
  pub opens : Opens stream
  pub within : opens.height ≤ limit
  pub apart : div_ceil opens.header.xd 8 ≤ stride
  pub short : window < window_bytes opens.header.xd
  pub refuses : RefusesLending 19 l

-- the effect for the rows of a stream that is not rejected
pub record DeliversOutcomeRows (stream : List ℕ) (limit stride window : ℕ) (l : Lending) : Type 0 where
  pub opens : Opens stream
  pub within : opens.height ≤ limit
  pub apart : div_ceil opens.header.xd 8 ≤ stride
  pub enough : window_bytes opens.header.xd ≤ window
  pub writes : DeliversRows opens.header opens.height (drop 20 stream) stride l

-- the effect of `t85_decode_rows`
abbrev pub DecodesRows : List ℕ → ℕ → ℕ → ℕ → Lending → Type 0
DecodesRows stream limit stride window l =
    RefusesByHeader stream l ⊎ RefusesHeight stream limit l ⊎ RefusesStride stream limit stride l ⊎ RefusesRowsWindow stream limit stride window l ⊎ DeliversOutcomeRows stream limit stride window l
