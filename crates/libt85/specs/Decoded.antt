-- The result of a decoding call, and its effect on the caller's memory.
use Rattle.std.specs.Prelude.{ℕ, ◌≡◌, ◌≤◌, ◌<◌, ◌*◌, ◌⊎◌, List, drop, Some}
use Rattle.std.specs.Int.{div_ceil}
use Rattle.t85_core.specs.declared.fault.Fault.{Fault}
use Rattle.t85_core.specs.Fault.{fault_number}
use Rattle.t85_core.specs.Header.{Fields, HeaderOf, header_fault}
use Rattle.t85_core.specs.Height.{IsHeight}
use Rattle.t85_core.specs.Laws.{HasOutcome}
use Rattle.libt85.specs.Delivered.{Lending, RefusesLending, fault_status, Delivers}

-- a stream whose header is accepted, and its height
pub record Opens (stream : List ℕ) : Type 0 where
  pub header : Fields
  pub header_of : HeaderOf stream header
  pub height : ℕ
  pub height_is : IsHeight header (drop 20 stream) height

-- the number of bytes of three rows
abbrev pub window_bytes : ℕ → ℕ
window_bytes width = 3 * div_ceil width 8

-- the header is rejected with this error
pub record RefusesByHeader (stream : List ℕ) (l : Lending) : Type 0 where
  pub fault : Fault
  pub is : header_fault stream ≡ Some fault
  pub refuses : RefusesLending (fault_number fault) l

-- the image has more rows than the caller's limit
pub record RefusesHeight (stream : List ℕ) (limit : ℕ) (l : Lending) : Type 0 where
  pub opens : Opens stream
  pub higher : limit < opens.height
  pub refuses : RefusesLending 24 l

-- the window is shorter than three rows
pub record RefusesWindow (stream : List ℕ) (limit window : ℕ) (l : Lending) : Type 0 where
  pub opens : Opens stream
  pub within : opens.height ≤ limit
  pub short : window < window_bytes opens.header.xd
  pub refuses : RefusesLending 19 l

-- The outcome of a body is written: the image that it denotes, or its error and the rows that it determines.
pub record DeliversText (h : Fields) (height : ℕ) (body memory : List ℕ) (written answer : ℕ) : Type 0 where
  pub outcome : HasOutcome h height body
  pub delivers : Delivers outcome.text (fault_status outcome.fault) memory written answer

-- the effect for a stream that is not rejected
pub record DeliversOutcome (stream : List ℕ) (limit window : ℕ) (l : Lending) : Type 0 where
  pub opens : Opens stream
  pub within : opens.height ≤ limit
  pub enough : window_bytes opens.header.xd ≤ window
  pub writes : DeliversText opens.header opens.height (drop 20 stream) l.new l.written l.answer

-- the effect of `t85_decode`
abbrev pub DecodesImage : List ℕ → ℕ → ℕ → Lending → Type 0
DecodesImage stream limit window l = RefusesByHeader stream l ⊎ RefusesHeight stream limit l ⊎ RefusesWindow stream limit window l ⊎ DeliversOutcome stream limit window l
