-- The result of an encoding call, and its effect on the caller's memory.
use Rattle.std.specs.Prelude.{ℕ, ◌≡◌, ◌<◌, ◌⊎◌, ◌==◌, ◌||◌, not, nat_lt, List, [], ◌∷◌, ◌++◌, length, Option, Some, None, option_map, if◌then◌else◌, Bool}
use Rattle.std.specs.Int.{div_ceil}
use Rattle.pbm_core.specs.declared.form.Form.TheVariants.{Raw}
use Rattle.pbm_core.specs.declared.fault.PbmFault.TheVariants.{Truncated}
use Rattle.pbm_core.specs.Image.{HoldsRows, HasRowFault}
use Rattle.raster_core.specs.Raster.{Raster}
use Rattle.t85_core.specs.Denotes.{Denotes}
use Rattle.t85_core.specs.Encode.{BeginsWith, HoldsStripes, IsBeginning, raster_of}
use Rattle.t85_core.specs.Fault.{fault_number}
use Rattle.t85_core.specs.Jbg.{Settings, is_low, jbg}
use Rattle.t85_core.specs.Options.{refusal_of}
use Rattle.libt85.specs.declared.options.T85Options.{T85Options}
use Rattle.libt85.specs.Decoded.{window_bytes}
use Rattle.libt85.specs.Delivered.{Lending, RefusesLending, Delivers, Fits, lined}

-- the arguments of the caller
abbrev pub comment_chosen : T85Options → List ℕ → Option (List ℕ)
comment_chosen choice comment = if choice.has_comment then Some comment else None

abbrev pub settings_chosen : T85Options → List ℕ → Settings
settings_chosen choice comment = record {
  options = choice.options;
  stripe_rows = choice.stripe_rows;
  most_offset = choice.most_offset;
  announced = if choice.announces_height then Some choice.announced_height else None;
  reset = choice.reset;
  comment = comment_chosen choice comment;
  named = [];
}

-- this status, or else the next
abbrev pub or_else : Option ℕ → Option ℕ → Option ℕ
or_else (Some status) next = Some status
or_else None next = next

-- a status if a test holds
abbrev pub status_if : Bool → ℕ → Option ℕ
status_if test status = if test then Some status else None

-- the first error, in this order: the version, the options, the size, the stride, the announced height, the window
abbrev pub refusal_told : T85Options → List ℕ → ℕ → ℕ → ℕ → ℕ → Option ℕ
refusal_told choice comment width height stride window =
    or_else (status_if (not (choice.version == 1)) 50)
    (or_else (option_map fault_number (refusal_of choice.options choice.stripe_rows choice.most_offset (comment_chosen choice comment)))
    (or_else (status_if ((width == 0) || (height == 0)) 33)
    (or_else (status_if (nat_lt 1048576 width) 34)
    (or_else (status_if (nat_lt stride (div_ceil width 8)) 51)
    (or_else (status_if (is_low (settings_chosen choice comment) height) 23)
    (status_if (nat_lt window (window_bytes width)) 19))))))

-- the image of this size to be encoded
pub record Asked : Type 0 where
  pub settings : Settings
  pub width : ℕ
  pub height : ℕ

abbrev pub asked : Settings → ℕ → ℕ → Asked
asked s width height = record { settings = s; width = width; height = height }

-- All rows were present: the stream of their raster is written, and denotes it.
pub record DeliversAll (a : Asked) (body memory : List ℕ) (written answer : ℕ) : Type 0 where
  pub rows : List (List Bool)
  pub rest : List ℕ
  pub holds : HoldsRows Raw body a.width rows rest
  pub many : length rows ≡ a.height
  pub denotes : Denotes (jbg a.settings (raster_of a.width rows)) (raster_of a.width rows)
  pub delivers : Delivers (jbg a.settings (raster_of a.width rows)) 0 memory written answer

-- A prefix of the stream of each raster that begins with these rows is written, with each stripe whose rows are all present.
pub record FitsBegun (a : Asked) (rows : List (List Bool)) (memory : List ℕ) (written answer : ℕ) : Type 0 where
  pub text : List ℕ
  pub begun : (raster : Raster) → BeginsWith a.width a.height rows raster → HoldsStripes a.settings raster (length rows) text
  pub fits : Fits text 36 memory written answer

-- The buffer is full of a prefix of the stream of each raster that begins with these rows. The same byte follows this prefix in
-- each, so the output is longer.
pub record IsFullOfEach (a : Asked) (rows : List (List Bool)) (memory : List ℕ) (written answer : ℕ) : Type 0 where
  pub next : ℕ
  pub begins : (raster : Raster) → BeginsWith a.width a.height rows raster → IsBeginning (memory ++ next ∷ []) (jbg a.settings raster)
  pub written_is : written ≡ length memory
  pub answer_is : answer ≡ 18

-- Rows were missing.
pub record DeliversSome (a : Asked) (body memory : List ℕ) (written answer : ℕ) : Type 0 where
  pub rows : List (List Bool)
  pub rest : List ℕ
  pub holds : HoldsRows Raw body a.width rows rest
  pub few : length rows < a.height
  pub part : HasRowFault Raw a.width rest Truncated
  pub writes : FitsBegun a rows memory written answer ⊎ IsFullOfEach a rows memory written answer

-- the effect for adjacent rows
abbrev pub DeliversCode : Asked → List ℕ → List ℕ → ℕ → ℕ → Type 0
DeliversCode a body memory written answer = DeliversAll a body memory written answer ⊎ DeliversSome a body memory written answer

-- a call without its rows, and the length of the window
pub record EncodingCall : Type 0 where
  pub choice : T85Options
  pub comment : List ℕ
  pub width : ℕ
  pub height : ℕ
  pub stride : ℕ
  pub window : ℕ

abbrev pub encoding_call : T85Options → List ℕ → ℕ → ℕ → ℕ → ℕ → EncodingCall
encoding_call choice comment width height stride window = record { choice = choice; comment = comment; width = width; height = height; stride = stride; window = window }

abbrev pub refusal : EncodingCall → Option ℕ
refusal call = refusal_told call.choice call.comment call.width call.height call.stride call.window

-- the effect of a rejected call
pub record RefusesJob (call : EncodingCall) (l : Lending) : Type 0 where
  pub status : ℕ
  pub is : refusal call ≡ Some status
  pub refuses : RefusesLending status l

-- the effect of an accepted call
pub record DeliversStream (call : EncodingCall) (rows : List ℕ) (l : Lending) : Type 0 where
  pub accepted : refusal call ≡ None
  pub writes : DeliversCode (asked (settings_chosen call.choice call.comment) call.width call.height) (lined call.height (div_ceil call.width 8) call.stride rows) l.new l.written l.answer

-- the effect of `t85_encode`
abbrev pub EncodesImage : EncodingCall → List ℕ → Lending → Type 0
EncodesImage call rows l = RefusesJob call l ⊎ DeliversStream call rows l
