-- The rows of a stream in pieces.
use Rattle.std.specs.Prelude.{⊤, ℕ, ◌≡◌, ◌≢◌, ◌≤◌, ◌-◌, ◌^◌, Bool, true, false, List, [], ◌∷◌, ◌++◌, length, take, flat_map, sum_by}
use Rattle.t85_core.specs.declared.fault.Fault.TheVariants.{Truncated}
use Rattle.t85_core.specs.Lent.{PieceView, waits_behind}
use Rattle.t85_core.specs.declared.pieces.Outcome.{Outcome}
use Rattle.t85_core.specs.declared.pieces.Outcome.TheVariants as outcome
use Rattle.t85_core.specs.Header.{Fields}
use Rattle.t85_core.specs.Pieces.{HasDecoded, HandsOut, HoldsImage, MayFollow, Call, IsCall, StreamGoesOn, decoder_after, row_given, stream_of}

-- the number of calls that returned a row
abbrev pub rows_told : Outcome → ℕ
rows_told outcome.Row = 1
rows_told outcome.More = 0
rows_told (outcome.Done height) = 0
rows_told (outcome.Broken fault) = 0

abbrev pub rows_counted : List Call → ℕ
rows_counted calls = sum_by (λ call. rows_told call.answer) calls

-- successive calls, with any pieces
abbrev pub WereMade : PieceView → List Call → Type 0
WereMade d [] = ⊤
WereMade d (call ∷ calls) = IsCall d call × WereMade call.new calls

-- The meaning of a result for the returned rows, after these bytes, which may have been announced as all: nothing if it is a
-- row itself, or if rows wait for a height, and otherwise their place in the image, whatever follows.
abbrev pub SaysOfRows : Fields → Bool → PieceView → Outcome → List ℕ → List ℕ → Type 0
SaysOfRows h is_all new outcome.Row come out = ⊤
SaysOfRows h is_all new outcome.More come out = waits_behind new ≡ false → HandsOut h come new.height Truncated out
SaysOfRows h is_all new (outcome.Done height) come out = (rest : List ℕ) → MayFollow is_all rest → HoldsImage h (come ++ rest) height out
SaysOfRows h is_all new (outcome.Broken fault) come out = (rest : List ℕ) → MayFollow is_all rest → HandsOut h (come ++ rest) new.height fault out

-- The collected rows, before and after some calls.
pub record Gathered : Type 0 where
  pub old : List ℕ
  pub new : List ℕ

abbrev pub gathered : List ℕ → List ℕ → Gathered
gathered old new = record { old = old; new = new }

-- Some calls read a piece, up to the first result that is not a row, or until they returned `limit` rows. Together they count
-- as one call: for the whole piece, with the last result.
pub record PieceRead (old : PieceView) (whole : Call) (limit : ℕ) (rows : Gathered) : Type 0 where
  pub calls : List Call
  pub made : WereMade old calls
  pub after : whole.new ≡ decoder_after old calls
  pub appended : rows.new ≡ rows.old ++ flat_map row_given calls
  pub full : whole.answer ≡ outcome.Row → rows_counted calls ≡ limit
  pub ends : whole.is_all ≡ true → whole.answer ≢ outcome.More
  pub within : whole.taken ≤ length whole.piece
  pub goes_on : StreamGoesOn whole.answer → (text out : List ℕ) → HasDecoded old text out → HasDecoded whole.new (text ++ take whole.taken whole.piece) (out ++ flat_map row_given calls)
  pub tells : (text out : List ℕ) → HasDecoded old text out → SaysOfRows (stream_of old) whole.is_all whole.new whole.answer (text ++ whole.piece) (out ++ flat_map row_given calls)

-- Some calls read a text, which is the whole stream, in any pieces. The last result describes it.
pub record TextRead (old new : PieceView) (come : List ℕ) (limit : ℕ) (answer : Outcome) (rows : Gathered) : Type 0 where
  pub calls : List Call
  pub made : WereMade old calls
  pub appended : rows.new ≡ rows.old ++ flat_map row_given calls
  pub full : answer ≡ outcome.Row → limit ≤ rows_counted calls
  pub ends : answer ≢ outcome.More
  pub tells : (text out : List ℕ) → HasDecoded old text out → SaysOfRows (stream_of old) true new answer (text ++ come) (out ++ flat_map row_given calls)

-- Memory ran out. The rows of some first calls were appended.
pub record SomeRead (old : PieceView) (rows : Gathered) : Type 0 where
  pub calls : List Call
  pub made : WereMade old calls
  pub appended : rows.new ≡ rows.old ++ flat_map row_given calls

-- Some calls of a new decoder read a body, and their rows were appended. The result describes these rows for the whole body. It
-- is a row only if more rows were returned than any image has.
pub record BodyRead (h : Fields) (body : List ℕ) (answer : Outcome) (rows : Gathered) : Type 0 where
  pub decoder : PieceView
  pub fresh : HasDecoded decoder [] []
  pub last : PieceView
  pub calls : List Call
  pub made : WereMade decoder calls
  pub appended : rows.new ≡ rows.old ++ flat_map row_given calls
  pub full : answer ≡ outcome.Row → 2 ^ 64 - 1 ≤ rows_counted calls
  pub ends : answer ≢ outcome.More
  pub says : SaysOfRows h true last answer body (flat_map row_given calls)
