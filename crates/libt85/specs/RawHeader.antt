-- The result and the effect of `t85_raw_header`.
use Rattle.std.specs.Prelude.{ℕ, ◌≡◌, ◌≤◌, ◌<◌, ◌⊎◌, List, length, slice_index}
use Rattle.t85_core.specs.Header.{long_at}
use Rattle.libt85.specs.declared.raw_header.T85RawHeader.{T85RawHeader}

-- the numbers at the offsets that T.82, 6.2, gives to the fields of a header, whatever they are
pub record HasRawFields (bytes : List ℕ) (f : T85RawHeader) : Type 0 where
  pub dl : f.first_layer ≡ slice_index bytes 0
  pub d : f.last_layer ≡ slice_index bytes 1
  pub p : f.planes ≡ slice_index bytes 2
  pub fill : f.fill ≡ slice_index bytes 3
  pub xd : f.width ≡ long_at 4 bytes
  pub yd : f.height ≡ long_at 8 bytes
  pub l0 : f.stripe_rows ≡ long_at 12 bytes
  pub mx : f.most_offset ≡ slice_index bytes 16
  pub my : f.most_vertical_offset ≡ slice_index bytes 17
  pub order : f.order ≡ slice_index bytes 18
  pub options : f.options ≡ slice_index bytes 19

-- There are twenty bytes, and their fields are reported.
pub record TellsRaw (stream : List ℕ) (new : T85RawHeader) (answer : ℕ) : Type 0 where
  pub whole : 20 ≤ length stream
  pub answer_is : answer ≡ 0
  pub fields : HasRawFields stream new

-- There are fewer, and nothing is reported.
pub record KeepsRaw (stream : List ℕ) (old new : T85RawHeader) (answer : ℕ) : Type 0 where
  pub short : length stream < 20
  pub answer_is : answer ≡ 1
  pub kept : new ≡ old

-- the effect of `t85_raw_header`
abbrev pub RawHeaderTold : List ℕ → T85RawHeader → T85RawHeader → ℕ → Type 0
RawHeaderTold stream old new answer = TellsRaw stream new answer ⊎ KeepsRaw stream old new answer
