-- The result and the effect of `t85_decode_rest`.
use Rattle.std.specs.Prelude.{ℕ, ◌≡◌, ◌≢◌, ◌≤◌, ◌⊎◌, ◌==◌, ◌&&◌, Bool, true, false, List, [], ◌∷◌, ◌++◌, length}
use Rattle.t85_core.specs.Grammar.{ESC}
use Rattle.t85_core.specs.Parts.{IsTail}
use Rattle.libt85.specs.Decoder.{HasEnded, is_waiting}
use Rattle.libt85.specs.declared.decoder.T85Decoder.{T85Decoder}

-- Whether a height behind the last stripe ended the image, and the bytes behind this height are not known yet.
abbrev pub ends_late : T85Decoder → Bool
ends_late d = is_waiting d && (d.held_len == 0)

-- These bytes are too few to show whether an empty stripe data entity comes first.
abbrev pub LacksEntity : List ℕ → Type 0
LacksEntity bytes = (bytes ≡ []) ⊎ (bytes ≡ ESC ∷ [])

-- They show it. The entity is this many bytes: none if others come first.
pub record HasEntity (bytes : List ℕ) (len : ℕ) : Type 0 where
  pub tail : List ℕ
  pub rest : List ℕ
  pub bytes_are : bytes ≡ tail ++ rest
  pub tail_is : IsTail true tail rest
  pub known : LacksEntity bytes → ⊥
  pub len_is : len ≡ length tail

-- the bytes of a call, the number of those that it consumed, and its status
pub record RestCall : Type 0 where
  pub bytes : List ℕ
  pub taken : ℕ
  pub answer : ℕ

abbrev pub rest_call : List ℕ → ℕ → ℕ → RestCall
rest_call bytes taken answer = record { bytes = bytes; taken = taken; answer = answer }

-- Nothing was consumed or changed, and this is the status.
pub record KeepsRestAs (status : ℕ) (old new : T85Decoder) (call : RestCall) : Type 0 where
  pub answer_is : call.answer ≡ status
  pub nothing : call.taken ≡ 0
  pub kept : new ≡ old

-- The empty stripe data entity was consumed, if there is one, and nothing behind it.
pub record TakesEntity (old new : T85Decoder) (call : RestCall) : Type 0 where
  pub answer_is : call.answer ≡ 0
  pub has : HasEntity call.bytes call.taken
  pub ended : HasEnded new 0
  pub height : new.numbers.height ≡ old.numbers.height
  pub no_more : ends_late new ≡ false

-- More bytes are needed.
pub record AwaitsEntity (old new : T85Decoder) (call : RestCall) : Type 0 where
  pub lacks : LacksEntity call.bytes
  pub keeps : KeepsRestAs 62 old new call

-- the effect of `t85_decode_rest`
pub record RestTaken (old new : T85Decoder) (call : RestCall) : Type 0 where
  pub not_ended : (old.version ≢ 2) ⊎ (old.next ≢ 3) → KeepsRestAs 53 old new call
  pub broken : (status : ℕ) → HasEnded old status → status ≢ 0 → KeepsRestAs status old new call
  pub plain : HasEnded old 0 → ends_late old ≡ false → KeepsRestAs 0 old new call
  pub late : HasEnded old 0 → ends_late old ≡ true → TakesEntity old new call ⊎ AwaitsEntity old new call
  pub bound : call.taken ≤ length call.bytes
