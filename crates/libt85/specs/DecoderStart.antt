-- The start of a decoder in a C caller's struct.
use Rattle.std.specs.Prelude.{ℕ, ◌≡◌, ◌≢◌, ◌⊎◌, []}
use Rattle.libt85.specs.DecoderState.{InHeader}
use Rattle.libt85.specs.declared.decoder.T85Decoder.{T85Decoder}

-- Nothing has been consumed.
pub record BeginsDecoder (max_rows : ℕ) (new : T85Decoder) (status : ℕ) : Type 0 where
  pub status_is : status ≡ 0
  pub limit_is : new.max_rows ≡ max_rows
  pub none : InHeader new [] []

-- The caller's struct is of another size.
pub record IsOfAnotherSize (size : ℕ) (old new : T85Decoder) (status : ℕ) : Type 0 where
  pub other : size ≢ 1280
  pub status_is : status ≡ 50
  pub kept : new ≡ old

abbrev pub IsDecoderBegun : ℕ → ℕ → T85Decoder → T85Decoder → ℕ → Type 0
IsDecoderBegun size max_rows old new status = ((size ≡ 1280) × BeginsDecoder max_rows new status) ⊎ IsOfAnotherSize size old new status
