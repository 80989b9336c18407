-- The greatest length of a stream.
use Rattle.std.specs.Prelude.{ℕ, ◌+◌, ◌*◌, ◌==◌, ◌||◌, nat_lt, if◌then◌else◌, ◌≡◌, ◌≤◌, ◌<◌, ◌^◌, List, [], length, unwrap_or}
use Rattle.raster_core.specs.Raster.{Raster, IsRaster, height}
use Rattle.t85_core.specs.Grammar.{stripe_count}
use Rattle.t85_core.specs.Jbg.{jbg}
use Rattle.libt85.specs.declared.options.T85Options.{T85Options}
use Rattle.libt85.specs.Encoded.{comment_chosen, settings_chosen}

-- the bytes of the requested comment
abbrev pub comment_length : T85Options → ℕ → ℕ
comment_length choice comment_len = if choice.has_comment then comment_len else 0

-- the result: 0 if an encoding call would reject the arguments, otherwise the greatest length of a stream
abbrev pub bound_told : T85Options → ℕ → ℕ → ℕ → ℕ
bound_told choice width height' held =
    if (width == 0) || ((height' == 0) || (nat_lt 1048576 width || ((choice.stripe_rows == 0) || nat_lt 4294967295 held))) then 0
    else 34 + held + 14 * stripe_count height' choice.stripe_rows + 4 * (height' * (width + 1))

-- This many bytes are enough for the stream of each raster of this size, with each comment of this length.
abbrev pub IsBound : T85Options → ℕ → ℕ → ℕ → ℕ → Type 0
IsBound choice width height' comment_len bound =
    (comment : List ℕ) (raster : Raster) → length comment ≡ comment_len → length (unwrap_or (comment_chosen choice comment) []) < 2 ^ 32 → 1 ≤ choice.stripe_rows
    → IsRaster raster → raster.width ≡ width → height raster ≡ height' → length (jbg (settings_chosen choice comment) raster) ≤ bound
