-- The stream of a raster, in the order in which an encoder writes it.
use Rattle.std.specs.Prelude.{ℕ, suc, ◌+◌, ◌≡◌, Bool, nat_lt, if◌then◌else◌, List, [], ◌++◌, length, Option}
use Rattle.qm_core.specs.Code.{code_of, stuffed}
use Rattle.raster_core.specs.Lines.{Mode}
use Rattle.t85_core.specs.Grammar.{NewLength, Stripe, segment_bytes, marker_bytes}
use Rattle.t85_core.specs.States.State.{StripeStart, first_row_start, image_start, next_stripe_start}
use Rattle.t85_core.specs.Jbg.{Settings, move_segments}
use Rattle.t85_core.specs.Encode.{IsBeginning}
use Rattle.t85_core.specs.States.Written.{after_rows, lines_down, EncoderStart, next_move, row_start_in}

-- The state at the top of the image.
abbrev pub first_encoder_start : ℕ → EncoderStart
first_encoder_start width = record { stripe = 0; carry = image_start width; counted = [] }

-- The stripe with these rows.
abbrev pub next_stripe : Settings → ℕ → EncoderStart → List (List Bool) → Stripe
next_stripe s width at rows = record {
  segments = move_segments (next_move s width at);
  code = code_of (row_start_in s width at rows).state.place;
  reset = s.reset;
}

-- The state carried to the stripe after it.
abbrev pub next_encoder_start : Settings → ℕ → EncoderStart → List (List Bool) → EncoderStart
next_encoder_start s width at rows = record {
  stripe = suc at.stripe;
  carry = next_stripe_start width s.reset (row_start_in s width at rows);
  counted = lines_down at.carry.above at.carry.second rows;
}

-- The bytes are a prefix of the code of each stripe of this many rows that begins with these rows.
abbrev pub BeginsCode : Mode → Option (ℕ × ℕ) → StripeStart → ℕ → List (List Bool) → List ℕ → Type 0
BeginsCode mode move c count rows bytes =
    (later : List (List Bool)) → length rows + length later ≡ count → IsBeginning bytes (stuffed (code_of (after_rows mode move 0 (first_row_start c) (rows ++ later)).state.place))

-- The bytes after the last stripe, for the height in the header.
abbrev pub ending_of : ℕ → Bool → ℕ → List ℕ
ending_of announced reset height' = if nat_lt height' announced then segment_bytes (NewLength height') ++ marker_bytes reset else []
