-- The result and the effect of `t85_encode_abort`.
use Rattle.std.specs.Prelude.{ℕ, ◌≡◌, ◌≢◌, ◌≤◌, nat_lt, List, [], ◌∷◌, ◌++◌, length, drop, unwrap_or}
use Rattle.t85_core.specs.Grammar.{ESC, ABORT}
use Rattle.libt85.specs.Delivered.{Lending}
use Rattle.libt85.specs.Encoded.{status_if}
use Rattle.libt85.specs.Encoder.{EncoderIsNotBegun, HasBeenEnded, OfEach, encoder_hold}
use Rattle.libt85.specs.declared.encoder.T85Encoder.{T85Encoder}

-- the marker with which a stream ends that cannot be completed (T.82, 6.2.5)
abbrev pub abort_marker : List ℕ
abort_marker = ESC ∷ ABORT ∷ []

-- The stream was begun, and neither ended nor aborted: the only error is a buffer that is too short for the marker. The marker
-- is written, nothing more, and no call continues the stream.
pub record AbortsStream (old new : T85Encoder) (l : Lending) : Type 0 where
  pub status_is : (window : List ℕ) → OfEach (encoder_hold old window) (λ image rows sent. l.answer ≡ unwrap_or (status_if (nat_lt (length l.old) 2) 18) 0)
  pub was_ended : HasBeenEnded old → l.answer ≡ 54
  pub not_begun : EncoderIsNotBegun old → l.answer ≡ 53
  pub same : l.answer ≢ 0 → new ≡ old
  pub nothing : l.answer ≢ 0 → l.written ≡ 0
  pub kept : l.answer ≢ 0 → l.new ≡ l.old
  pub marker : l.answer ≡ 0 → l.new ≡ abort_marker ++ drop 2 l.old
  pub written : l.answer ≡ 0 → l.written ≡ 2
  pub within : l.written ≤ length l.new
  pub ended : l.answer ≡ 0 → HasBeenEnded new
