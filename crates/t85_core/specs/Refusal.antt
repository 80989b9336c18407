-- The error of a stream that does not have its parts.
use Rattle.std.specs.Prelude.{◌≡◌, ◌<◌, ◌+◌, ℕ, Bool, ◌&&◌, ◌||◌, not, ◌==◌, nat_lt, nat_le, List, [], ◌∷◌, ◌++◌, length, slice_index, count_by, flat_map, Option, Some, None, if◌then◌else◌}
use Rattle.byteorder.specs.Endian.{big_number}
use Rattle.qm_core.specs.Code.{stuffed}
use Rattle.t85_core.specs.declared.fault.Fault.{Fault}
use Rattle.t85_core.specs.declared.fault.Fault.TheVariants.{Truncated, BadEscape, Aborted, MoveRefused, SecondMove, LengthRefused, SecondLength, Changed}
use Rattle.t85_core.specs.Header.{Fields, is_variable}
use Rattle.t85_core.specs.Grammar.{ESC, SDNORM, SDRST, ABORT, NEWLEN, ATMOVE, Stripe, Segment, segment_bytes, is_move, lengths, stripe_bytes, stripe_count, all_segments, is_nil, is_valid_length, IsBegun, AreStripes, GiveOnly}

-- The position of bytes: the actual height, and the numbers of stripe data entities and heights before them.
pub record Spot : Type 0 where
  pub height : ℕ
  pub entities : ℕ
  pub heights : ℕ

-- after these segments
abbrev pub spot_behind : Spot → List Segment → Spot
spot_behind spot segments = record { height = spot.height; entities = spot.entities; heights = spot.heights + length (lengths segments) }

-- after these stripes
abbrev pub spot_after : ℕ → List Stripe → Spot
spot_after height stripes = record { height = height; entities = length stripes; heights = length (lengths (all_segments stripes)) }

-- the error of the bytes behind FF 05; none for a whole valid height that is the actual one
abbrev pub length_fault : Fields → Spot → List ℕ → Option Fault
length_fault h spot bytes =
    if not (is_variable h) then Some LengthRefused
    else if not (spot.heights == 0) then Some SecondLength
    else if nat_lt (length bytes) 4 then Some Truncated
    else if not (is_valid_length h spot.entities (big_number 4 bytes)) then Some LengthRefused
    else if big_number 4 bytes == spot.height then None
    else Some Changed

-- the row, the offset and the last byte, 0, of a move that the header allows
abbrev pub is_legal_move : Fields → List ℕ → Bool
is_legal_move h bytes = nat_lt (big_number 4 bytes) h.l0 && nat_le (slice_index bytes 4) h.mx && (slice_index bytes 5 == 0)

-- the error of the bytes behind FF 06; none for a whole legal move
abbrev pub move_fault : Fields → ℕ → List ℕ → Option Fault
move_fault h moves bytes =
    if not (moves == 0) then Some SecondMove
    else if nat_lt (length bytes) 6 then Some Truncated
    else if is_legal_move h bytes then None else Some MoveRefused

-- the error of the bytes behind FF 07; none for a whole comment
abbrev pub comment_fault : List ℕ → Option Fault
comment_fault bytes =
    if nat_lt (length bytes) 4 then Some Truncated
    else if nat_lt (length bytes) (4 + big_number 4 bytes) then Some Truncated else None

-- The error of the bytes behind FF and this byte, in a stripe that has had `moves` moves, before its code or in it; none behind
-- a code byte FF, an end marker or a whole legal segment.
abbrev pub escape_fault : Fields → Spot → ℕ → Bool → ℕ → List ℕ → Option Fault
escape_fault h spot moves in_code escape bytes =
    if (escape == 0) || (escape == SDNORM) || (escape == SDRST) then None
    else if escape == ABORT then Some Aborted
    else if (escape == 1) || nat_le 8 escape || in_code then Some BadEscape
    else if escape == NEWLEN then length_fault h spot bytes
    else if escape == ATMOVE then move_fault h moves bytes
    else comment_fault bytes

-- The error of a rest. There is none if a code byte, an end marker or a whole legal segment is at its front, so nothing more
-- can be removed from a rest with an error.
abbrev pub rest_fault : Fields → Spot → ℕ → Bool → List ℕ → Option Fault
rest_fault h spot moves in_code [] = Some Truncated
rest_fault h spot moves in_code (b ∷ []) = if b == ESC then Some Truncated else None
rest_fault h spot moves in_code (b ∷ escape ∷ bytes) = if b == ESC then escape_fault h spot moves in_code escape bytes else None

-- An incomplete stripe is divided into whole legal segments, code bytes and a rest, and the rest has this error.
pub record StripeFault (h : Fields) (spot : Spot) (bytes : List ℕ) (fault : Fault) : Type 0 where
  pub segments : List Segment
  pub code : List ℕ
  pub rest : List ℕ
  pub bytes_are : bytes ≡ flat_map segment_bytes segments ++ (stuffed code ++ rest)
  pub begun : IsBegun h segments code
  pub gives : GiveOnly spot.height spot.heights segments
  pub rest_has : rest_fault h (spot_behind spot segments) (count_by is_move segments) (not (is_nil code)) rest ≡ Some fault

-- The bytes are fewer stripes than this, followed by an incomplete one with this error.
pub record StripesFault (h : Fields) (height count : ℕ) (bytes : List ℕ) (fault : Fault) : Type 0 where
  pub stripes : List Stripe
  pub tail : List ℕ
  pub bytes_are : bytes ≡ flat_map stripe_bytes stripes ++ tail
  pub fewer : length stripes < count
  pub each : AreStripes h stripes
  pub gives : GiveOnly height 0 (all_segments stripes)
  pub tail_has : StripeFault h (spot_after height stripes) tail fault

-- the error of a body that does not have its parts
abbrev pub BodyFault : Fields → ℕ → List ℕ → Fault → Type 0
BodyFault h height body fault = StripesFault h height (stripe_count height h.l0) body fault
