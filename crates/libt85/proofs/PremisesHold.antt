-- The premises of the laws of streams: lists of bytes, and actual headers and heights.
use Rattle.std.proofs.Common.{◌<◌, ◌≤◌, ℕ, suc, List, [], ◌∷◌, get_or}
use Rattle.qm_core.specs.Code.{IsBytes}
use Rattle.t85_core.specs.Laws.{IsInUse}
use Rattle.t85_core.specs.Options.{fields_of}
use Rattle.t85_core.specs.declared.header.Header.{Header}

pub bytes_each : (bytes : List ℕ) → ((i : ℕ) → get_or bytes i 0 < 256) → IsBytes bytes
bytes_each [] below = tt
bytes_each (b ∷ bytes) below = (below 0, bytes_each bytes (λ i. below (suc i)))

-- a header that was read, and a height within it
pub in_use : (h : Header) (height : ℕ) → 1 ≤ height → height ≤ h.yd → IsInUse (fields_of h) height
in_use h height from to = record {
  accepted = record {
    width_from = h.some_width;
    width_to = h.not_too_wide;
    height_from = h.some_height;
    height_to = h.not_too_tall;
    stripe_from = h.some_rows;
    stripe_to = h.not_too_long;
    offset_to = h.in_range;
    options_to = h.no_reserved_bit;
    no_table = h.no_private_table;
  };
  from = from;
  to = to;
}
