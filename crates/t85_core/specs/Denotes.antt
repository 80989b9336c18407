-- The raster that a stream denotes.
use Rattle.std.specs.Prelude.{ℕ, ◌≡◌, ◌<◌, Bool, List, [], length, map, drop, slice_index_or}
use Rattle.qm_core.specs.Code.{Lies}
use Rattle.raster_core.specs.Raster.{Raster, IsRaster, height}
use Rattle.t85_core.specs.Header.{Fields, HeaderOf}
use Rattle.t85_core.specs.Grammar.{Stripe, Parts}
use Rattle.t85_core.specs.Height.{IsHeight}
use Rattle.t85_core.specs.Coding.{Coding, HasLegalFlags, place_of, mode_of, move_of}

-- the rows as coded with these stripes and flags
abbrev pub coding_in : Fields → List Stripe → List Bool → List (List Bool) → Coding
coding_in h stripes flags rows = record {
  raster = record { width = h.xd; rows = rows };
  mode = mode_of h.options;
  stripe_rows = h.l0;
  moves = map (λ s. move_of s.segments) stripes;
  resets = map (λ s. s.reset) stripes;
  flags = flags;
}

-- each stripe's code lies in the place to which the stripe's rows lead
abbrev pub EachLies : Coding → List (List ℕ) → Type 0
EachLies c codes = (i : ℕ) → i < length codes → Lies (slice_index_or codes i []) (place_of c i)

-- the body has its parts, and there are legal flags with which each stripe's code lies in the place to which its rows lead
pub record DenotesAt (h : Fields) (height' : ℕ) (body : List ℕ) (raster : Raster) : Type 0 where
  pub parts : Parts h height' body
  pub proper : IsRaster raster
  pub width : raster.width ≡ h.xd
  pub height : height raster ≡ height'
  pub flags : List Bool
  pub legal : HasLegalFlags (coding_in h parts.stripes flags raster.rows)
  pub lies : EachLies (coding_in h parts.stripes flags raster.rows) (map (λ s. s.code) parts.stripes)

-- A stream denotes a raster if its header, at the stream's height and with the bytes after the header, does.
pub record Denotes (bytes : List ℕ) (raster : Raster) : Type 0 where
  pub header : Fields
  pub header_of : HeaderOf bytes header
  pub height : ℕ
  pub height_is : IsHeight header (drop 20 bytes) height
  pub denotes : DenotesAt header height (drop 20 bytes) raster
