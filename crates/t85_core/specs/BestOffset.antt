-- The offset of the adaptive pixel that gives a stripe the fewest bytes.
use Rattle.std.specs.Prelude.{ℕ, ◌≡◌, ◌≤◌, ◌<◌, ◌⊎◌, not, List, ◌∷◌, length, map, filter, Contains, Option, option_to_list}
use Rattle.std.specs.List.{AllByRecursion}
use Rattle.raster_core.specs.Raster.{Raster}
use Rattle.raster_core.specs.Lines.{Lines, Mode, may_be_typical}
use Rattle.raster_core.specs.Offset.{best_offset, candidates}
use Rattle.t85_core.specs.Grammar.{stripe_bytes}
use Rattle.t85_core.specs.Coding.{rows_of, lines_of}
use Rattle.t85_core.specs.Jbg.{Settings, cut, coding_of, coded_stripe}
use Rattle.t85_core.specs.RowImage.{with_name}
use Rattle.t85_core.specs.States.Looked.{offset_to}

-- The number of bytes of stripe i, with its segments, if the caller names this offset for it.
abbrev pub stripe_length : Settings → Raster → ℕ → ℕ → ℕ
stripe_length s raster i t = length (stripe_bytes (coded_stripe (coding_of (record s { named = with_name t i s.named }) raster) i))

-- The lines whose rows are not typical.
abbrev pub plain_lines : Mode → List Lines → List Lines
plain_lines mode lines = filter (λ l. not (may_be_typical mode l)) lines

-- The least lag with the most pixels, in the rows of stripe i that are not typical, that equal the pixel so far to their left.
abbrev pub counted_lag : Settings → Raster → ℕ → Option ℕ
counted_lag s raster i = let c = cut s raster in best_offset (plain_lines c.mode (map (lines_of c) (rows_of c i))) (candidates c.mode.two_line s.most_offset)

-- The offsets that are tried: the one in use where stripe i begins, the nominal one, and that lag.
abbrev pub tried_offsets : Settings → Raster → ℕ → List ℕ
tried_offsets s raster i = offset_to s raster i ∷ 0 ∷ option_to_list (counted_lag s raster i)

-- Offset t gives fewer bytes than u; or as many, and it is not greater.
abbrev pub IsNoWorse : (ℕ → ℕ) → ℕ → ℕ → Type 0
IsNoWorse bytes t u = (bytes t < bytes u) ⊎ ((bytes t ≡ bytes u) × (t ≤ u))

-- Offset t is one of these, and no other is better.
pub record IsShortest (bytes : ℕ → ℕ) (offsets : List ℕ) (t : ℕ) : Type 0 where
  pub among : Contains offsets t
  pub no_worse : AllByRecursion (IsNoWorse bytes t) offsets

-- That holds for stripe i.
abbrev pub IsBestFor : Settings → Raster → ℕ → ℕ → Type 0
IsBestFor s raster i = IsShortest (stripe_length s raster i) (tried_offsets s raster i)
