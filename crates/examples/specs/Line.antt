-- The `--info` line of the stream of an image.
use Rattle.std.specs.Prelude.{ℕ, List, [], ◌∷◌, Option, count_by, if◌then◌else◌, is_some}
use Rattle.std.specs.Io.KnownBytes.{Appends}
use Rattle.pbm_core.specs.Image.{IsPbm}
use Rattle.raster_core.specs.Raster.{Raster, height}
use Rattle.t85_core.specs.Grammar.{stripe_count}
use Rattle.t85_core.specs.Jbg.{Settings, coding_of, header_of}
use Rattle.t85_core.specs.Info.{line_text}

-- The header's width, height, rows per stripe, greatest offset and options; the actual height, which is the image's; the number
-- of stripes, the number of them that begin with a move, and whether there is a comment.
abbrev pub line_numbers : Settings → Raster → List ℕ
line_numbers s raster =
    let h = header_of s raster.width (height raster) in
    h.xd
    ∷ h.yd
    ∷ h.l0
    ∷ h.mx
    ∷ h.options
    ∷ height raster
    ∷ stripe_count (height raster) s.stripe_rows
    ∷ count_by is_some (coding_of s raster).moves
    ∷ (if is_some s.comment then 1 else 0)
    ∷ []

-- The bytes begin with an image, and the line about its stream was written.
pub record WritesLine (s : Settings) (bytes : List ℕ) (old new : Option (List ℕ)) : Type 0 where
  pub raster : Raster
  pub rest : List ℕ
  pub is : IsPbm bytes raster.width raster.rows rest
  pub appends : Appends old new (line_text (line_numbers s raster))
