-- The image of a row encoder.
use Rattle.std.specs.Prelude.{ℕ, zero, suc, ◌≡◌, ◌≤◌, ◌<◌, ◌/◌, ◌==◌, ◌||◌, ◌&&◌, nat_le, if◌then◌else◌, Bool, List, [], ◌∷◌, Option, None, Some, length, take, slice_index_or}
use Rattle.pbm_core.specs.declared.size.Size.{Size}
use Rattle.raster_core.specs.Raster.{Raster, IsRaster, height}
use Rattle.t85_core.specs.declared.options.Options.{Options}
use Rattle.t85_core.specs.Jbg.{Settings}
use Rattle.t85_core.specs.Options.{settings_of}

-- An image whose rows are passed one by one: the settings of its stream, its width, and its height or, if a height is
-- announced, its greatest height.
pub record Image : Type 0 where
  pub settings : Settings
  pub width : ℕ
  pub limit : ℕ

abbrev pub image_of : Settings → ℕ → ℕ → Image
image_of s width limit = record { settings = s; width = width; limit = limit }

-- The image of this size with these options.
abbrev pub image_for : Options → Size → Image
image_for options size = image_of (settings_of options) size.width size.height

-- The same image with these named offsets.
abbrev pub naming : Image → List (Option ℕ) → Image
naming image names = record image { settings = record image.settings { named = names } }

-- The names with this one for stripe i, and no names for later stripes.
abbrev pub with_name : ℕ → ℕ → List (Option ℕ) → List (Option ℕ)
with_name t zero names = Some t ∷ []
with_name t (suc i) [] = None ∷ with_name t i []
with_name t (suc i) (name ∷ names) = name ∷ with_name t i names

-- The image if this offset is named after n rows, for the stripe that begins there.
abbrev pub named_after : ℕ → ℕ → Image → Image
named_after t n image = naming image (with_name t (n / image.settings.stripe_rows) image.settings.named)

-- The names of stripes 0 to i - 1 are the same.
abbrev pub SameNames : ℕ → List (Option ℕ) → List (Option ℕ) → Type 0
SameNames i names names' = (j : ℕ) → j < i → slice_index_or names j None ≡ slice_index_or names' j None

-- An offset may be named if it is the nominal one or one that the rule may choose.
abbrev pub may_name : Bool → ℕ → ℕ → Bool
may_name two_line most t = (t == 0) || (nat_le (if two_line then 5 else 3) t && nat_le t most)

-- A raster that begins with these rows. Its height is the image's or, if a height is announced, at most that.
pub record MayCome (image : Image) (rows : List (List Bool)) (raster : Raster) : Type 0 where
  pub proper : IsRaster raster
  pub width_is : raster.width ≡ image.width
  pub height_to : height raster ≤ image.limit
  pub height_is : image.settings.announced ≡ None → height raster ≡ image.limit
  pub first : take (length rows) raster.rows ≡ rows
