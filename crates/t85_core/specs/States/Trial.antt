-- How a stripe is encoded without output, to count its bytes.
use Rattle.std.specs.Prelude.{ℕ, ◌+◌, ◌*◌, ◌/◌, ◌%◌, ◌-◌, ◌≡◌, ◌==◌, ◌&&◌, ◌||◌, not, nat_le, min, Bool, List, ◌++◌, length, map, Option, IfSome, slice_range}
use Rattle.pbm_core.specs.Image.{pixels_of}
use Rattle.pbm_core.specs.Pbm.{bytes_of_row}
use Rattle.raster_core.specs.Raster.{Raster, height}
use Rattle.raster_core.specs.Lines.{numbers_from}
use Rattle.raster_core.specs.Packed.{Held}
use Rattle.t85_core.specs.declared.encoding.by_row.RowEncoder.{RowEncoder}
use Rattle.t85_core.specs.BestOffset.{IsBestFor}
use Rattle.t85_core.specs.RowImage.{Image, MayCome}
use Rattle.t85_core.specs.States.Sent.{Origin}
use Rattle.t85_core.specs.States.ByRow.{RowView, Stands}

-- The first rows in these bytes, this many.
abbrev pub packed_rows : ℕ → List ℕ → ℕ → List (List Bool)
packed_rows width bytes count =
    map (λ k. pixels_of width (slice_range bytes (k * bytes_of_row width) (k * bytes_of_row width + bytes_of_row width))) (numbers_from 0 count)

-- All of them.
abbrev pub all_rows_in : ℕ → List ℕ → List (List Bool)
all_rows_in width bytes = packed_rows width bytes (length bytes / bytes_of_row width)

-- A stripe with this many rows may come next: as many as a stripe has or the image has left; or fewer, but one at least,
-- if the image may end early.
abbrev pub may_come_next : RowEncoder → ℕ → Bool
may_come_next e count = (let most = min e.stripe_rows (e.size.height - e.rows) in nat_le 1 count && ((count == most) || (e.may_end && nat_le count most)))

-- So many bytes may be the rows of the stripe that begins next.
abbrev pub are_stripe_rows : RowEncoder → ℕ → Bool
are_stripe_rows e count =
    not e.is_closed && ((e.in_stripe == 0) && ((count % bytes_of_row e.size.width == 0) && may_come_next e (count / bytes_of_row e.size.width)))

-- The offset is the best one for the stripe that begins with these rows, in whatever stream: of each raster that may come
-- whose next stripe they are.
abbrev pub FindsOffset : List (List Bool) → RowView → Held → Option ℕ → Type 0
FindsOffset part v window result =
    (image : Image) (rows : List (List Bool)) (origin : Origin) (text : Option (List ℕ)) (raster : Raster) → Stands image rows v window origin text →
    MayCome image (rows ++ part) raster → length part ≡ min image.settings.stripe_rows (height raster - length rows) →
    IfSome result (IsBestFor image.settings raster (length rows / image.settings.stripe_rows))
