-- Laws about a stream after some rows.
use Rattle.std.specs.Prelude.{ℕ, Bool, List, Option}
use Rattle.raster_core.specs.Packed.{Held}
use Rattle.t85_core.specs.States.Sent.{Origin, Sends, behind}
use Rattle.t85_core.specs.States.RowStream.{StreamFront}
use Rattle.t85_core.specs.States.ByRow.{RowView, Stands}
use Rattle.t85_core.specs.RowImage.{Image}

-- The bytes after some rows are a prefix of each stream that may come, and include each stripe whose rows are complete.
abbrev pub RowFronts : Type 0
RowFronts =
    (image : Image) (rows : List (List Bool)) (v : RowView) (window : Held) (origin : Origin) (text : Option (List ℕ)) →
    Stands image rows v window origin text → StreamFront image rows origin text

-- The state after some rows is also one behind the bytes sent so far, whichever device gets the next bytes.
abbrev pub RowsGoElsewhere : Type 0
RowsGoElsewhere =
    (image : Image) (rows : List (List Bool)) (v : RowView) (window : Held) (origin : Origin) (text : Option (List ℕ)) →
    Stands image rows v window origin text →
    (bytes : List ℕ) × Sends origin text bytes × ((text' : Option (List ℕ)) → Stands image rows v window (behind bytes text') text')
