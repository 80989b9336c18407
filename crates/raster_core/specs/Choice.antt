-- JBIG-KIT's choice of the AT offset for a stripe, from the first pixels that were coded of the stripe before.
use Rattle.std.specs.Prelude.{ℕ, ◌+◌, ◌-◌, ◌*◌, ◌/◌, ◌&&◌, ◌||◌, not, nat_lt, nat_le, min, max, Bool, List, [], ◌∷◌, length, map, take, find, sum_by, count_by, Option, unwrap_or, if◌then◌else◌}
use Rattle.std.specs.List.{filter, list_all}
use Rattle.qm_core.specs.Place.{same}
use Rattle.raster_core.specs.Raster.{pixel_at}
use Rattle.raster_core.specs.Lines.{Lines, Mode, adaptive, may_be_typical, numbers_from}
use Rattle.raster_core.specs.Offset.{candidates}

-- how the pixels of a stripe are counted: the mode, the greatest offset, and the width of the image
pub record Counting : Type 0 where
  pub mode : Mode
  pub most : ℕ
  pub width : ℕ

abbrev pub counting_with : Mode → ℕ → ℕ → Counting
counting_with mode most width = record { mode = mode; most = most; width = width }

-- ---- what is counted

-- the number of columns that are counted
abbrev pub column_count : Counting → ℕ
column_count c = c.width - 2 - c.most

-- these columns: the first is that whose number is the greatest offset, and the last is the third last of the row
abbrev pub counted_columns : Counting → List ℕ
counted_columns c = numbers_from c.most (column_count c)

-- whether the row is coded pixel by pixel
abbrev pub is_plain : Counting → Lines → Bool
is_plain c lines = not (may_be_typical c.mode lines)

-- the rows that are counted: the first plain ones, as many as have more than 2,048 pixels in these columns
abbrev pub counted_rows : Counting → List Lines → List Lines
counted_rows c stripe = take (2048 / column_count c + 1) (filter (is_plain c) stripe)

-- the number of pixels of the row in these columns that equal the adaptive pixel
abbrev pub column_agreement : Counting → ℕ → Lines → ℕ
column_agreement c offset lines = count_by (λ x. same (pixel_at lines.row x) (adaptive lines offset x)) (counted_columns c)

-- the number of pixels counted in a stripe, and at each offset the number of those that equal the adaptive pixel
pub record PixelCounts : Type 0 where
  pub pixels : ℕ
  pub at : ℕ → ℕ

abbrev pub counts_of : Counting → List Lines → PixelCounts
counts_of c stripe = record {
  pixels = column_count c * length (counted_rows c stripe);
  at = λ offset. sum_by (column_agreement c offset) (counted_rows c stripe);
}

-- ---- what is chosen

abbrev pub greatest_of : List ℕ → ℕ
greatest_of [] = 0
greatest_of (n ∷ numbers) = max n (greatest_of numbers)

-- the least of the limit and the numbers
abbrev pub least_of : ℕ → List ℕ → ℕ
least_of limit [] = limit
least_of limit (n ∷ numbers) = min n (least_of limit numbers)

-- Whether the best count leads another one: by more than the pixels that it misses, and by more than a sixteenth of all pixels.
-- It leads each greater count, too, since JBIG-KIT subtracts modulo a power of two.
abbrev pub leads : ℕ → ℕ → ℕ → Bool
leads pixels best other = nat_lt best other || (nat_lt (pixels - best) (best - other) && nat_lt (pixels / 16) (best - other))

-- Whether the adaptive pixel moves away from the current offset, if these are the best and the worst count of a lag: more than
-- 2,048 pixels were counted; the best count misses less than an eighth of them; it leads that of the current offset, and that of
-- its inverse; and the worst count is more than a quarter below it. Away from the nominal position, JBIG-KIT also tests whether
-- the best and the worst of all counts are more than an eighth apart, as they then are.
abbrev pub is_worth : PixelCounts → ℕ → ℕ → ℕ → Bool
is_worth n best worst current =
    nat_lt 2048 n.pixels
    && nat_lt (n.pixels - best) (n.pixels / 8)
    && leads n.pixels best (n.at current)
    && leads n.pixels best (n.pixels - n.at current)
    && nat_lt (n.pixels / 4) (best - worst)

-- the first of these offsets with the greatest count
abbrev pub first_best : PixelCounts → List ℕ → Option ℕ
first_best n offsets = find (λ t. list_all (λ u. nat_le (n.at u) (n.at t)) offsets) offsets

-- The offset for the next stripe, by the counts of the lags. The nominal position is the best offset if no lag has a greater count.
abbrev pub offset_by : PixelCounts → List ℕ → ℕ → ℕ → ℕ
offset_by n lags current unmoved =
    if is_worth n (greatest_of (map n.at lags)) (least_of n.pixels (map n.at lags)) current then unwrap_or (first_best n (0 ∷ lags)) unmoved else unmoved

-- the same by the rows of the stripe, which was coded at the current offset, and after which the offset is reset or not
abbrev pub kit_offset : Counting → Bool → List Lines → ℕ → ℕ
kit_offset c reset stripe current =
    offset_by (counts_of c stripe) (candidates c.mode.two_line c.most) current (if reset then 0 else current)
