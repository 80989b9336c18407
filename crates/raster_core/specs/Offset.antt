-- The choice of the AT offset: the one that would have agreed with the most pixels of the stripe before.
use Rattle.std.specs.Prelude.{ℕ, ◌+◌, ◌-◌, ◌*◌, ◌/◌, Bool, List, length, nat_lt, nat_le, if◌then◌else◌, Option, Some, None, sum_by, count_by, find, option_and_then}
use Rattle.std.specs.List.{list_all}
use Rattle.qm_core.specs.Place.{same}
use Rattle.raster_core.specs.Raster.{pixel_at}
use Rattle.raster_core.specs.Lines.{Lines, adaptive, numbers_from}

-- the number of pixels of the row that equal their adaptive pixel
abbrev pub agreements : ℕ → Lines → ℕ
agreements offset lines = count_by (λ x. same (pixel_at lines.row x) (adaptive lines offset x)) (numbers_from 0 (length lines.row))

-- the same for the rows of a stripe
abbrev pub agreement : List Lines → ℕ → ℕ
agreement stripe offset = sum_by (agreements offset) stripe

-- the offsets that may be chosen
abbrev pub candidates : Bool → ℕ → List ℕ
candidates two_line most = let least = if two_line then 5 else 3 in numbers_from least (most + 1 - least)

-- the first candidate with the greatest agreement
abbrev pub best_offset : List Lines → List ℕ → Option ℕ
best_offset stripe lags = find (λ t. list_all (λ u. nat_le (agreement stripe u) (agreement stripe t)) lags) lags

-- the best offset, if its agreement exceeds that of the current one by more than an eighth of the stripe's pixels
abbrev pub chosen_offset : Bool → ℕ → ℕ → List Lines → ℕ → Option ℕ
chosen_offset two_line most width stripe current =
    option_and_then (λ t. if nat_lt (width * length stripe / 8) (agreement stripe t - agreement stripe current) then Some t else None)
    (best_offset stripe (candidates two_line most))
