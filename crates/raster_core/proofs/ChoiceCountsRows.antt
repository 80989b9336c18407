-- The rows and pixels that a choice counts.
use Rattle.std.proofs.Common.{◌≡◌, ℕ, zero, suc, ◌+◌, ◌-◌, ◌*◌, ◌%◌, ◌^◌, ◌<◌, ◌≤◌, Bool, true, false, not, List, [], ◌∷◌, ◌++◌, length, min, take, refl, sym, ◌∙◌, ap, subst, arith, inl, inr, replicate}
use Rattle.std.specs.Prelude.{◌/◌, ◌==◌, slice_index, sum_by}
use Rattle.std.specs.Int.{div_ceil}
use Rattle.std.specs.List.{filter}
use Rattle.std.proofs.Math.Nat.{mul-le-mul_left}
use Rattle.std.proofs.lemmas.Bool.{cases_lt}
use Rattle.std.proofs.lemmas.List.{append-nil, length-take, take_all, take-append-le}
use Rattle.std.proofs.lemmas.List.Elements.{filter-append}
use Rattle.std.proofs.lemmas.List.Sums.{count_by-le-length, sum_by-cons, sum_by_push}
use Rattle.qm_core.specs.Place.{same}
use Rattle.raster_core.specs.Raster.{pixel_at, pixel_left}
use Rattle.raster_core.specs.Lines.{Lines, adaptive, may_be_typical, numbers_from}
use Rattle.raster_core.specs.Choice.{Counting, PixelCounts, column_agreement, column_count, counted_rows, counts_of, is_plain}
use Rattle.raster_core.specs.Counting.{AddsAt, AreLines, HasCounted, HasCounts, counting_of, fit_lines, fit_row}
use Rattle.raster_core.specs.Tally.{least_lag}
use Rattle.raster_core.specs.declared.columns.Columns.{Columns}
use Rattle.raster_core.specs.declared.choice.Choice.{Choice}
use Rattle.raster_core.proofs.BestIsFound.{zeros}
use Rattle.raster_core.specs.Machine.Words.{is_between, part_among}
use Rattle.raster_core.proofs.ColumnsAgree.{among_all, fit_pixel}
use Rattle.raster_core.proofs.CountsAdd.{count_same}
use Rattle.raster_core.proofs.RegistersTakeBytes.{length-numbers}
use Rattle.raster_core.proofs.WordsAgree.{adaptive_left, length_push, is_lt, is_not_lt}

-- ---- how many rows have more than 2,048 pixels

many : (n k : ℕ) → 2048 < n * k → 2048 / n + 1 ≤ k
many zero k h = absurd (omega arith)
many (suc n) k h =
    elim (cases_lt k (2048 / suc n + 1)) [
      | inl lt ↦
          let le : k ≤ 2048 / suc n = omega arith in
          let up = mul-le-mul_left (suc n) le in
          absurd (omega arith)
      | inr le ↦ le
    ]

few : (n k : ℕ) → 1 ≤ n → n * k ≤ 2048 → k < 2048 / n + 1
few n k some h =
    elim (cases_lt k (2048 / n + 1)) [
      | inl lt ↦ lt
      | inr le ↦ let up = mul-le-mul_left n le in absurd (omega arith)
    ]

take_full : (n : ℕ) (rows more : List Lines) → 2048 < n * length (take (2048 / n + 1) rows) → take (2048 / n + 1) (rows ++ more) ≡ take (2048 / n + 1) rows
take_full n rows more h =
    let e = many n _ h in
    take-append-le (2048 / n + 1) rows more (omega (arith, e, length-take (2048 / n + 1) rows))

take_more : (n : ℕ) (rows : List Lines) (lines : Lines) → 1 ≤ n → n * length (take (2048 / n + 1) rows) ≤ 2048 →
    take (2048 / n + 1) (rows ++ lines ∷ []) ≡ take (2048 / n + 1) rows ++ lines ∷ []
take_more n rows lines some h =
    let e = few n _ some h in
    let long : length rows < 2048 / n + 1 = omega (arith, e, length-take (2048 / n + 1) rows) in
    take_all (2048 / n + 1) (rows ++ lines ∷ []) (omega (arith, length_push rows lines, long))
    ∙ ap (λ x. x ++ lines ∷ []) (sym (take_all (2048 / n + 1) rows (omega (arith, long))))

-- ---- a row more of the stripe

one_plain : (c : Counting) (lines : Lines) → is_plain c lines ≡ true → filter (is_plain c) (lines ∷ []) ≡ lines ∷ []
one_plain c lines e = rw e refl

one_typical : (c : Counting) (lines : Lines) → is_plain c lines ≡ false → filter (is_plain c) (lines ∷ []) ≡ []
one_typical c lines e = rw e refl

-- the counts are those of the counted rows
abbrev by_rows : Counting → List Lines → PixelCounts
by_rows c rows = record { pixels = column_count c * length rows; at = λ offset. sum_by (column_agreement c offset) rows }

pub counts_full : (c : Counting) (stripe : List Lines) (lines : Lines) → 2048 < (counts_of c stripe).pixels → counts_of c (stripe ++ lines ∷ []) ≡ counts_of c stripe
counts_full c stripe lines h =
    ap (by_rows c)
    (ap (take (2048 / column_count c + 1)) (filter-append (is_plain c) stripe (lines ∷ []))
    ∙ take_full (column_count c) (filter (is_plain c) stripe) (filter (is_plain c) (lines ∷ [])) h)

pub counts_typical : (c : Counting) (stripe : List Lines) (lines : Lines) → is_plain c lines ≡ false → counts_of c (stripe ++ lines ∷ []) ≡ counts_of c stripe
counts_typical c stripe lines e =
    ap (by_rows c)
    (ap (take (2048 / column_count c + 1)) (filter-append (is_plain c) stripe (lines ∷ [])
    ∙ ap (λ x. filter (is_plain c) stripe ++ x) (one_typical c lines e) ∙ append-nil (filter (is_plain c) stripe)))

pub counts_more : (c : Counting) (stripe : List Lines) (lines : Lines) → is_plain c lines ≡ true → 1 ≤ column_count c → (counts_of c stripe).pixels ≤ 2048 →
    counts_of c (stripe ++ lines ∷ []) ≡ by_rows c (counted_rows c stripe ++ lines ∷ [])
counts_more c stripe lines e some h =
    ap (by_rows c)
    (ap (take (2048 / column_count c + 1)) (filter-append (is_plain c) stripe (lines ∷ []) ∙ ap (λ x. filter (is_plain c) stripe ++ x) (one_plain c lines e))
    ∙ take_more (column_count c) (filter (is_plain c) stripe) lines some h)

-- a choice with no row counted
pub none_counted : (t : Choice) → t.pixels ≡ 0 → t.counts ≡ replicate 128 0 → HasCounted t []
none_counted t e f =
    let c = counting_of t in
    let none : counts_of c [] ≡ by_rows c [] = ap (by_rows c) (take_all (2048 / column_count c + 1) [] (omega arith)) in
    let P : PixelCounts → Type 0 = λ n. HasCounts t n in
    subst P (sym none) (record {
      pixels = e ∙ (omega arith);
      nominal = rw f refl;
      lags = λ lag from to. rw f (zeros 128 lag);
    })

-- without columns nothing is counted
none_agree : (c : Counting) (offset : ℕ) (rows : List Lines) → column_count c ≡ 0 → sum_by (column_agreement c offset) rows ≡ 0
none_agree c offset [] e = refl
none_agree c offset (r ∷ rows) e =
    rw (sum_by-cons (column_agreement c offset) r rows, none_agree c offset rows e, e) refl

pub pixels_more : (c : Counting) (rows : List Lines) (lines : Lines) → column_count c * length (rows ++ lines ∷ []) ≡ column_count c * length rows + column_count c
pixels_more c rows lines = rw (length_push rows lines) (omega arith)

pub agree_more : (c : Counting) (offset : ℕ) (rows : List Lines) (lines : Lines) →
    sum_by (column_agreement c offset) (rows ++ lines ∷ []) ≡ sum_by (column_agreement c offset) rows + column_agreement c offset lines
agree_more c offset rows lines = sum_by_push (column_agreement c offset) rows lines

one_agrees : (c : Counting) (offset : ℕ) (lines : Lines) → column_agreement c offset lines ≤ column_count c
one_agrees c offset lines =
    omega (arith, count_by-le-length (λ x. same (pixel_at lines.row x) (adaptive lines offset x)) (numbers_from c.most (column_count c)), length-numbers c.most (column_count c))

-- no more pixels agree than are counted
pub agree_most : (c : Counting) (offset : ℕ) (rows : List Lines) → sum_by (column_agreement c offset) rows ≤ column_count c * length rows
agree_most c offset [] = omega arith
agree_most c offset (r ∷ rows) =
    let one : length (r ∷ rows) ≡ length rows + 1 = omega arith in
    let product : column_count c * length (r ∷ rows) ≡ column_count c * length rows + column_count c = rw one (omega arith) in
    omega (arith, sum_by-cons (column_agreement c offset) r rows, product, one_agrees c offset r, agree_most c offset rows)

-- ---- the columns are within the width

fit_left : (row : List Bool) (width x lag : ℕ) → x < width → pixel_left (fit_row width row) x lag ≡ pixel_left row x lag
fit_left row width x lag lt =
    elim (cases_lt x lag) [
      | inl near ↦ rw (is_lt x lag near) refl
      | inr far ↦ rw (is_not_lt x lag far) (fit_pixel row width (x - lag) (omega arith))
    ]

fit_adaptive : (lines : Lines) (width offset x : ℕ) → x + 2 < width → adaptive (fit_lines width lines) offset x ≡ adaptive lines offset x
fit_adaptive lines width zero x lt = fit_pixel lines.above width (x + 2) lt
fit_adaptive lines width (suc n) x lt =
    rw (adaptive_left (fit_lines width lines) (suc n) x (omega arith), adaptive_left lines (suc n) x (omega arith)) (fit_left lines.row width x (suc n) (omega arith))

-- the pixels of the row that agree in these columns
pub columns_agree : (c : Counting) (lines : Lines) (offset n : ℕ) → c.most ≤ c.width - 2 → c.width - 2 ≤ n →
    part_among (is_between c.most (c.width - 2)) lines offset 0 n ≡ column_agreement c offset (fit_lines c.width lines)
columns_agree c lines offset n some within =
    among_all lines c.most (c.width - 2) offset n some within
    ∙ count_same (λ x. same (pixel_at lines.row x) (adaptive lines offset x))
    (λ x. same (pixel_at (fit_row c.width lines.row) x) (adaptive (fit_lines c.width lines) offset x)) c.most c.most (column_count c)
    (λ i lt. sym (both (fit_pixel lines.row c.width (c.most + i) (omega arith)) (fit_adaptive lines c.width offset (c.most + i) (omega arith))))
  where
    both : {a b x y : Bool} → a ≡ b → x ≡ y → same a x ≡ same b y
    both e f = rw (e, f) refl

-- ---- a row that was counted

-- what is added to the counts of a choice
pub record AddsRow (old new : Choice) (columns : Columns) (row above : List ℕ) : Type 0 where
  pub same : counting_of new ≡ counting_of old
  pub first_is : columns.first ≡ (counting_of old).most
  pub end_is : columns.end ≡ (counting_of old).width - 2
  pub some : columns.first < columns.end
  pub pixels : new.pixels ≡ (old.pixels + (columns.end - columns.first)) % 2 ^ 32
  pub nominal : AddsAt columns old new row above 0
  pub lags : (lag : ℕ) → least_lag (counting_of old).mode.two_line ≤ lag → lag ≤ (counting_of old).most → AddsAt columns old new row above lag

-- the count at an offset
at_more : {old new : Choice} {columns : Columns} {row above : List ℕ} {lines : Lines} (rows : List Lines) (offset : ℕ) → AddsRow old new columns row above → AreLines row above lines →
    column_count (counting_of old) * length rows ≤ 2048 →
    slice_index old.counts offset ≡ sum_by (column_agreement (counting_of old) offset) rows → AddsAt columns old new row above offset →
    slice_index new.counts offset ≡ sum_by (column_agreement (counting_of old) offset) (rows ++ fit_lines (counting_of old).width lines ∷ [])
at_more {old} {columns = columns} {lines = lines} rows offset adds are few before added =
    let c : Counting = counting_of old in
    let fit : Lines = fit_lines c.width lines in
    let n : ℕ = 64 * div_ceil columns.end 64 in
    let h = added lines are.row_is are.above_is in
    let a = columns_agree c lines offset n (omega arith) (omega arith) in
    let part : part_among (is_between columns.first columns.end) lines offset 0 n ≡ column_agreement c offset fit = rw (adds.first_is, adds.end_is) (rw (adds.end_is) at a) in
    let more = agree_more c offset rows fit in
    let most = agree_most c offset (rows ++ fit ∷ []) in
    let all = pixels_more c rows fit in
    omega arith

pub row_counted : (old new : Choice) (columns : Columns) {row above : List ℕ} (stripe : List Lines) {lines : Lines} → AddsRow old new columns row above → HasCounted old stripe →
    AreLines row above lines → old.pixels ≤ 2048 →
    may_be_typical (counting_of old).mode (fit_lines (counting_of old).width lines) ≡ false →
    HasCounted new (stripe ++ fit_lines (counting_of old).width lines ∷ [])
row_counted old new columns {row} {above} stripe {lines} adds k are few plain =
    let c : Counting = counting_of old in
    let fit : Lines = fit_lines c.width lines in
    let rows : List Lines = counted_rows c stripe in
    let counted : column_count c * length rows ≤ 2048 = omega (arith, k.pixels) in
    let P : Counting → Type 0 = λ d. HasCounts new (counts_of d (stripe ++ fit ∷ [])) in
    let Q : PixelCounts → Type 0 = λ n. HasCounts new n in
    subst P (sym adds.same)
    (subst Q (sym (counts_more c stripe fit (rw plain refl) (omega arith) counted))
    (record {
      pixels = let all = pixels_more c rows fit in omega arith;
      nominal = at_more rows 0 adds are counted k.nominal adds.nominal;
      lags = λ lag from to.
          let two : not (new.two_line == 0) ≡ not (old.two_line == 0) = ap (λ d. d.mode.two_line) adds.same in
          let low : least_lag (not (old.two_line == 0)) ≤ lag = rw two at from in
          let high : lag ≤ min old.most 127 = omega (arith, to, ap (λ d. d.most) adds.same) in
          at_more rows lag adds are counted (k.lags lag low high) (adds.lags lag low high);
    }))
