-- The state that a decoder carries is the one that the definitions determine from the whole image.
use Rattle.std.proofs.Common.{◌≡◌, ◌≢◌, ℕ, zero, suc, ◌+◌, ◌-◌, ◌*◌, ◌/◌, ◌%◌, ◌<◌, ◌≤◌, nat_eq, Bool, true, false, List, [], ◌∷◌, length, refl, sym, ◌∙◌, ap, subst, arith, Option, None, Some}
use Rattle.std.specs.Prelude.{slice_index_or, unwrap_or, if◌then◌else◌, ◌==◌, flat_map, filter_map, option_and_then}
use Rattle.std.proofs.lemmas.Bool.Decides.{nat_tests}
use Rattle.qm_core.specs.Place.{after}
use Rattle.raster_core.specs.Raster.{row_above, white_row}
use Rattle.raster_core.specs.Lines.{Lines, row_events, numbers_from, IsLegalFlag}
use Rattle.t85_core.specs.Coding.{Coding, top_of, lines_of, moved_at, last_or, flag_of, events_of_row, learned_at, begun}
use Rattle.t85_core.specs.States.State.{RowStart, StripeStart, offset_at, lines_with, after_row, first_row_start, Run, row_coding}
use Rattle.t85_core.specs.States.Looked.{offset_before, flag_before, top, CarryAt}
use Rattle.t85_core.proofs.BytesJoin.ListsKeepElements.{Continues, continues_first, continues_rest}
use Rattle.t85_core.proofs.StreamsDenote.StateIsCarried.{one_row_more, one_more_move, fresh_le, top_le, stripe_at, top_in, row_above_step, row_here}
use Rattle.std.proofs.Math.Nat.{mul-le-mul_right}

-- ---- the state before a row, where everything above row t is white

-- what is carried after r rows of stripe i, which row y follows
pub record CarriedAt (c : Coding) (i r y : ℕ) (b : RowStart) : Type 0 where
  pub state : b.state ≡ after (begun (learned_at c i)) (flat_map (events_of_row c) (numbers_from (i * c.stripe_rows) r))
  pub offset : b.offset ≡ offset_before c (top c i) y
  pub previous : b.previous ≡ flag_before c (top c i) y
  pub above : b.above ≡ row_above c.raster (top c i) y 1
  pub second : b.second ≡ row_above c.raster (top c i) y 2

offset_taken : (move : Option (ℕ × ℕ)) (r offset : ℕ) → unwrap_or (option_and_then (λ m. if m.0 == r then Some m.1 else None) move) offset ≡ offset_at move r offset
offset_taken None r offset = refl
offset_taken (Some move) r offset = went (move.0 == r) where
  went : (b : Bool) → unwrap_or (if b then Some move.1 else None) offset ≡ (if b then move.1 else offset)
  went true = refl
  went false = refl

-- a stripe begins
pub stripe_begins : (c : Coding) (i : ℕ) (b : StripeStart) → CarryAt c i (i * c.stripe_rows) b → CarriedAt c i 0 (i * c.stripe_rows) (first_row_start b)
stripe_begins c i b h = record { state = ap begun h.learned; offset = h.offset; previous = h.previous; above = h.above; second = h.second }

-- ---- a row

-- row r of stripe i, which is row y of the raster
pub record RowAt (c : Coding) (i r y : ℕ) (move : Option (ℕ × ℕ)) (b : RowStart) (row : List Bool) : Type 0 where
  pub in_stripe : r < c.stripe_rows
  pub y_is : y ≡ i * c.stripe_rows + r
  pub move_is : slice_index_or c.moves i None ≡ move
  pub carried : CarriedAt c i r y b
  pub row_is : slice_index_or c.raster.rows y (white_row c.raster.width) ≡ row

module _ {c : Coding} {i r y : ℕ} {move : Option (ℕ × ℕ)} {b : RowStart} {row : List Bool} (a : RowAt c i r y move b row) where
  top_is : top_of c y ≡ top c i
  top_is = ap (top_of c) a.y_is ∙ top_in c i r a.in_stripe

  top_below : top c i ≤ y
  top_below = omega (arith, a.y_is, mul-le-mul_right c.stripe_rows (fresh_le c i))

  stripe_is : y / c.stripe_rows ≡ i
  stripe_is = ap (λ z. z / c.stripe_rows) a.y_is ∙ stripe_at c.stripe_rows i r a.in_stripe

  place_in : y % c.stripe_rows ≡ r
  place_in =
      let product : c.stripe_rows * (y / c.stripe_rows) ≡ c.stripe_rows * i = ap (λ z. c.stripe_rows * z) stripe_is in
      omega arith

  pub row_lines : lines_with b row ≡ lines_of c y
  row_lines =
      let here = sym (row_here c.raster (top_of c y) y (top_le c y) ∙ a.row_is) in
      let above = a.carried.above ∙ ap (λ z. row_above c.raster z y 1) (sym top_is) in
      let second = a.carried.second ∙ ap (λ z. row_above c.raster z y 2) (sym top_is) in
      λ j. record { row = here j; above = above j; second = second j }

  moved_is : unwrap_or (moved_at c y) b.offset ≡ offset_at move r b.offset
  moved_is =
      let moves = ap (λ z. slice_index_or c.moves z None) stripe_is ∙ a.move_is in
      (λ j. unwrap_or (option_and_then (λ m. if m.0 == place_in j then Some m.1 else None) (moves j)) b.offset) ∙ offset_taken move r b.offset

  next_offset : offset_at move r b.offset ≡ offset_before c (top c i) (y + 1)
  next_offset =
      let t : ℕ = top c i in
      let one : y + 1 - top c i ≡ suc (y - top c i) = omega (arith, top_below) in
      let at : top c i + (y - top c i) ≡ y = omega (arith, top_below) in
      sym moved_is
      ∙ ap (unwrap_or (moved_at c y)) a.carried.offset
      ∙ ap (λ z. unwrap_or (moved_at c z) (offset_before c t y)) (sym at)
      ∙ sym (one_more_move (moved_at c) t (y - t))
      ∙ ap (λ k. last_or 0 (filter_map (moved_at c) (numbers_from t k))) (sym one)

  module _ {flag : Bool} (flag_is : slice_index_or c.flags y false ≡ flag) where
    pub row_is_coded : row_events c.mode (lines_with b row) (offset_at move r b.offset) b.previous flag ≡ events_of_row c y
    row_is_coded =
        let offset = next_offset ∙ ap (λ z. offset_before c z (y + 1)) (sym top_is) in
        let previous = a.carried.previous ∙ ap (λ z. flag_before c z y) (sym top_is) in
        λ j. row_events c.mode (row_lines j) (offset j) (previous j) (sym flag_is j)

    -- a row's flag is legal where the decoder took it for legal
    row_legal : IsLegalFlag c.mode (lines_with b row) flag → IsLegalFlag c.mode (lines_of c y) (flag_of c y)
    row_legal k = subst (λ (z : Lines × Bool). IsLegalFlag c.mode z.0 z.1) (λ j. (row_lines j, sym flag_is j)) k

    -- a row on
    pub row_carried : CarriedAt c i (r + 1) (y + 1) (after_row c.mode move r b row flag)
    row_carried = record {
      state = state_is;
      offset = next_offset;
      previous =
          let t : ℕ = top c i in
          let not_top : nat_eq t (y + 1) ≡ false = (let n : top c i ≢ y + 1 = omega (arith, top_below) in grind (arith, nat_tests)) in
          let back : (y + 1) - 1 ≡ y = omega arith in
          sym ((λ j. if not_top j then false else slice_index_or c.flags (back j) false) ∙ flag_is);
      above = sym (row_above_step c.raster (top c i) y 0 ∙ row_here c.raster (top c i) y top_below ∙ a.row_is);
      second = a.carried.above ∙ sym (row_above_step c.raster (top c i) y 1);
    } where
      state_is : after b.state (row_events c.mode (lines_with b row) (offset_at move r b.offset) b.previous flag)
          ≡ after (begun (learned_at c i)) (flat_map (events_of_row c) (numbers_from (i * c.stripe_rows) (r + 1)))
      state_is =
          let one : suc r ≡ r + 1 = omega arith in
          let events = row_is_coded ∙ ap (events_of_row c) a.y_is in
          (λ j. after (a.carried.state j) (events j))
          ∙ sym (one_row_more c (begun (learned_at c i)) (i * c.stripe_rows) r)
          ∙ ap (λ n. after (begun (learned_at c i)) (flat_map (events_of_row c) (numbers_from (i * c.stripe_rows) n))) one

-- ---- rows

-- rows of stripe i from row r on, which is row y of the raster
pub record RowsAt (c : Coding) (i r y : ℕ) (move : Option (ℕ × ℕ)) (b : RowStart) (rows : List (List Bool)) (flags : List Bool) : Type 0 where
  pub few : r + length rows ≤ c.stripe_rows
  pub y_is : y ≡ i * c.stripe_rows + r
  pub move_is : slice_index_or c.moves i None ≡ move
  pub carried : CarriedAt c i r y b
  pub rows_at : Continues (white_row c.raster.width) c.raster.rows y rows
  pub flags_at : Continues false c.flags y flags

module _ {c : Coding} {i r y : ℕ} {move : Option (ℕ × ℕ)} {b : RowStart} {row : List Bool} {rows : List (List Bool)} {flag : Bool} {flags : List Bool}
    (a : RowsAt c i r y move b (row ∷ rows) (flag ∷ flags)) where
  pub first_row : RowAt c i r y move b row
  first_row = record {
    in_stripe = omega (arith, a.few);
    y_is = a.y_is;
    move_is = a.move_is;
    carried = a.carried;
    row_is = continues_first (white_row c.raster.width) c.raster.rows y row rows a.rows_at;
  }

  pub first_flag : slice_index_or c.flags y false ≡ flag
  first_flag = continues_first false c.flags y flag flags a.flags_at

  pub next_rows : RowsAt c i (r + 1) (y + 1) move (after_row c.mode move r b row flag) rows flags
  next_rows = record {
    few = omega (arith, a.few);
    y_is = omega (arith, a.y_is);
    move_is = a.move_is;
    carried = row_carried first_row first_flag;
    rows_at = continues_rest (white_row c.raster.width) c.raster.rows y row rows a.rows_at;
    flags_at = continues_rest false c.flags y flag flags a.flags_at;
  }

-- rows of a stripe have legal flags, and what is carried follows them
pub record Ran (c : Coding) (i r y n : ℕ) (last : RowStart) : Type 0 where
  pub legal : (k : ℕ) → k < n → IsLegalFlag c.mode (lines_of c (y + k)) (flag_of c (y + k))
  pub carried : CarriedAt c i (r + n) (y + n) last

pub rows_run : {c : Coding} {i : ℕ} {move : Option (ℕ × ℕ)} {last : RowStart} (rows : List (List Bool)) (flags : List Bool) {r y : ℕ} {b : RowStart} → RowsAt c i r y move b rows flags →
    Run (row_coding c.raster.width c.mode move) r b rows flags last → Ran c i r y (length rows) last
rows_run {c} {i} [] [] {r} {y} a run =
    let r0 : r ≡ r + 0 = omega arith in
    let y0 : y ≡ y + 0 = omega arith in
    record { legal = λ k lt. absurd (omega arith); carried = rw (← run, ← y0, ← r0) a.carried }
rows_run [] (flag ∷ flags) a run = absurd run
rows_run (row ∷ rows) [] a run = absurd run
rows_run {c} {i} {last} (row ∷ rows) (flag ∷ flags) {r} {y} a run =
    let rest : Ran c i (r + 1) (y + 1) (length rows) last = rows_run rows flags (next_rows a) run.1 in
    let rs : (r + 1) + length rows ≡ r + suc (length rows) = omega arith in
    let ys : (y + 1) + length rows ≡ y + suc (length rows) = omega arith in
    record { legal = legal_all (row_legal (first_row a) (first_flag a) run.0.legal) rest.legal; carried = rw (← ys, ← rs) rest.carried }
  where
    legal_all : IsLegalFlag c.mode (lines_of c y) (flag_of c y) → ((k : ℕ) → k < length rows → IsLegalFlag c.mode (lines_of c ((y + 1) + k)) (flag_of c ((y + 1) + k))) →
        (k : ℕ) → k < suc (length rows) → IsLegalFlag c.mode (lines_of c (y + k)) (flag_of c (y + k))
    legal_all first rest zero lt =
        let at : y ≡ y + 0 = omega arith in
        subst (λ z. IsLegalFlag c.mode (lines_of c z) (flag_of c z)) at first
    legal_all first rest (suc k) lt =
        let at : (y + 1) + k ≡ y + suc k = omega arith in
        subst (λ z. IsLegalFlag c.mode (lines_of c z) (flag_of c z)) at (rest k (omega arith))
