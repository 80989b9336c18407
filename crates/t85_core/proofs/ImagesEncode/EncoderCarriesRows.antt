-- The rows of a stripe as an encoder carries them are those that the raster's coding looks up.
use Rattle.std.proofs.Common.{◌≡◌, ℕ, zero, suc, ◌+◌, ◌-◌, ◌*◌, ◌/◌, ◌<◌, ◌≤◌, nat_eq, Bool, false, List, [], ◌∷◌, length, map, refl, sym, ◌∙◌, ap, arith, Option, None, Some}
use Rattle.std.specs.Prelude.{slice_index_or, if◌then◌else◌, unwrap_or, option_map, option_and_then, nat_lt}
use Rattle.std.proofs.lemmas.Bool.Decides.{nat_tests}
use Rattle.raster_core.specs.Raster.{Raster, height, white_row}
use Rattle.raster_core.specs.Lines.{numbers_from, may_be_typical}
use Rattle.raster_core.specs.Offset.{chosen_offset, best_offset, candidates, agreement}
use Rattle.t85_core.specs.Coding.{Coding, fresh_stripe, lines_of}
use Rattle.t85_core.specs.States.State.{RowStart, offset_at, after_row}
use Rattle.t85_core.specs.Jbg.{Settings, cut, coding_of}
use Rattle.t85_core.specs.States.Written.{next_flag, after_rows, lines_down}
use Rattle.t85_core.proofs.BytesJoin.ListsKeepElements.{Continues, continues_first, continues_rest}
use Rattle.t85_core.proofs.StreamsDenote.StateIsLookedUp.{CarriedAt, RowAt, row_lines, row_carried}

pub get_mapped : {X : Type 0} (f : ℕ → X) (k n i : ℕ) (d : X) → i < n → slice_index_or (map f (numbers_from k n)) i d ≡ f (k + i)
get_mapped f k zero i d h = absurd (omega arith)
get_mapped f k (suc n) zero d h = let at : k ≡ k + 0 = omega arith in ap f at
get_mapped f k (suc n) (suc i) d h =
    let at : (k + 1) + i ≡ k + suc i = omega arith in
    get_mapped f (k + 1) n i d (omega arith) ∙ ap f at

-- ---- offsets

-- no offset is chosen over no rows
pub none_chosen : (two_line : Bool) (most width current : ℕ) → chosen_offset two_line most width [] current ≡ None
none_chosen two_line most width current = went (best_offset [] (candidates two_line most)) where
  went : (best : Option ℕ) → option_and_then (λ t. if nat_lt (width * 0 / 8) (agreement [] t - agreement [] current) then Some t else None) best ≡ None
  went None = refl
  went (Some t) =
      let test : nat_lt (width * 0 / 8) (0 - 0) ≡ false = grind (arith, nat_tests) in
      ap (λ b. if b then Some t else None) test

-- a move at row 0 is made there
moved_first : (choice : Option ℕ) (offset : ℕ) → offset_at (option_map (λ t. (0, t)) choice) 0 offset ≡ unwrap_or choice offset
moved_first None offset = refl
moved_first (Some t) offset = refl

-- and at no later row
moved_later : {offset : ℕ} (choice : Option ℕ) (r : ℕ) → 0 < r → offset_at (option_map (λ t. (0, t)) choice) r offset ≡ offset
moved_later None r h = refl
moved_later {offset} (Some t) r h =
    let test : nat_eq 0 r ≡ false = grind (arith, nat_tests) in
    ap (λ b. if b then t else offset) test

module _ (s : Settings) (raster : Raster) where
  abbrev c : Coding
  c = coding_of s raster

  abbrev d : Coding
  d = cut s raster

  rows_later : (choice : Option ℕ) (rows : List (List Bool)) (r : ℕ) (b : RowStart) → 0 < r → (after_rows c.mode (option_map (λ t. (0, t)) choice) r b rows).offset ≡ b.offset
  rows_later choice [] r b h = refl
  rows_later choice (row ∷ rows) r b h =
      rows_later choice rows (r + 1) (after_row c.mode (option_map (λ t. (0, t)) choice) r b row (next_flag c.mode b row)) (omega arith)
      ∙ moved_later choice r h

  -- the offset of a stripe
  pub offset_after : (choice : Option ℕ) (rows : List (List Bool)) (b : RowStart) → 0 < length rows →
      (after_rows c.mode (option_map (λ t. (0, t)) choice) 0 b rows).offset ≡ unwrap_or choice b.offset
  offset_after choice [] b h = absurd (omega arith)
  offset_after choice (row ∷ rows) b h =
      rows_later choice rows (0 + 1) (after_row c.mode (option_map (λ t. (0, t)) choice) 0 b row (next_flag c.mode b row)) (omega arith)
      ∙ moved_first choice b.offset

  -- ---- rows

  -- moves and flags change no lines
  same_stripe : (i : ℕ) → fresh_stripe c i ≡ fresh_stripe d i
  same_stripe zero = refl
  same_stripe (suc i) = rw (same_stripe i)

  pub same_lines : (y : ℕ) → lines_of c y ≡ lines_of d y
  same_lines y = rw same_stripe

  pub flag_is_typical : (y : ℕ) → y < height raster → slice_index_or c.flags y false ≡ may_be_typical d.mode (lines_of d y)
  flag_is_typical y lt =
      let at : 0 + y ≡ y = omega arith in
      get_mapped (λ z. may_be_typical d.mode (lines_of d z)) 0 (height raster) y false lt ∙ ap (λ z. may_be_typical d.mode (lines_of d z)) at

  -- rows from row r of stripe i on, which is row y
  pub record RowsDown (i r y : ℕ) (move : Option (ℕ × ℕ)) (b : RowStart) (rows : List (List Bool)) : Type 0 where
    pub carried : CarriedAt c i (r + length rows) (y + length rows) (after_rows c.mode move r b rows)
    pub lines : lines_down b.above b.second rows ≡ map (lines_of d) (numbers_from y (length rows))

  pub rows_down : {i y : ℕ} {move : Option (ℕ × ℕ)} {b : RowStart} → slice_index_or c.moves i None ≡ move → (rows : List (List Bool)) (r : ℕ) → r + length rows ≤ s.stripe_rows →
      y + length rows ≤ height raster → y ≡ i * s.stripe_rows + r → CarriedAt c i r y b → Continues (white_row raster.width) raster.rows y rows → RowsDown i r y move b rows
  rows_down {i} {y} {b} move_is [] r few within y_is h rows_at =
      let r0 : r ≡ r + 0 = omega arith in
      let y0 : y ≡ y + 0 = omega arith in
      record {
        carried = rw (← y0, ← r0) h;
        lines = refl;
      }
  rows_down {i} {y} {move} {b} move_is (row ∷ rows) r few within y_is h rows_at =
      let a : RowAt c i r y move b row =
      record { in_stripe = omega arith; y_is = y_is; move_is = move_is; carried = h; row_is = continues_first (white_row raster.width) raster.rows y row rows rows_at } in
      let here = row_lines a ∙ same_lines y in
      let flag_is = flag_is_typical y (omega arith) ∙ ap (may_be_typical c.mode) (sym here) in
      let y_next : y + 1 ≡ i * s.stripe_rows + (r + 1) = omega arith in
      let rest =
      rows_down {y = y + 1} move_is rows (r + 1) (omega arith) (omega arith) y_next
      (row_carried a flag_is)
      (continues_rest (white_row raster.width) raster.rows y row rows rows_at) in
      let rs : (r + 1) + length rows ≡ r + suc (length rows) = omega arith in
      let ys : (y + 1) + length rows ≡ y + suc (length rows) = omega arith in
      record {
        carried = rw (← ys, ← rs) rest.carried;
        lines = rw (here, rest.lines);
      }
