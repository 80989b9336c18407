-- Rows that equal the row before them are encoded, several at once.
use Rattle.std.proofs.Common.{◌≡◌, ℕ, zero, suc, ◌+◌, ◌*◌, ◌^◌, ◌<◌, ◌≤◌, Bool, true, false, List, [], ◌∷◌, ◌++◌, length, refl, sym, ◌∙◌, ap, subst, arith, Option, append_assoc, length-append}
use Rattle.std.specs.Prelude.{replicate, ◌&&◌}
use Rattle.std.specs.List.{AllByRecursion}
use Rattle.std.specs.Io.KnownBytes.{Consumes}
use Rattle.pbm_core.specs.Image.{AreRows, PackedAreRows}
use Rattle.pbm_core.specs.declared.form.Form.{Form}
use Rattle.pbm_core.specs.declared.form.Form.TheVariants.{Raw}
use Rattle.qm_core.specs.Place.{Estimate, after}
use Rattle.qm_core.specs.Encoder.{encoder_state}
use Rattle.qm_core.specs.declared.encoder.Encoder.{Encoder}
use Rattle.raster_core.specs.Lines.{Lines, Mode, pseudo_event, same_row, may_be_typical}
use Rattle.raster_core.specs.Packed.{Held, HasLines}
use Rattle.raster_core.specs.Row.{again_event}
use Rattle.raster_core.specs.Tally.{is_two_line, most_of}
use Rattle.raster_core.specs.Window.{repeated}
use Rattle.raster_core.specs.declared.tally.Tally.{Tally}
use Rattle.t85_core.specs.Coding.{mode_of}
use Rattle.t85_core.specs.RowImage.{Image}
use Rattle.t85_core.specs.States.ByRow.{IsLined, RowView, Runs, counted_of, move_bytes}
use Rattle.t85_core.specs.States.Sent.{Origin}
use Rattle.t85_core.specs.States.State.{RowStart, first_row_start, offset_at, lines_with, after_row}
use Rattle.t85_core.specs.States.Written.{next_flag, next_move, after_rows, lines_down, row_start_in, IsCountedTo}
use Rattle.t85_core.specs.Private.AgainRows.{EventsPut, IsPackedIn}
use Rattle.t85_core.specs.Private.EncodeRows.{ReadsRows}
use Rattle.t85_core.specs.RowSink.{copies}
use Rattle.t85_core.proofs.BodiesDecode.TypicalRowsAreCopies.{again_events, behind, state_behind, above_behind, second_behind, previous_behind, offset_behind, same_row_self, flat_copies}
use Rattle.t85_core.proofs.BytesJoin.BytesAreSent.{Sends-more}
use Rattle.t85_core.proofs.BytesJoin.ListsGrow.{All-append}
use Rattle.t85_core.proofs.ImagesEncode.RowEncoderAdvances.{length-lines_down, moved_before}
use Rattle.t85_core.proofs.ImagesEncode.RowsStopShort.{events_down}
use Rattle.t85_core.proofs.ImagesEncode.StripeGrows.{after_more, lines_append}

-- ---- rows

same_bit : (x y : Bool) (a b : List Bool) → same_row (x ∷ a) (y ∷ b) ≡ true → (x ≡ y) × (same_row a b ≡ true)
same_bit true true a b h = (refl, h)
same_bit false false a b h = (refl, h)
same_bit true false a b h = cc
same_bit false true a b h = cc

same_row_only : (a b : List Bool) → same_row a b ≡ true → a ≡ b
same_row_only [] [] h = refl
same_row_only [] (y ∷ b) h = cc
same_row_only (x ∷ a) [] h = cc
same_row_only (x ∷ a) (y ∷ b) h =
    let here = same_bit x y a b h in
    rw (here.0, same_row_only a b here.1)

and_right : (a b : Bool) → (a && b) ≡ true → b ≡ true
and_right true b h = h
and_right false b h = cc

-- above a row that follows a typical row of the stripe, both rows are equal
twin : (mode : Mode) (move : Option (ℕ × ℕ)) (r : ℕ) (b : RowStart) (rows : List (List Bool)) → 0 < length rows → (after_rows mode move r b rows).previous ≡ true →
    (after_rows mode move r b rows).second ≡ (after_rows mode move r b rows).above
twin mode move r b [] some is = absurd (omega (arith, some))
twin mode move r b (row ∷ []) some is = sym (same_row_only row b.above (and_right mode.typical (same_row row b.above) is))
twin mode move r b (row ∷ (next ∷ rows)) some is = twin mode move (r + 1) (after_row mode move r b row (next_flag mode b row)) (next ∷ rows) (omega arith) is

all_copies : (n width : ℕ) (row : List Bool) → length row ≡ width → AllByRecursion (λ z. length z ≡ width) (replicate n row)
all_copies zero width row wide = tt
all_copies (suc n) width row wide = (wide, all_copies n width row wide)

pub length_copies : {X : Type 0} (n : ℕ) (x : X) → length (replicate n x) ≡ n
length_copies zero x = refl
length_copies (suc n) x = ap suc (length_copies n x)

-- the lines of equal rows
lines_copies : (n : ℕ) (row : List Bool) → lines_down row row (replicate n row) ≡ replicate n (record { row = row; above = row; second = row })
lines_copies zero row = refl
lines_copies (suc n) row = rw (lines_copies n row)

module _ (w : ℕ) (mode : Mode) (move : Option (ℕ × ℕ)) (typical : mode.typical ≡ true) where
  flag_is : (b : RowStart) → next_flag mode b b.above ≡ true
  flag_is b = rw typical (same_row_self b.above)

  -- rows that equal the one above them are typical
  rows_behind : (r : ℕ) (b : RowStart) (n : ℕ) → after_rows mode move r b (replicate n b.above) ≡ behind w mode move typical r b n
  rows_behind r b zero = refl
  rows_behind r b (suc n) =
      ap (λ f. after_rows mode move (r + 1) (after_row mode move r b b.above f) (replicate n b.above)) (flag_is b)
      ∙ rows_behind (r + 1) (after_row mode move r b b.above true) n

  -- each of them is one event
  events_behind : (r : ℕ) (b : RowStart) (n : ℕ) → b.previous ≡ true → events_down mode move r b (replicate n b.above) ≡ replicate n (pseudo_event mode true true)
  events_behind r b zero previous = refl
  events_behind r b (suc n) previous =
      ap (λ f. Rattle.raster_core.specs.Lines.row_events mode (lines_with b b.above) (offset_at move r b.offset) b.previous f
      ++ events_down mode move (r + 1) (after_row mode move r b b.above f) (replicate n b.above)) (flag_is b)
      ∙ ap (λ es. es ++ events_down mode move (r + 1) (after_row mode move r b b.above true) (replicate n b.above)) (again_events w mode move typical r b previous)
      ∙ ap (λ es. pseudo_event mode true true ∷ es) (events_behind (r + 1) (after_row mode move r b b.above true) n refl)

-- Their bytes are copies of the row's.
pub copies_read : {form : Form} {width : ℕ} {bytes : List ℕ} {row : List Bool} {known known' : Option (List ℕ)} (count : ℕ) → form ≡ Raw → PackedAreRows → IsPackedIn width bytes row →
    Consumes known known' (copies count bytes) → ReadsRows form width known known' (replicate count row)
copies_read {width} {bytes = bytes} {row = row} {known = known} {known' = known'} count is packed in_bytes taken = subst (λ f. ReadsRows f width known known' (replicate count row)) (sym is) (record {
  given = copies count bytes;
  taken = taken;
  are_rows = subst (λ z. AreRows Raw width z (replicate count row)) (flat_copies count row ∙ ap (copies count) (sym in_bytes.packed))
      (packed width (replicate count row) (all_copies count width row in_bytes.wide));
})

-- so many events more
pub events_again : (rows count width old new : ℕ) → old ≤ rows * (width + 1) → new ≤ old + count → new ≤ (rows + count) * (width + 1)
events_again rows count width old new few more =
    let sum : (rows + count) * (width + 1) ≡ rows * (width + 1) + count * (width + 1) = Rattle.std.proofs.Math.Nat.add-mul rows count (width + 1) in
    let each : count * (width + 1) ≡ count * width + count * 1 = Rattle.std.proofs.Math.Nat.mul-add count width 1 in
    omega (arith, sum, each, few, more)

-- a window moves down to an equal row
pub repeated_lined : {window : Held} → IsLined window → IsLined (repeated window)
repeated_lined (lines, has) = (
  record { row = lines.row; above = lines.row; second = lines.above },
  record { row_is = has.row_is; above_is = has.row_is; second_is = has.above_is; row_wide = has.row_wide; above_wide = has.row_wide; second_wide = has.above_wide },
)

-- ---- a stripe in progress, below a typical row

module _ {image : Image} {rows : List (List Bool)} {v : RowView} {window : Held} {origin : Origin} {mid : Option (List ℕ)} (count : ℕ) (r : Runs image rows v window origin mid)
    (wide : window.width ≡ v.plan.width) (some : 0 < v.in_stripe) (typical : v.plan.shape.typical ≡ true) (previous : v.kept.previous_typical ≡ true) where
  abbrev mode : Mode
  mode = mode_of image.settings.options

  abbrev move : Option (ℕ × ℕ)
  move = next_move image.settings image.width r.at

  abbrev pub b : RowStart
  b = row_start_in image.settings image.width r.at r.part

  mode_typical : mode.typical ≡ true
  mode_typical = ap (λ m. m.typical) (sym r.plan_is.shape_is.mode_is) ∙ typical

  was : b.previous ≡ true
  was = sym r.running.is_held.previous_is ∙ previous

  twin_is : b.second ≡ b.above
  twin_is = twin mode move 0 (first_row_start r.at.carry) r.part (omega (arith, r.in_stripe)) was

  abbrev rows_again : List (List Bool)
  rows_again = replicate count b.above

  abbrev ends : RowStart
  ends = behind image.width mode move mode_typical (0 + length r.part) b count

  ends_is : row_start_in image.settings image.width r.at (r.part ++ rows_again) ≡ ends
  ends_is = after_more mode move 0 (first_row_start r.at.carry) r.part rows_again ∙ rows_behind image.width mode move mode_typical (0 + length r.part) b count

  again_is : replicate count (again_event v.plan.shape) ≡ replicate count (pseudo_event mode true true)
  again_is = ap (λ m. replicate count (pseudo_event m true true)) r.plan_is.shape_is.mode_is

  pub events_are : events_down mode move (0 + length r.part) b rows_again ≡ replicate count (again_event v.plan.shape)
  events_are = events_behind image.width mode move mode_typical (0 + length r.part) b count was ∙ sym again_is

  state_is : after (record { place = b.state.place; learned = v.learned }) (replicate count (again_event v.plan.shape)) ≡ ends.state
  state_is =
      ap (λ l. after (record { place = b.state.place; learned = l }) (replicate count (again_event v.plan.shape))) r.running.is_held.learned_is
      ∙ ap (after b.state) again_is ∙ sym (state_behind image.width mode move mode_typical (0 + length r.part) b count was)

  settled : (k o : ℕ) → 0 + length r.part ≤ k → offset_at move k o ≡ o
  settled zero o le = absurd (omega (arith, le, some, r.in_stripe))
  settled (suc k) o le = sym (moved_before move k r.running.is_held.at_top)

  many : length rows_again ≡ count
  many = length_copies count b.above

  pub row_wide : length b.above ≡ image.width
  row_wide = r.running.is_held.lines_are.row_wide ∙ wide ∙ r.plan_is.width_is

  lines_are : HasLines (repeated window) (record { row = b.above; above = b.above; second = b.above })
  lines_are =
      let l = r.running.is_held.lines_are in
      subst (λ z. HasLines (repeated window) (record { row = b.above; above = b.above; second = z })) twin_is
      (record { row_is = l.row_is; above_is = l.row_is; second_is = l.above_is; row_wide = l.row_wide; above_wide = l.row_wide; second_wide = l.above_wide })

  more_rows : length (r.part ++ rows_again) ≡ length r.part + count
  more_rows = length-append r.part rows_again ∙ ap (λ n. length r.part + n) many

  lines_grow : lines_down r.at.carry.above r.at.carry.second (r.part ++ rows_again)
      ≡ lines_down r.at.carry.above r.at.carry.second r.part ++ replicate count (record { row = b.above; above = b.above; second = b.above })
  lines_grow =
      lines_append mode move 0 (first_row_start r.at.carry) r.part rows_again
      ∙ ap (λ z. lines_down r.at.carry.above r.at.carry.second r.part ++ lines_down b.above z rows_again) twin_is
      ∙ ap (λ z. lines_down r.at.carry.above r.at.carry.second r.part ++ z) (lines_copies count b.above)

  pub copies_coded : {window' : Held} {text' : Option (List ℕ)} → 1 ≤ count → v.rows + count ≤ v.plan.limit → v.in_stripe + count < v.plan.stripe_rows → v.plan.stripe_rows < 2 ^ 32 →
      window' ≡ repeated window → (learned : List Estimate) (tally : Tally) (e : Encoder) →
      EventsPut (record { place = b.state.place; learned = v.learned }) r.pushed (replicate count (again_event v.plan.shape)) mid (encoder_state text' e learned) →
      ((lines : List Lines) (l : Lines) → length lines + count < 2 ^ 32 → HasLines window' l → IsCountedTo v.plan.width (counted_of v) v.tally lines →
      IsCountedTo v.plan.width (counted_of v) tally (lines ++ replicate count l)) →
      is_two_line tally ≡ is_two_line v.tally → most_of tally ≡ most_of v.tally →
      Runs image (rows ++ rows_again) (record v { learned = learned; tally = tally; encoder = e; rows = v.rows + count; in_stripe = v.in_stripe + count }) window' origin text'
  copies_coded {window'} enough left fewer few_rows window_is learned tally e put counts two_line most = record {
    plan_is = r.plan_is;
    come = record {
      many = (let sum = length-append rows rows_again in omega (arith, sum, many, r.come.many));
      few = (let sum = length-append rows rows_again in omega (arith, sum, many, r.come.many, left, r.plan_is.limit_is));
      wide = All-append _ rows rows_again r.come.wide (all_copies count image.width b.above row_wide);
    };
    i = r.i;
    whole = r.whole;
    part = r.part ++ rows_again;
    all = rw r.all (append_assoc r.whole r.part rows_again);
    at = r.at;
    front = r.front;
    stripes = r.stripes;
    in_stripe = (let sum = more_rows in omega (arith, sum, r.in_stripe));
    few = (let sum = more_rows in omega (arith, sum, r.in_stripe, fewer, r.plan_is.stripe_rows_is));
    pushed = r.pushed ++ put.more;
    running = record {
      codes = rw (ends_is, ← state_is) put.codes;
      is_held = rw (more_rows, ends_is) (record {
        at_top = r.running.is_held.at_top;
        offset_is = r.running.is_held.offset_is ∙ settled (length r.part) b.offset (omega arith) ∙ sym ends_offset ∙ sym (settled (length r.part + count) ends.offset (omega arith));
        previous_is = previous ∙ sym (previous_behind image.width mode move mode_typical (0 + length r.part) b count was);
        learned_is = put.taught ∙ ap (λ n. n.learned) state_is;
        third = b.above;
        lines_are = subst (λ w. HasLines w (record { row = ends.above; above = ends.second; second = b.above })) (sym window_is)
            (subst (λ z. HasLines (repeated window) (record { row = z; above = ends.second; second = b.above })) (sym (above_behind image.width mode move mode_typical (0 + length r.part) b count))
            (subst (λ z. HasLines (repeated window) (record { row = b.above; above = z; second = b.above }))
            (sym (second_behind image.width mode move mode_typical (0 + length r.part) b count enough)) lines_are));
      });
      two_line = two_line ∙ r.running.two_line;
      most = most ∙ r.running.most;
      tallied = rw lines_grow (subst (λ w. IsCountedTo w (counted_of v) tally (lines_down r.at.carry.above r.at.carry.second r.part ++ replicate count (record { row = b.above; above = b.above; second = b.above }))) r.plan_is.width_is
          (counts (lines_down r.at.carry.above r.at.carry.second r.part) (record { row = b.above; above = b.above; second = b.above })
          (let sum = length-lines_down r.at.carry.above r.at.carry.second r.part in omega (arith, sum, r.in_stripe, fewer, few_rows))
          (subst (λ w. HasLines w (record { row = b.above; above = b.above; second = b.above })) (sym window_is) lines_are)
          (subst (λ w. IsCountedTo w (counted_of v) v.tally (lines_down r.at.carry.above r.at.carry.second r.part)) (sym r.plan_is.width_is) r.running.tallied)));
    };
    names_to = r.names_to;
    none_named = r.none_named;
    counts = r.counts;
    sent = rw (← append_assoc (move_bytes image.settings image.width r.at) r.pushed put.more, ← append_assoc r.front (move_bytes image.settings image.width r.at ++ r.pushed) put.more)
        (Sends-more put.more r.sent put.appended);
  } where
    ends_offset : ends.offset ≡ b.offset
    ends_offset = offset_behind image.width mode move mode_typical (0 + length r.part) b count settled
