-- The state that an encoder carries from stripe to stripe is the one that the definition of the stream determines.
use Rattle.std.proofs.Common.{◌≡◌, ℕ, zero, suc, ◌+◌, ◌-◌, ◌*◌, ◌<◌, ◌≤◌, nat_eq, Bool, true, false, List, ◌++◌, length, map, refl, sym, ◌∙◌, ap, subst, arith, Option, None}
use Rattle.std.specs.Prelude.{slice_index_or, if◌then◌else◌, flat_map, filter_map, min, unwrap_or, option_map}
use Rattle.std.proofs.lemmas.Bool.Decides.{nat_tests}
use Rattle.std.proofs.lemmas.List.{get_or-replicate}
use Rattle.std.proofs.lemmas.Grind.{div_ceil_times}
use Rattle.std.proofs.Math.Nat.{mul-le-mul_right}
use Rattle.qm_core.specs.Code.{code_of}
use Rattle.qm_core.specs.Place.{after, fresh}
use Rattle.raster_core.specs.Raster.{Raster, height, row_above, white_row}
use Rattle.raster_core.specs.Lines.{Lines, numbers_from}
use Rattle.raster_core.specs.Offset.{chosen_offset}
use Rattle.t85_core.specs.Grammar.{Segment, Stripe, stripe_bytes, stripe_count}
use Rattle.t85_core.specs.Coding.{Coding, fresh_stripe, rows_of, lines_of, moved_at, last_or, events_of_row, events_of, learned_at, place_of, begun}
use Rattle.t85_core.specs.States.State.{RowStart, first_row_start, next_stripe_start}
use Rattle.t85_core.specs.Jbg.{Settings, cut, coding_of, named_for, moved_to, first_choice, choice_after, current_offset, move_before, move_segments, coded_stripe, stripes_up_to}
use Rattle.t85_core.specs.States.Written.{after_rows, lines_down, EncoderStart, next_move, row_start_in}
use Rattle.t85_core.specs.Private.Written.{first_encoder_start, next_stripe, next_encoder_start}
use Rattle.t85_core.proofs.StreamsDenote.StateIsCarried.{row_above_top, numbers_from_last}
use Rattle.t85_core.proofs.BytesJoin.ListsGrow.{flat_map_push}
use Rattle.t85_core.proofs.BytesJoin.ListsKeepElements.{Continues}
use Rattle.t85_core.specs.States.Looked.{offset_before, flag_before, CarryAt, lines_before, offset_to, CourseAt}
use Rattle.t85_core.proofs.StreamsDenote.StateIsLookedUp.{CarriedAt, stripe_begins}
use Rattle.t85_core.proofs.ImagesEncode.EncoderCarriesRows.{get_mapped, none_chosen, offset_after, RowsDown, rows_down}

-- a stripe ends, and the next begins
next_carry : {c : Coding} {i : ℕ} {reset : Bool} {last : RowStart} → slice_index_or c.resets i false ≡ reset → suc i * c.stripe_rows ≤ height c.raster →
    CarriedAt c i c.stripe_rows (suc i * c.stripe_rows) last → CarryAt c (suc i) (suc i * c.stripe_rows) (next_stripe_start c.raster.width reset last)
next_carry {c} {i} {reset = true} reset_is long k =
    let y : ℕ = suc i * c.stripe_rows in
    let fresh_here : fresh_stripe c (suc i) ≡ suc i = rw reset_is in
    let none : suc i * c.stripe_rows - suc i * c.stripe_rows ≡ 0 = omega arith in
    let test : nat_eq (suc i * c.stripe_rows) (suc i * c.stripe_rows) ≡ true = grind (arith, nat_tests) in
    record {
      learned = sym (ap (λ b. if b then fresh else (after (begun (learned_at c i)) (events_of c i)).learned) reset_is);
      offset = sym (ap (λ j. offset_before c (j * c.stripe_rows) y) fresh_here ∙ ap (λ n. last_or 0 (filter_map (moved_at c) (numbers_from y n))) none);
      previous = sym (ap (λ j. flag_before c (j * c.stripe_rows) y) fresh_here ∙ ap (λ b. if b then false else slice_index_or c.flags (y - 1) false) test);
      above = sym (ap (λ j. row_above c.raster (j * c.stripe_rows) y 1) fresh_here ∙ row_above_top c.raster y 1 (omega arith));
      second = sym (ap (λ j. row_above c.raster (j * c.stripe_rows) y 2) fresh_here ∙ row_above_top c.raster y 2 (omega arith));
    }
next_carry {c} {i} {reset = false} reset_is long k =
    let y : ℕ = suc i * c.stripe_rows in
    let fresh_before : fresh_stripe c i ≡ fresh_stripe c (suc i) = sym (ap (λ b. if b then suc i else fresh_stripe c i) reset_is) in
    let many : c.stripe_rows ≡ min c.stripe_rows (height c.raster - i * c.stripe_rows) = omega arith in
    record {
      learned =
          ap (λ s. s.learned) k.state
          ∙ ap (λ n. (after (begun (learned_at c i)) (flat_map (events_of_row c) (numbers_from (i * c.stripe_rows) n))).learned) many
          ∙ sym (ap (λ b. if b then fresh else (after (begun (learned_at c i)) (events_of c i)).learned) reset_is);
      offset = k.offset ∙ ap (λ j. offset_before c (j * c.stripe_rows) y) fresh_before;
      previous = k.previous ∙ ap (λ j. flag_before c (j * c.stripe_rows) y) fresh_before;
      above = k.above ∙ ap (λ j. row_above c.raster (j * c.stripe_rows) y 1) fresh_before;
      second = k.second ∙ ap (λ j. row_above c.raster (j * c.stripe_rows) y 2) fresh_before;
    }

move_is_before : {i : ℕ} (s : Settings) (raster : Raster) (at : EncoderStart) → at.stripe ≡ i → at.counted ≡ lines_before s raster i → at.carry.offset ≡ offset_to s raster i →
    next_move s raster.width at ≡ move_before s (cut s raster) i
move_is_before {i} s raster at stripe counted offset =
    ap (λ j. move j at.carry.offset at.counted) stripe
    ∙ ap (move i at.carry.offset) counted
    ∙ ap (λ o. move i o (lines_before s raster i)) offset
    ∙ chosen i
  where
    move : ℕ → ℕ → List Lines → Option (ℕ × ℕ)
    move j current lines = option_map (λ t. (0, t)) (moved_to (named_for s j) current (chosen_offset (cut s raster).mode.two_line s.most_offset raster.width lines current))

    chosen : (i : ℕ) → move i (offset_to s raster i) (lines_before s raster i) ≡ move_before s (cut s raster) i
    chosen zero = ap (λ o. option_map (λ t. (0, t)) (moved_to (named_for s 0) 0 o)) (none_chosen (cut s raster).mode.two_line s.most_offset raster.width 0)
    chosen (suc i) = refl

-- the top of the image
pub course_begins : {s : Settings} {raster : Raster} → CourseAt s raster 0 (first_encoder_start raster.width)
course_begins {s} {raster} = record {
  stripe = refl;
  carry = record {
    learned = refl;
    offset = sym (ap (λ n. last_or 0 (filter_map (moved_at (coding_of s raster)) (numbers_from (0 * s.stripe_rows) n))) none);
    previous = sym (ap (λ b. if b then false else slice_index_or (coding_of s raster).flags (0 * s.stripe_rows - 1) false) test);
    above = sym (row_above_top raster (0 * s.stripe_rows) 1 (omega arith));
    second = sym (row_above_top raster (0 * s.stripe_rows) 2 (omega arith));
  };
  counted = refl;
  offset = refl;
  move = move_is_before s raster (first_encoder_start raster.width) refl refl refl;
} where
  none : 0 * s.stripe_rows - 0 * s.stripe_rows ≡ 0
  none = omega arith

  test : nat_eq (0 * s.stripe_rows) (0 * s.stripe_rows) ≡ true
  test = grind (arith, nat_tests)

-- a stripe is written as the stream has it, and the next is reached
pub record CourseGoes (s : Settings) (raster : Raster) (i : ℕ) (at : EncoderStart) (rows : List (List Bool)) : Type 0 where
  pub stripe : next_stripe s raster.width at rows ≡ coded_stripe (coding_of s raster) i
  pub lines : lines_down at.carry.above at.carry.second rows ≡ map (lines_of (cut s raster)) (rows_of (cut s raster) i)
  pub next : i + 1 < stripe_count (height raster) s.stripe_rows → CourseAt s raster (i + 1) (next_encoder_start s raster.width at rows)

-- a stripe begins within the image
pub stripe_within : (n l i : ℕ) → 1 ≤ l → i < stripe_count n l → i * l < n
stripe_within n l i some inside =
    let times = div_ceil_times n l some in
    let up : (i + 1) * l ≤ stripe_count n l * l = mul-le-mul_right l (omega arith) in
    omega arith

-- the offset that is named for stripe i, or that the rows of the stripe before choose for it
abbrev choice_before : Settings → Raster → ℕ → Option ℕ
choice_before s raster zero = first_choice s
choice_before s raster (suc i) = choice_after s (cut s raster) i (current_offset s (cut s raster) i)

move_chosen : (s : Settings) (raster : Raster) (i : ℕ) → move_before s (cut s raster) i ≡ option_map (λ t. (0, t)) (choice_before s raster i)
move_chosen s raster zero = refl
move_chosen s raster (suc i) = refl

-- what a stripe writes of its offset
offset_ends : (s : Settings) (raster : Raster) (i : ℕ) (last : RowStart) → last.offset ≡ unwrap_or (choice_before s raster i) (offset_to s raster i) →
    (next_stripe_start raster.width s.reset last).offset ≡ current_offset s (cut s raster) i
offset_ends s raster zero last h = went s.reset where
  went : (b : Bool) → (next_stripe_start raster.width b last).offset ≡ (if b then 0 else unwrap_or (choice_before s raster zero) (offset_to s raster zero))
  went true = refl
  went false = h
offset_ends s raster (suc i) last h = went s.reset where
  went : (b : Bool) → (next_stripe_start raster.width b last).offset ≡ (if b then 0 else unwrap_or (choice_before s raster (suc i)) (offset_to s raster (suc i)))
  went true = refl
  went false = h

module _ {s : Settings} {raster : Raster} {i : ℕ} {at : EncoderStart} (rows : List (List Bool)) (some : 1 ≤ s.stripe_rows) (inside : i < stripe_count (height raster) s.stripe_rows)
    (h : CourseAt s raster i at) (rows_at : Continues (white_row raster.width) raster.rows (i * s.stripe_rows) rows)
    (many : length rows ≡ min s.stripe_rows (height raster - i * s.stripe_rows)) where
  within : i * s.stripe_rows < height raster
  within = stripe_within (height raster) s.stripe_rows i some inside

  move_is : slice_index_or (coding_of s raster).moves i None ≡ next_move s raster.width at
  move_is =
      let at_i : 0 + i ≡ i = omega arith in
      get_mapped (move_before s (cut s raster)) 0 (stripe_count (height raster) s.stripe_rows) i None inside ∙ ap (move_before s (cut s raster)) at_i ∙ sym h.move

  reset_is : slice_index_or (coding_of s raster).resets i false ≡ s.reset
  reset_is = get_or-replicate (stripe_count (height raster) s.stripe_rows) i s.reset false inside

  down : RowsDown s raster i 0 (i * s.stripe_rows) (next_move s raster.width at) (first_row_start at.carry) rows
  down =
      let y : i * s.stripe_rows ≡ i * s.stripe_rows + 0 = omega arith in
      rows_down s raster move_is rows 0 (omega arith) (omega (arith, within)) y
      (stripe_begins (coding_of s raster) i at.carry h.carry) rows_at

  state_is : (row_start_in s raster.width at rows).state ≡ after (begun (learned_at (coding_of s raster) i)) (events_of (coding_of s raster) i)
  state_is =
      let all : 0 + length rows ≡ min s.stripe_rows (height raster - i * s.stripe_rows) = omega arith in
      down.carried.state ∙ ap (λ n. after (begun (learned_at (coding_of s raster) i)) (flat_map (events_of_row (coding_of s raster)) (numbers_from (i * s.stripe_rows) n))) all

  offset_is : (row_start_in s raster.width at rows).offset ≡ unwrap_or (choice_before s raster i) (offset_to s raster i)
  offset_is =
      ap (λ m. (after_rows (cut s raster).mode m 0 (first_row_start at.carry) rows).offset) (h.move ∙ move_chosen s raster i)
      ∙ offset_after s raster (choice_before s raster i) rows (first_row_start at.carry) (omega (arith, within))
      ∙ ap (unwrap_or (choice_before s raster i)) h.offset

  stripe_is : next_stripe s raster.width at rows ≡ coded_stripe (coding_of s raster) i
  stripe_is =
      ap (λ m. made (move_segments m) (code_of (row_start_in s raster.width at rows).state.place) s.reset) (sym move_is)
      ∙ ap (λ z. made (move_segments (slice_index_or (coding_of s raster).moves i None)) (code_of z.place) s.reset) state_is
      ∙ ap (λ b. made (move_segments (slice_index_or (coding_of s raster).moves i None)) (code_of (place_of (coding_of s raster) i)) b) (sym reset_is)
    where
      made : List Segment → List ℕ → Bool → Stripe
      made segments code reset = record { segments = segments; code = code; reset = reset }

  next_is : suc i * s.stripe_rows ≤ height raster → CourseAt s raster (suc i) (next_encoder_start s raster.width at rows)
  next_is long = record {
    stripe = ap suc h.stripe;
    carry = next_carry reset_is long carried;
    counted = counted;
    offset = offset;
    move = move_is_before s raster (next_encoder_start s raster.width at rows) (ap suc h.stripe) counted offset;
  } where
    counted : lines_down at.carry.above at.carry.second rows ≡ lines_before s raster (suc i)
    counted = rw (down.lines, many)

    offset : (next_stripe_start raster.width s.reset (row_start_in s raster.width at rows)).offset ≡ offset_to s raster (suc i)
    offset = offset_ends s raster i (row_start_in s raster.width at rows) offset_is

    carried : CarriedAt (coding_of s raster) i s.stripe_rows (suc i * s.stripe_rows) (row_start_in s raster.width at rows)
    carried =
        let r_is : 0 + length rows ≡ s.stripe_rows = omega arith in
        let y_is : i * s.stripe_rows + length rows ≡ suc i * s.stripe_rows = omega arith in
        subst (λ z. CarriedAt (coding_of s raster) i s.stripe_rows z (row_start_in s raster.width at rows)) y_is
        (subst (λ z. CarriedAt (coding_of s raster) i z (i * s.stripe_rows + length rows) (row_start_in s raster.width at rows)) r_is down.carried)

  -- from stripe to stripe
  pub course_step : CourseGoes s raster i at rows
  course_step = record {
    stripe = stripe_is;
    lines = rw (down.lines, many);
    next = λ more.
        let on : suc i ≡ i + 1 = omega arith in
        let long = stripe_within (height raster) s.stripe_rows (i + 1) some more in
        rw (← on) (next_is (omega arith));
  }

-- a stripe more of the stream
pub stripes_more : (s : Settings) (raster : Raster) (i : ℕ) → stripes_up_to s raster (i + 1) ≡ stripes_up_to s raster i ++ stripe_bytes (coded_stripe (coding_of s raster) i)
stripes_more s raster i =
    let on : i + 1 ≡ suc i = omega arith in
    let at : 0 + i ≡ i = omega arith in
    ap (stripes_up_to s raster) on
    ∙ ap (flat_map (λ n. stripe_bytes (coded_stripe (coding_of s raster) n))) (numbers_from_last 0 i)
    ∙ flat_map_push (λ n. stripe_bytes (coded_stripe (coding_of s raster) n)) (numbers_from 0 i) (0 + i)
    ∙ ap (λ n. stripes_up_to s raster i ++ stripe_bytes (coded_stripe (coding_of s raster) n)) at
