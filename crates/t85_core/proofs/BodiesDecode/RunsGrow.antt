-- Runs grow row by row and stripe by stripe.
use Rattle.std.proofs.Common.{◌≡◌, ℕ, suc, ◌+◌, ◌-◌, ◌*◌, ◌≤◌, ◌&&◌, Bool, true, false, List, [], ◌∷◌, ◌++◌, length, map, refl, sym, ◌∙◌, ap, subst, arith, Option, append-nil, append_assoc, true≢false}
use Rattle.std.specs.Prelude.{min, IsTrue}
use Rattle.std.specs.List.{AllByRecursion}
use Rattle.qm_core.specs.Place.{State, Event, Estimate, IsPlace, after}
use Rattle.qm_core.specs.Code.{Lies, wanted_bytes}
use Rattle.qm_core.specs.Source.{bytes_of, heard_of}
use Rattle.qm_core.specs.Decoder.{DecoderIsAt}
use Rattle.qm_core.specs.declared.source.Pulled.{Pulled}
use Rattle.qm_core.specs.declared.source.Heard.TheVariants.{More}
use Rattle.qm_core.specs.declared.decoder.Decoder.{Decoder}
use Rattle.raster_core.specs.Lines.{Lines, Mode, row_events, context_at, numbers_from, same_row, IsLegalFlag}
use Rattle.raster_core.specs.Enough.{beginnings, AreEnough}
use Rattle.raster_core.specs.Machine.Decoded.{with_row}
use Rattle.raster_core.specs.Row.{RowIs, events_after, IsRowUndecided, row_task, row_left}
use Rattle.raster_core.specs.Window.{shape_mode}
use Rattle.raster_core.specs.Packed.{Held}
use Rattle.raster_core.specs.Raster.{pixel_at}
use Rattle.raster_core.specs.declared.shape.Shape.{Shape}
use Rattle.raster_core.specs.declared.shape.Kept.{Kept}
use Rattle.t85_core.specs.Header.{Fields}
use Rattle.t85_core.specs.Grammar.{Stripe}
use Rattle.t85_core.specs.States.State.{RowStart, StripeStart, lines_with, offset_at, after_row, IsNextRow, Run, StripeRun, StripesRun, row_coding, RowCoding}
use Rattle.t85_core.specs.States.Cut.{events_with, RunEnough}
use Rattle.t85_core.specs.Private.Cut.{NoneDecided}
use Rattle.t85_core.specs.Private.CoderLaws.{CoderLaws}
use Rattle.t85_core.specs.Coding.{flagged}

-- ---- runs, one after another

pub run_append : (coding : RowCoding) (r : ℕ) (b : RowStart) (rows : List (List Bool)) (flags : List Bool) (mid : RowStart) (more : List (List Bool)) (more_flags : List Bool) (last : RowStart) →
    Run coding r b rows flags mid → Run coding (r + length rows) mid more more_flags last → Run coding r b (rows ++ more) (flags ++ more_flags) last
run_append coding r b [] [] mid more more_flags last run k =
    let r0 : r + 0 ≡ r = omega arith in
    subst (λ z. Run coding r z more more_flags last) (sym run) (subst (λ z. Run coding z mid more more_flags last) r0 k)
run_append coding r b (x ∷ rows) (f ∷ flags) mid more more_flags last run k =
    let at : r + suc (length rows) ≡ (r + 1) + length rows = omega arith in
    (run.0, run_append coding (r + 1) (after_row coding.mode coding.move r b x f) rows flags mid more more_flags last run.1 (subst (λ z. Run coding z mid more more_flags last) at k))
run_append coding r b rows flags mid more more_flags last run k = absurd run

pub run_enough_append : (count : ℕ) (coding : RowCoding) (r : ℕ) (b : RowStart) (rows : List (List Bool)) (flags : List Bool) (mid : RowStart) (more : List (List Bool)) (more_flags : List Bool) →
    Run coding r b rows flags mid → RunEnough count coding r b rows flags → RunEnough count coding (r + length rows) mid more more_flags →
    RunEnough count coding r b (rows ++ more) (flags ++ more_flags)
run_enough_append count coding r b [] [] mid more more_flags run h k =
    let r0 : r + 0 ≡ r = omega arith in
    subst (λ z. RunEnough count coding r z more more_flags) (sym run) (subst (λ z. RunEnough count coding z mid more more_flags) r0 k)
run_enough_append count coding r b (x ∷ rows) (f ∷ flags) mid more more_flags run h k =
    let at : r + suc (length rows) ≡ (r + 1) + length rows = omega arith in
    (h.0, run_enough_append count coding (r + 1) (after_row coding.mode coding.move r b x f) rows flags mid more more_flags run.1 h.1 (subst (λ z. RunEnough count coding z mid more more_flags) at k))
run_enough_append count coding r b rows flags mid more more_flags run h k = absurd run

-- ---- a row more

pub run_push : (coding : RowCoding) (r : ℕ) (b : RowStart) (rows : List (List Bool)) (flags : List Bool) (last : RowStart) (row : List Bool) (flag : Bool) →
    Run coding r b rows flags last → IsNextRow coding.width coding.mode last row flag →
    Run coding r b (rows ++ row ∷ []) (flags ++ flag ∷ []) (after_row coding.mode coding.move (r + length rows) last row flag)
run_push coding r b rows flags last row flag run k = run_append coding r b rows flags last (row ∷ []) (flag ∷ []) _ run (k, refl)

-- more bytes decide what fewer do
pub enough_more : (count more : ℕ) (s : State) (events : List Event) → count ≤ more → AreEnough count s events → AreEnough more s events
enough_more count more s events le h = went (beginnings s events) h where
  went : (ks : List ℕ) → AllByRecursion (λ n. wanted_bytes n ≤ count) ks → AllByRecursion (λ n. wanted_bytes n ≤ more) ks
  went [] all = tt
  went (k ∷ ks) all = (let here : wanted_bytes k ≤ count = all.0 in omega (arith, here, le), went ks all.1)

pub run_enough_more : (count more : ℕ) (coding : RowCoding) (r : ℕ) (b : RowStart) (rows : List (List Bool)) (flags : List Bool) → count ≤ more → RunEnough count coding r b rows flags →
    RunEnough more coding r b rows flags
run_enough_more count more coding r b [] flags le h = tt
run_enough_more count more coding r b (row ∷ rows) [] le h = tt
run_enough_more count more coding r b (row ∷ rows) (flag ∷ flags) le h = (
  enough_more count more b.state (events_with coding.mode coding.move r b row flag) le h.0,
  run_enough_more count more coding (r + 1) (after_row coding.mode coding.move r b row flag) rows flags le h.1,
)

pub run_enough_push : (count : ℕ) (coding : RowCoding) (r : ℕ) (b : RowStart) (rows : List (List Bool)) (flags : List Bool) (last : RowStart) (row : List Bool) (flag : Bool) →
    Run coding r b rows flags last → RunEnough count coding r b rows flags → AreEnough count last.state (events_with coding.mode coding.move (r + length rows) last row flag) →
    RunEnough count coding r b (rows ++ row ∷ []) (flags ++ flag ∷ [])
run_enough_push count coding r b rows flags last row flag run h k = run_enough_append count coding r b rows flags last (row ∷ []) (flag ∷ []) run h (k, tt)

-- ---- a stripe more

pub stripes_push : (h : Fields) (left : ℕ) (c : StripeStart) (stripes : List Stripe) (rows : List (List Bool)) (flags : List Bool) (mid : StripeStart) (s : Stripe) (more : List (List Bool))
    (more_flags : List Bool) (next : StripeStart) →
    StripesRun h left c stripes (flagged rows flags) mid → StripeRun h (min (left - length stripes * h.l0) h.l0) mid s (flagged more more_flags) next →
    StripesRun h left c (stripes ++ s ∷ []) (flagged (rows ++ more) (flags ++ more_flags)) next
stripes_push h left c [] rows flags mid s more more_flags next run k =
    let l0 : left - 0 * h.l0 ≡ left = omega arith in (
      more,
      [],
      more_flags,
      [],
      next,
      ap (λ z. z ++ more) run.0 ∙ sym (append-nil more),
      ap (λ z. z ++ more_flags) run.1 ∙ sym (append-nil more_flags),
      subst (λ z. StripeRun h (min left h.l0) z s (flagged more more_flags) next) (sym run.2) (subst (λ z. StripeRun h (min z h.l0) mid s (flagged more more_flags) next) l0 k),
      (refl, refl, refl),
    )
stripes_push h left c (t ∷ stripes) rows flags mid s more more_flags next run k =
    let l0 : left - suc (length stripes) * h.l0 ≡ (left - h.l0) - length stripes * h.l0 = omega arith in (
      run.0,
      run.1 ++ more,
      run.2,
      run.3 ++ more_flags,
      run.4,
      ap (λ z. z ++ more) run.5 ∙ append_assoc run.0 run.1 more,
      ap (λ z. z ++ more_flags) run.6 ∙ append_assoc run.2 run.3 more_flags,
      run.7,
      stripes_push h (left - h.l0) run.4 stripes run.1 run.3 mid s more more_flags next run.8 (subst (λ z. StripeRun h (min z h.l0) mid s (flagged more more_flags) next) l0 k),
    )

-- ---- a code that decides no row

-- a byte or none decides no pixel
pub short_code : (two typical : Bool) (lines : Lines) (offset : ℕ) (previous flag : Bool) (s : State) (count : ℕ) → 1 ≤ length lines.row → count ≤ 1 →
    (IsTrue flag → IsTrue (typical && same_row lines.row lines.above)) → AreEnough count s (row_events (record { two_line = two; typical = typical }) lines offset previous flag) → ⊥
short_code two true lines offset previous flag s count some few legal h = let first : wanted_bytes s.place.doublings ≤ count = h.0 in omega (arith, first, few)
short_code two false lines offset previous true s count some few legal h = true≢false (sym (legal refl))
short_code two false lines offset previous false s count some few legal h = pixels lines.row some lines refl h where
  pixels : (row : List Bool) → 1 ≤ length row → (l : Lines) → l.row ≡ row → AreEnough count s (row_events (record { two_line = two; typical = false }) l offset previous false) → ⊥
  pixels [] more l e k = omega (arith, more)
  pixels (x ∷ row) more l e k = let first : wanted_bytes s.place.doublings ≤ count = (subst (λ n. AreEnough count s (first_of n l)) (ap length e) k).0 in omega (arith, first, few) where
    first_of : ℕ → Lines → List Event
    first_of n z = map (λ y. record { context = context_at (record { two_line = two; typical = false }) z offset y; pixel = pixel_at z.row y }) (numbers_from 0 n)

pub none_decided : (coding : RowCoding) (r : ℕ) (b : RowStart) (code : List ℕ) → 1 ≤ coding.width → length code ≤ 1 → NoneDecided coding r b code
none_decided coding r b code some few row flag wide legal lies enough =
    short_code coding.mode.two_line coding.mode.typical (lines_with b row) (offset_at coding.move r b.offset) b.previous flag b.state (length code) (omega (arith, some, wide)) few legal enough

-- ---- a row as it is decoded

module _ (shape : Shape) (kept : Kept) (s : State) (lines : Lines) (mode : Mode) (move : Option (ℕ × ℕ)) (r : ℕ) (b : RowStart)
    (mode_is : shape_mode shape ≡ mode) (offset_is : kept.offset ≡ offset_at move r b.offset) (previous_is : kept.previous_typical ≡ b.previous)
    (above_is : lines.above ≡ b.above) (second_is : lines.second ≡ b.second) (state_is : s ≡ b.state) where
  pub lines_alike : (row : List Bool) → with_row lines row ≡ lines_with b row
  lines_alike row = ap (λ z. made z lines.second) above_is ∙ ap (made b.above) second_is where
    made : List Bool → List Bool → Lines
    made a c = record { row = row; above = a; second = c }

  pub events_alike : (row : List Bool) (flag : Bool) → events_after shape kept (with_row lines row) flag ≡ events_with mode move r b row flag
  events_alike row flag =
      ap (λ z. row_events z (with_row lines row) kept.offset kept.previous_typical flag) mode_is
      ∙ ap (λ z. row_events mode z kept.offset kept.previous_typical flag) (lines_alike row)
      ∙ ap (λ z. row_events mode (lines_with b row) z kept.previous_typical flag) offset_is
      ∙ ap (λ z. row_events mode (lines_with b row) (offset_at move r b.offset) z flag) previous_is

  pub legal_alike : (row : List Bool) (flag : Bool) → IsLegalFlag (shape_mode shape) (with_row lines row) flag → IsLegalFlag mode (lines_with b row) flag
  legal_alike row flag h = subst (λ z. IsLegalFlag mode z flag) (lines_alike row) (subst (λ z. IsLegalFlag z (with_row lines row) flag) mode_is h)

  legal_back : (row : List Bool) (flag : Bool) → IsLegalFlag mode (lines_with b row) flag → IsLegalFlag (shape_mode shape) (with_row lines row) flag
  legal_back row flag h = subst (λ z. IsLegalFlag z (with_row lines row) flag) (sym mode_is) (subst (λ z. IsLegalFlag mode z flag) (sym (lines_alike row)) h)

  -- where the rows' decoder decides no row, there is none
  pub undecided_alike : (answers : List Pulled) → IsRowUndecided shape kept s answers lines → NoneDecided (row_coding shape.width mode move) r b (bytes_of answers)
  undecided_alike answers h row flag wide legal lies enough =
      h row flag wide (legal_back row flag legal)
      (subst (λ z. Lies (bytes_of answers) (after z (events_after shape kept (with_row lines row) flag)).place) (sym state_is)
      (subst (λ z. Lies (bytes_of answers) (after b.state z).place) (sym (events_alike row flag)) lies))
      (subst (λ z. AreEnough (length (bytes_of answers)) z (events_after shape kept (with_row lines row) flag)) (sym state_is)
      (subst (λ z. AreEnough (length (bytes_of answers)) b.state z) (sym (events_alike row flag)) enough))

  -- the state after the row
  pub state_alike : (row : List Bool) (flag : Bool) → after s (events_after shape kept (with_row lines row) flag) ≡ (after_row mode move r b row flag).state
  state_alike row flag = ap (λ z. after z (events_after shape kept (with_row lines row) flag)) state_is ∙ ap (after b.state) (events_alike row flag)

  module _ (kept' : Kept) (answers : List Pulled) (window : Held) (learned : List Estimate) (d : Decoder) (k : RowIs (row_task shape kept s lines) answers (row_left kept' window) learned d) where
    pub row_next : (w : ℕ) → shape.width ≡ w → IsNextRow w mode b k.row k.flag
    row_next w width_is = record { wide = k.wide ∙ width_is; legal = legal_alike k.row k.flag k.legal }

    pub row_stands : DecoderIsAt d (after_row mode move r b k.row k.flag).state.place answers
    row_stands = subst (λ z. DecoderIsAt d z.place answers) (state_alike k.row k.flag) k.stands

    pub row_taught : learned ≡ (after_row mode move r b k.row k.flag).state.learned
    row_taught = k.taught ∙ ap (λ z. z.learned) (state_alike k.row k.flag)

    pub row_enough : heard_of answers ≡ More → AreEnough (length (bytes_of answers)) b.state (events_with mode move r b k.row k.flag)
    row_enough going =
        subst (λ z. AreEnough (length (bytes_of answers)) z (events_with mode move r b k.row k.flag)) state_is
        (subst (λ z. AreEnough (length (bytes_of answers)) s z) (events_alike k.row k.flag) (k.enough going))

-- a run leads from a place to a place
pub run_place : CoderLaws → (coding : RowCoding) (r : ℕ) (b : RowStart) (rows : List (List Bool)) (flags : List Bool) (last : RowStart) →
    IsPlace b.state.place → Run coding r b rows flags last → IsPlace last.state.place
run_place q coding r b [] [] last p run = subst (λ z. IsPlace z.state.place) run p
run_place q coding r b (row ∷ rows) (f ∷ flags) last p run =
    run_place q coding (r + 1) (after_row coding.mode coding.move r b row f) rows flags last (q.events_keep_place (events_with coding.mode coding.move r b row f) b.state p) run.1
run_place q coding r b rows flags last p run = absurd run
