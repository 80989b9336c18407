-- A stripe is encoded without output, and its bytes are counted.
use Rattle.std.proofs.Common.{◌≡◌, ℕ, suc, ◌+◌, ◌-◌, ◌*◌, ◌%◌, ◌^◌, ◌<◌, Bool, true, false, not, cond, List, [], ◌∷◌, ◌++◌, length, map, refl, sym, ◌∙◌, ap, arith, append-nil, length-append, Option, Result, Ok, Err}
use Rattle.std.specs.Prelude.{OnOk, OnErr, slice_range}
use Rattle.std.proofs.lemmas.List.{length-map, map-append}
use Rattle.std.proofs.lemmas.List.Elements.{filter-append}
use Rattle.std.proofs.lemmas.List.Sums.{count_by-le-length, length-filter}
use Rattle.pbm_core.specs.Image.{pixels_of}
use Rattle.pbm_core.specs.Pbm.{bytes_of_row}
use Rattle.qm_core.specs.Counts.{one_more}
use Rattle.qm_core.specs.Encoder.{Finish, encoder_state}
use Rattle.qm_core.specs.Place.{after}
use Rattle.qm_core.specs.Sink.{Took, sink_at}
use Rattle.qm_core.specs.declared.encoder.CoderFault.{CoderFault}
use Rattle.qm_core.specs.declared.sink.CodeSink.{Ghosts}
use Rattle.raster_core.specs.Lines.{Lines, Mode, may_be_typical, numbers_from}
use Rattle.raster_core.specs.Packed.{Held, HasLines}
use Rattle.raster_core.specs.Row.{RowCoded, canonical_events, row_task}
use Rattle.raster_core.specs.Tally.{CountsLines, is_two_line, most_of}
use Rattle.raster_core.specs.Window.{shape_mode}
use Rattle.raster_core.specs.declared.shape.Shape.{Shape}
use Rattle.t85_core.specs.declared.encoding.by_row.trial.ByteCount.{ByteCount}
use Rattle.t85_core.specs.declared.encoding.by_row.trial.Trial.{Trial}
use Rattle.t85_core.specs.States.ByRow.{IsBelow}
use Rattle.t85_core.specs.Private.CoderLaws.{WritingLaws}
use Rattle.t85_core.specs.States.State.{RowStart, StripeStart, first_row_start, lines_with, after_row}
use Rattle.t85_core.specs.Private.Trial.{TrialOf, IsTried, trial_of, tried_to, tried_code, plain_down, named_move}
use Rattle.t85_core.specs.States.Trial.{packed_rows}
use Rattle.t85_core.specs.States.Written.{next_flag, after_rows, lines_down}
use Rattle.t85_core.proofs.ImagesEncode.RowsStopShort.{rows_place}
use Rattle.t85_core.proofs.ImagesEncode.RowEncoderAdvances.{length-lines_down, moved_before}
use Rattle.t85_core.proofs.ImagesEncode.StripeGrows.{after_more, lines_more}
use Rattle.t85_core.proofs.StreamsDenote.StateIsCarried.{numbers_from_last}
use Rattle.t85_core.proofs.StreamsDenote.StreamLengthIsBounded.{many as many_numbers}

-- ---- a sink that counts

-- it takes every byte
pub sure : {A : Type 0} (r : Result (Unit {0}) CoderFault) → OnErr r (◌≡◌ {A = ℕ} 0 (one_more 0)) → OnOk r A → A
sure (Ok u) never ok = ok
sure (Err f) never ok = absurd (omega arith)

abbrev pub counting : ByteCount → ℕ → ByteCount → Type 0
counting s byte t = t.bytes ≡ (s.bytes + 1) % 2 ^ 64

abbrev pub counts : Ghosts ByteCount
counts = record { took = counting; refused = λ s t. ⊥; failed = λ s. 0 }

pub took_counted : (from to : ByteCount) (bytes : List ℕ) → Took counting from bytes to → (n : ℕ) → from.bytes ≡ n % 2 ^ 64 → to.bytes ≡ (n + length bytes) % 2 ^ 64
took_counted from to [] took n is =
    let none : n ≡ n + 0 = omega arith in
    ap (λ s. s.bytes) (sym took) ∙ is ∙ ap (λ k. k % 2 ^ 64) none
took_counted from to (byte ∷ bytes) (next, first, rest) n is =
    let one : (n % 2 ^ 64 + 1) % 2 ^ 64 ≡ (n + 1) % 2 ^ 64 = omega arith in
    let more : n + 1 + length bytes ≡ n + suc (length bytes) = omega arith in
    took_counted next to bytes rest (n + 1) (first ∙ ap (λ k. (k + 1) % 2 ^ 64) is ∙ one) ∙ ap (λ k. k % 2 ^ 64) more

-- ---- rows in bytes

abbrev row_at : ℕ → List ℕ → ℕ → List Bool
row_at width bytes k = pixels_of width (slice_range bytes (k * bytes_of_row width) (k * bytes_of_row width + bytes_of_row width))

pub packed_rows_more : (width : ℕ) (bytes : List ℕ) (k : ℕ) → packed_rows width bytes (k + 1) ≡ packed_rows width bytes k ++ row_at width bytes k ∷ []
packed_rows_more width bytes k =
    let on : k + 1 ≡ suc k = omega arith in
    let at : 0 + k ≡ k = omega arith in
    ap (λ n. map (row_at width bytes) (numbers_from 0 n)) on
    ∙ ap (map (row_at width bytes)) (numbers_from_last 0 k)
    ∙ map-append (row_at width bytes) (numbers_from 0 k) ((0 + k) ∷ [])
    ∙ ap (λ j. map (row_at width bytes) (numbers_from 0 k) ++ row_at width bytes j ∷ []) at

pub length-packed_rows : (width : ℕ) (bytes : List ℕ) (k : ℕ) → length (packed_rows width bytes k) ≡ k
length-packed_rows width bytes k = simp length-map (many_numbers 0 k)

-- ---- a row more

module _ {part : List (List Bool)} {before : Held} {trial : Trial} (shape : Shape) (most : ℕ) (carry : StripeStart) (offset : ℕ) (row : List Bool) (window : Held) (trial' : Trial)
    (below : IsBelow row before window) (h : IsTried (trial_of (shape_mode shape) most carry offset) part shape.width trial before) where
  abbrev mode : Mode
  mode = shape_mode shape

  abbrev move : Option (ℕ × ℕ)
  move = named_move offset carry.offset

  abbrev b : RowStart
  b = after_rows mode move 0 (first_row_start carry) part

  abbrev next : RowStart
  next = after_row mode move (length part) b row (next_flag mode b row)

  abbrev line : Lines
  line = lines_with b row

  next_is : after_rows mode move 0 (first_row_start carry) (part ++ row ∷ []) ≡ next
  next_is =
      let at : 0 + length part ≡ length part = omega arith in
      after_more mode move 0 (first_row_start carry) part (row ∷ []) ∙ ap (λ n. after_row mode move n b row (next_flag mode b row)) at

  pub lines_are : HasLines window line
  lines_are = below (record { row = b.above; above = b.second; second = h.is_held.third }) h.is_held.lines_are

  state_is : after (record { place = b.state.place; learned = trial.learned }) (canonical_events shape trial.kept line) ≡ next.state
  state_is =
      rw (h.is_held.learned_is, h.is_held.offset_is, h.is_held.previous_is)

  many : length (part ++ row ∷ []) ≡ suc (length part)
  many = omega (arith, length-append part (row ∷ []))

  plain_more : plain_down (trial_of mode most carry offset) (part ++ row ∷ []) ≡ plain_down (trial_of mode most carry offset) part ++ cond (not (may_be_typical mode line)) (line ∷ []) []
  plain_more =
      rw (lines_more mode move 0 (first_row_start carry) part row) (filter-append (λ l. not (may_be_typical mode l)) (lines_down carry.above carry.second part) (line ∷ []))

  few_plain : length part < 2 ^ 32 - 1 → length (plain_down (trial_of mode most carry offset) part) < 2 ^ 32 - 1
  few_plain few =
      let all = count_by-le-length (λ l. not (may_be_typical mode l)) (lines_down carry.above carry.second part) in
      omega (arith, length-filter (λ l. not (may_be_typical mode l)) (lines_down carry.above carry.second part), length-lines_down carry.above carry.second part)

  counted_more : {flag : Bool} → length part < 2 ^ 32 - 1 → (may_be_typical mode line ≡ true → trial'.tally ≡ trial.tally) →
      (may_be_typical mode line ≡ false → (lines : List Lines) → length lines < 2 ^ 32 - 1 → CountsLines trial.tally shape.width 0 lines →
      CountsLines trial'.tally shape.width 0 (lines ++ line ∷ [])) →
      CountsLines trial.tally shape.width 0 (plain_down (trial_of mode most carry offset) part) → may_be_typical mode line ≡ flag →
      CountsLines trial'.tally shape.width 0 (plain_down (trial_of mode most carry offset) (part ++ row ∷ []))
  counted_more {flag = true} few typical plain was is =
      rw (plain_more, is, append-nil, typical) was
  counted_more {flag = false} few typical plain was is =
      rw (plain_more, is) (plain is (plain_down (trial_of mode most carry offset) part) (few_plain few) was)

  pub row_tried : length part < 2 ^ 32 - 1 → trial'.is_counted ≡ trial.is_counted
      → RowCoded (sink_at counts trial.sink h.pushed) (row_task shape trial.kept (record { place = b.state.place; learned = trial.learned }) line) trial'.kept
      (encoder_state trial'.sink trial'.encoder trial'.learned)
      → (trial'.kept.previous_typical ≡ true → trial'.tally ≡ trial.tally)
      → (trial.is_counted ≡ true → trial'.kept.previous_typical ≡ false → (lines : List Lines) → length lines < 2 ^ 32 - 1 → CountsLines trial.tally shape.width 0 lines →
      CountsLines trial'.tally shape.width 0 (lines ++ line ∷ []))
      → is_two_line trial'.tally ≡ is_two_line trial.tally → most_of trial'.tally ≡ most_of trial.tally
      → IsTried (trial_of mode most carry offset) (part ++ row ∷ []) shape.width trial' window
  row_tried few same coded typical plain two_line most_is = record {
    pushed = h.pushed ++ coded.encodes.more;
    codes = rw (next_is, ← state_is) coded.encodes.codes;
    bytes = rw (took_counted trial.sink trial'.sink coded.encodes.more coded.encodes.taken (length h.pushed) h.bytes, ← length-append h.pushed coded.encodes.more);
    is_held = rw (many, next_is) (record {
      at_top = h.is_held.at_top;
      offset_is = coded.offset_is ∙ h.is_held.offset_is ∙ moved_before move (length part) h.is_held.at_top;
      previous_is = coded.flag_is;
      learned_is = coded.encodes.taught ∙ ap (λ n. n.learned) state_is;
      third = b.second;
      lines_are = lines_are;
    });
    two_line = two_line ∙ h.two_line;
    most_is = most_is ∙ h.most_is;
    counts = λ is. counted_more few (λ flag. typical (coded.flag_is ∙ flag)) (λ flag. plain (sym same ∙ is) (coded.flag_is ∙ flag)) (h.counts (sym same ∙ is)) refl;
  }

-- ---- the end of the code

pub code_counted : {t : TrialOf} {part : List (List Bool)} {width : ℕ} {trial : Trial} {window : Held} {to : ByteCount} {r : Result (Unit {0}) CoderFault} (laws : WritingLaws)
    (h : IsTried t part width trial window) → OnErr r (◌≡◌ {A = ℕ} 0 (one_more 0)) → Finish (sink_at counts trial.sink h.pushed) (tried_to t part).state.place to r →
    to.bytes ≡ length (tried_code t part) % 2 ^ 64
code_counted {t} {part} {trial} {to} {r} laws h never f =
    rw (
      took_counted trial.sink to f.more (sure r never f.writes.ok) (length h.pushed) h.bytes,
      ← length-append h.pushed f.more,
      f.all,
      (laws.one_code (tried_to t part).state.place (rows_place laws t.mode (named_move t.offset t.carry.offset) 0 (first_row_start t.carry) part laws.start_is_place)).only f.code f.is,
    )
