-- No row more came: what was pushed is a beginning of the code of each stripe that begins with the rows before.
use Rattle.std.proofs.Common.{◌≡◌, ℕ, suc, ◌+◌, Bool, List, [], ◌∷◌, ◌++◌, length, refl, sym, ◌∙◌, ap, arith, Option, append_assoc}
use Rattle.qm_core.specs.Place.{Event, State, IsPlace, after, step}
use Rattle.qm_core.specs.Code.{code_of, stuffed}
use Rattle.qm_core.specs.Encoder.{EncoderIsAt, IsStuffedFront}
use Rattle.qm_core.specs.declared.encoder.Encoder.{Encoder}
use Rattle.raster_core.specs.Lines.{Mode, row_events}
use Rattle.t85_core.specs.States.State.{RowStart, StripeStart, first_row_start, offset_at, lines_with, after_row}
use Rattle.t85_core.specs.States.Written.{next_flag, after_rows}
use Rattle.t85_core.specs.Private.Written.{BeginsCode}
use Rattle.t85_core.specs.Private.CoderLaws.{WritingLaws}
use Rattle.t85_core.proofs.ImagesEncode.StripeGrows.{after_more}

-- the events of rows
abbrev pub events_down : Mode → Option (ℕ × ℕ) → ℕ → RowStart → List (List Bool) → List Event
events_down mode move r b [] = []
events_down mode move r b (row ∷ rows) =
    row_events mode (lines_with b row) (offset_at move r b.offset) b.previous (next_flag mode b row) ++ events_down mode move (r + 1) (after_row mode move r b row (next_flag mode b row)) rows

after_append : (s : State) (xs ys : List Event) → after s (xs ++ ys) ≡ after (after s xs) ys
after_append s [] ys = refl
after_append s (x ∷ xs) ys = after_append (step s x.context x.pixel) xs ys

pub state_down : (mode : Mode) (move : Option (ℕ × ℕ)) (r : ℕ) (b : RowStart) (rows : List (List Bool)) →
    (after_rows mode move r b rows).state ≡ after b.state (events_down mode move r b rows)
state_down mode move r b [] = refl
state_down mode move r b (row ∷ rows) =
    let next = after_row mode move r b row (next_flag mode b row) in
    state_down mode move (r + 1) next rows
    ∙ sym (after_append b.state (row_events mode (lines_with b row) (offset_at move r b.offset) b.previous (next_flag mode b row)) (events_down mode move (r + 1) next rows))

-- the events of rows, and of more
events_more : (mode : Mode) (move : Option (ℕ × ℕ)) (r : ℕ) (b : RowStart) (rows more : List (List Bool)) →
    events_down mode move r b (rows ++ more) ≡ events_down mode move r b rows ++ events_down mode move (r + length rows) (after_rows mode move r b rows) more
events_more mode move r b [] more = let at : r ≡ r + 0 = omega arith in ap (λ n. events_down mode move n b more) at
events_more mode move r b (row ∷ rows) more =
    let at : (r + 1) + length rows ≡ r + suc (length rows) = omega arith in
    let next = after_row mode move r b row (next_flag mode b row) in
    let here = row_events mode (lines_with b row) (offset_at move r b.offset) b.previous (next_flag mode b row) in
    ap (λ z. here ++ z) (events_more mode move (r + 1) next rows more ∙ ap (λ n. events_down mode move (r + 1) next rows ++ events_down mode move n (after_rows mode move (r + 1) next rows) more) at)
    ∙ sym (append_assoc here (events_down mode move (r + 1) next rows) (events_down mode move (r + suc (length rows)) (after_rows mode move (r + 1) next rows) more))

module _ (laws : WritingLaws) (mode : Mode) (move : Option (ℕ × ℕ)) where
  pub rows_place : (r : ℕ) (b : RowStart) (rows : List (List Bool)) → IsPlace b.state.place → IsPlace (after_rows mode move r b rows).state.place
  rows_place r b rows is = rw state_down (laws.events_keep_place (events_down mode move r b rows) b.state is)

  -- what was pushed begins each code of rows that go on so
  pub pushed_begins : (c : StripeStart) (rows : List (List Bool)) (count : ℕ) (e : Encoder) (pushed : List ℕ) →
      EncoderIsAt e (after_rows mode move 0 (first_row_start c) rows).state.place pushed →
      BeginsCode mode move c count rows pushed
  pushed_begins c rows count e pushed codes later many =
      let b = after_rows mode move 0 (first_row_start c) rows in
      let last : State = (after_rows mode move 0 (first_row_start c) (rows ++ later)).state in
      let here = rows_place 0 (first_row_start c) rows laws.start_is_place in
      let there = rows_place 0 (first_row_start c) (rows ++ later) laws.start_is_place in
      let front = laws.pushed_is_front e b.state.place pushed codes in
      let goes : after b.state (events_down mode move (0 + length rows) b later) ≡ last =
      sym (ap (λ n. n.state) (after_more mode move 0 (first_row_start c) rows later) ∙ state_down mode move (0 + length rows) b later) in
      let begins = (laws.code_lies_in_all b.state [] (events_down mode move (0 + length rows) b later) (code_of last.place) here
      (rw goes (laws.one_code last.place there).is)).1 front.front front.begins in
      record {
        rest = stuffed begins.0;
        bytes_are = ap stuffed begins.1 ∙ laws.stuffed_append front.front begins.0 ∙ ap (λ z. z ++ stuffed begins.0) (sym front.is);
      }

  -- The bytes pushed for some rows begin each code of rows that continue after them.
  pub fails_begins : (c : StripeStart) (rows more : List (List Bool)) (count : ℕ) (events rest : List Event) (pushed left : List ℕ) →
      events_down mode move (0 + length rows) (after_rows mode move 0 (first_row_start c) rows) more ≡ events ++ rest →
      IsStuffedFront (pushed ++ left) (after (after_rows mode move 0 (first_row_start c) rows).state events).place → BeginsCode mode move c count (rows ++ more) pushed
  fails_begins c rows more count events rest pushed left more_is front later many =
      let b = after_rows mode move 0 (first_row_start c) rows in
      let last : State = (after_rows mode move 0 (first_row_start c) (rows ++ (more ++ later))).state in
      let tail : List Event = events_down mode move ((0 + length rows) + length more) (after_rows mode move (0 + length rows) b more) later in
      let here = rows_place 0 (first_row_start c) rows laws.start_is_place in
      let there = rows_place 0 (first_row_start c) (rows ++ (more ++ later)) laws.start_is_place in
      let all : after b.state (events_down mode move (0 + length rows) b (more ++ later)) ≡ last =
      sym (ap (λ n. n.state) (after_more mode move 0 (first_row_start c) rows (more ++ later)) ∙ state_down mode move (0 + length rows) b (more ++ later)) in
      let parts : events_down mode move (0 + length rows) b (more ++ later) ≡ events ++ (rest ++ tail) =
      events_more mode move (0 + length rows) b more later ∙ ap (λ z. z ++ tail) more_is ∙ append_assoc events rest tail in
      let goes : after (after b.state events) (rest ++ tail) ≡ last = rw (← after_append, ← parts) all in
      let begins = (laws.code_lies_in_all b.state events (rest ++ tail) (code_of last.place) here (rw goes (laws.one_code last.place there).is)).1 front.front front.begins in
      record {
        rest = left ++ stuffed begins.0;
        bytes_are =
            ap (λ z. stuffed (code_of (after_rows mode move 0 (first_row_start c) z).state.place)) (append_assoc rows more later)
            ∙ ap stuffed begins.1 ∙ laws.stuffed_append front.front begins.0 ∙ ap (λ z. z ++ stuffed begins.0) (sym front.is) ∙ append_assoc pushed left (stuffed begins.0);
      }
