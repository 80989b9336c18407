-- A decoder's rows of a stripe, one after another, up to the stripe's end or a fault.
use Rattle.std.proofs.Common.{◌≡◌, ℕ, ◌+◌, ◌≤◌, inl, inr, Bool, List, [], ◌∷◌, ◌++◌, length, refl, sym, ◌∙◌, ap, subst, arith, length-append}
use Rattle.qm_core.specs.Place.{Estimate, IsPlace}
use Rattle.qm_core.specs.Code.{IsBytes}
use Rattle.qm_core.specs.Source.{bytes_of, heard_of, Agrees}
use Rattle.qm_core.specs.Decoder.{DecoderIsAt}
use Rattle.qm_core.specs.declared.source.Pulled.{Pulled}
use Rattle.qm_core.specs.declared.source.Pulled.TheVariants.{Byte, End, Fault}
use Rattle.qm_core.specs.declared.source.Heard.TheVariants.{More, Ended, Stopped}
use Rattle.qm_core.specs.declared.decoder.Decoder.{Decoder}
use Rattle.raster_core.specs.Lines.{Lines}
use Rattle.raster_core.specs.Enough.{AreEnough}
use Rattle.raster_core.specs.Packed.{Held}
use Rattle.raster_core.specs.Row.{RowIs, IsRowUndecided, row_task, row_left}
use Rattle.raster_core.specs.declared.shape.Shape.{Shape}
use Rattle.raster_core.specs.declared.shape.Kept.{Kept}
use Rattle.t85_core.specs.Header.{Fields}
use Rattle.t85_core.specs.Grammar.{Segment, IsBegun}
use Rattle.t85_core.specs.Coding.{mode_of, move_of, flagged}
use Rattle.t85_core.specs.States.State.{RowStart, StripeStart, first_row_start, after_row, next_stripe_start, Run, StripeRun, row_coding, stripe_coding}
use Rattle.t85_core.specs.States.Cut.{events_with, RowsSoFar, open_stripe}
use Rattle.t85_core.specs.Private.Cut.{NoneDecided, BegunRun, IsReady}
use Rattle.t85_core.specs.Private.CoderLaws.{CoderLaws}
use Rattle.t85_core.proofs.StreamsDenote.CodesDecideStripes.{start_IsPlace}
use Rattle.t85_core.proofs.BodiesDecode.RunsGrow.{run_push, run_enough_more, run_enough_push, run_place, row_next, row_enough, undecided_alike}

-- ---- answers one after another

pub bytes_append : (xs ys : List Pulled) → bytes_of (xs ++ ys) ≡ bytes_of xs ++ bytes_of ys
bytes_append [] ys = refl
bytes_append (Byte b ∷ xs) ys = ap (λ z. b ∷ z) (bytes_append xs ys)
bytes_append (End ∷ xs) ys = bytes_append xs ys
bytes_append (Fault ∷ xs) ys = bytes_append xs ys

pub went_on : (xs ys : List Pulled) → heard_of (xs ++ ys) ≡ More → heard_of xs ≡ More
went_on [] ys h = refl
went_on (Byte b ∷ xs) ys h = went_on xs ys h
went_on xs ys h = absurd (let bot : ⊥ = cc in bot)

pub not_ended : (xs ys : List Pulled) → heard_of (xs ++ ys) ≡ Stopped → heard_of xs ≡ Ended → ⊥
not_ended (Byte b ∷ xs) ys h e = not_ended xs ys h e
not_ended xs ys h e = cc

-- a source that stops now went on before, unless it had stopped before
pub was_going : (xs ys : List Pulled) → heard_of (xs ++ ys) ≡ Stopped → (heard_of xs ≡ Stopped → ⊥) → heard_of xs ≡ More
was_going [] ys h n = refl
was_going (Byte b ∷ xs) ys h n = was_going xs ys h n
was_going (End ∷ xs) ys h n = absurd (let bot : ⊥ = cc in bot)
was_going (Fault ∷ xs) ys h n = absurd (n refl)

more_bytes : (xs ys : List Pulled) → length (bytes_of xs) ≤ length (bytes_of (xs ++ ys))
more_bytes xs ys = let e : length (bytes_of (xs ++ ys)) ≡ length (bytes_of xs) + length (bytes_of ys) = ap length (bytes_append xs ys) ∙ length-append (bytes_of xs) (bytes_of ys) in omega (arith, e)

bytes_right : (xs ys : List ℕ) → IsBytes (xs ++ ys) → IsBytes ys
bytes_right [] ys h = h
bytes_right (x ∷ xs) ys h = bytes_right xs ys h.1

-- ---- rows

pub rows_none : (h : Fields) (c : StripeStart) (segments : List Segment) (answers : List Pulled) → RowsSoFar (open_stripe h c segments) answers [] [] (first_row_start c)
rows_none h c segments answers = record { run = refl; enough = λ _. tt }

module _ (h : Fields) (c : StripeStart) (segments : List Segment) (answers : List Pulled) (rows : List (List Bool)) (flags : List Bool) (last : RowStart)
    (so_far : RowsSoFar (open_stripe h c segments) answers rows flags last) where
  zero_rows : 0 + length rows ≡ length rows
  zero_rows = omega arith

  module _ (shape : Shape) (kept kept' : Kept) (lines : Lines) (window : Held) (learned : List Estimate) (d : Decoder) (more : List Pulled)
      (ready : IsReady (stripe_coding h segments) shape kept lines (length rows) last) where
    -- a row more
    pub rows_step : (k : RowIs (row_task shape kept last.state lines) (answers ++ more) (row_left kept' window) learned d) →
        RowsSoFar (open_stripe h c segments) (answers ++ more) (rows ++ k.row ∷ []) (flags ++ k.flag ∷ []) (after_row (mode_of h.options) (move_of segments) (length rows) last k.row k.flag)
    rows_step k = record {
      run = subst (λ z. Run (stripe_coding h segments) 0 (first_row_start c) (rows ++ k.row ∷ []) (flags ++ k.flag ∷ [])
          (after_row (mode_of h.options) (move_of segments) z last k.row k.flag)) zero_rows
          (run_push (stripe_coding h segments) 0 (first_row_start c) rows flags last k.row k.flag so_far.run
          (row_next shape kept last.state lines (mode_of h.options) (move_of segments) (length rows) last ready.mode_is ready.offset_is ready.previous_is ready.above_is ready.second_is refl kept'
          (answers ++ more) window learned d k h.xd ready.width_is));
      enough = λ going.
          run_enough_push (length (bytes_of (answers ++ more))) (stripe_coding h segments) 0 (first_row_start c) rows flags last k.row k.flag so_far.run
          (run_enough_more (length (bytes_of answers)) (length (bytes_of (answers ++ more))) (stripe_coding h segments) 0 (first_row_start c) rows flags (more_bytes answers more)
          (so_far.enough (went_on answers more going)))
          (subst (λ z. AreEnough (length (bytes_of (answers ++ more))) last.state (events_with (mode_of h.options) (move_of segments) z last k.row k.flag)) (sym zero_rows)
          (row_enough shape kept last.state lines (mode_of h.options) (move_of segments) (length rows) last ready.mode_is ready.offset_is ready.previous_is ready.above_is ready.second_is refl kept'
          (answers ++ more) window learned d k going));
    }

    -- what is kept after it
    pub kept_step : (k : RowIs (row_task shape kept last.state lines) (answers ++ more) (row_left kept' window) learned d) →
        (kept'.offset ≡ (after_row (mode_of h.options) (move_of segments) (length rows) last k.row k.flag).offset) × (kept'.previous_typical ≡ k.flag)
    kept_step k = (k.offset_is ∙ ready.offset_is, k.flag_is)

    -- the code breaks in the next row
    pub rows_stop : CoderLaws → (count : ℕ) (d' : Decoder) → length rows ≤ count → DecoderIsAt d' last.state.place answers → heard_of (answers ++ more) ≡ Stopped →
        IsBytes (bytes_of (answers ++ more)) →
        (IsPlace last.state.place → IsRowUndecided shape kept last.state (answers ++ more) lines) → (heard_of answers ≡ Stopped → ⊥) →
        BegunRun (open_stripe h c segments) count (bytes_of (answers ++ more)) rows flags
    rows_stop q count d' few stands stopped bytes undecided unstopped = record {
      last = last;
      run = so_far.run;
      few = few;
      lies = q.answers_lie d' last.state.place answers (bytes_of (answers ++ more)) stands (record {
        rest = bytes_of more;
        is = bytes_append answers more;
        bytes = bytes_right (bytes_of answers) (bytes_of more) (subst IsBytes (bytes_append answers more) bytes);
        ended = λ e. absurd (not_ended answers more stopped e);
      });
      enough = run_enough_more (length (bytes_of answers)) (length (bytes_of (answers ++ more))) (stripe_coding h segments) 0 (first_row_start c) rows flags (more_bytes answers more)
          (so_far.enough (was_going answers more stopped unstopped));
      ends = inr (subst (λ w. NoneDecided (row_coding w (mode_of h.options) (move_of segments)) (length rows) last (bytes_of (answers ++ more))) ready.width_is
          (undecided_alike shape kept last.state lines (mode_of h.options) (move_of segments) (length rows) last ready.mode_is ready.offset_is ready.previous_is ready.above_is ready.second_is refl
          (answers ++ more)
          (undecided (run_place q (stripe_coding h segments) 0 (first_row_start c) rows flags last start_IsPlace so_far.run))));
    }

  -- the stripe's rows are all there, and what is left of its code came too
  pub rows_whole : CoderLaws → (count : ℕ) (code : List ℕ) (reset : Bool) (d : Decoder) → length rows ≡ count → IsBegun h segments code → DecoderIsAt d last.state.place answers → Agrees answers code →
      StripeRun h count c (record { segments = segments; code = code; reset = reset }) (flagged rows flags) (next_stripe_start h.xd reset last)
  rows_whole q count code reset d many whole stands agrees = record {
    whole = whole;
    last = last;
    run = so_far.run;
    many = many;
    lies = q.answers_lie d last.state.place answers code stands agrees;
    next_is = refl;
  }

  -- the stripe's rows are all there, and its code breaks after them
  pub rows_full : CoderLaws → (count : ℕ) (rest : List ℕ) (d : Decoder) → length rows ≡ count → DecoderIsAt d last.state.place answers → heard_of answers ≡ More → IsBytes rest →
      BegunRun (open_stripe h c segments) count (bytes_of answers ++ rest) rows flags
  rows_full q count rest d many stands going bytes = record {
    last = last;
    run = so_far.run;
    few = omega (arith, many);
    lies = q.answers_lie d last.state.place answers (bytes_of answers ++ rest) stands (record { rest = rest; is = refl; bytes = bytes; ended = λ e. absurd (both going e) });
    enough = run_enough_more (length (bytes_of answers)) (length (bytes_of answers ++ rest)) (stripe_coding h segments) 0 (first_row_start c) rows flags
        (let e = length-append (bytes_of answers) rest in omega (arith, e)) (so_far.enough going);
    ends = inl many;
  } where
    both : heard_of answers ≡ More → heard_of answers ≡ Ended → ⊥
    both a b = cc
