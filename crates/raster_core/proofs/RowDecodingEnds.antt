-- The ends of decoding a row, or a part of it.
use Rattle.std.proofs.Common.{◌≡◌, ℕ, ◌≤◌, Bool, true, false, List, [], ◌∷◌, ◌++◌, length, refl, sym, ◌∙◌, arith, subst, Ok, Err}
use Rattle.std.specs.Prelude.{Result, IsErr, IsTrue, ◌↔◌}
use Rattle.std.proofs.lemmas.List.{append-nil}
use Rattle.qm_core.specs.Place.{Place, Estimate}
use Rattle.qm_core.specs.Source.{SourceAt, before_fault}
use Rattle.qm_core.specs.Decoder.{DecoderIsAt, DecoderState, has_stopped, decoder_state}
use Rattle.qm_core.specs.declared.source.Pulled.{Pulled}
use Rattle.qm_core.specs.declared.decoder.Decoder.{Decoder}
use Rattle.qm_core.specs.declared.decoder.Stop.{Stop}
use Rattle.qm_core.specs.Laws.{PartForever, AnswersLie}
use Rattle.raster_core.specs.Lines.{Lines, Mode, pixel_events, IsLegalFlag}
use Rattle.raster_core.specs.Window.{shape_mode}
use Rattle.raster_core.specs.Packed.{packed_row, Held, HasLines, with_current}
use Rattle.raster_core.specs.Events.{Decodes}
use Rattle.raster_core.specs.Machine.Decoded.{with_row, RowPaused, RowPixels}
use Rattle.raster_core.specs.Row.{RowTask, RowLeft, row_left, task_events, plain_row_of, FirstDecoded, FirstStopped, RowIs, IsRowStart, HasAbove, StandsInRow, RowGoesOn, RowPasses}
use Rattle.raster_core.specs.declared.place.RowPlace.{RowPlace}
use Rattle.raster_core.specs.declared.shape.Kept.{Kept}
use Rattle.raster_core.proofs.AnswersJoin.{bytes_before}
use Rattle.raster_core.proofs.RowsAreEqual.{same_row_self}
use Rattle.raster_core.proofs.RowIsBegun.{both}
use Rattle.raster_core.proofs.RowStaysUndecided.{undecided_first, undecided_row}

-- ---- small facts

not_err : (x : Unit {0}) → IsErr {T = Unit {0}} {E = Stop} (Ok x) → ⊥
not_err x h = cc

-- ---- the rows above

-- they do not depend on the current row
above_too : {w : Held} {current : List ℕ} {lines : Lines} → HasAbove (with_current w current) lines → HasAbove w lines
above_too h = record { above_is = h.above_is; second_is = h.second_is; above_wide = h.above_wide; second_wide = h.second_wide }

pub above_lines : {w : Held} {lines : Lines} → HasLines w lines → HasAbove w lines
above_lines h = record { above_is = h.above_is; second_is = h.second_is; above_wide = h.above_wide; second_wide = h.second_wide }

lines_below : {w : Held} {current : List ℕ} {lines : Lines} (row : List Bool) → HasAbove (with_current w current) lines → w.current ≡ packed_row row → length row ≡ w.width →
    HasLines w (with_row lines row)
lines_below row h packed wide = record { row_is = packed; above_is = h.above_is; second_is = h.second_is; row_wide = wide; above_wide = h.above_wide; second_wide = h.second_wide }

-- ---- the source stopped

pub stop_first : {S : Type 0} {old : SourceAt S} {task : RowTask} {left : RowLeft} {place : RowPlace} {new : DecoderState S} {result : Result (Unit {0}) Stop} →
    IsErr result → HasAbove left.window task.lines → IsRowStart place → FirstStopped old (shape_mode task.shape) task.state new →
    RowGoesOn old task left place new result
stop_first {result = Ok x} err above start f = absurd (not_err x err)
stop_first {task = task} {place = place} {result = Err e} err above start f =
    record {
      decoded = record {
        more = f.more;
        gives = f.stops.gives;
        ok = tt;
        stop = ((λ _. f.stops.stopped), (λ _. err));
        undecided = λ _. undecided_first task f;
        stays = (_, f.stops.stays);
      };
      waits = record { above = above; before_it = λ _. record { start = start; stands = f.stops.stays; taught = f.stops.taught }; in_it = both place.is_begun start.is_begun };
    }

pub stop_pixels : AnswersLie → PartForever → {S : Type 0} {old : SourceAt S} {task : RowTask} {left : RowLeft} {place : RowPlace} {new : DecoderState S} {current : List ℕ} {e : Stop} →
    HasAbove (with_current left.window current) task.lines → RowPaused old (plain_row_of task) task.shape.width (record { place = place; current = left.window.current; state = new }) →
    RowGoesOn old task left place new (Err e)
stop_pixels lie apart {task = task} {place = place} above f =
    record {
      decoded = record {
        more = f.more;
        gives = f.stops.gives;
        ok = tt;
        stop = ((λ _. f.stops.stopped), (λ _. refl));
        undecided = undecided_row lie apart task f;
        stays = (_, f.stops.stays);
      };
      waits = record {
        above = above_too above;
        before_it = λ e. both place.is_begun e f.begun;
        in_it = λ _. record { done = f.done; held = f.held; stands = f.stops.stays; taught = f.stops.taught; enough = f.stops.enough };
      };
    }

-- ---- the row is decoded

-- all events of a row were decoded
row_is : AnswersLie → {S : Type 0} {old : SourceAt S} {task : RowTask} {left : RowLeft} {more : List Pulled} {new : DecoderState S} (row : List Bool) (flag : Bool) →
    length row ≡ task.shape.width → IsLegalFlag (shape_mode task.shape) (with_row task.lines row) flag → HasLines left.window (with_row task.lines row) →
    left.kept.offset ≡ task.kept.offset → left.kept.previous_typical ≡ flag → Decodes old task.state more (task_events task row flag) new →
    RowIs task (old.answers ++ more) left new.learned new.decoder
row_is lie row flag wide legal lines_are offset_is flag_is h =
    record {
      row = row;
      flag = flag;
      wide = wide;
      legal = legal;
      inside = λ c a. lie _ _ _ c h.stands a;
      lines_are = lines_are;
      offset_is = offset_is;
      flag_is = flag_is;
      stands = h.stands;
      taught = h.taught;
      enough = h.enough;
    }

-- a row has events
some_events : (mode : Mode) (lines : Lines) (offset : ℕ) (row : List Bool) → 1 ≤ length row → pixel_events mode (with_row lines row) offset ≡ [] → ⊥
some_events mode lines offset [] h e = omega arith
some_events mode lines offset (b ∷ row) h e = cc

pub done_plain : AnswersLie → {S : Type 0} {old : SourceAt S} {task : RowTask} {left : RowLeft} {place : RowPlace} {new : DecoderState S} {current : List ℕ} →
    1 ≤ task.shape.width → left.kept.offset ≡ task.kept.offset → left.kept.previous_typical ≡ false → left.window.width ≡ task.shape.width → HasAbove (with_current left.window current) task.lines →
    RowPixels old (plain_row_of task) task.shape.width left.window.current new → RowGoesOn old task left place new (Ok tt)
done_plain lie {task = task} some offset_is flag_is width_is above r =
    let wide = r.wide in
    record {
      decoded = record {
        more = r.more;
        gives = r.decodes.gives;
        ok = row_is lie r.row false r.wide (λ e. both false refl e) (lines_below r.row above r.packed (r.wide ∙ sym width_is)) offset_is flag_is r.decodes;
        stop = ((λ e. absurd (not_err tt e)), (λ e. absurd (some_events (shape_mode task.shape) task.lines task.kept.offset r.row (omega arith) (append_none _ _ (r.decodes.going e)))));
        undecided = tt;
        stays = tt;
      };
      waits = tt;
    }
  where
    append_none : {A : Type 0} (xs ys : List A) → xs ++ ys ≡ [] → ys ≡ []
    append_none [] ys e = e
    append_none (x ∷ xs) ys e = cc

pub done_typical : AnswersLie → {S : Type 0} {old : SourceAt S} {task : RowTask} {left : RowLeft} {place : RowPlace} {new : DecoderState S} {current : List ℕ} →
    left.kept.offset ≡ task.kept.offset → left.kept.previous_typical ≡ true → left.window.width ≡ task.shape.width → left.window.current ≡ left.window.above →
    HasAbove (with_current left.window current) task.lines →
    (task.shape.typical ≡ true) × FirstDecoded old (shape_mode task.shape) task.kept.previous_typical true task.state new → RowGoesOn old task left place new (Ok tt)
done_typical lie {old = old} {task} {new = new} offset_is flag_is width_is copied above t =
    let typical = t.0 in
    let f = t.1 in
    record {
      decoded = record {
        more = f.more;
        gives = f.decodes.gives;
        ok = row_is lie task.lines.above true (above.above_wide ∙ width_is) (λ _. rw (typical, same_row_self) refl)
            (lines_below task.lines.above above (copied ∙ above.above_is) above.above_wide) offset_is flag_is
            (subst (λ es. Decodes old task.state f.more es new) (sym (append-nil _)) f.decodes);
        stop = ((λ e. absurd (not_err tt e)), (λ e. let none = rw typical at (f.decodes.going e) in cc));
        undecided = tt;
        stays = tt;
      };
      waits = tt;
    }

-- ---- the source is asked again

-- the same rows before, and the same after
pub same_goes : {S : Type 0} {old : SourceAt S} {task : RowTask} {kept : Kept} {place place' : RowPlace} {answers : List Pulled} {learned : List Estimate} {d : Decoder} {new : DecoderState S}
    {result : Result (Unit {0}) Stop} {v v' w w' : Held} → v ≡ w → v' ≡ w' →
    (StandsInRow task place answers w learned d → RowGoesOn old task (row_left kept w') place' new result) → StandsInRow task place answers v learned d →
    RowGoesOn old task (row_left kept v') place' new result
same_goes e f goes h = rw f (goes (rw e at h))

waits_again : {task : RowTask} {place : RowPlace} {answers : List Pulled} {w : Held} {learned : List Estimate} {d d' : Decoder} →
    ((p : Place) (given : List Pulled) → DecoderIsAt d p given → DecoderIsAt d' p (before_fault given)) →
    StandsInRow task place answers w learned d → StandsInRow task place (before_fault answers) w learned d'
waits_again {answers = answers} again h =
    record {
      above = h.above;
      before_it = λ e. let b = h.before_it e in record { start = b.start; stands = again _ answers b.stands; taught = b.taught };
      in_it = λ e. let i = h.in_it e in record { done = i.done; held = i.held; stands = again _ answers i.stands; taught = i.taught; enough = rw (bytes_before answers i.stands.closed) i.enough };
    }

pub passes : {S : Type 0} {old : SourceAt S} {task : RowTask} {left : RowLeft} {place place' : RowPlace} {new : DecoderState S} {d : Decoder} {result : Result (Unit {0}) Stop} →
    (IsErr result → place' ≡ place) → (has_stopped new.decoder ≡ false → d ≡ new.decoder) → (IsTrue (has_stopped new.decoder) ↔ IsErr result) →
    ((p : Place) (given : List Pulled) → DecoderIsAt new.decoder p given → DecoderIsAt d p (before_fault given)) →
    RowGoesOn old task left place new result → RowPasses old task left place' (decoder_state new.source d new.learned) result
passes {new = new} {result = Ok x} there same stops again h =
    let same_decoder = same (going (has_stopped new.decoder) (λ t. not_err x (stops.0 t))) in
    record {
      more = h.decoded.more;
      gives = h.decoded.gives;
      ok = rw same_decoder h.decoded.ok;
      stop = h.decoded.stop;
      undecided = tt;
      closed = tt;
      waits = tt;
    }
  where
    going : (b : Bool) → (IsTrue b → ⊥) → b ≡ false
    going true none = absurd (none refl)
    going false _ = refl
passes {result = Err e} there same stops again h =
    record {
      more = h.decoded.more;
      gives = h.decoded.gives;
      ok = tt;
      stop = h.decoded.stop;
      undecided = h.decoded.undecided;
      closed = (h.decoded.stays.1.closed, h.decoded.stays.1.bytes);
      waits = rw (there refl) (waits_again again h.waits);
    }
