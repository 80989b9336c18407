-- A row that is not decoded yet, or only in part.
use Rattle.std.proofs.Common.{◌≡◌, Bool, true, false, List, [], refl, sym, ◌∙◌, arith}
use Rattle.std.specs.Prelude.{not}
use Rattle.std.proofs.lemmas.List.{append-nil}
use Rattle.qm_core.specs.Source.{SourceAt, source_at}
use Rattle.qm_core.specs.Decoder.{DecoderIsAt, DecoderState, has_stopped}
use Rattle.qm_core.specs.declared.source.Pulled.{Pulled}
use Rattle.qm_core.specs.declared.decoder.Decoder.{Decoder}
use Rattle.raster_core.specs.Window.{shape_mode}
use Rattle.raster_core.specs.Packed.{Held}
use Rattle.raster_core.specs.Row.{RowTask, FirstDecoded, IsRowStart, HasAbove, StandsInPixels, StandsInRow, RowBegins}
use Rattle.raster_core.specs.declared.place.RowPlace.{RowPlace}
use Rattle.raster_core.specs.Machine.Registers.{past_bits}
use Rattle.raster_core.proofs.PixelNumbersSplit.{before_none}
use Rattle.raster_core.proofs.RunsAreSkipped.{not_stopped}

pub both : {A : Type 0} (b : Bool) → b ≡ false → b ≡ true → A
both b e f = absurd (let e = sym e ∙ f in let bot : ⊥ = cc in bot)

-- by cases on whether some pixels of a row are decoded
pub by_begun : (b : Bool) (P : Type 0) → (b ≡ true → P) → (b ≡ false → P) → P
by_begun true P yes' no' = yes' refl
by_begun false P yes' no' = no' refl

pub not_true : (b : Bool) → not b ≡ true → b ≡ false
not_true true h = cc
not_true false h = refl

pub not_false : (b : Bool) → not b ≡ false → b ≡ true
not_false true h = refl
not_false false h = cc

-- nothing of a row is decoded yet
pub fresh_row : {task : RowTask} {place : RowPlace} {answers : List Pulled} {w : Held} {d : Decoder} → IsRowStart place → DecoderIsAt d task.state.place answers → HasAbove w task.lines →
    StandsInRow task place answers w task.state.learned d
fresh_row {place = place} start stands above =
    record { above = above; before_it = λ _. record { start = start; stands = stands; taught = refl }; in_it = both place.is_begun start.is_begun }

pub begin_pixels : {S : Type 0} {old : SourceAt S} {task : RowTask} {place : RowPlace} {window : Held} {flag : Bool} {new : DecoderState S} →
    IsRowStart place → (flag ≡ true → task.shape.typical ≡ true) → FirstDecoded old (shape_mode task.shape) task.kept.previous_typical flag task.state new →
    RowBegins old task place window flag new
begin_pixels {task = task} start typical f =
    let past_is = start.past ∙ sym (before_none [] (past_bits task.kept.offset)) in
    record {
      plain = λ e.
          let g = rw e at f in
          ([], record { count = start.done; past_is = past_is; bytes = λ k h. absurd (omega arith) }, record { past_is = past_is; more = g.more; decodes = rw append-nil g.decodes });
      typical = λ e. (typical e, rw e at f);
    }

-- some pixels of a row are decoded
pub begun_pixels : {S : Type 0} {pull : S → Pulled → S → Type 0} {task : RowTask} {place : RowPlace} {answers : List Pulled} {window : Held} {new : DecoderState S} →
    has_stopped new.decoder ≡ false → StandsInPixels task place answers window new.learned new.decoder → RowBegins (source_at pull new.source answers) task place window false new
begun_pixels {answers = answers} going h =
    record {
      plain = λ _. (
        h.done,
        h.held,
        record {
          past_is = h.held.past_is;
          more = [];
          decodes = record {
            gives = refl;
            stands = rw append-nil h.stands;
            taught = h.taught;
            enough = λ _. rw append-nil h.enough;
            going = λ e. absurd (not_stopped _ _ answers h.stands going (rw append-nil at e));
          };
        },
      );
      typical = both false refl;
    }
