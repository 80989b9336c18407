-- The pixel before a row.
use mathlib.Core.Bool.{beq}
use Rattle.std.proofs.Common.{◌≡◌, ℕ, Bool, true, false, List, [], ◌++◌, refl, sym, Ok, Err}
use Rattle.std.specs.Prelude.{IsTrue}
use Rattle.qm_core.specs.Place.{Place, State, same, state_of}
use Rattle.qm_core.specs.Decoder.{DecoderIsAt, DecoderState, Next}
use Rattle.qm_core.specs.declared.source.Pulled.{Pulled}
use Rattle.qm_core.specs.declared.decoder.Stop.{Stop}
use Rattle.qm_core.specs.Source.{source_at}
use Rattle.raster_core.specs.Lines.{Mode, pseudo_context}
use Rattle.raster_core.specs.Row.{FirstDecoded, FirstStopped, StandsBeforeRow}
use Rattle.raster_core.specs.declared.place.RowPlace.{RowPlace}
use Rattle.raster_core.proofs.EventsAreDecoded.{decodes_none, decodes_next, decodes_stop}
use Rattle.raster_core.proofs.EventListsJoin.{event_is}

pub is_same : (a b : Bool) → beq b a ≡ same a b
is_same true true = refl
is_same true false = refl
is_same false true = refl
is_same false false = refl

pub same_of : (a b : Bool) → same a (beq b a) ≡ b
same_of true true = refl
same_of true false = refl
same_of false true = refl
same_of false false = refl

pub first_none : {S : Type 0} {pull : S → Pulled → S → Type 0} {mode : Mode} {previous flag : Bool} {s : State} {answers : List Pulled} {place : RowPlace} {new : DecoderState S} →
    mode.typical ≡ false → StandsBeforeRow place s answers new.learned new.decoder → FirstDecoded (source_at pull new.source answers) mode previous flag s new
first_none plain h = record { more = []; decodes = rw plain (decodes_none h.stands h.taught) }

pub first_next : {S : Type 0} {pull : S → Pulled → S → Type 0} {old new : DecoderState S} {mode : Mode} {previous flag : Bool} {p : Place} {answers : List Pulled} {cx : ℕ} {pixel : Bool} →
    mode.typical ≡ true → cx ≡ pseudo_context mode.two_line → same previous flag ≡ pixel →
    ((p : Place) (answers : List Pulled) → DecoderIsAt old.decoder p answers → Next (source_at pull old.source answers) (record { place = p; learned = old.learned }) cx new (Ok pixel)) →
    DecoderIsAt old.decoder p answers → FirstDecoded (source_at pull old.source answers) mode previous flag (state_of p old.learned) new
first_next {p = p} {answers} {cx} {pixel} typical number flag_is next h =
    let z = decodes_none h refl in
    let t = decodes_next z (next p (answers ++ []) z.stands) in
    record {
      more = t.0;
      decodes = rw typical (rw (← event_is cx _ pixel _ number (sym flag_is)) t.1);
    }

pub first_stop : {S : Type 0} {pull : S → Pulled → S → Type 0} {old new : DecoderState S} {mode : Mode} {p : Place} {answers : List Pulled} {cx : ℕ} {fault : Stop} →
    IsTrue mode.typical →
    ((p : Place) (answers : List Pulled) → DecoderIsAt old.decoder p answers → Next (source_at pull old.source answers) (record { place = p; learned = old.learned }) cx new (Err fault)) →
    DecoderIsAt old.decoder p answers → FirstStopped (source_at pull old.source answers) mode (state_of p old.learned) new
first_stop {p = p} {answers} typical next h =
    let z = decodes_none h refl in
    let t = decodes_stop z (next p (answers ++ []) z.stands) in
    record { more = t.0; stops = t.1; typical = typical }
