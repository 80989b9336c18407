-- The pixels of a byte, decoded one after another.
use Rattle.std.proofs.Common.{◌≡◌, ℕ, ◌+◌, ◌-◌, ◌*◌, ◌/◌, ◌%◌, ◌^◌, ◌<◌, Bool, List, [], ◌∷◌, ◌++◌, length, refl, sym, ◌∙◌, arith, subst, append_assoc, Ok, Err}
use Rattle.std.specs.Prelude.{Result, OnErr, IfErr, IfOk, IsErr, IsErrAnd}
use Rattle.std.proofs.lemmas.List.{length-append, append-nil}
use Rattle.qm_core.specs.Place.{Place, after}
use Rattle.qm_core.specs.Decoder.{DecoderIsAt, DecoderState, Next}
use Rattle.qm_core.specs.declared.source.Pulled.{Pulled}
use Rattle.qm_core.specs.declared.decoder.Stop.{Stop}
use Rattle.qm_core.specs.Source.{source_at}
use Rattle.raster_core.specs.Lines.{Lines, context_at, pixel_events}
use Rattle.raster_core.specs.Machine.Registers.{bit, before, past_bits, AreAt}
use Rattle.raster_core.specs.declared.place.Pause.{Pause}
use Rattle.raster_core.specs.Machine.Decoded.{ByteAround, with_row, PixelsSoFar, Along, StopsAlong, plain_row}
use Rattle.raster_core.proofs.EventsAreDecoded.{decodes_next, decodes_stop}
use Rattle.raster_core.proofs.ContextsLookBack.{pixel_events_more, past_next}
use Rattle.raster_core.proofs.ByteHoldsPixels.{at_registers}
use Rattle.raster_core.proofs.EventListsJoin.{event_is}

pub along_none : {S : Type 0} {pull : S → Pulled → S → Type 0} {b : ByteAround} {old : DecoderState S} → Along pull b old 0 b.past old
along_none = record {
  any = λ from first s answers lines done so_far s2 a2. record {
    pixels = [];
    count = refl;
    so_far = rw append-nil so_far;
  };
}

-- the registers at a pixel of the byte
registers_at : {second above past : ℕ} (lines : Lines) (offset n : ℕ) (done pixels : List Bool) → n < 8 → length pixels ≡ n →
    second ≡ before lines.second (length done + 16) 24 → above ≡ before lines.above (length done + 16) 24 → past ≡ before (done ++ pixels) (length (done ++ pixels)) (past_bits offset) →
    AreAt (with_row lines (done ++ pixels)) offset (second / 2 ^ 7 * 2 ^ n) (above / 2 ^ 6 * 2 ^ n) past (length (done ++ pixels))
registers_at lines offset n done pixels h count s a p =
    let long : length done + n ≡ length (done ++ pixels) = rw (← count) (sym (length-append done pixels)) in
    rw (← long) (at_registers {lines = with_row lines (done ++ pixels)} {byte = before (done ++ pixels) (length done + 8) 8} n h (record { second_is = s; above_is = a; byte_is = refl }) (rw long p))

pub along_next : {S : Type 0} {pull : S → Pulled → S → Type 0} {b : ByteAround} {old mid to : DecoderState S} {n past past' cx : ℕ} {pixel : Bool} →
    n < 8 → past' ≡ past % 2 ^ (past_bits b.offset - 1) * 2 + bit pixel →
    ((lines : Lines) (x : ℕ) → AreAt lines b.offset (b.second / 2 ^ 7 * 2 ^ n) (b.above / 2 ^ 6 * 2 ^ n) past x → cx ≡ context_at b.mode lines b.offset x) →
    ((p : Place) (answers : List Pulled) → DecoderIsAt mid.decoder p answers → Next (source_at pull mid.source answers) (record { place = p; learned = mid.learned }) cx to (Ok pixel)) →
    Along pull b old n past mid → Along pull b old (n + 1) past' to
along_next {S} {pull} {b} {to = to} {n} {past' = past'} {cx} {pixel} few past_is context next along = record {
  any = λ from first s answers lines done so_far s2 a2.
      let m = along.any _ _ _ _ _ _ so_far s2 a2 in
      let row = done ++ m.pixels in
      let events = first ++ pixel_events b.mode (with_row lines row) b.offset in
      let at = registers_at lines b.offset n done m.pixels few m.count s2 a2 m.so_far.past_is in
      let t = decodes_next m.so_far.decodes (next (after s events).place (answers ++ m.so_far.more) m.so_far.decodes.stands) in
      let more : pixel_events b.mode (with_row lines (row ++ pixel ∷ [])) b.offset ≡ pixel_events b.mode (with_row lines row) b.offset ++ record { context = cx; pixel = pixel } ∷ [] =
      rw (pixel_events_more, ← event_is cx _ pixel _ (context (with_row lines row) (length row) at) refl) refl in
      let whole : PixelsSoFar (source_at pull from answers) (plain_row b.mode b.offset first s lines) (row ++ pixel ∷ []) past' to = record {
        past_is = past_is ∙ past_next row pixel b.offset m.so_far.past_is;
        more = t.0;
        decodes = rw (more, ← append_assoc) t.1;
      } in
      record {
        pixels = m.pixels ++ pixel ∷ [];
        count = rw (length-append, m.count) refl;
        so_far = rw (← append_assoc) whole;
      };
}

pub along_stop : {S : Type 0} {pull : S → Pulled → S → Type 0} {b : ByteAround} {old mid to : DecoderState S} {n all past cx : ℕ} {fault : Stop} {pause : Pause} →
    n < all → pause.count ≡ n → pause.past ≡ past →
    ((p : Place) (answers : List Pulled) → DecoderIsAt mid.decoder p answers → Next (source_at pull mid.source answers) (record { place = p; learned = mid.learned }) cx to (Err fault)) →
    Along pull b old n past mid → StopsAlong pull b old all pause to
along_stop few count_is past_is next along = record {
  any = λ from first s answers lines done so_far s2 a2.
      let m = along.any _ _ _ _ _ _ so_far s2 a2 in
      let t = decodes_stop m.so_far.decodes (next _ (answers ++ m.so_far.more) m.so_far.decodes.stands) in
      record { few = omega arith; pixels = m.pixels; many = m.count ∙ sym count_is; past_is = past_is ∙ m.so_far.past_is; more = t.0; stops = t.1 };
}

-- a fact of what is left, at an `Err`
pub exit_err : {T E : Type 0} (r : Result T E) (P : Type 0) → P → OnErr r P
exit_err (Ok x) P h = tt
exit_err (Err e) P h = h

no_err : {T : Type 0} (E : Type 0) (x : T) → IsErr {T = T} {E = E} (Ok x) → ⊥
no_err E x h = cc

-- a fact of where it stopped, at an `Err`
pub exit_pair : {T E : Type 0} (r : Result T E) (e : E) (A : T → Type 0) (P : E → Type 0) → IsErr r × IsErrAnd r (λ x. x ≡ e) → P e → IfOk r A × IfErr r P
exit_pair {T} {E} (Ok x) e A P is h = absurd (no_err E x is.0)
exit_pair (Err y) e A P is h = (tt, subst P (sym is.1) h)
