-- The bytes of a row, decoded one after another.
use Rattle.std.proofs.Common.{◌≡◌, ◌≢◌, ℕ, ◌+◌, ◌-◌, ◌*◌, ◌/◌, ◌%◌, ◌^◌, ◌<◌, ◌≤◌, Bool, true, inl, inr, List, ◌++◌, length, sym, ◌∙◌, arith, get_or-set_other, get_or-set_same, refl}
use Rattle.std.specs.Prelude.{slice_index, slice_set, min}
use Rattle.std.specs.Int.{div_ceil}
use Rattle.std.proofs.lemmas.Bool.{cases_lt}
use Rattle.std.proofs.lemmas.List.{length-append}
use Rattle.qm_core.specs.declared.source.Pulled.{Pulled}
use Rattle.qm_core.specs.Source.{SourceAt}
use Rattle.qm_core.specs.Decoder.{DecoderState}
use Rattle.raster_core.specs.Packed.{packed_row}
use Rattle.raster_core.specs.Machine.Registers.{before, past_bits}
use Rattle.raster_core.specs.declared.place.Pause.{Pause}
use Rattle.raster_core.specs.declared.place.RowPlace.{RowPlace}
use Rattle.raster_core.specs.Machine.Decoded.{RowAround, RowPart, BytesAt, PlainRow, PixelsHeld, FromPixels, Along, StopsAlong, BytesAlong, ByteEnds, RowAlong, RowStops, byte_around, next_around, bytes_at}
use Rattle.raster_core.proofs.ContextsLookBack.{before_front}
use Rattle.raster_core.proofs.RegistersTakeBytes.{packed_byte, packed_is, byte_in, byte_out}

-- a register takes the next byte of its row in
pub register_in : {bytes : List ℕ} {register : ℕ} (row : List Bool) (i : ℕ) → bytes ≡ packed_row row → register ≡ before row (8 * i + 8) 24 →
    register % 65536 * 256 + slice_index bytes (i + 1) ≡ before row (8 * (i + 1) + 8) 24
register_in {bytes} row i h r =
    let e : slice_index bytes (i + 1) ≡ before row (8 * (i + 1) + 8) 8 = rw h (packed_byte row (i + 1)) in
    rw e (byte_in row i r)

set_bytes : (current : List ℕ) (byte i : ℕ) (done : List Bool) → i < length current → byte ≡ before done (8 * i + 8) 8 →
    ((k : ℕ) → k < i → slice_index current k ≡ before done (8 * k + 8) 8) → (k : ℕ) → k < i + 1 → slice_index (slice_set current i byte) k ≡ before done (8 * k + 8) 8
set_bytes current byte i done h is each k l =
    elim (cases_lt k i) [
      | inl below ↦ let ne : k ≢ i = omega arith in get_or-set_other current i k byte 0 ne ∙ each k below
      | inr here ↦
          let e : i ≡ k = omega arith in
          rw (← e) (get_or-set_same current i byte 0 h ∙ is)
    ]

pub bytes_next : {S : Type 0} {pull : S → Pulled → S → Type 0} {a : RowAround} {part : RowPart S} {width n byte past' : ℕ} {b : BytesAt} {mid to : DecoderState S} →
    b.left ≡ width - 8 * b.i → 8 * b.i < width → b.i < length b.current → n ≡ min b.left 8 → byte ≡ past' % 256 * 2 ^ (8 - n) % 256 →
    BytesAlong pull a part width b mid → Along pull (next_around a b) mid n past' to →
    BytesAlong pull a part width (bytes_at (b.left - n) (b.i + 1) (next_around a b).second (next_around a b).above past' (slice_set b.current b.i byte)) to
bytes_next {a = a} {n = n} {byte} {b = b} left_is inside within n_is byte_is along byte_along = record {
  any = λ from first s answers lines done₀ had so_far a_is s_is.
      let f = along.any _ _ _ _ _ _ had so_far a_is s_is in
      let r2 = register_in lines.second b.i s_is f.second_is in
      let r1 = register_in lines.above b.i a_is f.above_is in
      let rest = f.rest in
      let there : 8 * (b.i + 1) + 8 ≡ length f.done + 16 = omega arith in
      let m = byte_along.any _ _ _ _ _ _ f.so_far (rw there at r2) (rw there at r1) in
      let count = m.count in
      let long = length-append f.done m.pixels in
      let here : byte ≡ before (f.done ++ m.pixels) (8 * b.i + 8) 8 = byte_is ∙ byte_out (f.done ++ m.pixels) a.offset b.i n m.so_far.past_is (omega arith) (omega arith) in
      record {
        done = f.done ++ m.pixels;
        rest = omega arith;
        so_far = m.so_far;
        bytes = set_bytes b.current byte b.i (f.done ++ m.pixels) within here
            (λ k h. f.bytes k h ∙ sym (before_front f.done m.pixels (8 * k + 8) 8 (omega arith)));
        second_is = r2;
        above_is = r1;
      };
}

pub bytes_stop : {S : Type 0} {pull : S → Pulled → S → Type 0} {a : RowAround} {part : RowPart S} {width : ℕ} {b : BytesAt} {mid to : DecoderState S} {pause : Pause} {place : RowPlace} (n : ℕ) →
    b.left ≡ width - 8 * b.i → 8 * b.i < width → n ≡ min b.left 8 → place.is_begun ≡ true → place.done ≡ 8 * b.i + pause.count → place.past ≡ pause.past →
    BytesAlong pull a part width b mid → StopsAlong pull (next_around a b) mid n pause to →
    RowStops pull a part width (record { place = place; current = b.current; state = to })
bytes_stop {a = a} {b = b} n left_is inside n_is begun_is done_is past_is along stops = record {
  any = λ from first s answers lines done₀ had so_far a_is s_is.
      let f = along.any _ _ _ _ _ _ had so_far a_is s_is in
      let r2 = register_in lines.second b.i s_is f.second_is in
      let r1 = register_in lines.above b.i a_is f.above_is in
      let rest = f.rest in
      let there : 8 * (b.i + 1) + 8 ≡ length f.done + 16 = omega arith in
      let m = stops.any _ _ _ _ _ _ f.so_far (rw there at r2) (rw there at r1) in
      let few = m.few in
      let many = m.many in
      let long = length-append f.done m.pixels in
      record {
        begun = begun_is;
        done = f.done ++ m.pixels;
        few = omega arith;
        held = record {
          count = omega arith;
          past_is = past_is ∙ m.past_is;
          bytes = λ k h. f.bytes k (omega arith) ∙ sym (before_front f.done m.pixels (8 * k + 8) 8 (omega arith));
        };
        more = m.more;
        stops = m.stops;
      };
}

-- the registers of the rows above at the pixel where a row goes on
pub record AreRound (a : RowAround) (place : RowPlace) (second above : ℕ) : Type 0 where
  pub second_is : (row : List Bool) → a.second ≡ packed_row row → second ≡ before row (place.done + 16) 24
  pub above_is : (row : List Bool) → a.above ≡ packed_row row → above ≡ before row (place.done + 16) 24

-- the rest of a byte was decoded, from pixel x on
pub byte_ended : {S : Type 0} {pull : S → Pulled → S → Type 0} {a : RowAround} {part : RowPart S} {second above n byte past' : ℕ} {place : RowPlace} {to : DecoderState S} →
    AreRound a part.place second above →
    1 ≤ part.place.done % 8 → n ≤ 8 - part.place.done % 8 → part.place.done / 8 < length part.current →
    byte ≡ past' % 256 * 2 ^ ((8 - part.place.done % 8) - n) % 256 → place.done ≡ part.place.done + n → place.past ≡ past' →
    Along pull (byte_around a.mode a.offset second above part.place.past) part.state n past' to →
    ByteEnds pull a part (record { place = place; current = slice_set part.current (part.place.done / 8) byte; state = to })
byte_ended {a = a} {part} {n = n} {byte} round begun few inside byte_is done_is past_is along = record {
  any = λ from first s answers lines done had so_far a_is s_is.
      let count = had.count in
      let x = part.place.done in
      let m = along.any _ _ _ _ _ _ so_far (rw (← count) (round.second_is lines.second s_is)) (rw (← count) (round.above_is lines.above a_is)) in
      let long = length-append done m.pixels in
      let many = m.count in
      let i : ℕ = x / 8 in
      let shift : (8 - x % 8) - n ≡ 8 - (x % 8 + n) = omega arith in
      let here : byte ≡ before (done ++ m.pixels) (8 * i + 8) 8 =
      rw (byte_is, shift) (byte_out (done ++ m.pixels) a.offset i (x % 8 + n) m.so_far.past_is (omega arith) (omega arith)) in
      record {
        done = done ++ m.pixels;
        count = omega arith;
        bytes = λ k h.
            set_bytes part.current byte i (done ++ m.pixels) inside here
            (λ j l. had.bytes j (omega arith) ∙ sym (before_front done m.pixels (8 * j + 8) 8 (omega arith))) k (omega arith);
        so_far = rw past_is m.so_far;
      };
}

-- the source stopped in it
pub byte_stopped : {S : Type 0} {pull : S → Pulled → S → Type 0} {a : RowAround} {part : RowPart S} {second above n width : ℕ} {pause : Pause} {place : RowPlace} {to : DecoderState S} →
    AreRound a part.place second above →
    n ≤ 8 - part.place.done % 8 → part.place.done + n ≤ width → place.is_begun ≡ true → place.done ≡ part.place.done + pause.count → place.past ≡ pause.past →
    StopsAlong pull (byte_around a.mode a.offset second above part.place.past) part.state n pause to →
    RowStops pull a part width (record { place = place; current = part.current; state = to })
byte_stopped round few within begun_is done_is past_is stops = record {
  any = λ from first s answers lines done had so_far a_is s_is.
      let count = had.count in
      let m = stops.any _ _ _ _ _ _ so_far (rw (← count) (round.second_is lines.second s_is)) (rw (← count) (round.above_is lines.above a_is)) in
      let long = length-append done m.pixels in
      let many = m.many in
      let less = m.few in
      record {
        begun = begun_is;
        done = done ++ m.pixels;
        few = omega arith;
        held = record {
          count = omega arith;
          past_is = past_is ∙ m.past_is;
          bytes = λ k h. had.bytes k (omega arith) ∙ sym (before_front done m.pixels (8 * k + 8) 8 (omega arith));
        };
        more = m.more;
        stops = m.stops;
      };
}

-- a row that ended with a byte, or with its last pixel
pub ended_row : {S : Type 0} {pull : S → Pulled → S → Type 0} {a : RowAround} {part part' : RowPart S} {width : ℕ} → part'.place.done ≡ width → length part'.current ≡ div_ceil width 8 →
    ByteEnds pull a part part' → RowAlong pull a part width part'.current part'.state
ended_row {part' = part'} all long ends = record {
  any = λ from first s answers lines done had so_far a_is s_is.
      let e = ends.any _ _ _ _ _ _ had so_far a_is s_is in
      let wide = sym e.count ∙ all in
      record {
        row = e.done;
        wide = wide;
        packed = packed_is e.done part'.current (rw (long, ← wide) refl) (λ k h. e.bytes k (omega arith));
        more = e.so_far.more;
        decodes = e.so_far.decodes;
      };
}

ended_held : (offset : ℕ) (place : RowPlace) (current : List ℕ) (done : List Bool) → place.done ≡ length done → place.past ≡ before done (length done) (past_bits offset) →
    ((k : ℕ) → k < div_ceil (length done) 8 → slice_index current k ≡ before done (8 * k + 8) 8) → PixelsHeld offset place current done
ended_held offset place current done count past bytes = record { count = count; past_is = past; bytes = λ k h. bytes k (omega arith) }

-- and then the bytes after it
pub then_row : {S : Type 0} {pull : S → Pulled → S → Type 0} {a : RowAround} {part part' : RowPart S} {Leaves : SourceAt S → PlainRow → Type 0} →
    ByteEnds pull a part part' → FromPixels pull a part' Leaves → FromPixels pull a part Leaves
then_row {a = a} {part' = part'} ends then = record {
  any = λ from first s answers lines done had so_far a_is s_is.
      let e = ends.any _ _ _ _ _ _ had so_far a_is s_is in
      then.any from first s answers lines e.done (ended_held a.offset part'.place part'.current e.done e.count e.so_far.past_is e.bytes) e.so_far a_is s_is;
}

pub bytes_all : {S : Type 0} {pull : S → Pulled → S → Type 0} {a : RowAround} {part : RowPart S} {width : ℕ} {b : BytesAt} {to : DecoderState S} →
    b.left ≡ width - 8 * b.i → length b.current ≡ div_ceil width 8 → length b.current ≤ b.i →
    BytesAlong pull a part width b to → RowAlong pull a part width b.current to
bytes_all {width = width} {b} left_is long all along = record {
  any = λ from first s answers lines done₀ had so_far a_is s_is.
      let f = along.any _ _ _ _ _ _ had so_far a_is s_is in
      let rest = f.rest in
      let none : b.left ≡ 0 = omega arith in
      let wide : length f.done ≡ width = omega arith in
      record {
        row = f.done;
        wide = wide;
        packed = packed_is f.done b.current (rw (long, ← wide) refl) (λ k h. f.bytes k (omega arith));
        more = f.so_far.more;
        decodes = f.so_far.decodes;
      };
}

pub wrap : (x : ℕ) → x % 4294967296 % 256 ≡ x % 256
wrap x = omega arith

-- a whole byte is not shifted
pub whole : (x : ℕ) → x % 256 ≡ x % 256 * 2 ^ (8 - 8) % 256
whole x = omega arith
