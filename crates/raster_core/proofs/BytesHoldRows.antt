-- Rows in bytes: their pixels, the registers along them, and their events.
use Rattle.std.proofs.Common.{◌≡◌, ℕ, zero, suc, ◌+◌, ◌-◌, ◌*◌, ◌/◌, ◌%◌, ◌^◌, ◌<◌, ◌≤◌, Bool, true, false, List, [], ◌∷◌, ◌++◌, length, refl, sym, ◌∙◌, ap, arith, subst, replicate}
use Rattle.std.specs.Prelude.{slice_index, nat_eq, if◌then◌else◌}
use Rattle.std.proofs.Math.Nat.{mod-eq_of_lt}
use Rattle.std.proofs.lemmas.List.{get_or-append-add}
use Rattle.raster_core.specs.Raster.{pixel_at}
use Rattle.raster_core.specs.Lines.{Lines, binary, two_line, three_line}
use Rattle.raster_core.specs.Machine.Registers.{before, past_bits, AreAt, ByteAt}
use Rattle.raster_core.specs.Machine.Bytes.{bits, byte_lines, events_from, byte_events}
use Rattle.raster_core.specs.Machine.Rows.{row_in, lines_in, RemembersOnly, StandsAt, StopsAt, IsByte, AreUniform, PassesRun, byte_range}
use Rattle.raster_core.specs.Machine.Uniform.{uniform_event, AreFilled}
use Rattle.qm_core.specs.declared.sink.CodeSink.{Ghosts}
use Rattle.qm_core.specs.declared.coder.Coder.{Coder}
use Rattle.raster_core.specs.declared.rows.Rows.{Rows}
use Rattle.raster_core.specs.declared.row_byte.Template.{Template}
use Rattle.raster_core.specs.declared.row_byte.Around.{Around}
use Rattle.raster_core.specs.declared.row_byte.RowByte.{RowByte}
use Rattle.raster_core.proofs.PixelNumbersSplit.{before_suc, before_zero}
use Rattle.raster_core.proofs.ContextsLookBack.{before_front}
use Rattle.raster_core.proofs.RegistersGiveContexts.{two_line_nominal, two_line_moved, three_line_nominal, three_line_moved, adaptive_moved}
use Rattle.raster_core.proofs.ByteHoldsPixels.{at_registers, pixel_in, byte_shifted, bit_test, past_on}
use Rattle.raster_core.proofs.EventListsJoin.{context_by, events_none, events_last, events_on}
use Rattle.raster_core.proofs.BytesAreFilled.{AreBehind, filled_join, is_filled, filled_uniform, own_filled, past_filled, register_filled}
use Rattle.raster_core.proofs.ByteHasLines.{bits_before, length-bits, holds, holds_past, pixel_of_byte}
use Rattle.raster_core.proofs.UniformPixelsRun.{uniform_events}
use Rattle.raster_core.proofs.EventsArePut.{puts_as, puts_none}
use Rattle.raster_core.proofs.RegistersTakeBytes.{IsIn, before_white, byte_in, first_byte}

-- ---- the pixels in bytes

before_after : (xs ys : List Bool) (x n : ℕ) → n ≤ x → before (xs ++ ys) (length xs + x) n ≡ before ys x n
before_after xs ys x zero h = before_zero (xs ++ ys) (length xs + x) ∙ sym (before_zero ys x)
before_after xs ys zero (suc n) h = absurd (omega arith)
before_after xs ys (suc x) (suc n) h =
    let e : length xs + suc x ≡ suc (length xs + x) = omega arith in
    let at = get_or-append-add xs ys x false in
    rw (e, before_suc, before_suc, before_after xs ys x n (omega arith), at) refl

row_in_is : (bytes : List ℕ) (k : ℕ) → before (row_in bytes) (8 * k + 8) 8 ≡ slice_index bytes k % 256
unfolding row_in
row_in_is [] k =
    let none : slice_index [] k ≡ 0 = refl in
    rw (before_white [] (8 * k) 8 (omega arith), ← none) refl
row_in_is (b ∷ bytes) zero =
    let long = length-bits 8 b in
    before_front (bits 8 b) (row_in bytes) 8 8 (omega arith) ∙ bits_before 8 8 b (omega arith)
row_in_is (b ∷ bytes) (suc k) =
    let long = length-bits 8 b in
    let e : 8 * suc k + 8 ≡ length (bits 8 b) + (8 * k + 8) = omega arith in
    rw (e, before_after (bits 8 b) (row_in bytes) (8 * k + 8) 8 (omega arith)) (row_in_is bytes k)

pub current_in : (rows : Rows) → IsIn (lines_in rows).row rows.current.now
unfolding lines_in
current_in rows = record { byte = row_in_is rows.current.now }

pub above_in : (rows : Rows) → IsIn (lines_in rows).above rows.above.now
unfolding lines_in
above_in rows = record { byte = row_in_is rows.above.now }

pub second_in : (rows : Rows) → IsIn (lines_in rows).second rows.second.now
unfolding lines_in
second_in rows = record { byte = row_in_is rows.second.now }

-- ---- registers along a row

pub read_byte : {row : List Bool} {bytes : List ℕ} {v : ℕ} (k : ℕ) → IsIn row bytes → v ≡ slice_index bytes k → v < 256 → v ≡ before row (8 * k + 8) 8
read_byte k is at small = sym (mod-eq_of_lt small) ∙ (ap (λ z. z % 256) at ∙ sym (is.byte k))

pub first_read : {row : List Bool} {bytes : List ℕ} {v : ℕ} → IsIn row bytes → v ≡ slice_index bytes 0 → v < 256 → v ≡ before row 8 24
first_read {row} is at small = read_byte 0 is at small ∙ first_byte row

pub next_read : {row : List Bool} {bytes : List ℕ} {register v : ℕ} (i : ℕ) → IsIn row bytes → register ≡ before row (8 * i + 8) 24 → v ≡ slice_index bytes (i + 1) → v < 256 →
    register % 65536 * 256 + v ≡ before row (8 * i + 16) 24
next_read {row} i is h at small =
    let e : 8 * (i + 1) + 8 ≡ 8 * i + 16 = omega arith in
    rw (read_byte (i + 1) is at small, byte_in row i h, e) refl

-- ---- the events of a byte are those of the row

context_same : {p q : Lines} {second above past x y : ℕ} (template : Template) → AreAt p template.offset second above past x → AreAt q template.offset second above past y →
    context_by template p x ≡ context_by template q y
context_same {p} {q} {second} {above} {past} {x} {y} template a b = by template.two_line template.offset template.in_reach a b
  where
    by : (t : Bool) (offset : ℕ) → offset ≤ 127 → AreAt p offset second above past x → AreAt q offset second above past y →
        binary (if t then two_line p offset x else three_line p offset x) ≡ binary (if t then two_line q offset y else three_line q offset y)
    by true zero h a b = sym (two_line_nominal a) ∙ two_line_nominal b
    by false zero h a b = sym (three_line_nominal a) ∙ three_line_nominal b
    by true (suc t) h a b =
        rw (← two_line_moved a, ← adaptive_moved a (omega arith), adaptive_moved b (omega arith)) (two_line_moved b)
    by false (suc t) h a b =
        rw (← three_line_moved a, ← adaptive_moved a (omega arith), adaptive_moved b (omega arith)) (three_line_moved b)

record Same (b : RowByte) (lines : Lines) (i n : ℕ) : Type 0 where
  past : before (byte_lines b).row (128 + n) (past_bits b.around.template.offset) ≡ before lines.row (8 * i + n) (past_bits b.around.template.offset)
  events : events_from b.around.template (byte_lines b) 128 n ≡ events_from b.around.template lines (8 * i) n

same_to : (b : RowByte) (lines : Lines) (i n : ℕ) → b.byte < 256 → ByteAt lines b.around.second b.around.above b.byte (8 * i) →
    b.around.past ≡ before lines.row (8 * i) (past_bits b.around.template.offset) → n ≤ 8 →
    Same b lines i n
same_to b lines i zero small at past few =
    let here : 8 * i ≡ 8 * i + 0 = omega arith in
    record {
      past = sym (holds_past b small) ∙ (past ∙ ap (λ x. before lines.row x (past_bits b.around.template.offset)) here);
      events = events_none b.around.template (byte_lines b) 128 ∙ sym (events_none b.around.template lines (8 * i));
    }
same_to b lines i (suc n) small at past few =
    let m = same_to b lines i n small at past (omega arith) in
    let w : ℕ = past_bits b.around.template.offset in
    let own : List Bool = (byte_lines b).row in
    let one : n + 1 ≡ suc n = omega arith in
    let near : (128 + n) + 1 ≡ 128 + suc n = omega arith in
    let far : (8 * i + n) + 1 ≡ 8 * i + suc n = omega arith in
    let there : nat_eq (b.byte * 2 ^ n / 2 ^ 7 % 2) 1 ≡ pixel_at lines.row (8 * i + n) =
    bit_test _ _ (rw (byte_shifted b.byte n (omega arith)) (pixel_in lines.row (8 * i) n at.byte_is (omega arith))) in
    let pixel : pixel_at own (128 + n) ≡ pixel_at lines.row (8 * i + n) = sym (pixel_of_byte b n small (omega arith)) ∙ there in
    let one_more : before own ((128 + n) + 1) w ≡ before lines.row ((8 * i + n) + 1) w =
    rw (← past_on own b.around.template.offset (128 + n) refl, pixel) (past_on lines.row b.around.template.offset (8 * i + n) m.past) in
    let context = context_same b.around.template
    (at_registers n (omega arith) (holds b small) refl)
    (at_registers n (omega arith) at m.past) in
    record {
      past = rw (← near, one_more, far) refl;
      events =
          rw (← one, ← events_last b.around.template (byte_lines b) 128 n _ _ (sym context) (sym pixel), m.events, events_last b.around.template lines (8 * i) n _ _ refl refl) refl;
    }

pub same_events : {b : RowByte} {template : Template} {lines : Lines} {i : ℕ} (n : ℕ) → b.byte < 256 → IsByte b template lines i → n ≤ 8 → byte_events b n ≡ events_from template lines (8 * i) n
same_events {b} {lines = lines} {i} n small is few =
    let s = same_to b lines i n small is.at (rw (is.past_is, ← is.template_is) refl) few in
    rw (s.events, is.template_is) refl

-- ---- bytes of a colour

pub uniform_none : {colour : Bool} {rows : Rows} {i n : ℕ} → n ≡ 0 → AreUniform colour rows i n
uniform_none none = record {
  row_filled = λ j few. absurd (omega arith);
  above_filled = λ j few. absurd (omega arith);
  second_filled = λ j few. absurd (omega arith);
}

pub uniform_more : {colour : Bool} {rows : Rows} {i : ℕ} (at : ℕ) → i ≤ at → AreUniform colour rows i (at - i) →
    AreFilled colour rows.current.now at 8 → AreFilled colour rows.above.now (at + 1) 8 → AreFilled colour rows.second.now (at + 1) 8 → AreUniform colour rows i ((at + 8) - i)
uniform_more {colour} {rows} {i} at from h row above second =
    let n : (at - i) + 8 ≡ (at + 8) - i = omega arith in
    let here : at ≡ i + (at - i) = omega arith in
    let next : at + 1 ≡ (i + 1) + (at - i) = omega arith in
    rw (← n) (record {
      row_filled = filled_join colour rows.current.now i (at - i) 8 h.row_filled (subst (λ z. AreFilled colour rows.current.now z 8) here row);
      above_filled = filled_join colour rows.above.now (i + 1) (at - i) 8 h.above_filled (subst (λ z. AreFilled colour rows.above.now z 8) next above);
      second_filled = filled_join colour rows.second.now (i + 1) (at - i) 8 h.second_filled (subst (λ z. AreFilled colour rows.second.now z 8) next second);
    })

pub stands_on : {a : Around} {rows : Rows} {i n : ℕ} {colour : Bool} → StandsAt a a.template (lines_in rows) i → RemembersOnly colour a → AreUniform colour rows i n →
    StandsAt a a.template (lines_in rows) (i + n)
stands_on {a} {rows} {i} {n} h only uniform =
    let to : 8 * i + 8 * n ≡ 8 * (i + n) = omega arith in
    record {
      template_is = refl;
      second_is = register_filled i (is_filled (second_in rows) uniform.second_filled) h.second_is only.second_is;
      above_is = register_filled i (is_filled (above_in rows) uniform.above_filled) h.above_is only.above_is;
      past_is = rw (only.past_is, ← past_filled _ (is_filled (current_in rows) uniform.row_filled) (sym h.past_is ∙ only.past_is), to) refl;
    }

pub run_events : {a : Around} {rows : Rows} {i n : ℕ} {colour : Bool} → StandsAt a a.template (lines_in rows) i → RemembersOnly colour a → AreUniform colour rows i n →
    replicate (8 * n) (uniform_event colour) ≡ events_from a.template (lines_in rows) (8 * i) (8 * n)
run_events {a} {rows} {i} {n} {colour} h only uniform =
    let behind : AreBehind colour (lines_in rows) a.template.offset i =
    record { row_is = sym h.past_is ∙ only.past_is; above_is = sym h.above_is ∙ only.above_is; second_is = sym h.second_is ∙ only.second_is } in
    uniform_events a.template (lines_in rows) (8 * i) (8 * n) colour
    (filled_uniform (record { two_line = a.template.two_line; typical = false })
    a.template.in_reach behind (is_filled (above_in rows) uniform.above_filled) (is_filled (second_in rows) uniform.second_filled))
    (own_filled (is_filled (current_in rows) uniform.row_filled))

-- ---- other names of the same template

pub stands_as : {a : Around} {t u : Template} {lines : Lines} {i : ℕ} → t ≡ u → StandsAt a t lines i → StandsAt a u lines i
stands_as e h = rw (← e) h

pub byte_as : {b : RowByte} {t u : Template} {lines : Lines} {i : ℕ} → t ≡ u → IsByte b t lines i → IsByte b u lines i
byte_as e h = rw (← e) h

-- a byte's events after those of the bytes before it, of which n are the last
pub byte_on : {b : RowByte} {t u : Template} {lines : Lines} {i : ℕ} (n k : ℕ) → b.byte < 256 → IsByte b u lines i → u ≡ t → n ≤ 8 → 8 * i + n ≡ k →
    events_from t lines 0 (8 * i) ++ byte_events b n ≡ events_from t lines 0 k
byte_on {b} {t} {u} {lines} {i} n k small is template few size =
    rw (same_events n small is few) (events_on t u lines (8 * i) (8 * i) n k template refl size)

-- no byte at all
pub no_run : {S : Type 0} {sink : Ghosts S} {a : Around} {rows : Rows} {i : ℕ} {c : Coder S} → 8 * i < rows.width → StandsAt a a.template (lines_in rows) i →
    ((colour : Bool) → RemembersOnly colour a → StopsAt colour rows i c) → PassesRun sink a (byte_range rows i 0) c c
no_run {a = a} {rows} {i} inside stands stops =
    let same : i ≡ i + 0 = omega arith in
    record {
      inside = omega arith;
      stands = rw (← same) stands;
      puts = puts_as (sym (events_none a.template (lines_in rows) (8 * i))) (puts_none);
      stops = λ colour only. rw (← same) (stops colour only);
    }
