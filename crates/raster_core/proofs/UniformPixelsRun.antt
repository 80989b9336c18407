-- Pixels among pixels of their own colour, as events.
use Rattle.std.proofs.Common.{◌≡◌, ℕ, zero, suc, ◌+◌, ◌*◌, ◌<◌, Bool, false, sym, arith, replicate, refl}
use Rattle.raster_core.specs.Raster.{pixel_at}
use Rattle.raster_core.specs.Lines.{Lines, Mode}
use Rattle.raster_core.specs.Machine.Registers.{bit, before, past_bits}
use Rattle.raster_core.specs.Machine.Uniform.{uniform_context, uniform_event, StaysUniform}
use Rattle.raster_core.specs.Machine.Bytes.{byte_lines, events_from}
use Rattle.raster_core.specs.declared.row_byte.Template.{Template}
use Rattle.raster_core.specs.declared.row_byte.RowByte.{RowByte}
use Rattle.raster_core.proofs.EventListsJoin.{events_none, events_last}
use Rattle.raster_core.proofs.ByteHasLines.{holds, holds_past}
use Rattle.raster_core.proofs.ByteHasOneColour.{one_more, own_pixels}

-- n pixels of a colour, each in the context of it
pub uniform_events : (template : Template) (lines : Lines) (x n : ℕ) (c : Bool) → StaysUniform (record { two_line = template.two_line; typical = false }) lines template.offset c x n →
    ((k : ℕ) → k < n → pixel_at lines.row (x + k) ≡ c) → replicate n (uniform_event c) ≡ events_from template lines x n
uniform_events template lines x zero c stays own = sym (events_none template lines x)
uniform_events template lines x (suc n) c stays own =
    let e : n + 1 ≡ suc n = omega arith in
    let shorter = uniform_events template lines x n c (λ j few before. stays j (omega arith) before) (λ k few. own k (omega arith)) in
    let last = events_last template lines x n (uniform_context c) c (sym (stays n (omega arith) (λ k few. own k (omega arith)))) (sym (own n (omega arith))) in
    rw (← one_more, shorter, last, e) refl

pub byte_run : (b : RowByte) (c : Bool) → b.byte < 256 → b.byte ≡ bit c * 255 →
    ((mode : Mode) (lines : Lines) (x : ℕ) → b.around.second ≡ before lines.second (x + 16) 24 → b.around.above ≡ before lines.above (x + 16) 24 →
    b.around.past ≡ before lines.row x (past_bits b.around.template.offset) →
    StaysUniform mode lines b.around.template.offset c x 8) →
    replicate 8 (uniform_event c) ≡ events_from b.around.template (byte_lines b) 128 8
byte_run b c small colour uniform =
    let h = holds b small in
    uniform_events b.around.template (byte_lines b) 128 8 c
    (uniform (record { two_line = b.around.template.two_line; typical = false }) (byte_lines b) 128 h.second_is h.above_is (holds_past b small))
    (own_pixels (byte_lines b).row b.byte 128 c colour h.byte_is)
