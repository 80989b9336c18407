use Rattle.std.proofs.Common.{arith, refl, sym, ap, slice_set, ◌∙◌}
use Rattle.std.proofs.lemmas.List.{set-get_or}
use Rattle.qm_core.specs.Place.{lower_part, state_of}
use Rattle.qm_core.specs.Machine.{estimate}
use Rattle.qm_core.proofs.RegistersSplit.{registers_lower}
use Rattle.qm_core.proofs.CodePicksPart.{IsCut, taken, fits_in, lower_room, part_fits}
use Rattle.qm_core.proofs.EncoderPuts.{next_from}
use Rattle.qm_core.proofs.StepTakesPart.{upper, renormalised-large, favoured_large}
use Rattle.qm_core.proofs.PixelIsDecided.{favoured_is, other_is, part_is, part_is_not, takes_as, takes_inside}
use Rattle.qm_core.proofs.decoder.Decoder.decodes_pixel.Goals as goal

pub returns-then-not-favoured-clause-other : goal.returns-then-not-favoured-clause-other
returns-then-not-favoured-clause-other c = λ p b r no enough.
    let size = r.size in
    let t = takes_as (favoured_large {s = state_of p c.args.learned.now} {cx = c.args.cx.number} c.cell-cell.ensures (omega arith) (omega arith))
    (other_is _ _ _ c.is_favoured-favoured.ensures c.if-not-favoured.true) in
    takes_inside t c.args.self.now.few
    (lower_room _ (fits_in c.args.self.now enough) (omega arith) (omega arith))
    (registers_lower (upper (estimate c.cell-cell.result)) c.entry_of-entry.ensures.span r)

pub invariant_of-self-clause-room : goal.invariant_of-self-clause-room
invariant_of-self-clause-room c = lower_room _ (fits_in c.args.self.now c.if-self-lt16.false) (omega arith) (omega arith)

pub returns-then-max-lower-clause-place : goal.returns-then-max-lower-clause-place
returns-then-max-lower-clause-place c = λ p b r yes.
    let size = r.size in
    let t = takes_as (favoured_large {s = state_of p c.args.learned.now} {cx = c.args.cx.number} c.cell-cell.ensures (omega arith) (omega arith))
    (favoured_is _ _ _ c.is_favoured-favoured.ensures c.if-not-favoured.false) in
    let whole = renormalised-large (lower_part p (upper (estimate c.cell-cell.result))) (omega arith) in
    rw (t.place, whole)
    (registers_lower (upper (estimate c.cell-cell.result)) c.entry_of-entry.ensures.span r)

pub returns-then-max-lower-clause-learned : goal.returns-then-max-lower-clause-learned
returns-then-max-lower-clause-learned c = λ p size yes.
    let t = takes_as (favoured_large {s = state_of p c.args.learned.now} {cx = c.args.cx.number} c.cell-cell.ensures (omega arith) (omega arith))
    (favoured_is _ _ _ c.is_favoured-favoured.ensures c.if-not-favoured.false) in
    sym (rw (t.learned, c.cell-cell.ensures) (set-get_or _ _ _))

pub returns-then-favoured-part-clause-other : goal.returns-then-favoured-part-clause-other
returns-then-favoured-part-clause-other c = λ p b r no enough.
    let cut : IsCut (state_of p c.args.learned.now) (estimate c.cell-cell.result) c.args.self.now.code c.args.self.now.span c.entry_of-entry.result.now.span =
    record { span_is = r.size; entry_is = c.entry_of-entry.ensures.span; few = c.entry_of-entry.ensures.small; less = omega arith; short = omega arith } in
    let t = taken {cx = c.args.cx.number} c.cell-cell.ensures cut (record { lower_is = c.part_of-part.ensures.lower; upper_is = c.part_of-part.ensures.upper }) in
    takes_inside (takes_as t.takes (part_is_not _ _ _ _ c.is_favoured-favoured.ensures c.if-favoured-part.true)) c.args.self.now.few
    (part_fits (fits_in c.args.self.now enough) (omega arith) (record { lower_is = c.part_of-part.ensures.lower; upper_is = c.part_of-part.ensures.upper })).1
    (t.registers b r)

pub narrow-requires-clause-aligned : goal.narrow-requires-clause-aligned
narrow-requires-clause-aligned c =
    (part_fits (fits_in c.args.self.now (omega arith)) (omega arith) (record { lower_is = c.part_of-part.ensures.lower; upper_is = c.part_of-part.ensures.upper })).0

pub narrow-requires-clause-room : goal.narrow-requires-clause-room
narrow-requires-clause-room c =
    (part_fits (fits_in c.args.self.now (omega arith)) (omega arith) (record { lower_is = c.part_of-part.ensures.lower; upper_is = c.part_of-part.ensures.upper })).1

pub returns-clause-place : goal.returns-clause-place
returns-clause-place c = λ p b r yes.
    let cut : IsCut (state_of p c.args.learned.now) (estimate c.cell-cell.result) c.args.self.now.code c.args.self.now.span c.entry_of-entry.result.now.span =
    record { span_is = r.size; entry_is = c.entry_of-entry.ensures.span; few = c.entry_of-entry.ensures.small; less = omega arith; short = omega arith } in
    let t = taken {cx = c.args.cx.number} c.cell-cell.ensures cut (record { lower_is = c.part_of-part.ensures.lower; upper_is = c.part_of-part.ensures.upper }) in
    rw (takes_as t.takes (part_is _ _ _ _ c.is_favoured-favoured.ensures c.if-favoured-part.false)).place (c.narrow.ensures.place t.part b (t.registers b r))

pub returns-clause-learned : goal.returns-clause-learned
returns-clause-learned c = λ p size yes.
    let cut : IsCut (state_of p c.args.learned.now) (estimate c.cell-cell.result) c.args.self.now.code c.args.self.now.span c.entry_of-entry.result.now.span =
    record { span_is = size; entry_is = c.entry_of-entry.ensures.span; few = c.entry_of-entry.ensures.small; less = omega arith; short = omega arith } in
    let t = taken {cx = c.args.cx.number} {bits = c.args.self.now.bits} c.cell-cell.ensures cut (record { lower_is = c.part_of-part.ensures.lower; upper_is = c.part_of-part.ensures.upper }) in
    let n = next_from _ _ c.next_cell.ensures refl c.entry_of-entry.ensures.favoured c.entry_of-entry.ensures.other in
    c.set.ensures ∙ rw (takes_as t.takes (part_is _ _ _ _ c.is_favoured-favoured.ensures c.if-favoured-part.false)).learned (ap (λ x. slice_set c.args.learned.now c.args.cx.number x) n)
