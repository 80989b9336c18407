use Rattle.std.proofs.Common.{◌∙◌, refl, sym, ap, arith}
use Rattle.qm_core.specs.Place.{same}
use Rattle.qm_core.proofs.DecoderSkipsRun.{room_left}
use Rattle.qm_core.proofs.RunIsDecoded.{undoubled}
use Rattle.qm_core.proofs.decoder.Decoder.next_undoubled.Goals as goal

pub invariant_of-self-clause-large : goal.invariant_of-self-clause-large
invariant_of-self-clause-large c = omega (arith, c.pixels.invariant.above, c.max.ensures)

pub invariant_of-self-clause-whole : goal.invariant_of-self-clause-whole
invariant_of-self-clause-whole c = omega (arith, c.pixels.invariant.span_is, c.args.self.now.whole)

pub invariant_of-self-clause-room : goal.invariant_of-self-clause-room
invariant_of-self-clause-room c =
    room_left c.args.self.now _ c.pixels.span c.if-self-lt16.false c.pixels.invariant.span_is (omega (arith, c.pixels.invariant.above, c.max.ensures))

pub returns-clause-goes : goal.returns-clause-goes
returns-clause-goes c = λ p b r.
    undoubled c.pixels.count (ap (λ e. same c.args.pixel e.pixel) (sym c.cell-cell.ensures) ∙ sym c.is_favoured.ensures ∙ c.if-not-is_favoured.false) c.if-self-lt16.false c.pixels.invariant.span_is refl refl r
