use Rattle.qm_core.proofs.OutputIsFront.{codes_batches}
use Rattle.qm_core.proofs.encoder.Encoder.shift_out.Goals as goal

pub returns-clause-goes : goal.returns-clause-goes
returns-clause-goes g c = λ p pushed s. record {
  more = _;
  writes = c.write_both-written.ensures.writes;
  codes = codes_batches s c.bytes_out-shifted.result.first c.bytes_out-shifted.result.second (c.bytes_out-shifted.ensures.digits _ s.front s.digits);
}
