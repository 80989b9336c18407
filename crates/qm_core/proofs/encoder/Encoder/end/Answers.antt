use Rattle.qm_core.proofs.CodeIsEnded.{finish_after, finish_failed}
use Rattle.qm_core.proofs.encoder.Encoder.end.Goals as goal

pub returns-in_err-shorten-clause-code : goal.returns-in_err-shorten-clause-code
returns-in_err-shorten-clause-code g c = λ p pushed s. finish_failed (c.in_err-shorten.ensures.goes p pushed s) c.from_residual.ensures.0

pub returns-clause-code : goal.returns-clause-code
returns-clause-code g c = λ p pushed s. let f = c.in_ok-shorten.ensures.goes p pushed s in finish_after f (c.finish_short.ensures.code p _ f.codes)
