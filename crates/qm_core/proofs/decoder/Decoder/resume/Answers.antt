use Rattle.std.proofs.Common.{refl}
use Rattle.qm_core.proofs.DecoderResumes.{stands_again, stands_still}
use Rattle.qm_core.proofs.decoder.Decoder.resume.Goals as goal

pub returns-in-Stopped-clause-stands : goal.returns-in-Stopped-clause-stands
returns-in-Stopped-clause-stands c = λ p answers s. stands_again c.in-Stopped.is refl refl refl refl s

pub returns-in-More-clause-stands : goal.returns-in-More-clause-stands
returns-in-More-clause-stands c = λ p answers s. stands_still (λ e. let h = c.in-More.is in cc) s

pub returns-in-Ended-clause-stands : goal.returns-in-Ended-clause-stands
returns-in-Ended-clause-stands c = λ p answers s. stands_still (λ e. let h = c.in-Ended.is in cc) s
