use Rattle.t85_core.proofs.ImagesEncode.TrialCountsBytes.{code_counted}
use Rattle.t85_core.proofs.encoding.by_row.trial.Trial.finish.Goals as goal

pub returns-clause-bytes : goal.returns-clause-bytes
returns-clause-bytes c t part width window h =
    code_counted c.writing_laws.ensures h (c.finish.ensures.fails.3 c.requires.going)
    (c.finish.ensures.code _ h.pushed c.requires.going h.codes)
