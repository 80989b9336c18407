use Rattle.t85_core.specs.Options.{fields_of}
use Rattle.t85_core.specs.ToPbm.{ToPbmAt}
use Rattle.t85_core.proofs.StreamsAreWalked.InfoEnds.{exit_all}
use Rattle.t85_core.proofs.BodiesDecode.StreamIsConverted.{at_high, at_broken, at_unflushed, at_whole}
use Rattle.t85_core.proofs.conversion.convert.Goals as goal

pub returns-in_err-decode-clause-outcome : goal.returns-in_err-decode-clause-outcome
returns-in_err-decode-clause-outcome g c =
    exit_all (ToPbmAt _ _ _ _ _) c.from_residual.result c.from_residual.ensures.1
    (at_broken (fields_of c.args.header.now) c.args.height c.args.max_rows _ _ _ _ _ _ _ _ _ c.if-height-max_rows.false _ c.in_err-decode.ensures.outcome)

pub returns-in-Ok-flush-clause-outcome : goal.returns-in-Ok-flush-clause-outcome
returns-in-Ok-flush-clause-outcome g c =
    at_whole (fields_of c.args.header.now) c.args.height c.args.max_rows _ _ _ _ _ _ _ _ _ c.if-height-max_rows.false _ _ c.in_ok-decode.ensures.outcome c.in-Ok-flush.ensures.bytes
    c.in-Ok-flush.ensures.flushed c.in-Ok-flush.ensures.failures

pub returns-clause-outcome : goal.returns-clause-outcome
returns-clause-outcome g c =
    at_unflushed (fields_of c.args.header.now) c.args.height c.args.max_rows _ _ _ _ _ _ _ _ _ c.if-height-max_rows.false _ _ c.in_ok-decode.ensures.outcome c.in-Err-flush.ensures.bytes
    c.in-Err-flush.ensures.failures

pub returns-then-height-max_rows-clause-outcome : goal.returns-then-height-max_rows-clause-outcome
returns-then-height-max_rows-clause-outcome g c = at_high (fields_of c.args.header.now) c.args.height c.args.max_rows _ _ _ _ _ c.if-height-max_rows.true
