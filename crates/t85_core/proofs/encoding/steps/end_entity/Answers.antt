use Rattle.t85_core.specs.Private.RowSteps.{CodeEnded}
use Rattle.t85_core.proofs.StreamsAreWalked.InfoEnds.{exit_all}
use Rattle.t85_core.proofs.ImagesEncode.EntityEnds.{code_cut, entity_ended}
use Rattle.t85_core.proofs.encoding.steps.end_entity.Goals as goal

pub returns-in_err-end_code-clause-ended : goal.returns-in_err-end_code-clause-ended
returns-in_err-end_code-clause-ended g c p pushed codes =
    exit_all (CodeEnded p c.args.reset pushed _ _) c.from_residual.result c.from_residual.ensures.1
    (code_cut p c.args.reset pushed _ (g.P.ByteTarget.view c.args.target.now).text _ (c.in_err-end_code.ensures.ended p pushed codes))

pub returns-clause-ended : goal.returns-clause-ended
returns-clause-ended g c p pushed codes = entity_ended p c.args.reset pushed _ _ _ (c.in_ok-end_code.ensures.ended p pushed codes) c.write_marker.ensures.ok c.write_marker.ensures.cut
