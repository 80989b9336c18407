use Rattle.std.proofs.Common.{sym, arith}
use Rattle.raster_core.proofs.TallyChoosesLag.{best_by}
use Rattle.raster_core.proofs.tally.Tally.best.Goals as goal

pub returns-clause-best : goal.returns-clause-best
returns-clause-best c width current rows k =
    sym (best_by c.args.self.now width current rows c.loop-lag.best k (record {
      low = omega arith;
      high = omega arith;
      greatest = λ u from to. c.loop-lag.invariant.most u (omega (arith, c.least_lag-least.ensures.lag, from)) (omega (arith, to, c.last_lag-last.ensures, c.loop-lag-test.false));
      first = λ u from below. c.loop-lag.invariant.first u (omega (arith, c.least_lag-least.ensures.lag, from)) below;
    }))
