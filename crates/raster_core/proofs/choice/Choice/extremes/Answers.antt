use Rattle.std.proofs.Common.{◌≡◌, ℕ, ◌+◌, ◌-◌, ◌≤◌, sym, arith, min, get_or, rules}
use Rattle.std.specs.Prelude.{max}
use Rattle.raster_core.specs.Tally.{least_lag}
use Rattle.raster_core.specs.Counting.{counting_of}
use Rattle.raster_core.proofs.CountsChooseOffset.{greatest_more, least_more}
use Rattle.raster_core.proofs.choice.Choice.extremes.Goals as goal

pub loop-lag-preserved : goal.loop-lag-preserved
loop-lag-preserved c =
    let low : least_lag (counting_of c.args.self.now).mode.two_line ≤ c.loop-lag.lag = omega (arith, c.least-lag.ensures.lag) in
    let high : c.loop-lag.lag ≤ min c.args.self.now.most 127 = omega (arith, c.most-lag-end.ensures, c.loop-lag-test.true) in
    let greater : c.max-best.result ≡ max c.loop-lag.best (get_or c.args.self.now.counts c.from.result 0) = search rules in
    let less : c.min-worst.result ≡ min c.loop-lag.worst (get_or c.args.self.now.counts c.from.result 0) = search rules in
    record {
      to = omega (arith, high);
      best = λ n h.
          rw (greater, c.from.ensures, c.loop-lag.invariant.best n h, h.lags c.loop-lag.lag low high) (sym (greatest_more n.at _ c.loop-lag.lag low));
      worst = λ n h.
          rw (less, c.from.ensures, c.loop-lag.invariant.worst n h, h.lags c.loop-lag.lag low high) (sym (least_more n.at n.pixels _ c.loop-lag.lag low));
    }

pub returns-clause-best : goal.returns-clause-best
returns-clause-best c n h =
    let least : ℕ = least_lag (counting_of c.args.self.now).mode.two_line in
    let e : c.loop-lag.lag - least ≡ min c.args.self.now.most 127 + 1 - least = omega (arith, c.loop-lag.invariant.to, c.least-lag.ensures.lag, c.most-lag-end.ensures, c.loop-lag-test.false) in
    rw e at (c.loop-lag.invariant.best n h)

pub returns-clause-worst : goal.returns-clause-worst
returns-clause-worst c n h =
    let least : ℕ = least_lag (counting_of c.args.self.now).mode.two_line in
    let e : c.loop-lag.lag - least ≡ min c.args.self.now.most 127 + 1 - least = omega (arith, c.loop-lag.invariant.to, c.least-lag.ensures.lag, c.most-lag-end.ensures, c.loop-lag-test.false) in
    rw e at (c.loop-lag.invariant.worst n h)
