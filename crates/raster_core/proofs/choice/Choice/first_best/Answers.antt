use Rattle.std.proofs.Common.{◌≡◌, ℕ, ◌-◌, ◌+◌, arith, min, inl, inr}
use Rattle.raster_core.specs.Tally.{least_lag}
use Rattle.raster_core.specs.Counting.{counting_of}
use Rattle.raster_core.proofs.CountsChooseOffset.{first_best_is, is_offered_by}
use Rattle.raster_core.proofs.choice.Choice.first_best.Goals as goal

pub returns-clause-best : goal.returns-clause-best
returns-clause-best c n h =
    let least : ℕ = least_lag (counting_of c.args.self.now).mode.two_line in
    let e : min c.args.self.now.most 127 + 1 - least ≡ c.loop-lag.lag - least = omega (arith, c.loop-lag.invariant.to, c.least-lag.ensures.lag, c.most-lag-end.ensures, c.loop-lag-test.false) in
    first_best_is n least _ c.loop-lag.lag c.loop-lag.best (omega (arith, c.least-lag.ensures.lag, c.least-lag.ensures.some)) e (record {
      place = c.loop-lag.invariant.place;
      nominal = c.loop-lag.invariant.nominal n h;
      most = c.loop-lag.invariant.most n h;
      first_nominal = c.loop-lag.invariant.first_nominal n h;
      first = c.loop-lag.invariant.first n h;
    })

pub returns-clause-offered : goal.returns-clause-offered
returns-clause-offered c =
    is_offered_by (counting_of c.args.self.now) c.loop-lag.best (elim c.loop-lag.invariant.place [
      | inl e ↦ inl e
      | inr within ↦ inr (within.0, omega (arith, within.1, c.loop-lag.invariant.to, c.least-lag.ensures.lag, c.most-lag-end.ensures, within.0))
    ])
