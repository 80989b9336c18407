use Rattle.std.proofs.Common.{◌≡◌, ◌+◌, arith, ℕ, ◌<◌}
use Rattle.raster_core.specs.Machine.Lanes.{lane, second_lane, moved_above_lane, far_lane}
use Rattle.raster_core.proofs.TablesFillLanes.{sum_is}
use Rattle.raster_core.proofs.lanes.moved_lanes.Goals as goal

pub returns-clause-lanes : goal.returns-clause-lanes
returns-clause-lanes c = λ j few.
    let rows : ℕ → ℕ = λ i. second_lane c.args.second_window i + moved_above_lane c.args.above_window i in
    let both : (i : ℕ) → i < 4 → lane (c.second_lanes.result + c.moved_above_lanes.result) i ≡ rows i =
    λ i l. sum_is _ _ (λ k. second_lane c.args.second_window k) (λ k. moved_above_lane c.args.above_window k) i l (λ k m. c.second_lanes.ensures.lanes k m)
    (λ k m. c.moved_above_lanes.ensures.lanes k m) (λ k m. omega arith) in
    sum_is _ _ rows (λ k. far_lane c.args.far_window k) j few both (λ k m. c.far_lanes.ensures.lanes k m) (λ k m. omega arith)
