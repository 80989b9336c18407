use Rattle.std.proofs.Common.{◌≡◌, ◌+◌, arith, ◌∙◌, ◌<◌, ℕ}
use Rattle.raster_core.specs.Machine.Lanes.{lane, second_lane, above_lane, row_lane}
use Rattle.raster_core.proofs.TablesFillLanes.{sum_is}
use Rattle.raster_core.proofs.lanes.pixel_lanes.Goals as goal

pub returns : goal.returns
returns c = λ j few.
    let around : ℕ → ℕ = λ i. second_lane c.args.second_window i + above_lane c.args.above_window i in
    let twice : (i : ℕ) → i < 4 → lane (c.both_lanes-both.result + c.both_lanes-both.result) i ≡ around i + around i =
    λ i l. sum_is _ _ around around i l (λ k m. c.both_lanes-both.ensures.lanes k m) (λ k m. c.both_lanes-both.ensures.lanes k m) (λ k m. omega arith) in
    sum_is _ _ (λ i. around i + around i) (λ i. row_lane c.args.row_window i) j few twice (λ k m. c.row_lanes.ensures.lanes k m) (λ k m. omega arith) ∙ omega arith
