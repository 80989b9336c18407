use Rattle.std.proofs.Common.{◌≡◌, ◌+◌, arith, ◌∙◌, ◌<◌, ℕ}
use Rattle.raster_core.specs.Machine.Lanes.{lane, second_lane, moved_above_lane, far_lane, row_lane}
use Rattle.raster_core.proofs.TablesFillLanes.{sum_is}
use Rattle.raster_core.proofs.lanes.moved_pixel_lanes.Goals as goal

pub returns : goal.returns
returns c = λ j few.
    let beside : ℕ → ℕ = λ i. second_lane c.args.second_window i + moved_above_lane c.args.above_window i + far_lane c.args.far_window i in
    let twice : (i : ℕ) → i < 4 → lane (c.moved_lanes-moved.result + c.moved_lanes-moved.result) i ≡ beside i + beside i =
    λ i l. sum_is _ _ beside beside i l (λ k m. c.moved_lanes-moved.ensures.lanes k m) (λ k m. c.moved_lanes-moved.ensures.lanes k m) (λ k m. omega arith) in
    sum_is _ _ (λ i. beside i + beside i) (λ i. row_lane c.args.row_window i) j few twice (λ k m. c.row_lanes.ensures.lanes k m) (λ k m. omega arith) ∙ omega arith
