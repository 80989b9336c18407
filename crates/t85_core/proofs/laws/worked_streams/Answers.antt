use Rattle.std.proofs.Common.{refl}
use Rattle.qm_core.specs.Place.{step, part, taught, renormalised, doubled_within}
use Rattle.qm_core.specs.Table.{row_at, table}
use Rattle.t85_core.proofs.laws.worked_streams.Goals as goal

pub returns : goal.returns
unfolding step part taught renormalised doubled_within row_at table
returns c = record {
  white_row = refl;
  black_pixel = refl;
  two_lines = refl;
  typical_row = refl;
  reset = refl;
  comment = refl;
  moved = refl;
  moved_anew = refl;
  no_candidate = refl;
  announced = refl;
  announced_reset = refl;
  announced_exactly = refl;
  announced_twice = refl;
  variable = refl;
}
