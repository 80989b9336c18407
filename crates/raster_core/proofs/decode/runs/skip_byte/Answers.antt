use Rattle.std.proofs.Common.{nat_eq}
use Rattle.raster_core.specs.Window.{shape_mode}
use Rattle.raster_core.proofs.decode.runs.skip_byte.Goals as goal

pub returns-then-is_run-clause-skipped : goal.returns-then-is_run-clause-skipped
returns-then-is_run-clause-skipped g c = λ is. record {
  colour = nat_eq c.args.byte 255;
  byte_is = c.is_run.ensures.byte c.if-is_run.true;
  going = c.skip.ensures.skips.1 is;
  uniform = c.is_run.ensures.uniform c.if-is_run.true (shape_mode c.args.registers.shape);
  decoded = λ p answers h. rw (← c.uniform_context.ensures) (c.skip.ensures.skipped p answers h is);
}
