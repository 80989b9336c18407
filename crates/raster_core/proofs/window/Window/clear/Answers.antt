use Rattle.std.proofs.Common.{rules}
use Rattle.raster_core.proofs.RingHoldsRows.{zeros_held}
use Rattle.raster_core.proofs.window.Window.clear.Goals as goal

pub returns-clause-white : goal.returns-clause-white
returns-clause-white c = zeros_held c.args.self.now.place c.args.self.now.width c.fill.new.self c.args.self.now.within (search rules)
