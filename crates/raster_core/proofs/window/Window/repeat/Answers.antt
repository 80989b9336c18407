use Rattle.std.proofs.Common.{rules}
use Rattle.raster_core.specs.Window.{held}
use Rattle.raster_core.proofs.RingHoldsRows.{repeats}
use Rattle.raster_core.proofs.window.Window.repeat.Goals as goal

pub returns-clause-repeated : goal.returns-clause-repeated
returns-clause-repeated c =
    repeats c.turn.new.self.rows.now (held c.args.self.now) c.args.self.now.within c.turn.ensures.place c.turn.new.self.long (search rules)
    (search rules) c.current_row-current.ensures.start c.turn.ensures.turned
    c.copy_within.ensures.after
