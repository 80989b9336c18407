use Rattle.raster_core.specs.Machine.Rows.{coded_events}
use Rattle.raster_core.specs.Window.{shape_mode}
use Rattle.raster_core.proofs.EventsArePut.{puts_as, puts_join, puts_stop}
use Rattle.raster_core.proofs.RowIsPut.{coded_typical, coded_plain}
use Rattle.raster_core.proofs.encode.encode_as.Goals as goal

pub returns-in_err-encode_flag : goal.returns-in_err-encode_flag
unfolding coded_events
returns-in_err-encode_flag g c = puts_stop _ c.from_residual.ensures c.in_err-encode_flag.ensures

pub returns-then-flag : goal.returns-then-flag
returns-then-flag g c = puts_as (coded_typical (shape_mode c.args.shape) c.args.template c.args.rows c.args.previous c.args.flag c.if-flag.true) c.in_ok-encode_flag.ensures

pub returns : goal.returns
returns g c =
    puts_as (coded_plain (shape_mode c.args.shape) c.args.template c.args.rows c.args.previous c.args.flag c.if-flag.false)
    (puts_join c.in_ok-encode_flag.ensures c.encode_plain.ensures)
