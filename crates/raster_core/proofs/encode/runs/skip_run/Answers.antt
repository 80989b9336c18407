use Rattle.std.proofs.Common.{sym, ◌∙◌}
use Rattle.raster_core.specs.Machine.Rows.{RemembersOnly}
use Rattle.raster_core.specs.Machine.Uniform.{colour_of}
use Rattle.raster_core.proofs.EventsArePut.{puts_as}
use Rattle.raster_core.proofs.BytesHoldRows.{no_run, stands_on, run_events}
use Rattle.raster_core.proofs.RunEnds.{ends_alike, ends_mixed, ends_other, ends_unlike}
use Rattle.raster_core.proofs.encode.runs.skip_run.Goals.{else-rows-i-via-then-rows-i+else-is_filled, else-rows-i-via-else-rows-i}
use Rattle.raster_core.proofs.encode.runs.skip_run.Goals as goal

pub returns-then-around : goal.returns-then-around
returns-then-around g c =
    no_run c.requires.rest.inside c.requires.stands
    (λ colour. ends_unlike c.if-around.true)

pub returns-then-is_filled : goal.returns-then-is_filled
returns-then-is_filled g c =
    let filled = c.is_filled.ensures in
    let on = c.if-is_filled.true in
    let only : RemembersOnly (colour_of c.args.around.above) c.args.around =
    record { second_is = filled.second on; above_is = filled.above on; past_is = filled.past on c.args.around.template.offset c.requires.moved } in
    record {
      inside = c.skip_bytes.ensures.inside;
      stands = stands_on c.requires.stands only c.skip_bytes.ensures.uniform;
      puts = puts_as (run_events c.requires.stands only c.skip_bytes.ensures.uniform) c.skip_bytes.ensures.puts;
      stops = λ colour. ends_alike c.skip_bytes.ensures.stops;
    }

pub returns-else-rows-i : goal.returns-else-rows-i
returns-else-rows-i g c =
    no_run c.requires.rest.inside c.requires.stands
    (λ colour only. elim c.else-rows-i.branch [
      | else-rows-i-via-then-rows-i+else-is_filled w ↦
          ends_mixed (w.is_filled.ensures.all c.args.around.template.offset c.requires.moved) w.if-is_filled.false only
      | else-rows-i-via-else-rows-i w ↦ ends_other (λ e. w.if-rows-i.false (e ∙ sym c.byte_of.ensures)) only
    ])
