use Rattle.std.proofs.Common.{◌+◌, ◌<◌, arith, refl, sym, ◌∙◌}
use Rattle.raster_core.specs.Machine.Bytes.{byte_lines}
use Rattle.raster_core.proofs.PixelNumbersSplit.{begins, goes_on, grows}
use Rattle.raster_core.proofs.EventListsJoin.{events_none, events_rest}
use Rattle.raster_core.proofs.ByteHasLines.{holds_past, pixel_next, pixel_of_byte, past_more}
use Rattle.raster_core.proofs.EventsArePut.{puts_as, puts_join, puts_none, puts_stop}
use Rattle.raster_core.proofs.encode.byte.encode_pixels.Goals as goal

pub loop-j-init : goal.loop-j-init
loop-j-init g c =
    let small : c.args.byte.byte < 256 = omega arith in
    record {
      puts = puts_as (sym (events_none c.args.byte.around.template (byte_lines c.args.byte) 128)) (puts_none);
      events = omega arith;
      same = refl;
      offset = refl;
      second = begins _;
      above = begins _;
      row = c.from-row.ensures ∙ begins _;
      past = holds_past c.args.byte small;
      second_small = let h = c.args.byte.around.second_fits in omega arith;
      above_small = let h = c.args.byte.around.above_fits in omega arith;
      row_small = omega arith;
    }

pub returns-in_err-put : goal.returns-in_err-put
returns-in_err-put g c =
    let small : c.args.byte.byte < 256 = omega arith in
    let next = pixel_next c.args.byte c.loop-j._j small (omega arith) c.requires.template.two_line_is
    c.loop-j.invariant.second c.loop-j.invariant.above c.loop-j.invariant.row c.loop-j.invariant.past c.context_of-cx.ensures in
    puts_as (events_rest c.args.byte.around.template (byte_lines c.args.byte) 128 (c.loop-j._j + 1) c.args.n (omega arith))
    (puts_stop _ c.from_residual.ensures
    (puts_as next (puts_join c.loop-j.invariant.puts c.in_err-put.ensures)))

pub loop-j-preserved : goal.loop-j-preserved
loop-j-preserved g c =
    let small : c.args.byte.byte < 256 = omega arith in
    let next = pixel_next c.args.byte c.loop-j._j small (omega arith) c.requires.template.two_line_is
    c.loop-j.invariant.second c.loop-j.invariant.above c.loop-j.invariant.row c.loop-j.invariant.past c.context_of-cx.ensures in
    record {
      puts = puts_as next (puts_join c.loop-j.invariant.puts c.in_ok-put.ensures);
      events = let e = c.in_ok-put.ensures.count in omega arith;
      same = c.in_ok-put.ensures.same ∙ c.loop-j.invariant.same;
      offset = refl;
      second = goes_on _ _ _ c.loop-j.invariant.second;
      above = goes_on _ _ _ c.loop-j.invariant.above;
      row = goes_on _ _ _ c.loop-j.invariant.row;
      past = past_more c.args.byte c.loop-j._j c.loop-j.invariant.past (c.past_and-past.ensures c.args.byte.around.template.offset c.requires.template.moved_is)
          (rw (c.loop-j.invariant.row) (pixel_of_byte c.args.byte c.loop-j._j small (omega arith)));
      second_small = grows _ _ _ c.loop-j.invariant.second_small;
      above_small = grows _ _ _ c.loop-j.invariant.above_small;
      row_small = grows _ _ _ c.loop-j.invariant.row_small;
    }
