use Rattle.std.proofs.Common.{◌<◌, ◌+◌, ◌*◌, ◌%◌, arith, refl, sym, ◌∙◌}
use Rattle.raster_core.specs.Lines.{Lines}
use Rattle.raster_core.specs.Machine.Bytes.{byte_lines}
use Rattle.raster_core.specs.Machine.Rows.{lines_in}
use Rattle.raster_core.proofs.EventListsJoin.{events_none, events_on, events_rest, length-events}
use Rattle.raster_core.proofs.EventsArePut.{puts_as, puts_join, puts_none, puts_stop}
use Rattle.raster_core.proofs.BytesHoldRows.{stands_as, byte_as, byte_on}
use Rattle.raster_core.proofs.encode.row.encode_bytes.Goals as goal

pub bytes-init : goal.bytes-init
bytes-init g c = record {
  inside = omega arith;
  puts = puts_as (sym (events_none c.args.template (lines_in c.args.rows) 0)) (puts_none);
  events = omega arith;
  same = refl;
  stands = c.start-around.ensures;
}

pub bytes-preserved-then-skipped-gt0 : goal.bytes-preserved-then-skipped-gt0
bytes-preserved-then-skipped-gt0 g c =
    let run = c.skip_run-skipped.ensures.puts in
    let count = run.count in
    let long = length-events c.bytes.around.template (lines_in c.args.rows) (8 * c.bytes.i) (8 * c.skip_run-skipped.result) in
    record {
      inside = omega arith;
      puts = puts_as
          (events_on _ _ (lines_in c.args.rows) (8 * c.bytes.i) _ (8 * c.skip_run-skipped.result) (8 * (c.bytes.i + c.skip_run-skipped.result)) c.bytes.invariant.stands.template_is refl (omega arith))
          (puts_join c.bytes.invariant.puts run);
      events = omega arith;
      same = run.same ∙ c.bytes.invariant.same;
      stands = stands_as c.bytes.invariant.stands.template_is c.skip_run-skipped.ensures.stands;
    }

pub encode_byte-requires-clause-room : goal.encode_byte-requires-clause-room
encode_byte-requires-clause-room g c =
    let run = c.skip_run-skipped.ensures.puts in
    let count = run.count in
    let same = run.same in
    let none = c.if-skipped-gt0.false in
    let long = length-events c.bytes.around.template (lines_in c.args.rows) (8 * c.bytes.i) (8 * c.skip_run-skipped.result) in
    record { events = omega arith }

pub returns-in_err-encode_byte : goal.returns-in_err-encode_byte
returns-in_err-encode_byte g c =
    let lines : Lines = lines_in c.args.rows in
    let none = c.if-skipped-gt0.false in
    let small : c.byte-byte.result.byte < 256 = omega arith in
    let before = puts_as
    (events_on _ _ lines (8 * c.bytes.i) _ (8 * c.skip_run-skipped.result) (8 * c.bytes.i) c.bytes.invariant.stands.template_is refl (omega arith))
    (puts_join c.bytes.invariant.puts c.skip_run-skipped.ensures.puts) in
    puts_as (events_rest c.args.template lines 0 (8 * (c.bytes.i + 1)) c.args.rows.width (omega arith))
    (puts_stop _ c.from_residual.ensures
    (puts_as (byte_on 8 (8 * (c.bytes.i + 1)) small c.byte-byte.ensures c.bytes.invariant.stands.template_is (omega arith) (omega arith))
    (puts_join before c.in_err-encode_byte.ensures)))

pub bytes-preserved : goal.bytes-preserved
bytes-preserved g c =
    let lines : Lines = lines_in c.args.rows in
    let none = c.if-skipped-gt0.false in
    let run = c.skip_run-skipped.ensures.puts in
    let count = run.count in
    let then = c.in_ok-encode_byte.ensures.count in
    let long = length-events c.bytes.around.template lines (8 * c.bytes.i) (8 * c.skip_run-skipped.result) in
    let eight = length-events c.byte-byte.result.around.template (byte_lines c.byte-byte.result) 128 8 in
    let small : c.byte-byte.result.byte < 256 = omega arith in
    let before = puts_as
    (events_on _ _ lines (8 * c.bytes.i) _ (8 * c.skip_run-skipped.result) (8 * c.bytes.i) c.bytes.invariant.stands.template_is refl (omega arith))
    (puts_join c.bytes.invariant.puts run) in
    let is = byte_as (sym c.byte-byte.ensures.template_is) c.byte-byte.ensures in
    record {
      inside = omega arith;
      puts = puts_as (byte_on 8 (8 * (c.bytes.i + 1)) small c.byte-byte.ensures c.bytes.invariant.stands.template_is (omega arith) (omega arith))
          (puts_join before c.in_ok-encode_byte.ensures);
      events = omega arith;
      same = c.in_ok-encode_byte.ensures.same ∙ (run.same ∙ c.bytes.invariant.same);
      stands = stands_as (c.byte-byte.ensures.template_is ∙ c.bytes.invariant.stands.template_is) (c.after-around.ensures lines c.bytes.i is);
    }

pub returns : goal.returns
returns g c =
    let lines : Lines = lines_in c.args.rows in
    let small : c.byte.result.byte < 256 = omega arith in
    puts_as (byte_on (c.args.rows.width % 8) c.args.rows.width small c.byte.ensures c.bytes.invariant.stands.template_is (omega arith) (omega arith))
    (puts_join c.bytes.invariant.puts c.encode_pixels.ensures)
