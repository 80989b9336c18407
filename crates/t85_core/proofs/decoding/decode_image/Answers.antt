use Rattle.std.proofs.Common.{◌≡◌, ◌<◌, ◌∙◌, ap, length, sym, refl, subst, arith}
use Rattle.std.specs.Prelude.{IfSome}
use Rattle.std.specs.Io.KnownBytes.{Appends}
use Rattle.devices.specs.Device.{AppendsBeginning}
use Rattle.raster_core.specs.Packed.{row_bytes}
use Rattle.t85_core.specs.Options.{fields_of}
use Rattle.t85_core.specs.Lent.{walk_lent}
use Rattle.t85_core.specs.RowSink.{WritesOn, copies}
use Rattle.t85_core.specs.Private.DecodeStripes.{ImageUnwritten}
use Rattle.t85_core.specs.States.Passage.{passage}
use Rattle.t85_core.proofs.BytesJoin.WalkEnds.{exit, map_if_some}
use Rattle.t85_core.proofs.StreamsAreWalked.InfoEnds.{exit_all}
use Rattle.t85_core.proofs.BodiesDecode.ImageIsPut.{in_use, few_rows}
use Rattle.t85_core.proofs.BodiesDecode.WalkGoesOn.{over_done}
use Rattle.t85_core.proofs.BodiesDecode.WalkReadsOn.{so_far_first, so_far_next, rows_few, row_long, image_off, image_off_begun, image_off_unwritten, image_whole, image_rows_unset}
use Rattle.t85_core.proofs.decoding.decode_image.Goals as goal

pub rows-init : goal.rows-init
rows-init g c = record {
  so_far = so_far_first (fields_of c.args.image.now.header) c.args.image.now.height (walk_lent c.start-walk.result c.start-walk.new.lent) _ _ c.start-walk.ensures.stands;
  unfailed = refl;
  unwritten = refl;
  grows = omega arith;
  same_source = refl;
  same_row = refl;
  same_writer = refl;
}

pub returns-in_err-count-clause-err : goal.returns-in_err-count-clause-err
returns-in_err-count-clause-err g c = exit _ _ c.from_residual.ensures.1
    (λ _. image_off (fields_of c.args.image.now.header) c.args.image.now.height (walk_lent c.rows.walk c.rows.lent)
    (walk_lent c.next_rows.new.walk c.next_rows.new.lent) _ _ _ _ _ _ c.rows.invariant.so_far _ c.in_err-count.ensures.turn.err)

pub returns-in_err-count-clause-unwritten : goal.returns-in_err-count-clause-unwritten
returns-in_err-count-clause-unwritten g c =
    exit (λ _. ImageUnwritten _ _ (passage _ _ _ _)) _ c.from_residual.ensures.1
    (image_off_begun (fields_of c.args.image.now.header) c.args.image.now.height (walk_lent c.rows.walk c.rows.lent)
    (walk_lent c.next_rows.new.walk c.next_rows.new.lent) _ _ _ _ _ _ c.rows.invariant.so_far _ c.in_err-count.ensures.turn.err)

pub returns-in_err-count-clause-writes : goal.returns-in_err-count-clause-writes
returns-in_err-count-clause-writes g c =
    let none = image_off_unwritten (fields_of c.args.image.now.header) c.args.image.now.height (walk_lent c.rows.walk c.rows.lent)
    (walk_lent c.next_rows.new.walk c.next_rows.new.lent) _ _ _ _ _ _ c.rows.invariant.so_far _ c.in_err-count.ensures.turn.err in
    exit_all (WritesOn _ _) c.from_residual.result c.from_residual.ensures.1
    (record { counts = c.rows.invariant.unwritten ∙ sym (none _); grows = c.rows.invariant.grows; same_writer = c.rows.invariant.same_writer })

pub returns-then-count-eq0-clause-ok : goal.returns-then-count-eq0-clause-ok
returns-then-count-eq0-clause-ok g c =
    let done = c.in_ok-count.ensures.turn.none c.if-count-eq0.true in
    image_whole (fields_of c.args.image.now.header) c.args.image.now.height (walk_lent c.rows.walk c.rows.lent)
    (walk_lent c.next_rows.new.walk c.next_rows.new.lent) _ _ _ _ _ _ c.rows.invariant.so_far done.0 (over_done _ done.1)

pub returns-in_err-put_rows-clause-unwritten : goal.returns-in_err-put_rows-clause-unwritten
returns-in_err-put_rows-clause-unwritten g c =
    let some : 0 < c.in_ok-count.count = omega (arith, c.if-count-eq0.false) in
    exit (λ _. ImageUnwritten _ _ (passage _ _ _ _)) _ c.from_residual-in_err-put_rows.ensures.1
    (image_rows_unset (fields_of c.args.image.now.header) c.args.image.now.height (walk_lent c.rows.walk c.rows.lent)
    (walk_lent c.next_rows.new.walk c.next_rows.new.lent) _ _ _ _ _ _ c.rows.invariant.so_far c.in_ok-count.count some
    (in_use c.args.image.now) c.coder_laws.ensures (c.in_ok-count.ensures.turn.some some) _
    (subst (λ z. AppendsBeginning (g.K.RowSink.view c.rows.sink).text (g.K.RowSink.view c.put_rows.new.self).text (copies c.in_ok-count.count z)) c.row.ensures c.in_err-put_rows.ensures.put.cut))

pub put_rows-requires : goal.put_rows-requires
put_rows-requires g c =
    let some : 0 < c.in_ok-count.count = omega (arith, c.if-count-eq0.false) in
    let long = row_long (fields_of c.args.image.now.header) c.args.image.now.height (walk_lent c.rows.walk c.rows.lent)
    (walk_lent c.next_rows.new.walk c.next_rows.new.lent) _ _ _ _ _ _ c.rows.invariant.so_far c.in_ok-count.count some
    (in_use c.args.image.now) c.coder_laws.ensures (c.in_ok-count.ensures.turn.some some) in
    subst (λ z. IfSome z (λ n. length c.row.result.now ≡ n)) (sym c.rows.invariant.same_row)
    (map_if_some (g.K.RowSink.row_bytes c.args.sink.now) {P = λ n. n ≡ row_bytes c.args.image.now.header.xd} {Q = λ n. length c.row.result.now ≡ n}
    (λ n is. ap length c.row.ensures ∙ long ∙ sym is) c.requires.row)

pub overflow_add-row : goal.overflow_add-row
overflow_add-row g c =
    let some : 0 < c.in_ok-count.count = omega (arith, c.if-count-eq0.false) in
    let few = rows_few (fields_of c.args.image.now.header) c.args.image.now.height (walk_lent c.rows.walk c.rows.lent)
    (walk_lent c.next_rows.new.walk c.next_rows.new.lent) _ _ _ _ _ _ c.rows.invariant.so_far c.in_ok-count.count some
    (in_use c.args.image.now) c.coder_laws.ensures (c.in_ok-count.ensures.turn.some some) in
    let most = few_rows c.args.image.now in
    omega (arith, few, most)

pub rows-smaller : goal.rows-smaller
rows-smaller g c =
    let some : 0 < c.in_ok-count.count = omega (arith, c.if-count-eq0.false) in
    let few = rows_few (fields_of c.args.image.now.header) c.args.image.now.height (walk_lent c.rows.walk c.rows.lent)
    (walk_lent c.next_rows.new.walk c.next_rows.new.lent) _ _ _ _ _ _ c.rows.invariant.so_far c.in_ok-count.count some
    (in_use c.args.image.now) c.coder_laws.ensures (c.in_ok-count.ensures.turn.some some) in
    omega (arith, few, some)

pub rows-preserved : goal.rows-preserved
rows-preserved g c =
    let some : 0 < c.in_ok-count.count = omega (arith, c.if-count-eq0.false) in
    let reads = c.in_ok-count.ensures.turn.reads (c.rows.invariant.so_far.bytes, c.rows.invariant.so_far.out, c.rows.invariant.so_far.stands) in
    record {
      so_far = so_far_next (fields_of c.args.image.now.header) c.args.image.now.height (walk_lent c.rows.walk c.rows.lent)
          (walk_lent c.next_rows.new.walk c.next_rows.new.lent) _ _ _ _ _ _ c.rows.invariant.so_far c.in_ok-count.count some
          (in_use c.args.image.now) c.coder_laws.ensures (c.in_ok-count.ensures.turn.some some) _
          (subst (λ z. Appends (g.K.RowSink.view c.rows.sink).text (g.K.RowSink.view c.put_rows.new.self).text (copies c.in_ok-count.count z)) c.row.ensures c.in_ok-put_rows.ensures.put.ok);
      unfailed = reads.counts ∙ c.rows.invariant.unfailed;
      unwritten = c.in_ok-put_rows.ensures.put.counts ∙ c.rows.invariant.unwritten;
      grows = (let more = c.in_ok-put_rows.ensures.put.grows in let before = c.rows.invariant.grows in omega (arith, more, before));
      same_source = reads.same_source ∙ c.rows.invariant.same_source;
      same_row = c.in_ok-put_rows.ensures.same_row ∙ c.rows.invariant.same_row;
      same_writer = c.in_ok-put_rows.ensures.put.same_writer ∙ c.rows.invariant.same_writer;
    }
