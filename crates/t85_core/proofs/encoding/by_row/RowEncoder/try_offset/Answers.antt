use Rattle.std.proofs.Common.{refl, ap, ◌∙◌, ◌+◌, ◌%◌, ◌^◌, length}
use Rattle.std.specs.Prelude.{flat_map}
use Rattle.raster_core.specs.Window.{held}
use Rattle.t85_core.specs.Grammar.{segment_bytes}
use Rattle.t85_core.specs.Jbg.{move_segments}
use Rattle.t85_core.specs.States.Trial.{all_rows_in}
use Rattle.t85_core.specs.Private.Trial.{named_move, trial_from, tried_code}
use Rattle.t85_core.proofs.ImagesEncode.OffsetIsBest.{copied, trial_begins, others_are, summed}
use Rattle.t85_core.proofs.encoding.by_row.RowEncoder.try_offset.Goals as goal

pub returns-clause-bytes : goal.returns-clause-bytes
returns-clause-bytes c carry carried =
    let e = c.args.self.now in
    let w = c.args.window.now in
    let t = trial_from e carry c.args.offset in
    let code = length (tried_code t (all_rows_in e.size.width c.args.rows.now)) in
    let same = copied c.copy_from_slice.ensures.after c.place.ensures.place c.requires.width c.resume-copy.ensures.held in
    let tried = c.code_rows.ensures.rows e.most_offset carry c.args.offset
    (trial_begins e (held w) carry carried (record {
      offset_is = refl;
      previous_is = refl;
      taught = c.copy.ensures;
      codes = c.start.ensures.codes;
      none = refl;
      two_line = c.new.ensures.two_line;
      most = c.new.ensures.most;
      counts = c.new.ensures.counts e.shape.width 0;
    })
    (λ lined. c.clear_padding.ensures.stays (rw same lined) ∙ same)) in
    ap (λ n. (n + c.other_bytes.result) % 2 ^ 64) (c.finish-tried.ensures.bytes t _ _ _ tried)
    ∙ ap (λ n. (code % 2 ^ 64 + n) % 2 ^ 64) (c.other_bytes.ensures ∙ others_are c.args.offset e.kept.offset
    ∙ ap (λ o. length (flat_map segment_bytes (move_segments (named_move c.args.offset o))) + 2) carried.offset_is)
    ∙ summed code _

pub returns-clause-lag : goal.returns-clause-lag
returns-clause-lag c carry carried counted =
    let e = c.args.self.now in
    let w = c.args.window.now in
    let same = copied c.copy_from_slice.ensures.after c.place.ensures.place c.requires.width c.resume-copy.ensures.held in
    let tried = c.code_rows.ensures.rows e.most_offset carry c.args.offset
    (trial_begins e (held w) carry carried (record {
      offset_is = refl;
      previous_is = refl;
      taught = c.copy.ensures;
      codes = c.start.ensures.codes;
      none = refl;
      two_line = c.new.ensures.two_line;
      most = c.new.ensures.most;
      counts = c.new.ensures.counts e.shape.width 0;
    })
    (λ lined. c.clear_padding.ensures.stays (rw same lined) ∙ same)) in
    c.finish-tried.ensures.lag (trial_from e carry c.args.offset) _ _ _ tried (c.code_rows.ensures.is_counted ∙ counted)
