use Rattle.std.proofs.Common.{◌≡◌, ◌≤◌, ◌+◌, ◌++◌, ◌∙◌, None, refl, sym, ap, subst, rules, arith}
use Rattle.std.specs.Prelude.{option_map, min}
use Rattle.t85_core.specs.Options.{fields_of}
use Rattle.raster_core.specs.Window.{held}
use Rattle.t85_core.specs.Lent.{carried_by, code_view}
use Rattle.t85_core.specs.Stages.{code_kind}
use Rattle.t85_core.specs.RowSink.{copies}
use Rattle.t85_core.specs.States.DecodeRows.{pair_of}
use Rattle.t85_core.specs.States.Pieces.{CodeStands, rows_in, head_place, code_place}
use Rattle.t85_core.specs.States.SizedImage.{sized}
use Rattle.t85_core.proofs.BodiesDecode.WalkGoesOn.{at_stage, put_stage}
use Rattle.t85_core.proofs.BodiesDecode.RepeatedRowsArePut.{repeats_rows}
use Rattle.t85_core.proofs.BodiesDecode.WalkDecodesImage.{code_repeated}
use Rattle.t85_core.proofs.pieces.code.InCode.repeat.Goals as goal

pub returns-clause-on : goal.returns-clause-on
returns-clause-on c = λ text out w.
    let count = c.skip_rows-count.result in
    let some : 1 ≤ c.skip_rows-count.result = omega (arith, c.if-count-eq0.false) in
    let none : c.args.self.now.begun ≡ None = search rules in
    let is = ap code_kind none in
    let k = at_stage is w in
    let room : c.args.self.now.row + c.skip_rows-count.result ≤ min c.args.course.now.left c.args.image.now.header.l0 =
    (let within = c.skip_rows-count.ensures.few in let least = c.min-rows.ensures in omega (arith, within, least, some)) in
    let few : c.args.self.now.row + c.skip_rows-count.result ≤ rows_in (fields_of c.args.image.now.header) c.args.image.now.height c.args.course.now.entities =
    subst (λ z. c.args.self.now.row + c.skip_rows-count.result ≤ min z c.args.image.now.header.l0) w.left_is room in
    let row_is = ap (λ w. w.current) c.repeat.ensures.repeated in
    let after = carried_by c.repeat.new.self c.args.course.now.kept c.skip_rows-count.new.learned in
    let repeats = repeats_rows c.shape-shape.result (option_map pair_of c.args.self.now.at) c.args.self.now.row count
    (carried_by c.args.lent.now.window.now c.args.course.now.kept c.args.lent.now.learned.now) after c.args.course.now.decoder c.skip_rows-count.new.decoder some
    (w.width_is ∙ sym c.shape-shape.ensures.width) (c.skip_rows-count.ensures.typical some)
    (λ p answers stands. c.skip_rows-count.ensures.skipped p answers stands some) (c.is_settled.ensures.0 (search rules)) refl c.repeat.ensures.repeated in
    record {
      left_is = w.left_is;
      width_is = ap (λ r. r.width) c.repeat.ensures.repeated ∙ w.width_is;
      code_is = w.code_is;
      behind = w.behind;
      within = w.within;
      stands = put_stage (fields_of c.args.image.now.header) c.args.image.now.height
          (code_view (record c.args.course.now { decoder = c.skip_rows-count.new.decoder }) (record c.args.self.now { row = c.args.self.now.row + c.skip_rows-count.result })
          (held c.repeat.new.self) c.skip_rows-count.new.learned) text _ _ is
          (subst (λ z. CodeStands (sized (fields_of c.args.image.now.header) c.args.image.now.height)
          (head_place c.args.course.now.entities c.args.course.now.given c.args.self.now.at (carried_by c.repeat.new.self c.args.course.now.kept c.skip_rows-count.new.learned))
          (code_place (c.args.self.now.row + c.skip_rows-count.result) c.args.self.now.first c.args.self.now.marker c.skip_rows-count.new.decoder) text (out ++ copies c.skip_rows-count.result z))
          (sym row_is)
          (code_repeated k c.shape-shape.result (record { width_is = c.shape-shape.ensures.width; mode_is = c.shape-shape.ensures.mode }) count after c.skip_rows-count.new.decoder repeats few));
    }
