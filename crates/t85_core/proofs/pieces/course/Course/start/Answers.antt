use Rattle.std.proofs.Common.{◌*◌, ◌≡◌, ◌∙◌, refl, arith}
use Rattle.t85_core.specs.Options.{fields_of}
use Rattle.t85_core.specs.Lent.{carried_by}
use Rattle.t85_core.proofs.BodiesDecode.WalkGoesOn.{head_first}
use Rattle.t85_core.proofs.pieces.course.Course.start.Goals as goal

pub returns-clause-stands : goal.returns-clause-stands
returns-clause-stands c = record {
  left_is = (let z : 0 * c.args.image.now.header.l0 ≡ 0 = omega arith in omega (arith, z));
  width_is = c.restart.ensures.window.0.0 ∙ c.requires.width;
  code_is = tt;
  behind = tt;
  within = omega (arith, c.args.image.now.header.some_width);
  stands = head_first (fields_of c.args.image.now.header) c.args.image.now.height _ (carried_by c.restart.new.window c.restart.new.kept c.restart.new.learned) c.args.image.now.from
      c.args.image.now.header.some_rows (c.restart.ensures.window.0.0 ∙ c.requires.width) c.restart.ensures.first;
}

pub returns-clause-first : goal.returns-clause-first
returns-clause-first c = record { stage = refl; at = refl; entities = refl; given = refl }
