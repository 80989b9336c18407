use Rattle.std.proofs.Common.{refl, subst}
use Rattle.pbm_core.specs.Reading.{Reads}
use Rattle.pbm_core.specs.Image.{EndsInPixels}
use Rattle.pbm_core.specs.Private.{MakeByte}
use Rattle.pbm_core.proofs.BytesAreScanned.{reads_pixels}
use Rattle.pbm_core.proofs.rows.read_byte.Goals as goal

pub returns-in-Some : goal.returns-in-Some
returns-in-Some g c = reads_pixels c.in-Some.ensures.some

pub returns-in-None : goal.returns-in-None
returns-in-None g c = subst (λ v. Reads v (g.R.Input.view c.read_each.new.input) c.read_each.result (MakeByte c.args.count) (EndsInPixels c.args.count))
    (c.in-None.ensures.none refl) c.read_each.ensures
