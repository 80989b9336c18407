use Rattle.std.proofs.Common.{◌++◌, ◌∷◌, [], sym, subst}
use Rattle.pbm_core.specs.Image.{pixels_of}
use Rattle.raster_core.specs.Window.{held}
use Rattle.t85_core.specs.States.ByRow.{Stands, view_of}
use Rattle.examples.proofs.rows.put_by_numbers.Goals as goal

pub returns-in_err-again-clause-failed : goal.returns-in_err-again-clause-failed
returns-in_err-again-clause-failed g c none =
    absurd (c.in_err-again.ensures.resumes c.args.encoder.now c.requires.low c.requires.plan c.requires.ready c.numbers.ensures)

pub returns-in-Ok-clause-put : goal.returns-in-Ok-clause-put
returns-in-Ok-clause-put g c =
    let same = c.in_ok-again.ensures.resumes c.args.encoder.now c.requires.low c.requires.plan c.requires.ready c.numbers.ensures c.args.learning.now in (
      c.put_row.new.self,
      c.numbers-in-Ok.ensures,
      λ image rows origin so.
          subst (λ z. Stands image (rows ++ pixels_of z.width c.args.row.now ∷ []) (view_of c.put_row.new.self c.put_row.new.learning) (held c.put_row.new.window) origin
          (g.W.Output.view c.put_row.new.output).contents) c.in_ok-again.ensures.size
          (c.in-Ok.ensures.ok image rows origin
          (subst (λ v. Stands image rows v (held c.args.window.now) origin (g.W.Output.view c.args.output.now).contents) (sym same) so)),
    )
