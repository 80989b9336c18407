use Rattle.std.specs.Prelude.{OnErr, List, Bool, true, false, ◌≡◌, ◌++◌, ◌∷◌, []}
use Rattle.std.proofs.Common.{refl, sym, ◌∙◌}
use Rattle.raster_core.specs.Packed.{Held}
use Rattle.t85_core.specs.States.Sent.{Origin}
use Rattle.t85_core.specs.States.RowStream.{StreamCut}
use Rattle.t85_core.specs.States.ByRow.{Waits, view_of}
use Rattle.t85_core.specs.RowImage.{Image}
use Rattle.t85_core.proofs.StreamsAreWalked.InfoEnds.{exit_all}
use Rattle.t85_core.proofs.ImagesEncode.RowEncoderAdvances.{stripe_begun, move_cut}
use Rattle.t85_core.proofs.encoding.by_row.RowEncoder.begin_stripe.Goals as goal

pub returns-in_err-move_pixel-clause-cut : goal.returns-in_err-move_pixel-clause-cut
returns-in_err-move_pixel-clause-cut g c =
    exit_all (λ r. OnErr r ((image : Image) (rows : List (List Bool)) (row : List Bool) (before : Held) (origin : Origin) →
    Waits image rows (view_of c.args.self.now c.args.learning.now) before origin (g.P.ByteTarget.view c.args.target.now).text →
    StreamCut image (rows ++ row ∷ []) origin (g.P.ByteTarget.view c.move_pixel.new.target).text)) c.from_residual.result c.from_residual.ensures.1
    (λ image rows row before origin w. move_cut _ w c.requires.left row c.in_err-move_pixel.ensures.cut)

pub returns-then-self-clause-ok : goal.returns-then-self-clause-ok
returns-then-self-clause-ok g c image rows before origin w =
    stripe_begun _ w c.requires.left c.move_pixel.new.kept c.restart.new.self c.is_followed-self.result c.in_ok-move_pixel.ensures.ok (λ _. c.restart.ensures.counts) c.restart.ensures.two_line
    c.restart.ensures.most c.is_followed-self.ensures

pub returns-else-self-clause-ok : goal.returns-else-self-clause-ok
returns-else-self-clause-ok g c image rows before origin w =
    stripe_begun _ w c.requires.left c.move_pixel.new.kept c.args.learning.now.tally c.is_followed-self.result c.in_ok-move_pixel.ensures.ok
    (λ is. absurd (let e : true ≡ false = sym is ∙ c.if-self.false in let bot : ⊥ = cc in bot)) refl refl c.is_followed-self.ensures
