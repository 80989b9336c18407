use Rattle.std.specs.Prelude.{OnErr, List, Bool, []}
use Rattle.raster_core.specs.Window.{held}
use Rattle.t85_core.specs.States.Written.{row_start_in}
use Rattle.t85_core.specs.States.Sent.{Origin}
use Rattle.t85_core.specs.States.ByRow.{Runs, view_of}
use Rattle.t85_core.specs.RowImage.{Image}
use Rattle.t85_core.specs.Private.RowSteps.{StripeBegun}
use Rattle.t85_core.proofs.StreamsAreWalked.InfoEnds.{exit_all}
use Rattle.t85_core.proofs.BytesJoin.WalkEnds.{always, always_err}
use Rattle.t85_core.proofs.BytesJoin.CallsJoin.{Appends-keeps, beginning_all}
use Rattle.t85_core.proofs.ImagesEncode.RowEncoderAdvances.{stripe_ended, stripe_cut, held_by_carried, carried_by_held}
use Rattle.t85_core.proofs.ImagesEncode.FewBytesAreAppended.{code_ended_few, kept_few}
use Rattle.t85_core.proofs.encoding.by_row.RowEncoder.end_stripe.Goals as goal

pub returns-in_err-end_entity-clause-cut : goal.returns-in_err-end_entity-clause-cut
returns-in_err-end_entity-clause-cut g c =
    exit_all (λ r. OnErr r ((image : Image) (rows : List (List Bool)) (origin : Origin) →
    Runs image rows (view_of c.args.self.now c.args.learning.now) (held c.args.window.now) origin (g.P.ByteTarget.view c.args.target.now).text →
    StripeBegun image c.args.self.now.in_stripe rows origin (g.P.ByteTarget.view c.end_entity.new.target).text)) c.from_residual.result c.from_residual.ensures.1
    (λ image rows origin r.
    let e = c.in_err-end_entity.ensures.ended (row_start_in image.settings image.width r.at r.part).state.place r.pushed r.running.codes in
    stripe_cut _ c.requires.some r c.writing_laws.ensures e.is e.all e.cut)

pub returns-clause-ok : goal.returns-clause-ok
returns-clause-ok g c = always c.write_held.result (λ image rows origin r.
    let e = c.in_ok-end_entity.ensures.ended (row_start_in image.settings image.width r.at r.part).state.place r.pushed r.running.codes in
    stripe_ended _ c.requires.some r c.writing_laws.ensures c.end_entity.new.encoder c.in_ok-end_entity.ensures.begins.0
    (λ last is. rw (← c.requires.lined.1) (held_by_carried (c.next_stripe.ensures.next last (carried_by_held is))))
    e e.ok c.write_held.ensures.text)

pub returns-clause-cut : goal.returns-clause-cut
returns-clause-cut g c = always_err c.write_held.result (λ image rows origin r.
    let e = c.in_ok-end_entity.ensures.ended (row_start_in image.settings image.width r.at r.part).state.place r.pushed r.running.codes in
    stripe_cut _ c.requires.some r c.writing_laws.ensures e.is e.all
    (beginning_all (Appends-keeps _ _ _ e.more e.ok c.write_held.ensures.text)))

pub returns-in_err-end_entity-clause-few : goal.returns-in_err-end_entity-clause-few
returns-in_err-end_entity-clause-few g c =
    let somewhere = c.requires.able.somewhere in
    code_ended_few c.writing_laws.ensures c.args.self.now.encoder somewhere.0 [] somewhere.1 somewhere.2 _ _
    (c.in_err-end_entity.ensures.ended somewhere.0 somewhere.1 somewhere.2)

pub returns-clause-few : goal.returns-clause-few
returns-clause-few g c =
    let somewhere = c.requires.able.somewhere in
    kept_few
    (code_ended_few c.writing_laws.ensures c.args.self.now.encoder somewhere.0 [] somewhere.1 somewhere.2 _ _
    (c.in_ok-end_entity.ensures.ended somewhere.0 somewhere.1 somewhere.2)) c.write_held.ensures.text
