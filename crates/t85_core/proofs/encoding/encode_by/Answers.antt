use Rattle.std.proofs.Common.{rules, ◌≡◌, ◌∙◌, sym, ap, subst}
use Rattle.std.specs.Prelude.{IfErr, OnOk}
use Rattle.t85_core.specs.Encode.{IsEncodeFault, layout_for}
use Rattle.t85_core.specs.Failures.{IfMissing}
use Rattle.t85_core.specs.Jbg.{jbg}
use Rattle.t85_core.specs.Options.{settings_of}
use Rattle.t85_core.specs.RowSink.{held_of}
use Rattle.t85_core.specs.Private.EncodeStripes.{ImageCoded, ImageFront, JbgShort}
use Rattle.t85_core.specs.States.Passage.{passage_from}
use Rattle.t85_core.specs.States.Views.{text_taken}
use Rattle.t85_core.specs.declared.fault.Fault.TheVariants.{Pbm, Write}
use Rattle.t85_core.proofs.BytesJoin.WalkEnds.{map_if_err, map_ok, of_err, of_ok, one_or_other}
use Rattle.t85_core.proofs.BodiesDecode.ImageLeavesBuffer.{all_handed, text_unheld}
use Rattle.t85_core.proofs.ImagesEncode.StreamLeavesBuffer.{coded_handed, front_handed, front_of, short_handed}
use Rattle.t85_core.proofs.ImagesEncode.BodyIsEncoded.{are_settings, encoded, encodes_at, told_low}
use Rattle.t85_core.proofs.encoding.encode_by.Goals as goal

pub returns-clause-outcome : goal.returns-clause-outcome
returns-clause-outcome g c =
    let s = settings_of c.args.options.now in
    let layout = layout_for (g.S.RowSource.origin c.args.source.now).form c.args.size in
    let buffer = c.new-buffer.result in
    let went = c.encode_image-outcome in
    let left = c.finish.new.self in
    let r = c.finish.result in
    let source = g.S.RowSource.view c.args.source.now in
    let source_after = g.S.RowSource.view went.new.source in
    let text_after = (g.W.Output.view left.output.now).contents in
    let ok : OnOk r (ImageCoded layout (jbg s) (passage_from source source_after (text_taken buffer) text_after)) =
    map_ok r (λ k. coded_handed _ _ _ _ _ _ _ _ (of_ok k.0 went.ensures.ok) (all_handed _ _ _ _ _ k.1 k.2 c.finish.ensures.text)) c.finish.ensures.ok in
    let short : IfMissing r (JbgShort s layout (passage_from source source_after (text_taken buffer) text_after)) =
    λ fault is. one_or_other (λ write. absurd (let both : Pbm fault ≡ Write = write in let bot : ⊥ = cc in bot))
    (λ k. short_handed _ _ _ _ _ _ _ _ (went.ensures.short fault k.0) (all_handed _ _ _ _ _ k.1 k.2 c.finish.ensures.text)) (of_err _ is c.finish.ensures.err) in
    let begun : ImageFront layout (jbg s) (passage_from source source_after (text_taken buffer) (text_taken left)) =
    front_handed _ _ _ _ _ _ _ _ (front_of _ _ _ _ _ _ _ c.args.size.some_width went.result went.ensures.ok went.ensures.unwritten went.ensures.among went.ensures.short) c.finish.ensures.text in
    let among : IfErr r IsEncodeFault =
    map_if_err r (λ f told. one_or_other (λ write. subst IsEncodeFault (sym write) tt) (λ k. of_err IsEncodeFault k.0 went.ensures.among) told) c.finish.ensures.err in
    let behind = c.finish.ensures.writes buffer went.ensures.writes in
    let text = text_unheld buffer.bytes buffer.at buffer.end (g.W.Output.view buffer.output.now).contents c.new-buffer.ensures.empty
    ∙ ap (λ m. (g.W.Output.view m.now).contents) c.new-buffer.ensures.lent in
    encodes_at (λ d. (g.W.Output.view d).contents) (λ d. (g.W.Output.view d).failures) c.args.output.now text
    (ap (λ m. (g.W.Output.view m.now).failures) c.new-buffer.ensures.lent) (search rules)
    (encoded s (g.S.RowSource.origin c.args.source.now).form c.args.size.width c.args.size.height _ _ _ _
    (held_of left.bytes left.at left.end) c.code_denotes.ensures (are_settings c.args.options.now)
    (sym c.is_low.ensures ∙ c.if-is_low.false)
    (record { width_from = c.args.size.some_width; width_to = c.args.size.not_too_wide; height_from = c.args.size.some_height; height_to = search rules })
    ok short among (c.finish.ensures.reads _ _ went.ensures.reads, behind.0)
    (rw (text_unheld buffer.bytes buffer.at buffer.end (g.W.Output.view buffer.output.now).contents c.new-buffer.ensures.empty) behind.1, begun))

pub returns-then-is_low-clause-outcome : goal.returns-then-is_low-clause-outcome
returns-then-is_low-clause-outcome g c = told_low (g.S.RowSource.origin c.args.source.now).form c.args.size.width c.args.size.height _ _ _ _ c.args.size.some_width (sym c.is_low.ensures ∙ c.if-is_low.true)
