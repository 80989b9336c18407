use Rattle.std.proofs.Common.{rules, ◌≢◌, ◌≤◌, ◌∙◌, ap, subst}
use Rattle.std.specs.Prelude.{OnOk, IfErr}
use Rattle.std.specs.Io.KnownBytes.{prepend_known, append_known}
use Rattle.t85_core.specs.Change.{between}
use Rattle.t85_core.specs.Options.{fields_of}
use Rattle.t85_core.specs.Decode.{Decode}
use Rattle.t85_core.specs.States.DecodeStripes.{ImageRead, ImageCut}
use Rattle.t85_core.specs.Private.DecodeStripes.{ImageUnwritten}
use Rattle.t85_core.specs.RowSink.{held_of, known_length}
use Rattle.t85_core.specs.States.Views.{text_taken}
use Rattle.t85_core.specs.Failures.{CountsBoth, CountsWrite}
use Rattle.t85_core.specs.declared.fault.Fault.TheVariants.{Write}
use Rattle.t85_core.specs.States.Passage.{passage}
use Rattle.t85_core.proofs.BytesJoin.WalkEnds.{either_way, map_if_err, map_ok, of_err, of_ok, one_or_other}
use Rattle.t85_core.proofs.BytesJoin.InputHoldsBytes.{known_unheld}
use Rattle.t85_core.proofs.BodiesDecode.ImageLeavesBuffer.{all_handed, begun_handed, cut_handed, image_begun, image_handed, text_unheld}
use Rattle.t85_core.proofs.BodiesDecode.ImageIsPut.{header_in_use}
use Rattle.t85_core.proofs.BodiesDecode.BodyIsDecoded.{decoded, decodes_at, decodes_unheaded}
use Rattle.t85_core.proofs.decoding.decode.Goals as goal

pub returns-in-Err-clause-outcome : goal.returns-in-Err-clause-outcome
returns-in-Err-clause-outcome g c = decodes_unheaded (fields_of c.args.header.now) c.args.height _ _ _ _ _ _ c.in-Err.ensures.cut c.in-Err.ensures.failures

pub returns-clause-outcome : goal.returns-clause-outcome
returns-clause-outcome g c =
    let h = fields_of c.args.header.now in
    let height = c.args.height in
    let used = header_in_use c.args.header.now height c.requires.height in
    let stream = c.new-stream.result in
    let buffer = c.new-buffer.result in
    let went = c.decode_image-outcome in
    let r = c.finish.result in
    let input = went.new.stream.input.now in
    let output = c.finish.new.self.output.now in
    let after = prepend_known (held_of went.new.stream.bytes went.new.stream.at went.new.stream.end) (g.R.Input.view input).remaining in
    let text_after = (g.W.Output.view output).contents in
    let known = known_unheld stream.bytes (g.R.Input.view stream.input.now).remaining c.new-stream.ensures.empty ∙ ap (λ m. (g.R.Input.view m.now).remaining) c.new-stream.ensures.lent in
    let text = text_unheld buffer.bytes buffer.at buffer.end (g.W.Output.view buffer.output.now).contents c.new-buffer.ensures.empty
    ∙ ap (λ m. (g.W.Output.view m.now).contents) c.new-buffer.ensures.lent in
    let known_before = prepend_known (held_of stream.bytes stream.at stream.end) (g.R.Input.view stream.input.now).remaining in
    let text_before = (g.W.Output.view c.write_header.new.output).contents in
    let ok : OnOk r (ImageRead h height (passage (g.R.Input.view c.args.input.now).remaining after text_before text_after)) =
    subst (λ z. OnOk r (ImageRead h height (passage z after text_before text_after))) known
    (subst (λ z. OnOk r (ImageRead h height (passage known_before after z text_after))) text
    (map_ok r (λ k. image_handed _ _ _ _ _ _ _ (of_ok k.0 went.ensures.ok) (all_handed _ _ _ _ _ k.1 k.2 c.finish.ensures.text)) c.finish.ensures.ok)) in
    let err : IfErr r (λ f. f ≢ Write → ImageCut h height (passage (g.R.Input.view c.args.input.now).remaining after text_before text_after) f) =
    subst (λ z. IfErr r (λ f. f ≢ Write → ImageCut h height (passage z after text_before text_after) f)) known
    (subst (λ z. IfErr r (λ f. f ≢ Write → ImageCut h height (passage known_before after z text_after) f)) text
    (map_if_err r (λ f told other. one_or_other (λ write. absurd (other write))
    (λ k.
    let cut = of_err (λ e. e ≢ Write → ImageCut h height (passage known_before after (text_taken buffer) (text_taken went.new.sink)) e) k.0 went.ensures.err in
    cut_handed _ _ _ _ _ _ _ f (cut other) (all_handed _ _ _ _ _ k.1 k.2 c.finish.ensures.text)) told) c.finish.ensures.err)) in
    let reads : CountsBoth (g.R.Input.view c.args.input.now).failures (g.R.Input.view input).failures r =
    subst (λ z. CountsBoth z (g.R.Input.view input).failures r) (ap (λ m. (g.R.Input.view m.now).failures) c.new-stream.ensures.lent) (c.finish.ensures.reads _ _ went.ensures.reads.counts) in
    let behind = c.finish.ensures.writes buffer went.ensures.writes in
    let writes : CountsWrite (g.W.Output.view c.args.output.now).failures (g.W.Output.view output).failures r =
    subst (λ z. CountsWrite z (g.W.Output.view output).failures r) (ap (λ m. (g.W.Output.view m.now).failures) c.new-buffer.ensures.lent ∙ c.in-Ok.ensures.failures) behind.0 in
    let out_held = held_of c.finish.new.self.bytes c.finish.new.self.at c.finish.new.self.end in
    let in_held = held_of went.new.stream.bytes went.new.stream.at went.new.stream.end in
    let begun : ImageUnwritten h height (passage (g.R.Input.view c.args.input.now).remaining after text_before (append_known text_after out_held)) =
    subst (λ z. ImageUnwritten h height (passage z after text_before (append_known text_after out_held))) known
    (subst (λ z. ImageUnwritten h height (passage known_before after z (append_known text_after out_held))) text
    (begun_handed _ _ _ _ _ _ _ (either_way went.result (image_begun c.coder_laws.ensures h height used _ _ _ _) went.ensures.ok went.ensures.unwritten) c.finish.ensures.text)) in
    let grows : known_length text_before ≤ known_length text_after = subst (λ z. known_length z ≤ known_length text_after)
    (ap (λ m. (g.W.Output.view m.now).contents) c.new-buffer.ensures.lent) behind.1 in
    let done : Decode h height (between (g.R.Input.view c.args.input.now).remaining (g.R.Input.view input).remaining (g.R.Input.view c.args.input.now).failures (g.R.Input.view input).failures)
    (between (g.W.Output.view c.args.output.now).contents text_after (g.W.Output.view c.args.output.now).failures (g.W.Output.view output).failures) r =
    decoded c.coder_laws.ensures h height used _ _ _ _ c.in-Ok.ensures.whole in_held out_held after _ _ _ _ _ r ok err
    (λ read. one_or_other (λ write. absurd (let bot : ⊥ = cc in bot)) (λ k. went.ensures.reads.drained k.0) (of_err _ read c.finish.ensures.err)) reads writes grows begun in
    decodes_at (λ d. (g.R.Input.view d).remaining) (λ d. (g.R.Input.view d).failures) (λ d. (g.W.Output.view d).contents)
    (λ d. (g.W.Output.view d).failures) h height c.args.input.now c.args.output.now input _ output _ r (search rules) (search rules) done
