use Rattle.std.proofs.Common.{◌∙◌, ap}
use Rattle.t85_core.specs.Coding.{mode_of}
use Rattle.t85_core.specs.Options.{settings_of}
use Rattle.t85_core.proofs.ImagesEncode.BodyIsEncoded.{are_settings}
use Rattle.t85_core.proofs.StreamsDenote.HeaderIsWritten.{written_bits}
use Rattle.t85_core.proofs.encoding.learning.Learning.first.Goals as goal

pub returns : goal.returns
returns c =
    let s = settings_of c.args.options.now in
    let mode = c.shape-shape.ensures.mode ∙ ap (λ f. mode_of f.options) c.header.ensures ∙ (written_bits s (are_settings c.args.options.now)).mode in
    record { learned_is = c.new-2.ensures; two_line = c.new.ensures.two_line ∙ ap (λ m. m.two_line) mode; most = c.new.ensures.most; counts = c.new.ensures.counts }
