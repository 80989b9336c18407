use Rattle.std.proofs.Common.{◌∙◌, ap, inr, sym, rules}
use Rattle.t85_core.specs.Options.{fields_of}
use Rattle.libt85.specs.DecoderState.{hold_of}
use Rattle.libt85.proofs.DecoderIsCalled.{decoder_certain, never_begun, none_resumed, one_resumed}
use Rattle.libt85.proofs.DecoderReadsHeader.{not_some}
use Rattle.libt85.proofs.decoder.T85Decoder.certain.Goals as goal

pub returns-in-Err-clause-certain : goal.returns-in-Err-clause-certain
returns-in-Err-clause-certain c = λ window stream out k. absurd (not_some _ (sym (c.headers.ensures.not_refused c.args.self.now.header (fields_of k.decoder.image.header) k.header_of)
    ∙ c.in-Err.ensures.refused))

pub returns-in-Some-clause-certain : goal.returns-in-Some-clause-certain
returns-in-Some-clause-certain c =
    let is = c.in-Some.ensures.is in
    decoder_certain c.headers.ensures c.args.self.now c.in-Ok.header c.in-Some.decoder c.certain.result c.in-Ok.ensures.accepted (ap fields_of is.0) is.2 (c.certain.ensures.certain is.1)

pub returns-in-Some-clause-not_begun : goal.returns-in-Some-clause-not_begun
returns-in-Some-clause-not_begun c = λ no.
    let is = c.in-Some.ensures.is in
    absurd (never_begun c.args.self.now (fields_of c.in-Ok.header) c.requires.version (inr c.requires.next) c.in-Ok.ensures.accepted
    (λ rows. one_resumed c.args.self.now c.in-Ok.header c.in-Some.decoder (search rules) c.in-Ok.ensures.accepted is.0 is.2 is.3) no)

pub returns-in-None-clause-certain : goal.returns-in-None-clause-certain
returns-in-None-clause-certain c = λ window stream out k. absurd (none_resumed c.headers.ensures (hold_of c.args.self.now window) c.in-Ok.header c.in-Ok.ensures.accepted
    (λ d rows learned text out has header numbers. c.in-None.ensures.resumes d rows learned text out has header numbers) k)
