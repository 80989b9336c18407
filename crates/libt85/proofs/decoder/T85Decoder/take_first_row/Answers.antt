use Rattle.libt85.specs.DecoderState.{hold_of}
use Rattle.libt85.proofs.DecoderReadsHeader.{answers_from}
use Rattle.libt85.proofs.decoder.T85Decoder.take_first_row.Goals as goal

pub returns-clause-answers : goal.returns-clause-answers
returns-clause-answers c = answers_from (hold_of c.args.self.now c.args.memory.now)
    (hold_of c.enter_rows-decoder.new.self c.enter_rows-decoder.new.memory) _ _ _ c.enter_rows-decoder.ensures.has c.take_row.ensures.engine c.take_row.ensures.answers
