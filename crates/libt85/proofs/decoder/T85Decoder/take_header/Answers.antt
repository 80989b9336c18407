use Rattle.std.proofs.Common.{rules}
use Rattle.t85_core.specs.Pieces.{is_last_piece}
use Rattle.libt85.proofs.DecoderReadsHeader.{awaited_within, header_cut, header_judged, header_reads, header_waits, judged_within}
use Rattle.libt85.proofs.decoder.T85Decoder.take_header.Goals as goal

pub returns-then-from-lt-HEADER_LEN-clause-answers : goal.returns-then-from-lt-HEADER_LEN-clause-answers
returns-then-from-lt-HEADER_LEN-clause-answers c = λ window.
    header_waits c.wait_for_header-answer.result c.requires.version c.requires.next c.fill_header-taken.ensures.filled (search rules) c.wait_for_header-answer.ensures.awaited

pub returns-else-from-lt-HEADER_LEN-clause-answers : goal.returns-else-from-lt-HEADER_LEN-clause-answers
returns-else-from-lt-HEADER_LEN-clause-answers c = λ window.
    header_judged c.headers.ensures c.requires.next c.fill_header-taken.ensures.filled (search rules) c.judge_header-answer.result c.judge_header-answer.ensures.judged

pub returns-then-from-lt-HEADER_LEN-clause-header : goal.returns-then-from-lt-HEADER_LEN-clause-header
returns-then-from-lt-HEADER_LEN-clause-header c = λ window reads. absurd (header_cut c.fill_header-taken.ensures.filled (search rules) reads)

pub returns-else-from-lt-HEADER_LEN-clause-header : goal.returns-else-from-lt-HEADER_LEN-clause-header
returns-else-from-lt-HEADER_LEN-clause-header c = λ window reads.
    header_reads c.headers.ensures c.requires.next c.fill_header-taken.ensures.filled
    (search rules) c.judge_header-answer.new.self c.judge_header-answer.result c.judge_header-answer.ensures.judged (search rules) reads

pub returns-then-from-lt-HEADER_LEN-clause-within : goal.returns-then-from-lt-HEADER_LEN-clause-within
returns-then-from-lt-HEADER_LEN-clause-within c =
    awaited_within c.wait_for_header-answer.new.self (is_last_piece c.args.more) c.wait_for_header-answer.result
    c.requires.next c.fill_header-taken.ensures.filled c.wait_for_header-answer.ensures.awaited

pub returns-else-from-lt-HEADER_LEN-clause-within : goal.returns-else-from-lt-HEADER_LEN-clause-within
returns-else-from-lt-HEADER_LEN-clause-within c =
    judged_within c.fill_header-taken.new.self c.judge_header-answer.new.self c.judge_header-answer.result c.judge_header-answer.ensures.judged
