use Rattle.std.proofs.Common.{◌≡◌, take, rules, arith}
use Rattle.t85_core.specs.Options.{fields_of}
use Rattle.t85_core.specs.Pieces.{is_last_piece}
use Rattle.libt85.specs.DecoderState.{hold_of}
use Rattle.libt85.proofs.DecoderIsCalled.{long_enough, never_begun, not_begun, one_resumed, rows_next, short_window, window_cut}
use Rattle.libt85.proofs.DecoderReadsHeader.{answers_from, counted}
use Rattle.libt85.proofs.DecoderHoldsRows.{none_refused, rows_resumed, short_of}
use Rattle.libt85.proofs.decoder.T85Decoder.take_rows.Goals as goal

pub returns-in-Err-clause-answers : goal.returns-in-Err-clause-answers
returns-in-Err-clause-answers c = not_begun (hold_of c.args.self.now c.args.window.now) c.args.bytes.now (is_last_piece c.args.more) c.alone.result c.alone.ensures.answer c.alone.ensures.taken
    (λ stream out. none_refused c.headers.ensures (hold_of c.args.self.now c.args.window.now) _ stream out c.requires.next c.in-Err.ensures.refused)

pub returns-in-Err-clause-short : goal.returns-in-Err-clause-short
returns-in-Err-clause-short c = λ lacks. absurd (none_refused c.headers.ensures
    (hold_of c.args.self.now lacks.window) _ lacks.stream lacks.out c.requires.next c.in-Err.ensures.refused lacks.read)

pub returns-then-window-needed-clause-not_begun : goal.returns-then-window-needed-clause-not_begun
returns-then-window-needed-clause-not_begun c = λ no. absurd (never_begun c.args.self.now (fields_of c.in-Ok.header) c.requires.version c.requires.next c.in-Ok.ensures.accepted
    (λ rows none. (let first = c.if-self-eq-FIRST_ROW.true in omega (arith, rows, first))) no)

pub returns-then-self-eq-FIRST_ROW-clause-not_begun : goal.returns-then-self-eq-FIRST_ROW-clause-not_begun
returns-then-self-eq-FIRST_ROW-clause-not_begun c = λ no. absurd (never_begun c.args.self.now (fields_of c.in-Ok.header) c.requires.version c.requires.next c.in-Ok.ensures.accepted
    (λ rows none. (let first = c.if-self-eq-FIRST_ROW.true in omega (arith, rows, first))) no)

pub returns-then-self-eq-FIRST_ROW-clause-answers : goal.returns-then-self-eq-FIRST_ROW-clause-answers
returns-then-self-eq-FIRST_ROW-clause-answers c =
    let rows = c.take_first_row.ensures in
    window_cut c.headers.ensures c.args.self.now c.take_first_row.new.self c.args.window.now c.take_first_row.new.memory _ c.window_bytes-needed.result c.in-Ok.header
    c.in-Ok.ensures.accepted rows.same_header c.window_bytes-needed.ensures (search rules) _ c.take_first_row.result.answer rows.engine rows.answers

pub returns-then-needed-window-clause-answers : goal.returns-then-needed-window-clause-answers
returns-then-needed-window-clause-answers c =
    let alone = c.alone-then-needed-window.ensures in
    short_window (hold_of c.args.self.now c.args.window.now) c.args.bytes.now (is_last_piece c.args.more) c.alone-then-needed-window.result alone.answer alone.taken
    (λ stream out. short_of c.headers.ensures (hold_of c.args.self.now c.args.window.now) c.in-Ok.header stream out c.requires.next c.in-Ok.ensures.accepted (search rules))

pub returns-then-needed-window-clause-not_begun : goal.returns-then-needed-window-clause-not_begun
returns-then-needed-window-clause-not_begun c = λ no.
    let is = c.in-Some.ensures.is in
    absurd (never_begun c.args.self.now (fields_of c.in-Ok.header) c.requires.version c.requires.next c.in-Ok.ensures.accepted
    (λ rows. one_resumed c.args.self.now c.in-Ok.header c.in-Some.decoder (search rules) c.in-Ok.ensures.accepted is.0 is.2 is.3) no)

pub returns-clause-not_begun : goal.returns-clause-not_begun
returns-clause-not_begun c = λ no.
    let is = c.in-Some.ensures.is in
    absurd (never_begun c.args.self.now (fields_of c.in-Ok.header) c.requires.version c.requires.next c.in-Ok.ensures.accepted
    (λ rows. one_resumed c.args.self.now c.in-Ok.header c.in-Some.decoder (search rules) c.in-Ok.ensures.accepted is.0 is.2 is.3) no)

pub returns-clause-answers : goal.returns-clause-answers
returns-clause-answers c =
    let rows = c.take_row.ensures in
    let next : c.args.self.now.next ≡ 2 = rows_next c.args.self.now.next c.requires.next c.if-self-eq-FIRST_ROW.false in
    window_cut c.headers.ensures c.args.self.now c.take_row.new.self c.args.window.now c.take_row.new.memory _ c.window_bytes-needed.result c.in-Ok.header
    c.in-Ok.ensures.accepted rows.same_header c.window_bytes-needed.ensures (search rules) _ c.take_row.result.answer rows.engine
    (answers_from (hold_of c.args.self.now (take c.window_bytes-needed.result c.args.window.now)) (hold_of c.args.self.now (take c.window_bytes-needed.result c.args.window.now)) _ _ _
    (λ stream out h. rows_resumed c.headers.ensures c.in-Ok.ensures.accepted (search rules) c.in-Some.ensures.resumes stream out
    (counted (hold_of c.args.self.now (take c.window_bytes-needed.result c.args.window.now)) stream out next h))
    rows.engine rows.answers)

pub returns-clause-short : goal.returns-clause-short
returns-clause-short c = λ lacks. absurd (long_enough c.headers.ensures (hold_of c.args.self.now c.args.window.now) c.in-Ok.header c.in-Ok.ensures.accepted (search rules) lacks)
