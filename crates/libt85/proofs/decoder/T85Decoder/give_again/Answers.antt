use Rattle.std.proofs.Common.{◌∙◌, ◌++◌, ap, inr, take, drop, rules, arith, take-append-drop}
use Rattle.t85_core.specs.Options.{fields_of}
use Rattle.libt85.specs.DecoderState.{hold_of}
use Rattle.libt85.proofs.DecoderIsCalled.{again_cut, long_enough, must_cut, never_begun, one_resumed}
use Rattle.libt85.proofs.DecoderReadsHeader.{counted}
use Rattle.libt85.proofs.DecoderHoldsRows.{rows_resumed}
use Rattle.libt85.proofs.decoder.T85Decoder.give_again.Goals as goal

pub returns-in-Some : goal.returns-in-Some
returns-in-Some c =
    let self = c.args.self.now in
    let needed = c.window_bytes-needed.result in
    let front = take needed c.args.window.now in
    let again = c.repeat_row.ensures in
    let is = c.in-Some.ensures.is in
    let header_of = c.in-Ok.ensures.accepted in
    record {
      rows = λ some. again_cut c.headers.ensures self c.repeat_row.new.self c.args.window.now c.repeat_row.new.memory (drop needed c.args.window.now) needed c.in-Ok.header
          header_of again.same_header c.window_bytes-needed.ensures (search rules)
          (λ stream out h. (again.rows stream out
          (rows_resumed c.headers.ensures header_of (search rules) c.in-Some.ensures.resumes stream out (counted (hold_of self front) stream out c.requires.next h))).0 some);
      all = must_cut c.headers.ensures self c.repeat_row.new.self c.args.window.now c.repeat_row.new.memory (drop needed c.args.window.now) needed c.in-Ok.header
          header_of again.same_header c.window_bytes-needed.ensures (search rules)
          (λ stream out h. (again.rows stream out
          (rows_resumed c.headers.ensures header_of (search rules) c.in-Some.ensures.resumes stream out (counted (hold_of self front) stream out c.requires.next h))).1);
      none = λ z.
          let same = again.none z in
          ap (λ h. hold_of h.decoder (h.window ++ drop needed c.args.window.now)) same ∙ ap (hold_of self) (take-append-drop needed c.args.window.now);
      within = λ some. again.within;
      after_a_row = λ some. (let given = c.if-self-eq0.false in omega (arith, given));
      limit = again.limit;
      not_begun = λ no. absurd (never_begun self (fields_of c.in-Ok.header) c.requires.version (inr c.requires.next) header_of
          (λ rows. one_resumed self c.in-Ok.header c.in-Some.decoder (search rules) header_of is.0 is.2 is.3) no);
      ended = λ end. (let next = c.requires.next in omega (arith, next, end));
      short = λ lacks. absurd (long_enough c.headers.ensures (hold_of self c.args.window.now) c.in-Ok.header header_of (search rules) lacks);
    }
