use Rattle.std.proofs.Common.{◌≡◌, [], true, subst, arith}
use Rattle.libt85.specs.Decoder.{Answers, bytes_call}
use Rattle.libt85.specs.DecoderState.{HasRead, hold_of}
use Rattle.libt85.proofs.decoder.t85_decode_end.Goals as goal

pub returns : goal.returns
returns c =
    let none : c.go_on-told.result.taken ≡ 0 = (let bound = c.go_on-told.ensures.answers.bound in omega (arith, bound)) in
    record {
      what = c.go_on-told.result.answer;
      status_is = c.status.ensures;
      answers = subst (λ n. Answers (HasRead (hold_of c.args.decoder.now c.args.window.now)) (hold_of c.args.decoder.now c.args.window.now)
          (hold_of c.go_on-told.new.self c.go_on-told.new.window) (bytes_call [] true n c.go_on-told.result.row) c.go_on-told.result.answer) none c.go_on-told.ensures.answers;
      not_begun = c.go_on-told.ensures.not_begun;
      ended = c.go_on-told.ensures.ended;
      limit = c.go_on-told.ensures.limit;
      once = c.go_on-told.ensures.once;
      header = c.go_on-told.ensures.header;
      short = c.go_on-told.ensures.short;
      within = c.go_on-told.ensures.within;
    }
