use Rattle.std.proofs.Common.{◌∙◌, Err, ap, sym, true≢false}
use Rattle.libt85.proofs.EncoderBeginsStream.{head_written}
use Rattle.libt85.proofs.RoomSuffices.{head_fails_not}
use Rattle.libt85.proofs.encoder.T85Encoder.start_in.Goals as goal

pub returns-in-Ok-clause-begun : goal.returns-in-Ok-clause-begun
returns-in-Ok-clause-begun c = λ enough.
    let kept = c.keep.ensures in
    let chosen = c.choose.ensures in
    let written = head_written c.args.room.now c.start-started.new.output c.args.size.some_height c.requires.room enough c.in-Ok.ensures.begun in
    record {
      version_is = kept.same.version ∙ chosen.version;
      next_is = kept.same.next ∙ chosen.next;
      width_is = kept.same.width ∙ chosen.width;
      limit_is = kept.same.height ∙ chosen.height;
      settings_are = kept.same.settings ∙ chosen.settings;
      engine = c.in-Ok.engine;
      ready = c.in-Ok.ensures.begins.0;
      numbers_are = kept.numbers ∙ c.numbers.ensures;
      place_is = kept.place ∙ c.place.ensures.place;
      stands = rw (kept.same.learning, chosen.learning) written.0;
      head_is = written.1;
    }

pub returns-in-Err-clause-begun : goal.returns-in-Err-clause-begun
returns-in-Err-clause-begun c = λ enough.
    let failed = c.in-Err.ensures in
    absurd (head_fails_not c.args.room.now c.start-started.new.output c.requires.room enough failed.writes.counts failed.err
    (λ e. true≢false (sym (failed.low (ap Err e)).0 ∙ c.requires.not_low)) (λ e. failed.cut (ap Err e)))
