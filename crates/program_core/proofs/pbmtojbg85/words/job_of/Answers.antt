use Rattle.std.proofs.Common.{ap, inr, sym, ◌∙◌}
use Rattle.t85_core.specs.Options.{refusal_of}
use Rattle.program_core.proofs.pbmtojbg85.words.job_of.Goals as goal

pub returns-clause-values : goal.returns-clause-values
returns-clause-values c =
    record {
      p = c.number_or_default-p.ensures;
      s = c.number_or_default-s.ensures;
      m = c.number_or_default-m.ensures;
      announced = c.number-announced.ensures;
      reset = c.flag-reset.ensures;
      comment = c.in_ok-comment.ensures;
      input = c.in_ok-input.ensures;
      output = c.in_ok-output.ensures;
    }

pub returns-in-Err-clause-fault : goal.returns-in-Err-clause-fault
returns-in-Err-clause-fault c =
    inr (record {
      p = c.number_or_default-p.result;
      s = c.number_or_default-s.result;
      m = c.number_or_default-m.result;
      has_p = c.number_or_default-p.ensures;
      has_s = c.number_or_default-s.ensures;
      has_m = c.number_or_default-m.ensures;
      refused = ap (refusal_of c.number_or_default-p.result c.number_or_default-s.result c.number_or_default-m.result) (sym c.in_ok-comment.ensures ∙ sym c.comment_bytes.ensures)
          ∙ c.in-Err.ensures.judged;
    })
