use Rattle.std.proofs.Common.{◌≡◌, ◌∙◌, ap, refl, string_bytes}
use Rattle.program_core.specs.Line.{status_of}
use Rattle.program_core.proofs.program.refuse.Goals as goal

pub returns-in-Ok-clause-does : goal.returns-in-Ok-clause-does
returns-in-Ok-clause-does g c short =
    let text : c.as_bytes.result.now ≡ string_bytes c.in-Help.text = c.as_bytes.ensures.value ∙ c.as_str.ensures.value in
    rw c.in-Help.is (record {
      outcome = c.write_bytes.result;
      writes = rw text at c.write_bytes.ensures;
      ends = rw c.in-Ok.is (c.status-status.ensures ∙ ap status_of c.in-Help.is, refl);
    })

pub returns-in-Help-clause-does : goal.returns-in-Help-clause-does
returns-in-Help-clause-does g c short =
    let text : c.as_bytes.result.now ≡ string_bytes c.in-Help.text = c.as_bytes.ensures.value ∙ c.as_str.ensures.value in
    rw c.in-Help.is (record {
      outcome = c.write_bytes.result;
      writes = rw text at c.write_bytes.ensures;
      ends = rw c.in-Err.is (c.report.ensures.status, c.report.ensures.reports short);
    })

pub returns-in-Usage-clause-does : goal.returns-in-Usage-clause-does
returns-in-Usage-clause-does g c short =
    let text : c.as_bytes-in-Usage.result.now ≡ string_bytes c.in-Usage.text = c.as_bytes-in-Usage.ensures.value ∙ c.as_str-in-Usage.ensures.value in
    rw c.in-Usage.is (record {
      outcome = c.write_bytes-in-Usage.result;
      writes = rw text at c.write_bytes-in-Usage.ensures;
      silent = refl;
      status_is = c.status-status.ensures ∙ ap status_of c.in-Usage.is;
    })
