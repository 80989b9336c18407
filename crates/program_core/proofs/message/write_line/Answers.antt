use Rattle.std.proofs.Common.{◌≡◌, ◌∙◌}
use Rattle.program_core.specs.Message.{fault_line}
use Rattle.program_core.proofs.message.write_line.Goals as goal

pub returns : goal.returns
returns g c short =
    let line = c.line_about-line.ensures short in
    let whole : c.as_bytes.result.now ≡ fault_line c.args.program.now line.0 = c.as_bytes.ensures.value ∙ c.as_str.ensures.value ∙ line.2 in
    record { text = line.0; one_line = line.1; written = c.write_bytes.result; writes = rw whole at c.write_bytes.ensures }
