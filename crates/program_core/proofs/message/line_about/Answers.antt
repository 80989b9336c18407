use Rattle.program_core.proofs.LinePartsFit.{in_one_line, line_whole, short_line}
use Rattle.program_core.proofs.message.line_about.Goals as goal

pub returns : goal.returns
returns c short = (
  c.first_line.result.now,
  in_one_line c.as_str.result.now c.first_line.ensures,
  line_whole c.new.ensures.text (record { puts = c.and_str.ensures.within }) (record { puts = c.and_str-2.ensures.within }) (record { puts = c.and_str-3.ensures.within })
      (record { puts = c.and_str-4.ensures.within }) short (short_line c.as_str.result.now c.first_line.ensures c.as_str.ensures.len),
)
