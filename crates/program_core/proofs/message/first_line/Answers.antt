use Rattle.std.proofs.Common.{Some, None, arith, sym}
use Rattle.std.proofs.lemmas.List.{take_all}
use Rattle.std.proofs.lemmas.Str.Pattern.{split_once_first}
use Rattle.program_core.proofs.message.first_line.Goals as goal

pub returns-in-Some : goal.returns-in-Some
returns-in-Some c = (split_once_first 10 c.args.text.now (Some (c.in-Some.line, c.in-Some.field-0-1)) c.in-Some.ensures.cases (omega arith)).1

pub returns-in-None : goal.returns-in-None
returns-in-None c =
    let at = split_once_first 10 c.args.text.now None c.in-None.ensures.cases (omega arith) in
    sym (take_all _ c.args.text.now (omega (arith, at)))
