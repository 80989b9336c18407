use Rattle.std.proofs.Common.{◌≡◌, ◌∙◌, Some, rules, string_bytes}
use Rattle.clap.specs.Words.{first_value, found_of}
use Rattle.clap.proofs.WalkLemmas.{first_value-rows}
use Rattle.program_core.proofs.matches.text.Goals as goal

pub returns-in_ok-from_str-in-Some : goal.returns-in_ok-from_str-in-Some
returns-in_ok-from_str-in-Some c =
    let is : Some (string_bytes c.in_ok-from_str-in-Some.field-0) ≡ first_value (found_of c.args.matches.now) c.args.id.now = search rules in
    is ∙ first_value-rows (found_of c.args.matches.now) c.args.id.now

pub returns-in-None : goal.returns-in-None
returns-in-None c = c.in-None.ensures ∙ first_value-rows (found_of c.args.matches.now) c.args.id.now
