-- Arguments, in terms of clap's contracts.
use Rattle.std.specs.Prelude.{◌≡◌, ◌^◌, ◌&&◌, ℕ, List, [], ◌∷◌, Option, Some, None, true, pos, if◌then◌else◌, nat_lt, option_and_then}
use Rattle.std.specs.Str.Parse.{digits_value, without_leading_plus}
use Rattle.clap.specs.ValueTests.{is_numeral}
use Rattle.clap.specs.Words.{App, Row, Rule, Text, app_of, new_rule, one_of, with_rule}
use Rattle.clap.specs.declared.builder.command.Command.{Command}
use Rattle.clap.specs.declared.builder.ArgAction.TheVariants.{Set, SetTrue}
use Rattle.clap.specs.declared.builder.value_parser.ValueParser.TheVariants as parser
use Rattle.program_core.specs.declared.args.Kind.{Kind}
use Rattle.program_core.specs.declared.args.Kind.TheVariants as kind

-- an option of one letter with a number, and possibly with a default
abbrev pub number_rule : Text → ℕ → List Text → Rule
number_rule id letter defaults = record (new_rule id) {
  short = Some letter;
  action = Some Set;
  parser = Some (parser.Signed (pos 0) (pos 4294967295));
  value_names = 1;
  defaults = defaults;
}

-- an option with a long name and a number
abbrev pub long_number_rule : Text → Text → Rule
long_number_rule id name = record (new_rule id) {
  long = Some name;
  action = Some Set;
  parser = Some (parser.Signed (pos 0) (pos 4294967295));
  value_names = 1;
}

-- an option of one letter with a text
abbrev pub text_rule : Text → ℕ → Rule
text_rule id letter = record (new_rule id) { short = Some letter; value_names = 1 }

-- an option of one letter without a value
abbrev pub flag_rule : Text → ℕ → Rule
flag_rule id letter = record (new_rule id) { short = Some letter; action = Some SetTrue }

-- a rule, with a number for its value
abbrev pub number_rule_of : Rule → Rule
number_rule_of rule = record rule {
  action = Some Set;
  parser = Some (parser.Signed (pos 0) (pos 4294967295));
  value_names = 1;
}

-- the rule of an argument of a kind
abbrev pub rule_for : Kind → Text → Rule
rule_for kind.File id = new_rule id
rule_for (kind.Flag letter) id = flag_rule id letter
rule_for kind.LongFlag id = record (new_rule id) { long = Some id; action = Some SetTrue }
rule_for (kind.Text letter) id = text_rule id letter
rule_for (kind.Number letter) id = number_rule id letter []
rule_for kind.LongNumber id = long_number_rule id id
rule_for (kind.Default letter value) id = number_rule id letter (value.now ∷ [])

-- a command has one more rule than another
abbrev pub HasAlso : Command → Rule → Command → Type 0
HasAlso c rule more = app_of more ≡ with_rule (app_of c) rule

-- the number below 2^32 that a text writes in decimal
abbrev pub decimal : Text → Option ℕ
decimal text = let digits = without_leading_plus text in
    if is_numeral digits && nat_lt (digits_value 10 digits) (2 ^ 32) then Some (digits_value 10 digits) else None

-- the number of an option in the matches
abbrev pub number_in : Text → List Row → Option ℕ
number_in id rows = option_and_then decimal (one_of id rows)

-- a command with a version, which `-V` and `--version` show
abbrev pub with_version : App → App
with_version a = record a { top = record a.top { has_version = true } }
