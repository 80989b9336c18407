use Rattle.std.proofs.Common.{rules, subst}
use Rattle.devices.specs.Device.{SameInput}
use Rattle.t85_core.specs.Change.{input_change, output_change}
use Rattle.t85_core.specs.Encode.{Encode, layout_for}
use Rattle.t85_core.specs.Options.{settings_of}
use Rattle.t85_core.proofs.encoding.encode.Goals as goal

pub returns-clause-outcome : goal.returns-clause-outcome
returns-clause-outcome g c =
    subst (λ input. Encode (settings_of c.args.options.now) (layout_for c.args.form c.args.size) (input_change g.R.Input.view c.args.input.now input)
    (output_change g.W.Output.view c.args.output.now c.encode_by.new.output) c.encode_by.result) (search rules) c.encode_by.ensures.outcome

pub returns-clause-same_input : goal.returns-clause-same_input
returns-clause-same_input g c = subst (λ input. SameInput (g.R.Input.view c.args.input.now) (g.R.Input.view input)) (search rules) c.encode_by.ensures.same_input
