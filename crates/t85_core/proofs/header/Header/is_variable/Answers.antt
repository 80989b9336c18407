use Rattle.t85_core.proofs.StreamsAreWalked.StripeBegins.{variable_bit}
use Rattle.t85_core.proofs.header.Header.is_variable.Goals as goal

pub returns : goal.returns
returns c = variable_bit c.args.self.now.options
