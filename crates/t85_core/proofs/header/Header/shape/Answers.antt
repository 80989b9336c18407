use Rattle.std.proofs.Common.{refl}
use Rattle.t85_core.proofs.StreamsAreWalked.StripeBegins.{two_line_bit, typical_bit}
use Rattle.t85_core.proofs.header.Header.shape.Goals as goal

pub returns-clause-mode : goal.returns-clause-mode
returns-clause-mode c = rw (two_line_bit c.args.self.now.options, typical_bit c.args.self.now.options) refl
