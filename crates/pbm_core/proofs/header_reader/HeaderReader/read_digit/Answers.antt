use Rattle.std.proofs.Common.{arith}
use Rattle.pbm_core.specs.HeaderPieces.{limit_behind}
use Rattle.pbm_core.proofs.HeaderGrows.{grown, next_digit}
use Rattle.pbm_core.proofs.header_reader.HeaderReader.read_digit.Goals as goal

pub returns-clause-digits : goal.returns-clause-digits
returns-clause-digits c before is =
    grown c.args.byte is (λ rest n. next_digit (limit_behind c.args.self.width) c.args.self.value c.min-value.result c.args.byte rest n c.requires
    (let v = n.value_is in omega (arith, v, c.min-value.ensures, c.from.ensures, c.min.ensures, c.from-past.ensures, c.limit.ensures)))
