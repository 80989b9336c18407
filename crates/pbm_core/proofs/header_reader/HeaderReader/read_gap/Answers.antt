use Rattle.std.proofs.Common.{rules}
use Rattle.pbm_core.specs.declared.fault.PbmFault.TheVariants.{BadNumber}
use Rattle.pbm_core.specs.Pbm.{BeginsSpace, IsDigit}
use Rattle.pbm_core.proofs.HeaderGrows.{fault_grown, no_number}
use Rattle.pbm_core.proofs.header_reader.HeaderReader.read_gap.Goals as goal

pub returns-then-not-is_digit : goal.returns-then-not-is_digit
returns-then-not-is_digit c before is =
    let digit : ¬ IsDigit c.args.byte = search rules in
    let space : ¬ BeginsSpace c.args.byte = search rules in
    (fault_grown c.args.byte BadNumber is (λ rest gap. no_number rest c.args.byte gap digit space), λ h. cc, λ h. cc)
