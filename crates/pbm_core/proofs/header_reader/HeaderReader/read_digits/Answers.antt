use Rattle.std.proofs.Common.{rules}
use Rattle.pbm_core.specs.declared.fault.PbmFault.TheVariants.{BadNumber}
use Rattle.pbm_core.specs.Pbm.{BeginsSpace, IsDigit}
use Rattle.pbm_core.proofs.HeaderGrows.{fault_grown, bad_number}
use Rattle.pbm_core.proofs.header_reader.HeaderReader.read_digits.Goals as goal

pub returns-then-not-ends : goal.returns-then-not-ends
returns-then-not-ends c before is =
    let digit : ¬ IsDigit c.args.byte = search rules in
    let space : ¬ BeginsSpace c.args.byte = search rules in
    (fault_grown c.args.byte BadNumber is (λ rest n. bad_number rest c.args.byte n digit space), λ h. cc, λ h. cc)
