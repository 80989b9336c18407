use Rattle.std.proofs.Common.{ℕ, false, List, Option, Some, None, Result, ◌≤◌, ◌+◌, ◌^◌, arith}
use Rattle.std.specs.Prelude.{IfSome}
use Rattle.t85_core.specs.Change.{Change, between}
use Rattle.raster_core.specs.Raster.{Raster}
use Rattle.t85_core.specs.declared.fault.Fault.{Fault}
use Rattle.t85_core.specs.ToPbm.{Delivery, ToPbm, second_reading}
use Rattle.t85_core.specs.Laws.{CodeDenotes, HeaderLaws}
use Rattle.examples.specs.Cut.{Begins, WritesFirst}
use Rattle.examples.proofs.PrefixGivesRows.{written}
use Rattle.examples.proofs.StreamIsAccepted.{LineOrFault}
use Rattle.examples.proofs.cut.rows_of_cut.Goals as goal

-- where the bytes are known
known : CodeDenotes → LineOrFault → HeaderLaws →
    (bytes : Option (List ℕ)) {limit reads reads' : ℕ} {left : Option (List ℕ)} {untouched : Type 0} {again : Change} {out : Delivery} {answer : Result (Unit {0}) Fault} → 2 ^ 32 ≤ limit + 1
    → ToPbm limit (between bytes left reads reads') (second_reading false untouched again) out answer →
    IfSome bytes (λ bytes. (raster : Raster) → Begins raster bytes → WritesFirst raster bytes out.change.old.bytes out.change.new.bytes answer)
known law line_law headers None large c = tt
known law line_law headers (Some bytes) large c = λ raster cut. written law line_law headers raster bytes cut large c

pub returns : goal.returns
returns g c = known c.code_denotes.ensures c.lines.ensures.line_or_fault c.headers.ensures (g.R.Input.view c.args.input.now).remaining (omega arith) c.to_pbm.ensures.outcome
