use Rattle.pbm_core.proofs.RowIsJudged.{one_row, one_row_fault, row_or_fault}
use Rattle.pbm_core.proofs.PackedRowsAreRead.{packed_rows}
use Rattle.pbm_core.proofs.laws.rows.Goals as goal

pub returns : goal.returns
returns c = record {
  one_row = one_row;
  one_row_fault = one_row_fault;
  row_or_fault = row_or_fault;
  packed_are_rows = packed_rows;
}
