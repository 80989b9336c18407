use Rattle.pbm_core.proofs.HeaderIsJudged.{one_header, one_fault, header_or_fault}
use Rattle.pbm_core.proofs.BytesAreKnown.{read_header_is_theirs, read_fault_is_theirs}
use Rattle.pbm_core.proofs.HeaderIsWritten.{written_is_read}
use Rattle.pbm_core.proofs.laws.headers.Goals as goal

pub returns : goal.returns
returns c = record {
  one_header = one_header;
  one_fault = one_fault;
  header_or_fault = header_or_fault;
  read_header_is_theirs = read_header_is_theirs;
  read_fault_is_theirs = read_fault_is_theirs;
  written_is_read = written_is_read;
}
