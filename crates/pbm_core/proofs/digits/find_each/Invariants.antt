use Rattle.std.proofs.Common.{◌≡◌, ◌≤◌, ◌+◌, ◌-◌, Bool, List, length, take}
use Rattle.pbm_core.specs.Image.{binary}
use Rattle.pbm_core.proofs.BytesAreScanned.{Scans}
use Rattle.pbm_core.proofs.digits.find_each.Given as goal

-- the pixels so far were found
abbrev pub invariant-bytes : goal.invariant-bytes
invariant-bytes l = record {
  pixels : List Bool;
  within : l.end ≤ length l.bytes;
  some : 1 ≤ l.left;
  many : length pixels + l.left ≡ l.fn.count;
  made : l.made ≡ binary pixels;
  scans : Scans (take l.end l.bytes) pixels;
}

abbrev pub decreases-bytes : goal.decreases-bytes
decreases-bytes l = length l.bytes - l.end
