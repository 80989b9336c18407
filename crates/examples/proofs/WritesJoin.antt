-- The effect of successive calls on an output.
use Rattle.std.proofs.Common.{ℕ, Result, Ok, Err, ◌∙◌, ap}
use Rattle.devices.specs.Device.{OutputView}
use Rattle.t85_core.specs.declared.fault.Fault.{Fault}
use Rattle.t85_core.specs.Failures.{CountsWrite, OnlyWrites, writes_after}

counts_on : {T U : Type 0} (old mid new : ℕ) (x : T) (r : Result U Fault) → CountsWrite old mid (Ok x) → CountsWrite mid new r → CountsWrite old new r
counts_on old mid new x (Ok y) first second = second ∙ first
counts_on old mid new x (Err f) first second = second ∙ ap (writes_after f) first

-- the first went well
pub after_ok : {T U : Type 0} {old mid new : OutputView} {x : T} {r : Result U Fault} → OnlyWrites old mid (Ok x) → OnlyWrites mid new r → OnlyWrites old new r
after_ok {T} {U} {old} {mid} {new} {x} {r} first second = record {
  counts = counts_on old.failures mid.failures new.failures x r first.counts second.counts;
  no_flush = second.no_flush ∙ first.no_flush;
  same_target = second.same_target ∙ first.same_target;
}
