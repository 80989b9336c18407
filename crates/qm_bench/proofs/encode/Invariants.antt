use Rattle.std.proofs.Common.{◌≡◌, false}
use Rattle.qm_core.specs.Encoder.{event_count, has_failed}
use Rattle.qm_bench.proofs.encode.Given as goal

abbrev pub invariant-loop : goal.invariant-loop
invariant-loop l = (has_failed l.encoder ≡ false) × (event_count l.encoder ≡ l.counter)
