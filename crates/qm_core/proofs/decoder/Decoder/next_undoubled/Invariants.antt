use Rattle.std.proofs.Common.{◌≡◌, ◌+◌, ◌*◌, ◌-◌, ◌≤◌, ◌<◌}
use Rattle.qm_core.specs.Skipping.{upper_size}
use Rattle.qm_core.proofs.decoder.Decoder.next_undoubled.Given as goal

abbrev pub invariant-pixels : goal.invariant-pixels
invariant-pixels l = record {
  few : l.count ≤ l.most;
  span_is : l.fn.self.span ≡ l.span + 128 * (l.count * upper_size l.learned l.fn.cx.number);
  above : l.floor < l.span + l.part;
}

abbrev pub decreases-pixels : goal.decreases-pixels
decreases-pixels l = l.most - l.count
