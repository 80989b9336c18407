use Rattle.std.proofs.Common.{◌≡◌, ◌≤◌, ◌-◌, ℕ, List, IsTrue}
use Rattle.qm_core.specs.Place.{Place, state_of}
use Rattle.qm_core.specs.Machine.{Registers}
use Rattle.qm_core.specs.Decoder.{has_stopped}
use Rattle.qm_core.specs.Puts.{event_of}
use Rattle.qm_core.specs.Skipping.{RunGoes, pixel_run}
use Rattle.qm_core.proofs.decoder.Decoder.next_run.Given as goal

abbrev pub invariant-pixels : goal.invariant-pixels
invariant-pixels l = record {
  few : l.count ≤ l.most;
  less : l.self.bits ≤ l.fn.self.bits;
  heard : l.self.heard ≡ l.fn.self.heard;
  stopped : IsTrue (has_stopped l.fn.self) → l.count ≡ 0;
  none : l.count ≡ 0 → (l.self ≡ l.fn.self) × (l.learned ≡ l.fn.learned);
  goes : (p : Place) (b : List ℕ) → Registers l.fn.self.code l.fn.self.span l.fn.self.bits p b →
      RunGoes (pixel_run l.fn.self (state_of p l.fn.learned) (event_of l.cx l.pixel) l.count) l.self l.learned b;
}

abbrev pub decreases-pixels : goal.decreases-pixels
decreases-pixels l = l.most - l.count
