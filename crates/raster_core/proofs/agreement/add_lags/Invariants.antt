use Rattle.std.proofs.Common.{◌≡◌, ℕ, ◌+◌, ◌-◌, ◌<◌, ◌≤◌, get_or, length, Bool}
use Rattle.raster_core.specs.Machine.Words.{word, agreed_from, pixels_from}
use Rattle.raster_core.proofs.agreement.add_lags.Given as goal

abbrev pub invariant-loop-lag : goal.invariant-loop-lag
invariant-loop-lag l = record {
  none : l.fn.lags.end < l.fn.lags.start → l.lag ≤ l.fn.lags.start;
  long : length l.counts ≡ 128;
  near : (p : ℕ → Bool) (place : ℕ) → l.first ≡ word p place 64 → l.next ≡ word p (place + 64) 64 → l.near ≡ word p (place + 64 - (l.shift + (l.lag - l.fn.lags.start))) 64;
  far : (p : ℕ → Bool) (place : ℕ) → l.first ≡ word p place 64 → l.far ≡ word p place (64 - (l.shift + (l.lag - l.fn.lags.start)));
  done : (p m : ℕ → Bool) (place a c : ℕ) → l.first ≡ word p place 64 → l.next ≡ word p (place + 64) 64 → l.word ≡ word p a 64 → l.mask ≡ word m c 64 →
      (j : ℕ) → l.fn.lags.start ≤ j → j < l.lag → get_or l.counts j 0 ≡ get_or l.initial.counts j 0
      + agreed_from (pixels_from p a) (pixels_from p (place + 64 + l.fn.lags.start - (l.shift + j))) (pixels_from m c) 64;
  below : (j : ℕ) → j < l.fn.lags.start → get_or l.counts j 0 ≡ get_or l.initial.counts j 0;
  above : (j : ℕ) → l.lag ≤ j → get_or l.counts j 0 ≡ get_or l.initial.counts j 0;
  room : (j : ℕ) → get_or l.counts j 0 ≤ get_or l.initial.counts j 0 + 64;
}
