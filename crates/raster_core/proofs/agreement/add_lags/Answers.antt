use Rattle.std.proofs.Common.{◌≡◌, ℕ, ◌+◌, ◌-◌, ◌/◌, ◌^◌, ◌<◌, ◌≤◌, ◌≢◌, ◌∙◌, ap, arith, get_or, set, List, length, ◌⊎◌, inl, inr, get_or-set_other, get_or-set_same, length-set, refl}
use Rattle.raster_core.specs.Machine.Words.{word}
use Rattle.raster_core.proofs.BestIsFound.{le_cases}
use Rattle.raster_core.proofs.WordsHoldPixels.{second_part, far_next, near_next}
use Rattle.raster_core.proofs.agreement.add_lags.Goals as goal

first_shift : (s f : ℕ) → s ≡ s + (f - f)
first_shift s f = omega arith

next_shift : (s f l : ℕ) → f ≤ l → s + (l - f) + 1 ≡ s + (l + 1 - f)
next_shift s f l h = omega arith

pub loop-lag-init : goal.loop-lag-init
loop-lag-init c = record {
  none = λ h. omega arith;
  long = omega arith;
  near = λ p place e f. c.joined-near.ensures p place e f ∙ ap (λ s. word p (place + 64 - s) 64) (first_shift c.args.shift c.args.lags.start);
  far = λ p place e. ap (λ x. x / 2 ^ c.args.shift) e ∙ second_part p place c.args.shift (omega arith) ∙ ap (λ s. word p place (64 - s)) (first_shift c.args.shift c.args.lags.start);
  done = λ p m place a d e f g h j from below. absurd (omega arith);
  below = λ j lt. refl;
  above = λ j le. refl;
  room = λ j. omega arith;
}

same_else : (xs : List ℕ) (k v j : ℕ) → j ≢ k → get_or (set xs k v) j 0 ≡ get_or xs j 0
same_else xs k v j ne = rw get_or-set_other refl

same_here : (xs : List ℕ) (k v : ℕ) → k < length xs → get_or (set xs k v) k 0 ≡ v
same_here xs k v lt = rw get_or-set_same refl

pub loop-lag-preserved : goal.loop-lag-preserved
loop-lag-preserved c =
    let k : ℕ = c.loop-lag.lag in
    let xs : List ℕ = c.loop-lag.counts in
    let v : ℕ = get_or xs k 0 + c.agreed_word.result in
    let begin = c.loop-lag.auto.lag in
    let d : ℕ = c.args.shift + (k - c.args.lags.start) in
    let small : d < 64 = omega (arith, begin, c.requires.fits, c.loop-lag-test.true) in
    let there : k < length xs = omega arith in
    record {
      none = λ h. absurd (omega (arith, h, begin, c.loop-lag-test.true));
      long = length-set xs k v ∙ c.loop-lag.invariant.long;
      near = λ p place e f.
          rw (c.loop-lag.invariant.far p place e, c.loop-lag.invariant.near p place e f, near_next p place d small, next_shift c.args.shift c.args.lags.start k begin) refl;
      far = λ p place e.
          rw (c.loop-lag.invariant.far p place e, far_next p place d small, next_shift c.args.shift c.args.lags.start k begin) refl;
      done = λ p m place a q e f g h j from below.
          elim (le_cases j k (omega arith)) [
            | inr lt ↦ same_else xs k v j (λ eq. omega arith) ∙ c.loop-lag.invariant.done p m place a q e f g h j from lt
            | inl eq ↦
                let more = c.agreed_word.ensures.agreed p p m a (place + 64 - d) q g (c.loop-lag.invariant.near p place e f) h in
                rw (eq, same_here xs k v there, c.loop-lag.invariant.above k (omega arith), more, at_place place c.args.shift c.args.lags.start k begin) refl
          ];
      below = λ j lt. same_else xs k v j (λ eq. omega arith) ∙ c.loop-lag.invariant.below j lt;
      above = λ j le. same_else xs k v j (λ eq. omega arith) ∙ c.loop-lag.invariant.above j (omega arith);
      room = λ j.
          elim (eq_cases j k) [
            | inl eq ↦
                let a : get_or (set xs k v) j 0 ≡ v = rw eq (same_here xs k v there) in
                let b = c.loop-lag.invariant.above k (omega arith) in
                let same : get_or c.args.counts.now j 0 ≡ get_or c.args.counts.now k 0 = rw eq refl in
                omega (arith, a, b, same, c.agreed_word.ensures.small)
            | inr ne ↦
                let a = same_else xs k v j ne in
                omega (arith, a, c.loop-lag.invariant.room j)
          ];
    }
  where
    at_place : (x s f l : ℕ) → f ≤ l → x + 64 - (s + (l - f)) ≡ x + 64 + f - (s + l)
    at_place x s f l h = omega arith

    eq_cases : (i k : ℕ) → (i ≡ k) ⊎ (i ≢ k)
    eq_cases i k = grind arith
