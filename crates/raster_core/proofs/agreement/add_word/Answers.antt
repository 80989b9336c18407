use Rattle.std.proofs.Common.{◌≡◌, ℕ, ◌+◌, ◌-◌, ◌∙◌, ap, arith, get_or, inl, inr, lit≤, refl}
use Rattle.raster_core.specs.Machine.Words.{agreed_from, pixels_from}
use Rattle.raster_core.proofs.WordsHaveOneColour.{even_agreed}
use Rattle.std.proofs.lemmas.Bool.{cases_lt}
use Rattle.raster_core.proofs.agreement.add_word.Goals as goal

beside : (x : ℕ) → x + 128 ≡ (x + 64) + 64
beside x = omega arith

near : (x s j : ℕ) → (x + 64) + 64 + s - (s + j) ≡ x + 128 - j
near x s j = omega arith

far : (x j : ℕ) → x + 64 + 64 - (0 + j) ≡ x + 128 - j
far x j = omega arith

none_more : (x y : ℕ) → x ≡ y → x + 0 ≡ y
none_more x y e = omega arith

pub returns-then-end-le64-clause-counts : goal.returns-then-end-le64-clause-counts
returns-then-end-le64-clause-counts d p m place c second before one mask lag from to =
    none_more _ _ (
    d.add_lags.ensures.counts p m (place + 64) (place + 128) c before (rw (one, beside place) refl) one mask lag from (omega arith)
    ∙ ap (λ x. get_or d.args.counts.now lag 0 + agreed_from (pixels_from p (place + 128)) (pixels_from p x) (pixels_from m c) 64) (near place d.args.least lag))

pub returns-else-end-le64-clause-counts : goal.returns-else-end-le64-clause-counts
returns-else-end-le64-clause-counts d p m place c second before one mask lag from to =
    none_more _ _ (elim (cases_lt lag 64) [
      | inl lt ↦
          let more = d.add_lags-else-end-le64.ensures.counts p m (place + 64) (place + 128) c before (rw (beside place) at one) one mask lag from lt in
          rw (d.add_lags-else-end-le64-2.ensures.below lag lt, more, near place d.args.least lag) refl
      | inr le ↦
          rw (d.add_lags-else-end-le64-2.ensures.counts p m place (place + 128) c second before one mask lag le (omega arith), d.add_lags-else-end-le64.ensures.above lag le, far) refl
    ])

pub returns-then-is_even-clause-counts : goal.returns-then-is_even-clause-counts
returns-then-is_even-clause-counts d p m place c second before one mask lag from to =
    rw (d.from.ensures, mask, even_agreed p m place c lag 64 (d.is_even.ensures p place second before one d.if-is_even.true) (omega (arith, to, d.requires.most)) (lit≤ tt)) refl
