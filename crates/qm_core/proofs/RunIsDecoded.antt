-- A run whose pixels are decoded one after another, and what ends it.
use Rattle.std.proofs.Common.{◌≡◌, ◌≢◌, ℕ, zero, suc, ◌+◌, ◌-◌, ◌*◌, ◌<◌, ◌≤◌, Bool, true, false, not, inl, inr, List, ◌++◌, length, replicate, arith, refl, sym, ap, ◌∙◌, subst}
use Rattle.std.specs.Prelude.{IsTrue}
use Rattle.std.proofs.lemmas.Bool.{cases_lt}
use Rattle.std.proofs.Math.Nat.{mul-le-mul_right}
use Rattle.qm_core.specs.Place.{Place, State, Event, Estimate, estimate_of, same, state_of, step, after}
use Rattle.qm_core.specs.Code.{Lies}
use Rattle.qm_core.specs.Source.{bytes_of, heard_of, is_stopped}
use Rattle.qm_core.specs.Machine.{Registers}
use Rattle.qm_core.specs.Decoder.{DecoderIsAt}
use Rattle.qm_core.specs.Skipping.{WantsNone, IsDetermined, RunDecoded, RunGoes, bits_left, pixel_run, upper_size}
use Rattle.qm_core.specs.declared.source.Pulled.{Pulled}
use Rattle.qm_core.specs.declared.source.Heard.{Heard}
use Rattle.qm_core.specs.declared.source.Heard.TheVariants.{More, Ended, Stopped}
use Rattle.qm_core.specs.declared.decoder.Decoder.{Decoder}
use Rattle.qm_core.proofs.AnswersFixBytes.{Lies-zeros}
use Rattle.qm_core.proofs.DecoderPulls.{plain}
use Rattle.qm_core.proofs.DecoderSkipsRun.{by_heard}
use Rattle.qm_core.proofs.OnePixelKeepsCode.{apart_once}
use Rattle.qm_core.proofs.RegistersSplit.{registers_lower}
use Rattle.qm_core.proofs.RunLowersSize.{HasRoomFor, lowered, run_is}

-- the last event of a run
after_last : (k : ℕ) (s : State) (event : Event) → after s (replicate (suc k) event) ≡ step (after s (replicate k event)) event.context event.pixel
after_last zero s event = refl
after_last (suc k) s event = after_last k (step s event.context event.pixel) event

-- one pixel more
pub record GoesOn (d' e : Decoder) (t : State) (event : Event) (learned' : List Estimate) (b : List ℕ) : Type 0 where
  pub enough : 16 ≤ d'.bits
  pub registers : Registers e.code e.span e.bits (step t event.context event.pixel).place b
  pub taught : learned' ≡ (step t event.context event.pixel).learned

pub run_goes_on : {d d' e : Decoder} {s : State} {event : Event} {k : ℕ} {learned learned' : List Estimate} {b : List ℕ} → Registers d.code d.span d.bits s.place b →
    RunGoes (pixel_run d s event k) d' learned b → GoesOn d' e (state_of (after s (replicate k event)).place learned) event learned' b → RunGoes (pixel_run d s event (k + 1)) e learned' b
run_goes_on {d} {d'} {e} {s} {event} {k} {learned} {learned'} {b} r g more =
    let next : suc k ≡ k + 1 = omega arith in
    let last = subst (λ n. after s (replicate n event) ≡ step (after s (replicate k event)) event.context event.pixel) next (after_last k s event) in
    let m = subst (λ l. GoesOn d' e (state_of (after s (replicate k event)).place l) event learned' b) g.taught more in
    record {
      registers = rw last m.registers;
      taught = rw last m.taught;
      ready = λ j l. elim (cases_lt j k) [
        | inl less ↦ g.ready j less
        | inr not_less ↦
            let is : k ≡ j = omega (arith, l, not_less) in
            subst (λ i. 16 ≤ bits_left (pixel_run d s event 0) i) is (omega (arith, r.count, g.registers.count, m.enough))
      ];
    }

after_joined : (k j : ℕ) (s : State) (event : Event) → after s (replicate (k + j) event) ≡ after (after s (replicate k event)) (replicate j event)
after_joined zero j s event = let e : 0 + j ≡ j = omega arith in ap (λ n. after s (replicate n event)) e
after_joined (suc k) j s event =
    let e : suc k + j ≡ suc (k + j) = omega arith in
    ap (λ n. after s (replicate n event)) e ∙ after_joined k j (step s event.context event.pixel) event

-- a run, and more pixels after it
pub run_joins : {d d' e : Decoder} {s : State} {event : Event} {k j : ℕ} {learned learned' : List Estimate} {b : List ℕ} → Registers d.code d.span d.bits s.place b →
    RunGoes (pixel_run d s event k) d' learned b → RunGoes (pixel_run d' (state_of (after s (replicate k event)).place learned) event j) e learned' b → RunGoes (pixel_run d s event (k + j)) e learned' b
run_joins {d} {d'} {e} {s} {event} {k} {j} {learned} {learned'} {b} r g more =
    let m = subst (λ l. RunGoes (pixel_run d' (state_of (after s (replicate k event)).place l) event j) e learned' b) g.taught more in
    let all = after_joined k j s event in
    record {
      registers = rw all m.registers;
      taught = rw all m.taught;
      ready = λ i l. elim (cases_lt i k) [
        | inl less ↦ g.ready i less
        | inr not_less ↦
            let is : k + (i - k) ≡ i = omega (arith, l, not_less) in
            let at = after_joined k (i - k) s event in
            let ready = m.ready (i - k) (omega (arith, l, not_less)) in
            subst (λ n. 16 ≤ bits_left (pixel_run d s event 0) n) is (rw at (omega (arith, r.count, g.registers.count, ready)))
      ];
    }

-- a run of favoured pixels that leaves the interval large
pub undoubled : {d d' : Decoder} {s : State} {event : Event} {b : List ℕ} (count : ℕ) → same event.pixel (estimate_of s.learned event.context).pixel ≡ true → 16 ≤ d.bits →
    d.span ≡ d'.span + 128 * (count * upper_size s.learned event.context) → d'.code ≡ d.code → d'.bits ≡ d.bits → Registers d.code d.span d.bits s.place b →
    RunGoes (pixel_run d s event count) d' s.learned b
undoubled {d} {d'} {s} {event} {b} count favoured enough span code bits r = record {
  registers = rw (code, bits, all) (rw size at (registers_lower (count * upper_size s.learned event.context) refl r));
  taught = sym (ap (λ t. t.learned) all);
  ready = λ k l. let same = ap (λ t. t.place.doublings) (run_is k s event (room k (omega (arith, l)))) in omega (arith, same, enough);
} where
  room : (k : ℕ) → k ≤ count → HasRoomFor s event k
  room k le = record {
    favoured = favoured;
    large = (let m = mul-le-mul_right (upper_size s.learned event.context) le in omega (arith, m, span, r.size, d'.large));
  }

  all : after s (replicate count event) ≡ lowered s (count * upper_size s.learned event.context)
  all = run_is count s event (room count (omega arith))

  size : d.span - 128 * (count * upper_size s.learned event.context) ≡ d'.span
  size = omega (arith, span)

-- the relation of the decoder to its interval after the run
pub run_decoded : {d d' : Decoder} {s : State} {event : Event} {count : ℕ} {learned : List Estimate} {answers : List Pulled} (stands : DecoderIsAt d s.place answers) →
    RunGoes (pixel_run d s event count) d' learned (bytes_of answers ++ replicate stands.zeros 0) → d'.heard ≡ d.heard → d'.bits ≤ d.bits → RunDecoded (pixel_run d s event count) answers d' learned
run_decoded {d} {d'} {s} {event} {count} {answers = answers} stands g heard less = record {
  ready = λ k l.
      let enough = g.ready k l in
      let first = g.ready 0 (omega (arith, l)) in
      by_heard (heard_of answers) _ _ _
      (λ more. let r = plain stands (stands.heard ∙ more) in omega (arith, r.count, enough))
      enough
      (λ stopped. absurd (omega (arith, d.stuck (stands.heard ∙ stopped), first)));
  stands = record {
    heard = heard ∙ stands.heard;
    closed = stands.closed;
    bytes = stands.bytes;
    few = omega (arith, stands.few, less, g.registers.count, stands.registers.count);
    zeros = stands.zeros;
    no_zeros = stands.no_zeros;
    registers = g.registers;
  };
  taught = g.taught;
}

-- an event that needs no pull is decided by 16 bits
enough_bits : {d : Decoder} {p : Place} {answers : List Pulled} → DecoderIsAt d p answers → (h : Heard) → heard_of answers ≡ h → WantsNone h d.bits p.doublings (length (bytes_of answers)) →
    16 ≤ d.bits
enough_bits stands More is wants = let r = plain stands (stands.heard ∙ is) in omega (arith, r.count, wants)
enough_bits stands Ended is wants = wants
enough_bits stands Stopped is wants = absurd wants

-- a decoder with 16 bits has not stopped
pub none_stopped : (d : Decoder) (h : Heard) → 16 ≤ d.bits → d.heard ≡ h → IsTrue (is_stopped h) → ⊥
none_stopped d More enough is h = cc
none_stopped d Ended enough is h = cc
none_stopped d Stopped enough is h = omega (arith, d.stuck is, enough)

-- a decoder that has stopped begins no run
pub none_begun : (d : Decoder) (count : ℕ) (h : Heard) → (0 < count → 16 ≤ d.bits) → d.heard ≡ h → IsTrue (is_stopped h) → count ≡ 0
none_begun d zero h ready is stopped = refl
none_begun d (suc n) h ready is stopped = absurd (none_stopped d h (ready (omega arith)) is stopped)

not_other : (x : Bool) → x ≢ not x
not_other true e = cc
not_other false e = cc

-- where 16 bits decide the other pixel, the next event is not this one
pub not_next : {d : Decoder} {p : Place} {learned : List Estimate} {answers : List Pulled} {event : Event} → DecoderIsAt d p answers →
    ((b : List ℕ) → Registers d.code d.span d.bits p b → 16 ≤ d.bits → Lies b (step (state_of p learned) event.context (not event.pixel)).place) →
    IsDetermined d (state_of p learned) answers event → ⊥
not_next {p = p} {learned} {answers} {event} stands other is =
    apart_once (bytes_of answers) (state_of p learned) event.context event.pixel (not event.pixel) (not_other event.pixel) is.inside
    (Lies-zeros (bytes_of answers) stands.zeros (other (bytes_of answers ++ replicate stands.zeros 0) stands.registers (enough_bits stands (heard_of answers) refl is.ready)))
