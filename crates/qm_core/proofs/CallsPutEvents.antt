-- The effects of an encoder's calls, as lists of events.
use Rattle.std.proofs.Common.{◌≡◌, ℕ, ◌+◌, Bool, true, false, List, [], ◌∷◌, refl, sym, ◌∙◌, ap, arith, replicate, Ok, Err}
use Rattle.std.specs.Prelude.{◌↔◌, Result, IsTrue, IsErr, is_err}
use Rattle.std.proofs.lemmas.List.{append-nil, length-replicate}
use Rattle.qm_core.specs.Place.{Place, Event, after}
use Rattle.qm_core.specs.Encoder.{EncoderIsAt, FailsOnce, Put, SkipsEvents, event_count, has_failed, encoder_state}
use Rattle.qm_core.specs.Skipping.{IsRun, has_room}
use Rattle.qm_core.specs.Puts.{IsSameLoan, state_at, Puts, Skips}
use Rattle.qm_core.specs.declared.coder.Coder.{Coder}
use Rattle.qm_core.specs.declared.encoder.CoderFault.{CoderFault}
use Rattle.qm_core.specs.declared.encoder.CoderFault.TheVariants.{Failed}
use Rattle.qm_core.specs.declared.sink.CodeSink.{Ghosts}
use Rattle.qm_core.specs.Sink.{sink_at}

had_not_failed : {T : Type 0} (b : Bool) (result : Result T CoderFault) (x : T) → (IsTrue b → result ≡ Err Failed) → result ≡ Ok x → b ≡ false
had_not_failed false result x h is = refl
had_not_failed true result x h is = let e = h refl in cc

not_both : (b : Bool) → IsTrue b → b ≡ false → ⊥
not_both true h e = cc
not_both false h e = cc

by_err : (b : Bool) (r : Result (Unit {0}) CoderFault) → (IsTrue b ↔ IsErr r) → b ≡ is_err r
by_err true (Ok x) h = let e = h.0 refl in cc
by_err true (Err f) h = refl
by_err false (Ok x) h = refl
by_err false (Err f) h = let e = h.1 refl in cc

no_err : (x : Unit {0}) → IsErr {T = Unit {0}} {E = CoderFault} (Ok x) → ⊥
no_err x h = cc

-- what a coder's `put` returned and left
pub record PutsOne {S : Type 0} (sink : Ghosts S) (c c' : Coder S) (cx : ℕ) (pixel : Bool) (result : Result (Unit {0}) CoderFault) : Type 0 where
  pub fails : FailsOnce sink.failed c.encoder.now c'.encoder.now c.out.now c'.out.now result
  pub unlearned : IsTrue (has_failed c.encoder.now) → c'.learned.now ≡ c.learned.now
  pub events : has_failed c.encoder.now ≡ false → event_count c'.encoder.now ≡ event_count c.encoder.now + 1
  pub put : (p : Place) (pushed : List ℕ) → has_failed c.encoder.now ≡ false → EncoderIsAt c.encoder.now p pushed →
      Put (sink_at sink c.out.now pushed) (state_at c p) cx pixel (encoder_state c'.out.now c'.encoder.now c'.learned.now) result

pub puts_one : {S : Type 0} {sink : Ghosts S} {c c' : Coder S} {cx : ℕ} {pixel : Bool} {result : Result (Unit {0}) CoderFault} →
    IsSameLoan c c' → PutsOne sink c c' cx pixel result → Puts sink (record { context = cx; pixel = pixel } ∷ []) c c' result
puts_one {c = c} {result = Ok x} lends u =
    let going : has_failed c.encoder.now ≡ false = had_not_failed (has_failed c.encoder.now) (Ok x) x (λ t. (u.fails.0.0 t).0) refl in
    record {
      lends = lends;
      count = u.events going;
      same = u.fails.0.2;
      stuck = λ t. absurd (not_both _ t going);
      goes = λ _. record {
        fails = by_err _ (Ok x) u.fails.2;
        fault = u.fails.0.1 going;
        counted = tt;
        ok = λ p pushed h. let v = u.put p pushed going h in record { more = v.more; taken = v.writes.ok; codes = v.codes; taught = v.taught };
        err = tt;
      };
    }
puts_one {cx = cx} {pixel} {result = Err f} lends u =
    record {
      lends = lends;
      count = tt;
      same = tt;
      stuck = λ t. ((u.fails.0.0 t).0, record { learned_is = u.unlearned t; encoder_is = u.fails.1 t; out_is = (u.fails.0.0 t).1 });
      goes = λ going. record {
        fails = by_err _ (Err f) u.fails.2;
        fault = u.fails.0.1 going;
        counted = u.fails.0.3 going;
        ok = tt;
        err = λ p pushed h. let v = u.put p pushed going h in record {
          events = record { context = cx; pixel = pixel } ∷ [];
          rest = [];
          all_are = refl;
          fails = record { more = v.more; cut = v.writes.err; begins = v.begins };
        };
      };
    }

-- what a coder's `skip` returned and left
pub record SkipsSome {S : Type 0} (c c' : Coder S) (event : Event) (count : ℕ) (skipped : Bool) : Type 0 where
  pub learned : c'.learned.now ≡ c.learned.now
  pub out : c'.out.now ≡ c.out.now
  pub skips : SkipsEvents count skipped c.encoder.now c'.encoder.now
  pub run : (p : Place) (pushed : List ℕ) → EncoderIsAt c.encoder.now p pushed → IsTrue skipped →
      IsRun (state_at c p) event count × EncoderIsAt c'.encoder.now (after (state_at c p) (replicate count event)).place pushed
  pub exact : (p : Place) (pushed : List ℕ) → has_failed c.encoder.now ≡ false → EncoderIsAt c.encoder.now p pushed → skipped ≡ has_room (state_at c p) event count

pub skips_run : {S : Type 0} (sink : Ghosts S) {c c' : Coder S} {event : Event} {count : ℕ} {skipped : Bool} → IsSameLoan c c' → SkipsSome c c' event count skipped →
    Skips sink event count c c' skipped
skips_run sink {c} {c'} {event} {count} lends u =
    record {
      lends = lends;
      done = λ is. record {
        lends = lends;
        count = let l = length-replicate count event in let e = u.skips.3 is in omega arith;
        same = ap sink.failed u.out;
        stuck = λ t. absurd (not_both _ is (u.skips.1 t));
        goes = λ was. record {
          fails = u.skips.0 ∙ was;
          fault = λ e. absurd (no_err tt e);
          counted = tt;
          ok = λ p pushed h.
              let k = u.run p pushed h is in
              record { more = []; taken = sym u.out; codes = rw append-nil k.1; taught = u.learned ∙ sym k.0.taught };
          err = tt;
        };
      };
      left = λ no. record { learned_is = u.learned; encoder_is = u.skips.2 no; out_is = u.out };
      exact = u.exact;
    }
