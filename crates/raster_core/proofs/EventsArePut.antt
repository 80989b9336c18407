-- Events put after events.
use Rattle.std.proofs.Common.{◌≡◌, ℕ, ◌+◌, Bool, true, false, List, [], ◌∷◌, ◌++◌, length, refl, sym, ◌∙◌, ap, arith, subst, append_assoc, Ok, Err}
use Rattle.std.specs.Prelude.{◌↔◌, Result, IsTrue, IsErr, IsErrAnd, OnOk, OnErr, is_err}
use Rattle.std.proofs.lemmas.List.{append-nil, length-append}
use Rattle.qm_core.specs.Counts.{one_more}
use Rattle.qm_core.specs.Place.{Place, State, Event, Estimate, after}
use Rattle.qm_core.specs.Encoder.{EncoderIsAt, event_count, EncoderState, encoder_state}
use Rattle.qm_core.specs.Sink.{SinkAt, Took, Refused, sink_at}
use Rattle.qm_core.specs.declared.encoder.CoderFault.{CoderFault}
use Rattle.qm_core.specs.declared.sink.CodeSink.{Ghosts}
use Rattle.qm_core.specs.Puts.{Encodes, FailsIn, IsSameLoan, IsUnchanged, failed_answer, state_at, GoesOn, Puts}
use Rattle.qm_core.specs.declared.coder.Coder.{Coder}
use Rattle.raster_core.proofs.AnswersJoin.{Took-append}
use Rattle.raster_core.proofs.EventsAreDecoded.{after_append}

-- ---- small facts

by_err : (b : Bool) (r : Result (Unit {0}) CoderFault) → (IsTrue b ↔ IsErr r) → b ≡ is_err r
by_err true (Ok x) h = let e = h.0 refl in cc
by_err true (Err f) h = refl
by_err false (Ok x) h = refl
by_err false (Err f) h = let e = h.1 refl in cc

no_err : (x : Unit {0}) → IsErr {T = Unit {0}} {E = CoderFault} (Ok x) → ⊥
no_err x h = cc

none_of : (xs : List Event) → Ok tt ≡ failed_answer xs → xs ≡ []
none_of [] h = refl
none_of (x ∷ xs) h = cc

failed_more : (xs ys : List Event) (f : CoderFault) → Err f ≡ failed_answer xs → Err f ≡ failed_answer (xs ++ ys)
failed_more [] ys f h = cc
failed_more (x ∷ xs) ys f h = h

same_loan : {S : Type 0} {a b c : Coder S} → IsSameLoan a b → IsSameLoan b c → IsSameLoan a c
same_loan h k = record { learned_is = k.learned_is ∙ h.learned_is; encoder_is = k.encoder_is ∙ h.encoder_is; out_is = k.out_is ∙ h.out_is }

-- ---- codes after codes

refused_later : {S : Type 0} (took : S → ℕ → S → Type 0) (refused : S → S → Type 0) (from mid to : S) (xs ys : List ℕ) → Took took from xs mid → Refused took refused mid ys to →
    Refused took refused from (xs ++ ys) to
refused_later took refused from mid to xs ys t r =
    record {
      done = xs ++ r.done;
      left = r.left;
      all = rw (r.all) (sym (append_assoc xs r.done r.left));
      last = r.last;
      taken = Took-append took from mid r.last xs r.done t r.taken;
      then = r.then;
    }

-- the state after some events, and then after others
state_then : (s : State) (xs ys : List Event) (learned : List Estimate) → learned ≡ (after s xs).learned → after (record { place = (after s xs).place; learned = learned }) ys ≡ after s (xs ++ ys)
state_then s xs ys learned taught = rw taught (sym (after_append s xs ys))

pub encodes_join : {S : Type 0} {old : SinkAt S} {mid new : EncoderState S} {s : State} {xs : List Event} (ys : List Event) → Encodes old s xs mid →
    ((p : Place) (given : List ℕ) → EncoderIsAt mid.encoder p given → Encodes (sink_at old.sink mid.out given) (record { place = p; learned = mid.learned }) ys new) → Encodes old s (xs ++ ys) new
encodes_join {S} {old} {mid} {new} {s} {xs} ys h next =
    let k = next (after s xs).place (old.pushed ++ h.more) h.codes in
    let last = state_then s xs ys mid.learned h.taught in
    record {
      more = h.more ++ k.more;
      taken = Took-append old.sink.took old.from mid.out new.out h.more k.more h.taken k.taken;
      codes = rw (← last, ← append_assoc) k.codes;
      taught = rw (k.taught, last) refl;
    }

fails_later : {S : Type 0} {old : SinkAt S} {mid : EncoderState S} {new : S} {s : State} {xs : List Event} (ys : List Event) → Encodes old s xs mid →
    ((p : Place) (given : List ℕ) → EncoderIsAt mid.encoder p given → FailsIn (sink_at old.sink mid.out given) (record { place = p; learned = mid.learned }) ys new) → FailsIn old s (xs ++ ys) new
fails_later {S} {old} {mid} {new} {s} {xs} ys h next =
    let k = next (after s xs).place (old.pushed ++ h.more) h.codes in
    let last = state_then s xs k.events mid.learned h.taught in
    record {
      events = xs ++ k.events;
      rest = k.rest;
      all_are = rw (k.all_are) (sym (append_assoc xs k.events k.rest));
      fails = record {
        more = h.more ++ k.fails.more;
        cut = refused_later old.sink.took old.sink.refused old.from mid.out new h.more k.fails.more h.taken k.fails.cut;
        begins = rw (← last, ← append_assoc) k.fails.begins;
      };
    }

fails_first : {S : Type 0} {old : SinkAt S} {new : S} {s : State} {xs : List Event} (ys : List Event) → FailsIn old s xs new → FailsIn old s (xs ++ ys) new
fails_first ys h = record { events = h.events; rest = h.rest ++ ys; all_are = rw (h.all_are) (append_assoc h.events h.rest ys); fails = h.fails }

-- ---- no event

pub puts_none : {S : Type 0} {sink : Ghosts S} {c : Coder S} → Puts sink [] c c (Ok tt)
puts_none = record {
  lends = record { learned_is = refl; encoder_is = refl; out_is = refl };
  count = omega arith;
  same = refl;
  stuck = λ _. (refl, record { learned_is = refl; encoder_is = refl; out_is = refl });
  goes = λ going. record {
    fails = going;
    fault = λ e. absurd (no_err tt e);
    counted = tt;
    ok = λ p pushed h. record { more = []; taken = refl; codes = rw append-nil h; taught = refl };
    err = tt;
  };
}

-- ---- events after events

pub puts_join : {S : Type 0} {sink : Ghosts S} {a b c : Coder S} {xs ys : List Event} {result : Result (Unit {0}) CoderFault} →
    Puts sink xs a b (Ok tt) → Puts sink ys b c result → Puts sink (xs ++ ys) a c result
puts_join {S} {sink} {a} {b} {c} {xs} {ys} {result} h k =
    record {
      lends = same_loan h.lends k.lends;
      count = counted result k.count;
      same = unfailed result k.same;
      stuck = λ t.
          let was = h.stuck t in
          let none = none_of xs was.0 in
          let then = k.stuck (rw (was.1.encoder_is) t) in (
            then.0 ∙ ap (λ zs. failed_answer (zs ++ ys)) (sym none),
            record { learned_is = then.1.learned_is ∙ was.1.learned_is; encoder_is = then.1.encoder_is ∙ was.1.encoder_is; out_is = then.1.out_is ∙ was.1.out_is },
          );
      goes = λ going.
          let first = h.goes going in
          let second = k.goes first.fails in
          record {
            fails = second.fails;
            fault = second.fault;
            counted = failures result second.counted;
            ok = coded result first second;
            err = failed result first second;
          };
    }
  where
    counted : (r : Result (Unit {0}) CoderFault) → OnOk r (event_count c.encoder.now ≡ event_count b.encoder.now + length ys) →
        OnOk r (event_count c.encoder.now ≡ event_count a.encoder.now + length (xs ++ ys))
    counted (Ok x) e = let l = length-append xs ys in let f = h.count in omega arith
    counted (Err f) e = tt

    unfailed : (r : Result (Unit {0}) CoderFault) → OnOk r (sink.failed c.out.now ≡ sink.failed b.out.now) → OnOk r (sink.failed c.out.now ≡ sink.failed a.out.now)
    unfailed (Ok x) e = e ∙ h.same
    unfailed (Err f) e = tt

    failures : (r : Result (Unit {0}) CoderFault) → OnErr r (sink.failed c.out.now ≡ one_more (sink.failed b.out.now)) → OnErr r (sink.failed c.out.now ≡ one_more (sink.failed a.out.now))
    failures (Ok x) e = tt
    failures (Err f) e = e ∙ ap one_more h.same

    coded : (r : Result (Unit {0}) CoderFault) → GoesOn sink xs a b (Ok tt) → GoesOn sink ys b c r → OnOk r ((p : Place) (pushed : List ℕ) → EncoderIsAt a.encoder.now p pushed →
        Encodes (sink_at sink a.out.now pushed) (state_at a p) (xs ++ ys) (encoder_state c.out.now c.encoder.now c.learned.now))
    coded (Ok x) first second = λ p pushed at. encodes_join ys (first.ok p pushed at) second.ok
    coded (Err f) first second = tt

    failed : (r : Result (Unit {0}) CoderFault) → GoesOn sink xs a b (Ok tt) → GoesOn sink ys b c r → OnErr r ((p : Place) (pushed : List ℕ) → EncoderIsAt a.encoder.now p pushed →
        FailsIn (sink_at sink a.out.now pushed) (state_at a p) (xs ++ ys) c.out.now)
    failed (Ok x) first second = tt
    failed (Err f) first second = λ p pushed at. fails_later ys (first.ok p pushed at) second.err

-- a failure that `?` hands on
pub puts_handed : {S : Type 0} {sink : Ghosts S} {a b : Coder S} {xs : List Event} {f : CoderFault} {result : Result (Unit {0}) CoderFault} →
    IsErr result × IsErrAnd result (λ e. e ≡ f) → Puts sink xs a b (Err f) → Puts sink xs a b result
puts_handed {result = Ok x} is h = absurd (no_err x is.0)
puts_handed {result = Err e} is h = rw (is.1) h

-- it comes before all that was to follow
pub puts_stop : {S : Type 0} {sink : Ghosts S} {a b : Coder S} {xs : List Event} {f : CoderFault} {result : Result (Unit {0}) CoderFault} (ys : List Event) →
    IsErr result × IsErrAnd result (λ e. e ≡ f) → Puts sink xs a b (Err f) → Puts sink (xs ++ ys) a b result
puts_stop {xs = xs} {f} ys is h = puts_handed is (record {
  lends = h.lends;
  count = tt;
  same = tt;
  stuck = λ t. (failed_more xs ys f (h.stuck t).0, (h.stuck t).1);
  goes = λ going.
      let g = h.goes going in
      record {
        fails = g.fails;
        fault = g.fault;
        counted = g.counted;
        ok = tt;
        err = λ p pushed at. fails_first ys (g.err p pushed at);
      };
})

-- the same for other lists
pub puts_as : {S : Type 0} {sink : Ghosts S} {a b : Coder S} {xs ys : List Event} {result : Result (Unit {0}) CoderFault} → xs ≡ ys → Puts sink xs a b result → Puts sink ys a b result
puts_as e h = rw (← e) h

-- ---- a run in one step

-- a try that left all as it was
pub puts_idle : {S : Type 0} {sink : Ghosts S} {a b c : Coder S} {xs : List Event} → IsSameLoan b c → IsUnchanged b c → Puts sink xs a b (Ok tt) → Puts sink xs a c (Ok tt)
puts_idle {xs = xs} loan same h = puts_as (append-nil xs) (puts_join {ys = []} {result = Ok tt} h (record {
  lends = loan;
  count = let e = ap event_count same.encoder_is in omega arith;
  same = rw (same.out_is) refl;
  stuck = λ _. (refl, same);
  goes = λ going. record {
    fails = rw (same.encoder_is) going;
    fault = λ e. absurd (no_err tt e);
    counted = tt;
    ok = λ p pushed at. record {
      more = [];
      taken = sym same.out_is;
      codes = rw append-nil (subst (λ e. EncoderIsAt e p pushed) (sym same.encoder_is) at);
      taught = same.learned_is;
    };
    err = tt;
  };
}))
