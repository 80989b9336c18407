-- The effect of encoding several events, one after another.
use Rattle.std.specs.Prelude.{ℕ, ◌+◌, ◌≡◌, ◌≤◌, ◌^◌, ◌++◌, Bool, false, IsTrue, IsErr, List, [], ◌∷◌, length, replicate, Result, Ok, Err, OnOk, OnErr, is_err}
use Rattle.qm_core.specs.Counts.{one_more}
use Rattle.qm_core.specs.Place.{Place, State, Event, after}
use Rattle.qm_core.specs.Encoder.{EncoderIsAt, EncoderState, IsStuffedFront, encoder_state, event_count, has_failed}
use Rattle.qm_core.specs.Sink.{SinkAt, Took, Refused, sink_at}
use Rattle.qm_core.specs.Skipping.{has_room}
use Rattle.qm_core.specs.declared.coder.Coder.{Coder}
use Rattle.qm_core.specs.declared.context.Context.{Context}
use Rattle.qm_core.specs.declared.encoder.CoderFault.{CoderFault}
use Rattle.qm_core.specs.declared.encoder.CoderFault.TheVariants.{Failed, Write}
use Rattle.qm_core.specs.declared.sink.CodeSink.{Ghosts}

-- a pixel in a context
abbrev pub event_of : Context → Bool → Event
event_of cx pixel = record { context = cx.number; pixel = pixel }

-- From a state after `old.pushed` was written, an encoder encoded these events, and the sink accepted all bytes.
pub record Encodes {S : Type 0} (old : SinkAt S) (s : State) (events : List Event) (new : EncoderState S) : Type 0 where
  pub more : List ℕ
  pub taken : Took old.sink.took old.from more new.out
  pub codes : EncoderIsAt new.encoder (after s events).place (old.pushed ++ more)
  pub taught : new.learned ≡ (after s events).learned

-- At the last of these events the sink refused a byte: it has some first bytes of a stuffed front of the place after them.
pub record Fails {S : Type 0} (old : SinkAt S) (s : State) (events : List Event) (to : S) : Type 0 where
  pub more : List ℕ
  pub cut : Refused old.sink.took old.sink.refused old.from more to
  pub begins : IsStuffedFront (old.pushed ++ more) (after s events).place

-- The sink refused a byte at one of these events: the last of `events`.
pub record FailsIn {S : Type 0} (old : SinkAt S) (s : State) (all : List Event) (to : S) : Type 0 where
  pub events : List Event
  pub rest : List Event
  pub all_are : all ≡ events ++ rest
  pub fails : Fails old s events to

-- the encoder has room for `count` more events
pub record HasRoom {S : Type 0} (count : ℕ) (c : Coder S) : Type 0 where
  pub events : event_count c.encoder.now + count ≤ 2 ^ 56

-- both have borrowed the same three values
pub record IsSameLoan {S : Type 0} (c c' : Coder S) : Type 0 where
  pub learned_is : c'.learned.ghost_name ≡ c.learned.ghost_name
  pub encoder_is : c'.encoder.ghost_name ≡ c.encoder.ghost_name
  pub out_is : c'.out.ghost_name ≡ c.out.ghost_name

-- the three borrowed values are unchanged
pub record IsUnchanged {S : Type 0} (c c' : Coder S) : Type 0 where
  pub learned_is : c'.learned.now ≡ c.learned.now
  pub encoder_is : c'.encoder.now ≡ c.encoder.now
  pub out_is : c'.out.now ≡ c.out.now

-- the result of an encoder that had already failed
abbrev pub failed_answer : List Event → Result (Unit {0}) CoderFault
failed_answer [] = Ok tt
failed_answer (e ∷ events) = Err Failed

-- the coder's state, with its encoder at a place
abbrev pub state_at : {S : Type 0} → Coder S → Place → State
state_at c p = record { place = p; learned = c.learned.now }

-- the effect on a coder that had not failed: these events are encoded, or some of them and then the sink failed once
pub record GoesOn {S : Type 0} (sink : Ghosts S) (events : List Event) (c c' : Coder S) (result : Result (Unit {0}) CoderFault) : Type 0 where
  pub fails : has_failed c'.encoder.now ≡ is_err result
  pub fault : IsErr result → result ≡ Err Write
  pub counted : OnErr result (sink.failed c'.out.now ≡ one_more (sink.failed c.out.now))
  pub ok : OnOk result ((p : Place) (pushed : List ℕ) → EncoderIsAt c.encoder.now p pushed →
      Encodes (sink_at sink c.out.now pushed) (state_at c p) events (encoder_state c'.out.now c'.encoder.now c'.learned.now))
  pub err : OnErr result ((p : Place) (pushed : List ℕ) → EncoderIsAt c.encoder.now p pushed →
      FailsIn (sink_at sink c.out.now pushed) (state_at c p) events c'.out.now)

-- These events were encoded one after another, up to a failure.
pub record Puts {S : Type 0} (sink : Ghosts S) (events : List Event) (c c' : Coder S) (result : Result (Unit {0}) CoderFault) : Type 0 where
  pub lends : IsSameLoan c c'
  pub count : OnOk result (event_count c'.encoder.now ≡ event_count c.encoder.now + length events)
  pub same : OnOk result (sink.failed c'.out.now ≡ sink.failed c.out.now)
  pub stuck : IsTrue (has_failed c.encoder.now) → (result ≡ failed_answer events) × IsUnchanged c c'
  pub goes : has_failed c.encoder.now ≡ false → GoesOn sink events c c' result

-- This event was encoded `count` times in one step, if and only if the interval had room for it without a doubling.
pub record Skips {S : Type 0} (sink : Ghosts S) (event : Event) (count : ℕ) (c c' : Coder S) (skipped : Bool) : Type 0 where
  pub lends : IsSameLoan c c'
  pub done : IsTrue skipped → Puts sink (replicate count event) c c' (Ok tt)
  pub left : skipped ≡ false → IsUnchanged c c'
  pub exact : (p : Place) (pushed : List ℕ) → has_failed c.encoder.now ≡ false → EncoderIsAt c.encoder.now p pushed →
      skipped ≡ has_room (state_at c p) event count
