-- How the fields of an encoder relate to its place and to the bytes written.
use Rattle.std.specs.Prelude.{ℕ, ◌+◌, ◌/◌, ◌≡◌, ◌==◌, ◌↔◌, Bool, true, false, List, ◌++◌, length, Result, Err, Option, is_some, IsErr, IsTrue, OnOk, OnErr}
use Rattle.std.specs.Option.{unwrap_or}
use Rattle.qm_core.specs.Counts.{one_more}
use Rattle.qm_core.specs.Place.{Place, IsPlace, State, Estimate, step}
use Rattle.qm_core.specs.Code.{IsBytes, IsTrimmed, IsFront, IsCode, stuffed}
use Rattle.qm_core.specs.Sink.{SinkAt, Writes}
use Rattle.qm_core.specs.Machine.{run_bytes, Digits}
use Rattle.qm_core.specs.declared.encoder.Encoder.{Encoder}
use Rattle.qm_core.specs.declared.encoder.CoderFault.{CoderFault}
use Rattle.qm_core.specs.declared.encoder.CoderFault.TheVariants as coder
use Rattle.qm_core.specs.declared.registers.EncoderRegisters.{EncoderRegisters}

-- the number of events encoded
abbrev pub event_count : Encoder → ℕ
event_count e = e.events

-- whether the sink of an encoder has refused a byte
abbrev pub has_failed : Encoder → Bool
has_failed e = e.floor == 0x8000_0000

-- A failed encoder writes nothing and returns `Failed`. Any other returns an error if and only if its sink fails, once.
abbrev pub EndsOnce : {S T : Type 0} → (S → ℕ) → Encoder → S → S → Result T CoderFault → Type 0
EndsOnce failed e from to result =
    (IsTrue (has_failed e) → (result ≡ Err coder.Failed) × (to ≡ from)) × (has_failed e ≡ false → IsErr result → result ≡ Err coder.Write)
    × OnOk result (failed to ≡ failed from) × (has_failed e ≡ false → OnErr result (failed to ≡ one_more (failed from)))

-- The same, and a failed encoder is unchanged. After the call it has failed if and only if the result is an error.
abbrev pub FailsOnce : {S T : Type 0} → (S → ℕ) → Encoder → Encoder → S → S → Result T CoderFault → Type 0
FailsOnce failed e e' from to result = EndsOnce failed e from to result × (IsTrue (has_failed e) → e' ≡ e) × (IsTrue (has_failed e') ↔ IsErr result)

-- Either an encoder that has not failed encoded `count` events in one step, or nothing was done.
abbrev pub SkipsEvents : ℕ → Bool → Encoder → Encoder → Type 0
SkipsEvents count skipped e e' =
    (has_failed e' ≡ has_failed e) × (IsTrue (has_failed e) → skipped ≡ false) × (skipped ≡ false → e' ≡ e) × (skipped ≡ true → event_count e' ≡ event_count e + count)

-- an upper bound on the bytes that an encoder has not written yet: those that a carry may still change, and those filled
-- by the bits of its low end
abbrev pub waiting_bytes : Encoder → ℕ
waiting_bytes e = length (run_bytes e.tail.zeros e.tail.held e.tail.ones) + (e.bits + 7) / 8

-- the numbers of an encoder
abbrev pub encoder_registers : Encoder → EncoderRegisters
encoder_registers e = record {
  low = e.low;
  span = e.span;
  bits = e.bits;
  zeros = e.tail.zeros;
  has_held = is_some e.tail.held;
  held = unwrap_or e.tail.held 0;
  ones = e.tail.ones;
  events = e.events;
  has_failed = has_failed e;
}

-- The bytes that an encoder has not written yet: zeros, a byte that a carry may still increment, and bytes 255.
pub record HeldBack : Type 0 where
  pub zeros : ℕ
  pub held : Option ℕ
  pub ones : ℕ

abbrev pub held_back : ℕ → Option ℕ → ℕ → HeldBack
held_back zeros held ones = record { zeros = zeros; held = held; ones = ones }

abbrev pub held_by : Encoder → HeldBack
held_by e = held_back e.tail.zeros e.tail.held e.tail.ones

-- the registers and the bytes held back are those of the place, after these bytes were written to the sink
pub record RegistersAreAt (low span bits : ℕ) (tail : HeldBack) (p : Place) (pushed : List ℕ) : Type 0 where
  pub front : List ℕ
  pub is : pushed ≡ stuffed front
  pub bytes : IsBytes front
  pub trimmed : IsTrimmed front
  pub digits : Digits low span bits p (front ++ run_bytes tail.zeros tail.held tail.ones)

-- the encoder is at the place, after these bytes were written to the sink
abbrev pub EncoderIsAt : Encoder → Place → List ℕ → Type 0
EncoderIsAt e p pushed = RegistersAreAt e.low e.span e.bits (held_by e) p pushed

-- the encoder is at some place, after some bytes were written to the sink
pub record EncoderStands (e : Encoder) : Type 0 where
  pub place : Place
  pub is_place : IsPlace place
  pub pushed : List ℕ
  pub codes : EncoderIsAt e place pushed

-- these bytes are a front of the place, with stuffing
pub record IsStuffedFront (bytes : List ℕ) (p : Place) : Type 0 where
  pub front : List ℕ
  pub is : bytes ≡ stuffed front
  pub begins : IsFront front p

-- An encoder with its sink, its registers, and its adaptive context states.
pub record EncoderState (S : Type 0) : Type 0 where
  pub out : S
  pub encoder : Encoder
  pub learned : List Estimate

abbrev pub encoder_state : {S : Type 0} → S → Encoder → List Estimate → EncoderState S
encoder_state out encoder learned = record { out = out; encoder = encoder; learned = learned }

-- The effect of a call of `put` on an encoder that has not failed, at a state, after `old.pushed` was written.
-- If the sink refused a byte, it has accepted some first bytes of `more`.
pub record Put {S : Type 0} (old : SinkAt S) (s : State) (cx : ℕ) (pixel : Bool) (new : EncoderState S) (result : Result (Unit {0}) CoderFault) : Type 0 where
  -- the bytes that this pixel appends to those pushed, if the sink accepts them
  pub more : List ℕ
  pub writes : Writes old.sink old.from more new.out result
  pub codes : EncoderIsAt new.encoder (step s cx pixel).place (old.pushed ++ more)
  pub begins : IsStuffedFront (old.pushed ++ more) (step s cx pixel).place
  pub taught : new.learned ≡ (step s cx pixel).learned

-- the effect of selecting a subinterval
pub record Goes {S : Type 0} (old : SinkAt S) (p : Place) (to : S) (e : Encoder) (result : Result (Unit {0}) CoderFault) : Type 0 where
  pub more : List ℕ
  pub writes : Writes old.sink old.from more to result
  pub codes : EncoderIsAt e p (old.pushed ++ more)

-- the effect of `finish`
pub record Finish {S : Type 0} (old : SinkAt S) (p : Place) (to : S) (result : Result (Unit {0}) CoderFault) : Type 0 where
  pub code : List ℕ
  pub is : IsCode p code
  pub more : List ℕ
  pub all : old.pushed ++ more ≡ stuffed code
  pub writes : Writes old.sink old.from more to result
