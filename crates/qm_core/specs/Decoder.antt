-- How the fields of a decoder relate to its place and to the bytes read.
use Rattle.std.specs.Prelude.{ℕ, ◌≡◌, ◌≢◌, ◌≤◌, ◌↔◌, Bool, List, ◌++◌, length, replicate, Result, IfOk, OnOk, OnErr, IsErr, IsTrue, false}
use Rattle.std.specs.Int.{from_bool}
use Rattle.qm_core.specs.Counts.{one_more}
use Rattle.qm_core.specs.Place.{Place, State, Estimate, step}
use Rattle.qm_core.specs.Code.{IsBytes, Lies, wanted_bytes}
use Rattle.qm_core.specs.Source.{bytes_of, heard_of, is_stopped, is_ended, IsClosed, Agrees, HasAsked, Gives, Pulls, SourceAt, source_at}
use Rattle.qm_core.specs.Machine.{Registers}
use Rattle.qm_core.specs.declared.source.CodeBytes.{Ghosts}
use Rattle.qm_core.specs.declared.source.Pulled.{Pulled}
use Rattle.qm_core.specs.declared.source.Heard.TheVariants.{Ended, Stopped}
use Rattle.qm_core.specs.declared.decoder.Decoder.{Decoder}
use Rattle.qm_core.specs.declared.decoder.Stop.{Stop}
use Rattle.qm_core.specs.declared.registers.DecoderRegisters.{DecoderRegisters}

-- whether the source of a decoder has failed
abbrev pub has_stopped : Decoder → Bool
has_stopped d = is_stopped d.heard

-- A stopped decoder only returns an error. It is stopped after an error, and only then; to stop it, its source fails once.
abbrev pub StopsOnce : {S T E : Type 0} → Ghosts S → Decoder → Decoder → S → S → Result T E → Type 0
StopsOnce source d d' from to result =
    (IsTrue (has_stopped d) → IsErr result × (d' ≡ d) × (to ≡ from)) × (IsTrue (has_stopped d') ↔ IsErr result)
    × OnOk result (source.failed to ≡ source.failed from) × (has_stopped d ≡ false → OnErr result (source.failed to ≡ one_more (source.failed from))) × (source.left to ≤ source.left from)

-- An error counts a failure of the source, and the source has no more left than before.
abbrev pub SourceGoesOn : {S T E : Type 0} → Ghosts S → S → S → Result T E → Type 0
SourceGoesOn source from to result = OnOk result (source.failed to ≡ source.failed from) × OnErr result (source.failed to ≡ one_more (source.failed from)) × (source.left to ≤ source.left from)

-- Either a decoder that has not stopped decoded pixels in one step, or nothing was done.
abbrev pub SkipsOrStays : Bool → Decoder → Decoder → Type 0
SkipsOrStays skipped d d' = (has_stopped d' ≡ has_stopped d) × (IsTrue skipped → has_stopped d ≡ false) × (skipped ≡ false → d' ≡ d)

-- the numbers of a decoder
abbrev pub decoder_registers : Decoder → DecoderRegisters
decoder_registers d = record { code = d.code; span = d.span; bits = d.bits; has_ended = from_bool (is_ended d.heard) }

-- the decoder is at the place, and its source has returned these answers
pub record DecoderIsAt (d : Decoder) (p : Place) (answers : List Pulled) : Type 0 where
  pub heard : d.heard ≡ heard_of answers
  pub closed : IsClosed answers
  pub bytes : IsBytes (bytes_of answers)
  pub few : length answers ≤ wanted_bytes p.doublings
  -- the number of zeros substituted after the end
  pub zeros : ℕ
  pub no_zeros : heard_of answers ≢ Ended → zeros ≡ 0
  pub registers : Registers d.code d.span d.bits p (bytes_of answers ++ replicate zeros 0)

-- a source with the relation of its type, which also counts failures, and with the answers returned so far
abbrev pub source_of : {S : Type 0} → Ghosts S → S → List Pulled → SourceAt S
source_of source from answers = source_at (Pulls source.gives source.failed) from answers

-- A decoder with its source, its registers, and its adaptive context states.
pub record DecoderState (S : Type 0) : Type 0 where
  pub source : S
  pub decoder : Decoder
  pub learned : List Estimate

abbrev pub decoder_state : {S : Type 0} → S → Decoder → List Estimate → DecoderState S
decoder_state source decoder learned = record { source = source; decoder = decoder; learned = learned }

-- the effect of reading until 16 bits are available
pub record Fills {S : Type 0} (old : SourceAt S) (p : Place) (to : S) (d : Decoder) (result : Result (Unit {0}) Stop) : Type 0 where
  pub more : List Pulled
  pub gives : Gives old.pull old.from more to
  pub stands : DecoderIsAt d p (old.answers ++ more)
  pub stop : IsErr result ↔ (heard_of (old.answers ++ more) ≡ Stopped)

-- the effect of a call of `next` on a decoder at a state, after its source returned `old.answers`
pub record Next {S : Type 0} (old : SourceAt S) (s : State) (cx : ℕ) (new : DecoderState S) (result : Result Bool Stop) : Type 0 where
  -- the answers of the source in this call
  pub more : List Pulled
  pub gives : Gives old.pull old.from more new.source
  pub asked : HasAsked (old.answers ++ more) s.place.doublings
  -- the pixel is the one whose interval contains the code, for every continuation of the code
  pub inside : IfOk result (λ pixel. (c : List ℕ) → Agrees (old.answers ++ more) c → Lies c s.place × Lies c (step s cx pixel).place)
  pub stands : IfOk result (λ pixel. DecoderIsAt new.decoder (step s cx pixel).place (old.answers ++ more))
  pub taught : IfOk result (λ pixel. new.learned ≡ (step s cx pixel).learned)
  pub stop : IsErr result ↔ (heard_of (old.answers ++ more) ≡ Stopped)
  pub unchanged : OnErr result ((new.learned ≡ s.learned) × DecoderIsAt new.decoder s.place (old.answers ++ more))
