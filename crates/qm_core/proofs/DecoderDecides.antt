-- The relation of a decoder to its interval after a decided pixel.
use Rattle.std.proofs.Common.{◌≡◌, ℕ, ◌≤◌, Bool, List, ◌++◌, replicate, arith, refl, ◌∙◌, Result, Ok, Err}
use Rattle.std.specs.Prelude.{IsErr}
use Rattle.qm_core.specs.Place.{Place, State, Estimate, step}
use Rattle.qm_core.specs.Source.{SourceAt, bytes_of, heard_of, HasAsked, Gives}
use Rattle.qm_core.specs.Decoder.{DecoderIsAt, Fills, Next, decoder_state}
use Rattle.qm_core.specs.Machine.{Registers}
use Rattle.qm_core.specs.declared.source.Pulled.{Pulled}
use Rattle.qm_core.specs.declared.source.Heard.TheVariants.{Stopped}
use Rattle.qm_core.specs.declared.decoder.Decoder.{Decoder}
use Rattle.qm_core.specs.declared.decoder.Stop.{Stop}
use Rattle.qm_core.proofs.AnswersFixBytes.{length-bytes_of, Stands-Lies}
use Rattle.qm_core.proofs.DecoderPulls.{plain}

asked : {d : Decoder} {p : Place} {answers : List Pulled} → DecoderIsAt d p answers → 16 ≤ d.bits → HasAsked answers p.doublings
asked {d} {answers = answers} s enough =
    record {
      no_more = s.few;
      enough = λ more.
          let r = plain s (s.heard ∙ more) in
          let l = length-bytes_of answers more in
          let few = d.few in
          omega (arith, r.count);
    }

-- a fault still needs a byte
asked_stopped : {d : Decoder} {p : Place} {answers : List Pulled} → DecoderIsAt d p answers → heard_of answers ≡ Stopped → HasAsked answers p.doublings
asked_stopped s h = record { no_more = s.few; enough = λ e. cc }

-- what `decide` leaves of the registers
pub record Goes (d e : Decoder) (p q : Place) : Type 0 where
  pub enough : 16 ≤ d.bits
  pub heard : e.heard ≡ d.heard
  pub less : e.bits ≤ d.bits
  pub registers : (b : List ℕ) → Registers d.code d.span d.bits p b → Registers e.code e.span e.bits q b

pub stands_step : {d e : Decoder} {p q : Place} {answers : List Pulled} → DecoderIsAt d p answers → Goes d e p q → DecoderIsAt e q answers
stands_step {p = p} {q} {answers} s g =
    let r = g.registers (bytes_of answers ++ replicate s.zeros 0) s.registers in
    let more : p.doublings ≤ q.doublings = omega (arith, g.less, r.count, s.registers.count) in
    record {
      closed = s.closed;
      heard = g.heard ∙ s.heard;
      bytes = s.bytes;
      few = omega (arith, s.few);
      zeros = s.zeros;
      no_zeros = s.no_zeros;
      registers = r;
    }

-- the pixel is decided, after these pulls
pub next_ok : {S : Type 0} {old : SourceAt S} {to : S} {s : State} {cx : ℕ} (more : List Pulled) {d e : Decoder} {learned : List Estimate} {pixel : Bool} →
    Gives old.pull old.from more to → DecoderIsAt d s.place (old.answers ++ more) → Goes d e s.place (step s cx pixel).place → learned ≡ (step s cx pixel).learned →
    Next old s cx (decoder_state to e learned) (Ok pixel)
next_ok more {d} gives stands goes taught =
    let t = stands_step stands goes in
    record {
      more = more;
      gives = gives;
      asked = asked stands goes.enough;
      inside = λ c agrees. (Stands-Lies stands agrees, Stands-Lies t agrees);
      stands = t;
      taught = taught;
      stop = (λ n. cc, λ stopped. absurd (omega (arith, goes.enough, d.stuck (stands.heard ∙ stopped))));
      unchanged = tt;
    }

pub next_err : {S : Type 0} {old : SourceAt S} {to : S} {s : State} {cx : ℕ} {d : Decoder} {x : Stop} {q : Result Bool Stop} →
    Fills old s.place to d (Err x) → IsErr q → Next old s cx (decoder_state to d s.learned) q
next_err {q = Ok y} f e = cc
next_err {q = Err y} f e =
    record {
      more = f.more;
      gives = f.gives;
      asked = asked_stopped f.stands (f.stop.0 refl);
      inside = tt;
      stands = tt;
      taught = tt;
      stop = (λ _. f.stop.0 refl, λ _. refl);
      unchanged = (refl, f.stands);
    }
