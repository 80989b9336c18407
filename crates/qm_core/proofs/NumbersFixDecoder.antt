-- Decoders with the same numbers are the same.
use Rattle.std.proofs.Common.{◌≡◌, false, ◌+◌, ◌^◌, ◌-◌, ◌≤◌, ◌<◌, ◌%◌, refl, ap}
use Rattle.std.specs.Coded.{le_prop}
use Rattle.std.specs.Int.{from_bool}
use Rattle.std.proofs.Props.{props}
use mathlib.Core.HLevel.{is_prop→PathP}
use Rattle.qm_core.specs.Source.{is_stopped, is_ended}
use Rattle.qm_core.specs.Decoder.{has_stopped, decoder_registers}
use Rattle.qm_core.specs.declared.source.Heard.{Heard}
use Rattle.qm_core.specs.declared.source.Heard.TheVariants.{More, Ended, Stopped}
use Rattle.qm_core.specs.declared.decoder.Decoder.{Decoder}

same_heard : (g h : Heard) → is_stopped g ≡ false → is_stopped h ≡ false → from_bool (is_ended g) ≡ from_bool (is_ended h) → g ≡ h
same_heard More More s t e = refl
same_heard More Ended s t e = cc
same_heard More Stopped s t e = cc
same_heard Ended More s t e = cc
same_heard Ended Ended s t e = refl
same_heard Ended Stopped s t e = cc
same_heard Stopped h s t e = cc

alike : (d e : Decoder) → d.code ≡ e.code → d.span ≡ e.span → d.bits ≡ e.bits → d.heard ≡ e.heard → d ≡ e
alike d e code span bits heard =
    λ i. record {
      code = code i;
      span = span i;
      bits = bits i;
      heard = heard i;
      large = is_prop→PathP (λ j. 0x40_0000 ≤ span j) (λ j. le_prop) d.large e.large i;
      small = is_prop→PathP (λ j. span j ≤ 0x80_0000) (λ j. le_prop) d.small e.small i;
      whole = is_prop→PathP (λ j. span j % 128 ≡ 0) (λ j. hlevel props) d.whole e.whole i;
      few = is_prop→PathP (λ j. bits j ≤ 23) (λ j. le_prop) d.few e.few i;
      aligned = is_prop→PathP (λ j. code j % 2 ^ (23 - bits j) ≡ 0) (λ j. hlevel props) d.aligned e.aligned i;
      room = is_prop→PathP (λ j. code j + 2 ^ (23 - bits j) ≤ span j) (λ j. le_prop) d.room e.room i;
      stuck = is_prop→PathP (λ j. heard j ≡ Stopped → bits j < 16) (λ j. hlevel props) d.stuck e.stuck i;
    }

-- of two decoders that have not stopped
pub one_decoder : (d e : Decoder) → has_stopped d ≡ false → has_stopped e ≡ false → decoder_registers d ≡ decoder_registers e → d ≡ e
one_decoder d e s t r =
    alike d e (ap (λ n. n.code) r) (ap (λ n. n.span) r) (ap (λ n. n.bits) r) (same_heard d.heard e.heard s t (ap (λ n. n.has_ended) r))
