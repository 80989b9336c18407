use Rattle.std.proofs.Common.{◌≡◌, false}
use Rattle.qm_core.specs.Encoder.{event_count, has_failed, EncoderIsAt}
use Rattle.qm_core.specs.Place.{Place}
use Rattle.examples.proofs.PixelsAreCoded.{LeadsOn}
use Rattle.examples.proofs.coder.encode.Given as goal

abbrev pub invariant-loop-i : goal.invariant-loop-i
invariant-loop-i l = record {
  unfailed : l.code.failures ≡ 0;
  events : event_count l.encoder ≡ l.i;
  going : has_failed l.encoder ≡ false;
  along : (p : Place) × EncoderIsAt l.encoder p l.code.bytes.items × LeadsOn l.fn.learned l.contexts l.pixels l.i p l.learned;
}
