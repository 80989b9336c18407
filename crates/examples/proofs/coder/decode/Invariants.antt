use Rattle.std.proofs.Common.{◌≡◌, false, Bool, List, length, take}
use Rattle.qm_core.specs.Source.{Gives}
use Rattle.qm_core.specs.declared.source.Pulled.{Pulled}
use Rattle.qm_core.specs.Place.{Place, IsPlace}
use Rattle.qm_core.specs.Decoder.{has_stopped, DecoderIsAt}
use Rattle.examples.specs.Coder.{code_for}
use Rattle.examples.proofs.PixelsAreCoded.{Pull, LeadsOn}
use Rattle.examples.proofs.coder.decode.Given as goal

abbrev pub invariant-loop-cx : goal.invariant-loop-cx
invariant-loop-cx l = record {
  going : has_stopped l.decoder ≡ false;
  along : (p : Place) × IsPlace p × (answers : List Pulled) × DecoderIsAt l.decoder p answers × Gives Pull l.initial.source answers l.source
      × ((pixels : List Bool) → length pixels ≡ length l.contexts → l.code ≡ code_for l.fn.learned l.contexts pixels →
      (l.pixels.items ≡ take l.cx-index pixels) × LeadsOn l.fn.learned l.contexts pixels l.cx-index p l.learned);
}
