-- The effect of decoding a list of events.
use Rattle.std.specs.Prelude.{◌≡◌, ◌<◌, List, [], ◌++◌, length}
use Rattle.qm_core.specs.Place.{State, Event, after}
use Rattle.qm_core.specs.Code.{wanted_bytes}
use Rattle.qm_core.specs.Source.{bytes_of, heard_of, Gives, SourceAt}
use Rattle.qm_core.specs.Decoder.{DecoderIsAt, DecoderState}
use Rattle.qm_core.specs.declared.source.Pulled.{Pulled}
use Rattle.qm_core.specs.declared.source.Heard.TheVariants.{More, Stopped}
use Rattle.raster_core.specs.Enough.{AreEnough}

-- From a state after `old.answers`, a decoder decoded these events; the answers of its source were `more`.
pub record Decodes {S : Type 0} (old : SourceAt S) (s : State) (more : List Pulled) (events : List Event) (new : DecoderState S) : Type 0 where
  pub gives : Gives old.pull old.from more new.source
  pub stands : DecoderIsAt new.decoder (after s events).place (old.answers ++ more)
  pub taught : new.learned ≡ (after s events).learned
  pub enough : heard_of (old.answers ++ more) ≡ More → AreEnough (length (bytes_of (old.answers ++ more))) s events
  pub going : heard_of (old.answers ++ more) ≡ Stopped → events ≡ []

-- It decoded these events, and its source stopped at a byte that the next event needs.
pub record Stops {S : Type 0} (old : SourceAt S) (s : State) (more : List Pulled) (events : List Event) (new : DecoderState S) : Type 0 where
  pub gives : Gives old.pull old.from more new.source
  pub stopped : heard_of (old.answers ++ more) ≡ Stopped
  pub short : length (bytes_of (old.answers ++ more)) < wanted_bytes (after s events).place.doublings
  pub stays : DecoderIsAt new.decoder (after s events).place (old.answers ++ more)
  pub taught : new.learned ≡ (after s events).learned
  pub enough : AreEnough (length (bytes_of (old.answers ++ more))) s events
