-- The effect of reading on a decoder with everything that it borrows.
use Rattle.std.specs.Prelude.{◌≡◌, Bool, List, Result}
use Rattle.qm_core.specs.Place.{Place, state_of}
use Rattle.qm_core.specs.Decoder.{DecoderIsAt, DecoderState, Next, StopsOnce, decoder_state, source_of}
use Rattle.qm_core.specs.declared.context.Context.{Context}
use Rattle.qm_core.specs.declared.decoder.Stop.{Stop}
use Rattle.qm_core.specs.declared.reader.Reader.{Reader}
use Rattle.qm_core.specs.declared.source.CodeBytes.{Ghosts}
use Rattle.qm_core.specs.declared.source.Pulled.{Pulled}

-- its source, its decoder, and its context states
abbrev pub reader_state : {S : Type 0} → Reader S → DecoderState S
reader_state r = decoder_state r.source.now r.decoder.now r.learned.now

-- both have borrowed the same three values
abbrev pub SameReader : {S : Type 0} → Reader S → Reader S → Type 0
SameReader r r' = (r'.learned.ghost_name ≡ r.learned.ghost_name) × (r'.decoder.ghost_name ≡ r.decoder.ghost_name) × (r'.source.ghost_name ≡ r.source.ghost_name)

-- The decoder stops as `StopsOnce` says, and the reader has borrowed the same three values as before.
abbrev pub ReaderReads : {S T E : Type 0} → Ghosts S → Reader S → Reader S → Result T E → Type 0
ReaderReads source r r' result = StopsOnce source r.decoder.now r'.decoder.now r.source.now r'.source.now result × SameReader r r'

-- the effect of a call of `next`, in a context, from every place and all answers of the source at which it is
abbrev pub ReadsPixel : {S : Type 0} → Ghosts S → Context → Reader S → Reader S → Result Bool Stop → Type 0
ReadsPixel source cx r r' result =
    (p : Place) (answers : List Pulled) → DecoderIsAt r.decoder.now p answers →
    Next (source_of source r.source.now answers) (state_of p r.learned.now) cx.number (reader_state r') result
