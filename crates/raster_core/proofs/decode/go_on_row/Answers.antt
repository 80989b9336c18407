use Rattle.std.proofs.Common.{◌≡◌, refl, rules}
use Rattle.raster_core.proofs.RowDecodingEnds.{same_goes, passes}
use Rattle.raster_core.proofs.decode.go_on_row.Goals as goal

pub returns-else-is_ok-clause-row : goal.returns-else-is_ok-clause-row
returns-else-is_ok-clause-row g c = λ s answers lines h.
    let to : c.source-1.given.0 ≡ c.decode_at-outcome.new.reader.source.now = search rules in
    let d : c.decoder-1.given.0 ≡ c.resume.new.self = search rules in
    let l : c.learned-1.given.0 ≡ c.decode_at-outcome.new.reader.learned.now = search rules in
    rw (to, d, l)
    (passes (λ _. refl) c.resume.ensures.unchanged c.decode_at-outcome.ensures.reads.0.1 c.resume.ensures.stands
    (same_goes (rw (c.requires.row.0) refl) (rw (c.requires.row.0) refl)
    (c.decode_at-outcome.ensures.row s answers lines) h))
