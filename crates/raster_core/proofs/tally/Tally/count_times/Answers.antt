use Rattle.std.proofs.Common.{ℕ, ◌≡◌, ◌*◌, ◌≤◌, ◌∙◌, refl, length, arith}
use Rattle.std.specs.Int.{div_ceil}
use Rattle.raster_core.specs.Lines.{Lines}
use Rattle.raster_core.specs.Offset.{agreements}
use Rattle.raster_core.specs.Machine.Words.{led, is_within, part_agreement}
use Rattle.raster_core.proofs.BytesMakeWords.{led_white}
use Rattle.raster_core.proofs.WordsAgree.{part_all}
use Rattle.raster_core.proofs.TallyChoosesLag.{more_times, word_times}
use Rattle.raster_core.proofs.tally.Tally.count_times.Goals as goal

pub returns-then-width-le64-clause-counts : goal.returns-then-width-le64-clause-counts
returns-then-width-le64-clause-counts c = λ lines row long kept lag from to.
    let low : c.from-from.result ≤ lag = omega (arith, c.from-from.ensures, c.least_lag-least.ensures.lag, from) in
    let high : lag ≤ c.from-to.result = omega (arith, c.from-to.ensures, c.last_lag-most.ensures, to) in
    let counted = c.add_narrow.ensures.counts lines c.args.width (c.word_at-word.ensures lines.row row) c.mask_at-mask.ensures lag low high in
    rw (counted, part_all lines c.args.width lag 64 long (omega arith)) (word_times _ _ _ _ _)

pub returns-then-width-le64-clause-agreeing : goal.returns-then-width-le64-clause-agreeing
returns-then-width-le64-clause-agreeing c = λ lines row above long kept.
    c.agreeing_in_word.ensures.agreed lines c.args.width above (led_white lines.row 0 (omega arith)) (led_white lines.row 1 (omega arith)) (c.word_at-word.ensures lines.row row) c.mask_at-mask.ensures
    ∙ part_all lines c.args.width c.args.offset 64 long (omega arith)

-- the words of a row of the width that is stored
whole_row : (lines : Lines) (stored width lag : ℕ) → stored ≡ width → length lines.row ≡ width → part_agreement lines stored lag 0 (64 * div_ceil stored 64) ≡ agreements lag lines
whole_row lines stored width lag is long =
    let whole : width ≤ 64 * div_ceil width 64 = omega arith in
    rw is (part_all lines width lag (64 * div_ceil width 64) long whole)

pub returns-then-width-le128-clause-counts : goal.returns-then-width-le128-clause-counts
returns-then-width-le128-clause-counts c = λ lines row long kept lag from to.
    let low : c.from-from.result ≤ lag = omega (arith, c.from-from.ensures, c.least_lag-least.ensures.lag, from) in
    let high : lag ≤ c.from-to.result = omega (arith, c.from-to.ensures, c.last_lag-most.ensures, to) in
    let pixels = c.both_words-pixels.ensures (led lines.row) 128 (c.word_at-first.ensures lines.row row) (c.word_at-second.ensures lines.row row) in
    let inside = c.both_words-inside.ensures (is_within c.args.width) 0 c.mask_at.ensures c.mask_at-then-width-le128.ensures in
    let counted = c.add_wide.ensures.counts lines c.args.width pixels inside lag low high in
    rw (counted, part_all lines c.args.width lag 128 long (omega arith)) (word_times _ _ _ _ _)

pub returns-then-width-le128-clause-agreeing : goal.returns-then-width-le128-clause-agreeing
returns-then-width-le128-clause-agreeing c = λ lines row above long kept.
    c.agreeing_in_row.ensures.agreed lines row above ∙ whole_row lines c.args.width c.args.width c.args.offset refl long

pub returns-clause-counts : goal.returns-clause-counts
returns-clause-counts c = λ lines row long kept lag from to.
    let low : c.least_lag-least.result ≤ lag = omega (arith, c.least_lag-least.ensures.lag, from) in
    let high : lag ≤ c.last_lag-most.result = omega (arith, c.last_lag-most.ensures, to) in
    let counted = c.count_row.ensures.counts kept lines row lag (omega (arith, low, c.count_row.ensures.last.1)) (omega (arith, high, c.count_row.ensures.last.2)) in
    let whole = whole_row lines c.count_row.new.self.last.width c.args.width lag c.count_row.ensures.last.0 long in
    rw (c.agreeing.ensures.same, more_times, c.count_row.ensures.same.counted lag low high, counted, whole) refl

pub returns-clause-agreeing : goal.returns-clause-agreeing
returns-clause-agreeing c = λ lines row above long kept.
    c.agreeing.ensures.agreed lines (c.count_row.ensures.kept kept) (c.count_row.ensures.counts kept) row above
    ∙ whole_row lines c.count_row.new.self.last.width c.args.width c.args.offset c.count_row.ensures.last.0 long
