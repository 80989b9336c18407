use Rattle.std.proofs.Common.{◌≡◌, ℕ, ◌+◌, ◌-◌, ◌*◌, ◌∙◌, arith, refl}
use Rattle.raster_core.specs.Machine.Words.{led, is_within}
use Rattle.raster_core.proofs.WordsAgree.{row_part, nominal_part}
use Rattle.raster_core.proofs.agreement.agreeing_in_word.Goals as goal

pub returns-then-offset-eq0-clause-agreed : goal.returns-then-offset-eq0-clause-agreed
returns-then-offset-eq0-clause-agreed c lines width e second before one mask =
    let k : ℕ = c.args.k in
    let next : 64 * (k + 3) ≡ 64 * (k + 2) + 64 = omega arith in
    let above = c.joined.ensures (led lines.above) (64 * (k + 2)) (c.word_at.ensures lines.above e) (rw next at (c.word_at-then-offset-eq0.ensures lines.above e)) in
    rw (c.agreed_word.ensures.agreed (led lines.row) (led lines.above) (is_within width) (64 * k + 128) (64 * (k + 2) + 64 - 62) (64 * k) one above mask, nominal_part, ← c.if-offset-eq0.true) refl

pub returns-else-offset-eq0-clause-agreed : goal.returns-else-offset-eq0-clause-agreed
returns-else-offset-eq0-clause-agreed c lines width e second before one mask =
    let k : ℕ = c.args.k in
    c.agreed_word-else-offset-eq0.ensures.agreed (led lines.row) (led lines.row) (is_within width) (64 * k + 128) (64 * k + 128 - c.args.offset) (64 * k) one
    (c.left_by.ensures (led lines.row) (64 * k) second before one) mask
    ∙ row_part lines width c.args.offset k 64 (omega arith) c.requires.offset
