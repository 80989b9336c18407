use Rattle.std.proofs.Common.{◌≡◌, ◌*◌, Bool, true, false, refl, sym, arith, inl, inr}
use Rattle.std.proofs.lemmas.Bool.{cases_lt}
use Rattle.raster_core.specs.Counting.{fit_row}
use Rattle.raster_core.specs.Lines.{same_row}
use Rattle.raster_core.proofs.ColumnsAgree.{words_same, words_differ, rows_alike, pixels_alike}
use Rattle.raster_core.proofs.columns.is_same.Goals as goal

pub loop-k-preserved : goal.loop-k-preserved
loop-k-preserved c lines are x below inside =
    elim (cases_lt x (64 * c.loop-k.k)) [
      | inl lt ↦ c.loop-k.invariant lines are x lt inside
      | inr le ↦
          words_same lines.row lines.above c.args.width c.loop-k.k x
          (record { one = c.word_at.ensures lines.row are.row_is; other = c.word_at-in-loop-k.ensures lines.above are.above_is; masked = c.mask_at.ensures })
          c.if-different-mask_at-ne0.false le below inside
    ]

pub returns : goal.returns
returns c lines are =
    sym (rows_alike lines.row lines.above c.args.width (λ x lt. c.loop-k.invariant lines are x (omega (arith, lt, c.loop-k-test.false, c.div_ceil-words.ensures)) lt))

pub returns-then-different-mask_at-ne0 : goal.returns-then-different-mask_at-ne0
returns-then-different-mask_at-ne0 c lines are =
    by (same_row (fit_row c.args.width lines.row) (fit_row c.args.width lines.above)) refl
  where
    by : (t : Bool) → same_row (fit_row c.args.width lines.row) (fit_row c.args.width lines.above) ≡ t → false ≡ t
    by false e = refl
    by true e =
        absurd (c.if-different-mask_at-ne0.true
        (words_differ lines.row lines.above c.args.width c.loop-k.k _ _ _
        (record { one = c.word_at.ensures lines.row are.row_is; other = c.word_at-in-loop-k.ensures lines.above are.above_is; masked = c.mask_at.ensures })
        (pixels_alike lines.row lines.above c.args.width e)))
