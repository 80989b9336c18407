-- Images that are refused among their rows.
use Rattle.std.proofs.Common.{◌≡◌, ◌<◌, ◌≤◌, ◌⊎◌, inl, inr, ℕ, Bool, List, [], ◌∷◌, length, refl, arith}
use Rattle.std.proofs.lemmas.Bool.{cases_lt}
use Rattle.pbm_core.specs.declared.fault.PbmFault.{PbmFault}
use Rattle.pbm_core.specs.declared.form.Form.{Form}
use Rattle.pbm_core.specs.Image.{HoldsRows, HasRowFault, OneImageFault, ImageOrFault}
use Rattle.pbm_core.proofs.HeaderIsJudged.{one_header}
use Rattle.pbm_core.proofs.RowIsJudged.{one_row, one_row_fault, row_or_fault, first_row, other_rows, no_rows, same_rows}

-- one reading has a row where the other has a fault
more_rows : {form : Form} {width : ℕ} {bytes rest rest' : List ℕ} {f : PbmFault} (rows rows' : List (List Bool)) → HoldsRows form bytes width rows rest → HoldsRows form bytes width rows' rest'
    → length rows < length rows' → HasRowFault form width rest f → ⊥
more_rows [] [] p q less fault = absurd (omega arith)
more_rows (row ∷ rows) [] p q less fault = absurd (omega arith)
more_rows {form} {width} {bytes} {f = f} [] (row' ∷ rows') p q less fault = let here : HasRowFault form width bytes f = rw (no_rows p) fault in row_or_fault _ _ _ _ _ _ (first_row q) here
more_rows (row ∷ rows) (row' ∷ rows') p q less fault =
    more_rows rows rows' (other_rows p refl) (other_rows q (one_row _ _ _ _ _ _ _ (first_row p) (first_row q)).rests) (omega arith) fault

pub image_or_fault : ImageOrFault
image_or_fault bytes width rows rest f p e =
    let same = one_header _ _ _ _ _ _ _ _ _ p.header e.header in
    let here : HoldsRows e.form e.body e.width rows rest = rw (← same.forms, ← same.widths, ← same.rests) p.holds in
    more_rows e.rows rows e.holds here (omega (arith, same.heights, e.few)) e.part

pub one_image_fault : OneImageFault
one_image_fault bytes f f' p q = went (cases_lt (length p.rows) (length q.rows)) (cases_lt (length q.rows) (length p.rows)) where
  same : record { forms : p.form ≡ q.form; widths : p.width ≡ q.width; heights : p.height ≡ q.height; rests : p.body ≡ q.body }
  same = one_header _ _ _ _ _ _ _ _ _ p.header q.header

  here : HoldsRows q.form q.body q.width p.rows p.rest
  here = rw (← same.forms, ← same.widths, ← same.rests) p.holds

  part : HasRowFault q.form q.width p.rest f
  part = rw (← same.forms, ← same.widths) p.part

  went : (length p.rows < length q.rows) ⊎ (length q.rows ≤ length p.rows) → (length q.rows < length p.rows) ⊎ (length p.rows ≤ length q.rows) → f ≡ f'
  went (inl less) k = absurd (more_rows p.rows q.rows here q.holds less part)
  went (inr h) (inl more) = absurd (more_rows q.rows p.rows q.holds here more q.part)
  went (inr h) (inr k) = (let same_part : HasRowFault q.form q.width q.rest f = rw (← (same_rows p.rows q.rows here q.holds (omega arith)).1) part in one_row_fault _ _ _ _ _ same_part q.part)
