-- A row encoder that is made of another one's numbers.
use Rattle.std.proofs.Common.{◌≡◌, ◌≤◌, ℕ, sym, ◌∙◌, ap}
use Rattle.std.specs.Coded.{le_prop}
use mathlib.Core.HLevel.{is_prop→PathP}
use Rattle.raster_core.specs.declared.shape.Shape.{Shape}
use Rattle.t85_core.specs.Jbg.{Settings}
use Rattle.t85_core.specs.States.Written.{IsShape}
use Rattle.t85_core.specs.States.ByRow.{RowPlan, RowView, IsPlan}
use Rattle.t85_core.specs.RowImage.{Image}

one_shape : {s : Settings} {width : ℕ} {a b : Shape} → IsShape s width a → IsShape s width b → a ≡ b
one_shape {width} p q =
    let mode = p.mode_is ∙ sym q.mode_is in
    λ i. record { width = (p.width_is ∙ sym q.width_is) i; two_line = (ap (λ m. m.two_line) mode) i; typical = (ap (λ m. m.typical) mode) i }

one_plan : {image : Image} {a b : RowPlan} → IsPlan image a → IsPlan image b → a ≡ b
one_plan p q =
    λ i. record {
      width = (p.width_is ∙ sym q.width_is) i;
      limit = (p.limit_is ∙ sym q.limit_is) i;
      shape = (one_shape p.shape_is q.shape_is) i;
      stripe_rows = (p.stripe_rows_is ∙ sym q.stripe_rows_is) i;
      announced = (p.announced_is ∙ sym q.announced_is) i;
      may_end = (p.may_end_is ∙ sym q.may_end_is) i;
      has_candidates = (p.candidates_are ∙ sym q.candidates_are) i;
      reset = (p.reset_is ∙ sym q.reset_is) i;
      most_offset = (p.most_is ∙ sym q.most_is) i;
    }

-- of one plan, and with the same of all else
pub one_view : {image : Image} {v w : RowView} → IsPlan image v.plan → IsPlan image w.plan →
    (v.kept.offset ≡ w.kept.offset) × (v.kept.previous_typical ≡ w.kept.previous_typical) → v.learned ≡ w.learned →
    v.tally ≡ w.tally → v.encoder ≡ w.encoder → v.rows ≡ w.rows → v.in_stripe ≡ w.in_stripe → v.is_counted ≡ w.is_counted → v.named ≡ w.named → v ≡ w
one_view {v = v} {w} p q kept learned tally encoder rows in_stripe is_counted named =
    λ i. record {
      plan = (one_plan p q) i;
      kept = record { offset = kept.0 i; previous_typical = kept.1 i; low = is_prop→PathP (λ j. kept.0 j ≤ 127) (λ j. le_prop) v.kept.low w.kept.low i };
      learned = learned i;
      tally = tally i;
      encoder = encoder i;
      rows = rows i;
      in_stripe = in_stripe i;
      is_counted = is_counted i;
      named = named i;
    }
