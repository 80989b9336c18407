-- A row at which the source stopped.
use Rattle.std.proofs.Common.{◌≡◌, ◌≢◌, ℕ, ◌<◌, Bool, true, false, ◌⊎◌, inl, inr, List, [], ◌∷◌, ◌++◌, length, refl, sym, ◌∙◌, ap, arith, append_assoc}
use Rattle.std.specs.Prelude.{IsTrue, ◌&&◌}
use Rattle.std.proofs.lemmas.List.{append-nil}
use Rattle.qm_core.specs.Place.{IsPlace, State, Event, step, after, same}
use Rattle.qm_core.specs.Code.{Lies}
use Rattle.qm_core.specs.Source.{SourceAt, bytes_of, Agrees}
use Rattle.qm_core.specs.Decoder.{DecoderState}
use Rattle.qm_core.specs.declared.source.Pulled.{Pulled}
use Rattle.qm_core.specs.Laws.{PartForever, AnswersLie}
use Rattle.raster_core.specs.Lines.{context_at, pixel_events, pseudo_event, IsLegalFlag}
use Rattle.raster_core.specs.Window.{shape_mode}
use Rattle.raster_core.specs.Enough.{AreEnough}
use Rattle.raster_core.specs.Machine.Decoded.{PlainRow, RowPart, RowPaused, events_up_to, with_row}
use Rattle.raster_core.specs.Row.{FirstStopped, IsRowUndecided, RowTask, plain_row_of, task_events}
use Rattle.raster_core.proofs.ContextsLookBack.{pixel_events_more, pixel_events_front}

-- ---- two rows of which one stops short

-- Either one row goes on after the other, or they part somewhere.
data Parting (xs ys : List Bool) : Type 0 where
  goes_on : (y : Bool) (rest : List Bool) → ys ≡ xs ++ y ∷ rest → Parting xs ys
  parts : (common : List Bool) (x y : Bool) (r s : List Bool) → x ≢ y → xs ≡ common ++ x ∷ r → ys ≡ common ++ y ∷ s → Parting xs ys

same_pixel : (x y : Bool) → (x ≡ y) ⊎ (x ≢ y)
same_pixel true true = inl refl
same_pixel true false = inr (λ e. cc)
same_pixel false true = inr (λ e. cc)
same_pixel false false = inl refl

parting : (xs ys : List Bool) → length xs < length ys → Parting xs ys
parting [] [] h = absurd (omega arith)
parting [] (y ∷ ys) h = goes_on y ys refl
parting (x ∷ xs) [] h = absurd (omega arith)
parting (x ∷ xs) (y ∷ ys) h =
    elim (same_pixel x y) [
      | inl e ↦ elim (parting xs ys (omega arith)) [
        | goes_on z rest is ↦ goes_on z rest (cc)
        | parts common a b r s ne p q ↦ parts (x ∷ common) a b r s ne (cc) (cc)
      ]
      | inr ne ↦ parts [] x y xs ys ne refl refl
    ]

-- the events of a row, split at a pixel
events_through : (row : PlainRow) (xs : List Bool) (b : Bool) (rest : List Bool) → (more : List Event) ×
    (events_up_to row (xs ++ b ∷ rest) ≡ events_up_to row xs ++ record { context = context_at row.mode (with_row row.lines xs) row.offset (length xs); pixel = b } ∷ more)
events_through row xs b rest =
    let f = pixel_events_front row.mode row.lines row.offset (xs ++ b ∷ []) rest in (
      f.0,
      ap (events_up_to row) (sym (append_assoc xs (b ∷ []) rest))
          ∙ (ap (λ es. row.first ++ es) f.1 ∙ (ap (λ es. row.first ++ (es ++ f.0)) (pixel_events_more row.mode row.lines row.offset xs b) ∙ simp append_assoc)),
    )

enough_later : (xs ys : List Event) (n : ℕ) (s : State) → AreEnough n s (xs ++ ys) → AreEnough n (after s xs) ys
enough_later [] ys n s h = h
enough_later (e ∷ xs) ys n s h = enough_later xs ys n (step s e.context e.pixel) h.1

-- the bytes in the answers agree with them
agrees_bytes : (answers : List Pulled) → Agrees answers (bytes_of answers)
agrees_bytes answers = record { rest = []; is = sym (append-nil (bytes_of answers)); bytes = tt; ended = λ _. refl }

-- A row that differs from the decoded pixels leaves the interval of the bytes; one that continues them needs more bytes.
short_row : PartForever → {S : Type 0} {old : SourceAt S} {row : PlainRow} {width : ℕ} {part : RowPart S} (f : RowPaused old row width part) → IsPlace row.state.place →
    Lies (bytes_of (old.answers ++ f.more)) (after row.state (events_up_to row f.done)).place → (all : List Bool) → length all ≡ width →
    Lies (bytes_of (old.answers ++ f.more)) (after row.state (events_up_to row all)).place → AreEnough (length (bytes_of (old.answers ++ f.more))) row.state (events_up_to row all) → ⊥
short_row apart {S} {old} {row} f place inside all wide lies enough =
    let few = f.few in
    elim (parting f.done all (omega arith)) [
      | goes_on y rest is ↦
          let t = events_through row f.done y rest in
          let e = ap (events_up_to row) is ∙ t.1 in
          let l = enough_later (events_up_to row f.done) _ (length (bytes_of (old.answers ++ f.more))) row.state (rw e at enough) in
          let short = f.stops.short in
          omega (arith, l.0)
      | parts common x y r q ne p₁ p₂ ↦
          let t₁ = events_through row common x r in
          let t₂ = events_through row common y q in
          let e₁ = ap (events_up_to row) p₁ ∙ t₁.1 in
          let e₂ = ap (events_up_to row) p₂ ∙ t₂.1 in
          apart (events_up_to row common) t₁.0 t₂.0 row.state _ x y _ place ne (rw e₁ at inside) (rw e₂ at lies)
    ]

-- ---- the source stopped

-- before the row's pixels
pub undecided_first : {S : Type 0} {old : SourceAt S} {new : DecoderState S} (task : RowTask) (f : FirstStopped old (shape_mode task.shape) task.state new) →
    IsRowUndecided task.shape task.kept task.state (old.answers ++ f.more) task.lines
undecided_first task f = λ row flag wide legal lies enough.
    let typical = f.typical in
    let e = rw typical at enough in
    let short = f.stops.short in
    omega (arith, e.0)

flags_apart : (b : Bool) → same b false ≢ same b true
flags_apart true e = cc
flags_apart false e = cc

first_true : (a b : Bool) → IsTrue (a && b) → a ≡ true
first_true true b h = refl
first_true false b h = cc

-- at a pixel of a plain row
pub undecided_row : AnswersLie → PartForever → {S : Type 0} {old : SourceAt S} {part : RowPart S} (task : RowTask) (f : RowPaused old (plain_row_of task) task.shape.width part) →
    IsPlace task.state.place →
    IsRowUndecided task.shape task.kept task.state (old.answers ++ f.more) task.lines
undecided_row lie apart {S} {old} {part} task f place = by_flag
  where
    inside : Lies (bytes_of (old.answers ++ f.more)) (after task.state (events_up_to (plain_row_of task) f.done)).place
    inside = lie part.state.decoder _ (old.answers ++ f.more) (bytes_of (old.answers ++ f.more)) f.stops.stays (agrees_bytes (old.answers ++ f.more))

    by_flag : (row : List Bool) (flag : Bool) → length row ≡ task.shape.width → IsLegalFlag (shape_mode task.shape) (with_row task.lines row) flag →
        Lies (bytes_of (old.answers ++ f.more)) (after task.state (task_events task row flag)).place → AreEnough (length (bytes_of (old.answers ++ f.more))) task.state (task_events task row flag) → ⊥
    by_flag row true wide legal lies enough =
        let typical = first_true task.shape.typical _ (legal refl) in
        apart [] (pixel_events (shape_mode task.shape) (with_row task.lines f.done) task.kept.offset) [] task.state
        (pseudo_event (shape_mode task.shape) task.kept.previous_typical true).context _ _ _ place
        (flags_apart task.kept.previous_typical) (rw typical at inside) (rw typical at lies)
    by_flag row false wide legal lies enough = short_row apart f place inside row wide lies enough
