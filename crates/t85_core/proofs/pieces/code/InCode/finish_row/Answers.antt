use Rattle.std.proofs.Common.{◌≢◌, ◌<◌, ◌≤◌, None, ℕ, List, ◌++◌, ◌≡◌, [], Bool, true, false, Some, Result, Ok, Err, ap, sym, subst, refl, inl, inr, ◌∙◌, arith, true≢false}
use Rattle.std.specs.Prelude.{IfErr, OnErr}
use Rattle.std.specs.Result.{is_ok, result_unwrap_or}
use Rattle.qm_core.specs.Decoder.{has_stopped}
use Rattle.qm_core.specs.declared.decoder.Stop.{Stop}
use Rattle.t85_core.specs.declared.fault.Fault.{Fault}
use Rattle.raster_core.specs.Window.{held}
use Rattle.raster_core.specs.declared.shape.Shape.{Shape}
use Rattle.t85_core.specs.Lent.{carried_by, code_lent, code_view}
use Rattle.t85_core.specs.Options.{fields_of}
use Rattle.t85_core.specs.declared.fault.Fault.TheVariants.{Changed, Truncated}
use Rattle.t85_core.specs.Private.CoderLaws.{CoderLaws}
use Rattle.t85_core.specs.States.Cut.{OpenStripe, open_stripe}
use Rattle.t85_core.specs.Private.Views.{piece_view}
use Rattle.t85_core.specs.Private.PieceCode.{FromRow, Handed, PieceRowTaken, RowAtMarker, RowBroken, RowState, RowWaits, handed, row_state_at, EndsRow, BreaksRow, StopsInRow, WaitsInRow}
use Rattle.t85_core.specs.States.PieceCode.{MarkerRead}
use Rattle.t85_core.specs.States.Pieces.{InRowStands, WalkStands, code_place, head_place, rows_in}
use Rattle.t85_core.specs.Private.Pieces.{StepsOff}
use Rattle.t85_core.specs.Private.RowTurns.{BegunLeaves, BegunStep}
use Rattle.t85_core.specs.Private.Segments.{RestFault}
use Rattle.t85_core.specs.States.SizedImage.{sized_of}
use Rattle.t85_core.proofs.BodiesDecode.ImageIsPut.{in_use}
use Rattle.t85_core.proofs.BodiesDecode.WholeCodeNeverBreaks.{whole_text, never_breaks, never_changed, stays_marked, before_all}
use Rattle.t85_core.proofs.BodiesDecode.WalkNumbersFit.{resumed}
use Rattle.t85_core.proofs.BodiesDecode.MarkerComesInTime.{in_time_row, none_read}
use Rattle.t85_core.proofs.BodiesDecode.RowMayWait.{row_taken, row_unread, row_broken, row_waits, row_at_marker}
use Rattle.t85_core.proofs.BodiesDecode.WalkGoesOn.{on_same, at_stage}
use Rattle.t85_core.proofs.BodiesDecode.WalkTakesRows.{ahead_is, behind_is, in_row_shape, row_on, row_off, row_kept}
use Rattle.t85_core.proofs.pieces.code.InCode.finish_row.Given.{Over}
use Rattle.t85_core.proofs.pieces.code.InCode.finish_row.Goals.{After-go_on_row-went}
use Rattle.t85_core.proofs.pieces.code.InCode.finish_row.Goals as goal

-- a result, by cases
if_err : (r : Result Bool Fault) {P : Fault → Type 0} → ((f : Fault) → r ≡ Err f → P f) → IfErr r P
if_err (Ok b) p = tt
if_err (Err f) p = p f refl

never : (r : Result Bool Fault) → (r ≡ Ok true → ⊥) → (r ≡ Ok false → ⊥) → ((f : Fault) → r ≡ Err f → ⊥) → ⊥
never (Ok true) row marker err = row refl
never (Ok false) row marker err = marker refl
never (Err f) row marker err = err f refl

row_of : (r : Result Bool Fault) → result_unwrap_or r false ≡ true → r ≡ Ok true
row_of (Ok b) e = ap Ok e
row_of (Err f) e = absurd (true≢false (sym e))

no_row : (r : Result Bool Fault) → result_unwrap_or r false ≡ false → r ≡ Ok true → ⊥
no_row r e is = true≢false (sym (ap (λ z. result_unwrap_or z false) is) ∙ e)

not_row : (b : Bool) → (b ≡ true → ⊥) → b ≡ false
not_row true other = absurd (other refl)
not_row false other = refl

-- a row ends, or its source stops
ends : (r : Result (Unit {0}) Stop) → is_ok r ≡ true → r ≡ Ok tt
ends (Ok tt) e = refl
ends (Err s) e = absurd (let bot : ⊥ = cc in bot)

stops : (r : Result (Unit {0}) Stop) → is_ok r ≡ false → (s : Stop) × (r ≡ Err s)
stops (Ok tt) e = absurd (let bot : ⊥ = cc in bot)
stops (Err s) e = (s, refl)

-- how the row is coded, at the width of its window
abbrev shape_in : {g : Over} → After-go_on_row-went g → Shape
shape_in c = record c.shape-shape.result { width = c.width.result }

-- the states of the row before and after it goes on
abbrev before : {g : Over} → After-go_on_row-went g → RowState
before c = row_state_at (carried_by c.args.lent.now.window.now c.args.course.now.kept c.args.lent.now.learned.now) c.resume.new.self c.args.row.place c.args.self.now.first c.args.self.now.marker
    c.args.piece.now.rest.now

abbrev after : {g : Over} → After-go_on_row-went g → RowState
after c = row_state_at (carried_by c.go_on_row-went.new.window c.go_on_row-went.new.kept c.go_on_row-went.new.learned) c.go_on_row-went.new.decoder c.go_on_row-went.new.place
    c.go_on_row-went.new.source.first c.go_on_row-went.new.source.marker c.go_on_row-went.new.source.piece.rest.now

abbrev Stands : {g : Over} → After-go_on_row-went g → List ℕ → List ℕ → Type 0
Stands c = WalkStands (sized_of c.args.image.now) (code_lent c.args.course.now (record c.args.self.now { begun = Some c.args.row.place }) c.args.lent.now)

abbrev StandsInRow : {g : Over} → After-go_on_row-went g → List ℕ → List ℕ → Type 0
StandsInRow c = InRowStands (sized_of c.args.image.now) (head_place c.args.course.now.entities c.args.course.now.given c.args.self.now.at
    (carried_by c.args.lent.now.window.now c.args.course.now.kept c.args.lent.now.learned.now))
    (code_place c.args.self.now.row c.args.self.now.first c.args.self.now.marker c.resume.new.self) c.args.row.place

-- what the call leaves, in whatever stripe
module _ {g : Over} (c : After-go_on_row-went g) where
  ends_row : is_ok c.go_on_row-went.result ≡ true → EndsRow c.args.row.waits (shape_in c) (before c) (after c)
  ends_row ok h c' segments row began out text b code = (
    row_taken piece_view (λ s. s.failures) _ c.go_on_row-went.new.source c.args.self.now.first c.go_on_row-went.new.source.first c.args.self.now.marker c.go_on_row-went.new.source.marker
        c.args.piece.now.rest.now c.go_on_row-went.new.source.piece.rest.now refl refl refl refl refl refl refl
        h (shape_in c) c' segments row (before c).carried (after c).carried c.resume.new.self c.go_on_row-went.new.decoder c.args.row.place c.go_on_row-went.new.place began out text b code
        c.go_on_row-went.result (ends _ ok) c.go_on_row-went.ensures.row,
    row_unread piece_view (λ s. s.failures) _ c.go_on_row-went.new.source c.args.self.now.first c.go_on_row-went.new.source.first c.args.self.now.marker c.go_on_row-went.new.source.marker
        c.args.piece.now.rest.now c.go_on_row-went.new.source.piece.rest.now refl refl refl refl refl refl refl
        h (shape_in c) c' segments row (before c).carried (after c).carried c.resume.new.self c.go_on_row-went.new.decoder c.args.row.place c.go_on_row-went.new.place began out text b code
        c.go_on_row-went.result (ends _ ok) c.go_on_row-went.ensures.row,
  )

  breaks_row : is_ok c.go_on_row-went.result ≡ false → CoderLaws → (f : Fault) → c.go_on_row-went.new.source.fault ≡ Some f → BreaksRow (shape_in c) (before c) f
  breaks_row off q f is h c' segments row began out text b code count few =
      row_broken piece_view (λ s. s.failures) _ c.go_on_row-went.new.source c.args.self.now.first c.go_on_row-went.new.source.first c.args.self.now.marker c.go_on_row-went.new.source.marker
      c.args.piece.now.rest.now c.go_on_row-went.new.source.piece.rest.now refl refl refl refl refl refl refl
      h (shape_in c) c' segments row (before c).carried (after c).carried c.resume.new.self c.go_on_row-went.new.decoder c.args.row.place c.go_on_row-went.new.place began out text b code
      c.go_on_row-went.result (stops _ off).0 (stops _ off).1 c.go_on_row-went.ensures.row f is q count few

  kept_is : is_ok c.go_on_row-went.result ≡ false → c.go_on_row-went.new.kept ≡ c.args.course.now.kept
  kept_is off = subst (λ r. OnErr r (c.go_on_row-went.new.kept ≡ c.args.course.now.kept)) (stops _ off).1 c.go_on_row-went.ensures.kept

  waits_in_row : is_ok c.go_on_row-went.result ≡ false → c.go_on_row-went.new.source.fault ≡ Some Truncated → WaitsInRow (shape_in c) (before c) (after c)
  waits_in_row off is h c' segments row began out text b code =
      row_waits piece_view (λ s. s.failures) _ c.go_on_row-went.new.source c.args.self.now.first c.go_on_row-went.new.source.first c.args.self.now.marker c.go_on_row-went.new.source.marker
      c.args.piece.now.rest.now c.go_on_row-went.new.source.piece.rest.now refl refl refl refl refl refl refl
      h (shape_in c) c' segments row (before c).carried (after c).carried c.resume.new.self c.go_on_row-went.new.decoder c.args.row.place c.go_on_row-went.new.place began out text b code
      c.go_on_row-went.result (stops _ off).0 (stops _ off).1 c.go_on_row-went.ensures.row is (kept_is off)

  stops_in_row : is_ok c.go_on_row-went.result ≡ false → CoderLaws → c.go_on_row-went.new.source.fault ≡ None → StopsInRow c.args.row.waits (shape_in c) (before c) (after c)
  stops_in_row off q is h c' segments row began out text b code =
      row_at_marker piece_view (λ s. s.failures) _ c.go_on_row-went.new.source c.args.self.now.first c.go_on_row-went.new.source.first c.args.self.now.marker c.go_on_row-went.new.source.marker
      c.args.piece.now.rest.now c.go_on_row-went.new.source.piece.rest.now refl refl refl refl refl refl refl
      h (shape_in c) c' segments row (before c).carried (after c).carried c.resume.new.self c.go_on_row-went.new.decoder c.args.row.place c.go_on_row-went.new.place began out text b code
      c.go_on_row-went.result (stops _ off).0 (stops _ off).1 c.go_on_row-went.ensures.row is (kept_is off) q

module _ {g : Over} (c : After-go_on_row-went g) {text out : List ℕ} (w : Stands c text out) where
  wide : c.width.result ≡ c.args.image.now.header.xd
  wide = c.width.ensures ∙ w.width_is

  stood : StandsInRow c text out
  stood = at_stage refl (resumed c.resume.new.self refl (λ going. c.resume.ensures.unchanged (ap has_stopped c.replace-local.ensures.value ∙ going) ∙ c.replace-local.ensures.value) w)

  is_shape : shape_in c ≡ stood.shape
  is_shape = in_row_shape stood (shape_in c) (record { width_is = wide; mode_is = c.shape-shape.ensures.mode })

  abbrev stripe : OpenStripe
  stripe = open_stripe (fields_of c.args.image.now.header) stood.head.stripes.next stood.head.passed.segments

  abbrev parts : Handed
  parts = handed stood.began out stood.code

  abbrev from_here : (P : Shape → OpenStripe → ℕ → Handed → Type 0) → FromRow (shape_in c) (before c) (P (shape_in c)) → P stood.shape stripe c.args.self.now.row parts
  from_here P goes =
      subst (λ z. FromRow z (before c) (P z)) is_shape goes (fields_of c.args.image.now.header) stood.head.stripes.next stood.head.passed.segments c.args.self.now.row stood.began out stood.code
      stood.begun stood.code_is

  ended : EndsRow c.args.row.waits (shape_in c) (before c) (after c) →
      PieceRowTaken stripe stood.shape c.args.self.now.row (after c) parts c.args.piece.now.rest.now ×
      (c.args.row.waits ≡ true → (MarkerRead (before c).marker (before c).first → ⊥) → MarkerRead (after c).marker (after c).first → ⊥)
  ended = from_here (λ z stripe row parts. PieceRowTaken stripe z row (after c) parts c.args.piece.now.rest.now ×
      (c.args.row.waits ≡ true → (MarkerRead (before c).marker (before c).first → ⊥) → MarkerRead (after c).marker (after c).first → ⊥))

  broken : (fault : Fault) → BreaksRow (shape_in c) (before c) fault → (count : ℕ) → c.args.self.now.row ≤ count → RowBroken stripe count parts c.args.piece.now.rest.now fault
  broken fault = from_here (λ z stripe row parts. (count : ℕ) → row ≤ count → RowBroken stripe count parts c.args.piece.now.rest.now fault)

  waiting : WaitsInRow (shape_in c) (before c) (after c) → RowWaits stripe stood.shape c.args.self.now.row (after c) parts c.args.piece.now.rest.now × ((after c).first ≡ None) ×
      ((after c).marker ≡ None)
  waiting = from_here (λ z stripe row parts. RowWaits stripe z row (after c) parts c.args.piece.now.rest.now × ((after c).first ≡ None) × ((after c).marker ≡ None))

  stopped : StopsInRow c.args.row.waits (shape_in c) (before c) (after c) →
      (c.args.row.waits ≡ true) × ((MarkerRead (before c).marker (before c).first → ⊥) → RowAtMarker stripe stood.shape c.args.self.now.row (after c) parts c.args.piece.now.rest.now)
  stopped = from_here (λ z stripe row parts. (c.args.row.waits ≡ true) × ((MarkerRead (before c).marker (before c).first → ⊥) → RowAtMarker stripe z row (after c) parts c.args.piece.now.rest.now))

  still_inside : c.go_on_row-went.new.place.done < c.args.image.now.header.xd
  still_inside = let width = wide in let within = c.go_on_row-went.ensures.within in omega arith

pub returns-then-unwrap_or-clause-step : goal.returns-then-unwrap_or-clause-step
returns-then-unwrap_or-clause-step g c =
    let went = c.before.before.before.before.before.before.before.before.before.before in
    let is : c.row_result-answer.result ≡ Ok true = row_of _ (sym c.unwrap_or.ensures ∙ c.if-unwrap_or.true) in
    subst (BegunStep _ _ _ _ _) (sym is) (record {
      row = λ _ text out w.
          let k = stood went w in
          let m = ended went w (ends_row went (sym c.is_ok-is_whole.ensures.value ∙ c.row_result-answer.ensures.row is)) in (
            m.0.given,
            m.0.taken,
            record {
              left_is = w.left_is;
              width_is = c.go_on_row-went.ensures.window.0.width_is ∙ w.width_is;
              code_is = ahead_is c.go_on_row-went.new.source.first c.go_on_row-went.new.source.marker m.0.read.answers [] _ m.0.code_is;
              behind = behind_is c.go_on_row-went.new.source.first c.go_on_row-went.new.source.marker m.0.read.answers [] _ m.0.code_is;
              within = omega (arith, w.within);
              stands = row_on k m.0;
            },
          );
      marker = λ e. absurd (let bot : ⊥ = cc in bot);
      err = tt;
      more = λ e. absurd (let bot : ⊥ = cc in bot);
    })

pub returns-then-unwrap_or-clause-leaves : goal.returns-then-unwrap_or-clause-leaves
returns-then-unwrap_or-clause-leaves g c =
    let went = c.before.before.before.before.before.before.before.before.before.before in
    let is : c.row_result-answer.result ≡ Ok true = row_of _ (sym c.unwrap_or.ensures ∙ c.if-unwrap_or.true) in
    λ some.
    let w = some.2 in
    let k = stood went w in
    let m = ended went w (ends_row went (sym c.is_ok-is_whole.ensures.value ∙ c.row_result-answer.ensures.row is)) in
    subst (BegunLeaves _ _ _) (sym is) (record {
      place = record { entities = refl; left = refl; given = refl; at = refl };
      row = λ _. (refl, refl);
      code = inl refl;
      waited = λ e. absurd (let bot : ⊥ = cc in bot);
      whole = λ _ marked. (
        refl,
        stays_marked k.code m.0.given (whole_text c.args.self.now.first c.args.self.now.marker _ [] _ k.code_is marked) c.go_on_row-went.new.source.first
            c.go_on_row-went.new.source.marker _ [] m.0.code_is,
      );
      unmarked = λ waits unread _. m.1 waits unread;
      unread = λ e. absurd (let bot : ⊥ = cc in bot);
      other = tt;
    })

-- a row that waits is as far as it was decoded
kept : {g : Over} (c : After-go_on_row-went g) → {text out : List ℕ} (w : Stands c text out) →
    (m : RowWaits (open_stripe (fields_of c.args.image.now.header) (stood c w).head.stripes.next (stood c w).head.passed.segments) (stood c w).shape c.args.self.now.row (after c)
    (handed (stood c w).began out (stood c w).code) c.args.piece.now.rest.now) →
    WalkStands (sized_of c.args.image.now) (code_view (record c.args.course.now { kept = c.go_on_row-went.new.kept; decoder = c.go_on_row-went.new.decoder })
    (record c.args.self.now {
      begun = Some c.go_on_row-went.new.place;
      first = c.go_on_row-went.new.source.first;
      marker = c.go_on_row-went.new.source.marker;
      small =
          c.go_on_row-went.new.source.small;
      behind = c.go_on_row-went.new.source.behind;
    }) (held c.go_on_row-went.new.window) c.go_on_row-went.new.learned)
    (text ++ m.given) out
kept c w m = record {
  left_is = w.left_is;
  width_is = c.go_on_row-went.ensures.window.0.width_is ∙ w.width_is;
  code_is = ahead_is c.go_on_row-went.new.source.first c.go_on_row-went.new.source.marker _ [] _ m.code_is;
  behind = behind_is c.go_on_row-went.new.source.first c.go_on_row-went.new.source.marker _ [] _ m.code_is;
  within = still_inside c w;
  stands = row_kept (stood c w) m;
}

pub returns-else-unwrap_or-clause-step : goal.returns-else-unwrap_or-clause-step
returns-else-unwrap_or-clause-step g c =
    let went = c.before.before.before.before.before.before.before.before.before.before in
    let other : c.row_result-answer.result ≡ Ok true → ⊥ = no_row _ (sym c.unwrap_or.ensures ∙ c.if-unwrap_or.false) in
    let off : is_ok c.go_on_row-went.result ≡ false = not_row _ (λ e. other (c.row_result-answer.ensures.whole (c.is_ok-is_whole.ensures.value ∙ e))) in
    record {
      row = λ e. absurd (other e);
      marker = λ e unread. (
        (λ text out w.
            let m = stopped went w (stops_in_row went off c.coder_laws.ensures (c.row_result-answer.ensures.marker e)) in
            let at = m.1 unread in
            on_same (fields_of c.args.image.now.header) c.args.image.now.height _ text out c.args.piece.now.rest.now c.go_on_row-went.new.source.piece.rest.now at.waits.given at.waits.taken
            (kept went w at.waits)),
        (λ text out w.
            let m = stopped went w (stops_in_row went off c.coder_laws.ensures (c.row_result-answer.ensures.marker e)) in
            let at = m.1 unread in
            (at.waits.given, at.waits.taken, in_time_row (stood went w) c.coder_laws.ensures (in_use c.args.image.now) at)),
      );
      err = if_err _ {P = λ f. StepsOff (sized_of c.args.image.now) (code_lent c.args.course.now (record c.args.self.now { begun = Some c.args.row.place }) c.args.lent.now) c.args.piece.now.rest.now f}
          (λ f e text out w.
          let k = stood went w in
          row_off k c.coder_laws.ensures (in_use c.args.image.now) c.args.piece.now.rest.now f
          (broken went w f (breaks_row went off c.coder_laws.ensures f (c.row_result-answer.ensures.fault f e)) _ (let few = k.few in omega arith)));
      more = λ e.
          let is = c.row_result-answer.ensures.fault Truncated e in (
            (λ text out w.
                let m = waiting went w (waits_in_row went off is) in
                on_same (fields_of c.args.image.now.header) c.args.image.now.height _ text out c.args.piece.now.rest.now c.go_on_row-went.new.source.piece.rest.now m.0.given m.0.taken
                (kept went w m.0)),
            (let few = c.go_on_row-went.new.source.few is in omega (arith, few)),
          );
    }

pub returns-else-unwrap_or-clause-leaves : goal.returns-else-unwrap_or-clause-leaves
returns-else-unwrap_or-clause-leaves g c =
    let went = c.before.before.before.before.before.before.before.before.before.before in
    let other : c.row_result-answer.result ≡ Ok true → ⊥ = no_row _ (sym c.unwrap_or.ensures ∙ c.if-unwrap_or.false) in
    let off : is_ok c.go_on_row-went.result ≡ false = not_row _ (λ e. other (c.row_result-answer.ensures.whole (c.is_ok-is_whole.ensures.value ∙ e))) in
    λ some.
    let w = some.2 in
    let k = stood went w in
    record {
      place = record { entities = refl; left = refl; given = refl; at = refl };
      row = λ e. absurd (other e);
      code = inr refl;
      waited = λ e.
          let m = stopped went w (stops_in_row went off c.coder_laws.ensures (c.row_result-answer.ensures.marker e)) in
          (m.0, λ unread. ((m.1 unread).reset, inr (m.1 unread).ahead));
      whole = λ goes marked. absurd (never c.row_result-answer.result other
          (λ e. true≢false (sym (stopped went w (stops_in_row went off c.coder_laws.ensures (c.row_result-answer.ensures.marker e))).0 ∙ goes))
          (λ f e.
          let m = broken went w f (breaks_row went off c.coder_laws.ensures f (c.row_result-answer.ensures.fault f e))
          (rows_in (fields_of c.args.image.now.header) c.args.image.now.height c.args.course.now.entities) (let few = k.few in omega arith) in
          never_breaks (fields_of c.args.image.now.header) before_all k.code c.args.piece.now.rest.now m.bytes f
          (whole_text c.args.self.now.first c.args.self.now.marker _ [] _ k.code_is marked) m.breaks));
      unmarked = λ waits unread e. absurd (other e);
      unread = λ e. let left = waiting went w (waits_in_row went off (c.row_result-answer.ensures.fault Truncated e)) in none_read left.1 left.2;
      other = if_err _ {P = λ f. f ≢ Changed} (λ f e changed.
          let m = broken went w f (breaks_row went off c.coder_laws.ensures f (c.row_result-answer.ensures.fault f e))
          (rows_in (fields_of c.args.image.now.header) c.args.image.now.height c.args.course.now.entities) (let few = k.few in omega arith) in
          never_changed (fields_of c.args.image.now.header) before_all m.breaks.rest (subst (RestFault m.breaks.rest) changed m.breaks.broken));
    }
