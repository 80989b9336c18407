-- A row whose bytes may be incomplete.
use Rattle.std.proofs.Common.{◌≡◌, ◌+◌, ◌≤◌, ℕ, Bool, true, List, [], ◌∷◌, ◌++◌, length, Option, Some, None, Ok, Err, refl, sym, ap, ◌∙◌, subst, append_assoc, arith}
use Rattle.std.specs.Prelude.{Result, IsErr}
use Rattle.qm_core.specs.Place.{State, IsPlace}
use Rattle.qm_core.specs.Code.{IsBytes}
use Rattle.qm_core.specs.Source.{bytes_of, heard_of, Gives, before_fault, source_at}
use Rattle.qm_core.specs.declared.source.Pulled.{Pulled}
use Rattle.qm_core.specs.declared.source.Heard.{Heard}
use Rattle.qm_core.specs.declared.source.Heard.TheVariants.{More, Stopped}
use Rattle.qm_core.specs.declared.decoder.Decoder.{Decoder}
use Rattle.qm_core.specs.declared.decoder.Stop.{Stop}
use Rattle.qm_core.specs.Decoder.{decoder_state}
use Rattle.raster_core.specs.Lines.{Lines}
use Rattle.raster_core.specs.Row.{RowIs, RowDecoded, RowPasses, StandsInRow, IsRowUndecided, row_task, row_left}
use Rattle.raster_core.specs.declared.place.RowPlace.{RowPlace}
use Rattle.raster_core.specs.declared.shape.Shape.{Shape}
use Rattle.t85_core.specs.declared.fault.Fault as fault
use Rattle.t85_core.specs.declared.fault.Fault.TheVariants.{Truncated}
use Rattle.t85_core.specs.declared.segments.Code.{Code}
use Rattle.t85_core.specs.Lent.{Carried}
use Rattle.t85_core.specs.Header.{Fields}
use Rattle.t85_core.specs.Grammar.{Segment}
use Rattle.t85_core.specs.States.State.{StripeStart, stripe_coding}
use Rattle.t85_core.specs.Private.Cut.{BegunRun, IsReady}
use Rattle.t85_core.specs.States.Cut.{open_stripe}
use Rattle.t85_core.specs.Private.Entity.{EntityView}
use Rattle.t85_core.specs.States.PieceCode.{ahead_bytes, Anything, RowsKnown, RowBegun, CodeText, CodeOpen, MarkerRead, open_row}
use Rattle.t85_core.specs.Private.CoderLaws.{CoderLaws}
use Rattle.t85_core.specs.Private.PieceCode.{CodeBreaks, PieceRowTaken, RowAtMarker, RowBroken, RowWaits, row_state_at, handed}
use Rattle.t85_core.specs.States.DecodeRows.{rows_done}
use Rattle.t85_core.proofs.BodiesDecode.EntityIsPulled.{Pull}
use Rattle.t85_core.proofs.BodiesDecode.RowIsPut.{row_done, row_done_answers, ready}
use Rattle.t85_core.proofs.BodiesDecode.RowsFillStripe.{was_going, rows_stop}
use Rattle.t85_core.proofs.BodiesDecode.CodeComesInPieces.{again_right, code_went, code_unread, code_broke, code_waits, code_at_marker}

anything : (answers : List Pulled) → Gives Anything tt answers tt
anything [] = refl
anything (a ∷ answers) = (tt, tt, anything answers)

not_err : (x : Unit {0}) → IsErr {T = Unit {0}} {E = Stop} (Ok x) → ⊥
not_err x e = cc

is_err : (e : Stop) → IsErr {T = Unit {0}} {E = Stop} (Err e)
is_err e = refl

module _ {S : Type 0} (standing : S → EntityView) (failed : S → ℕ) (s t : S) (first first1 : Option Code) (marker marker1 : Option Bool) (p p1 : List ℕ)
    (left_s : (standing s).left ≡ ahead_bytes first ++ p) (left_t : (standing t).left ≡ ahead_bytes first1 ++ p1)
    (first_s : (standing s).first ≡ first) (first_t : (standing t).first ≡ first1) (marker_s : (standing s).marker ≡ marker) (marker_t : (standing t).marker ≡ marker1)
    (fault_s : (standing s).fault ≡ None)
    (h : Fields) (shape : Shape) (c : StripeStart) (segments : List Segment) (row : ℕ) (carried carried' : Carried) (d d' : Decoder) (place place' : RowPlace) (began out text : List ℕ)
    (b : RowBegun (open_stripe h c segments) shape (open_row row carried d place) began out) (code : CodeText first marker (b.read.answers ++ b.since) [] text) where
  abbrev so_far : List Pulled
  so_far = b.read.answers ++ b.since

  abbrev below : Lines
  below = record { row = b.read.is_carried.third; above = b.read.last.above; second = b.read.last.second }

  -- what a call of `go_on_row` gives
  abbrev pub Passed : Result (Unit {0}) Stop → Type 0
  Passed result =
      (at : State) (answers : List Pulled) (lines : Lines) → StandsInRow (row_task shape carried.kept at lines) place answers carried.held carried.learned d →
      RowPasses (source_at (Pull standing failed) s answers) (row_task shape carried.kept at lines) (row_left carried'.kept carried'.held) place' (decoder_state t d' carried'.learned) result

  passed : (result : Result (Unit {0}) Stop) → Passed result →
      RowPasses (source_at (Pull standing failed) s so_far) (row_task shape carried.kept b.read.last.state below) (row_left carried'.kept carried'.held) place'
      (decoder_state t d' carried'.learned) result
  passed result gave = gave b.read.last.state so_far below b.stands

  assoc : (more : List Pulled) → so_far ++ more ≡ b.read.answers ++ (b.since ++ more)
  assoc more = append_assoc b.read.answers b.since more

  is_ready : IsReady (stripe_coding h segments) shape carried.kept below (length b.read.rows) b.read.last
  is_ready = ready Anything Anything tt tt tt tt tt h shape c segments row b.start carried' b.decoder d' (Some began) (Some out) b.read carried.kept b.offset_is b.previous_is

  -- ---- it ends

  module _ (result : Result (Unit {0}) Stop) (is_ok : result ≡ Ok tt) (went : Passed result) where
    gave : Passed (Ok tt)
    gave = subst Passed is_ok went

    decoded : RowDecoded (source_at Anything tt b.read.answers) (row_task shape carried.kept b.read.last.state below) (row_left carried'.kept carried'.held) (decoder_state tt d' carried'.learned)
        (Ok tt)
    decoded =
        let m = passed (Ok tt) gave in
        record {
          more = b.since ++ m.more;
          gives = anything (b.since ++ m.more);
          ok = subst (λ z. RowIs (row_task shape carried.kept b.read.last.state below) z (row_left carried'.kept carried'.held) carried'.learned d') (assoc m.more) m.ok;
          stop = ((λ e. absurd (not_err tt e)), (λ e. m.stop.1 (ap heard_of (assoc m.more) ∙ e)));
          undecided = tt;
          stays = tt;
        }

    join : (more : List Pulled) → Gives Anything tt more tt → Gives Anything tt (b.read.answers ++ more) tt
    join more g = anything (b.read.answers ++ more)

    read_on : RowsKnown (open_stripe h c segments) shape (rows_done (row + 1) carried' d') began (out ++ carried'.held.current)
    read_on = row_done Anything Anything tt tt tt tt tt h shape c segments row b.start carried' b.decoder d' (Some began) (Some out) b.read carried.kept b.offset_is b.previous_is join
        (Some (out ++ carried'.held.current)) decoded refl

    read_answers : read_on.answers ≡ b.read.answers ++ decoded.more
    unfolding read_on
    read_answers = row_done_answers Anything Anything tt tt tt tt tt h shape c segments row b.start carried' b.decoder d' (Some began) (Some out) b.read carried.kept b.offset_is b.previous_is join
        (Some (out ++ carried'.held.current)) decoded refl

    pub row_taken : PieceRowTaken (open_stripe h c segments) shape row (row_state_at carried' d' place' first1 marker1 p1) (handed began out text) p
    unfolding decoded
    row_taken =
        let m = passed (Ok tt) gave in
        let w = code_went standing failed s t first first1 marker marker1 p p1 left_s left_t first_s first_t marker_s marker_t fault_s so_far m.more text m.ok.stands.closed m.ok.stands.bytes m.gives
        code (λ st. not_err tt (m.stop.1 st)) in
        record { given = w.0; taken = w.1; read = read_on; code_is = subst (λ z. CodeText first1 marker1 z [] (text ++ w.0)) (assoc m.more ∙ sym read_answers) w.2 }

    pub row_unread : (standing s).waits ≡ true → (MarkerRead marker first → ⊥) → MarkerRead marker1 first1 → ⊥
    row_unread =
        let m = passed (Ok tt) gave in
        code_unread standing failed s t first first1 marker marker1 p p1 left_s left_t first_s first_t marker_s marker_t fault_s so_far m.more text m.ok.stands.closed m.ok.stands.bytes m.gives code
        (λ st. not_err tt (m.stop.1 st))

  -- ---- it stops

  module _ (result : Result (Unit {0}) Stop) (e : Stop) (is_stop : result ≡ Err e) (went : Passed result) where
    stop_gave : Passed (Err e)
    stop_gave = subst Passed is_stop went

    abbrev m : RowPasses (source_at (Pull standing failed) s so_far) (row_task shape carried.kept b.read.last.state below) (row_left carried'.kept carried'.held) place'
        (decoder_state t d' carried'.learned) (Err e)
    m = passed (Err e) stop_gave

    stopped : heard_of (so_far ++ m.more) ≡ Stopped
    stopped = m.stop.0 (is_err e)

    -- the rows before it are all that the bytes fix
    broken : CoderLaws → (bytes : List ℕ) (f : fault.Fault) → CodeBreaks text bytes (bytes_of (so_far ++ m.more)) f → (count : ℕ) → row ≤ count →
        RowBroken (open_stripe h c segments) count (handed began out text) bytes f
    broken q bytes f breaks count few =
        let run : BegunRun (open_stripe h c segments) count (bytes_of (b.read.answers ++ (b.since ++ m.more))) b.read.rows b.read.flags =
        rows_stop h c segments b.read.answers b.read.rows b.read.flags b.read.last b.read.so_far shape carried.kept carried'.kept below carried'.held carried'.learned d'
        (b.since ++ m.more) is_ready q count b.decoder (omega (arith, few, b.read.many)) b.read.stands
        (sym (ap heard_of (assoc m.more)) ∙ stopped) (subst (λ z. IsBytes (bytes_of z)) (assoc m.more) m.closed.1)
        (subst (λ z. IsPlace b.read.last.state.place → IsRowUndecided shape carried.kept b.read.last.state z below) (assoc m.more) m.undecided) b.read.unstopped in
        record {
          bytes = bytes_of (so_far ++ m.more);
          breaks = breaks;
          rows = b.read.rows;
          flags = b.read.flags;
          begun = subst (λ z. BegunRun (open_stripe h c segments) count (bytes_of z) b.read.rows b.read.flags) (sym (assoc m.more)) run;
          out_is = b.read.appended;
        }

    again : before_fault (so_far ++ m.more) ≡ b.read.answers ++ (b.since ++ before_fault m.more)
    again = again_right so_far m.more (was_going so_far m.more stopped b.unstopped) ∙ assoc (before_fault m.more)

    -- it waits for what follows
    waiting : carried'.kept ≡ carried.kept → marker1 ≡ None → (given : List ℕ) → p ≡ given ++ p1 → CodeOpen first1 (before_fault (so_far ++ m.more)) [] (text ++ given) →
        RowWaits (open_stripe h c segments) shape row (row_state_at carried' d' place' first1 marker1 p1) (handed began out text) p
    waiting kept_is unanswered given taken code_is = record {
      given = given;
      taken = taken;
      begun = record {
        start = b.start;
        decoder = b.decoder;
        read = b.read;
        since = b.since ++ before_fault m.more;
        unstopped = λ st. goes_on (ap heard_of (sym again)) code_is.going st;
        offset_is = ap (λ k. k.offset) kept_is ∙ b.offset_is;
        previous_is = ap (λ k. k.previous_typical) kept_is ∙ b.previous_is;
        stands = subst (λ z. StandsInRow (row_task shape z b.read.last.state below) place' (b.read.answers ++ (b.since ++ before_fault m.more)) carried'.held carried'.learned d') (sym kept_is)
            (subst (λ z. StandsInRow (row_task shape carried.kept b.read.last.state below) place' z carried'.held carried'.learned d') again m.waits);
      };
      code_is = subst (λ z. CodeText first1 z (b.read.answers ++ (b.since ++ before_fault m.more)) [] (text ++ given)) (sym unanswered)
          (subst (λ z. CodeOpen first1 z [] (text ++ given)) again code_is);
    } where
      goes_on : {x y : Heard} → x ≡ y → y ≡ More → x ≡ Stopped → ⊥
      goes_on a b' c' = let z : More ≡ Stopped = sym b' ∙ sym a ∙ c' in cc

    -- its code breaks, or its piece ends
    pub row_broken : (f : fault.Fault) → (standing t).fault ≡ Some f → CoderLaws → (count : ℕ) → row ≤ count → RowBroken (open_stripe h c segments) count (handed began out text) p f
    row_broken f is q count few =
        broken q p f (code_broke standing failed s t first first1 marker marker1 p p1 left_s left_t first_s first_t marker_s marker_t fault_s so_far m.more text m.closed.0 m.closed.1 m.gives code
        stopped f is) count few

    pub row_waits : (standing t).fault ≡ Some Truncated → carried'.kept ≡ carried.kept →
        RowWaits (open_stripe h c segments) shape row (row_state_at carried' d' place' first1 marker1 p1) (handed began out text) p × (first1 ≡ None) × (marker1 ≡ None)
    row_waits is kept_is =
        let w = code_waits standing failed s t first first1 marker marker1 p p1 left_s left_t first_s first_t marker_s marker_t fault_s so_far m.more text m.closed.0 m.closed.1 m.gives code stopped
        is in
        (waiting kept_is w.1 w.2.0 w.2.1 w.2.2, w.0, w.1)

    -- its end marker comes
    pub row_at_marker : (standing t).fault ≡ None → carried'.kept ≡ carried.kept → CoderLaws →
        ((standing s).waits ≡ true) × ((MarkerRead marker first → ⊥) → RowAtMarker (open_stripe h c segments) shape row (row_state_at carried' d' place' first1 marker1 p1) (handed began out text) p)
    unfolding waiting
    row_at_marker is kept_is q =
        let k = code_at_marker standing failed s t first first1 marker marker1 p p1 left_s left_t first_s first_t marker_s marker_t fault_s so_far m.more text m.closed.0 m.closed.1 m.gives code
        stopped is in (
          k.0,
          λ unread. let w = k.1 unread in record {
            waits = waiting kept_is w.unanswered w.waits.0 w.waits.1 w.waits.2;
            reset = w.reset;
            ahead = w.ahead;
            front = w.front;
            given_is = w.given_is;
            cut = broken q w.front Truncated w.breaks;
          },
        )
