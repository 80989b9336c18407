-- Rows that equal the one before them are decoded and written.
use Rattle.std.proofs.Common.{◌≡◌, ℕ, zero, suc, ◌+◌, ◌<◌, ◌≤◌, Bool, true, List, ◌++◌, length, refl, sym, ◌∙◌, ap, subst, arith, Option, length-append}
use Rattle.std.specs.Prelude.{replicate}
use Rattle.std.specs.List.{flat_map}
use Rattle.std.proofs.lemmas.Grind.{flat_map-append}
use Rattle.std.specs.Io.KnownBytes.{Appends}
use Rattle.qm_core.specs.Place.{Place, State, after, state_of}
use Rattle.qm_core.specs.Code.{wanted_bytes}
use Rattle.qm_core.specs.Source.{bytes_of, heard_of}
use Rattle.qm_core.specs.Skipping.{RunDecoded, WantsNone, bits_left, pixel_run}
use Rattle.qm_core.specs.Decoder.{DecoderIsAt}
use Rattle.qm_core.specs.declared.source.Pulled.{Pulled}
use Rattle.qm_core.specs.declared.source.Heard.TheVariants.{More}
use Rattle.qm_core.specs.declared.decoder.Decoder.{Decoder}
use Rattle.raster_core.specs.Lines.{Mode, pseudo_event}
use Rattle.raster_core.specs.Packed.{HasLines, packed_row}
use Rattle.raster_core.specs.Row.{again_event}
use Rattle.raster_core.specs.Window.{repeated, shape_mode}
use Rattle.raster_core.specs.declared.shape.Shape.{Shape}
use Rattle.t85_core.specs.Header.{Fields}
use Rattle.t85_core.specs.Grammar.{Segment}
use Rattle.t85_core.specs.Coding.{mode_of, move_of, flagged}
use Rattle.t85_core.specs.RowSink.{copies}
use Rattle.t85_core.specs.States.State.{RowStart, StripeStart, first_row_start, offset_at, stripe_coding}
use Rattle.t85_core.specs.States.Cut.{RowsSoFar, open_stripe}
use Rattle.t85_core.specs.States.DecodeRows.{IsShapeOf, IsCarried, RowsRead, Leads, rows_done}
use Rattle.t85_core.specs.Private.DecodeRows.{RowsRepeated, RepeatsRows}
use Rattle.t85_core.specs.Lent.{Carried}
use Rattle.t85_core.proofs.BytesJoin.CallsJoin.{Appends-more}
use Rattle.t85_core.proofs.BodiesDecode.TypicalRowsAreCopies.{behind, state_behind, above_behind, second_behind, previous_behind, offset_behind, run_behind, enough_behind, flat_copies}
use Rattle.t85_core.proofs.BodiesDecode.RunsGrow.{run_append, run_enough_append}

-- ---- they are decoded

module _ (shape : Shape) (move : Option (ℕ × ℕ)) (row count : ℕ) (carried carried' : Carried) (d d' : Decoder)
    (some : 1 ≤ count) (wide : carried.held.width ≡ shape.width)
    (was : (shape.typical ≡ true) × (carried.kept.previous_typical ≡ true))
    (skipped : (p : Place) (answers : List Pulled) → DecoderIsAt d p answers → RunDecoded (pixel_run d (state_of p carried.learned) (again_event shape) count) answers d' carried'.learned)
    (settled : (k o : ℕ) → row ≤ k → offset_at move k o ≡ o)
    (kept_is : carried'.kept ≡ carried.kept) (window_is : carried'.held ≡ repeated carried.held) where
  module _ (h : Fields) (c : StripeStart) (segments : List Segment) (answers : List Pulled) (rows : List (List Bool)) (flags : List Bool) (last : RowStart) (move_is : move ≡ move_of segments)
      (shape_is : IsShapeOf h shape)
      (so_far : RowsSoFar (open_stripe h c segments) answers rows flags last) (many : length rows ≡ row) (stands : DecoderIsAt d last.state.place answers) (is : IsCarried last carried) where
    previous : carried.kept.previous_typical ≡ true
    previous = was.1

    mode_typical : (mode_of h.options).typical ≡ true
    mode_typical = ap (λ z. z.typical) (sym shape_is.mode_is) ∙ was.0

    was_typical : last.previous ≡ true
    was_typical = sym is.previous_is ∙ previous

    as_wide : length last.above ≡ h.xd
    as_wide = is.lines_are.row_wide ∙ wide ∙ shape_is.width_is

    -- what was skipped, from the state that is looked up
    abbrev Skipped : State → Mode → Type 0
    Skipped s mode = RunDecoded (pixel_run d s (pseudo_event mode true true) count) answers d' carried'.learned

    all_skipped : Skipped last.state (mode_of h.options)
    all_skipped =
        let k = skipped last.state.place answers stands in
        subst (Skipped last.state) shape_is.mode_is (subst (λ l. Skipped (state_of last.state.place l) (shape_mode shape)) is.learned_is k)

    -- while the source has not ended, the bytes read were enough for each
    each_enough : heard_of answers ≡ More → (k : ℕ) → k < count →
        wanted_bytes (after last.state (replicate k (pseudo_event (mode_of h.options) true true))).place.doublings ≤ length (bytes_of answers)
    each_enough going k l =
        let s = after last.state (replicate k (pseudo_event (mode_of h.options) true true)) in
        subst (λ heard. WantsNone heard (bits_left (pixel_run d last.state (pseudo_event (mode_of h.options) true true) count) k) s.place.doublings (length (bytes_of answers))) going (all_skipped.ready k l)

    still_settled : (k o : ℕ) → 0 + length rows ≤ k → offset_at (move_of segments) k o ≡ o
    still_settled k o le = subst (λ z. offset_at z k o ≡ o) move_is (settled k o (omega (arith, le, many)))

    abbrev ends_at : RowStart
    ends_at = behind h.xd (mode_of h.options) (move_of segments) mode_typical (0 + length rows) last count

    state_is : ends_at.state ≡ after last.state (replicate count (pseudo_event (mode_of h.options) true true))
    state_is = state_behind h.xd (mode_of h.options) (move_of segments) mode_typical (0 + length rows) last count was_typical

    above_is : ends_at.above ≡ last.above
    above_is = above_behind h.xd (mode_of h.options) (move_of segments) mode_typical (0 + length rows) last count

    second_is : ends_at.second ≡ last.above
    second_is = second_behind h.xd (mode_of h.options) (move_of segments) mode_typical (0 + length rows) last count some

    lines_after : HasLines carried'.held (record { row = ends_at.above; above = ends_at.second; second = last.second })
    lines_after =
        let l = is.lines_are in
        subst (λ w. HasLines w (record { row = ends_at.above; above = ends_at.second; second = last.second })) (sym window_is)
        (subst (λ z. HasLines (repeated carried.held) (record { row = z; above = ends_at.second; second = last.second })) (sym above_is)
        (subst (λ z. HasLines (repeated carried.held) (record { row = last.above; above = z; second = last.second })) (sym second_is)
        (record { row_is = l.row_is; above_is = l.row_is; second_is = l.above_is; row_wide = l.row_wide; above_wide = l.row_wide; second_wide = l.above_wide })))

    pub rows_repeated : RowsRepeated (open_stripe h c segments) answers (flagged rows flags) last count (rows_done (row + count) carried' d')
    rows_repeated = record {
      last = ends_at;
      so_far = record {
        run = run_append (stripe_coding h segments) 0 (first_row_start c) rows flags last (replicate count last.above) (replicate count true) ends_at so_far.run
            (run_behind h.xd (mode_of h.options) (move_of segments) mode_typical (0 + length rows) last count as_wide);
        enough = λ going.
            run_enough_append (length (bytes_of answers)) (stripe_coding h segments) 0 (first_row_start c) rows flags last (replicate count last.above) (replicate count true) so_far.run
            (so_far.enough going)
            (enough_behind h.xd (mode_of h.options) (move_of segments) mode_typical (length (bytes_of answers)) (0 + length rows) last count was_typical (each_enough going));
      };
      many = omega (arith, many);
      stands = subst (λ z. DecoderIsAt d' z.place answers) (sym state_is) all_skipped.stands;
      is_carried = record {
        offset_is = ap (λ z. z.offset) kept_is ∙ is.offset_is ∙ sym (offset_behind h.xd (mode_of h.options) (move_of segments) mode_typical (0 + length rows) last count still_settled);
        previous_is = ap (λ z. z.previous_typical) kept_is ∙ previous ∙ sym (previous_behind h.xd (mode_of h.options) (move_of segments) mode_typical (0 + length rows) last count was_typical);
        learned_is = all_skipped.taught ∙ ap (λ z. z.learned) (sym state_is);
        third = last.second;
        lines_are = lines_after;
      };
    }

  pub repeats_rows : RepeatsRows shape move count (rows_done row carried d) (rows_done (row + count) carried' d')
  repeats_rows h c segments answers rows flags last move_is shape_is so_far many stands is = rows_repeated h c segments answers rows flags last move_is shape_is so_far many stands is

-- ---- and written

length_replicate : {X : Type 0} (n : ℕ) (x : X) → length (replicate n x) ≡ n
length_replicate zero x = refl
length_replicate (suc n) x = ap suc (length_replicate n x)

module _ {F : Type 0} (joined : F → Pulled → F → Type 0) (from at : F) (h : Fields) (shape : Shape) (c : StripeStart) (segments : List Segment) (row count : ℕ)
    (carried carried' : Carried) (d d' : Decoder) (began text : Option (List ℕ)) (r : RowsRead (Leads joined from at) (open_stripe h c segments) shape (rows_done row carried d) began text)
    (move : Option (ℕ × ℕ)) (move_is : move ≡ move_of segments) (repeats : RepeatsRows shape move count (rows_done row carried d) (rows_done (row + count) carried' d')) where
  abbrev all : RowsRepeated (open_stripe h c segments) r.answers (flagged r.rows r.flags) r.last count (rows_done (row + count) carried' d')
  all = repeats h c segments r.answers r.rows r.flags r.last move_is r.shape_is r.so_far r.many r.stands r.is_carried

  flat_is : flat_map packed_row (r.rows ++ replicate count r.last.above) ≡ flat_map packed_row r.rows ++ copies count carried.held.current
  flat_is =
      flat_map-append packed_row r.rows (replicate count r.last.above)
      ∙ ap (λ z. flat_map packed_row r.rows ++ z) (flat_copies count r.last.above ∙ ap (copies count) (sym r.is_carried.lines_are.row_is))

  pub repeated_read : (text' : Option (List ℕ)) → Appends text text' (copies count carried.held.current) →
      RowsRead (Leads joined from at) (open_stripe h c segments) shape (rows_done (row + count) carried' d') began text'
  repeated_read text' put = record {
    answers = r.answers;
    gives = r.gives;
    rows = r.rows ++ replicate count r.last.above;
    flags = r.flags ++ replicate count true;
    last = all.last;
    so_far = all.so_far;
    many = (let long = length-append r.rows (replicate count r.last.above) in let more = length_replicate count r.last.above in omega (arith, long, more, r.many));
    stands = all.stands;
    unstopped = r.unstopped;
    shape_is = r.shape_is;
    is_carried = all.is_carried;
    appended = subst (Appends began text') (sym flat_is) (Appends-more began text text' (flat_map packed_row r.rows) (copies count carried.held.current) r.appended put);
  }

  -- with the same answers
  pub repeated_answers : (text' : Option (List ℕ)) (put : Appends text text' (copies count carried.held.current)) → (repeated_read text' put).answers ≡ r.answers
  unfolding repeated_read
  repeated_answers text' put = refl
